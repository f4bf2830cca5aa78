use Rattle.std.proofs.Common.{true, [], subst}
use Rattle.c_ast.specs.Tokens.{Lexed}
use Rattle.c_lex.specs.Refusals.{end_of}
use Rattle.c_lex.proofs.Determined.{says_ok, says_err}
use Rattle.c_lex.proofs.lexer.lex_text.Goals as goal

pub returns-in-Some : goal.returns-in-Some
returns-in-Some c = says_err c.args.bytes.now c.in_ok-plain.plain.text c.in_ok-reading.reading.tokens (end_of c.in_ok-plain.plain.broken) (end_of c.in_ok-reading.reading.broken) c.in-Some.broken c.of.result
    c.in_ok-plain.ensures.blanked (subst (λ t. Lexed c.args.bytes.now 0 true [] t c.in_ok-reading.reading.tokens (end_of c.in_ok-reading.reading.broken)) c.as_slice.ensures c.in_ok-reading.ensures) c.in-Some.ensures c.of.ensures

pub returns : goal.returns
returns c = says_ok c.args.bytes.now c.in_ok-plain.plain.text c.in_ok-reading.reading.tokens (end_of c.in_ok-plain.plain.broken) (end_of c.in_ok-reading.reading.broken)
    c.in_ok-plain.ensures.blanked (subst (λ t. Lexed c.args.bytes.now 0 true [] t c.in_ok-reading.reading.tokens (end_of c.in_ok-reading.reading.broken)) c.as_slice.ensures c.in_ok-reading.ensures) c.in-None.ensures
