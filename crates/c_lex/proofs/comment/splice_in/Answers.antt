use Rattle.std.proofs.Common.{ap, sym, ◌∙◌, ◌+◌, arith, take_all}
use Rattle.c_ast.specs.Pieces.{first_place, splices}
use Rattle.c_ast.specs.Tokens.{splice_in}
use Rattle.c_lex.proofs.comment.splice_in.Goals as goal

pub returns-else-len-text-clause-place : goal.returns-else-len-text-clause-place
unfolding splice_in
returns-else-len-text-clause-place c = c.first_splice-else-len-text.ensures.place ∙ ap (first_place splices) (sym (take_all (c.args.len + 1) c.args.text.now (omega (arith, c.if-len-text.false))))
