use Rattle.std.proofs.Common.{length, arith}
use Rattle.c_lex.proofs.Searches.{rest_le}
use Rattle.c_lex.proofs.Numerals.{defined_identifier}
use Rattle.c_lex.proofs.directive.define_of.Goals as goal

pub returns-in-Some-clause-fits : goal.returns-in-Some-clause-fits
returns-in-Some-clause-fits c =
    let tail = c.after_blanks-tail.ensures.within in
    let number = rest_le c.after_blanks-number.result.now (length c.number_token-spelling.result.now) in
    let after = c.after_blanks-number.ensures.within in
    let text = rest_le c.args.text.now (length c.word_of-name.result.now) in (
      omega (arith, c.requires, tail, number, after, text),
      omega arith,
      omega (arith, c.requires, c.word_of-name.ensures.within),
      defined_identifier c.args.text.now c.word_of-name.result.now _ _ c.word_of-name.ensures.word c.if-not-is_definition.ensures,
    )
