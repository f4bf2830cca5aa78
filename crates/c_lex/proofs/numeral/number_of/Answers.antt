use Rattle.c_lex.proofs.Numerals.{digits_pass_at}
use Rattle.c_lex.proofs.numeral.number_of.Goals as goal

pub value_of-requires-clause-digits : goal.value_of-requires-clause-digits
value_of-requires-clause-digits c = digits_pass_at c.args.token.now _ _ c.digits_of.ensures.digits c.base_of-base.ensures.base
