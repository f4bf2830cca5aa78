use Rattle.std.proofs.Common.{sym, ap, ◌∙◌, option_map}
use Rattle.std.specs.Prelude.{◌==◌}
use Rattle.std.specs.Cmp.Lexicographic.{pointwise}
use Rattle.c_lex.specs.Turns.{numeral_of}
use Rattle.c_lex.proofs.Searches.{lookup-map}
use Rattle.c_lex.proofs.define.Defines.number_for.Goals as goal

pub returns : goal.returns
returns c = ap (option_map numeral_of) c.get.ensures.value ∙ sym (lookup-map (pointwise ◌==◌ c.args.name.now) numeral_of c.args.self.now.numbers.entries)
