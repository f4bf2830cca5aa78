use Rattle.std.proofs.Common.{Ok, take}
use Rattle.row_fields.specs.Numbers.{AreValues}
use Rattle.row_fields.proofs.numbers.numbers_of.Given as goal

abbrev pub invariant-loop-word : goal.invariant-loop-word
invariant-loop-word g l = AreValues (λ word value. g.T.FromStr.from_str_gives word (Ok value)) (take l.word-index l.words) l.values.items
