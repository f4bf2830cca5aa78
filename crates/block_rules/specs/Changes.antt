-- What a change of a step says as a rewriting.
use Rattle.std.specs.Prelude.{[], ◌∷◌}
use Rattle.block_rules.specs.declared.change.Change.{Change}
use Rattle.block_rules.specs.declared.change.Change.TheVariants.{Stays, Is, Becomes, BecomesTwo}
use Rattle.block_rules.specs.declared.rewriting.Rewriting.{Rewriting}
use Rattle.block_rules.specs.declared.rewriting.Rewriting.TheVariants.{Kept, Value, Steps}

abbrev pub rewriting_of : Change → Rewriting
rewriting_of Stays = Kept
rewriting_of (Is v) = Value v
rewriting_of (Becomes i) = Steps (i ∷ [])
rewriting_of (BecomesTwo i j) = Steps (i ∷ j ∷ [])
