use Rattle.std.proofs.Common.{refl}
use Rattle.c_meaning.proofs.TreeRows.{typed_rows}
use Rattle.c_meaning.proofs.worked_laws.turns_are_worked.Goals as goal

pub returns : goal.returns
unfolding typed_rows
returns c = record {
  target = record { bound = 3; all_turns = refl; arrays = refl; result = refl };
  operand = record { bound = 3; all_turns = refl; arrays = refl; result = refl };
  index = record { bound = 3; all_turns = refl; arrays = refl; result = refl };
  leaving = record { bound = 3; all_turns = refl; arrays = refl; result = refl };
}
