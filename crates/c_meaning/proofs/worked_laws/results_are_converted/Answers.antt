use Rattle.std.proofs.Common.{refl}
use Rattle.c_meaning.proofs.TreeRows.{typed_rows}
use Rattle.c_meaning.proofs.worked_laws.results_are_converted.Goals as goal

pub returns : goal.returns
unfolding typed_rows
returns c = record {
  old_value = record { bound = 3; all_turns = refl; arrays = refl; result = refl };
  result = record { bound = 3; all_turns = refl; arrays = refl; result = refl };
  shift = record { bound = 3; all_turns = refl; arrays = refl; result = refl };
  wrapped_sum = record { bound = 2; all_turns = refl; arrays = refl; result = refl };
  wrapped_shift = record { bound = 2; all_turns = refl; arrays = refl; result = refl };
  quotient = refl;
}
