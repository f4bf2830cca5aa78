use Rattle.std.proofs.Common.{refl}
use Rattle.c_meaning.proofs.TreeRows.{all_rows}
use Rattle.c_meaning.proofs.worked_laws.counts_are_worked.Goals as goal

pub returns : goal.returns
unfolding all_rows
returns c = record {
  left_shift = record { bound = 30; over = tt; all_jumps = refl; whole_price = refl };
  right_shift = record { bound = 30; over = tt; all_jumps = refl; whole_price = refl };
  sum = record { bound = 30; over = tt; all_jumps = refl; whole_price = refl };
  both = record { bound = 30; over = tt; all_jumps = refl; whole_price = refl };
  either = record { bound = 30; over = tt; all_jumps = refl; whole_price = refl };
  choice = record { bound = 30; over = tt; all_jumps = refl; whole_price = refl };
  cast = record { bound = 30; over = tt; all_jumps = refl; whole_price = refl };
  element = record { bound = 30; over = tt; all_jumps = refl; whole_price = refl };
  target = record { bound = 30; over = tt; all_jumps = refl; whole_price = refl };
  declaration = record { bound = 30; over = tt; all_jumps = refl; whole_price = refl };
  if_statement = record { bound = 30; over = tt; all_jumps = refl; whole_price = refl };
  for_loop = record { bound = 30; over = tt; all_jumps = refl; whole_price = refl };
  do_loop = record { bound = 30; over = tt; all_jumps = refl; whole_price = refl };
  leaving = record { bound = 30; over = tt; all_jumps = refl; whole_price = refl };
  continuing = record { bound = 30; over = tt; all_jumps = refl; whole_price = refl };
  absent_condition = record { bound = 30; over = tt; all_jumps = refl; whole_price = refl };
  returning = record { bound = 30; over = tt; all_jumps = refl; whole_price = refl };
}
