use Rattle.c_calls.proofs.WorkedLawful.{twice_is_lawful, call_in_a_side, read_behind_its_block}
use Rattle.c_calls.proofs.laws.programs_are_lawful.Goals as goal

pub returns : goal.returns
returns c = record {
  lawful = twice_is_lawful;
  side = call_in_a_side;
  scope = read_behind_its_block;
}
