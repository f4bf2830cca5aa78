use Rattle.c_calls.proofs.WorkedCalls.{ends_with_fifteen, has_two_blocks, has_its_nodes, local_is_unset, ends_with_zero, is_out_of_turns}
use Rattle.c_calls.proofs.laws.calls_are_worked.Goals as goal

pub returns : goal.returns
returns c = record {
  nested = ends_with_fifteen;
  blocks = has_two_blocks;
  nodes = has_its_nodes;
  local = local_is_unset;
  turns = ends_with_zero;
  bound = is_out_of_turns;
}
