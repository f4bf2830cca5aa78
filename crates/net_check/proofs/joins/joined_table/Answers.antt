use Rattle.net_check.proofs.AloneLemmas.{when_true, joined_by}
use Rattle.net_check.proofs.joins.joined_table.Goals as goal

pub returns-then-are_met : goal.returns-then-are_met
returns-then-are_met c = record {
  table = c.in_ok-wires.ensures;
  joined = joined_by c.args.side c.args.net.now c.as_slice.result.now c.as_slice.ensures c.requires.ends (when_true _ _ c.are_alone.ensures c.if-are_alone.true) (when_true _ _ c.are_met.ensures c.if-are_met.true);
}
