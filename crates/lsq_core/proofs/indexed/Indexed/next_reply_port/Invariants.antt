use Rattle.std.proofs.Common.{◌≤◌, ◌-◌}
use Rattle.lsq_core.specs.declared.entry.PortAct.TheVariants as port
use Rattle.lsq_core.proofs.PortLemmas.{NonePast}
use Rattle.lsq_core.proofs.indexed.Indexed.next_reply_port.Given as goal

abbrev pub invariant-loop-row : goal.invariant-loop-row
invariant-loop-row l = record {
  lower : l.from ≤ l.at;
  none : NonePast port.Reply l.self.queue.items l.from l.at;
}

abbrev pub decreases-loop-row : goal.decreases-loop-row
decreases-loop-row l = l.ports - l.at
