use Rattle.std.proofs.Common.{◌≡◌, ◌+◌, take}
use Rattle.lsq_core.proofs.lsq.fill.Given as goal

abbrev pub invariant-loop-entry : goal.invariant-loop-entry
invariant-loop-entry l = record {
  items : l.entries.queue.items ≡ take l.entry-index l.list;
  mark : l.entries.queue.forward ≡ l.initial.entries.queue.forward;
  next : l.entries.queue.next ≡ l.initial.entries.queue.next + l.entry-index;
  depth : l.entries.depth ≡ l.initial.entries.depth;
  ports : l.entries.ports ≡ l.initial.entries.ports;
}
