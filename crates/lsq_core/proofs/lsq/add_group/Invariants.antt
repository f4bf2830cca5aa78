use Rattle.std.proofs.Common.{◌≡◌, ◌+◌, ◌++◌, take}
use Rattle.lsq_core.specs.Acts.{fresh}
use Rattle.lsq_core.proofs.lsq.add_group.Given as goal

abbrev pub invariant-loop-port : goal.invariant-loop-port
invariant-loop-port l = record {
  items : l.entries.queue.items ≡ l.initial.entries.queue.items ++ fresh l.initial.entries.queue.next l.ports (take l.port-index l.group);
  mark : l.entries.queue.forward ≡ l.initial.entries.queue.forward;
  next : l.entries.queue.next ≡ l.initial.entries.queue.next + l.port-index;
  depth : l.entries.depth ≡ l.initial.entries.depth;
  ports : l.entries.ports ≡ l.initial.entries.ports;
}
