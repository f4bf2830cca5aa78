use Rattle.std.proofs.Common.{◌-◌}
use Rattle.lsq_core.specs.Acts.{waiting}
use Rattle.lsq_core.specs.Wants.{NoneAbove}
use Rattle.lsq_core.proofs.entries.Entries.source.Given as goal

abbrev pub invariant-loop-past : goal.invariant-loop-past
invariant-loop-past l = NoneAbove (waiting l.load) l.self.queue.items (l.len - l.past)
