use Rattle.std.proofs.Common.{ℕ, ◌<◌, None, IsSome, get_or}
use Rattle.net_worker.proofs.worker.Worker.has_takes.Given as goal

abbrev pub invariant-loop-chan : goal.invariant-loop-chan
invariant-loop-chan l = (k : ℕ) → k < l.chan-index → IsSome (get_or l.self.takes.items (get_or l.self.ins.items k 0) None)
