use Rattle.std.proofs.Common.{ℕ, ◌<◌, None, IsSome, get_or}
use Rattle.net_worker.proofs.worker.Worker.has_puts.Given as goal

abbrev pub invariant-loop-chan : goal.invariant-loop-chan
invariant-loop-chan l = (k : ℕ) → k < l.chan-index → IsSome (get_or l.self.puts.items (get_or l.self.outs.items k 0) None)
