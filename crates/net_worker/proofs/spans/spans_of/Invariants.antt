use Rattle.std.proofs.Common.{◌≡◌, ℕ, ◌<◌, length, get_or}
use Rattle.el_base.specs.Limits.{max_workers}
use Rattle.net_worker.specs.Spans.{nowhere, IsWithin}
use Rattle.net_worker.proofs.spans.spans_of.Given as goal

abbrev pub invariant-loop-unit : goal.invariant-loop-unit
invariant-loop-unit l = record {
  long : length l.spans.items ≡ max_workers;
  within : (u : ℕ) → u < l.unit → IsWithin u (get_or l.spans.items (get_or l.fn.owners u 0) nowhere);
}
