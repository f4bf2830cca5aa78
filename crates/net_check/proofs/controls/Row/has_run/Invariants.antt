use Rattle.std.proofs.Common.{◌≡◌, ℕ, ◌+◌, ◌-◌}
use Rattle.net_types.specs.Tables.{spots}
use Rattle.net_check.specs.private.Steers.{agrees, marks}
use Rattle.net_check.proofs.controls.Row.has_run.Given as goal

abbrev pub invariant-loop-i : goal.invariant-loop-i
invariant-loop-i l = (w : ℕ) → agrees (marks l.self) (spots l.first w l.ctl l.count) ≡ agrees (marks l.self) (spots (l.first + l.i) w l.ctl (l.count - l.i))
