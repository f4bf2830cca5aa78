use Rattle.std.proofs.Common.{◌≡◌, ℕ, ◌+◌, drop}
use Rattle.net_types.specs.Tables.{port_outs}
use Rattle.net_check.specs.private.Steers.{agrees, marks}
use Rattle.net_check.proofs.controls.Row.has_values.Given as goal

abbrev pub invariant-loop-port : goal.invariant-loop-port
invariant-loop-port l = record {
  rest : (w : ℕ) → agrees (marks l.self) (port_outs l.first w l.ports) ≡ agrees (marks l.self) (port_outs l.place w (drop l.port-index l.ports));
  place : l.place ≡ l.first + l.port-index;
}
