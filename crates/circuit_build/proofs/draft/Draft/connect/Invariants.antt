use Rattle.std.proofs.Common.{◌≡◌, drop}
use Rattle.circuit_build.specs.Edges.{edges_laid, connected}
use Rattle.circuit_build.proofs.draft.Draft.connect.Given as goal

abbrev pub invariant-loop-edge : goal.invariant-loop-edge
invariant-loop-edge l = edges_laid l.seen (drop l.edge-index l.edge-items) l.self ≡ connected l.targets l.fn.self
