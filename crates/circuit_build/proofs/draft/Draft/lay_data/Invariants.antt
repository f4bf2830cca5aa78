use Rattle.std.proofs.Common.{◌≡◌, drop}
use Rattle.circuit_build.specs.Edges.{data_laid}
use Rattle.circuit_build.proofs.draft.Draft.lay_data.Given as goal

abbrev pub invariant-loop-end : goal.invariant-loop-end
invariant-loop-end l = data_laid l.mux l.place (drop l.end-index l.ends) l.self ≡ data_laid l.fn.mux l.place l.ends l.initial.self
