-- How many edges each target has, and the channels of edges, which are laid last: to the head of the target, at the inputs of the edge's number there.
use Rattle.std.specs.Prelude.{ℕ, zero, suc, ◌+◌, List, [], ◌∷◌, ◌++◌, get_or, set, length, true}
use Rattle.ir.specs.declared.graph.Block.{Block}
use Rattle.ir.specs.declared.graph.Jump.{Jump}
use Rattle.ir.specs.declared.graph.Jump.TheVariants.{Go, Two, Return}
use Rattle.net_types.specs.Nets.{at}
use Rattle.circuit_build.specs.declared.draft.Draft.{Draft}
use Rattle.circuit_build.specs.declared.draft.Edge.{Edge}
use Rattle.circuit_build.specs.declared.draft.End.{End}
use Rattle.circuit_build.specs.Drafts.{number, plus, with_chan, fed}
use Rattle.circuit_build.specs.Uses.{zeros}

-- ---- counts of edges by target; the return join is the target after the blocks

-- one more for a target
abbrev pub raised : ℕ → List ℕ → List ℕ
raised t table = set table t (plus (get_or table t 0) 1)

abbrev pub sides_counted : ℕ → Jump → List ℕ → List ℕ
sides_counted join (Go to) table = raised to.block table
sides_counted join (Two c yes_part no_part) table = raised no_part.block (raised yes_part.block table)
sides_counted join (Return v) table = raised join table

abbrev pub jumps_counted : ℕ → List Block → List ℕ → List ℕ
jumps_counted join [] table = table
jumps_counted join (b ∷ bs) table = jumps_counted join bs (sides_counted join b.jump table)

-- the entry is an edge to block 0
abbrev pub edge_counts : List Block → List ℕ
edge_counts bs = jumps_counted (number (length bs)) bs (raised 0 (zeros (length bs + 1)))

-- ---- channels

-- each value goes to the input of a mux of its own; these stand in a row
abbrev pub data_laid : ℕ → ℕ → List End → Draft → Draft
data_laid mux place [] d = d
data_laid mux place (e ∷ es) d = data_laid (plus mux 1) place es (fed e mux place d)

-- the edge of number j at a head; of a target without a merge all is laid
abbrev pub edge_at : ℕ → ℕ → Edge → Draft → Draft
edge_at zero j e d = d
edge_at (suc h) j e d = data_laid (plus (suc h) 2) (plus j 1) e.with (with_chan e.control (at (suc h) j) 32 true d)

abbrev pub edge_laid : ℕ → Edge → Draft → Draft
edge_laid j e d = edge_at (get_or d.heads e.to 0) j e d

-- seen: how many edges of each target are laid
abbrev pub edges_laid : List ℕ → List Edge → Draft → Draft
edges_laid seen [] d = d
edges_laid seen (e ∷ es) d = edges_laid (raised e.to seen) es (edge_laid (get_or seen e.to 0) e d)

-- all edges, of so many targets
abbrev pub connected : ℕ → Draft → Draft
connected targets d = edges_laid (zeros targets) d.edges (record d { edges = [] })
