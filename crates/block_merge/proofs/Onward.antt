-- Where blocks only lead on whose edges are held apart.
use Rattle.std.proofs.Common.{◌≡◌, ℕ, ◌<◌, ◌≤◌, List, length, get_or, None, refl}
use Rattle.std.proofs.lemmas.Option.{slice_get_read, slice_get_past}
use Rattle.ir.specs.declared.graph.Block.{Block}
use Rattle.block_merge.specs.declared.edges.OutEdges.{OutEdges}
use Rattle.block_merge.specs.Threaded.{onward_of_parts, only_onward}
use Rattle.block_merge.specs.OutEdges.{jump_along, with_edges}
use Rattle.block_merge.proofs.WithEdges.{onward_at, onward_past, onward_without}

pub onward_here : (bs : List Block) (ess : List OutEdges) (k : ℕ) (b : Block) (es : OutEdges) → k < length bs → k < length ess → b ≡ get_or bs k b → es ≡ get_or ess k es
    → only_onward (with_edges bs ess) k ≡ onward_of_parts k (length b.args) b.steps (jump_along es b.jump)
onward_here bs ess k b es l m p q =
    onward_at bs ess k b es (slice_get_read bs (length bs) k b refl l p) (slice_get_read ess (length ess) k es refl m q)

pub past_blocks : (bs : List Block) (ess : List OutEdges) (k : ℕ) → length bs ≤ k → only_onward (with_edges bs ess) k ≡ None
past_blocks bs ess k le = onward_past bs ess k (slice_get_past bs k le)

pub past_edges : (bs : List Block) (ess : List OutEdges) (k : ℕ) → length ess ≤ k → only_onward (with_edges bs ess) k ≡ None
past_edges bs ess k le = onward_without bs ess k (slice_get_past ess k le)
