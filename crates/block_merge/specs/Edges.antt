-- Private: only contracts of private functions cite it. Edges that are counted up to one.
use Rattle.std.specs.Prelude.{◌≡◌, ℕ, zero, suc, List, [], ◌∷◌, length, get_or, set}
use Rattle.ir.specs.declared.graph.Block.{Block}
use Rattle.ir.specs.declared.graph.Jump.{Jump}
use Rattle.ir.specs.declared.graph.Jump.TheVariants.{Go, Two, Return}
use Rattle.ir.specs.declared.graph.To.{To}
use Rattle.block_merge.specs.declared.joining.Edges.{Edges}
use Rattle.block_merge.specs.declared.joining.Edges.TheVariants.{Zero, One, More}
use Rattle.block_merge.specs.Joined.{edges_to}

abbrev pub more_edges : Edges → Edges
more_edges Zero = One
more_edges One = More
more_edges More = More

abbrev pub counted_edge : List Edges → To → List Edges
counted_edge es t = set es t.block (more_edges (get_or es t.block Zero))

abbrev pub counted_jump : List Edges → Jump → List Edges
counted_jump es (Go t) = counted_edge es t
counted_jump es (Two c yes_part no_part) = counted_edge (counted_edge es yes_part) no_part
counted_jump es (Return v) = es

abbrev pub counted_all : List Edges → List Block → List Edges
counted_all es [] = es
counted_all es (b ∷ bs) = counted_all (counted_jump es b.jump) bs

-- so many edges
abbrev pub many_edges : ℕ → Edges
many_edges zero = Zero
many_edges (suc zero) = One
many_edges (suc (suc n)) = More

pub record CountsEdges (bs : List Block) (counts : List Edges) : Type 0 where
  pub long : length counts ≡ length bs
  pub each : (c : ℕ) → get_or counts c Zero ≡ many_edges (edges_to bs c)
