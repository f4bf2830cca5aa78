-- Private: only contracts of private functions cite it. Blocks whose values can be numbered when they are made anew.
use Rattle.std.specs.Prelude.{◌≡◌, ◌≤◌, ◌<◌, ℕ, List, length, Some}
use Rattle.ir.specs.declared.graph.Block.{Block}
use Rattle.ir.specs.declared.graph.Jump.TheVariants.{Go, Two}
use Rattle.ir.specs.declared.graph.To.{To}
use Rattle.ir.specs.Graphs.{Graph, IsGraph, block_weight}
use Rattle.block_merge.specs.Renamed.{block_of}
use Rattle.block_merge.specs.Merged.{with_blocks}
use Rattle.block_merge.specs.Parts.{CanBeJoined}
use Rattle.block_select.specs.declared.arms.Way.{Way}
use Rattle.block_select.specs.declared.arms.Way.TheVariants.{Direct, ByArm}
use Rattle.block_select.specs.declared.arms.Meeting.{Meeting}
use Rattle.block_select.specs.Arms.{meeting}

-- blocks of a well formed graph, none of which is heavy
pub record AreLight (bs : List Block) : Type 0 where
  pub graph : Graph
  pub fine : IsGraph (with_blocks graph bs)
  pub light : (n : ℕ) → block_weight (block_of bs n) ≤ 8000000

-- a block can take in the arm, where its way is by one
abbrev pub CanGoAlong : List Block → Block → To → Way → Type 0
CanGoAlong bs b to Direct = Unit {0}
CanGoAlong bs b to ByArm = (to.block < length bs) × CanBeJoined (record { args = b.args; steps = b.steps; jump = Go to }) (block_of bs to.block)

-- block k has that condition, and there its sides meet
pub record SidesMeet (bs : List Block) (k c : ℕ) (yes_part no_part : To) (m : Meeting) : Type 0 where
  pub blocks : AreLight bs
  pub within : k < length bs
  pub decides : (block_of bs k).jump ≡ Two c yes_part no_part
  pub meets : meeting bs k yes_part no_part ≡ Some m
