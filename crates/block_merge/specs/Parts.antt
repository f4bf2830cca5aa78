-- What joining two blocks asks of them, and, for contracts of private functions alone, what the loops over blocks ask.
use Rattle.std.specs.Prelude.{◌≡◌, ◌≢◌, ◌<◌, ℕ, List, [], length, Some, sum_by}
use Rattle.el_base.specs.Limits.{IsNumbered}
use Rattle.ir.specs.declared.graph.Block.{Block}
use Rattle.ir.specs.declared.graph.Jump.{Jump}
use Rattle.ir.specs.declared.graph.Jump.TheVariants.{Go, Two, Return}
use Rattle.ir.specs.declared.graph.To.{To}
use Rattle.ir.specs.Graphs.{Graph, IsGraph, block_weight}
use Rattle.block_merge.specs.Renamed.{block_of}
use Rattle.block_merge.specs.Joined.{values_of, next_in_row}
use Rattle.block_merge.specs.Merged.{with_blocks}
use Rattle.block_merge.specs.Moves.{StepsAreMovable, JumpIsMovable}

-- blocks of a well formed graph, whose values a u32 can number
pub record AreBlocks (bs : List Block) : Type 0 where
  pub graph : Graph
  pub fine : IsGraph (with_blocks graph bs)
  pub small : IsNumbered (sum_by block_weight bs)

-- what a jump without a condition hands on
abbrev pub given_on : Jump → List ℕ
given_on (Go to) = to.with
given_on (Two c yes_part no_part) = []
given_on (Return v) = []

-- the values of both blocks can be numbered
pub record CanBeJoined (b c : Block) : Type 0 where
  pub few : IsNumbered (values_of b)
  pub steps : StepsAreMovable (record { args = given_on b.jump; steps = values_of b }) c.steps
  pub jump : JumpIsMovable (record { args = given_on b.jump; steps = values_of b }) c.jump

-- block k can take in the next block of its row
pub record TakesIn (bs : List Block) (k next : ℕ) : Type 0 where
  pub to : To
  pub is_next : next_in_row bs k ≡ Some to
  pub number : to.block ≡ next
  pub goes : given_on (block_of bs k).jump ≡ to.with
  pub within : k < length bs
  pub next_within : next < length bs
  pub other : k ≢ next
  pub few : IsNumbered next
  pub joinable : CanBeJoined (block_of bs k) (block_of bs next)
