-- What becomes of a graph over variables whose blocks get the variables that are live at them.
use Rattle.std.specs.Prelude.{◌≡◌, ◌<◌, ◌+◌, ℕ, List, map, length, get_or, slice_get, sum_by, Some, All}
use Rattle.std.specs.List.{Contains}
use Rattle.ir.specs.declared.graph.Block.{Block}
use Rattle.ir.specs.Graphs.{Graph}
use Rattle.ir.specs.Variables.{VarGraph}
use Rattle.block_args.specs.Live.{Live}
use Rattle.block_args.specs.Tables.{AreAscending, ListsLive}
use Rattle.block_args.specs.Arguments.{argued}

-- the variables, the blocks and the steps of a graph, counted together
abbrev pub parts : VarGraph → ℕ
parts g = length g.vars + length g.blocks + sum_by (λ b. length b.steps) g.blocks

-- the graph over arguments of the table that lists the live variables of each block
pub record IsArgued (c : VarGraph) (g : Graph) : Type 0 where
  pub table : List (List ℕ)
  pub lists : ListsLive c table
  pub is : g ≡ argued c table

-- one argument for each variable that is live at the block, in order, of the variable's width
pub record AreLiveArgs (c : VarGraph) (b : ℕ) (args : List ℕ) : Type 0 where
  pub vars : List ℕ
  pub ascending : AreAscending vars
  pub live : All (Live c b) vars
  pub all : (v : ℕ) → Live c b v → Contains vars v
  pub widths : args ≡ map (λ v. get_or c.vars v 0) vars

-- so it is at each block but block 0
pub record HasLiveArgs (c : VarGraph) (g : Graph) : Type 0 where
  pub each : (b : ℕ) (x : Block) → 0 < b → slice_get g.blocks b ≡ Some x → AreLiveArgs c b x.args
