-- If-conversion: a block whose sides only compute before they meet makes the steps of both, and chooses by its condition.
use Rattle.std.specs.Prelude.{ℕ, zero, suc, nat_le, cond, List, [], ◌++◌, map, length, set}
use Rattle.std.specs.Option.{option_map_or}
use Rattle.ir.specs.declared.graph.Block.{Block}
use Rattle.ir.specs.declared.graph.Jump.{Jump}
use Rattle.ir.specs.declared.graph.Jump.TheVariants.{Go, Two, Return}
use Rattle.ir.specs.declared.graph.To.{To}
use Rattle.ir.specs.Graphs.{Graph, block_weight}
use Rattle.block_merge.specs.Renamed.{block_of}
use Rattle.block_merge.specs.Joined.{values_of, joined}
use Rattle.block_merge.specs.Merged.{with_blocks}
use Rattle.block_merge.specs.Parts.{given_on}
use Rattle.block_select.specs.declared.arms.Way.{Way}
use Rattle.block_select.specs.declared.arms.Way.TheVariants.{Direct, ByArm}
use Rattle.block_select.specs.declared.arms.Meeting.{Meeting}
use Rattle.block_select.specs.Arms.{meeting}
use Rattle.block_select.specs.Choices.{choices, chosen_values, select_of}

-- the block where it leads along one side alone, with the arm taken in where it leads by one
abbrev pub along : List Block → Block → To → Way → Block
along bs b to Direct = record { args = b.args; steps = b.steps; jump = Go to }
along bs b to ByArm = joined b to.with (block_of bs to.block)

-- a block with the steps of both sides, which hand on xs and ys: it chooses by value c, and leads to block j, whose arguments have these widths
abbrev pub choosing : Block → ℕ → ℕ → List ℕ → List ℕ → List ℕ → Block
choosing b c j ws xs ys =
    let cs = choices ws xs ys [] in
    record {
      args = b.args;
      steps = b.steps ++ map (select_of c) cs;
      jump = Go (record { block = j; with = chosen_values (values_of b) cs ws xs ys });
    }

-- block b with condition c, which leads to the block where both sides meet: the steps of the second arm stand behind those of the first
abbrev pub selected_block : List Block → Block → ℕ → To → To → Meeting → Block
selected_block bs b c yes_part no_part m =
    let first = along bs b yes_part m.yes in
    let both = along bs first no_part m.no in
    choosing both c m.block (block_of bs m.block).args (given_on first.jump) (given_on both.jump)

-- block k made anew, where it weighs no more than that
abbrev pub with_light : ℕ → List Block → ℕ → Block → List Block
with_light most bs k b = cond (nat_le (block_weight b) most) (set bs k b) bs

abbrev pub selected_by : ℕ → List Block → ℕ → Jump → List Block
selected_by most bs k (Go to) = bs
selected_by most bs k (Two c yes_part no_part) =
    option_map_or (λ m. with_light most bs k (selected_block bs (block_of bs k) c yes_part no_part m)) (meeting bs k yes_part no_part) bs
selected_by most bs k (Return v) = bs

-- block k, where its sides meet and it stays light
abbrev pub selected_at : ℕ → List Block → ℕ → List Block
selected_at most bs k = selected_by most bs k (block_of bs k).jump

-- so each of n blocks from block k on, one after the other
abbrev pub selected_blocks : ℕ → ℕ → List Block → ℕ → List Block
selected_blocks most zero bs k = bs
selected_blocks most (suc n) bs k = selected_blocks most n (selected_at most bs k) (suc k)

abbrev pub selected : ℕ → Graph → Graph
selected most g = with_blocks g (selected_blocks most (length g.blocks) g.blocks 0)
