-- What the passes make of a merged graph, one after another. Where that is past a bound that a circuit and its runs keep, it is the merged
-- graph itself: so no pass needs a law about weights.
use Rattle.std.specs.Prelude.{ℕ, ◌*◌, ◌&&◌, nat_le, Bool, cond, List, [], ◌∷◌, Option, Some, None}
use Rattle.std.specs.List.{list_all}
use Rattle.std.specs.Option.{option_map_or}
use Rattle.ir.specs.declared.graph.Block.{Block}
use Rattle.ir.specs.Accesses.{accesses_in}
use Rattle.ir.specs.Graphs.{Graph, block_weight, size}
use Rattle.block_copy.specs.Copied.{copied}
use Rattle.block_fold.specs.Folded.{folded}
use Rattle.block_merge.specs.Merged.{merged}
use Rattle.block_select.specs.Selected.{selected}
use Rattle.kernel_graph.specs.declared.passes.Pass.{Pass}
use Rattle.kernel_graph.specs.declared.passes.Pass.TheVariants.{Fold, Merge, Select, Copy}

-- what a pass makes of a graph; most is the greatest weight of a block with choices or copies
abbrev pub pass_of : ℕ → Pass → Graph → Graph
pass_of most Fold g = folded g
pass_of most Merge g = merged g
pass_of most Select g = selected most g
pass_of most Copy g = copied most g

-- the passes one after another, or nothing where one would begin with a graph of a size past 8,000,000
abbrev pub after_passes : ℕ → List Pass → Graph → Option Graph
after_passes most [] g = Some g
after_passes most (p ∷ ps) g = cond (nat_le (size g) 8000000) (after_passes most ps (pass_of most p g)) None

abbrev pub pass_order : List Pass
pass_order = Fold ∷ Merge ∷ Select ∷ Copy ∷ Merge ∷ Fold ∷ Select ∷ Merge ∷ Fold ∷ Merge ∷ []

-- the block weighs at most so much, and has at most 1,024 accesses
abbrev pub is_light : ℕ → Block → Bool
is_light most b = nat_le (block_weight b) most && nat_le (accesses_in b.steps) 1024

-- each block is light, and the size is at most 8,000,000
abbrev pub is_within : ℕ → Graph → Bool
is_within most g = list_all (is_light most) g.blocks && nat_le (size g) 8000000

-- the second graph where it is within the bounds, else the first
abbrev pub accepted : ℕ → Graph → Graph → Graph
accepted most g h = cond (is_within most h) h g

abbrev pub optimized_within : ℕ → Graph → Graph
optimized_within most g = option_map_or (accepted most g) (after_passes most pass_order g) g

-- for a kernel of n nodes: no block weighs more than 10 for each node
abbrev pub optimized : ℕ → Graph → Graph
optimized n g = optimized_within (10 * n) g
