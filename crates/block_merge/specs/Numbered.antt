-- Some blocks under new numbers: those that a walk finds, in the order in which it finds them.
use Rattle.std.specs.Prelude.{◌==◌, ℕ, List, map}
use Rattle.std.specs.List.{position_or_len}
use Rattle.ir.specs.declared.graph.Block.{Block}
use Rattle.ir.specs.declared.graph.Jump.{Jump}
use Rattle.ir.specs.declared.graph.Jump.TheVariants.{Go, Two, Return}
use Rattle.ir.specs.declared.graph.To.{To}
use Rattle.block_merge.specs.Renamed.{block_of}
use Rattle.block_merge.specs.Found.{found_blocks}

abbrev pub numbered_to : (ℕ → ℕ) → To → To
numbered_to f t = record { block = f t.block; with = t.with }

abbrev pub numbered_jump : (ℕ → ℕ) → Jump → Jump
numbered_jump f (Go t) = Go (numbered_to f t)
numbered_jump f (Two c yes_part no_part) = Two c (numbered_to f yes_part) (numbered_to f no_part)
numbered_jump f (Return v) = Return v

abbrev pub numbered : (ℕ → ℕ) → Block → Block
numbered f b = record { args = b.args; steps = b.steps; jump = numbered_jump f b.jump }

-- the blocks that are listed, where f gives each its place in the list
abbrev pub listed : List Block → List ℕ → (ℕ → ℕ) → List Block
listed bs found f = map (λ n. numbered f (block_of bs n)) found

abbrev pub place_of : List ℕ → ℕ → ℕ
place_of found n = position_or_len (λ x. x == n) found

abbrev pub reached : List Block → List Block
reached bs = let found = found_blocks bs in listed bs found (place_of found)
