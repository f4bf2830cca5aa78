-- The block without its dead steps: pure steps whose values neither its jump nor a step that stays needs.
use Rattle.std.specs.Prelude.{ℕ, suc, ◌||◌, not, if◌then◌else◌, Bool, true, false, List, [], ◌∷◌, ◌++◌, length, Some, None}
use Rattle.ir.specs.declared.instr.Instr.{Instr}
use Rattle.ir.specs.declared.instr.Instr.TheVariants.{Const, One, Two, Select, Load, Store}
use Rattle.ir.specs.declared.graph.Block.{Block}
use Rattle.ir.specs.declared.graph.Jump.{Jump}
use Rattle.ir.specs.declared.graph.Jump.TheVariants as jump
use Rattle.ir.specs.Renaming.{operands}
use Rattle.block_merge.specs.Found.{is_in}
use Rattle.block_prune.specs.Kept.{kept_block}

-- does the step neither read nor write an array
abbrev pub is_pure : Instr → Bool
is_pure (Const w n) = true
is_pure (One op x) = true
is_pure (Two op x y) = true
is_pure (Select w c x y) = true
is_pure (Load a p) = false
is_pure (Store a p v) = false

-- the values that a jump needs
abbrev pub jump_operands : Jump → List ℕ
jump_operands (jump.Go to) = to.with
jump_operands (jump.Two c yes_part no_part) = c ∷ (yes_part.with ++ no_part.with)
jump_operands (jump.Return None) = []
jump_operands (jump.Return (Some v)) = v ∷ []

-- does the step whose value has the number n stay, where those values are needed behind it
abbrev pub is_live : ℕ → Instr → List ℕ → Bool
is_live n i needed = not (is_pure i) || is_in needed n

-- the values that those steps need that stay of these steps, whose values are numbered from n on, and what is needed behind them
abbrev pub needed_from : List ℕ → ℕ → List Instr → List ℕ
needed_from last n [] = last
needed_from last n (i ∷ is) =
    let rest = needed_from last (suc n) is in
    if is_live n i rest then (operands i ++ rest) else rest

-- a mark for each of the steps that stays
abbrev pub live_marks : List ℕ → ℕ → List Instr → List Bool
live_marks last n [] = []
live_marks last n (i ∷ is) = is_live n i (needed_from last (suc n) is) ∷ live_marks last (suc n) is

abbrev pub block_live_marks : Block → List Bool
block_live_marks b = live_marks (jump_operands b.jump) (length b.args) b.steps

abbrev pub without_dead : Block → Block
without_dead b = kept_block (block_live_marks b) b
