-- A graph under construction: its closed blocks, and the open one, which gets the next number.
-- Blocks are closed in the order of their numbers. Each reads all variables, and writes all variables: a read and a write cost nothing.
use Rattle.std.specs.Prelude.{ℕ, zero, suc, ◌+◌, List, [], ◌∷◌, ◌++◌, length, set}
use Rattle.ir.specs.declared.instr.Instr.{Instr}
use Rattle.ir.specs.declared.cfg.CfgBlock.{CfgBlock}
use Rattle.ir.specs.declared.cfg.CfgJump.{CfgJump}
use Rattle.ir.specs.declared.cfg.Write.{Write}
use Rattle.struct_cfg.specs.declared.draft.Draft.{Draft}

-- i, i + 1, .., n numbers
abbrev pub count_from : ℕ → ℕ → List ℕ
count_from i zero = []
count_from i (suc n) = i ∷ count_from (suc i) n

abbrev pub own_values : ℕ → List ℕ
own_values n = count_from 0 n

-- variable i gets the first value, and so on
abbrev pub writes_from : ℕ → List ℕ → List Write
writes_from i [] = []
writes_from i (v ∷ vs) = record { var = i; value = v } ∷ writes_from (suc i) vs

-- the number of the open block
abbrev pub here : Draft → ℕ
here d = length d.blocks

-- the number of the next value
abbrev pub next_value : Draft → ℕ
next_value d = length d.env + length d.steps

abbrev pub with_steps : List Instr → Draft → Draft
with_steps is d = record { blocks = d.blocks; steps = d.steps ++ is; env = d.env }

abbrev pub with_value : ℕ → ℕ → Draft → Draft
with_value v x d = record { blocks = d.blocks; steps = d.steps; env = set d.env v x }

abbrev pub closed : CfgJump → Draft → CfgBlock
closed j d = record { reads = own_values (length d.env); steps = d.steps; writes = writes_from 0 d.env; jump = j }

-- the open block is closed, and the next one is open
abbrev pub close : CfgJump → Draft → Draft
close j d = record { blocks = d.blocks ++ closed j d ∷ []; steps = []; env = own_values (length d.env) }
