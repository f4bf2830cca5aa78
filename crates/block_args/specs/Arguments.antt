-- The block over arguments that is made of a block over variables, where each block holds certain variables.
use Rattle.std.specs.Prelude.{ℕ, zero, suc, ◌+◌, ◌-◌, ◌==◌, List, [], ◌∷◌, ◌++◌, map, length, get_or, take, drop, nat_lt, if◌then◌else◌, option_map}
use Rattle.std.specs.List.{position_or_len}
use Rattle.ir.specs.declared.instr.Instr.{Instr}
use Rattle.ir.specs.declared.instr.Instr.TheVariants.{Const}
use Rattle.ir.specs.declared.graph.Block.{Block}
use Rattle.ir.specs.declared.graph.Jump.{Jump}
use Rattle.ir.specs.declared.graph.Jump.TheVariants as jump
use Rattle.ir.specs.declared.graph.To.{To}
use Rattle.ir.specs.declared.cfg.CfgBlock.{CfgBlock}
use Rattle.ir.specs.declared.cfg.CfgJump.{CfgJump}
use Rattle.ir.specs.declared.cfg.CfgJump.TheVariants.{Go, Two, Return}
use Rattle.ir.specs.declared.cfg.Write.{Write}
use Rattle.ir.specs.Graphs.{Graph}
use Rattle.ir.specs.Variables.{VarGraph}
use Rattle.ir.specs.Renaming.{renamed}
use Rattle.block_args.specs.Tables.{listed_at, held_at}

-- the place of a variable among those that a block holds
abbrev pub place_in : List ℕ → ℕ → ℕ
place_in held v = position_or_len (λ x. x == v) held

-- the new number of a value: a read is the variable that it reads, and the values of steps stand behind the variables
abbrev pub new_number : List ℕ → List ℕ → ℕ → ℕ
new_number held reads a = if nat_lt a (length reads) then place_in held (get_or reads a 0) else (length held + (a - length reads))

-- the number of a variable's value after the writes, from its number before them
abbrev pub after_writes : (ℕ → ℕ) → List Write → ℕ → ℕ → ℕ
after_writes f [] v number = number
after_writes f (x ∷ xs) v number = after_writes f xs v (if x.var == v then f x.value else number)

-- the values that a block hands to another, by the variables that that one holds
abbrev pub handed_to : List ℕ → List ℕ → CfgBlock → List ℕ
handed_to held wanted b = map (λ v. after_writes (new_number held b.reads) b.writes v (place_in held v)) wanted

abbrev pub to : List (List ℕ) → List ℕ → CfgBlock → ℕ → To
to table held b c = record { block = c; with = handed_to held (listed_at table c) b }

abbrev pub new_jump : List (List ℕ) → List ℕ → CfgBlock → CfgJump → Jump
new_jump table held b (Go c) = jump.Go (to table held b c)
new_jump table held b (Two c yes_part no_part) = jump.Two (new_number held b.reads c) (to table held b yes_part) (to table held b no_part)
new_jump table held b (Return v) = jump.Return (option_map (new_number held b.reads) v)

abbrev pub new_steps : List ℕ → CfgBlock → List Instr
new_steps held b = map (renamed (new_number held b.reads)) b.steps

-- a 0 for each of these widths
abbrev pub zeros : List ℕ → List Instr
zeros ws = map (λ w. Const w 0) ws

-- block 0 has the scalars, s of them, as its arguments
abbrev pub new_block : ℕ → List ℕ → List (List ℕ) → ℕ → CfgBlock → Block
new_block s vars table zero b =
    let held = held_at (length vars) table 0 in record { args = take s vars; steps = zeros (drop s vars) ++ new_steps held b; jump = new_jump table held b b.jump }
new_block s vars table (suc n) b =
    let held = held_at (length vars) table (suc n) in record { args = map (λ v. get_or vars v 0) held; steps = new_steps held b; jump = new_jump table held b b.jump }

abbrev pub new_blocks : ℕ → List ℕ → List (List ℕ) → ℕ → List CfgBlock → List Block
new_blocks s vars table n [] = []
new_blocks s vars table n (b ∷ bs) = new_block s vars table n b ∷ new_blocks s vars table (suc n) bs

abbrev pub argued : VarGraph → List (List ℕ) → Graph
argued g table = record { name = g.name; scalars = g.scalars; arrays = g.arrays; result = g.result; blocks = new_blocks (length g.scalars) g.vars table 0 g.blocks }
