-- Private: only contracts of private functions cite it. New numbers of values by tables.
use Rattle.std.specs.Prelude.{◌≡◌, ◌+◌, ◌-◌, ◌<◌, ◌^◌, ℕ, suc, nat_lt, if◌then◌else◌, List, [], ◌∷◌, ◌++◌, map, length, get_or, set, option_map, Some, None, All}
use Rattle.std.specs.List.{AllByRecursion}
use Rattle.ir.specs.declared.instr.Instr.{Instr}
use Rattle.ir.specs.declared.graph.Block.{Block}
use Rattle.ir.specs.declared.graph.Jump.{Jump}
use Rattle.ir.specs.declared.graph.Jump.TheVariants as jump
use Rattle.ir.specs.declared.cfg.CfgBlock.{CfgBlock}
use Rattle.ir.specs.declared.cfg.CfgJump.{CfgJump}
use Rattle.ir.specs.declared.cfg.CfgJump.TheVariants.{Go, Two, Return}
use Rattle.ir.specs.declared.cfg.Write.{Write}
use Rattle.ir.specs.Renaming.{operands}
use Rattle.block_args.specs.declared.numbers.Numbers.{Numbers}
use Rattle.block_args.specs.Tables.{listed_at, AreAscending}
use Rattle.block_args.specs.Arguments.{place_in, new_steps, new_jump}

-- the table with the places of these variables, the first of which has the place n
abbrev pub with_places : List ℕ → ℕ → List ℕ → List ℕ
with_places table n [] = table
with_places table n (v ∷ vs) = with_places (set table v n) (suc n) vs

-- the table has the place of each variable among those that are held, and where it is not held their number
abbrev pub HasPlaces : List ℕ → List ℕ → Type 0
HasPlaces held table = (v : ℕ) → get_or table v (length held) ≡ place_in held v

-- the entries for these variables
abbrev pub entries : List ℕ → ℕ → List ℕ → List ℕ
entries table past vs = map (λ v. get_or table v past) vs

-- the new number of a value of a block
abbrev pub number_in : Numbers → ℕ → ℕ
number_in ns a = if nat_lt a (length ns.reads) then get_or ns.reads a 0 else (ns.held + (a - length ns.reads))

-- the numbers are those of the reads, where a block holds these variables
pub record AreOf (held reads : List ℕ) (ns : Numbers) : Type 0 where
  pub reads_are : ns.reads ≡ map (place_in held) reads
  pub held_is : ns.held ≡ length held

-- the new number is below 2^32
abbrev pub IsRenumbered : Numbers → ℕ → Type 0
IsRenumbered ns a = ns.held + a < 2 ^ 32 + length ns.reads

abbrev pub AreRenumbered : Numbers → List ℕ → Type 0
AreRenumbered ns xs = AllByRecursion (IsRenumbered ns) xs

abbrev pub jump_values : CfgJump → List ℕ
jump_values (Go c) = []
jump_values (Two c yes_part no_part) = c ∷ []
jump_values (Return None) = []
jump_values (Return (Some v)) = v ∷ []

-- the table after the writes
abbrev pub with_writes : (ℕ → ℕ) → List ℕ → List Write → List ℕ
with_writes f table [] = table
with_writes f table (x ∷ xs) = with_writes f (set table x.var (f x.value)) xs

-- a jump with the new numbers, where the table `now` has the number of each variable's value after the writes
abbrev pub jump_by : List (List ℕ) → (ℕ → ℕ) → (ℕ → ℕ) → CfgJump → Jump
jump_by table f now (Go c) = jump.Go (record { block = c; with = map now (listed_at table c) })
jump_by table f now (Two c yes_part no_part) =
    jump.Two (f c) (record { block = yes_part; with = map now (listed_at table yes_part) }) (record { block = no_part; with = map now (listed_at table no_part) })
jump_by table f now (Return v) = jump.Return (option_map f v)

-- what is asked of a block and of what it holds, so that the new numbers are below 2^32: n is the number of variables
pub record Renumbers (n : ℕ) (held : List ℕ) (b : CfgBlock) : Type 0 where
  pub ascending : AreAscending held
  pub below : All (λ v. v < n) held
  pub few : n + length b.steps < 2 ^ 32
  pub steps : All (λ i. All (λ a. a < length b.reads + length b.steps) (operands i)) b.steps
  pub writes : All (λ x. x.value < length b.reads + length b.steps) b.writes
  pub written : All (λ x. x.var < n) b.writes
  pub jump : All (λ a. a < length b.reads + length b.steps) (jump_values b.jump)

-- the block with these arguments, behind these first steps
abbrev pub block_with : List ℕ → List Instr → List (List ℕ) → List ℕ → CfgBlock → Block
block_with args first table held b = record { args = args; steps = first ++ new_steps held b; jump = new_jump table held b b.jump }
