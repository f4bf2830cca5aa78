-- What a choice becomes.
use Rattle.std.specs.Prelude.{ℕ, ◌==◌, ◌&&◌, if◌then◌else◌, List, Option, Some, None}
use Rattle.ir.specs.declared.instr.Instr.{Instr}
use Rattle.ir.specs.declared.instr.Instr.TheVariants.{One, Select}
use Rattle.el_base.specs.declared.operation.Op1.TheVariants.{Zero32}
use Rattle.block_rules.specs.declared.change.Change.{Change}
use Rattle.block_rules.specs.declared.change.Change.TheVariants.{Stays, Is, Becomes}
use Rattle.block_rules.specs.declared.rewriting.Condition.{Condition}
use Rattle.block_rules.specs.Reading.{const_at, is_test}
use Rattle.block_rules.specs.Conditions.{is_constant, stripped}

-- by a condition v that is no constant; it was c
unfoldable pub chosen_by : ℕ → List Instr → ℕ → ℕ → ℕ → ℕ → ℕ → Change
chosen_by n steps w c v a b =
    let yes_is = λ (x : ℕ). is_constant x (const_at n steps a) in
    let no_is = λ (x : ℕ). is_constant x (const_at n steps b) in
    if a == b then Is a
    else (if ((w == 32 && yes_is 1) && no_is 0) && is_test n steps v then Is v
    else (if (w == 32 && yes_is 0) && no_is 1 then Becomes (One Zero32 v)
    else (if v == c then Stays else Becomes (Select w v a b))))

abbrev pub chosen : ℕ → List Instr → ℕ → ℕ → ℕ → ℕ → ℕ → Option ℕ → Change
chosen n steps w c v a b (Some x) = Is (if x == 0 then b else a)
chosen n steps w c v a b None = chosen_by n steps w c v a b

-- by a condition that was c
unfoldable pub chosen_on : ℕ → List Instr → ℕ → ℕ → Condition → ℕ → ℕ → Change
chosen_on n steps w c d a b = chosen n steps w c d.value (if d.turned then b else a) (if d.turned then a else b) (const_at n steps d.value)

unfoldable pub select_change : ℕ → List Instr → ℕ → ℕ → ℕ → ℕ → Change
select_change n steps w c a b = chosen_on n steps w c (stripped n steps c) a b
