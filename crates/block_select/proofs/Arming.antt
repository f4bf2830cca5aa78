-- The accesses and the cost of the steps that are left.
use Rattle.std.proofs.Common.{◌≡◌, ℕ, ◌+◌, ◌<◌, ◌≤◌, List, length, get_or, drop, sym, ◌∙◌, ap}
use Rattle.std.specs.Prelude.{sum_by}
use Rattle.std.proofs.lemmas.List.{at_drop_more, at_drop_all}
use Rattle.std.proofs.lemmas.List.Sums.{sum_by-drop_more}
use Rattle.ir.specs.declared.instr.Instr.{Instr}
use Rattle.ir.specs.Accesses.{is_access, accesses_in}
use Rattle.block_select.specs.Arms.{step_cost}

pub more_accesses : (xs : List Instr) (i : ℕ) (s : Instr) → i < length xs → s ≡ get_or xs i s → accesses_in (drop i xs) ≡ is_access s + accesses_in (drop (i + 1) xs)
more_accesses xs i s lt e = at_drop_more accesses_in xs i s lt ∙ ap (λ (x : Instr). is_access x + accesses_in (drop (i + 1) xs)) (sym e)

pub no_accesses : (xs : List Instr) (i : ℕ) → length xs ≤ i → accesses_in (drop i xs) ≡ 0
no_accesses xs i le = at_drop_all accesses_in xs i le

pub more_cost : (xs : List Instr) (i : ℕ) (s : Instr) → i < length xs → s ≡ get_or xs i s → sum_by step_cost (drop i xs) ≡ step_cost s + sum_by step_cost (drop (i + 1) xs)
more_cost xs i s lt e = sum_by-drop_more step_cost xs i s lt ∙ ap (λ (x : Instr). step_cost x + sum_by step_cost (drop (i + 1) xs)) (sym e)
