-- The steps of a kind among those that are left.
use Rattle.std.proofs.Common.{◌≡◌, ℕ, ◌+◌, ◌<◌, ◌≤◌, List, length, get_or, drop, sym, ◌∙◌, ap, arith}
use Rattle.std.proofs.lemmas.List.{at_drop_more, at_drop_all}
use Rattle.ir.specs.declared.instr.Instr.{Instr}
use Rattle.ir.specs.declared.instr.Instr.TheVariants.{Const, One, Two, Select, Load, Store}
use Rattle.ir.specs.Accesses.{is_access, accesses_in}
use Rattle.block_copy.specs.Nonconstants.{is_nonconstant, nonconstants_in}

pub more_nonconstants : (xs : List Instr) (i : ℕ) (s : Instr) → i < length xs → s ≡ get_or xs i s → nonconstants_in (drop i xs) ≡ is_nonconstant s + nonconstants_in (drop (i + 1) xs)
more_nonconstants xs i s lt e = at_drop_more nonconstants_in xs i s lt ∙ ap (λ (x : Instr). is_nonconstant x + nonconstants_in (drop (i + 1) xs)) (sym e)

pub no_nonconstants : (xs : List Instr) (i : ℕ) → length xs ≤ i → nonconstants_in (drop i xs) ≡ 0
no_nonconstants xs i le = at_drop_all nonconstants_in xs i le

pub one_nonconstant : (i : Instr) → is_nonconstant i ≤ 1
one_nonconstant (Const w n) = omega arith
one_nonconstant (One op a) = omega arith
one_nonconstant (Two op a b) = omega arith
one_nonconstant (Select w c a b) = omega arith
one_nonconstant (Load a p) = omega arith
one_nonconstant (Store a p v) = omega arith

pub more_accesses : (xs : List Instr) (i : ℕ) (s : Instr) → i < length xs → s ≡ get_or xs i s → accesses_in (drop i xs) ≡ is_access s + accesses_in (drop (i + 1) xs)
more_accesses xs i s lt e = at_drop_more accesses_in xs i s lt ∙ ap (λ (x : Instr). is_access x + accesses_in (drop (i + 1) xs)) (sym e)

pub no_accesses : (xs : List Instr) (i : ℕ) → length xs ≤ i → accesses_in (drop i xs) ≡ 0
no_accesses xs i le = at_drop_all accesses_in xs i le

pub one_access : (i : Instr) → is_access i ≤ 1
one_access (Const w n) = omega arith
one_access (One op a) = omega arith
one_access (Two op a b) = omega arith
one_access (Select w c a b) = omega arith
one_access (Load a p) = omega arith
one_access (Store a p v) = omega arith
