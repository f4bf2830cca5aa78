-- Steps of the walk: writes past a list, the sides of a jump, and steps that were made.
use Rattle.std.proofs.Common.{◌≡◌, ◌≢◌, ℕ, zero, suc, ◌+◌, ◌<◌, ◌≤◌, List, [], ◌∷◌, ◌++◌, map, drop, length, get_or, refl, sym, ◌∙◌, ap, arith, append_assoc, drop-cons, append-nil}
use Rattle.std.specs.Prelude.{set}
use Rattle.ir.specs.declared.instr.Instr.{Instr}
use Rattle.ir.specs.Steps.{Work, value_at, step_value, step_arrays, step_strays, after_step, through}
use Rattle.ir.specs.Visits.{Onward}
use Rattle.ir.specs.Graphs.{side}
use Rattle.ir.specs.Passes.{IsPerformed}

pub set_beyond : {A : Type 0} (xs : List A) (i : ℕ) (x : A) → length xs ≤ i → set xs i x ≡ xs
set_beyond [] i x h = refl
set_beyond (y ∷ xs) zero x h = absurd (omega arith)
set_beyond (y ∷ xs) (suc i) x h = ap (λ l. y ∷ l) (set_beyond xs i x (omega arith))

pub side_none : (c : ℕ) (a b : Onward) → c ≡ 0 → side c a b ≡ b
side_none zero a b h = refl
side_none (suc c) a b h = absurd (omega arith)

pub side_some : (c : ℕ) (a b : Onward) → c ≢ 0 → side c a b ≡ a
side_some zero a b h = absurd (h refl)
side_some (suc c) a b h = refl

-- the item at a place is the first of what is left
left : {A : Type 0} (xs : List A) (i : ℕ) (x : A) → i < length xs → x ≡ get_or xs i x → drop i xs ≡ x ∷ drop (suc i) xs
left xs i x h e = drop-cons xs i x h ∙ ap (λ y. y ∷ drop (suc i) xs) (sym e)

none_left : {A : Type 0} (xs : List A) (i : ℕ) → length xs ≤ i → drop i xs ≡ []
none_left [] zero h = refl
none_left [] (suc i) h = refl
none_left (x ∷ xs) zero h = absurd (omega arith)
none_left (x ∷ xs) (suc i) h = none_left xs i (omega arith)

pub picked_more : (values numbers : List ℕ) (i n : ℕ) (picked : List ℕ) → i < length numbers → n ≡ get_or numbers i n
    → picked ++ map (value_at values) (drop i numbers) ≡ map (value_at values) numbers
    → (picked ++ value_at values n ∷ []) ++ map (value_at values) (drop (suc i) numbers) ≡ map (value_at values) numbers
picked_more values numbers i n picked h e all =
    append_assoc picked (value_at values n ∷ []) (map (value_at values) (drop (suc i) numbers))
    ∙ ap (λ l. picked ++ map (value_at values) l) (sym (left numbers i n h e)) ∙ all

pub picked_all : (values numbers : List ℕ) (i : ℕ) (picked : List ℕ) → length numbers ≤ i
    → picked ++ map (value_at values) (drop i numbers) ≡ map (value_at values) numbers
    → picked ≡ map (value_at values) numbers
picked_all values numbers i picked h all =
    sym (append-nil picked) ∙ ap (λ l. picked ++ map (value_at values) l) (sym (none_left numbers i h)) ∙ all

-- the steps from the i-th on make of this work what all make of the work at the start
pub record IsPerforming (steps : List Instr) (i : ℕ) (start : Work) (values : List ℕ) (arrays : List (List ℕ)) (strays : ℕ) : Type 0 where
  pub all : through (drop i steps) (record { values = values; arrays = arrays; strays = strays }) ≡ through steps start
  pub few : strays ≤ i

pub performing_more : (steps : List Instr) (i : ℕ) (start : Work) (values : List ℕ) (arrays : List (List ℕ)) (strays : ℕ) (d : Instr) (x s : ℕ) (next : List (List ℕ))
    → IsPerforming steps i start values arrays strays → i < length steps → d ≡ get_or steps i d
    → x ≡ step_value d values arrays → s ≡ step_strays d values arrays → s ≤ 1 → next ≡ step_arrays d values arrays
    → IsPerforming steps (suc i) start (values ++ x ∷ []) next (strays + s)
performing_more steps i start values arrays strays d x s next h lt e ex es one en =
    let w : Work = record { values = values; arrays = arrays; strays = strays } in
    let a : through (drop (suc i) steps) (after_step d w) ≡ through steps start = ap (λ l. through l w) (sym (left steps i d lt e)) ∙ h.all in
    record {
      all = ap (λ y. through (drop (suc i) steps) (record { values = values ++ y ∷ []; arrays = next; strays = strays + s })) ex
          ∙ ap (λ y. through (drop (suc i) steps) (record { values = values ++ step_value d values arrays ∷ []; arrays = y; strays = strays + s })) en
          ∙ ap (λ y. through (drop (suc i) steps) (record { values = values ++ step_value d values arrays ∷ []; arrays = step_arrays d values arrays; strays = strays + y })) es
          ∙ a;
      few = let b = h.few in omega arith;
    }

pub performed_all : (steps : List Instr) (i : ℕ) (start : Work) (values : List ℕ) (arrays : List (List ℕ)) (strays : ℕ)
    → IsPerforming steps i start values arrays strays → length steps ≤ i → IsPerformed steps start values arrays strays
performed_all steps i start values arrays strays h le =
    record { all = sym h.all ∙ ap (λ l. through l (record { values = values; arrays = arrays; strays = strays })) (none_left steps i le) }
