-- A table from old values to new ones, as it grows by a step.
use Rattle.std.proofs.Common.{◌≡◌, ℕ, ◌+◌, ◌-◌, ◌<◌, ◌≤◌, List, [], ◌∷◌, ◌++◌, length, get_or, Option, Some, sym, ◌∙◌, ap, subst, arith, length-append, inl, inr}
use Rattle.std.specs.Prelude.{slice_get, Bool, if◌then◌else◌}
use Rattle.std.proofs.lemmas.Bool.{cases_lt, lt-ltb, le-ltb}
use Rattle.std.proofs.lemmas.Option.{slice_get_within}
use Rattle.std.proofs.lemmas.List.{get_or_append_left, get_or_push}
use Rattle.ir.specs.Steps.{value_at}
use Rattle.ir.specs.Shapes.{Shape, IsOfWidth}
use Rattle.ir.proofs.Fitting.{behind}
use Rattle.block_fold.specs.Numbers.{renumbered}
use Rattle.block_fold.proofs.StepLemmas.{get_before, SameValues}

-- ---- numbers

pub renumbered_first : (m : ℕ) (numbers : List ℕ) (a : ℕ) → a < m → renumbered m numbers a ≡ a
renumbered_first m numbers a h = ap (λ (b : Bool). if b then a else get_or numbers (a - m) 0) (lt-ltb a m h)

pub renumbered_behind : (m : ℕ) (numbers : List ℕ) (a : ℕ) → m ≤ a → renumbered m numbers a ≡ get_or numbers (a - m) 0
renumbered_behind m numbers a h = ap (λ (b : Bool). if b then a else get_or numbers (a - m) 0) (le-ltb a m h)

renumbered_stays : (m : ℕ) (numbers : List ℕ) (p a : ℕ) → a < m + length numbers → renumbered m (numbers ++ p ∷ []) a ≡ renumbered m numbers a
renumbered_stays m numbers p a h = elim (cases_lt a m) [
  | inl lt ↦ renumbered_first m (numbers ++ p ∷ []) a lt ∙ sym (renumbered_first m numbers a lt)
  | inr ge ↦
      renumbered_behind m (numbers ++ p ∷ []) a ge ∙ get_or_append_left numbers (p ∷ []) 0 (a - m) (omega arith) ∙ sym (renumbered_behind m numbers a ge)
]

renumbered_last : (m : ℕ) (numbers : List ℕ) (p a : ℕ) → a ≡ m + length numbers → renumbered m (numbers ++ p ∷ []) a ≡ p
renumbered_last m numbers p a h = renumbered_behind m (numbers ++ p ∷ []) a (omega arith) ∙ get_or_push numbers p 0 (a - m) (omega arith)

-- ---- widths and values under the new numbers

abbrev pub KeepsWidth : ℕ → List ℕ → Shape → Shape → Type 0
KeepsWidth m numbers ws us = (a y : ℕ) → IsOfWidth ws a y → IsOfWidth us (renumbered m numbers a) y

abbrev pub KeepsValue : ℕ → List ℕ → Shape → List ℕ → List ℕ → Type 0
KeepsValue m numbers ws olds news = SameValues (renumbered m numbers) ws olds news

-- at the start each value stays
pub first_widths : (m : ℕ) (ws : Shape) → length ws ≡ m → KeepsWidth m [] ws ws
first_widths m ws long a y h = let lt = slice_get_within ws a (Some y) h in subst (λ b. IsOfWidth ws b y) (sym (renumbered_first m [] a (omega (arith, lt, long)))) h

pub first_values : (m : ℕ) (ws : Shape) (vs : List ℕ) → length ws ≡ m → KeepsValue m [] ws vs vs
first_values m ws vs long a y h = let lt = slice_get_within ws a (Some y) h in ap (value_at vs) (renumbered_first m [] a (omega (arith, lt, long)))

-- a value of a shape that is one longer
at_end : (ws : Shape) (x : Option ℕ) (a y : ℕ) → length ws ≤ a → IsOfWidth (ws ++ x ∷ []) a y → (a ≡ length ws) × (x ≡ Some y)
at_end ws x a y ge h =
    let lt = slice_get_within (ws ++ x ∷ []) a (Some y) h in
    let e : a ≡ length ws = omega (arith, lt, ge, length-append ws (x ∷ [])) in
    let z : slice_get (ws ++ x ∷ []) (length ws) ≡ Some (Some y) = subst (λ b. slice_get (ws ++ x ∷ []) b ≡ Some (Some y)) e h in
    let b = behind ws x in
    (e, cc)

pub more_widths : (m : ℕ) (numbers : List ℕ) (ws us : Shape) (p : ℕ) (x : Option ℕ) → length ws ≡ m + length numbers → KeepsWidth m numbers ws us
    → ((y : ℕ) → x ≡ Some y → IsOfWidth us p y) → KeepsWidth m (numbers ++ p ∷ []) (ws ++ x ∷ []) us
more_widths m numbers ws us p x long keep last a y h = elim (cases_lt a (length ws)) [
  | inl lt ↦
      let old : IsOfWidth ws a y = sym (get_before ws (x ∷ []) a lt) ∙ h in
      subst (λ b. IsOfWidth us b y) (sym (renumbered_stays m numbers p a (omega (arith, lt, long)))) (keep a y old)
  | inr ge ↦
      let e = at_end ws x a y ge h in
      subst (λ b. IsOfWidth us b y) (sym (renumbered_last m numbers p a (omega (arith, long, e.0)))) (last y e.1)
]

pub more_values : (m : ℕ) (numbers : List ℕ) (ws : Shape) (olds news : List ℕ) (p : ℕ) (x : Option ℕ) (v : ℕ) → length ws ≡ m + length numbers → length olds ≡ length ws
    → KeepsValue m numbers ws olds news → ((y : ℕ) → x ≡ Some y → value_at news p ≡ v) → KeepsValue m (numbers ++ p ∷ []) (ws ++ x ∷ []) (olds ++ v ∷ []) news
more_values m numbers ws olds news p x v long long_olds keep last a y h = elim (cases_lt a (length ws)) [
  | inl lt ↦
      let old : IsOfWidth ws a y = sym (get_before ws (x ∷ []) a lt) ∙ h in
      ap (value_at news) (renumbered_stays m numbers p a (omega (arith, lt, long))) ∙ keep a y old ∙ sym (get_or_append_left olds (v ∷ []) 0 a (omega (arith, lt, long_olds)))
  | inr ge ↦
      let e = at_end ws x a y ge h in
      ap (value_at news) (renumbered_last m numbers p a (omega (arith, long, e.0))) ∙ last y e.1 ∙ sym (get_or_push olds v 0 a (omega (arith, long_olds, e.0)))
]
