-- A number in range and its pattern give each other back, stated first over a modulus f that is twice h.
use Rattle.std.proofs.Common.{◌≡◌, ℕ, ℤ, pos, negsuc, ◌+◌, ◌-◌, ◌^◌, ◌<◌, ◌≤◌, ◌-ℤ◌, ◌≤ℤ◌, cond, if◌then◌else◌, nat_lt, unsigned_abs, refl, ap, ◌∙◌, ⊎_elim, arith}
use Rattle.std.proofs.Math.Nat.{mod-eq_of_lt, mod-lt}
use Rattle.std.proofs.lemmas.Nat.{pow_pos}
use Rattle.std.proofs.lemmas.Bool.{cases_lt, le-ltb, lt-ltb}
use Rattle.std.proofs.lemmas.Int.{ints}
use Rattle.std.specs.Int.{int_rem_euclid}
use Rattle.el_base.specs.declared.ty.Ty.{Ty}
use Rattle.el_base.specs.declared.ty.Ty.TheVariants.{I8, U8, I16, U16, I32, U32, I64, U64}
use Rattle.el_base.specs.Numbers.{IsInRange, number, pattern}
use Rattle.el_base.specs.Widths.{ty_width}

abbrev residue_by : ℕ → ℤ → ℕ
residue_by f z = unsigned_abs (int_rem_euclid z (pos f))

abbrev signed_by : ℕ → ℕ → ℕ → ℤ
signed_by h f p = if nat_lt p h then pos p else (pos p -ℤ pos f)

low_half : (h f p : ℕ) → p < h → signed_by h f p ≡ pos p
low_half h f p low = ap (λ b. cond b (pos p) (pos p -ℤ pos f)) (lt-ltb p h low)

high_half : (h f p : ℕ) → h ≤ p → p < f → signed_by h f p ≡ negsuc (f - 1 - p)
high_half h f p high below = ap (λ b. cond b (pos p) (pos p -ℤ pos f)) (le-ltb p h high) ∙ omega (arith, ints)

signed_residue : (h f : ℕ) → f ≡ h + h → 0 < h → (z : ℤ) → (pos 0 -ℤ pos h) ≤ℤ z → z ≤ℤ (pos h -ℤ pos 1) → signed_by h f (residue_by f z) ≡ z
signed_residue h f double some (pos a) above below =
    let small : a < h = omega (arith, ints) in
    let inside : a < f = omega arith in
    ap (signed_by h f) (mod-eq_of_lt inside) ∙ low_half h f a small
signed_residue h f double some (negsuc a) above below =
    let small : a < h = omega (arith, ints) in
    let inside : a < f = omega arith in
    ap (λ m. signed_by h f (f - 1 - m)) (mod-eq_of_lt inside)
    ∙ high_half h f (f - 1 - a) (omega arith) (omega arith) ∙ ap negsuc (omega arith)

residue_signed : (h f : ℕ) → f ≡ h + h → 0 < h → (p : ℕ) → p < f → residue_by f (signed_by h f p) ≡ p
residue_signed h f double some p below =
    ⊎_elim (λ low. ap (residue_by f) (low_half h f p low) ∙ mod-eq_of_lt below)
    (λ high.
    let inside : f - 1 - p < f = omega arith in
    ap (residue_by f) (high_half h f p high below) ∙ ap (λ m. f - 1 - m) (mod-eq_of_lt inside) ∙ omega arith)
    (cases_lt p h)

signed_above : (h f : ℕ) → f ≡ h + h → 0 < h → (p : ℕ) → p < f → (pos 0 -ℤ pos h) ≤ℤ signed_by h f p
signed_above h f double some p below =
    ⊎_elim (λ low. rw (low_half h f p low) (omega (arith, ints))) (λ high. rw (high_half h f p high below) (omega (arith, ints))) (cases_lt p h)

signed_below : (h f : ℕ) → f ≡ h + h → 0 < h → (p : ℕ) → p < f → signed_by h f p ≤ℤ (pos h -ℤ pos 1)
signed_below h f double some p below =
    ⊎_elim (λ low. rw (low_half h f p low) (omega (arith, ints))) (λ high. rw (high_half h f p high below) (omega (arith, ints))) (cases_lt p h)

unsigned_residue : (f : ℕ) (z : ℤ) → pos 0 ≤ℤ z → z ≤ℤ (pos f -ℤ pos 1) → 0 < f → pos (residue_by f z) ≡ z
unsigned_residue f (pos a) above below some = let inside : a < f = omega (arith, ints) in ap pos (mod-eq_of_lt inside)
unsigned_residue f (negsuc a) above below some = absurd (omega (arith, ints))

unsigned_below : (f p : ℕ) → p < f → pos p ≤ℤ (pos f -ℤ pos 1)
unsigned_below f p below = omega (arith, ints)

-- a number in range is the one that its pattern stands for
pub number-pattern : (t : Ty) (z : ℤ) → IsInRange t z → number t (pattern t z) ≡ z
number-pattern I8 z h = signed_residue (2 ^ 7) (2 ^ 8) refl (omega arith) z h.above h.below
number-pattern U8 z h = unsigned_residue (2 ^ 8) z h.above h.below (omega arith)
number-pattern I16 z h = signed_residue (2 ^ 15) (2 ^ 16) refl (omega arith) z h.above h.below
number-pattern U16 z h = unsigned_residue (2 ^ 16) z h.above h.below (omega arith)
number-pattern I32 z h = signed_residue (2 ^ 31) (2 ^ 32) refl (omega arith) z h.above h.below
number-pattern U32 z h = unsigned_residue (2 ^ 32) z h.above h.below (omega arith)
number-pattern I64 z h = signed_residue (2 ^ 63) (2 ^ 64) refl (omega arith) z h.above h.below
number-pattern U64 z h = unsigned_residue (2 ^ 64) z h.above h.below (omega arith)

-- a pattern is that of the number that it stands for
pub pattern-number : (t : Ty) (p : ℕ) → p < 2 ^ ty_width t → pattern t (number t p) ≡ p
pattern-number I8 p h = residue_signed (2 ^ 7) (2 ^ 8) refl (omega arith) p h
pattern-number U8 p h = mod-eq_of_lt h
pattern-number I16 p h = residue_signed (2 ^ 15) (2 ^ 16) refl (omega arith) p h
pattern-number U16 p h = mod-eq_of_lt h
pattern-number I32 p h = residue_signed (2 ^ 31) (2 ^ 32) refl (omega arith) p h
pattern-number U32 p h = mod-eq_of_lt h
pattern-number I64 p h = residue_signed (2 ^ 63) (2 ^ 64) refl (omega arith) p h
pattern-number U64 p h = mod-eq_of_lt h

-- a pattern stands for a number in range
pub IsInRange-number : (t : Ty) (p : ℕ) → p < 2 ^ ty_width t → IsInRange t (number t p)
IsInRange-number I8 p h = record { above = signed_above (2 ^ 7) (2 ^ 8) refl (omega arith) p h; below = signed_below (2 ^ 7) (2 ^ 8) refl (omega arith) p h }
IsInRange-number U8 p h = record { above = omega (arith, ints); below = unsigned_below (2 ^ 8) p h }
IsInRange-number I16 p h = record { above = signed_above (2 ^ 15) (2 ^ 16) refl (omega arith) p h; below = signed_below (2 ^ 15) (2 ^ 16) refl (omega arith) p h }
IsInRange-number U16 p h = record { above = omega (arith, ints); below = unsigned_below (2 ^ 16) p h }
IsInRange-number I32 p h = record { above = signed_above (2 ^ 31) (2 ^ 32) refl (omega arith) p h; below = signed_below (2 ^ 31) (2 ^ 32) refl (omega arith) p h }
IsInRange-number U32 p h = record { above = omega (arith, ints); below = unsigned_below (2 ^ 32) p h }
IsInRange-number I64 p h = record { above = signed_above (2 ^ 63) (2 ^ 64) refl (omega arith) p h; below = signed_below (2 ^ 63) (2 ^ 64) refl (omega arith) p h }
IsInRange-number U64 p h = record { above = omega (arith, ints); below = unsigned_below (2 ^ 64) p h }

-- and a number's pattern is below 2 ^ width
residue_below : (f : ℕ) (z : ℤ) → 0 < f → residue_by f z < f
residue_below f (pos a) some = mod-lt a some
residue_below f (negsuc a) some = omega arith

pub pattern-lt : (t : Ty) (z : ℤ) → pattern t z < 2 ^ ty_width t
pattern-lt t z = residue_below (2 ^ ty_width t) z (pow_pos (ty_width t))
