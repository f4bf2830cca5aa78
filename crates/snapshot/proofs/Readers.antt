-- Readers of single words, and of lists of words.
use Rattle.std.proofs.Common.{◌≡◌, ◌≢◌, ◌⊎◌, ℕ, zero, suc, ◌+◌, ◌<◌, ◌≤◌, ◌^◌, ℤ, unsigned_abs, Bool, true, false, Option, Some, None, List, [], ◌∷◌, ◌++◌, map, take, drop, length, get_or, codes, decimal, nat_lt, slice_range, refl, sym, ap, subst, ◌∙◌, inl, inr, arith, lit<, ltb-true}
use Rattle.std.specs.Fmt.{signed_decimal}
use Rattle.std.specs.List.{All}
use Rattle.std.specs.Option.{unwrap_or}
use Rattle.std.proofs.lemmas.Bool.{false≢true}
use Rattle.std.proofs.lemmas.Fmt.{decimal_injective}
use Rattle.std.proofs.lemmas.List.{take_rest}
use Rattle.std.proofs.lemmas.List.Elements.{All-nil, All-head, All-tail, All-append}
use Rattle.el_base.specs.declared.digits.Number.{Number}
use Rattle.el_base.specs.declared.ty.Ty.{Ty}
use Rattle.el_base.specs.Digits.{number_at}
use Rattle.el_base.specs.Limits.{IsNumbered}
use Rattle.el_base.specs.Numbers.{number, pattern}
use Rattle.el_base.specs.Widths.{ty_width}
use Rattle.el_base.proofs.PatternLemmas.{pattern-number, pattern-lt}
use Rattle.el_base.proofs.WrittenLemmas.{as_written}
use Rattle.net_types.specs.declared.net.Unit.{Unit as Kind}
use Rattle.net_types.specs.Inputs.{IsPatternOf}
use Rattle.net_text.specs.Fits.{FitsU64}
use Rattle.net_text.specs.Reads.{Every, Named, Reads}
use Rattle.net_text.proofs.ReadLemmas.{none_some}
use Rattle.net_text.proofs.Lists.{All_single}
use Rattle.net_core.specs.Parts.{Rising}
use Rattle.inputs_text.specs.Results.{written}
use Rattle.snapshot.specs.private.Words.{FiredFits, IsBelow, PatternFits, number_words}
use Rattle.snapshot.proofs.Slims.{power_slim}
use Rattle.snapshot.proofs.Spelt.{number_small, number_reads}

pub some_same : {V : Type 0} (x y : V) → Some x ≡ Some y → x ≡ y
some_same x y e = ap (λ o. unwrap_or o x) e

-- a number that is read and does not keep a rule that all numbers asked for keep
pub none_other : (P : ℕ → Type 0) (bytes : List ℕ) (n : ℕ) → Every FitsU64 decimal bytes (Some n) → ((v : ℕ) → P v → v < 2 ^ 64) → (P n → ⊥) → (v : ℕ) → P v → decimal v ≡ bytes → ⊥
none_other P bytes n every small other v p e = other (subst P (sym (some_same n v (every v (small v p) e))) p)

pub none_at_all : (P : ℕ → Type 0) (bytes : List ℕ) → Every FitsU64 decimal bytes None → ((v : ℕ) → P v → v < 2 ^ 64) → (v : ℕ) → P v → decimal v ≡ bytes → ⊥
none_at_all P bytes every small v p e = none_some v (every v (small v p) e)

pub pattern_small : (width : ℕ) → width ≤ 64 → (v : ℕ) → PatternFits width v → v < 2 ^ 64
pattern_small width h v p = power_slim width v h p

-- ---- numbers in their type

module _ (ty : Ty) (bytes : List ℕ) where
  -- the number of a word that a pattern's number is written as
  pub read_as : (p : ℕ) → IsPatternOf ty p → written ty p ≡ bytes → number_at bytes 0 ≡ Some (record { value = number ty p; end = length bytes; canonical = true })
  read_as p h e = ap (λ l. number_at l 0) (sym e) ∙ number_reads (number ty p) (number_small ty p h) ∙ ap (λ l. Some (record { value = number ty p; end = length l; canonical = true })) e

  pub no_numeral : number_at bytes 0 ≡ None → (p : ℕ) → IsPatternOf ty p → written ty p ≡ bytes → ⊥
  no_numeral none p h e = none_some _ (sym none ∙ read_as p h e)

  pub other_end : (n : Number) → number_at bytes 0 ≡ Some n → (n.end ≡ length bytes → ⊥) → (p : ℕ) → IsPatternOf ty p → written ty p ≡ bytes → ⊥
  other_end n is other p h e = other (ap (λ (m : Number). m.end) (some_same n _ (sym is ∙ read_as p h e)))

  pub other_form : (n : Number) → number_at bytes 0 ≡ Some n → n.canonical ≡ false → (p : ℕ) → IsPatternOf ty p → written ty p ≡ bytes → ⊥
  other_form n is other p h e = false≢true (sym other ∙ ap (λ (m : Number). m.canonical) (some_same n _ (sym is ∙ read_as p h e)))

  pub other_number : (n : Number) → number_at bytes 0 ≡ Some n → (number ty (pattern ty n.value) ≡ n.value → ⊥) → (p : ℕ) → IsPatternOf ty p → written ty p ≡ bytes → ⊥
  other_number n is other p h e =
      let v : n.value ≡ number ty p = ap (λ (m : Number). m.value) (some_same n _ (sym is ∙ read_as p h e)) in
      other (ap (number ty) (ap (pattern ty) v ∙ pattern-number ty p h) ∙ sym v)

  pub own_number : (n : Number) → number_at bytes 0 ≡ Some n → n.end ≡ length bytes → n.canonical ≡ true → number ty (pattern ty n.value) ≡ n.value
      → IsPatternOf ty (pattern ty n.value) × (written ty (pattern ty n.value) ≡ bytes)
  own_number n is end form same =
      let h = pattern-lt ty n.value in
      let small : unsigned_abs n.value < 2 ^ 64 = subst (λ z. unsigned_abs z < 2 ^ 64) same (number_small ty (pattern ty n.value) h) in
      (h, ap signed_decimal same ∙ sym (as_written bytes 0 n is form small) ∙ ap (slice_range bytes 0) end ∙ whole bytes)
    where
      whole : (bs : List ℕ) → slice_range bs 0 (length bs) ≡ bs
      whole bs = take_rest bs 0

-- ---- numbers that rise

pub rising_push : (js : List ℕ) (n : ℕ) → Rising js → All (λ j. j < n) js → Rising (js ++ n ∷ [])
rising_push [] n r h = (All-nil (λ k. n < k), tt)
rising_push (j ∷ js) n r h =
    (All-append (λ k. j < k) js (n ∷ []) r.0 (All_single (λ k. j < k) n (All-head (λ i. i < n) j js h)), rising_push js n r.1 (All-tail (λ i. i < n) j js h))

pub rising_at : (js : List ℕ) (i k : ℕ) → Rising js → i < k → k < length js → get_or js i 0 < get_or js k 0
rising_at [] i k r l h = absurd (omega arith)
rising_at (j ∷ js) zero zero r l h = absurd (omega arith)
rising_at (j ∷ js) zero (suc k) r l h = r.0 k 0 (omega arith)
rising_at (j ∷ js) (suc i) zero r l h = absurd (omega arith)
rising_at (j ∷ js) (suc i) (suc k) r l h = rising_at js i k r.1 (omega arith) (omega arith)

-- ---- units that have fired

pub fired_other : (units : List Kind) (from u : ℕ) (ws : List (List ℕ)) → IsNumbered (length units) → u < length units → number_words (codes "fired") u ≡ ws → (FiredFits units from u → ⊥) → (v : ℕ) → FiredFits units from v → number_words (codes "fired") v ≡ ws → ⊥
fired_other units from u ws few low is other v f e =
    let w = f.within in
    let same = decimal_injective v u (omega arith) (omega arith) (ap (λ l. get_or l 1 []) (e ∙ sym is)) in
    other (subst (FiredFits units from) same f)
