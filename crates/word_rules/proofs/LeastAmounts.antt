-- The least amount that serves a divisor.
use Rattle.std.proofs.Common.{◌≡◌, ℕ, zero, suc, ◌+◌, ◌-◌, ◌*◌, ◌^◌, ◌<◌, ◌≤◌, Bool, true, false, ◌&&◌, cond, ltb, Option, Some, None, refl, sym, ◌∙◌, ap, subst, arith}
use Rattle.std.specs.Int.{IsPowerOfTwo}
use Rattle.std.specs.List.{find, range_with_len}
use Rattle.std.proofs.lemmas.Bool.{ltb-true, lt-ltb}
use Rattle.el_base.specs.declared.operation.Op2.TheVariants.{Divu32}
use Rattle.word_ops.specs.Operations.{op2_result}
use Rattle.word_rules.specs.Magic.{IsMagic, IsSignedMagic, HasDigits, reciprocal, binary_digits}
use Rattle.word_rules.specs.Amounts.{serves, serves_signed, unsigned_amount, signed_amount, quotient_with, UnsignedAmountsServe, SignedAmountsServe, UnsignedQuotientsAreMade, WideQuotientsAreMade, SignedQuotientsAreMade}
use Rattle.word_rules.proofs.Digits.{digits_are_counted}
use Rattle.word_rules.proofs.Products.{divides_by_product32, divides_by_product64, divides_by_long_product, divides_by_signed_product}
use Rattle.word_rules.proofs.Reciprocals.{close_reciprocals_are_magic, reciprocals_fit_words, long_magic_exists, signed_magic_exists, signed_factors_fit, factors_are_above}

-- ---- the first number of a range that passes a test

module _ (p : ℕ → Bool) where
  found_passes : (a n s : ℕ) → find p (range_with_len a n) ≡ Some s → (p s ≡ true) × (a ≤ s) × (s < a + n)
  found_passes a zero s e = cc
  found_passes a (suc n) s e = by (p a) refl e (found_passes (a + 1) n s)
    where
      by : (b : Bool) → p a ≡ b → cond b (Some a) (find p (range_with_len (a + 1) n)) ≡ Some s → (find p (range_with_len (a + 1) n) ≡ Some s → (p s ≡ true) × (a + 1 ≤ s) × (s < a + 1 + n)) → (p s ≡ true) × (a ≤ s) × (s < a + suc n)
      by true f e more = let q : a ≡ s = cc in (ap p (sym q) ∙ f, omega arith, omega arith)
      by false f e more = let m = more e in (m.0, omega (arith, m.1), omega (arith, m.2))

  -- where s passes, the first that does is no greater
  found_before : (a n s : ℕ) → a ≤ s → s < a + n → p s ≡ true → (r : ℕ) × (find p (range_with_len a n) ≡ Some r) × (r ≤ s)
  found_before a zero s le lt e = absurd (omega arith)
  found_before a (suc n) s le lt e = by (p a) refl (λ h. found_before (a + 1) n s h (omega arith) e)
    where
      by : (b : Bool) → p a ≡ b → (a + 1 ≤ s → (r : ℕ) × (find p (range_with_len (a + 1) n) ≡ Some r) × (r ≤ s)) → (r : ℕ) × (cond b (Some a) (find p (range_with_len (a + 1) n)) ≡ Some r) × (r ≤ s)
      by true f more = (a, refl, le)
      by false f more =
          let ne : ¬ (a ≡ s) = λ q. let k : false ≡ true = sym f ∙ ap p q ∙ e in cc in
          more (omega arith)

and_parts : (a b : Bool) → (a && b) ≡ true → (a ≡ true) × (b ≡ true)
and_parts true b e = (refl, e)
and_parts false b e = cc

-- ---- unsigned amounts

pub unsigned_amounts_serve : UnsignedAmountsServe
unfolding unsigned_amount
unsigned_amounts_serve top d s some e =
    let f = found_passes (serves top d) 32 32 s e in
    let m = reciprocal d s in
    let both = and_parts (ltb ((m * d - 2 ^ s) * top) (2 ^ s)) (ltb (m * top) (2 ^ 64)) f.0 in
    let lt : s < 64 = omega (arith, f.2) in (
      close_reciprocals_are_magic d s top some (ltb-true ((m * d - 2 ^ s) * top) (2 ^ s) both.0),
      record { product = ltb-true (m * top) (2 ^ 64) both.1; amount = lt },
      reciprocals_fit_words d s some lt,
      f.1,
    )

pub unsigned_quotients_are_made : UnsignedQuotientsAreMade
unsigned_quotients_are_made top d n some ld lt le = by (unsigned_amount top d) refl
  where
    by : (o : Option ℕ) → unsigned_amount top d ≡ o → quotient_with o d n ≡ op2_result Divu32 n d
    by None e =
        let t = binary_digits (d - 1) in
        let m = reciprocal d (32 + t) in
        let l = long_magic_exists d t top some ld (digits_are_counted 64 (d - 1) (omega arith)) lt in
        let whole : 2 ^ 32 + (m - 2 ^ 32) ≡ m = omega (arith, l.1) in
        divides_by_long_product top d t (m - 2 ^ 32) n some ld (omega arith) le (subst (IsMagic top d (32 + t)) (sym whole) l.0) (omega (arith, l.1, l.2)) (omega (arith, l.3))
    by (Some s) e =
        let f = unsigned_amounts_serve top d s some e in
        divides_by_product32 top d s (reciprocal d s) n some ld (omega arith) le f.0 f.1

pub wide_quotients_are_made : WideQuotientsAreMade
wide_quotients_are_made top d s n some ld lt le e =
    let f = unsigned_amounts_serve top d s some e in
    divides_by_product64 top d s (reciprocal d s) n some ld (omega arith) le f.0 f.1

-- ---- signed amounts

-- what a signed amount that passes gives, up to the one that is known to pass
signed_served : (d t s : ℕ) → 1 < d → d < 2 ^ 31 → ¬ IsPowerOfTwo d → HasDigits (d - 1) t → s ≤ 31 + t → serves_signed d s ≡ true → IsSignedMagic d s (reciprocal d s) × (reciprocal d s < 2 ^ 32)
signed_served d t s more ld apart digits le e =
    let some : 0 < d = omega arith in
    (record { above = factors_are_above d s some apart; close = ltb-true ((reciprocal d s * d - 2 ^ s) * 2 ^ 31) (2 ^ s) e }, signed_factors_fit d t s some ld digits le)

pub signed_amounts_serve : SignedAmountsServe
unfolding signed_amount
signed_amounts_serve d more ld apart =
    let t = binary_digits (d - 1) in
    let digits = digits_are_counted 64 (d - 1) (omega arith) in
    let known = signed_magic_exists d t more ld apart digits in
    let m = reciprocal d (31 + t) in
    let passes : serves_signed d (31 + t) ≡ true = lt-ltb ((m * d - 2 ^ (31 + t)) * 2 ^ 31) (2 ^ (31 + t)) known.0.close in
    let first = found_before (serves_signed d) 32 32 (31 + t) (omega (arith, known.1)) (omega (arith, known.2)) passes in
    let f = found_passes (serves_signed d) 32 32 first.0 first.1 in
    let magic = signed_served d t first.0 more ld apart digits first.2 f.0 in
    (first.0, first.1, magic.0, magic.1, f.1, omega (arith, known.2, first.2))

pub signed_quotients_are_made : SignedQuotientsAreMade
signed_quotients_are_made d s n more ld apart ln e =
    let f = signed_amounts_serve d more ld apart in
    let same : f.0 ≡ s = found_same f.0 s (sym f.1 ∙ e) in
    let P : ℕ → Type 0 = λ s. IsSignedMagic d s (reciprocal d s) × (reciprocal d s < 2 ^ 32) × (s < 63) in
    let g : P s = subst P same (f.2, f.3, f.5) in
    divides_by_signed_product d s (reciprocal d s) n (omega arith) ld ln g.0 g.1 (omega (arith, g.2))
  where
    found_same : (a b : ℕ) → Some a ≡ Some b → a ≡ b
    found_same a b e = cc
