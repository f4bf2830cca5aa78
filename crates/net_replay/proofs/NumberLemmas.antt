-- Numbers at the front of a text.
use Rattle.std.proofs.Common.{◌≡◌, ℕ, suc, ◌+◌, ◌-◌, ◌^◌, ◌<◌, ◌∙◌, true, false, cond, Option, Some, None, List, [], ◌∷◌, ◌++◌, length, get_or, take, drop, refl, sym, ap, subst, arith, pos, decimal, length-append, drop-cons}
use Rattle.std.proofs.lemmas.List.{take-append-drop, append_cancel_left}
use Rattle.std.proofs.Math.Seq.{get_or-append_seam}
use Rattle.std.specs.Char.{is_ascii_digit}
use Rattle.std.specs.List.{prefix_len}
use Rattle.std.specs.Int.RustNames.{unsigned_abs}
use Rattle.el_base.specs.declared.digits.Number.{Number}
use Rattle.el_base.specs.Digits.{leading_digits}
use Rattle.el_base.proofs.ReadLemmas.{reads_back}
use Rattle.el_base.proofs.WrittenLemmas.{as_written}
use Rattle.el_base.proofs.DigitLemmas.{rest_is}
use Rattle.net_replay.specs.Words.{IsAtFront, IsNumberBefore}

mark_stops : (c : ℕ) (more : List ℕ) → is_ascii_digit c ≡ false → leading_digits (c ∷ more) ≡ []
mark_stops c more d = ap (λ b. take (cond b (1 + prefix_len is_ascii_digit more) 0) (c ∷ more)) d

-- a number that is written before a byte that is no digit stands in front
pub in_front : (c n : ℕ) (text more : List ℕ) → is_ascii_digit c ≡ false → n < 2 ^ 64 → text ≡ decimal n ++ c ∷ more → IsAtFront text n (length (decimal n))
in_front c n text more d small e =
    let P : List ℕ → Type 0 = λ l. IsAtFront l n (length (decimal n)) in
    subst P (sym e)
    (reads_back (pos n) [] (c ∷ more) small (mark_stops c more d) ∙ ap (λ k. Some (record { value = pos n; end = k; canonical = true })) (omega arith))

value_of : Option Number → ℕ
value_of None = 0
value_of (Some n) = unsigned_abs n.value

end_of : Option Number → ℕ
end_of None = 0
end_of (Some n) = n.end

-- one number stands there
front_one : (text : List ℕ) (m n d e : ℕ) → IsAtFront text m d → IsAtFront text n e → (m ≡ n) × (d ≡ e)
unfolding value_of end_of
front_one text m n d e a b = (ap value_of (sym a ∙ b), ap end_of (sym a ∙ b))

front_is : (text : List ℕ) (n end : ℕ) → n < 2 ^ 64 → IsAtFront text n end → take end text ≡ decimal n
front_is text n end small h =
    let whole : end ≡ end - 0 = omega arith in
    ap (λ k. take k text) whole ∙ as_written text 0 (record { value = pos n; end = end; canonical = true }) h refl small

-- and before a byte
pub number_some : (c n end : ℕ) (text : List ℕ) → n < 2 ^ 64 → IsAtFront text n end → end < length text → get_or text end 0 ≡ c
    → IsNumberBefore c text n (take (length text - (end + 1)) (drop (end + 1) text))
number_some c n end text small h l is =
    let cut : drop end text ≡ get_or text end 0 ∷ drop (suc end) text = drop-cons text end 0 l in
    let next : suc end ≡ end + 1 = omega arith in
    record {
      fits = small;
      whole =
          sym (take-append-drop end text) ∙ ap (λ x. x ++ drop end text) (front_is text n end small h)
          ∙ ap (λ x. decimal n ++ x) (cut ∙ ap (λ b. b ∷ drop (suc end) text) is ∙ ap (λ k. c ∷ drop k text) next ∙ ap (λ x. c ∷ x) (sym (rest_is text (end + 1))));
    }

-- no number stands before a byte
pub number_none : (c v end : ℕ) (text : List ℕ) → is_ascii_digit c ≡ false → IsAtFront text v end → ((end < length text) × (get_or text end 0 ≡ c) → ⊥)
    → (n : ℕ) (more : List ℕ) → IsNumberBefore c text n more → ⊥
number_none c v end text d h other n more k =
    let one = front_one text v n end (length (decimal n)) h (in_front c n text more d k.fits k.whole) in
    let at : end ≡ length (decimal n) = one.1 in
    let long : length text ≡ length (decimal n) + length (c ∷ more) = ap length k.whole ∙ length-append (decimal n) (c ∷ more) in
    other (omega arith, (ap (λ l. get_or l end 0) k.whole ∙ ap (λ i. get_or (decimal n ++ c ∷ more) i 0) at ∙ get_or-append_seam (decimal n) c more 0))

-- a number before a byte is one, and so is what follows
pub number_one : (c m n : ℕ) (text x y : List ℕ) → is_ascii_digit c ≡ false → IsNumberBefore c text m x → IsNumberBefore c text n y → (m ≡ n) × (x ≡ y)
number_one c m n text x y d a b =
    let one = front_one text m n (length (decimal m)) (length (decimal n)) (in_front c m text x d a.fits a.whole) (in_front c n text y d b.fits b.whole) in
    let same : decimal m ++ c ∷ x ≡ decimal m ++ c ∷ y = sym a.whole ∙ b.whole ∙ ap (λ k. decimal k ++ c ∷ y) (sym one.0) in
    (one.0, ap (drop 1) (append_cancel_left (decimal m) (c ∷ x) (c ∷ y) same))
