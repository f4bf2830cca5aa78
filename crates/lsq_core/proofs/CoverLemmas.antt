-- Sets of numbers of which it is noted which words have one.
use Rattle.std.proofs.Common.{◌≡◌, ◌≢◌, ℕ, ◌+◌, ◌-◌, ◌*◌, ◌/◌, ◌%◌, ◌<◌, ◌≤◌, ◌⊎◌, min, not, Bool, true, false, List, length, get_or, eqb, refl, sym, ap, ◌∙◌, inl, inr, arith}
use Rattle.std.specs.Int.{bit_at}
use Rattle.std.proofs.lemmas.Bool.{cases_eq, cases_lt}
use Rattle.std.proofs.lemmas.Nat.Bits.{bit_at-zero}
use Rattle.lsq_core.specs.Bits.{has, IsSet, IsNext, HasNoneIn, Covers, CoversOthers}
use Rattle.lsq_core.proofs.BitLemmas.{NoneFrom}

pub covers_none : (n noted : ℕ) (words filled : List ℕ) → HasNoneIn n words → length filled ≡ noted → (0 < noted → noted ≡ n / 64 + 1) → Covers words filled
covers_none n noted words filled h len is = record {
  room = λ some. let s = h.size in let e : noted ≡ n / 64 + 1 = is (omega arith) in omega arith;
  empty = λ some i not_so. h.none i;
}

pub covers_others : (at : ℕ) (b : Bool) (old new filled : List ℕ) → IsSet at b old new → Covers old filled → CoversOthers (at / 64) new filled
covers_others at b old new filled s h = record {
  room = λ some. let e = s.size in let r = h.room some in omega arith;
  empty = λ some i ne not_so. s.other i (λ e. ne (ap (λ n. n / 64) e)) ∙ h.empty some i not_so;
}

pub covers_noted : (at w : ℕ) (b : Bool) (words old new : List ℕ) → CoversOthers at words old → IsSet at b old new → w ≡ get_or words at 0 → (b ≡ false → w ≡ 0) → Covers words new
covers_noted at w b words old new h s is zero = record {
  room = λ some. let e = s.size in let r = h.room (omega arith) in omega arith;
  empty = λ some i not_so. by i not_so (let e = s.size in omega arith) (cases_eq (i / 64) at);
}
  where
    by : (i : ℕ) → has new (i / 64) ≡ false → 0 < length old → (i / 64 ≡ at) ⊎ (i / 64 ≡ at → ⊥) → has words i ≡ false
    by i not_so some (inl e) =
        let b0 : b ≡ false = sym s.here ∙ sym (ap (has new) e) ∙ not_so in
        let z : get_or words (i / 64) 0 ≡ 0 = ap (λ k. get_or words k 0) e ∙ sym is ∙ zero b0 in
        ap (λ n. eqb (bit_at n (i % 64)) 1) z ∙ ap (λ n. eqb n 1) (bit_at-zero (i % 64))
    by i not_so some (inr ne) = h.empty some i ne (sym (s.other (i / 64) ne) ∙ not_so)

pub noted_here : (words : List ℕ) (from to at end found : ℕ) → NoneFrom words from (min at to) → from ≤ at → at < to → IsNext words at (min to end) found → found < min to end → IsNext words from to found
noted_here words from to at end found h f l n here = record {
  from_on = (let a = n.from_on in omega arith);
  at_most = omega arith;
  here = λ b. n.here here;
  before = λ j g b. by j g b (cases_lt j at);
}
  where
    by : (j : ℕ) → from ≤ j → j < found → (j < at) ⊎ (at ≤ j) → has words j ≡ false
    by j g b (inl m) = h j g (omega arith)
    by j g b (inr m) = n.before j m b

pub noted_more : (words filled : List ℕ) (from to at found last r : ℕ) → Covers words filled → 0 < length filled → NoneFrom words from (min at to) → at < to
    → IsNext words at (min to ((at / 64 + 1) * 64)) found → min to ((at / 64 + 1) * 64) ≤ found → IsNext filled (at / 64 + 1) last r → NoneFrom words from (min (r * 64) to)
noted_more words filled from to at found last r c some h l n past m j f b = by (cases_lt j at) (cases_lt j ((at / 64 + 1) * 64))
  where
    by : (j < at) ⊎ (at ≤ j) → (j < (at / 64 + 1) * 64) ⊎ ((at / 64 + 1) * 64 ≤ j) → has words j ≡ false
    by (inl a) d = h j f (omega arith)
    by (inr a) (inl d) = n.before j a (omega arith)
    by (inr a) (inr d) = c.empty some j (m.before (j / 64) (omega arith) (omega arith))

pub noted_none : (words : List ℕ) (from to at : ℕ) → from ≤ to → NoneFrom words from (min at to) → to ≤ at → IsNext words from to to
noted_none words from to at order h l = record {
  from_on = order;
  at_most = omega arith;
  here = λ b. absurd (omega arith);
  before = λ j f b. h j f (omega arith);
}
