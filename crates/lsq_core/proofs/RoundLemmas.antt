-- A row of many words, one after another from a place on and round the ring.
use Rattle.std.proofs.Common.{◌≡◌, ◌≢◌, ℕ, ◌+◌, ◌-◌, ◌*◌, ◌/◌, ◌%◌, ◌^◌, ◌<◌, ◌≤◌, ◌⊎◌, min, false, List, get_or, sym, ap, ◌∙◌, inl, inr, arith}
use Rattle.std.specs.Int.{trailing_zeros, w64}
use Rattle.std.proofs.Math.Nat.{div-le_self}
use Rattle.std.proofs.lemmas.Bool.{cases_lt}
use Rattle.lsq_core.specs.declared.entry.Entry.{Entry}
use Rattle.lsq_core.specs.declared.marks.Marks.{Marks}
use Rattle.lsq_core.specs.Bits.{has, IsNext}
use Rattle.lsq_core.specs.Index.{wrapped, Shows, IsNextIn, HasNoMoreIn}
use Rattle.lsq_core.proofs.BitLemmas.{NoneFrom, none_left, left_below, next_here}
use Rattle.lsq_core.proofs.IndexLemmas.{slot, wrapped_cases, shown_yes, shown_out}

-- no entry from one number on and below another stands in the row
abbrev pub NoneRound : Marks → ℕ → ℕ → ℕ → ℕ → Type 0
NoneRound m head row from at = (k : ℕ) → from ≤ k → k < at → k < m.width → has m.bits (slot m.width head row k) ≡ false

-- the numbers whose places are in one word follow one another there
same_word : (w head base at k : ℕ) → w % 64 ≡ 0 → base % 64 ≡ 0 → at < w → at ≤ k → (base + wrapped w head at) % 64 + (k - at) < 64
    → base + wrapped w head k ≡ base + wrapped w head at + (k - at)
same_word w head base at k ww bw l f near = by (wrapped_cases w head at) (wrapped_cases w head k)
  where
    by : ((head + at < w) × (wrapped w head at ≡ head + at)) ⊎ ((w ≤ head + at) × (wrapped w head at + w ≡ head + at))
        → ((head + k < w) × (wrapped w head k ≡ head + k)) ⊎ ((w ≤ head + k) × (wrapped w head k + w ≡ head + k))
        → base + wrapped w head k ≡ base + wrapped w head at + (k - at)
    by (inl a) (inl b) = let p = a.1 in let q = b.1 in omega arith
    by (inl a) (inr b) = let p = a.0 in let q = b.0 in let e = a.1 in absurd (omega arith)
    by (inr a) (inl b) = let p = a.0 in let q = b.0 in absurd (omega arith)
    by (inr a) (inr b) = let p = a.1 in let q = b.1 in omega arith

rows_whole : (w row : ℕ) → w % 64 ≡ 0 → row * w % 64 ≡ 0
rows_whole w row whole =
    let e : w ≡ 64 * (w / 64) = omega arith in
    let f : row * w ≡ row * (64 * (w / 64)) = ap (λ n. row * n) e in
    omega arith

-- so many more numbers, whose places are in the word of the first
round_over : (m : Marks) (head row from at place n : ℕ) → m.width % 64 ≡ 0 → at < m.width → place ≡ slot m.width head row at
    → place % 64 + n ≤ 64 → NoneFrom m.bits place (place + n) → NoneRound m head row from at → NoneRound m head row from (at + n)
round_over m head row from at place n whole l is near none h k f b kl = by (cases_lt k at)
  where
    by : (k < at) ⊎ (at ≤ k) → has m.bits (slot m.width head row k) ≡ false
    by (inl d) = h k f d kl
    by (inr d) =
        let e : slot m.width head row k ≡ slot m.width head row at + (k - at) =
        same_word m.width head (row * m.width) at k whole (rows_whole m.width row whole) l d (rw (← is) (omega arith)) in
        ap (has m.bits) e ∙ none (slot m.width head row at + (k - at)) (omega arith) (omega arith)

pub round_more : (m : Marks) (head row from at place n : ℕ) → m.width % 64 ≡ 0 → at < m.width → place ≡ slot m.width head row at
    → n ≡ get_or m.bits (place / 64) 0 → n / 2 ^ (place % 64) ≡ 0 → NoneRound m head row from at → NoneRound m head row from (at + (64 - place % 64))
round_more m head row from at place n whole l is word zero h =
    let e : (place / 64 + 1) * 64 ≡ place + (64 - place % 64) = omega arith in
    let none : NoneFrom m.bits place ((place / 64 + 1) * 64) =
    none_left m.bits place place (n / 2 ^ (place % 64)) (λ j f b. absurd (omega arith)) (ap (λ v. v / 2 ^ (place % 64)) word) zero in
    round_over m head row from at place (64 - place % 64) whole l is (omega arith) (rw (← e) none) h

abbrev zeros_of : ℕ → ℕ → ℕ
zeros_of n place = trailing_zeros w64 (n / 2 ^ (place % 64))

-- the lowest bit that is left of a word
first_left : (words : List ℕ) (place n : ℕ) → n ≡ get_or words (place / 64) 0 → n < 2 ^ 64 → n / 2 ^ (place % 64) ≢ 0
    → IsNext words place (place + zeros_of n place + 1) (place + zeros_of n place)
first_left words place n word wide some =
    let d = div-le_self n (2 ^ (place % 64)) in
    let e : min (place + zeros_of n place + 1) (place + zeros_of n place) ≡ place + zeros_of n place = omega arith in
    rw e at
    (next_here words place (place + zeros_of n place + 1) place (n / 2 ^ (place % 64)) (λ j f b. absurd (omega arith)) (omega arith) (omega arith)
    (ap (λ v. v / 2 ^ (place % 64)) word) (rw (← word) wide) (omega arith) (omega arith))

round_zeros : (m : Marks) (head row from at place n : ℕ) → m.width % 64 ≡ 0 → at < m.width → place ≡ slot m.width head row at
    → n ≡ get_or m.bits (place / 64) 0 → n < 2 ^ 64 → n / 2 ^ (place % 64) ≢ 0 → NoneRound m head row from at → NoneRound m head row from (at + zeros_of n place)
round_zeros m head row from at place n whole l is word wide some h =
    let b = left_below n (place % 64) wide some in
    round_over m head row from at place (zeros_of n place) whole l is (omega arith) (first_left m.bits place n word wide some).before h

-- no entry is left
pub round_none : (m : Marks) (head row from at : ℕ) → row < m.rows → m.width ≤ at → NoneRound m head row from at
    → (items : List Entry) → Shows m head items → HasNoMoreIn m row from items
round_none m head row from at rl past none items h k f l =
    let most = h.most in
    let kl : k < m.width = omega arith in
    shown_out m.kind m.rows row k items l (sym (h.shows row k rl kl) ∙ none k f (omega arith) kl)

-- the bit is beyond the row's first place again
pub round_past : (m : Marks) (head row from at place n : ℕ) → m.width % 64 ≡ 0 → row < m.rows → at < m.width → place ≡ slot m.width head row at
    → n ≡ get_or m.bits (place / 64) 0 → n < 2 ^ 64 → n / 2 ^ (place % 64) ≢ 0 → m.width ≤ at + zeros_of n place → NoneRound m head row from at
    → (items : List Entry) → Shows m head items → HasNoMoreIn m row from items
round_past m head row from at place n whole rl l is word wide some past h =
    round_none m head row from (at + zeros_of n place) rl past (round_zeros m head row from at place n whole l is word wide some h)

pub round_next : (m : Marks) (head row from at place n : ℕ) → m.width % 64 ≡ 0 → row < m.rows → from ≤ at → at < m.width → place ≡ slot m.width head row at
    → n ≡ get_or m.bits (place / 64) 0 → n < 2 ^ 64 → n / 2 ^ (place % 64) ≢ 0 → at + zeros_of n place < m.width → NoneRound m head row from at
    → (items : List Entry) → Shows m head items → IsNextIn m row from (at + zeros_of n place) items
round_next m head row from at place n whole rl f l is word wide some within none items h =
    let b = left_below n (place % 64) wide some in
    let none = round_zeros m head row from at place n whole l is word wide some none in
    let e : slot m.width head row (at + zeros_of n place) ≡ place + zeros_of n place =
    same_word m.width head (row * m.width) at (at + zeros_of n place) whole (rows_whole m.width row whole) l (omega arith) (rw (← is) (omega arith)) ∙ omega arith in
    let y = shown_yes m.kind m.rows row (at + zeros_of n place) items
    (sym (h.shows row (at + zeros_of n place) rl within) ∙ ap (has m.bits) e ∙ (first_left m.bits place n word wide some).here (omega arith)) in
    let w = y.0 in
    record {
      from_on = omega arith;
      within = y.0;
      here = y.1;
      before = λ k g b. shown_out m.kind m.rows row k items (omega arith) (sym (h.shows row k rl (omega arith)) ∙ none k g b (omega arith));
    }
