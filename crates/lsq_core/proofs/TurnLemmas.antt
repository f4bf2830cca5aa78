-- A row that is one word, turned so that the first entry of the ring has its lowest bit.
use Rattle.std.proofs.Common.{◌≡◌, ◌≢◌, ℕ, ◌+◌, ◌-◌, ◌*◌, ◌/◌, ◌%◌, ◌^◌, ◌<◌, ◌≤◌, ◌⊎◌, max, List, get_or, eqb, sym, ap, ◌∙◌, inl, inr, pow_pos, mod-lt, arith}
use Rattle.std.specs.Int.{bit_at, trailing_zeros, rotate_right, w64}
use Rattle.std.proofs.Math.Nat.{div-le_self}
use Rattle.std.proofs.lemmas.Bool.{cases_lt}
use Rattle.std.proofs.lemmas.Nat.{or_lt, shr_le}
use Rattle.std.proofs.lemmas.Nat.Bits.{bit_at-trailing_zeros, bit_at-zero, bit_at_above, bit_at_or, bit_at_cat_low, bit_at_cat_high}
use Rattle.lsq_core.specs.declared.entry.Entry.{Entry}
use Rattle.lsq_core.specs.declared.marks.Marks.{Marks}
use Rattle.lsq_core.specs.Bits.{has}
use Rattle.lsq_core.specs.Index.{wrapped, shown, Shows, IsNextIn, HasNoMoreIn}
use Rattle.lsq_core.proofs.BitLemmas.{shifted, left_below}
use Rattle.lsq_core.proofs.IndexLemmas.{wrapped_cases, wrapped_below, shown_yes, shown_out}

-- the bits of what is left of a word
low_bits : (n k : ℕ) → k < 64 → bit_at (n % 2 ^ 64) k ≡ bit_at n k
low_bits n k l =
    let e : n ≡ n / 2 ^ 64 * 2 ^ 64 + n % 2 ^ 64 = omega arith in
    sym (ap (λ m. bit_at m k) e ∙ bit_at_cat_low (n / 2 ^ 64) 64 (n % 2 ^ 64) k l)

raised_low : (n j k : ℕ) → k < 64 → k < j → bit_at (n * 2 ^ j % 2 ^ 64) k ≡ 0
raised_low n j k l b =
    let e : n * 2 ^ j ≡ n * 2 ^ j + 0 = omega arith in
    low_bits (n * 2 ^ j) k l ∙ ap (λ m. bit_at m k) e ∙ bit_at_cat_low n j 0 k b ∙ bit_at-zero k

raised_high : (n j k : ℕ) → k < 64 → j ≤ k → bit_at (n * 2 ^ j % 2 ^ 64) k ≡ bit_at n (k - j)
raised_high n j k l b =
    let e : n * 2 ^ j ≡ n * 2 ^ j + 0 = omega arith in
    low_bits (n * 2 ^ j) k l ∙ ap (λ m. bit_at m k) e ∙ bit_at_cat_high n j 0 k (pow_pos j) b

-- the bits of a word that is turned
turned : (n h k : ℕ) → n < 2 ^ 64 → h < 64 → k < 64 → bit_at (rotate_right w64 n h) k ≡ bit_at n (wrapped 64 h k)
turned n h k wide hl kl =
    bit_at_or (n / 2 ^ (h % 64)) (n * 2 ^ ((64 - h % 64) % 64) % 2 ^ 64) k
    ∙ (λ i. max (low i) (bit_at (n * 2 ^ ((64 - small i) % 64) % 2 ^ 64) k)) ∙ by (cases_lt 0 h) (wrapped_cases 64 h k)
  where
    small : h % 64 ≡ h
    small = omega arith

    low : bit_at (n / 2 ^ (h % 64)) k ≡ bit_at n (h + k)
    low = ap (λ i. bit_at (n / 2 ^ i) k) small ∙ shifted n h k

    by : (0 < h) ⊎ (h ≤ 0) → ((h + k < 64) × (wrapped 64 h k ≡ h + k)) ⊎ ((64 ≤ h + k) × (wrapped 64 h k + 64 ≡ h + k))
        → max (bit_at n (h + k)) (bit_at (n * 2 ^ ((64 - h) % 64) % 2 ^ 64) k) ≡ bit_at n (wrapped 64 h k)
    by (inl s) (inl p) =
        let j : (64 - h) % 64 ≡ 64 - h = omega arith in
        let l = p.0 in
        let z : bit_at (n * 2 ^ ((64 - h) % 64) % 2 ^ 64) k ≡ 0 = ap (λ i. bit_at (n * 2 ^ i % 2 ^ 64) k) j ∙ raised_low n (64 - h) k kl (omega arith) in
        let e : bit_at n (wrapped 64 h k) ≡ bit_at n (h + k) = ap (bit_at n) p.1 in
        omega arith
    by (inl s) (inr p) =
        let j : (64 - h) % 64 ≡ 64 - h = omega arith in
        let l = p.0 in
        let q = p.1 in
        let at : k - (64 - h) ≡ wrapped 64 h k = omega arith in
        let z : bit_at n (h + k) ≡ 0 = bit_at_above n 64 (h + k) wide l in
        let e : bit_at (n * 2 ^ ((64 - h) % 64) % 2 ^ 64) k ≡ bit_at n (wrapped 64 h k) = ap (λ i. bit_at (n * 2 ^ i % 2 ^ 64) k) j ∙ raised_high n (64 - h) k kl (omega arith) ∙ ap (bit_at n) at in
        omega arith
    by (inr s) (inl p) =
        let j : (64 - h) % 64 ≡ 0 = omega arith in
        let none : k - 0 ≡ h + k = omega arith in
        let e : bit_at n (wrapped 64 h k) ≡ bit_at n (h + k) = ap (bit_at n) p.1 in
        let f : bit_at (n * 2 ^ ((64 - h) % 64) % 2 ^ 64) k ≡ bit_at n (h + k) = ap (λ i. bit_at (n * 2 ^ i % 2 ^ 64) k) j ∙ raised_high n 0 k kl (omega arith) ∙ ap (bit_at n) none in
        omega arith
    by (inr s) (inr p) = let l = p.0 in absurd (omega arith)

-- what the turned word tells of an entry
turned_shows : (m : Marks) (head row n k : ℕ) (items : List Entry) → m.width ≡ 64 → Shows m head items → row < m.rows → k < 64
    → n ≡ get_or m.bits row 0 → n < 2 ^ 64 → shown m.kind m.rows row items k ≡ eqb (bit_at (rotate_right w64 n head) k) 1
turned_shows m head row n k items word h rl kl is wide =
    let hl : head < 64 = rw (← word) h.within in
    let p = wrapped_below 64 head k hl kl in
    let at : row * m.width + wrapped m.width head k ≡ row * 64 + wrapped 64 head k = (λ i. row * word i + wrapped (word i) head k) in
    let q : (row * 64 + wrapped 64 head k) / 64 ≡ row = omega arith in
    let r : (row * 64 + wrapped 64 head k) % 64 ≡ wrapped 64 head k = omega arith in
    sym (h.shows row k rl (rw word kl)) ∙ ap (has m.bits) at ∙ (λ i. eqb (bit_at (get_or m.bits (q i) 0) (r i)) 1)
    ∙ ap (λ v. eqb (bit_at v (wrapped 64 head k)) 1) (sym is) ∙ ap (λ b. eqb b 1) (sym (turned n head k wide hl kl))

abbrev turned_rest : ℕ → ℕ → ℕ → ℕ
turned_rest n head from = rotate_right w64 n head / 2 ^ from

turned_below : (n head : ℕ) → n < 2 ^ 64 → rotate_right w64 n head < 2 ^ 64
turned_below n head wide =
    let d = shr_le n (head % 64) in
    or_lt 64 (n / 2 ^ (head % 64)) (n * 2 ^ ((64 - head % 64) % 64) % 2 ^ 64) (omega arith) (mod-lt _ (pow_pos 64))

-- the bits from a number on
rest_shows : (m : Marks) (head row n from k : ℕ) (items : List Entry) → m.width ≡ 64 → Shows m head items → row < m.rows → from ≤ k → k < 64
    → n ≡ get_or m.bits row 0 → n < 2 ^ 64 → shown m.kind m.rows row items k ≡ eqb (bit_at (turned_rest n head from) (k - from)) 1
rest_shows m head row n from k items word h rl f kl is wide =
    let e : k ≡ from + (k - from) = omega arith in
    turned_shows m head row n k items word h rl kl is wide ∙ ap (λ j. eqb (bit_at (rotate_right w64 n head) j) 1) e
    ∙ ap (λ b. eqb b 1) (sym (shifted (rotate_right w64 n head) from (k - from)))

pub turned_none : (m : Marks) (head row n from : ℕ) → m.width ≡ 64 → row < m.rows → n ≡ get_or m.bits row 0 → n < 2 ^ 64
    → turned_rest n head from ≡ 0 → (items : List Entry) → Shows m head items → HasNoMoreIn m row from items
turned_none m head row n from word rl is wide none items h k f l =
    let most = h.most in
    let kl : k < 64 = omega arith in
    shown_out m.kind m.rows row k items l
    (rest_shows m head row n from k items word h rl f kl is wide ∙ ap (λ v. eqb (bit_at v (k - from)) 1) none ∙ ap (λ b. eqb b 1) (bit_at-zero (k - from)))

pub turned_next : (m : Marks) (head row n from : ℕ) → m.width ≡ 64 → row < m.rows → from < 64 → n ≡ get_or m.bits row 0 → n < 2 ^ 64
    → turned_rest n head from ≢ 0 → (items : List Entry) → Shows m head items
    → IsNextIn m row from (from + trailing_zeros w64 (turned_rest n head from)) items
turned_next m head row n from word rl fl is wide some items h =
    let d = div-le_self (rotate_right w64 n head) (2 ^ from) in
    let t = turned_below n head wide in
    let z = bit_at-trailing_zeros w64 (turned_rest n head from) (omega arith) (omega arith) in
    by z.1 z.2 (left_below (rotate_right w64 n head) from t some)
  where
    by : bit_at (turned_rest n head from) (trailing_zeros w64 (turned_rest n head from)) ≡ 1
        → ((i : ℕ) → i < trailing_zeros w64 (turned_rest n head from) → bit_at (turned_rest n head from) i ≡ 0)
        → from + trailing_zeros w64 (turned_rest n head from) < 64
        → IsNextIn m row from (from + trailing_zeros w64 (turned_rest n head from)) items
    by one zeros near =
        let back : from + trailing_zeros w64 (turned_rest n head from) - from ≡ trailing_zeros w64 (turned_rest n head from) = omega arith in
        let y = shown_yes m.kind m.rows row (from + trailing_zeros w64 (turned_rest n head from)) items
        (rest_shows m head row n from (from + trailing_zeros w64 (turned_rest n head from)) items word h rl (omega arith) near is wide
        ∙ ap (λ j. eqb (bit_at (turned_rest n head from) j) 1) back ∙ ap (λ b. eqb b 1) one) in
        let w = y.0 in
        record {
          from_on = omega arith;
          within = y.0;
          here = y.1;
          before = λ k f b. shown_out m.kind m.rows row k items (omega arith)
              (rest_shows m head row n from k items word h rl f (omega arith) is wide ∙ ap (λ d. eqb d 1) (zeros (k - from) (omega arith)));
        }
