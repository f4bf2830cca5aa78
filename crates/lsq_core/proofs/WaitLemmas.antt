-- The least row in which an entry stands, and the least port at which one waits.
use Rattle.std.proofs.Common.{◌≡◌, ◌≢◌, ℕ, ◌+◌, ◌-◌, ◌*◌, ◌/◌, ◌%◌, ◌^◌, ◌<◌, ◌≤◌, ◌⊎◌, true, false, Option, Some, None, is_some, MatchOption, List, get_or, eqb, sym, ap, ◌∙◌, inl, inr, mod-lt, arith}
use Rattle.std.proofs.Math.Nat.{mul-le-mul_right, div-add-mod'}
use Rattle.std.specs.Int.{bit_at, trailing_zeros, w64}
use Rattle.std.specs.List.{find}
use Rattle.std.proofs.lemmas.Bool.{cases_lt}
use Rattle.std.proofs.lemmas.Nat.Bits.{bit_at-trailing_zeros, bit_at-zero}
use Rattle.lsq_core.specs.declared.entry.Entry.{Entry}
use Rattle.lsq_core.specs.declared.entry.PortAct.{PortAct}
use Rattle.lsq_core.specs.declared.marks.Marks.{Marks}
use Rattle.lsq_core.specs.Views.{InPorts, entry_at}
use Rattle.lsq_core.specs.Bits.{has, IsNext}
use Rattle.lsq_core.specs.Wants.{asks, allows_at, HasNoPort, IsNextPort}
use Rattle.lsq_core.specs.Index.{in_row, wrapped, Shows, HasOneIn, HasNoMoreIn, IsNextRow, HasNoRow}
use Rattle.lsq_core.proofs.IndexLemmas.{high, low, wrapped_below, shown_yes, shown_out}
use Rattle.lsq_core.proofs.PlaceLemmas.{find_none}
use Rattle.lsq_core.proofs.PortLemmas.{ports_past, some_found}

-- a place of a row that is in the set is that of an entry
row_one : (m : Marks) (head row p : ℕ) (items : List Entry) → Shows m head items → row < m.rows → p < m.width → has m.bits (row * m.width + p) ≡ true → HasOneIn m row items
row_one m head row p items h rl pl is = by (cases_lt p head)
  where
    at : (k : ℕ) → k < m.width → wrapped m.width head k ≡ p → HasOneIn m row items
    at k kl e =
        let y = shown_yes m.kind m.rows row k items (sym (h.shows row k rl kl) ∙ ap (λ q. has m.bits (row * m.width + q)) e ∙ is) in
        record { at = k; within = y.0; here = y.1 }

    by : (p < head) ⊎ (head ≤ p) → HasOneIn m row items
    by (inl l) =
        let w = h.within in
        let e : wrapped m.width head (p + m.width - head) ≡ head + (p + m.width - head) - m.width = low m.width head (p + m.width - head) (omega arith) in
        at (p + m.width - head) (omega arith) (omega arith)
    by (inr l) =
        let e : wrapped m.width head (p - head) ≡ head + (p - head) = high m.width head (p - head) (omega arith) in
        at (p - head) (omega arith) (omega arith)

-- a row without a place in the set has no entry
row_none : (m : Marks) (head row : ℕ) (items : List Entry) → Shows m head items → row < m.rows → ((p : ℕ) → p < m.width → has m.bits (row * m.width + p) ≡ false) → HasNoMoreIn m row 0 items
row_none m head row items h rl none k f l =
    let most = h.most in
    let kl : k < m.width = omega arith in
    shown_out m.kind m.rows row k items l (sym (h.shows row k rl kl) ∙ none (wrapped m.width head k) (wrapped_below m.width head k h.within kl))

-- rows of one word
word_has : (m : Marks) (row p : ℕ) → m.width ≡ 64 → p < 64 → has m.bits (row * m.width + p) ≡ eqb (bit_at (get_or m.bits row 0) p) 1
word_has m row p word pl =
    let q : (row * 64 + p) / 64 ≡ row = omega arith in
    let r : (row * 64 + p) % 64 ≡ p = omega arith in
    ap (λ w. has m.bits (row * w + p)) word ∙ (λ i. eqb (bit_at (get_or m.bits (q i) 0) (r i)) 1)

-- none of the words from one on, and below another, has a bit
abbrev pub NoWord : List ℕ → ℕ → ℕ → Type 0
NoWord bits from to = (r : ℕ) → from ≤ r → r < to → get_or bits r 0 ≡ 0

pub word_more : (bits : List ℕ) (from at n : ℕ) → NoWord bits from at → n ≡ get_or bits at 0 → n ≡ 0 → NoWord bits from (at + 1)
word_more bits from at n none is zero r f l = by (cases_lt r at)
  where
    by : (r < at) ⊎ (at ≤ r) → get_or bits r 0 ≡ 0
    by (inl b) = none r f b
    by (inr b) = let e : r ≡ at = omega arith in ap (λ k. get_or bits k 0) e ∙ sym is ∙ zero

word_none : (m : Marks) (head row : ℕ) (items : List Entry) → m.width ≡ 64 → Shows m head items → row < m.rows → get_or m.bits row 0 ≡ 0 → HasNoMoreIn m row 0 items
word_none m head row items word h rl zero =
    row_none m head row items h rl (λ p pl. word_has m row p word (rw (← word) pl) ∙ ap (λ n. eqb (bit_at n p) 1) zero ∙ ap (λ b. eqb b 1) (bit_at-zero p))

pub words_none : (m : Marks) (from to at : ℕ) → m.width ≡ 64 → to ≤ m.rows → to ≤ at → NoWord m.bits from at
    → (head : ℕ) (items : List Entry) → Shows m head items → HasNoRow m from to items
words_none m from to at word tl past none head items h r f l = word_none m head r items word h (omega arith) (none r f (omega arith))

pub words_next : (m : Marks) (from to at n : ℕ) → m.width ≡ 64 → to ≤ m.rows → from ≤ at → at < to → NoWord m.bits from at → n ≡ get_or m.bits at 0 → n ≢ 0 → n < 2 ^ 64
    → (head : ℕ) (items : List Entry) → Shows m head items → IsNextRow m from to at items
words_next m from to at n word tl f l none is some wide head items h =
    let z = bit_at-trailing_zeros w64 n (omega arith) wide in
    let t = z.0 in
    record {
      from_on = f;
      below = l;
      here = row_one m head at (trailing_zeros w64 n) items h (omega arith) (rw word t)
          (word_has m at (trailing_zeros w64 n) word t ∙ ap (λ v. eqb (bit_at v (trailing_zeros w64 n)) 1) (sym is) ∙ ap (λ b. eqb b 1) z.1);
      before = λ r g b. word_none m head r items word h (omega arith) (none r g b);
    }

-- rows of many words
pub range_none : (m : Marks) (from to : ℕ) → to ≤ m.rows → IsNext m.bits (from * m.width) (to * m.width) (to * m.width)
    → (head : ℕ) (items : List Entry) → Shows m head items → HasNoRow m from to items
range_none m from to tl n head items h r f l = row_none m head r items h (omega arith) (λ p pl.
    (let a : from * m.width ≤ r * m.width = mul-le-mul_right m.width f in
    let b : (r + 1) * m.width ≤ to * m.width = mul-le-mul_right m.width (omega arith) in
    n.before (r * m.width + p) (omega arith) (omega arith)))

pub range_next : (m : Marks) (from to at : ℕ) → 0 < m.width → to ≤ m.rows → (at < to * m.width) × IsNext m.bits (from * m.width) (to * m.width) at
    → (head : ℕ) (items : List Entry) → Shows m head items → IsNextRow m from to (at / m.width) items
range_next m from to at some tl next head items h =
    let n = next.1 in
    let l = next.0 in
    let a = n.from_on in
    let split = div-add-mod' at m.width in
    let p : at % m.width < m.width = mod-lt at some in
    let below : at / m.width < to = under l split p (cases_lt (at / m.width) to) in
    record {
      from_on = over a split p (cases_lt (at / m.width) from);
      below = below;
      here = row_one m head (at / m.width) (at % m.width) items h (omega arith) p (ap (has m.bits) split ∙ n.here l);
      before = λ r f b. row_none m head r items h (omega arith) (λ q ql.
          (let c : from * m.width ≤ r * m.width = mul-le-mul_right m.width f in
          let d : (r + 1) * m.width ≤ at / m.width * m.width = mul-le-mul_right m.width (omega arith) in
          n.before (r * m.width + q) (omega arith) (omega arith)));
    }
  where
    under : at < to * m.width → at / m.width * m.width + at % m.width ≡ at → at % m.width < m.width → (at / m.width < to) ⊎ (to ≤ at / m.width) → at / m.width < to
    under l s p (inl b) = b
    under l s p (inr b) = let c : to * m.width ≤ at / m.width * m.width = mul-le-mul_right m.width b in absurd (omega arith)

    over : from * m.width ≤ at → at / m.width * m.width + at % m.width ≡ at → at % m.width < m.width → (at / m.width < from) ⊎ (from ≤ at / m.width) → from ≤ at / m.width
    over a s p (inl b) = let c : (at / m.width + 1) * m.width ≤ from * m.width = mul-le-mul_right m.width (omega arith) in absurd (omega arith)
    over a s p (inr b) = b

-- the rows are those of ports, and an entry stands in one where the act asks for it
pub port_of_row : (act : PortAct) (m : Marks) (ys items : List Entry) (from n : ℕ) (found : Option ℕ) → ((r : ℕ) (x : Entry) → in_row m.kind m.rows r x ≡ asks act r x)
    → ((r : ℕ) → allows_at act items r ≡ is_some (find (asks act r) items)) → ys ≡ items → InPorts n items
    → MatchOption found (HasNoRow m from n ys) (λ row. IsNextRow m from n row ys)
    → MatchOption found (HasNoPort (allows_at act items) from) (IsNextPort (allows_at act items) from)
port_of_row act m ys items from n found told allowed is within h = by found h
  where
    none : (r : ℕ) → HasNoMoreIn m r 0 ys → allows_at act items r ≡ false
    none r g = allowed r ∙ ap is_some (find_none (asks act r) items (λ k l. sym (told r (entry_at items k)) ∙ (rw (← is) (g k (omega arith) (rw is l)))))

    by : (f : Option ℕ) → MatchOption f (HasNoRow m from n ys) (λ row. IsNextRow m from n row ys) → MatchOption f (HasNoPort (allows_at act items) from) (IsNextPort (allows_at act items) from)
    by None g = ports_past act items from n n within (omega arith) (λ p f l. none p (g p f l))
    by (Some row) g = record {
      from_on = g.from_on;
      here = (let o = g.here in allowed row ∙ some_found (asks act row) items o.at (rw (← is) o.within) (sym (told row (entry_at items o.at)) ∙ (rw (← is) o.here)));
      before = λ q f b. none q (g.before q f b);
    }
