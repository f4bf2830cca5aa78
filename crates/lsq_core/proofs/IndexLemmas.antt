-- Rows of places in a ring, as entries change, are added and are dropped.
use Rattle.std.proofs.Common.{◌≡◌, ℕ, suc, ◌+◌, ◌-◌, ◌*◌, ◌/◌, ◌%◌, ◌^◌, ◌<◌, ◌≤◌, ◌⊎◌, ◌&&◌, nat_lt, max, Bool, true, false, Option, Some, None, List, [], ◌∷◌, ◌++◌, length, set, eqb, refl, sym, ap, subst, ◌∙◌, inl, inr, arith}
use Rattle.std.proofs.Math.Nat.{mul-le-mul_right, mod-lt}
use Rattle.std.proofs.lemmas.Bool.{cases_eq, cases_lt, lt-ltb, le-ltb, ne_eqb, eq-eqb, false≢true}
use Rattle.std.proofs.lemmas.List.{get_or-set_same, get_or-set_other, length-set, length_push, get_or_push, get_or_append_left}
use Rattle.lsq_core.specs.declared.entry.Entry.{Entry}
use Rattle.lsq_core.specs.declared.marks.Kind.{Kind}
use Rattle.lsq_core.specs.declared.marks.Kind.TheVariants as kind
use Rattle.lsq_core.specs.declared.marks.Marks.{Marks}
use Rattle.lsq_core.specs.Acts.{rest, or_zero}
use Rattle.lsq_core.specs.Views.{entry_at, front_of, count_of}
use Rattle.lsq_core.specs.Bits.{has, IsSet}
use Rattle.lsq_core.specs.Index.{bucket, buckets, row_of, stands, in_row, wrapped, shown, HasRoom, AreAlike, Shows, KeepsShape, IsMarks}

-- places of a ring
pub wrapped_cases : (w h k : ℕ) → ((h + k < w) × (wrapped w h k ≡ h + k)) ⊎ ((w ≤ h + k) × (wrapped w h k + w ≡ h + k))
wrapped_cases w h k = by (cases_lt (h + k) w)
  where
    by : (h + k < w) ⊎ (w ≤ h + k) → ((h + k < w) × (wrapped w h k ≡ h + k)) ⊎ ((w ≤ h + k) × (wrapped w h k + w ≡ h + k))
    by (inl l) = inl (l, (let e : nat_lt (h + k) w ≡ true = lt-ltb (h + k) w l in rw e refl))
    by (inr l) = inr (l, (let e : nat_lt (h + k) w ≡ false = le-ltb (h + k) w l in rw e (omega arith)))

pub high : (w h k : ℕ) → h + k < w → wrapped w h k ≡ h + k
high w h k l = let e : nat_lt (h + k) w ≡ true = lt-ltb (h + k) w l in rw e refl

pub low : (w h k : ℕ) → w ≤ h + k → wrapped w h k ≡ h + k - w
low w h k l = let e : nat_lt (h + k) w ≡ false = le-ltb (h + k) w l in rw e refl

pub wrapped_below : (w h k : ℕ) → h < w → k < w → wrapped w h k < w
wrapped_below w h k hl kl = by (wrapped_cases w h k)
  where
    by : ((h + k < w) × (wrapped w h k ≡ h + k)) ⊎ ((w ≤ h + k) × (wrapped w h k + w ≡ h + k)) → wrapped w h k < w
    by (inl p) = let e = p.1 in let l = p.0 in omega arith
    by (inr p) = let e = p.1 in omega arith

wrapped_apart : (w h k j : ℕ) → h < w → k < w → j < w → wrapped w h k ≡ wrapped w h j → k ≡ j
wrapped_apart w h k j hl kl jl e = by (wrapped_cases w h k) (wrapped_cases w h j)
  where
    by : ((h + k < w) × (wrapped w h k ≡ h + k)) ⊎ ((w ≤ h + k) × (wrapped w h k + w ≡ h + k)) → ((h + j < w) × (wrapped w h j ≡ h + j)) ⊎ ((w ≤ h + j) × (wrapped w h j + w ≡ h + j)) → k ≡ j
    by (inl p) (inl q) = let a = p.1 in let b = q.1 in omega arith
    by (inl p) (inr q) = let a = p.1 in let b = q.1 in omega arith
    by (inr p) (inl q) = let a = p.1 in let b = q.1 in omega arith
    by (inr p) (inr q) = let a = p.1 in let b = q.1 in omega arith

-- one row after another
rows_apart : (w r s p q : ℕ) → p < w → q < w → r * w + p ≡ s * w + q → (r ≡ s) × (p ≡ q)
rows_apart w r s p q pl ql e = by (cases_lt r s) (cases_lt s r)
  where
    by : (r < s) ⊎ (s ≤ r) → (s < r) ⊎ (r ≤ s) → (r ≡ s) × (p ≡ q)
    by (inl l) b = let m : (r + 1) * w ≤ s * w = mul-le-mul_right w (omega arith) in absurd (omega arith)
    by (inr l) (inl b) = let m : (s + 1) * w ≤ r * w = mul-le-mul_right w (omega arith) in absurd (omega arith)
    by (inr l) (inr b) = let same : r ≡ s = omega arith in (same, (let m : r * w ≡ s * w = ap (λ n. n * w) same in omega arith))

-- the place of a number in a row
abbrev pub slot : ℕ → ℕ → ℕ → ℕ → ℕ
slot w h r k = r * w + wrapped w h k

slots_apart : (w h r s k j : ℕ) → h < w → k < w → j < w → slot w h r k ≡ slot w h s j → (r ≡ s) × (k ≡ j)
slots_apart w h r s k j hl kl jl e =
    let a = rows_apart w r s (wrapped w h k) (wrapped w h j) (wrapped_below w h k hl kl) (wrapped_below w h j hl jl) e in
    (a.0, wrapped_apart w h k j hl kl jl a.1)

-- what the sets show, by their parts
abbrev pub Shown : Kind → ℕ → ℕ → List ℕ → ℕ → List Entry → Type 0
Shown kd rows w bits head items = (r k : ℕ) → r < rows → k < w → has bits (slot w head r k) ≡ shown kd rows r items k

-- outside its row an entry does not show
other_row : (kd : Kind) (rows r : ℕ) (x : Entry) → (r ≡ row_of kd rows x → ⊥) → in_row kd rows r x ≡ false
other_row kd rows r x ne = let e : eqb (row_of kd rows x) r ≡ false = ne_eqb (row_of kd rows x) r (λ s. ne (sym s)) in rw e refl

own_row : (kd : Kind) (rows r : ℕ) (x : Entry) → r ≡ row_of kd rows x → in_row kd rows r x ≡ stands kd x
own_row kd rows r x same = let e : eqb (row_of kd rows x) r ≡ true = eq-eqb (row_of kd rows x) r (sym same) in rw e refl

shown_within : (kd : Kind) (rows r k : ℕ) (items : List Entry) (x : Entry) → k < length items → entry_at items k ≡ x → shown kd rows r items k ≡ in_row kd rows r x
shown_within kd rows r k items x l is = let e : nat_lt k (length items) ≡ true = lt-ltb k (length items) l in rw (e, is) refl

shown_past : (kd : Kind) (rows r k : ℕ) (items : List Entry) → length items ≤ k → shown kd rows r items k ≡ false
shown_past kd rows r k items l = let e : nat_lt k (length items) ≡ false = le-ltb k (length items) l in rw e refl

pub change_shown : (kd : Kind) (rows w head at : ℕ) (b0 b1 b2 : List ℕ) (items : List Entry) (x y : Entry) → head < w → at < w → at < length items → length items ≤ w
    → entry_at items at ≡ x → Shown kd rows w b0 head items
    → IsSet (slot w head (row_of kd rows x) at) false b0 b1 → IsSet (slot w head (row_of kd rows y) at) (stands kd y) b1 b2
    → Shown kd rows w b2 head (set items at y)
change_shown kd rows w head at b0 b1 b2 items x y hl al l most is h s t r k rl kl = by (cases_eq k at)
  where
    after : shown kd rows r (set items at y) at ≡ in_row kd rows r y
    after = shown_within kd rows r at (set items at y) y (rw (length-set items at y) l) (get_or-set_same items at y _ l)

    here : (k ≡ at) → (r ≡ row_of kd rows y) ⊎ (r ≡ row_of kd rows y → ⊥) → (r ≡ row_of kd rows x) ⊎ (r ≡ row_of kd rows x → ⊥) → has b2 (slot w head r at) ≡ shown kd rows r (set items at y) at
    here e (inl own) other = ap (λ q. has b2 (slot w head q at)) own ∙ t.here ∙ sym (after ∙ own_row kd rows r y own)
    here e (inr out) (inl own) =
        t.other (slot w head r at) (λ q. out (slots_apart w head r (row_of kd rows y) at at hl al al q).0) ∙ ap (λ q. has b1 (slot w head q at)) own ∙ s.here ∙ sym (after ∙ other_row kd rows r y out)
    here e (inr out) (inr nor) =
        t.other (slot w head r at) (λ q. out (slots_apart w head r (row_of kd rows y) at at hl al al q).0)
        ∙ s.other (slot w head r at) (λ q. nor (slots_apart w head r (row_of kd rows x) at at hl al al q).0)
        ∙ h r at rl al ∙ shown_within kd rows r at items x l is ∙ other_row kd rows r x nor ∙ sym (after ∙ other_row kd rows r y out)

    by : (k ≡ at) ⊎ (k ≡ at → ⊥) → has b2 (slot w head r k) ≡ shown kd rows r (set items at y) k
    by (inl e) = rw e (here e (cases_eq r (row_of kd rows y)) (cases_eq r (row_of kd rows x)))
    by (inr ne) =
        let a = t.other (slot w head r k) (λ q. ne (slots_apart w head r (row_of kd rows y) k at hl kl al q).1) in
        let b = s.other (slot w head r k) (λ q. ne (slots_apart w head r (row_of kd rows x) k at hl kl al q).1) in
        let c : shown kd rows r (set items at y) k ≡ shown kd rows r items k = rw (length-set items at y, get_or-set_other items at k y _ ne) refl in
        a ∙ b ∙ h r k rl kl ∙ sym c

-- one entry becomes another of its row
kept_shown : (kd : Kind) (rows w head at : ℕ) (b0 b1 : List ℕ) (items : List Entry) (y : Entry) → head < w → at < w → at < length items
    → row_of kd rows (entry_at items at) ≡ row_of kd rows y → Shown kd rows w b0 head items
    → IsSet (slot w head (row_of kd rows y) at) (stands kd y) b0 b1 → Shown kd rows w b1 head (set items at y)
kept_shown kd rows w head at b0 b1 items y hl al l same h t r k rl kl = by (cases_eq k at)
  where
    after : shown kd rows r (set items at y) at ≡ in_row kd rows r y
    after = shown_within kd rows r at (set items at y) y (rw (length-set items at y) l) (get_or-set_same items at y _ l)

    here : (r ≡ row_of kd rows y) ⊎ (r ≡ row_of kd rows y → ⊥) → has b1 (slot w head r at) ≡ shown kd rows r (set items at y) at
    here (inl own) = ap (λ q. has b1 (slot w head q at)) own ∙ t.here ∙ sym (after ∙ own_row kd rows r y own)
    here (inr out) =
        t.other (slot w head r at) (λ q. out (slots_apart w head r (row_of kd rows y) at at hl al al q).0)
        ∙ h r at rl al ∙ shown_within kd rows r at items (entry_at items at) l refl ∙ other_row kd rows r (entry_at items at) (λ q. out (q ∙ same))
        ∙ sym (after ∙ other_row kd rows r y out)

    by : (k ≡ at) ⊎ (k ≡ at → ⊥) → has b1 (slot w head r k) ≡ shown kd rows r (set items at y) k
    by (inl e) = rw e (here (cases_eq r (row_of kd rows y)))
    by (inr ne) =
        let c : shown kd rows r (set items at y) k ≡ shown kd rows r items k = rw (length-set items at y, get_or-set_other items at k y _ ne) refl in
        t.other (slot w head r k) (λ q. ne (slots_apart w head r (row_of kd rows y) k at hl kl al q).1) ∙ h r k rl kl ∙ sym c

pub add_shown : (kd : Kind) (rows w head at : ℕ) (b0 b1 : List ℕ) (items : List Entry) (y : Entry) → head < w → at < w → length items ≡ at
    → Shown kd rows w b0 head items → IsSet (slot w head (row_of kd rows y) at) (stands kd y) b0 b1 → Shown kd rows w b1 head (items ++ y ∷ [])
add_shown kd rows w head at b0 b1 items y hl al l h t r k rl kl = by (cases_eq k at) (cases_lt k at)
  where
    more : length (items ++ y ∷ []) ≡ at + 1
    more = length_push items y ∙ ap (λ n. n + 1) l

    after : shown kd rows r (items ++ y ∷ []) at ≡ in_row kd rows r y
    after = shown_within kd rows r at (items ++ y ∷ []) y (rw more (omega arith)) (get_or_push items y _ at l)

    here : (r ≡ row_of kd rows y) ⊎ (r ≡ row_of kd rows y → ⊥) → has b1 (slot w head r at) ≡ shown kd rows r (items ++ y ∷ []) at
    here (inl own) = ap (λ q. has b1 (slot w head q at)) own ∙ t.here ∙ sym (after ∙ own_row kd rows r y own)
    here (inr out) =
        t.other (slot w head r at) (λ q. out (slots_apart w head r (row_of kd rows y) at at hl al al q).0)
        ∙ h r at rl al ∙ shown_past kd rows r at items (omega arith) ∙ sym (after ∙ other_row kd rows r y out)

    by : (k ≡ at) ⊎ (k ≡ at → ⊥) → (k < at) ⊎ (at ≤ k) → has b1 (slot w head r k) ≡ shown kd rows r (items ++ y ∷ []) k
    by (inl e) o = rw e (here (cases_eq r (row_of kd rows y)))
    by (inr ne) (inl b) =
        let m : k < length items = omega arith in
        t.other (slot w head r k) (λ q. ne (slots_apart w head r (row_of kd rows y) k at hl kl al q).1)
        ∙ h r k rl kl ∙ shown_within kd rows r k items (entry_at items k) m refl
        ∙ sym (shown_within kd rows r k (items ++ y ∷ []) (entry_at items k) (rw more (omega arith)) (get_or_append_left items (y ∷ []) _ k m))
    by (inr ne) (inr b) =
        t.other (slot w head r k) (λ q. ne (slots_apart w head r (row_of kd rows y) k at hl kl al q).1)
        ∙ h r k rl kl ∙ shown_past kd rows r k items (omega arith) ∙ sym (shown_past kd rows r k (items ++ y ∷ []) (rw more (omega arith)))

-- a ring whose head moves on by one
abbrev Turns : ℕ → ℕ → ℕ → Type 0
Turns w h k = ((h + k < w) × (wrapped w h k ≡ h + k)) ⊎ ((w ≤ h + k) × (wrapped w h k + w ≡ h + k))

turned_more : (w h k : ℕ) → h < w → suc k < w → wrapped w (wrapped w h 1) k ≡ wrapped w h (suc k)
turned_more w h k hl kl = by (wrapped_cases w h 1) (wrapped_cases w (wrapped w h 1) k) (wrapped_cases w h (suc k))
  where
    by : Turns w h 1 → Turns w (wrapped w h 1) k → Turns w h (suc k) → wrapped w (wrapped w h 1) k ≡ wrapped w h (suc k)
    by (inl p) (inl q) (inl r) = let a = p.1 in let b = q.1 in let d = r.1 in omega arith
    by (inl p) (inl q) (inr r) = let a = p.1 in let b = q.1 in let d = r.1 in let e = q.0 in let f = r.0 in omega arith
    by (inl p) (inr q) (inl r) = let a = p.1 in let b = q.1 in let d = r.1 in let e = q.0 in let f = r.0 in omega arith
    by (inl p) (inr q) (inr r) = let a = p.1 in let b = q.1 in let d = r.1 in omega arith
    by (inr p) (inl q) (inl r) = let a = p.1 in let b = q.1 in let d = r.1 in let f = r.0 in omega arith
    by (inr p) (inl q) (inr r) = let a = p.1 in let b = q.1 in let d = r.1 in omega arith
    by (inr p) (inr q) (inl r) = let a = p.1 in let b = q.1 in let d = r.1 in let e = q.0 in omega arith
    by (inr p) (inr q) (inr r) = let a = p.1 in let b = q.1 in let d = r.1 in let e = q.0 in omega arith

turned_last : (w h k : ℕ) → h < w → suc k ≡ w → wrapped w (wrapped w h 1) k ≡ wrapped w h 0
turned_last w h k hl kl = by (wrapped_cases w h 1) (wrapped_cases w (wrapped w h 1) k) (wrapped_cases w h 0)
  where
    by : Turns w h 1 → Turns w (wrapped w h 1) k → Turns w h 0 → wrapped w (wrapped w h 1) k ≡ wrapped w h 0
    by p q (inr r) = absurd (let f = r.0 in omega arith)
    by (inl p) (inl q) (inl r) = let a = p.1 in let b = q.1 in let d = r.1 in let e = q.0 in omega arith
    by (inl p) (inr q) (inl r) = let a = p.1 in let b = q.1 in let d = r.1 in omega arith
    by (inr p) (inl q) (inl r) = let a = p.1 in let b = q.1 in let d = r.1 in let e = p.0 in omega arith
    by (inr p) (inr q) (inl r) = let a = p.1 in let b = q.1 in let d = r.1 in let e = q.0 in omega arith

pub retire_shown : (kd : Kind) (rows w head : ℕ) (b0 b1 : List ℕ) (z : Entry) (zs : List Entry) → head < w → suc (length zs) ≤ w
    → Shown kd rows w b0 head (z ∷ zs) → IsSet (slot w head (row_of kd rows z) 0) false b0 b1 → Shown kd rows w b1 (wrapped w head 1) zs
retire_shown kd rows w head b0 b1 z zs hl most h t r k rl kl = by (cases_lt (suc k) w)
  where
    next : (k < length zs) ⊎ (length zs ≤ k) → shown kd rows r (z ∷ zs) (suc k) ≡ shown kd rows r zs k
    next (inl l) =
        let m : suc k < length (z ∷ zs) = omega arith in
        shown_within kd rows r (suc k) (z ∷ zs) (entry_at zs k) m refl ∙ sym (shown_within kd rows r k zs (entry_at zs k) l refl)
    next (inr l) = let m : length (z ∷ zs) ≤ suc k = omega arith in shown_past kd rows r (suc k) (z ∷ zs) m ∙ sym (shown_past kd rows r k zs l)

    last : (r ≡ row_of kd rows z) ⊎ (r ≡ row_of kd rows z → ⊥) → has b1 (slot w head r 0) ≡ false
    last (inl own) = ap (λ q. has b1 (slot w head q 0)) own ∙ t.here
    last (inr out) =
        let some : 0 < length (z ∷ zs) = omega arith in
        t.other (slot w head r 0) (λ q. out (slots_apart w head r (row_of kd rows z) 0 0 hl (omega arith) (omega arith) q).0)
        ∙ h r 0 rl (omega arith) ∙ shown_within kd rows r 0 (z ∷ zs) z some refl ∙ other_row kd rows r z out

    by : (suc k < w) ⊎ (w ≤ suc k) → has b1 (slot w (wrapped w head 1) r k) ≡ shown kd rows r zs k
    by (inl l) =
        ap (λ p. has b1 (r * w + p)) (turned_more w head k hl l)
        ∙ t.other (slot w head r (suc k)) (λ q. let e = (slots_apart w head r (row_of kd rows z) (suc k) 0 hl l (omega arith) q).1 in omega arith)
        ∙ h r (suc k) rl l ∙ next (cases_lt k (length zs))
    by (inr l) =
        ap (λ p. has b1 (r * w + p)) (turned_last w head k hl (omega arith))
        ∙ last (cases_eq r (row_of kd rows z)) ∙ sym (shown_past kd rows r k zs (omega arith))

-- the sets of the code
shows_after : (m n : Marks) (head head' : ℕ) (items : List Entry) → n.kind ≡ m.kind → n.rows ≡ m.rows → n.width ≡ m.width → length n.bits ≡ length m.bits
    → HasRoom m → head' < m.width → length items ≤ m.width → Shown m.kind m.rows m.width n.bits head' items
    → ((k : ℕ) → k < length items → row_of m.kind m.rows (entry_at items k) < m.rows) → Shows n head' items
shows_after m n head head' items k r w len room hl most shown within = record {
  room = record { whole = rw w room.whole; bits = rw (r, w, len) room.bits; small = rw (r, w) room.small };
  within = rw w hl;
  most = rw w most;
  shows = λ a b al bl. rw (k, r, w) (shown a b (rw (← r) al) (rw (← w) bl));
  rows = λ a al. rw (k, r) (within a al);
}

rows_set : (kd : Kind) (rows at : ℕ) (items : List Entry) (y : Entry) → at < length items → row_of kd rows y < rows
    → ((k : ℕ) → k < length items → row_of kd rows (entry_at items k) < rows) → (k : ℕ) → k < length items → row_of kd rows (entry_at (set items at y) k) < rows
rows_set kd rows at items y l yl within k kl = by (cases_eq k at)
  where
    by : (k ≡ at) ⊎ (k ≡ at → ⊥) → row_of kd rows (entry_at (set items at y) k) < rows
    by (inl e) = rw (e, get_or-set_same items at y _ l) yl
    by (inr ne) = rw (get_or-set_other items at k y _ ne) (within k kl)

pub changed_in_row : (m n : Marks) (kd : Kind) (place r : ℕ) (b : Bool) (y : Entry) → m.kind ≡ kd → row_of kd m.rows y < m.rows
    → r ≡ row_of kd m.rows y → b ≡ stands kd y → KeepsShape m n → IsSet (r * m.width + place) b m.bits n.bits
    → (head at : ℕ) (items : List Entry) → place ≡ wrapped m.width head at → at < length items → row_of kd m.rows (entry_at items at) ≡ row_of kd m.rows y
    → Shows m head items → Shows n head (set items at y)
changed_in_row m n kd place r b y ke yl re be mn p head at items pe l same h =
    let re' : r ≡ row_of m.kind m.rows y = re ∙ ap (λ k. row_of k m.rows y) (sym ke) in
    let be' : b ≡ stands m.kind y = be ∙ ap (λ k. stands k y) (sym ke) in
    let yl' : row_of m.kind m.rows y < m.rows = rw ke yl in
    let same' : row_of m.kind m.rows (entry_at items at) ≡ row_of m.kind m.rows y = rw ke same in
    let p' : IsSet (slot m.width head (row_of m.kind m.rows y) at) (stands m.kind y) m.bits n.bits = rw (← re', ← be', ← pe) p in
    let most = h.most in
    shows_after m n head head (set items at y) mn.kind mn.rows mn.width p.size h.room h.within (rw (length-set items at y) h.most)
    (kept_shown m.kind m.rows m.width head at m.bits n.bits items y h.within (omega arith) l same' h.shows p')
    (λ k kl. rows_set m.kind m.rows at items y l yl' h.rows k (rw (← length-set items at y) kl))

pub changed : (m n o : Marks) (kd : Kind) (place s : ℕ) (b : Bool) (x y : Entry) → m.kind ≡ kd → row_of kd m.rows y < m.rows → KeepsShape m n
    → ((head at : ℕ) (items : List Entry) → place ≡ wrapped m.width head at → at < length items → entry_at items at ≡ x → Shows m head items → IsSet (row_of kd m.rows x * m.width + place) false m.bits n.bits)
    → s ≡ row_of kd n.rows y → b ≡ stands kd y → KeepsShape n o → IsSet (s * n.width + place) b n.bits o.bits
    → (head at : ℕ) (items : List Entry) → place ≡ wrapped m.width head at → at < length items → entry_at items at ≡ x → Shows m head items → Shows o head (set items at y)
changed m n o kd place s b x y ke yl mn leaves se be nn q head at items pe l is h =
    let p = leaves head at items pe l is h in
    let se' : s ≡ row_of m.kind m.rows y = se ∙ (λ i. row_of (sym ke i) (mn.rows i) y) in
    let be' : b ≡ stands m.kind y = be ∙ ap (λ k. stands k y) (sym ke) in
    let yl' : row_of m.kind m.rows y < m.rows = rw ke yl in
    let p' : IsSet (slot m.width head (row_of m.kind m.rows x) at) false m.bits n.bits = rw (ke, ← pe) p in
    let q' : IsSet (slot m.width head (row_of m.kind m.rows y) at) (stands m.kind y) n.bits o.bits = rw (← se', ← be', ← pe, ← mn.width) q in
    let most = h.most in
    shows_after m o head head (set items at y) (nn.kind ∙ mn.kind) (nn.rows ∙ mn.rows) (nn.width ∙ mn.width) (q.size ∙ p.size) h.room h.within (rw (length-set items at y) h.most)
    (change_shown m.kind m.rows m.width head at m.bits n.bits o.bits items x y h.within (omega arith) l h.most is h.shows p' q')
    (λ k kl. rows_set m.kind m.rows at items y l yl' h.rows k (rw (← length-set items at y) kl))

added : (m n : Marks) (kd : Kind) (place r : ℕ) (b : Bool) (y : Entry) → m.kind ≡ kd → row_of kd m.rows y < m.rows
    → r ≡ row_of kd m.rows y → b ≡ stands kd y → KeepsShape m n
    → (head : ℕ) (items : List Entry) → IsSet (r * m.width + place) b m.bits n.bits → place ≡ wrapped m.width head (length items) → length items < m.width
    → Shows m head items → Shows n head (items ++ y ∷ [])
added m n kd place r b y ke yl re be mn head items p pe l h =
    let re' : r ≡ row_of m.kind m.rows y = re ∙ ap (λ k. row_of k m.rows y) (sym ke) in
    let be' : b ≡ stands m.kind y = be ∙ ap (λ k. stands k y) (sym ke) in
    let yl' : row_of m.kind m.rows y < m.rows = rw ke yl in
    let p' : IsSet (slot m.width head (row_of m.kind m.rows y) (length items)) (stands m.kind y) m.bits n.bits = rw (← re', ← be', ← pe) p in
    let len = length_push items y in
    shows_after m n head head (items ++ y ∷ []) mn.kind mn.rows mn.width p.size h.room h.within (omega arith)
    (add_shown m.kind m.rows m.width head (length items) m.bits n.bits items y h.within l refl h.shows p')
    (λ k kl. row yl' k (cases_lt k (length items)) kl)
  where
    row : row_of m.kind m.rows y < m.rows → (k : ℕ) → (k < length items) ⊎ (length items ≤ k) → k < length (items ++ y ∷ []) → row_of m.kind m.rows (entry_at (items ++ y ∷ []) k) < m.rows
    row yl' k (inl i) kl = rw (get_or_append_left items (y ∷ []) _ k i) (h.rows k i)
    row yl' k (inr i) kl = let len = length_push items y in let e : length items ≡ k = omega arith in rw (get_or_push items y _ k e) yl'

pub added_in : (m n : Marks) (kd : Kind) (place r : ℕ) (b : Bool) (y : Entry) → m.kind ≡ kd → row_of kd m.rows y < m.rows
    → r ≡ row_of kd m.rows y → b ≡ stands kd y → KeepsShape m n → IsSet (r * m.width + place) b m.bits n.bits
    → (head : ℕ) (items : List Entry) → place ≡ wrapped m.width head (length items) → length items < m.width
    → Shows m head items → Shows n head (items ++ y ∷ [])
added_in m n kd place r b y ke yl re be mn p head items = added m n kd place r b y ke yl re be mn head items p

retired_by : (m n : Marks) (head r : ℕ) (items : List Entry) (x : Entry) → r ≡ row_of m.kind m.rows x → KeepsShape m n → IsSet (slot m.width head r 0) false m.bits n.bits
    → front_of items ≡ Some x → Shows m head items → Shows n (wrapped m.width head 1) (rest items)
retired_by m n head r [] x re mn p is h = absurd (is_some_none is)
  where
    is_some_none : None ≡ Some x → ⊥
    is_some_none e = cc
retired_by m n head r (z ∷ zs) x re mn p is h =
    let p' : IsSet (slot m.width head (row_of m.kind m.rows z) 0) false m.bits n.bits = rw (own, ← re) p in
    let w : wrapped m.width head 1 < m.width = below (wrapped_cases m.width head 1) in
    let most : suc (length zs) ≤ m.width = h.most in
    shows_after m n head (wrapped m.width head 1) zs mn.kind mn.rows mn.width p.size h.room w (omega arith)
    (retire_shown m.kind m.rows m.width head m.bits n.bits z zs h.within most h.shows p')
    (λ k kl. h.rows (suc k) (let l : suc k < suc (length zs) = omega arith in l))
  where
    own : z ≡ x
    own = ap (first_or z) is
      where
        first_or : Entry → Option Entry → Entry
        first_or d None = d
        first_or d (Some y) = y

    below : Turns m.width head 1 → wrapped m.width head 1 < m.width
    below (inl t) = let a = t.1 in let b = t.0 in omega arith
    below (inr t) = let a = t.1 in let b = h.within in omega arith

-- what the sets show once something is made of an entry, where x becomes y
pub now_shows : (m n : Marks) (kd : Kind) (rows w place head at : ℕ) (items : List Entry) (x new y : Entry) → IsMarks kd rows w m → place ≡ wrapped w head at
    → at < length items → entry_at items at ≡ x → new ≡ y → row_of kd m.rows x ≡ row_of kd m.rows y
    → ((head at : ℕ) (items : List Entry) → place ≡ wrapped m.width head at → at < length items → row_of kd m.rows (entry_at items at) ≡ row_of kd m.rows new → Shows m head items → Shows n head (set items at new))
    → Shows m head items → Shows n head (set items at y)
now_shows m n kd rows w place head at items x new y i pe l is made same change h =
    let P : Entry → Type 0 = λ z. Shows n head (set items at z) in
    subst P made (change head at items (rw i.width pe) l (ap (row_of kd m.rows) is ∙ same ∙ ap (row_of kd m.rows) (sym made)) h)

pub shifted_shows : (m n : Marks) (kd : Kind) (rows w place head at : ℕ) (items : List Entry) (x new y : Entry) → IsMarks kd rows w m → place ≡ wrapped w head at
    → at < length items → entry_at items at ≡ x → new ≡ y
    → ((head at : ℕ) (items : List Entry) → place ≡ wrapped m.width head at → at < length items → entry_at items at ≡ x → Shows m head items → Shows n head (set items at new))
    → Shows m head items → Shows n head (set items at y)
shifted_shows m n kd rows w place head at items x new y i pe l is made change h =
    let P : Entry → Type 0 = λ z. Shows n head (set items at z) in
    subst P made (change head at items (rw i.width pe) l is h)

pub still_shows : (m : Marks) (kd : Kind) (rows w head at : ℕ) (items : List Entry) (x y : Entry) → IsMarks kd rows w m → AreAlike kd m.rows x y
    → row_of kd m.rows x ≡ row_of kd m.rows y → at < length items → entry_at items at ≡ x → Shows m head items → Shows m head (set items at y)
still_shows m kd rs w head at items x y i same row l is h = record {
  room = h.room;
  within = h.within;
  most = rw (length-set items at y) h.most;
  shows = λ r k rl kl. h.shows r k rl kl ∙ sym (shown_too r k (cases_eq k at));
  rows = λ k kl. rows_set m.kind m.rows at items y l yl h.rows k (rw (← length-set items at y) kl);
}
  where
    yl : row_of m.kind m.rows y < m.rows
    yl = let e : row_of m.kind m.rows (entry_at items at) ≡ row_of m.kind m.rows y = ap (row_of m.kind m.rows) is ∙ (rw i.kind row) in rw (← e) (h.rows at l)

    alike : (r : ℕ) → in_row m.kind m.rows r x ≡ in_row m.kind m.rows r y
    alike = rw i.kind same

    shown_too : (r k : ℕ) → (k ≡ at) ⊎ (k ≡ at → ⊥) → shown m.kind m.rows r (set items at y) k ≡ shown m.kind m.rows r items k
    shown_too r k (inl e) =
        rw e
        (shown_within m.kind m.rows r at (set items at y) y (rw (length-set items at y) l) (get_or-set_same items at y _ l)
        ∙ sym (alike r) ∙ sym (shown_within m.kind m.rows r at items x l is))
    shown_too r k (inr ne) = rw (length-set items at y, get_or-set_other items at k y _ ne) refl

-- an entry that does not stand in its row
and_false : (b : Bool) → b && false ≡ false
and_false true = refl
and_false false = refl

in_none : (kd : Kind) (rows r : ℕ) (x : Entry) → stands kd x ≡ false → in_row kd rows r x ≡ false
in_none kd rows r x out = rw out (and_false (eqb (row_of kd rows x) r))

keeps_shape : (m : Marks) → KeepsShape m m
keeps_shape m = record { kind = refl; rows = refl; width = refl; size = refl }

pub added_out : (m : Marks) (kd : Kind) (place : ℕ) (y : Entry) → m.kind ≡ kd → row_of kd m.rows y < m.rows → stands kd y ≡ false
    → (head : ℕ) (items : List Entry) → place ≡ wrapped m.width head (length items) → length items < m.width
    → Shows m head items → Shows m head (items ++ y ∷ [])
added_out m kd place y ke yl out head items pe l h =
    added m m kd place (row_of kd m.rows y) (stands kd y) y ke yl refl refl (keeps_shape m) head items (record { size = refl; here = rw pe here; other = λ j ne. refl }) pe l h
  where
    here : has m.bits (slot m.width head (row_of kd m.rows y) (length items)) ≡ stands kd y
    here = h.shows (row_of kd m.rows y) (length items) yl l ∙ shown_past m.kind m.rows (row_of kd m.rows y) (length items) items (omega arith) ∙ sym out

-- what is taken out of its row, or was not in it
pub left_in : (m n : Marks) (kd : Kind) (place r : ℕ) (x : Entry) → r ≡ row_of kd m.rows x → IsSet (r * m.width + place) false m.bits n.bits
    → (head at : ℕ) (items : List Entry) → place ≡ wrapped m.width head at → at < length items → entry_at items at ≡ x → Shows m head items
    → IsSet (row_of kd m.rows x * m.width + place) false m.bits n.bits
left_in m n kd place r x re p head at items pe l is h = rw (← re) p

pub left_out : (m : Marks) (kd : Kind) (place : ℕ) (x : Entry) → m.kind ≡ kd → row_of kd m.rows x < m.rows → stands kd x ≡ false
    → (head at : ℕ) (items : List Entry) → place ≡ wrapped m.width head at → at < length items → entry_at items at ≡ x → Shows m head items
    → IsSet (row_of kd m.rows x * m.width + place) false m.bits m.bits
left_out m kd place x ke xl out head at items pe l is h = record { size = refl; here = rw pe here; other = λ j ne. refl }
  where
    here : has m.bits (slot m.width head (row_of kd m.rows x) at) ≡ false
    here =
        let most = h.most in
        h.shows (row_of kd m.rows x) at xl (omega arith) ∙ shown_within m.kind m.rows (row_of kd m.rows x) at items x l is
        ∙ in_none m.kind m.rows (row_of kd m.rows x) x (rw ke out)

pub retired : (m n : Marks) (kd : Kind) (head : ℕ) (x : Entry) → m.kind ≡ kd → KeepsShape m n
    → ((head' at : ℕ) (items : List Entry) → head ≡ wrapped m.width head' at → at < length items → entry_at items at ≡ x → Shows m head' items → IsSet (row_of kd m.rows x * m.width + head) false m.bits n.bits)
    → (items : List Entry) → front_of items ≡ Some x → Shows m head items → Shows n (wrapped m.width head 1) (rest items)
retired m n kd head x ke mn leaves [] is h = absurd (none_some is)
  where
    none_some : None ≡ Some x → ⊥
    none_some e = cc
retired m n kd head x ke mn leaves (z ∷ zs) is h =
    let w = h.within in
    let first : head ≡ wrapped m.width head 0 = sym (high m.width head 0 (omega arith) ∙ omega arith) in
    let p = leaves head 0 (z ∷ zs) first (omega arith) (own is) h in
    let p' : IsSet (slot m.width head (row_of m.kind m.rows x) 0) false m.bits n.bits = rw (ke, ← first) p in
    retired_by m n head (row_of m.kind m.rows x) (z ∷ zs) x refl mn p' is h
  where
    first_or : Entry → Option Entry → Entry
    first_or d None = d
    first_or d (Some y) = y

    own : Some z ≡ Some x → z ≡ x
    own e = ap (first_or z) e

-- what a set shows of a number
pub shown_yes : (kd : Kind) (rows r k : ℕ) (items : List Entry) → shown kd rows r items k ≡ true → (k < length items) × (in_row kd rows r (entry_at items k) ≡ true)
shown_yes kd rows r k items e = by (cases_lt k (length items))
  where
    by : (k < length items) ⊎ (length items ≤ k) → (k < length items) × (in_row kd rows r (entry_at items k) ≡ true)
    by (inl l) = (l, sym (shown_within kd rows r k items (entry_at items k) l refl) ∙ e)
    by (inr l) = absurd (false≢true (sym (shown_past kd rows r k items l) ∙ e))

pub shown_out : (kd : Kind) (rows r k : ℕ) (items : List Entry) → k < length items → shown kd rows r items k ≡ false → in_row kd rows r (entry_at items k) ≡ false
shown_out kd rows r k items l e = sym (shown_within kd rows r k items (entry_at items k) l refl) ∙ e

-- an entry of a port has a row in each set
side_below : (b : Bool) → count_of b < 2
side_below true = omega arith
side_below false = omega arith

bucket_below : (n a : ℕ) → 0 < n → bucket n a < n
unfolding bucket
bucket_below n a l = mod-lt (a * 11400714819323198485 % 2 ^ 64 / 2 ^ 32) l

pub pending_below : (w : ℕ) (x : Entry) → 0 < w → row_of kind.Pending (2 * w) x < 2 * w
pending_below w x l =
    let m : max 1 (2 * w / 2) ≡ w = omega arith in
    let b : bucket (max 1 (2 * w / 2)) (or_zero x.addr) < w = rw m (bucket_below w (or_zero x.addr) l) in
    let s = side_below x.store in
    omega arith

pub pending_within : (w : ℕ) (m : Marks) (x : Entry) → IsMarks kind.Pending (2 * buckets w) w m → 64 ≤ w → row_of kind.Pending m.rows x < m.rows
pending_within w m x i some = rw (i.rows) (pending_below (buckets w) x (omega arith))

-- the port of an entry that shows is one of the rows by port
pub port_within : (m : Marks) (head at rows w : ℕ) (items : List Entry) → IsMarks kind.Addr rows w m → Shows m head items → at < length items → (entry_at items at).port < m.rows
port_within m head at rows w items i s l =
    let r = s.rows at l in
    let e : (entry_at items at).port ≡ row_of m.kind m.rows (entry_at items at) = sym (ap (λ k. row_of k m.rows (entry_at items at)) i.kind) in
    omega arith
