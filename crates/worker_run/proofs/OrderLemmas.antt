-- The order of the entries that are left of several logs.
use Rattle.std.proofs.Common.{◌≡◌, ◌≢◌, ◌⊎◌, inl, inr, ℕ, zero, suc, ◌+◌, ◌^◌, ◌<◌, ◌≤◌, Bool, true, false, cond, nat_lt, List, [], ◌∷◌, ◌++◌, length, get_or, set, drop, take, Option, Some, None, refl, ap, ◌∙◌, sym, subst, arith, drop-cons, length-set}
use Rattle.std.proofs.lemmas.Grind.{common_steps}
use Rattle.std.proofs.lemmas.Bool.{cases_lt}
use Rattle.std.proofs.lemmas.List.{get_or_read}
use Rattle.std.proofs.Math.Seq.{take-append_seam}
use Rattle.std.proofs.lemmas.Option.{none-some, same_Some}
use Rattle.std.specs.Iterator.{YieldsFirst}
use Rattle.std.specs.List.{slice_get, refill}
use Rattle.net_types.specs.declared.firing.Firing.{Firing}
use Rattle.firing_log.specs.declared.entry.Entry.{Entry}
use Rattle.net_worker.specs.Merged.{Head, earlier, head_of, earliest, go_on, merged_in, entries_of, merged}
use Rattle.net_worker.proofs.Logs.{earliest_none, earliest_is, entries_set}
use Rattle.worker_run.specs.declared.order.Left.{Left}
use Rattle.worker_run.specs.private.Orders.{head_as, head_if, earlier_of, IsLeft, IsFirstLeft, IsNextOf}

-- ---- the earlier of two heads

none_after : (o : Option Head) → earlier o None ≡ o
none_after None = refl
none_after (Some h) = refl

sooner : (h k : Head) → k.entry.stamp < h.entry.stamp → earlier (Some h) (Some k) ≡ Some k
sooner h k l =
    let t : nat_lt k.entry.stamp h.entry.stamp ≡ true = grind (arith, common_steps) in
    let P : Bool → Option Head = λ c. cond c (Some k) (Some h) in
    ap P t

later : (h k : Head) → h.entry.stamp ≤ k.entry.stamp → earlier (Some h) (Some k) ≡ Some h
later h k l =
    let t : nat_lt k.entry.stamp h.entry.stamp ≡ false = grind (arith, common_steps) in
    let P : Bool → Option Head = λ c. cond c (Some k) (Some h) in
    ap P t

three : (h k m : Head) → (k.entry.stamp < h.entry.stamp) ⊎ (h.entry.stamp ≤ k.entry.stamp) → (m.entry.stamp < k.entry.stamp) ⊎ (k.entry.stamp ≤ m.entry.stamp)
    → earlier (earlier (Some h) (Some k)) (Some m) ≡ earlier (Some h) (earlier (Some k) (Some m))
three h k m (inl a) (inl b) =
    ap (λ o. earlier o (Some m)) (sooner h k a) ∙ (sooner k m b ∙ (sym (sooner h m (omega arith)) ∙ sym (ap (earlier (Some h)) (sooner k m b))))
three h k m (inl a) (inr b) =
    ap (λ o. earlier o (Some m)) (sooner h k a) ∙ (later k m b ∙ (sym (sooner h k a) ∙ sym (ap (earlier (Some h)) (later k m b))))
three h k m (inr a) (inl b) =
    ap (λ o. earlier o (Some m)) (later h k a) ∙ sym (ap (earlier (Some h)) (sooner k m b))
three h k m (inr a) (inr b) =
    ap (λ o. earlier o (Some m)) (later h k a) ∙ (later h m (omega arith) ∙ (sym (later h k a) ∙ sym (ap (earlier (Some h)) (later k m b))))

earlier_assoc : (a b c : Option Head) → earlier (earlier a b) c ≡ earlier a (earlier b c)
earlier_assoc None b c = refl
earlier_assoc (Some h) None c = refl
earlier_assoc (Some h) (Some k) None = none_after (earlier (Some h) (Some k))
earlier_assoc (Some h) (Some k) (Some m) = three h k m (cases_lt k.entry.stamp h.entry.stamp) (cases_lt m.entry.stamp k.entry.stamp)

either_head : (rests : List (List Entry)) (b : Bool) (l m : Left) → Some (head_as rests (cond b m l)) ≡ cond b (Some (head_as rests m)) (Some (head_as rests l))
either_head rests true l m = refl
either_head rests false l m = refl

earlier_head : (rests : List (List Entry)) (o : Option Left) (m : Left) → head_if rests (Some (earlier_of o m)) ≡ earlier (head_if rests o) (Some (head_as rests m))
earlier_head rests None m = refl
earlier_head rests (Some l) m = either_head rests (nat_lt m.entry.stamp l.entry.stamp) l m

earlier_left : (rests : List (List Entry)) (b : Bool) (l m : Left) → l.worker < length rests → m.worker < length rests → (cond b m l).worker < length rests
earlier_left rests true l m p q = q
earlier_left rests false l m p q = p

left_more : (rests : List (List Entry)) (o : Option Left) (m : Left) → IsLeft rests o → m.worker < length rests → (earlier_of o m).worker < length rests
left_more rests None m p q = q
left_more rests (Some l) m p q = earlier_left rests (nat_lt m.entry.stamp l.entry.stamp) l m p q

-- ---- one worker more

-- what is known of the first workers, and of those from worker i on
pub record IsFirstOf (rests : List (List Entry)) (i : ℕ) (o : Option Left) : Type 0 where
  pub rest : earlier (head_if rests o) (earliest i (drop i rests)) ≡ earliest 0 rests
  pub left : IsLeft rests o

pub first_none : (rests : List (List Entry)) → IsFirstOf rests 0 None
first_none rests = record { rest = refl; left = tt }

past_cons : (rests : List (List Entry)) (i : ℕ) → i < length rests → earliest i (drop i rests) ≡ earlier (head_of i (get_or rests i [])) (earliest (suc i) (drop (suc i) rests))
past_cons rests i l = ap (earliest i) (drop-cons rests i [] l)

head_there : (i : ℕ) (log : List Entry) (e : Entry) → Some e ≡ slice_get log 0 → head_of i log ≡ Some (record { at = i; entry = e; rest = drop 1 log })
head_there i [] e is = absurd (none-some e (sym is))
head_there i (x ∷ xs) e is = ap (λ (y : Entry). Some (record { at = i; entry = y; rest = xs })) (sym (same_Some e x is))

no_head : (i : ℕ) (log : List Entry) → None ≡ slice_get log 0 → head_of i log ≡ None
no_head i [] is = refl
no_head i (x ∷ xs) is = absurd (none-some x is)

pub first_skips : (rests : List (List Entry)) (i : ℕ) (o : Option Left) → i < length rests → None ≡ slice_get (get_or rests i []) 0 → IsFirstOf rests i o → IsFirstOf rests (suc i) o
first_skips rests i o l none f = record {
  rest = ap (earlier (head_if rests o)) (sym (past_cons rests i l ∙ ap (λ h. earlier h (earliest (suc i) (drop (suc i) rests))) (no_head i (get_or rests i []) none))) ∙ f.rest;
  left = f.left;
}

pub first_more : (rests : List (List Entry)) (i : ℕ) (e : Entry) (o p : Option Left) → i < length rests → Some e ≡ slice_get (get_or rests i []) 0
    → p ≡ Some (earlier_of o (record { worker = i; entry = e })) → IsFirstOf rests i o → IsFirstOf rests (suc i) p
first_more rests i e o p l is chosen f =
    let m : Left = record { worker = i; entry = e } in
    let more = earliest (suc i) (drop (suc i) rests) in
    let one : head_if rests p ≡ earlier (head_if rests o) (Some (head_as rests m)) = ap (head_if rests) chosen ∙ earlier_head rests o m in
    let two : earliest i (drop i rests) ≡ earlier (Some (head_as rests m)) more = past_cons rests i l ∙ ap (λ h. earlier h more) (head_there i (get_or rests i []) e is) in
    record {
      rest = ap (λ h. earlier h more) one ∙ (earlier_assoc (head_if rests o) (Some (head_as rests m)) more ∙ (ap (earlier (head_if rests o)) (sym two) ∙ f.rest));
      left = subst (IsLeft rests) (sym chosen) (left_more rests o m f.left l);
    }

nothing_past : (rests : List (List Entry)) (n : ℕ) → length rests ≤ n → drop n rests ≡ []
nothing_past [] n l = grind (arith, common_steps)
nothing_past (x ∷ xs) n l = grind (arith, common_steps)

pub first_all : (rests : List (List Entry)) (n : ℕ) (o : Option Left) → length rests ≤ n → IsFirstOf rests n o → IsFirstLeft rests o
first_all rests n o l f = record {
  is = sym (none_after (head_if rests o)) ∙ (ap (λ ls. earlier (head_if rests o) (earliest n ls)) (sym (nothing_past rests n l)) ∙ f.rest);
  left = f.left;
}

-- ---- one entry more is gone

no_entries : (ls : List (List Entry)) → ((v : ℕ) → get_or ls v [] ≡ []) → entries_of ls ≡ 0
no_entries [] e = refl
no_entries (l ∷ ls) e = omega (arith, ap length (e 0), no_entries ls (λ v. e (suc v)))

merged_none : (ls : List (List Entry)) (n : ℕ) → entries_of ls ≡ n → n ≡ 0 → merged_in n ls ≡ []
merged_none ls zero is e = refl
merged_none ls (suc n) is e = absurd (omega arith)

pub next_none : (ls ms : List (List Entry)) → earliest 0 ls ≡ None → IsNextOf None ls ms
next_none ls ms is =
    let e : entries_of ls ≡ 0 = no_entries ls (earliest_none 0 ls is) in
    (merged_none ls (entries_of ls) refl e, e)

merged_one : (ls : List (List Entry)) (h : Head) (m n : ℕ) → m ≡ suc n → earliest 0 ls ≡ Some h → merged_in m ls ≡ h.entry.firing ∷ merged_in n (set ls h.at h.rest)
merged_one ls h zero n is e = absurd (omega arith)
merged_one ls h (suc m) n is e =
    let q : m ≡ n = omega arith in
    ap (λ o. go_on o (λ k. k.entry.firing ∷ merged_in m (set ls k.at k.rest))) e ∙ ap (λ i. h.entry.firing ∷ merged_in i (set ls h.at h.rest)) q

pub next_some : (ls ms : List (List Entry)) (h : Head) → earliest 0 ls ≡ Some h → ms ≡ set ls h.at h.rest → IsNextOf (Some h.entry.firing) ls ms
next_some ls ms h is then =
    let first = earliest_is 0 ls h is in
    let place : h.at ≡ first.place = omega (arith, first.at) in
    let within : h.at < length ls = omega (arith, first.within, place) in
    let here : get_or ls h.at [] ≡ h.entry ∷ h.rest = ap (λ k. get_or ls k []) place ∙ first.here in
    let count : entries_of ls ≡ suc (entries_of (set ls h.at h.rest)) = entries_set ls h.at h.entry h.rest within here in
    (merged_one ls h (entries_of ls) (entries_of (set ls h.at h.rest)) count is ∙ ap (λ l. h.entry.firing ∷ merged l) (sym then), count ∙ ap (λ l. suc (entries_of l)) (sym then))

-- ---- what is left after the first entry

-- a log without its first entry, as its iterator leaves it
pub next_drops : (log next : List Entry) (o : Option Entry) → YieldsFirst (λ (es : List Entry). es) log o next → next ≡ drop 1 log
next_drops log next None gives = gives.1 ∙ sym (ap (drop 1) gives.0)
next_drops log next (Some e) gives = sym (ap (drop 1) gives)

pub refilled : (rests ms : List (List Entry)) (i : ℕ) (log : List Entry) → ms ≡ rests → refill (length rests) rests (set ms i log) ≡ set rests i log
refilled rests ms i log is =
    subst (λ n. take n (set ms i log ++ drop (length (set ms i log)) rests) ≡ set ms i log) (length-set ms i log ∙ ap length is) (take-append_seam (set ms i log) (drop (length (set ms i log)) rests))
    ∙ ap (λ ls. set ls i log) is

-- what is left once the first entry of a log is gone
pub taken : (rests lent : List (List Entry)) (l : Left) (log next : List Entry) (o : Option Entry) → lent ≡ rests → l.worker < length rests → log ≡ get_or lent l.worker log
    → YieldsFirst (λ (es : List Entry). es) (get_or lent l.worker log) o next → refill (length rests) rests (set lent l.worker next) ≡ set rests (head_as rests l).at (head_as rests l).rest
taken rests lent l log next o is within here gives =
    let there : get_or lent l.worker log ≡ get_or rests l.worker [] = sym here ∙ get_or_read lent l.worker log (omega (arith, ap length is, within)) here [] ∙ ap (λ ls. get_or ls l.worker []) is in
    refilled rests lent l.worker next is ∙ ap (λ (es : List Entry). set rests l.worker es) (next_drops (get_or lent l.worker log) next o gives ∙ ap (drop 1) there)
