-- Cells that are given what their units keep by plain data.
use Rattle.std.proofs.Common.{◌≡◌, ℕ, zero, suc, ◌+◌, ◌<◌, ◌≤◌, ◌⊎◌, Bool, true, false, List, [], ◌∷◌, ◌++◌, length, get_or, set, map, take, drop, replicate, refl, sym, ap, subst, ◌∙◌, inl, inr, arith, length-set, get_or-set_same, get_or-set_other, eq-eqb, eqb-true, ne_eqb, append-nil}
use Rattle.std.proofs.Math.Seq.{drop-cons}
use Rattle.std.proofs.Math.ListN.{get_or-map}
use Rattle.std.proofs.lemmas.List.{take_more, length-take-le, get_or_default}
use Rattle.std.proofs.lemmas.List.Elements.{All-nil, All-cons, All-head, All-same, All-tail, All-weaker}
use Rattle.std.proofs.lemmas.Bool.{cases_eq}
use Rattle.std.specs.List.{All, list_all}
use Rattle.net_types.specs.declared.net.Unit.{Unit as Kind}
use Rattle.net_types.specs.declared.net.Unit.TheVariants as unit
use Rattle.net_core.specs.declared.cell.Cell.{Cell}
use Rattle.net_core.specs.declared.cell.Cell.TheVariants as cell
use Rattle.net_core.specs.declared.parts.Parts.{Parts}
use Rattle.net_core.specs.Fire.{Own, idle, sent_to, opened}
use Rattle.net_core.specs.Parts.{with_bits, Rising, SentFits}
use Rattle.net_core.specs.Plans.{own_of, keeps}
use Rattle.net_core.specs.States.{queue_array}
use Rattle.net_core.specs.private.Restores.{IsRestored, IsRestoring, IsSending, numbers_set}
use Rattle.net_core.specs.private.Sents.{count_false}
use Rattle.net_core.proofs.SentLemmas.{set_count, last_one}

-- ---- the numbers of bits that are set

pub numbers_set-append : (n : ℕ) (xs ys : List Bool) → numbers_set n (xs ++ ys) ≡ numbers_set n xs ++ numbers_set (n + length xs) ys
numbers_set-append n [] ys = let e : n + 0 ≡ n = omega arith in rw e refl
numbers_set-append n (true ∷ xs) ys =
    let e : n + suc (length xs) ≡ suc n + length xs = omega arith in
    rw e (ap (λ r. n ∷ r) (numbers_set-append (suc n) xs ys))
numbers_set-append n (false ∷ xs) ys =
    let e : n + suc (length xs) ≡ suc n + length xs = omega arith in
    rw e (numbers_set-append (suc n) xs ys)

numbers_next : (bits : List Bool) (i : ℕ) → i < length bits → numbers_set 0 (take (i + 1) bits) ≡ numbers_set 0 (take i bits) ++ numbers_set i (get_or bits i true ∷ [])
numbers_next bits i l =
    let z : length (take i bits) ≡ i = length-take-le i bits (omega arith) in
    let e : 0 + length (take i bits) ≡ i = omega arith in
    ap (numbers_set 0) (take_more bits i true l) ∙ numbers_set-append 0 (take i bits) (get_or bits i true ∷ []) ∙ ap (λ k. numbers_set 0 (take i bits) ++ numbers_set k (get_or bits i true ∷ [])) e

pub numbers_more : (bits : List Bool) (i : ℕ) → i < length bits → get_or bits i true ≡ true → numbers_set 0 (take (i + 1) bits) ≡ numbers_set 0 (take i bits) ++ i ∷ []
numbers_more bits i l e = numbers_next bits i l ∙ ap (λ b. numbers_set 0 (take i bits) ++ numbers_set i (b ∷ [])) e

pub numbers_same : (bits : List Bool) (i : ℕ) → i < length bits → get_or bits i true ≡ false → numbers_set 0 (take (i + 1) bits) ≡ numbers_set 0 (take i bits)
numbers_same bits i l e = numbers_next bits i l ∙ ap (λ b. numbers_set 0 (take i bits) ++ numbers_set i (b ∷ [])) e ∙ append-nil _

-- ---- sending on several outputs

pub with_bits-snoc : (js : List ℕ) (k : ℕ) (bits : List Bool) → with_bits (js ++ k ∷ []) bits ≡ set (with_bits js bits) k true
with_bits-snoc [] k bits = refl
with_bits-snoc (j ∷ js) k bits = with_bits-snoc js k (set bits j true)

pub length-with_bits : (js : List ℕ) (bits : List Bool) → length (with_bits js bits) ≡ length bits
length-with_bits [] bits = refl
length-with_bits (j ∷ js) bits = length-with_bits js (set bits j true) ∙ length-set bits j true

pub with_bits_next : (outs : List ℕ) (i j : ℕ) (bits : List Bool) → i < length outs → j ≡ get_or outs i 0 → set (with_bits (take i outs) bits) j true ≡ with_bits (take (i + 1) outs) bits
with_bits_next outs i j bits l e = rw e (sym (ap (λ js. with_bits js bits) (take_more outs i 0 l) ∙ with_bits-snoc (take i outs) (get_or outs i 0) bits))

pub none_counted : (bits : List Bool) → ((j : ℕ) → get_or bits j false ≡ false) → count_false bits ≡ length bits
none_counted [] h = refl
none_counted (true ∷ bits) h = let e = h 0 in cc
none_counted (false ∷ bits) h = ap suc (none_counted bits (λ j. h (suc j)))

pub none_unsent : (bits : List Bool) (js : List ℕ) → ((j : ℕ) → get_or bits j false ≡ false) → All (λ j. j < length bits) js → All (λ j. get_or bits j true ≡ false) js
none_unsent bits js h w = All-weaker (λ j. j < length bits) (λ j. get_or bits j true ≡ false) (λ j l. get_or_default bits j true false l ∙ h j) js w

pub sent_more : (bits : List Bool) (j : ℕ) → get_or bits j true ≡ false → 2 ≤ count_false bits → sent_to j bits ≡ set bits j true
sent_more bits j h l = let e : list_all (λ b. b) (set bits j true) ≡ false = last_one bits j h ∙ ne_eqb _ _ (λ z. (omega arith)) in rw e refl

pub still_unsent : (bits : List Bool) (j : ℕ) (js : List ℕ) → All (λ k. j < k) js → All (λ k. get_or bits k true ≡ false) js → All (λ k. get_or (set bits j true) k true ≡ false) js
still_unsent bits j [] r h = All-nil (λ k. get_or (set bits j true) k true ≡ false)
still_unsent bits j (k ∷ js) r h =
    let l : j < k = All-head (λ k. j < k) k js r in
    All-cons (λ k. get_or (set bits j true) k true ≡ false) k js (get_or-set_other bits j k true true (λ e. omega arith) ∙ All-head (λ k. get_or bits k true ≡ false) k js h)
    (still_unsent bits j js (All-tail (λ k. j < k) k js r) (All-tail (λ k. get_or bits k true ≡ false) k js h))

pub sending_first : (outs : List ℕ) (bits : List Bool) → ((j : ℕ) → get_or bits j false ≡ false) → SentFits (length bits) outs → IsSending outs bits 0 bits
sending_first outs bits none fits = record {
  bits = refl;
  left = (let e = none_counted bits none in omega arith);
  rising = fits.rising;
  unsent = none_unsent bits outs none fits.within;
}

pub sending_unsent : (outs : List ℕ) (before sent : List Bool) (i : ℕ) → i < length outs → IsSending outs before i sent → get_or sent (get_or outs i 0) true ≡ false
sending_unsent outs before sent i l is =
    All-head (λ j. get_or sent j true ≡ false) (get_or outs i 0) (drop (suc i) outs) (All-same (λ j. get_or sent j true ≡ false) _ _ (sym (drop-cons outs i 0 l)) is.unsent)

pub sending_next : (outs : List ℕ) (before sent new : List Bool) (i : ℕ) → i < length outs → length outs < length before → IsSending outs before i sent
    → new ≡ sent_to (get_or outs i 0) sent → IsSending outs before (i + 1) new
sending_next outs before sent new i l some is e = record {
  bits = grown ∙ ap (λ x. set x (get_or outs i 0) true) is.bits ∙ with_bits_next outs i (get_or outs i 0) before l refl;
  left = (let s = set_count sent (get_or outs i 0) unsent in let m = ap count_false grown in let k = is.left in omega arith);
  rising = subst Rising next rises.1;
  unsent = subst (All (λ j. get_or new j true ≡ false)) next (rw grown (still_unsent sent (get_or outs i 0) (drop (suc i) outs) rises.0 others));
}
  where
    unsent : get_or sent (get_or outs i 0) true ≡ false
    unsent = sending_unsent outs before sent i l is

    grown : new ≡ set sent (get_or outs i 0) true
    grown = e ∙ sent_more sent (get_or outs i 0) unsent (let k = is.left in omega arith)

    next : drop (suc i) outs ≡ drop (i + 1) outs
    next = let z : suc i ≡ i + 1 = omega arith in ap (λ n. drop n outs) z

    rises : All (λ k. get_or outs i 0 < k) (drop (suc i) outs) × Rising (drop (suc i) outs)
    rises = subst Rising (drop-cons outs i 0 l) is.rising

    others : All (λ j. get_or sent j true ≡ false) (drop (suc i) outs)
    others = All-tail (λ j. get_or sent j true ≡ false) (get_or outs i 0) (drop (suc i) outs) (All-same (λ j. get_or sent j true ≡ false) _ _ (sym (drop-cons outs i 0 l)) is.unsent)

-- ---- a cell

pub fork_restored : (p : Parts) (u : ℕ) (k : Kind) (before : Cell) (bits new : List Bool) (outs : List ℕ) → new ≡ with_bits outs bits → outs ≡ get_or p.sent u [] → before ≡ cell.Fork bits
    → keeps k before ≡ true → own_of before ≡ opened k → IsRestored p u k before (cell.Fork new)
fork_restored p u k before bits new outs made at is kept own = by k (subst (λ c. keeps k c ≡ true) is kept) (subst (λ c. own_of c ≡ opened k) is own)
  where
    by : (k : Kind) → keeps k (cell.Fork bits) ≡ true → own_of (cell.Fork bits) ≡ opened k → IsRestored p u k before (cell.Fork new)
    by (unit.Fork w n) h o =
        let b : bits ≡ replicate n false = ap (λ (x : Own). x.sent) o in
        let l : length bits ≡ n = eqb-true _ _ h in
        record {
          own = ap (λ x. record idle { sent = x }) (made ∙ (λ i. with_bits (at i) (b i)));
          kept = eq-eqb _ _ (ap length made ∙ length-with_bits outs bits ∙ l);
          shaped = tt;
          array = sym (ap queue_array is);
        }
    by k h o = cc

-- ---- all cells

pub restoring_next : (p : Parts) (units : List Kind) (before cells new : List Cell) (i : ℕ) (c : Cell) → i < length cells → IsRestoring p units before i cells → new ≡ set cells i c
    → IsRestored p i (get_or units i (unit.Sink 0)) (get_or before i cell.Plain) c → IsRestoring p units before (i + 1) new
restoring_next p units before cells new i c l is e made = record {
  count = ap length e ∙ length-set cells i c ∙ is.count;
  made = λ u m. at u m (cases_eq u i);
  left = λ u m. ap (λ xs. get_or xs u cell.Plain) e ∙ get_or-set_other cells i u c cell.Plain (λ z. omega arith) ∙ is.left u (omega arith);
}
  where
    at : (u : ℕ) → u < i + 1 → (u ≡ i) ⊎ (u ≡ i → ⊥) → IsRestored p u (get_or units u (unit.Sink 0)) (get_or before u cell.Plain) (get_or new u cell.Plain)
    at u m (inl z) =
        let q : c ≡ get_or new u cell.Plain = sym (ap (λ xs. get_or xs u cell.Plain) e ∙ ap (λ k. get_or (set cells i c) k cell.Plain) z ∙ get_or-set_same cells i c cell.Plain l) in
        subst (IsRestored p u (get_or units u (unit.Sink 0)) (get_or before u cell.Plain)) q (subst (λ k. IsRestored p k (get_or units k (unit.Sink 0)) (get_or before k cell.Plain) c) (sym z) made)
    at u m (inr n) =
        let q : get_or cells u cell.Plain ≡ get_or new u cell.Plain = sym (ap (λ xs. get_or xs u cell.Plain) e ∙ get_or-set_other cells i u c cell.Plain n) in
        subst (IsRestored p u (get_or units u (unit.Sink 0)) (get_or before u cell.Plain)) q (is.made u (omega arith))

-- what is read of a unit and its cell
pub restoring_own : (units : List Kind) (before cells : List Cell) (i : ℕ) (k : Kind) (c : Cell) → i < length units → length cells ≡ length units → map own_of before ≡ map opened units
    → get_or cells i cell.Plain ≡ get_or before i cell.Plain → k ≡ get_or units i k → c ≡ get_or cells i c → own_of c ≡ opened k
restoring_own units before cells i k c l long own same ku cu =
    ap own_of (cu ∙ get_or_default cells i c cell.Plain (omega arith) ∙ same) ∙ sym (get_or-map own_of before i cell.Plain) ∙ ap (λ os. get_or os i idle) own
    ∙ get_or-map opened units i (unit.Sink 0) ∙ ap opened (get_or_default units i (unit.Sink 0) k l ∙ sym ku)

pub restoring_step : (p : Parts) (units : List Kind) (before cells : List Cell) (i : ℕ) (k : Kind) (old c : Cell) → i < length units → length before ≡ length units → IsRestoring p units before i cells
    → k ≡ get_or units i k → old ≡ get_or cells i old → IsRestored p i k old c → IsRestoring p units before (i + 1) (set cells i c)
restoring_step p units before cells i k old c l long is ku cu made =
    let n = is.count in
    let a : k ≡ get_or units i (unit.Sink 0) = ku ∙ get_or_default units i k (unit.Sink 0) l in
    let b : old ≡ get_or before i cell.Plain = cu ∙ get_or_default cells i old cell.Plain (omega arith) ∙ is.left i (omega arith) in
    restoring_next p units before cells (set cells i c) i c (omega arith) is refl (subst (λ x. IsRestored p i x (get_or before i cell.Plain) c) a (subst (λ x. IsRestored p i k x c) b made))

pub none_sent : (bits : List Bool) (n : ℕ) → bits ≡ replicate n false → (j : ℕ) → get_or bits j false ≡ false
none_sent bits n e j = ap (λ xs. get_or xs j false) e ∙ false_at n j
  where
    false_at : (n j : ℕ) → get_or (replicate n false) j false ≡ false
    false_at zero j = refl
    false_at (suc n) zero = refl
    false_at (suc n) (suc j) = false_at n j

pub length-false : (n : ℕ) → length (replicate n false) ≡ n
length-false zero = refl
length-false (suc n) = ap suc (length-false n)
