-- Marks, and lists of units that are marked.
use Rattle.std.proofs.Common.{◌≡◌, ◌≢◌, ℕ, suc, zero, ◌<◌, ◌≤◌, ◌⊎◌, inl, inr, Bool, true, false, List, [], ◌∷◌, ◌++◌, length, get_or, set, refl, sym, ap, subst, ◌∙◌, arith, length-append, length-set, get_or-set_same, get_or-set_other}
use Rattle.std.proofs.lemmas.Bool.{cases_eq, cases_lt}
use Rattle.std.specs.List.Sorted.{IsPermutation}
use Rattle.std.proofs.lemmas.List.{get_or_append_left, get_or_default}
use Rattle.std.proofs.lemmas.List.Elements.{at_from_Contains}
use Rattle.std.proofs.lemmas.List.Sorted.{Contains-permutation}
use Rattle.net_types.specs.declared.net.Net.{Net}
use Rattle.net_types.specs.Nets.{kind_of, chan_at}
use Rattle.net_check.specs.Ends.{is_lsq}
use Rattle.net_core.specs.Fire.{State}
use Rattle.net_core.proofs.ActLemmas.{kind_within}
use Rattle.cycle_engine.specs.declared.marks.Marks.{Marks}
use Rattle.cycle_engine.specs.private.Marking.{Holds, IsMarked, IsListed, KeepsMarks, IsSourceMarked, IsTargetMarked, IsFedMarked, IsAwaited, AreWithin, IsTaken, IsPutOff, IsEmptied, IsReordered}

-- ---- lists

pub get_last : {A : Type 0} (xs : List A) (x e : A) → get_or (xs ++ x ∷ []) (length xs) e ≡ x
get_last [] x e = refl
get_last (y ∷ xs) x e = get_last xs x e

pub holds_last : (xs : List ℕ) (x : ℕ) → Holds x (xs ++ x ∷ [])
holds_last xs x = record { at = length xs; within = (let n = length-append xs (x ∷ []) in omega arith); is = get_last xs x 0 }

pub holds_more : (xs ys : List ℕ) (x : ℕ) → Holds x xs → Holds x (xs ++ ys)
holds_more xs ys x h = record { at = h.at; within = (let n = length-append xs ys in let w = h.within in omega arith); is = get_or_append_left xs ys 0 h.at h.within ∙ h.is }

-- the number is among the first ones, or is the last
pub holds_snoc : (xs : List ℕ) (y x : ℕ) → Holds x (xs ++ y ∷ []) → Holds x xs ⊎ (x ≡ y)
holds_snoc xs y x h = by (cases_lt h.at (length xs))
  where
    by : (h.at < length xs) ⊎ (length xs ≤ h.at) → Holds x xs ⊎ (x ≡ y)
    by (inl l) = inl (record { at = h.at; within = l; is = sym (get_or_append_left xs (y ∷ []) 0 h.at l) ∙ h.is })
    by (inr l) =
        let n = length-append xs (y ∷ []) in
        let w = h.within in
        let e : h.at ≡ length xs = omega arith in
        inr (sym h.is ∙ (ap (λ k. get_or (xs ++ y ∷ []) k 0) e ∙ get_last xs y 0))

pub holds_none : (x : ℕ) → Holds x [] → ⊥
holds_none x h = let w = h.within in omega arith

pub none_held : (xs : List ℕ) (x : ℕ) → xs ≡ [] → Holds x xs → ⊥
none_held xs x e h = holds_none x (subst (Holds x) e h)

-- ---- marks

bool_within : (xs : List Bool) (u : ℕ) → get_or xs u false ≡ true → u < length xs
bool_within [] zero e = cc
bool_within [] (suc u) e = cc
bool_within (x ∷ xs) zero e = omega arith
bool_within (x ∷ xs) (suc u) e = let l = bool_within xs u e in omega arith

pub keeps_same : (m : Marks) → KeepsMarks m m
keeps_same m = record { long = refl; kept = λ u h. h; listed = λ net h. h }

pub keeps_then : (a b c : Marks) → KeepsMarks a b → KeepsMarks b c → KeepsMarks a c
keeps_then a b c h k = record { long = k.long ∙ h.long; kept = λ u m. k.kept u (h.kept u m); listed = λ net l. k.listed net (h.listed net l) }

-- a unit is marked and added to the list
pub keeps_marked : (old new : Marks) (u : ℕ) → u < length old.marked.items → new.marked.items ≡ set old.marked.items u true → new.list.items ≡ old.list.items ++ u ∷ [] → new.queues ≡ old.queues → KeepsMarks old new
keeps_marked old new u l e f g = record { long = long; kept = kept; listed = λ net h. record { within = within h.within; each = listed net h.each } }
  where
    long : length new.marked.items ≡ length old.marked.items
    long = ap length e ∙ length-set old.marked.items u true

    within : AreWithin old → AreWithin new
    within h v k = by (holds_snoc old.list.items u v (subst (Holds v) f k))
      where
        by : Holds v old.list.items ⊎ (v ≡ u) → v < length new.marked.items
        by (inl j) = let w = h v j in omega (arith, long)
        by (inr z) = let z' : v ≡ u = z in omega (arith, long)

    is : (v : ℕ) → get_or new.marked.items v false ≡ get_or (set old.marked.items u true) v false
    is v = ap (λ xs. get_or xs v false) e

    kept : (v : ℕ) → IsMarked old v → IsMarked new v
    kept v h = by (cases_eq v u)
      where
        by : (v ≡ u) ⊎ (v ≢ u) → get_or new.marked.items v false ≡ true
        by (inl z) = is v ∙ (ap (λ k. get_or (set old.marked.items u true) k false) z ∙ get_or-set_same old.marked.items u true false l)
        by (inr n) = is v ∙ (get_or-set_other old.marked.items u v true false n ∙ h)

    listed : (net : Net) → ((v : ℕ) → IsMarked old v → IsAwaited net old v) → (v : ℕ) → IsMarked new v → IsAwaited net new v
    listed net h v m = by (cases_eq v u)
      where
        P : List ℕ → Type 0
        P xs = Holds v xs

        was : IsAwaited net old v → IsAwaited net new v
        was (inl k) = inl (subst P (sym f) (holds_more old.list.items (u ∷ []) v k))
        was (inr k) = inr (k.0, subst P (ap (λ (x : _). x.items) (sym g)) k.1)

        by : (v ≡ u) ⊎ (v ≢ u) → IsAwaited net new v
        by (inl z) = inl (subst P (sym f) (subst (λ k. Holds k (old.list.items ++ u ∷ [])) (sym z) (holds_last old.list.items u)))
        by (inr n) = was (h v (sym (is v ∙ get_or-set_other old.marked.items u v true false n) ∙ m))

pub is_marked : (old new : Marks) (u : ℕ) → u < length old.marked.items → new.marked.items ≡ set old.marked.items u true → IsMarked new u
is_marked old new u l e = ap (λ xs. get_or xs u false) e ∙ get_or-set_same old.marked.items u true false l

-- what is marked after a mark was taken away was marked, and is another unit
pub unmarked : (old new : Marks) (u v : ℕ) → new.marked.items ≡ set old.marked.items u false → IsMarked new v → (v ≢ u) × IsMarked old v
unmarked old new u v e h = by (cases_eq v u)
  where
    k : get_or (set old.marked.items u false) v false ≡ true
    k = ap (λ xs. get_or xs v false) (sym e) ∙ h

    by : (v ≡ u) ⊎ (v ≢ u) → (v ≢ u) × IsMarked old v
    by (inr n) = (n, sym (get_or-set_other old.marked.items u v false false n) ∙ k)
    by (inl z) = absurd (at (cases_lt u (length old.marked.items)))
      where
        at : (u < length old.marked.items) ⊎ (length old.marked.items ≤ u) → ⊥
        at (inl l) = let y : false ≡ true = sym (get_or-set_same old.marked.items u false false l) ∙ (ap (λ x. get_or (set old.marked.items u false) x false) (sym z) ∙ k) in cc
        at (inr l) = let w = bool_within (set old.marked.items u false) v k in let n = length-set old.marked.items u false in let y = z in omega arith

-- another unit stays marked
pub still_marked : (old new : Marks) (u v : ℕ) → new.marked.items ≡ set old.marked.items u false → v ≢ u → IsMarked old v → IsMarked new v
still_marked old new u v e n h = ap (λ xs. get_or xs v false) e ∙ (get_or-set_other old.marked.items u v false false n ∙ h)

-- in the list or among the queues that are to have turns, where their lists hold what they held, or another unit
held : (net : Net) (old new : Marks) (v : ℕ) → (Holds v old.list.items → Holds v new.list.items) → (Holds v old.queues.items → Holds v new.queues.items) → IsAwaited net old v → IsAwaited net new v
held net old new v f g (inl k) = inl (f k)
held net old new v f g (inr k) = inr (k.0, g k.1)

-- a unit that is not the last of the list is among those before it
held_left : (xs ys : List ℕ) (u v : ℕ) → xs ≡ ys ++ u ∷ [] → v ≢ u → Holds v xs → Holds v ys
held_left xs ys u v l n h = by (holds_snoc ys u v (subst (Holds v) l h))
  where
    by : Holds v ys ⊎ (v ≡ u) → Holds v ys
    by (inl k) = k
    by (inr z) = absurd (n z)

-- the next unit of the list was taken, and its mark
pub taken_marked : (old new : Marks) (u : ℕ) → AreWithin old → old.list.items ≡ new.list.items ++ u ∷ [] → new.queues ≡ old.queues → new.marked.items ≡ set old.marked.items u false → IsTaken old new u
taken_marked old new u below l g e = record {
  within = below u (subst (Holds u) (sym l) (holds_last new.list.items u));
  long = long;
  listed = λ net h. record {
    within = λ v k. (let w = h.within v (subst (Holds v) (sym l) (holds_more new.list.items (u ∷ []) v k)) in omega (arith, long));
    each = λ v m. (let w = unmarked old new u v e m in held net old new v (held_left old.list.items new.list.items u v l w.0) (subst (Holds v) (ap (λ (x : _). x.items) (sym g))) (h.each v w.1));
  };
  left = λ v m. at v m (cases_eq v u);
  fewer = (let a = ap (λ (xs : List ℕ). length xs) l in let n = length-append new.list.items (u ∷ []) in omega arith);
}
  where
    long : length new.marked.items ≡ length old.marked.items
    long = ap length e ∙ length-set old.marked.items u false

    at : (v : ℕ) → IsMarked old v → (v ≡ u) ⊎ (v ≢ u) → IsMarked new v ⊎ (v ≡ u)
    at v m (inl z) = inr z
    at v m (inr n) = inl (still_marked old new u v e n m)

-- a queue is marked again, and is to have a turn
module _ (old new : Marks) (u : ℕ) (off : IsPutOff old new u) where
  pub put_off_long : length new.marked.items ≡ length old.marked.items
  put_off_long = ap length off.marked ∙ length-set old.marked.items u true

  is : (v : ℕ) → get_or new.marked.items v false ≡ get_or (set old.marked.items u true) v false
  is v = ap (λ xs. get_or xs v false) off.marked

  pub put_off_own : u < length old.marked.items → IsMarked new u
  put_off_own l = is u ∙ get_or-set_same old.marked.items u true false l

  pub put_off_kept : (v : ℕ) → u < length old.marked.items → IsMarked old v → IsMarked new v
  put_off_kept v l m = by (cases_eq v u)
    where
      by : (v ≡ u) ⊎ (v ≢ u) → IsMarked new v
      by (inl z) = subst (IsMarked new) (sym z) (put_off_own l)
      by (inr n) = is v ∙ (get_or-set_other old.marked.items u v true false n ∙ m)

  pub put_off_listed : (net : Net) → is_lsq (kind_of net u) ≡ true → IsListed net old → IsListed net new
  put_off_listed net q h = record {
    within = λ v k. (let w = h.within v (subst (Holds v) (ap (λ (x : _). x.items) off.list) k) in omega (arith, put_off_long));
    each = λ v m. at v m (cases_eq v u);
  }
    where
      at : (v : ℕ) → IsMarked new v → (v ≡ u) ⊎ (v ≢ u) → IsAwaited net new v
      at v m (inl z) =
          let P : ℕ → Type 0 = λ x. (is_lsq (kind_of net x) ≡ true) × Holds x new.queues.items in
          inr (subst P (sym z) (q, subst (Holds u) (sym off.queues) (holds_last old.queues.items u)))
      at v m (inr n) =
          held net old new v (subst (Holds v) (ap (λ (x : _). x.items) (sym off.list))) (λ k. subst (Holds v) (sym off.queues) (holds_more old.queues.items (u ∷ []) v k))
          (h.each v (sym (is v ∙ get_or-set_other old.marked.items u v true false n) ∙ m))

-- ---- the queues that are to have turns

pub holds_reordered : (xs ys : List ℕ) (x : ℕ) → IsPermutation xs ys → Holds x xs → Holds x ys
holds_reordered xs ys x p h =
    let w = at_from_Contains ys x (Contains-permutation xs ys x p (h.at, h.within, get_or_default xs h.at x 0 h.within ∙ h.is)) in
    record { at = w.0; within = w.1; is = w.2 0 }

pub reordered_listed : (net : Net) (old new : Marks) → IsReordered old new → IsListed net old → IsListed net new
reordered_listed net old new r h = record {
  within = λ v k. (let w = h.within v (subst (Holds v) (ap (λ (x : _). x.items) r.list) k) in let n = ap (λ (x : _). length x.items) r.marked in omega (arith, n));
  each = λ v m. held net old new v (subst (Holds v) (ap (λ (x : _). x.items) (sym r.list))) (holds_reordered old.queues.items new.queues.items v r.queues) (h.each v (ap (λ (x : _). get_or x.items v false) (sym r.marked) ∙ m));
}

-- the last was taken, and its mark
pub turned_listed : (net : Net) (old new : Marks) (u : ℕ) → old.queues.items ≡ new.queues.items ++ u ∷ [] → new.list ≡ old.list → new.marked.items ≡ set old.marked.items u false → IsListed net old → IsListed net new
turned_listed net old new u l g e h = record {
  within = λ v k. (let w = h.within v (subst (Holds v) (ap (λ (x : _). x.items) g) k) in let n = ap length e ∙ length-set old.marked.items u false in omega (arith, n));
  each = λ v m. (let w = unmarked old new u v e m in held net old new v (subst (Holds v) (ap (λ (x : _). x.items) (sym g))) (held_left old.queues.items new.queues.items u v l w.0) (h.each v w.1));
}

-- a marked unit is a queue that is to have a turn, where the list is empty
pub marked_queue : (net : Net) (m : Marks) (u : ℕ) → IsListed net m → m.list.items ≡ [] → IsMarked m u → (is_lsq (kind_of net u) ≡ true) × Holds u m.queues.items
marked_queue net m u listed none k = by (listed.each u k)
  where
    by : IsAwaited net m u → (is_lsq (kind_of net u) ≡ true) × Holds u m.queues.items
    by (inl h) = absurd (none_held m.list.items u none h)
    by (inr h) = h

pub queue_within : (net : Net) (u : ℕ) → is_lsq (kind_of net u) ≡ true → u < length net.units
queue_within net u q = kind_within net u (λ e. (let z : false ≡ true = sym (ap is_lsq e) ∙ q in cc))

-- ---- marks at the ends of channels, as more are marked

pub source_more : (net : Net) (s : State) (n : ℕ) (a b : Marks) (d : ℕ) → KeepsMarks a b → IsSourceMarked net s n a d → IsSourceMarked net s n b d
source_more net s n a b d k h l f m = k.kept (chan_at net d).from.unit (h l f m)

pub source_as : (net : Net) (s : State) (m n : ℕ) (a : Marks) (d : ℕ) → m ≡ n → IsSourceMarked net s m a d → IsSourceMarked net s n a d
source_as net s m n a d e h l f k = h l f (omega arith)

pub target_as : (net : Net) (m n : ℕ) (a : Marks) (d : ℕ) → m ≡ n → IsTargetMarked net m a d → IsTargetMarked net n a d
target_as net m n a d e h l k = h l (omega arith)

pub fed_more : (net : Net) (s : State) (n : ℕ) (a b : Marks) (d : ℕ) → KeepsMarks a b → IsFedMarked net s n a d → IsFedMarked net s n b d
fed_more net s n a b d k h f l m = k.kept (chan_at net d).to.unit (h f l m)

pub fed_as : (net : Net) (s : State) (m n : ℕ) (a : Marks) (d : ℕ) → m ≡ n → IsFedMarked net s m a d → IsFedMarked net s n a d
fed_as net s m n a d e h f = target_as net m n a d e (h f)

pub or_as : {A : Type 0} {X : Type 0} (P : A → Type 0) {a b : A} → a ≡ b → X ⊎ P a → X ⊎ P b
or_as P e (inl x) = inl x
or_as P e (inr p) = inr (subst P e p)

pub emptied_listed : (net : Net) (old new : Marks) → IsEmptied old new → IsListed net old → IsListed net new
emptied_listed net old new e h = record {
  within = λ u k. absurd (none_held new.list.items u e.none k);
  each = λ u m. held net old new u (λ k. absurd (none_held old.list.items u e.before k)) (subst (Holds u) (ap (λ (v : _). v.items) (sym e.queues))) (h.each u (ap (λ (v : _). get_or v.items u false) (sym e.same) ∙ m));
}
