-- Units with a channel from or to another worker are marked.
use Rattle.std.proofs.Common.{◌≡◌, ◌⊎◌, inl, inr, ℕ, zero, suc, ◌+◌, ◌<◌, ◌≤◌, Bool, true, false, List, [], ◌∷◌, length, get_or, refl, ap, ◌∙◌, sym, subst, arith}
use Rattle.std.proofs.lemmas.Bool.{cases_lt, cases_eq}
use Rattle.net_types.specs.declared.net.Chan.{Chan}
use Rattle.net_types.specs.Nets.{chan_at, nowhere}
use Rattle.net_worker.specs.Crossing.{IsMarked}
use Rattle.net_worker.specs.Inside.{IsInnerUnit}
use Rattle.net_worker.specs.Views.{owner_in}
use Rattle.net_worker.specs.declared.tables.Tables.{Tables}

get_or_same : (cs : List Chan) (n : ℕ) (a b : Chan) → n < length cs → get_or cs n a ≡ get_or cs n b
get_or_same [] n a b l = absurd (omega arith)
get_or_same (c ∷ cs) zero a b l = refl
get_or_same (c ∷ cs) (suc n) a b l = get_or_same cs n a b (omega arith)

-- one channel more
pub marked_more : (owners : List ℕ) (old new : List Bool) (cs : List Chan) (n : ℕ) (a : Chan) → n < length cs → ((i : ℕ) (d : Chan) → i < n → IsMarked owners old (get_or cs i d))
    → ((u : ℕ) → get_or old u true ≡ true → get_or new u true ≡ true) → IsMarked owners new (get_or cs n a) → (i : ℕ) (d : Chan) → i < n + 1 → IsMarked owners new (get_or cs i d)
marked_more owners old new cs n a within before kept now i d l = by (cases_lt i n)
  where
    by : (i < n) ⊎ (n ≤ i) → IsMarked owners new (get_or cs i d)
    by (inl k) = λ q. (let h = before i d k q in (kept (get_or cs i d).from.unit h.0, kept (get_or cs i d).to.unit h.1))
    by (inr k) = (let e : n ≡ i = omega arith in subst (λ j. IsMarked owners new (get_or cs j d)) e (subst (IsMarked owners new) (get_or_same cs n a d within) now))

-- a unit without a mark has none
pub inner_unit : (t : Tables) (u : ℕ) → get_or t.crossing.items u true ≡ false → IsInnerUnit t.net.now (owner_in t) u
inner_unit t u unmarked c l at = by (cases_eq (owner_in t (chan_at t.net.now c).from.unit) (owner_in t (chan_at t.net.now c).to.unit)) at
  where
    by : (owner_in t (chan_at t.net.now c).from.unit ≡ owner_in t (chan_at t.net.now c).to.unit) ⊎ (owner_in t (chan_at t.net.now c).from.unit ≡ owner_in t (chan_at t.net.now c).to.unit → ⊥)
        → ((chan_at t.net.now c).from.unit ≡ u) ⊎ ((chan_at t.net.now c).to.unit ≡ u) → owner_in t (chan_at t.net.now c).from.unit ≡ owner_in t (chan_at t.net.now c).to.unit
    by (inl q) e = q
    by (inr n) (inl e) = (let h = (t.marked c nowhere l n).0 in let k : true ≡ false = sym h ∙ (ap (λ v. get_or t.crossing.items v true) e ∙ unmarked) in cc)
    by (inr n) (inr e) = (let h = (t.marked c nowhere l n).1 in let k : true ≡ false = sym h ∙ (ap (λ v. get_or t.crossing.items v true) e ∙ unmarked) in cc)
