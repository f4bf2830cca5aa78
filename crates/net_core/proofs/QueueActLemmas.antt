-- What an act of a queue does, as an effect of its unit.
use Rattle.std.proofs.Common.{◌≡◌, ℕ, ◌<◌, ◌⊎◌, Bool, true, false, Option, Some, None, List, [], ◌∷◌, length, get_or, refl, sym, ap, inl, inr, arith, nat_lt, ltb-true}
use Rattle.std.proofs.lemmas.Bool.{cases_eq, and_parts}
use Rattle.net_types.specs.declared.net.Port.{Port}
use Rattle.net_types.specs.declared.net.Unit.TheVariants.{Lsq}
use Rattle.net_types.specs.declared.firing.Act.{Act}
use Rattle.net_types.specs.declared.firing.Act.TheVariants.{Alloc, Addr, Data, Reply, End}
use Rattle.net_types.specs.declared.net.Net.{Net}
use Rattle.net_types.specs.Nets.{firing, kind_of, uses}
use Rattle.lsq_core.specs.Acts.{QueueState, can, step, in_place, out_place}
use Rattle.net_core.specs.Fire.{setting, Effect, effect_of, with_head, taking, Put, put_at, put_out, gate, when, State, Own, idle, head_at, at_array, effect, row, queue_row, queue_fires}

abbrev pub place_list : Option ℕ → List ℕ
place_list None = []
place_list (Some p) = p ∷ []

abbrev pub queue_effect : List Port → List (List ℕ) → Act → Own → List ℕ → ℕ → Effect
queue_effect ports groups a o xs v =
    let r = step ports groups o.queue xs a v in
    record { takes = place_list (in_place groups a); put = put_out (out_place groups a) r.put; own = record o { queue = r.queue }; array = r.array; strays = r.strays }

-- the token that an act takes, where it takes one
abbrev pub Given : Option ℕ → (ℕ → Option ℕ) → ℕ → Type 0
Given None h v = v ≡ 0
Given (Some p) h v = h p ≡ Some v

pub queue_inv : (depth : ℕ) (ports : List Port) (groups : List (List ℕ)) (a : Act) (o : Own) (xs : List ℕ) (h : ℕ → Option ℕ) (e : Effect)
    → effect_of (queue_row depth ports groups a o xs) h ≡ Some e
    → (v : ℕ) × (can depth groups o.queue a ≡ true) × Given (in_place groups a) h v × (queue_effect ports groups a o xs v ≡ e)
queue_inv depth ports groups a o xs h e q = at (can depth groups o.queue a) refl q
  where
    with_place : (ip : Option ℕ) → effect_of (gate ip (queue_fires ports groups a o xs)) h ≡ Some e
        → (v : ℕ) × Given ip h v × ((let r = step ports groups o.queue xs a v in
        record { takes = place_list ip; put = put_out (out_place groups a) r.put; own = record o { queue = r.queue }; array = r.array; strays = r.strays }) ≡ e)
    with_place None q = (0, refl, cc)
    with_place (Some p) q = by (h p) refl q
      where
        by : (t : Option ℕ) → h p ≡ t → with_head t (λ v. taking p (effect_of (queue_fires ports groups a o xs v) h)) ≡ Some e
            → (v : ℕ) × (h p ≡ Some v) × ((let r = step ports groups o.queue xs a v in
            record { takes = p ∷ []; put = put_out (out_place groups a) r.put; own = record o { queue = r.queue }; array = r.array; strays = r.strays }) ≡ e)
        by None is q = cc
        by (Some v) is q = (v, is, cc)

    at : (b : Bool) → can depth groups o.queue a ≡ b → effect_of (when b (gate (in_place groups a) (queue_fires ports groups a o xs))) h ≡ Some e
        → (v : ℕ) × (can depth groups o.queue a ≡ true) × Given (in_place groups a) h v × (queue_effect ports groups a o xs v ≡ e)
    at false is q = cc
    at true is q = let w = with_place (in_place groups a) q in (w.0, is, w.1, w.2)

pub queue_goes : (depth : ℕ) (ports : List Port) (groups : List (List ℕ)) (a : Act) (o : Own) (xs : List ℕ) (h : ℕ → Option ℕ) (v : ℕ)
    → can depth groups o.queue a ≡ true → Given (in_place groups a) h v
    → effect_of (queue_row depth ports groups a o xs) h ≡ Some (queue_effect ports groups a o xs v)
queue_goes depth ports groups a o xs h v c g = rw c (at (in_place groups a) g)
  where
    at : (ip : Option ℕ) → Given ip h v → effect_of (gate ip (queue_fires ports groups a o xs)) h ≡
        Some (let r = step ports groups o.queue xs a v in
        record { takes = place_list ip; put = put_out (out_place groups a) r.put; own = record o { queue = r.queue }; array = r.array; strays = r.strays })
    at None g = rw g refl
    at (Some p) g = rw g refl

pub put_out_inv : (o v : Option ℕ) (w : Put) → put_out o v ≡ Some w → o ≡ Some w.place
put_out_inv None v w e = cc
put_out_inv (Some p) None w e = cc
put_out_inv (Some p) (Some v) w e = let k : put_at p v ≡ Some w = e in let m = ap (λ o. place_of o) k in m
  where
    place_of : Option Put → Option ℕ
    place_of None = None
    place_of (Some w) = Some w.place

pub common : (o o' : Option ℕ) → ((p : ℕ) × (o ≡ Some p) × (o' ≡ Some p)) ⊎ ((p : ℕ) → o ≡ Some p → o' ≡ Some p → ⊥)
common None o' = inr (λ p e f. cc)
common (Some p) None = inr (λ q e f. cc)
common (Some p) (Some q) = elim (cases_eq p q) [ inl e ↦ inl (p, refl, ap Some (sym e)) | inr n ↦ inr (λ r e f. n (let a : p ≡ r = cc in let b : q ≡ r = cc in omega arith)) ]

pub some_eq : {a b : ℕ} → Some a ≡ Some b → a ≡ b
some_eq e = cc

pub group_within : (depth : ℕ) (groups : List (List ℕ)) (q : QueueState) (k : ℕ) → can depth groups q (Alloc k) ≡ true → k < length groups
group_within depth groups q k h = ltb-true _ _ (and_parts (nat_lt k (length groups)) _ h).0

-- two acts at one input place are one act
pub one_in : (depth : ℕ) (groups : List (List ℕ)) (q : QueueState) (a b : Act) (p : ℕ) → can depth groups q a ≡ true → can depth groups q b ≡ true
    → in_place groups a ≡ Some p → in_place groups b ≡ Some p → a ≡ b
one_in depth groups q (Alloc k) (Alloc k') p h g i j = let a : k ≡ p = cc in let b : k' ≡ p = cc in let e : k ≡ k' = omega arith in ap Alloc e
one_in depth groups q (Addr k) (Addr k') p h g i j = let a = some_eq i in let b = some_eq j in let e : k ≡ k' = omega arith in ap Addr e
one_in depth groups q (Data k) (Data k') p h g i j = let a = some_eq i in let b = some_eq j in let e : k ≡ k' = omega arith in ap Data e
one_in depth groups q End End p h g i j = refl
one_in depth groups q (Alloc k) (Addr k') p h g i j = let l = group_within depth groups q k h in let a = some_eq i in let b = some_eq j in absurd (omega arith)
one_in depth groups q (Alloc k) (Data k') p h g i j = let l = group_within depth groups q k h in let a = some_eq i in let b = some_eq j in absurd (omega arith)
one_in depth groups q (Alloc k) End p h g i j = let l = group_within depth groups q k h in let a = some_eq i in let b = some_eq j in absurd (omega arith)
one_in depth groups q (Addr k') (Alloc k) p h g i j = let l = group_within depth groups q k g in let a = some_eq i in let b = some_eq j in absurd (omega arith)
one_in depth groups q (Data k') (Alloc k) p h g i j = let l = group_within depth groups q k g in let a = some_eq i in let b = some_eq j in absurd (omega arith)
one_in depth groups q End (Alloc k) p h g i j = let l = group_within depth groups q k g in let a = some_eq i in let b = some_eq j in absurd (omega arith)
one_in depth groups q (Addr k) (Data k') p h g i j = let a = some_eq i in let b = some_eq j in absurd (omega arith)
one_in depth groups q (Data k) (Addr k') p h g i j = let a = some_eq i in let b = some_eq j in absurd (omega arith)
one_in depth groups q (Addr k) End p h g i j = let a = some_eq i in let b = some_eq j in absurd (omega arith)
one_in depth groups q (Data k) End p h g i j = let a = some_eq i in let b = some_eq j in absurd (omega arith)
one_in depth groups q End (Addr k) p h g i j = let a = some_eq i in let b = some_eq j in absurd (omega arith)
one_in depth groups q End (Data k) p h g i j = let a = some_eq i in let b = some_eq j in absurd (omega arith)
one_in depth groups q a b p h g i j = cc

pub one_out : (depth : ℕ) (groups : List (List ℕ)) (q : QueueState) (a b : Act) (p : ℕ) → can depth groups q a ≡ true → can depth groups q b ≡ true
    → out_place groups a ≡ Some p → out_place groups b ≡ Some p → a ≡ b
one_out depth groups q (Alloc k) (Alloc k') p h g i j = let a : k ≡ p = cc in let b : k' ≡ p = cc in let e : k ≡ k' = omega arith in ap Alloc e
one_out depth groups q (Reply k) (Reply k') p h g i j = let a = some_eq i in let b = some_eq j in let e : k ≡ k' = omega arith in ap Reply e
one_out depth groups q End End p h g i j = refl
one_out depth groups q (Alloc k) (Reply k') p h g i j = let l = group_within depth groups q k h in let a = some_eq i in let b = some_eq j in absurd (omega arith)
one_out depth groups q (Alloc k) End p h g i j = let l = group_within depth groups q k h in let a = some_eq i in let b = some_eq j in absurd (omega arith)
one_out depth groups q (Reply k') (Alloc k) p h g i j = let l = group_within depth groups q k g in let a = some_eq i in let b = some_eq j in absurd (omega arith)
one_out depth groups q End (Alloc k) p h g i j = let l = group_within depth groups q k g in let a = some_eq i in let b = some_eq j in absurd (omega arith)
one_out depth groups q (Reply k) End p h g i j = let a = some_eq i in let b = some_eq j in absurd (omega arith)
one_out depth groups q End (Reply k) p h g i j = let a = some_eq i in let b = some_eq j in absurd (omega arith)
one_out depth groups q a b p h g i j = cc

pub lsq_is : (net : Net) (u n depth : ℕ) (ports : List Port) (groups : List (List ℕ)) (fw : Bool) → kind_of net u ≡ Lsq n depth ports groups fw → (s : State) (a : Act)
    → effect net s (firing u a) ≡ effect_of (queue_row depth ports groups a (get_or s.own u idle) (get_or s.arrays n [])) (head_at net s u)
unfolding row
lsq_is net u n depth ports groups fw is s a =
    ap (λ k. effect_of (row k a (get_or s.own u idle) (at_array s.arrays (uses k)) (setting net s)) (head_at net s u)) is
