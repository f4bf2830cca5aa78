-- Two acts of one queue in either order.
use Rattle.std.proofs.Common.{◌≡◌, ℕ, ◌<◌, ◌≤◌, ◌⊎◌, ◌==◌, Bool, true, false, cond, Option, Some, None, List, [], length, map, get_or, set, refl, sym, ap, ◌∙◌, inl, inr, arith, ne_eqb, get_or-set_same, length-set, set-set}
use Rattle.std.proofs.lemmas.Bool.{cases_lt}
use Rattle.std.proofs.lemmas.List.{get_or_past}
use Rattle.std.specs.List.{find}
use Rattle.net_types.specs.declared.net.Port.{Port}
use Rattle.net_types.specs.declared.net.Unit.TheVariants.{Lsq}
use Rattle.net_types.specs.declared.firing.Act.{Act}
use Rattle.net_types.specs.declared.firing.Act.TheVariants.{Exec}
use Rattle.net_types.specs.declared.firing.Firing.{Firing}
use Rattle.net_types.specs.declared.net.Net.{Net}
use Rattle.net_types.specs.Nets.{firing, into, out_of, kind_of, uses, owns}
use Rattle.lsq_core.specs.declared.entry.Entry.{Entry}
use Rattle.lsq_core.specs.Acts.{QueueState, can, step, exec, or_zero, is_serial, in_place, out_place, is_control}
use Rattle.lsq_core.specs.Laws.{IsConsistent, Joined, ActsJoin}
use Rattle.net_core.specs.Fire.{Effect, effect_of, among, Put, put_out, State, Own, idle, head_at, effect, enabled, after, has_room, puts_on, moved, written, counted, applied, queue_row}
use Rattle.net_core.specs.Machine.{Commute}
use Rattle.net_core.proofs.RowLemmas.{Has, Each, changed-meet}
use Rattle.net_core.proofs.ApartLemmas.{seen, roomy, same_in, same_out, Clear, counted_comm, among_some, puts-inv, one_channel, written_twice}
use Rattle.net_core.proofs.GoesLemmas.{Goes, goes, closes}
use Rattle.net_core.proofs.QueueActLemmas.{place_list, queue_effect, Given, queue_inv, queue_goes, put_out_inv, common, one_in, one_out, lsq_is}

-- the same with the acts in the other order
joined_flip : (depth : ℕ) (ports : List Port) (groups : List (List ℕ)) (q : QueueState) (xs : List ℕ) (a b : Act) (v w : ℕ)
    → Joined depth ports groups q xs a b v w → Joined depth ports groups q xs b a w v
joined_flip depth ports groups q xs a b v w j = record {
  a_can = j.b_can;
  b_can = j.a_can;
  a_put = j.b_put;
  b_put = j.a_put;
  a_strays = j.b_strays;
  b_strays = j.a_strays;
  meet_queue = sym j.meet_queue;
  meet_array = sym j.meet_array;
}

-- an act without an array has none afterwards
none_from_none : (ports : List Port) (groups : List (List ℕ)) (q : QueueState) (a : Act) (v : ℕ) → (step ports groups q [] a v).array ≡ []
none_from_none ports groups q (Exec e) v = by (find (is_serial e) q.items)
  where
    stored : (b : Bool) (i x : ℕ) → cond b (set [] i x) [] ≡ []
    stored true i x = refl
    stored false i x = refl

    by : (o : Option Entry) → (exec q [] e o).array ≡ []
    by None = refl
    by (Some x) = stored x.store (or_zero x.addr) (or_zero x.datum)
none_from_none ports groups q _ v = refl

-- an array that is written is read, also past the arrays, where it has no elements
written_here : (arrays : List (List ℕ)) (n : ℕ) (xs : List ℕ) → (length arrays ≤ n → xs ≡ []) → get_or (set arrays n xs) n [] ≡ xs
written_here arrays n xs none = elim (cases_lt n (length arrays)) [
  | inl l ↦ get_or-set_same arrays n xs [] l
  | inr l ↦ (let e = length-set arrays n xs in get_or_past (set arrays n xs) n [] (omega arith) ∙ sym (none l))
]

-- nothing is taken, or put, twice
holds_one : (o : Option ℕ) → Each (λ p. o ≡ Some p) (place_list o)
holds_one None = tt
holds_one (Some p) = (refl, tt)

none_taken : (o o' : Option ℕ) (f : ℕ → ℕ) (p : ℕ) → o ≡ Some p → ((q : ℕ) → o' ≡ Some q → f p ≡ f q → ⊥) → among (f p) (map f (place_list o')) ≡ false
none_taken o None f p e h = refl
none_taken o (Some q) f p e h = let n : (f p == f q) ≡ false = ne_eqb (f p) (f q) (h q refl) in rw n refl

module _ (net : Net) (s : State) (u n depth : ℕ) (ports : List Port) (groups : List (List ℕ)) (fw : Bool) where
  -- what of the unit's effects does not meet
  record Split (a b : Act) : Type 0 where
    ins : (p q : ℕ) → in_place groups a ≡ Some p → in_place groups b ≡ Some q → into u p net.chans < length net.chans → into u p net.chans ≡ into u q net.chans → ⊥
    outs : (p q : ℕ) → out_place groups a ≡ Some p → out_place groups b ≡ Some q → out_of u p net.chans < length net.chans → out_of u p net.chans ≡ out_of u q net.chans → ⊥

  abbrev own_at : Own
  own_at = get_or s.own u idle

  abbrev array_at : List ℕ
  array_at = get_or s.arrays n []

  abbrev eff : Act → ℕ → Effect
  eff a v = queue_effect ports groups a own_at array_at v

  -- the effect of a after b
  abbrev eff_past : Act → Act → ℕ → ℕ → Effect
  eff_past a b v w =
      let r = step ports groups own_at.queue array_at b w in
      queue_effect ports groups a (record own_at { queue = r.queue }) r.array v

  given_past : (a b : Act) (v w : ℕ) → length s.tokens ≡ length net.chans → Split a b
      → Given (in_place groups a) (head_at net s u) v → Given (in_place groups a) (head_at net (applied net u (eff b w) s) u) v
  given_past a b v w long split g = at (in_place groups a) refl g
    where
      at : (o : Option ℕ) → in_place groups a ≡ o → Given o (head_at net s u) v → Given o (head_at net (applied net u (eff b w) s) u) v
      at None is g = g
      at (Some p) is g = seen net s u u p v (eff b w) long
          (λ l. none_taken (in_place groups a) (in_place groups b) (λ p. into u p net.chans) p is (λ q e m. split.ins p q is e l m)) g

  half : kind_of net u ≡ Lsq n depth ports groups fw → length s.tokens ≡ length net.chans → u < length s.own
      → (a b : Act) (v w : ℕ) → Split a b → Joined depth ports groups own_at.queue array_at a b v w
      → Given (in_place groups a) (head_at net s u) v → has_room net s u (eff a v).put
      → Goes net (applied net u (eff b w) s) (firing u a) (eff_past a b v w)
  half is long lu a b v w split j given room =
      let t = applied net u (eff b w) s in
      let own : get_or t.own u idle ≡ (eff b w).own = get_or-set_same s.own u (eff b w).own idle lu in
      let owned : owns (kind_of net u) ≡ Some n = ap owns is in
      let array : get_or t.arrays n [] ≡ (eff b w).array =
      ap (λ o. get_or (written o (eff b w).array s.arrays) n []) owned ∙ written_here s.arrays n (eff b w).array (λ l. ap (λ xs. (step ports groups own_at.queue xs b w).array) (get_or_past s.arrays n [] l) ∙ none_from_none ports groups own_at.queue b w) in
      let rowed : effect net t (firing u a) ≡ effect_of (queue_row depth ports groups a (eff b w).own (eff b w).array) (head_at net t u) =
      lsq_is net u n depth ports groups fw is t a
      ∙ (ap (λ o. effect_of (queue_row depth ports groups a o (get_or t.arrays n [])) (head_at net t u)) own
      ∙ ap (λ x. effect_of (queue_row depth ports groups a (eff b w).own x) (head_at net t u)) array) in
      let same_put : (eff_past a b v w).put ≡ (eff a v).put = ap (put_out (out_place groups a)) j.a_put in
      record {
        is = rowed ∙ queue_goes depth ports groups a (eff b w).own (eff b w).array (head_at net t u) v j.a_can (given_past a b v w long split given);
        room = rw same_put (roomy net s u u (eff b w) (eff a v).put long
            (λ x e l. free x e l (put_out (out_place groups b) (step ports groups own_at.queue array_at b w).put) refl) room);
      }
    where
      free : (x : Put) → (eff a v).put ≡ Some x → out_of u x.place net.chans < length net.chans
          → (o : Option Put) → put_out (out_place groups b) (step ports groups own_at.queue array_at b w).put ≡ o → puts_on net u o (out_of u x.place net.chans) ≡ None
      free x e l None i = refl
      free x e l (Some y) i =
          let k : (out_of u x.place net.chans == out_of u y.place net.chans) ≡ false =
          ne_eqb _ _ (λ m. split.outs x.place y.place (put_out_inv _ _ x e) (put_out_inv _ _ y i) l m) in
          rw k refl

  split_flip : (a b : Act) → length s.tokens ≡ length net.chans → Split a b → Split b a
  split_flip a b long x = record {
    ins = λ p q i j l m. x.ins q p j i (omega arith) (sym m);
    outs = λ p q i j l m. x.outs q p j i (omega arith) (sym m);
  }

  taken_of : (a : Act) (v : ℕ) → Given (in_place groups a) (head_at net s u) v → Each (Has (head_at net s u)) (eff a v).takes
  taken_of a v g = at (in_place groups a) g
    where
      at : (o : Option ℕ) → Given o (head_at net s u) v → Each (Has (head_at net s u)) (place_list o)
      at None g = tt
      at (Some p) g = ((v, g), tt)

  clear_of : (a b : Act) (v w : ℕ) → Split a b → Clear net u u (eff a v) (eff b w)
  clear_of a b v w split = record {
    takes = λ c l g1 g2.
        let x = among_some (λ p. in_place groups a ≡ Some p) c (λ p. into u p net.chans) (place_list (in_place groups a)) g1 (holds_one (in_place groups a)) in
        let y = among_some (λ p. in_place groups b ≡ Some p) c (λ p. into u p net.chans) (place_list (in_place groups b)) g2 (holds_one (in_place groups b)) in
        split.ins x.0 y.0 x.2 y.2 (omega (arith, x.1)) (sym x.1 ∙ y.1);
    puts = λ c l g1 g2.
        let x = puts-inv net u c (eff a v).put g1 in
        let y = puts-inv net u c (eff b w).put g2 in
        split.outs x.0.place y.0.place (put_out_inv _ _ x.0 x.1) (put_out_inv _ _ y.0 y.1) (omega (arith, x.2)) (sym x.2 ∙ y.2);
  }

  queue_states : (a b : Act) (v w : ℕ) → length s.tokens ≡ length net.chans → Split a b → Joined depth ports groups own_at.queue array_at a b v w
      → Given (in_place groups a) (head_at net s u) v → Given (in_place groups b) (head_at net s u) w
      → applied net u (eff_past b a w v) (applied net u (eff a v) s) ≡ applied net u (eff_past a b v w) (applied net u (eff b w) s)
  queue_states a b v w long split j g1 g2 =
      let k = kind_of net u in
      let p1 : (eff_past a b v w).put ≡ (eff a v).put = ap (put_out (out_place groups a)) j.a_put in
      let p2 : (eff_past b a w v).put ≡ (eff b w).put = ap (put_out (out_place groups b)) j.b_put in
      let t = changed-meet (moved net u (eff_past b a w v)) (moved net u (eff a v)) (moved net u (eff b w)) (moved net u (eff_past a b v w)) 0 s.tokens
      (λ c i at l. let e : i ≡ c = omega arith in
      let x = one_channel net s u u (eff a v) (eff b w) (clear_of a b v w split) (taken_of a v g1) (taken_of b w g2) c i e (omega arith) in
      let y1 : puts_on net u (eff_past a b v w).put c ≡ puts_on net u (eff a v).put c = ap (λ o. puts_on net u o c) p1 in
      let y2 : puts_on net u (eff_past b a w v).put c ≡ puts_on net u (eff b w).put c = ap (λ o. puts_on net u o c) p2 in
      rw (y1, y2) x) in
      let q = j.meet_queue in
      let o : set (set s.own u (eff a v).own) u (eff_past b a w v).own ≡ set (set s.own u (eff b w).own) u (eff_past a b v w).own =
      set-set s.own u (eff a v).own (eff_past b a w v).own
      ∙ (ap (λ z. set s.own u (record own_at { queue = z })) (sym q) ∙ sym (set-set s.own u (eff b w).own (eff_past a b v w).own)) in
      let ar : written (owns k) (eff_past b a w v).array (written (owns k) (eff a v).array s.arrays) ≡ written (owns k) (eff_past a b v w).array (written (owns k) (eff b w).array s.arrays) =
      written_twice (owns k) (eff a v).array (eff_past b a w v).array s.arrays
      ∙ (ap (λ z. written (owns k) z s.arrays) (sym j.meet_array) ∙ sym (written_twice (owns k) (eff b w).array (eff_past a b v w).array s.arrays)) in
      let c : counted (uses k) (eff_past b a w v).strays (counted (uses k) (eff a v).strays s.strays) ≡ counted (uses k) (eff_past a b v w).strays (counted (uses k) (eff b w).strays s.strays) =
      ap (λ z. counted (uses k) z (counted (uses k) (eff a v).strays s.strays)) j.b_strays
      ∙ (counted_comm (uses k) (uses k) (eff b w).strays (eff a v).strays s.strays
      ∙ ap (λ z. counted (uses k) z (counted (uses k) (eff b w).strays s.strays)) (sym j.a_strays)) in
      λ i. record { scalars = s.scalars; tokens = t i; own = o i; arrays = ar i; strays = c i }

  -- two acts of one queue
  pub queue_pair : ActsJoin → kind_of net u ≡ Lsq n depth ports groups fw → length s.tokens ≡ length net.chans → u < length s.own → IsConsistent own_at.queue
      → (a b : Act) → (is_control a ≡ true → is_control b ≡ true → ⊥) → enabled net s (firing u a) → enabled net s (firing u b)
      → (firing u a ≡ firing u b) ⊎ Commute State Firing (enabled net) (after net) s (firing u a) (firing u b)
  queue_pair join is long lu fine a b apart_control h1 h2 =
      let w1 = goes net s (firing u a) h1 in
      let w2 = goes net s (firing u b) h2 in
      let i1 = queue_inv depth ports groups a own_at array_at (head_at net s u) w1.0 (sym (lsq_is net u n depth ports groups fw is s a) ∙ w1.1.is) in
      let i2 = queue_inv depth ports groups b own_at array_at (head_at net s u) w2.0 (sym (lsq_is net u n depth ports groups fw is s b) ∙ w2.1.is) in
      ways i1.0 i2.0 i1.1 i2.1 i1.2 i2.2 (rw i1.3 w1.1) (rw i2.3 w2.1)
    where
      ways : (v w : ℕ) → can depth groups own_at.queue a ≡ true → can depth groups own_at.queue b ≡ true
          → Given (in_place groups a) (head_at net s u) v → Given (in_place groups b) (head_at net s u) w
          → Goes net s (firing u a) (eff a v) → Goes net s (firing u b) (eff b w)
          → (firing u a ≡ firing u b) ⊎ Commute State Firing (enabled net) (after net) s (firing u a) (firing u b)
      ways v w c1 c2 t1 t2 g1 g2 = with_in (common (in_place groups a) (in_place groups b))
        where
          closed : ((p : ℕ) → in_place groups a ≡ Some p → in_place groups b ≡ Some p → ⊥) → ((p : ℕ) → out_place groups a ≡ Some p → out_place groups b ≡ Some p → ⊥)
              → (firing u a ≡ firing u b) ⊎ Commute State Firing (enabled net) (after net) s (firing u a) (firing u b)
          closed ni no_out =
              let split : Split a b = record {
                ins = λ p q i j l m. ni p i (rw (same_in u u p q net.chans l m).1 j);
                outs = λ p q i j l m. no_out p i (rw (same_out u u p q net.chans l m).1 j);
              } in
              elim (join depth ports groups own_at.queue array_at a b v w fine c1 c2 apart_control) [
                | inl e ↦ inl (ap (firing u) e)
                | inr j ↦ inr (closes net s (firing u a) (firing u b) (eff a v) (eff b w) (eff_past a b v w) (eff_past b a w v) g1 g2
                    (half is long lu a b v w split j t1 g1.room)
                    (half is long lu b a w v (split_flip a b long split) (joined_flip depth ports groups own_at.queue array_at a b v w j) t2 g2.room)
                    (queue_states a b v w long split j t1 t2))
              ]

          with_out : ((p : ℕ) → in_place groups a ≡ Some p → in_place groups b ≡ Some p → ⊥) → ((p : ℕ) × (out_place groups a ≡ Some p) × (out_place groups b ≡ Some p)) ⊎ ((p : ℕ) → out_place groups a ≡ Some p → out_place groups b ≡ Some p → ⊥)
              → (firing u a ≡ firing u b) ⊎ Commute State Firing (enabled net) (after net) s (firing u a) (firing u b)
          with_out ni (inl x) = inl (ap (firing u) (one_out depth groups own_at.queue a b x.0 c1 c2 x.1 x.2))
          with_out ni (inr x) = closed ni x

          with_in : ((p : ℕ) × (in_place groups a ≡ Some p) × (in_place groups b ≡ Some p)) ⊎ ((p : ℕ) → in_place groups a ≡ Some p → in_place groups b ≡ Some p → ⊥)
              → (firing u a ≡ firing u b) ⊎ Commute State Firing (enabled net) (after net) s (firing u a) (firing u b)
          with_in (inl x) = inl (ap (firing u) (one_in depth groups own_at.queue a b x.0 c1 c2 x.1 x.2))
          with_in (inr x) = with_out x (common (out_place groups a) (out_place groups b))
