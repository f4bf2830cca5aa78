-- Two firings that may be made in a cycle may be made in either order.
use Rattle.std.proofs.Common.{◌≡◌, ◌≢◌, ◌⊎◌, inl, inr, ℕ, ◌+◌, ◌<◌, ◌≤◌, ◌&&◌, not, nat_lt, Bool, true, false, cond, Option, Some, None, List, [], ◌∷◌, length, map, get_or, set, refl, sym, ap, subst, ◌∙◌, arith, IsSomeAnd, get_or-set_same, get_or-set_other, zero, suc}
use Rattle.std.proofs.lemmas.Bool.{cases_eq, and_parts, not-true}
use Rattle.std.proofs.Math.Seq.{set_comm}
use Rattle.std.specs.List.{list_all, AllByRecursion}
use Rattle.net_types.specs.declared.net.Net.{Net}
use Rattle.net_types.specs.declared.net.Port.{Port}
use Rattle.net_types.specs.declared.net.Unit.{Unit as Kind}
use Rattle.net_types.specs.declared.net.Unit.TheVariants.{Fork, Cmerge, Sink, Lsq}
use Rattle.net_types.specs.declared.firing.Act.{Act}
use Rattle.net_types.specs.declared.firing.Act.TheVariants.{Go, Send}
use Rattle.net_types.specs.declared.firing.Firing.{Firing}
use Rattle.net_types.specs.Nets.{into, out_of, kind_of, uses, chan_at, firing}
use Rattle.net_check.specs.Checks.{IsChecked}
use Rattle.lsq_core.specs.Acts.{QueueState, can, step, in_place, out_place}
use Rattle.net_core.specs.declared.plan.Put.{Put}
use Rattle.net_core.specs.Machine.{Commute}
use Rattle.net_core.specs.Fire.{State, Own, Effect, effect_of, idle, row, fork_row, put_at, put_out, setting, at_array, head_at, tokens_at, first, effect, has_room, enabled, after, after_effect, moved, applied, puts_on, takes_from, among, added, taken, changed_from}
use Rattle.net_core.specs.Uses.{AllSame, used, used_by}
use Rattle.net_core.specs.Laws.{takes_control}
use Rattle.net_core.proofs.Premises.{Alone}
use Rattle.net_core.proofs.CheckedLemmas.{premises_of}
use Rattle.net_core.proofs.RegularLemmas.{IsRegular}
use Rattle.net_core.proofs.RowLemmas.{Has, Each, get-changed, changed-meet, swap_late}
use Rattle.net_core.proofs.GoesLemmas.{heads}
use Rattle.net_core.proofs.ApartLemmas.{Clear, clear, seen, not_taken, same_in, same_out, puts-inv, full, tokens_comm, effect_past}
use Rattle.net_core.proofs.ForkLemmas.{send_eff, send_inv}
use Rattle.net_core.proofs.PlanUses.{fork_act, fork_effect, fork_uses, send_does}
use Rattle.net_core.proofs.ActLemmas.{kind_within, merge_inv}
use Rattle.net_core.proofs.QueueActLemmas.{place_list, queue_effect, Given, queue_inv, put_out_inv, one_in, one_out, lsq_is}
use Rattle.net_core.proofs.TakerLemmas.{one_taker}
use Rattle.net_core.proofs.DiamondLemmas.{diamond}
use Rattle.cycle_engine.specs.Cycles.{Dated, dated, after_by, after_in, IsRipe, May, AreDated}
use Rattle.cycle_engine.proofs.BeforeLemmas.{after_of, some_within, row_past, used_same}
use Rattle.cycle_engine.proofs.DateLemmas.{effect_there, used_heads}
use Rattle.cycle_engine.proofs.OwnLemmas.{is_goer, goes_only, bits_after}
use Rattle.cycle_engine.proofs.QueueTurnLemmas.{laws, queue_used, free_place, takes_at}

-- each of two firings may be made after the other, and both orders lead to one state
pub record Swaps (net : Net) (c : ℕ) (start s : Dated) (f g : Firing) : Type 0 where
  pub f_then : May net c start (after_in net c s g) f
  pub g_then : May net c start (after_in net c s f) g
  pub meet : after_in net c (after_in net c s f) g ≡ after_in net c (after_in net c s g) f

-- ---- what one firing leaves of the other

-- the date of a put tells its place
dated_inv : (c : ℕ) (o : Option Put) (w : Put) → dated c o ≡ Some w → (x : Put) × (o ≡ Some x) × (x.place ≡ w.place)
dated_inv c None w e = cc
dated_inv c (Some x) w e = let k : record { place = x.place; value = c } ≡ w = cc in (x, refl, ap (λ (y : Put). y.place) k)

room_dated : (net : Net) (t : State) (u c : ℕ) (o : Option Put) → has_room net t u o → has_room net t u (dated c o)
room_dated net t u c None h = tt
room_dated net t u c (Some w) h = h

dated_room : (net : Net) (t : State) (u c : ℕ) (o : Option Put) → has_room net t u (dated c o) → has_room net t u o
dated_room net t u c None h = tt
dated_room net t u c (Some w) h = h

first_kept : (o : Option ℕ) (ds : List ℕ) (Q : ℕ → Type 0) → IsSomeAnd (first ds) Q → IsSomeAnd (first (added o ds)) Q
first_kept o [] Q h = absurd h
first_kept None (d ∷ ds) Q h = h
first_kept (Some x) (d ∷ ds) Q h = h

-- a ripe head that is not taken stays ripe
pub ripe_kept : (net : Net) (c : ℕ) (s : Dated) (v d : ℕ) (e : Effect) → AreDated net s → (d < length net.chans → takes_from net v e d ≡ false) → IsRipe net c s d → IsRipe net c (after_of net c s v e) d
ripe_kept net c s v d e k free r =
    let Q : ℕ → Type 0 = λ date. date + (chan_at net d).delay ≤ c in
    let w : d < length s.dates = some_within s.dates d (λ date. date + (chan_at net d).delay ≤ c) r in
    let n = k.lists in
    let l : d < length net.chans = omega arith in
    let ed : get_or (after_of net c s v e).dates d [] ≡ added (puts_on net v (dated c e.put) d) (get_or s.dates d [])
    = get-changed (moved net v (record e { put = dated c e.put })) 0 s.dates d d (omega arith) w
    ∙ ap (λ z. added (puts_on net v (dated c e.put) d) (taken z (get_or s.dates d []))) (free l) in
    let P : List ℕ → Type 0 = λ ys. IsSomeAnd (first ys) (λ date. date + (chan_at net d).delay ≤ c) in
    subst P (sym ed) (first_kept (puts_on net v (dated c e.put) d) (get_or s.dates d []) (λ date. date + (chan_at net d).delay ≤ c) r)

-- after the effect x of the unit v the firing f has the effect e' in place of e: it puts at the same place, and uses the same heads,
-- none of which x takes
record Leaves (net : Net) (c : ℕ) (s : Dated) (v : ℕ) (x : Effect) (f : Firing) (e e' : Effect) : Type 0 where
  is : effect net (after_of net c s v x).state f ≡ Some e'
  put : dated c e'.put ≡ dated c e.put
  looks : used net (after_of net c s v x).state f ≡ used net s.state f
  free : AllByRecursion (λ p. into f.unit p net.chans < length net.chans → takes_from net v x (into f.unit p net.chans) ≡ false) (used net s.state f)

ripe_all : (net : Net) (c : ℕ) (s : Dated) (v u : ℕ) (e : Effect) (ps : List ℕ) → AreDated net s → AllByRecursion (λ p. into u p net.chans < length net.chans → takes_from net v e (into u p net.chans) ≡ false) ps
    → AllByRecursion (λ p. IsRipe net c s (into u p net.chans)) ps → AllByRecursion (λ p. IsRipe net c (after_of net c s v e) (into u p net.chans)) ps
ripe_all net c s v u e [] k free r = tt
ripe_all net c s v u e (p ∷ ps) k free r = (ripe_kept net c s v (into u p net.chans) e k free.0 r.0, ripe_all net c s v u e ps k free.1 r.1)

still_may : (net : Net) (c : ℕ) (start s : Dated) (v : ℕ) (x : Effect) (f : Firing) (e e' : Effect) → AreDated net s → May net c start s f → effect net s.state f ≡ Some e → Leaves net c s v x f e e'
    → enabled net (after_of net c s v x).state f → May net c start (after_of net c s v x) f
still_may net c start s v x f e e' k may i leaves on =
    let R : List ℕ → Type 0 = AllByRecursion (λ p. IsRipe net c (after_of net c s v x) (into f.unit p net.chans)) in
    let S : Option Effect → Type 0 = λ o. IsSomeAnd o (λ y. has_room net start.state f.unit y.put) in
    let T : Option Put → Type 0 = has_room net start.state f.unit in
    let room : has_room net start.state f.unit e.put = subst S i may.room in
    let room' : has_room net start.state f.unit e'.put = dated_room net start.state f.unit c e'.put (subst T (sym leaves.put) (room_dated net start.state f.unit c e.put room)) in
    record {
      turn = on;
      ripe = subst R (sym leaves.looks) (ripe_all net c s v f.unit x (used net s.state f) k leaves.free may.ripe);
      room = subst S (sym leaves.is) room';
      depth = may.depth;
    }

-- the dates after two effects
abbrev shift : Net → ℕ → ℕ → Effect → List (List ℕ) → List (List ℕ)
shift net c u e dates = changed_from (moved net u (record e { put = dated c e.put })) 0 dates

close : (net : Net) (c : ℕ) (start s : Dated) (f g : Firing) (e1 e2 e1' e2' : Effect) → AreDated net s → May net c start s f → May net c start s g → effect net s.state f ≡ Some e1 → effect net s.state g ≡ Some e2
    → Leaves net c s g.unit e2 f e1 e1' → Leaves net c s f.unit e1 g e2 e2' → Commute State Firing (enabled net) (after net) s.state f g
    → shift net c g.unit e2' (shift net c f.unit e1 s.dates) ≡ shift net c f.unit e1' (shift net c g.unit e2 s.dates) → Swaps net c start s f g
close net c start s f g e1 e2 e1' e2' k mf mg i1 i2 lf lg both dates =
    let q1 : after_in net c s f ≡ after_of net c s f.unit e1 = ap (after_by net c s f.unit) i1 in
    let q2 : after_in net c s g ≡ after_of net c s g.unit e2 = ap (after_by net c s g.unit) i2 in
    let a1 : after net s.state f ≡ applied net f.unit e1 s.state = ap (after_effect net s.state f.unit) i1 in
    let a2 : after net s.state g ≡ applied net g.unit e2 s.state = ap (after_effect net s.state g.unit) i2 in
    let E : State → Type 0 = λ t. enabled net t f in
    let F : State → Type 0 = λ t. enabled net t g in
    let A : Dated → Type 0 = λ t. May net c start t f in
    let B : Dated → Type 0 = λ t. May net c start t g in
    let b1 : after net (applied net f.unit e1 s.state) g ≡ applied net g.unit e2' (applied net f.unit e1 s.state) = ap (after_effect net (applied net f.unit e1 s.state) g.unit) lg.is in
    let b2 : after net (applied net g.unit e2 s.state) f ≡ applied net f.unit e1' (applied net g.unit e2 s.state) = ap (after_effect net (applied net g.unit e2 s.state) f.unit) lf.is in
    let states : applied net g.unit e2' (applied net f.unit e1 s.state) ≡ applied net f.unit e1' (applied net g.unit e2 s.state)
    = sym b1 ∙ (ap (λ t. after net t g) (sym a1) ∙ (both.meet ∙ (ap (λ t. after net t f) a2 ∙ b2))) in
    let m : after_of net c (after_of net c s f.unit e1) g.unit e2' ≡ after_of net c (after_of net c s g.unit e2) f.unit e1' = λ i. record { state = states i; dates = dates i } in
    record {
      f_then = subst A (sym q2) (still_may net c start s g.unit e2 f e1 e1' k mf i1 lf (subst E a2 both.f_then));
      g_then = subst B (sym q1) (still_may net c start s f.unit e1 g e2 e2' k mg i2 lg (subst F a1 both.g_then));
      meet = ap (λ t. after_in net c t g) q1 ∙ (ap (after_by net c (after_of net c s f.unit e1) g.unit) lg.is ∙ (m ∙ (sym (ap (after_by net c (after_of net c s g.unit e2) f.unit) lf.is) ∙ ap (λ t. after_in net c t f) (sym q2))));
    }

-- ---- dates in either order

abbrev as_tokens : Dated → State
as_tokens s = record s.state { tokens = s.dates }

dated_head : (net : Net) (s : Dated) (u p : ℕ) → AreDated net s → Has (head_at net s.state u) p → Has (head_at net (as_tokens s) u) p
dated_head net s u p k h = by (tokens_at s.state (into u p net.chans)) (get_or s.dates (into u p net.chans) []) (k.each (into u p net.chans)) h.1
  where
    by : (xs ds : List ℕ) → length ds ≡ length xs → first xs ≡ Some h.0 → (v : ℕ) × (first ds ≡ Some v)
    by [] ds l e = cc
    by (x ∷ xs) [] l e = absurd (omega arith)
    by (x ∷ xs) (d ∷ ds) l e = (d, refl)

dated_heads : (net : Net) (s : Dated) (u : ℕ) (ps : List ℕ) → AreDated net s → Each (Has (head_at net s.state u)) ps → Each (Has (head_at net (as_tokens s) u)) ps
dated_heads net s u [] k h = tt
dated_heads net s u (p ∷ ps) k h = (dated_head net s u p k h.0, dated_heads net s u ps k h.1)

abbrev dated_effect : ℕ → Effect → Effect
dated_effect c e = record e { put = dated c e.put }

dates_clear : (net : Net) (c : ℕ) (s : Dated) (u v : ℕ) (e1 e2 e1' e2' : Effect) → AreDated net s → Clear net u v (dated_effect c e1) (dated_effect c e2)
    → Each (Has (head_at net s.state u)) e1.takes → Each (Has (head_at net s.state v)) e2.takes
    → e1'.takes ≡ e1.takes → dated c e1'.put ≡ dated c e1.put → e2'.takes ≡ e2.takes → dated c e2'.put ≡ dated c e2.put
    → shift net c v e2' (shift net c u e1 s.dates) ≡ shift net c u e1' (shift net c v e2 s.dates)
dates_clear net c s u v e1 e2 e1' e2' k apart h1 h2 t1 p1 t2 p2 =
    same v e2 e2' t2 p2 (shift net c u e1 s.dates)
    ∙ (tokens_comm net (as_tokens s) u v (dated_effect c e1) (dated_effect c e2) apart k.lists (dated_heads net s u e1.takes k h1) (dated_heads net s v e2.takes k h2)
    ∙ sym (same u e1 e1' t1 p1 (shift net c v e2 s.dates)))
  where
    -- dates go by what is taken and by where it is put
    going : ℕ → List ℕ → Option Put → List (List ℕ) → List (List ℕ)
    going w takes put dates = changed_from (λ d xs. added (puts_on net w put d) (taken (among d (map (λ p. into w p net.chans) takes)) xs)) 0 dates

    same : (w : ℕ) (e e' : Effect) → e'.takes ≡ e.takes → dated c e'.put ≡ dated c e.put → (dates : List (List ℕ)) → shift net c w e' dates ≡ shift net c w e dates
    same w e e' t p dates = ap (λ ts. going w ts (dated c e'.put) dates) t ∙ ap (λ o. going w e.takes o dates) p

-- ---- firings of two units

all_free : (net : Net) (u v : ℕ) (e : Effect) (ps : List ℕ) → u ≢ v → AllByRecursion (λ p. into u p net.chans < length net.chans → takes_from net v e (into u p net.chans) ≡ false) ps
all_free net u v e [] ne = tt
all_free net u v e (p ∷ ps) ne = (not_taken net u v p e ne, all_free net u v e ps ne)

heads_same : (net : Net) (s : State) (u v : ℕ) (e : Effect) (ps : List ℕ) → u ≢ v → length s.tokens ≡ length net.chans → AllByRecursion (λ p. IsSomeAnd (head_at net s u p) (λ x. Unit {0})) ps
    → AllSame (head_at net s u) (head_at net (applied net v e s) u) ps
heads_same net s u v e [] ne long h = tt
heads_same net s u v e (p ∷ ps) ne long h = (one (head_at net s u p) refl h.0, heads_same net s u v e ps ne long h.1)
  where
    one : (o : Option ℕ) → head_at net s u p ≡ o → IsSomeAnd o (λ x. Unit {0}) → head_at net (applied net v e s) u p ≡ head_at net s u p
    one None i h = absurd h
    one (Some x) i h = seen net s u v p x e long (not_taken net u v p e ne) i ∙ sym i

leaves_other : (net : Net) (c : ℕ) (s : Dated) (v : ℕ) (x : Effect) (f : Firing) (e : Effect) → Alone net → AreDated net s → f.unit ≢ v → effect net s.state f ≡ Some e → Leaves net c s v x f e e
leaves_other net c s v x f e alone k ne i =
    let r : Rattle.net_core.specs.Fire.Row = row (kind_of net f.unit) f.act (get_or s.state.own f.unit idle) (at_array s.state.arrays (uses (kind_of net f.unit))) (setting net s.state) in
    record {
      is = effect_past net s.state f v e x alone ne k.chans i;
      put = refl;
      looks = ap (λ y. used_by y (head_at net (applied net v x s.state) f.unit)) (row_past net s.state f v x alone ne)
          ∙ used_same (row (kind_of net f.unit) f.act (get_or s.state.own f.unit idle) (at_array s.state.arrays (uses (kind_of net f.unit))) (setting net s.state)) (head_at net s.state f.unit) (head_at net (applied net v x s.state) f.unit)
          (heads_same net s.state f.unit v x (used net s.state f) ne k.chans (used_heads (row (kind_of net f.unit) f.act (get_or s.state.own f.unit idle) (at_array s.state.arrays (uses (kind_of net f.unit))) (setting net s.state)) (head_at net s.state f.unit) e i));
      free = all_free net f.unit v x (used net s.state f) ne;
    }

-- ---- two acts of one queue

put_same : (c : ℕ) (ps : List Port) (gs : List (List ℕ)) (q r : QueueState) (xs ys : List ℕ) (b : Act) (v w : ℕ) → dated c (put_out (out_place gs b) (step ps gs q xs b v).put) ≡ dated c (put_out (out_place gs b) (step ps gs r ys b w).put)
put_same c ps gs q r xs ys Go v w = refl
put_same c ps gs q r xs ys _ v w = refl

-- what an act of a queue does in a state
record Acts (net : Net) (s : State) (u n d : ℕ) (ps : List Port) (gs : List (List ℕ)) (a : Act) (e : Effect) : Type 0 where
  value : ℕ
  can_go : can d gs (get_or s.own u idle).queue a ≡ true
  given : Given (in_place gs a) (head_at net s u) value
  does : queue_effect ps gs a (get_or s.own u idle) (get_or s.arrays n []) value ≡ e

acts_of : (net : Net) (s : State) (u n d : ℕ) (ps : List Port) (gs : List (List ℕ)) (fw : Bool) (a : Act) (e : Effect) → kind_of net u ≡ Lsq n d ps gs fw → effect net s (firing u a) ≡ Some e → Acts net s u n d ps gs a e
acts_of net s u n d ps gs fw a e ku is =
    let i = queue_inv d ps gs a (get_or s.own u idle) (get_or s.arrays n []) (head_at net s u) e (sym (lsq_is net u n d ps gs fw ku s a) ∙ is) in
    record { value = i.0; can_go = i.1; given = i.2; does = i.3 }

takes_of : (net : Net) (s : State) (u n d : ℕ) (ps : List Port) (gs : List (List ℕ)) (a : Act) (e : Effect) → Acts net s u n d ps gs a e → e.takes ≡ place_list (in_place gs a)
takes_of net s u n d ps gs a e i = ap (λ (y : Effect). y.takes) (sym i.does)

put_of : (net : Net) (c : ℕ) (s t : State) (u n d : ℕ) (ps : List Port) (gs : List (List ℕ)) (a : Act) (e e' : Effect) → Acts net s u n d ps gs a e → Acts net t u n d ps gs a e' → dated c e'.put ≡ dated c e.put
put_of net c s t u n d ps gs a e e' i i' =
    ap (λ (y : Effect). dated c y.put) (sym i'.does)
    ∙ (put_same c ps gs (get_or t.own u idle).queue (get_or s.own u idle).queue (get_or t.arrays n []) (get_or s.arrays n []) a i'.value i.value
    ∙ ap (λ (y : Effect). dated c y.put) i.does)

leaves_act : (net : Net) (c : ℕ) (s : Dated) (u n d : ℕ) (ps : List Port) (gs : List (List ℕ)) (fw : Bool) (a b : Act) (e1 e2 e1' : Effect) → kind_of net u ≡ Lsq n d ps gs fw → a ≢ b
    → Acts net s.state u n d ps gs a e1 → Acts net s.state u n d ps gs b e2 → effect net (after_of net c s u e2).state (firing u a) ≡ Some e1' → Leaves net c s u e2 (firing u a) e1 e1'
leaves_act net c s u n d ps gs fw a b e1 e2 e1' ku ne i1 i2 is =
    let i1' = acts_of net (after_of net c s u e2).state u n d ps gs fw a e1' ku is in
    let now : used net s.state (firing u a) ≡ place_list (in_place gs a) = queue_used net u n d ps gs fw ku s.state a i1.value i1.can_go i1.given in
    let P : List ℕ → Type 0 = AllByRecursion (λ p. into u p net.chans < length net.chans → takes_from net u e2 (into u p net.chans) ≡ false) in
    record {
      is = is;
      put = put_of net c s.state (after_of net c s u e2).state u n d ps gs a e1 e1' i1 i1';
      looks = queue_used net u n d ps gs fw ku (after_of net c s u e2).state a i1'.value i1'.can_go i1'.given ∙ sym now;
      free = subst P (sym now) (at (in_place gs a) refl);
    }
  where
    at : (o : Option ℕ) → in_place gs a ≡ o → AllByRecursion (λ p. into u p net.chans < length net.chans → takes_from net u e2 (into u p net.chans) ≡ false) (place_list o)
    at None q = tt
    at (Some p) q = (free_place net u d ps gs (get_or s.state.own u idle).queue b a p e2 (takes_of net s.state u n d ps gs b e2 i2) q i2.can_go i1.can_go (λ z. ne (sym z)), tt)

out_at : (net : Net) (c : ℕ) (s : State) (u n d k : ℕ) (ps : List Port) (gs : List (List ℕ)) (a : Act) (e : Effect) → Acts net s u n d ps gs a e → puts_on net u (dated c e.put) k ≢ None → (p : ℕ) × (out_place gs a ≡ Some p) × (k ≡ out_of u p net.chans)
out_at net c s u n d k ps gs a e i h =
    let w = puts-inv net u k (dated c e.put) h in
    let x = dated_inv c e.put w.0 w.1 in
    (x.0.place, put_out_inv (out_place gs a) (step ps gs (get_or s.own u idle).queue (get_or s.arrays n []) a i.value).put x.0 (ap (λ (y : Effect). y.put) i.does ∙ x.1), w.2 ∙ ap (λ p. out_of u p net.chans) (sym x.2))

acts_clear : (net : Net) (c : ℕ) (s : State) (u n d : ℕ) (ps : List Port) (gs : List (List ℕ)) (a b : Act) (e1 e2 : Effect) → a ≢ b → Acts net s u n d ps gs a e1 → Acts net s u n d ps gs b e2 → Clear net u u (dated_effect c e1) (dated_effect c e2)
acts_clear net c s u n d ps gs a b e1 e2 ne i1 i2 = record {
  takes = λ k l g1 g2.
      let x = takes_at net u (in_place gs a) k (ap (λ ps. among k (map (λ p. into u p net.chans) ps)) (sym (takes_of net s u n d ps gs a e1 i1)) ∙ g1) in
      let y = takes_at net u (in_place gs b) k (ap (λ ps. among k (map (λ p. into u p net.chans) ps)) (sym (takes_of net s u n d ps gs b e2 i2)) ∙ g2) in
      let z = (same_in u u x.0 y.0 net.chans (omega (arith, x.2)) (sym x.2 ∙ y.2)).1 in
      ne (one_in d gs (get_or s.own u idle).queue a b x.0 i1.can_go i2.can_go x.1 (y.1 ∙ ap Some (sym z)));
  puts = λ k l g1 g2.
      let x = out_at net c s u n d k ps gs a e1 i1 g1 in
      let y = out_at net c s u n d k ps gs b e2 i2 g2 in
      let z = (same_out u u x.0 y.0 net.chans (omega (arith, x.2)) (sym x.2 ∙ y.2)).1 in
      ne (one_out d gs (get_or s.own u idle).queue a b x.0 i1.can_go i2.can_go x.1 (y.1 ∙ ap Some (sym z)));
}

-- ---- two sends of one fork

unsent : (xs : List Bool) (j : ℕ) → get_or xs j true ≡ false → list_all (λ b. b) xs ≡ false
unsent [] j e = cc
unsent (x ∷ xs) zero e = ap (λ b. b && list_all (λ y. y) xs) e
unsent (false ∷ xs) (suc j) e = refl
unsent (true ∷ xs) (suc j) e = unsent xs j e

-- what a send of a fork does in a state
record Sends (net : Net) (s : State) (u outs j : ℕ) (e : Effect) : Type 0 where
  value : ℕ
  allowed : (nat_lt j outs && not (get_or (get_or s.own u idle).sent j true)) ≡ true
  head : head_at net s u 0 ≡ Some value
  does : send_eff j (get_or s.own u idle) [] value ≡ e

sends_of : (net : Net) (s : State) (u w outs j : ℕ) (e : Effect) → kind_of net u ≡ Fork w outs → effect net s (firing u (Send j)) ≡ Some e → Sends net s u outs j e
sends_of net s u w outs j e ku is =
    let i = send_inv outs j (get_or s.own u idle) [] (head_at net s u) e (sym (fork_effect net u w outs ku s (Send j)) ∙ is) in
    record { value = i.1; allowed = i.0; head = i.2; does = i.3 }

sends_used : (net : Net) (s : State) (u w outs j : ℕ) (e : Effect) → kind_of net u ≡ Fork w outs → Sends net s u outs j e → used net s (firing u (Send j)) ≡ 0 ∷ []
sends_used net s u w outs j e ku i = fork_uses net u w outs ku s (Send j) ∙ (send_does outs j (get_or s.own u idle) [] (head_at net s u) i.value i.allowed i.head).1

-- the first of two sends takes nothing
first_send : (net : Net) (s : State) (u outs i j : ℕ) (e1 e2 : Effect) → i ≢ j → Sends net s u outs i e1 → Sends net s u outs j e2 → e1.takes ≡ []
first_send net s u outs i j e1 e2 ne a b =
    let bit : get_or (get_or s.own u idle).sent j true ≡ false = not-true _ (and_parts (nat_lt j outs) _ b.allowed).1 in
    let all : list_all (λ y. y) (set (get_or s.own u idle).sent i true) ≡ false = unsent (set (get_or s.own u idle).sent i true) j (get_or-set_other (get_or s.own u idle).sent i j true true (λ z. ne (sym z)) ∙ bit) in
    ap (λ (y : Effect). y.takes) (sym a.does) ∙ ap (λ y. cond y (0 ∷ []) []) all

leaves_send : (net : Net) (c : ℕ) (s : Dated) (u w outs i j : ℕ) (e1 e2 e1' : Effect) → kind_of net u ≡ Fork w outs → e2.takes ≡ [] → Sends net s.state u outs i e1
    → effect net (after_of net c s u e2).state (firing u (Send i)) ≡ Some e1' → Leaves net c s u e2 (firing u (Send i)) e1 e1'
leaves_send net c s u w outs i j e1 e2 e1' ku none a is =
    let a' = sends_of net (after_of net c s u e2).state u w outs i e1' ku is in
    let now : used net s.state (firing u (Send i)) ≡ 0 ∷ [] = sends_used net s.state u w outs i e1 ku a in
    let P : List ℕ → Type 0 = AllByRecursion (λ p. into u p net.chans < length net.chans → takes_from net u e2 (into u p net.chans) ≡ false) in
    record {
      is = is;
      put = ap (λ (y : Effect). dated c y.put) (sym a'.does) ∙ ap (λ (y : Effect). dated c y.put) a.does;
      looks = sends_used net (after_of net c s u e2).state u w outs i e1' ku a' ∙ sym now;
      free = subst P (sym now) ((λ l. ap (λ ps. among (into u 0 net.chans) (map (λ p. into u p net.chans) ps)) none), tt);
    }

-- what the second of two sends takes
second_takes : (net : Net) (c : ℕ) (s : Dated) (u w outs i j : ℕ) (e1 e2' : Effect) → kind_of net u ≡ Fork w outs → u < length s.state.own → e1.takes ≡ [] → Sends net s.state u outs i e1
    → effect net (after_of net c s u e1).state (firing u (Send j)) ≡ Some e2' → e2'.takes ≡ cond (list_all (λ b. b) (set (set (get_or s.state.own u idle).sent i true) j true)) (0 ∷ []) []
second_takes net c s u w outs i j e1 e2' ku lu none a is =
    let b = sends_of net (after_of net c s u e1).state u w outs j e2' ku is in
    let own : get_or (after_of net c s u e1).state.own u idle ≡ e1.own = get_or-set_same s.state.own u e1.own idle lu in
    let bits : e1.own.sent ≡ set (get_or s.state.own u idle).sent i true
    = ap (λ (y : Effect). y.own.sent) (sym a.does) ∙ bits_after i (get_or s.state.own u idle) [] a.value (ap (λ (y : Effect). y.takes) a.does ∙ none) in
    ap (λ (y : Effect). y.takes) (sym b.does)
    ∙ (ap (λ (o : Own). cond (list_all (λ b. b) (set o.sent j true)) (0 ∷ []) []) own
    ∙ ap (λ z. cond (list_all (λ b. b) (set z j true)) (0 ∷ []) []) bits)

dates_sends : (net : Net) (c : ℕ) (s : Dated) (u i j v : ℕ) (last : Bool) (e1 e2 e1' e2' : Effect) → AreDated net s → i ≢ j → head_at net s.state u 0 ≡ Some v
    → e1.takes ≡ [] → e2.takes ≡ [] → e1'.takes ≡ cond last (0 ∷ []) [] → e2'.takes ≡ cond last (0 ∷ []) []
    → dated c e1.put ≡ put_at i c → dated c e2.put ≡ put_at j c → dated c e1'.put ≡ put_at i c → dated c e2'.put ≡ put_at j c
    → shift net c u e2' (shift net c u e1 s.dates) ≡ shift net c u e1' (shift net c u e2 s.dates)
dates_sends net c s u i j v last e1 e2 e1' e2' k ne h t1 t2 t1' t2' p1 p2 p1' p2' =
    changed-meet (moved net u (dated_effect c e2')) (moved net u (dated_effect c e1)) (moved net u (dated_effect c e2)) (moved net u (dated_effect c e1')) 0 s.dates
    (λ d m at l. let e : m ≡ d = omega arith in
    let n = k.lists in
    let within : d < length net.chans = omega arith in
    going e2' j d (cond last (0 ∷ []) []) t2' p2' (moved net u (dated_effect c e1) d (get_or s.dates m []))
    ∙ (ap (λ xs. added (puts_on net u (put_at j c) d) (taken (among d (map (λ p. into u p net.chans) (cond last (0 ∷ []) []))) xs)) (going e1 i d [] t1 p1 (get_or s.dates m []))
    ∙ (swap_late (among d (map (λ p. into u p net.chans) (cond last (0 ∷ []) []))) (puts_on net u (put_at i c) d) (puts_on net u (put_at j c) d) (get_or s.dates m [])
    (λ f. full net (as_tokens s) u d m (cond last (0 ∷ []) []) e (heads_of last) f) (not_both d within)
    ∙ (sym (ap (λ xs. added (puts_on net u (put_at i c) d) (taken (among d (map (λ p. into u p net.chans) (cond last (0 ∷ []) []))) xs)) (going e2 j d [] t2 p2 (get_or s.dates m [])))
    ∙ sym (going e1' i d (cond last (0 ∷ []) []) t1' p1' (moved net u (dated_effect c e2) d (get_or s.dates m [])))))))
  where
    going : (e : Effect) (n d : ℕ) (ts : List ℕ) → e.takes ≡ ts → dated c e.put ≡ put_at n c → (xs : List ℕ) → moved net u (dated_effect c e) d xs ≡ added (puts_on net u (put_at n c) d) (taken (among d (map (λ p. into u p net.chans) ts)) xs)
    going e n d ts t p xs =
        ap (λ o. added (puts_on net u o d) (taken (among d (map (λ p. into u p net.chans) e.takes)) xs)) p
        ∙ ap (λ ps. added (puts_on net u (put_at n c) d) (taken (among d (map (λ p. into u p net.chans) ps)) xs)) t

    heads_of : (b : Bool) → Each (Has (head_at net (as_tokens s) u)) (cond b (0 ∷ []) [])
    heads_of true = (dated_head net s u 0 k (v, h), tt)
    heads_of false = tt

    place_eq : (n : ℕ) (p : Put) → put_at n c ≡ Some p → n ≡ p.place
    place_eq n p e = cc

    not_both : (d : ℕ) → d < length net.chans → puts_on net u (put_at i c) d ≢ None → puts_on net u (put_at j c) d ≢ None → ⊥
    not_both d l a b =
        let p = puts-inv net u d (put_at i c) a in
        let q = puts-inv net u d (put_at j c) b in
        let pi : i ≡ p.0.place = place_eq i p.0 p.1 in
        let pj : j ≡ q.0.place = place_eq j q.0 q.1 in
        let z = (same_out u u p.0.place q.0.place net.chans (omega (arith, p.2)) (sym p.2 ∙ q.2)).1 in
        ne (omega arith)

-- ---- any two

swaps_other : (net : Net) (c : ℕ) (start s : Dated) (f g : Firing) → IsChecked net → AreDated net s → May net c start s f → May net c start s g → f.unit ≢ g.unit → Commute State Firing (enabled net) (after net) s.state f g → Swaps net c start s f g
swaps_other net c start s f g checked k mf mg ne both =
    let x = effect_there net s.state f mf.turn in
    let y = effect_there net s.state g mg.turn in
    let hf = heads net s.state f x.0 x.1 in
    let hg = heads net s.state g y.0 y.1 in
    close net c start s f g x.0 y.0 x.0 y.0 k mf mg x.1 y.1 (leaves_other net c s g.unit y.0 f x.0 alone k ne x.1) (leaves_other net c s f.unit x.0 g y.0 alone k (λ z. ne (sym z)) y.1) both
    (dates_clear net c s f.unit g.unit x.0 y.0 x.0 y.0 k (clear net s.state f.unit g.unit (dated_effect c x.0) (dated_effect c y.0) ne hf) hf hg refl refl refl refl)
  where
    alone : Alone net
    alone u v a differ o r = differ (sym (checked.alone u v a o r))

-- the effect of the one after the other
then_effect : (net : Net) (c : ℕ) (s : Dated) (f g : Firing) (e : Effect) → effect net s.state f ≡ Some e → enabled net (after net s.state f) g → (x : Effect) × (effect net (after_of net c s f.unit e).state g ≡ Some x)
then_effect net c s f g e i on =
    let P : State → Type 0 = λ t. enabled net t g in
    let w = effect_there net (applied net f.unit e s.state) g (subst P (ap (after_effect net s.state f.unit) i) on) in
    (w.0, w.1)

module _ (net : Net) (c : ℕ) (start s : Dated) (u : ℕ) (checked : IsChecked net) (good : IsRegular net s.state) (k : AreDated net s) where
  swaps_acts : (n d : ℕ) (ps : List Port) (gs : List (List ℕ)) (fw : Bool) (a b : Act) → kind_of net u ≡ Lsq n d ps gs fw → a ≢ b → May net c start s (firing u a) → May net c start s (firing u b)
      → Commute State Firing (enabled net) (after net) s.state (firing u a) (firing u b) → Swaps net c start s (firing u a) (firing u b)
  swaps_acts n d ps gs fw a b ku ne ma mb both =
      let x = effect_there net s.state (firing u a) ma.turn in
      let y = effect_there net s.state (firing u b) mb.turn in
      let i1 = acts_of net s.state u n d ps gs fw a x.0 ku x.1 in
      let i2 = acts_of net s.state u n d ps gs fw b y.0 ku y.1 in
      let x' = then_effect net c s (firing u b) (firing u a) y.0 y.1 both.f_then in
      let y' = then_effect net c s (firing u a) (firing u b) x.0 x.1 both.g_then in
      let i1' = acts_of net (after_of net c s u y.0).state u n d ps gs fw a x'.0 ku x'.1 in
      let i2' = acts_of net (after_of net c s u x.0).state u n d ps gs fw b y'.0 ku y'.1 in
      let t1 : x'.0.takes ≡ x.0.takes = takes_of net (after_of net c s u y.0).state u n d ps gs a x'.0 i1' ∙ sym (takes_of net s.state u n d ps gs a x.0 i1) in
      let t2 : y'.0.takes ≡ y.0.takes = takes_of net (after_of net c s u x.0).state u n d ps gs b y'.0 i2' ∙ sym (takes_of net s.state u n d ps gs b y.0 i2) in
      close net c start s (firing u a) (firing u b) x.0 y.0 x'.0 y'.0 k ma mb x.1 y.1
      (leaves_act net c s u n d ps gs fw a b x.0 y.0 x'.0 ku ne i1 i2 x'.1)
      (leaves_act net c s u n d ps gs fw b a y.0 x.0 y'.0 ku (λ z. ne (sym z)) i2 i1 y'.1) both
      (dates_clear net c s u u x.0 y.0 x'.0 y'.0 k (acts_clear net c s.state u n d ps gs a b x.0 y.0 ne i1 i2)
      (heads net s.state (firing u a) x.0 x.1) (heads net s.state (firing u b) y.0 y.1) t1
      (put_of net c s.state (after_of net c s u y.0).state u n d ps gs a x.0 x'.0 i1 i1') t2
      (put_of net c s.state (after_of net c s u x.0).state u n d ps gs b y.0 y'.0 i2 i2'))

  swaps_sends : (w outs i j : ℕ) → kind_of net u ≡ Fork w outs → i ≢ j → May net c start s (firing u (Send i)) → May net c start s (firing u (Send j))
      → Commute State Firing (enabled net) (after net) s.state (firing u (Send i)) (firing u (Send j)) → Swaps net c start s (firing u (Send i)) (firing u (Send j))
  swaps_sends w outs i j ku ne mi mj both =
      let x = effect_there net s.state (firing u (Send i)) mi.turn in
      let y = effect_there net s.state (firing u (Send j)) mj.turn in
      let a = sends_of net s.state u w outs i x.0 ku x.1 in
      let b = sends_of net s.state u w outs j y.0 ku y.1 in
      let x' = then_effect net c s (firing u (Send j)) (firing u (Send i)) y.0 y.1 both.f_then in
      let y' = then_effect net c s (firing u (Send i)) (firing u (Send j)) x.0 x.1 both.g_then in
      let a' = sends_of net (after_of net c s u y.0).state u w outs i x'.0 ku x'.1 in
      let b' = sends_of net (after_of net c s u x.0).state u w outs j y'.0 ku y'.1 in
      let none1 : x.0.takes ≡ [] = first_send net s.state u outs i j x.0 y.0 ne a b in
      let none2 : y.0.takes ≡ [] = first_send net s.state u outs j i y.0 x.0 (λ z. ne (sym z)) b a in
      let lu : u < length s.state.own = (let l : u < length net.units = kind_within net u (λ z. (let m : Fork w outs ≡ Sink 0 = sym ku ∙ z in cc)) in let o = good.owned in omega arith) in
      let bits : set (set (get_or s.state.own u idle).sent j true) i true ≡ set (set (get_or s.state.own u idle).sent i true) j true = set_comm (get_or s.state.own u idle).sent j i true true (λ z. ne (sym z)) in
      let t1 : x'.0.takes ≡ cond (list_all (λ b. b) (set (set (get_or s.state.own u idle).sent i true) j true)) (0 ∷ []) []
      = second_takes net c s u w outs j i y.0 x'.0 ku lu none2 b x'.1 ∙ ap (λ z. cond (list_all (λ b. b) z) (0 ∷ []) []) bits in
      let t2 : y'.0.takes ≡ cond (list_all (λ b. b) (set (set (get_or s.state.own u idle).sent i true) j true)) (0 ∷ []) [] = second_takes net c s u w outs i j x.0 y'.0 ku lu none1 a y'.1 in
      close net c start s (firing u (Send i)) (firing u (Send j)) x.0 y.0 x'.0 y'.0 k mi mj x.1 y.1
      (leaves_send net c s u w outs i j x.0 y.0 x'.0 ku none2 a x'.1)
      (leaves_send net c s u w outs j i y.0 x.0 y'.0 ku none1 b y'.1) both
      (dates_sends net c s u i j a.value (list_all (λ b. b) (set (set (get_or s.state.own u idle).sent i true) j true)) x.0 y.0 x'.0 y'.0 k ne a.head none1 none2 t1 t2
      (ap (λ (z : Effect). dated c z.put) (sym a.does)) (ap (λ (z : Effect). dated c z.put) (sym b.does))
      (ap (λ (z : Effect). dated c z.put) (sym a'.does)) (ap (λ (z : Effect). dated c z.put) (sym b'.does)))

  -- two firings of one unit
  swaps_own : (a b : Act) → firing u a ≢ firing u b → May net c start s (firing u a) → May net c start s (firing u b) → Commute State Firing (enabled net) (after net) s.state (firing u a) (firing u b) → Swaps net c start s (firing u a) (firing u b)
  swaps_own a b ne ma mb both = by (kind_of net u) refl
    where
      goer : is_goer (kind_of net u) ≡ true → (x : Act) → May net c start s (firing u x) → x ≡ Go
      goer g x m = let e = effect_there net s.state (firing u x) m.turn in
          goes_only (kind_of net u) x (get_or s.state.own u idle) (at_array s.state.arrays (uses (kind_of net u))) (setting net s.state) (head_at net s.state u) e.0 g e.1

      goes : is_goer (kind_of net u) ≡ true → ⊥
      goes g = ne (ap (firing u) (goer g a ma ∙ sym (goer g b mb)))

      merges : (ins : ℕ) → kind_of net u ≡ Cmerge ins → (x : Act) → May net c start s (firing u x) → takes_control x ≡ true
      merges ins ku x m = let e = effect_there net s.state (firing u x) m.turn in ap takes_control (merge_inv net s.state u ins x ku e.0 e.1).1

      sends : (w outs : ℕ) → kind_of net u ≡ Fork w outs → (x : Act) → May net c start s (firing u x) → (j : ℕ) × (x ≡ Send j)
      sends w outs ku x m =
          let e = effect_there net s.state (firing u x) m.turn in
          let y = fork_act outs x (get_or s.state.own u idle) [] (head_at net s.state u) e.0 (sym (fork_effect net u w outs ku s.state x) ∙ e.1) in
          (y.0, y.1)

      forks : (w outs : ℕ) → kind_of net u ≡ Fork w outs → Swaps net c start s (firing u a) (firing u b)
      forks w outs ku =
          let i = sends w outs ku a ma in
          let j = sends w outs ku b mb in
          let M : Act → Type 0 = λ x. May net c start s (firing u x) in
          let P : Act → Type 0 = λ x. Commute State Firing (enabled net) (after net) s.state (firing u x) (firing u b) in
          let Q : Act → Type 0 = λ x. Commute State Firing (enabled net) (after net) s.state (firing u (Send i.0)) (firing u x) in
          let R : Act → Type 0 = λ x. Swaps net c start s (firing u x) (firing u b) in
          let S : Act → Type 0 = λ x. Swaps net c start s (firing u (Send i.0)) (firing u x) in
          subst R (sym i.1) (subst S (sym j.1) (swaps_sends w outs i.0 j.0 ku (λ z. ne (ap (firing u) (i.1 ∙ (ap Send z ∙ sym j.1)))) (subst M i.1 ma) (subst M j.1 mb) (subst Q j.1 (subst P i.1 both))))

      by : (q : Kind) → kind_of net u ≡ q → Swaps net c start s (firing u a) (firing u b)
      by (Fork w outs) ku = forks w outs ku
      by (Lsq n d ps gs fw) ku = swaps_acts n d ps gs fw a b ku (λ z. ne (ap (firing u) z)) ma mb both
      by (Cmerge ins) ku = absurd (ne (one_taker net s.state (firing u a) (firing u b) (premises_of net laws checked) good ma.turn mb.turn (merges ins ku a ma) (merges ins ku b mb)))
      by _ ku = absurd (goes (ap is_goer ku))

-- two firings that may be made are one, or go in either order
pub swaps : (net : Net) (c : ℕ) (start s : Dated) (f g : Firing) → IsChecked net → IsRegular net s.state → AreDated net s → May net c start s f → May net c start s g → f ≢ g → Swaps net c start s f g
swaps net c start s f g checked good k mf mg ne = elim (diamond net (premises_of net laws checked) s.state f g good mf.turn mg.turn) [
  | inl e ↦ absurd (ne e)
  | inr both ↦ by both (cases_eq f.unit g.unit)
]
  where
    by : Commute State Firing (enabled net) (after net) s.state f g → (f.unit ≡ g.unit) ⊎ (f.unit ≢ g.unit) → Swaps net c start s f g
    by both (inr n) = swaps_other net c start s f g checked k mf mg n both
    by both (inl e) =
        let P : ℕ → Type 0 = λ v. May net c start s (firing v g.act) → f ≢ firing v g.act → Commute State Firing (enabled net) (after net) s.state f (firing v g.act) → Swaps net c start s f (firing v g.act) in
        subst P e (λ m n q. swaps_own net c start s f.unit checked good k f.act g.act n mf m q) mg ne both
