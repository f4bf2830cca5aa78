-- What a firing of a queue makes possible in its cycle: nothing that stands before it.
use Rattle.std.proofs.Common.{◌≡◌, ◌≢◌, ℕ, ◌+◌, ◌-◌, ◌*◌, ◌<◌, ◌≤◌, ◌⊎◌, ◌==◌, ◌&&◌, ◌||◌, inl, inr, Bool, true, false, cond, nat_lt, Option, Some, None, List, [], ◌∷◌, ◌++◌, length, map, get_or, set, refl, sym, ap, subst, ◌∙◌, arith, IsSomeAnd, eqb-true, eq-eqb, ltb-true, get_or-set_same, get_or-set_other}
use Rattle.std.specs.List.{AllByRecursion, find}
use Rattle.std.proofs.lemmas.Bool.{cases_eq, le-leb}
use Rattle.net_types.specs.declared.net.Net.{Net}
use Rattle.net_types.specs.declared.net.Port.{Port}
use Rattle.net_types.specs.declared.net.Unit.{Unit as Kind}
use Rattle.net_types.specs.declared.net.Unit.TheVariants.{Entry, Fork, Cmerge, Sink, Lsq}
use Rattle.net_types.specs.declared.firing.Act.{Act}
use Rattle.net_types.specs.declared.firing.Act.TheVariants.{Go, From, Send, Alloc, Addr, Data, Exec, Reply, Retire, End}
use Rattle.net_types.specs.declared.firing.Firing.{Firing}
use Rattle.net_types.specs.Nets.{into, out_of, kind_of, uses, chan_at, firing}
use Rattle.net_check.specs.Checks.{IsChecked}
use Rattle.net_check.specs.Controls.{ctl_in, ctl_out}
use Rattle.net_check.specs.Cycles.{WaitsAfter, IsDelayed}
use Rattle.net_check.specs.Ends.{is_lsq}
use Rattle.lsq_core.specs.declared.entry.Entry.{Entry as Item}
use Rattle.lsq_core.specs.Acts.{QueueState, can, step, exec, exec_value, in_place, out_place, is_serial, executed, rest}
use Rattle.lsq_core.specs.Laws.{phase as lsq_phase, act_place as lsq_place, act_place, phase}
use Rattle.lsq_core.proofs.JoinLemmas.{acts_join, stays_consistent}
use Rattle.lsq_core.proofs.StayLemmas.{stays_refused}
use Rattle.lsq_core.proofs.EntryLemmas.{length-first_changed}
use Rattle.net_core.specs.declared.plan.Put.{Put}
use Rattle.net_core.specs.Fire.{State, Own, Take, Fires, Setting, Effect, effect_of, with_head, idle, row, go_row, queue_fires, gate, when, put_at, put_out, setting, at_array, head_at, tokens_at, first, effect, has_room, enabled, moved, applied, puts_on, takes_from, among, added, taken}
use Rattle.net_core.specs.Uses.{used_by, then_used, used}
use Rattle.net_core.proofs.Premises.{Steers, QueueLaws}
use Rattle.net_core.proofs.CheckedLemmas.{premises_of}
use Rattle.net_core.proofs.RowLemmas.{Has, get-changed}
use Rattle.net_core.proofs.GoesLemmas.{heads}
use Rattle.net_core.proofs.AccountLemmas.{is_fork}
use Rattle.net_core.proofs.ApartLemmas.{out_of-at, is_at-inv, same_in, same_out, puts-inv, length-taken, among_some}
use Rattle.net_core.proofs.ForkLemmas.{send_inv, when_inv}
use Rattle.net_core.proofs.ActLemmas.{kind_within, merge_inv}
use Rattle.net_core.proofs.QueueActLemmas.{place_list, queue_effect, Given, queue_inv, queue_goes, put_out_inv, some_eq, group_within, one_in, lsq_is}
use Rattle.net_core.proofs.EffectLemmas.{QueueGoes, queue_goes_on}
use Rattle.net_core.proofs.RegularLemmas.{IsRegular, own_kept}
use Rattle.net_core.proofs.TakerLemmas.{counted_head, one_held}
use Rattle.cycle_engine.specs.Cycles.{Dated, IsRipe, HasDepth, May, Makes, place_of, IsUnused, after_in, after_by, AreDated}
use Rattle.cycle_engine.specs.Rousing.{Could, GoesTo, ComesFrom}
use Rattle.cycle_engine.specs.private.Marking.{is_merge}
use Rattle.cycle_engine.specs.private.Places.{AllocsOnce}
use Rattle.cycle_engine.proofs.OwnLemmas.{on_go_is}
use Rattle.cycle_engine.proofs.UsedLemmas.{unused_last, unused_before}
use Rattle.cycle_engine.proofs.BeforeLemmas.{after_of, IsLate, before, may_could, kept_free}
use Rattle.cycle_engine.proofs.RousingLemmas.{slots_within, room_before, rouses, late_or}
use Rattle.cycle_engine.proofs.DateLemmas.{some_effect, effect_there, dated_after}
use Rattle.net_core.proofs.PlanUses.{fork_act}
use Rattle.cycle_engine.proofs.MakeLemmas.{all_snoc}

pub laws : QueueLaws
laws = record { join = acts_join; consistent = stays_consistent }

-- ---- a queue puts late

waits : (k : Kind) (delay : ℕ) → is_lsq k ≡ true → WaitsAfter k delay → 0 < delay
waits (Lsq a d ps gs fw) delay q w = w
waits _ delay q w = cc

pub queue_late : (net : Net) (u w : ℕ) (e : Effect) → IsChecked net → is_lsq (kind_of net u) ≡ true → IsLate net u w e
queue_late net u w e checked q p l h =
    let x = puts-inv net u (into w p net.chans) e.put h in
    let l' : out_of u x.0.place net.chans < length net.chans = (let i = x.2 in omega arith) in
    let t : (chan_at net (out_of u x.0.place net.chans)).from.unit ≡ u = (is_at-inv (chan_at net (out_of u x.0.place net.chans)).from u x.0.place (out_of-at u x.0.place net.chans l')).0 in
    let d : IsDelayed net (chan_at net (out_of u x.0.place net.chans)) = checked.delayed (out_of u x.0.place net.chans) l' in
    let P : ℕ → Type 0 = λ v. WaitsAfter (kind_of net v) (chan_at net (out_of u x.0.place net.chans)).delay in
    let z : 0 < (chan_at net (out_of u x.0.place net.chans)).delay = waits (kind_of net u) (chan_at net (out_of u x.0.place net.chans)).delay q (subst P t d) in
    let R : ℕ → Type 0 = λ c. 0 < (chan_at net c).delay in
    subst R (sym x.2) z

-- ---- the act that puts at a place

abbrev pub queue_at : ℕ → ℕ → Act
queue_at n p = cond (nat_lt p n) (Alloc p) (cond (p == n) End (Reply (p - n - 1)))

abbrev pub act_at : Kind → ℕ → Act
act_at (Fork w outs) p = Send p
act_at (Lsq a d ps gs fw) p = queue_at (length gs) p
act_at _ p = Go

at_group : (n p g : ℕ) → g < n → g ≡ p → Alloc g ≡ queue_at n p
at_group n p g l e = by (nat_lt p n) refl
  where
    by : (b : Bool) → nat_lt p n ≡ b → Alloc g ≡ cond b (Alloc p) (cond (p == n) End (Reply (p - n - 1)))
    by true i = ap Alloc e
    by false i = let k = Rattle.std.proofs.Common.ltb-false p n i in absurd (omega arith)

at_end : (n p : ℕ) → n ≡ p → End ≡ queue_at n p
at_end n p e = by (nat_lt p n) (p == n) refl refl
  where
    by : (b c : Bool) → nat_lt p n ≡ b → (p == n) ≡ c → End ≡ cond b (Alloc p) (cond c End (Reply (p - n - 1)))
    by true c i j = let k = ltb-true p n i in absurd (omega arith)
    by false true i j = refl
    by false false i j = let z : true ≡ false = sym (eq-eqb p n (sym e)) ∙ j in cc

at_reply : (n p q : ℕ) → n + 1 + q ≡ p → Reply q ≡ queue_at n p
at_reply n p q e = by (nat_lt p n) (p == n) refl refl
  where
    by : (b c : Bool) → nat_lt p n ≡ b → (p == n) ≡ c → Reply q ≡ cond b (Alloc p) (cond c End (Reply (p - n - 1)))
    by true c i j = let k = ltb-true p n i in absurd (omega arith)
    by false true i j = let k = eqb-true p n j in absurd (omega arith)
    by false false i j = (let k : q ≡ p - n - 1 = omega arith in ap Reply k)

queue_named : (d : ℕ) (gs : List (List ℕ)) (q : QueueState) (a : Act) (p : ℕ) → can d gs q a ≡ true → out_place gs a ≡ Some p → a ≡ queue_at (length gs) p
queue_named d gs q (Alloc g) p c e = at_group (length gs) p g (group_within d gs q g c) (some_eq e)
queue_named d gs q End p c e = at_end (length gs) p (some_eq e)
queue_named d gs q (Reply j) p c e = at_reply (length gs) p j (some_eq e)
queue_named d gs q _ p c e = cc

put_place : (p v : ℕ) (w : Put) → put_at p v ≡ Some w → p ≡ w.place
put_place p v w e = let k : record { place = p; value = v } ≡ w = cc in ap (λ (x : Put). x.place) k

pub named : (k : Kind) (a : Act) (o : Own) (xs : List ℕ) (ss : Setting) (h : ℕ → Option ℕ) (e : Effect) (w : Put) → is_merge k ≡ false → effect_of (row k a o xs ss) h ≡ Some e → e.put ≡ Some w → a ≡ act_at k w.place
unfolding row
named (Fork wd outs) a o xs ss h e w m q p =
    let fa = fork_act outs a o xs h e q in
    let i = send_inv outs fa.0 o xs h e fa.2 in
    let z : put_at fa.0 i.1 ≡ Some w = ap (λ (x : Effect). x.put) i.3 ∙ p in
    fa.1 ∙ ap Send (put_place fa.0 i.1 w z)
named (Cmerge ins) a o xs ss h e w m q p = cc
named (Lsq n d ps gs fw) a o xs ss h e w m q p =
    let i = queue_inv d ps gs a o xs h e q in
    queue_named d gs o.queue a w.place i.1 (put_out_inv (out_place gs a) (step ps gs o.queue xs a i.0).put w (ap (λ (x : Effect). x.put) i.3 ∙ p))
named k a o xs ss h e w m q p = on_go_is a (go_row k o xs ss) h e q

-- ---- tokens are put on a channel by one place

none_put : (o : Option ℕ) (b : Bool) (xs : List ℕ) → (o ≢ None → ⊥) → length (added o (taken b xs)) ≤ length xs
none_put None b xs h = length-taken b xs
none_put (Some x) b xs h = absurd (h (λ z. cc))

held_one : (net : Net) (c : ℕ) (s : Dated) (f g : Firing) (e : Effect) (p : ℕ) → AreDated net s → effect net s.state f ≡ Some e → place_of f ≢ place_of g → is_merge (kind_of net g.unit) ≡ false
    → g.act ≡ act_at (kind_of net g.unit) p → out_of g.unit p net.chans < length net.chans
    → length (tokens_at (after_of net c s f.unit e).state (out_of g.unit p net.chans)) ≤ length (tokens_at s.state (out_of g.unit p net.chans))
held_one net c s f g e p k is ne plain at l =
    let d : ℕ = out_of g.unit p net.chans in
    let a = k.chans in
    let t : tokens_at (after_of net c s f.unit e).state d ≡ moved net f.unit e d (tokens_at s.state d) = get-changed (moved net f.unit e) 0 s.state.tokens d d (omega arith) (omega arith) in
    let n = none_put (puts_on net f.unit e.put d) (takes_from net f.unit e d) (tokens_at s.state d) other in
    let q = ap length t in
    omega arith
  where
    other : puts_on net f.unit e.put (out_of g.unit p net.chans) ≢ None → ⊥
    other h =
        let x = puts-inv net f.unit (out_of g.unit p net.chans) e.put h in
        let y = same_out g.unit f.unit p x.0.place net.chans l x.2 in
        let m : is_merge (kind_of net f.unit) ≡ false = subst (λ u. is_merge (kind_of net u) ≡ false) y.0 plain in
        let n : f.act ≡ act_at (kind_of net f.unit) x.0.place = named (kind_of net f.unit) f.act (get_or s.state.own f.unit idle) (at_array s.state.arrays (uses (kind_of net f.unit))) (setting net s.state) (head_at net s.state f.unit) e x.0 m is x.1 in
        let z : f.act ≡ g.act = n ∙ (ap (act_at (kind_of net f.unit)) (sym y.1) ∙ (ap (λ u. act_at (kind_of net u) p) (sym y.0) ∙ sym at)) in
        ne (λ i. record { unit = sym y.0 i; act = ap act_place z i })

held_most : (net : Net) (c : ℕ) (start s : Dated) (fs : List Firing) (t : Dated) (g : Firing) (p : ℕ) → AreDated net s → Makes net c start s fs t → IsUnused fs g → is_merge (kind_of net g.unit) ≡ false
    → g.act ≡ act_at (kind_of net g.unit) p → out_of g.unit p net.chans < length net.chans
    → length (tokens_at t.state (out_of g.unit p net.chans)) ≤ length (tokens_at s.state (out_of g.unit p net.chans))
held_most net c start s [] t g p k m un plain at l =
    let e : length (tokens_at s.state (out_of g.unit p net.chans)) ≡ length (tokens_at t.state (out_of g.unit p net.chans)) = ap (λ (x : Dated). length (tokens_at x.state (out_of g.unit p net.chans))) m in
    omega arith
held_most net c start s (f ∷ fs) t g p k m un plain at l =
    let w = effect_there net s.state f m.0.turn in
    let q : after_in net c s f ≡ after_of net c s f.unit w.0 = ap (after_by net c s f.unit) w.1 in
    let P : Dated → Type 0 = λ x. Makes net c start x fs t in
    let i = held_most net c start (after_of net c s f.unit w.0) fs t g p (dated_after net c s f.unit w.0 k) (subst P q m.2) un.1 plain at l in
    let j = held_one net c s f g w.0 p k w.1 un.0 plain at l in
    omega arith

-- so a place that has not fired, and has had room as the cycle began, has room
pub room_now : (net : Net) (c : ℕ) (start : Dated) (fs : List Firing) (s : Dated) (g : Firing) (e : Effect) → AreDated net start → Makes net c start start fs s → IsUnused fs g → is_merge (kind_of net g.unit) ≡ false
    → effect net s.state g ≡ Some e → has_room net start.state g.unit e.put → has_room net s.state g.unit e.put
room_now net c start fs s g e k m un plain is h = by e.put refl h
  where
    by : (o : Option Put) → e.put ≡ o → has_room net start.state g.unit o → has_room net s.state g.unit o
    by None i h = tt
    by (Some w) i h =
        let l = slots_within net.chans (out_of g.unit w.place net.chans) (length (tokens_at start.state (out_of g.unit w.place net.chans))) h in
        let n = named (kind_of net g.unit) g.act (get_or s.state.own g.unit idle) (at_array s.state.arrays (uses (kind_of net g.unit))) (setting net s.state) (head_at net s.state g.unit) e w plain is i in
        let j = held_most net c start start fs s g w.place k m un plain n l in
        omega arith

-- ---- other units

merge_put : (net : Net) (s : State) (m ins j : ℕ) (e : Effect) (w : Put) → kind_of net m ≡ Cmerge ins → effect net s (firing m (From j)) ≡ Some e → e.put ≡ Some w → w.place ≡ 0
unfolding row
merge_put net s m ins j e w is q p =
    let z = sym (ap (λ k. effect_of (row k (From j) (get_or s.own m idle) (at_array s.arrays (uses k)) (setting net s)) (head_at net s m)) is) ∙ q in
    let v = when_inv (nat_lt j ins) (Take j (λ v. Fires (put_at 0 j) (get_or s.own m idle) [] 0)) (head_at net s m) e z in
    by (head_at net s m j) v.1
  where
    by : (o : Option ℕ) → with_head o (λ v. Some (record { takes = j ∷ []; put = put_at 0 j; own = get_or s.own m idle; array = []; strays = 0 })) ≡ Some e → w.place ≡ 0
    by None k = cc
    by (Some v) k =
        let i : record { takes = j ∷ []; put = put_at 0 j; own = get_or s.own m idle; array = []; strays = 0 } ≡ e = cc in
        sym (put_place 0 j w (ap (λ (x : Effect). x.put) i ∙ p))

pub takes_at : (net : Net) (u : ℕ) (o : Option ℕ) (d : ℕ) → among d (map (λ p. into u p net.chans) (place_list o)) ≡ true → (p : ℕ) × (o ≡ Some p) × (d ≡ into u p net.chans)
takes_at net u None d e = cc
takes_at net u (Some p) d e = (p, refl, by (d == into u p net.chans) refl e)
  where
    by : (b : Bool) → (d == into u p net.chans) ≡ b → (b || false) ≡ true → d ≡ into u p net.chans
    by true i q = eqb-true _ _ i
    by false i q = cc

given_head : (o : Option ℕ) (p v : ℕ) (h : ℕ → Option ℕ) → o ≡ Some p → Given o h v → h p ≡ Some v
given_head o p v h e g = subst (λ x. Given x h v) e g

lsq_fork : (k : Kind) → is_lsq k ≡ true → is_fork k ≡ false
lsq_fork (Lsq a d ps gs fw) e = refl
lsq_fork _ e = cc

-- a unit that is no fork takes no control token where a merge has one
pub one_token : (net : Net) (s : State) (f : Firing) (e : Effect) (g : Firing) (ins : ℕ) (x : Effect) (w : Put) → IsChecked net → IsRegular net s → is_fork (kind_of net f.unit) ≡ false → effect net s f ≡ Some e → g.unit ≢ f.unit
    → kind_of net g.unit ≡ Cmerge ins → effect net s g ≡ Some x → x.put ≡ Some w → takes_from net f.unit e (out_of g.unit w.place net.chans) ≡ true → ⊥
one_token net s f e g ins x w checked good plain ef ne kg eg px t =
    let j = merge_inv net s g.unit ins g.act kg x eg in
    let zero_place : w.place ≡ 0 = merge_put net s g.unit ins j.0 x w kg (subst (λ y. effect net s (firing g.unit y) ≡ Some x) j.1 eg) px in
    let c = among_some (Has (head_at net s f.unit)) (out_of g.unit w.place net.chans) (λ p. into f.unit p net.chans) e.takes t (heads net s f e ef) in
    let p = premises_of net laws checked in
    let st : Steers (Cmerge ins) (ctl_in net g.unit) (ctl_out net g.unit) = subst (λ k. Steers k (ctl_in net g.unit) (ctl_out net g.unit)) kg (p.steered g.unit) in
    let same : into f.unit c.0 net.chans ≡ out_of g.unit 0 net.chans = sym c.1 ∙ ap (λ q. out_of g.unit q net.chans) zero_place in
    let cu : ctl_in net f.unit c.0 ≡ true = ap (λ q. (chan_at net q).ctl) same ∙ st.1 in
    let nm : is_fork (kind_of net g.unit) ≡ false = ap is_fork kg in
    let a1 = counted_head net s f.unit c.0 c.2.0 good plain cu c.2.1 in
    let a2 = counted_head net s g.unit j.0 j.3 good nm (st.0 j.0 j.2) j.4 in
    let o = one_held net s (into f.unit c.0 net.chans) (into g.unit j.0 net.chans) good a1 a2 in
    ne (sym (same_in f.unit g.unit c.0 j.0 net.chans a1.within o).0)

pub merge_kind : (k : Kind) → (is_merge k ≡ false) ⊎ ((ins : ℕ) × (k ≡ Cmerge ins))
merge_kind (Cmerge ins) = inr (ins, refl)
merge_kind _ = inl refl

-- another unit's place that may fire after a firing of a queue might have fired before it
pub others_back : (net : Net) (c : ℕ) (start : Dated) (fs : List Firing) (s : Dated) (u n d : ℕ) (ps : List Port) (gs : List (List ℕ)) (fw : Bool) (a : Act) (e : Effect) (g : Firing) → IsChecked net → IsRegular net s.state
    → AreDated net start → AreDated net s → Makes net c start start fs s → kind_of net u ≡ Lsq n d ps gs fw → effect net s.state (firing u a) ≡ Some e → g.unit ≢ u → IsUnused fs g
    → May net c start (after_of net c s u e) g → May net c start s g
others_back net c start fs s u n d ps gs fw a e g checked good ks k m ku ea ne un after =
    record { turn = subst T (sym x.1) (room (merge_kind (kind_of net g.unit))); ripe = b.0.ripe; room = b.0.acts; depth = b.0.depth }
  where
    late : IsLate net u g.unit e
    late = queue_late net u g.unit e checked (ap is_lsq ku)

    b : Could net c start s g × (effect net (after_of net c s u e).state g ≡ effect net s.state g)
    b = before net c start s u g e (λ u v a differ o r. differ (sym (checked.alone u v a o r))) ne k late (may_could net c start (after_of net c s u e) g after)

    x : (x : Effect) × (effect net s.state g ≡ Some x) × has_room net start.state g.unit x.put
    x = some_effect (effect net s.state g) (λ x. has_room net start.state g.unit x.put) b.0.acts

    T : Option Effect → Type 0
    T o = IsSomeAnd o (λ y. has_room net s.state g.unit y.put)

    U : Option Effect → Type 0
    U o = IsSomeAnd o (λ y. has_room net (after_of net c s u e).state g.unit y.put)

    then_room : has_room net (after_of net c s u e).state g.unit x.0.put
    then_room = subst U (b.1 ∙ x.1) after.turn

    room : (is_merge (kind_of net g.unit) ≡ false) ⊎ ((ins : ℕ) × (kind_of net g.unit ≡ Cmerge ins)) → has_room net s.state g.unit x.0.put
    room (inl plain) = room_now net c start fs s g x.0 ks m un plain x.1 x.2
    room (inr q) = by x.0.put refl then_room
      where
        by : (o : Option Put) → x.0.put ≡ o → has_room net (after_of net c s u e).state g.unit o → has_room net s.state g.unit o
        by None i h = tt
        by (Some w) i h = took (takes_from net u e (out_of g.unit w.place net.chans)) refl
          where
            took : (t : Bool) → takes_from net u e (out_of g.unit w.place net.chans) ≡ t → has_room net s.state g.unit (Some w)
            took false free = room_before net c s u g.unit e w ne k free h
            took true there = absurd (one_token net s.state (firing u a) e g q.0 x.0 w checked good (lsq_fork (kind_of net u) (ap is_lsq ku)) ea ne q.1 x.1 i there)

-- what a firing makes possible elsewhere: at the unit into which it put without delay, or at a merge that puts on a channel from
-- which it took
pub unit_rouses : (net : Net) (c : ℕ) (start : Dated) (fs : List Firing) (s : Dated) (f g : Firing) (e : Effect) → IsChecked net → AreDated net start → AreDated net s → Makes net c start start fs s → IsUnused fs g → effect net s.state f ≡ Some e
    → May net c start (after_in net c s f) g → May net c start s g ⊎ ((g.unit ≡ f.unit) ⊎ (GoesTo net f.unit e g.unit ⊎ ((is_merge (kind_of net g.unit) ≡ true) × ComesFrom net f.unit e s g)))
unit_rouses net c start fs s f g e checked ks k m un is may = by (rouses net c start s f g e checked k is may) (is_merge (kind_of net g.unit)) refl (cases_eq g.unit f.unit) (late_or net f.unit g.unit e)
  where
    after : May net c start (after_of net c s f.unit e) g
    after = (let P : Dated → Type 0 = λ x. May net c start x g in subst P (ap (after_by net c s f.unit) is) may)

    back : is_merge (kind_of net g.unit) ≡ false → g.unit ≢ f.unit → IsLate net f.unit g.unit e → May net c start s g
    back plain ne late =
        let b = before net c start s f.unit g e (λ u v a differ o r. differ (sym (checked.alone u v a o r))) ne k late (may_could net c start (after_of net c s f.unit e) g after) in
        let x = some_effect (effect net s.state g) (λ x. has_room net start.state g.unit x.put) b.0.acts in
        let T : Option Effect → Type 0 = λ o. IsSomeAnd o (λ y. has_room net s.state g.unit y.put) in
        record { turn = subst T (sym x.1) (room_now net c start fs s g x.0 ks m un plain x.1 x.2); ripe = b.0.ripe; room = b.0.acts; depth = b.0.depth }

    by : May net c start s g ⊎ ((g.unit ≡ f.unit) ⊎ (GoesTo net f.unit e g.unit ⊎ ComesFrom net f.unit e s g)) → (q : Bool) → is_merge (kind_of net g.unit) ≡ q → (g.unit ≡ f.unit) ⊎ (g.unit ≢ f.unit)
        → IsLate net f.unit g.unit e ⊎ GoesTo net f.unit e g.unit → May net c start s g ⊎ ((g.unit ≡ f.unit) ⊎ (GoesTo net f.unit e g.unit ⊎ ((is_merge (kind_of net g.unit) ≡ true) × ComesFrom net f.unit e s g)))
    by (inl x) q i u l = inl x
    by (inr (inl x)) q i u l = inr (inl x)
    by (inr (inr (inl x))) q i u l = inr (inr (inl x))
    by (inr (inr (inr x))) true i u l = inr (inr (inr (i, x)))
    by (inr (inr (inr x))) false i (inl u) l = inr (inl u)
    by (inr (inr (inr x))) false i (inr u) (inl l) = inl (back i u l)
    by (inr (inr (inr x))) false i (inr u) (inr l) = inr (inr (inl l))

-- ---- the queue's own acts

phase_same : (a : Act) → lsq_phase a ≡ phase a
phase_same Go = refl
phase_same _ = refl

place_same : (a : Act) → lsq_place a ≡ act_place a
place_same Go = refl
place_same _ = refl

pub queue_used : (net : Net) (u n d : ℕ) (ps : List Port) (gs : List (List ℕ)) (fw : Bool) → kind_of net u ≡ Lsq n d ps gs fw → (s : State) (b : Act) (v : ℕ)
    → can d gs (get_or s.own u idle).queue b ≡ true → Given (in_place gs b) (head_at net s u) v → used net s (firing u b) ≡ place_list (in_place gs b)
unfolding row
queue_used net u n d ps gs fw is s b v c g =
    ap (λ k. used_by (row k b (get_or s.own u idle) (at_array s.arrays (uses k)) (setting net s)) (head_at net s u)) is
    ∙ (ap (λ t. used_by (when t (gate (in_place gs b) (queue_fires ps gs b (get_or s.own u idle) (get_or s.arrays n [])))) (head_at net s u)) c ∙ at (in_place gs b) g)
  where
    one : (p : ℕ) (o : Option ℕ) → p ∷ then_used o (λ v. used_by (queue_fires ps gs b (get_or s.own u idle) (get_or s.arrays n []) v) (head_at net s u)) ≡ p ∷ []
    one p None = refl
    one p (Some v) = refl

    at : (o : Option ℕ) → Given o (head_at net s u) v → used_by (gate o (queue_fires ps gs b (get_or s.own u idle) (get_or s.arrays n []))) (head_at net s u) ≡ place_list o
    at None g = refl
    at (Some p) g = one p (head_at net s u p)

-- the room for what an act puts rests on the act alone
room_same : (net : Net) (t : State) (u : ℕ) (ps : List Port) (gs : List (List ℕ)) (q r : QueueState) (xs ys : List ℕ) (b : Act) (v w : ℕ) → has_room net t u (put_out (out_place gs b) (step ps gs q xs b v).put)
    → has_room net t u (put_out (out_place gs b) (step ps gs r ys b w).put)
room_same net t u ps gs q r xs ys (Alloc j) v w h = h
room_same net t u ps gs q r xs ys (Reply j) v w h = h
room_same net t u ps gs q r xs ys End v w h = h
room_same net t u ps gs q r xs ys _ v w h = tt

own_after : (net : Net) (s : State) (u : ℕ) (e : Effect) → u < length s.own → get_or (applied net u e s).own u idle ≡ e.own
own_after net s u e l = get_or-set_same s.own u e.own idle l

lsq_merge : (k : Kind) → is_lsq k ≡ true → is_merge k ≡ false
lsq_merge (Lsq a d ps gs fw) e = refl
lsq_merge _ e = cc

-- a channel into a place of a queue from which another of its acts does not take
pub free_place : (net : Net) (u d : ℕ) (ps : List Port) (gs : List (List ℕ)) (q : QueueState) (a b : Act) (p : ℕ) (e : Effect) → e.takes ≡ place_list (in_place gs a) → in_place gs b ≡ Some p
    → can d gs q a ≡ true → can d gs q b ≡ true → a ≢ b → into u p net.chans < length net.chans → takes_from net u e (into u p net.chans) ≡ false
free_place net u d ps gs q a b p e ts ip ca cb ne l = by (takes_from net u e (into u p net.chans)) refl
  where
    by : (t : Bool) → takes_from net u e (into u p net.chans) ≡ t → t ≡ false
    by false i = refl
    by true i =
        let c = takes_at net u (in_place gs a) (into u p net.chans) (ap (λ qs. among (into u p net.chans) (map (λ p. into u p net.chans) qs)) (sym ts) ∙ i) in
        let z : p ≡ c.0 = (same_in u u p c.0 net.chans l c.2).1 in
        absurd (ne (one_in d gs q a b p ca cb (c.1 ∙ ap Some (sym z)) ip))

-- what an act of the queue that is allowed before the firing needs besides
pub own_back : (net : Net) (c : ℕ) (start : Dated) (fs : List Firing) (s : Dated) (u n d : ℕ) (ps : List Port) (gs : List (List ℕ)) (fw : Bool) (a b : Act) (e : Effect) → IsChecked net → AreDated net start → AreDated net s
    → Makes net c start start fs s → kind_of net u ≡ Lsq n d ps gs fw → effect net s.state (firing u a) ≡ Some e → a ≢ b → IsUnused fs (firing u b) → can d gs (get_or s.state.own u idle).queue b ≡ true
    → May net c start (after_of net c s u e) (firing u b) → May net c start s (firing u b)
own_back net c start fs s u n d ps gs fw a b e checked ks k m ku ea ne un cb after = record {
  turn = subst T (sym is) (room_now net c start fs s (firing u b) x ks m un (lsq_merge (kind_of net u) (ap is_lsq ku)) is start_room);
  ripe = subst R (sym (queue_used net u n d ps gs fw ku s.state b j.0 cb heads.0)) (each (in_place gs b) heads.1);
  room = subst S (sym is) start_room;
  depth = after.depth;
}
  where
    t : State
    t = (after_of net c s u e).state

    i : (v : ℕ) × (can d gs (get_or s.state.own u idle).queue a ≡ true) × Given (in_place gs a) (head_at net s.state u) v × (queue_effect ps gs a (get_or s.state.own u idle) (get_or s.state.arrays n []) v ≡ e)
    i = queue_inv d ps gs a (get_or s.state.own u idle) (get_or s.state.arrays n []) (head_at net s.state u) e (sym (lsq_is net u n d ps gs fw ku s.state a) ∙ ea)

    g : (e' : Effect) × (effect net t (firing u b) ≡ Some e') × has_room net t u e'.put
    g = effect_there net t (firing u b) after.turn

    j : (v : ℕ) × (can d gs (get_or t.own u idle).queue b ≡ true) × Given (in_place gs b) (head_at net t u) v × (queue_effect ps gs b (get_or t.own u idle) (get_or t.arrays n []) v ≡ g.0)
    j = queue_inv d ps gs b (get_or t.own u idle) (get_or t.arrays n []) (head_at net t u) g.0 (sym (lsq_is net u n d ps gs fw ku t b) ∙ g.1)

    Ripes : Option ℕ → Type 0
    Ripes o = AllByRecursion (λ p. IsRipe net c s (into u p net.chans)) (place_list o)

    R : List ℕ → Type 0
    R qs = AllByRecursion (λ p. IsRipe net c s (into u p net.chans)) qs

    R' : List ℕ → Type 0
    R' qs = AllByRecursion (λ p. IsRipe net c (after_of net c s u e) (into u p net.chans)) qs

    ripe_then : AllByRecursion (λ p. IsRipe net c (after_of net c s u e) (into u p net.chans)) (place_list (in_place gs b))
    ripe_then = subst R' (queue_used net u n d ps gs fw ku t b j.0 j.1 j.2) after.ripe

    heads_of : (o : Option ℕ) → in_place gs b ≡ o → Given o (head_at net t u) j.0 → AllByRecursion (λ p. IsRipe net c (after_of net c s u e) (into u p net.chans)) (place_list o) → Given o (head_at net s.state u) j.0 × Ripes o
    heads_of None q h r = (h, tt)
    heads_of (Some p) q h r =
        let w = kept_free net c s u u p e (free_place net u d ps gs (get_or s.state.own u idle).queue a b p e (ap (λ (y : Effect). y.takes) (sym i.3)) q i.1 cb ne) k (queue_late net u u e checked (ap is_lsq ku)) r.0 in
        let P : Option ℕ → Type 0 = λ o. IsSomeAnd o (λ date. date + (chan_at net (into u p net.chans)).delay ≤ c) in
        (sym w.0 ∙ h, (subst P w.1 r.0, tt))

    heads : Given (in_place gs b) (head_at net s.state u) j.0 × Ripes (in_place gs b)
    heads = heads_of (in_place gs b) refl j.2 ripe_then

    each : (o : Option ℕ) → Ripes o → R (place_list o)
    each o r = r

    x : Effect
    x = queue_effect ps gs b (get_or s.state.own u idle) (get_or s.state.arrays n []) j.0

    is : effect net s.state (firing u b) ≡ Some x
    is = lsq_is net u n d ps gs fw ku s.state b ∙ queue_goes d ps gs b (get_or s.state.own u idle) (get_or s.state.arrays n []) (head_at net s.state u) j.0 cb heads.0

    T : Option Effect → Type 0
    T o = IsSomeAnd o (λ y. has_room net s.state u y.put)

    S : Option Effect → Type 0
    S o = IsSomeAnd o (λ y. has_room net start.state u y.put)

    then_start : has_room net start.state u (queue_effect ps gs b (get_or t.own u idle) (get_or t.arrays n []) j.0).put
    then_start = subst S (g.1 ∙ ap Some (sym j.3)) after.room

    start_room : has_room net start.state u x.put
    start_room = room_same net start.state u ps gs (get_or t.own u idle).queue (get_or s.state.own u idle).queue (get_or t.arrays n []) (get_or s.state.arrays n []) b j.0 j.0 then_start

-- ---- allocations

-- the firing is this allocation, or is none at its place
is_alloc : (g : Firing) (u a : ℕ) → (place_of g ≡ firing u (Alloc a)) ⊎ (place_of g ≢ firing u (Alloc a))
is_alloc g u a = by g.act refl (cases_eq g.unit u)
  where
    Goal : Act → Type 0
    Goal b = (firing g.unit (act_place b) ≡ firing u (Alloc a)) ⊎ (firing g.unit (act_place b) ≢ firing u (Alloc a))

    other : (b : Act) → ((k : ℕ) → act_place b ≡ Alloc k → ⊥) → Goal b
    other b not_so = inr (λ z. not_so a (ap (λ (x : Firing). x.act) z))

    groups : (k : ℕ) → (g.unit ≡ u) ⊎ (g.unit ≢ u) → (k ≡ a) ⊎ (k ≢ a) → Goal (Alloc k)
    groups k (inl e) (inl i) = inl (λ j. record { unit = e j; act = Alloc (i j) })
    groups k (inl e) (inr n) = inr (λ z. n (let y : Alloc k ≡ Alloc a = ap (λ (x : Firing). x.act) z in cc))
    groups k (inr n) x = inr (λ z. n (ap (λ (x : Firing). x.unit) z))

    by : (b : Act) → g.act ≡ b → (g.unit ≡ u) ⊎ (g.unit ≢ u) → Goal g.act
    by (Alloc k) i x = subst Goal (sym i) (groups k x (cases_eq k a))
    by Go i x = subst Goal (sym i) (other Go (λ k z. cc))
    by (From j) i x = subst Goal (sym i) (other (From j) (λ k z. cc))
    by (Send j) i x = subst Goal (sym i) (other (Send j) (λ k z. cc))
    by (Addr j) i x = subst Goal (sym i) (other (Addr j) (λ k z. cc))
    by (Data j) i x = subst Goal (sym i) (other (Data j) (λ k z. cc))
    by (Exec j) i x = subst Goal (sym i) (other (Exec j) (λ k z. cc))
    by (Reply j) i x = subst Goal (sym i) (other (Reply j) (λ k z. cc))
    by Retire i x = subst Goal (sym i) (other Retire (λ k z. cc))
    by End i x = subst Goal (sym i) (other End (λ k z. cc))

alloc_or : (fs : List Firing) (u a : ℕ) → IsUnused fs (firing u (Alloc a)) ⊎ (IsUnused fs (firing u (Alloc a)) → ⊥)
alloc_or [] u a = inl tt
alloc_or (g ∷ fs) u a = by (is_alloc g u a) (alloc_or fs u a)
  where
    by : (place_of g ≡ firing u (Alloc a)) ⊎ (place_of g ≢ firing u (Alloc a)) → IsUnused fs (firing u (Alloc a)) ⊎ (IsUnused fs (firing u (Alloc a)) → ⊥) → IsUnused (g ∷ fs) (firing u (Alloc a)) ⊎ (IsUnused (g ∷ fs) (firing u (Alloc a)) → ⊥)
    by (inl e) x = inr (λ z. z.0 e)
    by (inr n) (inl h) = inl (n, h)
    by (inr n) (inr h) = inr (λ z. h z.1)

alloc_place : (gs : List (List ℕ)) (a : Act) (b : ℕ) → b < length gs → in_place gs a ≡ Some b → a ≡ Alloc b
alloc_place gs (Alloc g) b l e = ap Alloc (some_eq e)
alloc_place gs (Addr p) b l e = let k = some_eq e in absurd (omega arith)
alloc_place gs (Data p) b l e = let k = some_eq e in absurd (omega arith)
alloc_place gs End b l e = let k = some_eq e in absurd (omega arith)
alloc_place gs _ b l e = cc

ripe_head : (net : Net) (c : ℕ) (s : Dated) (d : ℕ) → AreDated net s → IsRipe net c s d → (v : ℕ) × (first (tokens_at s.state d) ≡ Some v)
ripe_head net c s d k r = by (get_or s.dates d []) (tokens_at s.state d) (k.each d) r
  where
    by : (ds xs : List ℕ) → length ds ≡ length xs → IsSomeAnd (first ds) (λ x. x + (chan_at net d).delay ≤ c) → (v : ℕ) × (first xs ≡ Some v)
    by [] xs e i = absurd i
    by (y ∷ ds) [] e i = absurd (omega arith)
    by (y ∷ ds) (x ∷ xs) e i = (x, refl)

pub allocs_more : (net : Net) (c : ℕ) (fs : List Firing) (s : Dated) (v nv dv : ℕ) (pv : List Port) (gv : List (List ℕ)) (fv : Bool) (act : Act) (e : Effect) → IsChecked net → IsRegular net s.state → AreDated net s
    → kind_of net v ≡ Lsq nv dv pv gv fv → effect net s.state (firing v act) ≡ Some e → AllocsOnce net c fs s → AllocsOnce net c (fs ++ firing v act ∷ []) (after_of net c s v e)
allocs_more net c fs s v nv dv pv gv fv act e checked good k kv ev once u a b n d ps gs fw ku ua ub l r = at (is_alloc (firing v act) u a)
  where
    i : (w : ℕ) × (can dv gv (get_or s.state.own v idle).queue act ≡ true) × Given (in_place gv act) (head_at net s.state v) w × (queue_effect pv gv act (get_or s.state.own v idle) (get_or s.state.arrays nv []) w ≡ e)
    i = queue_inv dv pv gv act (get_or s.state.own v idle) (get_or s.state.arrays nv []) (head_at net s.state v) e (sym (lsq_is net v nv dv pv gv fv kv s.state act) ∙ ev)

    free : into u b net.chans < length net.chans → takes_from net v e (into u b net.chans) ≡ false
    free lc = by (takes_from net v e (into u b net.chans)) refl
      where
        by : (t : Bool) → takes_from net v e (into u b net.chans) ≡ t → t ≡ false
        by false q = refl
        by true q =
            let ts : e.takes ≡ place_list (in_place gv act) = ap (λ (y : Effect). y.takes) (sym i.3) in
            let x = takes_at net v (in_place gv act) (into u b net.chans) (ap (λ qs. among (into u b net.chans) (map (λ p. into v p net.chans) qs)) (sym ts) ∙ q) in
            let y = same_in u v b x.0 net.chans lc x.2 in
            let z : Lsq n d ps gs fw ≡ Lsq nv dv pv gv fv = sym ku ∙ (ap (kind_of net) y.0 ∙ kv) in
            let gg : gs ≡ gv = cc in
            let al : act ≡ Alloc b = alloc_place gs act b l (ap (λ q. in_place q act) gg ∙ (x.1 ∙ ap Some (sym y.1))) in
            absurd (unused_last fs (firing v act) (firing u (Alloc b)) ub (λ j. record { unit = sym y.0 j; act = ap act_place al j }))

    kept : (head_at net (after_of net c s v e).state u b ≡ head_at net s.state u b)
        × (first (get_or (after_of net c s v e).dates (into u b net.chans) []) ≡ first (get_or s.dates (into u b net.chans) []))
    kept = kept_free net c s v u b e free k (queue_late net v u e checked (ap is_lsq kv)) r

    ripe : IsRipe net c s (into u b net.chans)
    ripe = (let P : Option ℕ → Type 0 = λ o. IsSomeAnd o (λ date. date + (chan_at net (into u b net.chans)).delay ≤ c) in subst P kept.1 r)

    at : (place_of (firing v act) ≡ firing u (Alloc a)) ⊎ (place_of (firing v act) ≢ firing u (Alloc a)) → ⊥
    at (inr ne) = once u a b n d ps gs fw ku (λ z. ua (all_snoc (λ g. place_of g ≢ firing u (Alloc a)) fs (firing v act) z ne)) (unused_before fs (firing v act) (firing u (Alloc b)) ub) l ripe
    at (inl z) =
        let un : v ≡ u = ap (λ (x : Firing). x.unit) z in
        let al : act_place act ≡ Alloc a = ap (λ (x : Firing). x.act) z in
        let ac : act ≡ Alloc a = alloc_fixed act a al in
        let kk : Lsq nv dv pv gv fv ≡ Lsq n d ps gs fw = sym kv ∙ (ap (kind_of net) un ∙ ku) in
        let gg : gv ≡ gs = cc in
        let ca : can dv gv (get_or s.state.own v idle).queue (Alloc a) ≡ true = subst (λ x. can dv gv (get_or s.state.own v idle).queue x ≡ true) ac i.1 in
        let la' : a < length gv = group_within dv gv (get_or s.state.own v idle).queue a ca in
        let la : a < length gs = subst (λ q. a < length q) gg la' in
        let ha' : head_at net s.state v a ≡ Some i.0 = given_head (in_place gv act) a i.0 (head_at net s.state v) (ap (in_place gv) ac) i.2 in
        let ha : head_at net s.state u a ≡ Some i.0 = subst (λ x. head_at net s.state x a ≡ Some i.0) un ha' in
        let hb = ripe_head net c s (into u b net.chans) k ripe in
        let p = premises_of net laws checked in
        let st : Steers (Lsq n d ps gs fw) (ctl_in net u) (ctl_out net u) = subst (λ k. Steers k (ctl_in net u) (ctl_out net u)) ku (p.steered u) in
        let nf : is_fork (kind_of net u) ≡ false = lsq_fork (kind_of net u) (ap is_lsq ku) in
        let a1 = counted_head net s.state u a i.0 good nf (st.0 a (omega arith)) ha in
        let a2 = counted_head net s.state u b hb.0 good nf (st.0 b (omega arith)) hb.1 in
        let same = (same_in u u a b net.chans a1.within (one_held net s.state (into u a net.chans) (into u b net.chans) good a1 a2)).1 in
        unused_last fs (firing v act) (firing u (Alloc b)) ub (λ j. record { unit = un j; act = (al ∙ ap Alloc same) j })
      where
        alloc_fixed : (x : Act) (y : ℕ) → act_place x ≡ Alloc y → x ≡ Alloc y
        alloc_fixed (Alloc x) y q = q
        alloc_fixed _ y q = cc

-- before a queue fires there is no allocation
pub allocs_none : (net : Net) (c : ℕ) (fs : List Firing) (s : Dated) → AllByRecursion (λ g. (is_lsq (kind_of net g.unit) ≡ false) × (phase g.act ≡ 0)) fs → AllocsOnce net c fs s
allocs_none net c fs s plain u a b n d ps gs fw ku ua ub l r = ua (each fs plain)
  where
    each : (fs : List Firing) → AllByRecursion (λ g. (is_lsq (kind_of net g.unit) ≡ false) × (phase g.act ≡ 0)) fs → IsUnused fs (firing u (Alloc a))
    each [] h = tt
    each (g ∷ fs) h = ((λ z. let un : g.unit ≡ u = ap (λ (x : Firing). x.unit) z in let q : is_lsq (kind_of net g.unit) ≡ true = ap (λ x. is_lsq (kind_of net x)) un ∙ ap is_lsq ku in let w : false ≡ true = sym h.0.0 ∙ q in cc), each fs h.1)

-- an act that is no allocation adds no entries
step_most : (ps : List Port) (gs : List (List ℕ)) (q : QueueState) (xs : List ℕ) (a : Act) (v : ℕ) → ((k : ℕ) → a ≡ Alloc k → ⊥) → length (step ps gs q xs a v).queue.items ≤ length q.items
step_most ps gs q xs (Alloc k) v not_so = absurd (not_so k refl)
step_most ps gs q xs (Addr p) v not_so = let k = length-first_changed (Rattle.lsq_core.specs.Acts.wants_addr p) (Rattle.lsq_core.specs.Acts.with_addr v) q.items in omega arith
step_most ps gs q xs (Data p) v not_so = let k = length-first_changed (Rattle.lsq_core.specs.Acts.wants_data p) (Rattle.lsq_core.specs.Acts.with_data v) q.items in omega arith
step_most ps gs q xs (Reply p) v not_so = let k = length-first_changed (Rattle.lsq_core.specs.Acts.wants_reply p) Rattle.lsq_core.specs.Acts.answered q.items in omega arith
step_most ps gs q xs (Exec e) v not_so = by (find (is_serial e) q.items)
  where
    by : (o : Option Item) → length (exec q xs e o).queue.items ≤ length q.items
    by None = omega arith
    by (Some x) = let k = length-first_changed (is_serial e) (executed (exec_value xs q.items x)) q.items in omega arith
step_most ps gs q xs Retire v not_so = by q.items
  where
    by : (items : List Item) → length (rest items) ≤ length items
    by [] = omega arith
    by (x ∷ items) = omega arith
step_most ps gs q xs _ v not_so = omega arith

abbrev entries : State → ℕ → ℕ
entries s u = length (get_or s.own u idle).queue.items

-- a queue that has not allocated has no more entries than as the cycle began
items_most : (net : Net) (c : ℕ) (start s : Dated) (fs : List Firing) (t : Dated) (u : ℕ) → Makes net c start s fs t → ((a : ℕ) → IsUnused fs (firing u (Alloc a))) → entries t.state u ≤ entries s.state u
items_most net c start s [] t u m un = let e : entries s.state u ≡ entries t.state u = ap (λ (x : Dated). entries x.state u) m in omega arith
items_most net c start s (f ∷ fs) t u m un =
    let w = effect_there net s.state f m.0.turn in
    let q : after_in net c s f ≡ after_of net c s f.unit w.0 = ap (after_by net c s f.unit) w.1 in
    let P : Dated → Type 0 = λ x. Makes net c start x fs t in
    let i = items_most net c start (after_of net c s f.unit w.0) fs t u (subst P q m.2) (λ a. (un a).1) in
    let j : length (get_or (set s.state.own f.unit w.0.own) u idle).queue.items ≤ length (get_or s.state.own u idle).queue.items = one w.0 w.1 in
    omega arith
  where
    one : (e : Effect) → effect net s.state f ≡ Some e → length (get_or (set s.state.own f.unit e.own) u idle).queue.items ≤ length (get_or s.state.own u idle).queue.items
    one e is = by (cases_eq u f.unit)
      where
        o : Own
        o = get_or s.state.own f.unit idle

        goes_on : QueueGoes (kind_of net f.unit) f.act o (at_array s.state.arrays (uses (kind_of net f.unit))) e → u ≡ f.unit → length e.own.queue.items ≤ length o.queue.items
        goes_on (QueueGoes.stays q) z = let k = ap (λ (x : QueueState). length x.items) q in omega arith
        goes_on (QueueGoes.steps n d ps gs fw v is c q) z =
            let k = ap (λ (x : QueueState). length x.items) q in
            let l = step_most ps gs o.queue (at_array s.state.arrays (uses (kind_of net f.unit))) f.act v (λ g al. (un g).0 (λ i. record { unit = sym z i; act = ap act_place al i })) in
            omega arith

        by : (u ≡ f.unit) ⊎ (u ≢ f.unit) → length (get_or (set s.state.own f.unit e.own) u idle).queue.items ≤ length (get_or s.state.own u idle).queue.items
        by (inr n) = let k : get_or (set s.state.own f.unit e.own) u idle ≡ get_or s.state.own u idle = get_or-set_other s.state.own f.unit u e.own idle n in let y = ap (λ (x : Own). length x.queue.items) k in omega arith
        by (inl z) =
            let g = goes_on (queue_goes_on (kind_of net f.unit) f.act o (at_array s.state.arrays (uses (kind_of net f.unit))) (setting net s.state) (head_at net s.state f.unit) e is) z in
            own_kept (λ x. length x.queue.items ≤ length (get_or s.state.own u idle).queue.items) s.state.own f.unit e.own u
            (λ h. (let y : length o.queue.items ≡ length (get_or s.state.own u idle).queue.items = ap (λ x. length (get_or s.state.own x idle).queue.items) (sym z) in omega arith)) (omega arith)

-- ---- what the queue allows before the firing

no_alloc : (b : Act) → ((k : ℕ) → b ≡ Alloc k → ⊥) ⊎ ((k : ℕ) × (b ≡ Alloc k))
no_alloc (Alloc k) = inr (k, refl)
no_alloc _ = inl (λ k z. cc)

is_retire : (a : Act) → (a ≡ Retire) ⊎ (a ≢ Retire)
is_retire Retire = inl refl
is_retire _ = inr (λ z. cc)

-- what may not be made before a firing of a queue may not be made after it, where it has not fired and is of another unit, or
-- of no later phase
pub queue_rouses : (net : Net) (c : ℕ) (start : Dated) (fs : List Firing) (s : Dated) (u : ℕ) (a : Act) (g : Firing) → IsChecked net → IsRegular net s.state → AreDated net start → AreDated net s → Makes net c start start fs s
    → AllocsOnce net c fs s → is_lsq (kind_of net u) ≡ true → enabled net s.state (firing u a) → IsUnused (fs ++ firing u a ∷ []) g → (g.unit ≡ u → phase g.act ≤ phase a)
    → May net c start (after_in net c s (firing u a)) g → May net c start s g
queue_rouses net c start fs s u a g checked good ks k m once q n un order may =
    kinds (kind_of net u) refl q
  where
    w : (e : Effect) × (effect net s.state (firing u a) ≡ Some e) × has_room net s.state u e.put
    w = effect_there net s.state (firing u a) n

    after : May net c start (after_of net c s u w.0) g
    after = (let P : Dated → Type 0 = λ x. May net c start x g in subst P (ap (after_by net c s u) w.1) may)

    un_before : IsUnused fs g
    un_before = unused_before fs (firing u a) g un

    lsq : (x d : ℕ) (ps : List Port) (gs : List (List ℕ)) (fw : Bool) → kind_of net u ≡ Lsq x d ps gs fw → May net c start s g
    lsq x d ps gs fw ku = by (cases_eq g.unit u)
      where
        own : (b : Act) → IsUnused (fs ++ firing u a ∷ []) (firing u b) → phase b ≤ phase a → May net c start (after_of net c s u w.0) (firing u b) → May net c start s (firing u b)
        own b ub ph mb = own_back net c start fs s u x d ps gs fw a b w.0 checked ks k m ku w.1 (λ z. differ (ap act_place z)) (unused_before fs (firing u a) (firing u b) ub) (allowed (can d gs queue b) refl) mb
          where
            t : State
            t = (after_of net c s u w.0).state

            queue : QueueState
            queue = (get_or s.state.own u idle).queue

            xs : List ℕ
            xs = get_or s.state.arrays x []

            differ : act_place a ≢ act_place b
            differ z = unused_last fs (firing u a) (firing u b) ub (λ i. record { unit = u; act = z i })

            i : (v : ℕ) × (can d gs queue a ≡ true) × Given (in_place gs a) (head_at net s.state u) v × (queue_effect ps gs a (get_or s.state.own u idle) xs v ≡ w.0)
            i = queue_inv d ps gs a (get_or s.state.own u idle) xs (head_at net s.state u) w.0 (sym (lsq_is net u x d ps gs fw ku s.state a) ∙ w.1)

            h : (e' : Effect) × (effect net t (firing u b) ≡ Some e') × has_room net t u e'.put
            h = effect_there net t (firing u b) mb.turn

            j : (v : ℕ) × (can d gs (get_or t.own u idle).queue b ≡ true) × Given (in_place gs b) (head_at net t u) v × (queue_effect ps gs b (get_or t.own u idle) (get_or t.arrays x []) v ≡ h.0)
            j = queue_inv d ps gs b (get_or t.own u idle) (get_or t.arrays x []) (head_at net t u) h.0 (sym (lsq_is net u x d ps gs fw ku t b) ∙ h.1)

            within : u < length s.state.own
            within = (let z = kind_within net u (λ z. let y : Lsq x d ps gs fw ≡ Rattle.net_types.specs.declared.net.Unit.TheVariants.Sink 0 = sym ku ∙ z in cc) in let o = good.owned in omega arith)

            then_can : can d gs (step ps gs queue xs a i.0).queue b ≡ true
            then_can = (let o : get_or t.own u idle ≡ w.0.own = own_after net s.state u w.0 within in
                let y : (get_or t.own u idle).queue ≡ (step ps gs queue xs a i.0).queue = ap (λ (z : Own). z.queue) (o ∙ ap (λ (z : Effect). z.own) (sym i.3)) in
                ap (λ z. can d gs z b) (sym y) ∙ j.1)

            ph' : lsq_phase b ≤ lsq_phase a
            ph' = (let y = phase_same b in let z = phase_same a in omega arith)

            differ' : lsq_place b ≢ lsq_place a
            differ' z = differ (sym (place_same a) ∙ (sym z ∙ place_same b))

            refused : ((k : ℕ) → b ≡ Alloc k → a ≢ Retire) → can d gs queue b ≡ false → ⊥
            refused not_so no_can =
                let y = stays_refused d ps gs queue xs b a i.0 (good.queues u) ph' differ' not_so i.1 no_can in
                let z : false ≡ true = sym y ∙ then_can in cc

            -- an allocation after a retirement: nothing was allocated in the cycle, so there is the room that there was as it began
            retired : (l : ℕ) → b ≡ Alloc l → a ≡ Retire → can d gs queue b ≡ true
            retired l al re =
                let ml : May net c start (after_of net c s u w.0) (firing u (Alloc l)) = subst (λ y. May net c start (after_of net c s u w.0) (firing u y)) al mb in
                let ul : IsUnused fs (firing u (Alloc l)) = subst (λ y. IsUnused fs (firing u y)) al (unused_before fs (firing u a) (firing u b) ub) in
                let cl : can d gs (step ps gs queue xs a i.0).queue (Alloc l) ≡ true = subst (λ y. can d gs (step ps gs queue xs a i.0).queue y ≡ true) al then_can in
                let ll : l < length gs = group_within d gs (step ps gs queue xs a i.0).queue l cl in
                let uses' : used net t (firing u (Alloc l)) ≡ l ∷ [] = queue_used net u x d ps gs fw ku t (Alloc l) j.0 (subst (λ y. can d gs (get_or t.own u idle).queue y ≡ true) al j.1) (subst (λ y. Given (in_place gs y) (head_at net t u) j.0) al j.2) in
                let R : List ℕ → Type 0 = λ qs. AllByRecursion (λ p. IsRipe net c (after_of net c s u w.0) (into u p net.chans)) qs in
                let ripe' : IsRipe net c (after_of net c s u w.0) (into u l net.chans) = (subst R uses' ml.ripe).0 in
                let ts : w.0.takes ≡ [] = ap (λ (y : Effect). y.takes) (sym i.3) ∙ ap (λ y. place_list (in_place gs y)) re in
                let free : takes_from net u w.0 (into u l net.chans) ≡ false = ap (λ qs. among (into u l net.chans) (map (λ p. into u p net.chans) qs)) ts in
                let kf = kept_free net c s u u l w.0 (λ y. free) k (queue_late net u u w.0 checked q) ripe' in
                let P : Option ℕ → Type 0 = λ o. IsSomeAnd o (λ date. date + (chan_at net (into u l net.chans)).delay ≤ c) in
                let ripe : IsRipe net c s (into u l net.chans) = subst P kf.1 ripe' in
                let none : (y : ℕ) → IsUnused fs (firing u (Alloc y)) = λ y. unused y ripe ul ll (alloc_or fs u y) in
                let most : entries s.state u ≤ entries start.state u = items_most net c start start fs s u m none in
                let de : length (get_or start.state.own u idle).queue.items + length (get_or gs l []) ≤ d = subst (λ y. HasDepth y (get_or start.state.own u idle) (Alloc l)) ku ml.depth in
                subst (λ y. can d gs queue y ≡ true) (sym al) (room l ll most de)
              where
                unused : (y : ℕ) → IsRipe net c s (into u l net.chans) → IsUnused fs (firing u (Alloc l)) → l < length gs → IsUnused fs (firing u (Alloc y)) ⊎ (IsUnused fs (firing u (Alloc y)) → ⊥) → IsUnused fs (firing u (Alloc y))
                unused y r ul ll (inl z) = z
                unused y r ul ll (inr z) = absurd (once u y l x d ps gs fw ku z ul ll r)

                room : (l : ℕ) → l < length gs → entries s.state u ≤ entries start.state u → length (get_or start.state.own u idle).queue.items + length (get_or gs l []) ≤ d → can d gs queue (Alloc l) ≡ true
                room l ll most de = rw (Rattle.std.proofs.Common.lt-ltb l (length gs) ll) (le-leb _ _ (omega arith))

            allowed : (t : Bool) → can d gs queue b ≡ t → can d gs queue b ≡ true
            allowed true z = z
            allowed false z = at (no_alloc b) (is_retire a)
              where
                at : ((k : ℕ) → b ≡ Alloc k → ⊥) ⊎ ((k : ℕ) × (b ≡ Alloc k)) → (a ≡ Retire) ⊎ (a ≢ Retire) → can d gs queue b ≡ true
                at (inl not_so) y = absurd (refused (λ k e. absurd (not_so k e)) z)
                at (inr o) (inl re) = retired o.0 o.1 re
                at (inr o) (inr not_so) = absurd (refused (λ k e. not_so) z)

        by : (g.unit ≡ u) ⊎ (g.unit ≢ u) → May net c start s g
        by (inr ne) = others_back net c start fs s u x d ps gs fw a w.0 g checked good ks k m ku w.1 ne un_before after
        by (inl e) =
            let z : g ≡ firing u g.act = λ i. record { unit = e i; act = g.act } in
            let P : Firing → Type 0 = λ y. May net c start (after_of net c s u w.0) y in
            let Q : Firing → Type 0 = λ y. May net c start s y in
            let U : Firing → Type 0 = λ y. IsUnused (fs ++ firing u a ∷ []) y in
            subst Q (sym z) (own g.act (subst U z un) (order e) (subst P z after))

    kinds : (y : Kind) → kind_of net u ≡ y → is_lsq (kind_of net u) ≡ true → May net c start s g
    kinds (Lsq x d ps gs fw) ku q = lsq x d ps gs fw ku
    kinds y ku q = let z : is_lsq y ≡ true = sym (ap is_lsq ku) ∙ q in cc
