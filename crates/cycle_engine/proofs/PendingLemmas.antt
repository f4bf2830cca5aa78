-- Turns of forks of which the pending outputs are noted.
use Rattle.std.proofs.Common.{◌≡◌, ◌≢◌, ℕ, zero, suc, ◌+◌, ◌*◌, ◌^◌, ◌<◌, ◌≤◌, ◌⊎◌, inl, inr, Bool, true, false, cond, nat_lt, ne_eqb, List, [], length, get_or, set, refl, sym, ap, subst, ◌∙◌, arith, Result, Ok, Err, OnOk, get_or-set_other, length-set}
use Rattle.std.proofs.lemmas.Bool.{and_parts, cases_eq, cases_lt, ltb-true}
use Rattle.lsq_core.specs.Bits.{has, IsSet}
use Rattle.lsq_core.specs.Laws.{act_place}
use Rattle.net_types.specs.declared.net.Net.{Net}
use Rattle.net_types.specs.declared.net.Unit.{Unit as Kind}
use Rattle.net_types.specs.declared.firing.Act.{Act}
use Rattle.net_types.specs.declared.firing.Act.TheVariants.{Send}
use Rattle.net_types.specs.declared.firing.Firing.{Firing}
use Rattle.net_types.specs.Nets.{out_of, kind_of, chan_at, firing}
use Rattle.net_types.specs.Order.{act_number}
use Rattle.net_check.specs.Checks.{IsChecked}
use Rattle.net_check.specs.Ends.{is_lsq}
use Rattle.net_core.specs.Fire.{idle, head_at}
use Rattle.net_core.specs.Plans.{IsForkOf}
use Rattle.net_core.specs.States.{state_of}
use Rattle.net_core.specs.Uses.{is_fork}
use Rattle.net_core.proofs.ApartLemmas.{out_of-at, is_at-inv}
use Rattle.net_core.proofs.ForkLemmas.{send_inv}
use Rattle.net_core.proofs.PlanUses.{fork_act, fork_effect}
use Rattle.cycle_engine.specs.declared.engine.Engine.{Engine}
use Rattle.cycle_engine.specs.declared.engine.Bounds.{Bounds}
use Rattle.cycle_engine.specs.declared.marks.Marks.{Marks}
use Rattle.cycle_engine.specs.declared.pending.Pending.{Pending}
use Rattle.cycle_engine.specs.declared.trial.Planned.{Planned}
use Rattle.cycle_engine.specs.Cycles.{Dated, May}
use Rattle.cycle_engine.specs.Rousing.{Could}
use Rattle.cycle_engine.specs.private.Trials.{dated_of, IsFollowed, IsBegun, IsPlanned}
use Rattle.cycle_engine.specs.private.Marking.{Holds, IsMarked}
use Rattle.cycle_engine.specs.private.Pending.{HasPlaces, IsShut, IsHeldBack, IsNextPending, IsOpened, IsFreedOut, out_number}
use Rattle.cycle_engine.specs.private.Goings.{Past, IsReady, InCycle, IsNotedUnit, AreShut, AreShutNow, with_pending}
use Rattle.cycle_engine.specs.private.Places.{HasSentOrTold, IsOpen, IsTurn, IsTurnOf, IsTurnEnded, AreLeft, outputs_in}
use Rattle.cycle_engine.specs.private.Used.{AreNumbered, place_number}
use Rattle.cycle_engine.proofs.BeforeLemmas.{may_could}
use Rattle.cycle_engine.proofs.SendLemmas.{could_effect, fork_out, send_number, sends_done}
use Rattle.cycle_engine.proofs.ShutLemmas.{held_quiet, places_kept}
use Rattle.cycle_engine.proofs.UsedLemmas.{send_place}

-- ---- the engine where other outputs are noted

pub begun_pending : (net : Net) (c : ℕ) (start : Dated) (e : Engine) (p : Pending) → IsBegun net c start e → IsBegun net c start (with_pending e p)
begun_pending net c start e p b = record { chans = λ d. followed d (b.chans d); queues = b.queues }
  where
    followed : (d : ℕ) → IsFollowed net c start e d → IsFollowed net c start (with_pending e p) d
    followed d k = record { marked = k.marked; clear = k.clear; newest = k.newest }

pub going_pending : (net : Net) (past : Past) (b : Bounds) (c : ℕ) (start : Dated) (e : Engine) (p : Pending) → InCycle net past b c start e → AreShut net start (with_pending e p) → InCycle net past b c start (with_pending e p)
going_pending net past b c start e p g shut = record {
  began = begun_pending net c start e p g.began;
  done = g.done;
  number = g.number;
  makes = g.makes;
  once = g.once;
  order = g.order;
  made = g.made;
  log = g.log;
  listed = g.listed;
  coming = g.coming;
  control = g.control;
  shut = shut;
}

pub ready_pending : (net : Net) (b : Bounds) (e : Engine) (p : Pending) → IsReady net b e → HasPlaces net (length e.used.last.items) p → IsReady net b (with_pending e p)
ready_pending net b e p r places = record {
  engine = record { state = r.engine.state; dated = r.engine.dated };
  few = r.few;
  within = r.within;
  counts = r.counts;
  room = r.room;
  chans = r.chans;
  queues = r.queues;
  marked = r.marked;
  listed = r.listed;
  cells = r.cells;
  told = r.told;
  places = r.places;
  feeds = r.feeds;
  pending = places;
  fed = record { leads = r.fed.leads; sized = r.fed.sized; places = r.fed.places; each = r.fed.each };
}

pub turn_pending : (net : Net) (past : Past) (b : Bounds) (c : ℕ) (start : Dated) (marks : Marks) (e : Engine) (p : Pending) (u r n : ℕ) → InCycle net past b c start (with_pending e p) → IsTurn net past b c start marks e u r n → IsTurn net past b c start marks (with_pending e p) u r n
turn_pending net past b c start marks e p u r n going t = record { going = going; watched = t.watched; kept = t.kept; of = of (is_lsq (kind_of net u)) t.of }
  where
    of : (q : Bool) → IsTurnOf q net c marks e u r → IsTurnOf q net c marks (with_pending e p) u r
    of true o = record { allocs = o.allocs; behind = o.behind; fresh = o.fresh; same = o.same; again = o.again }
    of false o = o

-- where no more is shut, all that is shut is held back still
pub shut_opened : (net : Net) (start : Dated) (e : Engine) (p : Pending) → IsOpened e.pending p → AreShut net start e → AreShut net start (with_pending e p)
shut_opened net start e p o shut u outs j within fork l s = shut u outs j within fork l (o.shut e.used.base.items u j s)

pub turn_opened : (net : Net) (past : Past) (b : Bounds) (c : ℕ) (start : Dated) (marks : Marks) (e : Engine) (p : Pending) (u r n : ℕ) → IsOpened e.pending p → IsTurn net past b c start marks e u r n → IsTurn net past b c start marks (with_pending e p) u r n
turn_opened net past b c start marks e p u r n o t = turn_pending net past b c start marks e p u r n (going_pending net past b c start e p t.going (shut_opened net start e p o t.going.shut)) t

pub ready_opened : (net : Net) (b : Bounds) (e : Engine) (p : Pending) → IsOpened e.pending p → IsReady net b e → IsReady net b (with_pending e p)
ready_opened net b e p o r = ready_pending net b e p r (places_kept net (length e.used.last.items) (length e.used.last.items) e.pending p refl o r.pending)

pub planned_pending : (net : Net) (e : Engine) (p : Pending) (f : Firing) (x : Planned) → IsPlanned net e f x → IsPlanned net (with_pending e p) f x
planned_pending net e p f x h = record { effect = h.effect; moves = h.moves; apart = h.apart; admits = h.admits; room = h.room }

pub told_pending : (net : Net) (first e : Engine) (p : Pending) (u n : ℕ) → HasSentOrTold net first e u n → HasSentOrTold net first (with_pending e p) u n
told_pending net first e p u n h = record { fired = h.fired; told = h.told }

-- ---- numbers of outputs

out_place : (base : List ℕ) (u j : ℕ) → place_number base (firing u (Send j)) ≡ out_number base u j
out_place base u j = ap (λ b. cond b u (get_or base u 0 + suc j)) (ne_eqb (suc j) 0 (λ e. omega arith))

outs_rise : (net : Net) (base : List ℕ) (n u v outs more i j : ℕ) → AreNumbered net base n → u < length net.units → v < length net.units → IsForkOf outs (kind_of net u) → IsForkOf more (kind_of net v) → i < outs → j < more → u < v
    → out_number base u i < out_number base v j
outs_rise net base n u v outs more i j numbers lu lv fu fv li lj l =
    let r = numbers.rising (firing u (Send i)) (firing v (Send j)) (send_place net u outs i lu fu li) (send_place net v more j lv fv lj) l (λ e. omega arith) (λ e. omega arith) in
    let a = out_place base u i in
    let b = out_place base v j in
    omega (arith, r, a, b)

-- outputs of two forks have two numbers
pub outs_apart : (net : Net) (base : List ℕ) (n u v outs more i j : ℕ) → AreNumbered net base n → u < length net.units → v < length net.units → IsForkOf outs (kind_of net u) → IsForkOf more (kind_of net v) → i < outs → j < more → v ≢ u
    → out_number base v j ≢ out_number base u i
outs_apart net base n u v outs more i j numbers lu lv fu fv li lj ne e = by (cases_lt u v) (cases_lt v u)
  where
    by : (u < v) ⊎ (v ≤ u) → (v < u) ⊎ (u ≤ v) → ⊥
    by (inl l) w = let r = outs_rise net base n u v outs more i j numbers lu lv fu fv li lj l in omega arith
    by (inr k) (inl l) = let r = outs_rise net base n v u more outs j i numbers lv lu fv fu lj li l in omega arith
    by (inr k) (inr m) = ne (omega arith)

-- each number is among those for which there is room
pub out_room : (net : Net) (n u outs j : ℕ) (base : List ℕ) (p : Pending) → AreNumbered net base n → HasPlaces net n p → u < length net.units → IsForkOf outs (kind_of net u) → j < outs → (out_number base u j < 64 * length p.outs) × (out_number base u j < 2 ^ 60)
out_room net n u outs j base p numbers h lu fork l =
    let a = send_number net base n u outs j lu fork l numbers in
    let b = h.room in
    let d = h.small in
    (omega arith, omega arith)

-- and so are all of a fork's
pub walk_room : (net : Net) (n u outs : ℕ) (base : List ℕ) (p : Pending) → AreNumbered net base n → HasPlaces net n p → u < length net.units → IsForkOf outs (kind_of net u) → 0 < outs
    → (get_or base u 0 + 1 + outs ≤ 64 * length p.outs) × (get_or base u 0 + 1 + outs ≤ 2 ^ 60)
walk_room net n u zero base p numbers h lu fork l = absurd (omega arith)
walk_room net n u (suc k) base p numbers h lu fork l =
    let a = send_number net base n u (suc k) k lu fork (omega arith) numbers in
    let b = h.room in
    let d = h.small in
    (omega arith, omega arith)

-- a fork has one number of outputs
pub one_count : (k : Kind) (outs more : ℕ) → IsForkOf outs k → IsForkOf more k → outs ≡ more
one_count k outs more a b = let e = ap outputs_in (sym a.shape ∙ b.shape) in e

-- ---- as a cycle begins

pub shut_begun : (net : Net) (old new : Engine) → IsChecked net → AreNumbered net old.used.base.items (length old.used.last.items) → HasPlaces net (length old.used.last.items) old.pending → dated_of new ≡ dated_of old → new.used ≡ old.used → IsOpened old.pending new.pending
    → ((d : ℕ) → Holds d old.freed.list.items → IsFreedOut net old.used.base.items new.pending d) → AreShutNow net old → AreShut net (dated_of old) new
shut_begun net old new checked numbers places same used opened freed shut u outs j within fork l s = by (shut u outs j within fork l (opened.shut old.used.base.items u j was))
  where
    was : IsShut new.pending old.used.base.items u j
    was = let P : _ → Type 0 = λ v. IsShut new.pending v.base.items u j in subst P used s

    inside : out_of u j net.chans < length net.chans
    inside = fork_out net u outs j checked within fork l

    there : ((chan_at net (out_of u j net.chans)).from.unit ≡ u) × ((chan_at net (out_of u j net.chans)).from.place ≡ j)
    there = let i = is_at-inv (chan_at net (out_of u j net.chans)).from u j (out_of-at u j net.chans inside) in (i.0, i.1)

    room : (out_number old.used.base.items u j < 64 * length new.pending.outs) × (out_number old.used.base.items u j < 2 ^ 60)
    room =
        let w = out_room net (length old.used.last.items) u outs j old.used.base.items old.pending numbers places within fork l in
        let a = w.0 in
        let z = opened.size in
        (omega arith, w.1)

    opens : Holds (out_of u j net.chans) old.freed.list.items → ⊥
    opens h =
        let F : ℕ → ℕ → Type 0 = λ v i. out_number old.used.base.items v i < 2 ^ 60 → out_number old.used.base.items v i < 64 * length new.pending.outs → IsShut new.pending old.used.base.items v i → ⊥ in
        let f : F (chan_at net (out_of u j net.chans)).from.unit (chan_at net (out_of u j net.chans)).from.place = freed (out_of u j net.chans) h inside in
        subst (F u) there.1 (subst (λ v. F v (chan_at net (out_of u j net.chans)).from.place) there.0 f) room.1 room.0 was

    by : IsHeldBack net (state_of old.state) (state_of old.state) u j ⊎ Holds (out_of u j net.chans) old.freed.list.items → IsHeldBack net (state_of old.state) (state_of new.state) u j
    by (inr h) = absurd (opens h)
    by (inl h) = let P : Dated → Type 0 = λ x. IsHeldBack net (state_of old.state) x.state u j in subst P (sym same) h

-- ---- a walk over the pending outputs of a fork

-- an act of a fork that could be made sends to one of its outputs
pub could_send : (net : Net) (c : ℕ) (start s : Dated) (u outs : ℕ) (a : Act) → IsForkOf outs (kind_of net u) → Could net c start s (firing u a) → (j : ℕ) × (a ≡ Send j) × (j < outs)
could_send net c start s u outs a fork k =
    let w = could_effect net c start s (firing u a) k in
    let x = fork_act outs a (get_or s.state.own u idle) [] (head_at net s.state u) w.0 (sym (fork_effect net u fork.width outs fork.shape s.state a) ∙ w.1) in
    let i = send_inv outs x.0 (get_or s.state.own u idle) [] (head_at net s.state u) w.0 x.2 in
    (x.0, x.1, ltb-true _ _ (and_parts (nat_lt x.0 outs) _ i.0).0)

module _ (net : Net) (past : Past) (b : Bounds) (c : ℕ) (start : Dated) (marks : Marks) (e : Engine) (u outs : ℕ) (within : u < length net.units) (fork : IsForkOf outs (kind_of net u)) where
  -- no shut output could be sent to
  shut_quiet : (j : ℕ) → InCycle net past b c start e → j < outs → IsShut e.pending e.used.base.items u j → Could net c start (dated_of e) (firing u (Send j)) → ⊥
  shut_quiet j going l s k = held_quiet net c start (dated_of e) u outs j fork (going.shut u outs j within fork l s) k

  -- outputs that are shut need not be tried
  pub shut_passed : (n m : ℕ) → ((j : ℕ) → n ≤ j → j < m → IsShut e.pending e.used.base.items u j) → IsTurn net past b c start marks e u 2 n → IsTurn net past b c start marks e u 2 m
  shut_passed n m shut t = record { going = t.going; watched = λ g un may. at g may (t.watched g un may); kept = t.kept; of = t.of }
    where
      at : (g : Firing) → May net c start (dated_of e) g → IsMarked e.marks g.unit ⊎ ((g.unit ≡ u) × IsOpen 2 n g.act) → IsMarked e.marks g.unit ⊎ ((g.unit ≡ u) × IsOpen 2 m g.act)
      at g may (inl k) = inl k
      at g may (inr k) = inr (k.0, opens k.1)
        where
          M : ℕ → Type 0
          M v = Could net c start (dated_of e) (firing v g.act)

          could : Could net c start (dated_of e) (firing u g.act)
          could = subst M k.0 (may_could net c start (dated_of e) g may)

          opens : IsOpen 2 n g.act → IsOpen 2 m g.act
          opens (inl l) = inl l
          opens (inr l) = by (could_send net c start (dated_of e) u outs g.act fork could)
            where
              by : (j : ℕ) × (g.act ≡ Send j) × (j < outs) → IsOpen 2 m g.act
              by w = or (cases_lt (act_number (act_place g.act)) m)
                where
                  A : Act → Type 0
                  A x = Could net c start (dated_of e) (firing u x)

                  or : (act_number (act_place g.act) < m) ⊎ (m ≤ act_number (act_place g.act)) → IsOpen 2 m g.act
                  or (inr k) = inr (l.0, k)
                  or (inl k) =
                      let number : act_number (act_place g.act) ≡ w.0 = ap (λ x. act_number (act_place x)) w.1 in
                      let above : n ≤ act_number (act_place g.act) = l.1 in
                      absurd (shut_quiet w.0 t.going w.2 (shut w.0 (omega arith) (omega arith)) (subst A w.1 could))

  -- all outputs were tried, or are shut
  pub left_ended : (n : ℕ) → outs ≤ n → AreLeft e u n → IsTurn net past b c start marks e u 2 n → IsTurnEnded net past b c start marks e u 3
  left_ended n most left t = record {
    turn = sends_done net past b c start marks e u (ap is_fork fork.shape) n (let z = ap outputs_in fork.shape in omega arith) t;
    own = λ a h k. own a k;
  }
    where
      own : (a : Act) → Could net c start (dated_of e) (firing u a) → IsNotedUnit e u
      own a k = by (could_send net c start (dated_of e) u outs a fork k)
        where
          A : Act → Type 0
          A x = Could net c start (dated_of e) (firing u x)

          by : (j : ℕ) × (a ≡ Send j) × (j < outs) → IsNotedUnit e u
          by w = or (left w.0 (let l = w.2 in omega arith))
            where
              or : IsShut e.pending e.used.base.items u w.0 ⊎ Holds u e.again.items → IsNotedUnit e u
              or (inr h) = inr h
              or (inl s) = absurd (shut_quiet w.0 t.going w.2 s (subst A w.1 k))

-- outputs that are passed over are shut
pub next_shut : (p : Pending) (base : List ℕ) (u first from outs n : ℕ) → first ≡ get_or base u 0 + 1 → get_or p.noted.items u false ≡ true → IsNextPending p first from outs n → (j : ℕ) → from ≤ j → j < n → IsShut p base u j
next_shut p base u first from outs n is noted next j a b = record {
  noted = noted;
  out = (let z : first + j ≡ out_number base u j = omega arith in subst (λ i. has p.outs i ≡ false) z (next.before j a b));
}

-- so they are left
pub left_next : (e : Engine) (u n m : ℕ) → ((j : ℕ) → n ≤ j → j < m → IsShut e.pending e.used.base.items u j) → AreLeft e u n → AreLeft e u m
left_next e u n m shut left j l = by (cases_lt j n)
  where
    by : (j < n) ⊎ (n ≤ j) → IsShut e.pending e.used.base.items u j ⊎ Holds u e.again.items
    by (inl k) = left j k
    by (inr k) = inl (shut j k l)

-- and stay left
pub left_kept : (old new : Engine) (u n : ℕ) → new.pending ≡ old.pending → new.used.base ≡ old.used.base → (Holds u old.again.items → Holds u new.again.items) → AreLeft old u n → AreLeft new u n
left_kept old new u n pending base again left j l = by (left j l)
  where
    by : IsShut old.pending old.used.base.items u j ⊎ Holds u old.again.items → IsShut new.pending new.used.base.items u j ⊎ Holds u new.again.items
    by (inr h) = inr (again h)
    by (inl s) =
        let P : Pending → Type 0 = λ x. IsShut x new.used.base.items u j in
        let Q : _ → Type 0 = λ v. IsShut old.pending v.items u j in
        inl (subst P (sym pending) (subst Q (sym base) s))

-- ---- outputs that are noted

-- it is noted of an output of a fork whether it is pending; it is not only where it is held back
module _ (net : Net) (e : Engine) (u outs out : ℕ) (p : Pending) (b : Bool) (within : u < length net.units) (fork : IsForkOf outs (kind_of net u)) (l : out < outs) (numbers : AreNumbered net e.used.base.items (length e.used.last.items))
    (set : IsSet (out_number e.used.base.items u out) b e.pending.outs p.outs) (noted : p.noted ≡ e.pending.noted) where
  before : (v j : ℕ) → out_number e.used.base.items v j ≢ out_number e.used.base.items u out → IsShut p e.used.base.items v j → IsShut e.pending e.used.base.items v j
  before v j ne s = record {
    noted = ap (λ (x : _). get_or x.items v false) (sym noted) ∙ s.noted;
    out = sym (set.other (out_number e.used.base.items v j) ne) ∙ s.out;
  }

  pub shut_more : (start : Dated) → (b ≡ false → IsHeldBack net start.state (state_of e.state) u out) → AreShut net start e → AreShut net start (with_pending e p)
  shut_more start held shut v more j lv fv lj s = by (cases_eq v u) (cases_eq j out)
    where
      H : ℕ → ℕ → Type 0
      H x y = IsHeldBack net start.state (state_of e.state) x y

      O : ℕ → ℕ → Type 0
      O x y = has p.outs (out_number e.used.base.items x y) ≡ false

      by : (v ≡ u) ⊎ (v ≢ u) → (j ≡ out) ⊎ (j ≢ out) → IsHeldBack net start.state (state_of e.state) v j
      by (inr ne) w = shut v more j lv fv lj (before v j (outs_apart net e.used.base.items (length e.used.last.items) u v outs more out j numbers within lv fork fv l lj ne) s)
      by (inl e1) (inr ne) = shut v more j lv fv lj (before v j (λ z. let q : get_or e.used.base.items v 0 ≡ get_or e.used.base.items u 0 = ap (λ x. get_or e.used.base.items x 0) e1 in ne (omega arith)) s)
      by (inl e1) (inl e2) =
          let o : O u out = subst (O u) e2 (subst (λ x. O x j) e1 s.out) in
          subst (H v) (sym e2) (subst (λ x. H x out) (sym e1) (held (sym set.here ∙ o)))

  pub places_more : HasPlaces net (length e.used.last.items) e.pending → HasPlaces net (length e.used.last.items) p
  places_more h = record {
    units = ap (λ (x : _). length x.items) noted ∙ h.units;
    room = (let a = h.room in let z = set.size in omega arith);
    small = h.small;
  }

-- an output that is held back is left
pub left_more : (net : Net) (e : Engine) (u out : ℕ) (p : Pending) → IsSet (out_number e.used.base.items u out) false e.pending.outs p.outs → p.noted ≡ e.pending.noted → get_or e.pending.noted.items u false ≡ true → AreLeft e u out → AreLeft (with_pending e p) u (out + 1)
left_more net e u out p set noted is left j lj = by (cases_lt j out)
  where
    there : get_or p.noted.items u false ≡ true
    there = ap (λ (x : _). get_or x.items u false) noted ∙ is

    or : j < out → IsShut e.pending e.used.base.items u j ⊎ Holds u e.again.items → IsShut p e.used.base.items u j ⊎ Holds u e.again.items
    or k (inr h) = inr h
    or k (inl s) = inl (record { noted = there; out = set.other (out_number e.used.base.items u j) (λ z. omega arith) ∙ s.out })

    by : (j < out) ⊎ (out ≤ j) → IsShut p e.used.base.items u j ⊎ Holds u e.again.items
    by (inr k) =
        let z : out ≡ j = omega arith in
        inl (record { noted = there; out = subst (λ i. has p.outs (out_number e.used.base.items u i) ≡ false) z set.here })
    by (inl k) = or k (left j k)

-- where a fork is to be looked at again, all its outputs are left
pub left_again : (e : Engine) (u n : ℕ) → Holds u e.again.items → AreLeft e u n
left_again e u n h j l = inr h

-- of each output so far that is noted not to be pending it is known what holds it back
abbrev pub AreHeld : Net → Dated → Engine → Pending → ℕ → ℕ → Type 0
AreHeld net start e p u n = (j : ℕ) → j < n → has p.outs (out_number e.used.base.items u j) ≡ false → IsHeldBack net start.state (state_of e.state) u j

pub held_more : (net : Net) (start : Dated) (e : Engine) (p q : Pending) (u out : ℕ) (b : Bool) → IsSet (out_number e.used.base.items u out) b p.outs q.outs → (b ≡ false → IsHeldBack net start.state (state_of e.state) u out) → AreHeld net start e p u out → AreHeld net start e q u (out + 1)
held_more net start e p q u out b set held h j l s = by (cases_lt j out)
  where
    by : (j < out) ⊎ (out ≤ j) → IsHeldBack net start.state (state_of e.state) u j
    by (inl k) = h j k (sym (set.other (out_number e.used.base.items u j) (λ z. omega arith)) ∙ s)
    by (inr k) =
        let z : j ≡ out = omega arith in
        let o : has q.outs (out_number e.used.base.items u out) ≡ false = subst (λ i. has q.outs (out_number e.used.base.items u i) ≡ false) z s in
        subst (λ i. IsHeldBack net start.state (state_of e.state) u i) (sym z) (held (sym set.here ∙ o))

-- so the pending outputs of the fork may be noted
pub shut_noted : (net : Net) (start : Dated) (e : Engine) (p : Pending) (u outs n : ℕ) → IsForkOf outs (kind_of net u) → outs ≤ n → p.noted.items ≡ set e.pending.noted.items u true → p.outs ≡ e.pending.outs → AreHeld net start e e.pending u n → AreShut net start e
    → AreShut net start (with_pending e p)
shut_noted net start e p u outs n fork most noted same held shut v more j lv fv lj s = by (cases_eq v u)
  where
    out : has e.pending.outs (out_number e.used.base.items v j) ≡ false
    out = ap (λ xs. has xs (out_number e.used.base.items v j)) (sym same) ∙ s.out

    by : (v ≡ u) ⊎ (v ≢ u) → IsHeldBack net start.state (state_of e.state) v j
    by (inr ne) = shut v more j lv fv lj (record {
      noted = sym (ap (λ xs. get_or xs v false) noted ∙ get_or-set_other e.pending.noted.items u v true false ne) ∙ s.noted;
      out = out;
    })
    by (inl z) =
        let F : ℕ → Type 0 = λ x. IsForkOf more (kind_of net x) in
        let O : ℕ → Type 0 = λ x. has e.pending.outs (out_number e.used.base.items x j) ≡ false in
        let q = one_count (kind_of net u) outs more fork (subst F z fv) in
        subst (λ x. IsHeldBack net start.state (state_of e.state) x j) (sym z) (held j (omega arith) (subst O z out))

pub places_noted : (net : Net) (n u : ℕ) (old new : Pending) → new.noted.items ≡ set old.noted.items u true → new.outs ≡ old.outs → HasPlaces net n old → HasPlaces net n new
places_noted net n u old new noted same h = record {
  units = ap (λ (xs : List Bool). length xs) noted ∙ (length-set old.noted.items u true ∙ h.units);
  room = (let a = h.room in let z = ap (λ (xs : List ℕ). length xs) same in omega arith);
  small = h.small;
}

-- what follows where a call did not fail
pub ok_as : {T E : Type 0} (r : Result T E) (P Q : Type 0) → (P → Q) → OnOk r P → OnOk r Q
ok_as (Ok v) P Q h x = h x
ok_as (Err e) P Q h x = tt
