-- Sends of forks: what they plan and move, when they may be made, and their turns.
use Rattle.std.proofs.lemmas.Bool.{cases_eq, cases_lt, false≢true}
use Rattle.std.proofs.Common.{ne_eqb, IsTrue, ◌↔◌, ◌≡◌, ℕ, zero, suc, ◌++◌, length-append, ◌<◌, ◌≤◌, ◌+◌, ◌⊎◌, inl, inr, Bool, true, false, cond, Option, Some, None, List, [], ◌∷◌, length, map, get_or, set, refl, sym, ap, subst, ◌∙◌, arith, IsSomeAnd, ◌≢◌}
use Rattle.std.proofs.lemmas.List.{get_or_past}
use Rattle.std.specs.List.{list_all, AllByRecursion}
use Rattle.net_types.specs.declared.net.Net.{Net}
use Rattle.net_types.specs.declared.net.Unit.{Unit as Kind}
use Rattle.net_types.specs.declared.net.Unit.TheVariants.{Fork}
use Rattle.net_types.specs.declared.firing.Act.{Act}
use Rattle.net_types.specs.declared.firing.Act.TheVariants.{Send}
use Rattle.net_types.specs.declared.firing.Firing.{Firing}
use Rattle.net_core.specs.declared.plan.Laid.{Laid}
use Rattle.net_types.specs.Nets.{into, out_of, kind_of, chan_at, firing}
use Rattle.net_types.specs.Order.{act_rank, act_number}
use Rattle.net_check.specs.declared.pins.Pins.{Pins}
use Rattle.net_types.specs.Tables.{InSpots, spot, spots, outs as places_out}
use Rattle.net_check.specs.Checks.{IsChecked}
use Rattle.net_check.specs.Controls.{passes_control}
use Rattle.net_check.specs.Ends.{is_lsq}
use Rattle.net_check.specs.Pins.{pins_of}
use Rattle.net_core.specs.Fire.{State, Effect, idle, effect, enabled, first, has_room, head_at, put_at, among}
use Rattle.net_core.specs.declared.plan.Put.{Put}
use Rattle.net_core.specs.declared.plan.Moves.{Moves}
use Rattle.net_core.specs.declared.plan.Plan.{Plan}
use Rattle.net_core.specs.declared.plan.Takes.{Takes}
use Rattle.net_core.specs.declared.plan.Takes.TheVariants.{None as no_place, One, Two, Three}
use Rattle.net_core.specs.declared.plan.Taken.TheVariants as taken
use Rattle.net_core.specs.declared.state.State.{State as Stored}
use Rattle.net_core.specs.Plans.{places_of, chans_of, IsForkOf, effect_by, apart, admits, taken_of, laid_of, moves_of}
use Rattle.net_core.specs.States.{state_of, dates_of, cell_at, own_at, array_at, IsPlanOf}
use Rattle.net_core.specs.Uses.{is_fork, places_used, used}
use Rattle.net_core.proofs.ForkLemmas.{fork_is, send_inv}
use Rattle.net_core.proofs.PlanUses.{plans_use, fork_act, fork_effect}
use Rattle.lsq_core.specs.Laws.{act_place}
use Rattle.cycle_engine.specs.declared.engine.Engine.{Engine}
use Rattle.cycle_engine.specs.declared.engine.Bounds.{Bounds}
use Rattle.cycle_engine.specs.declared.marks.Marks.{Marks}
use Rattle.cycle_engine.specs.declared.trial.Planned.{Planned}
use Rattle.cycle_engine.specs.Cycles.{Dated, May, Makes, IsRipe, IsUnused, after_in, place_of}
use Rattle.cycle_engine.specs.private.Trials.{dated_of, RipeAt, AllRipe, HadRoom, HasRoomNow, HadDepth, Allowed, IsBegun, IsEngine, IsPlanned}
use Rattle.cycle_engine.specs.private.Goings.{with_marks, with_again, Past, IsReady, InCycle, MayFollow, IsMade}
use Rattle.cycle_engine.specs.private.Marking.{Holds, HasUnit, no_firing, IsMarked, KeepsMarks, IsStarved, IsFullMarked, IsMarkedWhere, IsPutMarked, IsRoused}
use Rattle.cycle_engine.specs.private.Places.{HasSentOrTold, IsOpen, IsNextAct, IsTurnOf, IsTurn, IsTurnEnded, taken_first, laid_there, moves_to, outputs_in}
use Rattle.cycle_engine.specs.Rousing.{Could}
use Rattle.cycle_engine.specs.private.Stacks.{Stacked}
use Rattle.cycle_engine.specs.private.Used.{Fits, IsSendBelow, HasPlace, AreNumbered}
use Rattle.cycle_engine.proofs.MarkLemmas.{holds_last, keeps_then}
use Rattle.cycle_engine.proofs.BeforeLemmas.{may_could}
use Rattle.cycle_engine.proofs.DateLemmas.{effect_there}
use Rattle.cycle_engine.proofs.NoteLemmas.{after_is, effect_in}
use Rattle.cycle_engine.proofs.PlaceLemmas.{numbers_below, starved_none}
use Rattle.cycle_engine.proofs.SwapLemmas.{ripe_kept}
use Rattle.cycle_engine.proofs.ShutLemmas.{none_taken}
use Rattle.cycle_engine.proofs.TurnLemmas.{all_at, turn_on, turn_follows, turn_passed, unit_made, turn_again, pushed_holds}
use Rattle.cycle_engine.proofs.UnitTurnLemmas.{made_marks}
use Rattle.cycle_engine.proofs.UsedLemmas.{may_of, may_parts, effect_place, send_place}

fork_kind : (k : Kind) → is_fork k ≡ true → (w : ℕ) × (outs : ℕ) × (k ≡ Fork w outs)
fork_kind (Fork w outs) e = (w, outs, refl)
fork_kind _ e = cc

fork_plain : (k : Kind) → is_fork k ≡ true → is_lsq k ≡ false
fork_plain k e = ap is_lsq (fork_kind k e).2

-- ---- the outputs of a fork

-- a place of a row is one of the table
in_row : (p w n q : ℕ) (c : Bool) → p ≤ q → q < p + n → InSpots (spots p w c n) q w c
in_row p w zero q c l m = absurd (omega arith)
in_row p w (suc n) q c l m = by (cases_eq q p) (in_row (suc p) w n q c)
  where
    by : (q ≡ p) ⊎ (q ≢ p) → (suc p ≤ q → q < suc p + n → InSpots (spots (suc p) w c n) q w c) → InSpots (spots p w c (suc n)) q w c
    by (inl e) rest = inl (ap (λ x. spot x w c) (sym e))
    by (inr k) rest = inr (rest (omega arith) (omega arith))

-- each has a channel
pub fork_out : (net : Net) (u outs out : ℕ) → IsChecked net → u < length net.units → IsForkOf outs (kind_of net u) → out < outs → out_of u out net.chans < length net.chans
fork_out net u zero out checked l f k = absurd (omega arith)
fork_out net u (suc n) zero checked l f k =
    let P : Kind → Type 0 = λ kind. InSpots (places_out net (passes_control net u) kind) 0 f.width (passes_control net u) in
    checked.once.out_of_each u 0 f.width (passes_control net u) l (subst P (sym f.shape) (inl refl))
fork_out net u (suc n) (suc p) checked l f k =
    let P : Kind → Type 0 = λ kind. InSpots (places_out net (passes_control net u) kind) (suc p) f.width false in
    checked.once.out_of_each u (suc p) f.width false l (subst P (sym f.shape) (inr (in_row 1 f.width n (suc p) false (omega arith) (omega arith))))

-- and so it is in the list that tells them
pub out_listed : (xs : List ℕ) (n p : ℕ) → get_or xs p n < n → p < length xs
out_listed xs n p l = by (cases_lt p (length xs))
  where
    by : (p < length xs) ⊎ (length xs ≤ p) → p < length xs
    by (inl k) = k
    by (inr k) = let e = get_or_past xs p n k in absurd (omega (arith, e, l))

-- ---- what a send plans

-- it takes nothing, or the head at its place 0, and puts at the output
send_plan : (net : Net) (s : Stored) (u out : ℕ) (p : Plan) → is_fork (kind_of net u) ≡ true → IsPlanOf net s (firing u (Send out)) (Some p)
    → (b : Bool) × (places_of p.takes ≡ cond b (0 ∷ []) []) × (v : ℕ) × (p.put ≡ put_at out v)
send_plan net s u out p fork is =
    let k = fork_kind (kind_of net u) fork in
    let i = send_inv k.1 out (get_or (state_of s).own u idle) [] (head_at net (state_of s) u) (effect_by (kind_of net u) (own_at s u) (array_at net s u) p)
    (sym (fork_is net (state_of s) u k.0 k.1 k.2 (state_of s) out) ∙ sym is) in
    (list_all (λ b. b) (set (get_or (state_of s).own u idle).sent out true), ap (λ (x : Effect). x.takes) (sym i.3), i.1, ap (λ (x : Effect). x.put) (sym i.3))

taken_there : (net : Net) (u : ℕ) (t : Takes) (b : Bool) → places_of t ≡ cond b (0 ∷ []) [] → taken_first (into u 0 net.chans) t ≡ taken_of net u t
taken_there net u no_place b e = refl
taken_there net u (One p) true e = let q : p ≡ 0 = cc in ap (λ x. taken.One (into u x net.chans)) (sym q)
taken_there net u (One p) false e = cc
taken_there net u (Two p q) true e = cc
taken_there net u (Two p q) false e = cc
taken_there net u (Three p q r) true e = cc
taken_there net u (Three p q r) false e = cc

pub laid_out : (net : Net) (u out chan v : ℕ) (o : Option Put) → chan ≡ out_of u out net.chans → o ≡ put_at out v → laid_there chan o ≡ laid_of net u o
laid_out net u out chan v None c e = refl
laid_out net u out chan v (Some w) c e =
    let q : w.place ≡ out = cc in
    ap (λ x. Some (record { chan = x; value = w.value })) (c ∙ ap (λ x. out_of u x net.chans) (sym q))

-- the tokens that it moves
send_moves : (net : Net) (s : Stored) (u out chan : ℕ) (p : Plan) → is_fork (kind_of net u) ≡ true → chan ≡ out_of u out net.chans → IsPlanOf net s (firing u (Send out)) (Some p)
    → moves_to (into u 0 net.chans) chan p ≡ moves_of net u p
send_moves net s u out chan p fork there is =
    let w = send_plan net s u out p fork is in
    let a = taken_there net u p.takes w.0 w.1 in
    let b = laid_out net u out chan w.2 p.put there w.3 in
    λ i. record { taken = a i; laid = b i }

-- ---- the head that it uses

either : (b : Bool) → cond b (0 ∷ []) [] ≡ places_of (cond b (One 0) no_place)
either true = refl
either false = refl

fork_used : (net : Net) (s : State) (f : Firing) → is_fork (kind_of net f.unit) ≡ true → (e : Effect) → effect net s f ≡ Some e → used net s f ≡ 0 ∷ []
fork_used net s f fork e is =
    let k = fork_kind (kind_of net f.unit) fork in
    let a = fork_act k.1 f.act (get_or s.own f.unit idle) [] (head_at net s f.unit) e (sym (fork_effect net f.unit k.0 k.1 k.2 s f.act) ∙ is) in
    let i = send_inv k.1 a.0 (get_or s.own f.unit idle) [] (head_at net s f.unit) e a.2 in
    let last : Bool = list_all (λ b. b) (set (get_or s.own f.unit idle).sent a.0 true) in
    plans_use net s f.unit f.act e (cond last (One 0) no_place) is (ap (λ (x : Effect). x.takes) (sym i.3) ∙ either last)
    ∙ ap (λ x. places_used x (cond last (One 0) no_place)) fork

-- what a firing does that could be made
pub could_effect : (net : Net) (c : ℕ) (start s : Dated) (f : Firing) → Could net c start s f → (e : Effect) × (effect net s.state f ≡ Some e)
could_effect net c start s f k = by (effect net s.state f) refl k.acts
  where
    by : (o : Option Effect) → effect net s.state f ≡ o → IsSomeAnd o (λ e. has_room net start.state f.unit e.put) → (e : Effect) × (effect net s.state f ≡ Some e)
    by None is h = absurd h
    by (Some e) is h = (e, is)

-- its place has a number of the net
pub send_number : (net : Net) (base : List ℕ) (n u outs out : ℕ) → u < length net.units → IsForkOf outs (kind_of net u) → out < outs → AreNumbered net base n → get_or base u 0 + suc out < n
send_number net base n u outs out within fork l numbers =
    subst (λ b. cond b u (get_or base u 0 + suc out) < n) (ne_eqb (suc out) 0 (λ e. omega arith)) (numbers.most (firing u (Send out)) (send_place net u outs out within fork l))

-- ---- when a send may be made

-- the head at the place 0 of its unit is ripe
send_ripe : (net : Net) (c : ℕ) (start s : Dated) (f : Firing) → is_fork (kind_of net f.unit) ≡ true → Could net c start s f → IsRipe net c s (into f.unit 0 net.chans)
send_ripe net c start s f fork k =
    let w = could_effect net c start s f k in
    let P : List ℕ → Type 0 = AllByRecursion (λ p. IsRipe net c s (into f.unit p net.chans)) in
    (subst P (fork_used net s.state f fork w.0 w.1) k.ripe).0

-- no head lies past the channels
pub past_unripe : (net : Net) (c : ℕ) (dates : List (List ℕ)) (d : ℕ) → length dates ≡ length net.chans → length net.chans ≤ d → RipeAt net c dates d → ⊥
past_unripe net c dates d e l r = let P : List ℕ → Type 0 = λ xs. IsSomeAnd (first xs) (λ date. date + (chan_at net d).delay ≤ c) in subst P (get_or_past dates d [] (omega arith)) r

fork_depth : (k : Kind) (n : ℕ) (a : Act) → is_fork k ≡ true → HadDepth k n a
fork_depth (Fork w outs) n a e = tt
fork_depth _ n a e = cc

room_there : (net : Net) (e : Engine) (u : ℕ) (o : Option Put) → HasRoomNow net e (laid_of net u o) → has_room net (state_of e.state) u o
room_there net e u None h = tt
room_there net e u (Some w) h = h

there_room : (net : Net) (e : Engine) (u : ℕ) (o : Option Put) → has_room net (state_of e.state) u o → HasRoomNow net e (laid_of net u o)
there_room net e u None h = tt
there_room net e u (Some w) h = h

-- what is asked of a planned send beside its plan: a ripe head, and room
send_allowed : (net : Net) (c : ℕ) (e : Engine) (f : Firing) (p : Plan) → is_fork (kind_of net f.unit) ≡ true → RipeAt net c (dates_of e.state) (into f.unit 0 net.chans)
    → HasRoomNow net e (laid_of net f.unit p.put) × HadRoom e.freed.marked.items (laid_of net f.unit p.put) → Allowed net c e f p
send_allowed net c e f p fork ripe room =
    let P : Bool → Type 0 = λ b. AllRipe net c (dates_of e.state) f.unit (places_used b p.takes) in
    record {
      room = room_there net e f.unit p.put room.0;
      had_room = room.1;
      had_depth = fork_depth (kind_of net f.unit) (get_or e.begun.items f.unit 0) f.act fork;
      ripe = subst P (sym fork) (ripe, tt);
    }

-- a plan of a send to the output at which the channel is, and its moves by that channel
module _ (net : Net) (e : Engine) (u out chan : ℕ) (p : Plan) (pins : Pins) (m : Moves) (fork : is_fork (kind_of net u) ≡ true) (first : pins ≡ pins_of u net.chans) (there : chan ≡ out_of u out net.chans)
    (is : IsPlanOf net e.state (firing u (Send out)) (Some p)) (moves : m ≡ moves_to pins.first chan p) where
  moves_here : m ≡ moves_of net u p
  moves_here = moves ∙ (ap (λ (q : Pins). moves_to q.first chan p) first ∙ send_moves net e.state u out chan p fork there is)

  -- with room it is one that the engine makes
  pub send_planned : apart p.takes ≡ true → admits (cell_at e.state u) p.change ≡ true → HasRoomNow net e m.laid → IsPlanned net e (firing u (Send out)) (record { plan = p; moves = m })
  send_planned a b room = record {
    effect = is;
    moves = moves_here;
    apart = a;
    admits = b;
    room = (let P : Moves → Type 0 = λ x. HasRoomNow net e x.laid in room_there net e u p.put (subst P moves_here room));
  }

  module _ (c : ℕ) (start : Dated) (began : IsBegun net c start e) where
    -- it may be made where its head is ripe and there is room, and was
    pub send_may : RipeAt net c (dates_of e.state) pins.first → HasRoomNow net e m.laid × HadRoom e.freed.marked.items m.laid → May net c start (dated_of e) (firing u (Send out))
    send_may ripe room =
        let R : Pins → Type 0 = λ q. RipeAt net c (dates_of e.state) q.first in
        let P : Moves → Type 0 = λ x. HasRoomNow net e x.laid × HadRoom e.freed.marked.items x.laid in
        may_of net c e start (firing u (Send out)) p is (send_allowed net c e (firing u (Send out)) p fork (subst R first ripe) (subst P moves_here room)) began

    -- and nowhere else
    pub send_asks : May net c start (dated_of e) (firing u (Send out)) → HasRoomNow net e m.laid × HadRoom e.freed.marked.items m.laid
    send_asks may =
        let P : Moves → Type 0 = λ x. HasRoomNow net e x.laid × HadRoom e.freed.marked.items x.laid in
        let a = may_parts net c e start (firing u (Send out)) p is began may in
        subst P (sym moves_here) (there_room net e u p.put a.room, a.had_room)

-- ---- what it took

-- it took the head, where it took a token
took_first : (net : Net) (s : Stored) (u out : ℕ) (p : Plan) (m : Moves) → is_fork (kind_of net u) ≡ true → IsPlanOf net s (firing u (Send out)) (Some p) → m ≡ moves_of net u p
    → (chans_of m.taken ≡ []) ⊎ (chans_of m.taken ≡ into u 0 net.chans ∷ [])
took_first net s u out p m fork is moves =
    let w = send_plan net s u out p fork is in
    let e : chans_of m.taken ≡ chans_of (taken_of net u p.takes) = ap (λ (x : Moves). chans_of x.taken) moves in
    by p.takes w.0 w.1 e
  where
    by : (t : Takes) (b : Bool) → places_of t ≡ cond b (0 ∷ []) [] → chans_of m.taken ≡ chans_of (taken_of net u t) → (chans_of m.taken ≡ []) ⊎ (chans_of m.taken ≡ into u 0 net.chans ∷ [])
    by no_place b q e = inl e
    by (One x) true q e = let z : x ≡ 0 = cc in inr (e ∙ ap (λ y. into u y net.chans ∷ []) z)
    by (One x) false q e = cc
    by (Two x y) true q e = cc
    by (Two x y) false q e = cc
    by (Three x y z) true q e = cc
    by (Three x y z) false q e = cc

-- a test tells whether there is something in a list
pub none_of : (b : Bool) (xs : List ℕ) → b ≡ false → (IsTrue b ↔ xs ≢ []) → xs ≡ []
none_of b [] e h = refl
none_of b (x ∷ xs) e h = absurd (false≢true (sym e ∙ h.1 (λ z. cc)))

pub took_none : (b : Bool) (xs : List ℕ) → xs ≡ [] → (IsTrue b ↔ xs ≢ []) → b ≡ false
took_none true xs e h = absurd (h.0 refl e)
took_none false xs e h = refl

-- a ripe head is ripe still after a send that took nothing
pub ripe_still : (net : Net) (c : ℕ) (old new : Engine) (u out d : ℕ) (p : Planned) → IsEngine net old → IsPlanned net old (firing u (Send out)) p → chans_of p.moves.taken ≡ []
    → dated_of new ≡ after_in net c (dated_of old) (firing u (Send out)) → RipeAt net c (dates_of old.state) d → RipeAt net c (dates_of new.state) d
ripe_still net c old new u out d p engine planned none after ripe =
    let R : Dated → Type 0 = λ s. IsRipe net c s d in
    let x : Effect = effect_in net old (firing u (Send out)) p.plan in
    let e : places_of p.plan.takes ≡ [] = none_taken net u p.plan.takes (sym (ap (λ (m : Moves). chans_of m.taken) planned.moves) ∙ none) in
    subst R (sym (after_is net c old new (firing u (Send out)) p.plan planned.effect after)) (ripe_kept net c (dated_of old) u d x engine.dated (λ l. ap (λ ps. among d (map (λ q. into u q net.chans) ps)) e) ripe)

-- ---- the end of a turn

module _ (net : Net) (past : Past) (b : Bounds) (c : ℕ) (start : Dated) (marks : Marks) (e : Engine) (u : ℕ) (plain : is_lsq (kind_of net u) ≡ false) where
  -- of acts of a unit that is no queue, those that are left to be tried are of later ranks, or the unit is marked
  pub unit_on : (r n s : ℕ) → ((a : Act) → May net c start (dated_of e) (firing u a) → IsOpen r n a → IsMarked e.marks u ⊎ IsOpen s 0 a) → IsTurn net past b c start marks e u r n → IsTurn net past b c start marks e u s 0
  unit_on r n s left t = record { going = t.going; watched = λ g un m. at g m (t.watched g un m); kept = t.kept; of = turn_of }
    where
      at : (g : Firing) → May net c start (dated_of e) g → IsMarked e.marks g.unit ⊎ ((g.unit ≡ u) × IsOpen r n g.act) → IsMarked e.marks g.unit ⊎ ((g.unit ≡ u) × IsOpen s 0 g.act)
      at g m (inl k) = inl k
      at g m (inr k) = by (left g.act (subst M k.0 m) k.1)
        where
          M : ℕ → Type 0
          M v = May net c start (dated_of e) (firing v g.act)

          by : IsMarked e.marks u ⊎ IsOpen s 0 g.act → IsMarked e.marks g.unit ⊎ ((g.unit ≡ u) × IsOpen s 0 g.act)
          by (inl x) = inl (subst (IsMarked e.marks) (sym k.0) x)
          by (inr x) = inr (k.0, x)

      turn_of : IsTurnOf (is_lsq (kind_of net u)) net c marks e u s
      turn_of =
          let P : Bool → Type 0 = λ q. IsTurnOf q net c marks e u r in
          let Q : Bool → Type 0 = λ q. IsTurnOf q net c marks e u s in
          subst Q (sym plain) (subst P plain t.of)

  -- none of its acts could be made
  pub quiet_ended : (r n s : ℕ) → ((a : Act) → Could net c start (dated_of e) (firing u a) → ⊥) → IsTurn net past b c start marks e u r n → IsTurnEnded net past b c start marks e u s
  quiet_ended r n s quiet t = record {
    turn = unit_on r n s (λ a m o. absurd (quiet a (may_could net c start (dated_of e) (firing u a) m))) t;
    own = λ a h k. absurd (quiet a k);
  }

  -- it is marked if it does not want a token
  pub fed_ended : (r n s : ℕ) → ((IsStarved net (state_of e.state) u → ⊥) → IsMarked e.marks u) → IsTurn net past b c start marks e u r n → IsTurnEnded net past b c start marks e u s
  fed_ended r n s fed t = record {
    turn = unit_on r n s (λ a m o. inl (marked a (may_could net c start (dated_of e) (firing u a) m))) t;
    own = λ a h k. inl (marked a k);
  }
    where
      marked : (a : Act) → Could net c start (dated_of e) (firing u a) → IsMarked e.marks u
      marked a k = let w = could_effect net c start (dated_of e) (firing u a) k in fed (λ z. starved_none net (state_of e.state) u a w.0 z w.1)

-- ---- turns of forks

-- a send is the next to be tried after those of the outputs before it
send_next : (net : Net) (s : State) (u out : ℕ) → IsNextAct net s (firing u (Send out)) 2 out
send_next net s u out = record { rank = refl; number = refl; exec = λ z. absurd (omega arith); oldest = tt }

module _ (net : Net) (past : Past) (b : Bounds) (c : ℕ) (start : Dated) (marks : Marks) (e : Engine) (u : ℕ) (fork : is_fork (kind_of net u) ≡ true) where
  -- where its head is not ripe a fork sends nothing
  pub unripe_ended : (RipeAt net c (dates_of e.state) (into u 0 net.chans) → ⊥) → IsTurn net past b c start marks e u 2 0 → IsTurnEnded net past b c start marks e u 3
  unripe_ended unripe t = quiet_ended net past b c start marks e u (fork_plain (kind_of net u) fork) 2 0 3 (λ a k. unripe (send_ripe net c start (dated_of e) (firing u a) fork k)) t

  -- all outputs were tried
  pub sends_done : (n : ℕ) → outputs_in (kind_of net u) ≤ n → IsTurn net past b c start marks e u 2 n → IsTurn net past b c start marks e u 3 0
  sends_done n most t = turn_on net past b c start marks e u 2 n t below
    where
      below : (a : Act) → enabled net (state_of e.state) (firing u a) → act_rank a ≡ 2 → act_number (act_place a) < n
      below a en r = (let k = numbers_below net (state_of e.state) u (Send 0) a (λ l. (let z : true ≡ false = sym l ∙ fork_plain (kind_of net u) fork in cc)) r en in omega arith)

  -- and the fork is to be looked at again
  pub sends_again : (n : ℕ) (s : Stacked ℕ) → outputs_in (kind_of net u) ≤ n → s.items ≡ e.again.items ++ u ∷ [] → IsTurn net past b c start marks e u 2 n → IsTurnEnded net past b c start marks (with_again e s) u 3
  sends_again n s most is t = record {
    turn = turn_again net past b c start marks e s u 3 0 (λ v h. subst (Holds v) (sym is) (pushed_holds e.again.items u v h)) (sends_done n most t);
    own = λ a h k. inr (subst (Holds u) (sym is) (holds_last e.again.items u));
  }

-- ---- what is told of outputs that have fired

-- what a unit that is no queue fired has a place in the net
makes_place : (net : Net) (c : ℕ) (start s : Dated) (fs : List Firing) (t : Dated) (n : ℕ) → Makes net c start s fs t → n < length fs → (get_or fs n no_firing).unit < length net.units → is_lsq (kind_of net (get_or fs n no_firing).unit) ≡ false
    → HasPlace net (get_or fs n no_firing)
makes_place net c start s [] t n m l w plain = absurd (omega arith)
makes_place net c start s (f ∷ fs) t zero m l w plain = let x = effect_there net s.state f m.0.turn in effect_place net s.state f x.0 w (λ q. let z : true ≡ false = sym q ∙ plain in cc) x.1
makes_place net c start s (f ∷ fs) t (suc n) m l w plain = makes_place net c start (after_in net c s f) fs t n m.2 (omega arith) w plain

send_below : (k : Kind) (outs : ℕ) (a : Act) → IsForkOf outs k → Fits k a → (j : ℕ) × (j < outs) × (a ≡ Send j)
send_below k outs a fork fits = by a (let P : Kind → Type 0 = λ x. Fits x a in subst P fork.shape fits)
  where
    by : (x : Act) → IsSendBelow outs x → (j : ℕ) × (j < outs) × (x ≡ Send j)
    by (Send j) h = (j, h, refl)
    by _ h = absurd h

-- where a fork has fired, one of its outputs has
pub fork_sent : (net : Net) (past : Past) (b : Bounds) (c : ℕ) (start : Dated) (e : Engine) (u outs : ℕ) → u < length net.units → IsForkOf outs (kind_of net u) → InCycle net past b c start e → HasUnit u e.fired.items
    → (j : ℕ) × (j < outs) × (IsUnused e.fired.items (firing u (Send j)) → ⊥)
fork_sent net past b c start e u outs within fork going h =
    let g : Firing = get_or e.fired.items h.at no_firing in
    let i : g.unit ≡ u = h.is in
    let place : HasPlace net g = makes_place net c start start e.fired.items (dated_of e) h.at going.makes h.within (omega arith) (ap (λ v. is_lsq (kind_of net v)) i ∙ ap is_lsq fork.shape) in
    let F : ℕ → Type 0 = λ v. IsForkOf outs (kind_of net v) in
    let w = send_below (kind_of net g.unit) outs g.act (subst F (sym i) fork) place.fits in
    let q : g ≡ firing u (Send w.0) = λ k. record { unit = i k; act = w.2 k } in
    (w.0, w.1, λ un. all_at (λ x. place_of x ≢ place_of (firing u (Send w.0))) e.fired.items h.at h.within un (ap place_of q))

-- so a fork that has fired is told, where nothing was fired and all its outputs were tried
pub sent_told : (net : Net) (past : Past) (b : Bounds) (c : ℕ) (start : Dated) (first e : Engine) (u outs n : ℕ) → u < length net.units → IsForkOf outs (kind_of net u) → InCycle net past b c start e → outs ≤ n → HasSentOrTold net first e u n
    → length e.fired.items ≤ length first.fired.items → HasUnit u e.fired.items → Holds u e.again.items
sent_told net past b c start first e u outs n within fork going most told few h = by told.told
  where
    by : (length first.fired.items < length e.fired.items) ⊎ ((e.fired.items ≡ first.fired.items) × ((j : ℕ) → j < n → (IsUnused e.fired.items (firing u (Send j)) → ⊥) → Holds u e.again.items)) → Holds u e.again.items
    by (inl l) = absurd (omega arith)
    by (inr k) = let w = fork_sent net past b c start e u outs within fork going h in let l = w.1 in k.1 w.0 (omega arith) w.2

-- an output that has fired is told
pub told_used : (net : Net) (first e : Engine) (s : Stacked ℕ) (u n : ℕ) → s.items ≡ e.again.items ++ u ∷ [] → HasSentOrTold net first e u n → HasSentOrTold net first (with_again e s) u (n + 1)
told_used net first e s u n is told = record { fired = told.fired; told = by told.told }
  where
    by : (length first.fired.items < length e.fired.items) ⊎ ((e.fired.items ≡ first.fired.items) × ((j : ℕ) → j < n → (IsUnused e.fired.items (firing u (Send j)) → ⊥) → Holds u e.again.items))
        → (length first.fired.items < length e.fired.items) ⊎ ((e.fired.items ≡ first.fired.items) × ((j : ℕ) → j < n + 1 → (IsUnused e.fired.items (firing u (Send j)) → ⊥) → Holds u s.items))
    by (inl l) = inl l
    by (inr k) = inr (k.0, λ j l h. subst (Holds u) (sym is) (holds_last e.again.items u))

-- one that has not need not be
pub told_unused : (net : Net) (first e : Engine) (u n : ℕ) → IsUnused e.fired.items (firing u (Send n)) → HasSentOrTold net first e u n → HasSentOrTold net first e u (n + 1)
told_unused net first e u n un told = record { fired = told.fired; told = by told.told }
  where
    by : (length first.fired.items < length e.fired.items) ⊎ ((e.fired.items ≡ first.fired.items) × ((j : ℕ) → j < n → (IsUnused e.fired.items (firing u (Send j)) → ⊥) → Holds u e.again.items))
        → (length first.fired.items < length e.fired.items) ⊎ ((e.fired.items ≡ first.fired.items) × ((j : ℕ) → j < n + 1 → (IsUnused e.fired.items (firing u (Send j)) → ⊥) → Holds u e.again.items))
    by (inl l) = inl l
    by (inr k) = inr (k.0, λ j l h. at j l h (cases_lt j n))
      where
        at : (j : ℕ) → j < n + 1 → (IsUnused e.fired.items (firing u (Send j)) → ⊥) → (j < n) ⊎ (n ≤ j) → Holds u e.again.items
        at j l h (inl m) = k.1 j m h
        at j l h (inr m) =
            let z : n ≡ j = omega arith in
            let U : ℕ → Type 0 = λ i. IsUnused e.fired.items (firing u (Send i)) in
            absurd (h (subst U z un))

-- a send was made
pub told_sent : (net : Net) (first old new : Engine) (f : Firing) (u n : ℕ) → new.fired.items ≡ old.fired.items ++ f ∷ [] → HasSentOrTold net first old u n → HasSentOrTold net first new u (n + 1)
told_sent net first old new f u n is told =
    let a = told.fired in
    let m = ap length is in
    let k = length-append old.fired.items (f ∷ []) in
    record { fired = omega arith; told = inl (omega arith) }

-- ---- what was marked after a send

pub put_still : (net : Net) (s : State) (o : Option Laid) (n : ℕ) (old new : Marks) → KeepsMarks old new → IsPutMarked net s o n old → IsPutMarked net s o n new
put_still net s None n old new kept h = tt
put_still net s (Some w) n old new kept h = λ z k d l. kept.kept (chan_at net w.chan).to.unit (h z k d l)

-- the units that a send may let fire, where it took nothing
roused_put : (net : Net) (s t : State) (u : ℕ) (m : Moves) (n : ℕ) (marks : Marks) → chans_of m.taken ≡ [] → IsPutMarked net t m.laid n marks → IsRoused net s t u m n marks
roused_put net s t u m n marks none target = record {
  own = λ f some. absurd (some none);
  merges = λ f. (let P : List ℕ → Type 0 = AllByRecursion (IsFullMarked net s n marks) in subst P (sym none) tt);
  target = target;
}

-- and where it took the head
roused_took : (net : Net) (s t : State) (u : ℕ) (m : Moves) (n : ℕ) (old new : Marks) → (chans_of m.taken ≡ []) ⊎ (chans_of m.taken ≡ into u 0 net.chans ∷ []) → KeepsMarks old new → IsPutMarked net t m.laid n old
    → ((IsStarved net t u → ⊥) → u < n → IsMarked new u) → IsFullMarked net s n new (into u 0 net.chans) → IsRoused net s t u m n new
roused_took net s t u m n old new took kept target own merge = record { own = λ f some. own; merges = λ f. by took; target = put_still net t m.laid n old new kept target }
  where
    P : List ℕ → Type 0
    P = AllByRecursion (IsFullMarked net s n new)

    by : (chans_of m.taken ≡ []) ⊎ (chans_of m.taken ≡ into u 0 net.chans ∷ []) → P (chans_of m.taken)
    by (inl z) = subst P (sym z) tt
    by (inr z) = subst P (sym z) (merge, tt)

-- a send is tried in its turn
module _ (net : Net) (past : Past) (b : Bounds) (c : ℕ) (start : Dated) (marks : Marks) (old : Engine) (u out : ℕ) (t : IsTurn net past b c start marks old u 2 out) where
  pub send_follows : MayFollow net old (firing u (Send out))
  send_follows = turn_follows net past b c start marks old (firing u (Send out)) 2 out t (send_next net (state_of old.state) u out)

  -- it may not be made
  pub send_left : (IsUnused old.fired.items (firing u (Send out)) → May net c start (dated_of old) (firing u (Send out)) → ⊥) → IsTurn net past b c start marks old u 2 (out + 1)
  send_left refused = turn_passed net past b c start marks old (firing u (Send out)) 2 out t (send_next net (state_of old.state) u out) old refl refused

  -- its place has fired, and its fork is to be looked at again
  pub send_used : (s : Stacked ℕ) → s.items ≡ old.again.items ++ u ∷ [] → (IsUnused old.fired.items (firing u (Send out)) → ⊥) → IsTurn net past b c start marks (with_again old s) u 2 (out + 1)
  send_used s is used = turn_again net past b c start marks old s u 2 (out + 1) (λ v h. subst (Holds v) (sym is) (pushed_holds old.again.items u v h)) (send_left (λ un m. used un))

  -- it was made, and units were marked
  module _ (mid : Engine) (made : IsMade net past b c start old mid (firing u (Send out))) (p : Planned) (planned : IsPlanned net old (firing u (Send out)) p) (checked : IsChecked net) (ready : IsReady net b old) (fork : is_fork (kind_of net u) ≡ true)
      (again : mid.again ≡ old.again) (put : IsMarkedWhere true net (state_of mid.state) p.moves.laid old.marks mid.marks) where
    send_made : (new : Engine) → IsMade net past b c start old new (firing u (Send out)) → new.again ≡ old.again → KeepsMarks old.marks new.marks
        → IsRoused net (state_of old.state) (state_of new.state) u p.moves (length old.marks.marked.items) new.marks → IsTurn net past b c start marks new u 2 (out + 1)
    send_made new k same kept roused =
        let R : Moves → Type 0 = λ m. IsRoused net (state_of old.state) (state_of new.state) u m (length old.marks.marked.items) new.marks in
        let H : (v : ℕ) → Holds v old.again.items → Holds v new.again.items = λ v h. (let P : Stacked ℕ → Type 0 = λ x. Holds v x.items in subst P (sym same) h) in
        unit_made net past b c start marks old (firing u (Send out)) 2 out t (send_next net (state_of old.state) u out) new k checked ready.engine (fork_plain (kind_of net u) fork) p.plan planned.effect kept ready.marked H (subst R planned.moves roused)

    -- it took nothing
    pub send_put : chans_of p.moves.taken ≡ [] → IsTurn net past b c start marks mid u 2 (out + 1)
    send_put none = send_made mid made again put.0 (roused_put net (state_of old.state) (state_of mid.state) u p.moves (length old.marks.marked.items) mid.marks none put.1)

    -- it took the head
    pub send_took : (m : Marks) → KeepsMarks mid.marks m → u < length net.units → ((IsStarved net (state_of mid.state) u → ⊥) → u < length mid.marks.marked.items → IsMarked m u)
        → IsFullMarked net (state_of old.state) (length mid.marks.marked.items) m (into u 0 net.chans) → IsTurnEnded net past b c start marks (with_marks mid m) u 3
    send_took m kept within own merge =
        let n : length mid.marks.marked.items ≡ length old.marks.marked.items = put.0.long in
        let z = ready.marked in
        let F : ℕ → Type 0 = λ x. IsFullMarked net (state_of old.state) x m (into u 0 net.chans) in
        let mine : (IsStarved net (state_of mid.state) u → ⊥) → IsMarked m u = λ fed. own fed (omega arith) in
        let roused = roused_took net (state_of old.state) (state_of mid.state) u p.moves (length old.marks.marked.items) mid.marks m (took_first net old.state u out p.plan p.moves fork planned.effect planned.moves) kept put.1 (λ fed l. mine fed) (subst F n merge) in
        fed_ended net past b c start marks (with_marks mid m) u (fork_plain (kind_of net u) fork) 2 (out + 1) 3 mine
        (send_made (with_marks mid m) (made_marks net past b c start old mid (firing u (Send out)) m made) again (keeps_then old.marks mid.marks m put.0 kept) roused)
