-- Control merges: what they plan and move, where they find their token, and their turns.
use Rattle.std.proofs.Common.{◌≡◌, ℕ, ◌<◌, ◌≤◌, ◌+◌, ◌⊎◌, inl, inr, true, false, nat_lt, Option, Some, None, List, [], ◌∷◌, ◌++◌, length, get_or, refl, sym, ap, subst, ◌∙◌, arith, IsSomeAnd}
use Rattle.std.specs.List.{AllByRecursion}
use Rattle.net_types.specs.declared.net.Net.{Net}
use Rattle.net_types.specs.declared.net.Unit.{Unit as Kind}
use Rattle.net_types.specs.declared.net.Unit.TheVariants.{Cmerge}
use Rattle.net_types.specs.declared.firing.Act.{Act}
use Rattle.net_types.specs.declared.firing.Act.TheVariants.{From}
use Rattle.net_types.specs.Nets.{into, out_of, kind_of, uses, chan_at, firing}
use Rattle.net_types.specs.Order.{act_rank, act_number}
use Rattle.net_check.specs.declared.pins.Pins.{Pins}
use Rattle.net_check.specs.Checks.{IsChecked}
use Rattle.net_check.specs.Ends.{is_lsq}
use Rattle.net_check.specs.Pins.{pins_of}
use Rattle.net_core.specs.Fire.{State, Effect, Take, Fires, effect_of, with_head, row, idle, at_array, setting, effect, enabled, has_room, first, head_at, tokens_at, put_at}
use Rattle.net_core.specs.declared.plan.Put.{Put}
use Rattle.net_core.specs.declared.plan.Moves.{Moves}
use Rattle.net_core.specs.declared.plan.Plan.{Plan}
use Rattle.net_core.specs.declared.plan.Takes.{Takes}
use Rattle.net_core.specs.declared.plan.Takes.TheVariants.{None as no_place, One, Two, Three}
use Rattle.net_core.specs.declared.plan.Taken.TheVariants as taken
use Rattle.net_core.specs.declared.state.State.{State as Stored}
use Rattle.net_core.specs.Plans.{places_of, effect_by, taken_of, laid_of, moves_of}
use Rattle.net_core.specs.States.{state_of, dates_of, own_at, array_at, IsPlanOf}
use Rattle.net_core.specs.Uses.{is_fork, places_used, used}
use Rattle.net_core.proofs.ActLemmas.{merge_inv}
use Rattle.net_core.proofs.ApartLemmas.{into-at, is_at-inv}
use Rattle.net_core.proofs.GoesLemmas.{goes}
use Rattle.net_core.proofs.PlanUses.{plans_use}
use Rattle.net_core.proofs.ForkLemmas.{when_inv}
use Rattle.lsq_core.specs.Laws.{act_place}
use Rattle.cycle_engine.specs.declared.engine.Engine.{Engine}
use Rattle.cycle_engine.specs.declared.engine.Bounds.{Bounds}
use Rattle.cycle_engine.specs.declared.marks.Marks.{Marks}
use Rattle.cycle_engine.specs.declared.trial.Planned.{Planned}
use Rattle.cycle_engine.specs.Cycles.{Dated, May, IsRipe, IsUnused, after_in}
use Rattle.cycle_engine.specs.Rousing.{Could, GoesTo, Stirs}
use Rattle.cycle_engine.specs.private.Stacks.{Stacked}
use Rattle.cycle_engine.specs.private.Control.{control_places_in, GoesIntoNone}
use Rattle.cycle_engine.specs.private.Trials.{dated_of, RipeAt, IsPlanned}
use Rattle.cycle_engine.specs.private.Goings.{with_again, Past, IsReady, InCycle, MayFollow, IsMade}
use Rattle.cycle_engine.specs.private.Marking.{Holds, IsMarked, IsMarkedWhere, IsPutMarked, IsRoused}
use Rattle.cycle_engine.specs.private.Places.{IsOpen, IsNextAct, IsTurn, IsTurnEnded, taken_first, moves_to}
use Rattle.cycle_engine.proofs.MarkLemmas.{holds_last}
use Rattle.cycle_engine.proofs.ControlLemmas.{control_held}
use Rattle.cycle_engine.proofs.NoteLemmas.{effect_in}
use Rattle.cycle_engine.proofs.OwnLemmas.{own_rouses}
use Rattle.cycle_engine.proofs.RousingLemmas.{slots_within}
use Rattle.cycle_engine.proofs.SendLemmas.{could_effect, laid_out, unit_on, quiet_ended}
use Rattle.cycle_engine.proofs.TurnLemmas.{going_regular, turn_to, turn_on, turn_follows, turn_passed, unit_made, turn_again, pushed_holds}

-- ---- what a control merge plans

merge_straight : (k : Kind) (ins : ℕ) → k ≡ Cmerge ins → is_fork k ≡ false
merge_straight k ins e = ap is_fork e

merge_plain : (k : Kind) (ins : ℕ) → k ≡ Cmerge ins → is_lsq k ≡ false
merge_plain k ins e = ap is_lsq e

-- it takes the head at the input, and puts at its output
from_does : (net : Net) (s : State) (u ins j : ℕ) (e : Effect) → kind_of net u ≡ Cmerge ins → effect net s (firing u (From j)) ≡ Some e → (e.takes ≡ j ∷ []) × (e.put ≡ put_at 0 j)
unfolding row
from_does net s u ins j e is q =
    by (head_at net s u j)
    (when_inv (nat_lt j ins) (Take j (λ v. Fires (put_at 0 j) (get_or s.own u idle) [] 0)) (head_at net s u) e
    (sym (ap (λ k. effect_of (row k (From j) (get_or s.own u idle) (at_array s.arrays (uses k)) (setting net s)) (head_at net s u)) is) ∙ q)).1
  where
    by : (o : Option ℕ) → with_head o (λ v. Some (record { takes = j ∷ []; put = put_at 0 j; own = get_or s.own u idle; array = []; strays = 0 })) ≡ Some e → (e.takes ≡ j ∷ []) × (e.put ≡ put_at 0 j)
    by None q = cc
    by (Some v) q =
        let k : record { takes = j ∷ []; put = put_at 0 j; own = get_or s.own u idle; array = []; strays = 0 } ≡ e = cc in
        (ap (λ (x : Effect). x.takes) (sym k), ap (λ (x : Effect). x.put) (sym k))

taken_at_input : (net : Net) (u j chan : ℕ) (t : Takes) → chan ≡ into u j net.chans → places_of t ≡ j ∷ [] → taken_first chan t ≡ taken_of net u t
taken_at_input net u j chan no_place c e = cc
taken_at_input net u j chan (One p) c e = let q : p ≡ j = cc in ap taken.One (c ∙ ap (λ x. into u x net.chans) (sym q))
taken_at_input net u j chan (Two p q) c e = cc
taken_at_input net u j chan (Three p q r) c e = cc

-- a plan of it, and its moves by the channel into the input
module _ (net : Net) (s : Stored) (u ins j chan : ℕ) (p : Plan) (pins : Pins) (m : Moves) (kind : kind_of net u ≡ Cmerge ins) (there : chan ≡ into u j net.chans) (are : pins ≡ pins_of u net.chans)
    (is : IsPlanOf net s (firing u (From j)) (Some p)) (moves : m ≡ moves_to chan pins.out p) where
  pub from_moves : m ≡ moves_of net u p
  from_moves =
      let w = from_does net (state_of s) u ins j (effect_by (kind_of net u) (own_at s u) (array_at net s u) p) kind (sym is) in
      let a = taken_at_input net u j chan p.takes there w.0 in
      let o : pins.out ≡ out_of u 0 net.chans = ap (λ (q : Pins). q.out) are in
      let d = laid_out net u 0 pins.out j p.put o w.1 in
      moves ∙ (λ i. record { taken = a i; laid = d i })

-- ---- where it finds its token

-- an act of a control merge takes the token on the noted channel, which goes into its input
record TakesNoted (net : Net) (e : Engine) (u ins : ℕ) (a : Act) : Type 0 where
  pub input : ℕ
  pub act : a ≡ From input
  pub within : input < ins
  pub chan : into u input net.chans ≡ e.control
  pub there : into u input net.chans < length net.chans
  pub value : ℕ
  pub head : first (tokens_at (state_of e.state) e.control) ≡ Some value

module _ (net : Net) (past : Past) (b : Bounds) (c : ℕ) (start : Dated) (e : Engine) (u ins : ℕ) (kind : kind_of net u ≡ Cmerge ins) (checked : IsChecked net) (going : InCycle net past b c start e) where
  noted_by : (a : Act) (x : Effect) → effect net (state_of e.state) (firing u a) ≡ Some x → TakesNoted net e u ins a
  noted_by a x is =
      let m = merge_inv net (state_of e.state) u ins a kind x is in
      let l = m.2 in
      let n : control_places_in (kind_of net u) ≡ ins = ap control_places_in kind in
      let k : m.0 < control_places_in (kind_of net u) = omega arith in
      let held = control_held net (state_of e.state) u m.0 m.3 checked (going_regular net past b c start e checked going) k m.4 in
      let z : into u m.0 net.chans ≡ e.control = going.control u m.0 m.3 k m.4 in
      record { input = m.0; act = m.1; within = m.2; chan = z; there = held.0.within; value = m.3; head = ap (λ d. first (tokens_at (state_of e.state) d)) (sym z) ∙ m.4 }

  noted_could : (a : Act) → Could net c start (dated_of e) (firing u a) → TakesNoted net e u ins a
  noted_could a k = let w = could_effect net c start (dated_of e) (firing u a) k in noted_by a w.0 w.1

  -- that token is ripe
  noted_ripe : (a : Act) → Could net c start (dated_of e) (firing u a) → RipeAt net c (dates_of e.state) e.control
  noted_ripe a k =
      let w = could_effect net c start (dated_of e) (firing u a) k in
      let t = noted_by a w.0 w.1 in
      let E : Act → Type 0 = λ y. effect net (state_of e.state) (firing u y) ≡ Some w.0 in
      let d = from_does net (state_of e.state) u ins t.input w.0 kind (subst E t.act w.1) in
      let q : used net (state_of e.state) (firing u a) ≡ t.input ∷ [] = plans_use net (state_of e.state) u a w.0 (One t.input) w.1 d.0 ∙ ap (λ y. places_used y (One t.input)) (merge_straight (kind_of net u) ins kind) in
      let P : List ℕ → Type 0 = AllByRecursion (λ p. IsRipe net c (dated_of e) (into u p net.chans)) in
      let R : ℕ → Type 0 = RipeAt net c (dates_of e.state) in
      subst R t.chan (subst P q k.ripe).0

  -- its input is the one into which the noted channel goes
  noted_input : (a : Act) (j : ℕ) → e.control ≡ into u j net.chans → TakesNoted net e u ins a → a ≡ From j
  noted_input a j there t =
      let z : into u t.input net.chans ≡ into u j net.chans = t.chan ∙ there in
      let l : into u j net.chans < length net.chans = (let y = t.there in omega arith) in
      let x = (is_at-inv (chan_at net (into u t.input net.chans)).to u t.input (into-at u t.input net.chans t.there)).1 in
      let y = (is_at-inv (chan_at net (into u j net.chans)).to u j (into-at u j net.chans l)).1 in
      let i : t.input ≡ j = sym x ∙ (ap (λ d. (chan_at net d).to.place) z ∙ y) in
      t.act ∙ ap From i

  -- ---- turns in which it does nothing
  module _ (marks : Marks) where
    -- the noted channel goes into none of its inputs
    pub none_ended : GoesIntoNone net e.control u ins → IsTurn net past b c start marks e u 1 0 → IsTurnEnded net past b c start marks e u 2
    none_ended none t = quiet_ended net past b c start marks e u (merge_plain (kind_of net u) ins kind) 1 0 2 (λ a k. (let n = noted_could a k in none n.input n.within n.there n.chan)) t

    -- its token is not ripe
    pub unripe_from : (RipeAt net c (dates_of e.state) e.control → ⊥) → IsTurn net past b c start marks e u 1 0 → IsTurnEnded net past b c start marks e u 2
    unripe_from unripe t = quiet_ended net past b c start marks e u (merge_plain (kind_of net u) ins kind) 1 0 2 (λ a k. unripe (noted_ripe a k)) t

    -- no token is there
    pub headless_ended : first (tokens_at (state_of e.state) e.control) ≡ None → IsTurn net past b c start marks e u 2 0 → IsTurnEnded net past b c start marks e u 2
    headless_ended none t = quiet_ended net past b c start marks e u (merge_plain (kind_of net u) ins kind) 2 0 2 (λ a k. (let n = noted_could a k in let z : Some n.value ≡ None = sym n.head ∙ none in cc)) t

    -- ---- its one place
    module _ (j : ℕ) (there : e.control ≡ into u j net.chans) where
      -- of the acts of its rank that alone is enabled
      only : (a : Act) → enabled net (state_of e.state) (firing u a) → a ≡ From j
      only a n = let g = goes net (state_of e.state) (firing u a) n in noted_input a j there (noted_by a g.0 g.1.is)

      pub from_open : IsTurn net past b c start marks e u 1 0 → IsTurn net past b c start marks e u 1 j
      from_open t = turn_to net past b c start marks e u 1 0 j t (λ a n r. inr (let z = ap (λ x. act_number (act_place x)) (only a n) in omega arith))

      pub from_next : IsNextAct net (state_of e.state) (firing u (From j)) 1 j
      from_next = record { rank = refl; number = refl; exec = λ z. absurd (omega arith); oldest = tt }

      pub from_follows : IsTurn net past b c start marks e u 1 0 → MayFollow net e (firing u (From j))
      from_follows t = turn_follows net past b c start marks e (firing u (From j)) 1 j (from_open t) from_next

      -- it has fired, or may not be made
      pub from_passed : (IsUnused e.fired.items (firing u (From j)) → May net c start (dated_of e) (firing u (From j)) → ⊥) → IsTurn net past b c start marks e u 1 0 → IsTurn net past b c start marks e u 2 0
      from_passed refused t =
          turn_on net past b c start marks e u 1 (j + 1) (turn_passed net past b c start marks e (firing u (From j)) 1 j (from_open t) from_next e refl refused)
          (λ a n r. (let z = ap (λ x. act_number (act_place x)) (only a n) in omega arith))

      -- it was made
      module _ (new : Engine) (made : IsMade net past b c start e new (firing u (From j))) (p : Planned) (planned : IsPlanned net e (firing u (From j)) p) (ready : IsReady net b e) (again : new.again ≡ e.again)
          (put : IsMarkedWhere true net (state_of new.state) p.moves.laid e.marks new.marks) (within : u < length net.units) where
        f_effect : Effect
        f_effect = effect_in net e (firing u (From j)) p.plan

        straight : is_fork (kind_of net u) ≡ false
        straight = merge_straight (kind_of net u) ins kind

        target : IsPutMarked net (state_of new.state) (laid_of net u p.plan.put) (length e.marks.marked.items) new.marks
        target = (let P : Moves → Type 0 = λ m. IsPutMarked net (state_of new.state) m.laid (length e.marks.marked.items) new.marks in subst P planned.moves put.1)

        roused : IsRoused net (state_of e.state) (state_of new.state) u (moves_of net u p.plan) (length e.marks.marked.items) new.marks
        roused = record { own = λ k. (let z : true ≡ false = sym k ∙ straight in cc); merges = λ k. (let z : true ≡ false = sym k ∙ straight in cc); target = target }

        -- the merge is marked where it put into itself at once
        goes_own : (o : Option Put) → has_room net (state_of e.state) u o → IsPutMarked net (state_of new.state) (laid_of net u o) (length e.marks.marked.items) new.marks
            → IsSomeAnd o (λ w. ((chan_at net (out_of u w.place net.chans)).delay ≡ 0) × ((chan_at net (out_of u w.place net.chans)).to.unit ≡ u)) → IsMarked new.marks u
        goes_own None r k i = absurd i
        goes_own (Some w) r k i =
            let d : ℕ = out_of u w.place net.chans in
            let l : d < length net.chans = slots_within net.chans d (length (tokens_at (state_of e.state) d)) r in
            let n = ready.marked in
            let z = i.1 in
            let q : kind_of net (chan_at net d).to.unit ≡ Cmerge ins = ap (kind_of net) i.1 ∙ kind in
            let fed : Rattle.cycle_engine.specs.private.Marking.IsLacking net (state_of new.state) d → ⊥ = λ h. lacks (kind_of net (chan_at net d).to.unit) q h in
            subst (IsMarked new.marks) i.1 (k i.0 fed l (omega arith))
          where
            lacks : (x : Kind) → x ≡ Cmerge ins → IsSomeAnd (Rattle.cycle_engine.specs.private.Marking.partner_place x (chan_at net (out_of u w.place net.chans)).to.place)
                (λ y. head_at net (state_of new.state) (chan_at net (out_of u w.place net.chans)).to.unit y ≡ None) → ⊥
            lacks x is h =
                let P : Kind → Type 0 = λ v. IsSomeAnd (Rattle.cycle_engine.specs.private.Marking.partner_place v (chan_at net (out_of u w.place net.chans)).to.place) (λ y. head_at net (state_of new.state) (chan_at net (out_of u w.place net.chans)).to.unit y ≡ None) in
                subst P is h

        room : has_room net (state_of e.state) u p.plan.put
        room = planned.room

        left : (a : Act) → May net c start (dated_of new) (firing u a) → (j + 1 ≤ act_number (act_place a)) → IsMarked new.marks u
        unfolding f_effect
        left a m l = by (own_rouses net c start (dated_of e) u (From j) a f_effect ready.engine.dated (sym planned.effect) (λ z. (let y = ap act_number z in omega arith)) after)
          where
            after : May net c start (after_in net c (dated_of e) (firing u (From j))) (firing u a)
            after = (let P : Dated → Type 0 = λ x. May net c start x (firing u a) in subst P made.after m)

            by : May net c start (dated_of e) (firing u a) ⊎ (Stirs (kind_of net u) f_effect ⊎ GoesTo net u f_effect u) → IsMarked new.marks u
            by (inl mo) = let z = ap (λ x. act_number (act_place x)) (only a mo.turn) in absurd (omega arith)
            by (inr (inl h)) = let P : Kind → Type 0 = λ x. Stirs x f_effect in absurd (subst P kind h)
            by (inr (inr k)) = goes_own p.plan.put room target k

        pub from_made : IsTurn net past b c start marks e u 1 0 → IsTurn net past b c start marks new u 2 0
        from_made t =
            unit_on net past b c start marks new u (merge_plain (kind_of net u) ins kind) 1 (j + 1) 2 at
            (unit_made net past b c start marks e (firing u (From j)) 1 j (from_open t) from_next new made checked ready.engine (merge_plain (kind_of net u) ins kind) p.plan planned.effect put.0 ready.marked
            (λ v h. (let P : Stacked ℕ → Type 0 = λ x. Holds v x.items in subst P (sym again) h)) roused)
          where
            at : (a : Act) → May net c start (dated_of new) (firing u a) → IsOpen 1 (j + 1) a → IsMarked new.marks u ⊎ IsOpen 2 0 a
            at a m (inl l) =
                let g = goes net (state_of new.state) (firing u a) m.turn in
                let i = merge_inv net (state_of new.state) u ins a kind g.0 g.1.is in
                let z = ap act_rank i.1 in
                absurd (omega arith)
            at a m (inr k) = inl (left a m k.1)

-- it is to be looked at again
pub from_again : (net : Net) (past : Past) (b : Bounds) (c : ℕ) (start : Dated) (marks : Marks) (e : Engine) (s : Stacked ℕ) (u : ℕ) → s.items ≡ e.again.items ++ u ∷ [] → IsTurn net past b c start marks e u 2 0
    → IsTurnEnded net past b c start marks (with_again e s) u 2
from_again net past b c start marks e s u is t = record {
  turn = turn_again net past b c start marks e s u 2 0 (λ v h. subst (Holds v) (sym is) (pushed_holds e.again.items u v h)) t;
  own = λ a h k. inr (subst (Holds u) (sym is) (holds_last e.again.items u));
}
