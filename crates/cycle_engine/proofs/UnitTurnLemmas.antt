-- Turns of units that are no queues: what a try of the act of a unit that has one told, and whole turns.
use Rattle.std.proofs.Common.{◌≡◌, ◌≢◌, ◌∙◌, ℕ, ◌+◌, ◌<◌, inr, true, false, List, [], ◌∷◌, ◌++◌, length, get_or, refl, sym, ap, subst, Result, MatchResult, Ok, Err}
use Rattle.std.specs.List.{AllByRecursion}
use Rattle.net_types.specs.declared.net.Net.{Net}
use Rattle.net_types.specs.declared.net.Unit.{Unit as Kind}
use Rattle.net_types.specs.declared.firing.Act.{Act}
use Rattle.net_types.specs.declared.firing.Act.TheVariants.{Go}
use Rattle.net_types.specs.declared.firing.Firing.{Firing}
use Rattle.net_types.specs.Nets.{kind_of, firing}
use Rattle.net_types.specs.Order.{act_rank}
use Rattle.net_check.specs.Checks.{IsChecked}
use Rattle.net_check.specs.Ends.{is_lsq}
use Rattle.net_core.specs.Fire.{State, effect, enabled, has_room}
use Rattle.lsq_core.specs.Laws.{act_place}
use Rattle.net_core.specs.declared.plan.Moves.{Moves}
use Rattle.net_core.specs.States.{state_of}
use Rattle.net_core.specs.Uses.{is_fork}
use Rattle.cycle_engine.specs.declared.engine.Engine.{Engine}
use Rattle.cycle_engine.specs.declared.engine.Bounds.{Bounds}
use Rattle.cycle_engine.specs.declared.marks.Marks.{Marks}
use Rattle.cycle_engine.specs.declared.trial.Planned.{Planned}
use Rattle.cycle_engine.specs.Cycles.{Dated, May, Makes, IsUnused, AreDated, place_of, after_in, after_by}
use Rattle.cycle_engine.specs.private.Stacks.{Stacked}
use Rattle.cycle_engine.specs.private.Used.{goes}
use Rattle.cycle_engine.specs.private.Goings.{with_marks, with_again, Past, InCycle, IsReady, IsMade, IsBegunIn, IsBroken}
use Rattle.cycle_engine.specs.private.Marking.{Holds, HasUnit, no_firing, IsStarved, IsMarkedWhere, IsRoused}
use Rattle.cycle_engine.specs.private.Places.{IsNextAct, IsTurn, IsTurnEnded, IsTurnMade, IsOpenTurn, first_of}
use Rattle.cycle_engine.specs.private.Trials.{IsPlanned, dated_of}
use Rattle.cycle_engine.proofs.MarkLemmas.{holds_last}
use Rattle.cycle_engine.proofs.PlaceLemmas.{fires_within, first_rank, go_is, starved_none}
use Rattle.cycle_engine.proofs.BeforeLemmas.{after_of}
use Rattle.cycle_engine.proofs.DateLemmas.{dated_after, effect_there, some_effect}
use Rattle.cycle_engine.proofs.TurnLemmas.{all_at, pushed_holds, turn_passed, turn_again, unit_made, turn_on, going_marks, open_unit, unit_done, going_dated}
use Rattle.cycle_engine.specs.declared.broken.Broken.{Broken}
use Rattle.cycle_engine.proofs.GoLemmas.{roused_by, goes_plain, go_next, go_below}

-- ---- what was made

-- what holds of each firing that is enabled holds of those of a cycle
pub made_each : (net : Net) (P : Firing → Type 0) → ((s : State) (f : Firing) → length s.tokens ≡ length net.chans → enabled net s f → P f) → (c : ℕ) (start s : Dated) (fs : List Firing) (t : Dated) → Makes net c start s fs t → AreDated net s → AllByRecursion P fs
made_each net P each c start s [] t m k = tt
made_each net P each c start s (f ∷ fs) t m k =
    let w = effect_there net s.state f m.0.turn in
    let q : after_in net c s f ≡ after_of net c s f.unit w.0 = ap (after_by net c s f.unit) w.1 in
    let D : Dated → Type 0 = AreDated net in
    (each s.state f k.chans m.0.turn, made_each net P each c start (after_in net c s f) fs t m.2 (subst D (sym q) (dated_after net c s f.unit w.0 k)))

-- a unit that has fired is one of the net
pub fired_within : (net : Net) (past : Past) (b : Bounds) (c : ℕ) (start : Dated) (e : Engine) (u : ℕ) → IsChecked net → InCycle net past b c start e → HasUnit u e.fired.items → u < length net.units
fired_within net past b c start e u checked g h =
    let w = all_at (λ x. x.unit < length net.units) e.fired.items h.at h.within (made_each net (λ x. x.unit < length net.units) (λ s f l n. fires_within net s f checked l n) c start start e.fired.items (dated_of e) g.makes (going_dated net past b c start e g)) in
    let P : ℕ → Type 0 = λ v. v < length net.units in
    subst P h.is w

-- a unit that has one place has not fired where that has not
pub go_unfired : (net : Net) (past : Past) (b : Bounds) (c : ℕ) (start : Dated) (e : Engine) (u : ℕ) → goes (kind_of net u) ≡ true → InCycle net past b c start e → IsUnused e.fired.items (firing u Go) → HasUnit u e.fired.items → ⊥
go_unfired net past b c start e u q g un h =
    all_at (λ x. place_of x ≢ place_of (firing u Go)) e.fired.items h.at h.within un (λ i. record { unit = h.is i; act = act i })
  where
    IsFirst : Firing → Type 0
    IsFirst x = is_lsq (kind_of net x.unit) ≡ false → act_rank x.act ≡ act_rank (first_of (kind_of net x.unit))

    first : IsFirst (get_or e.fired.items h.at no_firing)
    first = all_at IsFirst e.fired.items h.at h.within (made_each net IsFirst (λ s f l n k. first_rank net s f.unit f.act k n) c start start e.fired.items (dated_of e) g.makes (going_dated net past b c start e g))

    act : act_place (get_or e.fired.items h.at no_firing).act ≡ Go
    act =
        let k = goes_plain (kind_of net u) q in
        go_is (get_or e.fired.items h.at no_firing).act (first (ap (λ v. is_lsq (kind_of net v)) h.is ∙ k.0) ∙ (ap (λ v. act_rank (first_of (kind_of net v))) h.is ∙ ap act_rank k.2))

-- ---- a planned firing was made

pub made_marks : (net : Net) (past : Past) (b : Bounds) (c : ℕ) (start : Dated) (old e : Engine) (f : Firing) (m : Marks) → IsMade net past b c start old e f → IsMade net past b c start old (with_marks e m) f
made_marks net past b c start old e f m k = record { may = k.may; after = k.after; fired = k.fired; going = going_marks net past b c start e m k.going }

-- by a unit that is no queue and no fork
pub straight_made : (net : Net) (past : Past) (b : Bounds) (c : ℕ) (start : Dated) (marks : Marks) (old : Engine) (f : Firing) (r n : ℕ) (t : IsTurn net past b c start marks old f.unit r n) (next : IsNextAct net (state_of old.state) f r n) (new : Engine)
    → IsMade net past b c start old new f → (p : Planned) → IsPlanned net old f p → IsChecked net → IsReady net b old → is_lsq (kind_of net f.unit) ≡ false → new.again ≡ old.again → is_fork (kind_of net f.unit) ≡ false
    → IsMarkedWhere true net (state_of new.state) p.moves.laid old.marks new.marks → IsTurn net past b c start marks new f.unit r (n + 1)
straight_made net past b c start marks old f r n t next new made p planned checked ready l again k told =
    let R : Moves → Type 0 = λ x. IsRoused net (state_of old.state) (state_of new.state) f.unit x (length old.marks.marked.items) new.marks in
    unit_made net past b c start marks old f r n t next new made checked ready.engine l p.plan planned.effect told.0 ready.marked
    (λ v h. (let A : Stacked ℕ → Type 0 = λ x. Holds v x.items in subst A (sym again) h))
    (subst R planned.moves (roused_by net (state_of old.state) (state_of new.state) f.unit p.moves (length old.marks.marked.items) new.marks k told.1))

-- ---- turns

module _ (net : Net) (past : Past) (b : Bounds) (c : ℕ) (start : Dated) (marks : Marks) (old : Engine) where
  -- the act of a unit that has one was tried, and so were all of its rank
  pub go_on : (new : Engine) (u : ℕ) → IsTurn net past b c start marks new u 0 1 → IsTurn net past b c start marks new u 1 0
  go_on new u t = turn_on net past b c start marks new u 0 1 t (λ a n r. go_below a r)

  -- it may not be made, and has not fired
  pub go_passed : (u : ℕ) → goes (kind_of net u) ≡ true → IsUnused old.fired.items (firing u Go) → (May net c start (dated_of old) (firing u Go) → ⊥) → IsTurn net past b c start marks old u 0 0 → IsTurnEnded net past b c start marks old u 1
  go_passed u q un refused t = record {
    turn = go_on old u (turn_passed net past b c start marks old (firing u Go) 0 0 t (go_next net (state_of old.state) u) old refl (λ un m. refused m));
    own = λ a h k. absurd (go_unfired net past b c start old u q t.going un h);
  }

  -- its unit is to be looked at again
  pub go_again : (new : Engine) (u : ℕ) (s : Stacked ℕ) → s.items ≡ new.again.items ++ u ∷ [] → IsTurn net past b c start marks new u 1 0 → IsTurnEnded net past b c start marks (with_again new s) u 1
  go_again new u s pushed t = record {
    turn = turn_again net past b c start marks new s u 1 0 (λ v h. (let P : List ℕ → Type 0 = Holds v in subst P (sym pushed) (pushed_holds new.again.items u v h))) t;
    own = λ a h k. inr (let P : List ℕ → Type 0 = Holds u in subst P (sym pushed) (holds_last new.again.items u));
  }

  -- its place has fired
  pub go_used : (u : ℕ) (s : Stacked ℕ) → s.items ≡ old.again.items ++ u ∷ [] → (IsUnused old.fired.items (firing u Go) → ⊥) → IsTurn net past b c start marks old u 0 0 → IsTurnEnded net past b c start marks (with_again old s) u 1
  go_used u s pushed used t =
      go_again old u s pushed (go_on old u (turn_passed net past b c start marks old (firing u Go) 0 0 t (go_next net (state_of old.state) u) old refl (λ un m. used un)))

  -- the unit wants a token
  pub go_starved : (new : Engine) (u : ℕ) → IsStarved net (state_of new.state) u → IsTurn net past b c start marks new u 1 0 → IsTurnEnded net past b c start marks new u 1
  go_starved new u starved t = record {
    turn = t;
    own = λ a h k. (let x = some_effect (effect net (state_of new.state) (firing u a)) (λ x. has_room net start.state u x.put) k.acts in absurd (starved_none net (state_of new.state) u a x.0 starved x.1));
  }

module _ (net : Net) (past : Past) (b : Bounds) (c : ℕ) (start : Dated) (old : Engine) (u : ℕ) where
  -- all acts of a unit that is no queue were tried
  pub unit_turn : (new : Engine) (kind : Act) (T : Type 0) (r : Result T Broken) (Q : Broken → Type 0) → is_lsq (kind_of net u) ≡ false → kind ≡ first_of (kind_of net u) → IsOpenTurn net past b c start old u
      → (IsTurn net past b c start old.marks old u (act_rank kind) 0 → MatchResult r (λ _. IsTurnEnded net past b c start old.marks new u (act_rank kind + 1)) Q) → MatchResult r (λ _. IsBegunIn net past b c start new) Q
  unit_turn new kind T (Ok v) Q l is t h = unit_done net past b c start old.marks new u kind l is (h (open_unit net past b c start old u kind l is t))
  unit_turn new kind T (Err e) Q l is t h = h (open_unit net past b c start old u kind l is t)

  -- so it is by what a turn of its first acts told
  pub turn_begun : (new : Engine) (k : Kind) {T : Type 0} (r : Result T Broken) → k ≡ kind_of net u → is_lsq k ≡ false → IsOpenTurn net past b c start old u → IsTurnMade net b c u (act_rank (first_of k)) (act_rank (first_of k) + 1) old new r
      → MatchResult r (λ _. IsBegunIn net past b c start new) (IsBroken net past.inputs b)
  turn_begun new k {T} r is l t made = unit_turn new (first_of k) T r (IsBroken net past.inputs b) (ap is_lsq (sym is) ∙ l) (ap first_of is) t (made.tried past start old.marks)
