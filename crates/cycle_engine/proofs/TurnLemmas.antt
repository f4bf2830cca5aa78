-- Turns of units and queues in a cycle.
use Rattle.std.proofs.Common.{◌≡◌, ◌≢◌, ℕ, suc, zero, ◌+◌, ◌<◌, ◌≤◌, ◌⊎◌, inl, inr, Bool, true, false, Option, Some, None, List, [], ◌∷◌, ◌++◌, length, length-append, length-set, map, get_or, refl, sym, ap, subst, ◌∙◌, arith, Result, IsErrAnd, MatchResult, IsSomeAnd}
use Rattle.std.proofs.lemmas.Result.{err_from_is_err_and}
use Rattle.cycle_engine.specs.declared.broken.Broken.{Broken}
use Rattle.std.specs.List.{AllByRecursion}
use Rattle.std.proofs.lemmas.Bool.{cases_lt, cases_eq}
use Rattle.std.proofs.lemmas.List.{get_or_append_left}
use Rattle.net_types.specs.declared.net.Chan.{Chan}
use Rattle.net_types.specs.declared.net.Net.{Net}
use Rattle.net_types.specs.declared.net.Unit.{Unit as Kind}
use Rattle.net_types.specs.declared.net.Unit.TheVariants.{Fork, Cmerge, Lsq}
use Rattle.net_types.specs.declared.firing.Act.{Act}
use Rattle.net_types.specs.declared.firing.Act.TheVariants.{Go, From, Send, Alloc, Addr, Data, Exec, Reply, Retire, End}
use Rattle.net_types.specs.declared.firing.Firing.{Firing}
use Rattle.net_types.specs.declared.firing.Inputs.{Inputs}
use Rattle.net_types.specs.Nets.{kind_of, uses, firing, into, out_of, chan_at}
use Rattle.net_types.specs.Order.{act_rank, act_number}
use Rattle.net_check.specs.Checks.{IsChecked}
use Rattle.net_check.specs.Ends.{is_lsq}
use Rattle.net_core.specs.Fire.{State, Own, Effect, Setting, effect_of, idle, effect, enabled, has_room, row, setting, head_at, at_array, after, after_effect, tokens_at, takes_from}
use Rattle.net_core.specs.Plans.{places_of, chans_of, taken_of, laid_of, moves_of}
use Rattle.net_core.specs.declared.plan.Put.{Put}
use Rattle.net_core.specs.declared.plan.Takes.{Takes}
use Rattle.net_core.specs.declared.plan.Takes.TheVariants.{None as no_place, One, Two, Three}
use Rattle.net_core.specs.declared.plan.Plan.{Plan}
use Rattle.net_core.specs.States.{state_of, dates_of, IsPlanOf}
use Rattle.net_core.proofs.ApartLemmas.{is_at-inv, out_of-at}
use Rattle.net_core.proofs.CheckedLemmas.{premises_of}
use Rattle.net_core.proofs.QueueActLemmas.{queue_inv, lsq_is, queue_effect}
use Rattle.net_core.proofs.RegularLemmas.{IsRegular, regular_kept, regular_opening}
use Rattle.cycle_engine.specs.declared.engine.Engine.{Engine}
use Rattle.cycle_engine.specs.declared.engine.Bounds.{Bounds}
use Rattle.cycle_engine.specs.declared.marks.Marks.{Marks}
use Rattle.lsq_core.specs.Laws.{act_place, phase}
use Rattle.cycle_engine.specs.Cycles.{Dated, dated_opening, IsRipe, HasDepth, May, Makes, place_of, IsUnused, Cycles, after_in, after_by, AreDated}
use Rattle.cycle_engine.specs.Rousing.{Could, GoesTo, ComesFrom, Stirs}
use Rattle.cycle_engine.specs.private.Trials.{dated_of, IsEngine, IsFollowed}
use Rattle.cycle_engine.specs.private.Marking.{Holds, HasUnit, no_firing, IsMarked, IsListed, KeepsMarks, IsRoused, IsTaken, IsPutOff, IsEmptied, HasTurn, IsFullMarked, IsPutMarked, is_merge}
use Rattle.cycle_engine.specs.private.Stacks.{Stacked}
use Rattle.net_core.specs.Uses.{is_fork}
use Rattle.cycle_engine.specs.private.Goings.{Past, IsReady, InCycle, MayFollow, IsMade, AllPlain, IsNotedUnit, IsKeptBut, IsBegunIn, with_marks, with_again}
use Rattle.cycle_engine.specs.private.Places.{IsOpen, IsNextAct, AllocsOnce, IsQueueTurn, QueuesKept, IsTurnOf, IsTurn, IsTurnEnded, IsOpenTurn, IsSettled, first_of}
use Rattle.cycle_engine.proofs.BeforeLemmas.{after_of, IsLate, before, may_could}
use Rattle.cycle_engine.proofs.RousingLemmas.{slots_within, late_or}
use Rattle.cycle_engine.proofs.FeedLemmas.{lacking_quiet}
use Rattle.cycle_engine.proofs.OwnLemmas.{own_rouses}
use Rattle.cycle_engine.proofs.DateLemmas.{AllBy, each_as, makes_dates, some_effect, effect_there}
use Rattle.cycle_engine.proofs.MakeLemmas.{all_snoc, takes_within}
use Rattle.cycle_engine.proofs.StartLemmas.{opening_are}
use Rattle.cycle_engine.proofs.MarkLemmas.{holds_more, put_off_kept, put_off_own}
use Rattle.cycle_engine.proofs.NoteLemmas.{effect_in, taken_all}
use Rattle.cycle_engine.proofs.PlaceLemmas.{same_act, exec_is, place_rank, place_fixed, first_rank, fires_within, starved_quiet}
use Rattle.cycle_engine.proofs.UsedLemmas.{unused_last, unused_before}
use Rattle.cycle_engine.proofs.ShutLemmas.{none_taken}
use Rattle.cycle_engine.proofs.QueueTurnLemmas.{laws, queue_used, queue_late, merge_kind, one_token, allocs_more, queue_rouses, unit_rouses}

-- ---- what holds along cycles

pub makes_regular : (net : Net) (c : ℕ) (start s : Dated) (fs : List Firing) (t : Dated) → IsChecked net → Makes net c start s fs t → IsRegular net s.state → IsRegular net t.state
makes_regular net c start s [] t checked m good = let P : Dated → Type 0 = λ x. IsRegular net x.state in subst P m good
makes_regular net c start s (f ∷ fs) t checked m good =
    let w = effect_there net s.state f m.0.turn in
    let e : (after_in net c s f).state ≡ after net s.state f = ap (λ (x : Dated). x.state) (ap (after_by net c s f.unit) w.1) ∙ sym (ap (after_effect net s.state f.unit) w.1) in
    let P : State → Type 0 = λ x. IsRegular net x in
    makes_regular net c start (after_in net c s f) fs t checked m.2 (subst P (sym e) (regular_kept net (premises_of net laws checked) s.state f good m.0.turn))

pub cycles_regular : (net : Net) (c : ℕ) (s : Dated) (fss : List (List Firing)) (t : Dated) → IsChecked net → Cycles net c s fss t → IsRegular net s.state → IsRegular net t.state
cycles_regular net c s [] t checked y good = let P : Dated → Type 0 = λ x. IsRegular net x.state in subst P y good
cycles_regular net c s (fs ∷ fss) t checked y good = cycles_regular net (suc c) y.0 fss t checked y.2 (makes_regular net c s s fs y.0 checked y.1.makes good)

pub cycles_dated : (net : Net) (c : ℕ) (s : Dated) (fss : List (List Firing)) (t : Dated) → Cycles net c s fss t → AreDated net s → AllBy c s → AreDated net t
cycles_dated net c s [] t y k h = let P : Dated → Type 0 = λ x. AreDated net x in subst P y k
cycles_dated net c s (fs ∷ fss) t y k h =
    let w = makes_dates net c s s fs y.0 y.1.makes k h in
    cycles_dated net (suc c) y.0 fss t y.2 w.0 (λ d. each_as (λ x. x ≤ c) (λ x. x ≤ suc c) (λ x z. omega arith) (get_or y.0.dates d []) (w.1 d))

pub cycles_by : (net : Net) (c : ℕ) (s : Dated) (fss : List (List Firing)) (t : Dated) (n : ℕ) → n ≡ c + length fss → Cycles net c s fss t → AreDated net s → AllBy c s → AllBy n t
cycles_by net c s [] t n e y k h d = let P : Dated → Type 0 = λ x. AllByRecursion (λ y. y ≤ n) (get_or x.dates d []) in subst P y (each_as (λ x. x ≤ c) (λ x. x ≤ n) (λ x z. omega arith) (get_or s.dates d []) (h d))
cycles_by net c s (fs ∷ fss) t n e y k h d =
    let w = makes_dates net c s s fs y.0 y.1.makes k h in
    cycles_by net (suc c) y.0 fss t n (omega arith) y.2 w.0 (λ i. each_as (λ x. x ≤ c) (λ x. x ≤ suc c) (λ x z. omega arith) (get_or y.0.dates i []) (w.1 i)) d

abbrev no_list : List ℕ
no_list = []

lists_none : (cs : List Chan) (d : ℕ) → get_or (map (λ (c : Chan). no_list) cs) d no_list ≡ no_list
lists_none [] d = refl
lists_none (c ∷ cs) zero = refl
lists_none (c ∷ cs) (suc d) = lists_none cs d

pub no_dates : (net : Net) (inputs : Inputs) (d : ℕ) → get_or (dated_opening net inputs).dates d [] ≡ []
no_dates net inputs d = lists_none net.chans d

pub opening_by : (net : Net) (inputs : Inputs) (c : ℕ) → AllBy c (dated_opening net inputs)
opening_by net inputs c d = let P : List ℕ → Type 0 = AllByRecursion (λ x. x ≤ c) in subst P (sym (no_dates net inputs d)) tt

pub going_regular : (net : Net) (past : Past) (b : Bounds) (c : ℕ) (start : Dated) (e : Engine) → IsChecked net → InCycle net past b c start e → IsRegular net (state_of e.state)
going_regular net past b c start e checked g =
    makes_regular net c start start e.fired.items (dated_of e) checked g.makes
    (cycles_regular net 0 (dated_opening net past.inputs) past.cycles start checked g.done (regular_opening net past.inputs (premises_of net laws checked)))

pub going_dated : (net : Net) (past : Past) (b : Bounds) (c : ℕ) (start : Dated) (e : Engine) → InCycle net past b c start e → AreDated net start
going_dated net past b c start e g = cycles_dated net 0 (dated_opening net past.inputs) past.cycles start g.done (opening_are net past.inputs) (opening_by net past.inputs 0)

pub going_dated_now : (net : Net) (past : Past) (b : Bounds) (c : ℕ) (start : Dated) (e : Engine) → InCycle net past b c start e → AreDated net (dated_of e)
going_dated_now net past b c start e g = (makes_dates net c start start e.fired.items (dated_of e) g.makes (going_dated net past b c start e g) (cycles_by net 0 (dated_opening net past.inputs) past.cycles start c (let n = g.number in omega arith) g.done (opening_are net past.inputs) (opening_by net past.inputs 0))).0

-- ---- phases

plain_phase : (k : Kind) (a : Act) (o : Own) (xs : List ℕ) (ss : Setting) (h : ℕ → Option ℕ) (e : Effect) → is_lsq k ≡ false → effect_of (row k a o xs ss) h ≡ Some e → phase a ≡ 0
unfolding row
plain_phase (Lsq n d ps gs fw) a o xs ss h e l q = cc
plain_phase k Go o xs ss h e l q = refl
plain_phase k (From j) o xs ss h e l q = refl
plain_phase k (Send j) o xs ss h e l q = refl
plain_phase k (Alloc j) o xs ss h e l q = refl
plain_phase _ _ o xs ss h e l q = cc

fires_plain : (net : Net) (s : State) (f : Firing) → is_lsq (kind_of net f.unit) ≡ false → enabled net s f → phase f.act ≡ 0
fires_plain net s f l n =
    let w = effect_there net s f n in
    plain_phase (kind_of net f.unit) f.act (get_or s.own f.unit idle) (at_array s.arrays (uses (kind_of net f.unit))) (setting net s) (head_at net s f.unit) w.0 l w.1

phase_low : (b : Act) → (act_rank b ≤ phase b + 4) × (4 ≤ act_rank b → 1 ≤ phase b)
phase_low Go = (omega arith, λ l. absurd (omega arith))
phase_low (From j) = (omega arith, λ l. absurd (omega arith))
phase_low (Send j) = (omega arith, λ l. absurd (omega arith))
phase_low (Alloc j) = (omega arith, λ l. absurd (omega arith))
phase_low _ = (omega arith, λ l. omega arith)

phase_high : (a : Act) → (phase a ≡ 0) ⊎ (((phase a ≡ 1) × (4 ≤ act_rank a)) ⊎ (phase a + 4 ≡ act_rank a))
phase_high (Addr j) = inr (inl (refl, omega arith))
phase_high (Data j) = inr (inl (refl, omega arith))
phase_high (Exec j) = inr (inr refl)
phase_high (Reply j) = inr (inr refl)
phase_high Retire = inr (inr refl)
phase_high End = inr (inr refl)
phase_high _ = inl refl

phase_rises : (a b : Act) → act_rank a ≤ act_rank b → phase a ≤ phase b
phase_rises a b l = by (phase_high a) (phase_low b)
  where
    by : (phase a ≡ 0) ⊎ (((phase a ≡ 1) × (4 ≤ act_rank a)) ⊎ (phase a + 4 ≡ act_rank a)) → (act_rank b ≤ phase b + 4) × (4 ≤ act_rank b → 1 ≤ phase b) → phase a ≤ phase b
    by (inl z) w = omega arith
    by (inr (inl z)) w = let e = z.0 in let m = z.1 in let k = w.1 (omega arith) in omega arith
    by (inr (inr z)) w = let m = w.0 in omega arith

-- ---- units and acts

pub each_order : (fs : List Firing) (P : Firing → Type 0) (Q : Firing → Type 0) → ((g : Firing) → P g → Q g) → AllByRecursion P fs → AllByRecursion Q fs
each_order [] P Q h a = tt
each_order (g ∷ fs) P Q h a = (h g a.0, each_order fs P Q h a.1)

pub all_at : (P : Firing → Type 0) (fs : List Firing) (k : ℕ) → k < length fs → AllByRecursion P fs → P (get_or fs k no_firing)
all_at P [] k l h = absurd (omega arith)
all_at P (g ∷ fs) zero l h = h.0
all_at P (g ∷ fs) (suc k) l h = all_at P fs k (omega arith) h.1

-- a unit that has fired did so before the last firing, or that is its
pub has_before : (fs : List Firing) (f : Firing) (v : ℕ) → v ≢ f.unit → HasUnit v (fs ++ f ∷ []) → HasUnit v fs
has_before fs f v ne h = by (cases_lt h.at (length fs)) (cases_eq h.at (length fs))
  where
    by : (h.at < length fs) ⊎ (length fs ≤ h.at) → (h.at ≡ length fs) ⊎ (h.at ≢ length fs) → HasUnit v fs
    by (inl l) e = record { at = h.at; within = l; is = ap (λ (x : Firing). x.unit) (sym (get_or_append_left fs (f ∷ []) no_firing h.at l)) ∙ h.is }
    by (inr l) (inl e) = absurd (ne (sym h.is ∙ ap (λ (x : Firing). x.unit) (ap (λ k. get_or (fs ++ f ∷ []) k no_firing) e ∙ get_last fs)))
      where
        get_last : (gs : List Firing) → get_or (gs ++ f ∷ []) (length gs) no_firing ≡ f
        get_last [] = refl
        get_last (g ∷ gs) = get_last gs
    by (inr l) (inr e) = (let n = length-append fs (f ∷ []) in let w = h.within in absurd (e (omega arith)))

pub pushed_holds : (xs : List ℕ) (x v : ℕ) → Holds v xs → Holds v (xs ++ x ∷ [])
pushed_holds xs x v h = holds_more xs (x ∷ []) v h

-- a unit stays marked or to be looked at again
noted_kept : (old new : Engine) (v : ℕ) → (IsMarked old.marks v → IsMarked new.marks v) → (Holds v old.again.items → Holds v new.again.items) → IsNotedUnit old v → IsNotedUnit new v
noted_kept old new v marks again (inl k) = inl (marks k)
noted_kept old new v marks again (inr k) = inr (again k)

-- ---- the next place

-- whether an act is still to be tried
open_or : (r n : ℕ) (a : Act) → IsOpen r n a ⊎ (IsOpen r n a → ⊥)
open_or r n a = by (cases_lt r (act_rank a)) (cases_eq r (act_rank a)) (cases_lt (act_number (act_place a)) n)
  where
    by : (r < act_rank a) ⊎ (act_rank a ≤ r) → (r ≡ act_rank a) ⊎ (r ≢ act_rank a) → (act_number (act_place a) < n) ⊎ (n ≤ act_number (act_place a)) → IsOpen r n a ⊎ (IsOpen r n a → ⊥)
    by (inl l) e m = inl (inl l)
    by (inr l) (inr e) m = inr (λ z. shut z)
      where
        shut : IsOpen r n a → ⊥
        shut (inl k) = omega arith
        shut (inr k) = e k.0
    by (inr l) (inl e) (inr m) = inl (inr (e, m))
    by (inr l) (inl e) (inl m) = inr (λ z. shut z)
      where
        shut : IsOpen r n a → ⊥
        shut (inl k) = omega arith
        shut (inr k) = let j = k.1 in omega arith

-- what is not to be tried any more after the act of the number n, but was before, is that act
open_next : (r n : ℕ) (a : Act) → IsOpen r n a → IsOpen r (n + 1) a ⊎ ((act_rank a ≡ r) × (act_number (act_place a) ≡ n))
open_next r n a (inl l) = inl (inl l)
open_next r n a (inr k) = by (cases_lt n (act_number (act_place a)))
  where
    by : (n < act_number (act_place a)) ⊎ (act_number (act_place a) ≤ n) → IsOpen r (n + 1) a ⊎ ((act_rank a ≡ r) × (act_number (act_place a) ≡ n))
    by (inl l) = inl (inr (k.0, omega arith))
    by (inr l) = let m = k.1 in inr (sym k.0, omega arith)

closed_rank : (r n : ℕ) (a : Act) → (IsOpen r n a → ⊥) → act_rank a ≤ r
closed_rank r n a h = by (cases_lt r (act_rank a))
  where
    by : (r < act_rank a) ⊎ (act_rank a ≤ r) → act_rank a ≤ r
    by (inl l) = absurd (h (inl l))
    by (inr l) = l

-- acts of one rank and number are at one place
same_place : (net : Net) (s : State) (f g : Firing) (r n : ℕ) → IsNextAct net s f r n → g.unit ≡ f.unit → act_rank g.act ≡ r → act_number (act_place g.act) ≡ n → place_of g ≡ place_of f
same_place net s f g r n next u k l =
    let z : act_place g.act ≡ act_place f.act = same_act (act_place g.act) (act_place f.act) (place_rank g.act ∙ (k ∙ (sym next.rank ∙ sym (place_rank f.act)))) (l ∙ sym next.number) in
    λ i. record { unit = u i; act = z i }

exec_kind : (k : Kind) (j : ℕ) (o : Own) (xs : List ℕ) (ss : Setting) (h : ℕ → Option ℕ) (e : Effect) → effect_of (row k (Exec j) o xs ss) h ≡ Some e → Rattle.net_core.proofs.ActLemmas.IsLsq k
unfolding row
exec_kind (Lsq a d ps gs fw) j o xs ss h e q = record { array = a; depth = d; ports = ps; groups = gs; mark = fw; is = refl }
exec_kind _ j o xs ss h e q = cc

-- an execution that is enabled may be made in each cycle
exec_may : (net : Net) (c : ℕ) (start s : Dated) (u j : ℕ) → enabled net s.state (firing u (Exec j)) → May net c start s (firing u (Exec j))
exec_may net c start s u j n =
    let w = effect_there net s.state (firing u (Exec j)) n in
    let k = exec_kind (kind_of net u) j (get_or s.state.own u idle) (at_array s.state.arrays (uses (kind_of net u))) (setting net s.state) (head_at net s.state u) w.0 w.1 in
    let i = queue_inv k.depth k.ports k.groups (Exec j) (get_or s.state.own u idle) (get_or s.state.arrays k.array []) (head_at net s.state u) w.0 (sym (lsq_is net u k.array k.depth k.ports k.groups k.mark k.is s.state (Exec j)) ∙ w.1) in
    let R : List ℕ → Type 0 = λ qs. AllByRecursion (λ p. IsRipe net c s (Rattle.net_types.specs.Nets.into u p net.chans)) qs in
    let S : Option Effect → Type 0 = λ o. IsSomeAnd o (λ y. has_room net start.state u y.put) in
    let D : Kind → Type 0 = λ y. HasDepth y (get_or start.state.own u idle) (Exec j) in
    let none : has_room net start.state u (queue_effect k.ports k.groups (Exec j) (get_or s.state.own u idle) (get_or s.state.arrays k.array []) i.0).put = tt in
    record {
      turn = n;
      ripe = subst R (sym (queue_used net u k.array k.depth k.ports k.groups k.mark k.is s.state (Exec j) i.0 i.1 i.2)) tt;
      room = subst S (sym (w.1 ∙ ap Some (sym i.3))) none;
      depth = subst D (sym k.is) tt;
    }

-- the place of an execution that is enabled has fired, where the execution may not be made
refused_exec : (net : Net) (c : ℕ) (start s : Dated) (fs : List Firing) (f g : Firing) → act_rank f.act ≡ 6 → enabled net s.state f → (IsUnused fs f → May net c start s f → ⊥) → place_of g ≡ place_of f → IsUnused fs g → ⊥
refused_exec net c start s fs f g r n refused e un =
    let unf : IsUnused fs f = each_order fs (λ h. place_of h ≢ place_of g) (λ h. place_of h ≢ place_of f) (λ h y z. y (z ∙ sym e)) un in
    let a : f.act ≡ Exec (act_number f.act) = exec_is f.act r in
    let P : Act → Type 0 = λ x. May net c start s (firing f.unit x) in
    let N : Act → Type 0 = λ x. enabled net s.state (firing f.unit x) in
    refused unf (subst P (sym a) (exec_may net c start s f.unit (act_number f.act) (subst N a n)))

-- no firing at the place may be made, where that one may not be made
refused_at : (net : Net) (c : ℕ) (start s : Dated) (fs : List Firing) (f g : Firing) (r n : ℕ) → IsNextAct net s.state f r n → (IsUnused fs f → May net c start s f → ⊥) → place_of g ≡ place_of f → IsUnused fs g → May net c start s g → ⊥
refused_at net c start s fs f g r n next refused e un m = by (cases_eq r 6)
  where
    by : (r ≡ 6) ⊎ (r ≢ 6) → ⊥
    by (inl z) = refused_exec net c start s fs f g (next.rank ∙ z) (next.exec z) refused e un
    by (inr z) =
        let p : act_place g.act ≡ act_place f.act = ap (λ (x : Firing). x.act) e in
        let a : act_place f.act ≡ f.act = place_fixed f.act (λ y. z (sym next.rank ∙ y)) in
        let b : act_place g.act ≡ g.act = place_fixed g.act (λ y. z (sym next.rank ∙ (sym (place_rank f.act) ∙ (ap act_rank (sym p) ∙ (place_rank g.act ∙ y))))) in
        let k : g.act ≡ f.act = sym b ∙ (p ∙ a) in
        let q : g ≡ f = λ i. record { unit = ap (λ (x : Firing). x.unit) e i; act = k i } in
        let P : Firing → Type 0 = λ x. IsUnused fs x in
        let Q : Firing → Type 0 = λ x. May net c start s x in
        refused (subst P q un) (subst Q q m)

-- ---- what a firing of a unit that is no queue stirs and takes

-- it stirs another place of the unit only where it is of a fork, and takes the head
stirs_fork : (k : Kind) (e : Effect) → is_lsq k ≡ false → Stirs k e → (is_fork k ≡ true) × (e.takes ≢ [])
stirs_fork (Fork w outs) e l h = (refl, h)
stirs_fork (Lsq a d ps gs fw) e l h = cc
stirs_fork _ e l h = absurd h

-- what holds of the channels from which is taken, by its places
taken_each : (net : Net) (u : ℕ) (P : ℕ → Type 0) (t : Takes) → AllByRecursion P (chans_of (taken_of net u t)) → AllByRecursion (λ q. P (into u q net.chans)) (places_of t)
taken_each net u P no_place h = h
taken_each net u P (One p) h = h
taken_each net u P (Two p q) h = h
taken_each net u P (Three p q x) h = h

-- ---- one place more

module _ (net : Net) (past : Past) (b : Bounds) (c : ℕ) (start : Dated) (marks : Marks) (old : Engine) (f : Firing) (r n : ℕ) (t : IsTurn net past b c start marks old f.unit r n) (next : IsNextAct net (state_of old.state) f r n) where
  -- it may follow
  pub turn_follows : MayFollow net old f
  turn_follows = record { order = by (is_lsq (kind_of net f.unit)) t.of; oldest = next.oldest }
    where
      by : (q : Bool) → IsTurnOf q net c marks old f.unit r → AllByRecursion (λ g. g.unit ≡ f.unit → phase g.act ≤ phase f.act) old.fired.items
      by true o = each_order old.fired.items (λ g. g.unit ≡ f.unit → act_rank g.act ≤ r) (λ g. g.unit ≡ f.unit → phase g.act ≤ phase f.act) (λ g h e. phase_rises g.act f.act (let x = h e in let y = next.rank in omega arith)) o.behind
      by false o = each_order old.fired.items (λ g. (is_lsq (kind_of net g.unit) ≡ false) × (phase g.act ≡ 0)) (λ g. g.unit ≡ f.unit → phase g.act ≤ phase f.act) (λ g h e. (let y = h.1 in omega arith)) o

  -- it may not be made, or its place has fired
  pub turn_passed : (new : Engine) → new ≡ old → (IsUnused old.fired.items f → May net c start (dated_of old) f → ⊥) → IsTurn net past b c start marks new f.unit r (n + 1)
  turn_passed new same refused =
      let P : Engine → Type 0 = λ e. IsTurn net past b c start marks e f.unit r (n + 1) in
      subst P (sym same) (record { going = t.going; watched = λ g un m. at g un m (t.watched g un m); kept = t.kept; of = t.of })
    where
      at : (g : Firing) → IsUnused old.fired.items g → May net c start (dated_of old) g → IsMarked old.marks g.unit ⊎ ((g.unit ≡ f.unit) × IsOpen r n g.act) → IsMarked old.marks g.unit ⊎ ((g.unit ≡ f.unit) × IsOpen r (n + 1) g.act)
      at g un m (inl k) = inl k
      at g un m (inr k) = by (open_next r n g.act k.1)
        where
          by : IsOpen r (n + 1) g.act ⊎ ((act_rank g.act ≡ r) × (act_number (act_place g.act) ≡ n)) → IsMarked old.marks g.unit ⊎ ((g.unit ≡ f.unit) × IsOpen r (n + 1) g.act)
          by (inl o) = inr (k.0, o)
          by (inr w) = absurd (refused_at net c start (dated_of old) old.fired.items f g r n next refused (same_place net (state_of old.state) f g r n next k.0 w.0 w.1) un m)

  module _ (new : Engine) (made : IsMade net past b c start old new f) where
    unused : (g : Firing) → IsUnused new.fired.items g → IsUnused old.fired.items g
    unused g un = let P : List Firing → Type 0 = λ fs. IsUnused fs g in unused_before old.fired.items f g (subst P made.fired un)

    apart : (g : Firing) → IsUnused new.fired.items g → place_of g ≡ place_of f → ⊥
    apart g un e = let P : List Firing → Type 0 = λ fs. IsUnused fs g in unused_last old.fired.items f g (subst P made.fired un) (sym e)

    -- what could be made before, and was to be tried
    before_on : (g : Firing) → IsUnused new.fired.items g → ((v : ℕ) → IsMarked old.marks v → IsMarked new.marks v) → May net c start (dated_of old) g → IsMarked new.marks g.unit ⊎ ((g.unit ≡ f.unit) × IsOpen r (n + 1) g.act)
    before_on g un kept m = by (t.watched g (unused g un) m)
      where
        at : g.unit ≡ f.unit → IsOpen r (n + 1) g.act ⊎ ((act_rank g.act ≡ r) × (act_number (act_place g.act) ≡ n)) → IsMarked new.marks g.unit ⊎ ((g.unit ≡ f.unit) × IsOpen r (n + 1) g.act)
        at e (inl o) = inr (e, o)
        at e (inr w) = absurd (apart g un (same_place net (state_of old.state) f g r n next e w.0 w.1))

        by : IsMarked old.marks g.unit ⊎ ((g.unit ≡ f.unit) × IsOpen r n g.act) → IsMarked new.marks g.unit ⊎ ((g.unit ≡ f.unit) × IsOpen r (n + 1) g.act)
        by (inl k) = inl (kept g.unit k)
        by (inr k) = at k.0 (open_next r n g.act k.1)

    -- a unit that is no queue made it, and the units were marked at which it can have let one fire
    pub unit_made : IsChecked net → IsEngine net old → is_lsq (kind_of net f.unit) ≡ false → (p : Plan) → IsPlanOf net old.state f (Some p) → KeepsMarks old.marks new.marks → length old.marks.marked.items ≡ length net.units
        → ((v : ℕ) → Holds v old.again.items → Holds v new.again.items)
        → IsRoused net (state_of old.state) (state_of new.state) f.unit (moves_of net f.unit p) (length old.marks.marked.items) new.marks → IsTurn net past b c start marks new f.unit r (n + 1)
    unit_made checked eng l p is kept long again roused = record {
      going = made.going;
      watched = watched;
      kept = keeps;
      of = (let P : Bool → Type 0 = λ q. IsTurnOf q net c marks new f.unit r in subst P (sym l) all);
    }
      where
        plain : AllPlain net old.fired.items
        plain = (let P : Bool → Type 0 = λ q. IsTurnOf q net c marks old f.unit r in subst P l t.of)

        all : AllPlain net new.fired.items
        all = (let P : List Firing → Type 0 = AllPlain net in
            subst P (sym made.fired) (all_snoc (λ g. (is_lsq (kind_of net g.unit) ≡ false) × (phase g.act ≡ 0)) old.fired.items f plain (l, fires_plain net (state_of old.state) f l made.may.turn)))

        room : has_room net (state_of old.state) f.unit p.put
        room = (let P : Option Effect → Type 0 = λ o. IsSomeAnd o (λ x. has_room net (state_of old.state) f.unit x.put) in subst P (sym is) made.may.turn)

        within : (g : Firing) → May net c start (dated_of new) g → g.unit < length old.marks.marked.items
        within g m = (let k = fires_within net (state_of new.state) g checked (chans_after) m.turn in omega arith)
          where
            chans_after : length (state_of new.state).tokens ≡ length net.chans
            chans_after = (going_dated_now net past b c start new made.going).chans

        after_is : dated_of new ≡ after_of net c (dated_of old) f.unit (effect_in net old f p)
        after_is = made.after ∙ ap (after_by net c (dated_of old) f.unit) (sym is)

        -- the unit into which was put at once lacks no token where it fires
        goes : (g : Firing) (x : Effect) → effect net (state_of new.state) g ≡ Some x → (o : Option Put) → has_room net (state_of old.state) f.unit o
            → IsPutMarked net (state_of new.state) (laid_of net f.unit o) (length old.marks.marked.items) new.marks
            → IsSomeAnd o (λ w. ((chan_at net (out_of f.unit w.place net.chans)).delay ≡ 0) × ((chan_at net (out_of f.unit w.place net.chans)).to.unit ≡ g.unit)) → IsMarked new.marks g.unit
        goes g x acts None h k i = absurd i
        goes g x acts (Some w) h k i =
            let d : out_of f.unit w.place net.chans < length net.chans = slots_within net.chans (out_of f.unit w.place net.chans) (length (tokens_at (state_of old.state) (out_of f.unit w.place net.chans))) h in
            let q = checked.within.to (out_of f.unit w.place net.chans) d in
            subst (IsMarked new.marks) i.1 (k i.0 (lacking_quiet net (state_of new.state) g (out_of f.unit w.place net.chans) x acts i.1) d (omega arith))

        -- what could be made by another unit might have been before, or is of the unit into which was put at once
        others : (g : Firing) → g.unit ≢ f.unit → IsLate net f.unit g.unit (effect_in net old f p) → Could net c start (dated_of new) g
            → Could net c start (dated_of old) g × (effect net (after_of net c (dated_of old) f.unit (effect_in net old f p)).state g ≡ effect net (state_of old.state) g)
        others g ne late k =
            let P : Dated → Type 0 = λ x. Could net c start x g in
            before net c start (dated_of old) f.unit g (effect_in net old f p) (λ u v a differ o r. differ (sym (checked.alone u v a o r))) ne eng.dated late (subst P after_is k)

        keeps : IsKeptBut net c start new f.unit
        keeps g h k = by (cases_eq g.unit f.unit) (late_or net f.unit g.unit (effect_in net old f p))
          where
            H : List Firing → Type 0
            H fs = HasUnit g.unit fs

            held : (g.unit ≡ f.unit) ⊎ IsNotedUnit old g.unit → (g.unit ≡ f.unit) ⊎ IsNotedUnit new g.unit
            held (inl e) = inl e
            held (inr x) = inr (noted_kept old new g.unit (kept.kept g.unit) (again g.unit) x)

            by : (g.unit ≡ f.unit) ⊎ (g.unit ≢ f.unit) → IsLate net f.unit g.unit (effect_in net old f p) ⊎ GoesTo net f.unit (effect_in net old f p) g.unit → (g.unit ≡ f.unit) ⊎ IsNotedUnit new g.unit
            by (inl e) z = inl e
            by (inr ne) (inl late) = held (t.kept g (has_before old.fired.items f g.unit ne (subst H made.fired h)) (others g ne late k).0)
            by (inr ne) (inr to) =
                let x = some_effect (effect net (state_of new.state) g) (λ x. has_room net start.state g.unit x.put) k.acts in
                inr (inl (goes g x.0 x.1 p.put room roused.target to))

        watched : (g : Firing) → IsUnused new.fired.items g → May net c start (dated_of new) g → IsMarked new.marks g.unit ⊎ ((g.unit ≡ f.unit) × IsOpen r (n + 1) g.act)
        watched g un m = by (cases_eq g.unit f.unit) (late_or net f.unit g.unit (effect_in net old f p))
            (unit_rouses net c start old.fired.items (dated_of old) f g (effect_in net old f p) checked (going_dated net past b c start old t.going) eng.dated t.going.makes (unused g un) (sym is) after)
          where
            after : May net c start (after_in net c (dated_of old) f) g
            after = (let P : Dated → Type 0 = λ x. May net c start x g in subst P made.after m)

            to : GoesTo net f.unit (effect_in net old f p) g.unit → IsMarked new.marks g.unit
            to k = (let x = effect_there net (state_of new.state) g m.turn in goes g x.0 x.1 p.put room roused.target k)

            -- from the channel on which a merge would put takes a fork alone, and had it room the merge might have fired before
            comes : is_merge (kind_of net g.unit) ≡ true → g.unit ≢ f.unit → IsLate net f.unit g.unit (effect_in net old f p) → (o : Option Effect) → effect net (state_of old.state) g ≡ o
                → IsSomeAnd o (λ x. IsSomeAnd x.put (λ w. takes_from net f.unit (effect_in net old f p) (out_of g.unit w.place net.chans) ≡ true)) → IsMarked new.marks g.unit ⊎ May net c start (dated_of old) g
            comes merge ne late None q i = absurd i
            comes merge ne late (Some x) q i = put x.put refl i
              where
                put : (o : Option Put) → x.put ≡ o → IsSomeAnd o (λ w. takes_from net f.unit (effect_in net old f p) (out_of g.unit w.place net.chans) ≡ true) → IsMarked new.marks g.unit ⊎ May net c start (dated_of old) g
                put None z i = absurd i
                put (Some w) z i = by_kind (is_fork (kind_of net f.unit)) refl (merge_kind (kind_of net g.unit))
                  where
                    by_kind : (k : Bool) → is_fork (kind_of net f.unit) ≡ k → (is_merge (kind_of net g.unit) ≡ false) ⊎ ((ins : ℕ) × (kind_of net g.unit ≡ Cmerge ins)) → IsMarked new.marks g.unit ⊎ May net c start (dated_of old) g
                    by_kind k e (inl y) = (let v : true ≡ false = sym merge ∙ y in cc)
                    by_kind false e (inr y) = absurd (one_token net (state_of old.state) f (effect_in net old f p) g y.0 x w checked (going_regular net past b c start old checked t.going) e (sym is) ne y.1 q z i)
                    by_kind true e (inr y) = by_room (cases_lt (length (tokens_at (state_of old.state) (out_of g.unit w.place net.chans))) (chan_at net (out_of g.unit w.place net.chans)).slots)
                      where
                        by_room : (length (tokens_at (state_of old.state) (out_of g.unit w.place net.chans)) < (chan_at net (out_of g.unit w.place net.chans)).slots)
                            ⊎ ((chan_at net (out_of g.unit w.place net.chans)).slots ≤ length (tokens_at (state_of old.state) (out_of g.unit w.place net.chans))) → IsMarked new.marks g.unit ⊎ May net c start (dated_of old) g
                        by_room (inl l) =
                            let o = (others g ne late (may_could net c start (dated_of new) g m)).0 in
                            let S : Option Put → Type 0 = has_room net (state_of old.state) g.unit in
                            let R : Option Effect → Type 0 = λ o. IsSomeAnd o (λ y. has_room net (state_of old.state) g.unit y.put) in
                            inr (record { turn = subst R (sym q) (subst S (sym z) l); ripe = o.ripe; room = o.acts; depth = o.depth })
                        by_room (inr l) =
                            let h = taken_all net f.unit (out_of g.unit w.place net.chans) (effect_in net old f p) (IsFullMarked net (state_of old.state) (length old.marks.marked.items) new.marks) i
                            (taken_each net f.unit (IsFullMarked net (state_of old.state) (length old.marks.marked.items) new.marks) p.takes (roused.merges e)) in
                            let d = taken_all net f.unit (out_of g.unit w.place net.chans) (effect_in net old f p) (λ y. y < length (dates_of old.state)) i (takes_within net old f p eng is) in
                            let k = eng.dated.lists in
                            let l' : out_of g.unit w.place net.chans < length net.chans = omega arith in
                            let v : (chan_at net (out_of g.unit w.place net.chans)).from.unit ≡ g.unit = (is_at-inv (chan_at net (out_of g.unit w.place net.chans)).from g.unit w.place (out_of-at g.unit w.place net.chans l')).0 in
                            let s = within g m in
                            inl (subst (IsMarked new.marks) v (h l l' (ap (λ v. is_merge (kind_of net v)) v ∙ merge) (omega arith)))

            -- a fork that took its head has another, since it may fire
            stirred : g.unit ≡ f.unit → Stirs (kind_of net f.unit) (effect_in net old f p) → IsMarked new.marks g.unit
            stirred e h =
                let w = stirs_fork (kind_of net f.unit) (effect_in net old f p) l h in
                let N : ℕ → Type 0 = λ v. enabled net (state_of new.state) (firing v g.act) in
                let q = within g m in
                subst (IsMarked new.marks) (sym e) (roused.own w.0 (λ z. w.1 (none_taken net f.unit p.takes z)) (λ z. starved_quiet net (state_of new.state) f.unit g.act z (subst N e m.turn)) (omega arith))

            own : g.unit ≡ f.unit → IsMarked new.marks g.unit ⊎ ((g.unit ≡ f.unit) × IsOpen r (n + 1) g.act)
            own e = at (own_rouses net c start (dated_of old) f.unit f.act g.act (effect_in net old f p) eng.dated (sym is) (λ z. apart g un (λ j. record { unit = e j; act = z j })) (subst A e after))
              where
                A : ℕ → Type 0
                A v = May net c start (after_in net c (dated_of old) f) (firing v g.act)

                B : ℕ → Type 0
                B v = May net c start (dated_of old) (firing v g.act)

                G : ℕ → Type 0
                G v = GoesTo net f.unit (effect_in net old f p) v

                at : May net c start (dated_of old) (firing f.unit g.act) ⊎ (Stirs (kind_of net f.unit) (effect_in net old f p) ⊎ GoesTo net f.unit (effect_in net old f p) f.unit)
                    → IsMarked new.marks g.unit ⊎ ((g.unit ≡ f.unit) × IsOpen r (n + 1) g.act)
                at (inl mo) = before_on g un kept.kept (subst B (sym e) mo)
                at (inr (inl h)) = inl (stirred e h)
                at (inr (inr k)) = inl (to (subst G (sym e) k))

            come : IsMarked new.marks g.unit ⊎ May net c start (dated_of old) g → IsMarked new.marks g.unit ⊎ ((g.unit ≡ f.unit) × IsOpen r (n + 1) g.act)
            come (inl k) = inl k
            come (inr mo) = before_on g un kept.kept mo

            by : (g.unit ≡ f.unit) ⊎ (g.unit ≢ f.unit) → IsLate net f.unit g.unit (effect_in net old f p) ⊎ GoesTo net f.unit (effect_in net old f p) g.unit
                → May net c start (dated_of old) g ⊎ ((g.unit ≡ f.unit) ⊎ (GoesTo net f.unit (effect_in net old f p) g.unit ⊎ ((is_merge (kind_of net g.unit) ≡ true) × ComesFrom net f.unit (effect_in net old f p) (dated_of old) g)))
                → IsMarked new.marks g.unit ⊎ ((g.unit ≡ f.unit) × IsOpen r (n + 1) g.act)
            by (inl e) z k = own e
            by (inr ne) (inr k) z = inl (to k)
            by (inr ne) (inl late) (inl mo) = before_on g un kept.kept mo
            by (inr ne) (inl late) (inr (inl e)) = own e
            by (inr ne) (inl late) (inr (inr (inl k))) = inl (to k)
            by (inr ne) (inl late) (inr (inr (inr k))) = come (comes k.0 ne late (effect net (state_of old.state) g) refl k.1)

    -- a queue made it
    pub queue_made : IsChecked net → IsEngine net old → is_lsq (kind_of net f.unit) ≡ true → new.marks ≡ old.marks → new.again ≡ old.again → IsTurn net past b c start marks new f.unit r (n + 1)
    queue_made checked eng l same looked = record {
      going = made.going;
      watched = watched;
      kept = keeps;
      of = (let P : Bool → Type 0 = λ q. IsTurnOf q net c marks new f.unit r in subst P (sym l) (record { allocs = allocs; behind = behind; fresh = fresh; same = same ∙ turn.same; again = again }));
    }
      where
        turn : IsQueueTurn net c marks old f.unit r
        turn = (let P : Bool → Type 0 = λ q. IsTurnOf q net c marks old f.unit r in subst P l t.of)

        good : IsRegular net (state_of old.state)
        good = going_regular net past b c start old checked t.going

        w : (e : Effect) × (effect net (state_of old.state) f ≡ Some e) × has_room net (state_of old.state) f.unit e.put
        w = effect_there net (state_of old.state) f made.may.turn

        allocs : AllocsOnce net c new.fired.items (dated_of new)
        allocs = kinds (kind_of net f.unit) refl l
          where
            kinds : (y : Kind) → kind_of net f.unit ≡ y → is_lsq (kind_of net f.unit) ≡ true → AllocsOnce net c new.fired.items (dated_of new)
            kinds (Lsq x d ps gs fw) ku q =
                let a = allocs_more net c old.fired.items (dated_of old) f.unit x d ps gs fw f.act w.0 checked good eng.dated ku w.1 turn.allocs in
                let e : dated_of new ≡ after_of net c (dated_of old) f.unit w.0 = made.after ∙ ap (after_by net c (dated_of old) f.unit) w.1 in
                let P : Dated → Type 0 = λ s. AllocsOnce net c (old.fired.items ++ f ∷ []) s in
                let Q : List Firing → Type 0 = λ fs. AllocsOnce net c fs (dated_of new) in
                subst Q (sym made.fired) (subst P (sym e) a)
            kinds y ku q = let z : is_lsq y ≡ true = sym (ap is_lsq ku) ∙ q in cc

        behind : AllByRecursion (λ g. g.unit ≡ f.unit → act_rank g.act ≤ r) new.fired.items
        behind = (let P : List Firing → Type 0 = AllByRecursion (λ g. g.unit ≡ f.unit → act_rank g.act ≤ r) in
            subst P (sym made.fired) (all_snoc (λ g. g.unit ≡ f.unit → act_rank g.act ≤ r) old.fired.items f turn.behind (λ q. (let z = next.rank in omega arith))))

        fresh : AllByRecursion (λ g. is_lsq (kind_of net g.unit) ≡ true → (g.unit ≡ f.unit) ⊎ (IsMarked marks g.unit → ⊥)) new.fired.items
        fresh = (let P : List Firing → Type 0 = AllByRecursion (λ g. is_lsq (kind_of net g.unit) ≡ true → (g.unit ≡ f.unit) ⊎ (IsMarked marks g.unit → ⊥)) in
            subst P (sym made.fired) (all_snoc (λ g. is_lsq (kind_of net g.unit) ≡ true → (g.unit ≡ f.unit) ⊎ (IsMarked marks g.unit → ⊥)) old.fired.items f turn.fresh (λ q. inl refl)))

        kept : (v : ℕ) → IsMarked old.marks v → IsMarked new.marks v
        kept v h = (let P : Marks → Type 0 = λ y. IsMarked y v in subst P (sym same) h)

        been : (v : ℕ) → v ≢ f.unit → HasUnit v new.fired.items → HasUnit v old.fired.items
        been v ne h = (let H : List Firing → Type 0 = λ fs. HasUnit v fs in has_before old.fired.items f v ne (subst H made.fired h))

        looks : (v : ℕ) → Holds v old.again.items → Holds v new.again.items
        looks v h = (let P : Stacked ℕ → Type 0 = λ x. Holds v x.items in subst P (sym looked) h)

        again : QueuesKept net new (λ v. v ≡ f.unit)
        again v q h = by (cases_eq v f.unit)
          where
            held : (v ≡ f.unit) ⊎ Holds v old.again.items → (v ≡ f.unit) ⊎ Holds v new.again.items
            held (inl e) = inl e
            held (inr x) = inr (looks v x)

            by : (v ≡ f.unit) ⊎ (v ≢ f.unit) → (v ≡ f.unit) ⊎ Holds v new.again.items
            by (inl e) = inl e
            by (inr ne) = held (turn.again v q (been v ne h))

        keeps : IsKeptBut net c start new f.unit
        keeps g h k = by (cases_eq g.unit f.unit)
          where
            then : Could net c start (after_of net c (dated_of old) f.unit w.0) g
            then = (let P : Dated → Type 0 = λ x. Could net c start x g in subst P (made.after ∙ ap (after_by net c (dated_of old) f.unit) w.1) k)

            held : (g.unit ≡ f.unit) ⊎ IsNotedUnit old g.unit → (g.unit ≡ f.unit) ⊎ IsNotedUnit new g.unit
            held (inl e) = inl e
            held (inr x) = inr (noted_kept old new g.unit (kept g.unit) (looks g.unit) x)

            by : (g.unit ≡ f.unit) ⊎ (g.unit ≢ f.unit) → (g.unit ≡ f.unit) ⊎ IsNotedUnit new g.unit
            by (inl e) = inl e
            by (inr ne) =
                let o = before net c start (dated_of old) f.unit g w.0 (λ u v a differ o r. differ (sym (checked.alone u v a o r))) ne eng.dated (queue_late net f.unit g.unit w.0 checked l) then in
                held (t.kept g (been g.unit ne h) o.0)

        may_before : (g : Firing) → IsUnused new.fired.items g → (g.unit ≡ f.unit → phase g.act ≤ phase f.act) → May net c start (dated_of new) g → May net c start (dated_of old) g
        may_before g un ph m =
            let P : List Firing → Type 0 = λ fs. IsUnused fs g in
            let Q : Dated → Type 0 = λ s. May net c start s g in
            queue_rouses net c start old.fired.items (dated_of old) f.unit f.act g checked good (going_dated net past b c start old t.going) eng.dated t.going.makes turn.allocs l made.may.turn (subst P made.fired un) ph (subst Q made.after m)

        watched : (g : Firing) → IsUnused new.fired.items g → May net c start (dated_of new) g → IsMarked new.marks g.unit ⊎ ((g.unit ≡ f.unit) × IsOpen r (n + 1) g.act)
        watched g un m = by (cases_eq g.unit f.unit) (open_or r (n + 1) g.act)
          where
            by : (g.unit ≡ f.unit) ⊎ (g.unit ≢ f.unit) → IsOpen r (n + 1) g.act ⊎ (IsOpen r (n + 1) g.act → ⊥) → IsMarked new.marks g.unit ⊎ ((g.unit ≡ f.unit) × IsOpen r (n + 1) g.act)
            by (inl e) (inl o) = inr (e, o)
            by (inl e) (inr o) = before_on g un kept (may_before g un (λ z. phase_rises g.act f.act (let x = closed_rank r (n + 1) g.act o in let y = next.rank in omega arith)) m)
            by (inr e) o = before_on g un kept (may_before g un (λ z. absurd (e z)) m)

-- ---- acts that may be passed over

-- no act of the rank r between the numbers n and m is enabled
pub turn_to : (net : Net) (past : Past) (b : Bounds) (c : ℕ) (start : Dated) (marks : Marks) (e : Engine) (u r n m : ℕ) → IsTurn net past b c start marks e u r n
    → ((a : Act) → enabled net (state_of e.state) (firing u a) → act_rank a ≡ r → (act_number (act_place a) < n) ⊎ (m ≤ act_number (act_place a))) → IsTurn net past b c start marks e u r m
turn_to net past b c start marks e u r n m t apart = record { going = t.going; watched = λ g un may. at g may (t.watched g un may); kept = t.kept; of = t.of }
  where
    at : (g : Firing) → May net c start (dated_of e) g → IsMarked e.marks g.unit ⊎ ((g.unit ≡ u) × IsOpen r n g.act) → IsMarked e.marks g.unit ⊎ ((g.unit ≡ u) × IsOpen r m g.act)
    at g may (inl k) = inl k
    at g may (inr k) = inr (k.0, by k.1)
      where
        N : ℕ → Type 0
        N v = enabled net (state_of e.state) (firing v g.act)

        past_it : r ≡ act_rank g.act → n ≤ act_number (act_place g.act) → (act_number (act_place g.act) < n) ⊎ (m ≤ act_number (act_place g.act)) → IsOpen r m g.act
        past_it z l (inl q) = absurd (omega arith)
        past_it z l (inr q) = inr (z, q)

        by : IsOpen r n g.act → IsOpen r m g.act
        by (inl l) = inl l
        by (inr l) = past_it l.0 l.1 (apart g.act (subst N k.0 may.turn) (sym l.0))

-- all acts of the rank r were tried
pub turn_on : (net : Net) (past : Past) (b : Bounds) (c : ℕ) (start : Dated) (marks : Marks) (e : Engine) (u r n : ℕ) → IsTurn net past b c start marks e u r n
    → ((a : Act) → enabled net (state_of e.state) (firing u a) → act_rank a ≡ r → act_number (act_place a) < n) → IsTurn net past b c start marks e u (r + 1) 0
turn_on net past b c start marks e u r n t below = record { going = t.going; watched = λ g un m. at g m (t.watched g un m); kept = t.kept; of = of (is_lsq (kind_of net u)) t.of }
  where
    at : (g : Firing) → May net c start (dated_of e) g → IsMarked e.marks g.unit ⊎ ((g.unit ≡ u) × IsOpen r n g.act) → IsMarked e.marks g.unit ⊎ ((g.unit ≡ u) × IsOpen (r + 1) 0 g.act)
    at g m (inl k) = inl k
    at g m (inr k) = by k.1
      where
        N : ℕ → Type 0
        N v = enabled net (state_of e.state) (firing v g.act)

        by : IsOpen r n g.act → IsMarked e.marks g.unit ⊎ ((g.unit ≡ u) × IsOpen (r + 1) 0 g.act)
        by (inl l) = by_rank (cases_lt (r + 1) (act_rank g.act))
          where
            by_rank : (r + 1 < act_rank g.act) ⊎ (act_rank g.act ≤ r + 1) → IsMarked e.marks g.unit ⊎ ((g.unit ≡ u) × IsOpen (r + 1) 0 g.act)
            by_rank (inl q) = inr (k.0, inl q)
            by_rank (inr q) = inr (k.0, inr (omega arith, omega arith))
        by (inr l) = let z = below g.act (subst N k.0 m.turn) (sym l.0) in let y = l.1 in absurd (omega arith)

    of : (q : Bool) → IsTurnOf q net c marks e u r → IsTurnOf q net c marks e u (r + 1)
    of true o = record {
      allocs = o.allocs;
      behind = each_order e.fired.items (λ g. g.unit ≡ u → act_rank g.act ≤ r) (λ g. g.unit ≡ u → act_rank g.act ≤ r + 1) (λ g h z. (let y = h z in omega arith)) o.behind;
      fresh = o.fresh;
      same = o.same;
      again = o.again;
    }
    of false o = o

-- ---- a unit that is no queue

pub open_unit : (net : Net) (past : Past) (b : Bounds) (c : ℕ) (start : Dated) (e : Engine) (u : ℕ) (kind : Act) → is_lsq (kind_of net u) ≡ false → kind ≡ first_of (kind_of net u) → IsOpenTurn net past b c start e u
    → IsTurn net past b c start e.marks e u (act_rank kind) 0
open_unit net past b c start e u kind l is t = record { going = t.going; watched = λ g un m. at g m (t.watched g un m); kept = t.kept; of = (let P : Bool → Type 0 = λ q. IsTurnOf q net c e.marks e u (act_rank kind) in subst P (sym l) t.plain) }
  where
    N : Act → ℕ → Type 0
    N a v = enabled net (state_of e.state) (firing v a)

    at : (g : Firing) → May net c start (dated_of e) g → IsMarked e.marks g.unit ⊎ (g.unit ≡ u) → IsMarked e.marks g.unit ⊎ ((g.unit ≡ u) × IsOpen (act_rank kind) 0 g.act)
    at g m (inl k) = inl k
    at g m (inr k) =
        let r = first_rank net (state_of e.state) u g.act l (subst (N g.act) k m.turn) in
        let q = ap act_rank is in
        inr (k, inr (omega arith, omega arith))

pub unit_done : (net : Net) (past : Past) (b : Bounds) (c : ℕ) (start : Dated) (marks : Marks) (e : Engine) (u : ℕ) (kind : Act) → is_lsq (kind_of net u) ≡ false → kind ≡ first_of (kind_of net u) → IsTurnEnded net past b c start marks e u (act_rank kind + 1)
    → IsBegunIn net past b c start e
unit_done net past b c start marks e u kind l is t = record {
  going = t.turn.going;
  plain = (let P : Bool → Type 0 = λ q. IsTurnOf q net c marks e u (act_rank kind + 1) in subst P l t.turn.of);
  watching = λ g un m. at g m (t.turn.watched g un m);
  kept = λ g h k. noted g h k (t.turn.kept g h k);
}
  where
    noted : (g : Firing) → HasUnit g.unit e.fired.items → Could net c start (dated_of e) g → (g.unit ≡ u) ⊎ IsNotedUnit e g.unit → IsNotedUnit e g.unit
    noted g h k (inr x) = x
    noted g h k (inl z) =
        let H : ℕ → Type 0 = λ v. HasUnit v e.fired.items in
        let C : ℕ → Type 0 = λ v. Could net c start (dated_of e) (firing v g.act) in
        subst (IsNotedUnit e) (sym z) (t.own g.act (subst H z h) (subst C z k))

    N : Act → ℕ → Type 0
    N a v = enabled net (state_of e.state) (firing v a)

    at : (g : Firing) → May net c start (dated_of e) g → IsMarked e.marks g.unit ⊎ ((g.unit ≡ u) × IsOpen (act_rank kind + 1) 0 g.act) → IsMarked e.marks g.unit
    at g m (inl k) = k
    at g m (inr k) =
        let r = first_rank net (state_of e.state) u g.act l (subst (N g.act) k.0 m.turn) in
        let q = ap act_rank is in
        absurd (by k.1 (omega arith))
      where
        by : IsOpen (act_rank kind + 1) 0 g.act → act_rank g.act ≡ act_rank kind → ⊥
        by (inl o) z = omega arith
        by (inr o) z = let y = o.0 in omega arith

-- other units are marked, and others are to be looked at again
going_beside : (net : Net) (past : Past) (b : Bounds) (c : ℕ) (start : Dated) (e : Engine) (m : Marks) (s : Stacked ℕ) → InCycle net past b c start e → InCycle net past b c start (with_again (with_marks e m) s)
going_beside net past b c start e m s g = record {
  began = record { chans = λ d. followed d (g.began.chans d); queues = g.began.queues };
  done = g.done;
  number = g.number;
  makes = g.makes;
  once = g.once;
  order = g.order;
  made = g.made;
  log = g.log;
  listed = g.listed;
  coming = g.coming;
  control = g.control;
  shut = g.shut;
}
  where
    followed : (d : ℕ) → IsFollowed net c start e d → IsFollowed net c start (with_again (with_marks e m) s) d
    followed d k = record { marked = k.marked; clear = k.clear; newest = k.newest }

ready_beside : (net : Net) (b : Bounds) (e : Engine) (m : Marks) (s : Stacked ℕ) → IsReady net b e → length m.marked.items ≡ length net.units → IsListed net m → IsReady net b (with_again (with_marks e m) s)
ready_beside net b e m s r long listed = record {
  engine = record { state = r.engine.state; dated = r.engine.dated };
  few = r.few;
  within = r.within;
  counts = r.counts;
  room = r.room;
  chans = r.chans;
  queues = r.queues;
  marked = long;
  listed = listed;
  cells = r.cells;
  told = r.told;
  places = r.places;
  feeds = r.feeds;
  pending = r.pending;
  fed = record { leads = r.fed.leads; sized = r.fed.sized; places = r.fed.places; each = r.fed.each };
}

pub going_marks : (net : Net) (past : Past) (b : Bounds) (c : ℕ) (start : Dated) (e : Engine) (m : Marks) → InCycle net past b c start e → InCycle net past b c start (with_marks e m)
going_marks net past b c start e m g = going_beside net past b c start e m e.again g

pub ready_marks : (net : Net) (b : Bounds) (e : Engine) (m : Marks) → IsReady net b e → length m.marked.items ≡ length net.units → IsListed net m → IsReady net b (with_marks e m)
ready_marks net b e m r long listed = ready_beside net b e m e.again r long listed

pub going_again : (net : Net) (past : Past) (b : Bounds) (c : ℕ) (start : Dated) (e : Engine) (s : Stacked ℕ) → InCycle net past b c start e → InCycle net past b c start (with_again e s)
going_again net past b c start e s g = going_beside net past b c start e e.marks s g

pub ready_again : (net : Net) (b : Bounds) (e : Engine) (s : Stacked ℕ) → IsReady net b e → IsReady net b (with_again e s)
ready_again net b e s r = ready_beside net b e e.marks s r r.marked r.listed

pub turn_again : (net : Net) (past : Past) (b : Bounds) (c : ℕ) (start : Dated) (marks : Marks) (e : Engine) (s : Stacked ℕ) (u r n : ℕ) → ((v : ℕ) → Holds v e.again.items → Holds v s.items)
    → IsTurn net past b c start marks e u r n → IsTurn net past b c start marks (with_again e s) u r n
turn_again net past b c start marks e s u r n more t = record {
  going = going_again net past b c start e s t.going;
  watched = t.watched;
  kept = λ g h k. noted g.unit (t.kept g h k);
  of = of (is_lsq (kind_of net u)) t.of;
}
  where
    noted : (v : ℕ) → (v ≡ u) ⊎ IsNotedUnit e v → (v ≡ u) ⊎ IsNotedUnit (with_again e s) v
    noted v (inl z) = inl z
    noted v (inr k) = inr (noted_kept e (with_again e s) v (λ y. y) (more v) k)

    told : (v : ℕ) → (v ≡ u) ⊎ Holds v e.again.items → (v ≡ u) ⊎ Holds v s.items
    told v (inl z) = inl z
    told v (inr k) = inr (more v k)

    of : (q : Bool) → IsTurnOf q net c marks e u r → IsTurnOf q net c marks (with_again e s) u r
    of true o = record { allocs = o.allocs; behind = o.behind; fresh = o.fresh; same = o.same; again = λ v q h. told v (o.again v q h) }
    of false o = o

-- so where the mark of a queue was taken
pub ready_turn : (net : Net) (b : Bounds) (e : Engine) (m : Marks) (u : ℕ) → HasTurn e.marks m u → IsReady net b e → IsReady net b (with_marks e m)
ready_turn net b e m u t r = ready_marks net b e m r (ap (λ (xs : List Bool). length xs) t.marked ∙ (length-set e.marks.marked.items u false ∙ r.marked)) (t.listed net r.listed)

-- a unit was taken from the list
pub taken_open : (net : Net) (past : Past) (b : Bounds) (c : ℕ) (start : Dated) (e : Engine) (m : Marks) (u : ℕ) → IsTaken e.marks m u → IsBegunIn net past b c start e → IsOpenTurn net past b c start (with_marks e m) u
taken_open net past b c start e m u k t = record { going = going_marks net past b c start e m t.going; plain = t.plain; watched = λ g un x. k.left g.unit (t.watching g un x); kept = λ g h x. noted g.unit (t.kept g h x) }
  where
    left : (v : ℕ) → IsMarked m v ⊎ (v ≡ u) → (v ≡ u) ⊎ IsNotedUnit (with_marks e m) v
    left v (inl x) = inr (inl x)
    left v (inr x) = inl x

    noted : (v : ℕ) → IsNotedUnit e v → (v ≡ u) ⊎ IsNotedUnit (with_marks e m) v
    noted v (inl x) = left v (k.left v x)
    noted v (inr x) = inr (inr x)

-- a queue whose mark was taken is put off
pub open_put_off : (net : Net) (past : Past) (b : Bounds) (c : ℕ) (start : Dated) (e : Engine) (u : ℕ) (m : Marks) → IsPutOff e.marks m u → u < length e.marks.marked.items → IsOpenTurn net past b c start e u → IsBegunIn net past b c start (with_marks e m)
open_put_off net past b c start e u m off l t = record { going = going_marks net past b c start e m t.going; plain = t.plain; watching = λ g un x. at g (t.watched g un x); kept = λ g h k. noted g (t.kept g h k) }
  where
    at : (g : Firing) → IsMarked e.marks g.unit ⊎ (g.unit ≡ u) → IsMarked m g.unit
    at g (inl k) = put_off_kept e.marks m u off g.unit l k
    at g (inr z) = subst (IsMarked m) (sym z) (put_off_own e.marks m u off l)

    noted : (g : Firing) → (g.unit ≡ u) ⊎ IsNotedUnit e g.unit → IsNotedUnit (with_marks e m) g.unit
    noted g (inl z) = inl (at g (inr z))
    noted g (inr (inl k)) = inl (at g (inl k))
    noted g (inr (inr k)) = inr k

pub begun_settled : (net : Net) (past : Past) (b : Bounds) (c : ℕ) (start : Dated) (e : Engine) (m : Marks) → IsEmptied e.marks m → IsBegunIn net past b c start e → IsSettled net past b c start (with_marks e m)
begun_settled net past b c start e m k t = record {
  going = going_marks net past b c start e m t.going;
  plain = t.plain;
  watching = λ g un x. ap (λ (v : _). get_or v.items g.unit false) k.same ∙ t.watching g un x;
  kept = λ g h x. noted_kept e (with_marks e m) g.unit (λ y. ap (λ (v : _). get_or v.items g.unit false) k.same ∙ y) (λ y. y) (t.kept g h x);
  list = k.none;
}

-- what a fault that is handed on says
pub exit_broken : {T : Type 0} (P : T → Type 0) (Q : Broken → Type 0) (r : Result T Broken) (e : Broken) → IsErrAnd r (λ d. d ≡ e) → Q e → MatchResult r P Q
exit_broken P Q r e x h =
    let p = err_from_is_err_and r x in
    let R : Result _ Broken → Type 0 = λ q. MatchResult q P Q in
    subst R (sym p.1) (subst Q (sym p.2) h)
