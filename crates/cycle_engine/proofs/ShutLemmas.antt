-- Outputs of forks that are shut: what holds them back, and that they stay so.
use Rattle.std.proofs.Common.{◌≡◌, ◌≢◌, ℕ, zero, suc, ◌<◌, ◌≤◌, ◌⊎◌, ◌&&◌, inl, inr, not, Bool, true, false, cond, nat_lt, Option, Some, None, List, [], ◌∷◌, length, get_or, set, replicate, refl, sym, ap, subst, ◌∙◌, arith, IsSomeAnd, get_or-set_other, get_or-set_same, length-set}
use Rattle.std.proofs.lemmas.Bool.{cases_eq, cases_lt, and_parts, lt-ltb, not-true}
use Rattle.std.proofs.lemmas.List.{get_or_past}
use Rattle.std.specs.List.{list_all}
use Rattle.circular_buffer.specs.Buffer.{last_item}
use Rattle.net_types.specs.declared.net.Net.{Net}
use Rattle.net_types.specs.declared.firing.Act.TheVariants.{Send}
use Rattle.net_types.specs.declared.firing.Firing.{Firing}
use Rattle.net_types.specs.Nets.{out_of, kind_of, chan_at, firing}
use Rattle.net_core.specs.Fire.{State, Own, Effect, idle, effect, first, has_room, head_at, tokens_at, sent_to, put_at}
use Rattle.net_core.specs.declared.plan.Moves.{Moves}
use Rattle.net_core.specs.declared.plan.Plan.{Plan}
use Rattle.net_core.specs.declared.plan.Takes.{Takes}
use Rattle.net_core.specs.declared.plan.Takes.TheVariants.{None as no_place, One, Two, Three}
use Rattle.net_core.specs.declared.state.State.{State as Stored}
use Rattle.net_core.specs.Plans.{IsForkOf, places_of, chans_of, planned, taken_of, moves_of}
use Rattle.net_core.specs.States.{state_of, dates_of, own_at, array_at, IsPlanOf}
use Rattle.net_core.specs.Uses.{is_fork}
use Rattle.net_core.proofs.ForkLemmas.{fork_is, send_eff, send_inv}
use Rattle.net_core.proofs.PlanUses.{fork_act, fork_effect, send_does}
use Rattle.cycle_engine.specs.declared.engine.Engine.{Engine}
use Rattle.cycle_engine.specs.declared.pending.Pending.{Pending}
use Rattle.cycle_engine.specs.Cycles.{Dated, after_in}
use Rattle.cycle_engine.specs.Rousing.{Could}
use Rattle.cycle_engine.specs.private.Trials.{dated_of, IsOldFull, IsFollowed}
use Rattle.cycle_engine.specs.private.Marking.{Holds, AreListed, IsLongFull}
use Rattle.cycle_engine.specs.private.Pending.{HasPlaces, IsShut, IsHeldBack, IsForgotten, IsOpened, IsFreedOut}
use Rattle.cycle_engine.specs.private.Goings.{AreShut, AreShutNow}
use Rattle.cycle_engine.proofs.DateLemmas.{some_effect}
use Rattle.cycle_engine.proofs.NoteLemmas.{after_is, effect_in}

-- ---- an output that has had the head

-- a fork sends nothing to it
sent_none : (net : Net) (s : State) (u outs j : ℕ) (e : Effect) → IsForkOf outs (kind_of net u) → get_or (get_or s.own u idle).sent j true ≡ true → effect net s (firing u (Send j)) ≡ Some e → ⊥
sent_none net s u outs j e fork sent is =
    let i = send_inv outs j (get_or s.own u idle) [] (head_at net s u) e (sym (fork_is net s u fork.width outs fork.shape s j) ∙ is) in
    let f : get_or (get_or s.own u idle).sent j true ≡ false = not-true _ (and_parts (nat_lt j outs) _ i.0).1 in
    let z : true ≡ false = sym sent ∙ f in
    cc

-- an output that is held back could not be sent to
pub held_quiet : (net : Net) (c : ℕ) (start s : Dated) (u outs j : ℕ) → IsForkOf outs (kind_of net u) → IsHeldBack net start.state s.state u j → Could net c start s (firing u (Send j)) → ⊥
held_quiet net c start s u outs j fork held k = by held (some_effect (effect net s.state (firing u (Send j))) (λ x. has_room net start.state u x.put) k.acts)
  where
    by : IsHeldBack net start.state s.state u j → (e : Effect) × (effect net s.state (firing u (Send j)) ≡ Some e) × has_room net start.state u e.put → ⊥
    by (inl sent) w = sent_none net s.state u outs j w.0 fork sent w.1
    by (inr full) w =
        let i = send_inv outs j (get_or s.state.own u idle) [] (head_at net s.state u) w.0 (sym (fork_is net s.state u fork.width outs fork.shape s.state j) ∙ w.1) in
        let put : w.0.put ≡ put_at j i.1 = ap (λ (x : Effect). x.put) (sym i.3) in
        let room : length (tokens_at start.state (out_of u j net.chans)) < (chan_at net (out_of u j net.chans)).slots = subst (has_room net start.state u) put w.2 in
        absurd (omega arith)

-- where nothing is planned of a send to an output at a head, the output has had it
pub unplanned_sent : (net : Net) (s : Stored) (u outs j v : ℕ) (o : Option Plan) → IsForkOf outs (kind_of net u) → j < outs → head_at net (state_of s) u 0 ≡ Some v → IsPlanOf net s (firing u (Send j)) o → o ≡ None
    → get_or (get_or (state_of s).own u idle).sent j true ≡ true
unplanned_sent net s u outs j v o fork l head is none = by (get_or (get_or (state_of s).own u idle).sent j true) refl
  where
    by : (x : Bool) → get_or (get_or (state_of s).own u idle).sent j true ≡ x → get_or (get_or (state_of s).own u idle).sent j true ≡ true
    by true e = e
    by false e =
        let within : nat_lt j outs ≡ true = lt-ltb _ _ l in
        let goes : (nat_lt j outs && not (get_or (get_or (state_of s).own u idle).sent j true)) ≡ true = rw (within, e) refl in
        let does = (send_does outs j (get_or (state_of s).own u idle) [] (head_at net (state_of s) u) v goes head).0 in
        let nothing : effect net (state_of s) (firing u (Send j)) ≡ None = sym is ∙ ap (planned (kind_of net u) (own_at s u) (array_at net s u)) none in
        let something = fork_is net (state_of s) u fork.width outs fork.shape (state_of s) j ∙ does in
        let z : None ≡ Some (send_eff j (get_or (state_of s).own u idle) [] v) = sym nothing ∙ something in
        cc

-- a list of as many items as dates of which one is told has one
pub head_of : (ds ts : List ℕ) (Q : ℕ → Type 0) → length ds ≡ length ts → IsSomeAnd (first ds) Q → (v : ℕ) × (first ts ≡ Some v)
head_of [] ts Q e h = absurd h
head_of (d ∷ ds) [] Q e h = absurd (omega (arith, e))
head_of (d ∷ ds) (t ∷ ts) Q e h = (t, refl)

-- ---- a channel that was full as the cycle began

-- one that is full of older tokens was so
pub long_full : (net : Net) (c : ℕ) (start : Dated) (e : Engine) (d : ℕ) → IsFollowed net c start e d → IsLongFull net e.state c d → (chan_at net d).slots ≤ length (tokens_at start.state d)
long_full net c start e d f l = by f.newest
  where
    by : (length (tokens_at (state_of e.state) d) ≤ length (tokens_at start.state d)) ⊎ (last_item (get_or (dates_of e.state) d []) ≡ Some c) → (chan_at net d).slots ≤ length (tokens_at start.state d)
    by (inl k) = let a = l.0 in omega arith
    by (inr k) =
        let P : Option ℕ → Type 0 = λ o. IsSomeAnd o (λ x. x < c) in
        let z : c < c = subst P k l.1 in
        absurd (omega arith)

-- ---- what a firing leaves shut

pub none_taken : (net : Net) (u : ℕ) (t : Takes) → chans_of (taken_of net u t) ≡ [] → places_of t ≡ []
none_taken net u no_place e = refl
none_taken net u (One p) e = cc
none_taken net u (Two p q) e = cc
none_taken net u (Three p q x) e = cc

set_true : (bs : List Bool) (i j : ℕ) → get_or bs j true ≡ true → get_or (set bs i true) j true ≡ true
set_true [] i j e = refl
set_true (b ∷ bs) zero zero e = refl
set_true (b ∷ bs) zero (suc j) e = e
set_true (b ∷ bs) (suc i) zero e = e
set_true (b ∷ bs) (suc i) (suc j) e = set_true bs i j e

-- a fork that keeps its head keeps what it has sent
kept_sent : (i j : ℕ) (bs : List Bool) → cond {A = List ℕ} (list_all (λ b. b) (set bs i true)) (0 ∷ []) [] ≡ [] → get_or bs j true ≡ true → get_or (sent_to i bs) j true ≡ true
kept_sent i j bs none e = by (list_all (λ b. b) (set bs i true)) refl
  where
    by : (x : Bool) → list_all (λ b. b) (set bs i true) ≡ x → get_or (sent_to i bs) j true ≡ true
    by true is = (let one : List ℕ = 0 ∷ [] in let z : one ≡ [] = sym (ap (λ b. cond b one []) is) ∙ none in cc)
    by false is = rw is (set_true bs i j e)

module _ (net : Net) (c : ℕ) (start : Dated) (old new : Engine) (f : Firing) (p : Plan) (m : Moves) (is : IsPlanOf net old.state f (Some p)) (moves : m ≡ moves_of net f.unit p) (after : dated_of new ≡ after_in net c (dated_of old) f) where
  own_after : (u : ℕ) → get_or (state_of new.state).own u idle ≡ get_or (set (state_of old.state).own f.unit (effect_in net old f p).own) u idle
  own_after u = ap (λ (s : Dated). get_or s.state.own u idle) (after_is net c old new f p is after)

  -- what a fork has sent it has sent still, where it does not take the head
  sent_after : (u outs j : ℕ) → IsForkOf outs (kind_of net u) → (u ≡ f.unit → chans_of m.taken ≡ []) → get_or (get_or (state_of old.state).own u idle).sent j true ≡ true → get_or (get_or (state_of new.state).own u idle).sent j true ≡ true
  sent_after u outs j fork keeps sent = by (cases_eq u f.unit) (cases_lt u (length (state_of old.state).own))
    where
      x : Effect
      x = effect_in net old f p

      by : (u ≡ f.unit) ⊎ (u ≢ f.unit) → (u < length (state_of old.state).own) ⊎ (length (state_of old.state).own ≤ u) → get_or (get_or (state_of new.state).own u idle).sent j true ≡ true
      by (inr ne) w = ap (λ (o : Own). get_or o.sent j true) (own_after u ∙ get_or-set_other (state_of old.state).own f.unit u x.own idle ne) ∙ sent
      by (inl e) (inr past) =
          let n = length-set (state_of old.state).own f.unit x.own in
          ap (λ (o : Own). get_or o.sent j true) (own_after u ∙ get_or_past (set (state_of old.state).own f.unit x.own) u idle (omega arith))
      by (inl e) (inl within) =
          let F : ℕ → Type 0 = λ v. IsForkOf outs (kind_of net v) in
          let here : IsForkOf outs (kind_of net f.unit) = subst F e fork in
          let a = fork_act outs f.act (get_or (state_of old.state).own f.unit idle) [] (head_at net (state_of old.state) f.unit) x (sym (fork_effect net f.unit here.width outs here.shape (state_of old.state) f.act) ∙ sym is) in
          let i = send_inv outs a.0 (get_or (state_of old.state).own f.unit idle) [] (head_at net (state_of old.state) f.unit) x a.2 in
          let own : get_or (state_of new.state).own u idle ≡ x.own =
          own_after u ∙ (ap (λ v. get_or (set (state_of old.state).own f.unit x.own) v idle) e ∙ get_or-set_same (state_of old.state).own f.unit x.own idle (omega arith)) in
          let none : places_of p.takes ≡ [] = none_taken net f.unit p.takes (sym (ap (λ (q : Moves). chans_of q.taken) moves) ∙ keeps e) in
          let takes : cond (list_all (λ b. b) (set (get_or (state_of old.state).own f.unit idle).sent a.0 true)) (0 ∷ []) [] ≡ [] = ap (λ (y : Effect). y.takes) i.3 ∙ none in
          let S : ℕ → Type 0 = λ v. get_or (get_or (state_of old.state).own v idle).sent j true ≡ true in
          ap (λ (o : Own). get_or o.sent j true) (own ∙ ap (λ (y : Effect). y.own) (sym i.3))
          ∙ kept_sent a.0 j (get_or (state_of old.state).own f.unit idle).sent takes (subst S e sent)

  -- so what is shut is held back still
  pub shut_made : IsForgotten net old.pending f.unit m.taken → new.pending ≡ old.pending → new.used.base ≡ old.used.base → AreShut net start old → AreShut net start new
  shut_made forgotten same base shut u outs j within fork l s = by (shut u outs j within fork l was)
    where
      was : IsShut old.pending old.used.base.items u j
      was =
          let P : Pending → Type 0 = λ x. IsShut x old.used.base.items u j in
          let Q : _ → Type 0 = λ v. IsShut new.pending v.items u j in
          subst P same (subst Q base s)

      keeps : u ≡ f.unit → chans_of m.taken ≡ []
      keeps e = none (chans_of m.taken) refl
        where
          fork_here : is_fork (kind_of net f.unit) ≡ true
          fork_here = ap (λ v. is_fork (kind_of net v)) (sym e) ∙ ap is_fork fork.shape

          none : (xs : List ℕ) → chans_of m.taken ≡ xs → chans_of m.taken ≡ []
          none [] q = q
          none (x ∷ xs) q =
              let z : get_or old.pending.noted.items f.unit false ≡ false = forgotten fork_here (λ k. let y : x ∷ xs ≡ [] = sym q ∙ k in cc) in
              let t : true ≡ false = sym was.noted ∙ (ap (λ v. get_or old.pending.noted.items v false) e ∙ z) in
              cc

      by : IsHeldBack net start.state (state_of old.state) u j → IsHeldBack net start.state (state_of new.state) u j
      by (inr full) = inr full
      by (inl sent) = inl (sent_after u outs j fork keeps sent)

-- ---- from one cycle to the next

-- what is shut at a cycle's end has had the head, or its channel is full, or tokens were taken from it
pub shut_now : (net : Net) (c : ℕ) (start : Dated) (e : Engine) → ((d : ℕ) → IsFollowed net c start e d) → AreListed e.freed → AreShut net start e → AreShutNow net e
shut_now net c start e chans listed shut u outs j within fork l s = by (shut u outs j within fork l s)
  where
    clear : (chan_at net (out_of u j net.chans)).slots ≤ length (tokens_at start.state (out_of u j net.chans))
        → (length (tokens_at start.state (out_of u j net.chans)) < (chan_at net (out_of u j net.chans)).slots) ⊎ IsOldFull net c e (out_of u j net.chans)
        → IsHeldBack net (state_of e.state) (state_of e.state) u j ⊎ Holds (out_of u j net.chans) e.freed.list.items
    clear full (inl k) = absurd (omega arith)
    clear full (inr k) = inl (inr k.0)

    at : (chan_at net (out_of u j net.chans)).slots ≤ length (tokens_at start.state (out_of u j net.chans)) → (x : Bool) → get_or e.freed.marked.items (out_of u j net.chans) false ≡ x
        → IsHeldBack net (state_of e.state) (state_of e.state) u j ⊎ Holds (out_of u j net.chans) e.freed.list.items
    at full true m = inr (listed (out_of u j net.chans) m)
    at full false m = clear full ((chans (out_of u j net.chans)).clear m)

    by : IsHeldBack net start.state (state_of e.state) u j → IsHeldBack net (state_of e.state) (state_of e.state) u j ⊎ Holds (out_of u j net.chans) e.freed.list.items
    by (inl sent) = inl (inl sent)
    by (inr full) = at full (get_or e.freed.marked.items (out_of u j net.chans) false) refl

-- at the opening nothing is noted
pub none_shut : (net : Net) (n : ℕ) (e : Engine) → e.pending.noted.items ≡ replicate n false → AreShutNow net e
none_shut net n e none u outs j within fork l s =
    let z : true ≡ false = sym s.noted ∙ (ap (λ xs. get_or xs u false) none ∙ each n u) in cc
  where
    each : (n u : ℕ) → get_or (replicate n false) u false ≡ false
    each zero zero = refl
    each zero (suc u) = refl
    each (suc n) zero = refl
    each (suc n) (suc u) = each n u

-- as many units are told of, and as many places have room
pub places_kept : (net : Net) (n m : ℕ) (old new : Pending) → m ≡ n → IsOpened old new → HasPlaces net n old → HasPlaces net m new
places_kept net n m old new e o h = record {
  units = o.units ∙ h.units;
  room = (let a = h.room in let b = o.size in omega arith);
  small = (let a = h.small in omega arith);
}

-- nothing was changed
pub opened_same : (p : Pending) → IsOpened p p
opened_same p = record { units = refl; size = refl; shut = λ base u j s. s }

pub opened_then : (a b d : Pending) → IsOpened a b → IsOpened b d → IsOpened a d
opened_then a b d x y = record { units = y.units ∙ x.units; size = y.size ∙ x.size; shut = λ base u j s. x.shut base u j (y.shut base u j s) }

-- an output that was opened is not shut again
pub freed_kept : (net : Net) (base : List ℕ) (old new : Pending) (d : ℕ) → IsOpened old new → IsFreedOut net base old d → IsFreedOut net base new d
freed_kept net base old new d o f within few room s = f within few (let z = o.size in omega arith) (o.shut base (chan_at net d).from.unit (chan_at net d).from.place s)
