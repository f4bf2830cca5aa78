-- Cycles in which nothing can happen, and the next in which something may.
use Rattle.std.proofs.Common.{◌≡◌, ℕ, zero, suc, ◌+◌, ◌-◌, ◌<◌, ◌≤◌, ◌⊎◌, inl, inr, Bool, true, false, List, [], ◌∷◌, ◌++◌, length, get_or, sym, refl, ap, subst, ◌∙◌, arith}
use Rattle.el_base.specs.Limits.{max_delay}
use Rattle.net_types.specs.declared.net.Net.{Net}
use Rattle.net_types.specs.declared.firing.Firing.{Firing}
use Rattle.net_types.specs.declared.firing.Inputs.{Inputs}
use Rattle.net_types.specs.Nets.{chan_at, out_of}
use Rattle.net_core.specs.States.{state_of, dates_of}
use Rattle.cycle_engine.specs.declared.engine.Engine.{Engine}
use Rattle.cycle_engine.specs.declared.engine.Bounds.{Bounds}
use Rattle.cycle_engine.specs.private.Marking.{Holds, HasUnit, IsMarked, IsAwaited, coming_in, entries_at}
use Rattle.cycle_engine.specs.private.Trials.{dated_of}
use Rattle.cycle_engine.specs.private.Pending.{IsHeldBack}
use Rattle.cycle_engine.specs.private.Goings.{Past, IsReady, AreComing, AreShut, HasDone, IsStirred, IsQuiet, IsNextCycle}
use Rattle.cycle_engine.specs.private.Places.{IsFull, HasRun, trimmed}
use Rattle.cycle_engine.proofs.DateLemmas.{each_as}
use Rattle.cycle_engine.proofs.MarkLemmas.{none_held}
use Rattle.cycle_engine.proofs.NextLemmas.{begun_followed}
use Rattle.cycle_engine.proofs.RunLemmas.{cycle_done, to_do, trimmed_none}
use Rattle.cycle_engine.proofs.StartLemmas.{begun_going}

-- ---- one cycle

module _ (net : Net) (past : Past) (b : Bounds) (c : ℕ) (e : Engine) (ready : IsReady net b e) (done : HasDone net past b c e) (quiet : IsQuiet e) (none : coming_in e.notes c ≡ []) where
  unfired : (u : ℕ) → HasUnit u e.fired.items → ⊥
  unfired u h = (let l = ap length quiet.fired in let w : h.at < length e.fired.items = h.within in omega arith)

  unmarked : (u : ℕ) → IsMarked e.marks u → ⊥
  unmarked u m = by (ready.listed.each u m)
    where
      by : IsAwaited net e.marks u → ⊥
      by (inl h) = none_held e.marks.list.items u quiet.list h
      by (inr h) = none_held e.marks.queues.items u quiet.queues h.1

  unstirred : (u : ℕ) → IsStirred net c e u → ⊥
  unstirred u (inl m) = unmarked u m
  unstirred u (inr (inl h)) = none_held e.again.items u quiet.again h.0
  unstirred u (inr (inr (inl f))) = none_held e.freed.list.items f.chan quiet.freed f.listed
  unstirred u (inr (inr (inr r))) = none_held (coming_in e.notes c) r.chan none r.coming

  unfreed : (d : ℕ) → get_or e.freed.marked.items d false ≡ false
  unfreed d = by (get_or e.freed.marked.items d false) refl
    where
      by : (x : Bool) → get_or e.freed.marked.items d false ≡ x → get_or e.freed.marked.items d false ≡ false
      by false m = m
      by true m = absurd (none_held e.freed.list.items d quiet.freed (done.listed d m))

  settled : (u : ℕ) → (get_or e.begun.items u 0 ≡ entries_at (state_of e.state) u) ⊎ Holds u e.again.items → get_or e.begun.items u 0 ≡ entries_at (state_of e.state) u
  settled u (inl k) = k
  settled u (inr h) = absurd (none_held e.again.items u quiet.again h)

  shut : AreShut net (dated_of e) e
  shut u outs j within fork l s = by (done.shut u outs j within fork l s)
    where
      by : IsHeldBack net (state_of e.state) (state_of e.state) u j ⊎ Holds (out_of u j net.chans) e.freed.list.items → IsHeldBack net (state_of e.state) (state_of e.state) u j
      by (inl h) = h
      by (inr h) = absurd (none_held e.freed.list.items (out_of u j net.chans) quiet.freed h)

  coming : AreComing net (c + 1) e
  coming d = each_as (λ x. (x < c) × (c ≤ x + (chan_at net d).delay → Holds d (coming_in e.notes (x + (chan_at net d).delay)))) (λ x. (x < c + 1) × (c + 1 ≤ x + (chan_at net d).delay → Holds d (coming_in e.notes (x + (chan_at net d).delay))))
      (λ x k. (omega (arith, k.0), λ l. k.1 (omega arith))) (get_or (dates_of e.state) d []) (done.coming d)

  full : IsFull net past b c (dated_of e) e
  full = record {
    going = begun_going net past b c e e done
        (record { chans = begun_followed net c e e refl unfreed done.coming; queues = λ u l. settled u (done.entries u l) })
        refl quiet.fired (let l = ap length quiet.fired in omega arith) refl done.listed coming done.control shut;
    full = λ g un m. done.next g m (unstirred g.unit);
    kept = λ g h k. absurd (unfired g.unit h);
    again = λ v l h. absurd (unfired v h);
  }

  -- it has no firing
  pub quiet_cycle : HasDone net (record past { cycles = past.cycles ++ [] ∷ [] }) b (c + 1) e
  quiet_cycle =
      let P : List Firing → Type 0 = λ fs. HasDone net (record past { cycles = past.cycles ++ fs ∷ [] }) b (c + 1) e in
      subst P quiet.fired (cycle_done net past b c (dated_of e) e ready.engine full)

-- ---- some cycles

-- so many cycles more without a firing
abbrev passed : List (List Firing) → ℕ → List (List Firing)
passed fss zero = fss
passed fss (suc n) = passed (fss ++ [] ∷ []) n

trimmed_passed : (fss : List (List Firing)) (n : ℕ) → trimmed (passed fss n) ≡ trimmed fss
trimmed_passed fss zero = refl
trimmed_passed fss (suc n) = trimmed_passed (fss ++ [] ∷ []) n ∙ trimmed_none fss

passed_done : (net : Net) (inputs : Inputs) (b : Bounds) (e : Engine) (fss : List (List Firing)) (c n : ℕ) → IsReady net b e → IsQuiet e → ((k : ℕ) → c ≤ k → k < c + n → coming_in e.notes k ≡ [])
    → HasDone net (record { inputs = inputs; cycles = fss }) b c e → HasDone net (record { inputs = inputs; cycles = passed fss n }) b (c + n) e
passed_done net inputs b e fss c zero ready quiet none done =
    let z : c ≡ c + 0 = omega arith in
    let P : ℕ → Type 0 = λ k. HasDone net (record { inputs = inputs; cycles = fss }) b k e in
    subst P z done
passed_done net inputs b e fss c (suc n) ready quiet none done =
    let z : c + 1 + n ≡ c + suc n = omega arith in
    let P : ℕ → Type 0 = λ k. HasDone net (record { inputs = inputs; cycles = passed (fss ++ [] ∷ []) n }) b k e in
    subst P z (passed_done net inputs b e (fss ++ [] ∷ []) (c + 1) n ready quiet (λ k l m. none k (omega arith) (omega arith))
    (quiet_cycle net (record { inputs = inputs; cycles = fss }) b c e ready done quiet (none c (omega arith) (omega arith))))

-- a run goes on with the next cycle in which something may happen
pub run_passed : (net : Net) (inputs : Inputs) (b : Bounds) (e : Engine) (c last t : ℕ) (going : Bool) → IsNextCycle e c last t → HasRun net inputs b e c last going → HasRun net inputs b e t last going
run_passed net inputs b e c last t going next run = by next.none
  where
    by : (t ≡ c) ⊎ (IsQuiet e × ((t ≤ last + max_delay) × ((k : ℕ) → c ≤ k → k < t → coming_in e.notes k ≡ []))) → HasRun net inputs b e t last going
    by (inl same) = let P : ℕ → Type 0 = λ k. HasRun net inputs b e k last going in subst P (sym same) run
    by (inr w) =
        let z : c + (t - c) ≡ t = omega (arith, next.on) in
        let P : ℕ → Type 0 = λ k. HasDone net (record { inputs = inputs; cycles = passed run.cycles (t - c) }) b k e in
        record {
          cycles = passed run.cycles (t - c);
          ready = run.ready;
          done = subst P z (passed_done net inputs b e run.cycles c (t - c) run.ready w.0 (λ k l m. w.1.1 k l (omega arith)) run.done);
          number = run.number ∙ sym (ap length (trimmed_passed run.cycles (t - c)));
          near = λ g. w.1.0;
          rest = run.rest;
          few = run.few;
        }

-- and less is left to be done
pub less_passed : (limit made c last t : ℕ) (going : Bool) → c ≤ t → to_do limit made t last going ≤ to_do limit made c last going
less_passed limit made c last t true l = omega arith
less_passed limit made c last t false l = omega arith
