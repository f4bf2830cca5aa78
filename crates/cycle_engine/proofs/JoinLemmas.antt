-- The firings of cycles, one cycle after another, are a run.
use Rattle.std.proofs.Common.{◌≡◌, ℕ, suc, ◌+◌, Option, Some, None, List, [], ◌∷◌, ◌++◌, length, refl, ap, subst, ◌∙◌, length-append}
use Rattle.net_types.specs.declared.net.Net.{Net}
use Rattle.net_types.specs.declared.firing.Firing.{Firing}
use Rattle.net_core.specs.Fire.{State, Effect, effect, enabled, after, after_effect}
use Rattle.net_core.specs.Runs.{Leads, Run, Long}
use Rattle.net_core.specs.Laws.{LimitIsLong}
use Rattle.net_core.proofs.PathLemmas.{run-append}
use Rattle.cycle_engine.specs.Cycles.{Dated, dated_opening, after_by, after_in, Makes, Cycles}
use Rattle.cycle_engine.specs.Bounds.{firing_count}
use Rattle.cycle_engine.specs.Cuts.{joined}
use Rattle.cycle_engine.specs.Joins.{CyclesAreRuns, CutsAreLong}

-- dates leave the state as it is
pub state_after : (net : Net) (c : ℕ) (s : Dated) (f : Firing) → (after_in net c s f).state ≡ after net s.state f
state_after net c s f = by (effect net s.state f)
  where
    by : (e : Option Effect) → (after_by net c s f.unit e).state ≡ after_effect net s.state f.unit e
    by None = refl
    by (Some e) = refl

makes_lead : (net : Net) (c : ℕ) (start s : Dated) (fs : List Firing) (t : Dated) → Makes net c start s fs t → Leads net s.state fs t.state
makes_lead net c start s [] t m = ap (λ (x : Dated). x.state) m
makes_lead net c start s (f ∷ fs) t m =
    let P : State → Type 0 = λ x. Leads net x fs t.state in
    (m.0.turn, subst P (state_after net c s f) (makes_lead net c start (after_in net c s f) fs t m.2))

cycles_lead : (net : Net) (c : ℕ) (s : Dated) (fss : List (List Firing)) (t : Dated) → Cycles net c s fss t → Leads net s.state (joined fss) t.state
cycles_lead net c s [] t y = ap (λ (x : Dated). x.state) y
cycles_lead net c s (fs ∷ fss) t y =
    run-append State Firing (enabled net) (after net) s.state fs (joined fss) y.0.state t.state (makes_lead net c s s fs y.0 y.1.makes) (cycles_lead net (suc c) y.0 fss t y.2)

joined_count : (fss : List (List Firing)) → length (joined fss) ≡ firing_count fss
joined_count [] = refl
joined_count (fs ∷ fss) = length-append fs (joined fss) ∙ ap (λ n. length fs + n) (joined_count fss)

pub are_runs : CyclesAreRuns
are_runs net inputs cycles to y = record { run = cycles_lead net 0 (dated_opening net inputs) cycles to y; count = joined_count cycles }

pub are_long : LimitIsLong → CutsAreLong
are_long law net inputs limit cut =
    let fs : List Firing = joined cut.cycles ++ cut.last in
    let done : Run net inputs (joined cut.cycles) cut.start.state = cycles_lead net 0 (dated_opening net inputs) cut.cycles cut.start cut.done in
    let last : Leads net cut.start.state cut.last cut.to.state = makes_lead net (length cut.cycles) cut.start cut.start cut.last cut.to cut.makes in
    let run : Run net inputs (joined cut.cycles ++ cut.last) cut.to.state =
    run-append State Firing (enabled net) (after net) (dated_opening net inputs).state (joined cut.cycles) cut.last cut.start.state cut.to.state done last in
    let count : length (joined cut.cycles ++ cut.last) ≡ limit = length-append (joined cut.cycles) cut.last ∙ ap (λ n. n + length cut.last) (joined_count cut.cycles) ∙ cut.count in
    subst (Long net inputs) count (law net inputs (joined cut.cycles ++ cut.last) cut.to.state cut.next run cut.goes)
