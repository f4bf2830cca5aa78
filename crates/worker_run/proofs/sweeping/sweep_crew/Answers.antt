use Rattle.std.proofs.Common.{List, sym, subst}
use Rattle.std.specs.List.{All}
use Rattle.net_worker.specs.Workers.{IsMadeOf}
use Rattle.net_worker.specs.declared.worker.Worker.{Worker}
use Rattle.worker_run.specs.Crews.{AreMade, AreLinked}
use Rattle.worker_run.specs.private.Sweepings.{AreSweptBy}
use Rattle.worker_run.proofs.GatherLemmas.{slice_back}
use Rattle.worker_run.proofs.RunLemmas.{made_swept, linked_swept}
use Rattle.worker_run.proofs.sweeping.sweep_crew.Goals as goal

pub sweep_all-requires-clause-made : goal.sweep_all-requires-clause-made
sweep_all-requires-clause-made g c _ _ k d l =
    let t = c.args.crew.now.tables in
    let all : All (IsMadeOf t) c.as_mut_slice-workers.result.now = subst (All (IsMadeOf t)) (sym c.as_mut_slice-workers.ensures.value) (λ j e h. c.requires.made.made j e h (c.requires.whole j e h).not_closed) in
    all k d l

pub invariant_of-crew : goal.invariant_of-crew
invariant_of-crew g c =
    let t = c.args.crew.now.tables in
    let a = c.args.crew.now.workers in
    let y = c.sweep_all.new.workers in
    let by = subst (λ (l : List Worker). AreSweptBy t (g.G.Gate.is_open c.args.gate.now) l y) c.as_mut_slice-workers.ensures.value c.sweep_all.ensures in
    let swept = by.swept in
    let back = slice_back a.items y a.len a.ok.0 swept.long in
    record {
      made = subst (λ l. ∥ AreMade t l ∥₁) (sym back) (∣ made_swept t a.items y swept c.requires.made ∣₁);
      linked = subst (AreLinked t) (sym back) (linked_swept t a.items y swept c.args.crew.now.linked);
    }

pub returns-clause-swept : goal.returns-clause-swept
returns-clause-swept g c =
    let t = c.args.crew.now.tables in
    let a = c.args.crew.now.workers in
    let y = c.sweep_all.new.workers in
    let by = subst (λ (l : List Worker). AreSweptBy t (g.G.Gate.is_open c.args.gate.now) l y) c.as_mut_slice-workers.ensures.value c.sweep_all.ensures in
    let back = slice_back a.items y a.len a.ok.0 by.swept.long in
    subst (λ (l : List Worker). AreSweptBy t (g.G.Gate.is_open c.args.gate.now) a.items l) (sym back) by
