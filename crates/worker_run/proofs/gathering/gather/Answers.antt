use Rattle.std.proofs.Common.{◌≡◌, ◌<◌, true, List, length, ap, ◌∙◌, sym, subst, arith}
use Rattle.std.specs.List.{All}
use Rattle.net_core.specs.Runs.{Run}
use Rattle.net_core.specs.States.{state_of}
use Rattle.net_worker.specs.Merged.{entries_of}
use Rattle.net_worker.specs.Views.{inputs_of, is_closed}
use Rattle.net_worker.specs.declared.worker.Worker.{Worker}
use Rattle.net_worker.proofs.Logs.{merged_length}
use Rattle.worker_run.specs.Crews.{AreMade, AreLinked, AreSameWork, logs_of, merged_of}
use Rattle.worker_run.specs.private.Settlings.{AreKept}
use Rattle.worker_run.proofs.AssembleLemmas.{some_unit}
use Rattle.worker_run.proofs.GatherLemmas.{slice_back, work_stays, logs_stay, logs_handed, handed_crew, gather_can, gather_state, gather_rests, gather_run, run_counts, few_hidden, entries_few, strays_few, all_hold, all_hold_own, owners_below, can_drain}
use Rattle.worker_run.proofs.KeptLemmas.{made_hidden, whole_kept, are_linked_kept}
use Rattle.worker_run.proofs.gathering.gather.Goals as goal

pub invariant_of-crew : goal.invariant_of-crew
invariant_of-crew c =
    let a = c.args.crew.now.workers.items in
    let t = c.args.crew.now.tables in
    let b = c.settle.new.workers in
    let x = c.hand_over.new.workers in
    let kept = subst (λ (l : List Worker). AreKept l b) c.as_mut_slice-workers.ensures.value c.settle.ensures.kept in
    let made = made_hidden t a b kept c.args.crew.now.made in
    let long : length x ≡ length a = c.hand_over.ensures.handed.long ∙ kept.long in
    let back = slice_back a x c.args.crew.now.workers.len c.args.crew.now.workers.ok.0 long in
    record {
      made = subst (λ l. ∥ AreMade t l ∥₁) (sym back) (handed_crew t b x (state_of c.hand_over.new.into) c.hand_over.ensures.handed made);
      linked = subst (AreLinked t) (sym back) c.hand_over.ensures.handed.linked;
    }

pub hand_over-requires-clause-few : goal.hand_over-requires-clause-few
hand_over-requires-clause-few c =
    let a = c.args.crew.now.workers.items in
    let t = c.args.crew.now.tables in
    let b = c.settle.new.workers in
    let kept = subst (λ (l : List Worker). AreKept l b) c.as_mut_slice-workers.ensures.value c.settle.ensures.kept in
    let made = made_hidden t a b kept c.args.crew.now.made in
    few_hidden t b made

pub hand_over-requires-clause-each : goal.hand_over-requires-clause-each
hand_over-requires-clause-each c =
    let a = c.args.crew.now.workers.items in
    let t = c.args.crew.now.tables in
    let b = c.settle.new.workers in
    let kept = subst (λ (l : List Worker). AreKept l b) c.as_mut_slice-workers.ensures.value c.settle.ensures.kept in
    let made = made_hidden t a b kept c.args.crew.now.made in
    let whole = whole_kept t a b kept c.requires.whole in
    strays_few t b made whole

pub hand_over-requires-clause-below : goal.hand_over-requires-clause-below
hand_over-requires-clause-below c =
    let a = c.args.crew.now.workers.items in
    let t = c.args.crew.now.tables in
    let b = c.settle.new.workers in
    let kept = subst (λ (l : List Worker). AreKept l b) c.as_mut_slice-workers.ensures.value c.settle.ensures.kept in
    let made = made_hidden t a b kept c.args.crew.now.made in
    owners_below t b c.args.net.now c.requires.net made

pub hand_over-requires-clause-holds : goal.hand_over-requires-clause-holds
hand_over-requires-clause-holds c =
    let a = c.args.crew.now.workers.items in
    let t = c.args.crew.now.tables in
    let b = c.settle.new.workers in
    let kept = subst (λ (l : List Worker). AreKept l b) c.as_mut_slice-workers.ensures.value c.settle.ensures.kept in
    let made = made_hidden t a b kept c.args.crew.now.made in
    let whole = whole_kept t a b kept c.requires.whole in
    all_hold t b c.args.net.now c.requires.net made whole

pub hand_over-requires-clause-own : goal.hand_over-requires-clause-own
hand_over-requires-clause-own c =
    let a = c.args.crew.now.workers.items in
    let t = c.args.crew.now.tables in
    let b = c.settle.new.workers in
    let kept = subst (λ (l : List Worker). AreKept l b) c.as_mut_slice-workers.ensures.value c.settle.ensures.kept in
    let made = made_hidden t a b kept c.args.crew.now.made in
    let whole = whole_kept t a b kept c.requires.whole in
    all_hold_own t b made whole

pub hand_over-requires-clause-linked : goal.hand_over-requires-clause-linked
hand_over-requires-clause-linked c =
    let a = c.args.crew.now.workers.items in
    let t = c.args.crew.now.tables in
    let b = c.settle.new.workers in
    let kept = subst (λ (l : List Worker). AreKept l b) c.as_mut_slice-workers.ensures.value c.settle.ensures.kept in
    are_linked_kept t a b kept c.args.crew.now.linked

pub hand_over-requires-clause-can : goal.hand_over-requires-clause-can
hand_over-requires-clause-can c =
    let a = c.args.crew.now.workers.items in
    let t = c.args.crew.now.tables in
    let b = c.settle.new.workers in
    let kept = subst (λ (l : List Worker). AreKept l b) c.as_mut_slice-workers.ensures.value c.settle.ensures.kept in
    let made = made_hidden t a b kept c.args.crew.now.made in
    let whole = whole_kept t a b kept c.requires.whole in
    can_drain t b c.args.net.now c.requires.net c.settle.ensures.checked made whole c.settle.ensures.sound

pub count_entries-requires : goal.count_entries-requires
count_entries-requires c =
    let a = c.args.crew.now.workers.items in
    let t = c.args.crew.now.tables in
    let b = c.settle.new.workers in
    let x = c.hand_over.new.workers in
    let kept = subst (λ (l : List Worker). AreKept l b) c.as_mut_slice-workers.ensures.value c.settle.ensures.kept in
    let made = made_hidden t a b kept c.args.crew.now.made in
    let whole = whole_kept t a b kept c.requires.whole in
    let to = state_of c.hand_over.new.into in
    let handed = c.hand_over.ensures.handed in
    let few = entries_few t b made whole in
    let logs = logs_handed t b x to handed in
    omega (arith, few, ap entries_of logs)

pub returns-clause-run : goal.returns-clause-run
returns-clause-run c =
    let a = c.args.crew.now.workers.items in
    let t = c.args.crew.now.tables in
    let b = c.settle.new.workers in
    let x = c.hand_over.new.workers in
    let kept = subst (λ (l : List Worker). AreKept l b) c.as_mut_slice-workers.ensures.value c.settle.ensures.kept in
    let made = made_hidden t a b kept c.args.crew.now.made in
    let long : length x ≡ length a = c.hand_over.ensures.handed.long ∙ kept.long in
    let back = slice_back a x c.args.crew.now.workers.len c.args.crew.now.workers.ok.0 long in
    let checked = c.settle.ensures.checked in
    let to = state_of c.hand_over.new.into in
    let handed = c.hand_over.ensures.handed in
    let some : 0 < length b = omega (arith, owners_below t b c.args.net.now c.requires.net made c.args.into.now.exit (some_unit c.args.net.now c.args.into.now c.requires.of)) in
    let ends = gather_state t a b x c.args.net.now to c.requires.net checked c.args.crew.now.made c.requires.whole kept c.settle.ensures.sound some handed in
    let can = gather_can t a b x c.args.net.now to c.requires.net checked c.args.crew.now.made c.requires.whole kept c.settle.ensures.sound handed in
    let run = gather_run c.args.net.now (inputs_of t) x to can ends in
    subst (λ (l : List Worker). Run c.args.net.now (inputs_of t) (merged_of l) to) (sym back) run

pub returns-clause-count : goal.returns-clause-count
returns-clause-count c =
    let a = c.args.crew.now.workers.items in
    let b = c.settle.new.workers in
    let x = c.hand_over.new.workers in
    let kept = subst (λ (l : List Worker). AreKept l b) c.as_mut_slice-workers.ensures.value c.settle.ensures.kept in
    let long : length x ≡ length a = c.hand_over.ensures.handed.long ∙ kept.long in
    let back = slice_back a x c.args.crew.now.workers.len c.args.crew.now.workers.ok.0 long in
    c.count_entries.ensures ∙ (sym (merged_length (logs_of x)) ∙ ap (λ (l : List Worker). length (merged_of l)) (sym back))

pub returns-clause-all : goal.returns-clause-all
returns-clause-all c =
    let a = c.args.crew.now.workers.items in
    let b = c.settle.new.workers in
    let x = c.hand_over.new.workers in
    let kept = subst (λ (l : List Worker). AreKept l b) c.as_mut_slice-workers.ensures.value c.settle.ensures.kept in
    let long : length x ≡ length a = c.hand_over.ensures.handed.long ∙ kept.long in
    let back = slice_back a x c.args.crew.now.workers.len c.args.crew.now.workers.ok.0 long in
    c.count_entries.ensures ∙ ap (λ (l : List Worker). entries_of (logs_of l)) (sym back)

pub returns-clause-same : goal.returns-clause-same
returns-clause-same c =
    let a = c.args.crew.now.workers.items in
    let t = c.args.crew.now.tables in
    let b = c.settle.new.workers in
    let x = c.hand_over.new.workers in
    let kept = subst (λ (l : List Worker). AreKept l b) c.as_mut_slice-workers.ensures.value c.settle.ensures.kept in
    let long : length x ≡ length a = c.hand_over.ensures.handed.long ∙ kept.long in
    let back = slice_back a x c.args.crew.now.workers.len c.args.crew.now.workers.ok.0 long in
    let to = state_of c.hand_over.new.into in
    let handed = c.hand_over.ensures.handed in
    subst (AreSameWork a) (sym back) (work_stays t a b x to kept handed)

pub returns-clause-logs : goal.returns-clause-logs
returns-clause-logs c =
    let a = c.args.crew.now.workers.items in
    let t = c.args.crew.now.tables in
    let b = c.settle.new.workers in
    let x = c.hand_over.new.workers in
    let kept = subst (λ (l : List Worker). AreKept l b) c.as_mut_slice-workers.ensures.value c.settle.ensures.kept in
    let long : length x ≡ length a = c.hand_over.ensures.handed.long ∙ kept.long in
    let back = slice_back a x c.args.crew.now.workers.len c.args.crew.now.workers.ok.0 long in
    let to = state_of c.hand_over.new.into in
    let handed = c.hand_over.ensures.handed in
    ap logs_of back ∙ logs_stay t a b x to kept handed

pub returns-clause-rests : goal.returns-clause-rests
returns-clause-rests c =
    let a = c.args.crew.now.workers.items in
    let t = c.args.crew.now.tables in
    let b = c.settle.new.workers in
    let x = c.hand_over.new.workers in
    let kept = subst (λ (l : List Worker). AreKept l b) c.as_mut_slice-workers.ensures.value c.settle.ensures.kept in
    let made = made_hidden t a b kept c.args.crew.now.made in
    let checked = c.settle.ensures.checked in
    let to = state_of c.hand_over.new.into in
    let handed = c.hand_over.ensures.handed in
    let some : 0 < length b = omega (arith, owners_below t b c.args.net.now c.requires.net made c.args.into.now.exit (some_unit c.args.net.now c.args.into.now c.requires.of)) in
    let ends = gather_state t a b x c.args.net.now to c.requires.net checked c.args.crew.now.made c.requires.whole kept c.settle.ensures.sound some handed in
    gather_rests t a b x c.args.net.now to c.requires.net checked c.args.crew.now.made c.requires.whole kept c.settle.ensures.sound handed ends

pub returns-clause-closed : goal.returns-clause-closed
returns-clause-closed c =
    let a = c.args.crew.now.workers.items in
    let b = c.settle.new.workers in
    let x = c.hand_over.new.workers in
    let kept = subst (λ (l : List Worker). AreKept l b) c.as_mut_slice-workers.ensures.value c.settle.ensures.kept in
    let long : length x ≡ length a = c.hand_over.ensures.handed.long ∙ kept.long in
    let back = slice_back a x c.args.crew.now.workers.len c.args.crew.now.workers.ok.0 long in
    subst (λ (l : List Worker). All (λ w. is_closed w ≡ true) l) (sym back) c.hand_over.ensures.handed.closed

pub returns-clause-counts : goal.returns-clause-counts
returns-clause-counts c =
    let a = c.args.crew.now.workers.items in
    let t = c.args.crew.now.tables in
    let b = c.settle.new.workers in
    let x = c.hand_over.new.workers in
    let kept = subst (λ (l : List Worker). AreKept l b) c.as_mut_slice-workers.ensures.value c.settle.ensures.kept in
    let made = made_hidden t a b kept c.args.crew.now.made in
    let whole = whole_kept t a b kept c.requires.whole in
    let checked = c.settle.ensures.checked in
    let to = state_of c.hand_over.new.into in
    let handed = c.hand_over.ensures.handed in
    let some : 0 < length b = omega (arith, owners_below t b c.args.net.now c.requires.net made c.args.into.now.exit (some_unit c.args.net.now c.args.into.now c.requires.of)) in
    let ends = gather_state t a b x c.args.net.now to c.requires.net checked c.args.crew.now.made c.requires.whole kept c.settle.ensures.sound some handed in
    let can = gather_can t a b x c.args.net.now to c.requires.net checked c.args.crew.now.made c.requires.whole kept c.settle.ensures.sound handed in
    let run = gather_run c.args.net.now (inputs_of t) x to can ends in
    let few = entries_few t b made whole in
    let logs = logs_handed t b x to handed in
    run_counts c.args.net.now (inputs_of t) x to checked run (omega (arith, few, ap entries_of logs))
