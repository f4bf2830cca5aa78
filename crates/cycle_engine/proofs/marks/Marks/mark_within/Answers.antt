use Rattle.std.proofs.Common.{◌≡◌, true, set, refl, rules}
use Rattle.std.specs.Vec.{with_item}
use Rattle.cycle_engine.specs.declared.marks.Marks.{Marks}
use Rattle.cycle_engine.proofs.MarkLemmas.{keeps_marked}
use Rattle.cycle_engine.proofs.marks.Marks.mark_within.Goals as goal

pub returns-clause-kept : goal.returns-clause-kept
returns-clause-kept c =
    let new : Marks = record { marked = with_item c.args.self.now.marked c.args.unit true; list = c.push.new.self; queues = c.args.self.now.queues } in
    let l = c.requires in
    let m : new.marked.items ≡ set c.args.self.now.marked.items c.args.unit true = search rules in
    keeps_marked c.args.self.now new c.args.unit l m c.in_ok-push.ensures refl
