use Rattle.std.proofs.Common.{◌≡◌, false, set, refl, sym, subst, rules, arith}
use Rattle.std.specs.Vec.{with_item}
use Rattle.cycle_engine.specs.declared.marks.Marks.{Marks}
use Rattle.cycle_engine.specs.private.Marking.{Holds}
use Rattle.cycle_engine.proofs.MarkLemmas.{holds_last, taken_marked}
use Rattle.cycle_engine.proofs.marks.Marks.take.Goals as goal

pub index_mut-requires : goal.index_mut-requires
index_mut-requires c =
    let l = c.requires c.in_ok-unit.unit (subst (Holds c.in_ok-unit.unit) (sym c.in_ok-unit.ensures) (holds_last c.pop.new.self.items c.in_ok-unit.unit)) in
    omega (arith, l)

pub returns : goal.returns
returns c =
    let new : Marks = record { marked = with_item c.args.self.now.marked c.in_ok-unit.unit false; list = c.pop.new.self; queues = c.args.self.now.queues } in
    let m : new.marked.items ≡ set c.args.self.now.marked.items c.in_ok-unit.unit false = search rules in
    taken_marked c.args.self.now new c.in_ok-unit.unit c.requires c.in_ok-unit.ensures refl m
