use Rattle.std.proofs.Common.{ap, length, replicate, subst, sym, ◌∙◌}
use Rattle.net_core.specs.States.{IsOf, state_of}
use Rattle.net_worker.specs.Portions.{AreFirstCells, first_lanes}
use Rattle.net_worker.proofs.PortionOpening.{rooms_counts, rooms_first, rooms_of}
use Rattle.net_worker.proofs.portion.Portion.new.Goals as goal

pub returns-clause-of : goal.returns-clause-of
returns-clause-of c =
    rooms_of c.args.net.now c.args.inputs.now c.in_ok-try_clone.field-0.value c.args.units.items c.in_ok-cells.cells.items c.args.chans.items c.in_ok-channels.channels.items c.in_ok-strays.strays
    (subst (IsOf c.args.net.now) (sym c.in_ok-try_clone.ensures) c.requires.of) (ap state_of c.in_ok-try_clone.ensures ∙ c.requires.opening) c.requires.units c.requires.chans
    (subst (λ us. AreFirstCells c.args.net.now c.args.inputs.now us c.in_ok-cells.cells.items) c.as_slice.ensures.value c.in_ok-cells.ensures)
    (c.in_ok-channels.ensures ∙ ap (first_lanes c.args.net.now) c.as_slice-2.ensures.value)
    (c.in_ok-strays.ensures.items_if_clones_equal (λ y e. e) ∙ ap (λ xss. replicate (length xss) 0) c.as_slice-3.ensures)

pub returns-clause-state : goal.returns-clause-state
returns-clause-state c =
    rooms_first c.args.net.now c.args.inputs.now c.in_ok-try_clone.field-0.value c.args.units.items c.in_ok-cells.cells.items c.args.chans.items c.in_ok-channels.channels.items c.in_ok-strays.strays
    (subst (IsOf c.args.net.now) (sym c.in_ok-try_clone.ensures) c.requires.of) (ap state_of c.in_ok-try_clone.ensures ∙ c.requires.opening) c.requires.units c.requires.chans
    (subst (λ us. AreFirstCells c.args.net.now c.args.inputs.now us c.in_ok-cells.cells.items) c.as_slice.ensures.value c.in_ok-cells.ensures)
    (c.in_ok-channels.ensures ∙ ap (first_lanes c.args.net.now) c.as_slice-2.ensures.value)
    (c.in_ok-strays.ensures.items_if_clones_equal (λ y e. e) ∙ ap (λ xss. replicate (length xss) 0) c.as_slice-3.ensures)

pub returns-clause-counts : goal.returns-clause-counts
returns-clause-counts c =
    rooms_counts c.args.net.now c.args.inputs.now c.in_ok-try_clone.field-0.value c.args.units.items c.in_ok-cells.cells.items c.args.chans.items c.in_ok-channels.channels.items c.in_ok-strays.strays
    (subst (IsOf c.args.net.now) (sym c.in_ok-try_clone.ensures) c.requires.of) (ap state_of c.in_ok-try_clone.ensures ∙ c.requires.opening) c.requires.units c.requires.chans
    (subst (λ us. AreFirstCells c.args.net.now c.args.inputs.now us c.in_ok-cells.cells.items) c.as_slice.ensures.value c.in_ok-cells.ensures)
    (c.in_ok-channels.ensures ∙ ap (first_lanes c.args.net.now) c.as_slice-2.ensures.value)
    (c.in_ok-strays.ensures.items_if_clones_equal (λ y e. e) ∙ ap (λ xss. replicate (length xss) 0) c.as_slice-3.ensures)
