use Rattle.std.proofs.Common.{◌∙◌, ap, length, refl, subst, sym, ◌≤◌}
use Rattle.net_core.specs.declared.cell.Cell.TheVariants.{Plain}
use Rattle.net_core.specs.declared.state.State.{State as Stored}
use Rattle.net_core.specs.States.{cell_at}
use Rattle.net_worker.proofs.PortionLemmas.{cell_found, cell_left, exit_is, exit_tells, none_left}
use Rattle.net_worker.proofs.portion.Portion.exited.Goals as goal

pub returns-in-Some : goal.returns-in-Some
returns-in-Some c =
    exit_tells c.self.inside c.self.invariant c.args.self.now c.self.view_is c.exit-exit.result c.fired.result c.index.result.now c.fired.ensures
    (exit_is c.self.inside c.self.invariant c.args.self.now c.self.view_is c.exit-exit.result _ c.deref.ensures c.exit-exit.ensures)
    (cell_found c.self.inside c.self.invariant c.args.self.now c.self.view_is c.exit-exit.result c.in-Some.at c.index.result.now c.in-Some.ensures.some c.index.ensures)

pub returns-in-Some-cell : goal.returns-in-Some-cell
returns-in-Some-cell c =
    exit_tells c.self.inside c.self.invariant c.args.self.now c.self.view_is c.exit-exit.result c.fired-in-Some-cell.result c.in-Some-cell.cell.now c.fired-in-Some-cell.ensures
    (exit_is c.self.inside c.self.invariant c.args.self.now c.self.view_is c.exit-exit.result _ c.deref.ensures c.exit-exit.ensures)
    (c.in-Some-cell.ensures.1 ∙ (ap (λ (s : Stored). cell_at s c.exit-exit.result) c.deref-in-None.ensures ∙ cell_left c.self.inside c.self.invariant c.args.self.now c.self.view_is c.exit-exit.result c.in-None.ensures.none))

pub returns-in-None-cell : goal.returns-in-None-cell
returns-in-None-cell c =
    exit_tells c.self.inside c.self.invariant c.args.self.now c.self.view_is c.exit-exit.result _ Plain refl
    (exit_is c.self.inside c.self.invariant c.args.self.now c.self.view_is c.exit-exit.result _ c.deref.ensures c.exit-exit.ensures)
    (sym (none_left c.self.inside c.self.invariant c.args.self.now c.self.view_is c.exit-exit.result (subst (λ (s : Stored). length s.cells.items ≤ c.exit-exit.result) c.deref-in-None.ensures c.in-None-cell.ensures)))
