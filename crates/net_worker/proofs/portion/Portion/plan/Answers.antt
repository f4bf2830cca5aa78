use Rattle.std.proofs.Common.{ap, ◌∙◌}
use Rattle.net_types.specs.declared.net.Net.{Net}
use Rattle.net_core.proofs.StateLemmas.{plan_keeps, plan_shape}
use Rattle.net_worker.proofs.PortionMoves.{cell_inside, kind_read}
use Rattle.net_worker.proofs.portion.Portion.plan.Goals as goal

pub plan_firing-requires-clause-keeps : goal.plan_firing-requires-clause-keeps
plan_firing-requires-clause-keeps c =
    plan_keeps c.args.net.now c.args.self.now.state c.args.firing.unit c.index-as_slice-firing.result c.cell-cell.result.now c.requires.of c.requires.within
    (kind_read c.args.net.now c.as_slice.result.now c.args.firing.unit c.index-as_slice-firing.result (c.as_slice.ensures ∙ ap (λ (n : Net). n.units) c.net.ensures.net) c.requires.within c.index-as_slice-firing.is)
    (cell_inside c.args.net.now c.args.self.now.state c.args.firing.unit c.cell-cell.result.now c.requires.of c.requires.within c.cell-cell.ensures)

pub plan_firing-requires-clause-shape : goal.plan_firing-requires-clause-shape
plan_firing-requires-clause-shape c =
    plan_shape c.args.net.now c.args.self.now.state c.args.firing.unit c.index-as_slice-firing.result c.cell-cell.result.now c.used-array.result.now c.requires.of c.requires.within
    (kind_read c.args.net.now c.as_slice.result.now c.args.firing.unit c.index-as_slice-firing.result (c.as_slice.ensures ∙ ap (λ (n : Net). n.units) c.net.ensures.net) c.requires.within c.index-as_slice-firing.is)
    (cell_inside c.args.net.now c.args.self.now.state c.args.firing.unit c.cell-cell.result.now c.requires.of c.requires.within c.cell-cell.ensures) c.used-array.ensures
