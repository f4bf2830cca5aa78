use Rattle.net_worker.proofs.PortionLemmas.{cell_read, unit_here}
use Rattle.net_worker.proofs.portion.Portion.cell.Goals as goal

pub returns : goal.returns
returns c =
    cell_read c.self.inside c.self.invariant c.args.self.now c.self.view_is c.args.unit c.index-place.result.now c.index.result.now
    (unit_here c.self.inside c.self.invariant c.args.self.now c.self.view_is _ c.args.unit c.index-place.result.now c.deref.ensures c.index-place.ensures c.requires.here) c.index.ensures
