use Rattle.std.proofs.Common.{refl, ap, set}
use Rattle.net_core.proofs.ExchangeLemmas.{cell_set_of}
use Rattle.net_core.proofs.state.State.exchange_cell.Goals as goal

pub returns-clause-of : goal.returns-clause-of
returns-clause-of c = cell_set_of c.args.net.now c.args.self.now _ c.args.unit c.args.other.now c.requires.within c.requires.of c.requires.keeps c.requires.shape c.requires.serial refl refl refl (ap (set c.args.self.now.cells.items c.args.unit) c.swap.ensures.x_after)
