use Rattle.net_check.proofs.FirstLemmas.{noted_step}
use Rattle.net_check.proofs.firsts.firsts.Goals as goal

pub loop-u-preserved : goal.loop-u-preserved
loop-u-preserved c = noted_step c.args.role c.args.units.now c.loop-u.u c.args.count _ c.number_of.result c.loop-u.table.items _ c.loop-u-test.true c.index-units-u.is c.number_of.ensures c.note.ensures c.loop-u.invariant
