use Rattle.lsq_core.proofs.IndexLemmas.{pending_within}
use Rattle.lsq_core.proofs.index.Index.add.Goals as goal

pub add-requires-7-clause-new : goal.add-requires-7-clause-new
add-requires-7-clause-new g c = pending_within g.shape.1 c.args.self.now.pending c.args.new.now c.requires.0.pending c.requires.0.some
