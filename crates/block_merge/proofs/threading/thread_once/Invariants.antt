use Rattle.block_merge.proofs.WithEdges.{AreThreaded}
use Rattle.block_merge.proofs.threading.thread_once.Given as goal

abbrev pub invariant-loop-at : goal.invariant-loop-at
invariant-loop-at l = AreThreaded l.blocks l.edges l.into l.at
