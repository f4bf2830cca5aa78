use Rattle.kernel_bench.proofs.Filling.{IsDrawn}
use Rattle.kernel_bench.proofs.drawn.places.Given as goal

abbrev pub invariant-loop-count : goal.invariant-loop-count
invariant-loop-count l = IsDrawn l.number l._count l.list l.state
