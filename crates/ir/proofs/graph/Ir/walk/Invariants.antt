use Rattle.ir.specs.Graphs.{first_visit}
use Rattle.ir.specs.Passes.{IsAt}
use Rattle.ir.proofs.graph.Ir.walk.Given as goal

abbrev pub invariant-loop-visit : goal.invariant-loop-visit
invariant-loop-visit l = IsAt l.self (first_visit l.fn.scalars l.fn.arrays) l.visit (record { block = l.block; given = l.given; arrays = l.arrays }) l.weight l.strays
