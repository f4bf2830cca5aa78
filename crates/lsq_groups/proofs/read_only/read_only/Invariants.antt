use Rattle.lsq_groups.specs.Stores.{TellsReadOnly}
use Rattle.lsq_groups.proofs.read_only.read_only.Given as goal

abbrev pub invariant-loop-array : goal.invariant-loop-array
invariant-loop-array l = TellsReadOnly l.blocks l.array l.list
