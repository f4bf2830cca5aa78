use Rattle.std.proofs.Common.{length}
use Rattle.c_parse.proofs.Parting.{Free}
use Rattle.c_parse.proofs.program.parted.Given as goal

abbrev pub invariant-free : goal.invariant-free
invariant-free l = Free l.bar l.tokens l.back

abbrev pub decreases-free : goal.decreases-free
decreases-free l = length l.back
