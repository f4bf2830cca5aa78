use Rattle.std.proofs.Common.{◌≡◌, ◌++◌, drop}
use Rattle.c_meaning.specs.Headers.{scalars_of}
use Rattle.ref_interp.proofs.header.scalars.Given as goal

abbrev pub invariant-loop-param : goal.invariant-loop-param
invariant-loop-param l = l.scalars ++ scalars_of (drop l.param-index l.params) ≡ scalars_of l.params
