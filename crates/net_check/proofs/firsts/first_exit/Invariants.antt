use Rattle.std.proofs.Common.{None}
use Rattle.net_check.specs.private.Firsts.{IsFirst}
use Rattle.net_check.specs.Headers.{is_exit}
use Rattle.net_check.proofs.firsts.first_exit.Given as goal

abbrev pub invariant-loop-u : goal.invariant-loop-u
invariant-loop-u l = IsFirst is_exit l.units l.u None
