use Rattle.std.proofs.Common.{◌+◌, ◌-◌, length}
use Rattle.std.specs.Io.KnownBytes.{Consumes}
use Rattle.el_io.proofs.host.read_up_to.Given as goal

abbrev pub invariant-loop-buf : goal.invariant-loop-buf
invariant-loop-buf g l = Consumes (g.F.Read.remaining l.initial.file) (g.F.Read.remaining l.file) l.into.items

abbrev pub decreases-loop-buf : goal.decreases-loop-buf
decreases-loop-buf g l = l.max + 1 - length l.into.items
