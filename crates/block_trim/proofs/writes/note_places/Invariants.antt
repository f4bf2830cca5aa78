use Rattle.std.proofs.Common.{◌≡◌, drop}
use Rattle.block_trim.specs.Code.{noted}
use Rattle.block_trim.proofs.writes.note_places.Given as goal

abbrev pub invariant-loop-place : goal.invariant-loop-place
invariant-loop-place l = noted l.place (drop l.place l.writes) l.places ≡ noted 0 l.writes l.fn.places
