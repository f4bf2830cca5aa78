use Rattle.std.proofs.Common.{◌≡◌, take}
use Rattle.c_types.specs.Places.{first_of}
use Rattle.c_types.specs.CallPlaces.{helpers_places}
use Rattle.c_types.proofs.calls.of_helpers.Given as goal

abbrev pub invariant-loop-helper : goal.invariant-loop-helper
invariant-loop-helper l = l.first ≡ first_of (helpers_places (take l.helper-index l.helpers))
