use Rattle.std.proofs.Common.{◌≡◌, map, take}
use Rattle.net_core.specs.States.{array_in}
use Rattle.net_core.proofs.state.array_lists.Given as goal

abbrev pub invariant-loop-home : goal.invariant-loop-home
invariant-loop-home l = l.lists ≡ map (array_in l.cells.items) (take l.home-index l.homes)
