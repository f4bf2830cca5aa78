use Rattle.std.proofs.Common.{◌+◌}
use Rattle.net_core.specs.States.{state_of}
use Rattle.net_core.proofs.SearchLemmas.{Below}
use Rattle.net_core.proofs.find.first_of_queue.Given as goal

abbrev pub invariant-loop-at : goal.invariant-loop-at
invariant-loop-at g l = Below l.net (state_of (g.S.Searched.stored l.state)) l.unit l.from (3 + l.at)
