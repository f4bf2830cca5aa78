use Rattle.std.proofs.Common.{◌≡◌, replicate}
use Rattle.net_core.specs.Parts.{no_part}
use Rattle.snapshot.proofs.draft.empty_queues.Given as goal

abbrev pub invariant-loop : goal.invariant-loop
invariant-loop l = l.list ≡ replicate l.counter no_part
