use Rattle.std.proofs.Common.{◌≡◌, drop}
use Rattle.circuit_build.specs.Endings.{all_ended}
use Rattle.circuit_build.proofs.draft.Draft.end_queues.Given as goal

abbrev pub invariant-loop-queue : goal.invariant-loop-queue
invariant-loop-queue l = all_ended (drop l.queue-index l.queue-items) l.self ≡ all_ended l.fn.self.queues l.fn.self
