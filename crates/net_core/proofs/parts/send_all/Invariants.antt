use Rattle.net_core.specs.private.Restores.{IsSending}
use Rattle.net_core.proofs.parts.send_all.Given as goal

abbrev pub invariant-loop-out : goal.invariant-loop-out
invariant-loop-out l = IsSending l.outs l.initial.sent l.out-index l.sent
