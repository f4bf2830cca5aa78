use Rattle.net_check.proofs.HeaderLemmas.{NoneFaulty}
use Rattle.net_check.proofs.headers.check_header.Given as goal

abbrev pub invariant-loop-u : goal.invariant-loop-u
invariant-loop-u l = NoneFaulty l.net l.tally.entry l.tally.exit l.tally.params.items l.tally.queues.items l.u
