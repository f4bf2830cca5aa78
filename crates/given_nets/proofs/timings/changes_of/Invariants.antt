use Rattle.net_check.specs.Retimed.{NameChannels}
use Rattle.given_nets.proofs.timings.changes_of.Given as goal

abbrev pub invariant-loop-words : goal.invariant-loop-words
invariant-loop-words l = NameChannels l.changes.items l.net
