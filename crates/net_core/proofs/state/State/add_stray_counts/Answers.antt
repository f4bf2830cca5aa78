use Rattle.std.proofs.Common.{refl}
use Rattle.net_core.specs.States.{state_of}
use Rattle.net_core.proofs.ExchangeLemmas.{tokens_of, summed_strays}
use Rattle.net_core.proofs.state.State.add_stray_counts.Goals as goal

pub returns-clause-of : goal.returns-clause-of
returns-clause-of c = tokens_of c.args.net.now c.args.self.now _ c.requires.of refl refl refl refl refl

pub returns-clause-state : goal.returns-clause-state
returns-clause-state c = summed_strays (state_of c.args.self.now) c.args.counts.now c.add_each.new.sums.items c.add_each.ensures
