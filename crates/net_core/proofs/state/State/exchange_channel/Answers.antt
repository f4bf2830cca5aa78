use Rattle.std.proofs.Common.{refl, ap, length, length-set, ◌∙◌}
use Rattle.net_core.proofs.ExchangeLemmas.{tokens_of}
use Rattle.net_core.proofs.state.State.exchange_channel.Goals as goal

pub returns-clause-of : goal.returns-clause-of
returns-clause-of c =
    tokens_of c.args.net.now c.args.self.now _ c.requires.of refl refl refl c.exchange_one.ensures.slots (ap length c.exchange_one.ensures.tokens ∙ length-set c.args.self.now.tokens.tokens c.args.chan _)
