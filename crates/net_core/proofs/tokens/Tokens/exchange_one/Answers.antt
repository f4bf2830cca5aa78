use Rattle.net_core.proofs.TokenLemmas.{swapped_tokens, swapped_dates, swapped_slots}
use Rattle.net_core.proofs.tokens.Tokens.exchange_one.Goals as goal

pub returns-clause-tokens : goal.returns-clause-tokens
returns-clause-tokens c =
    swapped_tokens c.self.inside.channels.items c.args.self.now c.args.chan c.index_mut.result.now c.swap.new.x c.self.view_is c.index_mut.ensures.value c.args.other.now c.swap.ensures.x_after

pub returns-clause-slots : goal.returns-clause-slots
returns-clause-slots c =
    swapped_slots c.self.inside.channels.items c.args.self.now c.args.chan c.index_mut.result.now c.swap.new.x c.self.view_is c.index_mut.ensures.value c.args.other.now c.requires.within c.requires.slots c.swap.ensures.x_after

pub returns-clause-dates : goal.returns-clause-dates
returns-clause-dates c =
    swapped_dates c.self.inside.channels.items c.args.self.now c.args.chan c.index_mut.result.now c.swap.new.x c.self.view_is c.index_mut.ensures.value c.args.other.now c.swap.ensures.x_after
