use Rattle.std.proofs.Common.{◌≡◌, ◌∙◌, None, sym, rules}
use Rattle.net_core.specs.States.{state_of}
use Rattle.net_core.specs.Fire.{first, tokens_at}
use Rattle.cycle_engine.proofs.FeedLemmas.{starved_by}
use Rattle.cycle_engine.proofs.engine.settle_unit.Goals as goal

pub returns-else-is_some-clause-marked : goal.returns-else-is_some-clause-marked
returns-else-is_some-clause-marked c fed l =
    let none : first (tokens_at (state_of c.args.state.now) c.in-Some.chan) ≡ None = search rules in
    absurd (fed (starved_by c.args.net.now (state_of c.args.state.now) c.args.feeds.now c.args.unit c.in-Some.chan c.requires.feeds (sym c.first.ensures ∙ c.in-Some.is) none))
