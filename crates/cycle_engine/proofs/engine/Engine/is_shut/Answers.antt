use Rattle.std.proofs.Common.{◌≡◌, ◌∙◌, ◌+◌, ◌≤◌, not, [], Bool, true, Option, Some, None, inl, get_or, refl, ap, subst}
use Rattle.std.specs.Option.{is_some}
use Rattle.net_check.specs.declared.pins.Pins.{Pins}
use Rattle.net_core.specs.declared.plan.Plan.{Plan}
use Rattle.net_core.specs.Fire.{tokens_at}
use Rattle.net_core.specs.States.{state_of, dates_of}
use Rattle.net_types.specs.Nets.{into, chan_at}
use Rattle.cycle_engine.specs.private.Trials.{RipeAt}
use Rattle.cycle_engine.proofs.ShutLemmas.{head_of, unplanned_sent}
use Rattle.cycle_engine.proofs.engine.Engine.is_shut.Goals as goal

-- nothing is planned of it at a ripe head
pub returns : goal.returns
returns c none start b =
    let R : Pins → Type 0 = λ q. RipeAt c.args.net.now c.args.now (dates_of c.args.self.now.state) q.first in
    let d = into c.args.unit 0 c.args.net.now.chans in
    let head = head_of (get_or (dates_of c.args.self.now.state) d []) (tokens_at (state_of c.args.self.now.state) d) (λ date. date + (chan_at c.args.net.now d).delay ≤ c.args.now) (c.requires.engine.dated.each d) (subst R c.requires.pins c.requires.ripe) in
    inl (unplanned_sent c.args.net.now c.args.self.now.state c.args.unit c.args.outs c.args.out head.0 c.plan_send_at.result c.requires.fork c.requires.out head.1 c.plan_send_at.ensures.effect (is_nothing c.plan_send_at.result c.is_none.result c.is_none.ensures none))
  where
    is_nothing : (o : Option Plan) (b : Bool) → is_some o ≡ not b → b ≡ true → o ≡ None
    is_nothing None b e z = refl
    is_nothing (Some p) b e z = (let x = e ∙ ap not z in cc)
