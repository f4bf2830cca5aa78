use Rattle.std.proofs.Common.{sym, ◌∙◌, arith}
use Rattle.net_check.specs.private.Steers.{marks}
use Rattle.net_check.proofs.SteerLemmas.{agrees-spots-more, agrees-spots-none, goes_on, stops}
use Rattle.net_check.proofs.controls.Row.has_run.Goals as goal

pub returns-then-not-has : goal.returns-then-not-has
returns-then-not-has c =
    λ w. stops _ _ _ _ c.has.result (c.loop-i.invariant w) (agrees-spots-more (marks c.args.self.now) c.args.first w c.args.ctl c.args.count c.loop-i.i c.loop-i-test.true) c.has.ensures c.if-not-has.true

pub loop-i-preserved : goal.loop-i-preserved
loop-i-preserved c =
    λ w. goes_on _ _ _ _ c.has.result (c.loop-i.invariant w) (agrees-spots-more (marks c.args.self.now) c.args.first w c.args.ctl c.args.count c.loop-i.i c.loop-i-test.true) c.has.ensures c.if-not-has.false

pub returns : goal.returns
returns c = λ w. sym (c.loop-i.invariant w ∙ agrees-spots-none (marks c.args.self.now) _ w c.args.ctl _ (omega arith))
