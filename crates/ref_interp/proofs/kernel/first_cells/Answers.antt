use Rattle.std.proofs.Common.{◌∙◌, arith}
use Rattle.ref_interp.proofs.Whole.{opened_more, opened_all}
use Rattle.ref_interp.proofs.kernel.first_cells.Goals as goal

pub loop-i-init : goal.loop-i-init
loop-i-init c = λ ts e. c.new-cells.ensures

pub loop-i-preserved : goal.loop-i-preserved
loop-i-preserved c = λ ts e.
    c.in_ok-push.ensures.ok ∙ opened_more ts c.args.scalars.now c.loop-i.i c.loop-i.cells c.pattern_at-cell.result (omega (arith, e, c.loop-i-test.true)) (c.loop-i.invariant ts e) c.pattern_at-cell.ensures

pub returns : goal.returns
returns c ts e = c.loop-i.invariant ts e ∙ opened_all ts c.args.scalars.now c.loop-i.i (omega (arith, e, c.loop-i-test.false))
