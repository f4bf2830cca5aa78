use Rattle.ref_interp.proofs.Moves.{entered_start, entered_more, entered_all}
use Rattle.ref_interp.proofs.statements.enter.Goals as goal

pub loop-stmt-init : goal.loop-stmt-init
loop-stmt-init c = λ k can. entered_start k c.args.stmts.now c.args.m.now can

pub loop-stmt-preserved : goal.loop-stmt-preserved
loop-stmt-preserved c = λ k can. entered_more k c.args.stmts.now c.loop-stmt.stmt-index c.stmt-item.result c.args.m.now c.loop-stmt.m c.enter_one.new.m can c.loop-stmt-test.true c.stmt-item.is (c.loop-stmt.invariant k can) (c.enter_one.ensures k)

pub returns : goal.returns
returns c k can = entered_all k c.args.stmts.now c.loop-stmt.stmt-index c.args.m.now c.loop-stmt.m c.loop-stmt-test.false (c.loop-stmt.invariant k can)
