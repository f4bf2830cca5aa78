use Rattle.std.proofs.Common.{sym, subst}
use Rattle.std.specs.Prelude.{Option}
use Rattle.c_ast.specs.declared.typed.TypedExpr.{TypedExpr}
use Rattle.c_meaning.specs.Statements.{condition, meant_if_any}
use Rattle.ref_interp.specs.Runs.{objects_of}
use Rattle.ref_interp.specs.Machines.{Tested}
use Rattle.ref_interp.specs.Statements.{TestGives}
use Rattle.ref_interp.specs.declared.machine.Test.TheVariants as test
use Rattle.ref_interp.proofs.Running.{test_absent, test_starved}
use Rattle.ref_interp.proofs.expressions.Interpreter.tested_if_any.Goals as goal

pub returns-in-Some : goal.returns-in-Some
returns-in-Some c = subst (λ (o : Option TypedExpr). TestGives (objects_of c.args.self.now) c.args.self.now.typed.now.result o c.args.m.now c.tested.result c.tested.new.m) (sym c.in-Some.is) c.tested.ensures

pub returns-then-take : goal.returns-then-take
returns-then-take c h can =
    let k = objects_of c.args.self.now in
    let yes = c.take.ensures.yes c.if-take.true in
    subst (λ (o : Option TypedExpr). Tested k c.args.self.now.typed.now.result (condition (meant_if_any k o)) c.args.m.now test.Holds c.take.new.self) (sym c.in-None.is) (test_absent k c.args.self.now.typed.now.result c.args.m.now c.take.new.self yes c.take.ensures.cells)

pub returns-else-take : goal.returns-else-take
returns-else-take c h can =
    let k = objects_of c.args.self.now in
    let no = c.take.ensures.no c.if-take.false in
    test_starved k c.args.self.now.typed.now.result (condition (meant_if_any k c.args.cond.now)) c.args.m.now c.take.new.self no.0 c.take.ensures.cells no.1
