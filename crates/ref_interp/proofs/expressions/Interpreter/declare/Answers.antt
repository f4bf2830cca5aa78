use Rattle.std.proofs.Common.{subst, refl}
use Rattle.c_meaning.specs.Expressions.{meaning}
use Rattle.c_meaning.specs.Statements.{of_var}
use Rattle.ref_interp.specs.Runs.{objects_of}
use Rattle.ref_interp.specs.Answers.{Answered}
use Rattle.ref_interp.specs.Cells.{store_of}
use Rattle.ref_interp.proofs.Running.{begun}
use Rattle.ref_interp.proofs.Moves.{declared_none, declared_some, declared_lawful}
use Rattle.ref_interp.proofs.expressions.Interpreter.declare.Goals as goal

pub returns-in-None : goal.returns-in-None
returns-in-None c h can = declared_none (objects_of c.args.self.now) c.args.self.now.typed.now.result c.args.var c.args.init.now c.args.m.now _ c.in-None.is can c.put_var.ensures refl refl

pub returns-in-Some : goal.returns-in-Some
returns-in-Some c h can =
    let k = objects_of c.args.self.now in
    let s = store_of k c.args.m.now.cells in
    let e = c.in-Some.value in
    let n = c.eval-x.new.trace in
    let l = declared_lawful k c.args.var c.args.init.now e c.in-Some.is h in
    let v = c.eval-x.ensures l.1 (begun k c.args.m.now c.args.m.now.cells c.start.new.self can refl c.start.ensures.clear c.start.ensures.turns) in
    let an = subst (λ u. Answered n.failed e.ty (meaning k e s) u n c.eval-x.result) c.start.ensures.turns v in
    declared_some k c.args.self.now.typed.now.result c.args.var c.args.init.now e c.args.m.now _ c.store.new.m c.store.result c.in-Some.is l.0 refl refl
    (c.store.ensures c.args.self.now.profile 0 e.ty (of_var c.args.var) (meaning k e s) (l.0, refl) (record { laws = can.laws; parts = can.parts; cells = can.cells; few = can.few }) refl an)
