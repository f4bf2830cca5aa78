use Rattle.std.proofs.Common.{subst, refl}
use Rattle.c_meaning.specs.Expressions.{meaning}
use Rattle.ref_interp.specs.Runs.{objects_of}
use Rattle.ref_interp.specs.Answers.{Answered}
use Rattle.ref_interp.specs.Cells.{store_of}
use Rattle.ref_interp.proofs.Running.{begun}
use Rattle.ref_interp.proofs.Moves.{given_none, given_undefined, given_starved, given_some, given_lawful}
use Rattle.ref_interp.proofs.expressions.Interpreter.give.Goals as goal

pub returns-in-None : goal.returns-in-None
returns-in-None c h can = given_none (objects_of c.args.self.now) c.args.self.now.typed.now.result c.args.value.now c.args.m.now _ c.in-None.is h can refl refl refl

pub returns-then-m : goal.returns-then-m
returns-then-m c h can =
    let k = objects_of c.args.self.now in
    let s = store_of k c.args.m.now.cells in
    let e = c.in-Some.value in
    let n = c.eval-x.new.trace in
    let l = given_lawful k c.args.self.now.typed.now.result c.args.value.now e c.in-Some.is h in
    let v = c.eval-x.ensures l.1 (begun k c.args.m.now c.args.m.now.cells c.start.new.self can refl c.start.ensures.clear c.start.ensures.turns) in
    given_undefined k c.args.self.now.typed.now.result c.args.value.now e c.eval-x.result c.start.new.self.turns c.args.m.now _ c.in-Some.is can c.if-m.true v refl refl

pub returns-then-not-take : goal.returns-then-not-take
returns-then-not-take c h can =
    let k = objects_of c.args.self.now in
    let s = store_of k c.args.m.now.cells in
    let e = c.in-Some.value in
    let n = c.eval-x.new.trace in
    let no = c.take.ensures.no c.if-not-take.true in
    let l = given_lawful k c.args.self.now.typed.now.result c.args.value.now e c.in-Some.is h in
    let v = c.eval-x.ensures l.1 (begun k c.args.m.now c.args.m.now.cells c.start.new.self can refl c.start.ensures.clear c.start.ensures.turns) in
    let an = subst (λ u. Answered n.failed e.ty (meaning k e s) u n c.eval-x.result) c.start.ensures.turns v in
    given_starved k c.args.self.now.typed.now.result c.args.value.now e c.eval-x.result n c.args.m.now c.take.new.self c.in-Some.is can c.if-m.false an no.0 c.take.ensures.cells no.1

pub returns-else-not-take : goal.returns-else-not-take
returns-else-not-take c h can =
    let k = objects_of c.args.self.now in
    let s = store_of k c.args.m.now.cells in
    let e = c.in-Some.value in
    let n = c.eval-x.new.trace in
    let yes = c.take.ensures.yes c.if-not-take.false in
    let l = given_lawful k c.args.self.now.typed.now.result c.args.value.now e c.in-Some.is h in
    let v = c.eval-x.ensures l.1 (begun k c.args.m.now c.args.m.now.cells c.start.new.self can refl c.start.ensures.clear c.start.ensures.turns) in
    let an = subst (λ u. Answered n.failed e.ty (meaning k e s) u n c.eval-x.result) c.start.ensures.turns v in
    given_some k c.args.self.now.typed.now.result c.args.value.now e c.eval-x.result n c.args.m.now _ c.in-Some.is l.0 can c.if-m.false an yes c.take.ensures.cells refl
