use Rattle.std.proofs.Common.{sym, ap, ◌∙◌, subst}
use Rattle.c_meaning.specs.Expressions.{meaning}
use Rattle.ref_interp.specs.Runs.{objects_of}
use Rattle.ref_interp.specs.declared.cells.Cells.{Cells}
use Rattle.ref_interp.specs.Answers.{Gives}
use Rattle.ref_interp.specs.Cells.{store_of}
use Rattle.ref_interp.proofs.Values.{failed_is, gives_is}
use Rattle.ref_interp.proofs.Running.{begun, test_starved, test_undefined, test_short, test_fails, test_holds}
use Rattle.ref_interp.proofs.expressions.Interpreter.tested.Goals as goal

pub returns-then-not-take : goal.returns-then-not-take
returns-then-not-take c h can =
    let k = objects_of c.args.self.now in
    let no = c.take.ensures.no c.if-not-take.true in
    test_starved k c.args.self.now.typed.now.result (meaning k c.args.cond.now) c.args.m.now c.take.new.self no.0 c.take.ensures.cells no.1

pub returns-then-m : goal.returns-then-m
returns-then-m c h can =
    let k = objects_of c.args.self.now in
    let yes = c.take.ensures.yes c.if-not-take.false in
    let e = c.args.cond.now in
    let t = c.eval-x.new.trace in
    let v = c.eval-x.ensures h (begun k c.args.m.now c.take.new.self.cells c.start.new.self can c.take.ensures.cells c.start.ensures.clear c.start.ensures.turns) in
    test_undefined k c.args.self.now.typed.now.result (meaning k e) c.args.m.now _ (ap (λ (x : Cells). meaning k e (store_of k x)) (sym c.take.ensures.cells) ∙ failed_is t.failed e.ty _ c.start.new.self.turns c.eval-x.result t c.if-m.true v) c.take.ensures.cells yes

pub returns-then-not-take-2 : goal.returns-then-not-take-2
returns-then-not-take-2 c h can =
    let k = objects_of c.args.self.now in
    let yes = c.take.ensures.yes c.if-not-take.false in
    let no = c.take-2.ensures.no c.if-not-take-2.true in
    let e = c.args.cond.now in
    let t = c.eval-x.new.trace in
    let v = c.eval-x.ensures h (begun k c.args.m.now c.take.new.self.cells c.start.new.self can c.take.ensures.cells c.start.ensures.clear c.start.ensures.turns) in
    let g = gives_is t.failed e.ty (meaning k e (store_of k c.take.new.self.cells)) c.start.new.self.turns c.eval-x.result t c.if-m.false v in
    let g2 = subst (λ (x : Cells). Gives e.ty c.eval-x.result 0 t.turns (meaning k e (store_of k x))) c.take.ensures.cells (subst (λ u. Gives e.ty c.eval-x.result u t.turns (meaning k e (store_of k c.take.new.self.cells))) c.start.ensures.turns g) in
    test_short k c.args.self.now.typed.now.result (meaning k e) e.ty c.args.m.now c.take-2.new.self c.eval-x.result t.turns c.take.new.self.left g2 can.few yes no.0 (c.take-2.ensures.cells ∙ c.take.ensures.cells) no.1

pub returns-then-x-eq0 : goal.returns-then-x-eq0
returns-then-x-eq0 c h can =
    let k = objects_of c.args.self.now in
    let yes = c.take.ensures.yes c.if-not-take.false in
    let yes2 = c.take-2.ensures.yes c.if-not-take-2.false in
    let e = c.args.cond.now in
    let t = c.eval-x.new.trace in
    let v = c.eval-x.ensures h (begun k c.args.m.now c.take.new.self.cells c.start.new.self can c.take.ensures.cells c.start.ensures.clear c.start.ensures.turns) in
    let g = gives_is t.failed e.ty (meaning k e (store_of k c.take.new.self.cells)) c.start.new.self.turns c.eval-x.result t c.if-m.false v in
    let g2 = subst (λ (x : Cells). Gives e.ty c.eval-x.result 0 t.turns (meaning k e (store_of k x))) c.take.ensures.cells (subst (λ u. Gives e.ty c.eval-x.result u t.turns (meaning k e (store_of k c.take.new.self.cells))) c.start.ensures.turns g) in
    test_fails k c.args.self.now.typed.now.result (meaning k e) e.ty c.args.m.now c.take-2.new.self c.eval-x.result t.turns c.take.new.self.left g2 can.few yes yes2 (c.take-2.ensures.cells ∙ c.take.ensures.cells) c.if-x-eq0.true

pub returns-else-x-eq0 : goal.returns-else-x-eq0
returns-else-x-eq0 c h can =
    let k = objects_of c.args.self.now in
    let yes = c.take.ensures.yes c.if-not-take.false in
    let yes2 = c.take-2.ensures.yes c.if-not-take-2.false in
    let e = c.args.cond.now in
    let t = c.eval-x.new.trace in
    let v = c.eval-x.ensures h (begun k c.args.m.now c.take.new.self.cells c.start.new.self can c.take.ensures.cells c.start.ensures.clear c.start.ensures.turns) in
    let g = gives_is t.failed e.ty (meaning k e (store_of k c.take.new.self.cells)) c.start.new.self.turns c.eval-x.result t c.if-m.false v in
    let g2 = subst (λ (x : Cells). Gives e.ty c.eval-x.result 0 t.turns (meaning k e (store_of k x))) c.take.ensures.cells (subst (λ u. Gives e.ty c.eval-x.result u t.turns (meaning k e (store_of k c.take.new.self.cells))) c.start.ensures.turns g) in
    test_holds k c.args.self.now.typed.now.result (meaning k e) e.ty c.args.m.now c.take-2.new.self c.eval-x.result t.turns c.take.new.self.left g2 can.few yes yes2 (c.take-2.ensures.cells ∙ c.take.ensures.cells) c.if-x-eq0.false
