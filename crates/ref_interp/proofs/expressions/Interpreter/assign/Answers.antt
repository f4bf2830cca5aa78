use Rattle.std.proofs.Common.{refl, arith}
use Rattle.c_meaning.specs.Expressions.{later, meaning}
use Rattle.c_meaning.specs.Statements.{meant_target, target_place}
use Rattle.ref_interp.specs.Runs.{objects_of}
use Rattle.ref_interp.specs.Cells.{store_of}
use Rattle.ref_interp.specs.Evaluations.{IsReady}
use Rattle.ref_interp.proofs.Running.{begun}
use Rattle.ref_interp.proofs.Aims.{type_is, sought_is, missed_is, assign_fails, assign_answers, assign_goes}
use Rattle.ref_interp.proofs.expressions.Interpreter.assign.Goals as goal

pub returns-then-m : goal.returns-then-m
returns-then-m c h can =
    let k = objects_of c.args.self.now in
    let t = c.target_of-place.new.trace in
    let a = c.target_of-place.ensures h.0 h.1 (begun k c.args.m.now c.args.m.now.cells c.start.new.self can refl c.start.ensures.clear c.start.ensures.turns) in
    assign_fails k c.args.self.now.typed.now.result (meant_target k c.args.target.now) (meaning k c.args.value.now) c.args.m.now _ can refl refl (missed_is t.failed c.args.target.now.to _ c.start.new.self.turns t c.target_of-place.result c.if-m.true a)

pub returns : goal.returns
returns c h can =
    let k = objects_of c.args.self.now in
    let s = store_of k c.args.m.now.cells in
    let e = c.args.value.now in
    let t = c.target_of-place.new.trace in
    let n = c.eval-x.new.trace in
    let a = c.target_of-place.ensures h.0 h.1 (begun k c.args.m.now c.args.m.now.cells c.start.new.self can refl c.start.ensures.clear c.start.ensures.turns) in
    let g = sought_is t.failed c.args.target.now.to (target_place k (meant_target k c.args.target.now) s) c.start.new.self.turns t c.target_of-place.result c.if-m.false a in
    let ready : IsReady k c.args.m.now.cells t = record { laws = can.laws; cells = can.cells; clear = c.if-m.false; few = (let u = g.used in omega (arith, u)) } in
    let v = c.eval-x.ensures h.3 ready in
    let an = assign_answers n.failed e.ty (meaning k e s) g.turns c.eval-x.result c.start.new.self t n c.start.ensures.turns g.used v in
    assign_goes k c.args.self.now.typed.now.result (meant_target k c.args.target.now) (meaning k e) c.args.m.now _ c.store.new.m c.store.result h.0 g.place g.turns (type_is k c.args.target.now.to _ h.0 h.1.0) g.is refl refl
    (c.store.ensures c.args.self.now.profile _ h.0 g.place (later g.turns (meaning k e s)) h.1.0 (record { laws = can.laws; parts = can.parts; cells = can.cells; few = can.few }) g.seen an)
