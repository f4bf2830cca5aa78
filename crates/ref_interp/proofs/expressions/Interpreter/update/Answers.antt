use Rattle.std.proofs.Common.{◌≡◌, sym, ap, ◌∙◌, subst, refl, arith}
use Rattle.c_ast.specs.ResultTypes.{joint_type, promoted}
use Rattle.c_meaning.specs.Expressions.{meaning, after_turns}
use Rattle.c_meaning.specs.Statements.{meant_target, target_place, read_place, stored, joined_with, joined_in}
use Rattle.ref_interp.specs.Runs.{objects_of}
use Rattle.ref_interp.specs.Answers.{plus_turns}
use Rattle.ref_interp.specs.Cells.{store_of}
use Rattle.ref_interp.specs.Evaluations.{IsReady}
use Rattle.ref_interp.specs.declared.machine.Machine.{Machine}
use Rattle.ref_interp.specs.Machines.{Ran}
use Rattle.ref_interp.specs.Operators.{IsRightType}
use Rattle.ref_interp.proofs.Values.{failed_is, gives_is}
use Rattle.ref_interp.proofs.Exprs.{ready_after}
use Rattle.ref_interp.proofs.Running.{begun}
use Rattle.ref_interp.proofs.Aims.{type_is, sought_is, missed_is, update_misses, update_unset, update_goes, old_gives, old_turns, joint_promoted, right_of}
use Rattle.ref_interp.proofs.expressions.Interpreter.update.Goals as goal

pub returns-then-m : goal.returns-then-m
returns-then-m c h can =
    let k = objects_of c.args.self.now in
    let t = c.target_of-place.new.trace in
    let a = c.target_of-place.ensures h.0 h.1 (begun k c.args.m.now c.args.m.now.cells c.start.new.self can refl c.start.ensures.clear c.start.ensures.turns) in
    update_misses k c.args.self.now.typed.now.result (meant_target k c.args.target.now) c.args.op c.args.value.now.ty (meaning k c.args.value.now) c.args.m.now _ can refl refl (missed_is t.failed c.args.target.now.to _ c.start.new.self.turns t c.target_of-place.result c.if-m.true a)

pub returns-then-m-2 : goal.returns-then-m-2
returns-then-m-2 c h can =
    let k = objects_of c.args.self.now in
    let s = store_of k c.args.m.now.cells in
    let t = c.target_of-place.new.trace in
    let n = c.old_of-old.new.trace in
    let a = c.target_of-place.ensures h.0 h.1 (begun k c.args.m.now c.args.m.now.cells c.start.new.self can refl c.start.ensures.clear c.start.ensures.turns) in
    let g = sought_is t.failed c.args.target.now.to (target_place k (meant_target k c.args.target.now) s) c.start.new.self.turns t c.target_of-place.result c.if-m.false a in
    let ready : IsReady k c.args.m.now.cells t = record { laws = can.laws; cells = can.cells; clear = c.if-m.false; few = (let u = g.used in omega (arith, u)) } in
    let o = c.old_of-old.ensures k _ h.0 g.place h.1.0 ready g.seen in
    update_unset k c.args.self.now.typed.now.result (meant_target k c.args.target.now) c.args.op c.args.value.now.ty (meaning k c.args.value.now) c.args.m.now _ g.place g.turns can refl refl g.is (failed_is n.failed h.0 _ t.turns c.old_of-old.result n c.if-m-2.true o)

pub returns : goal.returns
returns c h can =
    let k = objects_of c.args.self.now in
    let s = store_of k c.args.m.now.cells in
    let e = c.args.value.now in
    let at = c.args.target.now.at in
    let t = c.target_of-place.new.trace in
    let n = c.old_of-old.new.trace in
    let y = c.eval-y.new.trace in
    let a = c.target_of-place.ensures h.0 h.1 (begun k c.args.m.now c.args.m.now.cells c.start.new.self can refl c.start.ensures.clear c.start.ensures.turns) in
    let g = sought_is t.failed c.args.target.now.to (target_place k (meant_target k c.args.target.now) s) c.start.new.self.turns t c.target_of-place.result c.if-m.false a in
    let ready : IsReady k c.args.m.now.cells t = record { laws = can.laws; cells = can.cells; clear = c.if-m.false; few = (let u = g.used in omega (arith, u)) } in
    let o = c.old_of-old.ensures k _ h.0 g.place h.1.0 ready g.seen in
    let og = gives_is n.failed h.0 (after_turns at 0 (read_place s g.place)) t.turns c.old_of-old.result n c.if-m-2.false o in
    let used : n.turns ≡ plus_turns 0 g.turns = old_turns at h.0 c.old_of-old.result t.turns n.turns g.turns (read_place s g.place) (g.used ∙ ap (λ z. plus_turns z g.turns) c.start.ensures.turns) og in
    let w = c.eval-y.ensures h.3 (ready_after k c.args.m.now.cells h.0 (after_turns at 0 (read_place s g.place)) t n c.old_of-old.result ready c.if-m-2.false og) in
    let ty = c.type_of.ensures c.args.self.now.profile ∙ type_is k c.args.target.now.to _ h.0 h.1.0 in
    let j : c.joint_type-joint.result ≡ joint_type c.args.op h.0 e.ty = c.joint_type-joint.ensures ∙ ap (λ t. joint_type c.args.op t e.ty) ty in
    let old : Machine = record { cells = c.args.m.now.cells; trace = y; left = c.args.m.now.left; value = c.args.m.now.value } in
    let ran = c.join_into.ensures _ h.0 g.place (meaning k e s) g.turns n.turns h.1.0 (record { laws = can.laws; parts = can.parts; cells = can.cells; few = can.few }) g.seen
    (subst (λ j. j ≡ promoted j) (sym j) (joint_promoted c.args.op h.0 e.ty)) (subst (λ j. IsRightType c.args.op j e.ty) (sym j) (right_of c.args.op h.0 e.ty h.2)) (old_gives at h.0 c.old_of-old.result t.turns n.turns (read_place s g.place) og) used w in
    update_goes k c.args.self.now.typed.now.result (meant_target k c.args.target.now) c.args.op e.ty (meaning k e) c.args.m.now old c.join_into.new.m c.join_into.result h.0 g.place g.turns (type_is k c.args.target.now.to _ h.0 h.1.0) g.is refl refl
    (subst (λ j. Ran k c.args.self.now.typed.now.result (stored h.0 g.place g.turns (joined_with at (joined_in k.profile c.args.op j) (read_place s g.place) (meaning k e s))) old c.join_into.result c.join_into.new.m) j ran)
