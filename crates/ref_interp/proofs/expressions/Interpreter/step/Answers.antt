use Rattle.std.proofs.Common.{◌≡◌, sym, ap, ◌∙◌, subst, refl, arith}
use Rattle.std.specs.Prelude.{Bool, true, false, pos}
use Rattle.el_base.specs.declared.ty.Ty.{Ty}
use Rattle.el_base.specs.declared.ty.Ty.TheVariants.{I32}
use Rattle.c_ast.specs.ResultTypes.{joint_type, promoted, usual}
use Rattle.c_meaning.specs.Expressions.{always, after_turns}
use Rattle.c_meaning.specs.Statements.{meant_target, target_place, read_place, stored, joined_with, joined_in, step_operator}
use Rattle.c_meaning.proofs.TypeLemmas.{promoted_usual}
use Rattle.ref_interp.specs.Runs.{objects_of}
use Rattle.ref_interp.specs.declared.machine.Machine.{Machine}
use Rattle.ref_interp.specs.Answers.{plus_turns}
use Rattle.ref_interp.specs.Cells.{store_of}
use Rattle.ref_interp.specs.Evaluations.{IsReady}
use Rattle.ref_interp.specs.Machines.{Ran}
use Rattle.ref_interp.specs.Operators.{IsRightType}
use Rattle.ref_interp.proofs.Values.{failed_is, gives_is}
use Rattle.ref_interp.proofs.Running.{begun}
use Rattle.ref_interp.proofs.Aims.{type_is, sought_is, missed_is, update_misses, update_unset, update_goes, old_gives, old_turns, one_answers, step_types}
use Rattle.ref_interp.proofs.expressions.Interpreter.step.Goals as goal
use Rattle.ref_interp.proofs.expressions.Interpreter.step.Goals.{then-up, else-up}

right_up : (up : Bool) (t : Ty) → IsRightType (step_operator up) t t
right_up true t = refl
right_up false t = refl

pub returns-then-m : goal.returns-then-m
returns-then-m c h can =
    let k = objects_of c.args.self.now in
    let t = c.target_of-place.new.trace in
    let a = c.target_of-place.ensures h.0 h.1 (begun k c.args.m.now c.args.m.now.cells c.start.new.self can refl c.start.ensures.clear c.start.ensures.turns) in
    update_misses k c.args.self.now.typed.now.result (meant_target k c.args.target.now) (step_operator c.args.up) I32 (always (pos 1)) c.args.m.now _ can refl refl (missed_is t.failed c.args.target.now.to _ c.start.new.self.turns t c.target_of-place.result c.if-m.true a)

pub returns-then-m-2 : goal.returns-then-m-2
returns-then-m-2 c h can =
    let k = objects_of c.args.self.now in
    let s = store_of k c.args.m.now.cells in
    let t = c.target_of-place.new.trace in
    let n = c.old_of-start.new.trace in
    let a = c.target_of-place.ensures h.0 h.1 (begun k c.args.m.now c.args.m.now.cells c.start.new.self can refl c.start.ensures.clear c.start.ensures.turns) in
    let g = sought_is t.failed c.args.target.now.to (target_place k (meant_target k c.args.target.now) s) c.start.new.self.turns t c.target_of-place.result c.if-m.false a in
    let ready : IsReady k c.args.m.now.cells t = record { laws = can.laws; cells = can.cells; clear = c.if-m.false; few = (let u = g.used in omega (arith, u)) } in
    let o = c.old_of-start.ensures k _ h.0 g.place h.1.0 ready g.seen in
    update_unset k c.args.self.now.typed.now.result (meant_target k c.args.target.now) (step_operator c.args.up) I32 (always (pos 1)) c.args.m.now _ g.place g.turns can refl refl g.is (failed_is n.failed h.0 _ t.turns c.old_of-start.result n c.if-m-2.true o)

pub returns : goal.returns
returns c h can =
    let k = objects_of c.args.self.now in
    let s = store_of k c.args.m.now.cells in
    let at = c.args.target.now.at in
    let t = c.target_of-place.new.trace in
    let n = c.old_of-start.new.trace in
    let a = c.target_of-place.ensures h.0 h.1 (begun k c.args.m.now c.args.m.now.cells c.start.new.self can refl c.start.ensures.clear c.start.ensures.turns) in
    let g = sought_is t.failed c.args.target.now.to (target_place k (meant_target k c.args.target.now) s) c.start.new.self.turns t c.target_of-place.result c.if-m.false a in
    let ready : IsReady k c.args.m.now.cells t = record { laws = can.laws; cells = can.cells; clear = c.if-m.false; few = (let u = g.used in omega (arith, u)) } in
    let o = c.old_of-start.ensures k _ h.0 g.place h.1.0 ready g.seen in
    let og = gives_is n.failed h.0 (after_turns at 0 (read_place s g.place)) t.turns c.old_of-start.result n c.if-m-2.false o in
    let used : n.turns ≡ plus_turns 0 g.turns = old_turns at h.0 c.old_of-start.result t.turns n.turns g.turns (read_place s g.place) (g.used ∙ ap (λ z. plus_turns z g.turns) c.start.ensures.turns) og in
    let w = one_answers c.usual-joint.result s n.turns g.turns n c.if-m-2.false refl used in
    let ty = c.type_of.ensures c.args.self.now.profile ∙ type_is k c.args.target.now.to _ h.0 h.1.0 in
    let op : c.if-up.op ≡ step_operator c.args.up = elim c.if-up.branch [ then-up w ↦ w.op-is ∙ ap step_operator (sym w.if-up.true) | else-up w ↦ w.op-is ∙ ap step_operator (sym w.if-up.false) ] in
    let j : c.usual-joint.result ≡ joint_type (step_operator c.args.up) h.0 I32 = c.usual-joint.ensures ∙ ap (λ t. usual t I32) ty ∙ sym (step_types c.args.up h.0) in
    let old : Machine = record { cells = c.args.m.now.cells; trace = n; left = c.args.m.now.left; value = c.args.m.now.value } in
    let ran = c.join_into.ensures _ h.0 g.place (always (pos 1) s) g.turns n.turns h.1.0 (record { laws = can.laws; parts = can.parts; cells = can.cells; few = can.few }) g.seen
    (c.usual-joint.ensures ∙ sym (promoted_usual _ I32) ∙ ap promoted (sym c.usual-joint.ensures)) (subst (λ o. IsRightType o c.usual-joint.result c.usual-joint.result) (sym op) (right_up c.args.up c.usual-joint.result)) (old_gives at h.0 c.old_of-start.result t.turns n.turns (read_place s g.place) og) used w in
    let ran2 = subst (λ o. Ran k c.args.self.now.typed.now.result (stored h.0 g.place g.turns (joined_with at (joined_in k.profile o c.usual-joint.result) (read_place s g.place) (always (pos 1) s))) old c.join_into.result c.join_into.new.m) op ran in
    update_goes k c.args.self.now.typed.now.result (meant_target k c.args.target.now) (step_operator c.args.up) I32 (always (pos 1)) c.args.m.now old c.join_into.new.m c.join_into.result h.0 g.place g.turns (type_is k c.args.target.now.to _ h.0 h.1.0) g.is refl refl
    (subst (λ j. Ran k c.args.self.now.typed.now.result (stored h.0 g.place g.turns (joined_with at (joined_in k.profile (step_operator c.args.up) j) (read_place s g.place) (always (pos 1) s))) old c.join_into.result c.join_into.new.m) j ran2)
