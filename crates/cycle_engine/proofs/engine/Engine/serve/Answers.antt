use Rattle.std.proofs.Common.{◌≡◌, ◌∙◌, ℕ, List, ap, sym, subst, length, arith}
use Rattle.net_types.specs.declared.net.Net.{Net}
use Rattle.net_types.specs.declared.firing.Firing.{Firing}
use Rattle.cycle_engine.specs.private.Goings.{with_again}
use Rattle.cycle_engine.specs.private.Marking.{Holds, HasUnit}
use Rattle.cycle_engine.proofs.MarkLemmas.{marked_queue, queue_within, holds_last}
use Rattle.cycle_engine.proofs.ServeLemmas.{served_left, served_turn, fresh_queue, not_grown, turn_served}
use Rattle.cycle_engine.proofs.TurnLemmas.{ready_marks, ready_turn, turn_again, pushed_holds, exit_broken}
use Rattle.cycle_engine.proofs.engine.Engine.serve.Goals as goal

pub returns-in_default-clause-ready : goal.returns-in_default-clause-ready
returns-in_default-clause-ready c =
    ready_marks c.args.net.now c.args.bounds c.args.self.now c.take_queue.new.self c.requires (ap (λ (v : _). length v.items) c.in_default.ensures.marked ∙ c.requires.marked) (c.in_default.ensures.listed c.args.net.now c.requires.listed)

pub returns-in_default-clause-served : goal.returns-in_default-clause-served
returns-in_default-clause-served c past start count n s l =
    served_left c.args.net.now past c.args.bounds c.args.now start c.args.self.now c.take_queue.new.self count n c.in_default.ensures l s

pub returns-then-unit-units-clause-ready : goal.returns-then-unit-units-clause-ready
returns-then-unit-units-clause-ready c = ready_turn c.args.net.now c.args.bounds c.args.self.now c.take_queue.new.self c.in-Some.unit c.in-Some.ensures c.requires

pub returns-then-unit-units-clause-served : goal.returns-then-unit-units-clause-served
returns-then-unit-units-clause-served c past start count n s l =
    let w = queue_within c.args.net.now c.in-Some.unit (marked_queue c.args.net.now c.args.self.now.marks c.in-Some.unit c.requires.listed s.list c.in-Some.ensures.was).0 in
    let same = ap length (c.as_slice-units.ensures ∙ ap (λ (n : Net). n.units) c.net.ensures.net) in
    absurd (omega (arith, w, same, c.if-unit-units.true))

pub run_queue-requires-clause-ready : goal.run_queue-requires-clause-ready
run_queue-requires-clause-ready c = ready_turn c.args.net.now c.args.bounds c.args.self.now c.take_queue.new.self c.in-Some.unit c.in-Some.ensures c.requires

pub returns-in_err-run_queue-clause-served : goal.returns-in_err-run_queue-clause-served
returns-in_err-run_queue-clause-served c past start count n s l =
    exit_broken _ _ c.from_residual.result c.in_err-run_queue.field-0.0 c.from_residual.ensures.1
    (c.in_err-run_queue.ensures.tried past start c.take_queue.new.self (served_turn c.args.net.now past c.args.bounds c.args.now start c.args.self.now c.take_queue.new.self count n c.in-Some.unit c.in-Some.ensures c.requires.listed s))

pub returns-in_ok-push-clause-served : goal.returns-in_ok-push-clause-served
returns-in_ok-push-clause-served c past start count n s l =
    let P : ℕ → List ℕ → Type 0 = λ v xs. Holds v xs in
    let e = with_again c.run_queue.new.self c.push.new.self in
    turn_served c.args.net.now past c.args.bounds c.args.now start c.args.self.now e c.take_queue.new.self count n c.in-Some.unit c.in-Some.ensures c.requires.listed l s
    (turn_again c.args.net.now past c.args.bounds c.args.now start c.take_queue.new.self c.run_queue.new.self c.push.new.self c.in-Some.unit 10 0
    (λ v h. subst (P v) (sym c.in_ok-push.ensures) (pushed_holds c.run_queue.new.self.again.items c.in-Some.unit v h))
    (c.in_ok-run_queue.ensures.tried past start c.take_queue.new.self (served_turn c.args.net.now past c.args.bounds c.args.now start c.args.self.now c.take_queue.new.self count n c.in-Some.unit c.in-Some.ensures c.requires.listed s)))
    (λ h. subst (P c.in-Some.unit) (sym c.in_ok-push.ensures) (holds_last c.run_queue.new.self.again.items c.in-Some.unit))

pub returns-else-len-before-clause-served : goal.returns-else-len-before-clause-served
returns-else-len-before-clause-served c past start count n s l =
    let P : List Firing → Type 0 = λ fs. HasUnit c.in-Some.unit fs in
    let same : c.run_queue.new.self.fired.items ≡ c.args.self.now.fired.items = not_grown c.args.self.now c.run_queue.new.self c.in_ok-run_queue.ensures.grown (λ z. omega (arith, z, c.if-len-before.false, c.len.ensures, c.len-before.ensures)) in
    turn_served c.args.net.now past c.args.bounds c.args.now start c.args.self.now c.run_queue.new.self c.take_queue.new.self count n c.in-Some.unit c.in-Some.ensures c.requires.listed l s
    (c.in_ok-run_queue.ensures.tried past start c.take_queue.new.self (served_turn c.args.net.now past c.args.bounds c.args.now start c.args.self.now c.take_queue.new.self count n c.in-Some.unit c.in-Some.ensures c.requires.listed s))
    (λ h. absurd (fresh_queue c.args.net.now past c.args.bounds c.args.now start c.args.self.now c.take_queue.new.self count n c.in-Some.unit c.in-Some.ensures c.requires.listed s (subst P same h)))

pub returns-else-is_queue_kind-clause-ready : goal.returns-else-is_queue_kind-clause-ready
returns-else-is_queue_kind-clause-ready c = ready_turn c.args.net.now c.args.bounds c.args.self.now c.take_queue.new.self c.in-Some.unit c.in-Some.ensures c.requires
