use Rattle.std.proofs.Common.{◌≡◌, ℕ, ◌+◌, ◌-◌, ◌<◌, [], map, refl, sym, ◌∙◌, ap, subst, arith}
use Rattle.std.specs.Prelude.{true, false, option_map}
use Rattle.c_ast.specs.declared.typed.TypedStmt.{TypedStmt}
use Rattle.c_meaning.specs.Stores.{Objects}
use Rattle.c_meaning.specs.Expressions.{meaning}
use Rattle.c_meaning.specs.Runs.{Run, both_runs, branch, looped, rounds, loop}
use Rattle.c_meaning.specs.Statements.{Act, kind_act, objects, act, part, in_order, block, entering, nothing, condition, meant_if_any, run_if_any}
use Rattle.c_meaning.specs.PartLaws.{LawfulAt}
use Rattle.ref_interp.specs.Runs.{objects_of}
use Rattle.ref_interp.specs.declared.machine.Ending.TheVariants as ending
use Rattle.ref_interp.specs.declared.machine.Machine.{Machine}
use Rattle.ref_interp.specs.Machines.{CanRun, Ran, goes_on}
use Rattle.ref_interp.specs.Statements.{EnterGives, AllGive}
use Rattle.ref_interp.proofs.Running.{still_can, then_can, kind_goes, after_turn, kind_starved, both_stop, both_ran, loop_goes, gone_start, gone_more, gone_stops, gone_all, the_stmt, rounded_start, rounded_fails, rounded_undefined, rounded_starved, rounded_leaves, rounded_stops, rounded_more, rounded_over, no_step, Rounded}
use Rattle.ref_interp.proofs.ByParts.{lawful_of, entered_can, entered_run, if_holds, if_fails, if_undefined, if_starved, loop_ran, for_loop_is, some_step, absent_step, some_lawful}
use Rattle.ref_interp.proofs.expressions.Interpreter.+exec.Goals as goal
use Rattle.ref_interp.proofs.expressions.Interpreter.+exec.Goals.{for_rounds-in-Some+else-not-is_normal, for_rounds-in_default-step}

-- after the turn of a statement
taken : (k : Objects) (m m1 : Machine) → CanRun k m → m1.left + 1 ≡ m.left → m1.cells ≡ m.cells → CanRun k m1
taken k m m1 can l same = still_can k m m1 can same (omega (arith, l))

pub exec-returns-then-not-take : goal.exec-returns-then-not-take
exec-returns-then-not-take t c l h can =
    let short = c.take.ensures.no c.if-not-take.true in
    kind_starved (objects_of c.args.self.now) c.args.self.now.typed.now.result c.args.s.now.kind c.args.m.now c.take.new.self can short.0 c.take.ensures.cells short.1

pub exec-returns-in-Block : goal.exec-returns-in-Block
exec-returns-in-Block t c l h can =
    let k = objects_of c.args.self.now in
    let r = c.args.self.now.typed.now.result in
    let m1 = c.take.new.self in
    let left = c.take.ensures.yes c.if-not-take.false in
    let can1 = taken k c.args.m.now m1 can left c.take.ensures.cells in
    let all = (can.parts.lawful_block c.in-Block.body k r l).0 (lawful_of k r l _ _ c.in-Block.is h) in
    let en = subst (λ ss. EnterGives k ss m1 c.enter.new.m) c.as_slice.ensures (c.enter.ensures k) can1 in
    let ran = subst (λ ss. AllGive k r ss c.enter.new.m c.exec_all.result c.exec_all.new.m) c.as_slice-in-Block.ensures c.exec_all.ensures l all (entered_can k c.in-Block.body m1 c.enter.new.m can1 en) in
    kind_goes k r c.args.s.now.kind _ _ (block (map (act k) c.in-Block.body)) c.args.m.now m1 c.exec_all.new.m c.exec_all.result c.in-Block.is (can.parts.block c.in-Block.body k) refl left c.take.ensures.cells
    (entered_run k r c.in-Block.body (in_order (map (act k) c.in-Block.body)) m1 c.enter.new.m c.exec_all.new.m c.exec_all.result en ran)

pub exec-returns-in-If : goal.exec-returns-in-If
exec-returns-in-If t c l h can =
    let k = objects_of c.args.self.now in
    let r = c.args.self.now.typed.now.result in
    let m1 = c.take.new.self in
    let left = c.take.ensures.yes c.if-not-take.false in
    let can1 = taken k c.args.m.now m1 can left c.take.ensures.cells in
    let by = can.parts.choice c.in-If.cond c.in-If.then c.in-If.other k in
    let ran = c.if_else.ensures c.in-If.cond c.in-If.then c.in-If.other l c.in-If.is h can1 (branch (in_order []) (meaning k c.in-If.cond) (part (act k c.in-If.then)) (run_if_any (option_map (act k) c.in-If.other))) (ap (λ x. (kind_act k x).run) c.in-If.is ∙ ap (λ (a : Act). a.run) by) in
    kind_goes k r c.args.s.now.kind _ _ (branch (in_order []) (meaning k c.in-If.cond) (part (act k c.in-If.then)) (run_if_any (option_map (act k) c.in-If.other))) c.args.m.now m1 c.if_else.new.m c.if_else.result c.in-If.is (can.parts.choice c.in-If.cond c.in-If.then c.in-If.other k) refl left c.take.ensures.cells ran

pub if_else-returns-in-Holds : goal.if_else-returns-in-Holds
if_else-returns-in-Holds t c d a o l is h can w0 eq =
    let k = objects_of c.args.self.now in
    let r = c.args.self.now.typed.now.result in
    let m1 = c.args.m.now in
    let w = (can.parts.lawful_choice c.in-If.cond c.in-If.then c.in-If.other k r l).0 (lawful_of k r l _ _ c.in-If.is h) in
    let test = c.in-Holds.ensures w.0 can in
    let can2 = still_can k m1 c.tested.new.m can test.cells test.fewer in
    let ran = subst (λ (s : TypedStmt). Ran k r (part (act k s)) c.tested.new.m c.part.result c.part.new.m) c.get.ensures (c.part.ensures l (subst (LawfulAt k r l) (sym c.get.ensures) w.1) can2) in
    after_turn k r c.args.s.now.kind _ _ (branch (in_order []) (meaning k c.in-If.cond) (part (act k c.in-If.then)) (run_if_any (option_map (act k) c.in-If.other))) w0 m1 c.part.new.m c.part.result c.in-If.is (can.parts.choice c.in-If.cond c.in-If.then c.in-If.other k) refl eq
    (if_holds k r (meaning k c.in-If.cond) (part (act k c.in-If.then)) (run_if_any (option_map (act k) c.in-If.other)) m1 c.tested.new.m c.part.new.m c.part.result test ran)

pub if_else-returns-in-None : goal.if_else-returns-in-None
if_else-returns-in-None t c d a o l is h can w0 eq =
    let k = objects_of c.args.self.now in
    let r = c.args.self.now.typed.now.result in
    let m1 = c.args.m.now in
    let w = (can.parts.lawful_choice c.in-If.cond c.in-If.then c.in-If.other k r l).0 (lawful_of k r l _ _ c.in-If.is h) in
    let test = c.in-Fails.ensures w.0 can in
    let can2 = still_can k m1 c.tested.new.m can test.cells test.fewer in
    after_turn k r c.args.s.now.kind _ _ (branch (in_order []) (meaning k c.in-If.cond) (part (act k c.in-If.then)) (run_if_any (option_map (act k) c.in-If.other))) w0 m1 c.tested.new.m ending.Normally c.in-If.is (can.parts.choice c.in-If.cond c.in-If.then c.in-If.other k) refl eq
    (if_fails k r (meaning k c.in-If.cond) (part (act k c.in-If.then)) (run_if_any (option_map (act k) c.in-If.other)) m1 c.tested.new.m c.tested.new.m ending.Normally test (absent_step k r c.in-If.other c.tested.new.m c.in-None.is can2))

pub if_else-returns-in-Some : goal.if_else-returns-in-Some
if_else-returns-in-Some t c d a o l is h can w0 eq =
    let k = objects_of c.args.self.now in
    let r = c.args.self.now.typed.now.result in
    let m1 = c.args.m.now in
    let w = (can.parts.lawful_choice c.in-If.cond c.in-If.then c.in-If.other k r l).0 (lawful_of k r l _ _ c.in-If.is h) in
    let test = c.in-Fails.ensures w.0 can in
    let can2 = still_can k m1 c.tested.new.m can test.cells test.fewer in
    let n = c.part-in-Some.new.m in
    let e = c.part-in-Some.result in
    let ran = subst (λ (s : TypedStmt). Ran k r (part (act k s)) c.tested.new.m e n) c.get-in-Some.ensures (c.part-in-Some.ensures l (subst (LawfulAt k r l) (sym c.get-in-Some.ensures) (some_lawful k r l c.in-If.other c.in-Some.other c.in-Some.is w.2)) can2) in
    after_turn k r c.args.s.now.kind _ _ (branch (in_order []) (meaning k c.in-If.cond) (part (act k c.in-If.then)) (run_if_any (option_map (act k) c.in-If.other))) w0 m1 n e c.in-If.is (can.parts.choice c.in-If.cond c.in-If.then c.in-If.other k) refl eq
    (if_fails k r (meaning k c.in-If.cond) (part (act k c.in-If.then)) (run_if_any (option_map (act k) c.in-If.other)) m1 c.tested.new.m n e test (some_step k r c.in-If.other c.in-Some.other c.tested.new.m n e c.in-Some.is ran))

pub if_else-returns-in-Undefined : goal.if_else-returns-in-Undefined
if_else-returns-in-Undefined t c d a o l is h can w0 eq =
    let k = objects_of c.args.self.now in
    let r = c.args.self.now.typed.now.result in
    let m1 = c.args.m.now in
    let w = (can.parts.lawful_choice c.in-If.cond c.in-If.then c.in-If.other k r l).0 (lawful_of k r l _ _ c.in-If.is h) in
    after_turn k r c.args.s.now.kind _ _ (branch (in_order []) (meaning k c.in-If.cond) (part (act k c.in-If.then)) (run_if_any (option_map (act k) c.in-If.other))) w0 m1 c.tested.new.m ending.Undefined c.in-If.is (can.parts.choice c.in-If.cond c.in-If.then c.in-If.other k) refl eq
    (if_undefined k r (meaning k c.in-If.cond) (part (act k c.in-If.then)) (run_if_any (option_map (act k) c.in-If.other)) m1 c.tested.new.m can (c.in-Undefined.ensures w.0 can))

pub if_else-returns-in-OutOfTurns : goal.if_else-returns-in-OutOfTurns
if_else-returns-in-OutOfTurns t c d a o l is h can w0 eq =
    let k = objects_of c.args.self.now in
    let r = c.args.self.now.typed.now.result in
    let m1 = c.args.m.now in
    let w = (can.parts.lawful_choice c.in-If.cond c.in-If.then c.in-If.other k r l).0 (lawful_of k r l _ _ c.in-If.is h) in
    after_turn k r c.args.s.now.kind _ _ (branch (in_order []) (meaning k c.in-If.cond) (part (act k c.in-If.then)) (run_if_any (option_map (act k) c.in-If.other))) w0 m1 c.tested.new.m ending.OutOfTurns c.in-If.is (can.parts.choice c.in-If.cond c.in-If.then c.in-If.other k) refl eq
    (if_starved k r (meaning k c.in-If.cond) (part (act k c.in-If.then)) (run_if_any (option_map (act k) c.in-If.other)) m1 c.tested.new.m can (c.in-OutOfTurns.ensures w.0 can))

pub exec-returns-in-While : goal.exec-returns-in-While
exec-returns-in-While t c l h can =
    let k = objects_of c.args.self.now in
    let r = c.args.self.now.typed.now.result in
    let m1 = c.take.new.self in
    let left = c.take.ensures.yes c.if-not-take.false in
    let can1 = taken k c.args.m.now m1 can left c.take.ensures.cells in
    let w = (can.parts.lawful_while c.in-While.cond c.in-While.body k r l).0 (lawful_of k r l _ _ c.in-While.is h) in
    let ms = meaning k c.in-While.cond in
    let ran = subst (λ (s : TypedStmt). Ran k r (rounds (m1.left + 1) nothing ms (part (act k s)) nothing) m1 c.rounds.result c.rounds.new.m) c.get.ensures (c.rounds.ensures (subst (LawfulAt k r true) (sym c.get.ensures) w.1) w.0 can1) in
    kind_goes k r c.args.s.now.kind _ _ (loop (in_order []) ms (part (act k c.in-While.body)) nothing) c.args.m.now m1 c.rounds.new.m c.rounds.result c.in-While.is (can.parts.while_loop c.in-While.cond c.in-While.body k) refl left c.take.ensures.cells
    (loop_ran k r ms (part (act k c.in-While.body)) nothing m1 c.rounds.new.m c.rounds.result ran)

pub exec-returns-else-not-goes_on : goal.exec-returns-else-not-goes_on
exec-returns-else-not-goes_on t c l h can =
    let k = objects_of c.args.self.now in
    let r = c.args.self.now.typed.now.result in
    let m1 = c.take.new.self in
    let left = c.take.ensures.yes c.if-not-take.false in
    let can1 = taken k c.args.m.now m1 can left c.take.ensures.cells in
    let w = (can.parts.lawful_do c.in-DoWhile.body c.in-DoWhile.cond k r l).0 (lawful_of k r l _ _ c.in-DoWhile.is h) in
    let ms = meaning k c.in-DoWhile.cond in
    let m2 = c.part-ending.new.m in
    let n = c.rounds-in-DoWhile.new.m in
    let e = c.rounds-in-DoWhile.result in
    let body = part (act k c.in-DoWhile.body) in
    let first = subst (λ (s : TypedStmt). Ran k r (part (act k s)) m1 c.part-ending.result m2) c.get-in-DoWhile.ensures (c.part-ending.ensures true (subst (LawfulAt k r true) (sym c.get-in-DoWhile.ensures) w.0) can1) in
    let can2 = then_can k r body m1 m2 c.part-ending.result can1 first in
    let ran = subst (λ (s : TypedStmt). Ran k r (rounds (m2.left + 1) nothing ms (part (act k s)) nothing) m2 e n) c.get-in-DoWhile-2.ensures (c.rounds-in-DoWhile.ensures (subst (LawfulAt k r true) (sym c.get-in-DoWhile-2.ensures) w.0) w.1 can2) in
    kind_goes k r c.args.s.now.kind _ _ (looped body (loop (in_order []) ms body nothing)) c.args.m.now m1 n e c.in-DoWhile.is (can.parts.do_loop c.in-DoWhile.body c.in-DoWhile.cond k) refl left c.take.ensures.cells
    (loop_goes k r body (loop (in_order []) ms body nothing) m1 m2 n c.part-ending.result e first (sym c.goes_on.ensures ∙ c.if-not-goes_on.false) (loop_ran k r ms body nothing m2 n e ran))

pub exec-returns-in-For : goal.exec-returns-in-For
exec-returns-in-For t c l h can =
    let k = objects_of c.args.self.now in
    let r = c.args.self.now.typed.now.result in
    let m1 = c.take.new.self in
    let left = c.take.ensures.yes c.if-not-take.false in
    let can1 = taken k c.args.m.now m1 can left c.take.ensures.cells in
    let by = can.parts.for_loop c.in-For.first c.in-For.cond c.in-For.step c.in-For.body k in
    let ran = c.for_loop.ensures c.in-For.first c.in-For.cond c.in-For.step c.in-For.body l c.in-For.is h can1 (entering (map (act k) c.in-For.first) (both_runs (in_order (map (act k) c.in-For.first)) (loop (in_order []) (condition (meant_if_any k c.in-For.cond)) (part (act k c.in-For.body)) (run_if_any (option_map (act k) c.in-For.step))))) (ap (λ x. (kind_act k x).run) c.in-For.is ∙ ap (λ (a : Act). a.run) by) in
    kind_goes k r c.args.s.now.kind _ _ (entering (map (act k) c.in-For.first) (both_runs (in_order (map (act k) c.in-For.first)) (loop (in_order []) (condition (meant_if_any k c.in-For.cond)) (part (act k c.in-For.body)) (run_if_any (option_map (act k) c.in-For.step))))) c.args.m.now m1 c.for_loop.new.m c.for_loop.result c.in-For.is (can.parts.for_loop c.in-For.first c.in-For.cond c.in-For.step c.in-For.body k) refl left c.take.ensures.cells ran

pub for_loop-returns-then-not-is_normal : goal.for_loop-returns-then-not-is_normal
for_loop-returns-then-not-is_normal t c f0 c0 o0 b0 l is h can w0 eq =
    let k = objects_of c.args.self.now in
    let r = c.args.self.now.typed.now.result in
    let m1 = c.args.m.now in
    let first = c.in-For.first in
    let w = (can.parts.lawful_for first c.in-For.cond c.in-For.step c.in-For.body k r l).0 (lawful_of k r l _ _ c.in-For.is h) in
    let m2 = c.enter.new.m in
    let n = c.exec_all-ending.new.m in
    let e = c.exec_all-ending.result in
    let en = subst (λ ss. EnterGives k ss m1 m2) c.as_slice.ensures (c.enter.ensures k) can in
    let ran = subst (λ ss. AllGive k r ss m2 e n) c.as_slice-2.ensures c.exec_all-ending.ensures false w.0 (entered_can k first m1 m2 can en) in
    let rest = loop (in_order []) (condition (meant_if_any k c.in-For.cond)) (part (act k c.in-For.body)) (run_if_any (option_map (act k) c.in-For.step)) in
    after_turn k r c.args.s.now.kind _ _ (entering (map (act k) c.in-For.first) (both_runs (in_order (map (act k) c.in-For.first)) (loop (in_order []) (condition (meant_if_any k c.in-For.cond)) (part (act k c.in-For.body)) (run_if_any (option_map (act k) c.in-For.step))))) w0 m1 n e c.in-For.is (can.parts.for_loop c.in-For.first c.in-For.cond c.in-For.step c.in-For.body k) refl eq
    (entered_run k r first (both_runs (in_order (map (act k) first)) rest) m1 m2 n e en (both_stop k r (in_order (map (act k) first)) rest m2 n e ran (sym c.is_normal.ensures ∙ c.if-not-is_normal.true)))

pub for_loop-returns : goal.for_loop-returns
for_loop-returns t c f0 c0 o0 b0 l is h can w0 eq =
    let k = objects_of c.args.self.now in
    let r = c.args.self.now.typed.now.result in
    let m1 = c.args.m.now in
    let first = c.in-For.first in
    let w = (can.parts.lawful_for first c.in-For.cond c.in-For.step c.in-For.body k r l).0 (lawful_of k r l _ _ c.in-For.is h) in
    let m2 = c.enter.new.m in
    let m3 = c.exec_all-ending.new.m in
    let n = c.for_rounds.new.m in
    let e = c.for_rounds.result in
    let en = subst (λ ss. EnterGives k ss m1 m2) c.as_slice.ensures (c.enter.ensures k) can in
    let can2 = entered_can k first m1 m2 can en in
    let ran = subst (λ ss. AllGive k r ss m2 c.exec_all-ending.result m3) c.as_slice-2.ensures c.exec_all-ending.ensures false w.0 can2 in
    let can3 = then_can k r (in_order (map (act k) first)) m2 m3 c.exec_all-ending.result can2 ran in
    let cond = condition (meant_if_any k c.in-For.cond) in
    let body = part (act k c.in-For.body) in
    let step = run_if_any (option_map (act k) c.in-For.step) in
    let rest = loop (in_order []) cond body step in
    let lp = subst (λ (run : Run). Ran k r run m3 e n) (for_loop_is k c.args.s.now.kind first c.in-For.cond c.in-For.step c.in-For.body (m3.left + 1) c.in-For.is) (c.for_rounds.ensures first c.in-For.cond c.in-For.step c.in-For.body l c.in-For.is h can3) in
    after_turn k r c.args.s.now.kind _ _ (entering (map (act k) c.in-For.first) (both_runs (in_order (map (act k) c.in-For.first)) (loop (in_order []) (condition (meant_if_any k c.in-For.cond)) (part (act k c.in-For.body)) (run_if_any (option_map (act k) c.in-For.step))))) w0 m1 n e c.in-For.is (can.parts.for_loop c.in-For.first c.in-For.cond c.in-For.step c.in-For.body k) refl eq
    (entered_run k r first (both_runs (in_order (map (act k) first)) rest) m1 m2 n e en (both_ran k r (in_order (map (act k) first)) rest m2 m3 n c.exec_all-ending.result e ran (sym c.is_normal.ensures ∙ c.if-not-is_normal.false) (loop_ran k r cond body step m3 n e lp)))

-- ---- statements in order

pub exec_all-loop-stmt-init : goal.exec_all-loop-stmt-init
exec_all-loop-stmt-init t c = λ b all can. gone_start (objects_of c.args.self.now) c.args.stmts.now c.args.m.now can

pub exec_all-loop-stmt-preserved : goal.exec_all-loop-stmt-preserved
exec_all-loop-stmt-preserved t c = λ b all can.
    let k = objects_of c.args.self.now in
    let r = c.args.self.now.typed.now.result in
    let g = c.loop-stmt.invariant b all can in
    let ran = c.exec-ending.ensures b (the_stmt k r b c.args.stmts.now c.loop-stmt.stmt-index c.stmt-item.result c.loop-stmt-test.true c.stmt-item.is all) g.can in
    gone_more k r c.args.stmts.now c.loop-stmt.stmt-index c.stmt-item.result c.args.m.now c.loop-stmt.m c.exec-ending.new.m c.exec-ending.result c.loop-stmt-test.true c.stmt-item.is g ran (sym c.is_normal.ensures ∙ c.if-not-is_normal.false)

pub exec_all-returns-then-not-is_normal : goal.exec_all-returns-then-not-is_normal
exec_all-returns-then-not-is_normal t c b all can =
    let k = objects_of c.args.self.now in
    let r = c.args.self.now.typed.now.result in
    let g = c.loop-stmt.invariant b all can in
    let ran = c.exec-ending.ensures b (the_stmt k r b c.args.stmts.now c.loop-stmt.stmt-index c.stmt-item.result c.loop-stmt-test.true c.stmt-item.is all) g.can in
    gone_stops k r c.args.stmts.now c.loop-stmt.stmt-index c.stmt-item.result c.args.m.now c.loop-stmt.m c.exec-ending.new.m c.exec-ending.result c.loop-stmt-test.true c.stmt-item.is g ran (sym c.is_normal.ensures ∙ c.if-not-is_normal.true)

pub exec_all-returns : goal.exec_all-returns
exec_all-returns t c b all can = gone_all (objects_of c.args.self.now) c.args.self.now.typed.now.result c.args.stmts.now c.loop-stmt.stmt-index c.args.m.now c.loop-stmt.m c.loop-stmt-test.false (c.loop-stmt.invariant b all can)

-- ---- while

-- the rounds that may still follow
rest_of : (i most_rounds l : ℕ) → most_rounds ≡ l + 1 → i < most_rounds → (l - i) + i ≡ l
rest_of i n l e lt = omega (arith, e, lt)

pub rounds-loop-i-init : goal.rounds-loop-i-init
rounds-loop-i-init t c = λ b e can. rounded_start (objects_of c.args.self.now) (meaning (objects_of c.args.self.now) c.args.cond.now) (part (act (objects_of c.args.self.now) c.args.body.now)) nothing c.args.m.now can

pub rounds-returns-in-Fails : goal.rounds-returns-in-Fails
rounds-returns-in-Fails t c b e can =
    let k = objects_of c.args.self.now in
    let g = c.loop-i.invariant b e can in
    rounded_fails k c.args.self.now.typed.now.result (meaning k c.args.cond.now) (part (act k c.args.body.now)) nothing c.args.m.now c.loop-i.m c.tested.new.m c.loop-i.i (c.args.m.now.left - c.loop-i.i) g (let w = c.saturating_add-most_rounds.ensures in let few = can.few in omega (arith, w, few, c.loop-i-test.true)) (c.in-Fails.ensures e g.can)

pub rounds-returns-in-Undefined : goal.rounds-returns-in-Undefined
rounds-returns-in-Undefined t c b e can =
    let k = objects_of c.args.self.now in
    let g = c.loop-i.invariant b e can in
    rounded_undefined k c.args.self.now.typed.now.result (meaning k c.args.cond.now) (part (act k c.args.body.now)) nothing c.args.m.now c.loop-i.m c.tested.new.m c.loop-i.i (c.args.m.now.left - c.loop-i.i) g (let w = c.saturating_add-most_rounds.ensures in let few = can.few in omega (arith, w, few, c.loop-i-test.true)) (c.in-Undefined.ensures e g.can)

pub rounds-returns-in-OutOfTurns : goal.rounds-returns-in-OutOfTurns
rounds-returns-in-OutOfTurns t c b e can =
    let k = objects_of c.args.self.now in
    let g = c.loop-i.invariant b e can in
    rounded_starved k c.args.self.now.typed.now.result (meaning k c.args.cond.now) (part (act k c.args.body.now)) nothing c.args.m.now c.loop-i.m c.tested.new.m c.loop-i.i (c.args.m.now.left - c.loop-i.i) g (let w = c.saturating_add-most_rounds.ensures in let few = can.few in omega (arith, w, few, c.loop-i-test.true)) (c.in-OutOfTurns.ensures e g.can)

pub rounds-returns-then-not-goes_on : goal.rounds-returns-then-not-goes_on
rounds-returns-then-not-goes_on t c b e can =
    let k = objects_of c.args.self.now in
    let r = c.args.self.now.typed.now.result in
    let g = c.loop-i.invariant b e can in
    let test = c.in-Holds.ensures e g.can in
    let ran = c.part-ending.ensures true b (still_can k c.loop-i.m c.tested.new.m g.can test.cells test.fewer) in
    let rs = rounds (c.args.m.now.left + 1) nothing (meaning k c.args.cond.now) (part (act k c.args.body.now)) nothing in
    subst (λ w. Ran k r rs c.args.m.now w c.part-ending.new.m) (sym c.left_loop.ensures)
    (rounded_leaves k r (meaning k c.args.cond.now) (part (act k c.args.body.now)) nothing c.args.m.now c.loop-i.m c.tested.new.m c.part-ending.new.m c.loop-i.i (c.args.m.now.left - c.loop-i.i) c.part-ending.result g (let w = c.saturating_add-most_rounds.ensures in let few = can.few in omega (arith, w, few, c.loop-i-test.true)) test ran (sym c.goes_on.ensures ∙ c.if-not-goes_on.true))

pub rounds-loop-i-preserved : goal.rounds-loop-i-preserved
rounds-loop-i-preserved t c = λ b e can.
    let k = objects_of c.args.self.now in
    let r = c.args.self.now.typed.now.result in
    let g = c.loop-i.invariant b e can in
    let test = c.in-Holds.ensures e g.can in
    let can2 = still_can k c.loop-i.m c.tested.new.m g.can test.cells test.fewer in
    let body = part (act k c.args.body.now) in
    let n = c.part-ending.new.m in
    let ran = c.part-ending.ensures true b can2 in
    rounded_more k r (meaning k c.args.cond.now) body nothing c.args.m.now c.loop-i.m c.tested.new.m n n c.loop-i.i c.part-ending.result ending.Normally g test ran (sym c.goes_on.ensures ∙ c.if-not-goes_on.false) (no_step k r n (then_can k r body c.tested.new.m n c.part-ending.result can2 ran)) refl

pub rounds-returns : goal.rounds-returns
rounds-returns t c b e can =
    let k = objects_of c.args.self.now in
    rounded_over k c.args.self.now.typed.now.result (meaning k c.args.cond.now) (part (act k c.args.body.now)) nothing c.args.m.now c.loop-i.m c.loop-i.i (c.loop-i.invariant b e can) (let w = c.saturating_add-most_rounds.ensures in let few = can.few in omega (arith, w, few, c.loop-i.auto.i-end, c.loop-i-test.false))

-- ---- for

pub for_rounds-loop-i-init : goal.for_rounds-loop-i-init
for_rounds-loop-i-init t c = λ lc lo lb can.
    let k = objects_of c.args.self.now in
    rounded_start k (condition (meant_if_any k c.in-For.cond)) (part (act k c.in-For.body)) (run_if_any (option_map (act k) c.in-For.step)) c.args.m.now can

pub for_rounds-returns-in-Fails : goal.for_rounds-returns-in-Fails
for_rounds-returns-in-Fails t c f0 c0 o0 b0 l is h can =
    let k = objects_of c.args.self.now in
    let r = c.args.self.now.typed.now.result in
    let w = (can.parts.lawful_for c.in-For.first c.in-For.cond c.in-For.step c.in-For.body k r l).0 (lawful_of k r l _ _ c.in-For.is h) in
    let g = c.loop-i.invariant w.1 w.2 w.3 can in
    subst (λ (run : Run). Ran k r run c.args.m.now ending.Normally c.tested_if_any.new.m) (sym (for_loop_is k c.args.s.now.kind c.in-For.first c.in-For.cond c.in-For.step c.in-For.body (c.args.m.now.left + 1) c.in-For.is))
    (rounded_fails k r (condition (meant_if_any k c.in-For.cond)) (part (act k c.in-For.body)) (run_if_any (option_map (act k) c.in-For.step)) c.args.m.now c.loop-i.m c.tested_if_any.new.m c.loop-i.i (c.args.m.now.left - c.loop-i.i) g (let s = c.saturating_add-limit.ensures in let few = can.few in omega (arith, s, few, c.loop-i-test.true)) (c.in-Fails.ensures w.1 g.can))

pub for_rounds-returns-in-Undefined : goal.for_rounds-returns-in-Undefined
for_rounds-returns-in-Undefined t c f0 c0 o0 b0 l is h can =
    let k = objects_of c.args.self.now in
    let r = c.args.self.now.typed.now.result in
    let w = (can.parts.lawful_for c.in-For.first c.in-For.cond c.in-For.step c.in-For.body k r l).0 (lawful_of k r l _ _ c.in-For.is h) in
    let g = c.loop-i.invariant w.1 w.2 w.3 can in
    subst (λ (run : Run). Ran k r run c.args.m.now ending.Undefined c.tested_if_any.new.m) (sym (for_loop_is k c.args.s.now.kind c.in-For.first c.in-For.cond c.in-For.step c.in-For.body (c.args.m.now.left + 1) c.in-For.is))
    (rounded_undefined k r (condition (meant_if_any k c.in-For.cond)) (part (act k c.in-For.body)) (run_if_any (option_map (act k) c.in-For.step)) c.args.m.now c.loop-i.m c.tested_if_any.new.m c.loop-i.i (c.args.m.now.left - c.loop-i.i) g (let s = c.saturating_add-limit.ensures in let few = can.few in omega (arith, s, few, c.loop-i-test.true)) (c.in-Undefined.ensures w.1 g.can))

pub for_rounds-returns-in-OutOfTurns : goal.for_rounds-returns-in-OutOfTurns
for_rounds-returns-in-OutOfTurns t c f0 c0 o0 b0 l is h can =
    let k = objects_of c.args.self.now in
    let r = c.args.self.now.typed.now.result in
    let w = (can.parts.lawful_for c.in-For.first c.in-For.cond c.in-For.step c.in-For.body k r l).0 (lawful_of k r l _ _ c.in-For.is h) in
    let g = c.loop-i.invariant w.1 w.2 w.3 can in
    subst (λ (run : Run). Ran k r run c.args.m.now ending.OutOfTurns c.tested_if_any.new.m) (sym (for_loop_is k c.args.s.now.kind c.in-For.first c.in-For.cond c.in-For.step c.in-For.body (c.args.m.now.left + 1) c.in-For.is))
    (rounded_starved k r (condition (meant_if_any k c.in-For.cond)) (part (act k c.in-For.body)) (run_if_any (option_map (act k) c.in-For.step)) c.args.m.now c.loop-i.m c.tested_if_any.new.m c.loop-i.i (c.args.m.now.left - c.loop-i.i) g (let s = c.saturating_add-limit.ensures in let few = can.few in omega (arith, s, few, c.loop-i-test.true)) (c.in-OutOfTurns.ensures w.1 g.can))

pub for_rounds-returns-then-not-goes_on : goal.for_rounds-returns-then-not-goes_on
for_rounds-returns-then-not-goes_on t c f0 c0 o0 b0 l is h can =
    let k = objects_of c.args.self.now in
    let r = c.args.self.now.typed.now.result in
    let w = (can.parts.lawful_for c.in-For.first c.in-For.cond c.in-For.step c.in-For.body k r l).0 (lawful_of k r l _ _ c.in-For.is h) in
    let g = c.loop-i.invariant w.1 w.2 w.3 can in
    let test = c.in-Holds.ensures w.1 g.can in
    let can2 = still_can k c.loop-i.m c.tested_if_any.new.m g.can test.cells test.fewer in
    let ran = subst (λ (s : TypedStmt). Ran k r (part (act k s)) c.tested_if_any.new.m c.part-ending.result c.part-ending.new.m) c.get.ensures (c.part-ending.ensures true (subst (LawfulAt k r true) (sym c.get.ensures) w.3) can2) in
    subst (λ (run : Run). Ran k r run c.args.m.now c.left_loop.result c.part-ending.new.m) (sym (for_loop_is k c.args.s.now.kind c.in-For.first c.in-For.cond c.in-For.step c.in-For.body (c.args.m.now.left + 1) c.in-For.is))
    (subst (λ e. Ran k r (rounds (c.args.m.now.left + 1) nothing (condition (meant_if_any k c.in-For.cond)) (part (act k c.in-For.body)) (run_if_any (option_map (act k) c.in-For.step))) c.args.m.now e c.part-ending.new.m) (sym c.left_loop.ensures)
    (rounded_leaves k r (condition (meant_if_any k c.in-For.cond)) (part (act k c.in-For.body)) (run_if_any (option_map (act k) c.in-For.step)) c.args.m.now c.loop-i.m c.tested_if_any.new.m c.part-ending.new.m c.loop-i.i (c.args.m.now.left - c.loop-i.i) c.part-ending.result g (let s = c.saturating_add-limit.ensures in let few = can.few in omega (arith, s, few, c.loop-i-test.true)) test ran (sym c.goes_on.ensures ∙ c.if-not-goes_on.true)))

pub for_rounds-returns-then-not-is_normal : goal.for_rounds-returns-then-not-is_normal
for_rounds-returns-then-not-is_normal t c f0 c0 o0 b0 l is h can =
    let k = objects_of c.args.self.now in
    let r = c.args.self.now.typed.now.result in
    let w = (can.parts.lawful_for c.in-For.first c.in-For.cond c.in-For.step c.in-For.body k r l).0 (lawful_of k r l _ _ c.in-For.is h) in
    let g = c.loop-i.invariant w.1 w.2 w.3 can in
    let test = c.in-Holds.ensures w.1 g.can in
    let body = part (act k c.in-For.body) in
    let m2 = c.tested_if_any.new.m in
    let m3 = c.part-ending.new.m in
    let n = c.part-ending-in-Some.new.m in
    let f = c.part-ending-in-Some.result in
    let can2 = still_can k c.loop-i.m m2 g.can test.cells test.fewer in
    let ran = subst (λ (s : TypedStmt). Ran k r (part (act k s)) m2 c.part-ending.result m3) c.get.ensures (c.part-ending.ensures true (subst (LawfulAt k r true) (sym c.get.ensures) w.3) can2) in
    let can3 = then_can k r body m2 m3 c.part-ending.result can2 ran in
    let st = subst (λ (s : TypedStmt). Ran k r (part (act k s)) m3 f n) c.get-in-Some.ensures (c.part-ending-in-Some.ensures false (subst (LawfulAt k r false) (sym c.get-in-Some.ensures) (some_lawful k r false c.in-For.step c.in-Some.step c.in-Some.is w.2)) can3) in
    subst (λ (run : Run). Ran k r run c.args.m.now f n) (sym (for_loop_is k c.args.s.now.kind c.in-For.first c.in-For.cond c.in-For.step c.in-For.body (c.args.m.now.left + 1) c.in-For.is))
    (rounded_stops k r (condition (meant_if_any k c.in-For.cond)) body (run_if_any (option_map (act k) c.in-For.step)) c.args.m.now c.loop-i.m m2 m3 n c.loop-i.i (c.args.m.now.left - c.loop-i.i) c.part-ending.result f g (let s = c.saturating_add-limit.ensures in let few = can.few in omega (arith, s, few, c.loop-i-test.true)) test ran (sym c.goes_on.ensures ∙ c.if-not-goes_on.false)
    (some_step k r c.in-For.step c.in-Some.step m3 n f c.in-Some.is st) (sym c.is_normal.ensures ∙ c.if-not-is_normal.true))

pub for_rounds-loop-i-preserved : goal.for_rounds-loop-i-preserved
for_rounds-loop-i-preserved t c = λ lc lo lb can.
    let k = objects_of c.args.self.now in
    let r = c.args.self.now.typed.now.result in
    let g = c.loop-i.invariant lc lo lb can in
    let test = c.in-Holds.ensures lc g.can in
    let cond = condition (meant_if_any k c.in-For.cond) in
    let body = part (act k c.in-For.body) in
    let step = run_if_any (option_map (act k) c.in-For.step) in
    let m2 = c.tested_if_any.new.m in
    let m3 = c.part-ending.new.m in
    let can2 = still_can k c.loop-i.m m2 g.can test.cells test.fewer in
    let ran : Ran k r (part (act k c.in-For.body)) m2 c.part-ending.result m3 = subst (λ (s : TypedStmt). Ran k r (part (act k s)) m2 c.part-ending.result m3) c.get.ensures (c.part-ending.ensures true (subst (LawfulAt k r true) (sym c.get.ensures) lb) can2) in
    let can3 = then_can k r body m2 m3 c.part-ending.result can2 ran in
    let on : goes_on c.part-ending.result ≡ true = sym c.goes_on.ensures ∙ c.if-not-goes_on.false in
    elim c.match-step.branch [
      | for_rounds-in-Some+else-not-is_normal w ↦
          let n = w.part-ending-in-Some.new.m in
          let f = w.part-ending-in-Some.result in
          let st = subst (λ (s : TypedStmt). Ran k r (part (act k s)) m3 f n) w.get-in-Some.ensures (w.part-ending-in-Some.ensures false (subst (LawfulAt k r false) (sym w.get-in-Some.ensures) (some_lawful k r false c.in-For.step w.in-Some.step w.in-Some.is lo)) can3) in
          subst (Rounded k cond body step c.args.m.now (c.loop-i.i + 1)) (sym w.m-is)
          (rounded_more k r cond body step c.args.m.now c.loop-i.m m2 m3 n c.loop-i.i c.part-ending.result f g test ran on (some_step k r c.in-For.step w.in-Some.step m3 n f w.in-Some.is st) (sym w.is_normal.ensures ∙ w.if-not-is_normal.false))
      | for_rounds-in_default-step w ↦
          subst (Rounded k cond body step c.args.m.now (c.loop-i.i + 1)) (sym w.m-is)
          (rounded_more k r cond body step c.args.m.now c.loop-i.m m2 m3 m3 c.loop-i.i c.part-ending.result ending.Normally g test ran on (absent_step k r c.in-For.step m3 w.in_default-step.is can3) refl)
    ]

pub for_rounds-returns : goal.for_rounds-returns
for_rounds-returns t c f0 c0 o0 b0 l is h can =
    let k = objects_of c.args.self.now in
    let r = c.args.self.now.typed.now.result in
    let w = (can.parts.lawful_for c.in-For.first c.in-For.cond c.in-For.step c.in-For.body k r l).0 (lawful_of k r l _ _ c.in-For.is h) in
    let g = c.loop-i.invariant w.1 w.2 w.3 can in
    subst (λ (run : Run). Ran k r run c.args.m.now ending.OutOfTurns c.loop-i.m) (sym (for_loop_is k c.args.s.now.kind c.in-For.first c.in-For.cond c.in-For.step c.in-For.body (c.args.m.now.left + 1) c.in-For.is))
    (rounded_over k r (condition (meant_if_any k c.in-For.cond)) (part (act k c.in-For.body)) (run_if_any (option_map (act k) c.in-For.step)) c.args.m.now c.loop-i.m c.loop-i.i g (let s = c.saturating_add-limit.ensures in let few = can.few in omega (arith, s, few, c.loop-i.auto.i-end, c.loop-i-test.false)))
