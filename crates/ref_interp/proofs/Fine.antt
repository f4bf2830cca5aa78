-- Runs take turns away alone, and leave by break or continue only in a loop.
use Rattle.std.proofs.Common.{ℕ, zero, suc, ◌≤◌, List, [], ◌∷◌, map, Option, Some, None, arith}
use Rattle.std.specs.Prelude.{Bool, true, false, IsTrue, All, ℤ, pos}
use Rattle.std.proofs.lemmas.List.Elements.{All-head, All-tail}
use mathlib.Core.Former.{Count}
use Rattle.el_base.specs.declared.span.Span.{Span}
use Rattle.el_base.specs.declared.ty.Ty.{Ty}
use Rattle.el_base.specs.declared.ty.Ty.TheVariants.{I32}
use Rattle.c_ast.specs.declared.tree.Binary.{Binary}
use Rattle.c_ast.specs.declared.typed.Object.TheVariants as object
use Rattle.c_ast.specs.declared.typed.TypedStmt.{TypedStmt}
use Rattle.c_ast.specs.declared.typed.TypedStmtKind.{TypedStmtKind, Row_of-TypedStmt, end_of-TypedStmt, more_of-TypedStmt, Held-TypedStmtKind-If-2}
use Rattle.c_ast.specs.declared.typed.TypedStmtKind as tree
use Rattle.c_ast.specs.ResultTypes.{joint_type}
use Rattle.c_meaning.specs.Operators.{is_zero}
use Rattle.c_meaning.specs.Stores.{Store, Objects}
use Rattle.c_meaning.specs.Expressions.{Val, undefined_value, value, Meaning, meaning, always, later}
use Rattle.c_meaning.specs.Runs.{How, normally, by_break, by_continue, by_return, undefined, out_of_turns, Ended, Run, ends, taking, turn, go_on, both_runs, with_val, with_value, run_of, branch, after_body, looped, rounds, loop}
use Rattle.c_meaning.specs.Statements.{Act, act, kind_act, act_if_any, row_acts, Place, of_var, Placed, no_place, placed, MeantTarget, target_place, object_type, storing, stored, assigned_to, updated_at, assignment, updated, joined_in, joined_with, read_place, entering, in_order, block, nothing, part, run_if_any, condition, declared_run, returned, body_run, meant_target, meant_if_any, step_operator}
use Rattle.c_meaning.specs.Lawful.{LawfulStmt, LawfulStmtHeld, LawfulStmts}

-- it left by break or continue only in a loop
abbrev pub Leaves : Bool → How → Type 0
Leaves l normally = Unit {0}
Leaves l by_break = IsTrue l
Leaves l by_continue = IsTrue l
Leaves l (by_return v) = Unit {0}
Leaves l (undefined at) = Unit {0}
Leaves l out_of_turns = Unit {0}

pub record FineEnd (l : Bool) (n : ℕ) (e : Ended) : Type 0 where
  pub leaves : Leaves l e.how
  pub fewer : e.left ≤ n

abbrev pub Fine : Bool → Run → Type 0
Fine l run = (s : Store) (n : ℕ) → FineEnd l n (run s n)

fine_ends : (l : Bool) (how : How) → Leaves l how → Fine l (ends how)
fine_ends l how h s n = record { leaves = h; fewer = omega arith }

-- with fewer turns
less : (l : Bool) (m n : ℕ) (e : Ended) → m ≤ n → FineEnd l m e → FineEnd l n e
less l m n e h f = record { leaves = f.leaves; fewer = (let g = f.fewer in omega (arith, g, h)) }

fine_taking : (l : Bool) (t : ℕ) (run : Run) → Fine l run → Fine l (taking t run)
fine_taking l zero run f s n = f s n
fine_taking l (suc t) run f s zero = record { leaves = tt; fewer = omega arith }
fine_taking l (suc t) run f s (suc n) = less l n (suc n) (taking t run s n) (omega arith) (fine_taking l t run f s n)

fine_turn : (l : Bool) (run : Run) → Fine l run → Fine l (turn run)
fine_turn l run f s n = fine_taking l 1 run f s n

fine_val : (l : Bool) (v : Val) (next : ℤ → Run) → ((x : ℤ) → Fine l (next x)) → Fine l (with_val v next)
fine_val l (undefined_value at) next f s n = record { leaves = tt; fewer = omega arith }
fine_val l (value x t) next f s n = fine_taking l t (next x) (f x) s n

fine_go_on : (l : Bool) (how : How) (next : Run) (s : Store) (m n : ℕ) → Fine l next → FineEnd l n (ends how s m) → FineEnd l n (go_on how next s m)
fine_go_on l normally next s m n f e = less l m n (next s m) e.fewer (f s m)
fine_go_on l how next s m n f e = e

as_end : (l : Bool) (n : ℕ) (e : Ended) → FineEnd l n e → FineEnd l n (ends e.how e.store e.left)
as_end l n e f = record { leaves = f.leaves; fewer = f.fewer }

fine_both : (l : Bool) (first next : Run) → Fine l first → Fine l next → Fine l (both_runs first next)
fine_both l first next f g s n = let e = first s n in fine_go_on l e.how next e.store e.left n g (as_end l n e (f s n))

fine_after : (l : Bool) (how : How) (next : Run) (s : Store) (m n : ℕ) → Fine l next → FineEnd true n (ends how s m) → FineEnd l n (after_body how next s m)
fine_after l normally next s m n f e = less l m n (next s m) e.fewer (f s m)
fine_after l by_continue next s m n f e = less l m n (next s m) e.fewer (f s m)
fine_after l how next s m n f e = record { leaves = tt; fewer = e.fewer }

fine_looped : (l : Bool) (body next : Run) → Fine true body → Fine l next → Fine l (looped body next)
fine_looped l body next f g s n = let e = body s n in fine_after l e.how next e.store e.left n g (as_end true n e (f s n))

fine_nothing : (l : Bool) → Fine l nothing
fine_nothing l s n = record { leaves = tt; fewer = omega arith }

fine_none : (l : Bool) → Fine l (in_order [])
fine_none l s n = record { leaves = tt; fewer = omega arith }

fine_run_of : (l : Bool) (b : Bool) (x y : Run) → Fine l x → Fine l y → Fine l (run_of b x y)
fine_run_of l true x y f g s n = f s n
fine_run_of l false x y f g s n = g s n

fine_branch : (l : Bool) (cond : Meaning) (a b : Run) → Fine l a → Fine l b → Fine l (branch (in_order []) cond a b)
fine_branch l cond a b f g = fine_both l (in_order []) (turn (with_value cond (λ x. run_of (is_zero x) b a))) (fine_none l)
    (fine_turn l (with_value cond (λ x. run_of (is_zero x) b a)) (λ s n. fine_val l (cond s) (λ x. run_of (is_zero x) b a) (λ x. fine_run_of l (is_zero x) b a g f) s n))

fine_rounds : (l : Bool) (i : ℕ) (cond : Meaning) (body step : Run) → Fine true body → Fine l step → Fine l (rounds i (in_order []) cond body step)
fine_rounds l zero cond body step f g s n = record { leaves = tt; fewer = omega arith }
fine_rounds l (suc i) cond body step f g s n =
    fine_branch l cond (looped body (both_runs step (rounds i (in_order []) cond body step))) (ends normally)
    (fine_looped l body (both_runs step (rounds i (in_order []) cond body step)) f (fine_both l step (rounds i (in_order []) cond body step) g (fine_rounds l i cond body step f g)))
    (fine_ends l normally tt) s n

fine_loop : (l : Bool) (cond : Meaning) (body step : Run) → Fine true body → Fine l step → Fine l (loop (in_order []) cond body step)
fine_loop l cond body step f g s n = fine_rounds l (suc n) cond body step f g s n

fine_entering : (l : Bool) (acts : List Act) (next : Run) → Fine l next → Fine l (entering acts next)
fine_entering l acts next f s n = f _ n

fine_part : (l : Bool) (a : Act) → Fine l a.run → Fine l (part a)
fine_part l a f = fine_entering l (a ∷ []) a.run f

abbrev AreFine : Bool → List Act → Type 0
AreFine l [] = Unit {0}
AreFine l (a ∷ as_of) = Fine l a.run × AreFine l as_of

fine_in_order : (l : Bool) (acts : List Act) → AreFine l acts → Fine l (in_order acts)
fine_in_order l [] h s n = record { leaves = tt; fewer = omega arith }
fine_in_order l (a ∷ acts) h s n = fine_both l a.run (in_order acts) h.0 (fine_in_order l acts h.1) s n

abbrev FineIfAny : Bool → Option Act → Type 0
FineIfAny l None = Unit {0}
FineIfAny l (Some a) = Fine l a.run

fine_if_any : (l : Bool) (o : Option Act) → FineIfAny l o → Fine l (run_if_any o)
fine_if_any l None h = fine_nothing l
fine_if_any l (Some a) h = fine_part l a h

fine_storing : (l : Bool) (t : Ty) (p : Place) (x : ℤ) → Fine l (storing t p x)
fine_storing l t p x s n = record { leaves = tt; fewer = omega arith }

fine_stored : (l : Bool) (t : Ty) (p : Place) (u : ℕ) (v : Val) → Fine l (stored t p u v)
fine_stored l t p u v = fine_val l (later u v) (storing t p) (fine_storing l t p)

fine_declared : (l : Bool) (k : Objects) (v : ℕ) (m : Option Meaning) → Fine l (declared_run k v m)
fine_declared l k v None s n = record { leaves = tt; fewer = omega arith }
fine_declared l k v (Some m) s n = fine_val l (m s) (storing (object_type k (object.Var v)) (of_var v)) (fine_storing l (object_type k (object.Var v)) (of_var v)) s n

fine_assigned_to : (l : Bool) (t : Ty) (w : Placed) (m : Meaning) → Fine l (assigned_to t w m)
fine_assigned_to l t (no_place at) m s n = record { leaves = tt; fewer = omega arith }
fine_assigned_to l t (placed p u) m s n = fine_stored l t p u (m s) s n

fine_updated_at : (l : Bool) (t : Ty) (at : Span) (f : ℤ → ℤ → Option ℤ) (w : Placed) (m : Meaning) → Fine l (updated_at t at f w m)
fine_updated_at l t at f (no_place p) m s n = record { leaves = tt; fewer = omega arith }
fine_updated_at l t at f (placed p u) m s n = fine_stored l t p u (joined_with at f (read_place s p) (m s)) s n

fine_updated : (l : Bool) (k : Objects) (target : MeantTarget) (op : Binary) (ty : Ty) (m : Meaning) → Fine l (updated k target op ty m)
fine_updated l k target op ty m s n = fine_updated_at l (object_type k target.to) target.at (joined_in k.profile op (joint_type op (object_type k target.to) ty)) (target_place k target s) m s n

fine_assignment : (l : Bool) (k : Objects) (target : MeantTarget) (op : Option Binary) (ty : Ty) (m : Meaning) → Fine l (assignment k target op ty m)
fine_assignment l k target None ty m s n = fine_assigned_to l (object_type k target.to) (target_place k target s) m s n
fine_assignment l k target (Some op) ty m s n = fine_updated l k target op ty m s n

fine_returned : (l : Bool) (m : Option Meaning) → Fine l (returned m)
fine_returned l None s n = record { leaves = tt; fewer = omega arith }
fine_returned l (Some m) s n = fine_val l (m s) (λ x. ends (by_return (Some x))) (λ x. fine_ends l (by_return (Some x)) tt) s n

-- what leaves no loop leaves none in a loop
leaves_in : (l : Bool) (how : How) → Leaves false how → Leaves l how
leaves_in l by_break h = absurd (cc)
leaves_in l by_continue h = absurd (cc)
leaves_in l how h = tt

outside : (l : Bool) (run : Run) → Fine false run → Fine l run
outside l run f s n = let e = f s n in record { leaves = leaves_in l (run s n).how e.leaves; fewer = e.fewer }

module _ (k : Objects) (r : Option Ty) where
  mutual
    pub kind_fine : (l : Bool) (x : TypedStmtKind) → LawfulStmt k r l x → Fine l (kind_act k x).run
    kind_fine l (tree.Block' c row) h = fine_turn l (block (row_acts k row)) (fine_entering l (row_acts k row) (in_order (row_acts k row)) (fine_in_order l (row_acts k row) (row_fine l row h)))
    kind_fine l (tree.Declare v init) h = fine_turn l (declared_run k v (meant_if_any k init)) (fine_declared l k v (meant_if_any k init))
    kind_fine l (tree.Assign t o e) h = fine_turn l (assignment k (meant_target k t) o e.ty (meaning k e)) (fine_assignment l k (meant_target k t) o e.ty (meaning k e))
    kind_fine l (tree.Step t up) h = fine_turn l (updated k (meant_target k t) (step_operator up) I32 (always (pos 1))) (fine_updated l k (meant_target k t) (step_operator up) I32 (always (pos 1)))
    kind_fine l (tree.If' e b (more_of-TypedStmt s at end_of-TypedStmt) o) h =
        let yes_part = part (kind_act k s) in
        let no_part = run_if_any (act_if_any k o) in
        fine_turn l (branch (in_order []) (meaning k e) yes_part no_part) (fine_branch l (meaning k e) yes_part no_part (fine_part l (kind_act k s) (kind_fine l s h.1)) (fine_if_any l (act_if_any k o) (held_fine l o h.2)))
    kind_fine l (tree.While' e b (more_of-TypedStmt s at end_of-TypedStmt)) h =
        let body = part (kind_act k s) in
        fine_turn l (loop (in_order []) (meaning k e) body nothing) (fine_loop l (meaning k e) body nothing (fine_part true (kind_act k s) (kind_fine true s h.1)) (fine_nothing l))
    kind_fine l (tree.DoWhile' b (more_of-TypedStmt s at end_of-TypedStmt) e) h =
        let body = part (kind_act k s) in
        let f = fine_part true (kind_act k s) (kind_fine true s h.0) in
        fine_turn l (looped body (loop (in_order []) (meaning k e) body nothing)) (fine_looped l body (loop (in_order []) (meaning k e) body nothing) f (fine_loop l (meaning k e) body nothing f (fine_nothing l)))
    kind_fine l (tree.For' c first e o b (more_of-TypedStmt s at end_of-TypedStmt)) h =
        let firsts = row_acts k first in
        let body = part (kind_act k s) in
        let step = run_if_any (act_if_any k o) in
        let rest = loop (in_order []) (condition (meant_if_any k e)) body step in
        fine_turn l (entering firsts (both_runs (in_order firsts) rest))
        (fine_entering l firsts (both_runs (in_order firsts) rest)
        (fine_both l (in_order firsts) rest (outside l (in_order firsts) (fine_in_order false firsts (row_fine false first h.0)))
        (fine_loop l (condition (meant_if_any k e)) body step (fine_part true (kind_act k s) (kind_fine true s h.3)) (outside l step (fine_if_any false (act_if_any k o) (held_fine false o h.2))))))
    kind_fine l tree.Break h = fine_turn l (ends by_break) (fine_ends l by_break h)
    kind_fine l tree.Continue h = fine_turn l (ends by_continue) (fine_ends l by_continue h)
    kind_fine l (tree.Return e) h = fine_turn l (returned (meant_if_any k e)) (fine_returned l (meant_if_any k e))
    kind_fine l tree.Empty h = fine_turn l nothing (fine_nothing l)

    held_fine : (l : Bool) (o : Held-TypedStmtKind-If-2) → LawfulStmtHeld k r l o → FineIfAny l (act_if_any k o)
    held_fine l tree.None' h = tt
    held_fine l (tree.Some' b (more_of-TypedStmt s at end_of-TypedStmt)) h = kind_fine l s h

    row_fine : (l : Bool) {c : Count} (row : Row_of-TypedStmt c) → LawfulStmts k r l row → AreFine l (row_acts k row)
    row_fine l end_of-TypedStmt h = tt
    row_fine l (more_of-TypedStmt s at row) h = (kind_fine l s h.0, row_fine l row h.1)

  acts_fine : (l : Bool) (ss : List TypedStmt) → All (λ s. LawfulStmt k r l s.kind) ss → AreFine l (map (act k) ss)
  acts_fine l [] h = tt
  acts_fine l (s ∷ ss) h = (kind_fine l s.kind (All-head (λ (u : TypedStmt). LawfulStmt k r l u.kind) s ss h), acts_fine l ss (All-tail (λ (u : TypedStmt). LawfulStmt k r l u.kind) s ss h))

  pub body_fine : (ss : List TypedStmt) → All (λ s. LawfulStmt k r false s.kind) ss → Fine false (body_run k ss)
  body_fine ss h = let acts = map (act k) ss in fine_turn false (block acts) (fine_entering false acts (in_order acts) (fine_in_order false acts (acts_fine false ss h)))
