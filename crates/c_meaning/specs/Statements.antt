-- The meaning of statements and kernels (ISO/IEC 9899:1999 6.8): how each ends, the store then, and the turns that are left of a bound.
use Rattle.std.specs.Prelude.{◌≡◌, ℕ, zero, suc, ◌+◌, List, [], ◌∷◌, map, get_or, flat_map, option_map, pos, ℤ, Bool, true, false, Option, Some, None}
use Rattle.el_base.specs.declared.ty.Ty.{Ty}
use Rattle.el_base.specs.declared.span.Span.{Span}
use Rattle.el_base.specs.declared.ty.Ty.TheVariants.{I32}
use Rattle.c_ast.specs.declared.tree.Binary.{Binary}
use Rattle.c_ast.specs.declared.tree.Binary.TheVariants.{Add, Sub}
use Rattle.c_ast.specs.declared.typed.ArrayOf.{ArrayOf}
use Rattle.c_ast.specs.declared.typed.Object.{Object}
use Rattle.c_ast.specs.declared.typed.Object.TheVariants as object
use Rattle.c_ast.specs.declared.typed.Typed.{Typed}
use Rattle.c_ast.specs.declared.typed.TypedExpr.{TypedExpr}
use Rattle.c_ast.specs.declared.typed.TypedTarget.{TypedTarget}
use mathlib.Core.Former.{Count}
use Rattle.c_ast.specs.declared.typed.TypedStmt.{TypedStmt}
use Rattle.c_ast.specs.declared.typed.TypedStmtKind.{TypedStmtKind, Row_of-TypedStmt, end_of-TypedStmt, more_of-TypedStmt, Held-TypedStmtKind-If-2, None', Some'}
use Rattle.c_ast.specs.declared.typed.TypedStmtKind as tree
use Rattle.c_ast.specs.ResultTypes.{joint_type}
use Rattle.c_meaning.specs.declared.profile.Profile.{Profile}
use Rattle.c_meaning.specs.Types.{conv}
use Rattle.c_meaning.specs.Operators.{binary_value}
use Rattle.c_meaning.specs.Stores.{Store, Objects, Inputs, opening, unset_vars, set_var, read_var, read_element, set_element, place}
use Rattle.c_meaning.specs.Expressions.{Meaning, Val, undefined_value, on_one, later, Vals, undefined_values, values, all_values, meaning, always}
use Rattle.c_meaning.specs.Runs.{How, normally, by_break, by_continue, by_return, undefined, out_of_turns, Ended, Run, ends, turn, both_runs, sequence, with_val, with_value, branch, looped, loop}

-- ---- objects that are assigned to

-- the type of a variable, and of the elements of an array; a number without an object has none, and I32 stands there
abbrev pub array_type : List ArrayOf → ℕ → Ty
array_type [] a = I32
array_type (x ∷ xs) zero = x.ty
array_type (x ∷ xs) (suc a) = array_type xs a

abbrev pub object_type : Objects → Object → Ty
object_type k (object.Var v) = get_or k.vars v I32
object_type k (object.Array a) = array_type k.arrays a

-- a place in the store: that of a variable, or of an element of an array
pub data Place : Type 0 where
  of_var : ℕ → Place
  of_element : ℕ → ℕ → Place

abbrev pub element_place : ℕ → Option ℕ → Option Place
element_place a None = None
element_place a (Some at) = Some (of_element a at)

-- the place of an object, by its indices: a variable has none
abbrev pub object_place : List ArrayOf → Object → List ℤ → Option Place
object_place arrays (object.Var v) [] = Some (of_var v)
object_place arrays (object.Var v) (i ∷ is) = None
object_place arrays (object.Array a) is = element_place a (place arrays a is)

abbrev pub read_place : Store → Place → Option ℤ
read_place s (of_var v) = read_var s v
read_place s (of_element a at) = read_element s a at

abbrev pub write_place : Place → ℤ → Store → Store
write_place (of_var v) z s = set_var v z s
write_place (of_element a at) z s = set_element a at z s

-- what is assigned to: the object, its place in the text, and what its indices mean
pub record MeantTarget : Type 0 where
  pub to : Object
  pub at : Span
  pub indices : List Meaning

-- the place in the store of a target, after the turns of its indices; none where an index is undefined or outside its dimension
pub data Placed : Type 0 where
  no_place : Span → Placed
  placed : Place → ℕ → Placed

abbrev pub placed_after : Span → ℕ → Option Place → Placed
placed_after at t None = no_place at
placed_after at t (Some p) = placed p t

abbrev pub place_by : List ArrayOf → Object → Span → Vals → Placed
place_by arrays to at (undefined_values p) = no_place p
place_by arrays to at (values is t) = placed_after at t (object_place arrays to is)

abbrev pub target_place : Objects → MeantTarget → Store → Placed
target_place k target s = place_by k.arrays target.to target.at (all_values target.indices s)

-- a number is stored, converted to a type
abbrev pub storing : Ty → Place → ℤ → Run
storing t p x s n = ends normally (write_place p (conv t x) s) n

-- a value is stored after its turns and u more
abbrev pub stored : Ty → Place → ℕ → Val → Run
stored t p u v = with_val (later u v) (storing t p)

-- target = value: turns are taken once, after the indices and the value
abbrev pub assigned_to : Ty → Placed → Meaning → Run
assigned_to t (no_place at) m s n = ends (undefined at) s n
assigned_to t (placed p u) m s n = stored t p u (m s) s n

abbrev pub assigned : Objects → MeantTarget → Meaning → Run
assigned k target m s n = assigned_to (object_type k target.to) (target_place k target s) m s n

-- target op= value: the old value and the value are joined in their joint type (6.5.16.2); where the operator is undefined, the place is that of the target
abbrev pub joined_in : Profile → Binary → Ty → ℤ → ℤ → Option ℤ
joined_in p op j x y = binary_value p op j (conv j x) y

abbrev pub joined_with : Span → (ℤ → ℤ → Option ℤ) → Option ℤ → Val → Val
joined_with at f None v = undefined_value at
joined_with at f (Some old) v = on_one at (f old) v

abbrev pub updated_at : Ty → Span → (ℤ → ℤ → Option ℤ) → Placed → Meaning → Run
updated_at t at f (no_place p) m s n = ends (undefined p) s n
updated_at t at f (placed p u) m s n = stored t p u (joined_with at f (read_place s p) (m s)) s n

abbrev pub updated : Objects → MeantTarget → Binary → Ty → Meaning → Run
updated k target op ty m s n =
    let t = object_type k target.to in
    updated_at t target.at (joined_in k.profile op (joint_type op t ty)) (target_place k target s) m s n

-- with an operator or without, of a value of a type
abbrev pub assignment : Objects → MeantTarget → Option Binary → Ty → Meaning → Run
assignment k target None ty m = assigned k target m
assignment k target (Some op) ty m = updated k target op ty m

-- target++ and target-- are target += 1 and target -= 1, with a 1 of type I32 (6.5.2.4)
abbrev pub step_operator : Bool → Binary
step_operator true = Add
step_operator false = Sub

-- ---- statements

-- a statement: the variables that it declares itself, and how it runs
pub record Act : Type 0 where
  pub declares : List ℕ
  pub run : Run

-- a statement that declares nothing begins with one turn
abbrev pub plain : Run → Act
plain run = record { declares = []; run = turn run }

-- a block, or the scope of a for: the variables declared directly in it are new objects without a value (6.2.4p5)
abbrev pub entering : List Act → Run → Run
entering acts next s n = next (unset_vars (flat_map (λ a. a.declares) acts) s) n

abbrev pub in_order : List Act → Run
in_order acts = sequence (map (λ a. a.run) acts)

abbrev pub block : List Act → Run
block body = entering body (in_order body)

-- what may be absent does nothing
abbrev pub nothing : Run
nothing s n = ends normally s n

-- a part of if, the body of a loop or the step of a for is a block (6.8.4p3, 6.8.5p5)
abbrev pub part : Act → Run
part a = entering (a ∷ []) a.run

abbrev pub run_if_any : Option Act → Run
run_if_any None = nothing
run_if_any (Some a) = part a

-- an absent condition of a for holds
abbrev pub condition : Option Meaning → Meaning
condition None = always (pos 1)
condition (Some m) = m

-- a declared variable gets its value, or is unset
abbrev pub declared_run : Objects → ℕ → Option Meaning → Run
declared_run k v None s n = ends normally (unset_vars (v ∷ []) s) n
declared_run k v (Some m) s n = with_value m (storing (object_type k (object.Var v)) (of_var v)) s n

abbrev pub returned : Option Meaning → Run
returned None s n = ends (by_return None) s n
returned (Some m) s n = with_value m (λ x. ends (by_return (Some x))) s n

-- A statement by its parts: expressions stand as what they mean, statements as acts. Of a condition there is also what stands before it: nothing in a typed tree, statements in a normal form.
-- So a language whose expressions mean more, as calls do, has the same statements.
pub data Meant : Type 0 where
  a_block : List Act → Meant
  a_declaration : ℕ → Option Meaning → Meant
  -- with the operator of a compound assignment and the type of the value
  an_assignment : MeantTarget → Option Binary → Ty → Meaning → Meant
  a_step : MeantTarget → Bool → Meant
  an_if : List Act → Meaning → Act → Option Act → Meant
  a_while : List Act → Meaning → Act → Meant
  a_do : Act → List Act → Meaning → Meant
  -- the first part, what stands before the condition, the condition, the step and the body
  a_for : List Act → List Act → Option Meaning → Option Act → Act → Meant
  a_break : Meant
  a_continue : Meant
  a_return : Option Meaning → Meant
  an_empty : Meant

abbrev pub stmt_step : Objects → Meant → Act
stmt_step k (a_block body) = plain (block body)
stmt_step k (a_declaration v init) = record { declares = v ∷ []; run = turn (declared_run k v init) }
stmt_step k (an_assignment target op ty m) = plain (assignment k target op ty m)
stmt_step k (a_step target up) = plain (updated k target (step_operator up) I32 (always (pos 1)))
stmt_step k (an_if before cond yes_part no_part) = plain (branch (in_order before) cond (part yes_part) (run_if_any no_part))
stmt_step k (a_while before cond body) = plain (loop (in_order before) cond (part body) nothing)
stmt_step k (a_do body before cond) = plain (looped (part body) (loop (in_order before) cond (part body) nothing))
stmt_step k (a_for first before cond step body) =
    plain (entering first (both_runs (in_order first) (loop (in_order before) (condition cond) (part body) (run_if_any step))))
stmt_step k a_break = plain (ends by_break)
stmt_step k a_continue = plain (ends by_continue)
stmt_step k (a_return m) = plain (returned m)
stmt_step k an_empty = plain nothing

-- ---- the parts of trees

abbrev pub meant_target : Objects → TypedTarget → MeantTarget
meant_target k target = record { to = target.to; at = target.at; indices = map (meaning k) target.indices }

abbrev pub meant_if_any : Objects → Option TypedExpr → Option Meaning
meant_if_any k e = option_map (meaning k) e

-- ---- whole trees: one layer after another

abbrev mutual
  pub kind_act : Objects → TypedStmtKind → Act
  kind_act k (tree.Block' n row) = stmt_step k (a_block (row_acts k row))
  kind_act k (tree.Declare v init) = stmt_step k (a_declaration v (meant_if_any k init))
  kind_act k (tree.Assign target op e) = stmt_step k (an_assignment (meant_target k target) op e.ty (meaning k e))
  kind_act k (tree.Step target up) = stmt_step k (a_step (meant_target k target) up)
  kind_act k (tree.If' cond b (more_of-TypedStmt s at end_of-TypedStmt) no_part) = stmt_step k (an_if [] (meaning k cond) (kind_act k s) (act_if_any k no_part))
  kind_act k (tree.While' cond b (more_of-TypedStmt s at end_of-TypedStmt)) = stmt_step k (a_while [] (meaning k cond) (kind_act k s))
  kind_act k (tree.DoWhile' b (more_of-TypedStmt s at end_of-TypedStmt) cond) = stmt_step k (a_do (kind_act k s) [] (meaning k cond))
  kind_act k (tree.For' n first cond step b (more_of-TypedStmt s at end_of-TypedStmt)) =
      stmt_step k (a_for (row_acts k first) [] (meant_if_any k cond) (act_if_any k step) (kind_act k s))
  kind_act k tree.Break = stmt_step k a_break
  kind_act k tree.Continue = stmt_step k a_continue
  kind_act k (tree.Return e) = stmt_step k (a_return (meant_if_any k e))
  kind_act k tree.Empty = stmt_step k an_empty

  pub act_if_any : Objects → Held-TypedStmtKind-If-2 → Option Act
  act_if_any k None' = None
  act_if_any k (Some' b (more_of-TypedStmt s at end_of-TypedStmt)) = Some (kind_act k s)

  pub row_acts : Objects → {n : Count} → Row_of-TypedStmt n → List Act
  row_acts k end_of-TypedStmt = []
  row_acts k (more_of-TypedStmt s at row) = kind_act k s ∷ row_acts k row

abbrev pub act : Objects → TypedStmt → Act
act k s = kind_act k s.kind

-- how a statement ends from a store, within n turns
abbrev pub does : Objects → TypedStmt → Store → ℕ → Ended
does k s = (act k s).run

-- ---- kernels

-- what the numbers of a kernel stand for, under a profile
abbrev pub objects : Profile → Typed → Objects
objects p k = record { profile = p; vars = k.vars; arrays = k.arrays }

abbrev pub body_run : Objects → List TypedStmt → Run
body_run k body = turn (block (map (act k) body))

-- a kernel that is not void has to end by return (6.9.1p12)
abbrev pub kernel_end : Option Ty → Span → How → How
kernel_end (Some t) at normally = undefined at
kernel_end None at normally = normally
kernel_end r at by_break = by_break
kernel_end r at by_continue = by_continue
kernel_end r at (by_return v) = by_return v
kernel_end r at (undefined p) = undefined p
kernel_end r at out_of_turns = out_of_turns

abbrev pub with_kernel_end : Option Ty → Span → Ended → Ended
with_kernel_end r at e = record e { how = kernel_end r at e.how }

-- how a kernel ends under a profile, within n turns: its block runs from its opening store
abbrev pub kernel_run : Typed → Profile → Inputs → ℕ → Ended
kernel_run k p i n = with_kernel_end k.result k.at (body_run (objects p k) k.body (opening (objects p k) i) n)

-- the place of the first operation that is undefined within n turns, if there is one
abbrev pub first_of : How → Option Span
first_of normally = None
first_of by_break = None
first_of by_continue = None
first_of (by_return v) = None
first_of (undefined at) = Some at
first_of out_of_turns = None

abbrev pub first : Typed → Profile → Inputs → ℕ → Option Span
first k p i n = first_of (kernel_run k p i n).how

-- the end of a kernel that may be without return only where it is void: r is the value that it gives, if any
abbrev pub IsResult : Option Ty → How → Option ℤ → Type 0
IsResult None normally r = r ≡ None
IsResult (Some t) normally r = ⊥
IsResult t (by_return v) r = r ≡ v
IsResult t by_break r = ⊥
IsResult t by_continue r = ⊥
IsResult t (undefined at) r = ⊥
IsResult t out_of_turns r = ⊥

-- what runs with a bound ends in so many turns without anything undefined: with the arrays out and the result r
pub record EndsBy (t : Option Ty) (run : ℕ → Ended) (out : List (List ℤ)) (r : Option ℤ) (turns : ℕ) : Type 0 where
  pub bound : ℕ
  pub all_turns : (run bound).left + turns ≡ bound
  pub arrays : out ≡ (run bound).store.arrays
  pub result : IsResult t (run bound).how r

-- under a profile K ends on the inputs in T turns without anything undefined
abbrev pub Ends : Typed → Profile → Inputs → List (List ℤ) → Option ℤ → ℕ → Type 0
Ends k p i out r turns = EndsBy k.result (kernel_run k p i) out r turns
