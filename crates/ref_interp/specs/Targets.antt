-- What is assigned to: places of targets, what they hold, and what is stored.
use Rattle.std.specs.Prelude.{◌≡◌, ℕ, min, Bool, true, false, Option}
use Rattle.el_base.specs.declared.ty.Ty.{Ty}
use Rattle.el_base.specs.declared.span.Span.{Span}
use Rattle.c_ast.specs.declared.tree.Binary.{Binary}
use Rattle.c_ast.specs.ResultTypes.{promoted}
use Rattle.c_ast.specs.declared.typed.Object.{Object}
use Rattle.c_ast.specs.declared.typed.Object.TheVariants as object
use Rattle.c_ast.specs.declared.typed.TypedTarget.{TypedTarget}
use Rattle.c_meaning.specs.Stores.{Objects}
use Rattle.c_meaning.specs.Expressions.{Val, after_turns}
use Rattle.c_meaning.specs.Runs.{with_val}
use Rattle.c_meaning.specs.Statements.{Place, of_var, of_element, Placed, no_place, placed, read_place, target_place, meant_target, storing, stored, joined_with, joined_in}
use Rattle.c_meaning.specs.Lawful.{LawfulExpr, LawfulTarget, IsObject}
use Rattle.ref_interp.specs.declared.cells.Cells.{Cells}
use Rattle.ref_interp.specs.declared.cells.Trace.{Trace}
use Rattle.ref_interp.specs.declared.machine.Ending.{Ending}
use Rattle.ref_interp.specs.declared.machine.Machine.{Machine}
use Rattle.ref_interp.specs.Answers.{most, plus_turns, Gives, Answered, Answers}
use Rattle.ref_interp.specs.Cells.{store_of}
use Rattle.ref_interp.specs.Evaluations.{IsReady}
use Rattle.ref_interp.specs.Machines.{CanRun, Ran}
use Rattle.ref_interp.specs.Operators.{IsRightType}

-- a place in the store by a number of 64 bits: that of an element in its array
abbrev pub IsSeen : Object → ℕ → Place → Type 0
IsSeen (object.Var v) q p = p ≡ of_var v
IsSeen (object.Array a) q p = (n : ℕ) × (p ≡ of_element a n) × (q ≡ min n most)

-- the place of a target was found after u turns
pub record Sought (to : Object) (u w q : ℕ) (v : Placed) : Type 0 where
  pub place : Place
  pub turns : ℕ
  pub is : v ≡ placed place turns
  pub seen : IsSeen to q place
  pub used : w ≡ plus_turns u turns

abbrev pub Aimed : Bool → Object → Placed → ℕ → Trace → ℕ → Type 0
Aimed true to v u new q = v ≡ no_place new.at
Aimed false to v u new q = Sought to u new.turns q v

abbrev pub TargetGives : Objects → Cells → TypedTarget → Trace → Trace → ℕ → Type 0
TargetGives k c target old new q =
    (t : Ty) → LawfulTarget k (LawfulExpr k) target t → IsReady k c old → Aimed new.failed target.to (target_place k (meant_target k target) (store_of k c)) old.turns new q

abbrev pub OldGives : Cells → Object → ℕ → Span → Trace → Trace → ℕ → Type 0
OldGives c to q at old new r =
    (k : Objects) (n : ℕ) (t : Ty) (p : Place) → IsObject k to n t → IsReady k c old → IsSeen to q p → Answers t (after_turns at 0 (read_place (store_of k c) p)) old new r

-- a value that was made with all turns of the statement's expressions is stored
abbrev pub StoreGives : Objects → Option Ty → Object → ℕ → Ty → ℕ → Machine → Ending → Machine → Type 0
StoreGives k r to q from x old e new =
    (n : ℕ) (t : Ty) (p : Place) (v : Val) → IsObject k to n t → CanRun k old → IsSeen to q p → Answered old.trace.failed from v 0 old.trace x
    → Ran k r (with_val v (storing t p)) old e new

-- the old value x is joined in the type j with a value that was made last, of the type by, after u turns of the target
abbrev pub UpdateGives : Objects → Option Ty → TypedTarget → ℕ → ℕ → Binary → Ty → Ty → ℕ → Machine → Ending → Machine → Type 0
UpdateGives k r target q x op j by y old e new =
    (n : ℕ) (t : Ty) (p : Place) (w : Val) (u m : ℕ) → IsObject k target.to n t → CanRun k old → IsSeen target.to q p → j ≡ promoted j → IsRightType op j by
    → Gives t x m m (after_turns target.at 0 (read_place (store_of k old.cells) p)) → m ≡ plus_turns 0 u → Answered old.trace.failed by w m old.trace y
    → Ran k r (stored t p u (joined_with target.at (joined_in k.profile op j) (read_place (store_of k old.cells) p) w)) old e new
