-- The meaning of expressions (ISO/IEC 9899:1999 6.5): over whole numbers, with the turns that are used.
-- && and || and ?: evaluate only what they need, and use one turn each. Where an evaluated part is undefined, so is the whole.
use Rattle.std.specs.Prelude.{ℕ, ◌+◌, List, [], ◌∷◌, pos, ℤ, Bool, true, false, not, Option, Some, None}
use Rattle.el_base.specs.declared.ty.Ty.{Ty}
use Rattle.el_base.specs.declared.span.Span.{Span}
use Rattle.c_ast.specs.declared.tree.Binary.{Binary as BinaryOp}
use Rattle.c_ast.specs.declared.tree.Binary.TheVariants.{Mul, Div, Rem, Add, Sub, Shl, Shr, Lt, Gt, Le, Ge, Eq, Ne, And, Xor, Or, Both, Either}
use mathlib.Core.Former.{Count}
use Rattle.c_ast.specs.declared.typed.TypedExpr.{TypedExpr}
use Rattle.c_ast.specs.declared.typed.TypedExprKind.{TypedExprKind, Row_of-TypedExpr, end_of-TypedExpr, more_of-TypedExpr}
use Rattle.c_ast.specs.declared.typed.TypedExprKind as tree
use Rattle.c_ast.specs.declared.typed.TypedExprKind.TheOpen.{TypedExprKind-F, Number, Var, Element, Unary, Cast, Binary, Choose}
use Rattle.c_meaning.specs.Types.{conv}
use Rattle.c_meaning.specs.Operators.{is_zero, truth, unary_value, binary_value}
use Rattle.c_meaning.specs.declared.profile.Profile.{Profile}
use Rattle.c_meaning.specs.Stores.{Store, Objects, place, read_var, read_element}

-- what an expression gives: the place of the part whose own rule fails first, or a number and the turns used
pub data Val : Type 0 where
  undefined_value : Span → Val
  value : ℤ → ℕ → Val

-- the same of several expressions
pub data Vals : Type 0 where
  undefined_values : Span → Vals
  values : List ℤ → ℕ → Vals

abbrev pub Meaning : Type 0
Meaning = Store → Val

-- a number that may be undefined at a place, after some turns
abbrev pub after_turns : Span → ℕ → Option ℤ → Val
after_turns at t None = undefined_value at
after_turns at t (Some z) = value z t

-- what is made of a number, of two numbers
abbrev pub on_one : Span → (ℤ → Option ℤ) → Val → Val
on_one at f (undefined_value p) = undefined_value p
on_one at f (value x t) = after_turns at t (f x)

abbrev pub on_two : Span → (ℤ → ℤ → Option ℤ) → Val → Val → Val
on_two at f (undefined_value p) v = undefined_value p
on_two at f (value x t) (undefined_value p) = undefined_value p
on_two at f (value x t) (value y u) = after_turns at (t + u) (f x y)

-- a value after t turns more
abbrev pub later : ℕ → Val → Val
later t (undefined_value p) = undefined_value p
later t (value x u) = value x (t + u)

-- a truth value
abbrev pub as_truth : Val → Val
as_truth (undefined_value p) = undefined_value p
as_truth (value x t) = value (truth (not (is_zero x))) t

-- where the test holds the first, else the second; only that one is evaluated
abbrev pub one_of : Bool → Meaning → Meaning → Meaning
one_of true a b s = a s
one_of false a b s = b s

-- the first where a condition is not 0, else the second, with one turn
abbrev pub chosen : Val → Meaning → Meaning → Meaning
chosen (undefined_value p) a b s = undefined_value p
chosen (value x t) a b s = later (t + 1) (one_of (is_zero x) b a s)

-- a constant
abbrev pub always : ℤ → Meaning
always z s = value z 0

-- an operator with two operands: the right one of && and || is evaluated only where it decides
abbrev pub binary_meaning : Profile → BinaryOp → Ty → Span → Meaning → Meaning → Meaning
binary_meaning p Mul ty at a b s = on_two at (binary_value p Mul ty) (a s) (b s)
binary_meaning p Div ty at a b s = on_two at (binary_value p Div ty) (a s) (b s)
binary_meaning p Rem ty at a b s = on_two at (binary_value p Rem ty) (a s) (b s)
binary_meaning p Add ty at a b s = on_two at (binary_value p Add ty) (a s) (b s)
binary_meaning p Sub ty at a b s = on_two at (binary_value p Sub ty) (a s) (b s)
binary_meaning p Shl ty at a b s = on_two at (binary_value p Shl ty) (a s) (b s)
binary_meaning p Shr ty at a b s = on_two at (binary_value p Shr ty) (a s) (b s)
binary_meaning p Lt ty at a b s = on_two at (binary_value p Lt ty) (a s) (b s)
binary_meaning p Gt ty at a b s = on_two at (binary_value p Gt ty) (a s) (b s)
binary_meaning p Le ty at a b s = on_two at (binary_value p Le ty) (a s) (b s)
binary_meaning p Ge ty at a b s = on_two at (binary_value p Ge ty) (a s) (b s)
binary_meaning p Eq ty at a b s = on_two at (binary_value p Eq ty) (a s) (b s)
binary_meaning p Ne ty at a b s = on_two at (binary_value p Ne ty) (a s) (b s)
binary_meaning p And ty at a b s = on_two at (binary_value p And ty) (a s) (b s)
binary_meaning p Xor ty at a b s = on_two at (binary_value p Xor ty) (a s) (b s)
binary_meaning p Or ty at a b s = on_two at (binary_value p Or ty) (a s) (b s)
binary_meaning p Both ty at a b s = chosen (a s) (λ s. as_truth (b s)) (always (pos 0)) s
binary_meaning p Either ty at a b s = chosen (a s) (always (pos 1)) (λ s. as_truth (b s)) s

-- several expressions, from left to right
abbrev pub with_first : Val → Vals → Vals
with_first (undefined_value p) vs = undefined_values p
with_first (value x t) (undefined_values p) = undefined_values p
with_first (value x t) (values xs u) = values (x ∷ xs) (t + u)

abbrev pub all_values : List Meaning → Store → Vals
all_values [] s = values [] 0
all_values (m ∷ ms) s = with_first (m s) (all_values ms s)

-- the element at a place that may be undefined
abbrev pub element_at : Store → ℕ → Option ℕ → Option ℤ
element_at s a None = None
element_at s a (Some at) = read_element s a at

-- the element at indices
abbrev pub element : Objects → Span → Store → ℕ → Vals → Val
element k at s a (undefined_values p) = undefined_value p
element k at s a (values is t) = after_turns at t (element_at s a (place k.arrays a is))

-- one expression of a type, with the meaning of each part in its place
abbrev pub val_step : Objects → TypedExprKind-F Meaning Meaning → Ty → Span → Meaning
val_step k (Number n) ty at s = value (pos n) 0
val_step k (Var v) ty at s = after_turns at 0 (read_var s v)
val_step k (Element a indices) ty at s = element k at s a (all_values indices s)
val_step k (Unary op arg) ty at s = on_one at (unary_value k.profile op ty) (arg s)
val_step k (Cast implied arg) ty at s = on_one at (λ x. Some (conv ty x)) (arg s)
val_step k (Binary op left right) ty at s = binary_meaning k.profile op ty at left right s
val_step k (Choose cond yes_part no_part) ty at s = chosen (cond s) yes_part no_part s

-- ---- whole trees: one layer after another, over the objects of a kernel

abbrev mutual
  pub kind_meaning : Objects → TypedExprKind → Ty → Span → Meaning
  kind_meaning k (tree.Number n) = val_step k (Number n)
  kind_meaning k (tree.Var v) = val_step k (Var v)
  kind_meaning k (tree.Element' a n row) = val_step k (Element a (row_meanings k row))
  kind_meaning k (tree.Unary' op b (more_of-TypedExpr e t at end_of-TypedExpr)) = val_step k (Unary op (kind_meaning k e t at))
  kind_meaning k (tree.Cast' implied b (more_of-TypedExpr e t at end_of-TypedExpr)) = val_step k (Cast implied (kind_meaning k e t at))
  kind_meaning k (tree.Binary' op b (more_of-TypedExpr e t at end_of-TypedExpr) b2 (more_of-TypedExpr e2 t2 at2 end_of-TypedExpr)) =
      val_step k (Binary op (kind_meaning k e t at) (kind_meaning k e2 t2 at2))
  kind_meaning k (tree.Choose' b (more_of-TypedExpr e t at end_of-TypedExpr) b2 (more_of-TypedExpr e2 t2 at2 end_of-TypedExpr) b3 (more_of-TypedExpr e3 t3 at3 end_of-TypedExpr)) =
      val_step k (Choose (kind_meaning k e t at) (kind_meaning k e2 t2 at2) (kind_meaning k e3 t3 at3))

  pub row_meanings : Objects → {n : Count} → Row_of-TypedExpr n → List Meaning
  row_meanings k end_of-TypedExpr = []
  row_meanings k (more_of-TypedExpr e t at row) = kind_meaning k e t at ∷ row_meanings k row

-- the meaning of an expression
abbrev pub meaning : Objects → TypedExpr → Meaning
meaning k e = kind_meaning k e.kind e.ty e.at

-- what an expression of a kernel gives in a store
abbrev pub val : Objects → Store → TypedExpr → Val
val k s e = meaning k e s
