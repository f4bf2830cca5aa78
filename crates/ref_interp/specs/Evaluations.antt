-- What the evaluation of expressions gives.
use Rattle.std.specs.Prelude.{◌≡◌, ℕ, ◌+◌, ◌^◌, ◌<◌, ◌≤◌, min, List, [], ◌∷◌, ◌++◌, length, map, take, All, Bool, true, false, ℤ, Some, None}
use Rattle.el_base.specs.declared.ty.Ty.{Ty}
use Rattle.el_base.specs.declared.span.Span.{Span}
use Rattle.el_base.specs.Numbers.{number}
use Rattle.el_base.specs.Widths.{ty_width}
use Rattle.c_ast.specs.declared.tree.Unary.{Unary}
use Rattle.c_ast.specs.declared.tree.Binary.{Binary}
use Rattle.c_ast.specs.ResultTypes.{promoted, result_type, unary_type}
use Rattle.c_ast.specs.declared.typed.ArrayOf.{ArrayOf}
use Rattle.c_ast.specs.declared.typed.Object.TheVariants as object
use Rattle.c_ast.specs.declared.typed.TypedExpr.{TypedExpr}
use Rattle.c_ast.specs.declared.typed.TypedExprKind.TheVariants as expr
use Rattle.c_meaning.specs.declared.profile.Profile.{Profile}
use Rattle.c_meaning.specs.Operators.{unary_value, binary_value}
use Rattle.c_meaning.specs.Stores.{Objects, place_from, dims_of, read_var, read_element}
use Rattle.c_meaning.specs.Expressions.{Val, undefined_value, after_turns, on_one, on_two, meaning, all_values}
use Rattle.c_meaning.specs.Statements.{Placed, no_place, placed, of_var, of_element, place_by}
use Rattle.c_meaning.specs.Lawful.{LawfulExpr, IsVar, IsElement}
use Rattle.ref_interp.specs.declared.cells.Cells.{Cells}
use Rattle.ref_interp.specs.declared.cells.Trace.{Trace}
use Rattle.ref_interp.specs.declared.expressions.Spot.{Spot}
use Rattle.ref_interp.specs.Answers.{most, plus_turns, Gives, Answered, Answers}
use Rattle.ref_interp.specs.Cells.{AreCells, store_of}
use Rattle.ref_interp.specs.Laws.{PatternLaws}
use Rattle.ref_interp.specs.Operators.{IsRightType}

-- an expression can be evaluated: the cells are those of a kernel, and nothing was undefined before it
pub record IsReady (k : Objects) (c : Cells) (t : Trace) : Type 0 where
  pub laws : PatternLaws
  pub cells : AreCells k c
  pub clear : t.failed ≡ false
  pub few : t.turns ≤ most

abbrev pub EvalGives : Objects → Cells → TypedExpr → Trace → Trace → ℕ → Type 0
EvalGives k c e old new p = LawfulExpr k e → IsReady k c old → Answers e.ty (meaning k e (store_of k c)) old new p

-- of two operands, and of ?:
abbrev pub BinaryGives : Objects → Cells → TypedExpr → Trace → Trace → ℕ → Type 0
BinaryGives k c e old new p = (op : Binary) (a b : TypedExpr) → e.kind ≡ expr.Binary op a b → EvalGives k c e old new p

abbrev pub ChoiceGives : Objects → Cells → TypedExpr → Trace → Trace → ℕ → Type 0
ChoiceGives k c e old new p = (d a b : TypedExpr) → e.kind ≡ expr.Choose d a b → EvalGives k c e old new p

abbrev pub ReadGives : ℕ → Span → Cells → Trace → Trace → ℕ → Type 0
ReadGives v at c old new p = (k : Objects) (t : Ty) → IsVar k v t → IsReady k c old → Answers t (after_turns at 0 (read_var (store_of k c) v)) old new p

-- an operator on a value that was made before, after u turns
abbrev pub UnaryGives : Profile → Unary → Ty → Span → ℕ → Trace → Trace → ℕ → Type 0
UnaryGives p op t at x old new r = (v : Val) (u : ℕ) → PatternLaws → t ≡ promoted t → Answered old.failed t v u old x → Answered new.failed (unary_type op t) (on_one at (unary_value p op t) v) u new r

-- of two values: the first was made before with m turns, the second after it
abbrev pub StrictGives : Profile → Binary → Ty → Ty → Span → ℕ → ℕ → Trace → Trace → ℕ → Type 0
StrictGives p op t by at x y old new r =
    (v w : Val) (u m : ℕ) → PatternLaws → t ≡ promoted t → IsRightType op t by → Gives t x u m v → Answered old.failed by w m old y
    → Answered new.failed (result_type op t) (on_two at (binary_value p op t) v w) u new r

-- ---- places of elements

-- a running place in the dimensions ds by the indices is: as a number of 64 bits, where each index is inside
pub record IsSpot (ds : List ℕ) (is : List ℤ) (spot : Spot) : Type 0 where
  pub in_all : spot.inside ≡ true → (n : ℕ) × (place_from 0 ds is ≡ Some n) × (spot.place ≡ min n most)
  pub out_of_one : spot.inside ≡ false → place_from 0 ds is ≡ None

abbrev pub Enters : List ArrayOf → ℕ → ℕ → Ty → ℕ → Spot → Spot → Type 0
Enters arrays a i t x old new =
    (is : List ℤ) → let ds = dims_of arrays a in
    i < length ds → length is ≡ i → x < 2 ^ ty_width t → IsSpot (take i ds) is old → IsSpot (take (i + 1) ds) (is ++ (number t x ∷ [])) new

-- the place of an element was found after u turns: as a number of 64 bits
pub record Finds (a u w q : ℕ) (v : Placed) : Type 0 where
  pub place : ℕ
  pub turns : ℕ
  pub is : v ≡ placed (of_element a place) turns
  pub seen : q ≡ min place most
  pub used : w ≡ plus_turns u turns

abbrev pub Located : Bool → ℕ → Placed → ℕ → Trace → ℕ → Type 0
Located true a v u new q = v ≡ no_place new.at
Located false a v u new q = Finds a u new.turns q v

abbrev pub PlaceGives : Objects → Cells → List TypedExpr → ℕ → Span → Trace → Trace → ℕ → Type 0
PlaceGives k c es a at old new q =
    (t : Ty) → IsElement k a (length es) t → All (LawfulExpr k) es → IsReady k c old
    → Located new.failed a (place_by k.arrays (object.Array a) at (all_values (map (meaning k) es) (store_of k c))) old.turns new q

-- the element of an array at a place
abbrev pub element_of : Objects → Cells → Span → Placed → Val
element_of k c at (no_place p) = undefined_value p
element_of k c at (placed (of_element a n) t) = after_turns at t (read_element (store_of k c) a n)
element_of k c at (placed (of_var v) t) = undefined_value at

abbrev pub ElementGives : ℕ → Span → Cells → ℕ → Trace → Trace → ℕ → Type 0
ElementGives a at c q old new r =
    (k : Objects) (n : ℕ) (t : Ty) (v : Placed) (u : ℕ) → IsElement k a n t → AreCells k c → Located old.failed a v u old q → Answered new.failed t (element_of k c at v) u new r
