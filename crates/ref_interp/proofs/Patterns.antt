-- The laws of operators on patterns, from those of the crates below.
use Rattle.std.proofs.Common.{◌≡◌, ℕ, ◌^◌, ◌<◌, ◌≤◌, [], ◌∷◌, Option, Some, None, refl, sym, ◌∙◌, ap, subst, arith}
use Rattle.std.specs.Prelude.{Bool, true, false, ℤ, pos, negsuc, nat_lt, if◌then◌else◌, option_and_then}
use Rattle.std.proofs.lemmas.Int.{ints}
use Rattle.std.proofs.lemmas.Bool.Decides.{nat_tests}
use denote.Hole.Carrier.{hidden}
use Rattle.el_base.specs.declared.span.Span.{Span}
use Rattle.el_base.specs.declared.ty.Ty.{Ty}
use Rattle.el_base.specs.declared.ty.Ty.TheVariants.{I8, I32, U32, I64, U64}
use Rattle.el_base.specs.Numbers.{number, pattern, IsInRange}
use Rattle.el_base.specs.Widths.{ty_width}
use Rattle.c_ast.specs.declared.tree.Unary.{Unary}
use Rattle.c_ast.specs.declared.tree.Binary.{Binary}
use Rattle.c_ast.specs.declared.tree.Binary.TheVariants.{Shl, Shr, Both, Either}
use Rattle.c_ast.specs.ResultTypes.{promoted, usual, result_type, unary_type}
use Rattle.c_ast.specs.declared.typed.TypedExpr.{TypedExpr}
use Rattle.c_ast.specs.declared.typed.TypedExprKind.TheVariants as expr
use Rattle.c_ast.specs.declared.typed.TypedExprKind.TheBlock.{shape-the_row-TypedExpr-0, hidden-the_row-TypedExpr-0, shape-the_row-TypedExpr-1, hidden-the_row-TypedExpr-1}
use Rattle.c_meaning.specs.declared.profile.Profile.{Profile}
use Rattle.c_meaning.specs.Types.{conv}
use Rattle.c_meaning.specs.Operators.{unary_value, binary_value, amount, left_shift, right_shift}
use Rattle.c_meaning.specs.Patterns.{KeepsPatterns, ShiftKeepsPatterns, KeepsPattern, ConvertsPattern, on_patterns, on_pattern, conversion_op, converted_by}
use Rattle.c_meaning.specs.Ranges.{ValuesFit}
use Rattle.c_meaning.specs.Stores.{Store, Objects, IsFitting}
use Rattle.c_meaning.specs.Expressions.{after_turns}
use Rattle.c_meaning.specs.Lawful.{AreOperands}
use Rattle.c_meaning.proofs.OperatorLaws.{is_plain}
use Rattle.ref_interp.specs.Laws.{IsPattern, Joins, MakesOf}
use Rattle.ref_interp.specs.Operators.{IsRightType}
use Rattle.ref_interp.proofs.Exprs.{means_strict, means_unary, same_binary, same_unary}

-- what the laws of the crates below say
pub record OpLaws : Type 0 where
  pub plain : (op : Binary) (t : Ty) → is_plain op ≡ true → KeepsPatterns op (promoted t)
  pub left_shifts : (t : Ty) → ShiftKeepsPatterns Shl (promoted t)
  pub right_shifts : (t : Ty) → ShiftKeepsPatterns Shr (promoted t)
  pub unary : (op : Unary) (t : Ty) → KeepsPattern op (promoted t)
  pub conversions : (s t : Ty) → ConvertsPattern s t
  pub values_fit : ValuesFit
  pub width : (t : Ty) (z : ℤ) → pattern t z < 2 ^ ty_width t
  pub round : (t : Ty) (p : ℕ) → p < 2 ^ ty_width t → pattern t (number t p) ≡ p
  pub numbers : (t : Ty) (z : ℤ) → IsInRange t z → number t (pattern t z) ≡ z
  pub in_range : (t : Ty) (p : ℕ) → p < 2 ^ ty_width t → IsInRange t (number t p)

-- ---- results lie in their types: those of an expression of two variables, which have the numbers

abbrev here : Span
here = record { start = 0; end = 0; line = 1; column = 1 }

abbrev var_of : Ty → ℕ → TypedExpr
var_of t v = record { kind = expr.Var v; ty = t; at = here }

abbrev two_vars : Profile → Ty → Ty → Objects
two_vars p t by = record { profile = p; vars = t ∷ by ∷ []; arrays = [] }

abbrev two_set : ℤ → ℤ → Store
two_set x y = record { vars = Some x ∷ Some y ∷ []; arrays = [] }

-- the two numbers are those of variables of the types t and by
two_fit : (p : Profile) (t by : Ty) (x y : ℤ) → IsInRange t x → IsInRange by y → IsFitting (two_vars p t by) (two_set x y)
two_fit p t by x y a b = record { vars = (a, (b, tt)); arrays = tt }

binary_in : OpLaws → (p : Profile) (op : Binary) (t by r : Ty) (x y z : ℤ) → (op ≡ Both → ⊥) → (op ≡ Either → ⊥) → AreOperands op t by r → IsInRange t x → IsInRange by y → binary_value p op r x y ≡ Some z → IsInRange r z
unfolding shape-the_row-TypedExpr-0 hidden-the_row-TypedExpr-0 shape-the_row-TypedExpr-1 hidden-the_row-TypedExpr-1 hidden
binary_in laws p op t by r x y z n m types a b e =
    let k = two_vars p t by in
    let s = two_set x y in
    let whole : TypedExpr = record { kind = expr.Binary op (var_of t 0) (var_of by 1); ty = r; at = here } in
    laws.values_fit k s whole z 0 (two_fit p t by x y a b) (types, refl, refl) (means_strict k whole.kind r here s op (var_of t 0) (var_of by 1) refl n m ∙ ap (after_turns here 0) e)

unary_in : OpLaws → (p : Profile) (op : Unary) (t : Ty) (x z : ℤ) → t ≡ promoted t → IsInRange t x → unary_value p op (unary_type op t) x ≡ Some z → IsInRange (unary_type op t) z
unfolding shape-the_row-TypedExpr-0 hidden-the_row-TypedExpr-0 shape-the_row-TypedExpr-1 hidden-the_row-TypedExpr-1 hidden
unary_in laws p op t x z ty a e =
    let k = two_vars p t t in
    let s = two_set x x in
    let whole : TypedExpr = record { kind = expr.Unary op (var_of t 0); ty = unary_type op t; at = here } in
    laws.values_fit k s whole z 0 (two_fit p t t x x a a) (ty, refl, refl) (means_unary k whole.kind (unary_type op t) here s op (var_of t 0) refl ∙ ap (after_turns here 0) e)

-- ---- what is a pattern

number_of : OpLaws → (t : Ty) (p : ℕ) (z : ℤ) → IsInRange t z → p ≡ pattern t z → IsPattern t p z
number_of laws t p z r e = (ap (number t) e ∙ laws.numbers t z r, subst (λ p. p < 2 ^ ty_width t) (sym e) (laws.width t z))

-- types of operands by the rule on the right type
the_usual : (t : Ty) → t ≡ promoted t → t ≡ usual t t
the_usual I32 e = refl
the_usual U32 e = refl
the_usual I64 e = refl
the_usual U64 e = refl
the_usual t e = absurd (cc)

-- the pattern of a shift amount is the same in each type
small_amount : (t by : Ty) (y k : ℕ) → amount t (number by y) ≡ Some k → (number by y ≡ pos k) × (k < ty_width t)
small_amount t by y k e = of_number (number by y) e
  where
    of_number : (z : ℤ) → amount t z ≡ Some k → (z ≡ pos k) × (k < ty_width t)
    of_number (pos i) e = below (nat_lt i (ty_width t)) refl e
      where
        below : (b : Bool) → nat_lt i (ty_width t) ≡ b → (if b then Some i else None) ≡ Some k → (pos i ≡ pos k) × (k < ty_width t)
        below true f e = let s : i ≡ k = cc in let l : i < ty_width t = grind (arith, nat_tests) in (ap pos s, omega (arith, s, l))
        below false f e = absurd (cc)
    of_number (negsuc i) e = absurd (cc)

small_number : (t : Ty) (k : ℕ) → t ≡ promoted t → k < 64 → number t k ≡ pos k
small_number I32 k e l = grind (arith, ints)
small_number U32 k e l = refl
small_number I64 k e l = grind (arith, ints)
small_number U64 k e l = refl
small_number t k e l = absurd (cc)

width_most : (t : Ty) → ty_width t ≤ 64
width_most I8 = omega arith
width_most t = omega arith

small_below : (t : Ty) (k : ℕ) → t ≡ promoted t → k < 64 → k < 2 ^ ty_width t
small_below I32 k e l = omega arith
small_below U32 k e l = omega arith
small_below I64 k e l = omega arith
small_below U64 k e l = omega arith
small_below t k e l = absurd (cc)

-- the amount has the same pattern in the type of what is shifted
amount_pattern : OpLaws → (t by : Ty) (y k : ℕ) → t ≡ promoted t → by ≡ promoted by → y < 2 ^ ty_width by → amount t (number by y) ≡ Some k → pattern t (number by y) ≡ y
amount_pattern laws t by y k pt pby below e =
    let h = small_amount t by y k e in
    let l : k < 64 = (let w = width_most t in omega (arith, h.1, w)) in
    let mine : pattern t (pos k) ≡ k = ap (pattern t) (sym (small_number t k pt l)) ∙ laws.round t k (small_below t k pt l) in
    let its : pattern by (pos k) ≡ k = ap (pattern by) (sym (small_number by k pby l)) ∙ laws.round by k (small_below by k pby l) in
    let same : y ≡ k = sym (laws.round by y below) ∙ ap (pattern by) h.0 ∙ its in
    ap (pattern t) h.0 ∙ mine ∙ sym same

amount_of : (t : Ty) (f : ℕ → Option ℤ) (y z : ℤ) → option_and_then f (amount t y) ≡ Some z → (k : ℕ) × (amount t y ≡ Some k)
amount_of t f y z e = by_cases (amount t y) refl e
  where
    by_cases : (o : Option ℕ) → amount t y ≡ o → option_and_then f o ≡ Some z → (k : ℕ) × (amount t y ≡ Some k)
    by_cases None h e = absurd (cc)
    by_cases (Some k) h e = (k, h)

-- ---- operators

plain_joins : OpLaws → (op : Binary) (t by : Ty) (x y : ℕ) → is_plain op ≡ true → (op ≡ Both → ⊥) → (op ≡ Either → ⊥) → AreOperands op t t (result_type op t) → t ≡ promoted t → by ≡ t → x < 2 ^ ty_width t → y < 2 ^ ty_width by → Joins op t by x y
plain_joins laws op t by x y plain nb ne types pt same bx byy p z e =
    let by2 : y < 2 ^ ty_width t = subst (λ b. y < 2 ^ ty_width b) same byy in
    let rx = laws.in_range t x bx in
    let ry = laws.in_range t y by2 in
    let e2 : binary_value p op t (number t x) (number t y) ≡ Some z = ap (λ b. binary_value p op t (number t x) (number b y)) (sym same) ∙ e in
    let e3 : binary_value p op (result_type op t) (number t x) (number t y) ≡ Some z = ap (λ f. f (number t x) (number t y)) (same_binary p op t) ∙ e2 in
    let keeps = subst (KeepsPatterns op) (sym pt) (laws.plain op t plain) in
    number_of laws (result_type op t) (on_patterns op t x y) z (binary_in laws p op t t (result_type op t) (number t x) (number t y) z nb ne types rx ry e3)
    (ap (λ x. on_patterns op t x y) (sym (laws.round t x bx)) ∙ ap (on_patterns op t (pattern t (number t x))) (sym (laws.round t y by2)) ∙ keeps p (number t x) (number t y) z rx ry e2)

shift_joins : OpLaws → (op : Binary) (t by : Ty) (x y : ℕ) → ShiftKeepsPatterns op t → (op ≡ Both → ⊥) → (op ≡ Either → ⊥) → result_type op t ≡ t → AreOperands op t by t → t ≡ promoted t → by ≡ promoted by → x < 2 ^ ty_width t → y < 2 ^ ty_width by
    → ((p : Profile) (z : ℤ) → binary_value p op t (number t x) (number by y) ≡ Some z → (k : ℕ) × (amount t (number by y) ≡ Some k)) → Joins op t by x y
shift_joins laws op t by x y keeps nb ne rt types pt pby bx byy am p z e =
    let rx = laws.in_range t x bx in
    let ry = laws.in_range by y byy in
    let k = am p z e in
    subst (λ r. IsPattern r (on_patterns op t x y) z) (sym rt) (number_of laws t (on_patterns op t x y) z (binary_in laws p op t by t (number t x) (number by y) z nb ne types rx ry e)
    (ap (λ x. on_patterns op t x y) (sym (laws.round t x bx)) ∙ ap (on_patterns op t (pattern t (number t x))) (sym (amount_pattern laws t by y k.0 pt pby byy k.1)) ∙ keeps p (number t x) (number by y) z rx e))

pub joins : OpLaws → (op : Binary) (t by : Ty) (x y : ℕ) → t ≡ promoted t → IsRightType op t by → x < 2 ^ ty_width t → y < 2 ^ ty_width by → Joins op t by x y
joins laws Shl t by x y pt r a b = shift_joins laws Shl t by x y (subst (ShiftKeepsPatterns Shl) (sym pt) (laws.left_shifts t)) (λ e. cc) (λ e. cc) refl (pt, r, pt) pt r a b (λ p z e. amount_of t (left_shift p t (number t x)) (number by y) z e)
joins laws Shr t by x y pt r a b = shift_joins laws Shr t by x y (subst (ShiftKeepsPatterns Shr) (sym pt) (laws.right_shifts t)) (λ e. cc) (λ e. cc) refl (pt, r, pt) pt r a b (λ p z e. amount_of t (right_shift (number t x)) (number by y) z e)
joins laws Both t by x y pt r a b = λ p z e. absurd (cc)
joins laws Either t by x y pt r a b = λ p z e. absurd (cc)
joins laws op t by x y pt r a b =
    plain_joins laws op t by x y refl (λ e. cc) (λ e. cc) (the_usual t pt, the_usual t pt, ap (result_type op) (the_usual t pt)) pt r a b

pub makes : OpLaws → (op : Unary) (t : Ty) (x : ℕ) → t ≡ promoted t → x < 2 ^ ty_width t → MakesOf op t x
makes laws op t x pt b p z e =
    let rx = laws.in_range t x b in
    let keeps = subst (KeepsPattern op) (sym pt) (laws.unary op t) in
    number_of laws (unary_type op t) (on_pattern op t x) z (unary_in laws p op t (number t x) z pt rx (ap (λ f. f (number t x)) (same_unary p op t) ∙ e))
    (ap (on_pattern op t) (sym (laws.round t x b)) ∙ keeps p (number t x) z rx e)

pub converts : OpLaws → (s t : Ty) (x : ℕ) → x < 2 ^ ty_width s → IsPattern t (converted_by (conversion_op s t) x) (conv t (number s x))
converts laws s t x b =
    let rx = laws.in_range s x b in
    let made = ap (converted_by (conversion_op s t)) (sym (laws.round s x b)) ∙ laws.conversions s t (number s x) rx in
    number_of laws t (converted_by (conversion_op s t) x) (conv t (number s x)) (laws.in_range t (pattern t (number s x)) (laws.width t (number s x))) made
