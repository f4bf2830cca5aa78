-- Each lawful expression's laying makes the pattern of its value.
use Rattle.std.proofs.Common.{◌≡◌, ℕ, ◌+◌, ◌^◌, ◌<◌, ◌≤◌, List, [], ◌∷◌, length, get_or, Option, Some, None, refl, sym, ◌∙◌, ap, subst, arith}
use Rattle.std.specs.Prelude.{Bool, true, false, ℤ, pos, slice_get, All, not, ◌&&◌}
use Rattle.std.proofs.lemmas.Int.{ints}
use Rattle.std.proofs.lemmas.List.Elements.{All-get_or, All-head, All-tail, All-nil, All-cons}
use Rattle.std.proofs.Math.Nat.{mod-eq_of_lt, mul-le-mul_left}
use Rattle.std.proofs.lemmas.Option.{get_or_from_slice_get, none-some, slice_get_within, same_Some}
use mathlib.Core.Former.{Count}
use Rattle.el_base.specs.declared.ty.Ty.{Ty}
use Rattle.el_base.specs.declared.ty.Ty.TheVariants.{I8, I32}
use Rattle.el_base.specs.declared.span.Span.{Span}
use Rattle.el_base.specs.Numbers.{IsInRange, pattern}
use Rattle.el_base.specs.Widths.{ty_width}
use Rattle.c_ast.specs.declared.tree.Unary.{Unary}
use Rattle.c_ast.specs.declared.tree.Unary.TheVariants.{Plus, Minus, Flip, Not}
use Rattle.c_ast.specs.declared.tree.Binary.{Binary}
use Rattle.c_ast.specs.declared.tree.Binary.TheVariants.{Shl, Shr, Lt, Gt, Le, Ge, Eq, Ne, Both, Either}
use Rattle.c_ast.specs.ResultTypes.{promoted, usual, result_type, unary_type}
use Rattle.c_ast.specs.declared.typed.TypedExpr.{TypedExpr}
use Rattle.c_ast.specs.declared.typed.TypedExprKind.{TypedExprKind, Row_of-TypedExpr, end_of-TypedExpr, more_of-TypedExpr}
use Rattle.c_ast.specs.declared.typed.TypedExprKind as tree
use Rattle.ir.specs.declared.instr.Instr.TheVariants.{Select, Load}
use Rattle.ir.specs.Steps.{Work, through}
use Rattle.c_meaning.specs.Types.{conv}
use Rattle.c_meaning.specs.Operators.{is_zero, truth, unary_value, binary_value}
use Rattle.c_meaning.specs.Patterns.{KeepsPatterns, KeepsPattern, ShiftKeepsPatterns, on_patterns, on_pattern}
use Rattle.c_meaning.specs.Stores.{Store, Objects, IsFitting, elements, place, place_from, dims_of, read_element}
use Rattle.c_meaning.specs.Expressions.{Val, undefined_value, value, Vals, undefined_values, values, Meaning, after_turns, on_one, on_two, later, as_truth, chosen, one_of, always, element, element_at, all_values, kind_meaning, row_meanings}
use Rattle.c_meaning.specs.Lawful.{LawfulKind, LawfulRow, IsElement, row_length, ReadsNone, ReadsOutside, RowReadsOutside, both_or_either, LawfulNormalExpr}
use Rattle.c_meaning.specs.Sizes.{reads}
use Rattle.c_meaning.proofs.TypeLemmas.{promoted_usual}
use Rattle.c_meaning.proofs.OperatorLaws.{is_plain}
use Rattle.c_meaning.proofs.ValueParts.{value_one}
use Rattle.c_meaning.proofs.ReadLemmas.{sides_none}
use Rattle.c_meaning.proofs.ParameterLists.{some_elements}
use Rattle.c_meaning.proofs.StoreParts.{dims_is}
use Rattle.struct_cfg.specs.Layings.{Laying, one_step, after, applied, Piece}
use Rattle.struct_cfg.specs.Operators.{converted, unary_op, flag, is_narrow, joined, place_laid}
use Rattle.struct_cfg.specs.Exprs.{kind_laying, row_pieces, expr_laying}
use Rattle.struct_cfg.specs.Seen.{IsValue, Sees, Adds, Makes}
use Rattle.struct_cfg.specs.Shares.{IsSmallArray, AreSmallArrays, GivesValue, GivesTruth}
use Rattle.struct_cfg.proofs.Works as works
use Rattle.struct_cfg.proofs.Works.{const_makes, no_step_makes, makes_equal, after_makes, after_any, still_seen, steps_add, select_zero, select_more}
use Rattle.struct_cfg.proofs.Bounds.{kind_reads}
use Rattle.struct_cfg.proofs.Truths.{flag_makes, both_none, both_zero, both_some, either_some, either_zero, either_more}
use Rattle.struct_cfg.proofs.Types.{OpLaws, pattern_none, pattern_some, pattern_conv}
use Rattle.struct_cfg.proofs.JoinLaws.{plain_makes, unary_makes, converted_makes, left_shift_makes, right_shift_makes}
use Rattle.struct_cfg.proofs.Places.{PieceLaw, PieceLaws, no_piece, one_piece, place_makes, load_makes, cells_are}

-- ---- what makes up a value

after_some : (p : Span) (n m : ℕ) (r : Option ℤ) (z : ℤ) → after_turns p n r ≡ value z m → r ≡ Some z
after_some p n m None z e = absurd (cc)
after_some p n m (Some x) z e = ap Some (value_one x z n m e)

pub record OneValue (f : ℤ → Option ℤ) (a : Val) (z : ℤ) : Type 0 where
  pub x : ℤ
  pub t : ℕ
  pub part : a ≡ value x t
  pub whole : f x ≡ Some z

one_value : (p : Span) (f : ℤ → Option ℤ) (a : Val) (z : ℤ) (n : ℕ) → on_one p f a ≡ value z n → OneValue f a z
one_value p f (undefined_value q) z n e = absurd (cc)
one_value p f (value x t) z n e = record { x = x; t = t; part = refl; whole = after_some p t n (f x) z e }

-- what two operands and an operator that may be undefined give
pub record TwoValues (f : ℤ → ℤ → Option ℤ) (a b : Val) (z : ℤ) : Type 0 where
  pub x : ℤ
  pub y : ℤ
  pub t : ℕ
  pub u : ℕ
  pub left : a ≡ value x t
  pub right : b ≡ value y u
  pub both : f x y ≡ Some z

two_values : (p : Span) (f : ℤ → ℤ → Option ℤ) (a b : Val) (z : ℤ) (n : ℕ) → on_two p f a b ≡ value z n → TwoValues f a b z
two_values p f (undefined_value q) b z n e = absurd (cc)
two_values p f (value x t) (undefined_value q) z n e = absurd (cc)
two_values p f (value x t) (value y u) z n e = record { x = x; y = y; t = t; u = u; left = refl; right = refl; both = after_some p (t + u) n (f x y) z e }

-- the part that a condition chooses
pub record Chosen (c : Val) (a b : Meaning) (s : Store) (z : ℤ) : Type 0 where
  pub x : ℤ
  pub t : ℕ
  pub u : ℕ
  pub first : c ≡ value x t
  pub rest : one_of (is_zero x) b a s ≡ value z u

later_value : (t : ℕ) (v : Val) (z : ℤ) (n : ℕ) → later t v ≡ value z n → (u : ℕ) × (v ≡ value z u)
later_value t (undefined_value p) z n e = absurd (cc)
later_value t (value x u) z n e = (u, ap (λ y. value y u) (value_one x z (t + u) n e))

chosen_is : (c : Val) (a b : Meaning) (s : Store) (z : ℤ) (n : ℕ) → chosen c a b s ≡ value z n → Chosen c a b s z
chosen_is (undefined_value p) a b s z n e = absurd (cc)
chosen_is (value x t) a b s z n e = let r = later_value (t + 1) (one_of (is_zero x) b a s) z n e in record { x = x; t = t; u = r.0; first = refl; rest = r.1 }

pub record Truth (v : Val) (z : ℤ) : Type 0 where
  pub y : ℤ
  pub u : ℕ
  pub is : v ≡ value y u
  pub truth_is : truth (not (is_zero y)) ≡ z

truth_value : (v : Val) (z : ℤ) (n : ℕ) → as_truth v ≡ value z n → Truth v z
truth_value (undefined_value p) z n e = absurd (cc)
truth_value (value y u) z n e = record { y = y; u = u; is = refl; truth_is = value_one (truth (not (is_zero y))) z u n e }

-- ---- numbers

pub below_width : (t : Ty) (m : ℕ) → IsInRange t (pos m) → m < 2 ^ ty_width t
below_width I8 m h = let b = h.below in omega (arith, ints)
below_width t m h = let b = h.below in omega (arith, ints)

pub pattern_number : (t : Ty) (m : ℕ) → IsInRange t (pos m) → pattern t (pos m) ≡ m
pattern_number t m h = mod-eq_of_lt (below_width t m h)

-- ---- sides that read no array

none_reads : (e : TypedExprKind) → ReadsNone e → reads e ≡ 0
none_reads (tree.Number n) h = refl
none_reads (tree.Var v) h = refl
none_reads (tree.Element' a n row) h = absurd h
none_reads (tree.Unary' op b (more_of-TypedExpr e u at end_of-TypedExpr)) h = none_reads e h
none_reads (tree.Cast' implied b (more_of-TypedExpr e u at end_of-TypedExpr)) h = none_reads e h
none_reads (tree.Binary' op b (more_of-TypedExpr e u at end_of-TypedExpr) b2 (more_of-TypedExpr e2 u2 at2 end_of-TypedExpr)) h = omega (arith, none_reads e h.0, none_reads e2 h.1)
none_reads (tree.Choose' b (more_of-TypedExpr e u at end_of-TypedExpr) b2 (more_of-TypedExpr e2 u2 at2 end_of-TypedExpr) b3 (more_of-TypedExpr e3 u3 at3 end_of-TypedExpr)) h =
    omega (arith, none_reads e h.0, none_reads e2 h.1, none_reads e3 h.2)

none_outside : (e : TypedExprKind) → ReadsNone e → ReadsOutside e
none_outside (tree.Number n) h = tt
none_outside (tree.Var v) h = tt
none_outside (tree.Element' a n row) h = absurd h
none_outside (tree.Unary' op b (more_of-TypedExpr e u at end_of-TypedExpr)) h = none_outside e h
none_outside (tree.Cast' implied b (more_of-TypedExpr e u at end_of-TypedExpr)) h = none_outside e h
none_outside (tree.Binary' op b (more_of-TypedExpr e u at end_of-TypedExpr) b2 (more_of-TypedExpr e2 u2 at2 end_of-TypedExpr)) h =
    (sides_none (both_or_either op) e e2 h.0 h.1, none_outside e h.0, none_outside e2 h.1)
none_outside (tree.Choose' b (more_of-TypedExpr e u at end_of-TypedExpr) b2 (more_of-TypedExpr e2 u2 at2 end_of-TypedExpr) b3 (more_of-TypedExpr e3 u3 at3 end_of-TypedExpr)) h =
    (none_outside e h.0, h.1, h.2)

-- ---- small arrays

pub all_at : {A : Type 0} (P : A → Type 0) (xs : List A) (i : ℕ) (x : A) → All P xs → slice_get xs i ≡ Some x → P x
all_at P xs i x h e = subst P (get_or_from_slice_get xs i x x e) (All-get_or P xs i x (slice_get_within xs i x e) h)

le_one : (d : ℕ) → 0 < d → 1 ≤ d
le_one d h = omega arith

pub dims_few : (ds : List ℕ) → All (λ d. 0 < d) ds → elements ds ≤ 1048576 → All (λ d. d < 2 ^ 63) ds
dims_few [] h le = All-nil (λ d. d < 2 ^ 63)
dims_few (d ∷ ds) h le =
    let tail = All-tail (λ d. 0 < d) d ds h in
    let p : 1 ≤ elements ds = omega (arith, some_elements ds tail) in
    let q : 0 < d = All-head (λ d. 0 < d) d ds h in
    let r = mul-le-mul_left d p in
    let t = mul-le-mul_left (elements ds) (le_one d q) in
    All-cons (λ d. d < 2 ^ 63) d ds (omega arith) (dims_few ds tail (omega arith))

-- ---- an element by its indices

pub record ElementAt (k : Objects) (s : Store) (a : ℕ) (vs : Vals) (z : ℤ) : Type 0 where
  pub indices : List ℤ
  pub turns : ℕ
  pub to : ℕ
  pub values_are : vs ≡ values indices turns
  pub place_is : place k.arrays a indices ≡ Some to
  pub read : read_element s a to ≡ Some z

placed_is : (k : Objects) (s : Store) (a : ℕ) (is : List ℤ) (t : ℕ) (z : ℤ) (r : Option ℕ) → place k.arrays a is ≡ r → element_at s a r ≡ Some z → ElementAt k s a (values is t) z
placed_is k s a is t z None e i = absurd (none-some z i)
placed_is k s a is t z (Some to) e i = record { indices = is; turns = t; to = to; values_are = refl; place_is = e; read = i }

pub element_is : (k : Objects) (at : Span) (s : Store) (a : ℕ) (vs : Vals) (z : ℤ) (n : ℕ) → element k at s a vs ≡ value z n → ElementAt k s a vs z
element_is k at s a (undefined_values p) z n e = absurd (cc)
element_is k at s a (values is t) z n e = placed_is k s a is t z (place k.arrays a is) refl (after_some at t n (element_at s a (place k.arrays a is)) z e)

module _ (laws : OpLaws) (k : Objects) (env : List ℕ) where
  -- the result of a unary operator depends on the type of its operand alone
  unary_same : (op : Unary) (t ty : Ty) (x : ℤ) → ty ≡ unary_type op t → unary_value k.profile op t x ≡ unary_value k.profile op ty x
  unary_same Plus t ty x e = refl
  unary_same Minus t ty x e = ap (λ u. unary_value k.profile Minus u x) (sym e)
  unary_same Flip t ty x e = ap (λ u. unary_value k.profile Flip u x) (sym e)
  unary_same Not t ty x e = refl

  -- the result of a binary operator depends on the type of its operands alone
  plain_same : (op : Binary) (t t2 ty : Ty) → t ≡ usual t t2 → ty ≡ result_type op (usual t t2) → (x y : ℤ) → binary_value k.profile op ty x y ≡ binary_value k.profile op t x y
  plain_same Lt t t2 ty tp tr x y = refl
  plain_same Gt t t2 ty tp tr x y = refl
  plain_same Le t t2 ty tp tr x y = refl
  plain_same Ge t t2 ty tp tr x y = refl
  plain_same Eq t t2 ty tp tr x y = refl
  plain_same Ne t t2 ty tp tr x y = refl
  plain_same Both t t2 ty tp tr x y = refl
  plain_same Either t t2 ty tp tr x y = refl
  plain_same op t t2 ty tp tr x y = ap (λ u. binary_value k.profile op u x y) (tr ∙ sym tp)

  abbrev kind_piece : TypedExprKind → Ty → Piece
  kind_piece e t = record { ty = t; laying = kind_laying k.arrays env e t }

  -- both operands, and what follows them
  two_parts : (p q : Piece) (m o : Meaning) (f : ℕ → ℕ → Laying) (w : Work) (s : Store) (x y : ℤ) (t u r : ℕ) → PieceLaw k env p m → PieceLaw k env q o → Sees k env w s → m s ≡ value x t → o s ≡ value y u
      → ((w2 : Work) (a b : ℕ) → IsValue w2 a (pattern p.ty x) → IsValue w2 b (pattern q.ty y) → Makes w2 (f a b (length w2.values)) r)
      → Makes w (after p.laying (λ a. after q.laying (λ b. f a b)) (length w.values)) r
  two_parts p q m o f w s x y t u r la lb sees e i next =
      after_makes p.laying (λ a. after q.laying (λ b. f a b)) w (pattern p.ty x) r (la.gives w s x t sees e)
      (λ a w1 a1 j. after_makes q.laying (λ b. f a b) w1 (pattern q.ty y) r (lb.gives w1 s y u (still_seen k env w w1 s a1 sees) i)
      (λ b w2 a2 h. next w2 a b (works.later w1 w2 a (pattern p.ty x) a2 j) h))

  plain_law : (op : Binary) (p q : Piece) (m o : Meaning) (ty : Ty) (at : Span) (w : Work) (s : Store) (z : ℤ) (n : ℕ) → is_plain op ≡ true → PieceLaw k env p m → PieceLaw k env q o
      → p.ty ≡ usual p.ty q.ty → q.ty ≡ usual p.ty q.ty → ty ≡ result_type op (usual p.ty q.ty)
      → Sees k env w s → on_two at (binary_value k.profile op ty) (m s) (o s) ≡ value z n
      → Makes w (after p.laying (λ a. after q.laying (λ b. joined op p.ty q.ty a b)) (length w.values)) (pattern ty z)
  plain_law op p q m o ty at w s z n plain la lb tp tq tr sees e =
      let j = two_values at (binary_value k.profile op ty) (m s) (o s) z n e in
      let up : promoted p.ty ≡ p.ty = ap promoted tp ∙ promoted_usual p.ty q.ty ∙ sym tp in
      let equal : q.ty ≡ p.ty = tq ∙ sym tp in
      let keeps : KeepsPatterns op p.ty = subst (KeepsPatterns op) up (laws.plain op p.ty plain) in
      let rx = la.range s j.x j.t sees.fitting j.left in
      let ry : IsInRange p.ty j.y = subst (λ t. IsInRange t j.y) equal (lb.range s j.y j.u sees.fitting j.right) in
      let is : on_patterns op p.ty (pattern p.ty j.x) (pattern q.ty j.y) ≡ pattern ty z =
      ap (λ t. on_patterns op p.ty (pattern p.ty j.x) (pattern t j.y)) equal ∙ keeps k.profile j.x j.y z rx ry (sym (plain_same op p.ty q.ty ty tp tr j.x j.y) ∙ j.both) ∙ ap (λ t. pattern (result_type op t) z) tp ∙ ap (λ t. pattern t z) (sym tr) in
      two_parts p q m o (joined op p.ty q.ty) w s j.x j.y j.t j.u (pattern ty z) la lb sees j.left j.right
      (λ w2 a b ia ib. makes_equal w2 _ _ _ is (plain_makes op p.ty q.ty w2 a b (pattern p.ty j.x) (pattern q.ty j.y) plain ia ib))

  -- a shift, by what its steps make
  shift_law : (op : Binary) (p q : Piece) (m o : Meaning) (ty : Ty) (at : Span) (w : Work) (s : Store) (z : ℤ) (n : ℕ) → PieceLaw k env p m → PieceLaw k env q o
      → p.ty ≡ promoted p.ty → ty ≡ promoted p.ty → ((t : Ty) → ShiftKeepsPatterns op (promoted t))
      → ((w2 : Work) (a b x : ℕ) (y : ℤ) → IsInRange q.ty y → IsValue w2 a x → IsValue w2 b (pattern q.ty y) → Makes w2 (joined op p.ty q.ty a b (length w2.values)) (on_patterns op p.ty x (pattern p.ty y)))
      → Sees k env w s → on_two at (binary_value k.profile op ty) (m s) (o s) ≡ value z n
      → Makes w (after p.laying (λ a. after q.laying (λ b. joined op p.ty q.ty a b)) (length w.values)) (pattern ty z)
  shift_law op p q m o ty at w s z n la lb tp tr shifts makes sees e =
      let j = two_values at (binary_value k.profile op ty) (m s) (o s) z n e in
      let equal : ty ≡ p.ty = tr ∙ sym tp in
      let keeps : ShiftKeepsPatterns op p.ty = subst (ShiftKeepsPatterns op) (sym tp) (shifts p.ty) in
      let rx = la.range s j.x j.t sees.fitting j.left in
      let ry = lb.range s j.y j.u sees.fitting j.right in
      let is : on_patterns op p.ty (pattern p.ty j.x) (pattern p.ty j.y) ≡ pattern ty z =
      keeps k.profile j.x j.y z rx (ap (λ t. binary_value k.profile op t j.x j.y) (sym equal) ∙ j.both) ∙ ap (λ t. pattern t z) (sym equal) in
      two_parts p q m o (joined op p.ty q.ty) w s j.x j.y j.t j.u (pattern ty z) la lb sees j.left j.right
      (λ w2 a b ia ib. makes_equal w2 _ _ _ is (makes w2 a b (pattern p.ty j.x) j.y ry ia ib))

  -- a side without reads only adds values, wherever it is laid
  free_side : (e : TypedExprKind) (t : Ty) (w : Work) → ReadsNone e → (let l = kind_laying k.arrays env e t (length w.values) in Adds w (through l.steps w))
  free_side e t w h =
      let b = kind_reads k.arrays env e t (length w.values) in
      steps_add (kind_laying k.arrays env e t (length w.values)).steps w (omega (arith, b, none_reads e h))

  module _ (e e2 : TypedExprKind) (t t2 : Ty) (m o : Meaning) (la : PieceLaw k env (kind_piece e t) m) (lb : PieceLaw k env (kind_piece e2 t2) o) where
    abbrev both_text : Laying
    both_text = after (kind_laying k.arrays env e t) (λ a. after (kind_laying k.arrays env e2 t2) (λ b. joined Both t t2 a b))

    abbrev either_text : Laying
    either_text = after (kind_laying k.arrays env e t) (λ a. after (kind_laying k.arrays env e2 t2) (λ b. joined Either t t2 a b))

    both_last : (w : Work) (s : Store) (x y : ℤ) (u v : ℕ) (b : Bool) → Sees k env w s → m s ≡ value x u → is_zero x ≡ false → o s ≡ value y v → is_zero y ≡ b → Makes w (both_text (length w.values)) (pattern I32 (truth (not b)))
    both_last w s x y u v true sees ex zx ey zy =
        let rx = la.range s x u sees.fitting ex in
        two_parts (kind_piece e t) (kind_piece e2 t2) m o (joined Both t t2) w s x y u v 0 la lb sees ex ey
        (λ w2 a b ia ib. both_zero t t2 w2 a b (pattern t x) (laws.width t x) ia (pattern t2 y) (laws.width t2 y) ib (is_narrow t && is_narrow t2) (pattern_some laws t x rx zx) (pattern_none t2 y zy))
    both_last w s x y u v false sees ex zx ey zy =
        let rx = la.range s x u sees.fitting ex in
        let ry = lb.range s y v sees.fitting ey in
        two_parts (kind_piece e t) (kind_piece e2 t2) m o (joined Both t t2) w s x y u v 1 la lb sees ex ey
        (λ w2 a b ia ib. both_some t t2 w2 a b (pattern t x) (laws.width t x) ia (pattern t2 y) (laws.width t2 y) ib (is_narrow t && is_narrow t2) (pattern_some laws t x rx zx) (pattern_some laws t2 y ry zy))

    both_first : (w : Work) (s : Store) (x z : ℤ) (u n : ℕ) (b : Bool) → ReadsNone e2 → Sees k env w s → m s ≡ value x u → is_zero x ≡ b → one_of b (always (pos 0)) (λ s. as_truth (o s)) s ≡ value z n → Makes w (both_text (length w.values)) (pattern I32 z)
    both_first w s x z u n true free sees ex zx r =
        let is : 0 ≡ pattern I32 z = ap (pattern I32) (value_one (pos 0) z 0 n r) in
        makes_equal w _ _ _ is (after_makes (kind_laying k.arrays env e t) (λ a. after (kind_laying k.arrays env e2 t2) (λ b. joined Both t t2 a b)) w (pattern t x) 0 (la.gives w s x u sees ex)
        (λ a w1 a1 j. let add = free_side e2 t2 w1 free in
        let l = kind_laying k.arrays env e2 t2 (length w1.values) in
        after_any (kind_laying k.arrays env e2 t2) (λ b. joined Both t t2 a b) w1 0 add
        (both_none t t2 (through l.steps w1) a l.value (pattern t x) (laws.width t x) (works.later w1 (through l.steps w1) a (pattern t x) add j) (is_narrow t && is_narrow t2) (pattern_none t x zx))))
    both_first w s x z u n false free sees ex zx r =
        let q = truth_value (o s) z n r in
        makes_equal w _ _ _ (ap (pattern I32) q.truth_is) (both_last w s x q.y u q.u (is_zero q.y) sees ex zx q.is refl)

    both_law : (w : Work) (s : Store) (z : ℤ) (n : ℕ) → ReadsNone e2 → Sees k env w s → chosen (m s) (λ s. as_truth (o s)) (always (pos 0)) s ≡ value z n → Makes w (both_text (length w.values)) (pattern I32 z)
    both_law w s z n free sees e =
        let c = chosen_is (m s) (λ s. as_truth (o s)) (always (pos 0)) s z n e in
        both_first w s c.x z c.t c.u (is_zero c.x) free sees c.first refl c.rest

    either_last : (w : Work) (s : Store) (x y : ℤ) (u v : ℕ) (b : Bool) → Sees k env w s → m s ≡ value x u → is_zero x ≡ true → o s ≡ value y v → is_zero y ≡ b → Makes w (either_text (length w.values)) (pattern I32 (truth (not b)))
    either_last w s x y u v true sees ex zx ey zy =
        two_parts (kind_piece e t) (kind_piece e2 t2) m o (joined Either t t2) w s x y u v 0 la lb sees ex ey
        (λ w2 a b ia ib. either_zero t t2 w2 a b (pattern t x) (laws.width t x) ia (pattern t2 y) (laws.width t2 y) ib (is_narrow t && is_narrow t2) (pattern_none t x zx) (pattern_none t2 y zy))
    either_last w s x y u v false sees ex zx ey zy =
        let ry = lb.range s y v sees.fitting ey in
        two_parts (kind_piece e t) (kind_piece e2 t2) m o (joined Either t t2) w s x y u v 1 la lb sees ex ey
        (λ w2 a b ia ib. either_more t t2 w2 a b (pattern t x) (laws.width t x) ia (pattern t2 y) (laws.width t2 y) ib (is_narrow t && is_narrow t2) (pattern_none t x zx) (pattern_some laws t2 y ry zy))

    either_first : (w : Work) (s : Store) (x z : ℤ) (u n : ℕ) (b : Bool) → ReadsNone e2 → Sees k env w s → m s ≡ value x u → is_zero x ≡ b → one_of b (λ s. as_truth (o s)) (always (pos 1)) s ≡ value z n → Makes w (either_text (length w.values)) (pattern I32 z)
    either_first w s x z u n false free sees ex zx r =
        let is : 1 ≡ pattern I32 z = ap (pattern I32) (value_one (pos 1) z 0 n r) in
        let rx = la.range s x u sees.fitting ex in
        makes_equal w _ _ _ is (after_makes (kind_laying k.arrays env e t) (λ a. after (kind_laying k.arrays env e2 t2) (λ b. joined Either t t2 a b)) w (pattern t x) 1 (la.gives w s x u sees ex)
        (λ a w1 a1 j. let add = free_side e2 t2 w1 free in
        let l = kind_laying k.arrays env e2 t2 (length w1.values) in
        after_any (kind_laying k.arrays env e2 t2) (λ b. joined Either t t2 a b) w1 1 add
        (either_some t t2 (through l.steps w1) a l.value (pattern t x) (laws.width t x) (works.later w1 (through l.steps w1) a (pattern t x) add j) (is_narrow t && is_narrow t2) (pattern_some laws t x rx zx))))
    either_first w s x z u n true free sees ex zx r =
        let q = truth_value (o s) z n r in
        makes_equal w _ _ _ (ap (pattern I32) q.truth_is) (either_last w s x q.y u q.u (is_zero q.y) sees ex zx q.is refl)

    either_law : (w : Work) (s : Store) (z : ℤ) (n : ℕ) → ReadsNone e2 → Sees k env w s → chosen (m s) (always (pos 1)) (λ s. as_truth (o s)) s ≡ value z n → Makes w (either_text (length w.values)) (pattern I32 z)
    either_law w s z n free sees e =
        let c = chosen_is (m s) (always (pos 1)) (λ s. as_truth (o s)) s z n e in
        either_first w s c.x z c.t c.u (is_zero c.x) free sees c.first refl c.rest

  -- ---- ?: whole

  module _ (e e2 e3 : TypedExprKind) (t t2 t3 ty : Ty) (m o r : Meaning) (lc : PieceLaw k env (kind_piece e t) m) (la : PieceLaw k env (kind_piece e2 t2) o) (lb : PieceLaw k env (kind_piece e3 t3) r) where
    abbrev choice_rest : ℕ → Laying
    choice_rest f = after (kind_laying k.arrays env e2 t2) (λ a. after (kind_laying k.arrays env e3 t3) (λ b. one_step (Select (ty_width ty) f a b)))

    choice_side : (b : Bool) (w : Work) (s : Store) (f q : ℕ) (x z : ℤ) (n : ℕ) → ReadsNone e2 → ReadsNone e3 → t2 ≡ ty → t3 ≡ ty → Sees k env w s → IsValue w f q → (b ≡ true → q ≡ 0) → (b ≡ false → 0 < q) → one_of b r o s ≡ value z n → Makes w (choice_rest f (length w.values)) (pattern ty z)
    choice_side true w s f q x z n free2 free3 same2 same3 sees i none some g =
        let add = free_side e2 t2 w free2 in
        let l = kind_laying k.arrays env e2 t2 (length w.values) in
        let w1 = through l.steps w in
        let i0 : IsValue w f 0 = record { below = i.below; is = i.is ∙ none refl } in
        after_any (kind_laying k.arrays env e2 t2) (λ a. after (kind_laying k.arrays env e3 t3) (λ b. one_step (Select (ty_width ty) f a b))) w (pattern ty z) add
        (after_makes (kind_laying k.arrays env e3 t3) (λ b. one_step (Select (ty_width ty) f l.value b)) w1 (pattern ty z) (pattern ty z)
        (makes_equal w1 _ _ _ (ap (λ u. pattern u z) same3) (lb.gives w1 s z n (still_seen k env w w1 s add sees) g))
        (λ b w2 a2 h. select_zero w2 (ty_width ty) f l.value b (pattern ty z) (works.later w1 w2 f 0 a2 (works.later w w1 f 0 add i0)) h))
    choice_side false w s f q x z n free2 free3 same2 same3 sees i none some g =
        after_makes (kind_laying k.arrays env e2 t2) (λ a. after (kind_laying k.arrays env e3 t3) (λ b. one_step (Select (ty_width ty) f a b))) w (pattern ty z) (pattern ty z)
        (makes_equal w _ _ _ (ap (λ u. pattern u z) same2) (la.gives w s z n sees g))
        (λ a w1 a1 h.
        let add = free_side e3 t3 w1 free3 in
        let l = kind_laying k.arrays env e3 t3 (length w1.values) in
        let w2 = through l.steps w1 in
        after_any (kind_laying k.arrays env e3 t3) (λ b. one_step (Select (ty_width ty) f a b)) w1 (pattern ty z) add
        (select_more w2 (ty_width ty) f a l.value q (pattern ty z) (some refl) (works.later w1 w2 f q add (works.later w w1 f q a1 i)) (works.later w1 w2 a (pattern ty z) add h)))

    choice_law : (w : Work) (s : Store) (z : ℤ) (n : ℕ) → ReadsNone e2 → ReadsNone e3 → t2 ≡ ty → t3 ≡ ty → Sees k env w s → chosen (m s) o r s ≡ value z n
        → Makes w (after (kind_laying k.arrays env e t) (λ c. after (flag t c) choice_rest) (length w.values)) (pattern ty z)
    choice_law w s z n free2 free3 same2 same3 sees g =
        let c = chosen_is (m s) o r s z n g in
        let rx = lc.range s c.x c.t sees.fitting c.first in
        after_makes (kind_laying k.arrays env e t) (λ c. after (flag t c) choice_rest) w (pattern t c.x) (pattern ty z) (lc.gives w s c.x c.t sees c.first)
        (λ v w1 a1 j. let f = flag_makes t w1 v (pattern t c.x) (laws.width t c.x) j in
        after_makes (flag t v) choice_rest w1 f.value (pattern ty z) f.makes
        (λ i w2 a2 h. choice_side (is_zero c.x) w2 s i f.value c.x z c.u free2 free3 same2 same3 (still_seen k env w1 w2 s a2 (still_seen k env w w1 s a1 sees)) h
        (λ zx. f.zero_kept (pattern_none t c.x zx)) (λ zx. f.more_kept (pattern_some laws t c.x rx zx)) c.rest))

  -- ---- an element

  element_law : AreSmallArrays k.arrays → (a : ℕ) (ps : List Piece) (ms : List Meaning) (ty : Ty) (at : Span) (w : Work) (s : Store) (z : ℤ) (n c : ℕ) → IsElement k a c ty → PieceLaws k env ps ms → Sees k env w s → element k at s a (all_values ms s) ≡ value z n
      → Makes w (after (place_laid (dims_of k.arrays a) ps) (λ p. one_step (Load a p)) (length w.values)) (pattern ty z)
  element_law small a ps ms ty at w s z n c named all sees e =
      let q = element_is k at s a (all_values ms s) z n e in
      let x = named.0 in
      let fits = all_at IsSmallArray k.arrays a x small named.1 in
      let ds = dims_is k.arrays a x named.1 in
      let cell = cells_are k.arrays s.arrays a x sees.fitting.arrays named.1 in
      let within : q.to < length (get_or s.arrays a []) = slice_get_within (get_or s.arrays a []) q.to z q.read in
      let near : q.to < 2 ^ 63 = omega (arith, within, cell.long, fits.few) in
      let short : All (λ d. d < 2 ^ 63) x.dims = dims_few x.dims fits.dimensions.1 fits.few in
      after_makes (place_laid (dims_of k.arrays a) ps) (λ p. one_step (Load a p)) w q.to (pattern ty z)
      (subst (λ d. Makes w (place_laid d ps (length w.values)) q.to) (sym ds)
      (place_makes laws k env x.dims ps ms w s q.indices q.turns q.to all fits.some short sees q.values_are (ap (λ d. place_from 0 d q.indices) (sym ds) ∙ q.place_is) near))
      (λ v u a1 h. makes_equal u _ _ _ (ap (λ t. pattern t z) named.2) (load_makes laws k env u s a x v q.to z (still_seen k env w u s a1 sees) named.1 h q.read))

  -- ---- trees

  abbrev KindLaw : TypedExprKind → Ty → Span → Type 0
  KindLaw e ty at = PieceLaw k env (kind_piece e ty) (kind_meaning k e ty at)

  in_range : (e : TypedExprKind) (ty : Ty) (at : Span) → LawfulKind k e ty → (s : Store) (x : ℤ) (t : ℕ) → IsFitting k s → kind_meaning k e ty at s ≡ value x t → IsInRange ty x
  in_range e ty at h s x t fit q = laws.values_fit k s (record { kind = e; ty = ty; at = at }) x t fit h q

  module _ (small : AreSmallArrays k.arrays) where
    plain_kind : (op : Binary) (e e2 : TypedExprKind) (t t2 ty : Ty) (at a1 a2 : Span) → is_plain op ≡ true → KindLaw e t a1 → KindLaw e2 t2 a2 → t ≡ usual t t2 → t2 ≡ usual t t2 → ty ≡ result_type op (usual t t2)
        → (w : Work) (s : Store) (x : ℤ) (u : ℕ) → Sees k env w s → on_two at (binary_value k.profile op ty) (kind_meaning k e t a1 s) (kind_meaning k e2 t2 a2 s) ≡ value x u
        → Makes w (after (kind_laying k.arrays env e t) (λ a. after (kind_laying k.arrays env e2 t2) (λ b. joined op t t2 a b)) (length w.values)) (pattern ty x)
    plain_kind op e e2 t t2 ty at a1 a2 plain la lb tp tq tr w s x u sees g =
        plain_law op (kind_piece e t) (kind_piece e2 t2) (kind_meaning k e t a1) (kind_meaning k e2 t2 a2) ty at w s x u plain la lb tp tq tr sees g

    mutual
      pub kind_law : (e : TypedExprKind) (ty : Ty) (at : Span) → LawfulKind k e ty → ReadsOutside e → KindLaw e ty at
      kind_law (tree.Number m) ty at h o = record {
        gives = λ w s x t sees g. let is : pos m ≡ x = value_one (pos m) x 0 t g in makes_equal w _ _ _ (sym (pattern_number ty m h) ∙ ap (pattern ty) is) (const_makes w (ty_width ty) m);
        range = in_range (tree.Number m) ty at h;
      }
      kind_law (tree.Var v) ty at h o = record {
        gives = λ w s x t sees g.
            let i = sees.each v x (after_some at 0 t (get_or s.vars v None) x g) in
            no_step_makes w (get_or env v 0) (pattern ty x) (length w.values) (subst (λ u. IsValue w (get_or env v 0) (pattern u x)) (get_or_from_slice_get k.vars v ty I32 h) i);
        range = in_range (tree.Var v) ty at h;
      }
      kind_law (tree.Element' a n row) ty at h o = record {
        gives = λ w s x t sees g. element_law small a (row_pieces k.arrays env row) (row_meanings k row) ty at w s x t (row_length row) h.0 (row_law row h.1 o) sees g;
        range = in_range (tree.Element' a n row) ty at h;
      }
      kind_law (tree.Unary' op b (more_of-TypedExpr e t a1 end_of-TypedExpr)) ty at h o =
          let la = kind_law e t a1 h.2 o in
          let keeps : KeepsPattern op t = subst (KeepsPattern op) (sym h.0) (laws.unary op t) in
          record {
            gives = λ w s x n sees g.
                let q = one_value at (unary_value k.profile op ty) (kind_meaning k e t a1 s) x n g in
                let r = la.range s q.x q.t sees.fitting q.part in
                let is : on_pattern op t (pattern t q.x) ≡ pattern ty x = keeps k.profile q.x x r (unary_same op t ty q.x h.1 ∙ q.whole) ∙ ap (λ u. pattern u x) (sym h.1) in
                after_makes (kind_laying k.arrays env e t) (λ v. applied (unary_op op t) v) w (pattern t q.x) (pattern ty x) (la.gives w s q.x q.t sees q.part)
                (λ v u add i. makes_equal u _ _ _ is (unary_makes op t u v (pattern t q.x) i));
            range = in_range (tree.Unary' op b (more_of-TypedExpr e t a1 end_of-TypedExpr)) ty at h;
          }
      kind_law (tree.Cast' implied b (more_of-TypedExpr e t a1 end_of-TypedExpr)) ty at h o =
          let la = kind_law e t a1 h.1 o in
          record {
            gives = λ w s x n sees g.
                let q = one_value at (λ y. Some (conv ty y)) (kind_meaning k e t a1 s) x n g in
                let r = la.range s q.x q.t sees.fitting q.part in
                let is : pattern ty q.x ≡ pattern ty x = sym (pattern_conv laws ty q.x) ∙ ap (pattern ty) (same_Some (conv ty q.x) x q.whole) in
                after_makes (kind_laying k.arrays env e t) (λ v. converted t ty v) w (pattern t q.x) (pattern ty x) (la.gives w s q.x q.t sees q.part)
                (λ v u add i. makes_equal u _ _ _ is (converted_makes laws t ty u v q.x r i));
            range = in_range (tree.Cast' implied b (more_of-TypedExpr e t a1 end_of-TypedExpr)) ty at h;
          }
      kind_law (tree.Binary' Shl b (more_of-TypedExpr e t a1 end_of-TypedExpr) b2 (more_of-TypedExpr e2 t2 a2 end_of-TypedExpr)) ty at h o = record {
        gives = λ w s x u sees g. shift_law Shl (kind_piece e t) (kind_piece e2 t2) (kind_meaning k e t a1) (kind_meaning k e2 t2 a2) ty at w s x u (kind_law e t a1 h.1 o.1) (kind_law e2 t2 a2 h.2 o.2) h.0.0 h.0.2 laws.left_shifts (λ w2 c d p y r i j. left_shift_makes laws t t2 w2 c d p y r i j) sees g;
        range = in_range (tree.Binary' Shl b (more_of-TypedExpr e t a1 end_of-TypedExpr) b2 (more_of-TypedExpr e2 t2 a2 end_of-TypedExpr)) ty at h;
      }
      kind_law (tree.Binary' Shr b (more_of-TypedExpr e t a1 end_of-TypedExpr) b2 (more_of-TypedExpr e2 t2 a2 end_of-TypedExpr)) ty at h o = record {
        gives = λ w s x u sees g. shift_law Shr (kind_piece e t) (kind_piece e2 t2) (kind_meaning k e t a1) (kind_meaning k e2 t2 a2) ty at w s x u (kind_law e t a1 h.1 o.1) (kind_law e2 t2 a2 h.2 o.2) h.0.0 h.0.2 laws.right_shifts (λ w2 c d p y r i j. right_shift_makes laws t t2 w2 c d p y r i j) sees g;
        range = in_range (tree.Binary' Shr b (more_of-TypedExpr e t a1 end_of-TypedExpr) b2 (more_of-TypedExpr e2 t2 a2 end_of-TypedExpr)) ty at h;
      }
      kind_law (tree.Binary' Both b (more_of-TypedExpr e t a1 end_of-TypedExpr) b2 (more_of-TypedExpr e2 t2 a2 end_of-TypedExpr)) ty at h o = record {
        gives = λ w s x u sees g. makes_equal w _ _ _ (ap (λ i. pattern i x) (sym h.0.2)) (both_law e e2 t t2 (kind_meaning k e t a1) (kind_meaning k e2 t2 a2) (kind_law e t a1 h.1 o.1) (kind_law e2 t2 a2 h.2 o.2) w s x u o.0.1 sees g);
        range = in_range (tree.Binary' Both b (more_of-TypedExpr e t a1 end_of-TypedExpr) b2 (more_of-TypedExpr e2 t2 a2 end_of-TypedExpr)) ty at h;
      }
      kind_law (tree.Binary' Either b (more_of-TypedExpr e t a1 end_of-TypedExpr) b2 (more_of-TypedExpr e2 t2 a2 end_of-TypedExpr)) ty at h o = record {
        gives = λ w s x u sees g. makes_equal w _ _ _ (ap (λ i. pattern i x) (sym h.0.2)) (either_law e e2 t t2 (kind_meaning k e t a1) (kind_meaning k e2 t2 a2) (kind_law e t a1 h.1 o.1) (kind_law e2 t2 a2 h.2 o.2) w s x u o.0.1 sees g);
        range = in_range (tree.Binary' Either b (more_of-TypedExpr e t a1 end_of-TypedExpr) b2 (more_of-TypedExpr e2 t2 a2 end_of-TypedExpr)) ty at h;
      }
      kind_law (tree.Binary' op b (more_of-TypedExpr e t a1 end_of-TypedExpr) b2 (more_of-TypedExpr e2 t2 a2 end_of-TypedExpr)) ty at h o = record {
        gives = λ w s x u sees g. plain_kind op e e2 t t2 ty at a1 a2 refl (kind_law e t a1 h.1 o.1) (kind_law e2 t2 a2 h.2 o.2) h.0.0 h.0.1 h.0.2 w s x u sees g;
        range = in_range (tree.Binary' op b (more_of-TypedExpr e t a1 end_of-TypedExpr) b2 (more_of-TypedExpr e2 t2 a2 end_of-TypedExpr)) ty at h;
      }
      kind_law (tree.Choose' b (more_of-TypedExpr e t a1 end_of-TypedExpr) b2 (more_of-TypedExpr e2 t2 a2 end_of-TypedExpr) b3 (more_of-TypedExpr e3 t3 a3 end_of-TypedExpr)) ty at h o = record {
        gives = λ w s x u sees g. choice_law e e2 e3 t t2 t3 ty (kind_meaning k e t a1) (kind_meaning k e2 t2 a2) (kind_meaning k e3 t3 a3) (kind_law e t a1 h.1 o.0) (kind_law e2 t2 a2 h.2 (none_outside e2 o.1)) (kind_law e3 t3 a3 h.3 (none_outside e3 o.2))
            w s x u o.1 o.2 (h.0.0 ∙ sym h.0.2) (h.0.1 ∙ sym h.0.2) sees g;
        range = in_range (tree.Choose' b (more_of-TypedExpr e t a1 end_of-TypedExpr) b2 (more_of-TypedExpr e2 t2 a2 end_of-TypedExpr) b3 (more_of-TypedExpr e3 t3 a3 end_of-TypedExpr)) ty at h;
      }

      pub row_law : {n : Count} (row : Row_of-TypedExpr n) → LawfulRow k row → RowReadsOutside row → PieceLaws k env (row_pieces k.arrays env row) (row_meanings k row)
      row_law end_of-TypedExpr h o = no_piece
      row_law (more_of-TypedExpr e t at row) h o = one_piece (kind_piece e t) (kind_meaning k e t at) (row_pieces k.arrays env row) (row_meanings k row) (kind_law e t at h.0 o.0) (row_law row h.1 o.1)

    pub expr_gives : (e : TypedExpr) → LawfulNormalExpr k e → GivesValue k env e
    expr_gives e h = record { gives = λ w s x t sees g. let l = kind_law e.kind e.ty e.at h.0 h.1 in l.gives w s x t sees g }

    pub expr_tells : (e : TypedExpr) → LawfulNormalExpr k e → GivesTruth k env e
    expr_tells e h = record {
      gives = λ w s x t sees g.
          let l = kind_law e.kind e.ty e.at h.0 h.1 in
          let m = l.gives w s x t sees g in
          let r = l.range s x t sees.fitting g in
          let y = expr_laying k.arrays env e (length w.values) in
          let f = flag_makes e.ty (through y.steps w) y.value (pattern e.ty x) (laws.width e.ty x) m.is in
          record {
            flag = f.value;
            makes = after_any (expr_laying k.arrays env e) (λ v. flag e.ty v) w f.value m.adds f.makes;
            none = λ z. f.zero_kept (pattern_none e.ty x z);
            some = λ z. f.more_kept (pattern_some laws e.ty x r z);
          };
    }
