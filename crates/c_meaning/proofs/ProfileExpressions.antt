-- What an expression gives under Plain it gives under Wrap.
use Rattle.std.proofs.Common.{◌≡◌, ℕ, ◌+◌, ◌^◌, List, Option, Some, None, refl, sym, ap, subst}
use Rattle.std.specs.Prelude.{Bool, true, false, ℤ, pos, ◌+ℤ◌, ◌-ℤ◌, ◌*ℤ◌, neg_ℤ, int_le, ◌&&◌, if◌then◌else◌, option_and_then}
use Rattle.std.specs.Int.{is_negative}
use Rattle.std.proofs.lemmas.Bool.{and_parts}
use mathlib.Core.Former.{Count}
use Rattle.el_base.specs.declared.ty.Ty.{Ty}
use Rattle.el_base.specs.declared.span.Span.{Span}
use Rattle.el_base.specs.Numbers.{pattern, number, IsInRange}
use Rattle.el_base.specs.Widths.{ty_signed}
use Rattle.c_ast.specs.declared.tree.Unary.{Unary}
use Rattle.c_ast.specs.declared.tree.Unary.TheVariants as unary
use Rattle.c_ast.specs.declared.tree.Binary.{Binary}
use Rattle.c_ast.specs.declared.tree.Binary.TheVariants as op
use Rattle.c_ast.specs.declared.typed.ArrayOf.{ArrayOf}
use Rattle.c_ast.specs.declared.typed.TypedExpr.{TypedExpr}
use Rattle.c_ast.specs.declared.typed.TypedExprKind.{TypedExprKind, Row_of-TypedExpr, end_of-TypedExpr, more_of-TypedExpr}
use Rattle.c_ast.specs.declared.typed.TypedExprKind as tree
use Rattle.c_meaning.specs.declared.profile.Profile.TheVariants.{Plain, Wrap}
use Rattle.c_meaning.specs.Types.{range, conv, exact, fit, least, greatest}
use Rattle.c_meaning.specs.Operators.{is_zero, amount, left_shift, unary_value, binary_value}
use Rattle.c_meaning.specs.Stores.{Store, Objects, read_var, place}
use Rattle.c_meaning.specs.Expressions.{Val, undefined_value, value, Vals, undefined_values, values, Meaning, after_turns, on_two, later, as_truth, one_of, chosen, always, binary_meaning, all_values, element_at, element, kind_meaning, row_meanings, meaning}
use Rattle.c_meaning.specs.Profiles.{IsDefined}
use Rattle.c_meaning.proofs.Growth.{Allows, SameVal, SameVals, SameNumber, SameMeaning, SameMeanings, same_val, same_number, after_same, on_one_same, later_same, all_same}
use Rattle.c_meaning.proofs.OperatorPatterns.{most_yes}
use Rattle.c_meaning.proofs.StatementGrowth.{OperatorsAgree}

pub defined_rule : Allows IsDefined
defined_rule = record { on_normally = tt; on_break = tt; on_continue = tt; in_turns = λ o. o }

-- a number in range is what it is converted to
abbrev pub StaysInRange : Type 0
StaysInRange = (t : Ty) (z : ℤ) → IsInRange t z → number t (pattern t z) ≡ z

pub range_is : (t : Ty) (z : ℤ) → range t z ≡ true → IsInRange t z
range_is t z h =
    let both = and_parts (int_le (least t) z) (int_le z (greatest t)) h in
    record { above = most_yes (least t) z both.0; below = most_yes z (greatest t) both.1 }

none_same : (at : Span) (o : Option ℤ) → SameNumber IsDefined at None o
none_same at o = λ v. absurd v

module _ (stays : StaysInRange) where
  exact_same : (t : Ty) (at : Span) (z : ℤ) (b : Bool) → (b ≡ true → IsInRange t z) → SameNumber IsDefined at (if b then Some z else None) (Some (conv t z))
  exact_same t at z true h = ap Some (stays t z (h refl))
  exact_same t at z false h = none_same at (Some (conv t z))

  signed_same : (t : Ty) (at : Span) (z : ℤ) (b : Bool) → SameNumber IsDefined at (if b then exact t z else Some (conv t z)) (if b then Some (conv t z) else Some (conv t z))
  signed_same t at z true = exact_same t at z (range t z) (range_is t z)
  signed_same t at z false = refl

  fit_same : (t : Ty) (at : Span) (z : ℤ) → SameNumber IsDefined at (fit Plain t z) (fit Wrap t z)
  fit_same t at z = signed_same t at z (ty_signed t)

  negative_same : (t : Ty) (at : Span) (z : ℤ) (b : Bool) → SameNumber IsDefined at (if b then None else fit Plain t z) (fit Wrap t z)
  negative_same t at z true = none_same at (fit Wrap t z)
  negative_same t at z false = fit_same t at z

  shift_same : (t : Ty) (at : Span) (x : ℤ) (k : Option ℕ) → SameNumber IsDefined at (option_and_then (left_shift Plain t x) k) (option_and_then (left_shift Wrap t x) k)
  shift_same t at x None = none_same at None
  shift_same t at x (Some k) = negative_same t at (x *ℤ pos (2 ^ k)) (ty_signed t && is_negative x)

  pub operators_agree : OperatorsAgree IsDefined Plain Wrap
  operators_agree op.Mul t at x y = fit_same t at (x *ℤ y)
  operators_agree op.Add t at x y = fit_same t at (x +ℤ y)
  operators_agree op.Sub t at x y = fit_same t at (x -ℤ y)
  operators_agree op.Shl t at x y = shift_same t at x (amount t y)
  operators_agree o t at x y = same_number IsDefined at (binary_value Plain o t x y)

  unary_agree : (o : Unary) (t : Ty) (at : Span) (x : ℤ) → SameNumber IsDefined at (unary_value Plain o t x) (unary_value Wrap o t x)
  unary_agree unary.Plus t at x = refl
  unary_agree unary.Minus t at x = fit_same t at (neg_ℤ x)
  unary_agree unary.Flip t at x = refl
  unary_agree unary.Not t at x = refl

  -- ---- ways to put values together

  two_same : (at : Span) (f g : ℤ → ℤ → Option ℤ) (v w a b : Val) → ((x y : ℤ) → SameNumber IsDefined at (f x y) (g x y)) → SameVal IsDefined v w → SameVal IsDefined a b → SameVal IsDefined (on_two at f v a) (on_two at g w b)
  two_same at f g (undefined_value p) w a b h q r = λ o. absurd o
  two_same at f g (value x t) w (undefined_value p) b h q r = λ o. absurd o
  two_same at f g (value x t) w (value y u) b h q r =
      subst (λ i. SameVal IsDefined (after_turns at (t + u) (f x y)) (on_two at g i b)) (sym q)
      (subst (λ i. SameVal IsDefined (after_turns at (t + u) (f x y)) (on_two at g (value x t) i)) (sym r) (after_same IsDefined defined_rule at (t + u) (f x y) (g x y) (h x y)))

  truth_same : (v w : Val) → SameVal IsDefined v w → SameVal IsDefined (as_truth v) (as_truth w)
  truth_same (undefined_value p) w q = λ o. absurd o
  truth_same (value x t) w q = ap as_truth q

  one_same : (t : Bool) (a b c d : Meaning) → SameMeaning IsDefined a b → SameMeaning IsDefined c d → SameMeaning IsDefined (one_of t a c) (one_of t b d)
  one_same true a b c d g h s = g s
  one_same false a b c d g h s = h s

  chosen_same : (v w : Val) (a b c d : Meaning) (s : Store) → SameVal IsDefined v w → SameMeaning IsDefined a b → SameMeaning IsDefined c d → SameVal IsDefined (chosen v a c s) (chosen w b d s)
  chosen_same (undefined_value p) w a b c d s q g h = λ o. absurd o
  chosen_same (value x t) w a b c d s q g h =
      subst (λ i. SameVal IsDefined (later (t + 1) (one_of (is_zero x) c a s)) (chosen i b d s)) (sym q)
      (later_same IsDefined defined_rule (t + 1) (one_of (is_zero x) c a s) (one_of (is_zero x) d b s) (one_same (is_zero x) c d a b h g s))

  always_same : (z : ℤ) → SameMeaning IsDefined (always z) (always z)
  always_same z s = refl

  element_same : (k l : Objects) (at : Span) (s : Store) (a : ℕ) (vs ws : Vals) → k.arrays ≡ l.arrays → SameVals IsDefined vs ws → SameVal IsDefined (element k at s a vs) (element l at s a ws)
  element_same k l at s a (undefined_values p) ws e q = λ o. absurd o
  element_same k l at s a (values is t) ws e q =
      subst (λ u. SameVal IsDefined (after_turns at t (element_at s a (place k.arrays a is))) (element l at s a u)) (sym q)
      (subst (λ u. SameVal IsDefined (after_turns at t (element_at s a (place k.arrays a is))) (after_turns at t (element_at s a (place u a is)))) e
      (same_val IsDefined (after_turns at t (element_at s a (place k.arrays a is)))))

  binary_same : (o : Binary) (t : Ty) (at : Span) (a b c d : Meaning) → SameMeaning IsDefined a b → SameMeaning IsDefined c d → SameMeaning IsDefined (binary_meaning Plain o t at a c) (binary_meaning Wrap o t at b d)
  binary_same op.Both t at a b c d g h s = chosen_same (a s) (b s) (λ s. as_truth (c s)) (λ s. as_truth (d s)) (always (pos 0)) (always (pos 0)) s (g s) (λ s. truth_same (c s) (d s) (h s)) (always_same (pos 0))
  binary_same op.Either t at a b c d g h s = chosen_same (a s) (b s) (always (pos 1)) (always (pos 1)) (λ s. as_truth (c s)) (λ s. as_truth (d s)) s (g s) (always_same (pos 1)) (λ s. truth_same (c s) (d s) (h s))
  binary_same o t at a b c d g h s = two_same at (binary_value Plain o t) (binary_value Wrap o t) (a s) (b s) (c s) (d s) (operators_agree o t at) (g s) (h s)

  -- ---- whole trees

  module _ (vars : List Ty) (arrays : List ArrayOf) where
    abbrev plainly : Objects
    plainly = record { profile = Plain; vars = vars; arrays = arrays }

    abbrev wrapping : Objects
    wrapping = record { profile = Wrap; vars = vars; arrays = arrays }

    mutual
      kind_same : (e : TypedExprKind) (t : Ty) (at : Span) → SameMeaning IsDefined (kind_meaning plainly e t at) (kind_meaning wrapping e t at)
      kind_same (tree.Number n) t at s = refl
      kind_same (tree.Var v) t at s = same_val IsDefined (after_turns at 0 (read_var s v))
      kind_same (tree.Element' a n row) t at s =
          let ms = row_meanings plainly row in
          let ns = row_meanings wrapping row in
          element_same plainly wrapping at s a (all_values ms s) (all_values ns s) refl (all_same IsDefined defined_rule ms ns s (row_same row))
      kind_same (tree.Unary' o b (more_of-TypedExpr e u at2 end_of-TypedExpr)) t at s =
          on_one_same IsDefined defined_rule at (unary_value Plain o t) (unary_value Wrap o t) (kind_meaning plainly e u at2 s) (kind_meaning wrapping e u at2 s) (unary_agree o t at) (kind_same e u at2 s)
      kind_same (tree.Cast' implied b (more_of-TypedExpr e u at2 end_of-TypedExpr)) t at s =
          on_one_same IsDefined defined_rule at (λ x. Some (conv t x)) (λ x. Some (conv t x)) (kind_meaning plainly e u at2 s) (kind_meaning wrapping e u at2 s) (λ x. refl) (kind_same e u at2 s)
      kind_same (tree.Binary' o b (more_of-TypedExpr e u at2 end_of-TypedExpr) b3 (more_of-TypedExpr e3 u3 at3 end_of-TypedExpr)) t at s =
          binary_same o t at (kind_meaning plainly e u at2) (kind_meaning wrapping e u at2) (kind_meaning plainly e3 u3 at3) (kind_meaning wrapping e3 u3 at3) (kind_same e u at2) (kind_same e3 u3 at3) s
      kind_same (tree.Choose' b (more_of-TypedExpr e u at2 end_of-TypedExpr) b3 (more_of-TypedExpr e3 u3 at3 end_of-TypedExpr) b4 (more_of-TypedExpr e4 u4 at4 end_of-TypedExpr)) t at s =
          chosen_same (kind_meaning plainly e u at2 s) (kind_meaning wrapping e u at2 s) (kind_meaning plainly e3 u3 at3) (kind_meaning wrapping e3 u3 at3) (kind_meaning plainly e4 u4 at4) (kind_meaning wrapping e4 u4 at4) s
          (kind_same e u at2 s) (kind_same e3 u3 at3) (kind_same e4 u4 at4)

      row_same : {n : Count} (row : Row_of-TypedExpr n) → SameMeanings IsDefined (row_meanings plainly row) (row_meanings wrapping row)
      row_same end_of-TypedExpr = tt
      row_same (more_of-TypedExpr e t at row) = (kind_same e t at, row_same row)

    pub expressions_agree : (e : TypedExpr) → SameMeaning IsDefined (meaning plainly e) (meaning wrapping e)
    expressions_agree e = kind_same e.kind e.ty e.at
