-- An expression of the kernel means the same over the objects of the normal form, and in stores that match; operators that evaluate both operands, and those that do not.
use Rattle.std.proofs.Common.{◌≡◌, ℕ, ◌+◌, ◌≤◌, List, [], ◌∷◌, ◌++◌, length, get_or, Some, None, refl, sym, ◌∙◌, ap, subst, arith, length-append}
use Rattle.std.specs.Prelude.{Bool, true, false, not, ℤ, pos}
use mathlib.Core.Former.{Count}
use Rattle.el_base.specs.declared.span.Span.{Span}
use Rattle.el_base.specs.declared.ty.Ty.{Ty}
use Rattle.el_base.specs.declared.ty.Ty.TheVariants.{I32}
use Rattle.el_base.proofs.PatternLemmas.{number-pattern}
use Rattle.c_ast.specs.Casts.{of_type}
use Rattle.c_ast.specs.declared.tree.Binary.{Binary}
use Rattle.c_ast.specs.declared.tree.Binary.TheVariants.{Both, Either}
use Rattle.c_ast.specs.declared.typed.TypedExprKind.{TypedExprKind, Row_of-TypedExpr, end_of-TypedExpr, more_of-TypedExpr}
use Rattle.c_ast.specs.declared.typed.TypedExprKind as tree
use Rattle.c_ast.specs.declared.typed.TypedExprKind.TheOpen.{Element, Unary, Cast, Binary as BinaryPart, Choose}
use Rattle.c_ast.specs.ResultTypes.{result_type}
use Rattle.c_meaning.specs.declared.profile.Profile.{Profile}
use Rattle.c_meaning.specs.Types.{conv}
use Rattle.c_meaning.specs.Operators.{is_zero, truth, binary_value}
use Rattle.c_meaning.specs.Stores.{Store, Objects}
use Rattle.c_meaning.specs.Expressions.{Val, undefined_value, value, Meaning, kind_meaning, row_meanings, val_step, binary_meaning, on_two, chosen, as_truth, always, later, one_of}
use Rattle.c_meaning.specs.Lawful.{LawfulKind}
use Rattle.c_meaning.specs.Ranges.{ValuesFit}
use Rattle.c_meaning.proofs.ReadLemmas.{agreeing, listed}
use Rattle.c_meaning.proofs.ValueParts.{value_one, value_two}
use Rattle.c_norm.specs.Expand.{decided_by}
use Rattle.c_norm.proofs.Stores.{Matches}
use Rattle.c_norm.proofs.Expands.{Expands, Same}
use Rattle.c_norm.proofs.Costs.{operator_cost}

-- the objects of the normal form: the kernel's, with other variables
abbrev pub wide : Objects → List Ty → Objects
wide k ws = record { profile = k.profile; vars = ws; arrays = k.arrays }

mutual
  pub same_kind : (k : Objects) (ws : List Ty) (e : TypedExprKind) → kind_meaning (wide k ws) e ≡ kind_meaning k e
  same_kind k ws (tree.Number n) = refl
  same_kind k ws (tree.Var v) = refl
  same_kind k ws (tree.Element' a n row) = ap (λ ms. val_step k (Element a ms)) (same_row k ws row)
  same_kind k ws (tree.Unary' op b (more_of-TypedExpr e t at end_of-TypedExpr)) = ap (λ m. val_step k (Unary op (m t at))) (same_kind k ws e)
  same_kind k ws (tree.Cast' implied b (more_of-TypedExpr e t at end_of-TypedExpr)) = ap (λ m. val_step k (Cast implied (m t at))) (same_kind k ws e)
  same_kind k ws (tree.Binary' op b (more_of-TypedExpr e t at end_of-TypedExpr) b2 (more_of-TypedExpr e2 t2 at2 end_of-TypedExpr)) =
      ap (λ m. val_step k (BinaryPart op (m t at) (kind_meaning (wide k ws) e2 t2 at2))) (same_kind k ws e) ∙ ap (λ m. val_step k (BinaryPart op (kind_meaning k e t at) (m t2 at2))) (same_kind k ws e2)
  same_kind k ws (tree.Choose' b (more_of-TypedExpr e t at end_of-TypedExpr) b2 (more_of-TypedExpr e2 t2 at2 end_of-TypedExpr) b3 (more_of-TypedExpr e3 t3 at3 end_of-TypedExpr)) =
      ap (λ m. val_step k (Choose (m t at) (kind_meaning (wide k ws) e2 t2 at2) (kind_meaning (wide k ws) e3 t3 at3))) (same_kind k ws e)
      ∙ ap (λ m. val_step k (Choose (kind_meaning k e t at) (m t2 at2) (kind_meaning (wide k ws) e3 t3 at3))) (same_kind k ws e2)
      ∙ ap (λ m. val_step k (Choose (kind_meaning k e t at) (kind_meaning k e2 t2 at2) (m t3 at3))) (same_kind k ws e3)

  same_row : (k : Objects) (ws : List Ty) {n : Count} (row : Row_of-TypedExpr n) → row_meanings (wide k ws) row ≡ row_meanings k row
  same_row k ws end_of-TypedExpr = refl
  same_row k ws (more_of-TypedExpr e t at row) = ap (λ m. m t at ∷ row_meanings (wide k ws) row) (same_kind k ws e) ∙ ap (λ ms. kind_meaning k e t at ∷ ms) (same_row k ws row)

-- a lawful expression means the same in a store of the normal form that matches
pub whole_same : (k : Objects) (ws : List Ty) (e : TypedExprKind) (ty : Ty) (at : Span) → LawfulKind k e ty → Same k (length ws) (kind_meaning k e ty at) (kind_meaning (wide k ws) e ty at)
whole_same k ws e ty at h s r m =
    ap (λ f. f ty at r) (same_kind k ws e) ∙ sym (agreeing k (of_type e ty at) s r (record { vars = λ v c. m.vars v (listed k (of_type e ty at) v h c); arrays = m.arrays }))

-- its value is its own conversion
pub value_kept : (k : Objects) (all : ℕ) → ValuesFit → (e : TypedExprKind) (ty : Ty) (at : Span) → LawfulKind k e ty → (s r : Store) (x : ℤ) (u : ℕ) → Matches k all s r → kind_meaning k e ty at s ≡ value x u → conv ty x ≡ x
value_kept k all fit e ty at h s r x u m i = number-pattern ty x (fit k s (of_type e ty at) x u m.fits h i)

-- ---- operators

no_decision : {A : Type 0} (d : Bool) → Some d ≡ None → A
no_decision d e = absurd (cc)

pub joins : (p : Profile) (op : Binary) (ty : Ty) (at : Span) (a b : Meaning) → decided_by op ≡ None → binary_meaning p op ty at a b ≡ (λ s. on_two at (binary_value p op ty) (a s) (b s))
joins p Both ty at a b e = no_decision false e
joins p Either ty at a b e = no_decision true e
joins p op ty at a b e = refl

-- the two sides of a choice for && and for ||, over the truth of the right operand
abbrev pub yes_side : Bool → Meaning → Meaning
yes_side false b s = as_truth (b s)
yes_side true b s = value (pos 1) 0

abbrev pub no_side : Bool → Meaning → Meaning
no_side false b s = value (pos 0) 0
no_side true b s = as_truth (b s)

-- an operator that may be decided by its left operand
pub record Logical (p : Profile) (op : Binary) (d : Bool) : Type 0 where
  pub means : (ty : Ty) (at : Span) (a b : Meaning) → binary_meaning p op ty at a b ≡ (λ s. chosen (a s) (yes_side d b) (no_side d b) s)
  pub cost : operator_cost op ≡ 13
  pub type : (j : Ty) → result_type op j ≡ I32

none_decides : {A : Type 0} (d : Bool) → None ≡ Some d → A
none_decides d e = absurd (cc)

both_logical : (p : Profile) (d : Bool) → Some false ≡ Some d → Logical p Both d
both_logical p false e = record { means = λ ty at a b. refl; cost = refl; type = λ j. refl }
both_logical p true e = absurd (cc)

either_logical : (p : Profile) (d : Bool) → Some true ≡ Some d → Logical p Either d
either_logical p false e = absurd (cc)
either_logical p true e = record { means = λ ty at a b. refl; cost = refl; type = λ j. refl }

pub decides : (p : Profile) (op : Binary) (d : Bool) → decided_by op ≡ Some d → Logical p op d
decides p Both d e = both_logical p d e
decides p Either d e = either_logical p d e
decides p op d e = none_decides d e

-- ---- truth values

pub truth_kept : (b : Bool) → conv I32 (truth b) ≡ truth b
truth_kept true = refl
truth_kept false = refl

-- the number behind a truth value
pub record Truth (v : Val) (x : ℤ) (u : ℕ) : Type 0 where
  pub z : ℤ
  pub is : v ≡ value z u
  pub number : truth (not (is_zero z)) ≡ x

pub truth_from : (v : Val) (x : ℤ) (u : ℕ) → as_truth v ≡ value x u → Truth v x u
truth_from (undefined_value p) x u e = absurd (cc)
truth_from (value z t) x u e = record { z = z; is = ap (value z) (value_two (truth (not (is_zero z))) x t u e); number = value_one (truth (not (is_zero z))) x t u e }

one_or_zero : (b : Bool) (r : Store) → one_of b (always (pos 0)) (always (pos 1)) r ≡ value (truth (not b)) 0
one_or_zero true r = refl
one_or_zero false r = refl

-- ?: with 1 and 0 gives the truth of its condition
pub truth_expands : (k : Objects) (all f g p : ℕ) (b b2 : Meaning) (parts : _) → Expands k all f g b parts b2 p → Expands k all f g (λ s. as_truth (b s)) parts (λ s. chosen (b2 s) (always (pos 1)) (always (pos 0)) s) p
truth_expands k all f g p b b2 parts eb = record {
  own = eb.own;
  more = eb.more;
  does = λ s t x u h e.
      let o = truth_from (b s) x u e in
      let d = eb.does s t o.z u h o.is in
      record {
        last = d.last;
        turns = d.turns;
        jumps = d.jumps;
        price = d.price;
        takes = d.takes;
        kept = d.kept;
        stays = λ r w.
            let y = d.stays r w in
            record { turns = y.turns + 1 + 0; is = ap (λ z. chosen z (always (pos 1)) (always (pos 0)) r) y.is ∙ ap (later (y.turns + 1)) (one_or_zero (is_zero o.z) r) ∙ ap (λ z. value z (y.turns + 1 + 0)) o.number };
        few = d.few;
        cheap = d.cheap;
      };
}

-- ---- the types of the variables that are made

abbrev pub TypesAt : List Ty → ℕ → List Ty → Type 0
TypesAt ws f [] = Unit {0}
TypesAt ws f (t ∷ ts) = (get_or ws f I32 ≡ t) × TypesAt ws (f + 1) ts

-- variables from f on have these types
pub record Room (ws : List Ty) (f : ℕ) (ts : List Ty) : Type 0 where
  pub types : TypesAt ws f ts
  pub within : f + length ts ≤ length ws

types_split : (ws : List Ty) (f : ℕ) (xs ys : List Ty) → TypesAt ws f (xs ++ ys) → TypesAt ws f xs × TypesAt ws (f + length xs) ys
types_split ws f [] ys h = let e : f ≡ f + 0 = omega arith in (tt, subst (λ i. TypesAt ws i ys) e h)
types_split ws f (t ∷ xs) ys h =
    let i = types_split ws (f + 1) xs ys h.1 in
    let e : f + 1 + length xs ≡ f + length (t ∷ xs) = omega arith in
    ((h.0, i.0), subst (λ j. TypesAt ws j ys) e i.1)

pub room_left : (ws : List Ty) (f : ℕ) (xs ys : List Ty) → Room ws f (xs ++ ys) → Room ws f xs
room_left ws f xs ys h = record { types = (types_split ws f xs ys h.types).0; within = let e = length-append xs ys in let w = h.within in omega arith }

pub room_right : (ws : List Ty) (f : ℕ) (xs ys : List Ty) → Room ws f (xs ++ ys) → Room ws (f + length xs) ys
room_right ws f xs ys h = record { types = (types_split ws f xs ys h.types).1; within = let e = length-append xs ys in let w = h.within in omega arith }
