-- Answers of expressions by those of their parts.
use Rattle.std.proofs.Common.{◌≡◌, ℕ, ◌+◌, ◌^◌, ◌<◌, List, map, length, Option, Some, None, refl, sym, ◌∙◌, ap, subst, arith}
use Rattle.std.specs.Prelude.{Bool, true, false, pos, ◌==◌, if◌then◌else◌}
use Rattle.std.proofs.lemmas.Int.{ints}
use denote.Hole.Carrier.{hidden}
use Rattle.el_base.specs.declared.span.Span.{Span}
use Rattle.el_base.specs.declared.ty.Ty.{Ty}
use Rattle.el_base.specs.declared.ty.Ty.TheVariants.{U8, U16, I32, U32, U64}
use Rattle.el_base.specs.Numbers.{number, IsInRange}
use Rattle.el_base.specs.Widths.{ty_width}
use Rattle.c_ast.specs.declared.tree.Unary.{Unary}
use Rattle.c_ast.specs.declared.tree.Unary.TheVariants.{Plus}
use Rattle.c_ast.specs.declared.tree.Binary.{Binary}
use Rattle.c_ast.specs.declared.tree.Binary.TheVariants.{Mul, Both, Either}
use Rattle.c_ast.specs.declared.tree.Family.{Family}
use Rattle.c_ast.specs.declared.tree.Family.TheVariants.{Shift, Logical}
use Rattle.c_ast.specs.ResultTypes.{promoted, usual, family, joint_of_family, result_of_family, result_type, unary_type}
use Rattle.c_ast.specs.Casts.{left_of_family, right_of_family}
use Rattle.c_ast.specs.declared.typed.TypedExpr.{TypedExpr}
use Rattle.c_ast.specs.declared.typed.TypedExprKind.{TypedExprKind}
use Rattle.c_ast.specs.declared.typed.TypedExprKind.TheVariants as expr
use Rattle.c_ast.specs.declared.typed.TypedExprKind.TheBlock.{shape-the_row-TypedExpr-0, hidden-the_row-TypedExpr-0, shape-the_row-TypedExpr-1, hidden-the_row-TypedExpr-1}
use Rattle.c_meaning.specs.declared.profile.Profile.{Profile}
use Rattle.c_meaning.proofs.TypeLemmas.{promoted_usual}
use Rattle.c_meaning.specs.Types.{conv}
use Rattle.c_meaning.specs.Operators.{unary_value, binary_value}
use Rattle.c_meaning.specs.Patterns.{conversion_op, converted_by}
use Rattle.c_meaning.specs.Stores.{Store, Objects, read_var, place}
use Rattle.c_meaning.specs.Expressions.{Val, undefined_value, value, Vals, undefined_values, values, Meaning, element_at, after_turns, on_one, on_two, as_truth, chosen, always, element, all_values, kind_meaning, meaning}
use Rattle.c_ast.specs.declared.typed.Object.TheVariants as object
use Rattle.c_meaning.specs.Statements.{place_by, placed_after, element_place}
use Rattle.c_meaning.specs.Lawful.{LawfulKind, LawfulExpr, IsVar, AreOperands, AreSides}
use Rattle.ref_interp.specs.declared.cells.Cells.{Cells}
use Rattle.ref_interp.specs.declared.cells.Trace.{Trace}
use Rattle.ref_interp.specs.Answers.{most, plus_turns, Gives, Answered, Answers}
use Rattle.ref_interp.specs.Cells.{store_of}
use Rattle.ref_interp.specs.Evaluations.{IsReady, EvalGives, UnaryGives, StrictGives, PlaceGives, ElementGives, element_of}
use Rattle.ref_interp.specs.Laws.{PatternLaws}
use Rattle.ref_interp.specs.Operators.{IsRightIn, IsRightType}
use Rattle.ref_interp.proofs.Values.{failed_is, gives_is, fails, gives, answers_as, first_answers, second_answers, truth_answers, always_gives}

-- ---- types

-- the types of operands that are both evaluated
pub record OperandTypes (op : Binary) (a b t : Ty) : Type 0 where
  pub left : a ≡ promoted a
  pub same : IsRightType op a b
  pub result : t ≡ result_type op a

-- where both are of the usual type
usual_types : (a b c : Ty) → c ≡ promoted c → a ≡ c → b ≡ c → (a ≡ promoted a) × (b ≡ promoted b) × (b ≡ a)
usual_types a b c p e f = (subst (λ x. x ≡ promoted x) (sym e) p, subst (λ x. x ≡ promoted x) (sym f) p, f ∙ sym e)

types_in : (f : Family) (a b t : Ty) → ¬ (f ≡ Logical) → (a ≡ left_of_family f a b) × (b ≡ right_of_family f a b) × (t ≡ result_of_family f (joint_of_family f a b))
    → (a ≡ promoted a) × IsRightIn f a b × (t ≡ result_of_family f a)
types_in Shift a b t n h = (h.0, h.1, h.2 ∙ sym h.0)
types_in Logical a b t n h = absurd (n refl)
types_in f a b t n h =
    let u = usual_types a b (usual a b) (sym (promoted_usual a b)) h.0 h.1 in
    (u.0, u.2, h.2 ∙ ap (result_of_family f) (sym h.0))

not_logical : (op : Binary) → (op ≡ Both → ⊥) → (op ≡ Either → ⊥) → ¬ (family op ≡ Logical)
not_logical Both n m e = n refl
not_logical Either n m e = m refl
not_logical op n m e = cc

pub operand_types : (op : Binary) (a b t : Ty) → (op ≡ Both → ⊥) → (op ≡ Either → ⊥) → AreOperands op a b t → OperandTypes op a b t
operand_types op a b t n m h = let u = types_in (family op) a b t (not_logical op n m) h in record { left = u.0; same = u.1; result = u.2 }

-- an operator means the same in the type of its operands as in that of its result
pub same_unary : (p : Profile) (op : Unary) (t : Ty) → unary_value p op (unary_type op t) ≡ unary_value p op t
same_unary p Plus t = refl
same_unary p op t = refl

pub same_binary : (p : Profile) (op : Binary) (t : Ty) → binary_value p op (result_type op t) ≡ binary_value p op t
same_binary p Mul t = refl
same_binary p op t = refl

-- ---- what an expression of a kind means

means_number : (k : Objects) (kind : TypedExprKind) (t : Ty) (at : Span) (s : Store) (n : ℕ) → kind ≡ expr.Number n → kind_meaning k kind t at s ≡ value (pos n) 0
unfolding shape-the_row-TypedExpr-0 hidden-the_row-TypedExpr-0 shape-the_row-TypedExpr-1 hidden-the_row-TypedExpr-1 hidden
means_number k kind t at s n is = ap (λ x. kind_meaning k x t at s) is

means_var : (k : Objects) (kind : TypedExprKind) (t : Ty) (at : Span) (s : Store) (v : ℕ) → kind ≡ expr.Var v → kind_meaning k kind t at s ≡ after_turns at 0 (read_var s v)
unfolding shape-the_row-TypedExpr-0 hidden-the_row-TypedExpr-0 shape-the_row-TypedExpr-1 hidden-the_row-TypedExpr-1 hidden
means_var k kind t at s v is = ap (λ x. kind_meaning k x t at s) is

pub means_unary : (k : Objects) (kind : TypedExprKind) (t : Ty) (at : Span) (s : Store) (op : Unary) (a : TypedExpr) → kind ≡ expr.Unary op a → kind_meaning k kind t at s ≡ on_one at (unary_value k.profile op t) (meaning k a s)
unfolding shape-the_row-TypedExpr-0 hidden-the_row-TypedExpr-0 shape-the_row-TypedExpr-1 hidden-the_row-TypedExpr-1 hidden
means_unary k kind t at s op a is = ap (λ x. kind_meaning k x t at s) is

means_cast : (k : Objects) (kind : TypedExprKind) (t : Ty) (at : Span) (s : Store) (i : Bool) (a : TypedExpr) → kind ≡ expr.Cast i a → kind_meaning k kind t at s ≡ on_one at (λ x. Some (conv t x)) (meaning k a s)
unfolding shape-the_row-TypedExpr-0 hidden-the_row-TypedExpr-0 shape-the_row-TypedExpr-1 hidden-the_row-TypedExpr-1 hidden
means_cast k kind t at s i a is = ap (λ x. kind_meaning k x t at s) is

-- both operands are evaluated
joins_both : (k : Objects) (op : Binary) (t : Ty) (at : Span) (s : Store) (a b : TypedExpr) → (op ≡ Both → ⊥) → (op ≡ Either → ⊥) → kind_meaning k (expr.Binary op a b) t at s ≡ on_two at (binary_value k.profile op t) (meaning k a s) (meaning k b s)
unfolding shape-the_row-TypedExpr-0 hidden-the_row-TypedExpr-0 shape-the_row-TypedExpr-1 hidden-the_row-TypedExpr-1 hidden
joins_both k Both t at s a b n m = absurd (n refl)
joins_both k Either t at s a b n m = absurd (m refl)
joins_both k op t at s a b n m = refl

pub means_strict : (k : Objects) (kind : TypedExprKind) (t : Ty) (at : Span) (s : Store) (op : Binary) (a b : TypedExpr) → kind ≡ expr.Binary op a b → (op ≡ Both → ⊥) → (op ≡ Either → ⊥)
    → kind_meaning k kind t at s ≡ on_two at (binary_value k.profile op t) (meaning k a s) (meaning k b s)
means_strict k kind t at s op a b is n m = ap (λ x. kind_meaning k x t at s) is ∙ joins_both k op t at s a b n m

means_both : (k : Objects) (kind : TypedExprKind) (t : Ty) (at : Span) (s : Store) (a b : TypedExpr) → kind ≡ expr.Binary Both a b
    → kind_meaning k kind t at s ≡ chosen (meaning k a s) (λ s. as_truth (meaning k b s)) (always (pos 0)) s
unfolding shape-the_row-TypedExpr-0 hidden-the_row-TypedExpr-0 shape-the_row-TypedExpr-1 hidden-the_row-TypedExpr-1 hidden
means_both k kind t at s a b is = ap (λ x. kind_meaning k x t at s) is

means_either : (k : Objects) (kind : TypedExprKind) (t : Ty) (at : Span) (s : Store) (a b : TypedExpr) → kind ≡ expr.Binary Either a b
    → kind_meaning k kind t at s ≡ chosen (meaning k a s) (always (pos 1)) (λ s. as_truth (meaning k b s)) s
unfolding shape-the_row-TypedExpr-0 hidden-the_row-TypedExpr-0 shape-the_row-TypedExpr-1 hidden-the_row-TypedExpr-1 hidden
means_either k kind t at s a b is = ap (λ x. kind_meaning k x t at s) is

means_choice : (k : Objects) (kind : TypedExprKind) (t : Ty) (at : Span) (s : Store) (c a b : TypedExpr) → kind ≡ expr.Choose c a b
    → kind_meaning k kind t at s ≡ chosen (meaning k c s) (meaning k a) (meaning k b) s
unfolding shape-the_row-TypedExpr-0 hidden-the_row-TypedExpr-0 shape-the_row-TypedExpr-1 hidden-the_row-TypedExpr-1 hidden
means_choice k kind t at s c a b is = ap (λ x. kind_meaning k x t at s) is

-- ---- what is lawful of the parts

number_lawful : (k : Objects) (kind : TypedExprKind) (t : Ty) (n : ℕ) → kind ≡ expr.Number n → LawfulKind k kind t → IsInRange t (pos n)
unfolding shape-the_row-TypedExpr-0 hidden-the_row-TypedExpr-0 shape-the_row-TypedExpr-1 hidden-the_row-TypedExpr-1 hidden
number_lawful k kind t n is h = subst (λ x. LawfulKind k x t) is h

var_lawful : (k : Objects) (kind : TypedExprKind) (t : Ty) (v : ℕ) → kind ≡ expr.Var v → LawfulKind k kind t → IsVar k v t
unfolding shape-the_row-TypedExpr-0 hidden-the_row-TypedExpr-0 shape-the_row-TypedExpr-1 hidden-the_row-TypedExpr-1 hidden
var_lawful k kind t v is h = subst (λ x. LawfulKind k x t) is h

unary_lawful : (k : Objects) (kind : TypedExprKind) (t : Ty) (op : Unary) (a : TypedExpr) → kind ≡ expr.Unary op a → LawfulKind k kind t → (a.ty ≡ promoted a.ty) × (t ≡ unary_type op a.ty) × LawfulExpr k a
unfolding shape-the_row-TypedExpr-0 hidden-the_row-TypedExpr-0 shape-the_row-TypedExpr-1 hidden-the_row-TypedExpr-1 hidden
unary_lawful k kind t op a is h = subst (λ x. LawfulKind k x t) is h

cast_lawful : (k : Objects) (kind : TypedExprKind) (t : Ty) (i : Bool) (a : TypedExpr) → kind ≡ expr.Cast i a → LawfulKind k kind t → LawfulExpr k a
unfolding shape-the_row-TypedExpr-0 hidden-the_row-TypedExpr-0 shape-the_row-TypedExpr-1 hidden-the_row-TypedExpr-1 hidden
cast_lawful k kind t i a is h = (subst (λ x. LawfulKind k x t) is h).1

pub binary_lawful : (k : Objects) (kind : TypedExprKind) (t : Ty) (op : Binary) (a b : TypedExpr) → kind ≡ expr.Binary op a b → LawfulKind k kind t → AreOperands op a.ty b.ty t × LawfulExpr k a × LawfulExpr k b
unfolding shape-the_row-TypedExpr-0 hidden-the_row-TypedExpr-0 shape-the_row-TypedExpr-1 hidden-the_row-TypedExpr-1 hidden
binary_lawful k kind t op a b is h = subst (λ x. LawfulKind k x t) is h

choice_lawful : (k : Objects) (kind : TypedExprKind) (t : Ty) (c a b : TypedExpr) → kind ≡ expr.Choose c a b → LawfulKind k kind t → AreSides a.ty b.ty t × LawfulExpr k c × LawfulExpr k a × LawfulExpr k b
unfolding shape-the_row-TypedExpr-0 hidden-the_row-TypedExpr-0 shape-the_row-TypedExpr-1 hidden-the_row-TypedExpr-1 hidden
choice_lawful k kind t c a b is h = subst (λ x. LawfulKind k x t) is h

-- ---- a number

small_number : (t : Ty) (n : ℕ) → IsInRange t (pos n) → (number t n ≡ pos n) × (n < 2 ^ ty_width t)
small_number U8 n h = let a = h.below in (refl, grind (arith, ints))
small_number U16 n h = let a = h.below in (refl, grind (arith, ints))
small_number U32 n h = let a = h.below in (refl, grind (arith, ints))
small_number U64 n h = let a = h.below in (refl, grind (arith, ints))
small_number t n h = let a = h.below in (grind (arith, ints), grind (arith, ints))

pub number_answers : (k : Objects) (c : Cells) (kind : TypedExprKind) (t : Ty) (at : Span) (old : Trace) (n : ℕ) → kind ≡ expr.Number n → LawfulKind k kind t → IsReady k c old → Answers t (kind_meaning k kind t at (store_of k c)) old old n
number_answers k c kind t at old n is h q =
    let few = q.few in
    let s = small_number t n (number_lawful k kind t n is h) in
    gives old.failed t _ old.turns n old q.clear (record {
      turns = 0;
      is = means_number k kind t at (store_of k c) n is ∙ ap (λ z. value z 0) (sym s.0);
      below = s.1;
      used = omega arith;
    })

pub var_answers : (k : Objects) (c : Cells) (kind : TypedExprKind) (t : Ty) (at : Span) (old new : Trace) (v r : ℕ) → kind ≡ expr.Var v → LawfulKind k kind t → ((t : Ty) → IsVar k v t → Answers t (after_turns at 0 (read_var (store_of k c) v)) old new r) → Answers t (kind_meaning k kind t at (store_of k c)) old new r
var_answers k c kind t at old new v r is h f =
    answers_as new.failed t t _ _ old.turns r new refl (means_var k kind t at (store_of k c) v is) (f t (var_lawful k kind t v is h))

-- ---- one operand

pub unary_answers : (k : Objects) (c : Cells) (kind : TypedExprKind) (t : Ty) (at : Span) (op : Unary) (a x : TypedExpr) (old mid new : Trace) (p r : ℕ)
    → kind ≡ expr.Unary op a → x ≡ a → LawfulKind k kind t → IsReady k c old → EvalGives k c x old mid p → UnaryGives k.profile op x.ty at p mid new r → Answers t (kind_meaning k kind t at (store_of k c)) old new r
unary_answers k c kind t at op a x old mid new p r is same h q ev un =
    let is2 : kind ≡ expr.Unary op x = is ∙ ap (λ a. expr.Unary op a) (sym same) in
    let l = unary_lawful k kind t op x is2 h in
    let s = store_of k c in
    let v = meaning k x s in
    answers_as new.failed (unary_type op x.ty) t (on_one at (unary_value k.profile op x.ty) v) _ old.turns r new l.1
    (means_unary k kind t at s op x is2 ∙ ap (λ t. on_one at (unary_value k.profile op t) v) l.1 ∙ ap (λ f. on_one at f v) (same_unary k.profile op x.ty))
    (un v old.turns q.laws l.0 (ev l.2 q))

cast_gives : (t u : Ty) (at : Span) (v : Val) (x m o : ℕ) → PatternLaws → Gives t x m o v → Gives u (converted_by (conversion_op t u) x) m o (on_one at (λ x. Some (conv u x)) v)
cast_gives t u at v x m o laws g =
    let c = laws.converts t u x g.below in
    record { turns = g.turns; is = ap (on_one at (λ x. Some (conv u x))) g.is ∙ ap (λ z. value z g.turns) (sym c.0); below = c.1; used = g.used }

pub cast_answers : (k : Objects) (c : Cells) (kind : TypedExprKind) (t : Ty) (at : Span) (i : Bool) (a x : TypedExpr) (old new : Trace) (p r : ℕ)
    → kind ≡ expr.Cast i a → x ≡ a → LawfulKind k kind t → IsReady k c old → EvalGives k c x old new p → r ≡ converted_by (conversion_op x.ty t) p → Answers t (kind_meaning k kind t at (store_of k c)) old new r
cast_answers k c kind t at i a x old new p r is same h q ev e = by_cases new.failed refl
  where
    is2 : kind ≡ expr.Cast i x
    is2 = is ∙ ap (λ a. expr.Cast i a) (sym same)

    v : Val
    v = meaning k x (store_of k c)

    it : Answered new.failed x.ty (meaning k x (store_of k c)) old.turns new p
    it = ev (cast_lawful k kind t i x is2 h) q

    by_cases : (f : Bool) → new.failed ≡ f → Answers t (kind_meaning k kind t at (store_of k c)) old new r
    by_cases true f = fails new.failed t _ old.turns r new f (means_cast k kind t at (store_of k c) i x is2 ∙ ap (on_one at (λ x. Some (conv t x))) (failed_is new.failed x.ty _ old.turns p new f it))
    by_cases false f = gives new.failed t _ old.turns r new f (subst (λ r. Gives t r old.turns new.turns (kind_meaning k kind t at (store_of k c))) (sym e) (subst (Gives t (converted_by (conversion_op x.ty t) p) old.turns new.turns) (sym (means_cast k kind t at (store_of k c) i x is2))
        (cast_gives x.ty t at (meaning k x (store_of k c)) p old.turns new.turns q.laws (gives_is new.failed x.ty _ old.turns p new f it))))

-- ---- two operands

-- after a value nothing has failed
pub ready_after : (k : Objects) (c : Cells) (t : Ty) (v : Val) (old mid : Trace) (p : ℕ) → IsReady k c old → mid.failed ≡ false → Gives t p old.turns mid.turns v → IsReady k c mid
ready_after k c t v old mid p q clear g = record { laws = q.laws; cells = q.cells; clear = clear; few = (let h = g.used in omega arith) }

-- after a turn nothing has failed
pub still_ready : (k : Objects) (c : Cells) (mid last : Trace) → IsReady k c mid → last.turns ≡ plus_turns mid.turns 1 → last.failed ≡ mid.failed → IsReady k c last
still_ready k c mid last q tu e = record { laws = q.laws; cells = q.cells; clear = e ∙ q.clear; few = omega arith }

-- what is used of the first one where it did not fail
pub first_gives : (k : Objects) (c : Cells) (kind : TypedExprKind) (t : Ty) (op : Binary) (a b x y : TypedExpr) (old mid : Trace) (p : ℕ)
    → kind ≡ expr.Binary op a b → x ≡ a → y ≡ b → LawfulKind k kind t → IsReady k c old → EvalGives k c x old mid p → mid.failed ≡ false
    → Gives x.ty p old.turns mid.turns (meaning k x (store_of k c)) × IsReady k c mid × (kind ≡ expr.Binary op x y) × AreOperands op x.ty y.ty t × LawfulExpr k y
first_gives k c kind t op a b x y old mid p is e f h q ev clear =
    let is2 : kind ≡ expr.Binary op x y = is ∙ ap (λ a. expr.Binary op a b) (sym e) ∙ ap (λ b. expr.Binary op x b) (sym f) in
    let l = binary_lawful k kind t op x y is2 h in
    let g = gives_is mid.failed x.ty _ old.turns p mid clear (ev l.1 q) in
    (g, ready_after k c x.ty (meaning k x (store_of k c)) old mid p q clear g, is2, l.0, l.2)

-- the first one failed
binary_undefined : (k : Objects) (op : Binary) (t : Ty) (at p : Span) (s : Store) (a b : TypedExpr) → meaning k a s ≡ undefined_value p → kind_meaning k (expr.Binary op a b) t at s ≡ undefined_value p
binary_undefined k Both t at p s a b e = means_both k (expr.Binary Both a b) t at s a b refl ∙ ap (λ v. chosen v (λ s. as_truth (meaning k b s)) (always (pos 0)) s) e
binary_undefined k Either t at p s a b e = means_either k (expr.Binary Either a b) t at s a b refl ∙ ap (λ v. chosen v (always (pos 1)) (λ s. as_truth (meaning k b s)) s) e
binary_undefined k op t at p s a b e = joins_both k op t at s a b (λ e. cc) (λ e. cc) ∙ ap (λ v. on_two at (binary_value k.profile op t) v (meaning k b s)) e

pub binary_fails : (k : Objects) (c : Cells) (kind : TypedExprKind) (t : Ty) (at : Span) (op : Binary) (a b x : TypedExpr) (old mid : Trace) (p r : ℕ)
    → kind ≡ expr.Binary op a b → x ≡ a → LawfulKind k kind t → IsReady k c old → EvalGives k c x old mid p → mid.failed ≡ true → Answers t (kind_meaning k kind t at (store_of k c)) old mid r
binary_fails k c kind t at op a b x old mid p r is e h q ev f =
    let s = store_of k c in
    let is2 : kind ≡ expr.Binary op x b = is ∙ ap (λ a. expr.Binary op a b) (sym e) in
    let l = binary_lawful k kind t op x b is2 h in
    fails mid.failed t _ old.turns r mid f (ap (λ x. kind_meaning k x t at s) is2 ∙ binary_undefined k op t at mid.at s x b (failed_is mid.failed x.ty _ old.turns p mid f (ev l.1 q)))

pub strict_answers : (k : Objects) (c : Cells) (kind : TypedExprKind) (t : Ty) (at : Span) (op : Binary) (a b x y : TypedExpr) (old mid last new : Trace) (p o r : ℕ)
    → kind ≡ expr.Binary op a b → x ≡ a → y ≡ b → (op ≡ Both → ⊥) → (op ≡ Either → ⊥) → LawfulKind k kind t → IsReady k c old → EvalGives k c x old mid p → mid.failed ≡ false → EvalGives k c y mid last o → StrictGives k.profile op x.ty y.ty at p o last new r
    → Answers t (kind_meaning k kind t at (store_of k c)) old new r
strict_answers k c kind t at op a b x y old mid last new p o r is e f n m h q ev clear ev2 st =
    let s = store_of k c in
    let g = first_gives k c kind t op a b x y old mid p is e f h q ev clear in
    let ty = operand_types op x.ty y.ty t n m g.3 in
    answers_as new.failed (result_type op x.ty) t (on_two at (binary_value k.profile op x.ty) (meaning k x s) (meaning k y s)) _ old.turns r new ty.result
    (means_strict k kind t at s op x y g.2 n m ∙ ap (λ t. on_two at (binary_value k.profile op t) (meaning k x s) (meaning k y s)) ty.result ∙ ap (λ f. on_two at f (meaning k x s) (meaning k y s)) (same_binary k.profile op x.ty))
    (st (meaning k x s) (meaning k y s) old.turns mid.turns q.laws ty.left ty.same g.0 (ev2 g.4 g.1))

-- ---- && and ||

as_op : (kind : TypedExprKind) (o p : Binary) (a b : TypedExpr) → kind ≡ expr.Binary o a b → o ≡ p → kind ≡ expr.Binary p a b
as_op kind o p a b is e = is ∙ ap (λ o. expr.Binary o a b) e

pub both_decided : (k : Objects) (c : Cells) (kind : TypedExprKind) (t : Ty) (at : Span) (op : Binary) (a b x y : TypedExpr) (old mid last : Trace) (p : ℕ)
    → kind ≡ expr.Binary op a b → op ≡ Both → x ≡ a → y ≡ b → LawfulKind k kind t → IsReady k c old → EvalGives k c x old mid p → mid.failed ≡ false → last.turns ≡ plus_turns mid.turns 1 → last.failed ≡ mid.failed → p ≡ 0
    → Answers t (kind_meaning k kind t at (store_of k c)) old last 0
both_decided k c kind t at op a b x y old mid last p is o e f h q ev clear tu sa z =
    let s = store_of k c in
    let few : last.turns < most + 1 = omega arith in
    let g = first_gives k c kind t Both a b x y old mid p (as_op kind op Both a b is o) e f h q ev clear in
    answers_as last.failed I32 t (chosen (meaning k x s) (λ s. as_truth (meaning k y s)) (always (pos 0)) s) _ old.turns 0 last g.3.2 (means_both k kind t at s x y g.2)
    (second_answers I32 x.ty (meaning k x s) (λ s. as_truth (meaning k y s)) (always (pos 0)) s p old.turns mid.turns 0 last last g.0 z tu (gives last.failed I32 _ last.turns 0 last (sa ∙ clear) (always_gives 0 s last.turns (omega arith) few)))

pub either_decided : (k : Objects) (c : Cells) (kind : TypedExprKind) (t : Ty) (at : Span) (op : Binary) (a b x y : TypedExpr) (old mid last : Trace) (p : ℕ)
    → kind ≡ expr.Binary op a b → op ≡ Either → x ≡ a → y ≡ b → LawfulKind k kind t → IsReady k c old → EvalGives k c x old mid p → mid.failed ≡ false → last.turns ≡ plus_turns mid.turns 1 → last.failed ≡ mid.failed → (p ≡ 0 → ⊥)
    → Answers t (kind_meaning k kind t at (store_of k c)) old last 1
either_decided k c kind t at op a b x y old mid last p is o e f h q ev clear tu sa z =
    let s = store_of k c in
    let few : last.turns < most + 1 = omega arith in
    let g = first_gives k c kind t Either a b x y old mid p (as_op kind op Either a b is o) e f h q ev clear in
    answers_as last.failed I32 t (chosen (meaning k x s) (always (pos 1)) (λ s. as_truth (meaning k y s)) s) _ old.turns 1 last g.3.2 (means_either k kind t at s x y g.2)
    (first_answers I32 x.ty (meaning k x s) (always (pos 1)) (λ s. as_truth (meaning k y s)) s p old.turns mid.turns 1 last last g.0 z tu (gives last.failed I32 _ last.turns 1 last (sa ∙ clear) (always_gives 1 s last.turns (omega arith) few)))

pub both_answers : (k : Objects) (c : Cells) (kind : TypedExprKind) (t : Ty) (at : Span) (op : Binary) (a b x y : TypedExpr) (old mid last new : Trace) (p o r : ℕ)
    → kind ≡ expr.Binary op a b → op ≡ Both → x ≡ a → y ≡ b → LawfulKind k kind t → IsReady k c old → EvalGives k c x old mid p → mid.failed ≡ false → last.turns ≡ plus_turns mid.turns 1 → last.failed ≡ mid.failed → (p ≡ 0 → ⊥)
    → EvalGives k c y last new o → r ≡ (if o == 0 then 0 else 1) → Answers t (kind_meaning k kind t at (store_of k c)) old new r
both_answers k c kind t at op a b x y old mid last new p o r is e f i h q ev clear tu sa z ev2 tr =
    let s = store_of k c in
    let g = first_gives k c kind t Both a b x y old mid p (as_op kind op Both a b is e) f i h q ev clear in
    answers_as new.failed I32 t (chosen (meaning k x s) (λ s. as_truth (meaning k y s)) (always (pos 0)) s) _ old.turns r new g.3.2 (means_both k kind t at s x y g.2)
    (first_answers I32 x.ty (meaning k x s) (λ s. as_truth (meaning k y s)) (always (pos 0)) s p old.turns mid.turns r last new g.0 z tu (truth_answers y.ty (meaning k y s) o r last.turns new (ev2 g.4 (still_ready k c mid last g.1 tu sa)) tr))

pub either_answers : (k : Objects) (c : Cells) (kind : TypedExprKind) (t : Ty) (at : Span) (op : Binary) (a b x y : TypedExpr) (old mid last new : Trace) (p o r : ℕ)
    → kind ≡ expr.Binary op a b → op ≡ Either → x ≡ a → y ≡ b → LawfulKind k kind t → IsReady k c old → EvalGives k c x old mid p → mid.failed ≡ false → last.turns ≡ plus_turns mid.turns 1 → last.failed ≡ mid.failed → p ≡ 0
    → EvalGives k c y last new o → r ≡ (if o == 0 then 0 else 1) → Answers t (kind_meaning k kind t at (store_of k c)) old new r
either_answers k c kind t at op a b x y old mid last new p o r is e f i h q ev clear tu sa z ev2 tr =
    let s = store_of k c in
    let g = first_gives k c kind t Either a b x y old mid p (as_op kind op Either a b is e) f i h q ev clear in
    answers_as new.failed I32 t (chosen (meaning k x s) (always (pos 1)) (λ s. as_truth (meaning k y s)) s) _ old.turns r new g.3.2 (means_either k kind t at s x y g.2)
    (second_answers I32 x.ty (meaning k x s) (always (pos 1)) (λ s. as_truth (meaning k y s)) s p old.turns mid.turns r last new g.0 z tu (truth_answers y.ty (meaning k y s) o r last.turns new (ev2 g.4 (still_ready k c mid last g.1 tu sa)) tr))

-- ---- ?:

pub choice_fails : (k : Objects) (c : Cells) (kind : TypedExprKind) (t : Ty) (at : Span) (i a b x : TypedExpr) (old mid : Trace) (p r : ℕ)
    → kind ≡ expr.Choose i a b → x ≡ i → LawfulKind k kind t → IsReady k c old → EvalGives k c x old mid p → mid.failed ≡ true → Answers t (kind_meaning k kind t at (store_of k c)) old mid r
choice_fails k c kind t at i a b x old mid p r is e h q ev f =
    let s = store_of k c in
    let is2 : kind ≡ expr.Choose x a b = is ∙ ap (λ i. expr.Choose i a b) (sym e) in
    let l = choice_lawful k kind t x a b is2 h in
    fails mid.failed t _ old.turns r mid f (means_choice k kind t at s x a b is2 ∙ ap (λ v. chosen v (meaning k a) (meaning k b) s) (failed_is mid.failed x.ty _ old.turns p mid f (ev l.1 q)))

-- the part of this number is evaluated: the first, or the second
pub choice_first : (k : Objects) (c : Cells) (kind : TypedExprKind) (t : Ty) (at : Span) (i a b x y : TypedExpr) (old mid last new : Trace) (p r : ℕ)
    → kind ≡ expr.Choose i a b → x ≡ i → y ≡ a → LawfulKind k kind t → IsReady k c old → EvalGives k c x old mid p → mid.failed ≡ false → last.turns ≡ plus_turns mid.turns 1 → last.failed ≡ mid.failed → (p ≡ 0 → ⊥) → EvalGives k c y last new r
    → Answers t (kind_meaning k kind t at (store_of k c)) old new r
choice_first k c kind t at i a b x y old mid last new p r is e f h q ev clear tu sa z ev2 =
    let s = store_of k c in
    let is2 : kind ≡ expr.Choose x y b = is ∙ ap (λ i. expr.Choose i a b) (sym e) ∙ ap (λ a. expr.Choose x a b) (sym f) in
    let l = choice_lawful k kind t x y b is2 h in
    let g = gives_is mid.failed x.ty (meaning k x s) old.turns p mid clear (ev l.1 q) in
    answers_as new.failed y.ty t (chosen (meaning k x s) (meaning k y) (meaning k b) s) _ old.turns r new (l.0.2 ∙ sym l.0.0) (means_choice k kind t at s x y b is2)
    (first_answers y.ty x.ty (meaning k x s) (meaning k y) (meaning k b) s p old.turns mid.turns r last new g z tu (ev2 l.2 (still_ready k c mid last (ready_after k c x.ty (meaning k x s) old mid p q clear g) tu sa)))

pub choice_second : (k : Objects) (c : Cells) (kind : TypedExprKind) (t : Ty) (at : Span) (i a b x y : TypedExpr) (old mid last new : Trace) (p r : ℕ)
    → kind ≡ expr.Choose i a b → x ≡ i → y ≡ b → LawfulKind k kind t → IsReady k c old → EvalGives k c x old mid p → mid.failed ≡ false → last.turns ≡ plus_turns mid.turns 1 → last.failed ≡ mid.failed → p ≡ 0 → EvalGives k c y last new r
    → Answers t (kind_meaning k kind t at (store_of k c)) old new r
choice_second k c kind t at i a b x y old mid last new p r is e f h q ev clear tu sa z ev2 =
    let s = store_of k c in
    let is2 : kind ≡ expr.Choose x a y = is ∙ ap (λ i. expr.Choose i a b) (sym e) ∙ ap (λ b. expr.Choose x a b) (sym f) in
    let l = choice_lawful k kind t x a y is2 h in
    let g = gives_is mid.failed x.ty (meaning k x s) old.turns p mid clear (ev l.1 q) in
    answers_as new.failed y.ty t (chosen (meaning k x s) (meaning k a) (meaning k y) s) _ old.turns r new (l.0.2 ∙ sym l.0.1) (means_choice k kind t at s x a y is2)
    (second_answers y.ty x.ty (meaning k x s) (meaning k a) (meaning k y) s p old.turns mid.turns r last new g z tu (ev2 l.3 (still_ready k c mid last (ready_after k c x.ty (meaning k x s) old mid p q clear g) tu sa)))

-- ---- elements

-- an element is that at the place that its indices give
at_place : (k : Objects) (c : Cells) (at : Span) (a : ℕ) (vs : Vals) → element k at (store_of k c) a vs ≡ element_of k c at (place_by k.arrays (object.Array a) at vs)
at_place k c at a (undefined_values p) = refl
at_place k c at a (values is t) = of_place (place k.arrays a is)
  where
    of_place : (o : Option ℕ) → after_turns at t (element_at (store_of k c) a o) ≡ element_of k c at (placed_after at t (element_place a o))
    of_place None = refl
    of_place (Some n) = refl

pub element_answers : (k : Objects) (c : Cells) (kind : TypedExprKind) (t : Ty) (at : Span) (a : ℕ) (es fs : List TypedExpr) (old mid new : Trace) (q r : ℕ)
    → kind ≡ expr.Element a es → fs ≡ es → LawfulKind k kind t → IsReady k c old → PlaceGives k c fs a at old mid q → ElementGives a at c q mid new r → Answers t (kind_meaning k kind t at (store_of k c)) old new r
element_answers k c kind t at a es fs old mid new q r is e h ready pl el =
    let s = store_of k c in
    let is2 : kind ≡ expr.Element a fs = is ∙ ap (expr.Element a) (sym e) in
    let l = (ready.laws.element_lawful a fs k t).0 (subst (λ x. LawfulKind k x t) is2 h) in
    let vs = all_values (map (meaning k) fs) s in
    answers_as new.failed t t (element_of k c at (place_by k.arrays (object.Array a) at vs)) _ old.turns r new refl
    (ap (λ x. kind_meaning k x t at s) is2 ∙ ap (λ (m : Meaning). m s) (ready.laws.element_means a fs k t at) ∙ at_place k c at a vs)
    (el k (length fs) t (place_by k.arrays (object.Array a) at vs) old.turns l.0 ready.cells (pl t l.0 l.1 ready))
