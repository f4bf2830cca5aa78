-- What an expression of a program is cast to is lawful, and reads variables in scope alone.
use Rattle.std.proofs.Common.{◌≡◌, ℕ, suc, ◌+◌, List, [], ◌∷◌, length, map, Option, Some, None, refl, sym, ◌∙◌, ap, subst, arith}
use Rattle.std.proofs.lemmas.Bool.{false≢true}
use Rattle.std.specs.Prelude.{Bool, true, false, ◌==◌, slice_get, Contains, if◌then◌else◌}
use Rattle.std.specs.Cmp.Lexicographic.{pointwise}
use Rattle.el_base.specs.declared.span.Span.{Span}
use Rattle.el_base.specs.declared.ty.Ty.{Ty}
use Rattle.c_ast.specs.declared.tree.Unary.{Unary}
use Rattle.c_ast.specs.declared.tree.Binary.{Binary}
use Rattle.c_ast.specs.declared.tree.Binary.TheVariants as op
use Rattle.c_ast.specs.declared.tree.Expr.{Expr}
use Rattle.c_ast.specs.declared.tree.ExprKind.TheVariants as expr
use Rattle.c_ast.specs.declared.tree.ExprKind.TheBlock.{hidden-the_row-Expr-0}
use Rattle.c_ast.specs.declared.program.ProgExpr.{ProgExpr}
use Rattle.c_ast.specs.declared.program.ProgExprKind.TheVariants as typed
use Rattle.c_ast.specs.declared.program.ProgExprKind.TheBlock.{hidden-the_row-ProgExpr-0}
use Rattle.c_ast.specs.Casts.{Declared, a_var, an_array, Scope, Context, same_type, left_type, right_type}
use Rattle.c_ast.specs.Constants.{NumbersFitRow, NumbersFitExpr}
use Rattle.c_ast.specs.Programs.{joins_both, where_whole, CallsStandIn, StandsAt}
use Rattle.c_ast.specs.ProgramCasts.{Known, helper_from, helper_of, prog_of, prog_converted, prog_converted_all, CastsCallExpr, CastsCallExprs}
use Rattle.c_ast.specs.ProgramCasts as casts
use Rattle.c_ast.specs.ResultTypes.{promoted, usual, joint_type, result_type, unary_type}
use Rattle.c_ast.specs.Typing.{Sort, Names, sort_of, IsUsable, TypingRow, TypingExpr, row_length as tree_row_length}
use Rattle.c_ast.specs.Typing as typing
use Rattle.c_meaning.specs.Stores.{Objects}
use Rattle.c_meaning.specs.Lawful.{IsVar, IsElement, AreOperands, AreSides}
use Rattle.c_meaning.proofs.LawfulExpressions.{Means, found_in, Valid, is_element}
use Rattle.c_meaning.proofs.TypeLemmas.{promoted_twice, usual_self, operands_are, same_is}
use Rattle.c_calls.specs.Lawful.{is_implied, row_length, row_types, Signature, may_right, LawfulCallRow, LawfulCallExpr, ReadsAt, RowReadsOf}
use Rattle.c_meaning.proofs.TreeRows.{expr_rows}
use Rattle.c_calls.proofs.TreeRows.{prog_expr_rows}

-- ---- names in force

-- the rules know the dimensions of each array
abbrev pub ToldBy : Option Declared → Option Sort → Type 0
ToldBy None s = Unit {0}
ToldBy (Some (a_var v t)) s = Unit {0}
ToldBy (Some (an_array a t ds)) s = s ≡ Some (typing.an_array (length ds))

-- scopes in which each name stands for an object, where the rules have these names
pub record Scoped (k : Objects) (names : Names) (ss : List Scope) : Type 0 where
  pub valid : Valid k ss
  pub told : (x : List ℕ) → ToldBy (found_in ss x) (sort_of names x)

-- the variables of scopes are in a list
abbrev pub Sees : List Scope → List ℕ → Type 0
Sees ss vs = (x : List ℕ) (v : ℕ) (t : Ty) → found_in ss x ≡ Some (a_var v t) → Contains vs v

-- ---- helpers

abbrev pub signature_by : Known → Signature
signature_by h = record { params = h.params; result = h.result }

abbrev pub there_is : ℕ → Known → Option (ℕ × Known)
there_is n h = Some (n, h)

same_pair : (p q : ℕ × Known) → Some p ≡ Some q → p ≡ q
same_pair p q e = cc

same_place : (n j : ℕ) (h g : Known) → there_is n h ≡ there_is j g → n ≡ j
same_place n j h g e = ap (λ (p : ℕ × Known). p.0) (same_pair (n, h) (j, g) e)

same_helper : (n j : ℕ) (h g : Known) → there_is n h ≡ there_is j g → h ≡ g
same_helper n j h g e = ap (λ (p : ℕ × Known). p.1) (same_pair (n, h) (j, g) e)

found_at : (b : Bool) (n : ℕ) (h : Known) (o : Option (ℕ × Known)) (j : ℕ) (g : Known) (A : Type 0) → (if b then there_is n h else o) ≡ there_is j g → (n ≡ j → h ≡ g → A) → (o ≡ there_is j g → A) → A
found_at true n h o j g A e f f2 = f (same_place n j h g e) (same_helper n j h g e)
found_at false n h o j g A e f f2 = f2 e

-- the helper of a name stands at its place
helper_at : (n : ℕ) (hs : List Known) (x : List ℕ) (j : ℕ) (g : Known) → helper_from n hs x ≡ there_is j g → (i : ℕ) × (j ≡ n + i) × (slice_get (map signature_by hs) i ≡ Some (signature_by g))
helper_at n [] x j g e = absurd (cc)
helper_at n (h ∷ hs) x j g e =
    found_at (pointwise ◌==◌ h.name x) n h (helper_from (suc n) hs x) j g ((i : ℕ) × (j ≡ n + i) × (slice_get (map signature_by (h ∷ hs)) i ≡ Some (signature_by g))) e
    (λ p q. (0, (let z : j ≡ n + 0 = omega arith in z), ap (λ h. Some (signature_by h)) q))
    (λ r. let q = helper_at (suc n) hs x j g r in let e1 = q.1 in let z : j ≡ n + suc q.0 = omega arith in (suc q.0, z, q.2))

pub helper_is : (hs : List Known) (x : List ℕ) (j : ℕ) (g : Known) → helper_of hs x ≡ there_is j g → slice_get (map signature_by hs) j ≡ Some (signature_by g)
helper_is hs x j g e =
    let q = helper_at 0 hs x j g e in
    let z : j ≡ q.0 = let a = q.1 in omega arith in
    ap (slice_get (map signature_by hs)) z ∙ q.2

-- ---- operators and conversions

stands_right : (o : Binary) (may : Bool) → where_whole (joins_both o) may ≡ may_right may o
stands_right op.Mul may = refl
stands_right o may = refl

type_if : (t : Ty) (e : ProgExpr) (b : Bool) → same_type t e.ty ≡ b → (if b then e else prog_of (typed.Cast true e) t e.at).ty ≡ t
type_if t e true h = sym (same_is t e.ty h)
type_if t e false h = refl

pub converted_has : (t : Ty) (e : ProgExpr) → (prog_converted t e).ty ≡ t
converted_has t e = type_if t e (same_type t e.ty) refl

module _ (k : Objects) (hs : List Known) where
  abbrev pub gs : List Signature
  gs = map signature_by hs

  -- it is lawful, and no cast that is marked as implied
  pub record Fit (may : Bool) (f : ProgExpr) : Type 0 where
    pub lawful : LawfulCallExpr k gs may f
    pub written : is_implied f.kind ≡ false

  abbrev pub Fits : Bool → List ProgExpr → Type 0
  Fits may [] = Unit {0}
  Fits may (f ∷ fs) = Fit may f × Fits may fs

  lawful_if : (may : Bool) (t : Ty) (e : ProgExpr) (b : Bool) → Fit may e → LawfulCallExpr k gs may (if b then e else prog_of (typed.Cast true e) t e.at)
  unfolding prog_expr_rows
  lawful_if may t e true h = h.lawful
  lawful_if may t e false h = ((λ i. h.written), h.lawful)

  pub converted_lawful : (may : Bool) (t : Ty) (e : ProgExpr) → Fit may e → LawfulCallExpr k gs may (prog_converted t e)
  converted_lawful may t e h = lawful_if may t e (same_type t e.ty) h

  number_fit : (may : Bool) (n : ℕ) (t : Ty) (s : Span) → NumbersFitExpr (record { kind = expr.Number n t; at = s }) → Fit may (prog_of (typed.Number n) t s)
  number_fit may n t s h = unfold expr_rows prog_expr_rows in record { lawful = h; written = refl }

  var_fit : (may : Bool) (v : ℕ) (t : Ty) (s : Span) → IsVar k v t → Fit may (prog_of (typed.Var v) t s)
  var_fit may v t s h = unfold prog_expr_rows in record { lawful = h; written = refl }

  rows_lawful : (may : Bool) (fs : List ProgExpr) → Fits may fs → LawfulCallRow k gs may (hidden-the_row-ProgExpr-0 fs)
  unfolding prog_expr_rows
  rows_lawful may [] h = tt
  rows_lawful may (f ∷ fs) h = (h.0.lawful, rows_lawful may fs h.1)

  row_long : (fs : List ProgExpr) → row_length (hidden-the_row-ProgExpr-0 fs) ≡ length fs
  unfolding prog_expr_rows
  row_long [] = refl
  row_long (f ∷ fs) = let r : row_length (hidden-the_row-ProgExpr-0 fs) ≡ length fs = row_long fs in omega arith

  element_fit : (may : Bool) (a : ℕ) (t : Ty) (fs : List ProgExpr) (s : Span) → IsElement k a (length fs) t → Fits may fs → Fit may (prog_of (typed.Element a fs) t s)
  element_fit may a t fs s e h = unfold prog_expr_rows in record { lawful = (subst (λ n. IsElement k a n t) (sym (row_long fs)) e, rows_lawful may fs h); written = refl }

  -- the arguments of a call, each converted to the type of its parameter
  args_lawful : (may : Bool) (ts : List Ty) (fs : List ProgExpr) → Fits may fs → LawfulCallRow k gs may (hidden-the_row-ProgExpr-0 (prog_converted_all ts fs))
  unfolding prog_expr_rows
  args_lawful may [] fs h = tt
  args_lawful may (t ∷ ts) [] h = tt
  args_lawful may (t ∷ ts) (f ∷ fs) h = (converted_lawful may t f h.0, args_lawful may ts fs h.1)

  args_typed : (ts : List Ty) (fs : List ProgExpr) → length fs ≡ length ts → row_types (hidden-the_row-ProgExpr-0 (prog_converted_all ts fs)) ≡ ts
  unfolding prog_expr_rows
  args_typed [] fs e = refl
  args_typed (t ∷ ts) [] e = absurd (omega arith)
  args_typed (t ∷ ts) (f ∷ fs) e = ap (λ u. u ∷ row_types (hidden-the_row-ProgExpr-0 (prog_converted_all ts fs))) (converted_has t f) ∙ ap (λ us. t ∷ us) (args_typed ts fs (omega arith))

  call_fit : (j : ℕ) (g : Known) (fs : List ProgExpr) (s : Span) → slice_get gs j ≡ Some (signature_by g) → length fs ≡ length g.params → Fits true fs → Fit true (prog_of (typed.Call j (prog_converted_all g.params fs)) g.result s)
  call_fit j g fs s e many h = unfold prog_expr_rows in record { lawful = ((refl, (signature_by g, e, args_typed g.params fs many, refl)), args_lawful true g.params fs h); written = refl }

  one_lawful : (may : Bool) (o : Unary) (f : ProgExpr) (t : Ty) (s : Span) → f.ty ≡ promoted f.ty → t ≡ unary_type o f.ty → LawfulCallExpr k gs may f → Fit may (prog_of (typed.Unary o f) t s)
  one_lawful may o f t s a b p = unfold prog_expr_rows in record { lawful = (a, b, p); written = refl }

  cast_fit : (may : Bool) (f : ProgExpr) (t : Ty) (s : Span) → LawfulCallExpr k gs may f → Fit may (prog_of (typed.Cast false f) t s)
  cast_fit may f t s p = unfold prog_expr_rows in record { lawful = ((λ i. absurd (false≢true i)), p); written = refl }

  two_lawful : (may : Bool) (o : Binary) (f h : ProgExpr) (t : Ty) (s : Span) → AreOperands o f.ty h.ty t → LawfulCallExpr k gs may f → LawfulCallExpr k gs (may_right may o) h → Fit may (prog_of (typed.Binary o f h) t s)
  two_lawful may o f h t s a p q = unfold prog_expr_rows in record { lawful = (a, p, q); written = refl }

  three_lawful : (may : Bool) (f h j : ProgExpr) (t : Ty) (s : Span) → AreSides h.ty j.ty t → LawfulCallExpr k gs may f → LawfulCallExpr k gs false h → LawfulCallExpr k gs false j → Fit may (prog_of (typed.Choose f h j) t s)
  three_lawful may f h j t s a p q r = unfold prog_expr_rows in record { lawful = (a, p, q, r); written = refl }

  unary_fit : (may : Bool) (o : Unary) (f : ProgExpr) (s : Span) → Fit may f → Fit may (prog_of (typed.Unary o (prog_converted (promoted f.ty) f)) (unary_type o (promoted f.ty)) s)
  unary_fit may o f s h =
      let g = prog_converted (promoted f.ty) f in
      let p : g.ty ≡ promoted f.ty = converted_has (promoted f.ty) f in
      one_lawful may o g (unary_type o (promoted f.ty)) s (p ∙ sym (promoted_twice f.ty) ∙ ap promoted (sym p)) (ap (unary_type o) (sym p)) (converted_lawful may (promoted f.ty) f h)

  binary_fit : (may : Bool) (o : Binary) (f h : ProgExpr) (s : Span) → Fit may f → Fit (may_right may o) h
      → Fit may (prog_of (typed.Binary o (prog_converted (left_type o f.ty h.ty) f) (prog_converted (right_type o f.ty h.ty) h)) (result_type o (joint_type o f.ty h.ty)) s)
  binary_fit may o f h s p q =
      let a = left_type o f.ty h.ty in
      let b = right_type o f.ty h.ty in
      let t = result_type o (joint_type o f.ty h.ty) in
      let x : a ≡ (prog_converted a f).ty = sym (converted_has a f) in
      let y : b ≡ (prog_converted b h).ty = sym (converted_has b h) in
      two_lawful may o (prog_converted a f) (prog_converted b h) t s
      (subst (λ u. AreOperands o u (prog_converted b h).ty t) x (subst (λ u. AreOperands o a u t) y (operands_are o f.ty h.ty)))
      (converted_lawful may a f p) (converted_lawful (may_right may o) b h q)

  choose_fit : (may : Bool) (f h j : ProgExpr) (s : Span) → Fit may f → Fit false h → Fit false j → Fit may (prog_of (typed.Choose f (prog_converted (usual h.ty j.ty) h) (prog_converted (usual h.ty j.ty) j)) (usual h.ty j.ty) s)
  choose_fit may f h j s p q r =
      let t = usual h.ty j.ty in
      let x : t ≡ (prog_converted t h).ty = sym (converted_has t h) in
      let y : t ≡ (prog_converted t j).ty = sym (converted_has t j) in
      let u : t ≡ usual t t = sym (usual_self h.ty j.ty) in
      three_lawful may f (prog_converted t h) (prog_converted t j) t s
      (subst (λ a. AreSides a (prog_converted t j).ty t) x (subst (λ b. AreSides t b t) y (u, u, u)))
      p.lawful (converted_lawful false t h q) (converted_lawful false t j r)

-- ---- expressions

-- as many are left as there were
pub casts_long : {hs : List Known} {c : Context} {es : List Expr} {fs : List ProgExpr} → CastsCallExprs hs c es fs → length fs ≡ length es
casts_long (casts.no_more c) = refl
casts_long (casts.one_more c e f es fs p q) = let r = casts_long q in omega arith

tree_row_long : (es : List Expr) → tree_row_length (hidden-the_row-Expr-0 es) ≡ length es
unfolding expr_rows
tree_row_long [] = refl
tree_row_long (e ∷ es) = let r : tree_row_length (hidden-the_row-Expr-0 es) ≡ length es = tree_row_long es in omega arith

module _ (k : Objects) (hs : List Known) where
  -- a variable that a name stands for
  pub var_at : (names : Names) (ss : List Scope) (x : List ℕ) (v : ℕ) (t : Ty) → Scoped k names ss → found_in ss x ≡ Some (a_var v t) → IsVar k v t
  var_at names ss x v t w e = subst (Means k) e (w.valid.means x)

  -- an array that a name with so many indices stands for
  pub array_at : (names : Names) (ss : List Scope) (x : List ℕ) (a : ℕ) (t : Ty) (ds : List ℕ) (n : ℕ) → Scoped k names ss → found_in ss x ≡ Some (an_array a t ds) → IsUsable names x n → IsElement k a n t
  array_at names ss x a t ds n w e u =
      let told : sort_of names x ≡ Some (typing.an_array (length ds)) = subst (λ d. ToldBy d (sort_of names x)) e (w.told x) in
      is_element k a t ds n (u.rule_24_one_for_each (length ds) told (u.rule_23_array_has_some (length ds) told)) (subst (Means k) e (w.valid.means x))

  mutual
    unfolding expr_rows

    pub expr_fit : {c : Context} {e : Expr} {f : ProgExpr} (names : Names) (may : Bool) → Scoped k names c.scopes → CastsCallExpr hs c e f → TypingExpr names e → NumbersFitExpr e → StandsAt may e → Fit k hs may f
    expr_fit names may w (casts.number c n t s) h i j = number_fit k hs may n t s i
    expr_fit names may w (casts.name c x v t s d) h i j = var_fit k hs may v t s (var_at names c.scopes x v t w d)
    expr_fit names may w (casts.element c x a t ds es fs s d all) h i j =
        let many : tree_row_length (hidden-the_row-Expr-0 es) ≡ length fs = tree_row_long es ∙ sym (casts_long all) in
        element_fit k hs may a t fs s (subst (λ n. IsElement k a n t) many (array_at names c.scopes x a t ds (tree_row_length (hidden-the_row-Expr-0 es)) w d h.0)) (exprs_fit names may w all h.1 i j)
    expr_fit names may w (casts.call c x j0 g es fs s d there many all) h i j =
        subst (λ m. Fit k hs m (prog_of (typed.Call j0 (prog_converted_all g.params fs)) g.result s)) (sym j.0)
        (call_fit k hs j0 g fs s (helper_is hs x j0 g there) (casts_long all ∙ many) (subst (λ m. Fits k hs m fs) j.0 (exprs_fit names may w all h.1 i j.1)))
    expr_fit names may w (casts.whole c x v t s d) h i j = var_fit k hs may v t s (var_at names c.scopes x v t w d)
    expr_fit names may w (casts.unary c o e f s p) h i j = unary_fit k hs may o f s (expr_fit names may w p h i j)
    expr_fit names may w (casts.cast c t e f s p) h i j = cast_fit k hs may f t s (expr_fit names may w p h i j).lawful
    expr_fit names may w (casts.binary c o e g f u s p q) h i j =
        binary_fit k hs may o f u s (expr_fit names may w p h.0 i.0 j.0) (expr_fit names (may_right may o) w q h.1 i.1 (subst (λ m. StandsAt m g) (stands_right o may) j.1))
    expr_fit names may w (casts.choose c e g l f u v s p q r) h i j =
        choose_fit k hs may f u v s (expr_fit names may w p h.0 i.0 j.0) (expr_fit names false w q h.1 i.1 j.1) (expr_fit names false w r h.2 i.2 j.2)

    pub exprs_fit : {c : Context} {es : List Expr} {fs : List ProgExpr} (names : Names) (may : Bool) → Scoped k names c.scopes → CastsCallExprs hs c es fs → TypingRow names (hidden-the_row-Expr-0 es) → NumbersFitRow (hidden-the_row-Expr-0 es) → CallsStandIn may (hidden-the_row-Expr-0 es) → Fits k hs may fs
    exprs_fit names may w (casts.no_more c) h i j = tt
    exprs_fit names may w (casts.one_more c e f es fs p q) h i j = (expr_fit names may w p h.0 i.0 j.0, exprs_fit names may w q h.1 i.1 j.1)

-- ---- what is read

reads_if : (vs : List ℕ) (t : Ty) (e : ProgExpr) (b : Bool) → ReadsAt vs e → ReadsAt vs (if b then e else prog_of (typed.Cast true e) t e.at)
unfolding prog_expr_rows
reads_if vs t e true h = h
reads_if vs t e false h = h

pub converted_reads : (vs : List ℕ) (t : Ty) (e : ProgExpr) → ReadsAt vs e → ReadsAt vs (prog_converted t e)
converted_reads vs t e h = reads_if vs t e (same_type t e.ty) h

abbrev pub AllRead : List ℕ → List ProgExpr → Type 0
AllRead vs [] = Unit {0}
AllRead vs (f ∷ fs) = ReadsAt vs f × AllRead vs fs

row_reads : (vs : List ℕ) (fs : List ProgExpr) → AllRead vs fs → RowReadsOf vs (hidden-the_row-ProgExpr-0 fs)
unfolding prog_expr_rows
row_reads vs [] h = tt
row_reads vs (f ∷ fs) h = (h.0, row_reads vs fs h.1)

args_read : (vs : List ℕ) (ts : List Ty) (fs : List ProgExpr) → AllRead vs fs → RowReadsOf vs (hidden-the_row-ProgExpr-0 (prog_converted_all ts fs))
unfolding prog_expr_rows
args_read vs [] fs h = tt
args_read vs (t ∷ ts) [] h = tt
args_read vs (t ∷ ts) (f ∷ fs) h = (converted_reads vs t f h.0, args_read vs ts fs h.1)

mutual
  unfolding prog_expr_rows

  pub expr_reads : {hs : List Known} {c : Context} {e : Expr} {f : ProgExpr} (vs : List ℕ) → Sees c.scopes vs → CastsCallExpr hs c e f → ReadsAt vs f
  expr_reads vs w (casts.number c n t s) = tt
  expr_reads vs w (casts.name c x v t s d) = w x v t d
  expr_reads vs w (casts.element c x a t ds es fs s d all) = row_reads vs fs (exprs_read vs w all)
  expr_reads vs w (casts.call c x j g es fs s d there many all) = args_read vs g.params fs (exprs_read vs w all)
  expr_reads vs w (casts.whole c x v t s d) = w x v t d
  expr_reads vs w (casts.unary c o e f s p) = converted_reads vs (promoted f.ty) f (expr_reads vs w p)
  expr_reads vs w (casts.cast c t e f s p) = expr_reads vs w p
  expr_reads vs w (casts.binary c o e g f u s p q) = (converted_reads vs (left_type o f.ty u.ty) f (expr_reads vs w p), converted_reads vs (right_type o f.ty u.ty) u (expr_reads vs w q))
  expr_reads vs w (casts.choose c e g l f u v s p q r) = (expr_reads vs w p, converted_reads vs (usual u.ty v.ty) u (expr_reads vs w q), converted_reads vs (usual u.ty v.ty) v (expr_reads vs w r))

  pub exprs_read : {hs : List Known} {c : Context} {es : List Expr} {fs : List ProgExpr} (vs : List ℕ) → Sees c.scopes vs → CastsCallExprs hs c es fs → AllRead vs fs
  exprs_read vs w (casts.no_more c) = tt
  exprs_read vs w (casts.one_more c e f es fs p q) = (expr_reads vs w p, exprs_read vs w q)
