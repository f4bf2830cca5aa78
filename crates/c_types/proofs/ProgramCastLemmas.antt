-- What a walk over a program gives for a node, from what it gives for the parts.
use Rattle.std.proofs.Common.{◌≡◌, ℕ, suc, ◌<◌, List, [], ◌∷◌, ◌++◌, length, Option, Some, None, refl, sym, ap, subst, ◌∙◌, arith, get_or, ◌+◌, ◌≤◌, Bool, true, false, drop, if◌then◌else◌}
use Rattle.el_base.specs.declared.span.Span.{Span}
use Rattle.el_base.specs.declared.ty.Ty.{Ty}
use Rattle.c_ast.specs.declared.tree.Unary.{Unary}
use Rattle.c_ast.specs.declared.tree.Binary.{Binary}
use Rattle.c_ast.specs.declared.tree.Param.{Param}
use Rattle.c_ast.specs.declared.tree.Target.{Target}
use Rattle.c_ast.specs.declared.tree.Expr.{Expr}
use Rattle.c_ast.specs.declared.tree.ExprKind.{ExprKind}
use Rattle.c_ast.specs.declared.tree.ExprKind.TheVariants as expr
use Rattle.c_ast.specs.declared.tree.Stmt.{Stmt}
use Rattle.c_ast.specs.declared.tree.Helper.{Helper}
use Rattle.c_ast.specs.declared.typed.Object.{Object}
use Rattle.c_ast.specs.declared.typed.Object.TheVariants as object
use Rattle.c_ast.specs.declared.program.ProgExpr.{ProgExpr}
use Rattle.c_ast.specs.declared.program.ProgExprKind.TheVariants as typed
use Rattle.c_ast.specs.declared.program.ProgStmt.{ProgStmt}
use Rattle.c_ast.specs.ResultTypes.{promoted, usual, joint_type, result_type, unary_type}
use Rattle.c_ast.specs.Casts.{Context, declared_as, left_type, right_type, expr_at}
use Rattle.c_ast.specs.Casts as casts
use Rattle.c_ast.specs.ProgramCasts as rule
use Rattle.c_ast.specs.ProgramCasts.{known_of, helper_from, helper_of, prog_of, prog_converted, prog_converted_all, CastsCallExpr, CastsCallExprs, CastsCallTarget, CastsCallStmt, CastsCallHeld, CastsCallStmts}
use Rattle.c_types.specs.declared.known.Binding.TheVariants as binding
use Rattle.c_types.specs.Scopes.{declared_in}
use Rattle.c_types.specs.Contexts.{Bindings, context_in, IsObject, a_variable, an_element}
use Rattle.c_types.specs.ProgramContexts.{callees, types_of, IsProgName, IsProgElement, IsProgExpr, AreProgExprs, AreArguments, IsProgOption, IsProgTarget, IsProgValue, IsProgConverted, a_value}
use Rattle.c_types.specs.ProgramParts.{IsCallee, HasCallee}
use Rattle.std.proofs.lemmas.Bool.{false≢true}
use Rattle.std.proofs.lemmas.List.{length-map, nil_from_length}
use Rattle.std.proofs.Math.ListN.{drop_of_length-le}
use Rattle.c_types.proofs.Lookups.{same_name}
use Rattle.c_types.proofs.Items.{item_here}
use Rattle.c_types.proofs.ContextLemmas.{outside, innermost_outside, found, unfound, no_dims, variable_of, array_of, no_index}

module _ (helpers : List Helper) where
  pub held_scopes : {r : Option Ty} {c d : Context} {o : Option Stmt} {p : Option ProgStmt} → CastsCallHeld (callees helpers) r c o p d → d.scopes ≡ c.scopes
  held_scopes (rule.no_statement r c) = refl
  held_scopes (rule.a_statement r c d a b h) = refl

  pub stmt_outside : {r : Option Ty} {c d : Context} {a : Stmt} {b : ProgStmt} → CastsCallStmt (callees helpers) r c a b d → outside d.scopes ≡ outside c.scopes
  stmt_outside (rule.declare r c x t s) = innermost_outside (x, casts.a_var (length c.types) t) c.scopes
  stmt_outside (rule.declare_value r c x t e f s h) = innermost_outside (x, casts.a_var (length c.types) t) c.scopes
  stmt_outside (rule.choice r c d d2 e f a b o p s h i j) = ap outside (held_scopes j)
  stmt_outside _ = refl

  pub stmts_outside : {r : Option Ty} {c d : Context} {ss : List Stmt} {ts : List ProgStmt} → CastsCallStmts (callees helpers) r c ss ts d → outside d.scopes ≡ outside c.scopes
  stmts_outside (rule.done r c) = refl
  stmts_outside (rule.more r c d d2 a b ss ts h i) = stmts_outside i ∙ stmt_outside h

  -- ---- expressions

  -- an expression of a kind, and its typed expression by what it is
  expr_is : (scopes : Bindings) (e : Expr) (k : ExprKind) (f g : ProgExpr) → e.kind ≡ k → f ≡ g → IsProgExpr helpers scopes (expr_at k e.at) g → IsProgExpr helpers scopes e f
  expr_is scopes e k f g is same h =
      subst (λ k. IsProgExpr helpers scopes (record { kind = k; at = e.at }) f) (sym is) (subst (λ g. IsProgExpr helpers scopes (expr_at k e.at) g) (sym same) h)

  pub number_arm : (scopes : Bindings) (e : Expr) (n : ℕ) (t : Ty) (f : ProgExpr) → e.kind ≡ expr.Number n t → f ≡ prog_of (typed.Number n) t e.at → IsProgExpr helpers scopes e f
  number_arm scopes e n t f is same =
      expr_is scopes e (expr.Number n t) f (prog_of (typed.Number n) t e.at) is same (record { casts = λ dims types. rule.number (context_in dims scopes types) n t e.at })

  pub same_length : {c : Context} {es : List Expr} {fs : List ProgExpr} → CastsCallExprs (callees helpers) c es fs → length fs ≡ length es
  same_length (rule.no_more c) = refl
  same_length (rule.one_more c e f es fs p q) = ap suc (same_length q)

  pub long_as : (scopes : Bindings) (es : List Expr) (fs : List ProgExpr) → AreProgExprs helpers scopes es fs → length fs ≡ length es
  long_as scopes es fs hs = same_length (hs.casts no_dims [])

  -- the part of a node, as its reference gives it
  part : (scopes : Bindings) (a b : Expr) (f : ProgExpr) → b ≡ a → IsProgExpr helpers scopes b f → IsProgExpr helpers scopes a f
  part scopes a b f same h = subst (λ a. IsProgExpr helpers scopes a f) same h

  pub unary_arm : (scopes : Bindings) (e : Expr) (op : Unary) (a b : Expr) (f g : ProgExpr) → e.kind ≡ expr.Unary op a → b ≡ a → IsProgExpr helpers scopes b f
      → g ≡ prog_of (typed.Unary op (prog_converted (promoted f.ty) f)) (unary_type op (promoted f.ty)) e.at → IsProgExpr helpers scopes e g
  unary_arm scopes e op a b f g is same h made =
      expr_is scopes e (expr.Unary op a) g _ is made (record { casts = λ dims types. rule.unary (context_in dims scopes types) op a f e.at ((part scopes a b f same h).casts dims types) })

  pub cast_arm : (scopes : Bindings) (e : Expr) (t : Ty) (a b : Expr) (f g : ProgExpr) → e.kind ≡ expr.Cast t a → b ≡ a → IsProgExpr helpers scopes b f
      → g ≡ prog_of (typed.Cast false f) t e.at → IsProgExpr helpers scopes e g
  cast_arm scopes e t a b f g is same h made =
      expr_is scopes e (expr.Cast t a) g _ is made (record { casts = λ dims types. rule.cast (context_in dims scopes types) t a f e.at ((part scopes a b f same h).casts dims types) })

  pub binary_arm : (scopes : Bindings) (e : Expr) (op : Binary) (a a2 b b2 : Expr) (f h g : ProgExpr) → e.kind ≡ expr.Binary op a b → a2 ≡ a → b2 ≡ b → IsProgExpr helpers scopes a2 f → IsProgExpr helpers scopes b2 h
      → g ≡ prog_of (typed.Binary op (prog_converted (left_type op f.ty h.ty) f) (prog_converted (right_type op f.ty h.ty) h)) (result_type op (joint_type op f.ty h.ty)) e.at → IsProgExpr helpers scopes e g
  binary_arm scopes e op a a2 b b2 f h g is same same2 p q made =
      expr_is scopes e (expr.Binary op a b) g _ is made
      (record { casts = λ dims types. rule.binary (context_in dims scopes types) op a b f h e.at ((part scopes a a2 f same p).casts dims types) ((part scopes b b2 h same2 q).casts dims types) })

  pub choose_arm : (scopes : Bindings) (e a a2 b b2 d d2 : Expr) (f h j g : ProgExpr) → e.kind ≡ expr.Choose a b d → a2 ≡ a → b2 ≡ b → d2 ≡ d
      → IsProgExpr helpers scopes a2 f → IsProgExpr helpers scopes b2 h → IsProgExpr helpers scopes d2 j
      → g ≡ prog_of (typed.Choose f (prog_converted (usual h.ty j.ty) h) (prog_converted (usual h.ty j.ty) j)) (usual h.ty j.ty) e.at → IsProgExpr helpers scopes e g
  choose_arm scopes e a a2 b b2 d d2 f h j g is same same2 same3 p q r made =
      expr_is scopes e (expr.Choose a b d) g _ is made
      (record {
        casts = λ dims types. rule.choose (context_in dims scopes types) a b d f h j e.at
            ((part scopes a a2 f same p).casts dims types) ((part scopes b b2 h same2 q).casts dims types) ((part scopes d d2 j same3 r).casts dims types);
      })

  pub no_exprs : (scopes : Bindings) (fs : List ProgExpr) → fs ≡ [] → AreProgExprs helpers scopes [] fs
  no_exprs scopes fs h = subst (λ fs. AreProgExprs helpers scopes [] fs) (sym h) (record { casts = λ dims types. rule.no_more (context_in dims scopes types) })

  more_exprs : {c : Context} {es : List Expr} {fs : List ProgExpr} (e : Expr) (f : ProgExpr) → CastsCallExprs (callees helpers) c es fs → CastsCallExpr (callees helpers) c e f → CastsCallExprs (callees helpers) c (es ++ e ∷ []) (fs ++ f ∷ [])
  more_exprs e f (rule.no_more c) h = rule.one_more c e f [] [] h (rule.no_more c)
  more_exprs e f (rule.one_more c e2 f2 es fs p q) h = rule.one_more c e2 f2 (es ++ e ∷ []) (fs ++ f ∷ []) p (more_exprs e f q h)

  pub one_more_expr : (scopes : Bindings) (es us : List Expr) (e : Expr) (fs gs : List ProgExpr) (f : ProgExpr) → us ≡ es ++ e ∷ [] → AreProgExprs helpers scopes es fs → IsProgExpr helpers scopes e f
      → gs ≡ fs ++ f ∷ [] → AreProgExprs helpers scopes us gs
  one_more_expr scopes es us e fs gs f is hs h made =
      subst (λ us. AreProgExprs helpers scopes us gs) (sym is) (subst (λ gs. AreProgExprs helpers scopes (es ++ e ∷ []) gs) (sym made)
      (record { casts = λ dims types. more_exprs e f (hs.casts dims types) (h.casts dims types) }))

  pub no_option : (scopes : Bindings) → IsProgOption helpers scopes None None
  no_option scopes = record { casts = λ dims types. rule.absent (context_in dims scopes types) }

  pub an_option : (scopes : Bindings) (e : Expr) (f : ProgExpr) → IsProgExpr helpers scopes e f → IsProgOption helpers scopes (Some e) (Some f)
  an_option scopes e f h = record { casts = λ dims types. rule.present (context_in dims scopes types) e f (h.casts dims types) }

  pub value_arm : (t : Ty) (scopes : Bindings) (e u : Expr) (g : ProgExpr) → u ≡ e → IsProgConverted helpers t scopes u g → IsProgValue helpers (Some t) scopes (Some e) (Some g)
  value_arm t scopes e u g same h =
      subst (λ e. IsProgValue helpers (Some t) scopes (Some e) (Some g)) same (subst (λ g. IsProgValue helpers (Some t) scopes (Some u) (Some g)) (sym h.converted) (a_value t scopes u h.value h.casts))

  -- ---- targets

  element_target : (c : Context) (x : List ℕ) (a : ℕ) (t : Ty) (ds : List ℕ) (es : List Expr) (fs : List ProgExpr) (s : Span) → declared_as c x ≡ Some (casts.an_array a t ds) → CastsCallExprs (callees helpers) c es fs
      → 0 < length es → CastsCallTarget (callees helpers) c (record { name = x; at = s; indices = es }) (record { to = object.Array a; at = s; indices = fs }) t
  element_target c x a t ds [] fs s h hs some = absurd (omega (arith, some))
  element_target c x a t ds (e ∷ es) fs s h hs some = rule.to_element c x a t ds e es fs s h hs

  var_target : (c : Context) (x : List ℕ) (v : ℕ) (t : Ty) (es : List Expr) (fs : List ProgExpr) (s : Span) → declared_as c x ≡ Some (casts.a_var v t) → CastsCallExprs (callees helpers) c es fs
      → length es ≡ 0 → CastsCallTarget (callees helpers) c (record { name = x; at = s; indices = es }) (record { to = object.Var v; at = s; indices = fs }) t
  var_target c x v t [] [] s h hs none = rule.to_var c x v t s h
  var_target c x v t [] (f ∷ fs) s h hs none = absurd (omega (arith, same_length hs))
  var_target c x v t (e ∷ es) fs s h hs none = absurd (omega (arith, none))

  target_in : {scopes : Bindings} {x : List ℕ} {n : ℕ} {o : Object} {t : Ty} (es : List Expr) (fs : List ProgExpr) (s : Span) → IsObject scopes x n o t → n ≡ length es → AreProgExprs helpers scopes es fs
      → IsProgTarget helpers scopes (record { name = x; at = s; indices = es }) (record { to = o; at = s; indices = fs }) t
  target_in {scopes} {x} es fs s (a_variable n v t none is) long hs =
      record {
        casts = λ dims types. var_target (context_in dims scopes types) x v t es fs s (found dims types scopes x (binding.Var v t) is) (hs.casts dims types) (sym long ∙ none);
      }
  target_in {scopes} {x} es fs s (an_element n a t some is) long hs =
      record {
        casts = λ dims types. element_target (context_in dims scopes types) x a t (dims a) es fs s (found dims types scopes x (binding.Array a t) is) (hs.casts dims types) (subst (λ n. 0 < n) long some);
      }

  pub target_made : (scopes : Bindings) (x : Target) (n : ℕ) (o : Object) (t : Ty) (us : List Expr) (fs : List ProgExpr) → IsObject scopes x.name n o t → n ≡ length x.indices → us ≡ x.indices
      → AreProgExprs helpers scopes us fs → IsProgTarget helpers scopes x (record { to = o; at = x.at; indices = fs }) t
  target_made scopes x n o t us fs h long same hs = target_in x.indices fs x.at h long (subst (λ us. AreProgExprs helpers scopes us fs) same hs)

  -- ---- what a reference gives

  pub option_is : (scopes : Bindings) (e e2 : Option Expr) (f : Option ProgExpr) → e ≡ e2 → IsProgOption helpers scopes e2 f → IsProgOption helpers scopes e f
  option_is scopes e e2 f is h = subst (λ e. IsProgOption helpers scopes e f) (sym is) h

  pub value_is : (r r2 : Option Ty) (scopes : Bindings) (e e2 : Option Expr) (f : Option ProgExpr) → r ≡ r2 → e ≡ e2 → IsProgValue helpers r2 scopes e2 f → IsProgValue helpers r scopes e f
  value_is r r2 scopes e e2 f same is h = subst (λ r. IsProgValue helpers r scopes e f) (sym same) (subst (λ e. IsProgValue helpers r2 scopes e f) (sym is) h)

-- ---- names

pub name_made : (scopes : Bindings) (x : List ℕ) (v n : ℕ) (t : Ty) (s : Span) (o : Object) (f : ProgExpr) → IsObject scopes x n o t → o ≡ object.Var v → f ≡ prog_of (typed.Var v) t s → IsProgName scopes x s f
name_made scopes x v n t s o f h is made =
    subst (IsProgName scopes x s) (sym made)
    (record { casts = λ gs. record { casts = λ dims types. rule.name (context_in dims scopes types) x v t s (found dims types scopes x (binding.Var v t) (variable_of v h is)) } })

whole_node : (gs : List Helper) (scopes : Bindings) (x : List ℕ) (v : ℕ) (t : Ty) (es : List Expr) (s : Span) → declared_in scopes x ≡ Some (binding.Var v t) → es ≡ []
    → IsProgExpr gs scopes (expr_at (expr.Element x es) s) (prog_of (typed.Var v) t s)
whole_node gs scopes x v t es s h none =
    subst (λ es. IsProgExpr gs scopes (expr_at (expr.Element x es) s) (prog_of (typed.Var v) t s)) (sym none)
    (record { casts = λ dims types. rule.whole (context_in dims scopes types) x v t s (found dims types scopes x (binding.Var v t) h) })

pub whole_made : (scopes : Bindings) (x : List ℕ) (v n : ℕ) (t : Ty) (fs : List ProgExpr) (s : Span) (o : Object) (f : ProgExpr) → IsObject scopes x n o t → n ≡ length fs → o ≡ object.Var v
    → f ≡ prog_of (typed.Var v) t s → IsProgElement scopes x fs s f
whole_made scopes x v n t fs s o f h long is made =
    subst (IsProgElement scopes x fs s) (sym made)
    (record { casts = λ gs es hs. whole_node gs scopes x v t es s (variable_of v h is) (nil_from_length es (sym (long_as gs scopes es fs hs) ∙ sym long ∙ no_index v h is)) })

pub element_made : (scopes : Bindings) (x : List ℕ) (a n : ℕ) (t : Ty) (fs : List ProgExpr) (s : Span) (o : Object) (f : ProgExpr) → IsObject scopes x n o t → o ≡ object.Array a
    → f ≡ prog_of (typed.Element a fs) t s → IsProgElement scopes x fs s f
element_made scopes x a n t fs s o f h is made =
    subst (IsProgElement scopes x fs s) (sym made)
    (record {
      casts = λ gs es hs. record {
        casts = λ dims types. rule.element (context_in dims scopes types) x a t (dims a) es fs s (found dims types scopes x (binding.Array a t) (array_of a h is)) (hs.casts dims types);
      };
    })

-- ---- calls

none_converted : (ts : List Ty) → prog_converted_all ts [] ≡ []
none_converted [] = refl
none_converted (t ∷ ts) = refl

-- one more argument, converted to the type of its parameter
converted_more : (ps : List Param) (fs : List ProgExpr) (f : ProgExpr) (p : Param) → length fs < length ps → p ≡ get_or ps (length fs) p
    → prog_converted_all (types_of ps) (fs ++ f ∷ []) ≡ prog_converted_all (types_of ps) fs ++ prog_converted p.ty f ∷ []
converted_more [] fs f p lt is = absurd (omega (arith, lt))
converted_more (q ∷ ps) [] f p lt is = ap (λ fs. prog_converted q.ty f ∷ fs) (none_converted (types_of ps)) ∙ ap (λ (p : Param). prog_converted p.ty f ∷ []) (sym is)
converted_more (q ∷ ps) (e ∷ fs) f p lt is = ap (λ gs. prog_converted q.ty e ∷ gs) (converted_more ps fs f p (omega (arith, lt)) is)

pub no_arguments : (gs : List Helper) (scopes : Bindings) (ps : List Param) (fs : List ProgExpr) → fs ≡ [] → AreArguments gs scopes ps [] fs
no_arguments gs scopes ps fs h = record { args = []; casts = no_exprs gs scopes [] refl; converted = h ∙ sym (none_converted (types_of ps)) }

pub arguments_long : (gs : List Helper) (scopes : Bindings) (ps : List Param) (es : List Expr) (fs : List ProgExpr) (h : AreArguments gs scopes ps es fs) → length h.args ≡ length es
arguments_long gs scopes ps es fs h = long_as gs scopes es h.args h.casts

pub one_more_argument : (gs : List Helper) (scopes : Bindings) (ps : List Param) (es us : List Expr) (e : Expr) (fs vs : List ProgExpr) (f g : ProgExpr) (i : ℕ) (p : Param) → us ≡ es ++ e ∷ [] → length es ≡ i
    → i < length ps → p ≡ get_or ps i p → AreArguments gs scopes ps es fs → IsProgExpr gs scopes e f → g ≡ prog_converted p.ty f → vs ≡ fs ++ g ∷ [] → AreArguments gs scopes ps us vs
one_more_argument gs scopes ps es us e fs vs f g i p is long lt at hs h made more =
    let many : length hs.args ≡ i = arguments_long gs scopes ps es fs hs ∙ long in
    record {
      args = hs.args ++ f ∷ [];
      casts = one_more_expr gs scopes es us e hs.args (hs.args ++ f ∷ []) f is hs.casts h refl;
      converted = more ∙ ap (λ g. fs ++ g ∷ []) made ∙ ap (λ fs. fs ++ prog_converted p.ty f ∷ []) hs.converted
          ∙ sym (converted_more ps hs.args f p (subst (λ n. n < length ps) (sym many) lt) (subst (λ n. p ≡ get_or ps n p) (sym many) at));
    }

pub call_arm : (gs : List Helper) (scopes : Bindings) (e : Expr) (x : List ℕ) (es us : List Expr) (j : ℕ) (h : Helper) (ps : List Param) (fs : List ProgExpr) (g : ProgExpr) → e.kind ≡ expr.Call x es → us ≡ es
    → declared_in scopes x ≡ None → helper_of (callees gs) x ≡ Some (j, known_of h) → ps ≡ h.params → length es ≡ length h.params → AreArguments gs scopes ps us fs
    → g ≡ prog_of (typed.Call j fs) h.result e.at → IsProgExpr gs scopes e g
call_arm gs scopes e x es us j h ps fs g is same undeclared callee params many hs made =
    let many_types : length es ≡ length (known_of h).params = many ∙ sym (length-map h.params (λ (p : Param). p.ty)) in
    let args : fs ≡ prog_converted_all (known_of h).params hs.args = hs.converted ∙ ap (λ ps. prog_converted_all (types_of ps) hs.args) params in
    expr_is gs scopes e (expr.Call x es) g _ is (made ∙ ap (λ fs. prog_of (typed.Call j fs) h.result e.at) args)
    (record {
      casts = λ dims types. rule.call (context_in dims scopes types) x j (known_of h) es hs.args e.at (unfound dims types scopes x undeclared) callee many_types
          (subst (λ us. CastsCallExprs (callees gs) (context_in dims scopes types) us hs.args) same (hs.casts.casts dims types));
    })

-- the helper of a called name has a parameter for each argument
abbrev callee_in : Option (ℕ × rule.Known) → rule.Known → rule.Known
callee_in None k = k
callee_in (Some p) k = p.1

pub callee_long : (gs : List Helper) (x : List ℕ) (n j : ℕ) (h : Helper) → IsCallee gs x n → helper_of (callees gs) x ≡ Some (j, known_of h) → n ≡ length h.params
callee_long gs x n j h k e =
    let same : k.callee ≡ known_of h = ap (λ o. callee_in o k.callee) (sym k.found ∙ e) in
    k.one_for_each ∙ ap (λ (g : rule.Known). length g.params) same ∙ length-map h.params (λ (p : Param). p.ty)

-- ---- nodes by what they are

pub name_arm : (gs : List Helper) (scopes : Bindings) (e : Expr) (x : List ℕ) (f : ProgExpr) → e.kind ≡ expr.Name x → IsProgName scopes x e.at f → IsProgExpr gs scopes e f
name_arm gs scopes e x f is h = expr_is gs scopes e (expr.Name x) f f is refl (h.casts gs)

pub element_arm : (gs : List Helper) (scopes : Bindings) (e : Expr) (x : List ℕ) (es us : List Expr) (fs : List ProgExpr) (f : ProgExpr) → e.kind ≡ expr.Element x es → us ≡ es → AreProgExprs gs scopes us fs
    → IsProgElement scopes x fs e.at f → IsProgExpr gs scopes e f
element_arm gs scopes e x es us fs f is same hs h = expr_is gs scopes e (expr.Element x es) f f is refl (h.casts gs es (subst (λ us. AreProgExprs gs scopes us fs) same hs))

-- ---- the helper of a name, looked for from the first on

pub callee_step : (hs : List Helper) (x : List ℕ) (i : ℕ) (h : Helper) (b : Bool) → i < length hs → h ≡ get_or hs i h → same_name h.name x ≡ b
    → helper_from i (callees (drop i hs)) x ≡ (if b then Some (i, known_of h) else helper_from (i + 1) (callees (drop (i + 1) hs)) x)
callee_step hs x i h b lt is same =
    ap (λ gs. helper_from i (callees gs) x) (item_here hs i h lt is)
    ∙ ap (λ b. if b then Some (i, known_of h) else helper_from (suc i) (callees (drop (i + 1) hs)) x) same
    ∙ ap (λ n. if b then Some (i, known_of h) else helper_from n (callees (drop (i + 1) hs)) x) next
  where
    next : suc i ≡ i + 1
    next = omega arith

abbrev is_there : Option (ℕ × rule.Known) → Bool
is_there None = false
is_there (Some p) = true

-- no helper is behind the last
pub callee_missing : (hs : List Helper) (x : List ℕ) (i : ℕ) → HasCallee hs x → helper_of (callees hs) x ≡ helper_from i (callees (drop i hs)) x → length hs ≤ i → ⊥
callee_missing hs x i k is end =
    false≢true (ap is_there (sym (is ∙ ap (λ gs. helper_from i (callees gs) x) (drop_of_length-le hs end)) ∙ k.found))
