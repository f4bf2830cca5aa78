-- What a walk over statements of a program gives for a node, from what it gives for the parts.
use Rattle.std.proofs.Common.{◌≡◌, ℕ, Bool, true, List, [], ◌∷◌, ◌++◌, length, Option, Some, None, sym, ap, subst, ◌∙◌}
use Rattle.el_base.specs.declared.span.Span.{Span}
use Rattle.el_base.specs.declared.ty.Ty.{Ty}
use Rattle.c_ast.specs.declared.tree.Binary.{Binary}
use Rattle.c_ast.specs.declared.tree.Target.{Target}
use Rattle.c_ast.specs.declared.tree.Expr.{Expr}
use Rattle.c_ast.specs.declared.tree.Stmt.{Stmt}
use Rattle.c_ast.specs.declared.tree.StmtKind.{StmtKind}
use Rattle.c_ast.specs.declared.tree.StmtKind.TheVariants as stmt
use Rattle.c_ast.specs.declared.tree.Helper.{Helper}
use Rattle.c_ast.specs.declared.program.ProgTarget.{ProgTarget}
use Rattle.c_ast.specs.declared.program.ProgExpr.{ProgExpr}
use Rattle.c_ast.specs.declared.program.ProgStmt.{ProgStmt}
use Rattle.c_ast.specs.declared.program.ProgStmtKind.{ProgStmtKind}
use Rattle.c_ast.specs.declared.program.ProgStmtKind.TheVariants as act
use Rattle.c_ast.specs.Casts.{Context, with_var, opened, closed, stmt_at, assigned_type}
use Rattle.c_ast.specs.ProgramCasts as rule
use Rattle.c_ast.specs.ProgramCasts.{prog_converted, prog_at, CastsCallExpr, CastsCallStmt, CastsCallHeld, CastsCallStmts}
use Rattle.c_types.specs.declared.known.Binding.TheVariants as binding
use Rattle.c_types.specs.declared.known.Known.{Known}
use Rattle.c_types.specs.Scopes.{is_new_in, with_entry, scopes_by}
use Rattle.c_types.specs.Contexts.{Bindings, declared_by, context_in, context_of}
use Rattle.c_types.specs.ProgramContexts.{callees, IsProgExpr, IsProgOption, IsProgTarget, IsProgValue, no_value, a_value, IsProgStmt, IsProgAct, AreProgStmts, IsProgHeld, IsProgWithin, IsProgInside}
use Rattle.c_types.proofs.ContextLemmas.{with_var_is, outside, IsOpened, IsLeft, in_opened, after_left}
use Rattle.c_types.proofs.ProgramCastLemmas.{held_scopes, stmts_outside, stmt_outside}

module _ (helpers : List Helper) where
  -- a statement of a kind, and its typed statement by what it is
  stmt_is : (r : Option Ty) (k l : Known) (a : Stmt) (kind : StmtKind) (b c : ProgStmt) → a.kind ≡ kind → b ≡ c → IsProgStmt helpers r k (stmt_at kind a.at) c l → IsProgStmt helpers r k a b l
  stmt_is r k l a kind b c is same h =
      subst (λ kind. IsProgStmt helpers r k (record { kind = kind; at = a.at }) b l) (sym is) (subst (λ c. IsProgStmt helpers r k (stmt_at kind a.at) c l) (sym same) h)

  pub block_arm : (r : Option Ty) (k m n l : Known) (a : Stmt) (ss us : List Stmt) (ts : List ProgStmt) (b : ProgStmt) → a.kind ≡ stmt.Block ss → us ≡ ss → IsOpened k m → AreProgStmts helpers r m us ts n → IsLeft n l
      → b ≡ prog_at (act.Block ts) a.at → IsProgStmt helpers r k a b l
  block_arm r k m n l a ss us ts b is same o hs left made =
      stmt_is r k l a (stmt.Block ss) b (prog_at (act.Block ts) a.at) is made
      (record {
        casts = λ dims.
            let d : CastsCallStmts (callees helpers) r (opened (context_of dims k)) ss ts (context_of dims n) =
            subst (λ us. CastsCallStmts (callees helpers) r (opened (context_of dims k)) us ts (context_of dims n)) same (subst (λ c. CastsCallStmts (callees helpers) r c us ts (context_of dims n)) (in_opened dims k m o) (hs.casts dims)) in
            subst (λ c. CastsCallStmt (callees helpers) r (context_of dims k) (stmt_at (stmt.Block ss) a.at) (prog_at (act.Block ts) a.at) c) (sym (after_left dims k n l o.some left (stmts_outside helpers d)))
            (rule.block r (context_of dims k) (context_of dims n) ss ts a.at d);
      })

  declared_value : (r : Option Ty) (c : Context) (x : List ℕ) (dims : ℕ → List ℕ) (types : List Ty) (s : Span) {t : Ty} {scopes : Bindings} {e : Option Expr} {g : Option ProgExpr}
      → context_in dims scopes types ≡ with_var x t c → IsProgValue helpers (Some t) scopes e g
      → CastsCallStmt (callees helpers) r c (stmt_at (stmt.Declare x t e) s) (prog_at (act.Declare (length c.types) g) s) (with_var x t c)
  declared_value r c x dims types s {t} is (no_value q scopes) = rule.declare r c x t s
  declared_value r c x dims types s is (a_value t scopes e f h) =
      rule.declare_value r c x t e f s (subst (λ c. CastsCallExpr (callees helpers) c e f) is (h.casts dims types))

  pub declare_arm : (k l : Known) (x : List ℕ) (t : Ty) (e : Option Expr) (v : ℕ) (g : Option ProgExpr) → v ≡ length k.types → is_new_in k.scopes x ≡ true
      → l.scopes ≡ with_entry x (binding.Var (length k.types) t) k.scopes → l.types ≡ k.types ++ t ∷ [] → IsProgValue helpers (Some t) l.scopes e g → IsProgAct helpers k (stmt.Declare x t e) (act.Declare v g) l
  declare_arm k l x t e v g number new scopes types h =
      subst (λ v. IsProgAct helpers k (stmt.Declare x t e) (act.Declare v g) l) (sym number)
      (record {
        casts = λ r at. record {
          casts = λ dims.
              let after : context_of dims l ≡ with_var x t (context_of dims k) = with_var_is dims k l x t new scopes types in
              subst (λ c. CastsCallStmt (callees helpers) r (context_of dims k) (stmt_at (stmt.Declare x t e) at) (prog_at (act.Declare (length k.types) g) at) c) (sym after)
              (declared_value r (context_of dims k) x dims l.types at after h);
        };
      })

  pub assign_arm : (k : Known) (x : Target) (to : ProgTarget) (t : Ty) (op : Option Binary) (e : Expr) (f g : ProgExpr) → IsProgTarget helpers k.scopes x to t → IsProgExpr helpers k.scopes e f
      → g ≡ prog_converted (assigned_type op t f.ty) f → IsProgAct helpers k (stmt.Assign x op e) (act.Assign to op g) k
  assign_arm k x to t op e f g p q value =
      subst (λ g. IsProgAct helpers k (stmt.Assign x op e) (act.Assign to op g) k) (sym value)
      (record { casts = λ r at. record { casts = λ dims. rule.assign r (context_of dims k) x to t op e f at (p.casts dims k.types) (q.casts dims k.types) } })

  pub step_arm : (k : Known) (x : Target) (to : ProgTarget) (t : Ty) (up : Bool) → IsProgTarget helpers k.scopes x to t → IsProgAct helpers k (stmt.Step x up) (act.Step to up) k
  step_arm k x to t up p = record { casts = λ r at. record { casts = λ dims. rule.step r (context_of dims k) x to t up at (p.casts dims k.types) } }

  pub if_arm : (r : Option Ty) (k m l : Known) (a : Stmt) (e : Expr) (s : Stmt) (o : Option Stmt) (f : ProgExpr) (t : ProgStmt) (p : Option ProgStmt) (b : ProgStmt) → a.kind ≡ stmt.If e s o
      → IsProgExpr helpers k.scopes e f → IsProgInside helpers r k s t m → IsProgHeld helpers r m o p l → b ≡ prog_at (act.If f t p) a.at → IsProgStmt helpers r k a b l
  if_arm r k m l a e s o f t p b is h i j made =
      stmt_is r k l a (stmt.If e s o) b (prog_at (act.If f t p) a.at) is made
      (record {
        casts = λ dims.
            let d : IsProgWithin helpers r (context_of dims k) s t (context_of dims m) = i.casts dims in
            rule.choice r (context_of dims k) d.last (context_of dims l) e f s t o p a.at (h.casts dims k.types) d.casts (subst (λ c. CastsCallHeld (callees helpers) r c o p (context_of dims l)) d.after (j.casts dims));
      })

  pub while_arm : (r : Option Ty) (k l : Known) (a : Stmt) (e : Expr) (s : Stmt) (f : ProgExpr) (t : ProgStmt) (b : ProgStmt) → a.kind ≡ stmt.While e s
      → IsProgExpr helpers k.scopes e f → IsProgInside helpers r k s t l → b ≡ prog_at (act.While f t) a.at → IsProgStmt helpers r k a b l
  while_arm r k l a e s f t b is h i made =
      stmt_is r k l a (stmt.While e s) b (prog_at (act.While f t) a.at) is made
      (record {
        casts = λ dims.
            let d : IsProgWithin helpers r (context_of dims k) s t (context_of dims l) = i.casts dims in
            subst (λ c. CastsCallStmt (callees helpers) r (context_of dims k) (stmt_at (stmt.While e s) a.at) (prog_at (act.While f t) a.at) c) (sym d.after)
            (rule.while_loop r (context_of dims k) d.last e f s t a.at (h.casts dims k.types) d.casts);
      })

  pub do_arm : (r : Option Ty) (k l : Known) (a : Stmt) (e : Expr) (s : Stmt) (f : ProgExpr) (t : ProgStmt) (b : ProgStmt) → a.kind ≡ stmt.DoWhile s e
      → IsProgExpr helpers k.scopes e f → IsProgInside helpers r k s t l → b ≡ prog_at (act.DoWhile t f) a.at → IsProgStmt helpers r k a b l
  do_arm r k l a e s f t b is h i made =
      stmt_is r k l a (stmt.DoWhile s e) b (prog_at (act.DoWhile t f) a.at) is made
      (record {
        casts = λ dims.
            let d : IsProgWithin helpers r (context_of dims k) s t (context_of dims l) = i.casts dims in
            subst (λ c. CastsCallStmt (callees helpers) r (context_of dims k) (stmt_at (stmt.DoWhile s e) a.at) (prog_at (act.DoWhile t f) a.at) c) (sym d.after)
            (rule.do_loop r (context_of dims k) d.last e f s t a.at d.casts (h.casts dims k.types));
      })

  for_in : (r : Option Ty) (dims : ℕ → List ℕ) (k m n n2 n3 l : Known) (s : Span) (ss us : List Stmt) (ts : List ProgStmt) (e : Option Expr) (f : Option ProgExpr) (o : Option Stmt) (p : Option ProgStmt) (body : Stmt) (t : ProgStmt)
      → us ≡ ss → IsOpened k m → AreProgStmts helpers r m us ts n → IsProgOption helpers n.scopes e f → IsProgHeld helpers r n o p n2 → IsProgInside helpers r n2 body t n3 → IsLeft n3 l
      → CastsCallStmt (callees helpers) r (context_of dims k) (stmt_at (stmt.For ss e o body) s) (prog_at (act.For ts f p t) s) (context_of dims l)
  for_in r dims k m n n2 n3 l s ss us ts e f o p body t same opens hs he ho hb left =
      let d : CastsCallStmts (callees helpers) r (opened (context_of dims k)) ss ts (context_of dims n) =
      subst (λ us. CastsCallStmts (callees helpers) r (opened (context_of dims k)) us ts (context_of dims n)) same (subst (λ c. CastsCallStmts (callees helpers) r c us ts (context_of dims n)) (in_opened dims k m opens) (hs.casts dims)) in
      let held : CastsCallHeld (callees helpers) r (context_of dims n) o p (context_of dims n2) = ho.casts dims in
      let b : IsProgWithin helpers r (context_of dims n2) body t (context_of dims n3) = hb.casts dims in
      let out : outside (scopes_by (declared_by dims) n3.scopes) ≡ scopes_by (declared_by dims) k.scopes =
      ap (λ c. outside c.scopes) b.after ∙ ap outside (held_scopes helpers held) ∙ stmts_outside helpers d in
      let last : context_of dims l ≡ closed (context_of dims k) b.last = after_left dims k n3 l opens.some left out ∙ ap (closed (context_of dims k)) b.after in
      subst (λ c. CastsCallStmt (callees helpers) r (context_of dims k) (stmt_at (stmt.For ss e o body) s) (prog_at (act.For ts f p t) s) c) (sym last)
      (rule.for_loop r (context_of dims k) (context_of dims n) (context_of dims n2) b.last ss ts e f o p body t s d (he.casts dims n.types) held b.casts)

  pub for_arm : (r : Option Ty) (k m n n2 n3 l : Known) (a : Stmt) (ss us : List Stmt) (ts : List ProgStmt) (e : Option Expr) (f : Option ProgExpr) (o : Option Stmt) (p : Option ProgStmt) (body : Stmt) (t b : ProgStmt)
      → a.kind ≡ stmt.For ss e o body → us ≡ ss → IsOpened k m → AreProgStmts helpers r m us ts n → IsProgOption helpers n.scopes e f → IsProgHeld helpers r n o p n2 → IsProgInside helpers r n2 body t n3 → IsLeft n3 l
      → b ≡ prog_at (act.For ts f p t) a.at → IsProgStmt helpers r k a b l
  for_arm r k m n n2 n3 l a ss us ts e f o p body t b is same opens hs he ho hb left made =
      stmt_is r k l a (stmt.For ss e o body) b (prog_at (act.For ts f p t) a.at) is made
      (record { casts = λ dims. for_in r dims k m n n2 n3 l a.at ss us ts e f o p body t same opens hs he ho hb left })

  returned_value : (dims : ℕ → List ℕ) (types : List Ty) (s : Span) {r : Option Ty} {scopes : Bindings} {e : Option Expr} {g : Option ProgExpr} → IsProgValue helpers r scopes e g
      → CastsCallStmt (callees helpers) r (context_in dims scopes types) (stmt_at (stmt.Return e) s) (prog_at (act.Return g) s) (context_in dims scopes types)
  returned_value dims types s (no_value r scopes) = rule.return_nothing r (context_in dims scopes types) s
  returned_value dims types s (a_value t scopes e f h) = rule.return_value t (context_in dims scopes types) e f s (h.casts dims types)

  pub return_arm : (r : Option Ty) (k : Known) (a : Stmt) (e : Option Expr) (g : Option ProgExpr) (b : ProgStmt) → a.kind ≡ stmt.Return e → IsProgValue helpers r k.scopes e g → b ≡ prog_at (act.Return g) a.at
      → IsProgStmt helpers r k a b k
  return_arm r k a e g b is h made =
      stmt_is r k k a (stmt.Return e) b (prog_at (act.Return g) a.at) is made (record { casts = λ dims. returned_value dims k.types a.at h })

  pub break_arm : (r : Option Ty) (k : Known) (a : Stmt) (b : ProgStmt) → a.kind ≡ stmt.Break → b ≡ prog_at act.Break a.at → IsProgStmt helpers r k a b k
  break_arm r k a b is made = stmt_is r k k a stmt.Break b (prog_at act.Break a.at) is made (record { casts = λ dims. rule.leaving r (context_of dims k) a.at })

  pub continue_arm : (r : Option Ty) (k : Known) (a : Stmt) (b : ProgStmt) → a.kind ≡ stmt.Continue → b ≡ prog_at act.Continue a.at → IsProgStmt helpers r k a b k
  continue_arm r k a b is made = stmt_is r k k a stmt.Continue b (prog_at act.Continue a.at) is made (record { casts = λ dims. rule.continuing r (context_of dims k) a.at })

  pub empty_arm : (r : Option Ty) (k : Known) (a : Stmt) (b : ProgStmt) → a.kind ≡ stmt.Empty → b ≡ prog_at act.Empty a.at → IsProgStmt helpers r k a b k
  empty_arm r k a b is made = stmt_is r k k a stmt.Empty b (prog_at act.Empty a.at) is made (record { casts = λ dims. rule.empty r (context_of dims k) a.at })

  -- an act where it stands
  pub act_made : (r : Option Ty) (k l : Known) (a : Stmt) (kind : StmtKind) (made : ProgStmtKind) (b : ProgStmt) → a.kind ≡ kind → IsProgAct helpers k kind made l → b ≡ prog_at made a.at → IsProgStmt helpers r k a b l
  act_made r k l a kind made b is h same = stmt_is r k l a kind b (prog_at made a.at) is same (h.casts r a.at)

  -- ---- statements inside statements

  pub inside_arm : (r : Option Ty) (k m n l : Known) (a a2 : Stmt) (b b2 : ProgStmt) → a2 ≡ a → IsOpened k m → IsProgStmt helpers r m a2 b n → IsLeft n l → b2 ≡ b → IsProgInside helpers r k a b2 l
  inside_arm r k m n l a a2 b b2 same o h left made =
      subst (λ b. IsProgInside helpers r k a b l) (sym made)
      (record {
        casts = λ dims.
            let d : CastsCallStmt (callees helpers) r (opened (context_of dims k)) a b (context_of dims n) =
            subst (λ a. CastsCallStmt (callees helpers) r (opened (context_of dims k)) a b (context_of dims n)) same (subst (λ c. CastsCallStmt (callees helpers) r c a2 b (context_of dims n)) (in_opened dims k m o) (h.casts dims)) in
            record { last = context_of dims n; casts = d; after = after_left dims k n l o.some left (stmt_outside helpers d) };
      })

  pub none_held : (r : Option Ty) (k : Known) → IsProgHeld helpers r k None None k
  none_held r k = record { casts = λ dims. rule.no_statement r (context_of dims k) }

  pub one_held : (r : Option Ty) (k l : Known) (a : Stmt) (b : ProgStmt) → IsProgInside helpers r k a b l → IsProgHeld helpers r k (Some a) (Some b) l
  one_held r k l a b h =
      record {
        casts = λ dims.
            let d : IsProgWithin helpers r (context_of dims k) a b (context_of dims l) = h.casts dims in
            subst (λ c. CastsCallHeld (callees helpers) r (context_of dims k) (Some a) (Some b) c) (sym d.after) (rule.a_statement r (context_of dims k) d.last a b d.casts);
      }

  -- ---- statements one after another

  pub no_stmts : (r : Option Ty) (k : Known) (ts : List ProgStmt) → ts ≡ [] → AreProgStmts helpers r k [] ts k
  no_stmts r k ts h = subst (λ ts. AreProgStmts helpers r k [] ts k) (sym h) (record { casts = λ dims. rule.done r (context_of dims k) })

  more_stmts : {r : Option Ty} {c d : Context} {ss : List Stmt} {ts : List ProgStmt} (d2 : Context) (a : Stmt) (b : ProgStmt) → CastsCallStmts (callees helpers) r c ss ts d → CastsCallStmt (callees helpers) r d a b d2
      → CastsCallStmts (callees helpers) r c (ss ++ a ∷ []) (ts ++ b ∷ []) d2
  more_stmts d2 a b (rule.done r c) h = rule.more r c d2 d2 a b [] [] h (rule.done r d2)
  more_stmts d2 a b (rule.more r c d e a2 b2 ss ts p q) h = rule.more r c d d2 a2 b2 (ss ++ a ∷ []) (ts ++ b ∷ []) p (more_stmts d2 a b q h)

  pub one_more_stmt : (r : Option Ty) (k m l : Known) (ss us : List Stmt) (a : Stmt) (ts vs : List ProgStmt) (b : ProgStmt) → us ≡ ss ++ a ∷ [] → AreProgStmts helpers r k ss ts m → IsProgStmt helpers r m a b l
      → vs ≡ ts ++ b ∷ [] → AreProgStmts helpers r k us vs l
  one_more_stmt r k m l ss us a ts vs b is hs h made =
      subst (λ us. AreProgStmts helpers r k us vs l) (sym is) (subst (λ vs. AreProgStmts helpers r k (ss ++ a ∷ []) vs l) (sym made)
      (record { casts = λ dims. more_stmts (context_of dims l) a b (hs.casts dims) (h.casts dims) }))

  pub held_is : (r : Option Ty) (k l : Known) (o o2 : Option Stmt) (p : Option ProgStmt) → o ≡ o2 → IsProgHeld helpers r k o2 p l → IsProgHeld helpers r k o p l
  held_is r k l o o2 p is h = subst (λ o. IsProgHeld helpers r k o p l) (sym is) h
