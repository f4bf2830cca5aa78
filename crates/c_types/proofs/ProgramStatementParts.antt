-- The parts of a statement of a program that keeps the typing rules keep them where they stand, and the variables up to their ends can be numbered.
use Rattle.std.proofs.Common.{◌≡◌, ℕ, suc, ◌+◌, ◌<◌, ◌≤◌, ◌^◌, Bool, true, false, List, [], ◌∷◌, ◌++◌, length, drop, get_or, Option, Some, None, IsSome, refl, sym, ap, subst, ◌∙◌, arith}
use Rattle.std.proofs.lemmas.List.Sums.{sum_by-cons}
use Rattle.std.specs.Prelude.{IfSome}
use Rattle.el_base.specs.declared.ty.Ty.{Ty}
use Rattle.c_ast.specs.declared.tree.Binary.{Binary}
use Rattle.c_ast.specs.declared.tree.Target.{Target}
use Rattle.c_ast.specs.declared.tree.Expr.{Expr}
use Rattle.c_ast.specs.declared.tree.Stmt.{Stmt}
use Rattle.c_ast.specs.declared.tree.StmtKind.{StmtKind}
use Rattle.c_ast.specs.declared.tree.StmtKind.TheVariants as stmt
use Rattle.c_ast.specs.declared.tree.Helper.{Helper}
use Rattle.c_ast.specs.declared.program.ProgStmt.{ProgStmt}
use Rattle.c_ast.specs.Nodes.{stmt_nodes, stmts_nodes, held_nodes}
use Rattle.c_ast.specs.Typing.{with_name, names_after, IsNew, IsReturnable, TypingExpr, TypingOption, TypingStmt, TypingList}
use Rattle.c_ast.specs.Programs.{names_after_list}
use Rattle.c_ast.specs.Casts.{stmt_at}
use Rattle.c_ast.proofs.NodeEquations.{stmt_block, stmt_choice, stmt_while_loop, stmt_do_loop, stmt_for_loop}
use Rattle.c_types.specs.declared.known.Binding.TheVariants as binding
use Rattle.c_types.specs.declared.known.Known.{Known}
use Rattle.c_types.specs.Scopes.{is_new_in, with_entry, scopes_by}
use Rattle.c_types.specs.Contexts.{Bindings, declared_by, context_of}
use Rattle.c_types.specs.TypingParts.{names_as, names_in}
use Rattle.c_types.specs.ProgramContexts.{IsProgStmt, AreProgStmts, IsProgHeld, IsProgWithin, IsProgInside}
use Rattle.c_types.specs.ProgramParts.{Around, names_with, TypingExprWith, TypingTargetWith, TypingStmtWith, TypingListWith}
use Rattle.c_types.proofs.ContextLemmas as made
use Rattle.c_types.proofs.UsedNames.{new_in}
use Rattle.c_types.proofs.Items.{item_here}
use Rattle.c_types.proofs.TypingRows.{in_option, in_block, in_if, in_while, in_do, InFor, in_for}
use Rattle.c_types.proofs.ProgramNames.{name_inside, after_inside, after_some, list_inside, list_some}
use Rattle.c_types.proofs.ProgramCastLemmas.{held_scopes}
use Rattle.c_types.proofs.AfterProgramCasts.{entered, names_after_cast, names_after_casts, vars_after_cast, vars_after_held, vars_after_casts}
use Rattle.c_types.proofs.ProgramExpressionParts.{option_typing}

module _ (helpers : List Helper) where
  -- ---- what a kind says

  kind_typing : (r : Option Ty) (v : Bindings) (n : ℕ) (s : Stmt) (k : StmtKind) (h : TypingStmtWith helpers r v n s) → s.kind ≡ k → TypingStmt k r h.loop (names_with h.around v)
  kind_typing r v n s k h is = subst (λ k. TypingStmt k r h.loop (names_with h.around v)) is h.typing

  kind_numbered : (r : Option Ty) (v : Bindings) (n m : ℕ) (s : Stmt) (k : StmtKind) → TypingStmtWith helpers r v n s → s.kind ≡ k → stmt_nodes (stmt_at k s.at) ≡ m → n + m < 2 ^ 32
  kind_numbered r v n m s k h is nodes = subst (λ m. n + m < 2 ^ 32) (ap (λ k. stmt_nodes (stmt_at k s.at)) is ∙ nodes) h.numbered

  -- a part in scopes and after so many variables, by what they are
  list_at : (r : Option Ty) (v w : Bindings) (n m : ℕ) (ss us : List Stmt) → us ≡ ss → w ≡ v → m ≡ n → TypingListWith helpers r v n ss → TypingListWith helpers r w m us
  list_at r v w n m ss us same is long h =
      subst (TypingListWith helpers r w m) (sym same) (subst (λ w. TypingListWith helpers r w m ss) (sym is) (subst (λ m. TypingListWith helpers r v m ss) (sym long) h))

  held_in : (r : Option Ty) (w : Around helpers) (loop : Bool) (v : Bindings) (n : ℕ) (o : Option Stmt) → IfSome o (λ s. TypingStmt s.kind r loop ([] ∷ names_with w v)) → n + held_nodes o < 2 ^ 32
      → IfSome o (TypingStmtWith helpers r ([] ∷ v) n)
  held_in r w loop v n None h few = tt
  held_in r w loop v n (Some s) h few = record { around = w; loop = loop; some = omega arith; typing = h; numbered = few }

  -- ---- names after statements

  pub no_dims : ℕ → List ℕ
  no_dims n = []

  pub length_in : (dims : ℕ → List ℕ) (v : Bindings) → length (names_in dims v) ≡ length v
  length_in dims [] = refl
  length_in dims (s ∷ ss) = ap suc (length_in dims ss)

  some_in : (dims : ℕ → List ℕ) (v : Bindings) → 0 < length v → 0 < length (names_in dims v)
  some_in dims v some = subst (λ n. 0 < n) (sym (length_in dims v)) some

  after_statement : (r : Option Ty) (w : Around helpers) (k l : Known) (a : Stmt) (b : ProgStmt) → 0 < length k.scopes → IsProgStmt helpers r k a b l → names_with w l.scopes ≡ names_after (names_with w k.scopes) a.kind
  after_statement r w k l a b some done =
      ap (λ names. names ++ w.known ∷ []) (names_after_cast helpers (done.casts w.dims)) ∙ sym (after_inside (names_in w.dims k.scopes) a.kind w.known (some_in w.dims k.scopes some))

  some_after : (r : Option Ty) (k l : Known) (a : Stmt) (b : ProgStmt) → 0 < length k.scopes → IsProgStmt helpers r k a b l → 0 < length l.scopes
  some_after r k l a b some done =
      subst (λ n. 0 < n) (sym (ap length (names_after_cast helpers (done.casts no_dims))) ∙ length_in no_dims l.scopes) (after_some (names_in no_dims k.scopes) a.kind (some_in no_dims k.scopes some))

  pub after_statements : (r : Option Ty) (w : Around helpers) (k l : Known) (ss : List Stmt) (ts : List ProgStmt) → 0 < length k.scopes → AreProgStmts helpers r k ss ts l
      → names_with w l.scopes ≡ names_after_list (names_with w k.scopes) ss
  after_statements r w k l ss ts some done =
      ap (λ names. names ++ w.known ∷ []) (names_after_casts helpers (done.casts w.dims)) ∙ sym (list_inside ss (names_in w.dims k.scopes) w.known (some_in w.dims k.scopes some))

  some_at_end : (r : Option Ty) (k l : Known) (ss : List Stmt) (ts : List ProgStmt) → 0 < length k.scopes → AreProgStmts helpers r k ss ts l → 0 < length l.scopes
  some_at_end r k l ss ts some done =
      subst (λ n. 0 < n) (sym (ap length (names_after_casts helpers (done.casts no_dims))) ∙ length_in no_dims l.scopes) (list_some ss (names_in no_dims k.scopes) (some_in no_dims k.scopes some))

  -- ---- blocks and declarations

  pub block_part : (r : Option Ty) (v w : Bindings) (n m : ℕ) (s : Stmt) (ss us : List Stmt) → TypingStmtWith helpers r v n s → s.kind ≡ stmt.Block ss → us ≡ ss → w ≡ [] ∷ v → m ≡ n → TypingListWith helpers r w m us
  block_part r v w n m s ss us h is same entered long =
      let few : n + (1 + stmts_nodes ss) < 2 ^ 32 = kind_numbered r v n (1 + stmts_nodes ss) s (stmt.Block ss) h is (stmt_block ss s.at) in
      list_at r ([] ∷ v) w n m ss us same entered long
      (record { around = h.around; loop = h.loop; some = omega arith; typing = in_block ss r h.loop (names_with h.around v) (kind_typing r v n s (stmt.Block ss) h is); numbered = omega (arith, few) })

  new_with : (w : Around helpers) (v : Bindings) (x : List ℕ) → IsNew (names_with w v) x → is_new_in v x ≡ true
  new_with w [] x h = refl
  new_with w (s ∷ ss) x h = new_in w.dims (s ∷ ss) x h

  pub declared_new : (r : Option Ty) (v : Bindings) (n : ℕ) (s : Stmt) (x : List ℕ) (t : Ty) (e : Option Expr) → TypingStmtWith helpers r v n s → s.kind ≡ stmt.Declare x t e → is_new_in v x ≡ true
  declared_new r v n s x t e h is = new_with h.around v x ((kind_typing r v n s (stmt.Declare x t e) h is).0)

  pub declared_value : (r : Option Ty) (v w : Bindings) (n : ℕ) (s : Stmt) (x : List ℕ) (t : Ty) (e : Option Expr) → TypingStmtWith helpers r v n s → s.kind ≡ stmt.Declare x t e
      → w ≡ with_entry x (binding.Var n t) v → IfSome e (TypingExprWith helpers w)
  declared_value r v w n s x t e h is after =
      let k : IsNew (names_with h.around v) x × TypingOption (with_name x (names_with h.around v)) e = kind_typing r v n s (stmt.Declare x t e) h is in
      let dims : ℕ → List ℕ = h.around.dims in
      let names : names_with h.around w ≡ with_name x (names_with h.around v) =
      ap (names_with h.around) after
      ∙ ap (λ names. names ++ h.around.known ∷ []) (ap names_as (made.entered dims x (binding.Var n t) v (new_with h.around v x k.0)) ∙ entered x n t (scopes_by (declared_by dims) v))
      ∙ sym (name_inside (names_in dims v) x h.around.known (some_in dims v h.some)) in
      option_typing helpers h.around w e (in_option (names_with h.around w) e (subst (λ names. TypingOption names e) (sym names) k.1))

  -- ---- assignments and values

  pub assigned_target : (r : Option Ty) (v : Bindings) (n : ℕ) (s : Stmt) (x : Target) (op : Option Binary) (e : Expr) → TypingStmtWith helpers r v n s → s.kind ≡ stmt.Assign x op e → TypingTargetWith helpers v x
  assigned_target r v n s x op e h is = record { around = h.around; typing = (kind_typing r v n s (stmt.Assign x op e) h is).0 }

  pub assigned_value : (r : Option Ty) (v : Bindings) (n : ℕ) (s : Stmt) (x : Target) (op : Option Binary) (e : Expr) → TypingStmtWith helpers r v n s → s.kind ≡ stmt.Assign x op e → TypingExprWith helpers v e
  assigned_value r v n s x op e h is = record { around = h.around; typing = (kind_typing r v n s (stmt.Assign x op e) h is).1 }

  pub stepped_target : (r : Option Ty) (v : Bindings) (n : ℕ) (s : Stmt) (x : Target) (up : Bool) → TypingStmtWith helpers r v n s → s.kind ≡ stmt.Step x up → TypingTargetWith helpers v x
  stepped_target r v n s x up h is = record { around = h.around; typing = kind_typing r v n s (stmt.Step x up) h is }

  pub returned_value : (r : Option Ty) (v : Bindings) (n : ℕ) (s : Stmt) (e : Option Expr) → TypingStmtWith helpers r v n s → s.kind ≡ stmt.Return e → IfSome e (TypingExprWith helpers v)
  returned_value r v n s e h is = option_typing helpers h.around v e (in_option (names_with h.around v) e (kind_typing r v n s (stmt.Return e) h is).1)

  pub returned_type : (r : Option Ty) (v : Bindings) (n : ℕ) (s : Stmt) (e : Option Expr) → TypingStmtWith helpers r v n s → s.kind ≡ stmt.Return e → IfSome e (λ e. IsSome r)
  returned_type r v n s e h is = by r e (kind_typing r v n s (stmt.Return e) h is).0
    where
      by : (r : Option Ty) (e : Option Expr) → IsReturnable r e → IfSome e (λ e. IsSome r)
      by r None k = tt
      by (Some t) (Some e) k = refl
      by None (Some e) k = absurd k

  -- ---- choices

  -- after a statement that is a block of its own
  inside_names : (r : Option Ty) (w : Around helpers) (k m : Known) (a : Stmt) (b : ProgStmt) → IsProgInside helpers r k a b m → names_with w m.scopes ≡ names_with w k.scopes
  inside_names r w k m a b h =
      let i : IsProgWithin helpers r (context_of w.dims k) a b (context_of w.dims m) = h.casts w.dims in ap (λ c. names_as c.scopes ++ w.known ∷ []) i.after

  inside_vars : (r : Option Ty) (k m : Known) (a : Stmt) (b : ProgStmt) → IsProgInside helpers r k a b m → length m.types ≤ length k.types + stmt_nodes a
  inside_vars r k m a b h =
      let i : IsProgWithin helpers r (context_of no_dims k) a b (context_of no_dims m) = h.casts no_dims in
      let same : length m.types ≡ length i.last.types = ap (λ c. length c.types) i.after in
      omega (arith, same, vars_after_cast helpers i.casts)

  pub if_cond : (r : Option Ty) (v : Bindings) (n : ℕ) (s : Stmt) (e : Expr) (a : Stmt) (o : Option Stmt) → TypingStmtWith helpers r v n s → s.kind ≡ stmt.If e a o → TypingExprWith helpers v e
  if_cond r v n s e a o h is = record { around = h.around; typing = (in_if e a o r h.loop (names_with h.around v) (kind_typing r v n s (stmt.If e a o) h is)).0 }

  pub if_then : (r : Option Ty) (v : Bindings) (n : ℕ) (s : Stmt) (e : Expr) (a : Stmt) (o : Option Stmt) → TypingStmtWith helpers r v n s → s.kind ≡ stmt.If e a o → TypingStmtWith helpers r ([] ∷ v) n a
  if_then r v n s e a o h is =
      let few = kind_numbered r v n _ s (stmt.If e a o) h is (stmt_choice e a o s.at) in
      record { around = h.around; loop = h.loop; some = omega arith; typing = (in_if e a o r h.loop (names_with h.around v) (kind_typing r v n s (stmt.If e a o) h is)).1; numbered = omega (arith, few) }

  pub if_other : (r : Option Ty) (k m : Known) (s : Stmt) (e : Expr) (a : Stmt) (o : Option Stmt) (b : ProgStmt) → TypingStmtWith helpers r k.scopes (length k.types) s → s.kind ≡ stmt.If e a o
      → IsProgInside helpers r k a b m → IfSome o (TypingStmtWith helpers r ([] ∷ m.scopes) (length m.types))
  if_other r k m s e a o b h is done =
      let few = kind_numbered r k.scopes (length k.types) _ s (stmt.If e a o) h is (stmt_choice e a o s.at) in
      let vars : length m.types ≤ length k.types + stmt_nodes a = inside_vars r k m a b done in
      held_in r h.around h.loop m.scopes (length m.types) o
      (subst (λ names. IfSome o (λ s. TypingStmt s.kind r h.loop ([] ∷ names))) (sym (inside_names r h.around k m a b done))
      ((in_if e a o r h.loop (names_with h.around k.scopes) (kind_typing r k.scopes (length k.types) s (stmt.If e a o) h is)).2))
      (omega (arith, few, vars))

  -- ---- loops

  pub while_cond : (r : Option Ty) (v : Bindings) (n : ℕ) (s : Stmt) (e : Expr) (a : Stmt) → TypingStmtWith helpers r v n s → s.kind ≡ stmt.While e a → TypingExprWith helpers v e
  while_cond r v n s e a h is = record { around = h.around; typing = (in_while e a r h.loop (names_with h.around v) (kind_typing r v n s (stmt.While e a) h is)).0 }

  pub while_body : (r : Option Ty) (v : Bindings) (n : ℕ) (s : Stmt) (e : Expr) (a : Stmt) → TypingStmtWith helpers r v n s → s.kind ≡ stmt.While e a → TypingStmtWith helpers r ([] ∷ v) n a
  while_body r v n s e a h is =
      let few = kind_numbered r v n _ s (stmt.While e a) h is (stmt_while_loop e a s.at) in
      record { around = h.around; loop = true; some = omega arith; typing = (in_while e a r h.loop (names_with h.around v) (kind_typing r v n s (stmt.While e a) h is)).1; numbered = omega (arith, few) }

  pub do_cond : (r : Option Ty) (v : Bindings) (n : ℕ) (s a : Stmt) (e : Expr) → TypingStmtWith helpers r v n s → s.kind ≡ stmt.DoWhile a e → TypingExprWith helpers v e
  do_cond r v n s a e h is = record { around = h.around; typing = (in_do a e r h.loop (names_with h.around v) (kind_typing r v n s (stmt.DoWhile a e) h is)).1 }

  pub do_body : (r : Option Ty) (v : Bindings) (n : ℕ) (s a : Stmt) (e : Expr) → TypingStmtWith helpers r v n s → s.kind ≡ stmt.DoWhile a e → TypingStmtWith helpers r ([] ∷ v) n a
  do_body r v n s a e h is =
      let few = kind_numbered r v n _ s (stmt.DoWhile a e) h is (stmt_do_loop a e s.at) in
      record { around = h.around; loop = true; some = omega arith; typing = (in_do a e r h.loop (names_with h.around v) (kind_typing r v n s (stmt.DoWhile a e) h is)).0; numbered = omega (arith, few) }

  -- a for that keeps the rules where such declarations are in force, and the parts of it
  record ForIn (r : Option Ty) (k : Known) (ss : List Stmt) (e : Option Expr) (o : Option Stmt) (a : Stmt) : Type 0 where
    around : Around helpers
    parts : InFor ss e o a r (names_with around k.scopes) (names_after_list ([] ∷ names_with around k.scopes) ss)
    numbered : length k.types + (stmts_nodes ss + held_nodes o + stmt_nodes a) < 2 ^ 32

  for_in : (r : Option Ty) (k : Known) (s : Stmt) (ss : List Stmt) (e : Option Expr) (o : Option Stmt) (a : Stmt) → TypingStmtWith helpers r k.scopes (length k.types) s → s.kind ≡ stmt.For ss e o a
      → ForIn r k ss e o a
  for_in r k s ss e o a h is =
      let few = kind_numbered r k.scopes (length k.types) _ s (stmt.For ss e o a) h is (stmt_for_loop ss e o a s.at) in
      record { around = h.around; parts = in_for ss e o a r h.loop (names_with h.around k.scopes) (kind_typing r k.scopes (length k.types) s (stmt.For ss e o a) h is); numbered = omega (arith, few) }

  pub for_first : (r : Option Ty) (k : Known) (w : Bindings) (m : ℕ) (s : Stmt) (ss us : List Stmt) (e : Option Expr) (o : Option Stmt) (a : Stmt) → TypingStmtWith helpers r k.scopes (length k.types) s
      → s.kind ≡ stmt.For ss e o a → us ≡ ss → w ≡ [] ∷ k.scopes → m ≡ length k.types → TypingListWith helpers r w m us
  for_first r k w m s ss us e o a h is same entered long =
      let f : ForIn r k ss e o a = for_in r k s ss e o a h is in
      let few : length k.types + (stmts_nodes ss + held_nodes o + stmt_nodes a) < 2 ^ 32 = f.numbered in
      list_at r ([] ∷ k.scopes) w (length k.types) m ss us same entered long
      (record { around = f.around; loop = false; some = omega arith; typing = f.parts.first; numbered = omega (arith, few) })

  -- the names and the variables after the first statements of a for
  record AfterFirst (w : Around helpers) (k n : Known) (ss : List Stmt) : Type 0 where
    names : names_with w n.scopes ≡ names_after_list ([] ∷ names_with w k.scopes) ss
    vars : length n.types ≤ length k.types + stmts_nodes ss

  after_first : (r : Option Ty) (w : Around helpers) (k m n : Known) (ss us : List Stmt) (ts : List ProgStmt) → us ≡ ss → m.scopes ≡ [] ∷ k.scopes → m.types ≡ k.types → AreProgStmts helpers r m us ts n
      → AfterFirst w k n ss
  after_first r w k m n ss us ts same entered types done =
      subst (AfterFirst w k n) same
      (let long : length m.types ≡ length k.types = ap length types in
      let some : 0 < length m.scopes = subst (λ v. 0 < length v) (sym entered) (omega arith) in
      record {
        names = after_statements r w m n us ts some done ∙ ap (λ v. names_after_list (names_with w v) us) entered;
        vars = omega (arith, long, vars_after_casts helpers (done.casts w.dims));
      })

  pub for_cond : (r : Option Ty) (k m n : Known) (s : Stmt) (ss us : List Stmt) (ts : List ProgStmt) (e : Option Expr) (o : Option Stmt) (a : Stmt) → TypingStmtWith helpers r k.scopes (length k.types) s
      → s.kind ≡ stmt.For ss e o a → us ≡ ss → m.scopes ≡ [] ∷ k.scopes → m.types ≡ k.types → AreProgStmts helpers r m us ts n → IfSome e (TypingExprWith helpers n.scopes)
  for_cond r k m n s ss us ts e o a h is same entered types done =
      let f : ForIn r k ss e o a = for_in r k s ss e o a h is in
      let after : AfterFirst f.around k n ss = after_first r f.around k m n ss us ts same entered types done in
      option_typing helpers f.around n.scopes e (subst (λ names. IfSome e (TypingExpr names)) (sym after.names) f.parts.cond)

  pub for_step : (r : Option Ty) (k m n : Known) (s : Stmt) (ss us : List Stmt) (ts : List ProgStmt) (e : Option Expr) (o : Option Stmt) (a : Stmt) → TypingStmtWith helpers r k.scopes (length k.types) s
      → s.kind ≡ stmt.For ss e o a → us ≡ ss → m.scopes ≡ [] ∷ k.scopes → m.types ≡ k.types → AreProgStmts helpers r m us ts n → IfSome o (TypingStmtWith helpers r ([] ∷ n.scopes) (length n.types))
  for_step r k m n s ss us ts e o a h is same entered types done =
      let f : ForIn r k ss e o a = for_in r k s ss e o a h is in
      let after : AfterFirst f.around k n ss = after_first r f.around k m n ss us ts same entered types done in
      let few : length k.types + (stmts_nodes ss + held_nodes o + stmt_nodes a) < 2 ^ 32 = f.numbered in
      let vars : length n.types ≤ length k.types + stmts_nodes ss = after.vars in
      held_in r f.around false n.scopes (length n.types) o (subst (λ names. IfSome o (λ s. TypingStmt s.kind r false ([] ∷ names))) (sym after.names) f.parts.step) (omega (arith, few, vars))

  pub for_body : (r : Option Ty) (k m n n2 : Known) (s : Stmt) (ss us : List Stmt) (ts : List ProgStmt) (e : Option Expr) (o : Option Stmt) (p : Option ProgStmt) (a : Stmt)
      → TypingStmtWith helpers r k.scopes (length k.types) s → s.kind ≡ stmt.For ss e o a → us ≡ ss → m.scopes ≡ [] ∷ k.scopes → m.types ≡ k.types → AreProgStmts helpers r m us ts n → IsProgHeld helpers r n o p n2
      → TypingStmtWith helpers r ([] ∷ n2.scopes) (length n2.types) a
  for_body r k m n n2 s ss us ts e o p a h is same entered types done held =
      let f : ForIn r k ss e o a = for_in r k s ss e o a h is in
      let after : AfterFirst f.around k n ss = after_first r f.around k m n ss us ts same entered types done in
      let few : length k.types + (stmts_nodes ss + held_nodes o + stmt_nodes a) < 2 ^ 32 = f.numbered in
      let vars : length n.types ≤ length k.types + stmts_nodes ss = after.vars in
      let vars2 : length n2.types ≤ length n.types + held_nodes o = vars_after_held helpers (held.casts f.around.dims) in
      let names : names_with f.around n2.scopes ≡ names_after_list ([] ∷ names_with f.around k.scopes) ss = ap (λ scopes. names_as scopes ++ f.around.known ∷ []) (held_scopes helpers (held.casts f.around.dims)) ∙ after.names in
      record { around = f.around; loop = true; some = omega arith; typing = subst (λ names. TypingStmt a.kind r true ([] ∷ names)) (sym names) f.parts.body; numbered = omega (arith, few, vars, vars2) }

  -- ---- statements one after another

  pub first_item : (r : Option Ty) (v : Bindings) (n : ℕ) (ss : List Stmt) (i : ℕ) (s : Stmt) → i < length ss → s ≡ get_or ss i s → TypingListWith helpers r v n (drop i ss) → TypingStmtWith helpers r v n s
  first_item r v n ss i s lt is h =
      let k : TypingListWith helpers r v n (s ∷ drop (i + 1) ss) = subst (TypingListWith helpers r v n) (item_here ss i s lt is) h in
      let few : n + stmts_nodes (s ∷ drop (i + 1) ss) < 2 ^ 32 = k.numbered in
      record { around = k.around; loop = k.loop; some = k.some; typing = k.typing.0; numbered = omega (arith, few, sum_by-cons stmt_nodes s (drop (i + 1) ss)) }

  pub other_items : (r : Option Ty) (k l : Known) (ss : List Stmt) (i : ℕ) (s : Stmt) (t : ProgStmt) → i < length ss → s ≡ get_or ss i s → TypingListWith helpers r k.scopes (length k.types) (drop i ss)
      → IsProgStmt helpers r k s t l → TypingListWith helpers r l.scopes (length l.types) (drop (i + 1) ss)
  other_items r k l ss i s t lt is h done =
      let rest : List Stmt = drop (i + 1) ss in
      let j : TypingListWith helpers r k.scopes (length k.types) (s ∷ rest) = subst (TypingListWith helpers r k.scopes (length k.types)) (item_here ss i s lt is) h in
      let few : length k.types + stmts_nodes (s ∷ rest) < 2 ^ 32 = j.numbered in
      let vars : length l.types ≤ length k.types + stmt_nodes s = vars_after_cast helpers (done.casts j.around.dims) in
      record {
        around = j.around;
        loop = j.loop;
        some = some_after r k l s t j.some done;
        typing = subst (TypingList rest r j.loop) (sym (after_statement r j.around k l s t j.some done)) j.typing.1;
        numbered = omega (arith, few, vars, sum_by-cons stmt_nodes s rest);
      }
