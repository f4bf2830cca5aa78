-- The first fault of a statement from those of its parts, and the names in force after it.
use Rattle.std.proofs.Common.{◌≡◌, ℕ, ◌<◌, Bool, true, false, List, [], ◌∷◌, ◌++◌, length, Option, refl, sym, ap, ◌∙◌, arith, append-nil}
use Rattle.el_base.specs.declared.ty.Ty.{Ty}
use Rattle.c_ast.specs.declared.tree.Expr.{Expr}
use Rattle.c_ast.specs.declared.tree.Stmt.{Stmt}
use Rattle.c_ast.specs.declared.tree.StmtKind.{StmtKind, end_of-Stmt, more_of-Stmt}
use Rattle.c_ast.specs.declared.tree.StmtKind as row
use Rattle.c_ast.specs.declared.tree.StmtKind.TheVariants as stmt
use Rattle.c_types.specs.declared.fault.Fault.{Fault}
use Rattle.c_types.specs.declared.sort.Sort.{Sort}
use Rattle.c_types.specs.declared.sort.Sort.TheVariants as sort
use Rattle.c_types.specs.Places.{earlier, first_of}
use Rattle.c_types.specs.Scopes.{with_entry, without_innermost}
use Rattle.c_types.specs.Faults.{Sorts, expr_faults, option_faults, act_faults, stmt_faults, stmts_faults, inner_faults, sorts_after, sorts_after_all}
use Rattle.c_types.proofs.FirstFaults.{of_two, of_three}
use Rattle.c_types.proofs.Layers.{in_block, in_if, in_while, in_do, in_for, stmts_faults-append, sorts_after_all-append}

-- ---- scopes that end

abbrev pub outside : Sorts → Sorts
outside [] = []
outside (s ∷ ss) = ss

pub with_entry_outside : (x : List ℕ) (t : Sort) (v : Sorts) → outside (with_entry x t v) ≡ outside v
with_entry_outside x t [] = refl
with_entry_outside x t (s ∷ ss) = refl

after_outside : (v : Sorts) (k : StmtKind) → outside (sorts_after v k) ≡ outside v
after_outside v (row.Declare x t e) = with_entry_outside x sort.Scalar v
after_outside v (row.If' e b (more_of-Stmt s a end_of-Stmt) o) = refl
after_outside v (row.While' e b (more_of-Stmt s a end_of-Stmt)) = refl
after_outside v (row.DoWhile' b (more_of-Stmt s a end_of-Stmt) e) = refl
after_outside v (row.For' n r e o b (more_of-Stmt s a end_of-Stmt)) = refl
after_outside v k = refl

pub all_outside : (ss : List Stmt) (v : Sorts) → outside (sorts_after_all v ss) ≡ outside v
all_outside [] v = refl
all_outside (s ∷ ss) v = all_outside ss (sorts_after v s.kind) ∙ after_outside v s.kind

pub leaves : (v w : Sorts) → outside w ≡ v → 0 < length v → without_innermost w ≡ v
leaves v [] is some = absurd (omega (arith, ap length is))
leaves v (s ∷ []) is some = absurd (omega (arith, ap length is))
leaves v (s ∷ s2 ∷ ss) is some = is

-- the scopes after one statement, or several, in a scope of their own
pub after_inner : (v w x y : Sorts) (k : StmtKind) → w ≡ [] ∷ v → 0 < length v → x ≡ sorts_after w k → y ≡ without_innermost x → y ≡ v
after_inner v w x y k entered some after left =
    left ∙ leaves v x (ap outside after ∙ after_outside w k ∙ ap outside entered) some

pub after_scope : (v w x y : Sorts) (ss : List Stmt) → w ≡ [] ∷ v → 0 < length v → x ≡ sorts_after_all w ss → y ≡ without_innermost x → y ≡ v
after_scope v w x y ss entered some after left =
    left ∙ leaves v x (ap outside after ∙ all_outside ss w ∙ ap outside entered) some

-- ---- statements

pub block_arm : (s : Stmt) (ss us : List Stmt) (r : Option Ty) (loop : Bool) (v w : Sorts) (f : Option Fault) → s.kind ≡ stmt.Block ss → us ≡ ss → w ≡ [] ∷ v
    → f ≡ first_of (stmts_faults us r loop w) → f ≡ first_of (stmt_faults s r loop v)
block_arm s ss us r loop v w f is same entered h =
    h ∙ ap (λ us. first_of (stmts_faults us r loop w)) same ∙ ap (λ w. first_of (stmts_faults ss r loop w)) entered
    ∙ sym (ap first_of (ap (λ k. act_faults k s.at r loop v) is ∙ in_block ss s.at r loop v))

pub block_scopes : (s : Stmt) (ss us : List Stmt) (v w x y : Sorts) → s.kind ≡ stmt.Block ss → w ≡ [] ∷ v → 0 < length v → x ≡ sorts_after_all w us → y ≡ without_innermost x
    → y ≡ sorts_after v s.kind
block_scopes s ss us v w x y is entered some after left = after_scope v w x y us entered some after left ∙ sym (ap (sorts_after v) is)

pub if_arm : (s : Stmt) (e : Expr) (st : Stmt) (other : Option Stmt) (r : Option Ty) (loop : Bool) (v v2 v3 : Sorts) (a b d n o : Option Fault) → s.kind ≡ stmt.If e st other
    → a ≡ first_of (expr_faults v e) → b ≡ first_of (stmt_faults st r loop ([] ∷ v)) → v2 ≡ v → d ≡ first_of (inner_faults other r loop v2) → n ≡ earlier b d → o ≡ earlier a n
    → o ≡ first_of (stmt_faults s r loop v)
if_arm s e st other r loop v v2 v3 a b d n o is p q same t m h =
    of_three (expr_faults v e) (stmt_faults st r loop ([] ∷ v)) (inner_faults other r loop v) (stmt_faults s r loop v) a b d o n
    (ap (λ k. act_faults k s.at r loop v) is ∙ in_if e st other s.at r loop v) p q (t ∙ ap (λ w. first_of (inner_faults other r loop w)) same) m h

pub while_arm : (s : Stmt) (e : Expr) (st : Stmt) (r : Option Ty) (loop : Bool) (v : Sorts) (a b o : Option Fault) → s.kind ≡ stmt.While e st
    → a ≡ first_of (expr_faults v e) → b ≡ first_of (stmt_faults st r true ([] ∷ v)) → o ≡ earlier a b → o ≡ first_of (stmt_faults s r loop v)
while_arm s e st r loop v a b o is p q h =
    of_two (expr_faults v e) (stmt_faults st r true ([] ∷ v)) (stmt_faults s r loop v) a b o (ap (λ k. act_faults k s.at r loop v) is ∙ in_while e st s.at r loop v) p q h

pub do_arm : (s : Stmt) (st : Stmt) (e : Expr) (r : Option Ty) (loop : Bool) (v v2 : Sorts) (a b o : Option Fault) → s.kind ≡ stmt.DoWhile st e
    → a ≡ first_of (stmt_faults st r true ([] ∷ v)) → v2 ≡ v → b ≡ first_of (expr_faults v2 e) → o ≡ earlier a b → o ≡ first_of (stmt_faults s r loop v)
do_arm s st e r loop v v2 a b o is p same q h =
    of_two (stmt_faults st r true ([] ∷ v)) (expr_faults v e) (stmt_faults s r loop v) a b o (ap (λ k. act_faults k s.at r loop v) is ∙ in_do st e s.at r loop v) p
    (q ∙ ap (λ w. first_of (expr_faults w e)) same) h

pub for_arm : (s : Stmt) (ss us : List Stmt) (e : Option Expr) (o : Option Stmt) (st : Stmt) (r : Option Ty) (loop : Bool) (v w w2 w3 : Sorts) (a b d g m n f : Option Fault)
    → s.kind ≡ stmt.For ss e o st → us ≡ ss → w ≡ [] ∷ v → a ≡ first_of (stmts_faults us r false w) → w2 ≡ sorts_after_all w us
    → b ≡ first_of (option_faults w2 e) → d ≡ first_of (inner_faults o r false w2) → w3 ≡ w2 → g ≡ first_of (stmt_faults st r true ([] ∷ w3))
    → m ≡ earlier d g → n ≡ earlier b m → f ≡ earlier a n → f ≡ first_of (stmt_faults s r loop v)
for_arm s ss us e o st r loop v w w2 w3 a b d g m n f is same entered p after q t stay u lasts rests whole =
    let names : Sorts = sorts_after_all ([] ∷ v) ss in
    let after_is : w2 ≡ names = after ∙ ap (λ w. sorts_after_all w us) entered ∙ ap (sorts_after_all ([] ∷ v)) same in
    of_two (stmts_faults ss r false ([] ∷ v)) (option_faults names e ++ (inner_faults o r false names ++ stmt_faults st r true ([] ∷ names))) (stmt_faults s r loop v) a n f
    (ap (λ k. act_faults k s.at r loop v) is ∙ in_for ss e o st s.at r loop v)
    (p ∙ ap (λ us. first_of (stmts_faults us r false w)) same ∙ ap (λ w. first_of (stmts_faults ss r false w)) entered)
    (of_three (option_faults names e) (inner_faults o r false names) (stmt_faults st r true ([] ∷ names)) (option_faults names e ++ (inner_faults o r false names ++ stmt_faults st r true ([] ∷ names))) b d g n m refl
    (q ∙ ap (λ w. first_of (option_faults w e)) after_is) (t ∙ ap (λ w. first_of (inner_faults o r false w)) after_is) (u ∙ ap (λ w. first_of (stmt_faults st r true ([] ∷ w))) (stay ∙ after_is)) lasts rests)
    whole

pub for_scopes : (s : Stmt) (ss us : List Stmt) (e : Option Expr) (o : Option Stmt) (st : Stmt) (v w w2 w3 w4 y : Sorts) → s.kind ≡ stmt.For ss e o st → w ≡ [] ∷ v → 0 < length v
    → w2 ≡ sorts_after_all w us → w3 ≡ w2 → w4 ≡ w3 → y ≡ without_innermost w4 → y ≡ sorts_after v s.kind
for_scopes s ss us e o st v w w2 w3 w4 y is entered some after stay stay2 left =
    after_scope v w w4 y us entered some (stay2 ∙ stay ∙ after) left ∙ sym (ap (sorts_after v) is)

-- ---- one more statement of a list

pub one_more_stmt : (ss us : List Stmt) (s : Stmt) (r : Option Ty) (loop : Bool) (v w : Sorts) (a b o : Option Fault) → us ≡ ss ++ s ∷ [] → a ≡ first_of (stmts_faults ss r loop v) → w ≡ sorts_after_all v ss
    → b ≡ first_of (stmt_faults s r loop w) → o ≡ earlier a b → o ≡ first_of (stmts_faults us r loop v)
one_more_stmt ss us s r loop v w a b o is p after q h =
    of_two (stmts_faults ss r loop v) (stmt_faults s r loop (sorts_after_all v ss)) (stmts_faults us r loop v) a b o
    (ap (λ us. stmts_faults us r loop v) is ∙ stmts_faults-append ss (s ∷ []) r loop v ∙ ap (λ fs. stmts_faults ss r loop v ++ fs) (append-nil (stmt_faults s r loop (sorts_after_all v ss))))
    p (q ∙ ap (λ w. first_of (stmt_faults s r loop w)) after) h

pub one_more_after : (ss us : List Stmt) (s : Stmt) (v w x : Sorts) → us ≡ ss ++ s ∷ [] → w ≡ sorts_after_all v ss → x ≡ sorts_after w s.kind → x ≡ sorts_after_all v us
one_more_after ss us s v w x is after h = h ∙ ap (λ w. sorts_after w s.kind) after ∙ sym (sorts_after_all-append ss (s ∷ []) v) ∙ sym (ap (sorts_after_all v) is)
