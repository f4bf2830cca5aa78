-- The arrays that statements of a normal form assign to, in order, by the parts of statements.
use Rattle.std.proofs.Common.{◌≡◌, ℕ, List, [], ◌∷◌, ◌++◌, Option, Some, None, refl, ◌∙◌, ap}
use Rattle.std.specs.List.{flat_map}
use mathlib.Core.Former.{Count}
use denote.Hole.Carrier.{hidden}
use Rattle.c_ast.specs.declared.typed.TypedExpr.{TypedExpr}
use Rattle.c_ast.specs.declared.normal.NormalStmt.{NormalStmt}
use Rattle.c_ast.specs.declared.normal.NormalStmtKind.{NormalStmtKind, Row_of-NormalStmt, end_of-NormalStmt, more_of-NormalStmt, Held-NormalStmtKind-If-3}
use Rattle.c_ast.specs.declared.normal.NormalStmtKind as tree
use Rattle.c_ast.specs.declared.normal.NormalStmtKind.TheVariants as normal
use Rattle.c_ast.specs.declared.normal.NormalStmtKind.TheBlock.{shape-the_row-NormalStmt-0, hidden-the_row-NormalStmt-0, shape-the_row-NormalStmt-1, hidden-the_row-NormalStmt-1, back-NormalStmtKind-If-3}
use Rattle.kernel_graph.specs.Targets.{array_of}

-- in the order of the blocks that are laid for them
abbrev mutual
  pub assigned : NormalStmtKind → List ℕ
  assigned (tree.Block' n row) = row_assigned row
  assigned (tree.Assign target e) = array_of target.to
  assigned (tree.If' n before cond b (more_of-NormalStmt s at end_of-NormalStmt) o) = row_assigned before ++ (assigned s ++ held_assigned o)
  assigned (tree.While' n before cond b (more_of-NormalStmt s at end_of-NormalStmt)) = row_assigned before ++ assigned s
  assigned (tree.DoWhile' b (more_of-NormalStmt s at end_of-NormalStmt) n before cond) = assigned s ++ row_assigned before
  assigned (tree.For' n first m before cond o b (more_of-NormalStmt s at end_of-NormalStmt)) = row_assigned first ++ (row_assigned before ++ (assigned s ++ held_assigned o))
  assigned _ = []

  pub held_assigned : Held-NormalStmtKind-If-3 → List ℕ
  held_assigned tree.None' = []
  held_assigned (tree.Some' b (more_of-NormalStmt s at end_of-NormalStmt)) = assigned s

  pub row_assigned : {n : Count} → Row_of-NormalStmt n → List ℕ
  row_assigned end_of-NormalStmt = []
  row_assigned (more_of-NormalStmt s at row) = assigned s ++ row_assigned row

abbrev pub all_assigned : List NormalStmt → List ℕ
all_assigned ss = flat_map (λ (s : NormalStmt). assigned s.kind) ss

-- what may be absent
abbrev pub any_assigned : Option NormalStmt → List ℕ
any_assigned None = []
any_assigned (Some s) = assigned s.kind

-- ---- statements that are made of lists

row_is : (ss : List NormalStmt) → row_assigned (hidden-the_row-NormalStmt-0 ss) ≡ all_assigned ss
unfolding shape-the_row-NormalStmt-0 hidden-the_row-NormalStmt-0 shape-the_row-NormalStmt-1 hidden-the_row-NormalStmt-1 hidden
row_is [] = refl
row_is (s ∷ ss) = ap (λ xs. assigned s.kind ++ xs) (row_is ss)

held_is : (o : Option NormalStmt) → held_assigned (back-NormalStmtKind-If-3 o) ≡ any_assigned o
unfolding shape-the_row-NormalStmt-0 hidden-the_row-NormalStmt-0 shape-the_row-NormalStmt-1 hidden-the_row-NormalStmt-1 hidden
held_is None = refl
held_is (Some s) = refl

pub block_assigned : (ss : List NormalStmt) → assigned (normal.Block ss) ≡ all_assigned ss
unfolding shape-the_row-NormalStmt-0 hidden-the_row-NormalStmt-0 shape-the_row-NormalStmt-1 hidden-the_row-NormalStmt-1 hidden
block_assigned ss = row_is ss

-- where nothing is assigned to before a condition
pub if_assigned : (before : List NormalStmt) (c : TypedExpr) (s : NormalStmt) (o : Option NormalStmt) (xs ys : List ℕ) → all_assigned before ≡ [] → assigned s.kind ≡ xs → any_assigned o ≡ ys
    → assigned (normal.If before c s o) ≡ xs ++ ys
unfolding shape-the_row-NormalStmt-0 hidden-the_row-NormalStmt-0 shape-the_row-NormalStmt-1 hidden-the_row-NormalStmt-1 hidden
if_assigned before c s o xs ys a b d =
    ap (λ us. us ++ (assigned s.kind ++ held_assigned (back-NormalStmtKind-If-3 o))) (row_is before ∙ a) ∙ ap (λ us. us ++ held_assigned (back-NormalStmtKind-If-3 o)) b ∙ ap (λ us. xs ++ us) (held_is o ∙ d)

pub while_assigned : (before : List NormalStmt) (c : TypedExpr) (s : NormalStmt) (xs : List ℕ) → all_assigned before ≡ [] → assigned s.kind ≡ xs → assigned (normal.While before c s) ≡ xs
unfolding shape-the_row-NormalStmt-0 hidden-the_row-NormalStmt-0 shape-the_row-NormalStmt-1 hidden-the_row-NormalStmt-1 hidden
while_assigned before c s xs a b = ap (λ us. us ++ assigned s.kind) (row_is before ∙ a) ∙ b

pub do_assigned : (s : NormalStmt) (before : List NormalStmt) (c : TypedExpr) (xs : List ℕ) → assigned s.kind ≡ xs → all_assigned before ≡ [] → assigned (normal.DoWhile s before c) ≡ xs ++ []
unfolding shape-the_row-NormalStmt-0 hidden-the_row-NormalStmt-0 shape-the_row-NormalStmt-1 hidden-the_row-NormalStmt-1 hidden
do_assigned s before c xs a b = ap (λ us. us ++ row_assigned (hidden-the_row-NormalStmt-0 before)) a ∙ ap (λ us. xs ++ us) (row_is before ∙ b)

pub for_assigned : (first before : List NormalStmt) (c : Option TypedExpr) (o : Option NormalStmt) (s : NormalStmt) (xs ys zs : List ℕ) → all_assigned first ≡ xs → all_assigned before ≡ [] → assigned s.kind ≡ ys → any_assigned o ≡ zs
    → assigned (normal.For first before c o s) ≡ xs ++ (ys ++ zs)
unfolding shape-the_row-NormalStmt-0 hidden-the_row-NormalStmt-0 shape-the_row-NormalStmt-1 hidden-the_row-NormalStmt-1 hidden
for_assigned first before c o s xs ys zs a b d e =
    let last = held_assigned (back-NormalStmtKind-If-3 o) in
    ap (λ us. us ++ (row_assigned (hidden-the_row-NormalStmt-0 before) ++ (assigned s.kind ++ last))) (row_is first ∙ a) ∙ ap (λ us. xs ++ (us ++ (assigned s.kind ++ last))) (row_is before ∙ b)
    ∙ ap (λ us. xs ++ (us ++ last)) d ∙ ap (λ us. xs ++ (ys ++ us)) (held_is o ∙ e)
