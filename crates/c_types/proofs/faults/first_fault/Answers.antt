use Rattle.std.proofs.Common.{◌≡◌, List, [], ◌∷◌, Option, subst}
use Rattle.std.proofs.lemmas.Result.{IfOk-weaker}
use Rattle.c_ast.specs.declared.tree.Param.{Param}
use Rattle.c_ast.specs.declared.tree.Stmt.{Stmt}
use Rattle.c_ast.specs.declared.tree.Tree.{Tree}
use Rattle.c_types.specs.declared.fault.Fault.{Fault}
use Rattle.c_types.specs.Places.{first_of}
use Rattle.c_types.specs.Faults.{Sorts, block_faults, tree_faults}
use Rattle.c_types.proofs.faults.first_fault.Goals as goal

-- the fault of a tree by those of its block
by_block : (tree : Tree) (v : Sorts) (ps : List Param) (ss : List Stmt) (f : Option Fault) → v ≡ [] ∷ [] → ps ≡ tree.params → ss ≡ tree.body → f ≡ first_of (block_faults v ps ss tree.result) → f ≡ first_of (tree_faults tree)
by_block tree v ps ss f new params body is =
    subst (λ ss. f ≡ first_of (block_faults ([] ∷ []) tree.params ss tree.result)) body
    (subst (λ ps. f ≡ first_of (block_faults ([] ∷ []) ps ss tree.result)) params (subst (λ v. f ≡ first_of (block_faults v ps ss tree.result)) new is))

pub returns : goal.returns
returns c = IfOk-weaker c.of_block.result _ _ (λ f is. by_block c.args.tree.now _ _ _ f c.new-scopes.ensures c.as_slice-params.ensures c.as_slice-body.ensures is) c.of_block.ensures.fault
