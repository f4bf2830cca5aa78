use Rattle.c_ast.proofs.CastNodes.{tree_same}
use Rattle.c_ast.proofs.laws.typed_trees_have_as_many_nodes.Goals as goal

pub returns : goal.returns
returns c = tree_same
