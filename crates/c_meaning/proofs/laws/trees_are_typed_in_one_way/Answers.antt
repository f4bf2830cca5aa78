use Rattle.std.proofs.Common.{sym, ◌∙◌, subst}
use Rattle.c_meaning.specs.Lawful.{Lawful}
use Rattle.c_meaning.proofs.Elaboration.{cast_tree, one_tree}
use Rattle.c_meaning.proofs.Existence.{tree_casts}
use Rattle.c_meaning.proofs.LawfulKernels.{tree_lawful}
use Rattle.c_meaning.proofs.laws.trees_are_typed_in_one_way.Goals as goal

pub returns : goal.returns
returns c = record {
  at_least_one = λ tree h. (cast_tree tree, tree_casts tree h);
  at_most_one = λ tree k l p q. one_tree p ∙ sym (one_tree q);
  lawful = λ tree k h f p. subst Lawful (sym (one_tree p)) (tree_lawful tree h f);
}
