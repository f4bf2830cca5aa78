use Rattle.std.proofs.Common.{[], refl, ap, ◌∙◌}
use Rattle.c_types.specs.TypedParts.{typed_stmts}
use Rattle.c_types.proofs.AloneCasts.{kernel_alone, tree_casts}
use Rattle.c_types.proofs.typed_parts.typed_tree.Goals as goal

pub returns : goal.returns
returns c =
    tree_casts [] c.args.tree.now _ _ refl c.in_ok-kernel.ensures c.in_ok-name.ensures refl refl (c.in_ok-params.ensures ∙ c.as_slice.ensures) c.in_ok-vars.ensures
    (c.in_ok-arrays.ensures ∙ c.as_slice-2.ensures) (c.in_ok-body.ensures ∙ ap typed_stmts c.as_slice-3.ensures)

pub cast_kernel-requires : goal.cast_kernel-requires
cast_kernel-requires c = kernel_alone [] c.args.tree.now refl c.requires.typing c.requires.numbered
