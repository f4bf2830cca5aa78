use Rattle.std.proofs.Common.{◌∷◌, ◌++◌, [], sym, ap, ◌∙◌}
use Rattle.c_types.proofs.CastParams.{array_param}
use Rattle.c_types.proofs.parameters.declare_param.Goals as goal

pub returns : goal.returns
returns c =
    array_param c.args.known.now _ c.args.arrays.now _ c.args.param.now _ (sym c.is_empty.ensures ∙ c.if-is_empty.false) c.len-array.ensures
    c.requires.new c.in_ok-declare_array.ensures.scopes c.declare_array.ensures.types
    (c.in_ok-push.ensures.ok ∙ ap (λ x. c.args.arrays.now ++ x ∷ []) c.in_ok-item.ensures)
