use Rattle.std.proofs.Common.{◌≡◌, ◌+◌, ◌-◌, ◌^◌, min, [], ◌∷◌, ◌++◌, take, ap, ◌∙◌}
use Rattle.c_ast.specs.Typing.{elements_of}
use Rattle.c_types.specs.Scopes.{with_entry}
use Rattle.c_types.specs.Faults.{sort_of_dims}
use Rattle.c_types.proofs.FirstFaults.{item_more}
use Rattle.c_types.proofs.ParamSteps.{all_elements, one_more_total, one_more_scope, one_more_fault}
use Rattle.c_types.proofs.faults.of_params.Goals as goal

pub loop-param-preserved : goal.loop-param-preserved
loop-param-preserved c =
    let more : take (c.loop-param.param-index + 1) c.args.params.now ≡ take c.loop-param.param-index c.args.params.now ++ c.param-item.result ∷ [] =
    item_more c.args.params.now c.loop-param.param-index c.param-item.result c.loop-param-test.true c.param-item.is in
    let total : c.saturating_add-total.result ≡ min (all_elements (take (c.loop-param.param-index + 1) c.args.params.now)) (2 ^ 64 - 1) =
    one_more_total (take c.loop-param.param-index c.args.params.now) (take (c.loop-param.param-index + 1) c.args.params.now) c.param-item.result c.loop-param.total _ c.elements.result more c.loop-param.invariant.total
    (c.elements.ensures ∙ ap (λ ds. min (elements_of ds) (2 ^ 64 - 1)) c.as_slice-dims.ensures) c.saturating_add-total.ensures in
    record {
      fault = one_more_fault (take c.loop-param.param-index c.args.params.now) (take (c.loop-param.param-index + 1) c.args.params.now) c.param-item.result c.args.scopes.now c.loop-param.scopes c.in_ok-new.new
          c.loop-param.total c.saturating_add-total.result c.elements.result c.loop-param.first c.of_param.result _ more c.loop-param.invariant.fault c.loop-param.invariant.scopes c.in_ok-new.ensures.is total c.of_param.ensures c.earlier-first.ensures;
      scopes = one_more_scope (take c.loop-param.param-index c.args.params.now) (take (c.loop-param.param-index + 1) c.args.params.now) c.param-item.result c.args.scopes.now c.loop-param.scopes _ more c.loop-param.invariant.scopes
          (c.in_ok-new.ensures.scopes ∙ ap (λ s. with_entry c.param-item.result.name s c.loop-param.scopes) (c.sort_of_dims.ensures ∙ ap sort_of_dims c.as_slice-dims.ensures));
      total = total;
    }
