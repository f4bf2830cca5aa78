use Rattle.std.proofs.Common.{◌+◌, take, drop}
use Rattle.c_types.proofs.FirstFaults.{item_more}
use Rattle.c_types.proofs.CastParams.{one_more_param}
use Rattle.c_types.proofs.ParameterParts.{split_item, new_param, few_vars, few_arrays}
use Rattle.c_types.proofs.parameters.declare_params.Goals as goal

pub loop-param-preserved : goal.loop-param-preserved
loop-param-preserved c =
    one_more_param c.loop-param.known _ c.loop-param.arrays _ (take c.loop-param.param-index c.args.params.now) _ c.param-item.result
    (item_more c.args.params.now c.loop-param.param-index c.param-item.result c.loop-param-test.true c.param-item.is) c.loop-param.invariant c.in_ok-declare_param.ensures

pub declare_param-requires-clause-new : goal.declare_param-requires-clause-new
declare_param-requires-clause-new c =
    new_param c.loop-param.known c.loop-param.arrays c.args.params.now (take c.loop-param.param-index c.args.params.now) (drop (c.loop-param.param-index + 1) c.args.params.now) c.param-item.result
    (split_item c.args.params.now c.loop-param.param-index c.param-item.result c.loop-param-test.true c.param-item.is) c.requires.typing c.loop-param.invariant

pub declare_param-requires-clause-vars : goal.declare_param-requires-clause-vars
declare_param-requires-clause-vars c =
    few_vars c.loop-param.known c.loop-param.arrays c.args.params.now (take c.loop-param.param-index c.args.params.now) (drop (c.loop-param.param-index + 1) c.args.params.now) c.param-item.result
    (split_item c.args.params.now c.loop-param.param-index c.param-item.result c.loop-param-test.true c.param-item.is) c.requires.numbered c.loop-param.invariant

pub declare_param-requires-clause-arrays : goal.declare_param-requires-clause-arrays
declare_param-requires-clause-arrays c =
    few_arrays c.loop-param.known c.loop-param.arrays c.args.params.now (take c.loop-param.param-index c.args.params.now) (drop (c.loop-param.param-index + 1) c.args.params.now) c.param-item.result
    (split_item c.args.params.now c.loop-param.param-index c.param-item.result c.loop-param-test.true c.param-item.is) c.requires.numbered c.loop-param.invariant
