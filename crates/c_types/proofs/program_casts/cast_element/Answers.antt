use Rattle.std.proofs.lemmas.Result.{IfOk-weaker}
use Rattle.c_types.proofs.ProgramCastLemmas.{whole_made, element_made}
use Rattle.c_types.proofs.program_casts.cast_element.Goals as goal

pub returns-in-Var-default : goal.returns-in-Var-default
returns-in-Var-default c =
    IfOk-weaker c.prog_node.result _ _ (λ f made. whole_made c.args.scopes.now c.args.name.now c.in-Var-default.var c.len.result c.object.result.1 c.args.indices c.args.at c.object.result.0 f c.object.ensures
    c.len.ensures c.in-Var-default.is-0 made) c.prog_node.ensures

pub returns-in-Array-default : goal.returns-in-Array-default
returns-in-Array-default c =
    IfOk-weaker c.prog_node-in-Array-default.result _ _ (λ f made. element_made c.args.scopes.now c.args.name.now c.in-Array-default.array c.len.result c.object.result.1 c.args.indices c.args.at c.object.result.0 f
    c.object.ensures c.in-Array-default.is-0 made) c.prog_node-in-Array-default.ensures
