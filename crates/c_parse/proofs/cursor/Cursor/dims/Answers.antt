use Rattle.std.proofs.Common.{[], ◌∷◌, refl}
use Rattle.c_parse.specs.Symbols.{Symbol}
use Rattle.c_parse.proofs.KernelRules.{reads_no_dims, reads_dim_after}
use Rattle.c_parse.proofs.Chains.{stopped, told, went, same_done, same_then, fails_then}
use Rattle.c_parse.proofs.Exits.{untrue}
use Rattle.c_parse.proofs.Openings.{dims_end}
use Rattle.c_parse.proofs.cursor.Cursor.dims.Goals as goal

pub returns-in_err-dim-clause-judged : goal.returns-in_err-dim-clause-judged
returns-in_err-dim-clause-judged c = λ n small. rw (stopped _ _ c.from_residual.ensures.1) (told (Symbol.dims n ∷ []) (fails_then (c.dims.invariant.judged n small) (record { holds = c.in_err-dim.ensures.judged n small (c.dims-test.ensures.0 refl) })))

pub dims-init : goal.dims-init
dims-init c = record {
  read = reads_no_dims _ _ c.new-dims.ensures;
  judged = λ n small. same_done;
}

pub dims-preserved : goal.dims-preserved
dims-preserved c = record {
  read = reads_dim_after _ _ _ _ _ _ c.dims.invariant.read c.in_ok-dim.ensures.derived c.in_ok-push.ensures.ok;
  judged = λ n small. same_then (c.dims.invariant.judged n small) (record { holds = c.in_ok-dim.ensures.judged n small (c.dims-test.ensures.0 refl) });
}

pub returns-clause-judged : goal.returns-clause-judged
returns-clause-judged c = λ n small. went (Symbol.dims n ∷ []) [] (same_then (c.dims.invariant.judged n small) (dims_end n _ (untrue c.dims-test.ensures.1)))
