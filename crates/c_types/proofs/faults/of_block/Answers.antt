use Rattle.std.proofs.Common.{false, ap, ◌∙◌, refl}
use Rattle.c_types.specs.Places.{first_of}
use Rattle.c_types.specs.Faults.{params_faults, stmts_faults, sorts_after_params, sorts_after_all, block_faults}
use Rattle.c_types.proofs.FirstFaults.{of_two}
use Rattle.c_types.proofs.faults.of_block.Goals as goal

pub returns-clause-fault : goal.returns-clause-fault
returns-clause-fault c =
    of_two (params_faults c.args.params.now c.args.scopes.now 0) (stmts_faults c.args.stmts.now c.args.returned false (sorts_after_params c.args.scopes.now c.args.params.now))
    (block_faults c.args.scopes.now c.args.params.now c.args.stmts.now c.args.returned) _ _ _ refl c.in_ok-in_params.ensures.fault
    (c.in_ok-in_stmts.ensures.fault ∙ ap (λ v. first_of (stmts_faults c.args.stmts.now c.args.returned false v)) c.in_ok-in_params.ensures.scopes) c.earlier.ensures

pub returns-clause-scopes : goal.returns-clause-scopes
returns-clause-scopes c = c.in_ok-in_stmts.ensures.scopes ∙ ap (λ v. sorts_after_all v c.args.stmts.now) c.in_ok-in_params.ensures.scopes
