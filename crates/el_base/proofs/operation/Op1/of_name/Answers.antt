use Rattle.std.proofs.Common.{Some, ap, ◌∙◌, arith}
use Rattle.el_base.specs.declared.operation.TheConstants.{OP1S}
use Rattle.el_base.specs.Names.{op1_name}
use Rattle.el_base.proofs.NameLemmas.{none_more, op1_name_injective, op1_place, same_named}
use Rattle.el_base.proofs.operation.Op1.of_name.Goals as goal

pub loop-op-preserved : goal.loop-op-preserved
loop-op-preserved c = none_more op1_name c.args.bytes.now OP1S c.loop-op.op-index _ _ _ (omega (arith, c.loop-op-test.true)) c.loop-op.invariant c.if-eq.false c.eq.ensures (c.as_bytes.ensures.value ∙ c.name.ensures)

pub returns-then-eq-clause-every : goal.returns-then-eq-clause-every
returns-then-eq-clause-every c op e = ap Some (same_named op1_name op1_name_injective _ op c.args.bytes.now _ _ c.if-eq.true c.eq.ensures (c.as_bytes.ensures.value ∙ c.name.ensures) e)

pub returns-clause-every : goal.returns-clause-every
returns-clause-every c op e =
    let place = op1_place op in
    absurd (c.loop-op.invariant place.0 op (omega (arith, c.loop-op-test.false, place.1)) (ap op1_name (place.2 op) ∙ e))
