use Rattle.std.proofs.Common.{Some, ap, ◌∙◌, arith}
use Rattle.el_base.specs.declared.operation.TheConstants.{OP2S}
use Rattle.el_base.specs.Names.{op2_name}
use Rattle.el_base.proofs.NameLemmas.{none_more, op2_name_injective, op2_place, same_named}
use Rattle.el_base.proofs.operation.Op2.of_name.Goals as goal

pub loop-op-preserved : goal.loop-op-preserved
loop-op-preserved c = none_more op2_name c.args.bytes.now OP2S c.loop-op.op-index _ _ _ (omega (arith, c.loop-op-test.true)) c.loop-op.invariant c.if-eq.false c.eq.ensures (c.as_bytes.ensures.value ∙ c.name.ensures)

pub returns-then-eq-clause-every : goal.returns-then-eq-clause-every
returns-then-eq-clause-every c op e = ap Some (same_named op2_name op2_name_injective _ op c.args.bytes.now _ _ c.if-eq.true c.eq.ensures (c.as_bytes.ensures.value ∙ c.name.ensures) e)

pub returns-clause-every : goal.returns-clause-every
returns-clause-every c op e =
    let place = op2_place op in
    absurd (c.loop-op.invariant place.0 op (omega (arith, c.loop-op-test.false, place.1)) (ap op2_name (place.2 op) ∙ e))
