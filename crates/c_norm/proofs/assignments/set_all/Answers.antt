use Rattle.std.proofs.Common.{length, arith, refl}
use Rattle.c_ast.specs.Nodes.{typed_expr_nodes}
use Rattle.c_norm.specs.Expand.{set_all}
use Rattle.c_norm.proofs.Coded.{few_one, few_set_all, goes_first, part_room, room_next, set_next, goes_end}
use Rattle.c_norm.proofs.assignments.set_all.Goals as goal

pub loop-e-init : goal.loop-e-init
loop-e-init c = record { goes = goes_first (set_all (length c.args.vars.now) c.args.exprs.now) c.args.before.now c.args.vars.now _ c.new-rests.ensures; room = omega arith }

pub set_one-requires : goal.set_one-requires
set_one-requires c = part_room typed_expr_nodes c.args.exprs.now c.loop-e.e-index c.e-item.result c.args.vars.now c.loop-e.vars c.loop-e-test.true c.e-item.is c.loop-e.invariant.room c.requires

pub loop-e-preserved : goal.loop-e-preserved
loop-e-preserved c = record {
  goes = set_next c.args.exprs.now c.loop-e.e-index c.e-item.result _ _ _ _ c.loop-e.vars _ _ _ _ _ c.loop-e-test.true c.e-item.is c.loop-e.invariant.goes c.in_ok-set_one.ensures c.in_ok-push.ensures.ok;
  room = room_next typed_expr_nodes c.args.exprs.now c.loop-e.e-index c.e-item.result c.args.vars.now c.loop-e.vars _ c.loop-e-test.true c.e-item.is c.loop-e.invariant.room (few_one c.e-item.result c.loop-e.before c.loop-e.vars _ _ _ c.in_ok-set_one.ensures);
}

pub returns-clause-set : goal.returns-clause-set
returns-clause-set c = goes_end (set_all (length c.loop-e.vars)) c.args.exprs.now c.loop-e.e-index _ _ _ _ _ _ refl (omega (arith, c.loop-e-test.false)) c.loop-e.invariant.goes

pub returns-clause-few : goal.returns-clause-few
returns-clause-few c = few_set_all c.args.exprs.now c.args.before.now c.args.vars.now _ _ _ (returns-clause-set c)
