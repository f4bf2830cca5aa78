use Rattle.std.proofs.Common.{◌≡◌, ◌<◌, length, get_or, ap, sym, subst, arith}
use Rattle.std.proofs.lemmas.List.{get_or_default}
use Rattle.net_core.specs.States.{state_of}
use Rattle.net_core.proofs.ExchangeLemmas.{own_length, owned_inside, owner_alone}
use Rattle.net_types.specs.declared.net.Net.{Net}
use Rattle.net_worker.specs.Handed.{HoldsUnit}
use Rattle.net_worker.specs.Views.{net_of, owner_in}
use Rattle.worker_run.specs.private.Handings.{AreUnitsHanded}
use Rattle.worker_run.proofs.HandLemmas.{hold_set, own_set, unit_more}
use Rattle.worker_run.proofs.handing.hand_units.Goals as goal

pub hand_unit-requires-clause-holds : goal.hand_unit-requires-clause-holds
hand_unit-requires-clause-holds c =
    let same : length c.net.result.now.units ≡ length c.args.net.now.units = ap (λ (n : Net). length n.units) c.net.ensures.net in
    let l : c.loop-unit.unit < length c.args.net.now.units = omega (arith, c.loop-unit-test.true, c.len-unit-end.ensures, same) in
    let within : c.owner-owner.result < length c.loop-unit.workers = omega (arith, c.owner-owner.ensures, c.requires.below c.loop-unit.unit l, c.loop-unit.invariant.handed.long) in
    c.loop-unit.invariant.holds c.owner-owner.result c.index-workers-owner.result within

pub hand_unit-requires-clause-here : goal.hand_unit-requires-clause-here
hand_unit-requires-clause-here c =
    let same : length c.net.result.now.units ≡ length c.args.net.now.units = ap (λ (n : Net). length n.units) c.net.ensures.net in
    let l : c.loop-unit.unit < length c.args.net.now.units = omega (arith, c.loop-unit-test.true, c.len-unit-end.ensures, same) in
    let here : c.loop-unit.unit < length (net_of c.args.tables.now).units = subst (λ (n : Net). c.loop-unit.unit < length n.units) (sym c.requires.net) l in
    let within : owner_in c.args.tables.now c.loop-unit.unit < length c.loop-unit.workers = omega (arith, c.requires.below c.loop-unit.unit l, c.loop-unit.invariant.handed.long) in
    subst (λ o. HoldsUnit (get_or c.loop-unit.workers o c.index-workers-owner.result) c.loop-unit.unit) (sym c.owner-owner.ensures)
    (c.loop-unit.invariant.own.units c.loop-unit.unit c.index-workers-owner.result here within)

pub loop-unit-preserved : goal.loop-unit-preserved
loop-unit-preserved c =
    let same : length c.net.result.now.units ≡ length c.args.net.now.units = ap (λ (n : Net). length n.units) c.net.ensures.net in
    let l : c.loop-unit.unit < length c.args.net.now.units = omega (arith, c.loop-unit-test.true, c.len-unit-end.ensures, same) in
    let xs = c.loop-unit.workers in
    let o = c.owner-owner.result in
    let w = get_or xs o c.index-workers-owner.result in
    let net = c.args.net.now in
    let of = c.loop-unit.invariant.of in
    let handed = c.loop-unit.invariant.handed in
    let within : o < length xs = omega (arith, c.owner-owner.ensures, c.requires.below c.loop-unit.unit l, handed.long) in
    let g = c.hand_unit.ensures in
    record {
      own = own_set c.args.tables.now xs o w c.hand_unit.new.self within (get_or_default xs o c.index-workers-owner.result w within) g.rest.holds c.loop-unit.invariant.own;
      holds = hold_set net xs o c.hand_unit.new.self within c.loop-unit.invariant.holds g.holds;
      of = g.of;
      handed = unit_more net (owner_in c.args.tables.now) c.args.workers.now xs (state_of c.args.into.now) (state_of c.loop-unit.into) (state_of c.hand_unit.new.into) c.loop-unit.unit o w c.hand_unit.new.self handed
          c.owner-owner.ensures within (get_or_default xs o c.index-workers-owner.result w within) (omega (arith, l, own_length net c.loop-unit.into of))
          (λ a p. owned_inside net c.loop-unit.into c.loop-unit.unit a of p) (λ v a p q. owner_alone net c.loop-unit.into v c.loop-unit.unit a of p q) g.state g.held g.rest;
    }

pub returns-clause-handed : goal.returns-clause-handed
returns-clause-handed c =
    let same : length c.net.result.now.units ≡ length c.args.net.now.units = ap (λ (n : Net). length n.units) c.net.ensures.net in
    let e : c.loop-unit.unit ≡ length c.args.net.now.units = omega (arith, c.loop-unit-test.false, c.loop-unit.auto, c.len-unit-end.ensures, same) in
    subst (AreUnitsHanded c.args.net.now (owner_in c.args.tables.now) c.args.workers.now c.loop-unit.workers (state_of c.args.into.now) (state_of c.loop-unit.into)) e c.loop-unit.invariant.handed
