use Rattle.std.proofs.Common.{◌≡◌, vec_len, arith, rules}
use Rattle.net_check.proofs.PeelLemmas.{peeling_init, next_within, awaited_at, peeling_fewer, more_at, peeling_done}
use Rattle.net_check.proofs.cycles.peel.Goals as goal

pub units-init : goal.units-init
units-init c =
    peeling_init c.args.net.now c.in_ok-waits.waits.items c.as_slice.result.now c.in_ok-ready.ready.items c.in_ok-peeled.peeled.items c.len.result c.in_ok-waits.ensures c.as_slice.ensures.value c.in_ok-ready.ensures (search rules)
    (search rules)

pub index_mut-requires : goal.index_mut-requires
index_mut-requires c =
    let l = next_within c.args.net.now c.units.waits.items c.units.ready.items c.pop.new.self.items c.units.peeled.items c.in-Some.unit c.units.invariant c.in-Some.ensures.items in
    let s = c.units.invariant.peeled_size in omega arith

pub index-requires : goal.index-requires
index-requires c =
    let l = next_within c.args.net.now c.units.waits.items c.units.ready.items c.pop.new.self.items c.units.peeled.items c.in-Some.unit c.units.invariant c.in-Some.ensures.items in
    let s = c.in_ok-targets.ensures.size in omega arith

pub release-requires : goal.release-requires
release-requires c =
    awaited_at c.args.net.now c.units.waits.items c.units.ready.items c.pop.new.self.items c.units.peeled.items c.in_ok-targets.targets.items c.in-Some.unit _ c.index.result.now c.units.invariant c.in_ok-targets.ensures
    c.in-Some.ensures.items c.as_slice-in-Some.ensures c.index.ensures

pub units-smaller : goal.units-smaller
units-smaller c = peeling_fewer c.args.net.now c.units.waits.items c.units.ready.items c.pop.new.self.items c.units.peeled.items c.in-Some.unit c.units.invariant c.in-Some.ensures.items

pub units-preserved : goal.units-preserved
units-preserved c =
    more_at c.args.net.now c.units.waits.items c.units.ready.items c.pop.new.self.items c.release.new.waits.items c.release.new.ready.items c.units.peeled.items c.in_ok-targets.targets.items c.in-Some.unit _
    c.index.result.now c.units.invariant c.in_ok-targets.ensures c.in-Some.ensures.items c.as_slice-in-Some.ensures c.index.ensures c.in_ok-release.ensures

pub returns : goal.returns
returns c = peeling_done c.args.net.now c.units.waits.items c.units.ready.items c.units.peeled.items c.requires c.units.invariant (let h : vec_len c.units.ready ≡ 0 = c.in_default.ensures.cases.0 in omega arith)
