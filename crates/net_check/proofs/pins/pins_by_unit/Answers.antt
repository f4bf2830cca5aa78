use Rattle.std.proofs.Common.{length, ap, arith}
use Rattle.net_check.proofs.PinLemmas.{all_records}
use Rattle.net_check.proofs.pins.pins_by_unit.Goals as goal

pub returns : goal.returns
returns c =
    let e = ap length c.as_slice-units.ensures in
    let f = c.loop-unit-test.false in
    all_records c.args.net.now c.loop-unit.pins.items c.loop-unit.unit c.requires.checked (omega arith) c.loop-unit.invariant
