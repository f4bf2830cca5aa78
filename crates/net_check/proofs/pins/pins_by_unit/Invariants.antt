use Rattle.net_check.proofs.PinLemmas.{ArePinsOf}
use Rattle.net_check.proofs.pins.pins_by_unit.Given as goal

abbrev pub invariant-loop-unit : goal.invariant-loop-unit
invariant-loop-unit l = ArePinsOf l.pins.items l.unit l.net.chans
