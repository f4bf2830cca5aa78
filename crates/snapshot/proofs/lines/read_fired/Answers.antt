use Rattle.std.proofs.Common.{map, sym, ap, ◌∙◌, arith}
use Rattle.std.proofs.lemmas.Bool.{false≢true}
use Rattle.std.proofs.lemmas.List.{get_or_read}
use Rattle.net_types.specs.declared.net.Unit.TheVariants.{Sink}
use Rattle.net_core.specs.Parts.{fires_once}
use Rattle.snapshot.proofs.Readers.{fired_other}
use Rattle.snapshot.proofs.lines.read_fired.Goals as goal
use Rattle.snapshot.proofs.lines.read_fired.Goals.{else-unit-from-via-then-unit-from+else-fires_once, else-unit-from-via-else-unit-from}

pub returns-else-unit-from : goal.returns-else-unit-from
returns-else-unit-from c =
    fired_other c.args.units.now c.args.from c.in_ok-unit.unit (map (λ w. w.now) c.args.words.now) c.requires c.in_ok-unit.ensures.0 c.in_ok-unit.ensures.1 (λ f.
    (elim c.else-unit-from.branch [
      | else-unit-from-via-then-unit-from+else-fires_once w ↦ false≢true (w.if-fires_once.ensures ∙ ap fires_once (get_or_read c.args.units.now c.in_ok-unit.unit w.index-units-unit.result c.in_ok-unit.ensures.0 w.index-units-unit.is (Sink 0)) ∙ f.once)
      | else-unit-from-via-else-unit-from w ↦ omega (arith, f.from, w.if-unit-from.false)
    ]))
