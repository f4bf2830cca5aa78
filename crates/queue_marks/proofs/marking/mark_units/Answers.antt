use Rattle.std.proofs.Common.{◌∙◌, ap, slice_set, sym}
use Rattle.std.proofs.lemmas.List.Edits.{map_over_more}
use Rattle.queue_marks.specs.Marked.{with_mark}
use Rattle.queue_marks.proofs.marking.mark_units.Goals as goal

pub loop-unit-preserved : goal.loop-unit-preserved
loop-unit-preserved c =
    ap (λ u. slice_set c.loop-unit.units c.loop-unit.unit-index u) (c.mark_unit.ensures ∙ ap with_mark (sym c.unit-item.is))
    ∙ map_over_more with_mark c.args.units.now c.loop-unit.units c.loop-unit.unit-index c.unit-item.result c.loop-unit-test.true c.loop-unit.invariant c.unit-item.is
