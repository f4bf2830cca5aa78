use Rattle.std.proofs.Common.{◌++◌, map, ap, subst, ◌∙◌}
use Rattle.std.specs.List.{All, flat_map}
use Rattle.std.proofs.lemmas.List.{take_all}
use Rattle.std.proofs.lemmas.List.Elements.{All-more}
use Rattle.net_text.specs.Fits.{UnitFits}
use Rattle.net_text.specs.Pieces.{line}
use Rattle.net_text.specs.declared.version.Version.TheVariants.{Two}
use Rattle.net_text.specs.Texts.{unit_parts}
use Rattle.net_text.proofs.PrintedLines.{line_more}
use Rattle.net_text.proofs.printer.put_units.Goals as goal

pub loop-unit-preserved : goal.loop-unit-preserved
loop-unit-preserved c = record {
  written = line_more (unit_parts Two) _ _ _ c.loop-unit.unit-index c.unit-item.result _ c.args.units.now c.loop-unit.invariant.written c.in_ok-put_unit.ensures.ok c.unit-item.is c.loop-unit-test.true;
  fit = All-more UnitFits c.args.units.now c.loop-unit.unit-index c.unit-item.result c.loop-unit-test.true c.loop-unit.invariant.fit (subst UnitFits c.unit-item.is c.in_ok-put_unit.ensures.fits);
}

pub returns : goal.returns
returns c =
    let all = take_all c.loop-unit.unit-index c.args.units.now c.loop-unit-test.false in
    record {
      ok = c.loop-unit.invariant.written ∙ ap (λ xs. c.args.text.now.items ++ flat_map line (map (unit_parts Two) xs)) all;
      fits = subst (All UnitFits) all c.loop-unit.invariant.fit;
    }
