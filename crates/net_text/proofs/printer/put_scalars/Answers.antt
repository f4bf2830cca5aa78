use Rattle.std.proofs.Common.{◌++◌, map, ap, subst, ◌∙◌}
use Rattle.std.specs.List.{All, flat_map}
use Rattle.std.proofs.lemmas.List.{take_all}
use Rattle.std.proofs.lemmas.List.Elements.{All-more}
use Rattle.net_text.specs.Fits.{ScalarFits}
use Rattle.net_text.specs.Pieces.{line}
use Rattle.net_text.specs.Texts.{scalar_parts}
use Rattle.net_text.proofs.PrintedLines.{line_more}
use Rattle.net_text.proofs.printer.put_scalars.Goals as goal

pub loop-scalar-preserved : goal.loop-scalar-preserved
loop-scalar-preserved c = record {
  written = line_more scalar_parts _ _ _ c.loop-scalar.scalar-index c.scalar-item.result _ c.args.scalars.now c.loop-scalar.invariant.written c.in_ok-put_scalar.ensures.ok c.scalar-item.is c.loop-scalar-test.true;
  fit = All-more ScalarFits c.args.scalars.now c.loop-scalar.scalar-index c.scalar-item.result c.loop-scalar-test.true c.loop-scalar.invariant.fit (subst ScalarFits c.scalar-item.is c.in_ok-put_scalar.ensures.fits);
}

pub returns : goal.returns
returns c =
    let all = take_all c.loop-scalar.scalar-index c.args.scalars.now c.loop-scalar-test.false in
    record {
      ok = c.loop-scalar.invariant.written ∙ ap (λ xs. c.args.text.now.items ++ flat_map line (map scalar_parts xs)) all;
      fits = subst (All ScalarFits) all c.loop-scalar.invariant.fit;
    }
