use Rattle.std.proofs.Common.{◌++◌, map, ap, subst, ◌∙◌}
use Rattle.std.specs.List.{All, flat_map}
use Rattle.std.proofs.lemmas.List.{take_all}
use Rattle.std.proofs.lemmas.List.Elements.{All-more}
use Rattle.net_text.specs.Fits.{ArrayFits}
use Rattle.net_text.specs.Pieces.{line}
use Rattle.net_text.specs.Texts.{array_parts}
use Rattle.net_text.proofs.PrintedLines.{line_more}
use Rattle.net_text.proofs.printer.put_arrays.Goals as goal

pub loop-array-preserved : goal.loop-array-preserved
loop-array-preserved c = record {
  written = line_more array_parts _ _ _ c.loop-array.array-index c.array-item.result _ c.args.arrays.now c.loop-array.invariant.written c.in_ok-put_array.ensures.ok c.array-item.is c.loop-array-test.true;
  fit = All-more ArrayFits c.args.arrays.now c.loop-array.array-index c.array-item.result c.loop-array-test.true c.loop-array.invariant.fit (subst ArrayFits c.array-item.is c.in_ok-put_array.ensures.fits);
}

pub returns : goal.returns
returns c =
    let all = take_all c.loop-array.array-index c.args.arrays.now c.loop-array-test.false in
    record {
      ok = c.loop-array.invariant.written ∙ ap (λ xs. c.args.text.now.items ++ flat_map line (map array_parts xs)) all;
      fits = subst (All ArrayFits) all c.loop-array.invariant.fit;
    }
