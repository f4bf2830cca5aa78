use Rattle.std.proofs.Common.{◌++◌, map, ap, refl, subst, ◌∙◌}
use Rattle.std.specs.List.{All, flat_map}
use Rattle.std.proofs.lemmas.List.{take_all}
use Rattle.std.proofs.lemmas.List.Elements.{All-more}
use Rattle.net_text.specs.Fits.{ChanFits}
use Rattle.net_text.specs.Pieces.{line}
use Rattle.net_text.specs.Texts.{chan_parts}
use Rattle.net_text.proofs.PrintedLines.{line_more}
use Rattle.net_text.proofs.printer.put_chans.Goals as goal

pub loop-chan-preserved : goal.loop-chan-preserved
loop-chan-preserved c = record {
  written = line_more chan_parts _ _ _ c.loop-chan.chan-index _ _ c.args.chans.now c.loop-chan.invariant.written c.in_ok-put_chan.ensures.ok refl c.loop-chan-test.true;
  fit = All-more ChanFits c.args.chans.now c.loop-chan.chan-index _ c.loop-chan-test.true c.loop-chan.invariant.fit c.in_ok-put_chan.ensures.fits;
}

pub returns : goal.returns
returns c =
    let all = take_all c.loop-chan.chan-index c.args.chans.now c.loop-chan-test.false in
    record {
      ok = c.loop-chan.invariant.written ∙ ap (λ xs. c.args.text.now.items ++ flat_map line (map chan_parts xs)) all;
      fits = subst (All ChanFits) all c.loop-chan.invariant.fit;
    }
