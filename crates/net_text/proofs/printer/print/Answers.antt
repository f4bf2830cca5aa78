use Rattle.std.proofs.Common.{◌++◌, ap, map, ◌∙◌, subst}
use Rattle.std.specs.List.{All, flat_map}
use Rattle.net_text.specs.Fits.{NetFits, UnitFits, ChanFits}
use Rattle.net_text.specs.Pieces.{line}
use Rattle.net_text.specs.declared.version.Version.TheVariants.{Two}
use Rattle.net_text.specs.Texts.{NetText, header_lines, unit_parts, chan_parts}
use Rattle.net_text.proofs.Only.{reads_back}
use Rattle.net_text.proofs.PrintedLines.{text_written}
use Rattle.net_text.proofs.printer.print.Goals as goal

pub returns : goal.returns
returns c =
    let net = c.args.net.now in
    let written : NetText net c.put_line.new.text.items = text_written net _ _ _ _ (c.in_ok-put_header.ensures.ok ∙ ap (λ t. t ++ flat_map line (header_lines Two net)) c.new-text.ensures.items)
    (c.in_ok-put_units.ensures.ok ∙ ap (λ us. c.put_header.new.text.items ++ flat_map line (map (unit_parts Two) us)) c.as_slice.ensures)
    (c.in_ok-put_chans.ensures.ok ∙ ap (λ cs. c.put_units.new.text.items ++ flat_map line (map chan_parts cs)) c.as_slice-2.ensures)
    c.in_ok-put_line.ensures.ok in
    let header = c.in_ok-put_header.ensures.fits in
    let fits : NetFits net = record {
      name = header.name;
      scalars = header.scalars;
      arrays = header.arrays;
      units = subst (All UnitFits) c.as_slice.ensures c.in_ok-put_units.ensures.fits;
      chans = subst (All ChanFits) c.as_slice-2.ensures c.in_ok-put_chans.ensures.fits;
    } in
    record { text = written; fits = fits; reads_back = reads_back _ net fits written }
