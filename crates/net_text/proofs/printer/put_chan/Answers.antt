use Rattle.std.proofs.Common.{refl, ◌∙◌}
use Rattle.net_text.specs.Pieces.{place_text, control_parts}
use Rattle.std.proofs.lemmas.Result.{on_ok_weaker}
use Rattle.net_text.proofs.PrintedLines.{chan_written}
use Rattle.net_text.proofs.printer.put_chan.Goals as goal

pub returns-clause-ok : goal.returns-clause-ok
returns-clause-ok c = on_ok_weaker c.put_control.result
    (chan_written c.args.text.now.items (place_text c.args.chan.from) (place_text c.args.chan.to) c.args.chan.width c.args.chan.slots c.args.chan.delay (control_parts c.args.chan.ctl)
    _ _ _ _ _ _ c.in_ok-put_bytes.ensures.ok c.in_ok-put_place.ensures.ok c.in_ok-put_bytes-2.ensures.ok c.in_ok-put_place-2.ensures.ok (c.in_ok-put_numbers.ensures.ok ∙ rw (c.from-width.ensures, c.from-slots.ensures, c.from-delay.ensures) refl))
    c.put_control.ensures.ok
