use Rattle.std.proofs.lemmas.Result.{on_ok_weaker}
use Rattle.std.proofs.Common.{refl, ◌∙◌}
use Rattle.net_text.specs.Pieces.{ports_text, groups_text, mark_text}
use Rattle.net_text.proofs.PrintedLines.{queue_written}
use Rattle.net_text.proofs.units.put_queue.Goals as goal

pub returns-clause-ok : goal.returns-clause-ok
returns-clause-ok c = on_ok_weaker c.put_mark.result
    (queue_written c.args.text.now.items c.args.array c.args.depth (ports_text c.args.ports.now) (groups_text c.args.groups.now) (mark_text c.args.forward)
    _ _ _ _ _ _ _ c.in_ok-put_bytes.ensures.ok (c.in_ok-put_numbers.ensures.ok ∙ rw (c.from.ensures, c.from-2.ensures) refl) c.in_ok-put_bytes-2.ensures.ok c.in_ok-put_ports.ensures.ok c.in_ok-put_bytes-3.ensures.ok c.in_ok-put_groups.ensures.ok)
    c.put_mark.ensures.ok
