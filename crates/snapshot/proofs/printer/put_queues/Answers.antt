use Rattle.std.proofs.Common.{◌<◌, ◌++◌, length, get_or, ap, ◌∙◌, arith}
use Rattle.std.proofs.lemmas.List.{get_or_read}
use Rattle.net_types.specs.declared.net.Unit.TheVariants.{Sink}
use Rattle.net_check.specs.Ends.{is_lsq}
use Rattle.net_core.specs.Parts.{no_part}
use Rattle.net_text.specs.Bodies.{text_of}
use Rattle.snapshot.specs.Texts.{queue_lines, part_lines}
use Rattle.snapshot.proofs.Printed.{put_more, put_all}
use Rattle.snapshot.proofs.printer.put_queues.Goals as goal

pub loop-u-preserved : goal.loop-u-preserved
loop-u-preserved c =
    let within : c.loop-u.u < length c.args.queues.now = omega (arith, c.requires, c.loop-u-test.true) in
    let unit = get_or_read c.args.units.now c.loop-u.u c.index-units-u.result c.loop-u-test.true c.index-units-u.is (Sink 0) in
    let queue = get_or_read c.args.queues.now c.loop-u.u c.index-queues-u.result within c.index-queues-u.is no_part in
    put_more (queue_lines (λ k. get_or c.args.units.now k (Sink 0)) c.args.queues.now) c.loop-u.u _ _ _ c.loop-u.invariant
    (c.in_ok-put_part.ensures ∙ ap (λ k. c.loop-u.text.items ++ text_of (part_lines (is_lsq k) c.loop-u.u c.index-queues-u.result)) unit
    ∙ ap (λ q. c.loop-u.text.items ++ text_of (part_lines (is_lsq (get_or c.args.units.now c.loop-u.u (Sink 0))) c.loop-u.u q)) queue)

pub returns : goal.returns
returns c = put_all (queue_lines (λ k. get_or c.args.units.now k (Sink 0)) c.args.queues.now) c.loop-u.u _ _ _ c.loop-u.invariant (omega arith)
