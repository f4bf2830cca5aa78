use Rattle.inputs_text.proofs.RunLemmas.{so_far_none, so_far_more}
use Rattle.inputs_text.proofs.reader.read_lines.Goals as goal

pub lines-init : goal.lines-init
lines-init c = so_far_none c.args.slots.now.entries c.args.bytes.now _ c.requires.none

pub lines-preserved : goal.lines-preserved
lines-preserved c =
    so_far_more c.args.slots.now.entries c.args.bytes.now c.lines.rest.now c.lines.found.entries c.lines.number c.lines.invariant c.in-Some.line.now c.in-Some.after.now c.in-Some.ensures.is
    c.read_line.new.found.entries c.in_ok-rule.field-0 c.in_ok-rule.ensures c.in_default-2.is c.in-Some.ensures.shorter
