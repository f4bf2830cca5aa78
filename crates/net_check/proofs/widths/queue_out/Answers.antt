use Rattle.std.proofs.Common.{sym, ap, ◌∙◌}
use Rattle.net_check.proofs.WidthLemmas.{queue_low, out_past, out_value, value_of}
use Rattle.net_check.proofs.widths.queue_out.Goals as goal

pub returns-then-place-groups : goal.returns-then-place-groups
returns-then-place-groups c = sym (queue_low c.args.groups _ c.args.place c.if-place-groups.true)

pub returns-in_err-get : goal.returns-in_err-get
returns-in_err-get c = c.from_residual.ensures ∙ sym (out_past c.args.groups c.args.width c.args.ports.now c.args.place c.if-place-groups.false c.in_err-get.ensures.lookup.0)

pub returns-in-Load : goal.returns-in-Load
returns-in-Load c = sym (out_value c.args.groups c.args.width c.args.ports.now c.args.place c.in_ok-get.field-0.now c.if-place-groups.false c.in_ok-get.ensures.lookup.0 c.in_ok-get.ensures.lookup.1 ∙ ap (value_of c.args.width) c.in-Load.is)

pub returns-in-Store : goal.returns-in-Store
returns-in-Store c = sym (out_value c.args.groups c.args.width c.args.ports.now c.args.place c.in_ok-get.field-0.now c.if-place-groups.false c.in_ok-get.ensures.lookup.0 c.in_ok-get.ensures.lookup.1 ∙ ap (value_of c.args.width) c.in-Store.is)
