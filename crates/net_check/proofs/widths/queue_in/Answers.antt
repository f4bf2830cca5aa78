use Rattle.std.proofs.Common.{sym, ap, ◌∙◌}
use Rattle.net_check.proofs.WidthLemmas.{queue_low, in_past, in_address, in_data, data_of}
use Rattle.net_check.proofs.widths.queue_in.Goals as goal

pub returns-then-place-groups : goal.returns-then-place-groups
returns-then-place-groups c = sym (queue_low c.args.groups _ c.args.place c.if-place-groups.true)

pub returns-in_err-port : goal.returns-in_err-port
returns-in_err-port c = c.from_residual.ensures ∙ sym (in_past c.args.groups c.args.width c.args.ports.now c.args.place c.if-place-groups.false c.in_err-port.ensures.lookup.0)

pub returns-then-at-eq0 : goal.returns-then-at-eq0
returns-then-at-eq0 c = sym (in_address c.args.groups c.args.width c.args.ports.now c.args.place c.if-place-groups.false c.in_ok-port.ensures.lookup.0 c.if-at-eq0.true)

pub returns-in-Load : goal.returns-in-Load
returns-in-Load c =
    sym (in_data c.args.groups c.args.width c.args.ports.now c.args.place c.in_ok-port.port.now c.if-place-groups.false c.in_ok-port.ensures.lookup.0 c.if-at-eq0.false c.in_ok-port.ensures.lookup.1 ∙ ap (data_of c.args.width) c.in-Load.is)

pub returns-in-Store : goal.returns-in-Store
returns-in-Store c =
    sym (in_data c.args.groups c.args.width c.args.ports.now c.args.place c.in_ok-port.port.now c.if-place-groups.false c.in_ok-port.ensures.lookup.0 c.if-at-eq0.false c.in_ok-port.ensures.lookup.1 ∙ ap (data_of c.args.width) c.in-Store.is)
