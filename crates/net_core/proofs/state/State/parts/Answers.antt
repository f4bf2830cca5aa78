use Rattle.std.proofs.Common.{◌∙◌, ap, map, append-nil}
use Rattle.net_core.specs.States.{array_in}
use Rattle.net_core.specs.private.Restores.{fired_in, queue_part, sent_part}
use Rattle.net_core.proofs.RestoredLemmas.{parts_by_unit, parts_state}
use Rattle.net_core.proofs.state.State.parts.Goals as goal

pub returns-clause-form : goal.returns-clause-form
returns-clause-form c =
    parts_by_unit c.args.net.now c.args.self.now _ c.requires (c.in_ok-sent.ensures ∙ ap (map sent_part) c.as_slice-cells.ensures.value) (c.in_ok-fired.ensures ∙ ap (map fired_in) c.as_slice-cells.ensures.value)
    (c.in_ok-queues.ensures ∙ ap (map queue_part) c.as_slice-cells.ensures.value)

pub returns-clause-state : goal.returns-clause-state
returns-clause-state c =
    parts_state c.args.net.now c.args.self.now _ c.requires (c.in_ok-sent.ensures ∙ ap (map sent_part) c.as_slice-cells.ensures.value) (c.in_ok-fired.ensures ∙ ap (map fired_in) c.as_slice-cells.ensures.value)
    (c.in_ok-queues.ensures ∙ ap (map queue_part) c.as_slice-cells.ensures.value)
    c.in_ok-scalars.ensures (c.in_ok-arrays.ensures ∙ ap (map (array_in c.args.self.now.cells.items)) c.as_slice.ensures.value) c.in_ok-tokens.ensures (c.in_ok-strays.ensures ∙ append-nil _ ∙ c.as_slice-2.ensures.value)
    (c.value-value.ensures c.args.net.now c.requires)
