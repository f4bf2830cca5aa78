use Rattle.std.proofs.Common.{sym, ap, ◌∙◌}
use Rattle.std.specs.Option.{option_copied_mut}
use Rattle.net_core.specs.Fire.{tokens_at}
use Rattle.net_core.specs.States.{state_of}
use Rattle.net_worker.proofs.Drains.{linked_drained, left_drained}
use Rattle.net_worker.proofs.worker.Worker.drain.Goals as goal

pub drain_into-requires-clause-link : goal.drain_into-requires-clause-link
drain_into-requires-clause-link c =
    c.requires.link c.in-Some.put.now c.in-Some-get_mut.take.now
    (sym c.get_mut.ensures.value ∙ ap option_copied_mut c.in-Some.is)
    (sym c.get_mut-in-Some.ensures.value ∙ ap option_copied_mut c.in-Some-get_mut.is)

pub returns-in-Some-get_mut-clause-left : goal.returns-in-Some-get_mut-clause-left
returns-in-Some-get_mut-clause-left c =
    left_drained c.args.self.now c.args.other.now c.args.chan c.in-Some.put.now c.in-Some-get_mut.take.now (tokens_at (state_of c.drain_into.new.into) c.args.chan)
    (sym c.get_mut.ensures.value ∙ ap option_copied_mut c.in-Some.is)
    (sym c.get_mut-in-Some.ensures.value ∙ ap option_copied_mut c.in-Some-get_mut.is)
    c.drain_into.ensures.left

pub returns-in-Some-get_mut-clause-link : goal.returns-in-Some-get_mut-clause-link
returns-in-Some-get_mut-clause-link c q d is_put is_take =
    linked_drained c.args.self.now c.args.other.now c.args.chan c.drain_into.new.put c.drain_into.new.take c.requires.put c.requires.take c.drain_into.ensures.link q d is_put is_take
