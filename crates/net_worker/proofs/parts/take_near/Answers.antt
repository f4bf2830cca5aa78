use Rattle.std.proofs.Common.{◌∙◌, sym, ap, refl}
use Rattle.std.specs.Option.{option_copied_mut}
use Rattle.elastic_link.specs.Ends.{messages_sent, credits_owed, repaid_stamp}
use Rattle.net_worker.proofs.Paying.{take_step_set}
use Rattle.net_worker.proofs.parts.take_near.Goals as goal

pub returns-in-Some-clause-taken : goal.returns-in-Some-clause-taken
returns-in-Some-clause-taken c =
    take_step_set c.args.takes.now.items c.args.chan c.args.stamp c.in-Some.end.now c.take_with.new.end
    (sym c.get_mut.ensures.value ∙ ap option_copied_mut c.in-Some.is)
    (record {
      same = c.take_with.ensures.same;
      token = c.take_with.result;
      was = c.take_with.ensures.was_held;
      taken = c.take_with.ensures.taken;
      held = c.take_with.ensures.held;
      messages = record { sent = messages_sent c.in-Some.end.now; owed = credits_owed c.in-Some.end.now; last = repaid_stamp c.in-Some.end.now; was = refl; is = c.take_with.ensures.messages };
      repaid = c.take_with.ensures.all;
      stamp = c.take_with.ensures.last;
    })
