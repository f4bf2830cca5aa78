use Rattle.std.proofs.Common.{◌∙◌, ap, sym, arith}
use Rattle.std.specs.Option.{option_copied_mut}
use Rattle.net_worker.proofs.Turning.{put_asked_one}
use Rattle.net_worker.proofs.waiting.has_credit.Goals as goal

pub returns-in-Some-clause-looked : goal.returns-in-Some-clause-looked
returns-in-Some-clause-looked c =
    put_asked_one c.args.puts.now.items c.args.chan c.in-Some.end.now c.ready.new.self c.requires (sym c.get_mut.ensures.value ∙ ap option_copied_mut c.in-Some.is)
    (record { same = c.ready.ensures.same; received = c.ready.ensures.received; put = c.ready.ensures.put; slots_shown = omega (arith, c.ready.ensures.other_count); messages_shown = c.ready.ensures.count })
