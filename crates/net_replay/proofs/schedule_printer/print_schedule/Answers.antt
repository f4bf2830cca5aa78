use Rattle.std.proofs.lemmas.List.Elements.{All-more}
use Rattle.net_types.specs.declared.firing.Act.TheVariants.{Go}
use Rattle.net_replay.specs.Schedules.{FiringFits}
use Rattle.net_replay.proofs.ScheduleLemmas.{print_more, print_all}
use Rattle.net_replay.proofs.schedule_printer.print_schedule.Goals as goal

pub loop-firing-preserved : goal.loop-firing-preserved
loop-firing-preserved c = record {
  written = print_more c.args.firings.now c.loop-firing.firing-index (record { unit = 0; act = Go }) c.loop-firing.text.items c.put_firing.new.text.items c.loop-firing-test.true c.loop-firing.invariant.written c.in_ok-put_firing.ensures.ok;
  fit = All-more FiringFits c.args.firings.now c.loop-firing.firing-index (record { unit = 0; act = Go }) c.loop-firing-test.true c.loop-firing.invariant.fit c.in_ok-put_firing.ensures.fits;
}

pub returns-clause-reads_back : goal.returns-clause-reads_back
returns-clause-reads_back c = print_all c.args.firings.now c.loop-firing.firing-index c.loop-firing.text.items c.loop-firing.auto.firing-index-end c.loop-firing-test.false c.loop-firing.invariant.written c.loop-firing.invariant.fit
