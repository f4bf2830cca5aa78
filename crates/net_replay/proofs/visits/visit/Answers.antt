use Rattle.net_core.specs.States.{state_of}
use Rattle.net_replay.proofs.WayLemmas.{way_then}
use Rattle.net_replay.proofs.visits.visit.Goals as goal

pub loop-preserved : goal.loop-preserved
loop-preserved c = record {
  of = c.try_act-count.ensures.of;
  made = way_then c.args.net.now (state_of c.args.state.now) (state_of c.loop.state) (state_of c.try_act-count.new.state) c.args.bounds.limit c.args.bounds.keep
      c.args.made c.loop.count c.try_act-count.result c.args.log.now c.loop.log c.try_act-count.new.log c.loop.invariant.made c.try_act-count.ensures.made;
}
