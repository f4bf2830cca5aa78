use Rattle.net_core.specs.States.{state_of}
use Rattle.net_replay.proofs.WayLemmas.{way_then}
use Rattle.net_replay.proofs.visits.visit_mark.Goals as goal

pub loop-at-preserved : goal.loop-at-preserved
loop-at-preserved c = record {
  of = c.visit-count.ensures.of;
  made = way_then c.args.net.now (state_of c.args.state.now) (state_of c.loop-at.state) (state_of c.visit-count.new.state) c.args.bounds.limit c.args.bounds.keep
      c.args.made c.loop-at.count c.visit-count.result c.args.log.now c.loop-at.log c.visit-count.new.log c.loop-at.invariant.made c.visit-count.ensures.made;
}
