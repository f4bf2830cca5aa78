use Rattle.net_core.specs.States.{state_of}
use Rattle.net_replay.proofs.WayLemmas.{way_then}
use Rattle.net_replay.proofs.visits.advance.Goals as goal

pub loop-preserved : goal.loop-preserved
loop-preserved c = record {
  of = c.visit_mark-count.ensures.of;
  made = way_then c.args.net.now (state_of c.args.state.now) (state_of c.loop.state) (state_of c.visit_mark-count.new.state) c.args.bounds.limit c.args.bounds.keep
      c.args.made c.loop.count c.visit_mark-count.result c.args.log.now c.loop.log c.visit_mark-count.new.log c.loop.invariant.made c.visit_mark-count.ensures.made;
}
