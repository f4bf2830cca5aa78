use Rattle.std.proofs.Common.{◌+◌, ◌<◌, arith}
use Rattle.net_core.specs.States.{state_of}
use Rattle.net_replay.specs.private.Advances.{Advances}
use Rattle.net_replay.proofs.WayLemmas.{way_one, way_then}
use Rattle.net_replay.proofs.runner.finish.Goals as goal

pub firings-preserved : goal.firings-preserved
firings-preserved c =
    let l : c.firings.count < c.args.limit = omega (arith, c.firings.invariant.made.may.within) in
    let one : Advances c.args.net.now (state_of c.firings.state) (state_of c.make.new.state) c.args.limit c.args.keep c.firings.count (c.firings.count + 1) c.firings.log c.make.new.log =
    way_one c.args.net.now (state_of c.firings.state) (state_of c.make.new.state) c.args.limit c.args.keep c.firings.count c.in-Some.firing c.firings.log c.make.new.log
    c.firings.invariant.made.may l c.in-Some.ensures.fires c.make.ensures.state c.make.ensures.counts c.make.ensures.logged in
    record {
      of = c.advance-count-in-Some.ensures.of;
      made = way_then c.args.net.now (state_of c.args.state.now) (state_of c.make.new.state) (state_of c.advance-count-in-Some.new.state) c.args.limit c.args.keep
          c.args.made (c.firings.count + 1) c.advance-count-in-Some.result c.args.log.now c.make.new.log c.advance-count-in-Some.new.log
          (way_then c.args.net.now (state_of c.args.state.now) (state_of c.firings.state) (state_of c.make.new.state) c.args.limit c.args.keep
          c.args.made c.firings.count (c.firings.count + 1) c.args.log.now c.firings.log c.make.new.log c.firings.invariant.made one)
          c.advance-count-in-Some.ensures.made;
    }
