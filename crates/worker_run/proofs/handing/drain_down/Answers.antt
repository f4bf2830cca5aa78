use Rattle.std.proofs.Common.{◌<◌, length, arith}
use Rattle.net_core.specs.Fire.{tokens_at}
use Rattle.net_core.specs.States.{state_of}
use Rattle.net_worker.specs.Handed.{SameButEndsAt}
use Rattle.worker_run.proofs.HandLemmas.{same_ends, left_cast, linked_cast}
use Rattle.worker_run.proofs.Places.{each_of_two, first_of_two, second_of_two, length_of_two, first_was, second_was}
use Rattle.worker_run.proofs.handing.drain_down.Goals as goal

pub returns-clause-drained : goal.returns-clause-drained
returns-clause-drained c =
    let low = c.split_at_mut-low.result.0.now in
    let high = c.split_at_mut-low.result.1.now in
    let cut = c.split_at_mut-low.ensures in
    let s = c.drain.ensures in
    let some : 0 < length high = omega (arith, cut.back_len, c.requires.within) in
    record {
      long = length_of_two c.args.workers.now low high c.args.to c.drain.new.other c.drain.new.self cut.value;
      each = λ j d l. each_of_two (SameButEndsAt c.args.chan) c.args.workers.now low high c.args.from c.args.to c.drain.new.other c.drain.new.self cut.value cut.front_len c.requires.apart some (same_ends c.args.chan)
          c.index-low-to.result c.index-high-0.result s.that s.this j d l;
      state = s.state;
      left = λ d e. left_cast c.args.chan _ _ _ _ (tokens_at (state_of c.drain.new.into) c.args.chan) (second_was c.args.workers.now low high c.args.from d c.index-high-0.result cut.value cut.front_len some) (first_was c.args.workers.now low high c.args.from c.args.to e c.index-low-to.result cut.value cut.front_len c.requires.apart) s.left;
      link = λ d e. linked_cast c.args.chan _ _ _ _ (second_of_two low high c.args.from c.args.to c.drain.new.other c.drain.new.self d cut.front_len some) (first_of_two low high c.args.from c.args.to c.drain.new.other c.drain.new.self e cut.front_len c.requires.apart) s.link;
    }
