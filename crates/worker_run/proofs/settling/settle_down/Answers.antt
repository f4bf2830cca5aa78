use Rattle.std.proofs.Common.{◌<◌, length, arith}
use Rattle.net_worker.specs.Settles.{IsKeptWith}
use Rattle.net_worker.proofs.Settling.{kept_with_same}
use Rattle.worker_run.proofs.KeptLemmas.{sound_cast}
use Rattle.worker_run.proofs.Places.{each_of_two, first_of_two, second_of_two, length_of_two}
use Rattle.worker_run.proofs.settling.settle_down.Goals as goal

pub returns-clause-kept : goal.returns-clause-kept
returns-clause-kept c =
    let low = c.split_at_mut-low.result.0.now in
    let high = c.split_at_mut-low.result.1.now in
    let cut = c.split_at_mut-low.ensures in
    let s = c.settle.ensures in
    let some : 0 < length high = omega (arith, cut.back_len, c.requires.within) in
    record {
      long = length_of_two c.args.workers.now low high c.args.to c.settle.new.other c.settle.new.self cut.value;
      each = λ j d l. each_of_two IsKeptWith c.args.workers.now low high c.args.from c.args.to c.settle.new.other c.settle.new.self cut.value cut.front_len c.requires.apart some kept_with_same
          c.index-low-to.result c.index-high-0.result s.that s.this j d l;
    }

pub returns-clause-sound : goal.returns-clause-sound
returns-clause-sound c d e =
    let low = c.split_at_mut-low.result.0.now in
    let high = c.split_at_mut-low.result.1.now in
    let cut = c.split_at_mut-low.ensures in
    let some : 0 < length high = omega (arith, cut.back_len, c.requires.within) in
    let one = first_of_two low high c.args.from c.args.to c.settle.new.other c.settle.new.self e cut.front_len c.requires.apart in
    let two = second_of_two low high c.args.from c.args.to c.settle.new.other c.settle.new.self d cut.front_len some in
    sound_cast c.args.chan c.settle.new.self _ c.settle.new.other _ two one c.settle.ensures.sound
