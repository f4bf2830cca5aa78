use Rattle.std.proofs.Common.{◌∙◌, ap, refl, length, replicate, None}
use Rattle.net_worker.proofs.NewWorkers.{begun_made}
use Rattle.std.proofs.Common.{get_or}
use Rattle.net_worker.proofs.EndPlaces.{nothing_there}
use Rattle.net_worker.proofs.worker.Worker.new.Goals as goal

pub returns-clause-made : goal.returns-clause-made
returns-clause-made c =
    let n = c.len-chans.ensures ∙ ap (λ x. length x.chans) c.net.ensures.net in
    begun_made c.args.tables.now _ (record {
      of = c.in_ok-portion.ensures.of;
      own = c.in_ok-portion.ensures.own;
      state = c.in_ok-portion.ensures.state;
      counts = c.in_ok-portion.ensures.counts;
      log = c.in_ok-log.ensures.items;
      room = c.in_ok-log.ensures.room;
      clock = refl;
      resting = refl;
      puts = c.in_ok-puts.ensures.items ∙ ap (λ k. replicate k None) n;
      takes = c.in_ok-takes.ensures.items ∙ ap (λ k. replicate k None) n;
      outs = c.in_ok-outs.ensures.outs;
      outs_only = c.in_ok-outs.ensures.outs_only;
      ins = c.in_ok-outs.ensures.ins;
      ins_only = c.in_ok-outs.ensures.ins_only;
    })

pub returns-clause-puts : goal.returns-clause-puts
returns-clause-puts c = λ d. ap (λ l. get_or l d None) c.in_ok-puts.ensures.items ∙ nothing_there c.len-chans.result d

pub returns-clause-takes : goal.returns-clause-takes
returns-clause-takes c = λ d. ap (λ l. get_or l d None) c.in_ok-takes.ensures.items ∙ nothing_there c.len-chans.result d
