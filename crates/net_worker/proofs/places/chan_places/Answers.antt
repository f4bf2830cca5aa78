use Rattle.std.proofs.Common.{List, ap, length, subst, ◌<◌, ◌∙◌}
use Rattle.net_types.specs.declared.net.Chan.{Chan}
use Rattle.net_types.specs.declared.net.Net.{Net}
use Rattle.net_worker.specs.Places.{has_end, put_place, take_place}
use Rattle.net_worker.proofs.PlaceLemmas.{count_room, counts_more, end_value, ends_few, ends_more, values_more}
use Rattle.net_worker.proofs.places.chan_places.Goals as goal

pub next_places-put-requires-clause-from : goal.next_places-put-requires-clause-from
next_places-put-requires-clause-from c =
    rw c.loop-chan.invariant.counts.long (ends_few c.args.net.now c.args.owners.now c.loop-chan.chan-index c.as_slice-chans.result.now c.net.ensures.checked c.requires.owned c.requires.few (c.as_slice-chans.ensures ∙ ap (λ (n : Net). n.chans) c.net.ensures.net) c.loop-chan-test.true).0

pub next_places-put-requires-clause-to : goal.next_places-put-requires-clause-to
next_places-put-requires-clause-to c =
    rw c.loop-chan.invariant.counts.long (ends_few c.args.net.now c.args.owners.now c.loop-chan.chan-index c.as_slice-chans.result.now c.net.ensures.checked c.requires.owned c.requires.few (c.as_slice-chans.ensures ∙ ap (λ (n : Net). n.chans) c.net.ensures.net) c.loop-chan-test.true).1

pub next_places-put-requires-clause-room : goal.next_places-put-requires-clause-room
next_places-put-requires-clause-room c =
    λ j. count_room (has_end c.args.net.now c.args.owners.now) c.loop-chan.chan-index (length c.args.net.now.chans) c.loop-chan.counts.items j c.loop-chan.invariant.counts
    (subst (λ (xs : List Chan). c.loop-chan.chan-index < length xs) (c.as_slice-chans.ensures ∙ ap (λ (n : Net). n.chans) c.net.ensures.net) c.loop-chan-test.true) c.net.ensures.checked.numbered.chans

pub loop-chan-preserved : goal.loop-chan-preserved
loop-chan-preserved c = record {
  counts = counts_more (has_end c.args.net.now c.args.owners.now) c.loop-chan.chan-index c.loop-chan.counts.items c.next_places-put.new.counts.items _ c.loop-chan.invariant.counts c.next_places-put.ensures.counts
      (ends_more c.args.net.now c.args.owners.now c.loop-chan.chan-index c.as_slice-chans.result.now (c.as_slice-chans.ensures ∙ ap (λ (n : Net). n.chans) c.net.ensures.net));
  outs = values_more (put_place c.args.net.now c.args.owners.now) c.loop-chan.chan-index c.next_places-put.result.0 c.loop-chan.outs.items c.push.new.self.items c.in_ok-push.ensures.items
      (end_value c.args.net.now c.args.owners.now c.loop-chan.chan-index c.next_places-put.result.0 c.loop-chan.counts.items c.as_slice-chans.result.now (λ (x : Chan). x.from.unit) c.loop-chan.invariant.counts (c.as_slice-chans.ensures ∙ ap (λ (n : Net). n.chans) c.net.ensures.net)
      (ends_few c.args.net.now c.args.owners.now c.loop-chan.chan-index c.as_slice-chans.result.now c.net.ensures.checked c.requires.owned c.requires.few (c.as_slice-chans.ensures ∙ ap (λ (n : Net). n.chans) c.net.ensures.net) c.loop-chan-test.true).0 c.next_places-put.ensures.put)
      c.loop-chan.invariant.outs;
  ins = values_more (take_place c.args.net.now c.args.owners.now) c.loop-chan.chan-index c.next_places-put.result.1 c.loop-chan.ins.items c.push-in-loop-chan.new.self.items c.in_ok-push-2.ensures.items
      (end_value c.args.net.now c.args.owners.now c.loop-chan.chan-index c.next_places-put.result.1 c.loop-chan.counts.items c.as_slice-chans.result.now (λ (x : Chan). x.to.unit) c.loop-chan.invariant.counts (c.as_slice-chans.ensures ∙ ap (λ (n : Net). n.chans) c.net.ensures.net)
      (ends_few c.args.net.now c.args.owners.now c.loop-chan.chan-index c.as_slice-chans.result.now c.net.ensures.checked c.requires.owned c.requires.few (c.as_slice-chans.ensures ∙ ap (λ (n : Net). n.chans) c.net.ensures.net) c.loop-chan-test.true).1 c.next_places-put.ensures.take)
      c.loop-chan.invariant.ins;
}
