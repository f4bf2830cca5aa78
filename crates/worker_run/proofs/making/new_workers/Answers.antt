use Rattle.std.proofs.Common.{◌≡◌, ◌+◌, [], ◌∷◌, ◌++◌, length, ap, sym, subst, arith, length-append}
use Rattle.net_worker.specs.Given.{IsFresh}
use Rattle.worker_run.specs.private.Makings.{AreNew}
use Rattle.worker_run.proofs.JoinLemmas.{new_one, new_more}
use Rattle.worker_run.proofs.making.new_workers.Goals as goal

pub loop-number-preserved : goal.loop-number-preserved
loop-number-preserved c =
    let t = c.args.tables.now in
    let xs = c.loop-number.workers.items in
    let w = c.in_ok-worker.worker in
    let j = c.loop-number.number in
    let items : c.push.new.self.items ≡ xs ++ w ∷ [] = c.in_ok-push.ensures.items in
    let more : length (xs ++ w ∷ []) ≡ length xs + 1 = length-append xs (w ∷ []) in
    let same : length c.push.new.self.items ≡ length (xs ++ w ∷ []) = ap length items in
    let fresh = subst (λ n. IsFresh j n w) c.share-share.ensures.share c.in_ok-worker.ensures.fresh in
    record {
      long = omega (arith, same, more, c.loop-number.invariant.long);
      each = subst (AreNew t c.args.count c.args.limit 0) (sym items)
          (new_more t c.args.count c.args.limit xs w j c.loop-number.invariant.long c.loop-number.invariant.each
          (new_one t c.args.count c.args.limit j w c.in_ok-worker.ensures.made fresh c.in_ok-worker.ensures.puts c.in_ok-worker.ensures.takes));
    }
