use Rattle.std.proofs.Common.{◌≡◌, ℕ, ◌+◌, ◌<◌, ◌∙◌, ◌∷◌, [], None, length, get_or, ap, sym, subst, arith, length-append}
use Rattle.net_types.specs.Nets.{nowhere}
use Rattle.net_worker.specs.Crossing.{HasOneOwner}
use Rattle.net_worker.proofs.Moved.{placed_more}
use Rattle.net_worker.proofs.end_places.places_of_ends.Goals as goal

pub loop-chan-preserved : goal.loop-chan-preserved
loop-chan-preserved c =
    let ps = c.loop-chan.places.items in
    let p = c.next_places.result in
    let is = c.in_ok-push.ensures.items in
    record {
      long = (let q = ap length is in let k = length-append ps (p ∷ []) in omega (arith, c.loop-chan.invariant.long));
      placed = subst (λ xs. (i : ℕ) → i < c.loop-chan.chan-index + 1 → get_or xs i None ≡ None → HasOneOwner c.args.owners.now (get_or c.as_slice-chans.result.now i nowhere)) (sym is)
          (placed_more c.args.owners.now c.as_slice-chans.result.now ps c.loop-chan.chan-index _ p (omega (arith, c.loop-chan-test.true)) c.loop-chan.invariant.long c.loop-chan.invariant.placed c.next_places.ensures);
    }

pub returns : goal.returns
returns c =
    subst (λ cs. (i : ℕ) → i < length cs → get_or c.loop-chan.places.items i None ≡ None → HasOneOwner c.args.owners.now (get_or cs i nowhere)) (c.as_slice-chans.ensures ∙ ap (λ n. n.chans) c.net.ensures.net)
    (λ i l none. c.loop-chan.invariant.placed i (omega (arith, c.loop-chan-test.false)) none)
