use Rattle.std.proofs.Common.{rules, ◌≡◌, ◌+◌, [], ◌∷◌, ◌++◌, length, sym, subst, ap, arith, length-append}
use Rattle.block_args.specs.Indexes.{AreLiveFrom, AreLiveAt}
use Rattle.block_args.proofs.Listing.{live_push}
use Rattle.block_args.proofs.live.live_between.Goals as goal

pub loop-variable-preserved : goal.loop-variable-preserved
loop-variable-preserved c =
    let g = c.args.cfg.now in
    let m = c.in_ok-live_at.field-0 in
    let found = c.loop-variable.found.items in
    let is : c.push.new.self.items ≡ found ++ m ∷ [] = search rules in
    let many : length (found ++ m ∷ []) ≡ length found + 1 = length-append found (m ∷ []) in
    let live : AreLiveAt g (c.args.first + length found) m.items = subst (λ k. AreLiveAt g k m.items) (sym c.loop-variable.invariant.1) c.in_ok-live_at.ensures in
    (subst (AreLiveFrom g c.args.first) (sym is) (live_push g c.args.first found m c.loop-variable.invariant.0 live), (let e = ap length is in let h = c.loop-variable.invariant.1 in omega arith))
