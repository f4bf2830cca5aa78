use Rattle.std.proofs.Common.{◌≡◌, ◌⊎◌, inl, inr, ℕ, ◌+◌, ◌<◌, ◌≤◌, get_or, length, subst, arith}
use Rattle.std.proofs.lemmas.Bool.{cases_lt}
use Rattle.net_core.specs.States.{state_of}
use Rattle.cycle_engine.specs.private.Marking.{IsFedMarked}
use Rattle.cycle_engine.proofs.MarkLemmas.{keeps_then, fed_more, fed_as}
use Rattle.cycle_engine.proofs.marks.Marks.mark_targets.Goals as goal

pub loop-chan-preserved : goal.loop-chan-preserved
loop-chan-preserved c = record {
  kept = keeps_then _ _ _ c.loop-chan.invariant.kept c.in_ok-mark_ripe.ensures.kept;
  each = λ k l. by k (cases_lt k c.loop-chan.chan-index) l;
}
  where
    Q : ℕ → Type 0
    Q k = IsFedMarked c.args.net.now (state_of c.args.state.now) (length c.args.self.now.marked.items) c.mark_ripe.new.self (get_or c.args.chans.now k 0)

    by : (k : ℕ) → (k < c.loop-chan.chan-index) ⊎ (c.loop-chan.chan-index ≤ k) → k < c.loop-chan.chan-index + 1 → Q k
    by k (inl m) l = fed_more c.args.net.now (state_of c.args.state.now) _ c.loop-chan.self c.mark_ripe.new.self (get_or c.args.chans.now k 0) c.in_ok-mark_ripe.ensures.kept (c.loop-chan.invariant.each k m)
    by k (inr m) l =
        let e : c.loop-chan.chan-index ≡ k = omega arith in
        subst Q e (fed_as c.args.net.now (state_of c.args.state.now) _ _ c.mark_ripe.new.self _ c.loop-chan.invariant.kept.long c.in_ok-mark_ripe.ensures.marked)
