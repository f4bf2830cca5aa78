use Rattle.std.proofs.Common.{ℕ, ◌+◌, ◌<◌, ◌≤◌, ◌⊎◌, inl, inr, get_or, subst, arith}
use Rattle.std.proofs.lemmas.Bool.{cases_lt}
use Rattle.cycle_engine.specs.private.Pending.{IsFreedOut}
use Rattle.cycle_engine.proofs.ShutLemmas.{freed_kept, opened_same, opened_then}
use Rattle.cycle_engine.proofs.pending.Pending.add_freed.Goals as goal

pub loop-chan-init : goal.loop-chan-init
loop-chan-init c = record { opened = opened_same c.args.self.now; freed = λ k l. absurd (omega arith) }

pub loop-chan-preserved : goal.loop-chan-preserved
loop-chan-preserved c = record { opened = opened_then _ _ _ c.loop-chan.invariant.opened c.add.ensures.opened; freed = λ k l. at k l (cases_lt k c.loop-chan.chan-index) }
  where
    F : ℕ → Type 0
    F k = IsFreedOut c.args.net.now c.args.used.now.base.items c.add.new.self (get_or c.args.chans.now k 0)

    at : (k : ℕ) → k < c.loop-chan.chan-index + 1 → (k < c.loop-chan.chan-index) ⊎ (c.loop-chan.chan-index ≤ k) → F k
    at k l (inl m) = freed_kept c.args.net.now c.args.used.now.base.items c.loop-chan.self c.add.new.self (get_or c.args.chans.now k 0) c.add.ensures.opened (c.loop-chan.invariant.freed k m)
    at k l (inr m) = subst F (omega arith) c.add.ensures.freed

pub returns-clause-freed : goal.returns-clause-freed
returns-clause-freed c d h =
    let F : ℕ → Type 0 = IsFreedOut c.args.net.now c.args.used.now.base.items c.loop-chan.self in
    subst F h.is (c.loop-chan.invariant.freed h.at (let w = h.within in let f = c.loop-chan-test.false in omega arith))
