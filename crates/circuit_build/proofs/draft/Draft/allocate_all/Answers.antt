use Rattle.std.proofs.Common.{◌≡◌, ◌+◌, drop, sym, ap, ◌∙◌}
use Rattle.circuit_build.specs.Blocks.{allocations}
use Rattle.circuit_build.proofs.Going.{one_allocated, one_after}
use Rattle.circuit_build.proofs.draft.Draft.allocate_all.Goals as goal

pub loop-access-preserved : goal.loop-access-preserved
loop-access-preserved c =
    let b = c.args.block in
    let xs = c.args.accesses.now in
    let i = c.loop-access.access-index in
    let x = c.access-item.result in
    let same : x.block ≡ b = c.if-access-block.false in
    record {
      used = ap (λ n. n + 1) c.loop-access.invariant.used;
      draft = ap (allocations b (drop (i + 1) xs)) c.in_ok-allocate.ensures ∙ sym (one_allocated b i xs x c.loop-access-test.true c.access-item.is same c.loop-access.self) ∙ c.loop-access.invariant.draft;
      rest = sym (one_after b i xs x c.loop-access-test.true c.access-item.is same) ∙ c.loop-access.invariant.rest;
    }
