use Rattle.std.proofs.Common.{◌≡◌, drop}
use Rattle.std.specs.List.{list_any}
use Rattle.block_merge.specs.Jumps.{leads_by_way, some_lead_by_way}
use Rattle.block_merge.specs.OutEdges.{with_edges}
use Rattle.block_merge.proofs.threading.some_lead_by_way.Given as goal

abbrev pub invariant-loop-at : goal.invariant-loop-at
invariant-loop-at l =
    let bs = with_edges l.blocks l.edges in some_lead_by_way bs ≡ list_any (λ b. leads_by_way bs b.jump) (drop l.at bs)
