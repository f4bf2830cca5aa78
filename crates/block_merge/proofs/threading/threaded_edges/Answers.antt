use Rattle.std.proofs.Common.{ap, ◌∙◌, sym}
use Rattle.block_merge.specs.Jumps.{some_lead_by_way}
use Rattle.block_merge.specs.OutEdges.{with_edges}
use Rattle.block_merge.proofs.Rounds.{next_round, no_more, last_round}
use Rattle.block_merge.proofs.threading.threaded_edges.Goals as goal

pub loop-round-preserved : goal.loop-round-preserved
loop-round-preserved c = record {
  edges = c.in_ok-advance.ensures.edges;
  further = c.in_ok-advance.ensures.further;
  same = next_round c.loop-round.round (with_edges c.args.blocks.now c.loop-round.edges.items) _ _ c.loop-round-test.true c.loop-round.invariant.same c.in_ok-advance.ensures.threaded;
}

pub returns-then-not-some_lead_by_way-clause-threaded : goal.returns-then-not-some_lead_by_way-clause-threaded
returns-then-not-some_lead_by_way-clause-threaded c =
    let bs = c.args.blocks.now in
    no_more c.loop-round.round (with_edges bs c.loop-round.edges.items) _ c.loop-round.invariant.same
    (sym (ap (λ l. some_lead_by_way (with_edges bs l)) c.as_slice.ensures.value) ∙ (sym c.some_lead_by_way.ensures ∙ c.if-not-some_lead_by_way.true))

pub returns-clause-threaded : goal.returns-clause-threaded
returns-clause-threaded c = last_round c.loop-round.round (with_edges c.args.blocks.now c.loop-round.edges.items) _ c.loop-round-test.false c.loop-round.invariant.same
