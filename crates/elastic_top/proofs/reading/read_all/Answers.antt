use Rattle.std.proofs.Common.{rules, arith, ◌∙◌}
use Rattle.elastic_top.proofs.ReadingLemmas.{held_more, ends}
use Rattle.elastic_top.proofs.reading.read_all.Goals as goal

pub returns-in-Err-clause-fault : goal.returns-in-Err-clause-fault
returns-in-Err-clause-fault g c =
    ends _ (g.F.Files.holds c.loop-i.files) _ (g.F.Files.steady c.loop-i.files) _ _ c.loop-i.i c.file_at.result _ _ c.loop-i.invariant.held c.loop-i.invariant.holds
    c.loop-i.invariant.steady.1 c.in-Err.ensures.fault c.loop-i-test.true c.file_at.ensures

pub loop-i-preserved : goal.loop-i-preserved
loop-i-preserved g c = record {
  held =
      held_more _ (g.F.Files.holds c.loop-i.files) _ c.loop-i.i c.file_at.result _ _ c.in-Ok.bytes c.loop-i.invariant.held c.loop-i.invariant.holds
      c.in-Ok.ensures.ok c.loop-i-test.true c.file_at.ensures (search rules);
  holds = λ n. c.read.ensures.holds n ∙ c.loop-i.invariant.holds n;
  steady = (λ s. c.loop-i.invariant.steady.0 (c.read.ensures.steady.0 s), λ s. c.read.ensures.steady.1 (c.loop-i.invariant.steady.1 s));
  longs = search rules;
  later = omega (arith, c.loop-i.invariant.later, c.read.ensures.later);
}
