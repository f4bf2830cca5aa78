use Rattle.std.proofs.Common.{◌≡◌, inl, inr, ◌∙◌, get_or, sym, subst, arith}
use Rattle.std.proofs.lemmas.Bool.{cases_lt}
use Rattle.net_worker.specs.Spans.{nowhere, IsWithin}
use Rattle.net_worker.proofs.spans.spans_of.Goals as goal

pub loop-unit-preserved : goal.loop-unit-preserved
loop-unit-preserved c = record {
  long = c.widen.ensures.long ∙ c.loop-unit.invariant.long;
  within = λ u l.
      elim (cases_lt u c.loop-unit.unit) [
        | inl k ↦ c.widen.ensures.kept (get_or c.args.owners.now u 0) u (c.loop-unit.invariant.within u k)
        | inr k ↦ (let q : u ≡ c.loop-unit.unit = omega arith in subst (λ v. IsWithin v (get_or c.widen.new.spans.items (get_or c.args.owners.now v 0) nowhere)) (sym q) c.widen.ensures.within)
      ];
}
