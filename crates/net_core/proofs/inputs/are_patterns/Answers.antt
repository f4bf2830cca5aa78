use Rattle.std.proofs.Common.{◌≡◌, ◌<◌, ◌≤◌, ◌⊎◌, ◌+◌, ◌∙◌, ℕ, get_or, inl, inr, sym, subst, refl, arith, ltb-true}
use Rattle.std.proofs.lemmas.Bool.{cases_lt}
use Rattle.std.proofs.lemmas.List.Elements.{All-from_get_or}
use Rattle.net_types.specs.Inputs.{IsPatternOf}
use Rattle.net_core.proofs.inputs.are_patterns.Goals as goal

pub loop-value-preserved : goal.loop-value-preserved
loop-value-preserved c = λ k l. by k l (cases_lt k c.loop-value.value-index)
  where
    here : IsPatternOf c.args.ty (get_or c.args.values.now c.loop-value.value-index 0)
    here = ltb-true _ _ (sym c.is_pattern.ensures ∙ c.if-not-is_pattern.false)

    by : (k : ℕ) → k < c.loop-value.value-index + 1 → (k < c.loop-value.value-index) ⊎ (c.loop-value.value-index ≤ k) → IsPatternOf c.args.ty (get_or c.args.values.now k 0)
    by k l (inl m) = c.loop-value.invariant k m
    by k l (inr m) = let e : c.loop-value.value-index ≡ k = omega arith in subst (λ j. IsPatternOf c.args.ty (get_or c.args.values.now j 0)) e here

pub returns : goal.returns
returns c = (λ t. All-from_get_or (IsPatternOf c.args.ty) c.args.values.now 0 (λ k l. c.loop-value.invariant k (omega arith)), λ h. refl)
