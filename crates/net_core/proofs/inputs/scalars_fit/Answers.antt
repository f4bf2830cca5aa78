use Rattle.std.proofs.Common.{◌≡◌, ◌∙◌, ◌<◌, ◌^◌, ℕ, get_or, sym, subst, refl, true, false, arith, ltb-true, lt-ltb}
use Rattle.std.proofs.lemmas.List.{get_or_default}
use Rattle.std.proofs.lemmas.Slice.Zip.{AllZip-long}
use Rattle.std.specs.List.{AllZip}
use Rattle.el_base.specs.Widths.{ty_width}
use Rattle.el_base.specs.declared.ty.Scalar.{Scalar}
use Rattle.net_types.specs.Inputs.{IsPatternOf}
use Rattle.net_core.proofs.InputLemmas.{zip_all, zip_at, zip_more}
use Rattle.net_core.proofs.inputs.scalars_fit.Goals as goal

pub returns-then-scalars-values : goal.returns-then-scalars-values
returns-then-scalars-values c = (λ t. (let z : false ≡ true = t in cc), λ h. absurd (let l = AllZip-long (λ (s : Scalar) (n : ℕ). IsPatternOf s.ty n) c.args.scalars.now c.args.values.now h in c.if-scalars-values.true (sym l)))

pub returns-then-not-is_pattern : goal.returns-then-not-is_pattern
returns-then-not-is_pattern c = (λ t. (let z : false ≡ true = t in cc), λ h. absurd (wrong h))
  where
    wrong : AllZip (λ (s : Scalar) (n : ℕ). IsPatternOf s.ty n) c.args.scalars.now c.args.values.now → ⊥
    wrong h =
        let w = zip_at (λ (s : Scalar) (n : ℕ). IsPatternOf s.ty n) c.args.scalars.now c.args.values.now c.loop-at.at c.index-scalars-at.result 0 h c.loop-at-test.true in
        let p : get_or c.args.values.now c.loop-at.at 0 < 2 ^ ty_width c.index-scalars-at.result.ty = subst (λ s. IsPatternOf s.ty (get_or c.args.values.now c.loop-at.at 0)) (sym c.index-scalars-at.is) w in
        let z : true ≡ false = sym (lt-ltb _ _ p) ∙ sym c.is_pattern.ensures ∙ c.if-not-is_pattern.true in cc

pub loop-at-preserved : goal.loop-at-preserved
loop-at-preserved c =
    zip_more (λ (s : Scalar) (n : ℕ). IsPatternOf s.ty n) c.args.scalars.now c.args.values.now c.loop-at.at c.index-scalars-at.result (get_or c.args.values.now c.loop-at.at 0) c.loop-at-test.true c.if-scalars-values.false
    c.loop-at.invariant c.index-scalars-at.is (get_or_default c.args.values.now c.loop-at.at 0 (get_or c.args.values.now c.loop-at.at 0) (let l = c.if-scalars-values.false in omega arith)) (ltb-true _ _ (sym c.is_pattern.ensures ∙ c.if-not-is_pattern.false))

pub returns : goal.returns
returns c = (λ t. zip_all (λ (s : Scalar) (n : ℕ). IsPatternOf s.ty n) c.args.scalars.now c.args.values.now c.if-scalars-values.false (λ k d e l. c.loop-at.invariant k d e (omega arith)), λ h. refl)
