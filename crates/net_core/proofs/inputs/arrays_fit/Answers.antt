use Rattle.std.proofs.Common.{◌≡◌, ◌∙◌, get_or, sym, subst, refl, true, false, arith}
use Rattle.std.proofs.lemmas.Slice.Zip.{AllZip-long}
use Rattle.std.specs.List.{AllZip}
use Rattle.net_types.specs.Inputs.{AreElementsOf}
use Rattle.net_core.proofs.InputLemmas.{zip_all, zip_at}
use Rattle.net_core.proofs.inputs.arrays_fit.Goals as goal

pub returns-then-arrays-values : goal.returns-then-arrays-values
returns-then-arrays-values c = (λ t. (let z : false ≡ true = t in cc), λ h. absurd (let l = AllZip-long AreElementsOf c.args.arrays.now c.args.values.now h in c.if-arrays-values.true (sym l)))

pub returns-then-not-are_elements : goal.returns-then-not-are_elements
returns-then-not-are_elements c = (λ t. (let z : false ≡ true = t in cc), λ h. absurd (wrong h))
  where
    wrong : AllZip AreElementsOf c.args.arrays.now c.args.values.now → ⊥
    wrong h =
        let w = zip_at AreElementsOf c.args.arrays.now c.args.values.now c.loop-at.at c.index-arrays-at.result c.index-values-at.result h c.loop-at-test.true in
        let e : AreElementsOf c.index-arrays-at.result c.as_slice.result.now =
        subst (AreElementsOf c.index-arrays-at.result) (sym c.as_slice.ensures) (subst (λ a. AreElementsOf a c.index-values-at.result) (sym c.index-arrays-at.is) (subst (AreElementsOf (get_or c.args.arrays.now c.loop-at.at c.index-arrays-at.result)) (sym c.index-values-at.is) w)) in
        let z : true ≡ false = sym (c.are_elements.ensures.1 e) ∙ c.if-not-are_elements.true in cc

pub returns : goal.returns
returns c = (λ t. zip_all AreElementsOf c.args.arrays.now c.args.values.now c.if-arrays-values.false (λ k d e l. c.loop-at.invariant k d e (omega arith)), λ h. refl)
