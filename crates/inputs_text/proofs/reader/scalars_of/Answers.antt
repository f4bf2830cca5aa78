use Rattle.std.proofs.Common.{◌≡◌, ◌∷◌, [], sym, ◌∙◌, ap, ℕ, inr, Some, subst, IfSome, length, get_or}
use Rattle.el_base.specs.declared.ty.Scalar.{Scalar}
use Rattle.inputs_text.specs.declared.refusal.InputRefusal.TheVariants as refusal
use Rattle.inputs_text.specs.Rules.{beside}
use Rattle.inputs_text.proofs.MissingLemmas.{first_missing, more_held, single}
use Rattle.inputs_text.proofs.reader.scalars_of.Goals as goal

pub returns-in_default-clause-err : goal.returns-in_default-clause-err
returns-in_default-clause-err c = inr (record {
  name = c.scalar-item.result.name;
  is = ap refusal.Missing c.in_ok-copy.ensures;
  first =
      first_missing (λ (s : Scalar). s.name) (λ (p : ℕ). p ∷ []) c.args.found.now.entries c.args.scalars.now c.loop-scalar.scalar-index c.scalar-item.result c.loop-scalar.patterns
      c.loop-scalar-test.true c.scalar-item.is c.loop-scalar.invariant (sym c.in_default.ensures.value);
})

pub loop-scalar-preserved : goal.loop-scalar-preserved
loop-scalar-preserved c =
    let item = c.scalar-item.result in
    let given = c.in-Some.given.now in
    let there : beside c.args.found.now.entries item.name ≡ Some given = sym c.in-Some.ensures.value in
    let here : IfSome (beside c.args.found.now.entries item.name) (λ ps. length ps ≡ 1) =
    subst (λ (s : Scalar). IfSome (beside c.args.found.now.entries s.name) (λ ps. length ps ≡ 1)) (sym c.scalar-item.is) (c.requires c.loop-scalar.scalar-index item c.loop-scalar-test.true) in
    let one : length given ≡ 1 = subst (λ o. IfSome o (λ ps. length ps ≡ 1)) there here in
    rw c.in_ok-push.ensures.ok
    (more_held (λ (s : Scalar). s.name) (λ (p : ℕ). p ∷ []) c.args.found.now.entries c.args.scalars.now c.loop-scalar.scalar-index item c.loop-scalar.patterns (get_or c.as_slice.result.now 0 0)
    c.loop-scalar-test.true c.scalar-item.is c.loop-scalar.invariant (there ∙ ap Some (single given one ∙ ap (λ xs. get_or xs 0 0 ∷ []) (sym c.as_slice.ensures))))
