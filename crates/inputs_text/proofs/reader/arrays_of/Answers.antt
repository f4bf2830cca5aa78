use Rattle.std.proofs.Common.{sym, ◌∙◌, ap, List, ℕ, inr, Some}
use Rattle.el_base.specs.declared.ty.Array.{Array}
use Rattle.inputs_text.specs.declared.refusal.InputRefusal.TheVariants as refusal
use Rattle.inputs_text.proofs.MissingLemmas.{first_missing, more_held}
use Rattle.inputs_text.proofs.reader.arrays_of.Goals as goal

pub returns-in_default-clause-err : goal.returns-in_default-clause-err
returns-in_default-clause-err c = inr (record {
  name = c.array-item.result.name;
  is = ap refusal.Missing c.in_ok-copy.ensures;
  first =
      first_missing (λ (a : Array). a.name) (λ (ps : List ℕ). ps) c.args.found.now.entries c.args.arrays.now c.loop-array.array-index c.array-item.result c.loop-array.elements
      c.loop-array-test.true c.array-item.is c.loop-array.invariant (sym c.in_default.ensures.value);
})

pub loop-array-preserved : goal.loop-array-preserved
loop-array-preserved c =
    rw c.in_ok-push.ensures.ok
    (more_held (λ (a : Array). a.name) (λ (ps : List ℕ). ps) c.args.found.now.entries c.args.arrays.now c.loop-array.array-index c.array-item.result c.loop-array.elements c.in_ok-copy-2.field-0
    c.loop-array-test.true c.array-item.is c.loop-array.invariant (sym c.in-Some.ensures.value ∙ ap Some (sym c.in_ok-copy-2.ensures)))
