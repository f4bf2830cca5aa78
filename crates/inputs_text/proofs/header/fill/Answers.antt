use Rattle.std.proofs.Common.{◌++◌, ◌∷◌, [], map, take, ap, sym, ◌∙◌, append_assoc}
use Rattle.indexmap.proofs.CallerLemmas.{insert_entry-new}
use Rattle.inputs_text.specs.Rules.{array_slot, beside, scalar_slot}
use Rattle.inputs_text.proofs.FoundLemmas.{same_name}
use Rattle.inputs_text.proofs.HeaderLemmas.{scalar_new, array_new, map_one_more}
use Rattle.inputs_text.proofs.header.fill.Goals as goal

pub loop-scalar-preserved : goal.loop-scalar-preserved
loop-scalar-preserved c =
    let key = c.in_ok-copy.field-0 in
    let item = c.scalar-item.result in
    let i = c.loop-scalar.scalar-index in
    let none = ap (λ es. beside es key) c.loop-scalar.invariant ∙ ap (beside (map scalar_slot (take i c.args.scalars.now))) c.in_ok-copy.ensures
    ∙ scalar_new c.args.scalars.now c.args.arrays.now i item c.requires.names c.loop-scalar-test.true c.scalar-item.is in
    c.in_ok-insert.ensures.entries ∙ insert_entry-new same_name c.loop-scalar.asked key (record { ty = item.ty; len = 1 }) none
    ∙ ap (λ es. es ++ (key, record { ty = item.ty; len = 1 }) ∷ []) c.loop-scalar.invariant
    ∙ ap (λ k. map scalar_slot (take i c.args.scalars.now) ++ (k, record { ty = item.ty; len = 1 }) ∷ []) c.in_ok-copy.ensures
    ∙ sym (map_one_more scalar_slot c.args.scalars.now i item c.loop-scalar-test.true c.scalar-item.is)

pub loop-array-preserved : goal.loop-array-preserved
loop-array-preserved c =
    let key = c.in_ok-copy-2.field-0 in
    let item = c.array-item.result in
    let i = c.loop-array.array-index in
    let before = map scalar_slot c.args.scalars.now in
    let none = ap (λ es. beside es key) c.loop-array.invariant ∙ ap (beside (before ++ map array_slot (take i c.args.arrays.now))) c.in_ok-copy-2.ensures
    ∙ array_new c.args.scalars.now c.args.arrays.now i item c.requires.names c.loop-array-test.true c.array-item.is in
    c.in_ok-insert-2.ensures.entries ∙ insert_entry-new same_name c.loop-array.asked key (record { ty = item.ty; len = item.len }) none
    ∙ ap (λ es. es ++ (key, record { ty = item.ty; len = item.len }) ∷ []) c.loop-array.invariant
    ∙ ap (λ k. (before ++ map array_slot (take i c.args.arrays.now)) ++ (k, record { ty = item.ty; len = item.len }) ∷ []) c.in_ok-copy-2.ensures
    ∙ append_assoc before (map array_slot (take i c.args.arrays.now)) (array_slot item ∷ [])
    ∙ ap (λ es. before ++ es) (sym (map_one_more array_slot c.args.arrays.now i item c.loop-array-test.true c.array-item.is))
