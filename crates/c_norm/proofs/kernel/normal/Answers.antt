use Rattle.std.proofs.Common.{length, sym, subst, ◌∙◌}
use Rattle.c_ast.specs.Nodes.{typed_nodes}
use Rattle.c_ast.specs.declared.normal.Normal.{Normal}
use Rattle.c_meaning.specs.Sizes.{form_sizes}
use Rattle.c_norm.specs.Shares.{NormalShare, NormalSizes}
use Rattle.c_norm.proofs.MadeArms.{all_room, form_made}
use Rattle.c_norm.proofs.kernel.normal.Goals as goal

pub forms-requires : goal.forms-requires
forms-requires c = all_room c.args.typed.now _ _ c.requires.lawful c.requires.few c.in_ok-vars.ensures c.as_slice.ensures

pub returns-clause-form : goal.returns-clause-form
returns-clause-form c =
    form_made c.args.typed.now _ _ _ _ _ _ _ _ c.new-body.ensures c.in_ok-vars.ensures c.as_slice.ensures c.in_ok-forms.ensures.made c.in_ok-name.ensures (c.in_ok-params.ensures ∙ c.as_slice-2.ensures) (c.in_ok-arrays.ensures ∙ c.as_slice-3.ensures)

pub returns-clause-share : goal.returns-clause-share
returns-clause-share c = subst (λ f. NormalShare c.args.typed.now f) (sym (returns-clause-form c)) (c.normal_forms_share.ensures c.args.typed.now c.requires.lawful)

pub returns-clause-sizes : goal.returns-clause-sizes
returns-clause-sizes c =
    subst (λ (f : Normal). NormalSizes (typed_nodes c.args.typed.now) (length f.vars) (form_sizes f)) (sym (returns-clause-form c)) (c.normal_forms_are_small.ensures c.args.typed.now c.requires.lawful)
