use Rattle.std.proofs.Common.{◌≡◌, List, subst}
use Rattle.el_base.specs.declared.ty.Ty.{Ty}
use Rattle.c_ast.specs.declared.tree.Helper.{Helper}
use Rattle.c_ast.specs.declared.tree.Target.{Target}
use Rattle.c_ast.specs.declared.program.ProgTarget.{ProgTarget}
use Rattle.c_types.specs.Contexts.{Bindings}
use Rattle.c_types.specs.ProgramContexts.{IsProgTarget}
use Rattle.c_types.proofs.ProgramCastLemmas.{target_made}
use Rattle.c_types.proofs.ProgramExpressionParts.{target_use, target_parts}
use Rattle.c_types.proofs.program_casts.Caster.cast_target.Goals as goal

-- a target out of its box
target_is : (hs : List Helper) (scopes : Bindings) (x x2 : Target) (f : ProgTarget) (t : Ty) → x2 ≡ x → IsProgTarget hs scopes x2 f t → IsProgTarget hs scopes x f t
target_is hs scopes x x2 f t is h = subst (λ x. IsProgTarget hs scopes x f t) is h

pub returns : goal.returns
returns c =
    target_is c.args.self.now.helpers.now c.args.scopes.now _ _ _ _ c.get-target.ensures (target_made c.args.self.now.helpers.now c.args.scopes.now c.get-target.result.now c.len.result c.object-to.result.0 c.object-to.result.1 c.as_slice.result.now c.in_ok-indices.indices c.object-to.ensures c.len.ensures
    c.as_slice.ensures c.in_ok-indices.ensures)

pub object-to-requires : goal.object-to-requires
object-to-requires c = target_use c.args.self.now.helpers.now c.args.scopes.now _ _ _ c.requires c.get-target.ensures c.len.ensures

pub cast_exprs-requires : goal.cast_exprs-requires
cast_exprs-requires c = target_parts c.args.self.now.helpers.now c.args.scopes.now _ _ _ c.requires c.get-target.ensures c.as_slice.ensures
