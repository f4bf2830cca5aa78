use Rattle.std.proofs.Common.{◌∷◌, ◌++◌, [], ◌<◌, length, ap, subst, ◌∙◌, arith}
use Rattle.c_types.proofs.Lookups.{entered_scopes}
use Rattle.c_types.proofs.scopes.Scopes.enter.Goals as goal

pub returns-in-Ok-clause-entered : goal.returns-in-Ok-clause-entered
returns-in-Ok-clause-entered g c =
    entered_scopes c.self.inside.outer.items c.push.new.self.items c.self.inside.inner c.replace-outer.new.dest c.args.self.now (ap (λ m. m.entries) c.replace-outer.ensures.after ∙ c.new.ensures.empty)
    (c.in-Ok.ensures.items ∙ ap (λ m. c.self.inside.outer.items ++ m ∷ []) c.replace-outer.ensures.value) c.self.view_is

pub returns-in-Ok-clause-some : goal.returns-in-Ok-clause-some
returns-in-Ok-clause-some g c = subst (λ v. 0 < length v) c.self.view_is (omega arith)

pub returns-in-Err-clause-some : goal.returns-in-Err-clause-some
returns-in-Err-clause-some g c = subst (λ v. 0 < length v) c.self.view_is (omega arith)
