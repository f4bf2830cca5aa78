use Rattle.std.proofs.Common.{◌≡◌, Some, None, sym, subst, ap, ◌∙◌}
use Rattle.std.specs.Map.{lookup}
use Rattle.c_types.specs.Scopes.{declared_in, outer_scopes}
use Rattle.c_types.proofs.Lookups.{same_name, found_here, found_outside}
use Rattle.c_types.proofs.scopes.Scopes.find.Goals as goal

pub returns-in-Some : goal.returns-in-Some
returns-in-Some g c =
    let at : lookup (same_name c.args.name.now) c.self.inside.inner.entries ≡ Some c.in-Some.item = cc (c.get.ensures.value, c.copied.ensures, c.in-Some.is) in
    sym (subst (λ s. declared_in s c.args.name.now ≡ Some c.in-Some.item) c.self.view_is (found_here c.args.name.now c.in-Some.item c.self.inside.inner.entries (outer_scopes c.self.inside.outer.items) c.self.invariant.0 at))

pub returns-in-None : goal.returns-in-None
returns-in-None g c =
    let none : lookup (same_name c.args.name.now) c.self.inside.inner.entries ≡ None = cc (c.get.ensures.value, c.copied.ensures, c.in-None.is) in
    c.find_outer.ensures ∙ ap (λ ms. declared_in (outer_scopes ms) c.args.name.now) c.as_slice.ensures.value
    ∙ sym (subst (λ s. declared_in s c.args.name.now ≡ declared_in (outer_scopes c.self.inside.outer.items) c.args.name.now) c.self.view_is
    (found_outside c.args.name.now c.self.inside.inner.entries (outer_scopes c.self.inside.outer.items) c.self.invariant.0 none))
