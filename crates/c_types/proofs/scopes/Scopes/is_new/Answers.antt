use Rattle.std.proofs.Common.{◌≡◌, ◌∷◌, reverse, not, is_some, Bool, true, false, refl, sym, subst, ◌∙◌, ap}
use Rattle.std.specs.Map.{lookup}
use Rattle.c_types.specs.Scopes.{is_new_in, outer_scopes}
use Rattle.c_types.proofs.Lookups.{same_name, known_name, new_name}
use Rattle.c_types.proofs.scopes.Scopes.is_new.Goals as goal

pub returns : goal.returns
returns g c = subst (λ s. not c.contains_key.result ≡ is_new_in s c.args.name.now) c.self.view_is (by (is_some (lookup (same_name c.args.name.now) c.self.inside.inner.entries)) refl c.contains_key.ensures)
  where
    by : (b : Bool) → is_some (lookup (same_name c.args.name.now) c.self.inside.inner.entries) ≡ b → c.contains_key.result ≡ is_some (lookup (same_name c.args.name.now) c.self.inside.inner.entries)
        → not c.contains_key.result ≡ is_new_in (reverse c.self.inside.inner.entries ∷ outer_scopes c.self.inside.outer.items) c.args.name.now
    by true is has = ap not (has ∙ is) ∙ sym (known_name c.args.name.now c.self.inside.inner.entries (outer_scopes c.self.inside.outer.items) c.self.invariant.0 is)
    by false is has = ap not (has ∙ is) ∙ sym (new_name c.args.name.now c.self.inside.inner.entries (outer_scopes c.self.inside.outer.items) c.self.invariant.0 is)
