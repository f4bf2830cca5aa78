-- Look-ups in scopes in which what each name stands for is told in other words.
use Rattle.std.proofs.Common.{◌≡◌, ℕ, Bool, true, false, cond, List, [], ◌∷◌, ◌++◌, flat_map, Option, Some, None, is_none, refl, sym, ap, ◌∙◌}
use Rattle.std.specs.Prelude.{option_map}
use Rattle.std.specs.Map.{lookup}
use Rattle.c_types.specs.Scopes.{declared_in, scope_by, scopes_by}
use Rattle.c_types.proofs.Lookups.{same_name}

module _ {A B : Type 0} (f : A → B) where
  pub lookup-scope_by : (p : List ℕ → Bool) (es : List (List ℕ × A)) → lookup p (scope_by f es) ≡ option_map f (lookup p es)
  lookup-scope_by p [] = refl
  lookup-scope_by p (e ∷ es) = by (p e.0) (lookup-scope_by p es)
    where
      by : (b : Bool) → lookup p (scope_by f es) ≡ option_map f (lookup p es) → cond b (Some (f e.1)) (lookup p (scope_by f es)) ≡ option_map f (cond b (Some e.1) (lookup p es))
      by true rest = refl
      by false rest = rest

  scope_by-append : (es fs : List (List ℕ × A)) → scope_by f (es ++ fs) ≡ scope_by f es ++ scope_by f fs
  scope_by-append [] fs = refl
  scope_by-append (e ∷ es) fs = ap (λ s. (e.0, f e.1) ∷ s) (scope_by-append es fs)

  flat : (v : List (List (List ℕ × A))) → flat_map (λ s. s) (scopes_by f v) ≡ scope_by f (flat_map (λ s. s) v)
  flat [] = refl
  flat (s ∷ ss) = ap (λ t. scope_by f s ++ t) (flat ss) ∙ sym (scope_by-append s (flat_map (λ s. s) ss))

  pub found-scopes_by : (v : List (List (List ℕ × A))) (x : List ℕ) → lookup (same_name x) (flat_map (λ s. s) (scopes_by f v)) ≡ option_map f (declared_in v x)
  found-scopes_by v x = ap (lookup (same_name x)) (flat v) ∙ lookup-scope_by (same_name x) (flat_map (λ s. s) v)

  pub none_by : (r : Option A) → is_none r ≡ true → option_map f r ≡ None
  none_by None h = refl
  none_by (Some s) h = absurd (cc)

  pub by_none : (r : Option A) → option_map f r ≡ None → is_none r ≡ true
  by_none None h = refl
  by_none (Some s) h = absurd (cc)
