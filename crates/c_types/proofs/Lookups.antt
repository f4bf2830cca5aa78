-- Look-ups in a list of entries with distinct keys give the same from either end.
use Rattle.std.proofs.Common.{◌≡◌, ◌==◌, ℕ, Bool, true, false, cond, List, [], ◌∷◌, ◌++◌, reverse, map, flat_map, Option, Some, None, is_some, is_none, refl, sym, ap, ◌∙◌, if◌then◌else◌}
use Rattle.std.proofs.Common.{rules}
use Rattle.std.specs.Cmp.{IsEquivalence}
use Rattle.std.specs.Cmp.Rules.{comparing}
use Rattle.std.specs.Cmp.Lexicographic.{pointwise}
use Rattle.std.specs.List.{IsDistinct, AllByRecursion}
use Rattle.std.specs.Map.{lookup, keys_of}
use Rattle.std.specs.HashMap.{HashMap}
use Rattle.std.proofs.lemmas.List.{reverse-append, map-append}
use Rattle.std.proofs.lemmas.Map.{lookup-none, NonePasses}
use Rattle.indexmap.specs.IndexMap.{insert_entry}
use Rattle.c_types.specs.Scopes.{declared_in, is_new_in, with_entry, latest_first, outer_scopes, without_innermost}

abbrev pub same_name : List ℕ → List ℕ → Bool
same_name = pointwise ◌==◌

pub names_compare : IsEquivalence same_name
names_compare = search (comparing, rules)

module _ {T : Type 0} where
  pub lookup_in_first : (p : List ℕ → Bool) (es fs : List (List ℕ × T)) (v : T) → lookup p es ≡ Some v → lookup p (es ++ fs) ≡ Some v
  lookup_in_first p [] fs v h = absurd (cc)
  lookup_in_first p (e ∷ es) fs v h = by (p e.0) h (lookup_in_first p es fs v)
    where
      by : (b : Bool) → cond b (Some e.1) (lookup p es) ≡ Some v → (lookup p es ≡ Some v → lookup p (es ++ fs) ≡ Some v) → cond b (Some e.1) (lookup p (es ++ fs)) ≡ Some v
      by true h rest = h
      by false h rest = rest h

  pub lookup_in_second : (p : List ℕ → Bool) (es fs : List (List ℕ × T)) → lookup p es ≡ None → lookup p (es ++ fs) ≡ lookup p fs
  lookup_in_second p [] fs h = refl
  lookup_in_second p (e ∷ es) fs h = by (p e.0) h (lookup_in_second p es fs)
    where
      by : (b : Bool) → cond b (Some e.1) (lookup p es) ≡ None → (lookup p es ≡ None → lookup p (es ++ fs) ≡ lookup p fs) → cond b (Some e.1) (lookup p (es ++ fs)) ≡ lookup p fs
      by true h rest = absurd (cc)
      by false h rest = rest h

  none_equal : (x k : List ℕ) (es : List (List ℕ × T)) → same_name x k ≡ true → AllByRecursion (λ y. same_name k y ≡ false) (keys_of es) → NonePasses (same_name x) es
  none_equal x k [] same apart = tt
  none_equal x k (e ∷ es) same apart = (names_compare.congr x k e.0 same ∙ apart.0, none_equal x k es same apart.1)

  -- one more entry at the end, whose key no other entry has
  one_more : (x : List ℕ) (rs es : List (List ℕ × T)) (e : List ℕ × T) (b : Bool) (r : Option T) → same_name x e.0 ≡ b → lookup (same_name x) es ≡ r
      → lookup (same_name x) rs ≡ lookup (same_name x) es → (b ≡ true → r ≡ None) → lookup (same_name x) (rs ++ e ∷ []) ≡ lookup (same_name x) (e ∷ es)
  one_more x rs es e true r is there same none =
      lookup_in_second (same_name x) rs (e ∷ []) (same ∙ there ∙ none refl) ∙ ap (λ b. cond b (Some e.1) None) is ∙ sym (ap (λ b. cond b (Some e.1) (lookup (same_name x) es)) is)
  one_more x rs es e false None is there same none =
      lookup_in_second (same_name x) rs (e ∷ []) (same ∙ there) ∙ ap (λ b. cond b (Some e.1) None) is ∙ sym (ap (λ b. cond b (Some e.1) (lookup (same_name x) es)) is ∙ there)
  one_more x rs es e false (Some v) is there same none =
      lookup_in_first (same_name x) rs (e ∷ []) v (same ∙ there) ∙ sym (ap (λ b. cond b (Some e.1) (lookup (same_name x) es)) is ∙ there)

  pub lookup-reverse : (x : List ℕ) (es : List (List ℕ × T)) → IsDistinct same_name (keys_of es) → lookup (same_name x) (reverse es) ≡ lookup (same_name x) es
  unfolding IsDistinct
  lookup-reverse x [] d = refl
  lookup-reverse x (e ∷ es) d =
      ap (lookup (same_name x)) (reverse-append (e ∷ []) es)
      ∙ one_more x (reverse es) es e (same_name x e.0) (lookup (same_name x) es) refl refl (lookup-reverse x es d.1) (λ same. lookup-none (same_name x) es (none_equal x e.0 es same d.0))

  -- a name in the innermost scope
  pub known_name : (x : List ℕ) (es : List (List ℕ × T)) (ss : List (List (List ℕ × T))) → IsDistinct same_name (keys_of es) → is_some (lookup (same_name x) es) ≡ true
      → is_new_in (reverse es ∷ ss) x ≡ false
  known_name x es ss d h = rw (lookup-reverse x es d) (by (lookup (same_name x) es) h)
    where
      by : (r : Option T) → is_some r ≡ true → is_none r ≡ false
      by None h = absurd (cc)
      by (Some v) h = refl

  pub known_stays : (x : List ℕ) (t : T) (es : List (List ℕ × T)) (ss : List (List (List ℕ × T))) → IsDistinct same_name (keys_of es) → is_some (lookup (same_name x) es) ≡ true
      → with_entry x t (reverse es ∷ ss) ≡ reverse es ∷ ss
  known_stays x t es ss d h = ap (λ b. (if b then (x, t) ∷ reverse es else reverse es) ∷ ss) (known_name x es ss d h)

  pub new_name : (x : List ℕ) (es : List (List ℕ × T)) (ss : List (List (List ℕ × T))) → IsDistinct same_name (keys_of es) → is_some (lookup (same_name x) es) ≡ false
      → is_new_in (reverse es ∷ ss) x ≡ true
  new_name x es ss d h = rw (lookup-reverse x es d) (by (lookup (same_name x) es) h)
    where
      by : (r : Option T) → is_some r ≡ false → is_none r ≡ true
      by None h = refl
      by (Some v) h = absurd (cc)

  new_last : (x : List ℕ) (t : T) (es : List (List ℕ × T)) → is_some (lookup (same_name x) es) ≡ false → insert_entry same_name es x t ≡ es ++ (x, t) ∷ []
  new_last x t [] h = refl
  new_last x t (e ∷ es) h = by (same_name x e.0) h (new_last x t es)
    where
      by : (b : Bool) → is_some (cond b (Some e.1) (lookup (same_name x) es)) ≡ false → (is_some (lookup (same_name x) es) ≡ false → insert_entry same_name es x t ≡ es ++ (x, t) ∷ [])
          → (if b then (e.0, t) ∷ es else e ∷ insert_entry same_name es x t) ≡ (e ∷ es) ++ (x, t) ∷ []
      by true h rest = absurd (cc)
      by false h rest = ap (λ fs. e ∷ fs) (rest h)

  pub new_enters : (x : List ℕ) (t : T) (es : List (List ℕ × T)) (ss : List (List (List ℕ × T))) → IsDistinct same_name (keys_of es) → is_some (lookup (same_name x) es) ≡ false
      → with_entry x t (reverse es ∷ ss) ≡ reverse (insert_entry same_name es x t) ∷ ss
  new_enters x t es ss d h =
      ap (λ b. (if b then (x, t) ∷ reverse es else reverse es) ∷ ss) (new_name x es ss d h)
      ∙ ap (λ s. s ∷ ss) (sym (ap reverse (new_last x t es h) ∙ reverse-append es ((x, t) ∷ [])))

  -- a name that the innermost scope has, or has not
  pub found_here : (x : List ℕ) (v : T) (es : List (List ℕ × T)) (ss : List (List (List ℕ × T))) → IsDistinct same_name (keys_of es) → lookup (same_name x) es ≡ Some v
      → declared_in (reverse es ∷ ss) x ≡ Some v
  found_here x v es ss d h = lookup_in_first (same_name x) (reverse es) (flat_map (λ s. s) ss) v (lookup-reverse x es d ∙ h)

  pub found_outside : (x : List ℕ) (es : List (List ℕ × T)) (ss : List (List (List ℕ × T))) → IsDistinct same_name (keys_of es) → lookup (same_name x) es ≡ None
      → declared_in (reverse es ∷ ss) x ≡ declared_in ss x
  found_outside x es ss d h = lookup_in_second (same_name x) (reverse es) (flat_map (λ s. s) ss) (lookup-reverse x es d ∙ h)

  -- the last scope of several is the innermost
  pub last_scope : {S : Type 0} (ms rest : List (HashMap (List ℕ) T S)) (m : HashMap (List ℕ) T S) → ms ≡ rest ++ m ∷ [] → outer_scopes ms ≡ reverse m.entries ∷ outer_scopes rest
  last_scope ms rest m is = ap outer_scopes is ∙ ap reverse (map-append latest_first rest (m ∷ [])) ∙ reverse-append (map latest_first rest) (reverse m.entries ∷ [])

  -- the scopes after one more is begun inside
  pub entered_scopes : {S : Type 0} (ms ns : List (HashMap (List ℕ) T S)) (m n : HashMap (List ℕ) T S) (v : List (List (List ℕ × T))) → n.entries ≡ [] → ns ≡ ms ++ m ∷ [] → latest_first m ∷ outer_scopes ms ≡ v
      → latest_first n ∷ outer_scopes ns ≡ [] ∷ v
  entered_scopes ms ns m n v none more is = ap (λ es. reverse es ∷ outer_scopes ns) none ∙ ap (λ ss. [] ∷ ss) (last_scope ns ms m more ∙ is)

  -- and after the innermost ends
  pub left_scopes : {S : Type 0} (ms rest : List (HashMap (List ℕ) T S)) (m n : HashMap (List ℕ) T S) (v : List (List (List ℕ × T))) → ms ≡ rest ++ n ∷ [] → latest_first m ∷ outer_scopes ms ≡ v
      → latest_first n ∷ outer_scopes rest ≡ without_innermost v
  left_scopes ms rest m n v last is = sym (ap (λ ss. without_innermost (latest_first m ∷ ss)) (last_scope ms rest n last)) ∙ ap without_innermost is
