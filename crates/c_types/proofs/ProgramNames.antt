-- What a name stands for where helpers may be called: a variable or an array, and else a helper, by its place among those before.
use Rattle.std.proofs.Common.{◌≡◌, ℕ, suc, ◌<◌, Bool, true, false, cond, List, [], ◌∷◌, ◌++◌, length, flat_map, Option, Some, None, IsSome, refl, sym, ap, subst, ◌∙◌, if◌then◌else◌, arith, append_assoc, append-nil}
use Rattle.std.proofs.lemmas.List.{length-map}
use Rattle.std.proofs.lemmas.Bool.{false≢true}
use Rattle.std.specs.Cmp.Lexicographic.{bytes_decides}
use Rattle.std.specs.Map.{lookup}
use Rattle.c_ast.specs.declared.tree.Param.{Param}
use Rattle.c_ast.specs.declared.tree.Stmt.{Stmt}
use Rattle.c_ast.specs.declared.tree.StmtKind.{StmtKind, end_of-Stmt, more_of-Stmt}
use Rattle.c_ast.specs.declared.tree.StmtKind as row
use Rattle.c_ast.specs.declared.tree.Helper.{Helper}
use Rattle.c_ast.specs.Typing.{Sort, a_scalar, a_helper, Names, sort_in, sort_of, with_name, names_after, IsUsable, IsCallable}
use Rattle.c_ast.specs.Typing as typing
use Rattle.c_ast.specs.Programs.{with_helper, names_after_list}
use Rattle.c_ast.specs.ProgramCasts as program
use Rattle.c_ast.specs.ProgramCasts.{helper_from, helper_of, known_of}
use Rattle.c_types.specs.declared.known.Binding.{Binding}
use Rattle.c_types.specs.declared.known.Binding.TheVariants as binding
use Rattle.c_types.specs.Scopes.{declared_in}
use Rattle.c_types.specs.Contexts.{Bindings}
use Rattle.c_types.specs.TypingParts.{names_in, TypingUseIn}
use Rattle.c_types.specs.ProgramContexts.{callees}
use Rattle.c_types.specs.ProgramParts.{sort_of_callee, Knows, Around, names_with, IsCallee}
use Rattle.c_types.proofs.Lookups.{same_name, names_compare, lookup_in_first, lookup_in_second}
use Rattle.c_types.proofs.UsedNames.{sort_is}

-- ---- names with one more scope outside

flat_with : (names : Names) (known : List (List ℕ × Sort)) → flat_map (λ s. s) (names ++ known ∷ []) ≡ flat_map (λ s. s) names ++ known
flat_with [] known = append-nil known
flat_with (s ∷ ss) known = ap (λ es. s ++ es) (flat_with ss known) ∙ sym (append_assoc s (flat_map (λ s. s) ss) known)

found_inside : (names : Names) (known : List (List ℕ × Sort)) (x : List ℕ) (t : Sort) → sort_of names x ≡ Some t → sort_of (names ++ known ∷ []) x ≡ Some t
found_inside names known x t h = ap (lookup (same_name x)) (flat_with names known) ∙ lookup_in_first (same_name x) (flat_map (λ s. s) names) known t h

found_outside : (names : Names) (known : List (List ℕ × Sort)) (x : List ℕ) → sort_of names x ≡ None → sort_of (names ++ known ∷ []) x ≡ sort_in known x
found_outside names known x h = ap (lookup (same_name x)) (flat_with names known) ∙ lookup_in_second (same_name x) (flat_map (λ s. s) names) known h

-- what is used is no helper, so it is declared inside
usable_inside : (names : Names) (known : List (List ℕ × Sort)) (hs : List program.Known) (x : List ℕ) (n : ℕ) (r : Option Sort) (f : Option (ℕ × program.Known)) → Knows hs known → sort_of names x ≡ r → helper_of hs x ≡ f
    → IsUsable (names ++ known ∷ []) x n → IsUsable names x n
usable_inside names known hs x n None None k none is u =
    let h : false ≡ true = subst IsSome (found_outside names known x none ∙ k.knows x ∙ ap sort_of_callee is) u.rule_20_declared in absurd (false≢true h)
usable_inside names known hs x n None (Some (j, g)) k none is u = absurd (u.rule_23_no_helper (length g.params) (found_outside names known x none ∙ k.knows x ∙ ap sort_of_callee is))
usable_inside names known hs x n (Some t) f k some is u = record {
  rule_20_declared = subst IsSome (sym some) refl;
  rule_22_scalar_has_none = λ e. u.rule_22_scalar_has_none (found_inside names known x a_scalar e);
  rule_23_array_has_some = λ m e. u.rule_23_array_has_some m (found_inside names known x (typing.an_array m) e);
  rule_24_one_for_each = λ m e lt. u.rule_24_one_for_each m (found_inside names known x (typing.an_array m) e) lt;
  rule_23_no_helper = λ m e. u.rule_23_no_helper m (found_inside names known x (a_helper m) e);
}

pub use_inside : {hs : List Helper} (w : Around hs) (v : Bindings) (x : List ℕ) (n : ℕ) → IsUsable (names_with w v) x n → TypingUseIn v x n
use_inside {hs} w v x n u =
    record { dims = w.dims; usable = usable_inside (names_in w.dims v) w.known (callees hs) x n (sort_of (names_in w.dims v) x) (helper_of (callees hs) x) w.callees_known refl refl u }

-- what is called is a helper that nothing inside hides
pub record IsCalled (hs : List Helper) (v : Bindings) (x : List ℕ) (n : ℕ) : Type 0 where
  pub undeclared : declared_in v x ≡ None
  pub callee : IsCallee hs x n

called_outside : {hs : List Helper} (w : Around hs) (v : Bindings) (x : List ℕ) (n : ℕ) (f : Option (ℕ × program.Known)) → declared_in v x ≡ None → helper_of (callees hs) x ≡ f → IsCallable (names_with w v) x n → IsCallee hs x n
called_outside {hs} w v x n None none is u =
    let h : false ≡ true = subst IsSome (found_outside (names_in w.dims v) w.known x (sort_is w.dims v x None none) ∙ w.callees_known.knows x ∙ ap sort_of_callee is) u.rule_20_declared in absurd (false≢true h)
called_outside {hs} w v x n (Some (j, g)) none is u = record {
  place = j;
  callee = g;
  found = is;
  one_for_each = u.rule_29_one_for_each (length g.params) (found_outside (names_in w.dims v) w.known x (sort_is w.dims v x None none) ∙ w.callees_known.knows x ∙ ap sort_of_callee is);
}

called : {hs : List Helper} (w : Around hs) (v : Bindings) (x : List ℕ) (n : ℕ) (r : Option Binding) → declared_in v x ≡ r → IsCallable (names_with w v) x n → IsCalled hs v x n
called {hs} w v x n None is u = record { undeclared = is; callee = called_outside w v x n (helper_of (callees hs) x) is refl u }
called w v x n (Some (binding.Var i t)) is u = absurd (u.rule_17_no_scalar (found_inside (names_in w.dims v) w.known x a_scalar (sort_is w.dims v x (Some (binding.Var i t)) is)))
called w v x n (Some (binding.Array i t)) is u =
    absurd (u.rule_17_no_array (length (w.dims i)) (found_inside (names_in w.dims v) w.known x (typing.an_array (length (w.dims i))) (sort_is w.dims v x (Some (binding.Array i t)) is)))

pub call_inside : {hs : List Helper} (w : Around hs) (v : Bindings) (x : List ℕ) (n : ℕ) → IsCallable (names_with w v) x n → IsCalled hs v x n
call_inside w v x n u = called w v x n (declared_in v x) refl u

-- ---- after statements, with one more scope outside

pub name_inside : (names : Names) (x : List ℕ) (known : List (List ℕ × Sort)) → 0 < length names → with_name x (names ++ known ∷ []) ≡ with_name x names ++ known ∷ []
name_inside [] x known some = absurd (omega (arith, some))
name_inside (s ∷ ss) x known some = refl

pub after_inside : (names : Names) (s : StmtKind) (known : List (List ℕ × Sort)) → 0 < length names → names_after (names ++ known ∷ []) s ≡ names_after names s ++ known ∷ []
after_inside names (row.Declare x t e) known some = name_inside names x known some
after_inside names (row.If' e b (more_of-Stmt s a end_of-Stmt) o) known some = refl
after_inside names (row.While' e b (more_of-Stmt s a end_of-Stmt)) known some = refl
after_inside names (row.DoWhile' b (more_of-Stmt s a end_of-Stmt) e) known some = refl
after_inside names (row.For' n r e o b (more_of-Stmt s a end_of-Stmt)) known some = refl
after_inside names s known some = refl

name_some : (names : Names) (x : List ℕ) → 0 < length names → 0 < length (with_name x names)
name_some [] x some = absurd (omega (arith, some))
name_some (s ∷ ss) x some = omega arith

pub after_some : (names : Names) (s : StmtKind) → 0 < length names → 0 < length (names_after names s)
after_some names (row.Declare x t e) some = name_some names x some
after_some names (row.If' e b (more_of-Stmt s a end_of-Stmt) o) some = some
after_some names (row.While' e b (more_of-Stmt s a end_of-Stmt)) some = some
after_some names (row.DoWhile' b (more_of-Stmt s a end_of-Stmt) e) some = some
after_some names (row.For' n r e o b (more_of-Stmt s a end_of-Stmt)) some = some
after_some names s some = some

pub list_inside : (ss : List Stmt) (names : Names) (known : List (List ℕ × Sort)) → 0 < length names → names_after_list (names ++ known ∷ []) ss ≡ names_after_list names ss ++ known ∷ []
list_inside [] names known some = refl
list_inside (s ∷ ss) names known some = ap (λ names. names_after_list names ss) (after_inside names s.kind known some) ∙ list_inside ss (names_after names s.kind) known (after_some names s.kind some)

pub list_some : (ss : List Stmt) (names : Names) → 0 < length names → 0 < length (names_after_list names ss)
list_some [] names some = some
list_some (s ∷ ss) names some = list_some ss (names_after names s.kind) (after_some names s.kind some)

-- ---- one helper more

found_one : (b : Bool) (n : ℕ) (g : program.Known) → sort_of_callee (if b then Some (n, g) else None) ≡ cond b (Some (a_helper (length g.params))) None
found_one true n g = refl
found_one false n g = refl

more_at : (b : Bool) (n : ℕ) (h : program.Known) (o p : Option (ℕ × program.Known)) (s : Option Sort) → (if b then Some (n, h) else o) ≡ None → (o ≡ None → sort_of_callee p ≡ s) → sort_of_callee (if b then Some (n, h) else p) ≡ s
more_at true n h o p s e f = absurd (cc)
more_at false n h o p s e f = f e

-- behind those of which none has the name
found_more : (n : ℕ) (hs : List program.Known) (g : program.Known) (x : List ℕ) → helper_from n hs x ≡ None → sort_of_callee (helper_from n (hs ++ g ∷ []) x) ≡ cond (same_name g.name x) (Some (a_helper (length g.params))) None
found_more n [] g x e = found_one (same_name g.name x) n g
found_more n (h ∷ hs) g x e =
    more_at (same_name h.name x) n h (helper_from (suc n) hs x) (helper_from (suc n) (hs ++ g ∷ []) x) (cond (same_name g.name x) (Some (a_helper (length g.params))) None) e (found_more (suc n) hs g x)

kept_at : (b : Bool) (n : ℕ) (h : program.Known) (o p : Option (ℕ × program.Known)) (j : ℕ) (g : program.Known) → (if b then Some (n, h) else o) ≡ Some (j, g) → (o ≡ Some (j, g) → p ≡ Some (j, g)) → (if b then Some (n, h) else p) ≡ Some (j, g)
kept_at true n h o p j g e f = e
kept_at false n h o p j g e f = f e

-- one that has the name stays the first
found_kept : (n : ℕ) (hs : List program.Known) (more : List program.Known) (x : List ℕ) (j : ℕ) (g : program.Known) → helper_from n hs x ≡ Some (j, g) → helper_from n (hs ++ more) x ≡ Some (j, g)
found_kept n [] more x j g e = absurd (cc)
found_kept n (h ∷ hs) more x j g e = kept_at (same_name h.name x) n h (helper_from (suc n) hs x) (helper_from (suc n) (hs ++ more) x) j g e (found_kept (suc n) hs more x j g)

-- the name of a helper is new, so it is not that of an earlier one
not_taken : (known : List (List ℕ × Sort)) (x y : List ℕ) (s : Sort) (b : Bool) → same_name x y ≡ b → sort_in known y ≡ None → sort_in known x ≡ Some s → b ≡ false
not_taken known x y s false e none some = refl
not_taken known x y s true e none some = absurd (differ (sym some ∙ ap (sort_in known) ((bytes_decides x y).0 e) ∙ none))
  where
    differ : Some s ≡ None → ⊥
    differ f = absurd (cc)

knows_at : (hs : List program.Known) (known : List (List ℕ × Sort)) (h : Helper) (x : List ℕ) (o : Option (ℕ × program.Known)) → helper_of hs x ≡ o → sort_in known x ≡ sort_of_callee o → sort_in known h.name ≡ None → sort_in (with_helper h known) x ≡ sort_of_callee (helper_of (hs ++ known_of h ∷ []) x)
knows_at hs known h x None e w new =
    let b = same_name x h.name in
    let many = length-map h.params (λ (q : Param). q.ty) in
    ap (λ s. cond b (Some (a_helper (length h.params))) s) w
    ∙ ap (λ n. cond b (Some (a_helper n)) None) (sym many)
    ∙ sym (found_more 0 hs (known_of h) x e ∙ ap (λ z. cond z (Some (a_helper (length (known_of h).params))) None) (names_compare.symm h.name x))
knows_at hs known h x (Some (j, g)) e w new =
    let b = same_name x h.name in
    ap (λ z. cond z (Some (a_helper (length h.params))) (sort_in known x)) (not_taken known x h.name (a_helper (length g.params)) b refl new w)
    ∙ w ∙ ap sort_of_callee (sym (found_kept 0 hs (known_of h ∷ []) x j g e))

-- no helpers yet
pub knows_none : Knows [] []
knows_none = record { knows = λ x. refl }

pub knows_more : (hs : List program.Known) (known : List (List ℕ × Sort)) (h : Helper) → Knows hs known → sort_in known h.name ≡ None → Knows (hs ++ known_of h ∷ []) (with_helper h known)
knows_more hs known h w new = record { knows = λ x. knows_at hs known h x (helper_of hs x) refl (w.knows x) new }
