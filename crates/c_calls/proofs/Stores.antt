-- Stores of runs with calls, and of runs of the tree without calls, in which the variables of a helper are numbered from b on.
use Rattle.std.proofs.Common.{◌≡◌, ℕ, zero, suc, ◌+◌, ◌<◌, ◌≤◌, List, [], ◌∷◌, ◌++◌, length, get_or, Option, None, refl, sym, ◌∙◌, ap, subst, arith, ◌⊎◌, inl, inr}
use Rattle.std.specs.Prelude.{Bool, true, false, ℤ, set, Contains}
use Rattle.std.proofs.lemmas.Bool.{cases_eq, false≢true, cases_lt}
use Rattle.std.proofs.lemmas.List.{length-set, get_or-set_same, get_or-set_other}
use Rattle.std.proofs.lemmas.List.Elements.{Contains-append_cases}
use Rattle.c_meaning.specs.Stores.{Store, Objects, unset_var, unset_vars, read_var, set_element}
use Rattle.c_meaning.proofs.StoreParts.{Below}
use Rattle.c_calls.proofs.Lists.{no_member, here, there, member_cases}

-- ---- stores that agree below a number

pub below_back : (n : ℕ) (s t : Store) → Below n s t → Below n t s
below_back n s t a = record { vars = λ x h. sym (a.vars x h); arrays = sym a.arrays; count = sym a.count }

pub below_less : (m n : ℕ) (s t : Store) → m ≤ n → Below n s t → Below m s t
below_less m n s t h a = record { vars = λ x lt. a.vars x (omega arith); arrays = a.arrays; count = a.count }

-- ---- a variable set or unset

abbrev pub put : ℕ → Option ℤ → Store → Store
put v z s = record s { vars = set s.vars v z }

pub put_other : (v w : ℕ) (z : Option ℤ) (s : Store) → (w ≡ v → ⊥) → read_var (put v z s) w ≡ read_var s w
put_other v w z s h = get_or-set_other s.vars v w z None h

pub put_same : (v : ℕ) (z : Option ℤ) (s : Store) → v < length s.vars → read_var (put v z s) v ≡ z
put_same v z s h = get_or-set_same s.vars v z None h

pub put_below : (n v : ℕ) (z : Option ℤ) (s : Store) → n ≤ v → Below n s (put v z s)
put_below n v z s h = record { vars = λ x lt. sym (put_other v x z s (λ e. omega arith)); arrays = refl; count = sym (length-set s.vars v z) }

past : (xs : List (Option ℤ)) (i : ℕ) → length xs ≤ i → get_or xs i None ≡ None
past [] i h = refl
past (x ∷ xs) zero h = absurd (omega arith)
past (x ∷ xs) (suc i) h = past xs i (omega arith)

unset_here : (v : ℕ) (s : Store) → read_var (put v None s) v ≡ None
unset_here v s = by_size (cases_lt v (length s.vars))
  where
    by_size : (v < length s.vars) ⊎ (length s.vars ≤ v) → read_var (put v None s) v ≡ None
    by_size (inl h) = put_same v None s h
    by_size (inr h) = let e = length-set s.vars v None in past (set s.vars v None) v (omega arith)

none_kept : (v w : ℕ) (s : Store) → read_var s w ≡ None → read_var (put v None s) w ≡ None
none_kept v w s h = by_cases (cases_eq w v)
  where
    by_cases : (w ≡ v) ⊎ (w ≡ v → ⊥) → read_var (put v None s) w ≡ None
    by_cases (inl e) = subst (λ i. read_var (put v None s) i ≡ None) (sym e) (unset_here v s)
    by_cases (inr n) = put_other v w None s n ∙ h

pub unset_keeps : (ds : List ℕ) (w : ℕ) (s : Store) → read_var s w ≡ None → read_var (unset_vars ds s) w ≡ None
unset_keeps [] w s h = h
unset_keeps (d ∷ ds) w s h = unset_keeps ds w (unset_var d s) (none_kept d w s h)

pub unset_in : (ds : List ℕ) (w : ℕ) (s : Store) → Contains ds w → read_var (unset_vars ds s) w ≡ None
unset_in [] w s c = no_member w c
unset_in (d ∷ ds) w s c = by_cases (unset_in ds w (unset_var d s)) (member_cases d ds w c)
  where
    by_cases : (Contains ds w → read_var (unset_vars ds (unset_var d s)) w ≡ None) → (w ≡ d) ⊎ Contains ds w → read_var (unset_vars ds (unset_var d s)) w ≡ None
    by_cases f (inl e) = unset_keeps ds w (unset_var d s) (subst (λ i. read_var (unset_var d s) i ≡ None) (sym e) (unset_here d s))
    by_cases f (inr k) = f k

pub unset_out : (ds : List ℕ) (w : ℕ) (s : Store) → (Contains ds w → ⊥) → read_var (unset_vars ds s) w ≡ read_var s w
unset_out [] w s n = refl
unset_out (d ∷ ds) w s n = unset_out ds w (unset_var d s) (λ c. n (there d ds w c)) ∙ put_other d w None s (λ e. n (subst (Contains (d ∷ ds)) (sym e) (here d ds)))

pub unset_count : (ds : List ℕ) (s : Store) → length (unset_vars ds s).vars ≡ length s.vars
unset_count [] s = refl
unset_count (d ∷ ds) s = unset_count ds (unset_var d s) ∙ length-set s.vars d None

pub unset_arrays : (ds : List ℕ) (s : Store) → (unset_vars ds s).arrays ≡ s.arrays
unset_arrays [] s = refl
unset_arrays (d ∷ ds) s = unset_arrays ds (unset_var d s)

pub unset_below : (n : ℕ) (ds : List ℕ) (s : Store) → ((x : ℕ) → Contains ds x → n ≤ x) → Below n s (unset_vars ds s)
unset_below n ds s h = record { vars = λ x lt. sym (unset_out ds x s (λ c. let k = h x c in omega arith)); arrays = sym (unset_arrays ds s); count = sym (unset_count ds s) }

-- ---- both stores

-- a kernel has its arrays in both; a helper has none, and leaves those of the tree as they are
abbrev pub Held : Bool → List (List ℤ) → List (List ℤ) → List (List ℤ) → Type 0
Held true low s t = s ≡ t
Held false low s t = t ≡ low

-- vs are in scope, and the same in both; us are unset in the run with calls, and ts in that without; below b it is as in low
pub record Agree (k K : Objects) (b : ℕ) (own : Bool) (low : Store) (vs us ts : List ℕ) (s t : Store) : Type 0 where
  pub same : (w : ℕ) → Contains vs w → read_var s w ≡ read_var t (b + w)
  pub unset : (w : ℕ) → Contains us w → read_var s w ≡ None
  pub unset_too : (x : ℕ) → Contains ts x → read_var t x ≡ None
  pub below : (x : ℕ) → x < b → read_var t x ≡ read_var low x
  pub arrays : Held own low.arrays s.arrays t.arrays
  pub long : length k.vars ≤ length s.vars
  pub count : length t.vars ≡ length low.vars

-- us are no variables in scope, and ts are some of us
pub record Lists (n b : ℕ) (vs us ts : List ℕ) : Type 0 where
  pub small : (w : ℕ) → Contains vs w → w < n
  pub few : (w : ℕ) → Contains us w → w < n
  pub apart : (w : ℕ) → Contains us w → Contains vs w → ⊥
  pub made : (x : ℕ) → Contains ts x → (w : ℕ) × (x ≡ b + w) × Contains us w

held_then : (own : Bool) (a x y z : List (List ℤ)) → y ≡ z → Held own a x y → Held own a x z
held_then true a x y z e h = h ∙ e
held_then false a x y z e h = sym e ∙ h

held_first : (own : Bool) (a x y z : List (List ℤ)) → x ≡ z → Held own a x y → Held own a z y
held_first true a x y z e h = sym e ∙ h
held_first false a x y z e h = h

module _ (k K : Objects) (b : ℕ) (own : Bool) (low : Store) where
  pub agree_less : (vs us ts vs2 us2 ts2 : List ℕ) (s t : Store) → ((w : ℕ) → Contains vs2 w → Contains vs w) → ((w : ℕ) → Contains us2 w → Contains us w) → ((w : ℕ) → Contains ts2 w → Contains ts w) → Agree k K b own low vs us ts s t → Agree k K b own low vs2 us2 ts2 s t
  agree_less vs us ts vs2 us2 ts2 s t f g h a = record { same = λ w c. a.same w (f w c); unset = λ w c. a.unset w (g w c); unset_too = λ x c. a.unset_too x (h x c); below = a.below; arrays = a.arrays; long = a.long; count = a.count }

  -- what changes in the tree alone lies above the variables of the helper
  pub agree_below : (f : ℕ) (vs us ts : List ℕ) (s t r : Store) → Lists (length k.vars) b vs us ts → b + length k.vars ≤ f → Agree k K b own low vs us ts s t → Below f t r → Agree k K b own low vs us ts s r
  agree_below f vs us ts s t r l le a z = record {
    same = λ w c. a.same w c ∙ z.vars (b + w) (let h = l.small w c in omega arith);
    unset = a.unset;
    unset_too = λ x c. let m = l.made x c in let h = l.few m.0 m.2 in sym (z.vars x (let e = m.1 in omega arith)) ∙ a.unset_too x c;
    below = λ x lt. sym (z.vars x (omega arith)) ∙ a.below x lt;
    arrays = held_then own low.arrays s.arrays t.arrays r.arrays z.arrays a.arrays;
    long = a.long;
    count = sym z.count ∙ a.count;
  }

  -- a variable is written in both
  pub agree_put : (vs us ts : List ℕ) (v : ℕ) (z : Option ℤ) (s t : Store) → Lists (length k.vars) b vs us ts → v < length k.vars → b + v < length low.vars → (Contains us v → ⊥) → Agree k K b own low vs us ts s t → Agree k K b own low (v ∷ vs) us ts (put v z s) (put (b + v) z t)
  agree_put vs us ts v z s t l lt lt2 n a = record {
    same = λ w c. same_at w (cases_eq w v) (member_cases v vs w c);
    unset = λ w c. put_other v w z s (λ e. n (subst (Contains us) e c)) ∙ a.unset w c;
    unset_too = λ x c. let m = l.made x c in put_other (b + v) x z t (λ e. n (subst (Contains us) (same_number m.0 (sym m.1 ∙ e)) m.2)) ∙ a.unset_too x c;
    below = λ x lt. put_other (b + v) x z t (λ e. omega arith) ∙ a.below x lt;
    arrays = a.arrays;
    long = let e = length-set s.vars v z in let h = a.long in omega arith;
    count = length-set t.vars (b + v) z ∙ a.count;
  }
    where
      same_number : (w : ℕ) → b + w ≡ b + v → w ≡ v
      same_number w e = omega arith

      same_at : (w : ℕ) → (w ≡ v) ⊎ (w ≡ v → ⊥) → (w ≡ v) ⊎ Contains vs w → read_var (put v z s) w ≡ read_var (put (b + v) z t) (b + w)
      same_at w (inl e) c = subst (λ i. read_var (put v z s) i ≡ read_var (put (b + v) z t) (b + i)) (sym e) (put_same v z s (let h = a.long in omega arith) ∙ sym (put_same (b + v) z t (let h = a.count in omega arith)))
      same_at w (inr o) (inl e) = absurd (o e)
      same_at w (inr o) (inr c) = put_other v w z s o ∙ a.same w c ∙ sym (put_other (b + v) (b + w) z t (λ e. o (same_number w e)))

  -- in the scope of its declarator a variable that is unset in both is the same
  pub agree_scope : (vs us ts : List ℕ) (v : ℕ) (s t : Store) → read_var t (b + v) ≡ None → Agree k K b own low vs (v ∷ us) ts s t → Agree k K b own low (v ∷ vs) us ts s t
  agree_scope vs us ts v s t e a = record {
    same = λ w c. same_at w (member_cases v vs w c);
    unset = λ w c. a.unset w (there v us w c);
    unset_too = a.unset_too;
    below = a.below;
    arrays = a.arrays;
    long = a.long;
    count = a.count;
  }
    where
      same_at : (w : ℕ) → (w ≡ v) ⊎ Contains vs w → read_var s w ≡ read_var t (b + w)
      same_at w (inl q) = subst (λ i. read_var s i ≡ read_var t (b + i)) (sym q) (a.unset v (here v us) ∙ sym e)
      same_at w (inr c) = a.same w c

  -- the block that a call's statement becomes unsets the variable that it declares
  pub agree_open : (vs us ts : List ℕ) (v : ℕ) (s t : Store) → Lists (length k.vars) b vs (v ∷ us) ts → Agree k K b own low vs (v ∷ us) ts s t → Agree k K b own low (v ∷ vs) us ts s (put (b + v) None t)
  agree_open vs us ts v s t l a = agree_scope vs us ts v s (put (b + v) None t) (unset_here (b + v) t) (record {
    same = λ w c. a.same w c ∙ sym (put_other (b + v) (b + w) None t (λ e. l.apart v (here v us) (subst (Contains vs) (same_number w e) c)));
    unset = a.unset;
    unset_too = λ x c. none_kept (b + v) x t (a.unset_too x c);
    below = λ x lt. put_other (b + v) x None t (λ e. omega arith) ∙ a.below x lt;
    arrays = a.arrays;
    long = a.long;
    count = length-set t.vars (b + v) None ∙ a.count;
  })
    where
      same_number : (w : ℕ) → b + w ≡ b + v → w ≡ v
      same_number w e = omega arith

  -- entering a block: ds are unset in the run with calls, and some of them in that without
  pub agree_enter : (vs us ts ds xs : List ℕ) (s t : Store) → Lists (length k.vars) b vs ds xs → Agree k K b own low vs us ts s t → Agree k K b own low vs (ds ++ us) (xs ++ ts) (unset_vars ds s) (unset_vars xs t)
  agree_enter vs us ts ds xs s t l a = record {
    same = λ w c. unset_out ds w s (λ d. l.apart w d c) ∙ a.same w c ∙ sym (unset_out xs (b + w) t (λ d. let m = l.made (b + w) d in l.apart w (subst (Contains ds) (same_number m.0 w (sym m.1)) m.2) c));
    unset = λ w c. unset_at w (Contains-append_cases ds us w c);
    unset_too = λ x c. unset_too_at x (Contains-append_cases xs ts x c);
    below = λ x lt. unset_out xs x t (λ d. let m = l.made x d in let e = m.1 in omega arith) ∙ a.below x lt;
    arrays = held_then own low.arrays (unset_vars ds s).arrays t.arrays (unset_vars xs t).arrays (sym (unset_arrays xs t)) (held_first own low.arrays s.arrays t.arrays (unset_vars ds s).arrays (sym (unset_arrays ds s)) a.arrays);
    long = let e = unset_count ds s in let h = a.long in omega arith;
    count = unset_count xs t ∙ a.count;
  }
    where
      same_number : (v w : ℕ) → b + v ≡ b + w → v ≡ w
      same_number v w e = omega arith

      unset_at : (w : ℕ) → Contains ds w ⊎ Contains us w → read_var (unset_vars ds s) w ≡ None
      unset_at w (inl c) = unset_in ds w s c
      unset_at w (inr c) = unset_keeps ds w s (a.unset w c)

      unset_too_at : (x : ℕ) → Contains xs x ⊎ Contains ts x → read_var (unset_vars xs t) x ≡ None
      unset_too_at x (inl c) = unset_in xs x t c
      unset_too_at x (inr c) = unset_keeps xs x t (a.unset_too x c)

held_both : (own : Bool) (a x y : List (List ℤ)) (f : List (List ℤ) → List (List ℤ)) → own ≡ true → Held own a x y → Held own a (f x) (f y)
held_both true a x y f e h = ap f h
held_both false a x y f e h = absurd (false≢true e)

pub held_same : (own : Bool) (a x y : List (List ℤ)) → own ≡ true → Held own a x y → x ≡ y
held_same true a x y e h = h
held_same false a x y e h = absurd (false≢true e)

pub agree_element : (k K : Objects) (b : ℕ) (own : Bool) (low : Store) (vs us ts : List ℕ) (a i : ℕ) (z : ℤ) (s t : Store) → own ≡ true → Agree k K b own low vs us ts s t → Agree k K b own low vs us ts (set_element a i z s) (set_element a i z t)
agree_element k K b own low vs us ts a i z s t e x = record {
  same = x.same;
  unset = x.unset;
  unset_too = x.unset_too;
  below = x.below;
  arrays = held_both own low.arrays s.arrays t.arrays (λ arrays. set arrays a (set (get_or arrays a []) i z)) e x.arrays;
  long = x.long;
  count = x.count;
}
