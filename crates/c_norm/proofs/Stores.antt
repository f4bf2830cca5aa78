-- Stores of a kernel and of its normal form, which has more variables.
use Rattle.std.proofs.Common.{◌≡◌, ℕ, ◌<◌, ◌≤◌, List, [], ◌∷◌, length, get_or, Option, Some, None, refl, sym, ◌∙◌, arith}
use Rattle.std.specs.Prelude.{ℤ, set}
use Rattle.std.proofs.lemmas.Bool.{cases_eq}
use Rattle.std.proofs.lemmas.List.{length-set, get_or-set_same, get_or-set_other}
use Rattle.el_base.specs.declared.ty.Ty.{Ty}
use Rattle.c_meaning.specs.Stores.{Store, Objects, AreSetIn, IsFitting, set_var, unset_var, unset_vars, read_var}
use Rattle.c_meaning.proofs.RangeStores.{unset_fits}
use Rattle.c_meaning.proofs.StoreParts.{Below}

-- A store of the kernel, which fits it, and one of the normal form: the kernel's variables are the same in both, and the arrays. There are so many variables in all.
pub record Matches (k : Objects) (all : ℕ) (s t : Store) : Type 0 where
  pub vars : (x : ℕ) → x < length k.vars → get_or s.vars x None ≡ get_or t.vars x None
  pub arrays : s.arrays ≡ t.arrays
  pub fits : IsFitting k s
  pub long : length t.vars ≡ all

pub set_below : (n v : ℕ) (z : ℤ) (s : Store) → n ≤ v → Below n s (set_var v z s)
set_below n v z s h = record {
  vars = λ x lt. let other : x ≡ v → ⊥ = λ e. omega arith in sym (get_or-set_other s.vars v x (Some z) None other);
  arrays = refl;
  count = sym (length-set s.vars v (Some z));
}

pub read_set : (v : ℕ) (z : ℤ) (s r : Store) (g : ℕ) → v < length s.vars → v < g → Below g (set_var v z s) r → read_var r v ≡ Some z
read_set v z s r g lt in_g w = sym (w.vars v in_g) ∙ get_or-set_same s.vars v (Some z) None lt

pub matches_below : (k : Objects) (all f : ℕ) (s t r : Store) → length k.vars ≤ f → Matches k all s t → Below f t r → Matches k all s r
matches_below k all f s t r h a b = record { vars = λ x lt. a.vars x lt ∙ b.vars x (omega arith); arrays = a.arrays ∙ b.arrays; fits = a.fits; long = sym b.count ∙ a.long }

-- what fits has as many variables
pub as_many : (ts : List Ty) (xs : List (Option ℤ)) → AreSetIn ts xs → length xs ≡ length ts
as_many [] [] h = refl
as_many [] (x ∷ xs) h = absurd h
as_many (t ∷ ts) [] h = absurd h
as_many (t ∷ ts) (x ∷ xs) h = let e = as_many ts xs h.1 in omega arith

-- the same is written to a variable of both
set_both : (n : ℕ) (xs ys : List (Option ℤ)) (v : ℕ) (z : Option ℤ) → n ≤ length xs → n ≤ length ys → ((x : ℕ) → x < n → get_or xs x None ≡ get_or ys x None) → (x : ℕ) → x < n → get_or (set xs v z) x None ≡ get_or (set ys v z) x None
set_both n xs ys v z lx ly h x lt = grind (arith, get_or-set_same, get_or-set_other, h x lt, cases_eq)

pub set_matches : (k : Objects) (all : ℕ) (s t : Store) (v : ℕ) (z : Option ℤ) → length k.vars ≤ all → Matches k all s t → IsFitting k (record s { vars = set s.vars v z }) → Matches k all (record s { vars = set s.vars v z }) (record t { vars = set t.vars v z })
set_matches k all s t v z le h fits = record {
  vars = set_both (length k.vars) s.vars t.vars v z (let e = as_many k.vars s.vars h.fits.vars in omega arith) (let e = h.long in omega arith) h.vars;
  arrays = h.arrays;
  fits = fits;
  long = length-set t.vars v z ∙ h.long;
}

pub unset_matches : (k : Objects) (all : ℕ) (vs : List ℕ) (s t : Store) → length k.vars ≤ all → Matches k all s t → Matches k all (unset_vars vs s) (unset_vars vs t)
unset_matches k all [] s t le h = h
unset_matches k all (v ∷ vs) s t le h = unset_matches k all vs (unset_var v s) (unset_var v t) le (set_matches k all s t v None le h (unset_fits k (v ∷ []) s h.fits))
