-- Variables and arrays: stores that agree below a number, lists of variables, and the types and dimensions of arrays.
use Rattle.std.proofs.Common.{◌≡◌, ℕ, zero, suc, ◌*◌, ◌<◌, ◌≤◌, List, [], ◌∷◌, ◌++◌, length, Some, refl, ◌∙◌, ap, subst, inl, inr, arith}
use Rattle.std.specs.Prelude.{All, Contains, slice_get}
use Rattle.std.proofs.Math.Nat.{mul-le-mul_right}
use Rattle.std.proofs.lemmas.Bool.{cases_lt}
use Rattle.std.proofs.lemmas.Option.{none-some, same_Some}
use Rattle.std.proofs.lemmas.List.Elements.{All-head, All-tail, Contains-append_left, Contains-append_right, Contains-append_cases}
use Rattle.c_ast.specs.declared.typed.ArrayOf.{ArrayOf}
use Rattle.c_meaning.specs.Stores.{Store, read_var, elements, dims_of}
use Rattle.c_meaning.specs.Statements.{array_type}

-- ---- the variables below n are the same, and the arrays, and the number of variables

pub record Below (n : ℕ) (s t : Store) : Type 0 where
  pub vars : (x : ℕ) → x < n → read_var s x ≡ read_var t x
  pub arrays : s.arrays ≡ t.arrays
  pub count : length s.vars ≡ length t.vars

pub below_same : (n : ℕ) (s : Store) → Below n s s
below_same n s = record { vars = λ x h. refl; arrays = refl; count = refl }

pub below_then : (m n l : ℕ) (s t u : Store) → m ≤ n → m ≤ l → Below n s t → Below l t u → Below m s u
below_then m n l s t u h k a b = record { vars = λ x lt. a.vars x (omega arith) ∙ b.vars x (omega arith); arrays = a.arrays ∙ b.arrays; count = a.count ∙ b.count }

-- ---- lists of variables

abbrev pub Keeps : List ℕ → List ℕ → Type 0
Keeps old new = (v : ℕ) → Contains old v → Contains new v

pub keeps_append : (a b c d : List ℕ) → Keeps a c → Keeps b d → Keeps (a ++ b) (c ++ d)
keeps_append a b c d h i v j = elim (Contains-append_cases a b v j) [ inl l ↦ Contains-append_left c d v (h v l) | inr l ↦ Contains-append_right c d v (i v l) ]

-- all from f on, and below g
abbrev pub Sets : ℕ → ℕ → List ℕ → Type 0
Sets f g xs = (v : ℕ) → f ≤ v → v < g → Contains xs v

pub sets_none : (f g : ℕ) (xs : List ℕ) → g ≤ f → Sets f g xs
sets_none f g xs le v a b = absurd (omega arith)

pub sets_then : (f g h : ℕ) (xs ys : List ℕ) → Sets f g xs → Sets g h ys → Sets f h (xs ++ ys)
sets_then f g h xs ys s t v a b = elim (cases_lt v g) [ inl l ↦ Contains-append_left xs ys v (s v a l) | inr l ↦ Contains-append_right xs ys v (t v l b) ]

pub sets_to : (f g h : ℕ) (xs : List ℕ) → h ≤ g → Sets f g xs → Sets f h xs
sets_to f g h xs le s v a b = s v a (omega arith)

-- ---- arrays

pub array_type_is : (xs : List ArrayOf) (a : ℕ) (x : ArrayOf) → slice_get xs a ≡ Some x → array_type xs a ≡ x.ty
array_type_is [] a x e = absurd (none-some x e)
array_type_is (y ∷ xs) zero x e = ap (λ (z : ArrayOf). z.ty) (same_Some y x e)
array_type_is (y ∷ xs) (suc a) x e = array_type_is xs a x e

pub dims_is : (xs : List ArrayOf) (a : ℕ) (x : ArrayOf) → slice_get xs a ≡ Some x → dims_of xs a ≡ x.dims
dims_is [] a x e = absurd (none-some x e)
dims_is (y ∷ xs) zero x e = ap (λ (z : ArrayOf). z.dims) (same_Some y x e)
dims_is (y ∷ xs) (suc a) x e = dims_is xs a x e

-- the dimensions after the first one
pub rest_small : (x : ℕ) (xs ds : List ℕ) (m : ℕ) → ds ≡ x ∷ xs → All (λ d. 0 < d) ds → elements ds ≤ m → All (λ d. 0 < d) xs × (elements xs ≤ m)
rest_small x xs ds m is all few =
    let all2 : All (λ d. 0 < d) (x ∷ xs) = subst (λ l. All (λ d. 0 < d) l) is all in
    let few2 : x * elements xs ≤ m = subst (λ l. elements l ≤ m) is few in
    let some : 1 ≤ x = All-head (λ d. 0 < d) x xs all2 in
    (All-tail (λ d. 0 < d) x xs all2, omega (arith, mul-le-mul_right (elements xs) some))
