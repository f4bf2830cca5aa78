-- The parameters of a lawful kernel: their names differ, and each dimension of an array is above 0.
use Rattle.std.proofs.Common.{◌≡◌, ◌≢◌, ℕ, suc, ◌*◌, ◌<◌, ◌≤◌, List, [], ◌∷◌, ◌++◌, map, refl, sym, ap, subst, ◌∙◌, arith, append_assoc, mul-le-mul}
use Rattle.std.specs.Prelude.{All, Contains}
use Rattle.std.specs.List.{AllPairs}
use Rattle.std.proofs.lemmas.List.{append-nil}
use Rattle.std.proofs.lemmas.List.Elements.{All-cons, All-nil, All-head, All-tail, All-append}
use Rattle.std.proofs.lemmas.List.Kept.{AllPairs-cons}
use Rattle.el_base.specs.declared.ty.Scalar.{Scalar}
use Rattle.el_base.specs.declared.ty.Array.{Array}
use Rattle.c_ast.specs.declared.tree.Param.{Param}
use Rattle.c_ast.specs.declared.typed.ArrayOf.{ArrayOf}
use Rattle.c_ast.specs.declared.typed.Typed.{Typed}
use Rattle.c_ast.specs.Casts.{Parameters, with_param, with_params}
use Rattle.c_meaning.specs.declared.profile.Profile.TheVariants.{Plain}
use Rattle.c_meaning.specs.Headers.{scalar_of, scalars_of, flat}
use Rattle.c_meaning.specs.Lawful.{AreDistinct, AreDimensions, Lawful}
use Rattle.c_meaning.specs.Stores.{elements}

-- ---- the arrays of parameters

abbrev array_in : List ℕ → Param → List ArrayOf
array_in [] p = []
array_in (d ∷ ds) p = record { name = p.name; ty = p.ty; dims = p.dims } ∷ []

abbrev arrays_of : List Param → List ArrayOf
arrays_of [] = []
arrays_of (p ∷ ps) = array_in p.dims p ++ arrays_of ps

with_one : (ds : List ℕ) (p : Param) (q : Parameters) → (with_param p ds q).arrays ≡ q.arrays ++ array_in ds p
with_one [] p q = sym (append-nil q.arrays)
with_one (d ∷ ds) p q = refl

with_all : (ps : List Param) (q : Parameters) → (with_params ps q).arrays ≡ q.arrays ++ arrays_of ps
with_all [] q = sym (append-nil q.arrays)
with_all (p ∷ ps) q =
    with_all ps (with_param p p.dims q) ∙ ap (λ xs. xs ++ arrays_of ps) (with_one p.dims p q) ∙ append_assoc q.arrays (array_in p.dims p) (arrays_of ps)

-- ---- names

abbrev IsApart : List ℕ → List (List ℕ) → Type 0
IsApart x ys = All (λ y. x ≢ y) ys

abbrev names : List Param → List (List ℕ)
names ps = map (λ (p : Param). p.name) ps

abbrev scalar_names : List Param → List (List ℕ)
scalar_names ps = map (λ (s : Scalar). s.name) (scalars_of ps)

abbrev array_names : List Param → List (List ℕ)
array_names ps = map (λ (a : Array). a.name) (map flat (arrays_of ps))

not_first : (x n : List ℕ) (ns : List (List ℕ)) → ¬ (Contains (n ∷ ns) x) → x ≢ n
not_first x n ns h e = h (0, omega arith, sym e)

not_rest : (x n : List ℕ) (ns : List (List ℕ)) → ¬ (Contains (n ∷ ns) x) → ¬ (Contains ns x)
not_rest x n ns h c = h (suc c.0, omega (arith, c.1), c.2)

scalars_apart : (x : List ℕ) (ps : List Param) → ¬ (Contains (names ps) x) → IsApart x (scalar_names ps)
scalars_apart x [] h = All-nil (λ y. x ≢ y)
scalars_apart x (p ∷ ps) h = by p.dims (scalars_apart x ps (not_rest x p.name (names ps) h))
  where
    by : (ds : List ℕ) → IsApart x (scalar_names ps) → IsApart x (map (λ (s : Scalar). s.name) (scalar_of ds p ++ scalars_of ps))
    by [] r = All-cons (λ y. x ≢ y) p.name (scalar_names ps) (not_first x p.name (names ps) h) r
    by (d ∷ ds) r = r

arrays_apart : (x : List ℕ) (ps : List Param) → ¬ (Contains (names ps) x) → IsApart x (array_names ps)
arrays_apart x [] h = All-nil (λ y. x ≢ y)
arrays_apart x (p ∷ ps) h = by p.dims (arrays_apart x ps (not_rest x p.name (names ps) h))
  where
    by : (ds : List ℕ) → IsApart x (array_names ps) → IsApart x (map (λ (a : Array). a.name) (map flat (array_in ds p ++ arrays_of ps)))
    by [] r = r
    by (d ∷ ds) r = All-cons (λ y. x ≢ y) p.name (array_names ps) (not_first x p.name (names ps) h) r

abbrev Differ : List (List ℕ) → Type 0
Differ xs = AllPairs (λ x y. x ≢ y) xs

pairs_first : (x : List ℕ) (xs : List (List ℕ)) → Differ (x ∷ xs) → IsApart x xs
pairs_first x xs h = λ k d l. h 0 (suc k) d (omega arith) (omega arith)

pairs_rest : (x : List ℕ) (xs : List (List ℕ)) → Differ (x ∷ xs) → Differ xs
pairs_rest x xs h = λ i j d a b. h (suc i) (suc j) d (omega arith) (omega arith)

put_between : (x n : List ℕ) (xs ys : List (List ℕ)) → IsApart x (xs ++ ys) → x ≢ n → IsApart x (xs ++ n ∷ ys)
put_between x n [] ys h e = All-cons (λ y. x ≢ y) n ys e h
put_between x n (z ∷ xs) ys h e =
    All-cons (λ y. x ≢ y) z (xs ++ n ∷ ys) (All-head (λ y. x ≢ y) z (xs ++ ys) h) (put_between x n xs ys (All-tail (λ y. x ≢ y) z (xs ++ ys) h) e)

differ_between : (n : List ℕ) (xs ys : List (List ℕ)) → IsApart n (xs ++ ys) → Differ (xs ++ ys) → Differ (xs ++ n ∷ ys)
differ_between n [] ys a h = AllPairs-cons (λ x y. x ≢ y) n ys a h
differ_between n (x ∷ xs) ys a h =
    let e : x ≢ n = λ q. All-head (λ y. n ≢ y) x (xs ++ ys) a (sym q) in
    AllPairs-cons (λ x y. x ≢ y) x (xs ++ n ∷ ys)
    (put_between x n xs ys (pairs_first x (xs ++ ys) h) e)
    (differ_between n xs ys (All-tail (λ y. n ≢ y) x (xs ++ ys) a) (pairs_rest x (xs ++ ys) h))

all_differ : (ps : List Param) → AreDistinct (names ps) → Differ (scalar_names ps ++ array_names ps)
all_differ [] h = λ i j d a b. absurd (omega arith)
all_differ (p ∷ ps) h = by p.dims (all_differ ps h.1)
  where
    apart : IsApart p.name (scalar_names ps ++ array_names ps)
    apart = All-append (λ y. p.name ≢ y) (scalar_names ps) (array_names ps) (scalars_apart p.name ps h.0) (arrays_apart p.name ps h.0)

    by : (ds : List ℕ) → Differ (scalar_names ps ++ array_names ps)
        → Differ (map (λ (s : Scalar). s.name) (scalar_of ds p ++ scalars_of ps) ++ map (λ (a : Array). a.name) (map flat (array_in ds p ++ arrays_of ps)))
    by [] r = AllPairs-cons (λ x y. x ≢ y) p.name (scalar_names ps ++ array_names ps) apart r
    by (d ∷ ds) r = differ_between p.name (scalar_names ps) (array_names ps) apart r

arrays_are : (k : Typed) → Lawful k → k.arrays ≡ arrays_of k.params
arrays_are k lawful = (lawful.header Plain).arrays_are ∙ with_all k.params (record { scope = []; types = []; arrays = [] })

-- the names of scalars and of arrays
pub names_differ : (k : Typed) → Lawful k → AllPairs (λ x y. x ≢ y) (map (λ (s : Scalar). s.name) (scalars_of k.params) ++ map (λ (a : Array). a.name) (map flat k.arrays))
names_differ k lawful =
    subst (λ (xs : List ArrayOf). Differ (scalar_names k.params ++ map (λ (a : Array). a.name) (map flat xs))) (sym (arrays_are k lawful)) (all_differ k.params (lawful.header Plain).distinct)

-- ---- sizes

abbrev pub HasSize : ArrayOf → Type 0
HasSize a = All (λ d. 0 < d) a.dims

params_have_sizes : (ps : List Param) → All (λ (p : Param). AreDimensions p.dims) ps → All HasSize (arrays_of ps)
params_have_sizes [] h = All-nil HasSize
params_have_sizes (p ∷ ps) h = by p.dims (params_have_sizes ps (All-tail (λ (p : Param). AreDimensions p.dims) p ps h))
  where
    by : (ds : List ℕ) → All HasSize (arrays_of ps) → All HasSize (array_in ds p ++ arrays_of ps)
    by [] r = r
    by (d ∷ ds) r = All-cons HasSize (record { name = p.name; ty = p.ty; dims = p.dims }) (arrays_of ps) (All-head (λ (p : Param). AreDimensions p.dims) p ps h).1 r

pub arrays_have_sizes : (k : Typed) → Lawful k → All HasSize k.arrays
arrays_have_sizes k lawful = subst (All HasSize) (sym (arrays_are k lawful)) (params_have_sizes k.params (lawful.header Plain).dimensions)

pub some_elements : (ds : List ℕ) → All (λ d. 0 < d) ds → 0 < elements ds
some_elements [] h = omega arith
some_elements (d ∷ ds) h =
    let a : 0 < d = All-head (λ d. 0 < d) d ds h in
    let b = some_elements ds (All-tail (λ d. 0 < d) d ds h) in
    let a1 : 1 ≤ d = omega arith in
    let b1 : 1 ≤ elements ds = omega arith in
    let c : 1 * 1 ≤ d * elements ds = mul-le-mul a1 b1 in
    omega arith
