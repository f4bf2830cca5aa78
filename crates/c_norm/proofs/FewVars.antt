-- A normal form has few variables, blocks, steps and accesses: those of the kernel are parameters, or are declared or assigned by statements of their own.
use Rattle.std.proofs.Common.{◌≡◌, ℕ, zero, suc, ◌+◌, ◌-◌, ◌*◌, ◌<◌, ◌≤◌, ◌⊎◌, inl, inr, min, List, [], ◌∷◌, length, arith, length-append, mul-le-mul}
use Rattle.std.specs.Prelude.{slice_index_or}
use Rattle.std.specs.List.{Contains}
use Rattle.std.proofs.lemmas.Bool.{cases_lt}
use Rattle.el_base.specs.Limits.{max_nodes}
use Rattle.c_ast.specs.declared.typed.Typed.{Typed}
use Rattle.c_ast.specs.Nodes.{typed_nodes}
use Rattle.c_meaning.specs.declared.profile.Profile.TheVariants.{Plain}
use Rattle.c_meaning.specs.Stores.{scalar_types}
use Rattle.c_meaning.specs.Statements.{objects}
use Rattle.c_meaning.specs.Lawful.{all_vars, Lawful}
use Rattle.c_meaning.specs.Sizes.{Sizes, form_sizes}
use Rattle.c_meaning.proofs.FewVars.{scalar_few}
use Rattle.c_norm.specs.Kernels.{body_form, normal_form}
use Rattle.c_norm.specs.Shares.{NormalSizes, SmallSizes}
use Rattle.c_norm.proofs.Dimensions.{few_dimensions}
use Rattle.c_norm.proofs.SizedStmts.{body_sized}

-- ---- numbers of a list

-- how many of the numbers of a list are below n
under : ℕ → List ℕ → ℕ
under n [] = 0
under n (x ∷ xs) = min 1 (n - x) + under n xs

under-length : (n : ℕ) (xs : List ℕ) → under n xs ≤ length xs
unfolding under
under-length n [] = omega arith
under-length n (x ∷ xs) = omega (arith, under-length n xs)

under-more : (n : ℕ) (xs : List ℕ) → under n xs ≤ under (suc n) xs
unfolding under
under-more n [] = omega arith
under-more n (x ∷ xs) = omega (arith, under-more n xs)

under-found : (n : ℕ) (xs : List ℕ) (k : ℕ) → k < length xs → slice_index_or xs k n ≡ n → under n xs + 1 ≤ under (suc n) xs
unfolding under
under-found n [] k lt is = omega (arith, lt)
under-found n (x ∷ xs) zero lt is = omega (arith, is, under-more n xs)
under-found n (x ∷ xs) (suc k) lt is = omega (arith, under-found n xs k (omega (arith, lt)) is)

-- where each number below n is below s or in the list, the list has the rest
rest_listed : (n s : ℕ) (used : List ℕ) → ((v : ℕ) → v < n → (v < s) ⊎ Contains used v) → n ≤ s + under n used
unfolding under
rest_listed zero s used each = omega arith
rest_listed (suc n) s used each =
    elim (each n (omega arith)) [
      | inl lt ↦ omega (arith, lt)
      | inr found ↦ omega (arith, rest_listed n s used (λ v lt. each v (omega (arith, lt))), under-found n used found.0 found.1 found.2)
    ]

-- ---- kernels

pub form_small : (k : Typed) → Lawful k → NormalSizes (typed_nodes k) (length (normal_form k).vars) (form_sizes (normal_form k))
form_small k lawful =
    let o = objects Plain k in
    let h = body_sized o (few_dimensions k.params o (lawful.header Plain)) k.result k.body (length k.vars) (lawful.statements Plain) in
    let own = rest_listed (length k.vars) (length (scalar_types k.params)) (all_vars k.body) lawful.used in
    let listed = under-length (length k.vars) (all_vars k.body) in
    let scalars = scalar_few k.params in
    let l = length-append k.vars (body_form k).types in
    omega arith

-- ---- kernels that are accepted

product_few : (x y : ℕ) → 3 * x + 4 * y ≤ 12275 → x * y ≤ 6300000
product_few x y h = elim (cases_lt x 2048) [ inl l ↦ low l | inr l ↦ high l ]
  where
    low : x < 2048 → x * y ≤ 6300000
    low l = let a : x ≤ 2047 = omega arith in let b : y ≤ 3068 = omega arith in let p : x * y ≤ 2047 * 3068 = mul-le-mul a b in omega arith

    high : 2048 ≤ x → x * y ≤ 6300000
    high l = let a : x ≤ 4091 = omega arith in let b : y ≤ 1532 = omega arith in let p : x * y ≤ 4091 * 1532 = mul-le-mul a b in omega arith

pub sizes_small : (n v : ℕ) (z : Sizes) → n ≤ max_nodes → NormalSizes n v z → SmallSizes v z
sizes_small n v z le h =
    let few = h.few_blocks in
    let s = h.few_steps in
    let a = h.few_accesses in
    let w = h.few_vars in
    let p : z.blocks * (2 + 3 * v) ≤ 6300000 = product_few z.blocks (2 + 3 * v) (omega arith) in
    record { blocks = omega arith; bounded = omega arith; accesses = omega arith }
