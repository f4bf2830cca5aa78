-- The table of the live variables is one, and so is the graph that is made by it.
use Rattle.std.proofs.Common.{◌≡◌, ◌⊎◌, ℕ, zero, suc, ◌<◌, List, [], ◌∷◌, length, inl, inr, refl, sym, ap, ◌∙◌, arith}
use Rattle.std.specs.List.{Contains, AllByRecursion}
use Rattle.std.proofs.lemmas.List.{ext_get_or}
use Rattle.std.proofs.lemmas.List.Elements.{All-from_recursion, All-contains}
use Rattle.ir.specs.Graphs.{Graph}
use Rattle.ir.specs.Variables.{VarGraph}
use Rattle.block_args.specs.Arguments.{argued}
use Rattle.block_args.specs.Made.{IsArgued}
use Rattle.block_args.specs.Tables.{listed_at, AreAscending, ListsLive}
use Rattle.block_merge.specs.Merged.{merged}
use Rattle.c_ast.specs.Nodes.{typed_nodes}
use Rattle.kernel_graph.specs.Optimized.{optimized}
use Rattle.kernel_graph.specs.Composed.{kernel_var_graph}
use Rattle.kernel_graph.specs.Laws.{GraphsAreOne}

-- ---- ascending lists with the same elements

above : (x v : ℕ) (xs : List ℕ) → AllByRecursion (λ y. x < y) xs → Contains xs v → x < v
above x v xs all has = All-contains (λ y. x < y) xs v (All-from_recursion (λ y. x < y) xs all) has

first_or_later : (x v : ℕ) (xs : List ℕ) → Contains (x ∷ xs) v → (x ≡ v) ⊎ Contains xs v
first_or_later x v xs (zero, l, e) = inl e
first_or_later x v xs (suc k, l, e) = inr (k, omega arith, e)

none : (v : ℕ) → Contains [] v → ⊥
none v has = let l = has.1 in omega arith

first : (x : ℕ) (xs : List ℕ) → Contains (x ∷ xs) x
first x xs = (0, omega arith, refl)

later : (x v : ℕ) (xs : List ℕ) → Contains xs v → Contains (x ∷ xs) v
later x v xs has = (suc has.0, (let l = has.1 in omega arith), has.2)

-- the least of each is in the other
firsts : (x y : ℕ) (xs ys : List ℕ) → AllByRecursion (λ z. x < z) xs → AllByRecursion (λ z. y < z) ys → (y ≡ x) ⊎ Contains ys x → (x ≡ y) ⊎ Contains xs y → x ≡ y
firsts x y xs ys a b (inl e) q = sym e
firsts x y xs ys a b (inr h) (inl e) = e
firsts x y xs ys a b (inr h) (inr g) = absurd (let p = above y x ys b h in let q = above x y xs a g in omega arith)

-- what is above the least of a list is in its rest
in_rest : (x y v : ℕ) (ys : List ℕ) → x ≡ y → x < v → (y ≡ v) ⊎ Contains ys v → Contains ys v
in_rest x y v ys e l (inl is) = absurd (omega arith)
in_rest x y v ys e l (inr has) = has

same_lists : (xs ys : List ℕ) → AreAscending xs → AreAscending ys → ((v : ℕ) → Contains xs v → Contains ys v) → ((v : ℕ) → Contains ys v → Contains xs v) → xs ≡ ys
same_lists [] [] a b f g = refl
same_lists [] (y ∷ ys) a b f g = absurd (none y (g y (first y ys)))
same_lists (x ∷ xs) [] a b f g = absurd (none x (f x (first x xs)))
same_lists (x ∷ xs) (y ∷ ys) a b f g =
    let heads : x ≡ y = firsts x y xs ys a.0 b.0 (first_or_later y x ys (f x (first x xs))) (first_or_later x y xs (g y (first y ys))) in
    let tails : xs ≡ ys =
    same_lists xs ys a.1 b.1 (λ v h. in_rest x y v ys heads (above x v xs a.0 h) (first_or_later y v ys (f v (later x v xs h))))
    (λ v h. in_rest y x v xs (sym heads) (above y v ys b.0 h) (first_or_later x v xs (g v (later y v ys h)))) in
    λ i. heads i ∷ tails i

-- ---- tables and graphs

tables_one : (c : VarGraph) (t u : List (List ℕ)) → ListsLive c t → ListsLive c u → t ≡ u
tables_one c t u a b =
    ext_get_or [] t u (a.many ∙ sym b.many) (λ n l. same_lists (listed_at t n) (listed_at u n) (a.ascending n) (b.ascending n) (λ v h. b.all n v (a.live n v h)) (λ v h. a.all n v (b.live n v h)))

argued_one : (c : VarGraph) (g h : Graph) → IsArgued c g → IsArgued c h → g ≡ h
argued_one c g h a b = a.is ∙ ap (argued c) (tables_one c a.table b.table a.lists b.lists) ∙ sym b.is

pub graphs_one : GraphsAreOne
graphs_one k g h a b = a.is ∙ ap (λ x. optimized (typed_nodes k) (merged x)) (argued_one (kernel_var_graph k) a.unmerged b.unmerged a.argued b.argued) ∙ sym b.is
