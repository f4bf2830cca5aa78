-- Stores of elements, and the arrays of a lawful header.
use Rattle.std.proofs.Common.{◌≡◌, ℕ, zero, suc, ◌+◌, ◌^◌, ◌<◌, ◌≤◌, List, [], ◌∷◌, ◌++◌, map, length, get_or, Some, refl, sym, ◌∙◌, ap, subst, arith, length-append}
use Rattle.std.specs.Prelude.{ℤ, slice_get, set, sum_by, All}
use Rattle.std.proofs.lemmas.List.{length-set, length-map, map-set, get_or_append_left}
use Rattle.std.proofs.lemmas.List.Sums.{sum_by-cons}
use Rattle.std.proofs.lemmas.List.Elements.{All-head, All-tail, All-nil, All-cons, All-append, All-set}
use Rattle.std.proofs.lemmas.Option.{none-some}
use Rattle.el_base.specs.declared.ty.Array.{Array}
use Rattle.el_base.specs.Numbers.{IsInRange, pattern}
use Rattle.el_base.specs.Widths.{ty_width}
use Rattle.c_ast.specs.declared.tree.Param.{Param}
use Rattle.c_ast.specs.declared.typed.ArrayOf.{ArrayOf}
use Rattle.c_ast.specs.declared.typed.TypedExpr.{TypedExpr}
use Rattle.c_ast.specs.Casts.{Parameters, with_param, with_params}
use Rattle.ir.specs.declared.instr.Instr.TheVariants.{Store as Storing}
use Rattle.ir.specs.Accesses.{accesses_in}
use Rattle.ir.specs.Shapes.{Shape, StepsFit, shape_after}
use Rattle.ir.specs.Steps.{Work, value_at, cells, through, after_step, strays_past}
use Rattle.c_meaning.specs.KernelPatterns.{array_patterns}
use Rattle.c_meaning.specs.Counts.{expr_price, target_price}
use Rattle.c_meaning.specs.Sizes.{expr_reads}
use Rattle.c_meaning.specs.Stores.{Store, Objects, AreArraysOf, elements, place_from, dims_of, set_element}
use Rattle.c_meaning.specs.Expressions.{meaning}
use Rattle.c_meaning.specs.Lawful.{LawfulExpr, LawfulNormalExpr, LawfulHeader, AreDimensions, IsElement}
use Rattle.c_meaning.proofs.StoreParts.{dims_is}
use Rattle.el_base.specs.Limits.{max_elements}
use Rattle.struct_cfg.specs.Layings.{Laying, one_step, after}
use Rattle.struct_cfg.specs.Operators.{place_laid, flag}
use Rattle.struct_cfg.specs.Exprs.{expr_laying, piece, condition_laying, store_laying}
use Rattle.struct_cfg.specs.Seen.{IsValue, Sees, Makes}
use Rattle.struct_cfg.specs.Shares.{IsSmallArray, AreSmallArrays, GivesStore}
use Rattle.struct_cfg.specs.Fits.{EnvFits, Fits, HasObjects}
use Rattle.struct_cfg.proofs.Works as works
use Rattle.struct_cfg.proofs.Works.{through_append, length_through, still_seen}
use Rattle.struct_cfg.proofs.Bounds as bounds
use Rattle.struct_cfg.proofs.Bounds.{AtMost, after_most, steps_adding, accesses_adding, PiecesMost, one_long, none_free, place_most, flag_most, kind_cheap, kind_reads}
use Rattle.struct_cfg.proofs.Types.{OpLaws}
use Rattle.struct_cfg.proofs.Places.{PieceLaws, place_makes, cells_are, within_clean}
use Rattle.struct_cfg.proofs.Places as places
use Rattle.struct_cfg.proofs.ExprLaws.{kind_law, all_at, dims_few}
use Rattle.struct_cfg.proofs.Fitting as fitting
use Rattle.struct_cfg.proofs.Fitting.{steps_append, length_shape, steps_keep, env_kept, PiecesFit, expr_fits, array_place_fits}

-- ---- an element is set on both sides

patterns_set : (as_of : List ArrayOf) (zss : List (List ℤ)) (a at : ℕ) (x : ArrayOf) (z : ℤ) → AreArraysOf as_of zss → slice_get as_of a ≡ Some x
    → set (array_patterns as_of zss) a (set (cells (array_patterns as_of zss) a) at (pattern x.ty z)) ≡ array_patterns as_of (set zss a (set (get_or zss a []) at z))
patterns_set [] zss a at x z f e = absurd (none-some x e)
patterns_set (y ∷ ys) [] a at x z f e = absurd f
patterns_set (y ∷ ys) (zs ∷ zss) zero at x z f e =
    let same : y ≡ x = cc in
    ap (λ t. set (map (pattern y.ty) zs) at (pattern t z) ∷ array_patterns ys zss) (ap (λ q. q.ty) (sym same)) ∙ ap (λ l. l ∷ array_patterns ys zss) (sym (map-set (pattern y.ty) zs at z))
patterns_set (y ∷ ys) (zs ∷ zss) (suc a) at x z f e = ap (λ l. map (pattern y.ty) zs ∷ l) (patterns_set ys zss a at x z f.2 e)

fitting_set : (as_of : List ArrayOf) (zss : List (List ℤ)) (a at : ℕ) (x : ArrayOf) (z : ℤ) → AreArraysOf as_of zss → slice_get as_of a ≡ Some x → IsInRange x.ty z → AreArraysOf as_of (set zss a (set (get_or zss a []) at z))
fitting_set [] zss a at x z f e r = absurd (none-some x e)
fitting_set (y ∷ ys) [] a at x z f e r = absurd f
fitting_set (y ∷ ys) (zs ∷ zss) zero at x z f e r =
    let same : y ≡ x = cc in
    (length-set zs at z ∙ f.0, All-set (IsInRange y.ty) zs at z (subst (λ q. IsInRange q.ty z) (sym same) r) f.1, f.2)
fitting_set (y ∷ ys) (zs ∷ zss) (suc a) at x z f e r = (f.0, f.1, fitting_set ys zss a at x z f.2 e r)

-- the store that is seen after a store step: its own number has no value
stored_sees : (k : Objects) (env : List ℕ) (w : Work) (s : Store) (a : ℕ) (x : ArrayOf) (p v at : ℕ) (z : ℤ) → Sees k env w s → slice_get k.arrays a ≡ Some x → IsValue w p at → at < length (get_or s.arrays a []) → IsValue w v (pattern x.ty z) → IsInRange x.ty z
    → Sees k env (after_step (Storing a p v) w) (set_element a at z s)
stored_sees k env w s a x p v at z h e ip lt iv r =
    let c = cells_are k.arrays s.arrays a x h.fitting.arrays e in
    let cs : cells w.arrays a ≡ map (pattern x.ty) (get_or s.arrays a []) = ap (λ q. cells q a) h.arrays ∙ c.patterns in
    let clean : strays_past (cells w.arrays a) (value_at w.values p) ≡ 0 = ap (λ q. strays_past q (value_at w.values p)) cs ∙ ap (λ n. strays_past (map (pattern x.ty) (get_or s.arrays a [])) n) ip.is
    ∙ within_clean (map (pattern x.ty) (get_or s.arrays a [])) at (omega (arith, length-map (get_or s.arrays a []) (pattern x.ty))) in
    record {
      each = λ y u i.
          let o = h.each y u i in
          record {
            below = omega (arith, o.below, length-append w.values (0 ∷ []));
            is = get_or_append_left w.values (0 ∷ []) 0 (get_or env y 0) o.below ∙ o.is;
          };
      arrays = ap (λ n. set w.arrays a (set (cells w.arrays a) n (value_at w.values v))) ip.is ∙ ap (λ n. set w.arrays a (set (cells w.arrays a) at n)) iv.is ∙ ap (λ q. set q a (set (cells q a) at (pattern x.ty z))) h.arrays ∙ patterns_set k.arrays s.arrays a at x z h.fitting.arrays e;
      fitting = record { vars = h.fitting.vars; arrays = fitting_set k.arrays s.arrays a at x z h.fitting.arrays e r };
      clean = omega (arith, h.clean, clean);
    }

-- the work after two layings
after_runs : (a : Laying) (f : ℕ → Laying) (w : Work) → (let x = a (length w.values) in let u = through x.steps w in through (after a f (length w.values)).steps w ≡ through (f x.value (length u.values)).steps u)
unfolding after
after_runs a f w =
    let n = length w.values in
    let x = a n in
    let u = through x.steps w in
    let l : length u.values ≡ n + length x.steps = length_through x.steps w in
    through_append x.steps (f x.value (n + length x.steps)).steps w ∙ ap (λ i. through (f x.value i).steps u) (sym l)

-- ---- the pieces of a list

module _ (laws : OpLaws) (k : Objects) (small : AreSmallArrays k.arrays) (env : List ℕ) where
  pub list_laws : (es : List TypedExpr) → All (LawfulNormalExpr k) es → PieceLaws k env (map (piece k.arrays env) es) (map (meaning k) es)
  list_laws [] h = places.no_piece
  list_laws (e ∷ es) h =
      let q = All-head (LawfulNormalExpr k) e es h in
      places.one_piece (piece k.arrays env e) (meaning k e) (map (piece k.arrays env) es) (map (meaning k) es) (kind_law laws k env small e.kind e.ty e.at q.0 q.1) (list_laws es (All-tail (LawfulNormalExpr k) e es h))

  pub store_gives : (a : ℕ) (es : List TypedExpr) (e : TypedExpr) → IsElement k a (length es) e.ty → All (LawfulNormalExpr k) es → LawfulNormalExpr k e → GivesStore k env a es e
  store_gives a es e named hs h = record {
    gives = λ w s is t at z u sees ei pl ez.
        let x = named.0 in
        let fits = all_at IsSmallArray k.arrays a x small named.1 in
        let ds = dims_is k.arrays a x named.1 in
        let c = cells_are k.arrays s.arrays a x sees.fitting.arrays named.1 in
        let within : at < length (get_or s.arrays a []) = omega (arith, c.long, places.place_within x.dims is at (ap (λ d. place_from 0 d is) (sym ds) ∙ pl)) in
        let near : at < 2 ^ 63 = omega (arith, within, c.long, fits.few) in
        let place_text = place_laid (dims_of k.arrays a) (map (piece k.arrays env) es) in
        let q : Makes w (place_text (length w.values)) at = subst (λ d. Makes w (place_laid d (map (piece k.arrays env) es) (length w.values)) at) (sym ds)
        (place_makes laws k env x.dims (map (piece k.arrays env) es) (map (meaning k) es) w s is t at (list_laws es hs) fits.some (dims_few x.dims fits.dimensions.1 fits.few) sees ei (ap (λ d. place_from 0 d is) (sym ds) ∙ pl) near) in
        let y = place_text (length w.values) in
        let w1 = through y.steps w in
        let sees1 = still_seen k env w w1 s q.adds sees in
        let law = kind_law laws k env small e.kind e.ty e.at h.0 h.1 in
        let m = law.gives w1 s z u sees1 ez in
        let y2 = expr_laying k.arrays env e (length w1.values) in
        let w2 = through y2.steps w1 in
        let sees2 = still_seen k env w1 w2 s m.adds sees1 in
        let v_is : IsValue w2 y2.value (pattern x.ty z) = subst (λ i. IsValue w2 y2.value (pattern i z)) (sym named.2) m.is in
        let run = after_runs place_text (λ p. after (expr_laying k.arrays env e) (λ v. one_step (Storing a p v))) w ∙ after_runs (expr_laying k.arrays env e) (λ v. one_step (Storing a y.value v)) w1 in
        subst (λ i. Sees k env i (set_element a at z s)) (sym run)
        (stored_sees k env w2 s a x y.value y2.value at z sees2 named.1 (works.later w1 w2 y.value at m.adds q.is) within v_is (subst (λ i. IsInRange i z) (sym named.2) (law.range s z u sees.fitting ez)));
  }

-- ---- how much is laid

-- four for each index besides its expression
abbrev pub indices_cost : List TypedExpr → ℕ
indices_cost [] = 0
indices_cost (e ∷ es) = expr_price e + 4 + indices_cost es

cost_is : (es : List TypedExpr) → target_price es ≡ indices_cost es + 1
cost_is [] = refl
cost_is (e ∷ es) = omega (arith, cost_is es)

module _ (as_of : List ArrayOf) (env : List ℕ) where
  list_cheap : (es : List TypedExpr) → PiecesMost length steps_adding 1 one_long (map (piece as_of env) es) (indices_cost es)
  list_cheap [] = bounds.no_piece 0
  list_cheap (e ∷ es) = bounds.one_piece (piece as_of env e) (map (piece as_of env) es) (expr_price e) (indices_cost es) (expr_price e + 4 + indices_cost es) (kind_cheap as_of env e.kind e.ty) (list_cheap es) (omega arith)

  list_reads : (es : List TypedExpr) → PiecesMost accesses_in accesses_adding 0 none_free (map (piece as_of env) es) (sum_by expr_reads es)
  list_reads [] = bounds.no_piece 0
  list_reads (e ∷ es) = bounds.one_piece (piece as_of env e) (map (piece as_of env) es) (expr_reads e) (sum_by expr_reads es) (sum_by expr_reads (e ∷ es)) (kind_reads as_of env e.kind e.ty) (list_reads es) (omega (arith, sum_by-cons expr_reads e es))

  pub place_cheap : (ds : List ℕ) (es : List TypedExpr) (n : ℕ) → length (place_laid ds (map (piece as_of env) es) n).steps + 1 ≤ target_price es
  place_cheap ds es n =
      let t = cost_is es in
      let h = place_most length steps_adding 1 one_long ds (map (piece as_of env) es) (indices_cost es) (list_cheap es) n in
      omega arith

  pub store_cheap : (a : ℕ) (es : List TypedExpr) (e : TypedExpr) → AtMost length (store_laying as_of env a es e) (1 + target_price es + expr_price e)
  store_cheap a es e =
      let t = cost_is es in
      after_most length steps_adding (place_laid (dims_of as_of a) (map (piece as_of env) es)) (λ p. after (expr_laying as_of env e) (λ v. one_step (Storing a p v))) (indices_cost es) (expr_price e + 1) (1 + target_price es + expr_price e)
      (place_most length steps_adding 1 one_long (dims_of as_of a) (map (piece as_of env) es) (indices_cost es) (list_cheap es))
      (λ p. after_most length steps_adding (expr_laying as_of env e) (λ v. one_step (Storing a p v)) (expr_price e) 1 (expr_price e + 1) (kind_cheap as_of env e.kind e.ty) (λ v n. omega arith) (omega arith))
      (omega arith)

  pub store_reads : (a : ℕ) (es : List TypedExpr) (e : TypedExpr) → AtMost accesses_in (store_laying as_of env a es e) (1 + sum_by expr_reads es + expr_reads e)
  store_reads a es e =
      after_most accesses_in accesses_adding (place_laid (dims_of as_of a) (map (piece as_of env) es)) (λ p. after (expr_laying as_of env e) (λ v. one_step (Storing a p v))) (sum_by expr_reads es) (expr_reads e + 1) (1 + sum_by expr_reads es + expr_reads e)
      (place_most accesses_in accesses_adding 0 none_free (dims_of as_of a) (map (piece as_of env) es) (sum_by expr_reads es) (list_reads es))
      (λ p. after_most accesses_in accesses_adding (expr_laying as_of env e) (λ v. one_step (Storing a p v)) (expr_reads e) 1 (expr_reads e + 1) (kind_reads as_of env e.kind e.ty) (λ v n. omega arith) (omega arith))
      (omega arith)

  pub condition_cheap : (e : TypedExpr) → AtMost length (condition_laying as_of env e) (expr_price e + 2)
  condition_cheap e = after_most length steps_adding (expr_laying as_of env e) (λ v. flag e.ty v) (expr_price e) 2 (expr_price e + 2) (kind_cheap as_of env e.kind e.ty) (λ v. flag_most length steps_adding 1 one_long e.ty v) (omega arith)

  pub condition_reads : (e : TypedExpr) → AtMost accesses_in (condition_laying as_of env e) (expr_reads e)
  condition_reads e = after_most accesses_in accesses_adding (expr_laying as_of env e) (λ v. flag e.ty v) (expr_reads e) 0 (expr_reads e) (kind_reads as_of env e.kind e.ty) (λ v. flag_most accesses_in accesses_adding 0 none_free e.ty v) (omega arith)

-- ---- a store fits

module _ (k : Objects) (small : AreSmallArrays k.arrays) (vars : List ℕ) (arrays : List Array) (has : HasObjects k vars arrays) (env : List ℕ) where
  list_fits : (es : List TypedExpr) → All (LawfulExpr k) es → PiecesFit vars arrays env (map (piece k.arrays env) es)
  list_fits [] h = fitting.no_piece
  list_fits (e ∷ es) h = fitting.one_piece (piece k.arrays env e) (map (piece k.arrays env) es) (expr_fits k small vars arrays has env e (All-head (LawfulExpr k) e es h)) (list_fits es (All-tail (LawfulExpr k) e es h))

  -- the steps fit; a store has no value
  pub store_fits : (a : ℕ) (es : List TypedExpr) (e : TypedExpr) → IsElement k a (length es) e.ty → All (LawfulExpr k) es → LawfulExpr k e → (ws : Shape) → EnvFits vars env ws → StepsFit arrays ws (store_laying k.arrays env a es e (length ws)).steps
  unfolding after
  store_fits a es e named hs h ws v =
      let n = length ws in
      let ps = map (piece k.arrays env) es in
      let q = array_place_fits k small vars arrays has env a (length es) ps e.ty ws named (length-map es (piece k.arrays env)) (list_fits es hs) v in
      let x = place_laid (dims_of k.arrays a) ps n in
      let us = shape_after arrays ws x.steps in
      let l : length us ≡ n + length x.steps = length_shape arrays x.steps ws in
      let f = expr_fits k small vars arrays has env e h in
      let k1 = steps_keep arrays x.steps ws in
      let m1 = n + length x.steps in
      let y = expr_laying k.arrays env e m1 in
      let g = subst (λ i. Fits arrays us (expr_laying k.arrays env e i) (ty_width e.ty)) l (f.fits us (env_kept vars env ws us k1 v)) in
      let vs = shape_after arrays us y.steps in
      let k2 = steps_keep arrays y.steps us in
      let b = has.arrays_are a named.0 named.1 in
      let wide : ty_width b.0.ty ≡ ty_width e.ty = ap ty_width (b.2 ∙ named.2) in
      steps_append arrays ws x.steps (y.steps ++ Storing a x.value y.value ∷ []) q.steps
      (steps_append arrays us y.steps (Storing a x.value y.value ∷ []) g.steps ((ty_width e.ty, (b.0, b.1, wide), k2.by x.value 64 q.width, g.width), tt))

-- ---- the arrays of a lawful header

pub record HasDims (x : ArrayOf) : Type 0 where
  pub some : 0 < length x.dims
  pub dimensions : AreDimensions x.dims

with_param_dims : (p : Param) (ds : List ℕ) (q : Parameters) → ds ≡ p.dims → AreDimensions p.dims → All HasDims q.arrays → All HasDims (with_param p ds q).arrays
with_param_dims p [] q e d h = h
with_param_dims p (d ∷ ds) q e a h =
    let x : ArrayOf = record { name = p.name; ty = p.ty; dims = p.dims } in
    let l : length p.dims ≡ length (d ∷ ds) = ap length (sym e) in
    All-append HasDims q.arrays (x ∷ []) h (All-cons HasDims x [] (record { some = omega (arith, l); dimensions = a }) (All-nil HasDims))

with_params_dims : (ps : List Param) (q : Parameters) → All (λ p. AreDimensions p.dims) ps → All HasDims q.arrays → All HasDims (with_params ps q).arrays
with_params_dims [] q d h = h
with_params_dims (p ∷ ps) q d h =
    with_params_dims ps (with_param p p.dims q) (All-tail (λ p. AreDimensions p.dims) p ps d) (with_param_dims p p.dims q refl (All-head (λ p. AreDimensions p.dims) p ps d) h)

few_each : (xs : List ArrayOf) → All HasDims xs → sum_by (λ a. elements a.dims) xs ≤ max_elements → AreSmallArrays xs
few_each [] h le = All-nil IsSmallArray
few_each (x ∷ xs) h le =
    let q = All-head HasDims x xs h in
    let s = sum_by-cons (λ a. elements a.dims) x xs in
    All-cons IsSmallArray x xs (record { some = q.some; dimensions = q.dimensions; few = omega (arith, s) }) (few_each xs (All-tail HasDims x xs h) (omega (arith, s)))

pub small_arrays : (ps : List Param) (k : Objects) → LawfulHeader ps k → AreSmallArrays k.arrays
small_arrays ps k h =
    few_each k.arrays (subst (All HasDims) (sym h.arrays_are) (with_params_dims ps (record { scope = []; types = []; arrays = [] }) h.dimensions (All-nil HasDims))) h.few_elements
