-- What is read of cells, and the places of elements.
use Rattle.std.proofs.Common.{◌≡◌, ℕ, zero, suc, ◌+◌, ◌*◌, ◌^◌, ◌<◌, ◌≤◌, List, [], ◌∷◌, ◌++◌, map, length, get_or, take, drop, Option, Some, None, refl, sym, ◌∙◌, ap, subst, arith, min, ⊎_elim, length-append}
use Rattle.std.proofs.lemmas.Bool.{cases_lt}
use Rattle.std.specs.Prelude.{Bool, true, false, ℤ, pos, negsuc, slice_get, All, option_and_then, option_map, nat_lt, if◌then◌else◌}
use Rattle.std.proofs.lemmas.Bool.Decides.{nat_tests}
use Rattle.std.proofs.lemmas.Grind.{common_steps}
use Rattle.std.proofs.lemmas.Option.{slice_get_past, slice_get-map, slice_get-get_or}
use Rattle.std.proofs.lemmas.List.{map-append, take_all}
use Rattle.std.proofs.lemmas.List.Elements.{All-get_or}
use Rattle.std.proofs.Math.Seq.{take-suc, split_at}
use Rattle.std.proofs.Math.Nat.{mul-le-mul_left}
use Rattle.el_base.specs.declared.span.Span.{Span}
use Rattle.el_base.specs.declared.ty.Ty.{Ty}
use Rattle.el_base.specs.Numbers.{number}
use Rattle.el_base.specs.Widths.{ty_width}
use Rattle.c_ast.specs.declared.typed.ArrayOf.{ArrayOf}
use Rattle.c_ast.specs.declared.typed.Object.TheVariants as object
use Rattle.c_ast.specs.declared.typed.TypedExpr.{TypedExpr}
use Rattle.c_meaning.specs.Stores.{Store, Objects, read_var, index_within, place_from, dims_of}
use Rattle.c_meaning.specs.Expressions.{Val, undefined_value, value, Vals, undefined_values, values, Meaning, after_turns, all_values, with_first, meaning}
use Rattle.c_meaning.specs.Statements.{Placed, no_place, place_by, placed_after, element_place}
use Rattle.c_meaning.specs.Lawful.{LawfulExpr, IsVar, IsElement}
use Rattle.c_meaning.proofs.StoreParts.{dims_is}
use Rattle.ref_interp.specs.declared.cells.Cells.{Cells}
use Rattle.ref_interp.specs.declared.cells.Trace.{Trace}
use Rattle.ref_interp.specs.declared.expressions.Spot.{Spot}
use Rattle.ref_interp.specs.Answers.{most, plus_turns, Gives}
use Rattle.ref_interp.specs.Cells.{AreCells, AreVarCells, AreArrayCells, IsCell, cell_number, var_numbers, array_numbers, store_of}
use Rattle.ref_interp.specs.Evaluations.{IsReady, EvalGives, IsSpot, Finds, Located, element_of}
use Rattle.ref_interp.proofs.Values.{failed_is, gives_is}
use Rattle.ref_interp.proofs.Exprs.{ready_after}

-- ---- variables

read_vars : (ts : List Ty) (cs : List (Option ℕ)) (v : ℕ) (t : Ty) (c : Option ℕ) → AreVarCells ts cs → slice_get ts v ≡ Some t → slice_get cs v ≡ Some c → (get_or (var_numbers ts cs) v None ≡ cell_number t c) × IsCell t c
read_vars [] [] v t c all e f = absurd (cc)
read_vars [] (x ∷ cs) v t c all e f = absurd all
read_vars (u ∷ ts) [] v t c all e f = absurd all
read_vars (u ∷ ts) (x ∷ cs) zero t c all e f =
    let a : u ≡ t = cc in
    let b : x ≡ c = cc in
    subst (λ t. (cell_number u x ≡ cell_number t c) × IsCell t c) a (subst (λ c. (cell_number u x ≡ cell_number u c) × IsCell u c) b (refl, all.0))
read_vars (u ∷ ts) (x ∷ cs) (suc v) t c all e f = read_vars ts cs v t c all.1 e f

past_vars : (ts : List Ty) (cs : List (Option ℕ)) (v : ℕ) → slice_get cs v ≡ None → get_or (var_numbers ts cs) v None ≡ None
past_vars [] cs v f = refl
past_vars (u ∷ ts) [] v f = refl
past_vars (u ∷ ts) (x ∷ cs) zero f = absurd (cc)
past_vars (u ∷ ts) (x ∷ cs) (suc v) f = past_vars ts cs v f

pub set_gives : (k : Objects) (c : Cells) (v : ℕ) (at : Span) (t : Ty) (p u : ℕ) → IsVar k v t → AreCells k c → u ≤ most → slice_get c.vars v ≡ Some (Some p) → Gives t p u u (after_turns at 0 (read_var (store_of k c) v))
set_gives k c v at t p u is cells few f =
    let r = read_vars k.vars c.vars v t (Some p) cells.vars is f in
    record { turns = 0; is = ap (after_turns at 0) r.0; below = r.1; used = omega arith }

-- a variable that is unset, or that is not there
pub unset_is : (k : Objects) (c : Cells) (v : ℕ) (at : Span) (t : Ty) → IsVar k v t → AreCells k c → ((p : ℕ) → slice_get c.vars v ≡ Some (Some p) → ⊥) → after_turns at 0 (read_var (store_of k c) v) ≡ undefined_value at
unset_is k c v at t is cells none = by_cases (slice_get c.vars v) refl
  where
    by_cases : (o : Option (Option ℕ)) → slice_get c.vars v ≡ o → after_turns at 0 (read_var (store_of k c) v) ≡ undefined_value at
    by_cases None e = ap (after_turns at 0) (past_vars k.vars c.vars v e)
    by_cases (Some None) e = ap (after_turns at 0) (read_vars k.vars c.vars v t None cells.vars is e).0
    by_cases (Some (Some p)) e = absurd (none p e)

-- ---- arrays

read_arrays : (xs : List ArrayOf) (pss : List (List ℕ)) (a : ℕ) (x : ArrayOf) (ps : List ℕ) → AreArrayCells xs pss → slice_get xs a ≡ Some x → slice_get pss a ≡ Some ps → (get_or (array_numbers xs pss) a [] ≡ map (number x.ty) ps) × All (λ p. p < 2 ^ ty_width x.ty) ps
read_arrays [] [] a x ps all e f = absurd (cc)
read_arrays [] (qs ∷ pss) a x ps all e f = absurd all
read_arrays (y ∷ xs) [] a x ps all e f = absurd all
read_arrays (y ∷ xs) (qs ∷ pss) zero x ps all e f =
    let b : y ≡ x = cc in
    let d : qs ≡ ps = cc in
    subst (λ (x : ArrayOf). (map (number y.ty) qs ≡ map (number x.ty) ps) × All (λ p. p < 2 ^ ty_width x.ty) ps) b (subst (λ ps. (map (number y.ty) qs ≡ map (number y.ty) ps) × All (λ p. p < 2 ^ ty_width y.ty) ps) d (refl, all.0))
read_arrays (y ∷ xs) (qs ∷ pss) (suc a) x ps all e f = read_arrays xs pss a x ps all.1 e f

past_arrays : (xs : List ArrayOf) (pss : List (List ℕ)) (a : ℕ) → slice_get pss a ≡ None → get_or (array_numbers xs pss) a [] ≡ []
past_arrays [] pss a f = refl
past_arrays (x ∷ xs) [] a f = refl
past_arrays (x ∷ xs) (ps ∷ pss) zero f = absurd (cc)
past_arrays (x ∷ xs) (ps ∷ pss) (suc a) f = past_arrays xs pss a f

found_is : (b : Bool) (a u : ℕ) (v : Placed) (new : Trace) (q : ℕ) → b ≡ false → Located b a v u new q → Finds a u new.turns q v
found_is true a u v new q e h = absurd (cc)
found_is false a u v new q e h = h

pub located : (b : Bool) (a u : ℕ) (v : Placed) (new : Trace) (q : ℕ) → b ≡ false → Finds a u new.turns q v → Located b a v u new q
located b a u v new q e h = subst (λ b. Located b a v u new q) (sym e) h

pub lost : (b : Bool) (a u : ℕ) (v : Placed) (new : Trace) (q : ℕ) → b ≡ true → v ≡ no_place new.at → Located b a v u new q
lost b a u v new q e h = subst (λ b. Located b a v u new q) (sym e) h

-- the element at a place within its array
pub element_gives : (k : Objects) (c : Cells) (a n : ℕ) (t : Ty) (at : Span) (v : Placed) (u q : ℕ) (new : Trace) (ps : List ℕ) → IsElement k a n t → AreCells k c → new.failed ≡ false → Located new.failed a v u new q
    → slice_get c.arrays a ≡ Some ps → q < length ps → length ps ≤ most → Gives t (get_or ps q 0) u new.turns (element_of k c at v)
element_gives k c a n t at v u q new ps el cells clear loc is lt few =
    let f = found_is new.failed a u v new q clear loc in
    let x = el.0 in
    let r = read_arrays k.arrays c.arrays a x ps cells.arrays el.1 is in
    let here : f.place ≡ q = (let s = f.seen in omega arith) in
    let got : slice_get (map (number x.ty) ps) f.place ≡ Some (number x.ty (get_or ps q 0)) = slice_get-map (number x.ty) ps f.place ∙ ap (λ i. option_map (number x.ty) (slice_get ps i)) here ∙ ap (option_map (number x.ty)) (slice_get-get_or ps q 0 lt) in
    subst (λ t. Gives t (get_or ps q 0) u new.turns (element_of k c at v)) el.2 (record {
      turns = f.turns;
      is = ap (element_of k c at) f.is ∙ ap (λ zs. after_turns at f.turns (slice_get zs f.place)) r.0 ∙ ap (after_turns at f.turns) got;
      below = All-get_or (λ p. p < 2 ^ ty_width x.ty) ps q 0 lt r.1;
      used = f.used;
    })

-- past its array there is none
pub element_past : (k : Objects) (c : Cells) (a n : ℕ) (t : Ty) (at : Span) (v : Placed) (u q : ℕ) (new : Trace) (ps : List ℕ) → IsElement k a n t → AreCells k c → new.failed ≡ false → Located new.failed a v u new q
    → slice_get c.arrays a ≡ Some ps → length ps ≤ q → length ps ≤ most → element_of k c at v ≡ undefined_value at
element_past k c a n t at v u q new ps el cells clear loc is past few =
    let f = found_is new.failed a u v new q clear loc in
    let x = el.0 in
    let r = read_arrays k.arrays c.arrays a x ps cells.arrays el.1 is in
    let far : length ps ≤ f.place = (let s = f.seen in omega arith) in
    ap (element_of k c at) f.is ∙ ap (λ zs. after_turns at f.turns (slice_get zs f.place)) r.0 ∙ ap (after_turns at f.turns) (slice_get-map (number x.ty) ps f.place ∙ ap (option_map (number x.ty)) (slice_get_past ps f.place far))

pub array_past : (k : Objects) (c : Cells) (a : ℕ) (at : Span) (v : Placed) (u q : ℕ) (new : Trace) → new.failed ≡ false → Located new.failed a v u new q → slice_get c.arrays a ≡ None → element_of k c at v ≡ undefined_value at
array_past k c a at v u q new clear loc is =
    let f = found_is new.failed a u v new q clear loc in
    ap (element_of k c at) f.is ∙ ap (λ zs. after_turns at f.turns (slice_get zs f.place)) (past_arrays k.arrays c.arrays a is)

-- ---- running places

place_more : (at : ℕ) (ds : List ℕ) (is : List ℤ) (d : ℕ) (z : ℤ) (n : ℕ) → length is ≡ length ds → place_from at ds is ≡ Some n → place_from at (ds ++ d ∷ []) (is ++ z ∷ []) ≡ option_and_then (λ j. Some (n * d + j)) (index_within d z)
place_more at [] [] d z n l e = ap (λ n. option_and_then (λ j. Some (n * d + j)) (index_within d z)) (the_number at n e)
  where
    the_number : (a b : ℕ) → Some a ≡ Some b → a ≡ b
    the_number a b e = cc
place_more at [] (i ∷ is) d z n l e = absurd (omega arith)
place_more at (f ∷ ds) [] d z n l e = absurd (omega arith)
place_more at (f ∷ ds) (i ∷ is) d z n l e = inner (λ j h. place_more (at * f + j) ds is d z n (omega arith) h) (index_within f i) e
  where
    inner : ((j : ℕ) → place_from (at * f + j) ds is ≡ Some n → place_from (at * f + j) (ds ++ d ∷ []) (is ++ z ∷ []) ≡ option_and_then (λ j. Some (n * d + j)) (index_within d z)) → (o : Option ℕ) → option_and_then (λ j. place_from (at * f + j) ds is) o ≡ Some n → option_and_then (λ j. place_from (at * f + j) (ds ++ d ∷ []) (is ++ z ∷ [])) o ≡ option_and_then (λ j. Some (n * d + j)) (index_within d z)
    inner more None e = absurd (cc)
    inner more (Some j) e = more j e

place_none : (at : ℕ) (ds : List ℕ) (is : List ℤ) (d : ℕ) (z : ℤ) → length is ≡ length ds → place_from at ds is ≡ None → place_from at (ds ++ d ∷ []) (is ++ z ∷ []) ≡ None
place_none at [] [] d z l e = absurd (cc)
place_none at [] (i ∷ is) d z l e = absurd (omega arith)
place_none at (f ∷ ds) [] d z l e = absurd (omega arith)
place_none at (f ∷ ds) (i ∷ is) d z l e = inner (λ j h. place_none (at * f + j) ds is d z (omega arith) h) (index_within f i) e
  where
    inner : ((j : ℕ) → place_from (at * f + j) ds is ≡ None → place_from (at * f + j) (ds ++ d ∷ []) (is ++ z ∷ []) ≡ None) → (o : Option ℕ) → option_and_then (λ j. place_from (at * f + j) ds is) o ≡ None → option_and_then (λ j. place_from (at * f + j) (ds ++ d ∷ []) (is ++ z ∷ [])) o ≡ None
    inner more None e = refl
    inner more (Some j) e = more j e

-- products and sums that stop at the greatest number of 64 bits
stops : (n d x p : ℕ) → x < d → p ≡ min n most → min (min (p * d) most + x) most ≡ min (n * d + x) most
stops n zero x p lt e = absurd (omega arith)
stops n (suc d) x p lt e =
    ⊎_elim
    (λ big. let s : p ≡ most = omega (arith, big, e) in
    let o : 1 ≤ suc d = omega arith in
    let b : most * 1 ≤ most * suc d = mul-le-mul_left most o in
    let c : n * 1 ≤ n * suc d = mul-le-mul_left n o in
    ap (λ p. min (min (p * suc d) most + x) most) s ∙ omega (arith, b, c, big))
    (λ small. let s : p ≡ n = omega (arith, small, e) in ap (λ p. min (min (p * suc d) most + x) most) s ∙ nested (n * suc d) x)
    (cases_lt most n)
  where
    nested : (m x : ℕ) → min (min m most + x) most ≡ min (m + x) most
    nested m x = omega arith

one_more : (i : ℕ) → i + 1 ≡ suc i
one_more i = omega arith

-- one index more, that is inside
pub spot_in : (ds : List ℕ) (is : List ℤ) (i x d : ℕ) (z : ℤ) (old new : Spot) → i < length ds → length is ≡ i → get_or ds i 0 ≡ d → IsSpot (take i ds) is old → old.inside ≡ true → new.inside ≡ true → index_within d z ≡ Some x → x < d
    → new.place ≡ min (min (old.place * d) most + x) most → IsSpot (take (i + 1) ds) (is ++ (z ∷ [])) new
spot_in ds is i x d z old new lt len dim spot was stays within below e =
    let h = spot.in_all was in
    let n = h.0 in
    let cut : take (i + 1) ds ≡ take i ds ++ (d ∷ []) = ap (λ j. take j ds) (one_more i) ∙ take-suc ds i 0 lt ∙ ap (λ d. take i ds ++ (d ∷ [])) dim in
    let l : length is ≡ length (take i ds) = len ∙ sym (length_of i ds lt) in
    let is2 : place_from 0 (take (i + 1) ds) (is ++ (z ∷ [])) ≡ Some (n * d + x) = ap (λ ds. place_from 0 ds (is ++ (z ∷ []))) cut ∙ place_more 0 (take i ds) is d z n l h.1 ∙ ap (option_and_then (λ j. Some (n * d + j))) within in
    record { in_all = λ t. (n * d + x, is2, e ∙ stops n d x old.place below h.2); out_of_one = λ f. absurd (same_bool f) }
  where
    same_bool : new.inside ≡ false → ⊥
    same_bool f = cc

    length_of : (i : ℕ) (ds : List ℕ) → i < length ds → length (take i ds) ≡ i
    length_of i ds lt = grind (arith, common_steps)

-- one that is outside
pub spot_out : (ds : List ℕ) (is : List ℤ) (i d : ℕ) (z : ℤ) (old new : Spot) → i < length ds → length is ≡ i → get_or ds i 0 ≡ d → IsSpot (take i ds) is old → new.inside ≡ false → (old.inside ≡ true → index_within d z ≡ None)
    → IsSpot (take (i + 1) ds) (is ++ (z ∷ [])) new
spot_out ds is i d z old new lt len dim spot stays without =
    record { in_all = λ t. absurd (same_bool t); out_of_one = λ f. by_cases old.inside refl }
  where
    same_bool : new.inside ≡ true → ⊥
    same_bool f = cc

    length_of : length (take i ds) ≡ i
    length_of = grind (arith, common_steps)

    cut : take (i + 1) ds ≡ take i ds ++ (d ∷ [])
    cut = ap (λ j. take j ds) (one_more i) ∙ take-suc ds i 0 lt ∙ ap (λ d. take i ds ++ (d ∷ [])) dim

    by_cases : (b : Bool) → old.inside ≡ b → place_from 0 (take (i + 1) ds) (is ++ (z ∷ [])) ≡ None
    by_cases true e =
        let h = spot.in_all e in
        ap (λ ds. place_from 0 ds (is ++ (z ∷ []))) cut ∙ place_more 0 (take i ds) is d z h.0 (len ∙ sym length_of) h.1 ∙ ap (option_and_then (λ j. Some (h.0 * d + j))) (without e)
    by_cases false e = ap (λ ds. place_from 0 ds (is ++ (z ∷ []))) cut ∙ place_none 0 (take i ds) is d z (len ∙ sym length_of) (spot.out_of_one e)

pub spot_start : IsSpot [] [] (record { inside = true; place = 0 })
spot_start = record { in_all = λ t. (0, refl, refl); out_of_one = λ f. absurd (never f) }
  where
    never : true ≡ false → ⊥
    never f = cc

pub dims_none : (xs : List ArrayOf) (a : ℕ) → slice_get xs a ≡ None → dims_of xs a ≡ []
dims_none [] a e = refl
dims_none (y ∷ xs) zero e = absurd (cc)
dims_none (y ∷ xs) (suc a) e = dims_none xs a e

pub inside_is : (b : Bool) (d x : ℕ) (z : ℤ) → b ≡ true → index_within d z ≡ (if b then Some x else None) → index_within d z ≡ Some x
inside_is b d x z e h = h ∙ ap (λ b. if b then Some x else None) e

pub outside_is : (b : Bool) (d x : ℕ) (z : ℤ) → b ≡ false → index_within d z ≡ (if b then Some x else None) → index_within d z ≡ None
outside_is b d x z e h = h ∙ ap (λ b. if b then Some x else None) e

pub within_below : (d x : ℕ) (z : ℤ) → index_within d z ≡ Some x → x < d
within_below d (x) (pos i) e = below (nat_lt i d) refl e
  where
    below : (b : Bool) → nat_lt i d ≡ b → (if b then Some i else None) ≡ Some x → x < d
    below true t e = let s : i ≡ x = cc in let l : i < d = grind (arith, nat_tests) in omega (arith, s, l)
    below false t e = absurd (cc)
within_below d x (negsuc i) e = absurd (cc)

-- ---- indices, one after another

record Apart (v : Val) (vs : Vals) (is : List ℤ) (n : ℕ) : Type 0 where
  z : ℤ
  zs : List ℤ
  t : ℕ
  u : ℕ
  first : v ≡ value z t
  rest : vs ≡ values zs u
  all : z ∷ zs ≡ is
  turns : t + u ≡ n

apart : (v : Val) (vs : Vals) (is : List ℤ) (n : ℕ) → with_first v vs ≡ values is n → Apart v vs is n
apart (undefined_value p) vs is n e = absurd (cc)
apart (value z t) (undefined_values p) is n e = absurd (cc)
apart (value z t) (values zs u) is n e = record { z = z; zs = zs; t = t; u = u; first = refl; rest = refl; all = the_list (z ∷ zs) is (t + u) n e; turns = the_turns (z ∷ zs) is (t + u) n e }
  where
    the_list : (a b : List ℤ) (m n : ℕ) → values a m ≡ values b n → a ≡ b
    the_list a b m n e = cc

    the_turns : (a b : List ℤ) (m n : ℕ) → values a m ≡ values b n → m ≡ n
    the_turns a b m n e = cc

all_more : (ms : List Meaning) (m : Meaning) (s : Store) (is : List ℤ) (n : ℕ) (z : ℤ) (t : ℕ) → all_values ms s ≡ values is n → m s ≡ value z t → all_values (ms ++ m ∷ []) s ≡ values (is ++ z ∷ []) (n + t)
all_more [] m s is n z t e f =
    let l : [] ≡ is = the_list [] is 0 n e in
    let u : 0 ≡ n = the_turns [] is 0 n e in
    ap (λ v. with_first v (values [] 0)) f ∙ ap (λ is. values (is ++ z ∷ []) (t + 0)) l ∙ ap (values (is ++ z ∷ [])) (omega arith)
  where
    the_list : (a b : List ℤ) (m n : ℕ) → values a m ≡ values b n → a ≡ b
    the_list a b m n e = cc

    the_turns : (a b : List ℤ) (m n : ℕ) → values a m ≡ values b n → m ≡ n
    the_turns a b m n e = cc
all_more (l ∷ ms) m s is n z t e f =
    let p = apart (l s) (all_values ms s) is n e in
    ap (λ v. with_first v (all_values (ms ++ m ∷ []) s)) p.first ∙ ap (with_first (value p.z p.t)) (all_more ms m s p.zs p.u z t p.rest f)
    ∙ ap (λ zs. values (zs ++ z ∷ []) (p.t + (p.u + t))) p.all ∙ ap (values (is ++ z ∷ [])) (let h = p.turns in omega arith)

all_fails : (ms : List Meaning) (m : Meaning) (rest : List Meaning) (s : Store) (is : List ℤ) (n : ℕ) (p : Span) → all_values ms s ≡ values is n → m s ≡ undefined_value p → all_values (ms ++ m ∷ rest) s ≡ undefined_values p
all_fails [] m rest s is n p e f = ap (λ v. with_first v (all_values rest s)) f
all_fails (l ∷ ms) m rest s is n p e f =
    let q = apart (l s) (all_values ms s) is n e in
    ap (λ v. with_first v (all_values (ms ++ m ∷ rest) s)) q.first ∙ ap (with_first (value q.z q.t)) (all_fails ms m rest s q.zs q.u p q.rest f)

-- so many indices were evaluated, after u turns
pub record Walked (k : Objects) (c : Cells) (es : List TypedExpr) (a i u : ℕ) (spot : Spot) (trace : Trace) : Type 0 where
  pub is : List ℤ
  pub turns : ℕ
  pub values_are : all_values (map (meaning k) (take i es)) (store_of k c) ≡ values is turns
  pub many : length is ≡ i
  pub spot_is : IsSpot (take i (dims_of k.arrays a)) is spot
  pub ready : IsReady k c trace
  pub used : trace.turns ≡ plus_turns u turns

pub walked_start : (k : Objects) (c : Cells) (es : List TypedExpr) (a : ℕ) (trace : Trace) → IsReady k c trace → Walked k c es a 0 trace.turns (record { inside = true; place = 0 }) trace
walked_start k c es a trace ready = record {
  is = [];
  turns = 0;
  values_are = refl;
  many = refl;
  spot_is = spot_start;
  ready = ready;
  used = (let h = ready.few in omega arith);
}

next_meaning : (k : Objects) (es : List TypedExpr) (i : ℕ) (x : TypedExpr) → i < length es → x ≡ get_or es i x → map (meaning k) (take (i + 1) es) ≡ map (meaning k) (take i es) ++ (meaning k x ∷ [])
next_meaning k es i x lt e =
    ap (λ j. map (meaning k) (take j es)) (one_more i) ∙ ap (map (meaning k)) (take-suc es i x lt ∙ ap (λ (x : TypedExpr). take i es ++ (x ∷ [])) (sym e)) ∙ map-append (meaning k) (take i es) (x ∷ [])

all_meanings : (k : Objects) (es : List TypedExpr) (i : ℕ) (x : TypedExpr) → i < length es → x ≡ get_or es i x → map (meaning k) es ≡ map (meaning k) (take i es) ++ (meaning k x ∷ map (meaning k) (drop (suc i) es))
all_meanings k es i x lt e =
    ap (map (meaning k)) (split_at es i x lt ∙ ap (λ (x : TypedExpr). take i es ++ (x ∷ drop (suc i) es)) (sym e)) ∙ map-append (meaning k) (take i es) (x ∷ drop (suc i) es)

pub the_lawful : (k : Objects) (es : List TypedExpr) (i : ℕ) (x : TypedExpr) → i < length es → x ≡ get_or es i x → All (LawfulExpr k) es → LawfulExpr k x
the_lawful k es i x lt e all = subst (LawfulExpr k) (sym e) (All-get_or (LawfulExpr k) es i x lt all)

-- one more index
pub walked_more : (k : Objects) (c : Cells) (es : List TypedExpr) (a i u p : ℕ) (t : Ty) (x : TypedExpr) (spot spot2 : Spot) (old mid : Trace) → IsElement k a (length es) t → All (LawfulExpr k) es → i < length es → x ≡ get_or es i x → Walked k c es a i u spot old
    → EvalGives k c x old mid p → mid.failed ≡ false → ((is : List ℤ) → i < length (dims_of k.arrays a) → length is ≡ i → p < 2 ^ ty_width x.ty → IsSpot (take i (dims_of k.arrays a)) is spot → IsSpot (take (i + 1) (dims_of k.arrays a)) (is ++ (number x.ty p ∷ [])) spot2)
    → Walked k c es a (i + 1) u spot2 mid
walked_more k c es a i u p t x spot spot2 old mid el all lt at w ev clear en =
    let g = gives_is mid.failed x.ty (meaning k x (store_of k c)) old.turns p mid clear (ev (the_lawful k es i x lt at all) w.ready) in
    let dims : length (dims_of k.arrays a) ≡ length es = ap length (dims_is k.arrays a el.0 el.1) ∙ el.3 in
    record {
      is = w.is ++ (number x.ty p ∷ []);
      turns = w.turns + g.turns;
      values_are = ap (λ ms. all_values ms (store_of k c)) (next_meaning k es i x lt at) ∙ all_more (map (meaning k) (take i es)) (meaning k x) (store_of k c) w.is w.turns (number x.ty p) g.turns w.values_are g.is;
      many = length-append w.is (number x.ty p ∷ []) ∙ (let h = w.many in omega arith);
      spot_is = en w.is (omega (arith, dims, lt)) w.many g.below w.spot_is;
      ready = ready_after k c x.ty (meaning k x (store_of k c)) old mid p w.ready clear g;
      used = (let h = w.used in let j = g.used in omega arith);
    }

-- an index that is undefined
pub walked_fails : (k : Objects) (c : Cells) (es : List TypedExpr) (a i u p q : ℕ) (at : Span) (x : TypedExpr) (spot : Spot) (old mid : Trace) → All (LawfulExpr k) es → i < length es → x ≡ get_or es i x → Walked k c es a i u spot old
    → EvalGives k c x old mid p → mid.failed ≡ true → Located mid.failed a (place_by k.arrays (object.Array a) at (all_values (map (meaning k) es) (store_of k c))) u mid q
walked_fails k c es a i u p q at x spot old mid all lt here w ev f =
    let v = failed_is mid.failed x.ty (meaning k x (store_of k c)) old.turns p mid f (ev (the_lawful k es i x lt here all) w.ready) in
    lost mid.failed a u _ mid q f (ap (place_by k.arrays (object.Array a) at) (ap (λ ms. all_values ms (store_of k c)) (all_meanings k es i x lt here) ∙ all_fails (map (meaning k) (take i es)) (meaning k x) (map (meaning k) (drop (suc i) es)) (store_of k c) w.is w.turns mid.at w.values_are v))

-- all indices
walked_all : (k : Objects) (c : Cells) (es : List TypedExpr) (a i u : ℕ) (t : Ty) (spot : Spot) (trace : Trace) → IsElement k a (length es) t → length es ≤ i → i ≤ length es → (w : Walked k c es a i u spot trace)
    → (all_values (map (meaning k) es) (store_of k c) ≡ values w.is w.turns) × IsSpot (dims_of k.arrays a) w.is spot
walked_all k c es a i u t spot trace el past end w =
    let dims : length (dims_of k.arrays a) ≡ length es = ap length (dims_is k.arrays a el.0 el.1) ∙ el.3 in
    (ap (λ es. all_values (map (meaning k) es) (store_of k c)) (sym (take_all i es past)) ∙ w.values_are, subst (λ ds. IsSpot ds w.is spot) (take_all i (dims_of k.arrays a) (omega (arith, dims, past))) w.spot_is)

pub walked_in : (k : Objects) (c : Cells) (es : List TypedExpr) (a i u : ℕ) (t : Ty) (at : Span) (spot : Spot) (trace : Trace) → IsElement k a (length es) t → length es ≤ i → i ≤ length es → Walked k c es a i u spot trace → spot.inside ≡ true
    → Located trace.failed a (place_by k.arrays (object.Array a) at (all_values (map (meaning k) es) (store_of k c))) u trace spot.place
walked_in k c es a i u t at spot trace el past end w inside =
    let h = walked_all k c es a i u t spot trace el past end w in
    let p = h.1.in_all inside in
    located trace.failed a u _ trace spot.place w.ready.clear (record {
      place = p.0;
      turns = w.turns;
      is = ap (place_by k.arrays (object.Array a) at) h.0 ∙ ap (λ o. placed_after at w.turns (element_place a o)) p.1;
      seen = p.2;
      used = w.used;
    })

pub walked_out : (k : Objects) (c : Cells) (es : List TypedExpr) (a i u q : ℕ) (t : Ty) (at : Span) (spot : Spot) (trace new : Trace) → IsElement k a (length es) t → length es ≤ i → i ≤ length es → Walked k c es a i u spot trace → spot.inside ≡ false
    → new.failed ≡ true → new.at ≡ at → Located new.failed a (place_by k.arrays (object.Array a) at (all_values (map (meaning k) es) (store_of k c))) u new q
walked_out k c es a i u q t at spot trace new el past end w outside f e =
    let h = walked_all k c es a i u t spot trace el past end w in
    lost new.failed a u _ new q f (ap (place_by k.arrays (object.Array a) at) h.0 ∙ ap (λ o. placed_after at w.turns (element_place a o)) (h.1.out_of_one outside) ∙ ap no_place (sym e))
