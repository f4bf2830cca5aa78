-- Places of elements and loads.
use Rattle.std.proofs.Common.{◌≡◌, ℕ, zero, suc, ◌+◌, ◌*◌, ◌^◌, ◌<◌, ◌≤◌, List, [], ◌∷◌, map, length, get_or, Option, Some, None, refl, sym, ◌∙◌, ap, subst, arith, negsuc}
use Rattle.std.specs.Prelude.{Bool, true, false, ℤ, pos, slice_get, option_and_then, nat_lt, All, if◌then◌else◌}
use Rattle.std.proofs.lemmas.List.Elements.{All-head, All-tail}
use Rattle.std.proofs.lemmas.Bool.{ltb-true, lt-ltb}
use Rattle.std.proofs.Math.Nat.{mod-eq_of_lt, mul-le-mul_left, mul_comm, mul_assoc}
use Rattle.std.proofs.Math.IntN.{pos-*ℤ-pos}
use Rattle.std.proofs.lemmas.List.{get_or-map, length-map}
use Rattle.std.proofs.lemmas.Option.{get_or_from_slice_get, none-some, slice_get_within, same_Some}
use Rattle.el_base.specs.declared.ty.Ty.TheVariants.{I64}
use Rattle.el_base.specs.declared.operation.Op2.TheVariants.{Mul64, Add64}
use Rattle.el_base.specs.Numbers.{IsInRange, pattern, residue}
use Rattle.c_ast.specs.declared.typed.ArrayOf.{ArrayOf}
use Rattle.word_ops.specs.Operations.{op2_result}
use Rattle.ir.specs.declared.instr.Instr.TheVariants.{Const, Two, Load}
use Rattle.ir.specs.Steps.{Work, value_at, cells, after_step, strays_past}
use Rattle.c_meaning.specs.Stores.{Store, Objects, IsFitting, AreArraysOf, elements, place_from}
use Rattle.c_meaning.specs.KernelPatterns.{array_patterns}
use Rattle.c_meaning.specs.Expressions.{Val, undefined_value, value, Vals, undefined_values, values, Meaning, with_first, all_values}
use Rattle.c_meaning.proofs.ValueParts.{values_one}
use Rattle.struct_cfg.specs.Layings.{one_step, after, Piece}
use Rattle.struct_cfg.specs.Operators.{converted, index_laid, next_place, further_places, place_laid}
use Rattle.struct_cfg.specs.Seen.{IsValue, Sees, Adds, Makes}
use Rattle.struct_cfg.proofs.Works.{two_makes, const_makes, no_step_makes, makes_equal, after_makes, later, last_value, still_seen}
use Rattle.struct_cfg.proofs.Types.{OpLaws}
use Rattle.struct_cfg.proofs.JoinLaws.{converted_makes}

residue_small : (m : ℕ) → m < 2 ^ 64 → residue 64 (pos m) ≡ m
residue_small m h = mod-eq_of_lt h

-- ---- arrays and their patterns

pub record CellsAre (as_of : List ArrayOf) (zss : List (List ℤ)) (a : ℕ) (x : ArrayOf) : Type 0 where
  pub patterns : cells (array_patterns as_of zss) a ≡ map (pattern x.ty) (get_or zss a [])
  pub long : length (get_or zss a []) ≡ elements x.dims

pub cells_are : (as_of : List ArrayOf) (zss : List (List ℤ)) (a : ℕ) (x : ArrayOf) → AreArraysOf as_of zss → slice_get as_of a ≡ Some x → CellsAre as_of zss a x
cells_are [] zss a x f e = absurd (none-some x e)
cells_are (y ∷ ys) [] a x f e = absurd f
cells_are (y ∷ ys) (z ∷ zss) zero x f e = subst (λ q. CellsAre (y ∷ ys) (z ∷ zss) 0 q) (same_Some y x e) (record { patterns = refl; long = f.0 })
cells_are (y ∷ ys) (z ∷ zss) (suc a) x f e = let r = cells_are ys zss a x f.2 e in record { patterns = r.patterns; long = r.long }

-- ---- values of several expressions

pub record Firsts (m : Val) (vs : Vals) (is : List ℤ) : Type 0 where
  pub x : ℤ
  pub t : ℕ
  pub xs : List ℤ
  pub u : ℕ
  pub first : m ≡ value x t
  pub others : vs ≡ values xs u
  pub all : is ≡ x ∷ xs

pub firsts : (m : Val) (vs : Vals) (is : List ℤ) (t : ℕ) → with_first m vs ≡ values is t → Firsts m vs is
firsts (undefined_value p) vs is t e = absurd (cc)
firsts (value x u) (undefined_values p) is t e = absurd (cc)
firsts (value x u) (values xs v) is t e = record { x = x; t = u; xs = xs; u = v; first = refl; others = refl; all = sym (values_one (x ∷ xs) is (u + v) t e) }

-- ---- places

pub record Within (at d : ℕ) (ds : List ℕ) (i : ℤ) (is : List ℤ) (to : ℕ) : Type 0 where
  pub j : ℕ
  pub index : i ≡ pos j
  pub below : j < d
  pub further : place_from (at * d + j) ds is ≡ Some to

if_some : (b : Bool) (n at : ℕ) (f : ℕ → Option ℕ) → option_and_then f (if b then Some n else None) ≡ Some at → (b ≡ true) × (f n ≡ Some at)
if_some true n at f e = (refl, e)
if_some false n at f e = absurd (none-some at e)

within_is : (at d : ℕ) (ds : List ℕ) (i : ℤ) (is : List ℤ) (to : ℕ) → place_from at (d ∷ ds) (i ∷ is) ≡ Some to → Within at d ds i is to
within_is at d ds (pos n) is to e =
    let h = if_some (nat_lt n d) n to (λ j. place_from (at * d + j) ds is) e in
    record { j = n; index = refl; below = ltb-true n d h.0; further = h.1 }
within_is at d ds (negsuc n) is to e = absurd (none-some to e)

times_more : (at d : ℕ) → 0 < d → at ≤ at * d
times_more at d h = let l : 1 ≤ d = omega arith in let r = mul-le-mul_left at l in omega arith

-- a place lies behind the place of what is before
place_behind : (at : ℕ) (ds : List ℕ) (is : List ℤ) (to : ℕ) → place_from at ds is ≡ Some to → at ≤ to
place_behind at [] [] to e = let q = same_Some at to e in omega arith
place_behind at [] (i ∷ is) to e = absurd (none-some to e)
place_behind at (d ∷ ds) [] to e = absurd (none-some to e)
place_behind at (d ∷ ds) (i ∷ is) to e =
    let w = within_is at d ds i is to e in
    let b = place_behind (at * d + w.j) ds is to w.further in
    let t = times_more at d (omega (arith, w.below)) in omega arith

place_below : (at : ℕ) (ds : List ℕ) (is : List ℤ) (to : ℕ) → place_from at ds is ≡ Some to → to < (at + 1) * elements ds
place_below at [] [] to e = let q = same_Some at to e in omega arith
place_below at [] (i ∷ is) to e = absurd (none-some to e)
place_below at (d ∷ ds) [] to e = absurd (none-some to e)
place_below at (d ∷ ds) (i ∷ is) to e =
    let w = within_is at d ds i is to e in
    let b = place_below (at * d + w.j) ds is to w.further in
    let l : at * d + w.j + 1 ≤ (at + 1) * d = omega (arith, w.below) in
    let r = mul-le-mul_left (elements ds) l in
    let c1 : elements ds * (at * d + w.j + 1) ≡ (at * d + w.j + 1) * elements ds = mul_comm (elements ds) (at * d + w.j + 1) in
    let c2 : elements ds * ((at + 1) * d) ≡ (at + 1) * (d * elements ds) = mul_comm (elements ds) ((at + 1) * d) ∙ mul_assoc (at + 1) d (elements ds) in
    omega (arith, b, r, c1, c2)

-- a place lies within the elements of its array
pub place_within : (ds : List ℕ) (is : List ℤ) (to : ℕ) → place_from 0 ds is ≡ Some to → to < elements ds
place_within ds is to e = let b = place_below 0 ds is to e in omega arith

-- what a part of an expression gives
pub record PieceLaw (k : Objects) (env : List ℕ) (p : Piece) (m : Meaning) : Type 0 where
  pub gives : (w : Work) (s : Store) (x : ℤ) (t : ℕ) → Sees k env w s → m s ≡ value x t → Makes w (p.laying (length w.values)) (pattern p.ty x)
  pub range : (s : Store) (x : ℤ) (t : ℕ) → IsFitting k s → m s ≡ value x t → IsInRange p.ty x

pub data PieceLaws (k : Objects) (env : List ℕ) : List Piece → List Meaning → Type 0 where
  no_piece : PieceLaws k env [] []
  one_piece : (p : Piece) (m : Meaning) (ps : List Piece) (ms : List Meaning) → PieceLaw k env p m → PieceLaws k env ps ms → PieceLaws k env (p ∷ ps) (m ∷ ms)

pub within_clean : (cs : List ℕ) (p : ℕ) → p < length cs → strays_past cs p ≡ 0
within_clean cs p h = ap (λ b. if b then 0 else 1) (lt-ltb p (length cs) h)

module _ (laws : OpLaws) (k : Objects) (env : List ℕ) where
  index_makes : (p : Piece) (m : Meaning) (w : Work) (s : Store) (x : ℤ) (t j : ℕ) → PieceLaw k env p m → Sees k env w s → m s ≡ value x t → x ≡ pos j → j < 2 ^ 63 → Makes w (index_laid p (length w.values)) j
  index_makes p m w s x t j law sees e i small =
      let r = law.range s x t sees.fitting e in
      let is : pattern I64 x ≡ j = ap (pattern I64) i ∙ residue_small j (omega arith) in
      after_makes p.laying (λ v. converted p.ty I64 v) w (pattern p.ty x) j (law.gives w s x t sees e)
      (λ v u a h. makes_equal u _ _ _ is (converted_makes laws p.ty I64 u v x r h))

  product_is : (a d : ℕ) → a < 2 ^ 64 → d < 2 ^ 64 → a * d < 2 ^ 64 → op2_result Mul64 a d ≡ a * d
  product_is a d h i l =
      ap (λ x. op2_result Mul64 x d) (sym (residue_small a h)) ∙ ap (λ y. op2_result Mul64 (residue 64 (pos a)) y) (sym (residue_small d i)) ∙ laws.mul64 (pos a) (pos d)
      ∙ ap (residue 64) (pos-*ℤ-pos a d) ∙ residue_small (a * d) l

  sum_is : (a d : ℕ) → a < 2 ^ 64 → d < 2 ^ 64 → a + d < 2 ^ 64 → op2_result Add64 a d ≡ a + d
  sum_is a d h i l =
      ap (λ x. op2_result Add64 x d) (sym (residue_small a h)) ∙ ap (λ y. op2_result Add64 (residue 64 (pos a)) y) (sym (residue_small d i)) ∙ laws.add64 (pos a) (pos d)
      ∙ residue_small (a + d) l

  next_makes : (p : Piece) (m : Meaning) (w : Work) (s : Store) (at a d : ℕ) (x : ℤ) (t j : ℕ) → PieceLaw k env p m → Sees k env w s → IsValue w at a → m s ≡ value x t → x ≡ pos j → a < 2 ^ 63 → d < 2 ^ 63 → a * d + j < 2 ^ 63
      → Makes w (next_place at d p (length w.values)) (a * d + j)
  next_makes p m w s at a d x t j law sees v e i sa sd st =
      let small : a * d < 2 ^ 64 = omega arith in
      after_makes (index_laid p) (λ j. after (one_step (Const 64 d)) (λ c. after (one_step (Two Mul64 at c)) (λ m. one_step (Two Add64 m j)))) w j (a * d + j)
      (index_makes p m w s x t j law sees e i (omega arith))
      (λ jv w1 a1 h1. after_makes (one_step (Const 64 d)) (λ c. after (one_step (Two Mul64 at c)) (λ m. one_step (Two Add64 m jv))) w1 d (a * d + j) (const_makes w1 64 d)
      (λ c w2 a2 h2.
      let v2 = later w1 w2 at a a2 (later w w1 at a a1 v) in
      let j2 = later w1 w2 jv j a2 h1 in
      after_makes (one_step (Two Mul64 at c)) (λ m. one_step (Two Add64 m jv)) w2 (a * d) (a * d + j)
      (makes_equal w2 _ _ _ (product_is a d (omega arith) (omega arith) small) (two_makes Mul64 w2 at c a d v2 h2))
      (λ mv w3 a3 h3. makes_equal w3 _ _ _ (sum_is (a * d) j small (omega arith) (omega arith)) (two_makes Add64 w3 mv jv (a * d) j h3 (later w2 w3 jv j a3 j2)))))

  further_makes : (ds : List ℕ) (ps : List Piece) (ms : List Meaning) (w : Work) (s : Store) (at a : ℕ) (is : List ℤ) (t to : ℕ) → PieceLaws k env ps ms → All (λ d. d < 2 ^ 63) ds → Sees k env w s → IsValue w at a → all_values ms s ≡ values is t → place_from a ds is ≡ Some to → to < 2 ^ 63
      → Makes w (further_places at ds ps (length w.values)) to
  further_makes [] [] [] w s at a is t to laws_of small sees v e f b =
      let n : [] ≡ is = values_one [] is 0 t e in
      let same : a ≡ to = same_Some a to (ap (place_from a []) n ∙ f) in
      makes_equal w _ _ _ same (no_step_makes w at a (length w.values) v)
  further_makes [] [] (m ∷ ms) w s at a is t to laws_of small sees v e f b = elim laws_of [ ]
  further_makes [] (p ∷ ps) [] w s at a is t to laws_of small sees v e f b = elim laws_of [ ]
  further_makes (d ∷ ds) [] (m ∷ ms) w s at a is t to laws_of small sees v e f b = elim laws_of [ ]
  further_makes (d ∷ ds) (p ∷ ps) [] w s at a is t to laws_of small sees v e f b = elim laws_of [ ]
  further_makes [] (p ∷ ps) (m ∷ ms) w s at a is t to laws_of small sees v e f b =
      let q = firsts (m s) (all_values ms s) is t e in absurd (none-some to (ap (place_from a []) (sym q.all) ∙ f))
  further_makes (d ∷ ds) [] [] w s at a is t to laws_of small sees v e f b =
      let n : [] ≡ is = values_one [] is 0 t e in absurd (none-some to (ap (place_from a (d ∷ ds)) n ∙ f))
  further_makes (d ∷ ds) (p ∷ ps) (m ∷ ms) w s at a is t to (one_piece _ _ _ _ law rest) small sees v e f b =
      let q = firsts (m s) (all_values ms s) is t e in
      let i = within_is a d ds q.x q.xs to (ap (place_from a (d ∷ ds)) (sym q.all) ∙ f) in
      let behind = place_behind (a * d + i.j) ds q.xs to i.further in
      let more = times_more a d (omega (arith, i.below)) in
      let sd : d < 2 ^ 63 = All-head (λ d. d < 2 ^ 63) d ds small in
      let st : a * d + i.j < 2 ^ 63 = omega arith in
      let sa : a < 2 ^ 63 = omega arith in
      after_makes (next_place at d p) (λ v. further_places v ds ps) w (a * d + i.j) to
      (next_makes p m w s at a d q.x q.t i.j law sees v q.first i.index sa sd st)
      (λ v2 u add h. further_makes ds ps ms u s v2 (a * d + i.j) q.xs q.u to rest (All-tail (λ d. d < 2 ^ 63) d ds small) (still_seen k env w u s add sees) h q.others i.further b)

  pub place_makes : (ds : List ℕ) (ps : List Piece) (ms : List Meaning) (w : Work) (s : Store) (is : List ℤ) (t to : ℕ) → PieceLaws k env ps ms → 0 < length ds → All (λ d. d < 2 ^ 63) ds → Sees k env w s → all_values ms s ≡ values is t → place_from 0 ds is ≡ Some to → to < 2 ^ 63
      → Makes w (place_laid ds ps (length w.values)) to
  place_makes [] ps ms w s is t to laws_of some small sees e f b = absurd (omega arith)
  place_makes (d ∷ ds) [] (m ∷ ms) w s is t to laws_of some small sees e f b = elim laws_of [ ]
  place_makes (d ∷ ds) (p ∷ ps) [] w s is t to laws_of some small sees e f b = elim laws_of [ ]
  place_makes (d ∷ ds) [] [] w s is t to laws_of some small sees e f b =
      let n : [] ≡ is = values_one [] is 0 t e in absurd (none-some to (ap (place_from 0 (d ∷ ds)) n ∙ f))
  place_makes (d ∷ ds) (p ∷ ps) (m ∷ ms) w s is t to (one_piece _ _ _ _ law rest) some small sees e f b =
      let q = firsts (m s) (all_values ms s) is t e in
      let i = within_is 0 d ds q.x q.xs to (ap (place_from 0 (d ∷ ds)) (sym q.all) ∙ f) in
      let behind = place_behind (0 * d + i.j) ds q.xs to i.further in
      let is_j : 0 * d + i.j ≡ i.j = omega arith in
      after_makes (index_laid p) (λ v. further_places v ds ps) w i.j to
      (index_makes p m w s q.x q.t i.j law sees q.first i.index (omega arith))
      (λ v2 u add h. further_makes ds ps ms u s v2 i.j q.xs q.u to rest (All-tail (λ d. d < 2 ^ 63) d ds small) (still_seen k env w u s add sees) h q.others (ap (λ n. place_from n ds q.xs) (sym is_j) ∙ i.further) b)

  -- ---- a load

  pub load_makes : (w : Work) (s : Store) (a : ℕ) (x : ArrayOf) (v at : ℕ) (z : ℤ) → Sees k env w s → slice_get k.arrays a ≡ Some x → IsValue w v at → slice_get (get_or s.arrays a []) at ≡ Some z → Makes w (one_step (Load a v) (length w.values)) (pattern x.ty z)
  load_makes w s a x v at z sees e i el =
      let zs = get_or s.arrays a [] in
      let c = cells_are k.arrays s.arrays a x sees.fitting.arrays e in
      let within : at < length zs = slice_get_within zs at z el in
      let cs : cells w.arrays a ≡ map (pattern x.ty) zs = ap (λ q. cells q a) sees.arrays ∙ c.patterns in
      let y = get_or (cells w.arrays a) (value_at w.values v) 0 in
      let is_z : get_or zs at z ≡ z = get_or_from_slice_get zs at z z el in
      let y_is : y ≡ pattern x.ty z = ap (λ q. get_or q (value_at w.values v) 0) cs ∙ ap (λ n. get_or (map (pattern x.ty) zs) n 0) i.is ∙ get_or-map (pattern x.ty) zs at z 0 within ∙ ap (pattern x.ty) is_z in
      let clean : strays_past (cells w.arrays a) (value_at w.values v) ≡ 0 = ap (λ q. strays_past q (value_at w.values v)) cs ∙ ap (λ n. strays_past (map (pattern x.ty) zs) n) i.is ∙ within_clean (map (pattern x.ty) zs) at (omega (arith, length-map zs (pattern x.ty))) in
      let adds : Adds w (after_step (Load a v) w) = record { grown = y ∷ []; values = refl; arrays = refl; strays = omega arith } in
      makes_equal w (one_step (Load a v) (length w.values)) y (pattern x.ty z) y_is (record { adds = adds; is = last_value w.values y (after_step (Load a v) w) refl })
