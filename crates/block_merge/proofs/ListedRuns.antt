-- The blocks that a walk finds, under new numbers, have the same finished runs.
use Rattle.std.proofs.Common.{◌≡◌, ℕ, zero, suc, ◌<◌, ◌≤◌, List, [], ◌∷◌, map, length, get_or, Option, Some, refl, sym, ◌∙◌, ap, subst, arith}
use Rattle.std.proofs.lemmas.List.{get_or-map, length-map}
use Rattle.ir.specs.declared.graph.Jump.{Jump}
use Rattle.ir.specs.declared.graph.Jump.TheVariants.{Go, Two, Return}
use Rattle.ir.specs.Steps.{value_at}
use Rattle.ir.specs.Visits.{Visit, Onward, onto, leaves, Passage, next_of, Finishes, over_visits, strays_of}
use Rattle.ir.specs.Graphs.{Graph, handed, side, onward_of, no_block, block_at, passage, first_visit, handed_on, block_weight, weight}
use Rattle.block_merge.specs.Numbered.{numbered_to, numbered_jump, numbered, listed}
use Rattle.block_merge.specs.Merged.{with_blocks}
use Rattle.block_merge.specs.Shares.{RunsOver}
use Rattle.block_merge.proofs.Backs.{EndsClean, EndsBack}
use Rattle.block_merge.proofs.Visiting.{by_block}

pub as_heavy_jump : (f : ℕ → ℕ) (j : Jump) → handed_on (numbered_jump f j) ≡ handed_on j
as_heavy_jump f (Go t) = refl
as_heavy_jump f (Two c x y) = refl
as_heavy_jump f (Return v) = refl

-- a block that is listed, at its place
abbrev pub IsFound : List ℕ → (ℕ → ℕ) → ℕ → Type 0
IsFound found f n = (f n < length found) × (get_or found (f n) 0 ≡ n)

abbrev pub LeadsTo : (ℕ → Type 0) → Jump → Type 0
LeadsTo P (Go t) = P t.block
LeadsTo P (Two c yes_part no_part) = P yes_part.block × P no_part.block
LeadsTo P (Return v) = Unit {0}

-- block 0 stands first, and no jump leads out of the list
pub record IsListing (g : Graph) (found : List ℕ) (f : ℕ → ℕ) : Type 0 where
  pub start : IsFound found f 0
  pub first : f 0 ≡ 0
  pub closed : (n : ℕ) → IsFound found f n → LeadsTo (IsFound found f) (block_at g n).jump

abbrev pub listed_graph : Graph → List ℕ → (ℕ → ℕ) → Graph
listed_graph g found f = with_blocks g (listed g.blocks found f)

module _ (g : Graph) (found : List ℕ) (f : ℕ → ℕ) (is : IsListing g found f) where
  abbrev h : Graph
  h = listed_graph g found f

  abbrev Found : ℕ → Type 0
  Found n = IsFound found f n

  abbrev moved : Visit → Visit
  moved v = record { block = f v.block; given = v.given; arrays = v.arrays }

  abbrev led : Onward → Onward
  led (onto b vs) = onto (f b) vs
  led (leaves r) = leaves r

  pub block_is : (n : ℕ) → Found n → block_at h (f n) ≡ numbered f (block_at g n)
  block_is n (lt, there) = get_or-map (λ m. numbered f (block_at g m)) found (f n) 0 no_block lt ∙ ap (λ m. numbered f (block_at g m)) there

  led_jump : (j : Jump) (vs : List ℕ) → onward_of (numbered_jump f j) vs ≡ led (onward_of j vs)
  led_jump (Go t) vs = refl
  led_jump (Two c x y) vs = by (value_at vs c)
    where
      by : (n : ℕ) → side n (handed vs (numbered_to f x)) (handed vs (numbered_to f y)) ≡ led (side n (handed vs x) (handed vs y))
      by zero = refl
      by (suc n) = refl
  led_jump (Return v) vs = refl

  found_next : (j : Jump) (vs : List ℕ) (xs : List (List ℕ)) (w : Visit) → LeadsTo Found j → next_of (onward_of j vs) xs ≡ Some w → Found w.block
  found_next (Go t) vs xs w l e = let z : t.block ≡ w.block = cc in subst Found z l
  found_next (Two c x y) vs xs w l e = by (value_at vs c) e
    where
      by : (n : ℕ) → next_of (side n (handed vs x) (handed vs y)) xs ≡ Some w → Found w.block
      by zero e = let z : y.block ≡ w.block = cc in subst Found z l.1
      by (suc n) e = let z : x.block ≡ w.block = cc in subst Found z l.0
  found_next (Return v) vs xs w l e = absurd (cc)

  record Alike (v : Visit) : Type 0 where
    onward : (passage h (moved v)).onward ≡ led (passage g v).onward
    arrays : (passage h (moved v)).arrays ≡ (passage g v).arrays
    strays : (passage h (moved v)).strays ≡ (passage g v).strays
    heavy : weight h (moved v) ≡ weight g v

  alike : (v : Visit) → Found v.block → Alike v
  alike v at =
      let x = block_at g v.block in
      let p : passage h (moved v) ≡ by_block (numbered f x) v.given v.arrays = ap (λ y. by_block y v.given v.arrays) (block_is v.block at) in
      record {
        onward = ap (λ (q : Passage). q.onward) p ∙ led_jump x.jump (passage g v).values;
        arrays = ap (λ (q : Passage). q.arrays) p;
        strays = ap (λ (q : Passage). q.strays) p;
        heavy = (let w : weight h (moved v) ≡ block_weight (numbered f x) = ap block_weight (block_is v.block at) in let l = as_heavy_jump f x.jump in omega (arith, w, l));
      }

  next_led : (o : Onward) (xs : List (List ℕ)) (w : Visit) → next_of o xs ≡ Some w → next_of (led o) xs ≡ Some (moved w)
  next_led (onto b vs) xs w e = let z : ◌≡◌ {A = Visit} (record { block = b; given = vs; arrays = xs }) w = cc in ap (λ u. Some (moved u)) z
  next_led (leaves r) xs w e = absurd (cc)

  record Same (v : Visit) (rest : List Visit) (r : Option ℕ) (arrays : List (List ℕ)) : Type 0 where
    ends : Finishes (passage h) (moved v) (map moved rest) r arrays
    strays : strays_of (passage h) (moved v ∷ map moved rest) ≡ strays_of (passage g) (v ∷ rest)
    heavy : over_visits (weight h) (moved v ∷ map moved rest) ≡ over_visits (weight g) (v ∷ rest)

  same : (rest : List Visit) (v : Visit) (r : Option ℕ) (arrays : List (List ℕ)) → Found v.block → Finishes (passage g) v rest r arrays → Same v rest r arrays
  same [] v r arrays at e =
      let a = alike v at in
      record {
        ends = record { result = a.onward ∙ ap led e.result; last_arrays = a.arrays ∙ e.last_arrays };
        strays = (let s = a.strays in omega (arith, s));
        heavy = (let s = a.heavy in omega (arith, s));
      }
  same (w ∷ rest) v r arrays at e =
      let a = alike v at in
      let i = same rest w r arrays (found_next (block_at g v.block).jump (passage g v).values (passage g v).arrays w (is.closed v.block at) e.0) e.1 in
      record {
        ends = (ap (λ o. next_of o (passage h (moved v)).arrays) a.onward ∙ (ap (next_of (led (passage g v).onward)) a.arrays ∙ next_led (passage g v).onward (passage g v).arrays w e.0), i.ends);
        strays = (let s = a.strays in let t = i.strays in omega (arith, s, t));
        heavy = (let s = a.heavy in let t = i.heavy in omega (arith, s, t));
      }

  -- ---- and back

  led_leaves : (o : Onward) (r : Option ℕ) → led o ≡ leaves r → o ≡ leaves r
  led_leaves (onto b vs) r e = absurd (cc)
  led_leaves (leaves q) r e = e

  -- the visit of the graph that is a visit of the listed graph under its new number
  record Before (o : Onward) (xs : List (List ℕ)) (w : Visit) : Type 0 where
    visit : Visit
    next : next_of o xs ≡ Some visit
    moves : moved visit ≡ w

  next_before : (o : Onward) (xs : List (List ℕ)) (w : Visit) → next_of (led o) xs ≡ Some w → Before o xs w
  next_before (onto b vs) xs w e =
      let z : ◌≡◌ {A = Visit} (record { block = f b; given = vs; arrays = xs }) w = cc in
      record { visit = record { block = b; given = vs; arrays = xs }; next = refl; moves = z }
  next_before (leaves r) xs w e = absurd (cc)

  back : (rest : List Visit) (v : Visit) (r : Option ℕ) (arrays : List (List ℕ)) → Found v.block → Finishes (passage h) (moved v) rest r arrays → strays_of (passage h) (moved v ∷ rest) ≡ 0 → EndsClean g v r arrays
  back [] v r arrays at e z =
      let a = alike v at in
      record {
        rest = [];
        ends = record { result = led_leaves (passage g v).onward r (sym a.onward ∙ e.result); last_arrays = sym a.arrays ∙ e.last_arrays };
        clean = (let s = a.strays in omega (arith, s, z));
      }
  back (w ∷ rest) v r arrays at e z =
      let a = alike v at in
      let later : strays_of (passage h) (w ∷ rest) ≡ 0 = omega (arith, z) in
      let b = next_before (passage g v).onward (passage g v).arrays w (sym (ap (λ o. next_of o (passage h (moved v)).arrays) a.onward ∙ ap (next_of (led (passage g v).onward)) a.arrays) ∙ e.0) in
      let i = back rest b.visit r arrays (found_next (block_at g v.block).jump (passage g v).values (passage g v).arrays b.visit (is.closed v.block at) b.next)
      (subst (λ u. Finishes (passage h) u rest r arrays) (sym b.moves) e.1) (subst (λ u. strays_of (passage h) (u ∷ rest) ≡ 0) (sym b.moves) later) in
      record { rest = b.visit ∷ i.rest; ends = (b.next, i.ends); clean = (let s = a.strays in let t = i.clean in omega (arith, s, t, z)) }

pub listed_runs : (g : Graph) (found : List ℕ) (f : ℕ → ℕ) → IsListing g found f → RunsOver g (listed_graph g found f)
listed_runs g found f is scalars arrays r last more most l x =
    let v = first_visit scalars arrays in
    let s = same g found f is x.rest v r last is.start x.ends in
    let e : moved g found f is v ≡ v = ap (λ n. record { block = n; given = scalars; arrays = arrays }) is.first in
    record {
      rest = map (moved g found f is) x.rest;
      ends = subst (λ u. Finishes (passage (listed_graph g found f)) u (map (moved g found f is) x.rest) r last) e s.ends;
      clean = subst (λ u. strays_of (passage (listed_graph g found f)) (u ∷ map (moved g found f is) x.rest) ≡ 0) e (s.strays ∙ x.clean);
      few = (let p = x.few in let q = length-map x.rest (moved g found f is) in omega (arith, p, q));
      cheap = subst (λ u. over_visits (weight (listed_graph g found f)) (u ∷ map (moved g found f is) x.rest) ≤ most) e (let p = x.cheap in let q = s.heavy in omega (arith, p, q));
    }

pub listed_back : (g : Graph) (found : List ℕ) (f : ℕ → ℕ) → IsListing g found f → EndsBack g (listed_graph g found f)
listed_back g found f is scalars arrays r last l x =
    let v = first_visit scalars arrays in
    let e : moved g found f is v ≡ v = ap (λ n. record { block = n; given = scalars; arrays = arrays }) is.first in
    back g found f is x.rest v r last is.start (subst (λ u. Finishes (passage (listed_graph g found f)) u x.rest r last) (sym e) x.ends)
    (subst (λ u. strays_of (passage (listed_graph g found f)) (u ∷ x.rest) ≡ 0) (sym e) x.clean)
