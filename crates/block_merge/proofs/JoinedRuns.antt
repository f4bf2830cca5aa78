-- Where a block takes in the one that it leads to, each finished run is one with no more visits.
use Rattle.std.proofs.Common.{◌≡◌, ◌≢◌, ℕ, ◌+◌, ◌<◌, ◌≤◌, List, [], ◌∷◌, map, length, Option, Some, refl, sym, ◌∙◌, ap, subst, arith, length-append, inl, inr}
use Rattle.std.specs.Prelude.{set}
use Rattle.std.proofs.lemmas.Bool.{cases_eq}
use Rattle.std.proofs.lemmas.Option.{get_or_from_slice_get, slice_get_within}
use Rattle.std.proofs.lemmas.List.{get_or-set_same, get_or-set_other, length-map}
use Rattle.ir.specs.declared.graph.Block.{Block}
use Rattle.ir.specs.declared.graph.Jump.{Jump}
use Rattle.ir.specs.declared.graph.Jump.TheVariants.{Go, Two, Return}
use Rattle.ir.specs.declared.graph.To.{To}
use Rattle.ir.specs.Steps.{Work, value_at, through, beginning}
use Rattle.ir.specs.Visits.{Visit, onto, leaves, Passage, next_of, next_visit, Returns, Finishes, over_visits, strays_of}
use Rattle.ir.specs.Renaming.{renamed}
use Rattle.ir.specs.Graphs.{Graph, IsGraph, IsBlock, IsJump, IsTarget, AreHanded, shape_of, handed, onward_of, no_block, block_at, passage, first_visit, handed_on, block_weight, weight}
use Rattle.block_merge.specs.Renamed.{moved_to, renamed_jump}
use Rattle.block_merge.specs.Joined.{values_of, joined}
use Rattle.block_merge.specs.Merged.{with_blocks}
use Rattle.block_merge.specs.Shares.{RunsOver}
use Rattle.block_merge.proofs.Backs.{EndsClean, EndsBack}
use Rattle.block_merge.proofs.JoinedValues.{together}
use Rattle.block_merge.proofs.Visiting.{is_block, Fits, fits_next, first_fits, by_block}

-- block k leads to another without a condition
pub record LeadsOn (g : Graph) (k : ℕ) (to : To) : Type 0 where
  pub graph : IsGraph g
  pub within : k < length g.blocks
  pub goes : (block_at g k).jump ≡ Go to
  pub other : to.block ≢ k

-- block k with the other behind it, which stays where it is
abbrev pub taken_in : Graph → ℕ → To → Graph
taken_in g k to = with_blocks g (set g.blocks k (joined (block_at g k) to.with (block_at g to.block)))

-- ---- weights

pub renamed_handed : (f : ℕ → ℕ) (j : Jump) → handed_on (renamed_jump f j) ≡ handed_on j
renamed_handed f (Go to) = length-map to.with f
renamed_handed f (Two c a b) = let x = length-map a.with f in let y = length-map b.with f in omega (arith, x, y)
renamed_handed f (Return v) = refl

pub joined_weight : (b c : Block) (with : List ℕ) → block_weight (joined b with c) ≤ block_weight b + block_weight c
joined_weight b c with =
    let f = moved_to with (values_of b) in
    let x = renamed_handed f c.jump in
    omega (arith, x, length-append b.steps (map (renamed f) c.steps), length-map c.steps (renamed f))

-- ---- runs

module _ (g : Graph) (k : ℕ) (to : To) (leads : LeadsOn g k to) where
  abbrev pub h : Graph
  h = taken_in g k to

  abbrev pub b : Block
  b = block_at g k

  abbrev pub c : Block
  c = block_at g to.block

  abbrev pub bc : Block
  bc = joined b to.with c

  pub at_other : (n : ℕ) → n ≢ k → block_at h n ≡ block_at g n
  at_other n ne = get_or-set_other g.blocks k n bc no_block ne

  pub at_joined : block_at h k ≡ bc
  at_joined = get_or-set_same g.blocks k bc no_block leads.within

  pub target : IsTarget g.blocks (shape_of g b) to
  target = subst (IsJump g (shape_of g b)) leads.goes (is_block g leads.graph k leads.within).jump

  pub target_is : c ≡ target.block
  target_is = get_or_from_slice_get g.blocks to.block target.block no_block target.exists

  pub is_c : IsBlock g c
  is_c = is_block g leads.graph to.block (slice_get_within g.blocks to.block target.block target.exists)

  pub hand : AreHanded (shape_of g b) to.with c.args
  hand = subst (λ (x : Block). AreHanded (shape_of g b) to.with x.args) (sym target_is) target.handed

  -- what the visit of the joined block makes, from the two visits
  pub record Both (us : List ℕ) (xs : List (List ℕ)) (w : Visit) : Type 0 where
    pub onward : (passage h (record { block = k; given = us; arrays = xs })).onward ≡ (passage g w).onward
    pub arrays : (passage h (record { block = k; given = us; arrays = xs })).arrays ≡ (passage g w).arrays
    pub strays : (passage h (record { block = k; given = us; arrays = xs })).strays ≡ (passage g (record { block = k; given = us; arrays = xs })).strays + (passage g w).strays
    pub weight : weight h (record { block = k; given = us; arrays = xs }) ≤ weight g (record { block = k; given = us; arrays = xs }) + weight g w

  pub goes_on : (us : List ℕ) (xs : List (List ℕ)) → (passage g (record { block = k; given = us; arrays = xs })).onward ≡ handed (through b.steps (beginning us xs)).values to
  goes_on us xs = ap (λ j. onward_of j (through b.steps (beginning us xs)).values) leads.goes

  pub both : (us : List ℕ) (xs : List (List ℕ)) (w : Visit) → length us ≡ length b.args → next_visit (passage g) (record { block = k; given = us; arrays = xs }) ≡ Some w → Both us xs w
  both us xs w long e =
      let one = through b.steps (beginning us xs) in
      let t = together g b c to.with us xs (is_block g leads.graph k leads.within) is_c hand long in
      let n : next_of (handed one.values to) one.arrays ≡ Some w = ap (λ o. next_of o one.arrays) (sym (goes_on us xs)) ∙ e in
      let z : ◌≡◌ {A = Visit} (record { block = to.block; given = map (value_at one.values) to.with; arrays = one.arrays }) w = cc in
      let p = ap (λ (x : Block). by_block x us xs) at_joined in
      subst (Both us xs) z (record {
        onward = ap (λ (q : Passage). q.onward) p ∙ (ap (λ (q : Work). onward_of bc.jump q.values) t.is ∙ t.onward);
        arrays = ap (λ (q : Passage). q.arrays) p ∙ ap (λ (q : Work). q.arrays) t.is;
        strays = ap (λ (q : Passage). q.strays) p ∙ ap (λ (q : Work). q.strays) t.is;
        weight = (let j = joined_weight b c to.with in let q = ap block_weight at_joined in omega (arith, j, q));
      })

  record Same (v : Visit) (rest : List Visit) (r : Option ℕ) (arrays : List (List ℕ)) : Type 0 where
    again : List Visit
    ends : Finishes (passage h) v again r arrays
    strays : strays_of (passage h) (v ∷ again) ≡ strays_of (passage g) (v ∷ rest)
    few : length again ≤ length rest
    cheap : over_visits (weight h) (v ∷ again) ≤ over_visits (weight g) (v ∷ rest)

  -- a visit of another block
  pub record Alike (v : Visit) : Type 0 where
    pub passage_is : passage h v ≡ passage g v
    pub weight_is : weight h v ≡ weight g v

  pub other : (v : Visit) → v.block ≢ k → Alike v
  other v ne = let e = at_other v.block ne in record { passage_is = ap (λ (x : Block). by_block x v.given v.arrays) e; weight_is = ap block_weight e }

  same_last : (v : Visit) (r : Option ℕ) (arrays : List (List ℕ)) → Alike v → Returns (passage g) v r arrays → Same v [] r arrays
  same_last v r arrays a f = record {
    again = [];
    ends = record { result = ap (λ (q : Passage). q.onward) a.passage_is ∙ f.result; last_arrays = ap (λ (q : Passage). q.arrays) a.passage_is ∙ f.last_arrays };
    strays = ap (λ (q : Passage). q.strays + 0) a.passage_is;
    few = omega arith;
    cheap = (let w = a.weight_is in omega (arith, w));
  }

  same_on : (v w : Visit) (rest : List Visit) (r : Option ℕ) (arrays : List (List ℕ)) → Alike v → next_visit (passage g) v ≡ Some w → Same w rest r arrays → Same v (w ∷ rest) r arrays
  same_on v w rest r arrays a e s = record {
    again = w ∷ s.again;
    ends = (ap (λ (q : Passage). next_of q.onward q.arrays) a.passage_is ∙ e, s.ends);
    strays = (let p = ap (λ (q : Passage). q.strays) a.passage_is in let t = s.strays in omega (arith, p, t));
    few = (let l = s.few in omega (arith, l));
    cheap = (let p = a.weight_is in let t = s.cheap in omega (arith, p, t));
  }

  both_last : (us : List ℕ) (xs : List (List ℕ)) (w : Visit) (r : Option ℕ) (arrays : List (List ℕ)) → Both us xs w → Returns (passage g) w r arrays → Same (record { block = k; given = us; arrays = xs }) (w ∷ []) r arrays
  both_last us xs w r arrays t f = record {
    again = [];
    ends = record { result = t.onward ∙ f.result; last_arrays = t.arrays ∙ f.last_arrays };
    strays = (let p = t.strays in omega (arith, p));
    few = omega arith;
    cheap = (let p = t.weight in omega (arith, p));
  }

  both_on : (us : List ℕ) (xs : List (List ℕ)) (w x : Visit) (rest : List Visit) (r : Option ℕ) (arrays : List (List ℕ)) → Both us xs w → next_visit (passage g) w ≡ Some x → Same x rest r arrays
      → Same (record { block = k; given = us; arrays = xs }) (w ∷ x ∷ rest) r arrays
  both_on us xs w x rest r arrays t e s = record {
    again = x ∷ s.again;
    ends = (ap (λ o. next_of o (passage h (record { block = k; given = us; arrays = xs })).arrays) t.onward ∙ (ap (next_of (passage g w).onward) t.arrays ∙ e), s.ends);
    strays = (let p = t.strays in let q = s.strays in omega (arith, p, q));
    few = (let l = s.few in omega (arith, l));
    cheap = (let p = t.weight in let q = s.cheap in omega (arith, p, q));
  }

  -- the visit of block k is one with its number
  pub at_k : (v : Visit) → v.block ≡ k → v ≡ record { block = k; given = v.given; arrays = v.arrays }
  at_k v e = ap (λ n. record { block = n; given = v.given; arrays = v.arrays }) e

  not_last : (v : Visit) (r : Option ℕ) (arrays : List (List ℕ)) → v.block ≡ k → Returns (passage g) v r arrays → ⊥
  not_last v r arrays e f =
      let z : (passage g v).onward ≡ handed (through b.steps (beginning v.given v.arrays)).values to = ap (λ (u : Visit). (passage g u).onward) (at_k v e) ∙ goes_on v.given v.arrays in
      let y : leaves r ≡ onto to.block (map (value_at (through b.steps (beginning v.given v.arrays)).values) to.with) = sym f.result ∙ z in cc

  both_at : (v w : Visit) → v.block ≡ k → Fits g leads.graph v → next_visit (passage g) v ≡ Some w → Both v.given v.arrays w
  both_at v w e f n = both v.given v.arrays w (f.long ∙ ap (λ m. length (block_at g m).args) e) (ap (next_visit (passage g)) (sym (at_k v e)) ∙ n)

  same : (rest : List Visit) (v : Visit) (r : Option ℕ) (arrays : List (List ℕ)) → Fits g leads.graph v → Finishes (passage g) v rest r arrays → Same v rest r arrays
  same [] v r arrays fit f = elim (cases_eq v.block k) [ inl e ↦ absurd (not_last v r arrays e f) | inr ne ↦ same_last v r arrays (other v ne) f ]
  same (w ∷ []) v r arrays fit f = elim (cases_eq v.block k) [
    | inl e ↦ subst (λ u. Same u (w ∷ []) r arrays) (sym (at_k v e)) (both_last v.given v.arrays w r arrays (both_at v w e fit f.0) f.1)
    | inr ne ↦ same_on v w [] r arrays (other v ne) f.0 (same [] w r arrays (fits_next g leads.graph v w fit f.0) f.1)
  ]
  same (w ∷ x ∷ rest) v r arrays fit f =
      let fw = fits_next g leads.graph v w fit f.0 in
      let fx = fits_next g leads.graph w x fw f.1.0 in
      elim (cases_eq v.block k) [
        | inl e ↦ subst (λ u. Same u (w ∷ x ∷ rest) r arrays) (sym (at_k v e)) (both_on v.given v.arrays w x rest r arrays (both_at v w e fit f.0) f.1.0 (same rest x r arrays fx f.1.1))
        | inr ne ↦ same_on v w (x ∷ rest) r arrays (other v ne) f.0 (same (x ∷ rest) w r arrays fw f.1)
      ]

  -- ---- and back

  abbrev at_first : List ℕ → List (List ℕ) → Visit
  at_first us xs = record { block = k; given = us; arrays = xs }

  -- the visit behind one of block k
  abbrev second : List ℕ → List (List ℕ) → Visit
  second us xs = let one = through b.steps (beginning us xs) in record { block = to.block; given = map (value_at one.values) to.with; arrays = one.arrays }

  next_second : (us : List ℕ) (xs : List (List ℕ)) → next_visit (passage g) (at_first us xs) ≡ Some (second us xs)
  next_second us xs = ap (λ o. next_of o (through b.steps (beginning us xs)).arrays) (goes_on us xs)

  back_last : (us : List ℕ) (xs : List (List ℕ)) (r : Option ℕ) (arrays : List (List ℕ)) → length us ≡ length b.args → Returns (passage h) (at_first us xs) r arrays → (passage h (at_first us xs)).strays ≡ 0
      → EndsClean g (at_first us xs) r arrays
  back_last us xs r arrays long f z =
      let n = next_second us xs in
      let t = both us xs (second us xs) long n in
      record {
        rest = second us xs ∷ [];
        ends = (n, record { result = sym t.onward ∙ f.result; last_arrays = sym t.arrays ∙ f.last_arrays });
        clean = (let s = t.strays in omega (arith, s, z));
      }

  on_second : (us : List ℕ) (xs : List (List ℕ)) (x : Visit) → length us ≡ length b.args → next_visit (passage h) (at_first us xs) ≡ Some x → next_visit (passage g) (second us xs) ≡ Some x
  on_second us xs x long e =
      let t = both us xs (second us xs) long (next_second us xs) in
      sym (ap (λ o. next_of o (passage h (at_first us xs)).arrays) t.onward ∙ ap (next_of (passage g (second us xs)).onward) t.arrays) ∙ e

  back_on : (us : List ℕ) (xs : List (List ℕ)) (x : Visit) (r : Option ℕ) (arrays : List (List ℕ)) → length us ≡ length b.args → (passage h (at_first us xs)).strays ≡ 0 → next_visit (passage g) (second us xs) ≡ Some x
      → EndsClean g x r arrays → EndsClean g (at_first us xs) r arrays
  back_on us xs x r arrays long z m i =
      let n = next_second us xs in
      let t = both us xs (second us xs) long n in
      record { rest = second us xs ∷ x ∷ i.rest; ends = (n, (m, i.ends)); clean = (let s = t.strays in let c = i.clean in omega (arith, s, z, c)) }

  back : (rest : List Visit) (v : Visit) (r : Option ℕ) (arrays : List (List ℕ)) → Fits g leads.graph v → Finishes (passage h) v rest r arrays → strays_of (passage h) (v ∷ rest) ≡ 0 → EndsClean g v r arrays
  back [] v r arrays fit f z =
      let none : (passage h v).strays ≡ 0 = omega (arith, z) in
      elim (cases_eq v.block k) [
        | inl e ↦
            let s = at_k v e in
            let w : Fits g leads.graph (at_first v.given v.arrays) = subst (Fits g leads.graph) s fit in
            subst (λ u. EndsClean g u r arrays) (sym s)
            (back_last v.given v.arrays r arrays w.long (subst (λ u. Returns (passage h) u r arrays) s f) (subst (λ u. (passage h u).strays ≡ 0) s none))
        | inr ne ↦
            let p = (other v ne).passage_is in
            record {
              rest = [];
              ends = record { result = sym (ap (λ (q : Passage). q.onward) p) ∙ f.result; last_arrays = sym (ap (λ (q : Passage). q.arrays) p) ∙ f.last_arrays };
              clean = (let s = ap (λ (q : Passage). q.strays) p in omega (arith, s, none));
            }
      ]
  back (x ∷ rest) v r arrays fit f z =
      let none : (passage h v).strays ≡ 0 = omega (arith, z) in
      let later : strays_of (passage h) (x ∷ rest) ≡ 0 = omega (arith, z) in
      elim (cases_eq v.block k) [
        | inl e ↦
            let s = at_k v e in
            let w : Fits g leads.graph (at_first v.given v.arrays) = subst (Fits g leads.graph) s fit in
            let m = on_second v.given v.arrays x w.long (subst (λ u. next_visit (passage h) u ≡ Some x) s f.0) in
            let fw = fits_next g leads.graph (at_first v.given v.arrays) (second v.given v.arrays) w (next_second v.given v.arrays) in
            let i = back rest x r arrays (fits_next g leads.graph (second v.given v.arrays) x fw m) f.1 later in
            subst (λ u. EndsClean g u r arrays) (sym s) (back_on v.given v.arrays x r arrays w.long (subst (λ u. (passage h u).strays ≡ 0) s none) m i)
        | inr ne ↦
            let p = (other v ne).passage_is in
            let n : next_visit (passage g) v ≡ Some x = sym (ap (λ (q : Passage). next_of q.onward q.arrays) p) ∙ f.0 in
            let i = back rest x r arrays (fits_next g leads.graph v x fit n) f.1 later in
            record { rest = x ∷ i.rest; ends = (n, i.ends); clean = (let s = ap (λ (q : Passage). q.strays) p in let t = i.clean in omega (arith, s, t, none)) }
      ]

pub joined_runs : (g : Graph) (k : ℕ) (to : To) → LeadsOn g k to → RunsOver g (taken_in g k to)
joined_runs g k to leads scalars arrays r last more most l x =
    let s = same g k to leads x.rest (first_visit scalars arrays) r last (first_fits g leads.graph scalars arrays l) x.ends in
    record {
      rest = s.again;
      ends = s.ends;
      clean = s.strays ∙ x.clean;
      few = (let p = s.few in let q = x.few in omega (arith, p, q));
      cheap = (let p = s.cheap in let q = x.cheap in omega (arith, p, q));
    }

pub joined_back : (g : Graph) (k : ℕ) (to : To) → LeadsOn g k to → EndsBack g (taken_in g k to)
joined_back g k to leads scalars arrays r last l x = back g k to leads x.rest (first_visit scalars arrays) r last (first_fits g leads.graph scalars arrays l) x.ends x.clean
