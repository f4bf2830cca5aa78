-- Where edges into blocks that only lead on lead one further, each finished run is one with no more visits.
use Rattle.std.proofs.Common.{◌≡◌, ℕ, zero, suc, ◌<◌, ◌≤◌, ◌⊎◌, ◌==◌, ◌&&◌, not, Bool, true, false, cond, List, [], ◌∷◌, map, length, get_or, Option, Some, None, refl, sym, ◌∙◌, ap, subst, arith, inl, inr}
use Rattle.std.specs.Prelude.{nat_le}
use Rattle.std.proofs.Math.ListN as list
use Rattle.std.proofs.lemmas.Bool.{leb-true}
use Rattle.std.proofs.lemmas.Option.{get_or_from_slice_get, slice_get_within, same_Some}
use Rattle.std.proofs.lemmas.List.{get_or-map, length-map}
use Rattle.ir.specs.declared.instr.Instr.{Instr}
use Rattle.ir.specs.declared.graph.Block.{Block}
use Rattle.ir.specs.declared.graph.Jump.{Jump}
use Rattle.ir.specs.declared.graph.Jump.TheVariants.{Go, Two, Return}
use Rattle.ir.specs.declared.graph.To.{To}
use Rattle.ir.specs.Steps.{value_at, through, beginning}
use Rattle.ir.specs.Visits.{Visit, Onward, onto, leaves, Passage, next_of, next_visit, Returns, Finishes, over_visits, strays_of}
use Rattle.ir.specs.Shapes.{Shape, shape_after}
use Rattle.ir.specs.Graphs.{Graph, IsGraph, IsJump, IsTarget, shape_of, handed, side, onward_of, no_block, block_at, passage, first_visit, handed_on, block_weight, weight}
use Rattle.block_merge.specs.Renamed.{moved_to}
use Rattle.block_merge.specs.Threaded.{onward_of_parts, only_onward, further, threaded_to, threaded_jump, threaded_block, threaded_once}
use Rattle.block_merge.specs.Merged.{with_blocks}
use Rattle.block_merge.specs.Shares.{RunsOver}
use Rattle.block_merge.proofs.Backs.{EndsClean, EndsBack}
use Rattle.block_merge.proofs.JoinedValues.{handed_long, handed_below, number_of_arg, widths, somes_long}
use Rattle.block_merge.proofs.Visiting.{is_block, Fits, fits_next, first_fits, by_block}

-- ---- blocks that only lead on

pub record LeadsOnly (n : ℕ) (is : List Instr) (j : Jump) (to : To) : Type 0 where
  pub empty : is ≡ []
  pub goes : j ≡ Go to
  pub less : length to.with ≤ n

pub leads_only : (k n : ℕ) (is : List Instr) (j : Jump) (to : To) → onward_of_parts k n is j ≡ Some to → LeadsOnly n is j to
leads_only k n [] (Go t) to e = by (not (t.block == k)) (nat_le (length t.with) n) refl e
  where
    by : (b c : Bool) → nat_le (length t.with) n ≡ c → cond (b && c) (Some t) None ≡ Some to → LeadsOnly n [] (Go t) to
    by true true l e = let s : t ≡ to = same_Some t to e in record { empty = refl; goes = ap Go s; less = subst (λ (x : To). length x.with ≤ n) s (leb-true (length t.with) n l) }
    by true false l e = absurd (cc)
    by false true l e = absurd (cc)
    by false false l e = absurd (cc)
leads_only k n [] (Two c a b) to e = absurd (cc)
leads_only k n [] (Return v) to e = absurd (cc)
leads_only k n (i ∷ is) (Go t) to e = absurd (cc)
leads_only k n (i ∷ is) (Two c a b) to e = absurd (cc)
leads_only k n (i ∷ is) (Return v) to e = absurd (cc)

module _ (g : Graph) (fine : IsGraph g) where
  abbrev pub h : Graph
  h = with_blocks g (threaded_once g.blocks)

  abbrev pub Only : ℕ → To → Type 0
  Only k to = LeadsOnly (length (block_at g k).args) (block_at g k).steps (block_at g k).jump to

  pub block_is : (n : ℕ) → block_at h n ≡ threaded_block g.blocks (block_at g n)
  block_is n = list.get_or-map (threaded_block g.blocks) g.blocks n no_block

  -- what block k hands on are its arguments
  pub onward_target : (k : ℕ) (to : To) → k < length g.blocks → Only k to → IsTarget g.blocks (widths (block_at g k).args) to
  onward_target k to within only =
      let b = block_at g k in
      subst (λ is. IsTarget g.blocks (shape_after g.arrays (widths b.args) is) to) only.empty
      (subst (IsJump g (shape_of g b)) only.goes (is_block g fine k within).jump)

  target_below : (k : ℕ) (to : To) → k < length g.blocks → Only k to → (a : ℕ) → a < length to.with → get_or to.with a 0 < length (block_at g k).args
  target_below k to within only a lt =
      let b = block_at g k in
      let t = onward_target k to within only in
      let l = handed_below (widths b.args) to.with t.block.args a t.handed lt in
      let e = somes_long b.args in
      omega (arith, l, e)

  -- ---- one edge

  moved_values : (vs with xs : List ℕ) → ((a : ℕ) → a < length xs → get_or xs a 0 < length with) → map (value_at vs) (map (moved_to with 0) xs) ≡ map (value_at (map (value_at vs) with)) xs
  moved_values vs with [] below = refl
  moved_values vs with (x ∷ xs) below =
      let lt : x < length with = below 0 (omega arith) in
      let e : value_at vs (moved_to with 0 x) ≡ value_at (map (value_at vs) with) x = ap (value_at vs) (number_of_arg with 0 x lt) ∙ sym (get_or-map (value_at vs) with x 0 0 lt) in
      let i = moved_values vs with xs (λ a l. below (suc a) (omega arith)) in
      ap (λ y. y ∷ map (value_at vs) (map (moved_to with 0) xs)) e ∙ ap (λ ys. value_at (map (value_at vs) with) x ∷ ys) i

  -- an onward is as it was, or it was onto a block that only leads on and is what that block leads to
  record Past (o p : Onward) : Type 0 where
    k : ℕ
    to : To
    vs : List ℕ
    only : Only k to
    was : o ≡ onto k vs
    is : p ≡ handed vs to

  abbrev Led : Onward → Onward → Type 0
  Led o p = (p ≡ o) ⊎ Past o p

  -- an edge hands on as many values as its target has arguments
  pub edge_long : (ws : Shape) (t : To) → IsTarget g.blocks ws t → length t.with ≡ length (block_at g t.block).args
  edge_long ws t is =
      let x : block_at g t.block ≡ is.block = get_or_from_slice_get g.blocks t.block is.block no_block is.exists in
      handed_long ws t.with is.block.args is.handed ∙ ap (λ (y : Block). length y.args) (sym x)

  pub edge_within : (ws : Shape) (t : To) → IsTarget g.blocks ws t → t.block < length g.blocks
  edge_within ws t is = slice_get_within g.blocks t.block is.block is.exists

  pub only_is : (k : ℕ) (to : To) → only_onward g.blocks k ≡ Some to → Only k to
  only_is k to e = leads_only k (length (block_at g k).args) (block_at g k).steps (block_at g k).jump to e

  led_to : (ws : Shape) (t : To) (vs : List ℕ) → IsTarget g.blocks ws t → Led (handed vs t) (handed vs (threaded_to g.blocks t))
  led_to ws t vs is = by (only_onward g.blocks t.block) refl
    where
      by : (o : Option To) → only_onward g.blocks t.block ≡ o → Led (handed vs t) (handed vs (further t o))
      by None e = inl refl
      by (Some to) e =
          let only = only_is t.block to e in
          let below = target_below t.block to (edge_within ws t is) only in
          let l = edge_long ws t is in
          inr (record {
            k = t.block;
            to = to;
            vs = map (value_at vs) t.with;
            only = only;
            was = refl;
            is = ap (onto to.block) (moved_values vs t.with to.with (λ a lt. let q = below a lt in omega (arith, q, l)));
          })

  led_jump : (ws : Shape) (j : Jump) (vs : List ℕ) → IsJump g ws j → Led (onward_of j vs) (onward_of (threaded_jump g.blocks j) vs)
  led_jump ws (Go t) vs is = led_to ws t vs is
  led_jump ws (Two c x y) vs is = by (value_at vs c)
    where
      by : (n : ℕ) → Led (side n (handed vs x) (handed vs y)) (side n (handed vs (threaded_to g.blocks x)) (handed vs (threaded_to g.blocks y)))
      by zero = led_to ws y vs is.2
      by (suc n) = led_to ws x vs is.1
  led_jump ws (Return v) vs is = inl refl

  lighter_to : (ws : Shape) (t : To) → IsTarget g.blocks ws t → length (threaded_to g.blocks t).with ≤ length t.with
  lighter_to ws t is = by (only_onward g.blocks t.block) refl
    where
      by : (o : Option To) → only_onward g.blocks t.block ≡ o → length (further t o).with ≤ length t.with
      by None e = omega arith
      by (Some to) e =
          let m = (only_is t.block to e).less in
          let l = edge_long ws t is in
          let s = length-map to.with (moved_to t.with 0) in
          omega (arith, l, m, s)

  pub lighter : (ws : Shape) (j : Jump) → IsJump g ws j → handed_on (threaded_jump g.blocks j) ≤ handed_on j
  lighter ws (Go t) is = lighter_to ws t is
  lighter ws (Two c x y) is = let p = lighter_to ws x is.1 in let q = lighter_to ws y is.2 in omega (arith, p, q)
  lighter ws (Return v) is = omega arith

  -- ---- one visit

  record Alike (v : Visit) : Type 0 where
    led : Led (passage g v).onward (passage h v).onward
    arrays : (passage h v).arrays ≡ (passage g v).arrays
    strays : (passage h v).strays ≡ (passage g v).strays
    light : weight h v ≤ weight g v

  alike : (v : Visit) → Fits g fine v → Alike v
  alike v fit =
      let x = block_at g v.block in
      let p : passage h v ≡ by_block (threaded_block g.blocks x) v.given v.arrays = ap (λ y. by_block y v.given v.arrays) (block_is v.block) in
      let is = is_block g fine v.block fit.within in
      record {
        led = subst (λ o. Led (passage g v).onward o) (sym (ap (λ (q : Passage). q.onward) p)) (led_jump (shape_of g x) x.jump (passage g v).values is.jump);
        arrays = ap (λ (q : Passage). q.arrays) p;
        strays = ap (λ (q : Passage). q.strays) p;
        light = (let l = lighter (shape_of g x) x.jump is.jump in let w : weight h v ≡ block_weight (threaded_block g.blocks x) = ap block_weight (block_is v.block) in omega (arith, l, w));
      }

  record Same (v : Visit) (rest : List Visit) (r : Option ℕ) (arrays : List (List ℕ)) : Type 0 where
    again : List Visit
    ends : Finishes (passage h) v again r arrays
    strays : strays_of (passage h) (v ∷ again) ≡ strays_of (passage g) (v ∷ rest)
    few : length again ≤ length rest
    cheap : over_visits (weight h) (v ∷ again) ≤ over_visits (weight g) (v ∷ rest)

  -- a block that only leads on does nothing else
  passes : (k : ℕ) (to : To) (vs : List ℕ) (xs : List (List ℕ)) → Only k to
      → passage g (record { block = k; given = vs; arrays = xs }) ≡ record { values = vs; arrays = xs; strays = 0; onward = handed vs to }
  passes k to vs xs only =
      let b = block_at g k in
      ap (λ is. let w = through is (beginning vs xs) in record { values = w.values; arrays = w.arrays; strays = w.strays; onward = onward_of b.jump w.values }) only.empty
      ∙ ap (λ j. record { values = vs; arrays = xs; strays = 0; onward = onward_of j vs }) only.goes

  same_last : (v : Visit) (r : Option ℕ) (arrays : List (List ℕ)) → Alike v → Returns (passage g) v r arrays → Same v [] r arrays
  same_last v r arrays a f = record {
    again = [];
    ends = record { result = by a.led; last_arrays = a.arrays ∙ f.last_arrays };
    strays = (let s = a.strays in omega (arith, s));
    few = omega arith;
    cheap = (let w = a.light in omega (arith, w));
  }
    where
      by : Led (passage g v).onward (passage h v).onward → (passage h v).onward ≡ leaves r
      by (inl e) = e ∙ f.result
      by (inr p) = let y : leaves r ≡ onto p.k p.vs = sym f.result ∙ p.was in absurd (cc)

  same_on : (v w : Visit) (rest : List Visit) (r : Option ℕ) (arrays : List (List ℕ)) → Alike v → (passage h v).onward ≡ (passage g v).onward → next_visit (passage g) v ≡ Some w → Same w rest r arrays → Same v (w ∷ rest) r arrays
  same_on v w rest r arrays a o e s = record {
    again = w ∷ s.again;
    ends = (ap (λ q. next_of q (passage h v).arrays) o ∙ (ap (next_of (passage g v).onward) a.arrays ∙ e), s.ends);
    strays = (let p = a.strays in let t = s.strays in omega (arith, p, t));
    few = (let l = s.few in omega (arith, l));
    cheap = (let p = a.light in let t = s.cheap in omega (arith, p, t));
  }

  -- the visit of the block that only leads on
  visit_of : (v w : Visit) (p : Past (passage g v).onward (passage h v).onward) → next_visit (passage g) v ≡ Some w
      → passage g w ≡ record { values = p.vs; arrays = (passage g v).arrays; strays = 0; onward = handed p.vs p.to }
  visit_of v w p e =
      let ys = (passage g v).arrays in
      let n : next_of (onto p.k p.vs) ys ≡ Some w = ap (λ q. next_of q ys) (sym p.was) ∙ e in
      let z : ◌≡◌ {A = Visit} (record { block = p.k; given = p.vs; arrays = ys }) w = cc in
      ap (passage g) (sym z) ∙ passes p.k p.to p.vs ys p.only

  -- is left out
  same_past : (v w x : Visit) (rest : List Visit) (r : Option ℕ) (arrays : List (List ℕ)) → Alike v → (p : Past (passage g v).onward (passage h v).onward) → next_visit (passage g) v ≡ Some w
      → next_visit (passage g) w ≡ Some x → Same x rest r arrays → Same v (w ∷ x ∷ rest) r arrays
  same_past v w x rest r arrays a p e f s =
      let m = visit_of v w p e in
      let on : next_of (handed p.vs p.to) (passage g v).arrays ≡ Some x = ap (λ (q : Passage). next_of q.onward q.arrays) (sym m) ∙ f in
      let none : (passage g w).strays ≡ 0 = ap (λ (q : Passage). q.strays) m in
      record {
        again = x ∷ s.again;
        ends = (ap (λ q. next_of q (passage h v).arrays) p.is ∙ (ap (next_of (handed p.vs p.to)) a.arrays ∙ on), s.ends);
        strays = (let i = a.strays in let t = s.strays in omega (arith, i, t, none));
        few = (let l = s.few in omega (arith, l));
        cheap = (let i = a.light in let t = s.cheap in omega (arith, i, t));
      }

  -- and does not return
  goes_on : (v w : Visit) (r : Option ℕ) (arrays : List (List ℕ)) → (p : Past (passage g v).onward (passage h v).onward) → next_visit (passage g) v ≡ Some w → Returns (passage g) w r arrays → ⊥
  goes_on v w r arrays p e f =
      let m = visit_of v w p e in
      let y : leaves r ≡ onto p.to.block (map (value_at p.vs) p.to.with) = sym f.result ∙ ap (λ (q : Passage). q.onward) m in cc

  same : (rest : List Visit) (v : Visit) (r : Option ℕ) (arrays : List (List ℕ)) → Fits g fine v → Finishes (passage g) v rest r arrays → Same v rest r arrays
  same [] v r arrays fit f = same_last v r arrays (alike v fit) f
  same (w ∷ []) v r arrays fit f =
      let a = alike v fit in
      elim a.led [
        | inl o ↦ same_on v w [] r arrays a o f.0 (same [] w r arrays (fits_next g fine v w fit f.0) f.1)
        | inr p ↦ absurd (goes_on v w r arrays p f.0 f.1)
      ]
  same (w ∷ x ∷ rest) v r arrays fit f =
      let a = alike v fit in
      let fw = fits_next g fine v w fit f.0 in
      let fx = fits_next g fine w x fw f.1.0 in
      elim a.led [
        | inl o ↦ same_on v w (x ∷ rest) r arrays a o f.0 (same (x ∷ rest) w r arrays fw f.1)
        | inr p ↦ same_past v w x rest r arrays a p f.0 f.1.0 (same rest x r arrays fx f.1.1)
      ]

  -- ---- and back

  back : (rest : List Visit) (v : Visit) (r : Option ℕ) (arrays : List (List ℕ)) → Fits g fine v → Finishes (passage h) v rest r arrays → strays_of (passage h) (v ∷ rest) ≡ 0 → EndsClean g v r arrays
  back [] v r arrays fit f z =
      let a = alike v fit in
      elim a.led [
        | inl o ↦ record { rest = []; ends = record { result = sym o ∙ f.result; last_arrays = sym a.arrays ∙ f.last_arrays }; clean = (let s = a.strays in omega (arith, s, z)) }
        | inr p ↦ absurd (let y : leaves r ≡ onto p.to.block (map (value_at p.vs) p.to.with) = sym f.result ∙ p.is in cc)
      ]
  back (w ∷ rest) v r arrays fit f z =
      let a = alike v fit in
      let later : strays_of (passage h) (w ∷ rest) ≡ 0 = omega (arith, z) in
      elim a.led [
        | inl o ↦
            let n : next_visit (passage g) v ≡ Some w = sym (ap (λ q. next_of q (passage h v).arrays) o ∙ ap (next_of (passage g v).onward) a.arrays) ∙ f.0 in
            let i = back rest w r arrays (fits_next g fine v w fit n) f.1 later in
            record { rest = w ∷ i.rest; ends = (n, i.ends); clean = (let s = a.strays in let t = i.clean in omega (arith, s, t, z)) }
        | inr p ↦
            let ys = (passage g v).arrays in
            let u : Visit = record { block = p.k; given = p.vs; arrays = ys } in
            let n : next_visit (passage g) v ≡ Some u = ap (λ q. next_of q ys) p.was in
            let m = passes p.k p.to p.vs ys p.only in
            let on : next_visit (passage g) u ≡ Some w = ap (λ (q : Passage). next_of q.onward q.arrays) m
            ∙ (sym (ap (λ q. next_of q (passage h v).arrays) p.is ∙ ap (next_of (handed p.vs p.to)) a.arrays) ∙ f.0) in
            let i = back rest w r arrays (fits_next g fine u w (fits_next g fine v u fit n) on) f.1 later in
            record {
              rest = u ∷ w ∷ i.rest;
              ends = (n, (on, i.ends));
              clean = (let s = a.strays in let t = i.clean in let none : (passage g u).strays ≡ 0 = ap (λ (q : Passage). q.strays) m in omega (arith, s, t, z, none));
            }
      ]

pub threaded_runs : (g : Graph) → IsGraph g → RunsOver g (with_blocks g (threaded_once g.blocks))
threaded_runs g fine scalars arrays r last more most l x =
    let s = same g fine x.rest (first_visit scalars arrays) r last (first_fits g fine scalars arrays l) x.ends in
    record {
      rest = s.again;
      ends = s.ends;
      clean = s.strays ∙ x.clean;
      few = (let p = s.few in let q = x.few in omega (arith, p, q));
      cheap = (let p = s.cheap in let q = x.cheap in omega (arith, p, q));
    }

pub threaded_back : (g : Graph) → IsGraph g → EndsBack g (with_blocks g (threaded_once g.blocks))
threaded_back g fine scalars arrays r last l x = back g fine x.rest (first_visit scalars arrays) r last (first_fits g fine scalars arrays l) x.ends x.clean
