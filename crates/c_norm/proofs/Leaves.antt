-- Statements without parts: what is set for their expressions runs first, and then one statement that ends as the kernel's does.
use Rattle.std.proofs.Common.{◌≡◌, ℕ, zero, suc, ◌+◌, ◌*◌, ◌<◌, ◌≤◌, List, [], ◌∷◌, ◌++◌, length, get_or, Option, Some, None, refl, sym, ◌∙◌, ap, subst, arith}
use Rattle.std.specs.Prelude.{ℤ, set}
use Rattle.el_base.specs.declared.span.Span.{Span}
use Rattle.el_base.specs.declared.ty.Ty.{Ty}
use Rattle.el_base.proofs.PatternLemmas.{pattern-number, pattern-lt}
use Rattle.el_base.specs.Numbers.{pattern, number}
use Rattle.c_ast.specs.declared.typed.Object.{Object}
use Rattle.c_meaning.specs.Types.{conv}
use Rattle.c_meaning.specs.Stores.{Store, Objects, IsFitting, read_element}
use Rattle.c_meaning.specs.Expressions.{Val, undefined_value, value, Vals, undefined_values, values, Meaning, all_values}
use Rattle.c_meaning.specs.Profiles.{IsDefined}
use Rattle.c_meaning.specs.Runs.{How, normally, undefined, Ended, Run, ends, turn, with_val, with_value}
use Rattle.c_meaning.specs.Statements.{Place, of_var, of_element, Placed, no_place, placed, placed_after, place_by, object_place, MeantTarget, read_place, write_place, storing, stored, assigned_to, assigned, object_type}
use Rattle.c_meaning.specs.Counts.{Counted, run_of, counts_in_order, acts_of, only, tally}
use Rattle.c_meaning.specs.Statements.{in_order}
use Rattle.c_meaning.proofs.StoreParts.{below_same}
use Rattle.c_meaning.proofs.RunParts.{had, taken}
use Rattle.c_norm.proofs.Takes.{Takes, TakesAll, takes_one, takes_append}
use Rattle.c_norm.proofs.Stores.{Matches, set_matches, matches_below}
use Rattle.c_norm.proofs.Expands.{Expands, Has}
use Rattle.c_norm.proofs.Rows.{ExpandsAll, HasAll}
use Rattle.c_norm.proofs.Imitates.{Imitates, Sim}

-- a number that was converted is its own conversion
pub conv_twice : (t : Ty) (z : ℤ) → conv t (conv t z) ≡ conv t z
conv_twice t z = ap (number t) (pattern-number t (pattern t z) (pattern-lt t z))

module _ (k : Objects) (all price : ℕ) (le : length k.vars ≤ all) where
  -- the same is written to both stores
  pub write_matches : (p : Place) (z : ℤ) (s t : Store) → Matches k all s t → IsFitting k (write_place p z s) → Matches k all (write_place p z s) (write_place p z t)
  write_matches (of_var v) z s t h fits = set_matches k all s t v (Some z) le h fits
  write_matches (of_element a i) z s t h fits = record { vars = h.vars; arrays = ap (λ zs. set zs a (set (get_or zs a []) i z)) h.arrays; fits = fits; long = h.long }

  read_matches : (p : Place) (s t : Store) (z : ℤ) → (read_place s p ≡ Some z) → ((v : ℕ) → p ≡ of_var v → v < length k.vars) → Matches k all s t → read_place t p ≡ Some z
  read_matches (of_var v) s t z e own h = sym (h.vars v (own v refl)) ∙ e
  read_matches (of_element a i) s t z e own h = ap (λ zs. read_element (record { vars = t.vars; arrays = zs }) a i) (sym h.arrays) ∙ e

  -- what is set first, in so many jumps for u turns, and then one statement of at most one jump
  pub settled : (e : Ended) (m u w : ℕ) (parts : List Counted) (x : Counted) (t last end : Store) (turns jumps cost n j p most : ℕ) → m ≡ suc (u + e.left) → TakesAll parts t normally last turns jumps cost → jumps ≤ 2 * u → cost ≤ most → Takes (run_of x) x.counts last e.how end n j p → j ≤ 1 → most + p ≤ price → Matches k all e.store end
      → Imitates k all price le 0 1 e m (λ i. in_order (acts_of (parts ++ x ∷ []))) (λ i. counts_in_order (parts ++ x ∷ [])) t
  settled e m u w parts x t last end turns jumps cost n j p most sum takes few cheap final one total near = record {
    least = 0;
    last = end;
    turns = turns + n;
    jumps = jumps + j;
    cost = cost + p;
    within = omega arith;
    takes = λ i. takes_append parts (x ∷ []) t last end e.how turns n jumps j cost p takes (takes_one x last end e.how n j p final);
    same = near;
    few = omega arith;
    cheap =
        let a : price * m ≡ price + price * u + price * e.left = ap (λ z. price * z) sum ∙ omega arith in
        omega arith;
  }

  -- one value, and what is made of it
  module _ (h : ℤ → How) (st : ℤ → Store → Store) where
    abbrev ending : ℤ → Run
    ending z s n = ends (h z) (st z s) n

    value_leaf_at : (f g most j p : ℕ) (m left : Meaning) (parts : List Counted) (x : Counted) → Expands k all f g m parts left most → j ≤ 1 → most + p ≤ price
        → ((r : Store) (z : ℤ) (w : ℕ) → left r ≡ value z w → Takes (run_of x) x.counts r (h z) (st z r) (1 + w) j p)
        → ((s r : Store) (z : ℤ) → Matches k all s r → IsFitting k (st z s) → Matches k all (st z s) (st z r))
        → (v : Val) (s t : Store) (n : ℕ) → m s ≡ v → Matches k all s t → (let e = with_val v ending s n in IsDefined e.how → IsFitting k e.store → Imitates k all price le 0 1 e (suc n) (λ i. in_order (acts_of (parts ++ x ∷ []))) (λ i. counts_in_order (parts ++ x ∷ [])) t)
    value_leaf_at f g most j p m left parts x ex one total final near (undefined_value at) s t n is same end fits = absurd end
    value_leaf_at f g most j p m left parts x ex one total final near (value z u) s t n is same end fits =
        let o = had u (ending z) s n end in
        let d = ex.does s t z u same is in
        let y = d.stays d.last (below_same g d.last) in
        let e = ending z s o.rest in
        let fit = subst (λ (w : Ended). IsFitting k w.store) o.is fits in
        let made = settled e (suc n) u 0 parts x t d.last (st z d.last) d.turns d.jumps d.price (1 + y.turns) j p most (ap suc o.sum) d.takes d.few d.cheap (final d.last z y.turns y.is) one total (near s d.last z (matches_below k all f s t d.last ex.own same d.kept) fit) in
        subst (λ (w : Ended). Imitates k all price le 0 1 w (suc n) (λ i. in_order (acts_of (parts ++ x ∷ []))) (λ i. counts_in_order (parts ++ x ∷ [])) t) (sym o.is) made

    pub value_leaf : (f g most j p : ℕ) (m left : Meaning) (parts : List Counted) (x : Counted) → Expands k all f g m parts left most → j ≤ 1 → most + p ≤ price
        → ((r : Store) (z : ℤ) (w : ℕ) → left r ≡ value z w → Takes (run_of x) x.counts r (h z) (st z r) (1 + w) j p)
        → ((s r : Store) (z : ℤ) → Matches k all s r → IsFitting k (st z s) → Matches k all (st z s) (st z r))
        → ((s : Store) (n : ℕ) → IsFitting k s → IsFitting k (turn (with_value m ending) s n).store)
        → Sim k all price le 1 (turn (with_value m ending)) (in_order (acts_of (parts ++ x ∷ []))) (counts_in_order (parts ++ x ∷ []))
    value_leaf f g most j p m left parts x ex one total final near fits s t zero same end = absurd end
    value_leaf f g most j p m left parts x ex one total final near fits s t (suc n) same end = value_leaf_at f g most j p m left parts x ex one total final near (m s) s t n refl same end (fits s (suc n) same.fits)

  -- ---- assignments

  -- A value is written to the place of a target, after the turns of both. V is the value, where the place is known.
  module _ (t : Ty) (to : Object) (at : Span) (ms : List Meaning) (m : Meaning) (V : Place → Store → Val) (Link : Store → Place → ℤ → ℤ → Type 0) where
    abbrev pub written : Placed → Run
    written (no_place q) s n = ends (undefined q) s n
    written (placed p u) s n = stored t p u (V p s) s n

    -- what a value stands for: the value of the right side, and what is made of it
    pub record Linked (s : Store) (p : Place) (z : ℤ) (w : ℕ) : Type 0 where
      pub y : ℤ
      pub right : m s ≡ value y w
      pub link : Link s p y z

    -- the last statement writes what the kernel writes
    pub record Final (x : Counted) (r : Store) (p : Place) (z : ℤ) (cost : ℕ) : Type 0 where
      pub turns : ℕ
      pub takes : Takes (run_of x) x.counts r normally (write_place p (conv t z) r) turns 0 cost

    module _ (f g h pi pe px : ℕ) (lefts : List Meaning) (left : Meaning) (xs ys : List Counted) (x : Counted) (ei : ExpandsAll k all f g ms xs lefts pi) (ee : Expands k all g h m ys left pe) (total : pi + pe + px ≤ price)
        (open_it : (s : Store) (p : Place) (z : ℤ) (w : ℕ) → V p s ≡ value z w → Linked s p z w)
        (final : (s r : Store) (is : List ℤ) (p : Place) (y z : ℤ) → Matches k all s r → HasAll lefts r is → object_place k.arrays to is ≡ Some p → Has left r y → Link s p y z → Final x r p z px) where
      abbrev Result : Ended → ℕ → Store → Type 0
      Result e n r = Imitates k all price le 0 1 e (suc n) (λ i. in_order (acts_of (xs ++ ys ++ x ∷ []))) (λ i. counts_in_order (xs ++ ys ++ x ∷ [])) r

      stored_at : (s r : Store) (n : ℕ) (is : List ℤ) (u : ℕ) (p : Place) (v : Val) → all_values ms s ≡ values is u → object_place k.arrays to is ≡ Some p → V p s ≡ v → Matches k all s r → IsDefined (stored t p u v s n).how → IsFitting k (stored t p u v s n).store → Result (stored t p u v s n) n r
      stored_at s r n is u p (undefined_value q) ia ip iv same end fits = absurd end
      stored_at s r n is u p (value z w) ia ip iv same end fits =
          let o = had (u + w) (storing t p z) s n end in
          let fit = subst (λ (e : Ended). IsFitting k e.store) o.is fits in
          let k3 = open_it s p z w iv in
          let di = ei.does s r is u same ia in
          let near = matches_below k all f s r di.last ei.own same di.kept in
          let de = ee.does s di.last k3.y w near k3.right in
          let near2 = matches_below k all g s di.last de.last ee.own near de.kept in
          let va = di.stays de.last de.kept in
          let ve = de.stays de.last (below_same h de.last) in
          let last = final s de.last is p k3.y z near2 va ip ve k3.link in
          let e = storing t p z s o.rest in
          let made = settled e (suc n) (u + w) 0 (xs ++ ys) x r de.last (write_place p (conv t z) de.last) (di.turns + de.turns) (di.jumps + de.jumps) (di.price + de.price) last.turns 0 px (pi + pe) (ap suc o.sum)
          (takes_append xs ys r di.last de.last normally di.turns de.turns di.jumps de.jumps di.price de.price di.takes de.takes) (let a = di.few in let b = de.few in omega arith) (let a = di.cheap in let b = de.cheap in omega arith) last.takes (omega arith) total (write_matches p (conv t z) s de.last near2 fit) in
          subst (λ (w : Ended). Imitates k all price le 0 1 w (suc n) (λ i. in_order (acts_of (xs ++ ys ++ x ∷ []))) (λ i. counts_in_order (xs ++ ys ++ x ∷ [])) r) (sym o.is) made

      placed_at : (s r : Store) (n : ℕ) (is : List ℤ) (u : ℕ) (q : Option Place) → all_values ms s ≡ values is u → object_place k.arrays to is ≡ q → Matches k all s r → IsDefined (written (placed_after at u q) s n).how → IsFitting k (written (placed_after at u q) s n).store → Result (written (placed_after at u q) s n) n r
      placed_at s r n is u None ia ip same end fits = absurd end
      placed_at s r n is u (Some p) ia ip same end fits = stored_at s r n is u p (V p s) ia ip refl same end fits

      values_at : (s r : Store) (n : ℕ) (vs : Vals) → all_values ms s ≡ vs → Matches k all s r → IsDefined (written (place_by k.arrays to at vs) s n).how → IsFitting k (written (place_by k.arrays to at vs) s n).store → Result (written (place_by k.arrays to at vs) s n) n r
      values_at s r n (undefined_values q) ia same end fits = absurd end
      values_at s r n (values is u) ia same end fits = placed_at s r n is u (object_place k.arrays to is) ia refl same end fits

      pub assign_leaf : ((s : Store) (n : ℕ) → IsFitting k s → IsFitting k (turn (λ s n. written (place_by k.arrays to at (all_values ms s)) s n) s n).store)
          → Sim k all price le 1 (turn (λ s n. written (place_by k.arrays to at (all_values ms s)) s n)) (in_order (acts_of (xs ++ ys ++ x ∷ []))) (counts_in_order (xs ++ ys ++ x ∷ []))
      assign_leaf fits s r zero same end = absurd end
      assign_leaf fits s r (suc n) same end = values_at s r n (all_values ms s) refl same end (fits s (suc n) same.fits)

-- ---- the last statement

-- an assignment in a store where its parts have values
pub assigned_takes : (k : Objects) (target : MeantTarget) (m : Meaning) (r : Store) (is : List ℤ) (u : ℕ) (p : Place) (y : ℤ) (w q : ℕ) → all_values target.indices r ≡ values is u → object_place k.arrays target.to is ≡ Some p → m r ≡ value y w
    → Takes (assigned k target m) (only (tally 0 q)) r normally (write_place p (conv (object_type k target.to) y) r) (u + w) 0 q
assigned_takes k target m r is u p y w q ia ip iv = record {
  runs = λ l.
      let t = object_type k target.to in
      ap (λ vs. assigned_to t (place_by k.arrays target.to target.at vs) m r (u + w + l)) ia ∙ ap (λ o. assigned_to t (placed_after target.at u o) m r (u + w + l)) ip
      ∙ ap (λ v. stored t p u v r (u + w + l)) iv ∙ taken (u + w) (storing t p y) r l;
  counted = λ l. refl;
}
