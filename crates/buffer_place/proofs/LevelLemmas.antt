-- Levels of units as they are found in a topological order: each is the greatest that the units of its row give.
use Rattle.std.proofs.Common.{◌≡◌, ◌⊎◌, inl, inr, ℕ, zero, suc, ◌+◌, ◌<◌, ◌≤◌, ◌&&◌, Bool, true, false, cond, ◌==◌, List, [], ◌∷◌, length, get_or, set, refl, sym, ap, subst, ◌∙◌, arith, length-set, get_or-set_same, get_or-set_other}
use Rattle.std.specs.Prelude.{nat_lt, nat_le, slice_get, replicate, Some}
use Rattle.std.proofs.lemmas.Bool.{cases_lt, ltb-true, ltb-false, leb-true, leb-false, eq-eqb, eqb-true, eqb-false}
use Rattle.std.proofs.lemmas.List.{length-replicate}
use Rattle.std.proofs.lemmas.Option.{slice_get-get_or, slice_get_past}
use Rattle.net_types.specs.declared.net.Net.{Net}
use Rattle.net_types.specs.Nets.{kind_of}
use Rattle.graph_parts.specs.Graph.{In, InRow}
use Rattle.graph_parts.specs.Topological.{IsOrdered, IsTopological}
use Rattle.buffer_place.specs.declared.timing.Timing.{Timing}
use Rattle.buffer_place.specs.Chains.{weight}
use Rattle.buffer_place.specs.Cuts.{raised_by, raised, level_of, levels_by, level_at, AreUnitLevels}

-- ---- one unit before

-- the level stays, where the other is not greater or above the depth; or it becomes the other
abbrev Outcome : ℕ → ℕ → ℕ → ℕ → Type 0
Outcome depth level reached n = ((n ≡ level) × (reached ≤ depth → reached ≤ level)) ⊎ ((n ≡ reached) × (reached ≤ depth) × (level < reached))

outcome : (depth weight level before : ℕ) → Outcome depth level (before + weight) (raised_by depth weight level (Some before))
outcome depth weight level before = by (nat_le (before + weight) depth) (nat_lt level (before + weight)) refl refl
  where
    by : (a b : Bool) → nat_le (before + weight) depth ≡ a → nat_lt level (before + weight) ≡ b → Outcome depth level (before + weight) (cond (a && b) (before + weight) level)
    by true true e f = inr (refl, leb-true _ _ e, ltb-true _ _ f)
    by true false e f = inl (refl, λ _. ltb-false _ _ f)
    by false b e f = inl (refl, λ l. (let m = leb-false _ _ e in absurd (omega arith)))

-- ---- all units of a row

module _ (depth weight : ℕ) (levels : List ℕ) where
  abbrev step : ℕ → ℕ → ℕ
  step level v = raised_by depth weight level (slice_get levels v)

  abbrev reached : ℕ → ℕ
  reached v = level_at levels v + weight

  step_within : (level v : ℕ) → v < length levels → Outcome depth level (reached v) (step level v)
  step_within level v l =
      subst (λ o. Outcome depth level (reached v) (raised_by depth weight level o)) (sym (slice_get-get_or levels v 0 l)) (outcome depth weight level (level_at levels v))

  step_past : (level v : ℕ) → length levels ≤ v → step level v ≡ level
  step_past level v l = ap (raised_by depth weight level) (slice_get_past levels v l)

  step_more : (level v : ℕ) → level ≤ step level v
  step_more level v = elim (cases_lt v (length levels)) [
    | inl l ↦ elim (step_within level v l) [ inl o ↦ (let e = o.0 in omega arith) | inr o ↦ (let e = o.0 in let m = o.2 in omega arith) ]
    | inr l ↦ (let e = step_past level v l in omega arith)
  ]

  step_over : (level v : ℕ) → v < length levels → reached v ≤ depth → reached v ≤ step level v
  step_over level v l few = elim (step_within level v l) [ inl o ↦ (let e = o.0 in let m = o.1 few in omega arith) | inr o ↦ (let e = o.0 in omega arith) ]

  more : (vs : List ℕ) (level : ℕ) → level ≤ raised depth weight levels vs level
  more [] level = omega arith
  more (v ∷ vs) level = let a = step_more level v in let b = more vs (step level v) in omega arith

  over : (vs : List ℕ) (level i : ℕ) → i < length vs → get_or vs i 0 < length levels → reached (get_or vs i 0) ≤ depth → reached (get_or vs i 0) ≤ raised depth weight levels vs level
  over [] level i l within few = absurd (omega arith)
  over (v ∷ vs) level zero l within few = let a = step_over level v within few in let b = more vs (step level v) in omega arith
  over (v ∷ vs) level (suc i) l within few = over vs (step level v) i (omega arith) within few

  -- the level n is reached over a unit of the row
  record Taken (vs : List ℕ) (n : ℕ) : Type 0 where
    pub place : ℕ
    pub within : place < length vs
    pub known : get_or vs place 0 < length levels
    pub few : reached (get_or vs place 0) ≤ depth
    pub is : n ≡ reached (get_or vs place 0)

  least : (vs : List ℕ) (level : ℕ) → (raised depth weight levels vs level ≡ level) ⊎ Taken vs (raised depth weight levels vs level)
  least [] level = inl refl
  least (v ∷ vs) level = elim (least vs (step level v)) [
    | inl e ↦ elim (cases_lt v (length levels)) [
      | inl l ↦ elim (step_within level v l) [
        | inl o ↦ inl (e ∙ o.0)
        | inr o ↦ inr (record { place = 0; within = omega arith; known = l; few = o.1; is = e ∙ o.0 })
      ]
      | inr l ↦ inl (e ∙ step_past level v l)
    ]
    | inr t ↦ inr (record { place = suc t.place; within = (let l = t.within in omega arith); known = t.known; few = t.few; is = t.is })
  ]

-- ---- all units

-- the level of the unit u comes over a unit of its row
pub record RowGives (depth : ℕ) (net : Net) (row levels : List ℕ) (u : ℕ) : Type 0 where
  pub source : ℕ
  pub named : In row source
  pub few : level_at levels source + weight (kind_of net u) ≤ depth
  pub is : level_at levels u ≡ level_at levels source + weight (kind_of net u)

-- the level of the unit u is the greatest that the units of its row give, up to the depth
pub record IsRowLevel (depth : ℕ) (net : Net) (row levels : List ℕ) (u : ℕ) : Type 0 where
  pub own : weight (kind_of net u) ≤ level_at levels u
  pub over : (v : ℕ) → In row v → level_at levels v + weight (kind_of net u) ≤ depth → level_at levels v + weight (kind_of net u) ≤ level_at levels u
  pub least : (level_at levels u ≡ weight (kind_of net u)) ⊎ RowGives depth net row levels u

pub record AreRowLevels (depth : ℕ) (net : Net) (rows : List (List ℕ)) (levels : List ℕ) : Type 0 where
  pub size : length levels ≡ length rows
  pub each : (u : ℕ) → u < length levels → IsRowLevel depth net (get_or rows u []) levels u

module _ (depth : ℕ) (net : Net) where
  -- the level of a unit that is in no row and no other does not change a level
  kept : (row levels : List ℕ) (u n x : ℕ) → (x ≡ u → ⊥) → ((v : ℕ) → In row v → v ≡ u → ⊥) → IsRowLevel depth net row levels x → IsRowLevel depth net row (set levels u n) x
  kept row levels u n x other apart h = record {
    own = omega (arith, here, h.own);
    over = λ v i few. (let s = same v i in omega (arith, here, h.over v i (omega arith)));
    least = elim h.least [
      | inl e ↦ inl (here ∙ e)
      | inr g ↦ inr (
          let s = same g.source g.named in
          record { source = g.source; named = g.named; few = omega (arith, g.few); is = omega (arith, here, g.is) })
    ];
  }
    where
      here : level_at (set levels u n) x ≡ level_at levels x
      here = get_or-set_other levels u x n 0 other

      same : (v : ℕ) → In row v → level_at (set levels u n) v ≡ level_at levels v
      same v i = get_or-set_other levels u v n 0 (apart v i)

  fresh : (row levels : List ℕ) (u : ℕ) → u < length levels → ((v : ℕ) → In row v → v < length levels) → ((v : ℕ) → In row v → v ≡ u → ⊥) → IsRowLevel depth net row (set levels u (level_of depth net levels u row)) u
  fresh row levels u l known apart = record {
    own = omega (arith, here, more depth w levels row w);
    over = λ v i few. (
        let s = same v i in
        let P : ℕ → Type 0 = λ x. (x < length levels) × (level_at levels x + w ≤ depth) → level_at levels x + w ≤ level_of depth net levels u row in
        let o = subst P i.2 (λ h. over depth w levels row w i.0 i.1 h.0 h.1) (known v i, omega arith) in
        omega (arith, here));
    least = elim (least depth w levels row w) [
      | inl e ↦ inl (here ∙ e)
      | inr t ↦ inr (
          let x = get_or row t.place 0 in
          let s = same x (t.place, t.within, refl) in
          record { source = x; named = (t.place, t.within, refl); few = omega (arith, s, t.few); is = omega (arith, s, here, t.is) })
    ];
  }
    where
      w : ℕ
      w = weight (kind_of net u)

      here : level_at (set levels u (level_of depth net levels u row)) u ≡ level_of depth net levels u row
      here = get_or-set_same levels u (level_of depth net levels u row) 0 l

      same : (v : ℕ) → In row v → level_at (set levels u (level_of depth net levels u row)) v ≡ level_at levels v
      same v i = get_or-set_other levels u v (level_of depth net levels u row) 0 (apart v i)

module _ (depth : ℕ) (net : Net) (rows : List (List ℕ)) (order : List ℕ) (o : IsOrdered rows order) where
  -- a unit of the row of a unit stands at no later place
  before : (i d v : ℕ) → i ≤ d → d < length order → InRow rows (get_or order i 0) v → v ≡ get_or order d 0 → ⊥
  before i d v l m r e = let b = o.before i v (omega arith) r in let z = b.1 in o.once b.0 d (omega arith) m (b.2 ∙ e)

  IsLevelled : List ℕ → ℕ → Type 0
  IsLevelled levels d = (i : ℕ) → i < d → IsRowLevel depth net (get_or rows (get_or order i 0) []) levels (get_or order i 0)

  step_levelled : (levels : List ℕ) (d u : ℕ) → length levels ≡ length rows → ((a b : ℕ) → InRow rows a b → b < length rows) → d < length order → get_or order d 0 ≡ u
      → IsLevelled levels d → IsLevelled (set levels u (level_of depth net levels u (get_or rows u []))) (d + 1)
  unfolding IsLevelled
  step_levelled levels d u n named l e h i m = elim (cases_lt i d) [
    | inl a ↦ kept depth net (get_or rows (get_or order i 0) []) levels u (level_of depth net levels u (get_or rows u [])) (get_or order i 0) (λ q. o.once i d a l (q ∙ sym e))
        (λ v r q. before i d v (omega arith) l r (q ∙ sym e)) (h i a)
    | inr a ↦ (
        let z : d ≡ i = omega arith in
        let w = o.named d l in
        let k : IsRowLevel depth net (get_or rows u []) (set levels u (level_of depth net levels u (get_or rows u []))) u =
        fresh depth net (get_or rows u []) levels u (omega (arith, ap (λ x. x) e)) (λ v r. omega (arith, named u v r))
        (λ v r q. before d d v (omega arith) l (subst (λ x. InRow rows x v) (sym e) r) (q ∙ sym e)) in
        subst (λ x. IsRowLevel depth net (get_or rows x []) (set levels u (level_of depth net levels u (get_or rows u []))) x) (sym e ∙ ap (λ x. get_or order x 0) z) k)
  ]

  levelled : (us levels : List ℕ) (d : ℕ) → length levels ≡ length rows → ((a b : ℕ) → InRow rows a b → b < length rows) → d + length us ≡ length order
      → ((i : ℕ) → get_or us i 0 ≡ get_or order (d + i) 0) → IsLevelled levels d → IsLevelled (levels_by depth net rows us levels) (length order)
  unfolding IsLevelled
  levelled [] levels d n named m g h = λ i l. h i (omega arith)
  levelled (u ∷ us) levels d n named m g h =
      levelled us (set levels u (level_of depth net levels u (get_or rows u []))) (d + 1) (length-set levels u (level_of depth net levels u (get_or rows u [])) ∙ n) named (omega arith)
      (λ i. g (suc i) ∙ ap (λ x. get_or order x 0) (omega arith))
      (step_levelled levels d u n named (omega arith) (sym (g 0 ∙ ap (λ x. get_or order x 0) (omega arith))) h)

  pub order_levels : ((a b : ℕ) → InRow rows a b → b < length rows) → (i : ℕ) → i < length order → IsRowLevel depth net (get_or rows (get_or order i 0) []) (levels_by depth net rows order (replicate (length rows) 0)) (get_or order i 0)
  unfolding IsLevelled
  order_levels named = levelled order (replicate (length rows) 0) 0 (length-replicate (length rows) 0) named (omega arith) (λ i. ap (λ x. get_or order x 0) (omega arith)) (λ i l. absurd (omega arith))

levels_long : (depth : ℕ) (net : Net) (rows : List (List ℕ)) (us levels : List ℕ) → length (levels_by depth net rows us levels) ≡ length levels
levels_long depth net rows [] levels = refl
levels_long depth net rows (u ∷ us) levels = levels_long depth net rows us (set levels u (level_of depth net levels u (get_or rows u []))) ∙ length-set levels u (level_of depth net levels u (get_or rows u []))

pub unit_row_levels : (t : Timing) (depth : ℕ) (net : Net) (marks levels : List ℕ) → (a : AreUnitLevels t depth net marks levels) → AreRowLevels depth net a.rows levels
unit_row_levels t depth net marks levels a = subst (AreRowLevels depth net a.rows) (sym a.are_levels) (record {
  size = size;
  each = λ u l. (
      let w = a.topological.whole u (omega (arith, size)) in
      let P : ℕ → Type 0 = λ x. IsRowLevel depth net (get_or a.rows x []) (levels_by depth net a.rows a.order (replicate (length a.rows) 0)) x in
      subst P w.2 (order_levels depth net a.rows a.order a.topological.ordered (λ x v r. (let n = a.are_rows.named x v r in omega (arith, a.are_rows.size))) w.0 w.1));
})
  where
    size : length (levels_by depth net a.rows a.order (replicate (length a.rows) 0)) ≡ length a.rows
    size = levels_long depth net a.rows a.order (replicate (length a.rows) 0) ∙ length-replicate (length a.rows) 0

-- each unit has a level
pub each_levelled : (t : Timing) (depth : ℕ) (net : Net) (marks levels : List ℕ) → AreUnitLevels t depth net marks levels → length levels ≡ length net.units
each_levelled t depth net marks levels a = (unit_row_levels t depth net marks levels a).size ∙ a.are_rows.size

-- ---- the place of a unit in an order

pub place_of : List ℕ → ℕ → ℕ
place_of [] u = 0
place_of (x ∷ xs) u = cond (x == u) 0 (suc (place_of xs u))

place_le : (xs : List ℕ) (u i : ℕ) → i < length xs → get_or xs i 0 ≡ u → place_of xs u ≤ i
unfolding place_of
place_le [] u i l e = absurd (omega arith)
place_le (x ∷ xs) u zero l e = let P : Bool → Type 0 = λ b. cond b 0 (suc (place_of xs u)) ≤ 0 in subst P (sym (eq-eqb x u e)) (omega arith)
place_le (x ∷ xs) u (suc i) l e = by (x == u) (place_le xs u i (omega arith) e)
  where
    by : (b : Bool) → place_of xs u ≤ i → cond b 0 (suc (place_of xs u)) ≤ suc i
    by true h = omega arith
    by false h = omega arith

place_at : (xs : List ℕ) (u : ℕ) → In xs u → (place_of xs u < length xs) × (get_or xs (place_of xs u) 0 ≡ u)
unfolding place_of
place_at [] u k = let l = k.1 in absurd (omega arith)
place_at (x ∷ xs) u k = by (x == u) refl (place_at xs u)
  where
    rest : (i : ℕ) → i < suc (length xs) → get_or (x ∷ xs) i 0 ≡ u → (x ≡ u → ⊥) → In xs u
    rest zero l e n = absurd (n e)
    rest (suc i) l e n = (i, omega arith, e)

    by : (b : Bool) → (x == u) ≡ b → (In xs u → (place_of xs u < length xs) × (get_or xs (place_of xs u) 0 ≡ u))
        → (cond b 0 (suc (place_of xs u)) < suc (length xs)) × (get_or (x ∷ xs) (cond b 0 (suc (place_of xs u))) 0 ≡ u)
    by true e next = (omega arith, eqb-true x u e)
    by false e next = let r = next (rest k.0 k.1 k.2 (eqb-false x u e)) in let l = r.0 in (omega arith, r.1)

-- a unit stands behind those of its row
pub place_rises : (rows : List (List ℕ)) (order : List ℕ) (u v : ℕ) → IsTopological rows order → u < length rows → InRow rows u v → place_of order v < place_of order u
place_rises rows order u v t l r =
    let a = place_at order u (t.whole u l) in
    let b = t.ordered.before (place_of order u) v a.0 (subst (λ x. InRow rows x v) (sym a.1) r) in
    let k = a.0 in
    let m = b.1 in
    let h = place_le order v b.0 (omega arith) b.2 in
    omega arith
