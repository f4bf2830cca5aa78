-- A search in depth of a graph without cycles ends each node behind those of its row.
use Rattle.std.proofs.Common.{◌≡◌, ◌≢◌, ◌⊎◌, inl, inr, ℕ, zero, suc, ◌+◌, ◌-◌, ◌<◌, ◌≤◌, Bool, true, false, cond, List, [], ◌∷◌, ◌++◌, length, get_or, set, refl, sym, ap, subst, ◌∙◌, arith, length-set, length-append, get_or-set_same, get_or-set_other}
use Rattle.std.specs.Prelude.{sum, count_by, not, map}
use Rattle.std.proofs.lemmas.Bool.{cases_eq, cases_lt}
use Rattle.std.proofs.lemmas.List.{get_or_append_left, get_or_past}
use Rattle.std.proofs.lemmas.List.Sums.{sum_by-set}
use Rattle.std.proofs.Math.Seq.{get_or-append_seam}
use Rattle.graph_parts.specs.Graph.{InRow, Reaches}
use Rattle.graph_parts.specs.Topological.{IsAcyclic, AreNodes, Before, IsTopological}
use Rattle.graph_parts.specs.Deepening.{Seen, IsSearching, met_seen, met_path}
use Rattle.std.proofs.lemmas.Grind.{get_or_default_zero}
use Rattle.graph_parts.proofs.SearchLemmas.{reaches_more, reaches_here, in_append_left, default}
use Rattle.graph_parts.proofs.RowLemmas.{in_push}

-- ---- what was met

no_true : false ≡ true → ⊥
no_true e = cc

pub seen_within : (seen : List Bool) (v : ℕ) → Seen seen v → v < length seen
seen_within seen v s = elim (cases_lt v (length seen)) [ inl l ↦ l | inr l ↦ absurd (no_true (sym (get_or_past seen v false l) ∙ s)) ]

stays : (seen : List Bool) (v w : ℕ) → v < length seen → Seen seen w → Seen (set seen v true) w
stays seen v w l s = elim (cases_eq w v) [
  | inl e ↦ subst (Seen (set seen v true)) (sym e) (get_or-set_same seen v true false l)
  | inr n ↦ get_or-set_other seen v w true false n ∙ s
]

seen_before : (seen : List Bool) (v w : ℕ) → (w ≡ v → ⊥) → Seen (set seen v true) w → Seen seen w
seen_before seen v w n s = sym (get_or-set_other seen v w true false n) ∙ s

at_end : (xs : List ℕ) (x i : ℕ) → length xs ≡ i → get_or (xs ++ x ∷ []) i 0 ≡ x
at_end xs x i e = ap (λ k. get_or (xs ++ x ∷ []) k 0) (sym e) ∙ get_or-append_seam xs x [] 0

within_push : (xs : List ℕ) (x i : ℕ) → i < length (xs ++ x ∷ []) → (i < length xs) ⊎ (length xs ≡ i)
within_push xs x i l = let n = length-append xs (x ∷ []) in elim (cases_lt i (length xs)) [ inl a ↦ inl a | inr b ↦ inr (omega arith) ]

earlier : (xs : List ℕ) (x i : ℕ) → i < length xs → get_or (xs ++ x ∷ []) i 0 ≡ get_or xs i 0
earlier xs x i l = get_or_append_left xs (x ∷ []) 0 i l

-- a fact of each item of a longer list, from those of the list and of the new one
each_push : (P : ℕ → Type 0) (xs : List ℕ) (x : ℕ) → ((i : ℕ) → i < length xs → P (get_or xs i 0)) → P x → (i : ℕ) → i < length (xs ++ x ∷ []) → P (get_or (xs ++ x ∷ []) i 0)
each_push P xs x h p i l = elim (within_push xs x i l) [
  | inl a ↦ subst P (sym (earlier xs x i a)) (h i a)
  | inr e ↦ subst P (sym (at_end xs x i e)) p
]

each_front : (P : ℕ → Type 0) (xs : List ℕ) (x : ℕ) → ((i : ℕ) → i < length (xs ++ x ∷ []) → P (get_or (xs ++ x ∷ []) i 0)) → (i : ℕ) → i < length xs → P (get_or xs i 0)
each_front P xs x h i l = subst P (earlier xs x i l) (h i (omega (arith, length-append xs (x ∷ []))))

last_of : (P : ℕ → Type 0) (xs : List ℕ) (x : ℕ) → ((i : ℕ) → i < length (xs ++ x ∷ []) → P (get_or (xs ++ x ∷ []) i 0)) → P x
last_of P xs x h = subst P (at_end xs x (length xs) refl) (h (length xs) (omega (arith, length-append xs (x ∷ []))))

-- ---- the start

pub searching_none : (rows : List (List ℕ)) (seen : List Bool) (left : List ℕ) → length seen ≡ length rows → ((v : ℕ) → get_or seen v false ≡ false) → left ≡ map length rows → IsSearching rows seen left [] []
searching_none rows seen left s none e = record {
  seen_size = s;
  left_size = ap length e ∙ lengths rows;
  few = λ u. (let h = long u in omega arith);
  looked = λ u k a b. (let h = long u in absurd (omega arith));
  linked = λ i l. absurd (omega arith);
  met = λ v h. absurd (no_true (sym (none v) ∙ h));
  path_seen = λ i l. absurd (omega arith);
  order_seen = λ i l. absurd (omega arith);
  apart = λ i j l m. absurd (omega arith);
  ordered = record { named = λ i l. absurd (omega arith); once = λ i j l m. absurd (omega arith); before = λ i v l m. absurd (omega arith) };
}
  where
    lengths : (xs : List (List ℕ)) → length (map length xs) ≡ length xs
    lengths [] = refl
    lengths (x ∷ xs) = ap suc (lengths xs)

    length_at : (xs : List (List ℕ)) (u : ℕ) → get_or (map length xs) u 0 ≡ length (get_or xs u [])
    length_at [] u = refl
    length_at (x ∷ xs) zero = refl
    length_at (x ∷ xs) (suc u) = length_at xs u

    long : (u : ℕ) → get_or left u 0 ≡ length (get_or rows u [])
    long u = ap (λ xs. get_or xs u 0) e ∙ length_at rows u

-- ---- one step

module _ (rows : List (List ℕ)) (acyclic : IsAcyclic (InRow rows)) where
  -- along the path a node reaches those behind it
  along : (path : List ℕ) → ((i : ℕ) → i + 1 < length path → InRow rows (get_or path i 0) (get_or path (i + 1) 0)) → (i d : ℕ) → i + d < length path → Reaches (InRow rows) (get_or path i 0) (get_or path (i + d) 0)
  along path linked i zero l =
      let e : i ≡ i + 0 = omega arith in
      subst (λ k. Reaches (InRow rows) (get_or path i 0) (get_or path k 0)) e (reaches_here (InRow rows) (get_or path i 0))
  along path linked i (suc d) l =
      let r = along path linked i d (omega arith) in
      let e : i + d + 1 ≡ i + suc d = omega arith in
      subst (λ k. Reaches (InRow rows) (get_or path i 0) (get_or path k 0)) e (reaches_more (InRow rows) (get_or path i 0) (get_or path (i + d) 0) (get_or path (i + d + 1) 0) r (linked (i + d) (omega arith)))

  reaches_last : (path : List ℕ) → ((i : ℕ) → i + 1 < length path → InRow rows (get_or path i 0) (get_or path (i + 1) 0)) → (i j : ℕ) → i ≤ j → j < length path → Reaches (InRow rows) (get_or path i 0) (get_or path j 0)
  reaches_last path linked i j l m =
      let e : i + (j - i) ≡ j = omega arith in
      subst (λ k. Reaches (InRow rows) (get_or path i 0) (get_or path k 0)) e (along path linked i (j - i) (omega arith))

  distinct : (path : List ℕ) → ((i : ℕ) → i + 1 < length path → InRow rows (get_or path i 0) (get_or path (i + 1) 0)) → (i j : ℕ) → i < j → j < length path → get_or path i 0 ≢ get_or path j 0
  distinct path linked i j l m e =
      acyclic (get_or path i 0) (get_or path (i + 1) 0) (linked i (omega arith)) (subst (Reaches (InRow rows) (get_or path (i + 1) 0)) (sym e) (reaches_last path linked (i + 1) j (omega arith) m))

  -- a node that was not met comes on the path
  meets : (seen : List Bool) (left path order : List ℕ) (v : ℕ) → v < length rows → get_or seen v false ≡ false → ((i : ℕ) → i + 1 ≡ length path → InRow rows (get_or path i 0) v)
      → IsSearching rows seen left path order → IsSearching rows (set seen v true) left (path ++ v ∷ []) order
  meets seen left path order v within new link s = record {
    seen_size = length-set seen v true ∙ s.seen_size;
    left_size = s.left_size;
    few = s.few;
    looked = λ u k a b. stays seen v _ l (s.looked u k a b);
    linked = λ i m. elim (within_push path v (i + 1) m) [
      | inl a ↦ (
          let r = s.linked i a in
          let P : ℕ → Type 0 = λ x. InRow rows x (get_or (path ++ v ∷ []) (i + 1) 0) in
          let Q : ℕ → Type 0 = λ x. InRow rows (get_or path i 0) x in
          subst P (sym (earlier path v i (omega arith))) (subst Q (sym (earlier path v (i + 1) a)) r))
      | inr e ↦ (
          let P : ℕ → Type 0 = λ x. InRow rows x (get_or (path ++ v ∷ []) (i + 1) 0) in
          let Q : ℕ → Type 0 = λ x. InRow rows (get_or path i 0) x in
          subst P (sym (earlier path v i (omega arith))) (subst Q (sym (at_end path v (i + 1) e)) (link i (sym e))))
    ];
    met = λ w h. elim (cases_eq w v) [
      | inl e ↦ inr (length path, omega (arith, length-append path (v ∷ [])), at_end path v (length path) refl ∙ sym e)
      | inr n ↦ elim (s.met w (seen_before seen v w n h)) [ inl a ↦ inl a | inr a ↦ inr (in_append_left path (v ∷ []) w a) ]
    ];
    path_seen = each_push (Seen (set seen v true)) path v (λ i m. stays seen v _ l (s.path_seen i m)) (get_or-set_same seen v true false l);
    order_seen = λ i m. stays seen v _ l (s.order_seen i m);
    apart = λ i j a. each_push (λ x. get_or order i 0 ≢ x) path v (λ j b. s.apart i j a b) (λ e. no_true (sym new ∙ sym (ap (λ x. get_or seen x false) e) ∙ s.order_seen i a)) j;
    ordered = s.ordered;
  }
    where
      l : v < length seen
      l = omega (arith, s.seen_size)

  pub meets_by : (seen : List Bool) (left path order : List ℕ) (v : ℕ) → v < length rows → ((i : ℕ) → i + 1 ≡ length path → InRow rows (get_or path i 0) v)
      → IsSearching rows seen left path order → IsSearching rows (met_seen v seen) left (met_path v seen path) order
  meets_by seen left path order v within link s = by (get_or seen v false) refl
    where
      by : (b : Bool) → get_or seen v false ≡ b → IsSearching rows (cond b seen (set seen v true)) left (cond b path (path ++ v ∷ [])) order
      by true e = s
      by false e = meets seen left path order v within e link s

  -- one node less of a row is to be looked at
  looks : (seen : List Bool) (left path order : List ℕ) (u m : ℕ) → get_or left u 0 ≡ m + 1 → Seen seen (get_or (get_or rows u []) m 0)
      → IsSearching rows seen left path order → IsSearching rows seen (set left u m) path order
  looks seen left path order u m e here s = record {
    seen_size = s.seen_size;
    left_size = length-set left u m ∙ s.left_size;
    few = λ w. elim (cases_eq w u) [
      | inl q ↦ (
          let f = s.few u in
          let P : ℕ → Type 0 = λ x. get_or (set left u m) x 0 ≤ length (get_or rows x []) in
          subst P (sym q) (omega (arith, same)))
      | inr n ↦ (let f = s.few w in omega (arith, get_or-set_other left u w m 0 n))
    ];
    looked = λ w k a b. elim (cases_eq w u) [
      | inl q ↦ (
          let P : ℕ → Type 0 = λ x. get_or (set left u m) x 0 ≤ k → k < length (get_or rows x []) → Seen seen (get_or (get_or rows x []) k 0) in
          subst P (sym q) (λ a b. elim (cases_eq k m) [
            | inl z ↦ subst (λ x. Seen seen (get_or (get_or rows u []) x 0)) (sym z) here
            | inr z ↦ s.looked u k (omega (arith, same)) b
          ]) a b)
      | inr n ↦ s.looked w k (omega (arith, get_or-set_other left u w m 0 n)) b
    ];
    linked = s.linked;
    met = s.met;
    path_seen = s.path_seen;
    order_seen = s.order_seen;
    apart = s.apart;
    ordered = s.ordered;
  }
    where
      within : u < length left
      within = elim (cases_lt u (length left)) [ inl l ↦ l | inr l ↦ (let z = get_or_past left u 0 l in absurd (omega arith)) ]

      same : get_or (set left u m) u 0 ≡ m
      same = get_or-set_same left u m 0 within

  -- the last node of the path ends
  pub ends : (seen : List Bool) (left path order : List ℕ) (u : ℕ) → get_or left u 0 ≡ 0 → IsSearching rows seen left (path ++ u ∷ []) order → IsSearching rows seen left path (order ++ u ∷ [])
  ends seen left path order u e s = record {
    seen_size = s.seen_size;
    left_size = s.left_size;
    few = s.few;
    looked = s.looked;
    linked = λ i l. (
        let r = s.linked i (omega (arith, long)) in
        let P : ℕ → Type 0 = λ x. InRow rows x (get_or path (i + 1) 0) in
        let Q : ℕ → Type 0 = λ x. InRow rows (get_or (path ++ u ∷ []) i 0) x in
        subst P (earlier path u i (omega arith)) (subst Q (earlier path u (i + 1) l) r));
    met = λ w h. elim (s.met w h) [
      | inl a ↦ inl (in_append_left order (u ∷ []) w a)
      | inr a ↦ elim (in_push path u w a) [
        | inl b ↦ inr b
        | inr q ↦ inl (length order, omega (arith, length-append order (u ∷ [])), at_end order u (length order) refl ∙ sym q)
      ]
    ];
    path_seen = each_front (Seen seen) path u s.path_seen;
    order_seen = each_push (Seen seen) order u s.order_seen here;
    apart = λ i j l m. each_push (λ x. x ≢ get_or path j 0) order u (λ i a. each_front (λ x. get_or order i 0 ≢ x) path u (λ j b. s.apart i j a b) j m) (new j m) i l;
    ordered = record {
      named = each_push (λ x. x < length rows) order u s.ordered.named (omega (arith, seen_within seen u here, s.seen_size));
      once = λ i j l m. elim (within_push order u j m) [
        | inl a ↦ (λ q. s.ordered.once i j l a (sym (earlier order u i (omega arith)) ∙ q ∙ earlier order u j a))
        | inr z ↦ (λ q. last_of (λ x. get_or order i 0 ≢ x) path u (λ j b. s.apart i j (omega arith) b) (sym (earlier order u i (omega arith)) ∙ q ∙ at_end order u j z))
      ];
      before = λ i v l m. elim (within_push order u i l) [
        | inl a ↦ kept i v a (s.ordered.before i v a (subst (λ x. InRow rows x v) (earlier order u i a) m))
        | inr z ↦ subst (λ k. Before (order ++ u ∷ []) k v) z (behind v (subst (λ x. InRow rows x v) (at_end order u i z) m))
      ];
    };
  }
    where
      long : length (path ++ u ∷ []) ≡ length path + 1
      long = length-append path (u ∷ [])

      here : Seen seen u
      here = last_of (Seen seen) path u s.path_seen

      new : (j : ℕ) → j < length path → u ≢ get_or path j 0
      new j m q = distinct (path ++ u ∷ []) s.linked j (length path) m (omega (arith, long)) (earlier path u j m ∙ sym q ∙ sym (at_end path u (length path) refl))

      kept : (i v : ℕ) → i < length order → Before order i v → Before (order ++ u ∷ []) i v
      kept i v l b = (b.0, b.1, (let z = b.1 in earlier order u b.0 (omega arith)) ∙ b.2)

      behind : (v : ℕ) → InRow rows u v → Before (order ++ u ∷ []) (length order) v
      behind v m =
          let z : Seen seen v = subst (Seen seen) m.2 (s.looked u m.0 (omega arith) m.1) in
          elim (s.met v z) [
            | inl a ↦ (a.0, a.1, earlier order u a.0 a.1 ∙ a.2)
            | inr a ↦ absurd (
                let r = reaches_last (path ++ u ∷ []) s.linked a.0 (length path) (let b = a.1 in omega (arith, long)) (omega (arith, long)) in
                let P : ℕ → Type 0 = λ x. Reaches (InRow rows) x u in
                let Q : ℕ → Type 0 = λ x. Reaches (InRow rows) (get_or (path ++ u ∷ []) a.0 0) x in
                acyclic u v m (subst P a.2 (subst Q (at_end path u (length path) refl) r)))
          ]

  -- a step that looks at a node
  pub looks_by : (seen : List Bool) (left path order : List ℕ) (u m : ℕ) → AreNodes rows → get_or left u 0 ≡ m + 1 → IsSearching rows seen left (path ++ u ∷ []) order
      → IsSearching rows (met_seen (get_or (get_or rows u []) m 0) seen) (set left u m) (met_path (get_or (get_or rows u []) m 0) seen (path ++ u ∷ [])) order
  looks_by seen left path order u m named e s =
      let v = get_or (get_or rows u []) m 0 in
      let f = s.few u in
      let r : InRow rows u v = (m, omega arith, refl) in
      let w = named u v r in
      let link : (i : ℕ) → i + 1 ≡ length (path ++ u ∷ []) → InRow rows (get_or (path ++ u ∷ []) i 0) v =
      λ i z. subst (λ x. InRow rows x v) (sym (at_end path u i (omega (arith, length-append path (u ∷ []))))) r in
      looks (met_seen v seen) left (met_path v seen (path ++ u ∷ [])) order u m e (now_seen v (omega (arith, s.seen_size))) (meets_by seen left (path ++ u ∷ []) order v w link s)
    where
      now_seen : (v : ℕ) → v < length seen → Seen (met_seen v seen) v
      now_seen v l = by (get_or seen v false) refl
        where
          by : (b : Bool) → get_or seen v false ≡ b → Seen (cond b seen (set seen v true)) v
          by true e = e
          by false e = get_or-set_same seen v true false l

-- ---- what is met and what is to do

pub met_here : (seen : List Bool) (v : ℕ) → v < length seen → Seen (met_seen v seen) v
met_here seen v l = by (get_or seen v false) refl
  where
    by : (b : Bool) → get_or seen v false ≡ b → Seen (cond b seen (set seen v true)) v
    by true e = e
    by false e = get_or-set_same seen v true false l

pub met_kept : (seen : List Bool) (v w : ℕ) → v < length seen → Seen seen w → Seen (met_seen v seen) w
met_kept seen v w l s = by (get_or seen v false)
  where
    by : (b : Bool) → Seen (cond b seen (set seen v true)) w
    by true = s
    by false = stays seen v w l s

-- a node that was not met is put on the path, and then counts there
pub met_work : (seen : List Bool) (path : List ℕ) (v : ℕ) → v < length seen → length (met_path v seen path) + count_by not (met_seen v seen) ≡ length path + count_by not seen
met_work seen path v l = by (get_or seen v false) refl
  where
    by : (b : Bool) → get_or seen v false ≡ b → length (cond b path (path ++ v ∷ [])) + count_by not (cond b seen (set seen v true)) ≡ length path + count_by not seen
    by true e = refl
    by false e =
        let c : count_by not (set seen v true) + cond (not (get_or seen v false)) 1 0 ≡ count_by not seen + 0 = sum_by-set (λ x. cond (not x) 1 0) seen v true false l in
        let d : count_by not (set seen v true) + 1 ≡ count_by not seen + 0 = subst (λ b. count_by not (set seen v true) + cond (not b) 1 0 ≡ count_by not seen + 0) e c in
        omega (arith, length-append path (v ∷ []))

pub looked_work : (left : List ℕ) (u m : ℕ) → get_or left u 0 ≡ m + 1 → u < length left → sum (set left u m) + 1 ≡ sum left
looked_work left u m e l = let s = sum_by-set (λ x. x) left u m 0 l in omega arith

pub topological : (rows : List (List ℕ)) (seen : List Bool) (left path order : List ℕ) → path ≡ [] → ((u : ℕ) → u < length rows → Seen seen u) → IsSearching rows seen left path order → IsTopological rows order
topological rows seen left path order none all s = record {
  ordered = s.ordered;
  whole = λ u l. elim (s.met u (all u l)) [
    | inl a ↦ a
    | inr a ↦ (let n = a.1 in let z = ap length none in absurd (omega arith))
  ];
}

-- ---- for the code

pub last_within : (rows : List (List ℕ)) (seen : List Bool) (left path order : List ℕ) (u : ℕ) → IsSearching rows seen left (path ++ u ∷ []) order → u < length rows
last_within rows seen left path order u s = let l = seen_within seen u (last_of (Seen seen) path u s.path_seen) in omega (arith, s.seen_size)

pub left_is : (left : List ℕ) (u value : ℕ) → u < length left → value ≡ get_or left u value → value ≡ get_or left u 0
left_is left u value l e = e ∙ get_or_default_zero left u value l

pub row_is : (rows : List (List ℕ)) (u : ℕ) (row item : List ℕ) → u < length rows → row ≡ item → item ≡ get_or rows u item → row ≡ get_or rows u []
row_is rows u row item l r e = r ∙ e ∙ default rows u item l

pub record LooksOn (rows : List (List ℕ)) (seen seen' : List Bool) (left path path' order : List ℕ) (u m : ℕ) : Type 0 where
  pub searching : IsSearching rows seen' (set left u m) path' order
  pub kept : (v : ℕ) → Seen seen v → Seen seen' v
  pub less : sum (set left u m) + length path' + count_by not seen' < sum left + length (path ++ u ∷ []) + count_by not seen

pub looks_on : (rows : List (List ℕ)) → IsAcyclic (InRow rows) → AreNodes rows → (seen seen' : List Bool) (left path longer path' order row : List ℕ) (u m : ℕ) → get_or left u 0 ≡ m + 1
    → row ≡ get_or rows u [] → longer ≡ path ++ u ∷ [] → seen' ≡ met_seen (get_or row m 0) seen → path' ≡ met_path (get_or row m 0) seen longer
    → IsSearching rows seen left (path ++ u ∷ []) order → LooksOn rows seen seen' left path path' order u m
looks_on rows acyclic named seen seen' left path longer path' order row u m e r l es ep s =
    let v = get_or (get_or rows u []) m 0 in
    let f = s.few u in
    let w : v < length seen = (let n = named u v (m, omega arith, refl) in omega (arith, s.seen_size)) in
    let n : u < length left = omega (arith, last_within rows seen left path order u s, s.left_size) in
    let es' : seen' ≡ met_seen v seen = es ∙ ap (λ x. met_seen (get_or x m 0) seen) r in
    let ep' : path' ≡ met_path v seen (path ++ u ∷ []) = ep ∙ ap (λ x. met_path (get_or x m 0) seen longer) r ∙ ap (met_path v seen) l in
    subst (λ x. LooksOn rows seen x left path path' order u m) (sym es') (subst (λ x. LooksOn rows seen (met_seen v seen) left path x order u m) (sym ep') (record {
      searching = looks_by rows acyclic seen left path order u m named e s;
      kept = λ x h. met_kept seen v x w h;
      less = omega (arith, met_work seen (path ++ u ∷ []) v w, looked_work left u m e n);
    }))

-- the place that a step looks at is within the row
pub place_within : (rows : List (List ℕ)) (seen : List Bool) (left path order row : List ℕ) (u value : ℕ) → (value ≡ 0 → ⊥) → value ≡ get_or left u 0 → row ≡ get_or rows u []
    → IsSearching rows seen left path order → value - 1 < length row
place_within rows seen left path order row u value n e r s = let f = s.few u in let l = ap length r in omega arith
