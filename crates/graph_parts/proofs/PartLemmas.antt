-- Parts.
use Rattle.std.proofs.Common.{◌≡◌, ◌≢◌, ◌⊎◌, inl, inr, ℕ, ◌+◌, ◌<◌, ◌≤◌, ◌==◌, Bool, true, false, cond, List, [], ◌∷◌, length, get_or, set, refl, sym, ap, subst, ◌∙◌, arith, length-set, get_or-set_same, get_or-set_other}
use Rattle.std.proofs.lemmas.Bool.{cases_eq, eqb-true, eqb-false}
use Rattle.std.proofs.lemmas.Grind.{get_or_default_zero}
use Rattle.graph_parts.specs.Graph.{InRow, Walk, Reaches, Edge, AreRows, AreTurned}
use Rattle.graph_parts.specs.Search.{mark, IsMoved, IsSearched}
use Rattle.graph_parts.specs.Parts.{Both, IsParted, ArePartsOf, IsCleared, IsPartedMore, cleared_marks}
use Rattle.graph_parts.proofs.SearchLemmas.{reaches_more, reaches_then, reaches_here}

two : (n m : ℕ) → n ≢ 0 → m ≡ n → m ≢ 0
two n m h e = λ z. h (sym e ∙ z)

-- walks by edges turned round
pub turned_walk : (Goes Turned : ℕ → ℕ → Type 0) → ((u v : ℕ) → Turned u v → Goes v u) → (u v : ℕ) → Reaches Turned u v → Reaches Goes v u
turned_walk Goes Turned h u v r = go u r.0 r.1
  where
    go : (x : ℕ) (ws : List ℕ) → Walk Turned x ws v → Reaches Goes v x
    go x [] k = let P : ℕ → Type 0 = λ y. Reaches Goes v y in subst P (sym k) (reaches_here Goes v)
    go x (y ∷ ws) k = reaches_more Goes v y x (go y ws k.1) (h x y k.0)

pub walk_as : (Goes Other : ℕ → ℕ → Type 0) → ((u v : ℕ) → Goes u v → Other u v) → (u v : ℕ) → Reaches Goes u v → Reaches Other u v
walk_as Goes Other h u v r = (r.0, go u r.0 r.1)
  where
    go : (x : ℕ) (ws : List ℕ) → Walk Goes x ws v → Walk Other x ws v
    go x [] k = k
    go x (y ∷ ws) k = (h x y k.0, go y ws k.1)

pub one_step : (Goes : ℕ → ℕ → Type 0) (u v : ℕ) → Goes u v → Reaches Goes u v
one_step Goes u v g = (v ∷ [], (g, refl))

no_root : (root : ℕ) → root + 2 ≡ 1 → ⊥
no_root root e = omega arith

-- the part of a root is marked by two searches
pub parted_more : (n : ℕ) (ahead back : List (List ℕ)) (root : ℕ) (t0 t1 t2 t3 found found2 : List ℕ) → AreTurned n ahead back → IsParted n (InRow ahead) t0 → mark t0 root ≡ 0
    → IsSearched back root 0 1 t0 t1 found → IsSearched ahead root 1 (root + 2) t1 t2 found2 → IsCleared found (length found) t2 t3
    → IsPartedMore n (InRow ahead) root t0 t3
parted_more n ahead back root t0 t1 t2 t3 found found2 turn p unset s1 s2 c = record {
  parted = record {
    size = c.size ∙ s2.size ∙ s1.size ∙ p.size;
    joined = λ u v h e. joined u v h e (cases_eq (mark t0 u) 0) (cases_eq (mark t0 v) 0);
    whole = λ u v h b. whole u v h b (cases_eq (mark t0 u) 0);
    rooted = λ u k e. rooted u k e (cases_eq (mark t0 u) 0);
    none = λ u. none u (cases_eq (mark t0 u) 0);
  };
  kept = λ v h. two (mark t0 v) (mark t3 v) h (same v h);
  here = λ l e. (let r = root_now in let q : 0 ≡ root + 2 = sym e ∙ r in absurd (omega arith));
}
  where
    Goes : ℕ → ℕ → Type 0
    Goes = InRow ahead

    -- what was marked stays
    same : (v : ℕ) → mark t0 v ≢ 0 → mark t3 v ≡ mark t0 v
    same v h = by (s1.kept v)
      where
        by : (mark t1 v ≡ mark t0 v) ⊎ (IsMoved 0 1 t0 t1 v × Reaches (InRow back) root v) → mark t3 v ≡ mark t0 v
        by (inr q) = absurd (h q.0.was)
        by (inl q) = next (s2.kept v)
          where
            next : (mark t2 v ≡ mark t1 v) ⊎ (IsMoved 1 (root + 2) t1 t2 v × Reaches (InRow ahead) root v) → mark t3 v ≡ mark t0 v
            next (inr r) = absurd (p.none v (sym q ∙ r.0.was))
            next (inl r) = c.kept v (λ z. p.none v (sym q ∙ sym r ∙ z)) ∙ r ∙ q

    -- what was not is in the root's part, or not marked
    fresh : (v : ℕ) → mark t0 v ≡ 0 → (mark t3 v ≡ 0) ⊎ ((mark t3 v ≡ root + 2) × Both (InRow ahead) root v)
    fresh v h = by (s1.kept v)
      where
        by : (mark t1 v ≡ mark t0 v) ⊎ (IsMoved 0 1 t0 t1 v × Reaches (InRow back) root v) → (mark t3 v ≡ 0) ⊎ ((mark t3 v ≡ root + 2) × Both (InRow ahead) root v)
        by (inl q) = next (s2.kept v)
          where
            next : (mark t2 v ≡ mark t1 v) ⊎ (IsMoved 1 (root + 2) t1 t2 v × Reaches (InRow ahead) root v) → (mark t3 v ≡ 0) ⊎ ((mark t3 v ≡ root + 2) × Both (InRow ahead) root v)
            next (inr r) = absurd (let z : 0 ≡ 1 = sym (q ∙ h) ∙ r.0.was in omega arith)
            next (inl r) = inl (c.kept v (λ z. (let y : 0 ≡ 1 = sym (r ∙ q ∙ h) ∙ z in omega arith)) ∙ r ∙ q ∙ h)
        by (inr q) = next (s2.kept v)
          where
            to_root : Reaches (InRow ahead) v root
            to_root = turned_walk (InRow ahead) (InRow back) turn.returned root v q.1

            next : (mark t2 v ≡ mark t1 v) ⊎ (IsMoved 1 (root + 2) t1 t2 v × Reaches (InRow ahead) root v) → (mark t3 v ≡ 0) ⊎ ((mark t3 v ≡ root + 2) × Both (InRow ahead) root v)
            next (inl r) =
                let k = s1.listed v q.0 in
                let g : mark t3 v ≢ 1 = (let P : ℕ → Type 0 = λ y. mark t3 y ≢ 1 in subst P k.2 (c.gone k.0 k.1 k.1)) in
                inl (c.cleared v g (r ∙ q.0.now))
            next (inr r) = inr (c.kept v (λ z. (let y : root + 2 ≡ 1 = sym r.0.now ∙ z in omega arith)) ∙ r.0.now, (r.1, to_root))

    -- a node of the root's part was not marked
    open_at : (v : ℕ) → Both (InRow ahead) root v → mark t0 v ≡ 0
    open_at v b = by (cases_eq (mark t0 v) 0)
      where
        by : (mark t0 v ≡ 0) ⊎ (mark t0 v ≡ 0 → ⊥) → mark t0 v ≡ 0
        by (inl q) = q
        by (inr q) = absurd (q (sym (p.whole v root q (b.1, b.0)) ∙ unset))

    -- the search back finds it
    behind : (y : ℕ) (ws : List ℕ) → Walk (InRow ahead) y ws root → Reaches (InRow ahead) root y → mark t1 y ≡ 1
    behind y [] k r = ap (mark t1) k ∙ s1.here
    behind y (w ∷ ws) k r =
        let rw' : Reaches (InRow ahead) root w = reaches_more (InRow ahead) root y w r k.0 in
        let m : mark t1 w ≡ 1 = behind w ws k.1 rw' in
        let z : mark t0 w ≡ 0 = open_at w (rw', (ws, k.1)) in
        let x : mark t1 y ≢ 0 = s1.closed w y (record { was = z; now = m }) (turn.turned y w k.0) in
        by x (s1.kept y)
      where
        by : mark t1 y ≢ 0 → (mark t1 y ≡ mark t0 y) ⊎ (IsMoved 0 1 t0 t1 y × Reaches (InRow back) root y) → mark t1 y ≡ 1
        by x (inl q) = absurd (x (q ∙ open_at y (r, (w ∷ ws, k))))
        by x (inr q) = q.0.now

    -- and then the search ahead
    onward : (u : ℕ) (ws : List ℕ) (y : ℕ) → Walk (InRow ahead) u ws y → Reaches (InRow ahead) y root → Reaches (InRow ahead) root u → mark t2 u ≡ root + 2 → mark t2 y ≡ root + 2
    onward u [] y k r q m = ap (mark t2) (sym k) ∙ m
    onward u (w ∷ ws) y k r q m =
        let u1 : mark t1 u ≡ 1 = (let z = reaches_then (InRow ahead) u y root (w ∷ ws, k) r in behind u z.0 z.1 q) in
        let qw : Reaches (InRow ahead) root w = reaches_more (InRow ahead) root u w q k.0 in
        let w1 : mark t1 w ≡ 1 = (let z = reaches_then (InRow ahead) w y root (ws, k.1) r in behind w z.0 z.1 qw) in
        let x : mark t2 w ≢ 1 = s2.closed u w (record { was = u1; now = m }) k.0 in
        onward w ws y k.1 r qw (by w1 x (s2.kept w))
      where
        by : mark t1 w ≡ 1 → mark t2 w ≢ 1 → (mark t2 w ≡ mark t1 w) ⊎ (IsMoved 1 (root + 2) t1 t2 w × Reaches (InRow ahead) root w) → mark t2 w ≡ root + 2
        by w1 x (inl s) = absurd (x (s ∙ w1))
        by w1 x (inr s) = s.0.now

    full : (y : ℕ) → Both (InRow ahead) root y → mark t3 y ≡ root + 2
    full y b =
        let m : mark t2 y ≡ root + 2 = onward root b.0.0 y b.0.1 b.1 (reaches_here (InRow ahead) root) s2.here in
        c.kept y (λ z. (let e : root + 2 ≡ 1 = sym m ∙ z in omega arith)) ∙ m

    root_now : mark t3 root ≡ root + 2
    root_now = full root (reaches_here (InRow ahead) root, reaches_here (InRow ahead) root)

    -- no node had the root's mark
    not_yet : (v : ℕ) → mark t0 v ≢ root + 2
    not_yet v e = let z : 0 ≡ root + 2 = sym unset ∙ p.rooted v root e in absurd (omega arith)

    joined : (u v : ℕ) → mark t3 u ≢ 0 → mark t3 u ≡ mark t3 v → (mark t0 u ≡ 0) ⊎ (mark t0 u ≡ 0 → ⊥) → (mark t0 v ≡ 0) ⊎ (mark t0 v ≡ 0 → ⊥) → Reaches (InRow ahead) u v
    joined u v h e (inr a) (inr b) = p.joined u v a (sym (same u a) ∙ e ∙ same v b)
    joined u v h e (inr a) (inl b) = by (fresh v b)
      where
        by : (mark t3 v ≡ 0) ⊎ ((mark t3 v ≡ root + 2) × Both (InRow ahead) root v) → Reaches (InRow ahead) u v
        by (inl q) = absurd (h (e ∙ q))
        by (inr q) = absurd (not_yet u (sym (same u a) ∙ e ∙ q.0))
    joined u v h e (inl a) b = by (fresh u a)
      where
        by : (mark t3 u ≡ 0) ⊎ ((mark t3 u ≡ root + 2) × Both (InRow ahead) root u) → Reaches (InRow ahead) u v
        by (inl q) = absurd (h q)
        by (inr q) = next b
          where
            next : (mark t0 v ≡ 0) ⊎ (mark t0 v ≡ 0 → ⊥) → Reaches (InRow ahead) u v
            next (inr k) = absurd (not_yet v (sym (same v k) ∙ sym e ∙ q.0))
            next (inl k) = last (fresh v k)
              where
                last : (mark t3 v ≡ 0) ⊎ ((mark t3 v ≡ root + 2) × Both (InRow ahead) root v) → Reaches (InRow ahead) u v
                last (inl r) = absurd (h (e ∙ r))
                last (inr r) = reaches_then (InRow ahead) u root v q.1.1 r.1.0

    whole : (u v : ℕ) → mark t3 u ≢ 0 → Both (InRow ahead) u v → (mark t0 u ≡ 0) ⊎ (mark t0 u ≡ 0 → ⊥) → mark t3 v ≡ mark t3 u
    whole u v h b (inr a) =
        let e : mark t0 v ≡ mark t0 u = p.whole u v a b in
        same v (two (mark t0 u) (mark t0 v) a e) ∙ e ∙ sym (same u a)
    whole u v h b (inl a) = by (fresh u a)
      where
        by : (mark t3 u ≡ 0) ⊎ ((mark t3 u ≡ root + 2) × Both (InRow ahead) root u) → mark t3 v ≡ mark t3 u
        by (inl q) = absurd (h q)
        by (inr q) = full v (reaches_then (InRow ahead) root u v q.1.0 b.0, reaches_then (InRow ahead) v u root b.1 q.1.1) ∙ sym q.0

    rooted : (u k : ℕ) → mark t3 u ≡ k + 2 → (mark t0 u ≡ 0) ⊎ (mark t0 u ≡ 0 → ⊥) → mark t3 k ≡ k + 2
    rooted u k e (inr a) =
        let r : mark t0 k ≡ k + 2 = p.rooted u k (sym (same u a) ∙ e) in
        same k (λ z. (let y : 0 ≡ k + 2 = sym z ∙ r in omega arith)) ∙ r
    rooted u k e (inl a) = by (fresh u a)
      where
        by : (mark t3 u ≡ 0) ⊎ ((mark t3 u ≡ root + 2) × Both (InRow ahead) root u) → mark t3 k ≡ k + 2
        by (inl q) = absurd (let y : 0 ≡ k + 2 = sym q ∙ e in omega arith)
        by (inr q) =
            let y : root + 2 ≡ k + 2 = sym q.0 ∙ e in
            let z : root ≡ k = omega arith in
            let P : ℕ → Type 0 = λ x. mark t3 x ≡ x + 2 in subst P z root_now

    none : (u : ℕ) → (mark t0 u ≡ 0) ⊎ (mark t0 u ≡ 0 → ⊥) → mark t3 u ≢ 1
    none u (inr a) = λ z. p.none u (sym (same u a) ∙ z)
    none u (inl a) = by (fresh u a)
      where
        by : (mark t3 u ≡ 0) ⊎ ((mark t3 u ≡ root + 2) × Both (InRow ahead) root u) → mark t3 u ≢ 1
        by (inl q) = λ z. (let y : 0 ≡ 1 = sym q ∙ z in omega arith)
        by (inr q) = λ z. no_root root (sym q.0 ∙ z)

pub parted_none : (n : ℕ) (Goes : ℕ → ℕ → Type 0) (marks : List ℕ) → length marks ≡ n → ((u : ℕ) → mark marks u ≡ 0) → IsParted n Goes marks
parted_none n Goes marks s z = record {
  size = s;
  joined = λ u v h e. absurd (h (z u));
  whole = λ u v h b. absurd (h (z u));
  rooted = λ u k e. absurd (let y : 0 ≡ k + 2 = sym (z u) ∙ e in omega arith);
  none = λ u e. (let y : 0 ≡ 1 = sym (z u) ∙ e in omega arith);
}

-- a root that is no node, or has its mark, changes nothing
pub parted_same : (n : ℕ) (Goes : ℕ → ℕ → Type 0) (root : ℕ) (marks : List ℕ) → IsParted n Goes marks → (root < n → mark marks root ≢ 0) → IsPartedMore n Goes root marks marks
parted_same n Goes root marks p h = record { parted = p; kept = λ v k. k; here = h }

pub cleared_none : (list marks : List ℕ) → IsCleared list 0 marks marks
cleared_none list marks = record { size = refl; kept = λ v h. refl; cleared = λ v h e. absurd (h e); gone = λ i l m. absurd (omega arith) }

no_one : ◌≡◌ {A = ℕ} 0 1 → ⊥
no_one e = omega arith

pub cleared_more : (list marks after : List ℕ) (j : ℕ) → j < length list → get_or list j 0 < length marks → IsCleared list j marks after → IsCleared list (j + 1) marks (cleared_marks (get_or list j 0) after)
cleared_more list marks after j l w c = by (get_or after (get_or list j 0) 0 == 1) refl
  where
    by : (t : Bool) → (get_or after (get_or list j 0) 0 == 1) ≡ t → IsCleared list (j + 1) marks (cond t (set after (get_or list j 0) 0) after)
    by false e = record {
      size = c.size;
      kept = c.kept;
      cleared = c.cleared;
      gone = λ i m n. at i m n (cases_eq i j);
    }
      where
        at : (i : ℕ) → i < j + 1 → i < length list → (i ≡ j) ⊎ (i ≡ j → ⊥) → mark after (get_or list i 0) ≢ 1
        at i m n (inl q) = let P : ℕ → Type 0 = λ y. mark after (get_or list y 0) ≢ 1 in subst P (sym q) (eqb-false _ _ e)
        at i m n (inr q) = c.gone i (omega arith) n
    by true e = record {
      size = length-set after (get_or list j 0) 0 ∙ c.size;
      kept = λ v h. kept v h (cases_eq v (get_or list j 0));
      cleared = λ v h o. cleared v h o (cases_eq v (get_or list j 0));
      gone = λ i m n. at i m n (cases_eq (get_or list i 0) (get_or list j 0)) (cases_eq i j);
    }
      where
        within : get_or list j 0 < length after
        within = let s = c.size in omega arith

        here : mark (set after (get_or list j 0) 0) (get_or list j 0) ≡ 0
        here = get_or-set_same after (get_or list j 0) 0 0 within

        other : (x : ℕ) → (x ≡ get_or list j 0 → ⊥) → mark (set after (get_or list j 0) 0) x ≡ mark after x
        other x q = get_or-set_other after (get_or list j 0) x 0 0 q

        kept : (v : ℕ) → mark marks v ≢ 1 → (v ≡ get_or list j 0) ⊎ (v ≡ get_or list j 0 → ⊥) → mark (set after (get_or list j 0) 0) v ≡ mark marks v
        kept v h (inl q) = absurd (h (sym (c.kept v h) ∙ ap (mark after) q ∙ eqb-true _ _ e))
        kept v h (inr q) = other v q ∙ c.kept v h

        cleared : (v : ℕ) → mark (set after (get_or list j 0) 0) v ≢ 1 → mark marks v ≡ 1 → (v ≡ get_or list j 0) ⊎ (v ≡ get_or list j 0 → ⊥) → mark (set after (get_or list j 0) 0) v ≡ 0
        cleared v h o (inl q) = ap (mark (set after (get_or list j 0) 0)) q ∙ here
        cleared v h o (inr q) = other v q ∙ c.cleared v (λ z. h (other v q ∙ z)) o

        at : (i : ℕ) → i < j + 1 → i < length list → (get_or list i 0 ≡ get_or list j 0) ⊎ (get_or list i 0 ≡ get_or list j 0 → ⊥) → (i ≡ j) ⊎ (i ≡ j → ⊥) → mark (set after (get_or list j 0) 0) (get_or list i 0) ≢ 1
        at i m n (inl q) z = λ y. no_one (sym (ap (mark (set after (get_or list j 0) 0)) q ∙ here) ∙ y)
        at i m n (inr q) (inl z) = absurd (q (ap (λ y. get_or list y 0) z))
        at i m n (inr q) (inr z) = λ y. c.gone i (omega arith) n (sym (other (get_or list i 0) q) ∙ y)

pub cleared_all : (list marks after : List ℕ) (j : ℕ) → length list ≤ j → IsCleared list j marks after → IsCleared list (length list) marks after
cleared_all list marks after j l c = record { size = c.size; kept = c.kept; cleared = c.cleared; gone = λ i m n. c.gone i (omega arith) n }

-- by the edges in place of the rows
pub parts_by_edges : (n : ℕ) (from to : List ℕ) (rows : List (List ℕ)) (marks : List ℕ) → AreRows n from to rows → IsParted n (InRow rows) marks → ((u : ℕ) → u < n → mark marks u ≢ 0) → ArePartsOf n (Edge from to) marks
parts_by_edges n from to rows marks r p all = record {
  parted = record {
    size = p.size;
    joined = λ u v h e. walk_as (InRow rows) (Edge from to) r.sound u v (p.joined u v h e);
    whole = λ u v h b. p.whole u v h (walk_as (Edge from to) (InRow rows) r.whole u v b.0, walk_as (Edge from to) (InRow rows) r.whole v u b.1);
    rooted = p.rooted;
    none = p.none;
  };
  all = all;
}

pub part_done : (n : ℕ) (ahead back : List (List ℕ)) (root unset' : ℕ) (t0 t1 t2 t3 found found2 list : List ℕ) → AreTurned n ahead back → IsParted n (InRow ahead) t0
    → n ≡ length t0 → root < n → unset' ≡ get_or t0 root unset' → unset' ≡ 0
    → IsSearched back root 0 1 t0 t1 found → IsSearched ahead root 1 (root + 2) t1 t2 found2 → list ≡ found → IsCleared list (length list) t2 t3
    → IsPartedMore n (InRow ahead) root t0 t3
part_done n ahead back root unset' t0 t1 t2 t3 found found2 list turn p s l r z s1 s2 e c =
    let P : List ℕ → Type 0 = λ xs. IsCleared xs (length xs) t2 t3 in
    parted_more n ahead back root t0 t1 t2 t3 found found2 turn p (sym (get_or_default_zero t0 root unset' (let l' = l in omega arith)) ∙ sym r ∙ z) s1 s2 (subst P e c)

pub parted_at : (n : ℕ) (Goes : ℕ → ℕ → Type 0) (marks : List ℕ) → IsParted n Goes marks → IsParted (length marks) Goes marks
parted_at n Goes marks p = let P : ℕ → Type 0 = λ m. IsParted m Goes marks in subst P (sym p.size) p

pub more_from : (n : ℕ) (Goes : ℕ → ℕ → Type 0) (root : ℕ) (marks after : List ℕ) → IsParted n Goes marks → IsPartedMore (length marks) Goes root marks after → IsPartedMore n Goes root marks after
more_from n Goes root marks after p m = let P : ℕ → Type 0 = λ k. IsPartedMore k Goes root marks after in subst P p.size m

pub turned_at : (n : ℕ) (Goes : ℕ → ℕ → Type 0) (ahead back : List (List ℕ)) (marks : List ℕ) → IsParted n Goes marks → AreTurned n ahead back → AreTurned (length marks) ahead back
turned_at n Goes ahead back marks p t = let P : ℕ → Type 0 = λ m. AreTurned m ahead back in subst P (sym p.size) t
