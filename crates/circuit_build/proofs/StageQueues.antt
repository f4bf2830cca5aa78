-- Queues at a stage: their places are of units in front of the block, and each waits for the ports of the steps that are left.
use Rattle.std.proofs.Common.{◌≡◌, ◌≢◌, ℕ, zero, suc, ◌+◌, ◌*◌, ◌<◌, ◌≤◌, ◌==◌, Bool, true, false, cond, Option, Some, None, List, [], ◌∷◌, ◌++◌, length, get_or, set, refl, sym, ap, subst, ◌∙◌, inl, inr, arith, slice_get, eq-eqb, ne_eqb}
use Rattle.std.proofs.lemmas.Bool.{cases_eq}
use Rattle.ir.specs.declared.instr.Instr.{Instr}
use Rattle.ir.specs.declared.groups.Groups.{Groups}
use Rattle.ir.specs.Accesses.{is_on}
use Rattle.ir.specs.Graphs.{Graph}
use Rattle.ir.specs.Steps.{cells, strays_past}
use Rattle.net_types.specs.declared.net.Place.{Place}
use Rattle.net_types.specs.declared.net.Port.{Port}
use Rattle.net_types.specs.declared.net.Port.TheVariants.{Load, Store}
use Rattle.net_types.specs.declared.net.Net.{Net}
use Rattle.net_types.specs.declared.net.Unit.{Unit as Kind}
use Rattle.net_types.specs.declared.net.Unit.TheVariants.{Lsq}
use Rattle.net_types.specs.Nets.{owns, uses, at}
use Rattle.net_types.specs.Tables.{Spot, spots, port_outs, array_width}
use Rattle.net_core.specs.Fire.{State, Own}
use Rattle.circuit_build.specs.declared.draft.Draft.{Draft}
use Rattle.circuit_build.specs.declared.draft.Queue.{Queue}
use Rattle.circuit_build.specs.Fronts.{ports_of}
use Rattle.circuit_build.specs.Counted.{queue_for}
use Rattle.circuit_build.specs.Drafts.{plus}
use Rattle.circuit_build.specs.Steps.{queue_or, queue_of, next_port, step_laid}
use Rattle.circuit_build.proofs.Marks.{Marks, Aside, Wired, own_set, awaits}
use Rattle.circuit_build.proofs.Stages.{spread, NotIn, Outside, Stage, Reaches}
use Rattle.circuit_build.proofs.SpreadLemmas.{is_not, spread_none, spread_front, take_front, add_front, pushed_same}
use Rattle.circuit_build.proofs.MarkLemmas.{own_here}
use Rattle.circuit_build.proofs.QueueLemmas.{alloc_goes, load_goes, store_goes}
use Rattle.circuit_build.proofs.LaySections.{HasPlace, Leaves, UsedOf, Used, AllUsed}
use Rattle.circuit_build.proofs.LayBlocks.{left_of, BooksAt}
use Rattle.circuit_build.proofs.LayBooks.{moved_if, step_queue}
use Rattle.circuit_build.proofs.StageParts.{reached}
use Rattle.circuit_build.proofs.StageKinds.{Calm, at_second, take_two, spots_have}

-- ---- what units keep

pub own_other : (own : ℕ → Own) (u v : ℕ) (o : Own) → v ≢ u → own_set u o own v ≡ own v
own_other own u v o n = let b : (v == u) ≡ false = ne_eqb v u n in rw b refl

pub calm_set : (net : Net) (a : Aside) (u x d : ℕ) (ps : List Port) (gs : List (List ℕ)) (o : Own) (xs : List (List ℕ)) (k : ℕ) → slice_get net.units u ≡ Some (Lsq x d ps gs false) → Calm net a
    → Calm net (record { own = own_set u o a.own; arrays = xs; strays = k })
calm_set net a u x d ps gs o xs k is calm v y e n = elim (cases_eq v u) [
  | inl z ↦ (let same : Some y ≡ Some (Lsq x d ps gs false) = sym e ∙ ap (slice_get net.units) z ∙ is in let h : y ≡ Lsq x d ps gs false = cc in let f : owns y ≡ Some x = ap owns h in absurd (cc))
  | inr z ↦ own_other a.own u v o z ∙ calm v y e n
]

-- ---- places of queues

-- an output of a queue that is still to be used is none of those that are used
pub unused : (low : ℕ) (qs : List (Option Queue)) (x : ℕ) (q : Queue) (o : ℕ) (ps : List (Option Place)) → queue_or (slice_get qs x) ≡ Some q → q.unit < low → ((p : Place) → UsedOf q p → o ≢ p.place) → AllUsed low qs ps → NotIn (at q.unit o) ps
unused low qs x q o [] is lt new h = tt
unused low qs x q o (None ∷ ps) is lt new h = unused low qs x q o ps is lt new h
unused low qs x q o (Some p ∷ ps) is lt new h = (
  (λ e. (let u : q.unit ≡ p.unit = ap (λ (r : Place). r.unit) e in
      elim h.0 [
        | inl l ↦ absurd (omega (arith, u, l, lt))
        | inr k ↦ new p (k x q is (sym u)) (ap (λ (r : Place). r.place) e)
      ])),
  unused low qs x q o ps is lt new h.1,
)

-- what is used stays so where queues move on
pub used_moves : (low : ℕ) (qs ks : List (Option Queue)) (f : Queue → Queue) (t : ℕ → Bool) → ((x : ℕ) → queue_or (slice_get ks x) ≡ moved_if f (t x) (queue_or (slice_get qs x))) → ((q : Queue) → (f q).unit ≡ q.unit)
    → ((x : ℕ) (q : Queue) (p : Place) → queue_or (slice_get qs x) ≡ Some q → t x ≡ true → UsedOf q p → UsedOf (f q) p) → (ps : List (Option Place)) → AllUsed low qs ps → AllUsed low ks ps
used_moves low qs ks f t moves same on [] h = tt
used_moves low qs ks f t moves same on (None ∷ ps) h = used_moves low qs ks f t moves same on ps h
used_moves low qs ks f t moves same on (Some p ∷ ps) h = (one h.0, used_moves low qs ks f t moves same on ps h.1)
  where
    one : Used low qs p → Used low ks p
    one (inl l) = inl l
    one (inr k) = inr (λ x q is u. by x q (queue_or (slice_get qs x)) (t x) refl refl (sym (moves x) ∙ is) u)
      where
        by : (x : ℕ) (q : Queue) (o : Option Queue) (b : Bool) → queue_or (slice_get qs x) ≡ o → t x ≡ b → moved_if f b o ≡ Some q → p.unit ≡ q.unit → UsedOf q p
        by x q None b e c i u = absurd (cc)
        by x q (Some r) true e c i u = let z : f r ≡ q = cc in subst (λ w. UsedOf w p) z (on x r p e c (k x r e (u ∙ (sym (ap (λ (w : Queue). w.unit) z) ∙ same r))))
        by x q (Some r) false e c i u = let z : r ≡ q = cc in subst (λ w. UsedOf w p) z (k x r e (u ∙ sym (ap (λ (w : Queue). w.unit) z)))

-- ---- outputs of a queue

has_left : (p : ℕ) (xs ys : List Spot) → HasPlace xs p → HasPlace (xs ++ ys) p
has_left p [] ys h = absurd h
has_left p (x ∷ xs) ys (inl e) = inl e
has_left p (x ∷ xs) ys (inr h) = inr (has_left p xs ys h)

has_right : (p : ℕ) (xs ys : List Spot) → HasPlace ys p → HasPlace (xs ++ ys) p
has_right p [] ys h = h
has_right p (x ∷ xs) ys h = inr (has_right p xs ys h)

port_has : (p w o : ℕ) (ps : List Port) → slice_get ps o ≡ Some Load → HasPlace (port_outs p w ps) (p + o)
port_has p w o [] e = absurd (cc)
port_has p w zero (Load ∷ ps) e = inl (omega arith)
port_has p w zero (Store ∷ ps) e = absurd (cc)
port_has p w (suc o) (Load ∷ ps) e = inr (subst (HasPlace (port_outs (p + 1) w ps)) (let z : p + 1 + o ≡ p + suc o = omega arith in z) (port_has (p + 1) w o ps e))
port_has p w (suc o) (Store ∷ ps) e = subst (HasPlace (port_outs (p + 1) w ps)) (let z : p + 1 + o ≡ p + suc o = omega arith in z) (port_has (p + 1) w o ps e)

module _ {net : Net} {scalars : List ℕ} (leaves : Leaves net) {a : Aside} {n m : ℕ} where
  module _ (u x depth : ℕ) (ports : List Port) (groups : List (List ℕ)) (is : slice_get net.units u ≡ Some (Lsq x depth ports groups false)) (early : u < n) where
    module _ {s : State} {p : Place} {v : ℕ} {ps : List (Option Place)} {vs : List ℕ} (st : Stage net scalars s a 0 n m (Some p ∷ ps) (v ∷ vs)) where
      abbrev m1 : Marks
      m1 = spread (Some p ∷ ps) (v ∷ vs)

      -- the control token takes a group of the queue
      pub alloc_front : (k g : ℕ) → a.own u ≡ awaits ports k [] → g < length groups → length (get_or groups g []) ≤ depth → Wired net p (at u g) → NotIn (at u g) (Some p ∷ ps)
          → Reaches net scalars s 1 (record a { own = own_set u (awaits ports k (get_or groups g [])) a.own }) 0 n m (Some (at u g) ∷ ps) (v ∷ vs)
      alloc_front k g own lt room wp new =
          let out = leaves u g (Lsq x depth ports groups false) is (has_left g (spots 0 32 true (suc (length groups))) (port_outs (length groups + 1) (array_width net.arrays x) ports) (spots_have 0 (suc (length groups)) 32 g true (omega arith) (omega (arith, lt)))) in
          let go = alloc_goes net scalars s m1 a st.shows u x depth ports groups is k g v p out.0 own lt room wp out.1 (spread_front p v ps vs) (spread_none (at u g) (Some p ∷ ps) (v ∷ vs) new) in
          reached (Some (at u g) ∷ ps) (v ∷ vs) go (omega arith)
          (λ r. pushed_same (at u g) v _ _ (take_front p v ps vs st.apart.0) r ∙ add_front (at u g) v ps vs new.1 r)
          (new.1, st.apart.1) (omega arith, inl early, st.outside.2) (let e = st.same in omega arith)

      -- a load by the port that waits first
      pub load_front : (k o : ℕ) (left : List ℕ) → a.own u ≡ awaits ports k (o ∷ left) → slice_get ports o ≡ Some Load → Wired net p (at u (length groups + 1 + 2 * o)) → NotIn (at u (length groups + 1 + o)) (Some p ∷ ps)
          → Reaches net scalars s 4 (record { own = own_set u (awaits ports (suc k) left) a.own; arrays = a.arrays; strays = a.strays + strays_past (cells a.arrays x) v }) 0 n m (Some (at u (length groups + 1 + o)) ∷ ps) (get_or (cells a.arrays x) v 0 ∷ vs)
      load_front k o left own port wp new =
          let c : ℕ = length groups + 1 + o in
          let y : ℕ = get_or (cells a.arrays x) v 0 in
          let out = leaves u c (Lsq x depth ports groups false) is (has_right c (spots 0 32 true (suc (length groups))) (port_outs (length groups + 1) (array_width net.arrays x) ports) (port_has (length groups + 1) (array_width net.arrays x) o ports port)) in
          let go = load_goes net scalars s m1 a st.shows u x depth ports groups is k o left v p out.0 own port wp out.1 (spread_front p v ps vs) (spread_none (at u c) (Some p ∷ ps) (v ∷ vs) new) in
          reached (Some (at u c) ∷ ps) (y ∷ vs) go (omega arith)
          (λ r. pushed_same (at u c) y _ _ (take_front p v ps vs st.apart.0) r ∙ add_front (at u c) y ps vs new.1 r)
          (new.1, st.apart.1) (omega arith, inl early, st.outside.2) (let e = st.same in omega arith)

module _ {net : Net} {scalars : List ℕ} {a : Aside} {low n m : ℕ} (u x depth : ℕ) (ports : List Port) (groups : List (List ℕ)) (is : slice_get net.units u ≡ Some (Lsq x depth ports groups false)) where
  -- a store by the port that waits first: address and value are in front
  pub store_front : {s : State} {p q : Place} {v y : ℕ} {ps : List (Option Place)} {vs : List ℕ} → Stage net scalars s a low n m (Some p ∷ Some q ∷ ps) (v ∷ y ∷ vs)
      → (k o : ℕ) (left : List ℕ) → a.own u ≡ awaits ports k (o ∷ left) → slice_get ports o ≡ Some Store → Wired net p (at u (length groups + 1 + 2 * o)) → Wired net q (at u (length groups + 2 + 2 * o))
      → Reaches net scalars s 4 (record { own = own_set u (awaits ports (suc k) left) a.own; arrays = set a.arrays x (set (cells a.arrays x) v y); strays = a.strays + strays_past (cells a.arrays x) v }) low n m ps vs
  store_front {s = s} {p = p} {q = q} {v = v} {y = y} {ps = ps} {vs = vs} st k o left own port wp wq =
      let go = store_goes net scalars s (spread (Some p ∷ Some q ∷ ps) (v ∷ y ∷ vs)) a st.shows u x depth ports groups is k o left v y p q own port wp wq
      (spread_front p v (Some q ∷ ps) (y ∷ vs)) (at_second p q v y ps vs st.apart.0.0) (is_not q p (λ e. st.apart.0.0 (sym e))) in
      reached ps vs go (omega arith) (take_two p q v y ps vs st.apart.0 st.apart.1.0) st.apart.1.1 st.outside.2.2 (let e = st.same in omega arith)

-- ---- the ports that wait

abbrev or_zero : Option ℕ → ℕ
or_zero None = 0
or_zero (Some a) = a

-- the array of a unit
abbrev pub array_of : Option Kind → ℕ
array_of None = 0
array_of (Some k) = or_zero (uses k)

module _ (g : Graph) (gs : Groups) where
  pub record Waiting (own : ℕ → Own) (x : ℕ) (q : Queue) (left : List ℕ) : Type 0 where
    pub serial : ℕ
    pub keeps : own q.unit ≡ awaits (ports_of x g.blocks gs.of) serial left

  -- each queue of the draft waits for the ports of the steps on its array, and no entry has come to it
  abbrev pub Waits : (ℕ → Own) → Draft → List Instr → Type 0
  Waits own d is = (x : ℕ) (q : Queue) → queue_of d x ≡ Some q → Waiting own x q (left_of x q.port is)

  module _ (net : Net) where
    pub units_differ : (x y u v : ℕ) → slice_get net.units u ≡ Some (queue_for g gs x) → slice_get net.units v ≡ Some (queue_for g gs y) → x ≢ y → v ≢ u
    units_differ x y u v eu ev n e =
        let k : Some (queue_for g gs x) ≡ Some (queue_for g gs y) = sym eu ∙ ap (slice_get net.units) (sym e) ∙ ev in
        n (ap array_of k)

    -- a step on an array whose queue took the step's port
    pub waits_access : (x : ℕ) (q : Queue) (i : Instr) (is : List Instr) (d : Draft) (own : ℕ → Own) (serial : ℕ) → BooksAt g gs net (i ∷ is) d → queue_of d x ≡ Some q → ((y : ℕ) → is_on y i ≡ (x == y)) → Waits own d (i ∷ is)
        → Waits (own_set q.unit (awaits (ports_of x g.blocks gs.of) serial (left_of x (plus q.port 1) is)) own) (step_laid g.arrays i d) is
    waits_access x q i is d own serial books here on waits y p e =
        let o : Own = awaits (ports_of x g.blocks gs.of) serial (left_of x (plus q.port 1) is) in
        let f : moved_if next_port (x == y) (queue_of d y) ≡ Some p = sym (ap (λ t. moved_if next_port t (queue_of d y)) (on y)) ∙ (sym (step_queue g.arrays i d y) ∙ e) in
        elim (cases_eq x y) [
          | inl z ↦
              (let t : (x == y) ≡ true = eq-eqb x y z in
              let h : queue_of d y ≡ Some q = ap (queue_of d) (sym z) ∙ here in
              let k : Some (next_port q) ≡ Some p = sym (ap (λ b. moved_if next_port b (Some q)) t) ∙ (sym (ap (moved_if next_port (x == y)) h) ∙ f) in
              let r : next_port q ≡ p = cc in
              record {
                serial = serial;
                keeps = ap (own_set q.unit o own) (sym (ap (λ (c : Queue). c.unit) r)) ∙ (own_here own q.unit o
                    ∙ (ap (λ c. awaits (ports_of c g.blocks gs.of) serial (left_of c (plus q.port 1) is)) z ∙ ap (λ (c : Queue). awaits (ports_of y g.blocks gs.of) serial (left_of y c.port is)) r));
              })
          | inr z ↦
              (let t : (x == y) ≡ false = ne_eqb x y z in
              let h : queue_of d y ≡ Some p = same_queue (queue_of d y) (sym (ap (λ b. moved_if next_port b (queue_of d y)) t) ∙ f) in
              let w = waits y p h in
              let u : p.unit ≢ q.unit = units_differ x y q.unit p.unit (books.queue x q here).unit (books.queue y p h).unit z in
              record { serial = w.serial; keeps = own_other own q.unit p.unit o u ∙ (w.keeps ∙ ap (λ b. awaits (ports_of y g.blocks gs.of) w.serial (cond b (p.port ∷ left_of y (plus p.port 1) is) (left_of y p.port is))) (on y ∙ t)) })
        ]
      where
        same_queue : (c : Option Queue) → moved_if next_port false c ≡ Some p → c ≡ Some p
        same_queue None k = k
        same_queue (Some r) k = k

    -- a step on no array that has a queue
    pub waits_plain : (i : Instr) (is : List Instr) (d : Draft) (own : ℕ → Own) → ((y : ℕ) (q : Queue) → queue_of d y ≡ Some q → is_on y i ≡ false) → Waits own d (i ∷ is) → Waits own (step_laid g.arrays i d) is
    waits_plain i is d own off waits y p e = by (queue_of d y) refl (sym (step_queue g.arrays i d y) ∙ e)
      where
        by : (c : Option Queue) → queue_of d y ≡ c → moved_if next_port (is_on y i) c ≡ Some p → Waiting own y p (left_of y p.port is)
        by None h k = absurd (cc)
        by (Some r) h k =
            let t = off y r h in
            let z : Some r ≡ Some p = sym (ap (λ b. moved_if next_port b (Some r)) t) ∙ k in
            let w = waits y p (h ∙ z) in
            record { serial = w.serial; keeps = w.keeps ∙ ap (λ b. awaits (ports_of y g.blocks gs.of) w.serial (cond b (p.port ∷ left_of y (plus p.port 1) is) (left_of y p.port is))) t }
