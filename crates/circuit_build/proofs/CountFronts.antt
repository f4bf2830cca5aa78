-- What stands before the blocks keeps the balance: the entry and the scalars are an edge, and each queue brings its places.
use Rattle.std.proofs.Common.{◌≡◌, ℕ, zero, suc, ◌+◌, ◌*◌, ◌<◌, ◌^◌, List, [], ◌∷◌, ◌++◌, length, map, Bool, true, false, Option, Some, None, refl, sym, ap, ◌∙◌, arith, length-append}
use Rattle.std.specs.Prelude.{IsTrue, slice_get, set}
use Rattle.std.proofs.lemmas.List.Elements.{All-nil, All-cons}
use Rattle.el_base.specs.declared.ty.Array.{Array}
use Rattle.el_base.specs.declared.ty.Scalar.{Scalar}
use Rattle.el_base.specs.Widths.{ty_width}
use Rattle.ir.specs.declared.graph.Block.{Block}
use Rattle.ir.specs.declared.groups.Access.{Access}
use Rattle.net_types.specs.declared.net.Net.{Net}
use Rattle.net_types.specs.declared.net.Port.{Port}
use Rattle.net_types.specs.declared.net.Port.TheVariants.{Load, Store}
use Rattle.net_types.specs.declared.net.Unit.TheVariants.{Entry, Param, Lsq}
use Rattle.net_types.specs.Nets.{at}
use Rattle.net_types.specs.Tables.{Spot, spots, outs, port_ins, port_outs, array_width, scalar_width}
use Rattle.net_types.specs.Rules.{width_fits}
use Rattle.circuit_build.specs.declared.draft.Draft.{Draft}
use Rattle.circuit_build.specs.declared.draft.Edge.{Edge}
use Rattle.circuit_build.specs.declared.draft.Queue.{Queue}
use Rattle.circuit_build.specs.Drafts.{number, plus, next, with_unit}
use Rattle.circuit_build.specs.Uses.{zeros}
use Rattle.circuit_build.specs.Steps.{value_place, addr_place, data_place, next_port, next_group}
use Rattle.circuit_build.specs.Fronts.{started, params_laid, param_ends, entered, ports_of, groups_from, depth_from, queue_if, queues_laid}
use Rattle.circuit_build.proofs.CountBooks.{Weight, Sum, row, Books, moved, lay_unit}
use Rattle.circuit_build.proofs.CountQueues.{qsum, groups_left, port_values, port_operands, queue_out, queue_in, queues_out, queues_in}
use Rattle.circuit_build.proofs.CountSteps.{carried, edges}
use Rattle.circuit_build.proofs.CountJumps.{widths, Same}

-- ---- the entry and the scalars

pub started_books : (net : Net) (n : ℕ) → Books net (started n).units (started n).chans (λ f. 0) (λ f. f (at 0 0) 32 true)
started_books net n = record {
  marks = false ∷ [];
  same = refl;
  out = λ f. omega arith;
  into = λ f. refl;
  fit = All-cons (λ k. IsTrue (width_fits k)) Entry [] refl (All-nil (λ k. IsTrue (width_fits k)));
}

params_books : {net : Net} {o : Sum} (ss : List Scalar) (j : ℕ) (d : Draft) (h : Sum) → ((i : ℕ) (s : Scalar) → slice_get ss i ≡ Some s → scalar_width net.scalars (j + i) ≡ ty_width s.ty) → j + length ss < 2 ^ 32 → Books net d.units d.chans o h
    → Books net (params_laid j ss d).units (params_laid j ss d).chans o (λ f. carried f (param_ends j ss d) + h f)
params_books {net} {o} [] j d h e few b = moved o (λ f. 0 + h f) b (λ f. refl) (λ f. omega arith)
params_books {net} {o} (s ∷ ss) j d h e few b =
    let n = next d in
    let w : scalar_width net.scalars j ≡ ty_width s.ty = ap (λ i. scalar_width net.scalars i) (let z : j ≡ j + 0 = omega arith in z) ∙ e 0 s refl in
    let x = lay_unit (Param j) false o (λ f. f (at n 0) (ty_width s.ty) false + h f) b refl (λ f. omega arith) (λ f. let y = ap (λ v. f (at n 0) v false) w in omega (arith, y)) in
    let i = params_books ss (plus j 1) (with_unit (Param j) d) (λ f. f (at n 0) (ty_width s.ty) false + h f)
    (λ i t g. ap (λ k. scalar_width net.scalars k) (let z : plus j 1 + i ≡ j + suc i = omega arith in z) ∙ e (suc i) t g) (omega arith) x in
    moved o (λ f. carried f (param_ends j (s ∷ ss) d) + h f) i (λ f. refl) (λ f. omega arith)

params_same : (ss : List Scalar) (j : ℕ) (d : Draft) → Same d (params_laid j ss d)
params_same [] j d = record { edges = refl; heads = refl; queues = refl }
params_same (s ∷ ss) j d = let i = params_same ss (plus j 1) (with_unit (Param j) d) in record { edges = i.edges; heads = i.heads; queues = i.queues }

params_tails : (ss : List Scalar) (j : ℕ) (d : Draft) → (params_laid j ss d).tails ≡ d.tails
params_tails [] j d = refl
params_tails (s ∷ ss) j d = params_tails ss (plus j 1) (with_unit (Param j) d)

pub params_widths : (ss : List Scalar) (j : ℕ) (d : Draft) → widths (param_ends j ss d) ≡ map (λ s. ty_width s.ty) ss
params_widths [] j d = refl
params_widths (s ∷ ss) j d = ap (λ l. ty_width s.ty ∷ l) (params_widths ss (plus j 1) (with_unit (Param j) d))

scalar_at : (ss : List Scalar) (i : ℕ) (s : Scalar) → slice_get ss i ≡ Some s → scalar_width ss i ≡ ty_width s.ty
scalar_at [] i s e = absurd (cc)
scalar_at (x ∷ ss) zero s e = let z : x ≡ s = cc in ap (λ (r : Scalar). ty_width r.ty) z
scalar_at (x ∷ ss) (suc i) s e = scalar_at ss i s e

-- the entry and the scalars are the first edge
pub record Entered (net : Net) (ss : List Scalar) (n : ℕ) : Type 0 where
  pub books : Books net (entered ss (started n)).units (entered ss (started n)).chans (λ f. 0) (λ f. edges f (entered ss (started n)).heads (entered ss (started n)).edges)
  pub edges_are : (entered ss (started n)).edges ≡ record { to = 0; control = at 0 0; with = param_ends 0 ss (started n) } ∷ []
  pub heads_are : (entered ss (started n)).heads ≡ []
  pub tails_are : (entered ss (started n)).tails ≡ set (zeros n) 0 (number 1)
  pub queues_are : (entered ss (started n)).queues ≡ []

pub entered_books : (net : Net) (n : ℕ) → length net.scalars < 2 ^ 32 → Entered net net.scalars n
entered_books net n few =
    let ss = net.scalars in
    let d = started n in
    let s = params_same ss 0 d in
    let b = params_books ss 0 d (λ f. f (at 0 0) 32 true) (λ i t e. ap (λ k. scalar_width net.scalars k) (let z : 0 + i ≡ i = omega arith in z) ∙ scalar_at ss i t e) (omega arith) (started_books net n) in
    let x : Edge = record { to = 0; control = at 0 0; with = param_ends 0 ss d } in
    let is : (entered ss d).edges ≡ x ∷ [] = ap (λ es. es ++ x ∷ []) s.edges in
    record {
      books = moved (λ f. 0) (λ f. edges f (entered ss d).heads (entered ss d).edges) b (λ f. refl) (λ f. let e = ap (λ es. edges f (entered ss d).heads es) is in let h = ap (λ hs. edges f hs (x ∷ [])) s.heads in omega (arith, e, h));
      edges_are = is;
      heads_are = s.heads;
      tails_are = ap (λ ts. set ts 0 (number (length (entered ss d).edges))) (params_tails ss 0 d) ∙ ap (λ es. set (zeros n) 0 (number (length es))) is;
      queues_are = s.queues;
    }

-- ---- queues

row_append : (f : Weight) (n : ℕ) (xs ys : List Spot) → row f n (xs ++ ys) ≡ row f n xs + row f n ys
row_append f n [] ys = omega arith
row_append f n (x ∷ xs) ys = let i = row_append f n xs ys in omega (arith, i)

-- the places of the groups, and that of the end
groups_row : (f : Weight) (q : Queue) (p k : ℕ) → q.group ≡ p → p + k < 2 ^ 32 → row f q.unit (spots p 32 true (suc k)) ≡ groups_left f q k + f (at q.unit (p + k)) 32 true
groups_row f q p zero e few = let z = ap (λ n. f (at q.unit n) 32 true) (let z : p ≡ p + 0 = omega arith in z) in omega (arith, z)
groups_row f q p (suc k) e few =
    let i = groups_row f (next_group q) (suc p) k (omega (arith, e)) (omega arith) in
    let x = ap (λ n. f (at q.unit n) 32 true) e in
    let y = ap (λ n. f (at q.unit n) 32 true) (let z : suc p + k ≡ p + suc k = omega arith in z) in
    omega (arith, i, x, y)

values_row : (f : Weight) (w : ℕ) (ps : List Port) (q : Queue) (p : ℕ) → p ≡ q.groups + 1 + q.port → p + length ps < 2 ^ 32 → row f q.unit (port_outs p w ps) ≡ port_values f w q ps
values_row f w [] q p e few = refl
values_row f w (Load ∷ ps) q p e few =
    let z : p ≡ value_place q = omega (arith, e) in
    let i = values_row f w ps (next_port q) (p + 1) (omega (arith, e)) (omega arith) in
    let x = ap (λ n. f (at q.unit n) w false) z in
    omega (arith, i, x)
values_row f w (Store ∷ ps) q p e few = values_row f w ps (next_port q) (p + 1) (omega (arith, e)) (omega arith)

operands_row : (f : Weight) (w : ℕ) (ps : List Port) (q : Queue) (p : ℕ) → p ≡ q.groups + 1 + q.port + q.port → p + 2 * length ps < 2 ^ 32 → row f q.unit (port_ins p w ps) ≡ port_operands f w q ps
operands_row f w [] q p e few = refl
operands_row f w (Load ∷ ps) q p e few =
    let z : p ≡ addr_place q = omega (arith, e) in
    let i = operands_row f w ps (next_port q) (p + 2) (omega (arith, e)) (omega arith) in
    let x = ap (λ n. f (at q.unit n) 64 false) z in
    omega (arith, i, x)
operands_row f w (Store ∷ ps) q p e few =
    let z : p ≡ addr_place q = omega (arith, e) in
    let y : p + 1 ≡ data_place q = omega (arith, e) in
    let i = operands_row f w ps (next_port q) (p + 2) (omega (arith, e)) (omega arith) in
    let x = ap (λ n. f (at q.unit n) 64 false) z in
    let v = ap (λ n. f (at q.unit n) w false) y in
    omega (arith, i, x, v)

qsum_none_more : (K : ℕ → Queue → ℕ) (qs : List (Option Queue)) → qsum K (qs ++ None ∷ []) ≡ qsum K qs
qsum_none_more K [] = refl
qsum_none_more K (None ∷ qs) = qsum_none_more (λ a. K (suc a)) qs
qsum_none_more K (Some q ∷ qs) = ap (λ x. K 0 q + x) (qsum_none_more (λ a. K (suc a)) qs)

qsum_more : (K : ℕ → Queue → ℕ) (qs : List (Option Queue)) (q : Queue) → qsum K (qs ++ Some q ∷ []) ≡ qsum K qs + K (length qs) q
qsum_more K [] q = omega arith
qsum_more K (None ∷ qs) q = qsum_more (λ a. K (suc a)) qs q
qsum_more K (Some x ∷ qs) q = let i = qsum_more (λ a. K (suc a)) qs q in omega (arith, i)

-- P and G are the ports and groups of each array that has a queue
pub record Fronted (net : Net) (P : ℕ → List Port) (G : ℕ → ℕ) (d : Draft) (a : ℕ) : Type 0 where
  pub books : Books net d.units d.chans (λ f. queues_in f (array_width net.arrays) P G d.queues) (λ f. edges f d.heads d.edges + queues_out f (array_width net.arrays) P G d.queues)
  pub many : length d.queues ≡ a

-- what a queue of the array a is to be
pub record Suits (P : ℕ → List Port) (G : ℕ → ℕ) (a : ℕ) (ps : List Port) (gs : List (List ℕ)) : Type 0 where
  pub ports : P a ≡ ps
  pub groups : G a ≡ length gs
  pub few : length gs + 2 + 2 * length ps < 2 ^ 32

queue_fronted : {net : Net} {P : ℕ → List Port} {G : ℕ → ℕ} (a : ℕ) (ps : List Port) (gs : List (List ℕ)) (m : ℕ) (d : Draft) → (0 < length gs → Suits P G a ps gs) → Fronted net P G d a → Fronted net P G (queue_if a ps gs m d) (suc a)
queue_fronted {net} {P} {G} a ps [] m d s h =
    let W : ℕ → ℕ = array_width net.arrays in
    let K : Weight → ℕ → Queue → ℕ = λ f b q. queue_in f (W b) q (P b) (G b) in
    let L : Weight → ℕ → Queue → ℕ = λ f b q. queue_out f (W b) q (P b) (G b) in
    record {
      books = moved (λ f. queues_in f W P G (d.queues ++ None ∷ [])) (λ f. edges f d.heads d.edges + queues_out f W P G (d.queues ++ None ∷ [])) h.books (λ f. sym (qsum_none_more (K f) d.queues)) (λ f. let x = qsum_none_more (L f) d.queues in omega (arith, x));
      many = let l = length-append d.queues (None ∷ []) in let x = h.many in omega (arith, l, x);
    }
queue_fronted {net} {P} {G} a ps (g ∷ gs) m d s h =
    let W : ℕ → ℕ = array_width net.arrays in
    let hs = g ∷ gs in
    let K : Weight → ℕ → Queue → ℕ = λ f b q. queue_in f (W b) q (P b) (G b) in
    let L : Weight → ℕ → Queue → ℕ = λ f b q. queue_out f (W b) q (P b) (G b) in
    let t = s (omega arith) in
    let few = t.few in
    let groups = t.groups in
    let n = next d in
    let q : Queue = record { unit = n; groups = number (length hs); group = 0; port = 0 } in
    let z : 0 + length hs ≡ number (length hs) = omega (arith, few) in
    let g_row : (f : Weight) → row f n (spots 0 32 true (suc (length hs))) ≡ groups_left f q (G a) + f (at n q.groups) 32 true =
    λ f. let x = groups_row f q 0 (length hs) refl (omega (arith, few)) in let y = ap (λ v. f (at n v) 32 true) z in let v = ap (λ c. groups_left f q c) groups in omega (arith, x, y, v) in
    let b = lay_unit (Lsq a m ps hs false) false (λ f. queues_in f W P G d.queues + queue_in f (W a) q (P a) (G a)) (λ f. edges f d.heads d.edges + queues_out f W P G d.queues + queue_out f (W a) q (P a) (G a)) h.books refl
    (λ f. let x = row_append f n (spots 0 32 true (suc (length hs))) (port_ins (length hs + 1) (W a) ps) in let y = g_row f in
    let v = operands_row f (W a) ps q (length hs + 1) (omega (arith, few)) (omega (arith, few)) in let w = ap (λ l. port_operands f (W a) q l) t.ports in omega (arith, x, y, v, w))
    (λ f. let x = row_append f n (spots 0 32 true (suc (length hs))) (port_outs (length hs + 1) (W a) ps) in let y = g_row f in
    let v = values_row f (W a) ps q (length hs + 1) (omega (arith, few)) (omega (arith, few)) in let w = ap (λ l. port_values f (W a) q l) t.ports in omega (arith, x, y, v, w)) in
    record {
      books = moved (λ f. queues_in f W P G (d.queues ++ Some q ∷ [])) (λ f. edges f d.heads d.edges + queues_out f W P G (d.queues ++ Some q ∷ [])) b
          (λ f. let x = qsum_more (K f) d.queues q in let y = ap (λ c. K f c q) h.many in omega (arith, x, y)) (λ f. let x = qsum_more (L f) d.queues q in let y = ap (λ c. L f c q) h.many in omega (arith, x, y));
      many = let l = length-append d.queues (Some q ∷ []) in let x = h.many in omega (arith, l, x);
    }

-- the outputs of a queue that is laid are those that are open at first
pub queue_outs : (net : Net) (f : Weight) (m : Bool) (a dep : ℕ) (ps : List Port) (hs : List (List ℕ)) (u : ℕ) → length hs + 2 + 2 * length ps < 2 ^ 32
    → row f u (outs net m (Lsq a dep ps hs false)) ≡ queue_out f (array_width net.arrays a) (record { unit = u; groups = number (length hs); group = 0; port = 0 }) ps (length hs)
queue_outs net f m a dep ps hs u few =
    let w = array_width net.arrays a in
    let q : Queue = record { unit = u; groups = number (length hs); group = 0; port = 0 } in
    let z : 0 + length hs ≡ number (length hs) = omega (arith, few) in
    let e = row_append f u (spots 0 32 true (suc (length hs))) (port_outs (length hs + 1) w ps) in
    let x = groups_row f q 0 (length hs) refl (omega (arith, few)) in
    let y = ap (λ v. f (at u v) 32 true) z in
    let v = values_row f w ps q (length hs + 1) (omega (arith, few)) (omega (arith, few)) in
    omega (arith, e, x, y, v)

pub queues_fronted : {net : Net} {P : ℕ → List Port} {G : ℕ → ℕ} (ks : List Block) (of : List Access) (a : ℕ) (xs : List Array) (d : Draft) → ((b : ℕ) → 0 < length (groups_from b 0 of) → Suits P G b (ports_of b ks of) (groups_from b 0 of)) → a + length xs < 2 ^ 32 → Fronted net P G d a
    → Fronted net P G (queues_laid ks of a xs d) (a + length xs)
queues_fronted ks of a [] d s few h = record { books = h.books; many = let x = h.many in omega (arith, x) }
queues_fronted {net} {P} {G} ks of a (x ∷ xs) d s few h =
    let e = queue_if a (ports_of a ks of) (groups_from a 0 of) (depth_from a 16 of) d in
    let y = queue_fronted a (ports_of a ks of) (groups_from a 0 of) (depth_from a 16 of) d (s a) h in
    let z : suc a ≡ plus a 1 = omega arith in
    let i = queues_fronted ks of (plus a 1) xs e s (omega arith) (record { books = y.books; many = y.many ∙ z }) in
    record { books = i.books; many = let m = i.many in omega (arith, m) }

-- queues leave the edges and the heads
if_same : (a : ℕ) (ps : List Port) (gs : List (List ℕ)) (m : ℕ) (d : Draft) → ((queue_if a ps gs m d).edges ≡ d.edges) × ((queue_if a ps gs m d).heads ≡ d.heads) × ((queue_if a ps gs m d).tails ≡ d.tails)
if_same a ps [] m d = (refl, refl, refl)
if_same a ps (g ∷ gs) m d = (refl, refl, refl)

pub queues_same : (ks : List Block) (of : List Access) (a : ℕ) (xs : List Array) (d : Draft) → ((queues_laid ks of a xs d).edges ≡ d.edges) × ((queues_laid ks of a xs d).heads ≡ d.heads) × ((queues_laid ks of a xs d).tails ≡ d.tails)
queues_same ks of a [] d = (refl, refl, refl)
queues_same ks of a (x ∷ xs) d =
    let e = queue_if a (ports_of a ks of) (groups_from a 0 of) (depth_from a 16 of) d in
    let y = if_same a (ports_of a ks of) (groups_from a 0 of) (depth_from a 16 of) d in
    let i = queues_same ks of (plus a 1) xs e in
    (i.0 ∙ y.0, i.1 ∙ y.1, i.2 ∙ y.2)
