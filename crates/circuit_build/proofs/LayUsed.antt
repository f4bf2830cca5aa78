-- Where a head may take an edge, the edge's ends are no outputs of queues that are still to be used: each place is open once.
use Rattle.std.proofs.Common.{◌≡◌, ℕ, zero, suc, ◌+◌, ◌*◌, ◌<◌, ◌≤◌, ◌^◌, List, [], ◌∷◌, ◌++◌, length, get_or, map, Bool, true, false, Option, Some, None, refl, ap, ◌∙◌, inl, inr, arith, length-append}
use Rattle.std.specs.Prelude.{slice_get, cond}
use Rattle.std.proofs.lemmas.Bool.{cases_eq}
use Rattle.std.proofs.lemmas.Option.{slice_get_within, get_or_from_slice_get}
use Rattle.ir.specs.declared.graph.Block.{Block}
use Rattle.ir.specs.declared.groups.Access.{Access}
use Rattle.ir.specs.declared.groups.Groups.{Groups}
use Rattle.ir.specs.Accesses.{IsStoredTo}
use Rattle.ir.specs.Graphs.{Graph, IsBlock}
use Rattle.net_types.specs.declared.net.Net.{Net}
use Rattle.net_types.specs.declared.net.Place.{Place}
use Rattle.net_types.specs.declared.net.Port.{Port}
use Rattle.net_types.specs.declared.net.Port.TheVariants.{Load, Store}
use Rattle.net_types.specs.declared.net.Unit.{Unit as Kind}
use Rattle.net_types.specs.declared.net.Unit.TheVariants.{Sink}
use Rattle.net_types.specs.Nets.{at}
use Rattle.net_types.specs.Tables.{outs, array_width}
use Rattle.circuit_build.specs.Asks.{IsAsked}
use Rattle.circuit_build.specs.Blocks.{ins_of, after_block, block_laid}
use Rattle.circuit_build.specs.Built.{join_of, front_of, with_feeders}
use Rattle.circuit_build.specs.Counted.{queue_for}
use Rattle.circuit_build.specs.Edges.{edge_counts}
use Rattle.circuit_build.specs.Endings.{result_widths}
use Rattle.circuit_build.specs.Fronts.{ports_of, groups_from, depth_from}
use Rattle.circuit_build.specs.Steps.{value_place, next_port, next_group}
use Rattle.circuit_build.specs.Drafts.{number, with_unit}
use Rattle.circuit_build.specs.declared.draft.Draft.{Draft}
use Rattle.circuit_build.specs.declared.draft.Edge.{Edge}
use Rattle.circuit_build.specs.declared.draft.End.{End}
use Rattle.circuit_build.specs.declared.draft.Queue.{Queue}
use Rattle.circuit_build.proofs.CountAccess.{groups_length}
use Rattle.circuit_build.proofs.CountBlocks.{jump_edges, all_edges, blocks_ports, Roomy, block_between, some_kept}
use Rattle.circuit_build.proofs.CountBooks.{Weight, row, outs_of}
use Rattle.circuit_build.proofs.CountChain.{at_own}
use Rattle.circuit_build.proofs.CountFronts.{queue_outs}
use Rattle.circuit_build.proofs.CountHeads.{all_get}
use Rattle.circuit_build.proofs.CountJumps.{Between}
use Rattle.circuit_build.proofs.CountKept.{heading, push_within, Kept}
use Rattle.circuit_build.proofs.CountQueues.{qsum, groups_left, port_values, queue_out, queue_some}
use Rattle.circuit_build.proofs.CountRules.{at_place, place_no, row_other, out_before}
use Rattle.circuit_build.proofs.CountSteps.{carried, is_zero, edges, groups_in}
use Rattle.circuit_build.proofs.CountStored.{groups_some}
use Rattle.circuit_build.proofs.CountWhole.{waiting_of, edges_to}
use Rattle.circuit_build.proofs.CountWhole as count
use Rattle.circuit_build.proofs.Keeps as keeps
use Rattle.circuit_build.proofs.Keeps.{Laid}
use Rattle.circuit_build.proofs.LayBlocks.{edge_places}
use Rattle.circuit_build.proofs.LayQueues.{QueuesKept}
use Rattle.circuit_build.proofs.LaySections.{UsedOf, Used, AllUsed}
use Rattle.circuit_build.proofs.Small.{arrays_few}
use Rattle.circuit_build.proofs.Targets.{one_if, tops_of, top_at}

-- ---- a place counts at its unit alone

outs_at : (net : Net) (u p n i : ℕ) (ks : List Kind) (ms : List Bool) → n + length ks ≤ 2 ^ 32 → u ≡ n + i → outs_of net (at_place u p) n ks ms ≤ row (at_place u p) u (outs net (get_or ms i false) (get_or ks i (Sink 0)))
outs_at net u p n i [] ms few e = omega arith
outs_at net u p n i (k ∷ ks) [] few e = omega arith
outs_at net u p n zero (k ∷ ks) (m ∷ ms) few e =
    let a = out_before net u p (suc n) ks ms (omega (arith, few)) (omega (arith, e)) in
    let z : number n ≡ u = omega (arith, few, e) in
    let b = ap (λ v. row (at_place u p) v (outs net m k)) z in
    omega (arith, a, b)
outs_at net u p n (suc i) (k ∷ ks) (m ∷ ms) few e =
    let a = row_other u p (number n) (outs net m k) (λ x. absurd (omega (arith, x, few, e))) in
    let b = outs_at net u p (suc n) i ks ms (omega (arith, few)) (omega (arith, e)) in
    omega (arith, a, b)

-- ---- what of a queue has been used, and what is still to be used

groups_same : (f : Weight) (q r : Queue) (n : ℕ) → q.unit ≡ r.unit → q.group ≡ r.group → groups_left f q n ≡ groups_left f r n
groups_same f q r zero u g = refl
groups_same f q r (suc n) u g =
    let a = ap (λ v. f (at v q.group) 32 true) u in
    let b = ap (λ v. f (at r.unit v) 32 true) g in
    let i = groups_same f (next_group q) (next_group r) n u (omega (arith, g)) in
    omega (arith, a, b, i)

groups_split : (f : Weight) (q r : Queue) (k n : ℕ) → q.unit ≡ r.unit → r.group ≡ q.group + k → q.group + k + n < 2 ^ 32 → groups_left f q (k + n) ≡ groups_left f q k + groups_left f r n
groups_split f q r zero n u g few =
    let a = ap (λ m. groups_left f q m) (let z : 0 + n ≡ n = omega arith in z) in
    let b = groups_same f q r n u (omega (arith, g)) in
    omega (arith, a, b)
groups_split f q r (suc k) n u g few =
    let a = ap (λ m. groups_left f q m) (let z : suc k + n ≡ suc (k + n) = omega arith in z) in
    let i = groups_split f (next_group q) r k n u (omega (arith, g, few)) (omega (arith, few)) in
    omega (arith, a, i)

values_same : (f : Weight) (w : ℕ) (q r : Queue) (ps : List Port) → q.unit ≡ r.unit → q.groups ≡ r.groups → q.port ≡ r.port → port_values f w q ps ≡ port_values f w r ps
values_same f w q r [] u g p = refl
values_same f w q r (Load ∷ ps) u g p =
    let a = ap (λ v. f (at v (value_place q)) w false) u in
    let b = ap (λ v. f (at r.unit v) w false) (let z : value_place q ≡ value_place r = omega (arith, g, p) in z) in
    let i = values_same f w (next_port q) (next_port r) ps u g (omega (arith, p)) in
    omega (arith, a, b, i)
values_same f w q r (Store ∷ ps) u g p = values_same f w (next_port q) (next_port r) ps u g (omega (arith, p))

values_split : (f : Weight) (w : ℕ) (q r : Queue) (us ps : List Port) → q.unit ≡ r.unit → q.groups ≡ r.groups → r.port ≡ q.port + length us → q.port + length us < 2 ^ 32 → port_values f w q (us ++ ps) ≡ port_values f w q us + port_values f w r ps
values_split f w q r [] ps u g p few = let a = values_same f w q r ps u g (omega (arith, p)) in omega (arith, a)
values_split f w q r (Load ∷ us) ps u g p few = let i = values_split f w (next_port q) r us ps u g (omega (arith, p, few)) (omega (arith, few)) in omega (arith, i)
values_split f w q r (Store ∷ us) ps u g p few = values_split f w (next_port q) r us ps u g (omega (arith, p, few)) (omega (arith, few))

groups_hit : (u p : ℕ) (q : Queue) (k : ℕ) → q.group + k < 2 ^ 32 → 1 ≤ groups_left (at_place u p) q k → p < q.group + k
groups_hit u p q zero few s = absurd (omega (arith, s))
groups_hit u p q (suc k) few s = elim (cases_eq q.group p) [
  | inl e ↦ omega (arith, e)
  | inr n ↦ (let a = place_no u p q.unit q.group n in let i = groups_hit u p (next_group q) k (omega (arith, few)) (omega (arith, a, s)) in omega (arith, i, few))
]

record InPorts (q : Queue) (n p : ℕ) : Type 0 where
  from : q.groups + 1 + q.port ≤ p
  to : p < q.groups + 1 + q.port + n

values_hit : (u p w : ℕ) (q : Queue) (ps : List Port) → q.groups + 1 + q.port + length ps < 2 ^ 32 → 1 ≤ port_values (at_place u p) w q ps → InPorts q (length ps) p
values_hit u p w q [] few s = absurd (omega (arith, s))
values_hit u p w q (Load ∷ ps) few s =
    let v : value_place q ≡ q.groups + 1 + q.port = omega (arith, few) in
    elim (cases_eq (value_place q) p) [
      | inl e ↦ record { from = omega (arith, e, v); to = omega (arith, e, v) }
      | inr n ↦ (let a = place_no u p q.unit (value_place q) n in let i = values_hit u p w (next_port q) ps (omega (arith, few)) (omega (arith, a, s)) in let x = i.from in let y = i.to in record { from = omega (arith, x, few); to = omega (arith, y, few) })
    ]
values_hit u p w q (Store ∷ ps) few s = let i = values_hit u p w (next_port q) ps (omega (arith, few)) s in let x = i.from in let y = i.to in record { from = omega (arith, x, few); to = omega (arith, y, few) }

queue_part : (K : ℕ → Queue → ℕ) (qs : List (Option Queue)) (a : ℕ) (q : Queue) → slice_get qs a ≡ Some (Some q) → K a q ≤ qsum K qs
queue_part K [] a q e = absurd (cc)
queue_part K (None ∷ qs) zero q e = absurd (cc)
queue_part K (Some r ∷ qs) zero q e = let z : r ≡ q = cc in let a = ap (λ x. K 0 x) z in omega (arith, a)
queue_part K (None ∷ qs) (suc a) q e = queue_part (λ b. K (suc b)) qs a q e
queue_part K (Some r ∷ qs) (suc a) q e = let i = queue_part (λ b. K (suc b)) qs a q e in omega (arith, i)

-- ---- the places of an edge that no head has taken

edge_part : (f : Weight) (hs : List ℕ) (es : List Edge) (i : ℕ) (e : Edge) → slice_get es i ≡ Some e → is_zero (slice_get hs e.to) ≡ false → f e.control 32 true + carried f e.with ≤ edges f hs es
edge_part f hs [] i e s free = absurd (cc)
edge_part f hs (y ∷ es) zero e s free =
    let z : y ≡ e = cc in
    let a = ap (λ (r : Edge). cond (is_zero (slice_get hs r.to)) 0 (f r.control 32 true + carried f r.with)) z in
    let b = ap (λ b. cond b 0 (f e.control 32 true + carried f e.with)) free in
    omega (arith, a, b)
edge_part f hs (y ∷ es) (suc i) e s free = let x = edge_part f hs es i e s free in omega (arith, x)

own_place : (p : Place) (w : ℕ) (c : Bool) → at_place p.unit p.place p w c ≡ 1
own_place p w c = ap (λ b. cond b 1 0) (at_own p p.unit p.place refl)

list_used : (low : ℕ) (qs : List (Option Queue)) (es : List End) → ((p : Place) → 1 ≤ carried (at_place p.unit p.place) es → Used low qs p) → AllUsed low qs (map (λ (x : End). Some x.place) es)
list_used low qs [] h = tt
list_used low qs (x ∷ es) h = (h x.place (let a = own_place x.place x.width false in omega (arith, a)), list_used low qs es (λ p s. h p (omega (arith, s))))

past_free : (hs : List ℕ) (t : ℕ) → length hs ≤ t → is_zero (slice_get hs t) ≡ false
past_free [] t l = refl
past_free (h ∷ hs) zero l = absurd (omega (arith, l))
past_free (h ∷ hs) (suc t) l = past_free hs t (omega (arith, l))

-- ---- a draft in balance, where blocks and accesses are still to come

pub record Balanced (g : Graph) (gs : Groups) (b : ℕ) (ks : List Block) (xs : List Access) (d : Draft) : Type 0 where
  pub most : ℕ
  pub so_far : ℕ → ℕ
  pub between : Between (heading g) (IsStoredTo g) (waiting_of g) (Kept (tops_of g) (edges_to g) b most so_far) (blocks_ports ks) (λ a. groups_in a xs) d
  pub room : most + 2 * length ks + 3 < 2 ^ 32
  pub less : (t : ℕ) → so_far t + all_edges (join_of g) ks t ≤ edges_to g t
  pub some : 0 < length d.units
  pub stays : (u : ℕ) (k : Kind) → slice_get (front_of g gs).units u ≡ Some k → slice_get d.units u ≡ Some k

any : Laid (λ k. Unit {0}) keeps.Free keeps.Free
any = record { const = λ w n. tt; op1 = λ op. tt; op2 = λ op. tt; select = λ w. tt; fork1 = λ w. tt; forks = λ w n s o. tt; mux = λ w n i. tt; merge = λ n i. tt; branch = λ w. tt; sink = λ w. tt }

abbrev Stays : Graph → Groups → Draft → Type 0
Stays g gs d = (u : ℕ) (k : Kind) → slice_get (front_of g gs).units u ≡ Some k → slice_get d.units u ≡ Some k

stays_more : (g : Graph) (gs : Groups) (x : Kind) (d : Draft) → Unit {0} → Stays g gs d → Stays g gs (with_unit x d)
stays_more g gs x d t h u k e = push_within d.units x u k (h u k e)

stays_same : (g : Graph) (gs : Groups) (d e : Draft) → e.units ≡ d.units → e.chans ≡ d.chans → Stays g gs d → Stays g gs e
stays_same g gs d e s c h u k i = ap (λ us. slice_get us u) s ∙ h u k i

module _ (g : Graph) (gs : Groups) (ask : IsAsked g gs) where
  arrays_small : length g.arrays < 2 ^ 32
  arrays_small = let a = arrays_few g.arrays ask.sound.arrays.some in let t = ask.sound.arrays.together in omega (arith, a, t)

  pub balanced_front : Balanced g gs 0 g.blocks gs.of (front_of g gs)
  balanced_front = record {
    most = 1;
    so_far = λ t. one_if 0 t;
    between = count.begun g gs ask.graph ask.share ask.small.bounded arrays_small;
    room = let b = ask.small.blocks in omega (arith, b);
    less = λ t. omega arith;
    some = count.front_some g gs;
    stays = λ u k e. e;
  }

  pub balanced_block : (b : ℕ) (k : Block) (ks : List Block) (xs : List Access) (d : Draft) → slice_get g.blocks b ≡ Some k → Balanced g gs b (k ∷ ks) xs d
      → Balanced g gs (suc b) ks (after_block b xs) (block_laid g.arrays (join_of g) (ins_of (edge_counts g.blocks) b) b k xs d)
  balanced_block b k ks xs d e h =
      let few = arrays_small in
      let ins = ins_of (edge_counts g.blocks) b in
      let l = slice_get_within g.blocks b k e in
      let top = top_at g.blocks (result_widths g.result) b k e in
      let x = block_between g (join_of g) (count.is_join g gs ask.graph ask.share ask.small.bounded few) (IsStoredTo g) (waiting_of g) (edges_to g) ins b k xs d h.most h.so_far (all_get (IsBlock g) g.blocks b k ask.graph.blocks e) (all_get Roomy g.blocks b k (count.blocks_roomy g.blocks ask.small.bounded) e)
      (count.steps_stored g b k e k.steps 0 (λ i s z. ap (λ j. slice_get k.steps j) (let y : 0 + i ≡ i = omega arith in y) ∙ z)) top h.some
      (λ f t. count.waiting g gs ask.graph ask.share ask.small.bounded few f b t k.args top) (count.totals g gs ask.graph ask.share ask.small.bounded few b (omega (arith, l))) (λ t. let y = h.less t in omega (arith, y)) (let r = h.room in omega (arith, r)) h.between in
      record {
        most = h.most + 2;
        so_far = λ t. h.so_far t + jump_edges (join_of g) k.jump t;
        between = x;
        room = let r = h.room in omega (arith, r);
        less = λ t. let y = h.less t in omega (arith, y);
        some = some_kept g.arrays (join_of g) ins b k xs d h.some;
        stays = keeps.block_keeps (Stays g gs) (λ k. Unit {0}) keeps.Free keeps.Free any (stays_more g gs) (λ p q w c d h. h) (stays_same g gs) (λ a. tt) g.arrays (join_of g) ins b tt k (keeps.free_block k) xs d h.stays;
      }

  pub balanced_fed : Balanced g gs (length g.blocks) [] [] (with_feeders g gs)
  balanced_fed =
      let n = length g.blocks in
      let s = keeps.blocks_of_keep (Stays g gs) (λ k. Unit {0}) keeps.Free keeps.Free any (stays_more g gs) (λ p q w c d h. h) (stays_same g gs) (λ a. tt) g gs (λ t. tt) (keeps.free g.blocks) (λ u k e. e) in
      record {
        most = suc (1 + 2 * n + n);
        so_far = edges_to g;
        between = count.fed g gs ask.graph ask.share ask.small.bounded arrays_small;
        room = let b = ask.small.blocks in omega (arith, b);
        less = λ t. omega arith;
        some = count.feeders_some g gs;
        stays = keeps.feeders_of_keep (Stays g gs) (λ k. Unit {0}) keeps.Free keeps.Free any (stays_more g gs) (λ p q w c d h. h) (stays_same g gs) g gs (keeps.free g.blocks) keeps.free_few s;
      }

  -- a place that is open beside the queues is an output of a queue that has been used
  place_used : (b : ℕ) (ks : List Block) (xs : List Access) (d : Draft) → length d.units < 2 ^ 32 → Balanced g gs b ks xs d → QueuesKept g gs ks xs d → (p : Place) → 1 ≤ edges (at_place p.unit p.place) d.heads d.edges → Used (length (front_of g gs).units) d.queues p
  place_used b ks xs d small h kept p s = inr (λ x q e u.
      (let k = kept.queue x q e in
      let here = queue_some d.queues x q e in
      let f = at_place p.unit p.place in
      let W : ℕ → ℕ = array_width g.arrays in
      let P = blocks_ports ks in
      let G : ℕ → ℕ = λ a. groups_in a xs in
      let ports = ports_of x g.blocks gs.of in
      let groups = groups_from x 0 gs.of in
      let books = h.between.books in
      let kind : get_or d.units p.unit (Sink 0) ≡ queue_for g gs x = ap (λ n. get_or d.units n (Sink 0)) u ∙ get_or_from_slice_get d.units q.unit (queue_for g gs x) (Sink 0) (h.stays q.unit (queue_for g gs x) k.unit) in
      let m = get_or books.marks p.unit false in
      let a1 = books.out f in
      let a2 = outs_at (heading g) p.unit p.place 0 p.unit d.units books.marks (omega (arith, small)) (omega arith) in
      let a3 = ap (λ v. row f p.unit (outs (heading g) m v)) kind in
      let gl = groups_length x 0 gs.of in
      let gr = groups_length x q.port xs in
      let gt = ap (λ l. length l) k.groups in
      let ga = length-append k.taken (groups_from x q.port xs) in
      let gk = k.group in
      let pt = ap (λ l. length l) k.ports in
      let pa = length-append k.used (P x) in
      let pk = k.next in
      let many = k.many in
      let some_group : 0 < length groups = some_of x k.stored in
      let su = (count.suits g gs ask.graph ask.share ask.small.bounded arrays_small x some_group).few in
      let q0 : Queue = record { unit = p.unit; groups = number (length groups); group = 0; port = 0 } in
      let a4 = queue_outs (heading g) f m x (depth_from x 16 gs.of) ports groups p.unit su in
      let num : number (length groups) ≡ q.groups = omega (arith, su, many) in
      let long : length groups ≡ q.group + G x = omega (arith, gt, ga, gk, gr) in
      let b1 = ap (λ n. groups_left f q0 n) long in
      let b2 = groups_split f q0 q q.group (G x) u (omega arith) (omega (arith, long, su)) in
      let b3 = ap (λ l. port_values f (W x) q0 l) k.ports in
      let b4 = values_split f (W x) q0 q k.used (P x) u num (omega (arith, pk)) (omega (arith, pt, pa, su)) in
      let b5 = ap (λ v. f (at v (number (length groups))) 32 true) u in
      let b6 = ap (λ v. f (at q.unit v) 32 true) num in
      let c = queue_part (λ a r. queue_out f (W a) r (P a) (G a)) d.queues x q here in
      let sum : 1 ≤ groups_left f q0 q.group + port_values f (W x) q0 k.used = omega (arith, a1, a2, a3, a4, b1, b2, b3, b4, b5, b6, c, s) in
      either (W x) p q q0 k.used (omega (arith, long)) refl num refl (omega (arith, pk)) (omega (arith, su, long, num)) (omega (arith, su, pt, pa, num)) sum))
    where
      some_of : (x : ℕ) → slice_get gs.read_only x ≡ Some false → 0 < length (groups_from x 0 gs.of)
      some_of x e =
          let s = ask.share.stored_to x e in
          let y = groups_some x gs.read_only 0 g.blocks s.number s.block s.place s.addr s.value s.is_block s.is_step e in
          let z = ap (λ l. groups_in x l) ask.share.accesses in
          let v = groups_length x 0 gs.of in
          omega (arith, y, z, v)

      either : (w : ℕ) (p : Place) (q q0 : Queue) (us : List Port) → q.group ≤ q0.groups → q0.group ≡ 0 → q0.groups ≡ q.groups → q0.port ≡ 0 → q.port ≡ length us → q.group < 2 ^ 32 → q.groups + 1 + length us < 2 ^ 32
          → 1 ≤ groups_left (at_place p.unit p.place) q0 q.group + port_values (at_place p.unit p.place) w q0 us → UsedOf q p
      either w p q q0 us g0 z0 gg zp pk few more s = by (groups_left (at_place p.unit p.place) q0 q.group) refl
        where
          by : (n : ℕ) → groups_left (at_place p.unit p.place) q0 q.group ≡ n → UsedOf q p
          by zero e = let i = values_hit p.unit p.place w q0 us (omega (arith, gg, zp, more)) (omega (arith, e, s)) in let x = i.from in let y = i.to in inr (omega (arith, x, gg, zp), omega (arith, y, gg, zp, pk))
          by (suc n) e = let i = groups_hit p.unit p.place q0 q.group (omega (arith, z0, few)) (omega (arith, e)) in inl (omega (arith, i, z0), omega (arith, i, z0, g0, gg))

  -- the edge that the head of block b may take, and that of the return join
  pub balanced_used : (b : ℕ) (ks : List Block) (xs : List Access) (d : Draft) → length d.units < 2 ^ 32 → Balanced g gs b ks xs d → QueuesKept g gs ks xs d → (i : ℕ) (e : Edge) → slice_get d.edges i ≡ Some e → e.to ≡ b → AllUsed (length (front_of g gs).units) d.queues (edge_places e)
  balanced_used b ks xs d small h kept i e s to =
      let hl = h.between.kept.heads in
      let free = past_free d.heads e.to (omega (arith, hl, to)) in
      let low = length (front_of g gs).units in (
        place_used b ks xs d small h kept e.control (let a = edge_part (at_place e.control.unit e.control.place) d.heads d.edges i e s free in let o = own_place e.control 32 true in omega (arith, a, o)),
        list_used low d.queues e.with (λ p n. place_used b ks xs d small h kept p (let a = edge_part (at_place p.unit p.place) d.heads d.edges i e s free in omega (arith, a, n))),
      )
