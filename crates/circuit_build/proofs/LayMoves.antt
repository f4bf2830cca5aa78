-- The books of queues from block to block, and what is known of the queues and of the accesses of a block.
use Rattle.std.proofs.Common.{◌≡◌, ℕ, suc, ◌+◌, ◌^◌, ◌<◌, ◌≤◌, List, [], ◌∷◌, ◌++◌, length, get_or, map, Bool, true, false, Option, Some, None, refl, sym, ap, ◌∙◌, subst, inl, inr, arith, append_assoc, append-nil, length-append}
use Rattle.std.specs.Prelude.{cond, slice_get, ◌==◌}
use Rattle.std.specs.List.{Contains}
use Rattle.std.proofs.lemmas.Bool.{cases_lt}
use Rattle.std.proofs.lemmas.List.Elements.{All-contains}
use Rattle.std.proofs.lemmas.Option.{slice_get_within, slice_get-get_or, get_or_from_slice_get}
use Rattle.std.proofs.Math.Seq.{get_or-append_seam}
use Rattle.el_base.specs.declared.ty.Array.{Array}
use Rattle.ir.specs.declared.graph.Block.{Block}
use Rattle.ir.specs.declared.groups.Access.{Access}
use Rattle.ir.specs.declared.groups.Groups.{Groups}
use Rattle.ir.specs.declared.instr.Instr.{Instr}
use Rattle.ir.specs.declared.instr.Instr.TheVariants as step
use Rattle.ir.specs.Accesses.{is_on, places_from, block_accesses, accesses_from}
use Rattle.ir.specs.Graphs.{Graph, IsBlock}
use Rattle.ir.specs.Shapes.{Shape, StepsFit, step_width}
use Rattle.net_types.specs.declared.net.Port.{Port}
use Rattle.net_types.specs.declared.net.Port.TheVariants.{Load, Store}
use Rattle.net_types.specs.Queues.{IsGroup, IsQueueShape}
use Rattle.net_check.specs.Shapes.{HasShape}
use Rattle.circuit_build.specs.Drafts.{plus}
use Rattle.circuit_build.specs.Asks.{IsAsked}
use Rattle.circuit_build.specs.Blocks.{allocations, early_triggers, late_triggers, block_opened, block_grouped, block_laid}
use Rattle.circuit_build.specs.Built.{front_of, whole_draft, built}
use Rattle.circuit_build.specs.Counted.{queue_for}
use Rattle.circuit_build.specs.declared.draft.Draft.{Draft}
use Rattle.circuit_build.specs.declared.draft.Queue.{Queue}
use Rattle.circuit_build.specs.Fronts.{ports_of, groups_from, depth_from, numbers_from, number_after}
use Rattle.circuit_build.specs.Steps.{queue_or, queue_of, next_port, next_group, step_laid, steps_laid}
use Rattle.circuit_build.proofs.CountAccess.{steps_more}
use Rattle.circuit_build.proofs.CountBlocks.{blocks_ports}
use Rattle.circuit_build.proofs.CountSteps.{steps_ports}
use Rattle.circuit_build.proofs.LayBlocks.{left_of, QueueAt, BooksAt, Unstored, GroupAt, GroupsAt, pending, EndsAt}
use Rattle.circuit_build.proofs.LayBooks.{moved_if, step_queue}
use Rattle.circuit_build.proofs.LayExtends.{extends_unit}
use Rattle.circuit_build.proofs.LayGroups.{port_after, left_numbers, after_numbers, own_comes, group_moves, moves_queue, grouped, block_moves, group_if, block_groups, pending_nil, pending_own, groups_at}
use Rattle.circuit_build.proofs.LayLists.{block_queues}
use Rattle.circuit_build.specs.Uses.{uses}
use Rattle.circuit_build.proofs.Fields.{forked_still, bare_still, head_headed}
use Rattle.circuit_build.proofs.LayQueues.{queue_few, front_whole, QueueKept, QueuesKept}
use Rattle.circuit_build.proofs.QueueShapes.{units_shaped}

-- ---- the steps of a block

abbrev port_moves : ℕ → List Instr → Option Queue → Option Queue
port_moves a [] o = o
port_moves a (i ∷ is) o = port_moves a is (moved_if next_port (is_on a i) o)

moves_steps : (arrays : List Array) (is : List Instr) (d : Draft) (a : ℕ) → queue_of (steps_laid arrays is d) a ≡ port_moves a is (queue_of d a)
moves_steps arrays [] d a = refl
moves_steps arrays (i ∷ is) d a = moves_steps arrays is (step_laid arrays i d) a ∙ ap (port_moves a is) (step_queue arrays i d a)

abbrev with_port : Queue → ℕ → Queue
with_port q p = record { unit = q.unit; groups = q.groups; group = q.group; port = p }

ports_some : (a : ℕ) (is : List Instr) (q : Queue) → port_moves a is (Some q) ≡ Some (with_port q (port_after a q.port is))
ports_some a [] q = refl
ports_some a (i ∷ is) q = by (is_on a i) (ports_some a is (next_port q)) (ports_some a is q)
  where
    by : (t : Bool) → port_moves a is (Some (next_port q)) ≡ Some (with_port (next_port q) (port_after a (plus q.port 1) is)) → port_moves a is (Some q) ≡ Some (with_port q (port_after a q.port is))
        → port_moves a is (moved_if next_port t (Some q)) ≡ Some (with_port q (cond t (port_after a (plus q.port 1) is) (port_after a q.port is)))
    by true x y = x
    by false x y = y

ports_none : (a : ℕ) (is : List Instr) → port_moves a is None ≡ None
ports_none a [] = refl
ports_none a (i ∷ is) = ports_none a is

groups_none : (a : ℕ) (xs : List Access) → group_moves a xs None ≡ None
groups_none a [] = refl
groups_none a (x ∷ xs) = groups_none a xs

-- ---- the queue of an array after a block

abbrev group_after : List ℕ → ℕ → ℕ
group_after [] n = n
group_after (p ∷ ps) n = plus n 1

abbrev queue_after : List ℕ → ℕ → Queue → Queue
queue_after ps p q = record { unit = q.unit; groups = q.groups; group = group_after ps q.group; port = p }

after_grouped : (a : ℕ) (ps : List ℕ) (is : List Instr) (q : Queue) → port_moves a is (Some (grouped ps q)) ≡ Some (queue_after ps (port_after a q.port is) q)
after_grouped a [] is q = ports_some a is q
after_grouped a (p ∷ ps) is q = ports_some a is (next_group q)

module _ (arrays : List Array) (join ins b : ℕ) (k : Block) (rs : List Bool) (ks : List Block) (xs : List Access) (e : xs ≡ accesses_from rs b (k ∷ ks)) (d : Draft) where
  own_queue : (a : ℕ) → queue_of (block_laid arrays join ins b k xs d) a ≡ port_moves a k.steps (group_moves a (block_accesses b k.steps 0 rs) (queue_of d a))
  own_queue a =
      let h = block_opened ins b k xs d in
      let f = allocations b xs h in
      let u = block_grouped ins b k xs d in
      let own = block_accesses b k.steps 0 rs in
      ap (λ qs. queue_or (slice_get qs a)) (block_queues arrays join ins b k xs d ∙ (bare_still (length d.chans) k.jump (steps_laid arrays k.steps u)).queues)
      ∙ moves_steps arrays k.steps u a
      ∙ ap (λ qs. port_moves a k.steps (queue_or (slice_get qs a))) (forked_still (late_triggers b k xs) f).queues
      ∙ ap (λ f. port_moves a k.steps (queue_of f a)) (ap (λ ys. allocations b ys h) e ∙ own_comes b rs k ks h)
      ∙ ap (port_moves a k.steps) (moves_queue own h a ∙ ap (λ qs. group_moves a own (queue_or (slice_get qs a))) (head_headed ins b k.args (uses k) (early_triggers b k xs) d).queues)

  some_queue : (a : ℕ) (q : Queue) → slice_get rs a ≡ Some false → queue_of d a ≡ Some q → queue_of (block_laid arrays join ins b k xs d) a ≡ Some (queue_after (places_from a 0 k.steps) (port_after a q.port k.steps) q)
  some_queue a q s h =
      own_queue a
      ∙ ap (λ o. port_moves a k.steps (group_moves a (block_accesses b k.steps 0 rs) o)) h
      ∙ ap (port_moves a k.steps) (block_moves a b k.steps 0 rs a q (let z : 0 + a ≡ a = omega arith in z) s)
      ∙ after_grouped a (places_from a 0 k.steps) k.steps q

  none_queue : (a : ℕ) → queue_of d a ≡ None → queue_of (block_laid arrays join ins b k xs d) a ≡ None
  none_queue a h = own_queue a ∙ ap (λ o. port_moves a k.steps (group_moves a (block_accesses b k.steps 0 rs) o)) h ∙ ap (port_moves a k.steps) (groups_none a (block_accesses b k.steps 0 rs)) ∙ ports_none a k.steps

-- ---- how far the ports go

on_port : (t : Bool) (x : Port) (a p : ℕ) (is : List Instr) → (p + 1 + length (steps_ports a is []) < 2 ^ 32 → port_after a (plus p 1) is ≡ p + 1 + length (steps_ports a is [])) → (p + length (steps_ports a is []) < 2 ^ 32 → port_after a p is ≡ p + length (steps_ports a is []))
    → p + length (cond t (x ∷ steps_ports a is []) (steps_ports a is [])) < 2 ^ 32 → cond t (port_after a (plus p 1) is) (port_after a p is) ≡ p + length (cond t (x ∷ steps_ports a is []) (steps_ports a is []))
on_port true x a p is h i few = let z = h (omega (arith, few)) in omega (arith, z)
on_port false x a p is h i few = i few

ports_run : (a p : ℕ) (is : List Instr) → p + length (steps_ports a is []) < 2 ^ 32 → port_after a p is ≡ p + length (steps_ports a is [])
ports_run a p [] few = omega arith
ports_run a p (step.Const w n ∷ is) few = ports_run a p is few
ports_run a p (step.One op x ∷ is) few = ports_run a p is few
ports_run a p (step.Two op x y ∷ is) few = ports_run a p is few
ports_run a p (step.Select w c x y ∷ is) few = ports_run a p is few
ports_run a p (step.Load b v ∷ is) few =
    on_port (b == a) Load a p is (λ s. let same : plus p 1 ≡ p + 1 = omega (arith, s) in let z = ports_run a (plus p 1) is (omega (arith, s, same)) in omega (arith, z, same)) (ports_run a p is) few
ports_run a p (step.Store b v w ∷ is) few =
    on_port (b == a) Store a p is (λ s. let same : plus p 1 ≡ p + 1 = omega (arith, s) in let z = ports_run a (plus p 1) is (omega (arith, s, same)) in omega (arith, z, same)) (ports_run a p is) few

-- ---- unstored arrays

places_past : (arrays : List Array) (a : ℕ) (is : List Instr) (ws : Shape) → length arrays ≤ a → StepsFit arrays ws is → Unstored a is
places_past arrays a [] ws le fit = tt
places_past arrays a (step.Const w n ∷ is) ws le fit = places_past arrays a is (ws ++ step_width arrays (step.Const w n) ∷ []) le fit.1
places_past arrays a (step.One op x ∷ is) ws le fit = places_past arrays a is (ws ++ step_width arrays (step.One op x) ∷ []) le fit.1
places_past arrays a (step.Two op x y ∷ is) ws le fit = places_past arrays a is (ws ++ step_width arrays (step.Two op x y) ∷ []) le fit.1
places_past arrays a (step.Select w c x y ∷ is) ws le fit = places_past arrays a is (ws ++ step_width arrays (step.Select w c x y) ∷ []) le fit.1
places_past arrays a (step.Load b p ∷ is) ws le fit = places_past arrays a is (ws ++ step_width arrays (step.Load b p) ∷ []) le fit.1
places_past arrays a (step.Store b p v ∷ is) ws le fit =
    let named = fit.0.1 in
    let lt = slice_get_within arrays b named.0 named.1 in
    ((λ same. absurd (omega (arith, same, lt, le))), places_past arrays a is (ws ++ step_width arrays (step.Store b p v) ∷ []) le fit.1)

not_stored : (a : ℕ) (is : List Instr) → ((i p v : ℕ) → slice_get is i ≡ Some (step.Store a p v) → ⊥) → Unstored a is
not_stored a [] h = tt
not_stored a (step.Const w n ∷ is) h = not_stored a is (λ i p v e. h (suc i) p v e)
not_stored a (step.One op x ∷ is) h = not_stored a is (λ i p v e. h (suc i) p v e)
not_stored a (step.Two op x y ∷ is) h = not_stored a is (λ i p v e. h (suc i) p v e)
not_stored a (step.Select w c x y ∷ is) h = not_stored a is (λ i p v e. h (suc i) p v e)
not_stored a (step.Load b p ∷ is) h = not_stored a is (λ i p v e. h (suc i) p v e)
not_stored a (step.Store b p v ∷ is) h = ((λ same. h 0 p v (ap (λ c. Some (step.Store c p v)) same)), not_stored a is (λ i p v e. h (suc i) p v e))

module _ (g : Graph) (gs : Groups) (ask : IsAsked g gs) where
  -- ---- from block to block

  kept_queue : (a b : ℕ) (k : Block) (ks : List Block) (xs ys : List Access) (q : Queue) → xs ≡ accesses_from gs.read_only b (k ∷ ks) → ys ≡ accesses_from gs.read_only (suc b) ks → QueueKept g gs a (k ∷ ks) xs q
      → QueueKept g gs a ks ys (queue_after (places_from a 0 k.steps) (port_after a q.port k.steps) q)
  kept_queue a b k ks xs ys q e f h =
      let few = queue_few g gs ask a in
      let more = steps_more a k.steps (blocks_ports ks a) in
      let mine = steps_ports a k.steps [] in
      let l = ap (λ (ps : List Port). length ps) (h.ports ∙ ap (λ ps. h.used ++ ps) more) in
      let l2 = length-append h.used (mine ++ blocks_ports ks a) in
      let l3 = length-append mine (blocks_ports ks a) in
      let l4 = length-append h.used mine in
      let n = h.next in
      let run = ports_run a q.port k.steps (omega (arith, l, l2, l3, n, few)) in
      let ps = places_from a 0 k.steps in
      let split : groups_from a q.port xs ≡ group_if q.port ps ++ groups_from a (port_after a q.port k.steps) ys =
      ap (groups_from a q.port) e
      ∙ block_groups a q.port b k.steps 0 gs.read_only a (accesses_from gs.read_only (suc b) ks) (let z : 0 + a ≡ a = omega arith in z) h.stored
      ∙ ap (λ p. group_if q.port ps ++ groups_from a p (accesses_from gs.read_only (suc b) ks)) (after_numbers a q.port 0 k.steps)
      ∙ ap (λ zs. group_if q.port ps ++ groups_from a (port_after a q.port k.steps) zs) (sym f) in
      let all : groups_from a 0 gs.of ≡ (h.taken ++ group_if q.port ps) ++ groups_from a (port_after a q.port k.steps) ys =
      h.groups ∙ ap (λ zs. h.taken ++ zs) split ∙ sym (append_assoc h.taken (group_if q.port ps) (groups_from a (port_after a q.port k.steps) ys)) in
      let m = ap (λ (zs : List (List ℕ)). length zs) all in
      let m2 = length-append (h.taken ++ group_if q.port ps) (groups_from a (port_after a q.port k.steps) ys) in
      record {
        stored = h.stored;
        unit = h.unit;
        many = h.many;
        used = h.used ++ mine;
        ports = h.ports ∙ ap (λ ps. h.used ++ ps) more ∙ sym (append_assoc h.used mine (blocks_ports ks a));
        next = omega (arith, run, n, l4);
        taken = h.taken ++ group_if q.port ps;
        groups = all;
        group = by ps h.group (omega (arith, m, m2, few));
      }
    where
      by : (ps : List ℕ) → q.group ≡ length h.taken → length (h.taken ++ group_if q.port ps) < 2 ^ 32 → group_after ps q.group ≡ length (h.taken ++ group_if q.port ps)
      by [] x few = x ∙ ap (λ (zs : List (List ℕ)). length zs) (sym (append-nil h.taken))
      by (p ∷ ps) x few = let l = length-append h.taken (numbers_from q.port (p ∷ ps) ∷ []) in omega (arith, l, x, few)

  pub kept_block : (join ins b : ℕ) (k : Block) (ks : List Block) (xs ys : List Access) (d : Draft) → xs ≡ accesses_from gs.read_only b (k ∷ ks) → ys ≡ accesses_from gs.read_only (suc b) ks → QueuesKept g gs (k ∷ ks) xs d
      → QueuesKept g gs ks ys (block_laid g.arrays join ins b k xs d)
  kept_block join ins b k ks xs ys d e f h = record {
    queue = λ a q x. by a (queue_of d a) refl q x;
    none = λ a x s. before a (queue_of d a) refl x s;
  }
    where
      by : (a : ℕ) (o : Option Queue) → queue_of d a ≡ o → (q : Queue) → queue_of (block_laid g.arrays join ins b k xs d) a ≡ Some q → QueueKept g gs a ks ys q
      by a None y q x = let z = none_queue g.arrays join ins b k gs.read_only ks xs e d a y in absurd (cc)
      by a (Some p) y q x =
          let i = h.queue a p y in
          let z = some_queue g.arrays join ins b k gs.read_only ks xs e d a p i.stored y in
          let same : queue_after (places_from a 0 k.steps) (port_after a p.port k.steps) p ≡ q = cc in
          subst (λ r. QueueKept g gs a ks ys r) same (kept_queue a b k ks xs ys p e f i)

      before : (a : ℕ) (o : Option Queue) → queue_of d a ≡ o → queue_of (block_laid g.arrays join ins b k xs d) a ≡ None → slice_get gs.read_only a ≡ Some false → ⊥
      before a None y x s = h.none a y s
      before a (Some p) y x s = let z = some_queue g.arrays join ins b k gs.read_only ks xs e d a p s y in absurd (cc)

  -- ---- the books of a block

  queue_at : (a : ℕ) (q : Queue) (is : List Instr) (rest : List Port) (ks : List Block) (xs : List Access) → blocks_ports ks a ≡ steps_ports a is rest → QueueKept g gs a ks xs q → QueueAt g gs (built g gs) a q is
  queue_at a q is rest ks xs e h = record {
    unit = extends_unit (front_of g gs) (whole_draft g gs) q.unit (queue_for g gs a) (front_whole g gs) h.unit;
    early = slice_get_within (front_of g gs).units q.unit (queue_for g gs a) h.unit;
    many = h.many;
    used = h.used;
    rest = rest;
    ports = h.ports ∙ ap (λ ps. h.used ++ ps) e;
    next = h.next;
    few = queue_few g gs ask a;
  }

  pub kept_books : (b : ℕ) (k : Block) (ks : List Block) (xs : List Access) (d : Draft) → slice_get g.blocks b ≡ Some k → QueuesKept g gs (k ∷ ks) xs d → BooksAt g gs (built g gs) k.steps d
  kept_books b k ks xs d here h = record {
    queue = λ a q e. queue_at a q k.steps (blocks_ports ks a) (k ∷ ks) xs refl (h.queue a q e);
    unstored = λ a e. by a (slice_get gs.read_only a) refl (h.none a e);
  }
    where
      fits : IsBlock g k
      fits = All-contains (IsBlock g) g.blocks k ask.graph.blocks (b, slice_get_within g.blocks b k here, get_or_from_slice_get g.blocks b k k here)

      by : (a : ℕ) (o : Option Bool) → slice_get gs.read_only a ≡ o → (slice_get gs.read_only a ≡ Some false → ⊥) → Unstored a k.steps
      by a None e n =
          elim (cases_lt a (length gs.read_only)) [
            | inl lt ↦ (let z = slice_get-get_or gs.read_only a false lt in absurd (cc))
            | inr le ↦ (let m = ask.share.as_many in places_past g.arrays a k.steps (map Some k.args) (omega (arith, le, m)) fits.steps)
          ]
      by a (Some true) e n = not_stored a k.steps (λ i p v s. ask.share.read_only a e (record { number = b; block = k; is_block = here; place = i; addr = p; value = v; is_step = s }))
      by a (Some false) e n = absurd (n e)

  pub kept_ends : (i : ℕ) (qs : List (Option Queue)) → ((a j : ℕ) (q : Queue) → i + j ≡ a → slice_get qs j ≡ Some (Some q) → QueueKept g gs a [] [] q) → EndsAt g gs (built g gs) i qs
  kept_ends i [] h = tt
  kept_ends i (None ∷ qs) h = kept_ends (1 + i) qs (λ a j q e s. h a (suc j) q (omega (arith, e)) s)
  kept_ends i (Some q ∷ qs) h = (queue_at i q [] [] [] [] refl (h i 0 q (omega arith) refl), kept_ends (1 + i) qs (λ a j q e s. h a (suc j) q (omega (arith, e)) s))

  -- ---- the accesses of a block

  contains_at : {X : Type 0} → (xs : List X) (i : ℕ) (x : X) → slice_get xs i ≡ Some x → Contains xs x
  contains_at xs i x e = (i, slice_get_within xs i x e, get_or_from_slice_get xs i x x e)

  shaped : (a u : ℕ) → slice_get (built g gs).units u ≡ Some (queue_for g gs a) → IsQueueShape (depth_from a 16 gs.of) (ports_of a g.blocks gs.of) (groups_from a 0 gs.of)
  shaped a u e = All-contains HasShape (built g gs).units (queue_for g gs a) (units_shaped g gs ask).units (contains_at (built g gs).units u (queue_for g gs a) e)

  group_at : (b : ℕ) (k : Block) (ks : List Block) (xs : List Access) (d : Draft) (x : Access) (o : Option Queue) → queue_of d x.array ≡ o → xs ≡ accesses_from gs.read_only b (k ∷ ks) → QueuesKept g gs (k ∷ ks) xs d
      → slice_get gs.read_only x.array ≡ Some false → 0 < length (places_from x.array 0 k.steps) → GroupAt g gs (built g gs) k.steps x d
  group_at b k ks xs d x None y e h s some = absurd (h.none x.array y s)
  group_at b k ks xs d x (Some q) y e h s some =
      let a = x.array in
      let i = h.queue a q y in
      let z = i.group in
      let ps = places_from a 0 k.steps in
      let later = accesses_from gs.read_only (suc b) ks in
      let at = queue_at a q k.steps (blocks_ports ks a) (k ∷ ks) xs refl i in
      let shape = shaped a q.unit at.unit in
      let split : groups_from a 0 gs.of ≡ i.taken ++ (group_if q.port ps ++ groups_from a (number_after q.port ps) later) =
      i.groups ∙ ap (λ ys. i.taken ++ groups_from a q.port ys) e ∙ ap (λ zs. i.taken ++ zs) (block_groups a q.port b k.steps 0 gs.read_only a later (let z : 0 + a ≡ a = omega arith in z) i.stored) in
      let one : groups_from a 0 gs.of ≡ i.taken ++ numbers_from q.port ps ∷ groups_from a (number_after q.port ps) later = split ∙ ap (λ zs. i.taken ++ (zs ++ groups_from a (number_after q.port ps) later)) (whole ps q.port some) in
      let l = ap (λ (zs : List (List ℕ)). length zs) one in
      let l2 = length-append i.taken (numbers_from q.port ps ∷ groups_from a (number_after q.port ps) later) in
      let less : q.group < length (groups_from a 0 gs.of) = omega (arith, l, l2, z) in
      let left = left_numbers a q.port 0 k.steps in
      let is : get_or (groups_from a 0 gs.of) q.group [] ≡ left_of a q.port k.steps =
      ap (λ zs. get_or zs q.group []) one ∙ ap (λ n. get_or (i.taken ++ numbers_from q.port ps ∷ groups_from a (number_after q.port ps) later) n []) z ∙ get_or-append_seam i.taken (numbers_from q.port ps) (groups_from a (number_after q.port ps) later) [] ∙ left in
      let fit : IsGroup (depth_from a 16 gs.of) (length (ports_of a g.blocks gs.of)) (get_or (groups_from a 0 gs.of) q.group []) =
      All-contains (IsGroup (depth_from a 16 gs.of) (length (ports_of a g.blocks gs.of))) (groups_from a 0 gs.of) (get_or (groups_from a 0 gs.of) q.group []) shape.each_group
      (contains_at (groups_from a 0 gs.of) q.group (get_or (groups_from a 0 gs.of) q.group []) (slice_get-get_or (groups_from a 0 gs.of) q.group [] less)) in
      let room = fit.room in
      let m = ap (λ (zs : List ℕ). length zs) is in
      record { queue = q; is_queue = y; less = less; group = is; deep = omega (arith, room, m) }
    where
      whole : (ps : List ℕ) (p : ℕ) → 0 < length ps → group_if p ps ≡ numbers_from p ps ∷ []
      whole [] p some = absurd (omega arith)
      whole (x ∷ ps) p some = refl

  pub kept_groups : (b : ℕ) (k : Block) (ks : List Block) (xs : List Access) (d : Draft) → xs ≡ accesses_from gs.read_only b (k ∷ ks) → QueuesKept g gs (k ∷ ks) xs d → GroupsAt g gs (built g gs) k.steps (block_accesses b k.steps 0 gs.read_only) d
  kept_groups b k ks xs d e h =
      groups_at g gs (built g gs) b k.steps 0 gs.read_only d (λ a j i s some x y.
      (let same : a ≡ x.array = sym y in
      let here : slice_get gs.read_only x.array ≡ Some false = ap (slice_get gs.read_only) (let z : x.array ≡ j = omega (arith, i, y) in z) ∙ s in
      group_at b k ks xs d x (queue_of d x.array) refl e h here (subst (λ c. 0 < length (places_from c 0 k.steps)) same some)))

  -- of an array that has no access in the block nothing waits
  pub kept_idle : (b : ℕ) (k : Block) (ks : List Block) (xs : List Access) (d : Draft) → QueuesKept g gs (k ∷ ks) xs d → (a : ℕ) (q : Queue) → queue_of d a ≡ Some q → pending a (block_accesses b k.steps 0 gs.read_only) (left_of a q.port k.steps) ≡ []
  kept_idle b k ks xs d h a q e = by (places_from a 0 k.steps) refl
    where
      by : (l : List ℕ) → places_from a 0 k.steps ≡ l → pending a (block_accesses b k.steps 0 gs.read_only) (left_of a q.port k.steps) ≡ []
      by [] s =
          let none : left_of a q.port k.steps ≡ [] = sym (left_numbers a q.port 0 k.steps) ∙ ap (numbers_from q.port) s in
          ap (pending a (block_accesses b k.steps 0 gs.read_only)) none ∙ pending_nil a (block_accesses b k.steps 0 gs.read_only)
      by (p ∷ l) s =
          let some : 0 < length (places_from a 0 k.steps) = let m = ap (λ (zs : List ℕ). length zs) s in omega (arith, m) in
          pending_own a b k.steps 0 gs.read_only a (left_of a q.port k.steps) (omega arith) (h.queue a q e).stored some
