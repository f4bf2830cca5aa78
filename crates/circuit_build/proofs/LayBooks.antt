-- How queues change while a block is laid, and what is known of a port that a step uses.
use Rattle.std.proofs.Common.{◌≡◌, ◌≢◌, ℕ, zero, suc, ◌+◌, ◌*◌, ◌^◌, ◌<◌, List, [], ◌∷◌, ◌++◌, length, Bool, true, false, Option, Some, None, refl, sym, ap, ◌∙◌, subst, inl, inr, arith, append_assoc, length-append}
use Rattle.std.specs.Prelude.{cond, slice_get, set, ◌==◌}
use Rattle.std.proofs.lemmas.Bool.{cases_eq, eq-eqb, ne_eqb}
use Rattle.el_base.specs.declared.ty.Array.{Array}
use Rattle.ir.specs.declared.groups.Groups.{Groups}
use Rattle.ir.specs.declared.instr.Instr.{Instr}
use Rattle.ir.specs.declared.instr.Instr.TheVariants as step
use Rattle.ir.specs.Accesses.{is_on}
use Rattle.ir.specs.Graphs.{Graph}
use Rattle.net_types.specs.declared.net.Net.{Net}
use Rattle.net_types.specs.declared.net.Port.{Port}
use Rattle.net_types.specs.declared.net.Port.TheVariants.{Load, Store}
use Rattle.circuit_build.specs.Built.{front_of}
use Rattle.circuit_build.specs.Counted.{queue_for}
use Rattle.circuit_build.specs.declared.draft.Draft.{Draft}
use Rattle.circuit_build.specs.declared.draft.Queue.{Queue}
use Rattle.circuit_build.specs.Fronts.{ports_of, groups_from}
use Rattle.circuit_build.specs.Steps.{queue_or, queue_of, next_port, next_group, value_place, addr_place, data_place, width_at, load_by, store_by, step_made, step_laid, allocated, allocated_by}
use Rattle.circuit_build.specs.Drafts.{uses_of_next, undefined}
use Rattle.circuit_build.specs.Uses.{is_laid}
use Rattle.circuit_build.proofs.Fields.{const_still, one_still, two_still, select_still, read_still, loaded_still}
use Rattle.circuit_build.proofs.CountSteps.{steps_ports}
use Rattle.circuit_build.proofs.LayBlocks.{QueueAt, BooksAt, Unstored}

-- ---- the queue of an array after another is set

queue_own : (qs : List (Option Queue)) (a : ℕ) (q x : Queue) → queue_or (slice_get qs a) ≡ Some q → queue_or (slice_get (set qs a (Some x)) a) ≡ Some x
queue_own [] a q x e = absurd (cc)
queue_own (y ∷ qs) zero q x e = refl
queue_own (y ∷ qs) (suc a) q x e = queue_own qs a q x e

queue_other : (qs : List (Option Queue)) (a b : ℕ) (x : Queue) → b ≢ a → queue_or (slice_get (set qs a (Some x)) b) ≡ queue_or (slice_get qs b)
queue_other [] a b x n = refl
queue_other (y ∷ qs) zero zero x n = absurd (n refl)
queue_other (y ∷ qs) zero (suc b) x n = refl
queue_other (y ∷ qs) (suc a) zero x n = refl
queue_other (y ∷ qs) (suc a) (suc b) x n = queue_other qs a b x (λ e. n (omega (arith, e)))

-- ---- one queue moves on

abbrev pub moved_if : (Queue → Queue) → Bool → Option Queue → Option Queue
moved_if f t None = None
moved_if f true (Some q) = Some (f q)
moved_if f false (Some q) = Some q

abbrev pub moved_in : (Queue → Queue) → ℕ → Option Queue → List (Option Queue) → List (Option Queue)
moved_in f b None qs = qs
moved_in f b (Some q) qs = set qs b (Some (f q))

pub not_moved : (f : Queue → Queue) (o : Option Queue) → o ≡ moved_if f false o
not_moved f None = refl
not_moved f (Some q) = refl

pub touched : (f : Queue → Queue) (d e : Draft) (b a : ℕ) (o : Option Queue) → queue_of d b ≡ o → e.queues ≡ moved_in f b o d.queues → queue_of e a ≡ moved_if f (b == a) (queue_of d a)
touched f d e b a None h s = elim (cases_eq b a) [
  | inl y ↦ (let z : queue_of d a ≡ None = ap (queue_of d) (sym y) ∙ h in ap (λ qs. queue_or (slice_get qs a)) s ∙ z ∙ sym (ap (moved_if f (b == a)) z))
  | inr n ↦ ap (λ qs. queue_or (slice_get qs a)) s ∙ not_moved f (queue_of d a) ∙ sym (ap (λ t. moved_if f t (queue_of d a)) (ne_eqb b a n))
]
touched f d e b a (Some q) h s = elim (cases_eq b a) [
  | inl y ↦
      (let z : queue_of d a ≡ Some q = ap (queue_of d) (sym y) ∙ h in
      ap (λ qs. queue_or (slice_get qs a)) s ∙ ap (λ c. queue_or (slice_get (set d.queues c (Some (f q))) a)) y ∙ queue_own d.queues a q (f q) z ∙ sym (ap (λ t. moved_if f t (queue_of d a)) (eq-eqb b a y) ∙ ap (moved_if f true) z))
  | inr n ↦ ap (λ qs. queue_or (slice_get qs a)) s ∙ queue_other d.queues b a (f q) (λ e. n (sym e)) ∙ not_moved f (queue_of d a) ∙ sym (ap (λ t. moved_if f t (queue_of d a)) (ne_eqb b a n))
]

allocated_queues : (c : ℕ) (o : Option Queue) (d : Draft) → (allocated_by c o d).queues ≡ moved_in next_group c o d.queues
allocated_queues c None d = refl
allocated_queues c (Some q) d = refl

-- the queue of an array after the allocation of a group
pub allocated_queue : (c : ℕ) (d : Draft) (a : ℕ) → queue_of (allocated c d) a ≡ moved_if next_group (c == a) (queue_of d a)
allocated_queue c d a = touched next_group d (allocated c d) c a (queue_of d c) refl (allocated_queues c (queue_of d c) d)

load_queues : (b w p : ℕ) (o : Option Queue) (d : Draft) → (load_by o b w p d).queues ≡ moved_in next_port b o d.queues
load_queues b w p None d = (read_still b w p d).queues
load_queues b w p (Some q) d = ap (λ qs. set qs b (Some (next_port q))) (loaded_still q w p d).queues

store_queues : (b p v : ℕ) (o : Option Queue) (d : Draft) → (store_by o b p v d).queues ≡ moved_in next_port b o d.queues
store_queues b p v None d = refl
store_queues b p v (Some q) d = refl

-- a step that leaves the queues
still_queue : (a : ℕ) (d e : Draft) → e.queues ≡ d.queues → queue_of e a ≡ moved_if next_port false (queue_of d a)
still_queue a d e s = ap (λ qs. queue_or (slice_get qs a)) s ∙ not_moved next_port (queue_of d a)

made_queue : (arrays : List Array) (i : Instr) (d : Draft) (a : ℕ) → queue_of (step_made arrays i d) a ≡ moved_if next_port (is_on a i) (queue_of d a)
made_queue arrays (step.Const w n) d a = still_queue a d (step_made arrays (step.Const w n) d) (const_still w n d).queues
made_queue arrays (step.One op x) d a = still_queue a d (step_made arrays (step.One op x) d) (one_still op x d).queues
made_queue arrays (step.Two op x y) d a = still_queue a d (step_made arrays (step.Two op x y) d) (two_still op x y d).queues
made_queue arrays (step.Select w c x y) d a = still_queue a d (step_made arrays (step.Select w c x y) d) (select_still w c x y d).queues
made_queue arrays (step.Load b p) d a = touched next_port d (step_made arrays (step.Load b p) d) b a (queue_of d b) refl (load_queues b (width_at arrays b) p (queue_of d b) d)
made_queue arrays (step.Store b p v) d a = touched next_port d (step_made arrays (step.Store b p v) d) b a (queue_of d b) refl (store_queues b p v (queue_of d b) d)

-- a step that is not laid is on no array
unlaid_on : (a : ℕ) (i : Instr) (n : ℕ) → is_laid i n ≡ false → is_on a i ≡ false
unlaid_on a (step.Const w m) n e = refl
unlaid_on a (step.One op x) n e = refl
unlaid_on a (step.Two op x y) n e = refl
unlaid_on a (step.Select w c x y) n e = refl
unlaid_on a (step.Load b p) n e = absurd (cc)
unlaid_on a (step.Store b p v) n e = absurd (cc)

if_queue : (arrays : List Array) (i : Instr) (d : Draft) (a : ℕ) (t : Bool) → is_laid i (uses_of_next d) ≡ t → queue_of (cond t (step_made arrays i d) (undefined d)) a ≡ moved_if next_port (is_on a i) (queue_of d a)
if_queue arrays i d a true e = made_queue arrays i d a
if_queue arrays i d a false e = not_moved next_port (queue_of d a) ∙ sym (ap (λ t. moved_if next_port t (queue_of d a)) (unlaid_on a i (uses_of_next d) e))

-- the queue of an array after a step
pub step_queue : (arrays : List Array) (i : Instr) (d : Draft) (a : ℕ) → queue_of (step_laid arrays i d) a ≡ moved_if next_port (is_on a i) (queue_of d a)
step_queue arrays i d a = if_queue arrays i d a (is_laid i (uses_of_next d)) refl

-- ---- the books after a step

abbrev pub stepped : Bool → Queue → Queue
stepped true q = next_port q
stepped false q = q

module _ (g : Graph) (gs : Groups) (net : Net) where
  used_some : (a : ℕ) (q : Queue) (used more : List Port) → ports_of a g.blocks gs.of ≡ used ++ more → q.port ≡ length used → q.port + length more ≡ length (ports_of a g.blocks gs.of)
  used_some a q used more e n = let l = ap length e in let m = length-append used more in omega (arith, l, m, n)

  stepped_at : (t : Bool) (x : Port) (a : ℕ) (q : Queue) (is : List Instr) (used rest : List Port) → slice_get net.units q.unit ≡ Some (queue_for g gs a) → q.unit < length (front_of g gs).units → q.groups ≡ length (groups_from a 0 gs.of)
      → ports_of a g.blocks gs.of ≡ used ++ cond t (x ∷ steps_ports a is rest) (steps_ports a is rest) → q.port ≡ length used → length (groups_from a 0 gs.of) + 2 * length (ports_of a g.blocks gs.of) + 2 < 2 ^ 32 → QueueAt g gs net a (stepped t q) is
  stepped_at false x a q is used rest u early m p n few = record { unit = u; early = early; many = m; used = used; rest = rest; ports = p; next = n; few = few }
  stepped_at true x a q is used rest u early m p n few =
      let some = used_some a q used (x ∷ steps_ports a is rest) p n in
      let l = length-append used (x ∷ []) in
      record { unit = u; early = early; many = m; used = used ++ x ∷ []; rest = rest; ports = p ∙ sym (append_assoc used (x ∷ []) (steps_ports a is rest)); next = omega (arith, some, l, n, few); few = few }

  pub queue_step : (a : ℕ) (q : Queue) (i : Instr) (is : List Instr) → QueueAt g gs net a q (i ∷ is) → QueueAt g gs net a (stepped (is_on a i) q) is
  queue_step a q (step.Const w n) is h = record { unit = h.unit; early = h.early; many = h.many; used = h.used; rest = h.rest; ports = h.ports; next = h.next; few = h.few }
  queue_step a q (step.One op x) is h = record { unit = h.unit; early = h.early; many = h.many; used = h.used; rest = h.rest; ports = h.ports; next = h.next; few = h.few }
  queue_step a q (step.Two op x y) is h = record { unit = h.unit; early = h.early; many = h.many; used = h.used; rest = h.rest; ports = h.ports; next = h.next; few = h.few }
  queue_step a q (step.Select w c x y) is h = record { unit = h.unit; early = h.early; many = h.many; used = h.used; rest = h.rest; ports = h.ports; next = h.next; few = h.few }
  queue_step a q (step.Load b p) is h = stepped_at (b == a) Load a q is h.used h.rest h.unit h.early h.many h.ports h.next h.few
  queue_step a q (step.Store b p v) is h = stepped_at (b == a) Store a q is h.used h.rest h.unit h.early h.many h.ports h.next h.few

  unstored_less : (a : ℕ) (i : Instr) (is : List Instr) → Unstored a (i ∷ is) → Unstored a is
  unstored_less a (step.Const w n) is h = h
  unstored_less a (step.One op x) is h = h
  unstored_less a (step.Two op x y) is h = h
  unstored_less a (step.Select w c x y) is h = h
  unstored_less a (step.Load b p) is h = h
  unstored_less a (step.Store b p v) is h = h.1

  none_before : (t : Bool) (o : Option Queue) → moved_if next_port t o ≡ None → o ≡ None
  none_before t None e = refl
  none_before true (Some q) e = absurd (cc)
  none_before false (Some q) e = absurd (cc)

  moved_at : (a : ℕ) (i : Instr) (is : List Instr) (t : Bool) (o : Option Queue) (q : Queue) → is_on a i ≡ t → ((p : Queue) → o ≡ Some p → QueueAt g gs net a p (i ∷ is)) → moved_if next_port t o ≡ Some q → QueueAt g gs net a q is
  moved_at a i is t None q s h e = absurd (cc)
  moved_at a i is true (Some p) q s h e =
      let z : next_port p ≡ q = cc in
      subst (λ x. QueueAt g gs net a x is) z (subst (λ t. QueueAt g gs net a (stepped t p) is) s (queue_step a p i is (h p refl)))
  moved_at a i is false (Some p) q s h e =
      let z : p ≡ q = cc in
      subst (λ x. QueueAt g gs net a x is) z (subst (λ t. QueueAt g gs net a (stepped t p) is) s (queue_step a p i is (h p refl)))

  pub books_step : (i : Instr) (is : List Instr) (d : Draft) → BooksAt g gs net (i ∷ is) d → BooksAt g gs net is (step_laid g.arrays i d)
  books_step i is d h = record {
    queue = λ a q e. moved_at a i is (is_on a i) (queue_of d a) q refl (λ p. h.queue a p) (sym (step_queue g.arrays i d a) ∙ e);
    unstored = λ a e. unstored_less a i is (h.unstored a (none_before (is_on a i) (queue_of d a) (sym (step_queue g.arrays i d a) ∙ e)));
  }

  -- where no queue moves
  pub books_same : (is : List Instr) (d e : Draft) → e.queues ≡ d.queues → BooksAt g gs net is d → BooksAt g gs net is e
  books_same is d e s h = record {
    queue = λ a q x. h.queue a q (ap (λ qs. queue_or (slice_get qs a)) (sym s) ∙ x);
    unstored = λ a x. h.unstored a (ap (λ qs. queue_or (slice_get qs a)) (sym s) ∙ x);
  }

  grouped_at : (a : ℕ) (is : List Instr) (t : Bool) (o : Option Queue) (q : Queue) → ((p : Queue) → o ≡ Some p → QueueAt g gs net a p is) → moved_if next_group t o ≡ Some q → QueueAt g gs net a q is
  grouped_at a is t None q h e = absurd (cc)
  grouped_at a is true (Some p) q h e =
      let z : next_group p ≡ q = cc in
      let x = h p refl in
      subst (λ y. QueueAt g gs net a y is) z (record { unit = x.unit; early = x.early; many = x.many; used = x.used; rest = x.rest; ports = x.ports; next = x.next; few = x.few })
  grouped_at a is false (Some p) q h e = let z : p ≡ q = cc in subst (λ y. QueueAt g gs net a y is) z (h p refl)

  none_group : (t : Bool) (o : Option Queue) → moved_if next_group t o ≡ None → o ≡ None
  none_group t None e = refl
  none_group true (Some q) e = absurd (cc)
  none_group false (Some q) e = absurd (cc)

  -- after an allocation
  pub books_allocated : (c : ℕ) (is : List Instr) (d : Draft) → BooksAt g gs net is d → BooksAt g gs net is (allocated c d)
  books_allocated c is d h = record {
    queue = λ a q e. grouped_at a is (c == a) (queue_of d a) q (λ p. h.queue a p) (sym (allocated_queue c d a) ∙ e);
    unstored = λ a e. h.unstored a (none_group (c == a) (queue_of d a) (sym (allocated_queue c d a) ∙ e));
  }

  -- ---- the port of a load or a store, and its places

  last_of : (used more : List Port) (x : Port) → slice_get (used ++ x ∷ more) (length used) ≡ Some x
  last_of [] more x = refl
  last_of (y ∷ used) more x = last_of used more x

  pub load_port : (a p : ℕ) (q : Queue) (is : List Instr) → QueueAt g gs net a q (step.Load a p ∷ is) → slice_get (ports_of a g.blocks gs.of) q.port ≡ Some Load
  load_port a p q is h =
      let more = steps_ports a is h.rest in
      let e : ports_of a g.blocks gs.of ≡ h.used ++ Load ∷ more = h.ports ∙ ap (λ t. h.used ++ cond t (Load ∷ more) more) (eq-eqb a a refl) in
      ap (λ ps. slice_get ps q.port) e ∙ ap (slice_get (h.used ++ Load ∷ more)) h.next ∙ last_of h.used more Load

  pub store_port : (a p v : ℕ) (q : Queue) (is : List Instr) → QueueAt g gs net a q (step.Store a p v ∷ is) → slice_get (ports_of a g.blocks gs.of) q.port ≡ Some Store
  store_port a p v q is h =
      let more = steps_ports a is h.rest in
      let e : ports_of a g.blocks gs.of ≡ h.used ++ Store ∷ more = h.ports ∙ ap (λ t. h.used ++ cond t (Store ∷ more) more) (eq-eqb a a refl) in
      ap (λ ps. slice_get ps q.port) e ∙ ap (slice_get (h.used ++ Store ∷ more)) h.next ∙ last_of h.used more Store

  pub value_is : (a : ℕ) (q : Queue) (is : List Instr) → QueueAt g gs net a q is → value_place q ≡ length (groups_from a 0 gs.of) + 1 + q.port
  value_is a q is h = let some = used_some a q h.used (steps_ports a is h.rest) h.ports h.next in let m = h.many in let f = h.few in omega (arith, some, m, f)

  pub addr_is : (a : ℕ) (q : Queue) (is : List Instr) → QueueAt g gs net a q is → addr_place q ≡ length (groups_from a 0 gs.of) + 1 + 2 * q.port
  addr_is a q is h = let some = used_some a q h.used (steps_ports a is h.rest) h.ports h.next in let m = h.many in let f = h.few in omega (arith, some, m, f)

  pub data_is : (a : ℕ) (q : Queue) (is : List Instr) → QueueAt g gs net a q is → data_place q ≡ length (groups_from a 0 gs.of) + 2 + 2 * q.port
  data_is a q is h = let some = used_some a q h.used (steps_ports a is h.rest) h.ports h.next in let m = h.many in let f = h.few in omega (arith, some, m, f)
