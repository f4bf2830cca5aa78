-- A queue whose accesses come in the order of the program: what its acts do to it and to the array.
use Rattle.std.proofs.Common.{◌≡◌, ℕ, zero, suc, ◌+◌, ◌*◌, ◌<◌, ◌≤◌, ◌==◌, nat_lt, nat_le, Bool, true, false, Option, Some, None, List, [], ◌∷◌, length, get_or, set, refl, ap, arith, eq-eqb, le-ltb, lt-ltb, slice_get}
use Rattle.std.specs.List.{list_all}
use Rattle.std.proofs.lemmas.Bool.{le-leb}
use Rattle.net_types.specs.declared.net.Port.{Port}
use Rattle.net_types.specs.declared.net.Port.TheVariants.{Load}
use Rattle.net_types.specs.declared.firing.Act.TheVariants.{Alloc, Addr, Data, Exec, Reply, Retire, End}
use Rattle.lsq_core.specs.declared.entry.Entry.{Entry}
use Rattle.lsq_core.specs.Acts.{QueueState, is_store, fresh_entry, fresh, known, lets, waiting, last_such, with_addr, with_data, executed, answered}
use Rattle.net_core.specs.declared.plan.Put.{Put}
use Rattle.net_core.specs.Fire.{Own, idle, Effect, effect_of, queue_row, put_at}
use Rattle.circuit_build.proofs.Marks.{awaiting, awaits}
use Rattle.circuit_build.proofs.KindLemmas.{past}

-- what a queue keeps
abbrev pub holding : QueueState → Own
holding q = record idle { queue = q }

abbrev pub queue_effect : List ℕ → Option Put → QueueState → List ℕ → ℕ → Effect
queue_effect takes put q xs strays = record { takes = takes; put = put; own = holding q; array = xs; strays = strays }

-- the oldest entry is x, and those after it are new ones
abbrev pub headed : ℕ → List Port → ℕ → List ℕ → Entry → QueueState
headed next ports n left x = record { forward = false; next = next; items = x ∷ fresh n ports left }

abbrev pub after_first : ℕ → List Port → ℕ → List ℕ → QueueState
after_first next ports n left = record { forward = false; next = next; items = fresh n ports left }

-- ---- younger entries hinder none

younger_known : (x : Entry) (ports : List Port) (n : ℕ) (left : List ℕ) → x.serial ≤ n → list_all (known x) (fresh n ports left) ≡ true
younger_known x ports n [] l = refl
younger_known x ports n (p ∷ left) l = let a : nat_lt n x.serial ≡ false = le-ltb n x.serial l in let b = younger_known x ports (suc n) left (omega arith) in rw (a, b) refl

younger_lets : (x : Entry) (ports : List Port) (n : ℕ) (left : List ℕ) → x.serial ≤ n → list_all (lets x) (fresh n ports left) ≡ true
younger_lets x ports n [] l = refl
younger_lets x ports n (p ∷ left) l = let a : nat_lt n x.serial ≡ false = le-ltb n x.serial l in let b = younger_lets x ports (suc n) left (omega arith) in rw (a, b) refl

none_waits : (x : Entry) (ports : List Port) (n : ℕ) (left : List ℕ) → x.serial ≤ n → last_such (waiting x) (fresh n ports left) ≡ None
none_waits x ports n [] l = refl
none_waits x ports n (p ∷ left) l = let a : nat_lt n x.serial ≡ false = le-ltb n x.serial l in let b = none_waits x ports (suc n) left (omega arith) in rw (a, b) refl

yes : (k : ℕ) → (k == k) ≡ true
yes k = eq-eqb k k refl

itself : (k : ℕ) → nat_lt k k ≡ false
itself k = le-ltb k k (omega arith)

kind_of_port : (ports : List Port) (p : ℕ) (k : Port) → slice_get ports p ≡ Some k → get_or ports p Load ≡ k
kind_of_port [] p k e = cc
kind_of_port (x ∷ ports) zero k e = cc
kind_of_port (x ∷ ports) (suc p) k e = kind_of_port ports p k e

-- ---- the oldest access

module _ (depth : ℕ) (ports : List Port) (groups : List (List ℕ)) (next n p : ℕ) (left : List ℕ) (cells : List ℕ) (heads : ℕ → Option ℕ) where
  abbrev with_first : Entry → QueueState
  with_first x = headed next ports (suc n) left x

  pub gets_addr : (store : Bool) (v : ℕ) → heads (length groups + 1 + 2 * p) ≡ Some v
      → effect_of (queue_row depth ports groups (Addr p) (holding (with_first (fresh_entry n p store))) cells) heads
      ≡ Some (queue_effect ((length groups + 1 + 2 * p) ∷ []) None (with_first (with_addr v (fresh_entry n p store))) cells 0)
  gets_addr store v h = let a = yes p in rw (a, h, a) refl

  abbrev load : ℕ → Entry
  load v = with_addr v (fresh_entry n p false)

  pub load_executes : (v : ℕ) → effect_of (queue_row depth ports groups (Exec n) (holding (with_first (load v))) cells) heads
      ≡ Some (queue_effect [] None (with_first (executed (get_or cells v 0) (load v))) cells (past cells v))
  load_executes v =
      let a = yes n in let b = itself n in
      let c = younger_known (load v) ports (suc n) left (omega arith) in let d = none_waits (load v) ports (suc n) left (omega arith) in
      rw (a, b, c, d, a) refl

  pub load_replies : (v x : ℕ) → effect_of (queue_row depth ports groups (Reply p) (holding (with_first (executed x (load v)))) cells) heads
      ≡ Some (queue_effect [] (put_at (length groups + 1 + p) x) (with_first (answered (executed x (load v)))) cells 0)
  load_replies v x = let a = yes p in rw a refl

  pub load_retires : (v x : ℕ) → effect_of (queue_row depth ports groups Retire (holding (with_first (answered (executed x (load v))))) cells) heads
      ≡ Some (queue_effect [] None (after_first next ports (suc n) left) cells 0)
  load_retires v x = refl

  abbrev store : ℕ → ℕ → Entry
  store v x = with_data x (with_addr v (fresh_entry n p true))

  pub gets_data : (v x : ℕ) → heads (length groups + 2 + 2 * p) ≡ Some x
      → effect_of (queue_row depth ports groups (Data p) (holding (with_first (with_addr v (fresh_entry n p true)))) cells) heads
      ≡ Some (queue_effect ((length groups + 2 + 2 * p) ∷ []) None (with_first (store v x)) cells 0)
  gets_data v x h = let a = yes p in rw (a, h, a) refl

  pub store_executes : (v x : ℕ) → effect_of (queue_row depth ports groups (Exec n) (holding (with_first (store v x))) cells) heads
      ≡ Some (queue_effect [] None (with_first (executed 0 (store v x))) (set cells v x) (past cells v))
  store_executes v x =
      let a = yes n in let b = itself n in
      let c = younger_lets (store v x) ports (suc n) left (omega arith) in
      rw (a, b, c, a) refl

  pub store_retires : (v x : ℕ) → effect_of (queue_row depth ports groups Retire (holding (with_first (executed 0 (store v x)))) cells) heads
      ≡ Some (queue_effect [] None (after_first next ports (suc n) left) cells 0)
  store_retires v x = refl

-- ---- between accesses

module _ (depth : ℕ) (ports : List Port) (groups : List (List ℕ)) (n : ℕ) (cells : List ℕ) (heads : ℕ → Option ℕ) where
  pub group_comes : (g v : ℕ) → g < length groups → length (get_or groups g []) ≤ depth → heads g ≡ Some v
      → effect_of (queue_row depth ports groups (Alloc g) (awaits ports n []) cells) heads ≡ Some (queue_effect (g ∷ []) (put_at g v) (awaiting ports n (get_or groups g [])) cells 0)
  group_comes g v lt room h =
      let a : nat_lt g (length groups) ≡ true = lt-ltb _ _ lt in
      let b : nat_le (0 + length (get_or groups g [])) depth ≡ true = le-leb _ _ (omega (arith, room)) in
      let c : n + 0 ≡ n = omega arith in
      rw (a, b, h, c) refl

  pub ends : (v : ℕ) → heads (length groups) ≡ Some v
      → effect_of (queue_row depth ports groups End (awaits ports n []) cells) heads ≡ Some (queue_effect (length groups ∷ []) (put_at (length groups) v) (awaiting ports n []) cells 0)
  ends v h = rw h refl

-- ---- the queue before and after an access

pub first_of_left : (ports : List Port) (n p : ℕ) (left : List ℕ) (k : Port) → slice_get ports p ≡ Some k
    → awaits ports n (p ∷ left) ≡ holding (headed (n + length (p ∷ left)) ports (suc n) left (fresh_entry n p (is_store k)))
first_of_left ports n p left k e = ap (λ b. holding (headed (n + length (p ∷ left)) ports (suc n) left (fresh_entry n p (is_store b)))) (kind_of_port ports p k e)

pub first_gone : (ports : List Port) (n p : ℕ) (left : List ℕ) → holding (after_first (n + length (p ∷ left)) ports (suc n) left) ≡ awaits ports (suc n) left
first_gone ports n p left = let e : n + length (p ∷ left) ≡ suc n + length left = omega arith in ap (λ k. holding (after_first k ports (suc n) left)) e
