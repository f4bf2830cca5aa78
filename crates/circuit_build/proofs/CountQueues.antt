-- Sums over queues and over heads by their numbers, and what changes at one of them.
use Rattle.std.proofs.Common.{◌≡◌, ◌≢◌, ℕ, zero, suc, ◌+◌, List, [], ◌∷◌, true, false, Option, Some, None, refl, ap, arith}
use Rattle.std.specs.Prelude.{slice_get, set}
use Rattle.net_types.specs.declared.net.Port.{Port}
use Rattle.net_types.specs.declared.net.Port.TheVariants.{Load, Store}
use Rattle.net_types.specs.Nets.{at}
use Rattle.circuit_build.specs.declared.draft.Queue.{Queue}
use Rattle.circuit_build.specs.Steps.{queue_or, value_place, addr_place, data_place, next_port, next_group}
use Rattle.circuit_build.proofs.CountBooks.{Weight}

-- a number for each queue, by the number of its array
abbrev pub qsum : (ℕ → Queue → ℕ) → List (Option Queue) → ℕ
qsum K [] = 0
qsum K (None ∷ qs) = qsum (λ a. K (suc a)) qs
qsum K (Some q ∷ qs) = K 0 q + qsum (λ a. K (suc a)) qs

pub qsum_same : (qs : List (Option Queue)) (K L : ℕ → Queue → ℕ) → ((a : ℕ) (q : Queue) → K a q ≡ L a q) → qsum K qs ≡ qsum L qs
qsum_same [] K L h = refl
qsum_same (None ∷ qs) K L h = qsum_same qs (λ a. K (suc a)) (λ a. L (suc a)) (λ a q. h (suc a) q)
qsum_same (Some q ∷ qs) K L h = let e = h 0 q in let i = qsum_same qs (λ a. K (suc a)) (λ a. L (suc a)) (λ a q. h (suc a) q) in omega (arith, e, i)

pub qsum_change : (qs : List (Option Queue)) (K L : ℕ → Queue → ℕ) (a : ℕ) (q x : Queue) → slice_get qs a ≡ Some (Some q) → ((b : ℕ) (y : Queue) → b ≢ a → K b y ≡ L b y) → qsum K qs + L a x ≡ qsum L (set qs a (Some x)) + K a q
qsum_change [] K L a q x e h = absurd (cc)
qsum_change (None ∷ qs) K L zero q x e h = absurd (cc)
qsum_change (Some y ∷ qs) K L zero q x e h =
    let z : y ≡ q = cc in
    let p = ap (λ r. K 0 r) z in
    let i = qsum_same qs (λ b. K (suc b)) (λ b. L (suc b)) (λ b r. h (suc b) r (λ n. absurd (omega (arith, n)))) in
    omega (arith, p, i)
qsum_change (None ∷ qs) K L (suc a) q x e h = qsum_change qs (λ b. K (suc b)) (λ b. L (suc b)) a q x e (λ b r n. h (suc b) r (λ s. n (omega (arith, s))))
qsum_change (Some y ∷ qs) K L (suc a) q x e h =
    let p = h 0 y (λ n. absurd (omega (arith, n))) in
    let i = qsum_change qs (λ b. K (suc b)) (λ b. L (suc b)) a q x e (λ b r n. h (suc b) r (λ s. n (omega (arith, s)))) in
    omega (arith, p, i)

-- where the array has no queue
pub qsum_none : (qs : List (Option Queue)) (K L : ℕ → Queue → ℕ) (a : ℕ) → queue_or (slice_get qs a) ≡ None → ((b : ℕ) (y : Queue) → b ≢ a → K b y ≡ L b y) → qsum K qs ≡ qsum L qs
qsum_none [] K L a e h = refl
qsum_none (None ∷ qs) K L zero e h = qsum_same qs (λ b. K (suc b)) (λ b. L (suc b)) (λ b r. h (suc b) r (λ n. absurd (omega (arith, n))))
qsum_none (Some y ∷ qs) K L zero e h = absurd (cc)
qsum_none (None ∷ qs) K L (suc a) e h = qsum_none qs (λ b. K (suc b)) (λ b. L (suc b)) a e (λ b r n. h (suc b) r (λ s. n (omega (arith, s))))
qsum_none (Some y ∷ qs) K L (suc a) e h =
    let p = h 0 y (λ n. absurd (omega (arith, n))) in
    let i = qsum_none qs (λ b. K (suc b)) (λ b. L (suc b)) a e (λ b r n. h (suc b) r (λ s. n (omega (arith, s)))) in
    omega (arith, p, i)

pub queue_some : (qs : List (Option Queue)) (a : ℕ) (q : Queue) → queue_or (slice_get qs a) ≡ Some q → slice_get qs a ≡ Some (Some q)
queue_some [] a q e = absurd (cc)
queue_some (x ∷ qs) zero q e = ap Some e
queue_some (x ∷ qs) (suc a) q e = queue_some qs a q e

-- ---- what is left of a queue: its end, so many groups, and ports

abbrev pub groups_left : Weight → Queue → ℕ → ℕ
groups_left f q zero = 0
groups_left f q (suc n) = f (at q.unit q.group) 32 true + groups_left f (next_group q) n

abbrev pub port_values : Weight → ℕ → Queue → List Port → ℕ
port_values f w q [] = 0
port_values f w q (Load ∷ ps) = f (at q.unit (value_place q)) w false + port_values f w (next_port q) ps
port_values f w q (Store ∷ ps) = port_values f w (next_port q) ps

abbrev pub port_operands : Weight → ℕ → Queue → List Port → ℕ
port_operands f w q [] = 0
port_operands f w q (Load ∷ ps) = f (at q.unit (addr_place q)) 64 false + port_operands f w (next_port q) ps
port_operands f w q (Store ∷ ps) = f (at q.unit (addr_place q)) 64 false + (f (at q.unit (data_place q)) w false + port_operands f w (next_port q) ps)

abbrev pub queue_out : Weight → ℕ → Queue → List Port → ℕ → ℕ
queue_out f w q ps n = f (at q.unit q.groups) 32 true + groups_left f q n + port_values f w q ps

abbrev pub queue_in : Weight → ℕ → Queue → List Port → ℕ → ℕ
queue_in f w q ps n = f (at q.unit q.groups) 32 true + groups_left f q n + port_operands f w q ps

-- of all queues, by the widths, the ports and the groups of their arrays
abbrev pub queues_out : Weight → (ℕ → ℕ) → (ℕ → List Port) → (ℕ → ℕ) → List (Option Queue) → ℕ
queues_out f W P G qs = qsum (λ a q. queue_out f (W a) q (P a) (G a)) qs

abbrev pub queues_in : Weight → (ℕ → ℕ) → (ℕ → List Port) → (ℕ → ℕ) → List (Option Queue) → ℕ
queues_in f W P G qs = qsum (λ a q. queue_in f (W a) q (P a) (G a)) qs

-- groups do not read the next port, nor ports the next group
groups_port : (f : Weight) (q : Queue) (n : ℕ) → groups_left f (next_port q) n ≡ groups_left f q n
groups_port f q zero = refl
groups_port f q (suc n) = ap (λ x. f (at q.unit q.group) 32 true + x) (groups_port f (next_group q) n)

values_group : (f : Weight) (w : ℕ) (q : Queue) (ps : List Port) → port_values f w (next_group q) ps ≡ port_values f w q ps
values_group f w q [] = refl
values_group f w q (Load ∷ ps) = ap (λ x. f (at q.unit (value_place q)) w false + x) (values_group f w (next_port q) ps)
values_group f w q (Store ∷ ps) = values_group f w (next_port q) ps

operands_group : (f : Weight) (w : ℕ) (q : Queue) (ps : List Port) → port_operands f w (next_group q) ps ≡ port_operands f w q ps
operands_group f w q [] = refl
operands_group f w q (Load ∷ ps) = ap (λ x. f (at q.unit (addr_place q)) 64 false + x) (operands_group f w (next_port q) ps)
operands_group f w q (Store ∷ ps) = ap (λ x. f (at q.unit (addr_place q)) 64 false + (f (at q.unit (data_place q)) w false + x)) (operands_group f w (next_port q) ps)

-- ---- what an allocation, a load and a store take

module _ (f : Weight) (W : ℕ → ℕ) (qs : List (Option Queue)) (a : ℕ) (q : Queue) (here : slice_get qs a ≡ Some (Some q)) where
  pub group_out : (P : ℕ → List Port) (G H : ℕ → ℕ) → G a ≡ suc (H a) → ((b : ℕ) → b ≢ a → G b ≡ H b) → queues_out f W P G qs ≡ f (at q.unit q.group) 32 true + queues_out f W P H (set qs a (Some (next_group q)))
  group_out P G H e h =
      let c = qsum_change qs (λ b y. queue_out f (W b) y (P b) (G b)) (λ b y. queue_out f (W b) y (P b) (H b)) a q (next_group q) here (λ b y n. ap (λ m. queue_out f (W b) y (P b) m) (h b n)) in
      let x = ap (λ m. groups_left f q m) e in
      let y = values_group f (W a) q (P a) in
      omega (arith, c, x, y)

  pub group_in : (P : ℕ → List Port) (G H : ℕ → ℕ) → G a ≡ suc (H a) → ((b : ℕ) → b ≢ a → G b ≡ H b) → queues_in f W P G qs ≡ f (at q.unit q.group) 32 true + queues_in f W P H (set qs a (Some (next_group q)))
  group_in P G H e h =
      let c = qsum_change qs (λ b y. queue_in f (W b) y (P b) (G b)) (λ b y. queue_in f (W b) y (P b) (H b)) a q (next_group q) here (λ b y n. ap (λ m. queue_in f (W b) y (P b) m) (h b n)) in
      let x = ap (λ m. groups_left f q m) e in
      let y = operands_group f (W a) q (P a) in
      omega (arith, c, x, y)

  pub load_out : (P R : ℕ → List Port) (G : ℕ → ℕ) → P a ≡ Load ∷ R a → ((b : ℕ) → b ≢ a → P b ≡ R b) → queues_out f W P G qs ≡ f (at q.unit (value_place q)) (W a) false + queues_out f W R G (set qs a (Some (next_port q)))
  load_out P R G e h =
      let c = qsum_change qs (λ b y. queue_out f (W b) y (P b) (G b)) (λ b y. queue_out f (W b) y (R b) (G b)) a q (next_port q) here (λ b y n. ap (λ m. queue_out f (W b) y m (G b)) (h b n)) in
      let x = ap (λ m. port_values f (W a) q m) e in
      let y = groups_port f q (G a) in
      omega (arith, c, x, y)

  pub load_in : (P R : ℕ → List Port) (G : ℕ → ℕ) → P a ≡ Load ∷ R a → ((b : ℕ) → b ≢ a → P b ≡ R b) → queues_in f W P G qs ≡ f (at q.unit (addr_place q)) 64 false + queues_in f W R G (set qs a (Some (next_port q)))
  load_in P R G e h =
      let c = qsum_change qs (λ b y. queue_in f (W b) y (P b) (G b)) (λ b y. queue_in f (W b) y (R b) (G b)) a q (next_port q) here (λ b y n. ap (λ m. queue_in f (W b) y m (G b)) (h b n)) in
      let x = ap (λ m. port_operands f (W a) q m) e in
      let y = groups_port f q (G a) in
      omega (arith, c, x, y)

  pub store_out : (P R : ℕ → List Port) (G : ℕ → ℕ) → P a ≡ Store ∷ R a → ((b : ℕ) → b ≢ a → P b ≡ R b) → queues_out f W P G qs ≡ queues_out f W R G (set qs a (Some (next_port q)))
  store_out P R G e h =
      let c = qsum_change qs (λ b y. queue_out f (W b) y (P b) (G b)) (λ b y. queue_out f (W b) y (R b) (G b)) a q (next_port q) here (λ b y n. ap (λ m. queue_out f (W b) y m (G b)) (h b n)) in
      let x = ap (λ m. port_values f (W a) q m) e in
      let y = groups_port f q (G a) in
      omega (arith, c, x, y)

  pub store_in : (P R : ℕ → List Port) (G : ℕ → ℕ) → P a ≡ Store ∷ R a → ((b : ℕ) → b ≢ a → P b ≡ R b)
      → queues_in f W P G qs ≡ f (at q.unit (addr_place q)) 64 false + (f (at q.unit (data_place q)) (W a) false + queues_in f W R G (set qs a (Some (next_port q))))
  store_in P R G e h =
      let c = qsum_change qs (λ b y. queue_in f (W b) y (P b) (G b)) (λ b y. queue_in f (W b) y (R b) (G b)) a q (next_port q) here (λ b y n. ap (λ m. queue_in f (W b) y m (G b)) (h b n)) in
      let x = ap (λ m. port_operands f (W a) q m) e in
      let y = groups_port f q (G a) in
      omega (arith, c, x, y)
