-- The order of firings: by unit, then by the act's rank, then by the act's number.
use Rattle.std.specs.Prelude.{◌≡◌, ◌⊎◌, ℕ, suc, ◌<◌, ◌≤◌, ◌^◌, nat_lt, Bool, Option, Some, None, if◌then◌else◌}
use Rattle.std.specs.Ordering.{nat_cmp, on, then_cmp, is_lt}
use Rattle.std.specs.declared.cmp.Ordering.{Ordering}
use Rattle.net_types.specs.declared.firing.Act.{Act}
use Rattle.net_types.specs.declared.firing.Act.TheVariants.{Go, From, Send, Alloc, Addr, Data, Exec, Reply, Retire, End}
use Rattle.net_types.specs.declared.firing.Firing.{Firing}

-- where an act stands among the kinds of acts
abbrev pub act_rank : Act → ℕ
act_rank Go = 0
act_rank (From j) = 1
act_rank (Send j) = 2
act_rank (Alloc g) = 3
act_rank (Addr p) = 4
act_rank (Data p) = 5
act_rank (Exec e) = 6
act_rank (Reply p) = 7
act_rank Retire = 8
act_rank End = 9

-- the number of the act's input, output, group, port or entry; 0 where it names none
abbrev pub act_number : Act → ℕ
act_number Go = 0
act_number (From j) = j
act_number (Send j) = j
act_number (Alloc g) = g
act_number (Addr p) = p
act_number (Data p) = p
act_number (Exec e) = e
act_number (Reply p) = p
act_number Retire = 0
act_number End = 0

abbrev pub act_order : Act → Act → Ordering
act_order = then_cmp (on act_rank nat_cmp) (on act_number nat_cmp)

abbrev pub firing_order : Firing → Firing → Ordering
firing_order = then_cmp (on (λ (f : Firing). f.unit) nat_cmp) (on (λ (f : Firing). f.act) act_order)

abbrev pub is_before : Firing → Firing → Bool
is_before f g = is_lt (firing_order f g)

-- the act a stands before b, or is b
abbrev pub ActLe : Act → Act → Type 0
ActLe a b = (act_rank a < act_rank b) ⊎ ((act_rank a ≡ act_rank b) × (act_number a ≤ act_number b))

-- the firing f stands before g, or is g
abbrev pub FiringLe : Firing → Firing → Type 0
FiringLe f g = (f.unit < g.unit) ⊎ ((f.unit ≡ g.unit) × ActLe f.act g.act)

-- the number of an act has its bits: 64 for an entry, 32 for an input, output, group or port
abbrev pub ActFits : Act → Type 0
ActFits Go = Unit {0}
ActFits (From j) = j < 2 ^ 32
ActFits (Send j) = j < 2 ^ 32
ActFits (Alloc g) = g < 2 ^ 32
ActFits (Addr p) = p < 2 ^ 32
ActFits (Data p) = p < 2 ^ 32
ActFits (Exec e) = e < 2 ^ 64
ActFits (Reply p) = p < 2 ^ 32
ActFits Retire = Unit {0}
ActFits End = Unit {0}

-- the act of a kind after the number n, or where no number below the end follows, the first act of the next kind
abbrev pub then_next : ℕ → (ℕ → Act) → ℕ → Act → Act
then_next end kind n first = if nat_lt (suc n) end then kind (suc n) else first

-- the act after an act, of those whose numbers have their bits
abbrev pub next_act : Act → Option Act
next_act Go = Some (From 0)
next_act (From j) = Some (then_next (2 ^ 32) From j (Send 0))
next_act (Send j) = Some (then_next (2 ^ 32) Send j (Alloc 0))
next_act (Alloc g) = Some (then_next (2 ^ 32) Alloc g (Addr 0))
next_act (Addr p) = Some (then_next (2 ^ 32) Addr p (Data 0))
next_act (Data p) = Some (then_next (2 ^ 32) Data p (Exec 0))
next_act (Exec e) = Some (then_next (2 ^ 64) Exec e (Reply 0))
next_act (Reply p) = Some (then_next (2 ^ 32) Reply p Retire)
next_act Retire = Some End
next_act End = None

-- b is after a, and nothing stands between
pub record IsNextAct (a b : Act) : Type 0 where
  pub after : ActLe b a → ⊥
  pub least : (c : Act) → ActFits c → (ActLe c a → ⊥) → ActLe b c
