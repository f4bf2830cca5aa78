-- Private: only contracts of this crate cite it. Acts that are looked for one after another.
use Rattle.std.specs.Prelude.{◌≡◌, ℕ, ◌+◌, ◌<◌, ◌≤◌, ◌^◌, ◌==◌, nat_lt, cond, Option, Some, None, List, [], ◌∷◌, length}
use Rattle.net_types.specs.declared.net.Net.{Net}
use Rattle.net_types.specs.declared.firing.Act.{Act}
use Rattle.net_types.specs.declared.firing.Act.TheVariants.{Go, From, Send, Alloc, Addr, Data, Exec, Reply, Retire, End}
use Rattle.net_types.specs.declared.firing.Firing.{Firing}
use Rattle.net_types.specs.Nets.{firing}
use Rattle.net_types.specs.Order.{act_rank, act_number}
use Rattle.lsq_core.specs.Views.{QueueView, oldest_of}
use Rattle.net_core.specs.declared.find.Family.{Family}
use Rattle.net_core.specs.declared.find.Family.TheVariants as family
use Rattle.net_core.specs.declared.find.Numbers.{Numbers}
use Rattle.net_core.specs.Fire.{State, enabled}

-- the acts of a family
abbrev pub act_of : Family → ℕ → Act
act_of family.Go j = Go
act_of family.From j = From j
act_of family.Send j = Send j
act_of family.Alloc j = Alloc j
act_of family.Addr j = Addr j
act_of family.Data j = Data j
act_of family.Exec j = Exec j
act_of family.Reply j = Reply j
act_of family.Retire j = Retire
act_of family.End j = End

abbrev pub family_rank : Family → ℕ
family_rank family.Go = 0
family_rank family.From = 1
family_rank family.Send = 2
family_rank family.Alloc = 3
family_rank family.Addr = 4
family_rank family.Data = 5
family_rank family.Exec = 6
family_rank family.Reply = 7
family_rank family.Retire = 8
family_rank family.End = 9

-- the number has the bits of an act of the family
abbrev pub IsNumberOf : Family → ℕ → Type 0
IsNumberOf family.Go j = Unit {0}
IsNumberOf family.From j = j < 2 ^ 32
IsNumberOf family.Send j = j < 2 ^ 32
IsNumberOf family.Alloc j = j < 2 ^ 32
IsNumberOf family.Addr j = j < 2 ^ 32
IsNumberOf family.Data j = j < 2 ^ 32
IsNumberOf family.Exec j = Unit {0}
IsNumberOf family.Reply j = j < 2 ^ 32
IsNumberOf family.Retire j = Unit {0}
IsNumberOf family.End j = Unit {0}

-- so has each number below an end
abbrev pub AreNumbersOf : Family → ℕ → Type 0
AreNumbersOf f end = (j : ℕ) → j < end → IsNumberOf f j

-- the numbers up to an end of the acts of a family that do not stand before an act
abbrev pub start_from : Family → Act → ℕ → ℕ
start_from f from end = cond (nat_lt (act_rank from) (family_rank f)) 0 (cond (act_rank from == family_rank f) (act_number from) end)

abbrev pub numbers_from : Family → Act → ℕ → Numbers
numbers_from f from end = record { start = start_from f from end; end = end }

abbrev pub greater : ℕ → ℕ → ℕ
greater m n = cond (nat_lt m n) n m

-- the serial numbers from that of the oldest entry that may execute on
abbrev pub serials_from : Act → ℕ → Option ℕ → Numbers
serials_from from count None = record { start = 0; end = 0 }
serials_from from count (Some oldest) = record { start = greater (start_from family.Exec from (oldest + count)) oldest; end = oldest + count }

-- the numbers of the acts of a queue
abbrev pub queue_numbers : Family → Act → QueueView → Numbers
queue_numbers family.Go from q = numbers_from family.Go from 0
queue_numbers family.From from q = numbers_from family.From from 0
queue_numbers family.Send from q = numbers_from family.Send from 0
queue_numbers family.Alloc from q = numbers_from family.Alloc from (length q.groups)
queue_numbers family.Addr from q = numbers_from family.Addr from (length q.ports)
queue_numbers family.Data from q = numbers_from family.Data from (length q.ports)
queue_numbers family.Exec from q = serials_from from (length q.queue.items) (oldest_of q.queue)
queue_numbers family.Reply from q = numbers_from family.Reply from (length q.ports)
queue_numbers family.Retire from q = numbers_from family.Retire from 1
queue_numbers family.End from q = numbers_from family.End from 1

-- the kinds of acts of a queue, in their order
abbrev pub queue_families : List Family
queue_families = family.Alloc ∷ family.Addr ∷ family.Data ∷ family.Exec ∷ family.Reply ∷ family.Retire ∷ family.End ∷ []

-- no act of a family with a number from start on and below end is enabled
abbrev pub NoneIn : Net → State → ℕ → Family → ℕ → ℕ → Type 0
NoneIn net s u f start end = (j : ℕ) → start ≤ j → j < end → enabled net s (firing u (act_of f j)) → ⊥

-- the act is the first enabled one of these
pub record IsFirstIn (net : Net) (s : State) (u : ℕ) (f : Family) (start end : ℕ) (act : Act) : Type 0 where
  pub number : ℕ
  pub from : start ≤ number
  pub within : number < end
  pub is : act ≡ act_of f number
  pub fires : enabled net s (firing u act)
  pub before : NoneIn net s u f start number

-- the act from which on the acts of the unit u are looked at
abbrev pub act_from : Firing → ℕ → Act
act_from place u = cond (u == place.unit) place.act Go
