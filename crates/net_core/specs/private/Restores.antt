-- Private: only contracts of this crate cite it. Cells that are given what their units keep by plain data, and the data of cells.
use Rattle.std.specs.Prelude.{◌≡◌, ℕ, suc, ◌+◌, ◌<◌, ◌≤◌, Bool, true, false, List, [], ◌∷◌, length, get_or, take, drop}
use Rattle.std.specs.List.{All}
use Rattle.el_base.specs.Limits.{IsNumbered}
use Rattle.net_types.specs.declared.net.Unit.{Unit as Kind}
use Rattle.net_types.specs.declared.net.Unit.TheVariants.{Sink}
use Rattle.lsq_core.specs.declared.part.QueuePart.{QueuePart}
use Rattle.net_core.specs.declared.cell.Cell.{Cell}
use Rattle.net_core.specs.declared.cell.Cell.TheVariants as cell
use Rattle.net_core.specs.declared.parts.Parts.{Parts}
use Rattle.net_core.specs.Fire.{Own}
use Rattle.net_core.specs.Plans.{own_of, keeps, IsShaped}
use Rattle.net_core.specs.Parts.{Rising, own_from, with_bits}
use Rattle.net_core.specs.States.{queue_array}
use Rattle.net_core.specs.private.Sents.{count_false}

-- a cell for each unit, of its form and shape
pub record AreOfUnits (units : List Kind) (cells : List Cell) : Type 0 where
  pub count : length cells ≡ length units
  pub kept : (u : ℕ) → keeps (get_or units u (Sink 0)) (get_or cells u cell.Plain) ≡ true
  pub shaped : (u : ℕ) → IsShaped (get_or units u (Sink 0)) (get_or cells u cell.Plain) (queue_array (get_or cells u cell.Plain))

-- a cell keeps what its unit does by the data; it is of the same form, and so is its array
pub record IsRestored (p : Parts) (u : ℕ) (k : Kind) (before after : Cell) : Type 0 where
  pub own : own_of after ≡ own_from k p u
  pub kept : keeps k after ≡ true
  pub shaped : IsShaped k after (queue_array after)
  pub array : queue_array after ≡ queue_array before

-- so each of these cells
pub record AreRestored (p : Parts) (units : List Kind) (before after : List Cell) : Type 0 where
  pub count : length after ≡ length before
  pub each : (u : ℕ) → u < length units → IsRestored p u (get_or units u (Sink 0)) (get_or before u cell.Plain) (get_or after u cell.Plain)

-- so the first n of them, and the others are as they were
pub record IsRestoring (p : Parts) (units : List Kind) (before : List Cell) (n : ℕ) (cells : List Cell) : Type 0 where
  pub count : length cells ≡ length before
  pub made : (u : ℕ) → u < n → IsRestored p u (get_or units u (Sink 0)) (get_or before u cell.Plain) (get_or cells u cell.Plain)
  pub left : (u : ℕ) → n ≤ u → get_or cells u cell.Plain ≡ get_or before u cell.Plain

-- the first n outputs of a list are sent on, the others are not, and so many of all are left
pub record IsSending (outs : List ℕ) (before : List Bool) (n : ℕ) (sent : List Bool) : Type 0 where
  pub bits : sent ≡ with_bits (take n outs) before
  pub left : count_false sent + n ≡ length before
  pub rising : Rising (drop n outs)
  pub unsent : All (λ j. get_or sent j true ≡ false) (drop n outs)

-- the numbers of the bits that are set, counted from n
abbrev pub numbers_set : ℕ → List Bool → List ℕ
numbers_set n [] = []
numbers_set n (true ∷ bits) = n ∷ numbers_set (suc n) bits
numbers_set n (false ∷ bits) = numbers_set (suc n) bits

-- each bit of the cell has a number of 32 bits
abbrev pub HasFewBits : Cell → Type 0
HasFewBits c = IsNumbered (length (own_of c).sent)

-- the data of a cell
abbrev pub sent_part : Cell → List ℕ
sent_part c = numbers_set 0 (own_of c).sent

abbrev pub fired_in : Cell → Bool
fired_in c = (own_of c).fired

abbrev pub part_of : Own → QueuePart
part_of o = record { next = o.queue.next; entries = o.queue.items }

abbrev pub queue_part : Cell → QueuePart
queue_part c = part_of (own_of c)
