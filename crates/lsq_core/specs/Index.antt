-- Sets of places of entries: for each number of a row, the places of the entries that stand in it.
use Rattle.std.specs.Prelude.{◌≡◌, ℕ, ◌+◌, ◌-◌, ◌*◌, ◌/◌, ◌%◌, ◌^◌, ◌<◌, ◌≤◌, ◌==◌, ◌&&◌, ◌||◌, not, nat_lt, max, Bool, true, false, cond, is_some, is_none, List, length}
use Rattle.std.specs.List.{list_all}
use Rattle.lsq_core.specs.declared.entry.Entry.{Entry}
use Rattle.lsq_core.specs.declared.marks.Kind.{Kind}
use Rattle.lsq_core.specs.declared.marks.Kind.TheVariants as kind
use Rattle.lsq_core.specs.declared.marks.Marks.{Marks}
use Rattle.lsq_core.specs.declared.index.Index.{Index}
use Rattle.lsq_core.specs.Acts.{ready, or_zero, same, executes}
use Rattle.lsq_core.specs.Views.{count_of, entry_at}
use Rattle.lsq_core.specs.Bits.{has}

-- an address among so many: any function would do
unfoldable pub bucket : ℕ → ℕ → ℕ
bucket n a = a * 11400714819323198485 % 2 ^ 64 / 2 ^ 32 % n

-- the row of an entry, among so many
abbrev pub row_of : Kind → ℕ → Entry → ℕ
row_of kind.Addr rows x = x.port
row_of kind.Data rows x = x.port
row_of kind.Reply rows x = x.port
row_of kind.Answer rows x = x.port
row_of kind.Blank rows x = count_of x.store
row_of kind.Ready rows x = count_of x.store
row_of kind.Pending rows x = 2 * bucket (max 1 (rows / 2)) (or_zero x.addr) + count_of x.store

-- whether an entry stands in its row
abbrev pub stands : Kind → Entry → Bool
stands kind.Addr x = is_none x.addr
stands kind.Data x = x.store && is_none x.datum
stands kind.Reply x = not x.store && not x.replied
stands kind.Answer x = x.done && (not x.store && not x.replied)
stands kind.Blank x = is_none x.addr
stands kind.Ready x = ready x
stands kind.Pending x = is_some x.addr && not x.done

abbrev pub in_row : Kind → ℕ → ℕ → Entry → Bool
in_row k rows r x = (row_of k rows x == r) && stands k x

-- two entries stand in the same rows
abbrev pub AreAlike : Kind → ℕ → Entry → Entry → Type 0
AreAlike k rows x y = (r : ℕ) → in_row k rows r x ≡ in_row k rows r y

-- the place of the entry of a number in a ring
abbrev pub wrapped : ℕ → ℕ → ℕ → ℕ
wrapped width head k = cond (nat_lt (head + k) width) (head + k) (head + k - width)

-- whether an entry of this number stands in a row
abbrev pub shown : Kind → ℕ → ℕ → List Entry → ℕ → Bool
shown kind rows r items k = nat_lt k (length items) && in_row kind rows r (entry_at items k)

-- room for all rows, of whole words
pub record HasRoom (m : Marks) : Type 0 where
  pub whole : m.width % 64 ≡ 0
  pub bits : m.rows * m.width ≡ 64 * length m.bits
  pub small : m.rows * m.width ≤ 2 ^ 60

-- each row has the places of the entries that stand in it, and no other
pub record Shows (m : Marks) (head : ℕ) (items : List Entry) : Type 0 where
  pub room : HasRoom m
  pub within : head < m.width
  pub most : length items ≤ m.width
  pub shows : (r k : ℕ) → r < m.rows → k < m.width → has m.bits (r * m.width + wrapped m.width head k) ≡ shown m.kind m.rows r items k
  pub rows : (k : ℕ) → k < length items → row_of m.kind m.rows (entry_at items k) < m.rows

-- the shape stays
pub record KeepsShape (old new : Marks) : Type 0 where
  pub kind : new.kind ≡ old.kind
  pub rows : new.rows ≡ old.rows
  pub width : new.width ≡ old.width
  pub size : length new.bits ≡ length old.bits

-- sets of this kind, of so many rows, each for so many places
pub record IsMarks (kd : Kind) (r w : ℕ) (m : Marks) : Type 0 where
  pub kind : m.kind ≡ kd
  pub rows : m.rows ≡ r
  pub width : m.width ≡ w
  pub room : HasRoom m

-- the first entry from a number on that stands in a row
pub record IsNextIn (m : Marks) (row from at : ℕ) (items : List Entry) : Type 0 where
  pub from_on : from ≤ at
  pub within : at < length items
  pub here : in_row m.kind m.rows row (entry_at items at) ≡ true
  pub before : (k : ℕ) → from ≤ k → k < at → in_row m.kind m.rows row (entry_at items k) ≡ false

abbrev pub HasNoMoreIn : Marks → ℕ → ℕ → List Entry → Type 0
HasNoMoreIn m row from items = (k : ℕ) → from ≤ k → k < length items → in_row m.kind m.rows row (entry_at items k) ≡ false

-- some entry stands in a row
pub record HasOneIn (m : Marks) (row : ℕ) (items : List Entry) : Type 0 where
  pub at : ℕ
  pub within : at < length items
  pub here : in_row m.kind m.rows row (entry_at items at) ≡ true

-- the least row from one on, and below another, in which an entry stands
pub record IsNextRow (m : Marks) (from to row : ℕ) (items : List Entry) : Type 0 where
  pub from_on : from ≤ row
  pub below : row < to
  pub here : HasOneIn m row items
  pub before : (r : ℕ) → from ≤ r → r < row → HasNoMoreIn m r 0 items

abbrev pub HasNoRow : Marks → ℕ → ℕ → List Entry → Type 0
HasNoRow m from to items = (r : ℕ) → from ≤ r → r < to → HasNoMoreIn m r 0 items

-- how many rows there are for addresses of a side, for so many places
abbrev pub buckets : ℕ → ℕ
buckets width = width / 16

-- the sets of all kinds
pub record IsIndex (ports width : ℕ) (i : Index) : Type 0 where
  pub addr : IsMarks kind.Addr ports width i.addr
  pub «data» : IsMarks kind.Data ports width i.«data»
  pub reply : IsMarks kind.Reply ports width i.reply
  pub answer : IsMarks kind.Answer ports width i.answer
  pub blank : IsMarks kind.Blank 2 width i.blank
  pub ready : IsMarks kind.Ready 2 width i.ready
  pub pending : IsMarks kind.Pending (2 * buckets width) width i.pending
  pub some : 64 ≤ width

-- they show the entries
pub record Indexes (i : Index) (head : ℕ) (items : List Entry) : Type 0 where
  pub addr : Shows i.addr head items
  pub «data» : Shows i.«data» head items
  pub reply : Shows i.reply head items
  pub answer : Shows i.answer head items
  pub blank : Shows i.blank head items
  pub ready : Shows i.ready head items
  pub pending : Shows i.pending head items

-- o is no older entry of a side whose address is not known
abbrev pub filled : Bool → Entry → Entry → Bool
filled side x o = not (nat_lt o.serial x.serial) || not ((count_of o.store == count_of side) && is_none o.addr)

-- o is no older entry of a side with the address of x that is not executed
abbrev pub clear : Bool → Entry → Entry → Bool
clear side x o =
    not (nat_lt o.serial x.serial)
    || not ((count_of o.store == count_of side) && ((is_some o.addr && not o.done) && same o.addr x.addr))

-- it is so of the first n entries
abbrev pub IsClearBelow : Bool → Entry → List Entry → ℕ → Type 0
IsClearBelow side x items n = (k : ℕ) → k < n → clear side x (entry_at items k) ≡ true

-- an entry of a side that may execute
abbrev pub runs : Bool → Bool → List Entry → Entry → Bool
runs side forward items x = (count_of x.store == count_of side) && executes forward items x

-- the addresses before an entry of a side are known, so far as it waits for them
abbrev pub reached : Bool → List Entry → Entry → Bool
reached side items x = (not side || list_all (filled false x) items) && list_all (filled true x) items
