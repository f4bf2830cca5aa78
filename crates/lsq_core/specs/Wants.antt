-- What acts ask of the entry that they change, and where the first such entry stands.
use Rattle.std.specs.Prelude.{◌≡◌, ℕ, ◌<◌, ◌≤◌, ◌&&◌, nat_le, min, Bool, true, false, cond, is_some, Option, None, Some, List, length}
use Rattle.lsq_core.specs.declared.entry.Entry.{Entry}
use Rattle.lsq_core.specs.declared.entry.Want.{Want}
use Rattle.lsq_core.specs.declared.entry.Want.TheVariants as want
use Rattle.lsq_core.specs.declared.entry.Made.{Made}
use Rattle.lsq_core.specs.declared.entry.PortAct.{PortAct}
use Rattle.lsq_core.specs.declared.entry.PortAct.TheVariants as port
use Rattle.lsq_core.specs.declared.entry.Made.TheVariants as made
use Rattle.std.specs.List.{find}
use Rattle.lsq_core.specs.Acts.{wants_addr, wants_data, wants_reply, is_serial, is_done, with_addr, with_data, executed, answered}
use Rattle.lsq_core.specs.Views.{entry_at}

abbrev pub wanted : Want → Entry → Bool
wanted (want.Addr p) x = wants_addr p x
wanted (want.Data p) x = wants_data p x
wanted (want.Reply p) x = wants_reply p x
wanted (want.Serial e) x = is_serial e x

-- the first entry that passes the test stands here
pub record IsFirst (test : Entry → Bool) (items : List Entry) (at : ℕ) : Type 0 where
  pub within : at < length items
  pub here : test (entry_at items at) ≡ true
  pub before : (k : ℕ) → k < at → test (entry_at items k) ≡ false

-- none of the first n entries passes the test
abbrev pub NoneBelow : (Entry → Bool) → List Entry → ℕ → Type 0
NoneBelow test items n = (k : ℕ) → k < n → test (entry_at items k) ≡ false

-- no entry passes the test
abbrev pub HasNone : (Entry → Bool) → List Entry → Type 0
HasNone test items = NoneBelow test items (length items)

-- no entry from the place n on passes the test
abbrev pub NoneAbove : (Entry → Bool) → List Entry → ℕ → Type 0
NoneAbove test items n = (k : ℕ) → n ≤ k → k < length items → test (entry_at items k) ≡ false

-- whether a reply is allowed at a port
abbrev pub replies : List Entry → ℕ → Bool
replies items p = is_done (find (wants_reply p) items)

-- what an act at a port asks of an entry
abbrev pub asks : PortAct → ℕ → Entry → Bool
asks port.Addr p x = wants_addr p x
asks port.Data p x = wants_data p x
asks port.Reply p x = wants_reply p x

-- whether an act is allowed at a port
abbrev pub allows_at : PortAct → List Entry → ℕ → Bool
allows_at port.Addr items p = is_some (find (wants_addr p) items)
allows_at port.Data items p = is_some (find (wants_data p) items)
allows_at port.Reply items p = replies items p

-- no port from a number on passes the test
abbrev pub HasNoPort : (ℕ → Bool) → ℕ → Type 0
HasNoPort test from = (p : ℕ) → from ≤ p → test p ≡ false

-- the least port from a number on that passes the test
pub record IsNextPort (test : ℕ → Bool) (from p : ℕ) : Type 0 where
  pub from_on : from ≤ p
  pub here : test p ≡ true
  pub before : (q : ℕ) → from ≤ q → q < p → test q ≡ false

-- no address is allowed at a port from a number on
abbrev pub HasNoAddr : List Entry → ℕ → Type 0
HasNoAddr items = HasNoPort (allows_at port.Addr items)

-- the least port from a number on at which an address is allowed
abbrev pub IsNextAddr : List Entry → ℕ → ℕ → Type 0
IsNextAddr items = IsNextPort (allows_at port.Addr items)

-- no data are allowed at a port from a number on
abbrev pub HasNoData : List Entry → ℕ → Type 0
HasNoData items = HasNoPort (allows_at port.Data items)

-- the least port from a number on at which data are allowed
abbrev pub IsNextData : List Entry → ℕ → ℕ → Type 0
IsNextData items = IsNextPort (allows_at port.Data items)

-- no reply is allowed at a port from a number on
abbrev pub HasNoReply : List Entry → ℕ → Type 0
HasNoReply items = HasNoPort (replies items)

-- the least port from a number on at which a reply is allowed
abbrev pub IsNextReply : List Entry → ℕ → ℕ → Type 0
IsNextReply items = IsNextPort (replies items)

-- the lesser of a port that was found and another, where the other is from a number on and b holds of it
abbrev pub nearer : Bool → Option ℕ → ℕ → ℕ → Option ℕ
nearer b None from p = cond (nat_le from p && b) (Some p) None
nearer b (Some f) from p = cond (nat_le from p && b) (Some (min f p)) (Some f)

-- what an act makes of the entry
abbrev pub changed_by : Made → Entry → Entry
changed_by (made.Addr v) x = with_addr v x
changed_by (made.Datum v) x = with_data v x
changed_by (made.Done v) x = executed v x
changed_by made.Replied x = answered x
