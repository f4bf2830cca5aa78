-- Which data may be saved: those of the states that runs lead to, and more.
use Rattle.std.specs.Prelude.{◌≡◌, ◌≢◌, ℕ, ◌<◌, ◌≤◌, ◌^◌, Bool, true, false, Option, Some, None, IfSome, List, [], get_or}
use Rattle.std.specs.List.{All}
use Rattle.el_base.specs.declared.ty.Ty.{Ty}
use Rattle.net_types.specs.declared.net.Net.{Net}
use Rattle.net_types.specs.declared.net.Port.{Port}
use Rattle.net_types.specs.declared.net.Port.TheVariants.{Load}
use Rattle.net_types.specs.declared.net.Unit.{Unit as Kind}
use Rattle.net_types.specs.declared.net.Unit.TheVariants.{Entry, Param, Const, Op1, Op2, Select, Fork, Mux, Cmerge, Branch, Sink, Read, Lsq, Exit}
use Rattle.net_types.specs.Inputs.{IsPatternOf}
use Rattle.net_types.specs.Nets.{into, chan_at, kind_of}
use Rattle.net_types.specs.Tables.{array_width}
use Rattle.lsq_core.specs.declared.entry.Entry.{Entry as QueueEntry}
use Rattle.lsq_core.specs.Acts.{is_store}
use Rattle.lsq_core.specs.Laws.{sound}
use Rattle.net_core.specs.declared.parts.Parts.{Parts}
use Rattle.net_core.specs.Parts.{no_part, Stands, IsByUnit}

-- the greatest next serial number and count of strays that is saved
abbrev pub max_count : ℕ
max_count = 2 ^ 48

-- an entry of a port of a queue whose array has elements of this width: its side is its port's, data stand at stores alone,
-- an executed entry has its address and a store its data, only an executed load has replied, and the value is 0 but for an
-- executed load
pub record EntryFits (width : ℕ) (ports : List Port) (x : QueueEntry) : Type 0 where
  pub side : x.store ≡ is_store (get_or ports x.port Load)
  pub addr : IfSome x.addr (λ v. v < 2 ^ 64)
  pub datum : IfSome x.datum (λ v. v < 2 ^ width)
  pub at_store : x.store ≡ false → x.datum ≡ None
  pub executed : sound x ≡ true
  pub value : x.value < 2 ^ width
  pub of_store : x.store ≡ true → x.value ≡ 0
  pub of_waiting : x.done ≡ false → x.value ≡ 0
  pub replied : x.replied ≡ true → (x.store ≡ false) × (x.done ≡ true)

-- what is asked of the data of a unit besides, by its number and kind: bits of a fork's head ask for the head
abbrev pub UnitFits : Net → Parts → ℕ → Kind → Type 0
UnitFits net p u Entry = Unit {0}
UnitFits net p u (Param j) = Unit {0}
UnitFits net p u (Const w n) = Unit {0}
UnitFits net p u (Op1 op) = Unit {0}
UnitFits net p u (Op2 op) = Unit {0}
UnitFits net p u (Select w) = Unit {0}
UnitFits net p u (Fork w outs) = get_or p.sent u [] ≢ [] → get_or p.tokens (into u 0 net.chans) [] ≢ []
UnitFits net p u (Mux w ins) = Unit {0}
UnitFits net p u (Cmerge ins) = Unit {0}
UnitFits net p u (Branch w) = Unit {0}
UnitFits net p u (Sink w) = Unit {0}
UnitFits net p u (Read a) = Unit {0}
UnitFits net p u (Lsq a d ps gs f) = All (EntryFits (array_width net.arrays a) ps) (get_or p.queues u no_part).entries
UnitFits net p u Exit = Unit {0}

-- a value stands exactly where the exit has fired and the net has a result, and is a pattern of its type
abbrev pub ValueFits : Option Ty → Bool → Option ℕ → Type 0
ValueFits None fired value = value ≡ None
ValueFits (Some ty) false value = value ≡ None
ValueFits (Some ty) true None = ⊥
ValueFits (Some ty) true (Some v) = IsPatternOf ty v

-- the data may be saved
pub record Fits (net : Net) (p : Parts) : Type 0 where
  pub stands : Stands net p
  pub by_unit : IsByUnit net p
  pub tokens : (c : ℕ) → All (λ v. v < 2 ^ (chan_at net c).width) (get_or p.tokens c [])
  pub units : (u : ℕ) → UnitFits net p u (kind_of net u)
  pub value : (x : ℕ) → kind_of net x ≡ Exit → ValueFits net.result (get_or p.fired x false) p.value
  pub serials : (u : ℕ) → (get_or p.queues u no_part).next ≤ max_count
  pub strays : (a : ℕ) → get_or p.strays a 0 ≤ max_count
