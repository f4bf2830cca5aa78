-- What contracts see of tables and workers.
use Rattle.std.specs.Prelude.{ℕ, Bool, Option, None, List, get_or}
use Rattle.elastic_link.specs.declared.put_end.PutEnd.{PutEnd}
use Rattle.elastic_link.specs.declared.take_end.TakeEnd.{TakeEnd}
use Rattle.net_types.specs.declared.net.Net.{Net}
use Rattle.net_types.specs.declared.firing.Inputs.{Inputs}
use Rattle.net_core.specs.Fire.{State}
use Rattle.net_core.specs.States.{state_of}
use Rattle.net_worker.specs.declared.tables.Tables.{Tables}
use Rattle.net_worker.specs.declared.worker.Worker.{Worker}
use Rattle.firing_log.specs.declared.entry.Entry.{Entry}

-- ---- tables

abbrev pub net_of : Tables → Net
net_of t = t.net.now

abbrev pub inputs_of : Tables → Inputs
inputs_of t = t.inputs

-- the owner of each unit
abbrev pub unit_owners : Tables → List ℕ
unit_owners t = t.owners

-- the owner of a unit
abbrev pub owner_in : Tables → ℕ → ℕ
owner_in t u = get_or t.owners u 0

-- ---- workers

abbrev pub number_of : Worker → ℕ
number_of w = w.number

-- how many entries the log may have
abbrev pub log_share : Worker → ℕ
log_share w = w.share

-- the entries of the log, oldest first
abbrev pub log_of : Worker → List Entry
log_of w = w.log.items

-- how many entries more the log may have
abbrev pub log_room : Worker → ℕ
log_room w = w.log.room

-- the stamp of the last entry, 0 before the first
abbrev pub clock_of : Worker → ℕ
clock_of w = w.clock

-- the worker was gathered
abbrev pub is_closed : Worker → Bool
is_closed w = w.closed

-- the state that the worker holds
abbrev pub held_state : Worker → State
held_state w = state_of w.portion.state

-- the ends by channel
abbrev pub put_end : Worker → ℕ → Option PutEnd
put_end w c = get_or w.puts.items c None

abbrev pub take_end : Worker → ℕ → Option TakeEnd
take_end w c = get_or w.takes.items c None
