-- The text of a saved state, a line after another.
use Rattle.std.specs.Prelude.{◌≡◌, ℕ, zero, suc, Bool, true, false, cond, Option, Some, None, List, [], ◌∷◌, ◌++◌, map, length, get_or, codes, decimal}
use Rattle.std.specs.List.{join_with_byte}
use Rattle.el_base.specs.declared.ty.Ty.TheVariants.{U8}
use Rattle.el_base.specs.declared.ty.Array.{Array}
use Rattle.el_base.specs.declared.ty.Scalar.{Scalar}
use Rattle.net_types.specs.declared.net.Net.{Net}
use Rattle.net_types.specs.declared.net.Unit.{Unit as Kind}
use Rattle.net_types.specs.Nets.{kind_of}
use Rattle.net_check.specs.Ends.{is_lsq}
use Rattle.lsq_core.specs.declared.entry.Entry.{Entry}
use Rattle.lsq_core.specs.declared.part.QueuePart.{QueuePart}
use Rattle.net_core.specs.declared.parts.Parts.{Parts}
use Rattle.net_core.specs.Parts.{no_part}
use Rattle.net_text.specs.Bodies.{text_of}
use Rattle.inputs_text.specs.Results.{written}

-- a line: its parts with one space (32) between two
abbrev pub words : List (List ℕ) → List ℕ
words parts = join_with_byte 32 parts

-- the lines of so many items, in order, from the item of a number on
abbrev pub each : (ℕ → List (List ℕ)) → ℕ → ℕ → List (List ℕ)
each lines i zero = []
each lines i (suc n) = lines i ++ each lines (suc i) n

-- past the header
abbrev pub no_scalar : Scalar
no_scalar = record { name = []; ty = U8 }

abbrev pub no_array : Array
no_array = record { name = []; ty = U8; len = 0 }

-- a scalar, by its number
abbrev pub scalar_lines : List Scalar → List ℕ → ℕ → List (List ℕ)
scalar_lines scalars patterns j = words (codes "scalar" ∷ (get_or scalars j no_scalar).name ∷ codes "=" ∷ written (get_or scalars j no_scalar).ty (get_or patterns j 0) ∷ []) ∷ []

-- a unit that has fired
abbrev pub flag_lines : ℕ → Bool → List (List ℕ)
flag_lines u false = []
flag_lines u true = words (codes "fired" ∷ decimal u ∷ []) ∷ []

abbrev pub fired_lines : List Bool → ℕ → List (List ℕ)
fired_lines fired u = flag_lines u (get_or fired u false)

-- the result that the exit took
abbrev pub value_lines : Option ℕ → List (List ℕ)
value_lines None = []
value_lines (Some v) = words (codes "value" ∷ decimal v ∷ []) ∷ []

-- a word, a number and numbers, where there is one of these at least
abbrev pub list_lines : List ℕ → ℕ → List ℕ → List (List ℕ)
list_lines word n [] = []
list_lines word n (v ∷ vs) = words (word ∷ decimal n ∷ map decimal (v ∷ vs)) ∷ []

-- the tokens of a channel, and the outputs that a fork's head was sent on
abbrev pub chan_lines : List (List ℕ) → ℕ → List (List ℕ)
chan_lines tokens c = list_lines (codes "chan") c (get_or tokens c [])

abbrev pub fork_lines : List (List ℕ) → ℕ → List (List ℕ)
fork_lines sent u = list_lines (codes "fork") u (get_or sent u [])

-- an entry of a queue
abbrev pub maybe : Option ℕ → List ℕ
maybe None = codes "-"
maybe (Some v) = decimal v

abbrev pub digit : Bool → List ℕ
digit b = cond b (codes "1") (codes "0")

abbrev pub entry_line : Entry → List ℕ
entry_line x = words (codes "entry" ∷ decimal x.serial ∷ decimal x.port ∷ maybe x.addr ∷ maybe x.datum ∷ digit x.done ∷ decimal x.value ∷ digit x.replied ∷ [])

-- a queue with its entries; nothing of another unit
abbrev pub part_lines : Bool → ℕ → QueuePart → List (List ℕ)
part_lines false u q = []
part_lines true u q = words (codes "queue" ∷ decimal u ∷ decimal q.next ∷ []) ∷ map entry_line q.entries

abbrev pub queue_lines : (ℕ → Kind) → List QueuePart → ℕ → List (List ℕ)
queue_lines kind queues u = part_lines (is_lsq (kind u)) u (get_or queues u no_part)

-- the elements of an array, and how many accesses of it have strayed
abbrev pub array_lines : List Array → List (List ℕ) → ℕ → List (List ℕ)
array_lines arrays elements a = words (codes "array" ∷ (get_or arrays a no_array).name ∷ codes "=" ∷ map (written (get_or arrays a no_array).ty) (get_or elements a [])) ∷ []

abbrev pub stray_lines : List Array → List ℕ → ℕ → List (List ℕ)
stray_lines arrays strays a = words (codes "stray" ∷ (get_or arrays a no_array).name ∷ decimal (get_or strays a 0) ∷ []) ∷ []

abbrev pub first_line : List ℕ
first_line = words (codes "elastic" ∷ codes "state" ∷ codes "1" ∷ [])

abbrev pub made_line : ℕ → List ℕ
made_line made = words (codes "made" ∷ decimal made ∷ [])

abbrev pub end_line : List ℕ
end_line = codes "end"

-- the lines from each kind on: the last first
abbrev pub from_strays : Net → Parts → List (List ℕ)
from_strays net p = each (stray_lines net.arrays p.strays) 0 (length net.arrays) ++ end_line ∷ []

abbrev pub from_arrays : Net → Parts → List (List ℕ)
from_arrays net p = each (array_lines net.arrays p.given.arrays) 0 (length net.arrays) ++ from_strays net p

abbrev pub from_queues : Net → Parts → List (List ℕ)
from_queues net p = each (queue_lines (kind_of net) p.queues) 0 (length net.units) ++ from_arrays net p

abbrev pub from_forks : Net → Parts → List (List ℕ)
from_forks net p = each (fork_lines p.sent) 0 (length net.units) ++ from_queues net p

abbrev pub from_chans : Net → Parts → List (List ℕ)
from_chans net p = each (chan_lines p.tokens) 0 (length net.chans) ++ from_forks net p

abbrev pub from_value : Net → Parts → List (List ℕ)
from_value net p = value_lines p.value ++ from_chans net p

abbrev pub from_fired : Net → Parts → List (List ℕ)
from_fired net p = each (fired_lines p.fired) 0 (length net.units) ++ from_value net p

abbrev pub from_scalars : Net → Parts → List (List ℕ)
from_scalars net p = each (scalar_lines net.scalars p.given.scalars) 0 (length net.scalars) ++ from_fired net p

-- all lines of a state that so many firings led to
abbrev pub lines_of : Net → ℕ → Parts → List (List ℕ)
lines_of net made p = first_line ∷ made_line made ∷ from_scalars net p

-- the bytes are the text of the state: its lines, each with a line feed at its end
abbrev pub StateText : Net → ℕ → Parts → List ℕ → Type 0
StateText net made p bytes = bytes ≡ text_of (lines_of net made p)
