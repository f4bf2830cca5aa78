-- What is laid before the blocks: the entry, a unit for each scalar, and a queue for each array that some access names.
use Rattle.std.specs.Prelude.{ℕ, ◌==◌, max, cond, List, [], ◌∷◌, ◌++◌, length, slice_get, false, Option, Some, None}
use Rattle.el_base.specs.declared.ty.Array.{Array}
use Rattle.el_base.specs.declared.ty.Scalar.{Scalar}
use Rattle.el_base.specs.Widths.{ty_width}
use Rattle.ir.specs.declared.instr.Instr.{Instr}
use Rattle.ir.specs.declared.instr.Instr.TheVariants as step
use Rattle.ir.specs.declared.graph.Block.{Block}
use Rattle.ir.specs.declared.groups.Access.{Access}
use Rattle.net_types.specs.declared.net.Port.{Port}
use Rattle.net_types.specs.declared.net.Port.TheVariants as port
use Rattle.net_types.specs.declared.net.Unit.TheVariants.{Entry, Param, Lsq}
use Rattle.net_types.specs.Nets.{at}
use Rattle.circuit_build.specs.declared.draft.Draft.{Draft}
use Rattle.circuit_build.specs.declared.draft.End.{End}
use Rattle.circuit_build.specs.Drafts.{number, plus, next, with_unit}
use Rattle.circuit_build.specs.Uses.{zeros}
use Rattle.circuit_build.specs.Jumps.{with_edge}

-- ---- the entry and the scalars: the first edge, into block 0

-- of a net with so many targets
abbrev pub started : ℕ → Draft
started targets = record { units = Entry ∷ []; chans = []; control = at 0 0; trigger = at 0 0; uses = []; ends = []; edges = []; tails = zeros targets; heads = []; queues = [] }

abbrev pub params_laid : ℕ → List Scalar → Draft → Draft
params_laid j [] d = d
params_laid j (s ∷ ss) d = params_laid (plus j 1) ss (with_unit (Param j) d)

abbrev pub param_ends : ℕ → List Scalar → Draft → List End
param_ends j [] d = []
param_ends j (s ∷ ss) d = record { place = at (next d) 0; width = ty_width s.ty } ∷ param_ends (plus j 1) ss (with_unit (Param j) d)

abbrev pub entered : List Scalar → Draft → Draft
entered ss d = with_edge 0 d.control (param_ends 0 ss d) (params_laid 0 ss d)

-- ---- ports: one for each step of an access of the array, in order

abbrev pub port_of : Option Instr → Port
port_of None = port.Load
port_of (Some (step.Const w n)) = port.Load
port_of (Some (step.One op a)) = port.Load
port_of (Some (step.Two op a b)) = port.Load
port_of (Some (step.Select w c a b)) = port.Load
port_of (Some (step.Load a p)) = port.Load
port_of (Some (step.Store a p v)) = port.Store

abbrev pub steps_of : Option Block → List Instr
steps_of None = []
steps_of (Some b) = b.steps

abbrev pub ports_at : List Instr → List ℕ → List Port
ports_at steps [] = []
ports_at steps (i ∷ is) = port_of (slice_get steps i) ∷ ports_at steps is

abbrev pub access_ports : ℕ → List Block → Access → List Port
access_ports a blocks x = cond (x.array == a) (ports_at (steps_of (slice_get blocks x.block)) x.steps) []

abbrev pub ports_of : ℕ → List Block → List Access → List Port
ports_of a blocks [] = []
ports_of a blocks (x ∷ xs) = access_ports a blocks x ++ ports_of a blocks xs

-- ---- groups: one for each access of the array, with as many ports as steps, from port p on

abbrev pub numbers_from : ℕ → List ℕ → List ℕ
numbers_from p [] = []
numbers_from p (i ∷ is) = p ∷ numbers_from (plus p 1) is

abbrev pub number_after : ℕ → List ℕ → ℕ
number_after p [] = p
number_after p (i ∷ is) = number_after (plus p 1) is

abbrev pub groups_from : ℕ → ℕ → List Access → List (List ℕ)
groups_from a p [] = []
groups_from a p (x ∷ xs) = cond (x.array == a) (numbers_from p x.steps ∷ groups_from a (number_after p x.steps) xs) (groups_from a p xs)

-- ---- depth: that of the greatest group, and 16 at least

abbrev pub depth_from : ℕ → ℕ → List Access → ℕ
depth_from a m [] = m
depth_from a m (x ∷ xs) = cond (x.array == a) (depth_from a (max m (number (length x.steps))) xs) (depth_from a m xs)

-- ---- queues

abbrev pub queue_laid : ℕ → List Port → List (List ℕ) → ℕ → Draft → Draft
queue_laid a ps gs m d = record (with_unit (Lsq a m ps gs false) d) { queues = d.queues ++ Some (record { unit = next d; groups = number (length gs); group = 0; port = 0 }) ∷ [] }

abbrev pub without_queue : Draft → Draft
without_queue d = record d { queues = d.queues ++ None ∷ [] }

abbrev pub queue_if : ℕ → List Port → List (List ℕ) → ℕ → Draft → Draft
queue_if a ps [] m d = without_queue d
queue_if a ps (g ∷ gs) m d = queue_laid a ps (g ∷ gs) m d

-- of the arrays from a on, in order
abbrev pub queues_laid : List Block → List Access → ℕ → List Array → Draft → Draft
queues_laid blocks of a [] d = d
queues_laid blocks of a (x ∷ xs) d = queues_laid blocks of (plus a 1) xs (queue_if a (ports_of a blocks of) (groups_from a 0 of) (depth_from a 16 of) d)
