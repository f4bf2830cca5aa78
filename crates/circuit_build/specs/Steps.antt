-- What is laid for a step: the unit that takes its operands, where its value is used or it does more. A load or a store of an array with a queue uses the queue's next port.
use Rattle.std.specs.Prelude.{ℕ, cond, List, [], ◌∷◌, set, slice_get, false, true, Option, Some, None}
use Rattle.el_base.specs.declared.ty.Array.{Array}
use Rattle.el_base.specs.declared.operation.Op1.{Op1 as Unary}
use Rattle.el_base.specs.declared.operation.Op2.{Op2 as Binary}
use Rattle.el_base.specs.Widths.{ty_width, op1_out, op2_out}
use Rattle.ir.specs.declared.instr.Instr.{Instr}
use Rattle.ir.specs.declared.instr.Instr.TheVariants as step
use Rattle.net_types.specs.declared.net.Unit.TheVariants.{Const, Op1, Op2, Select, Read}
use Rattle.net_types.specs.Nets.{at}
use Rattle.circuit_build.specs.declared.draft.Draft.{Draft}
use Rattle.circuit_build.specs.declared.draft.Queue.{Queue}
use Rattle.circuit_build.specs.Drafts.{plus, next, with_unit, with_chan, with_control, fed, uses_of_next, defined, undefined, triggered, trigger_of, copied, copy_of}
use Rattle.circuit_build.specs.Uses.{is_laid}

-- ---- queues

abbrev pub queue_or : Option (Option Queue) → Option Queue
queue_or None = None
queue_or (Some q) = q

-- the queue of an array, if it has one
abbrev pub queue_of : Draft → ℕ → Option Queue
queue_of d a = queue_or (slice_get d.queues a)

abbrev pub with_queue : ℕ → Queue → Draft → Draft
with_queue a q d = record d { queues = set d.queues a (Some q) }

-- the places of the next port: with G groups, input G + 1 + 2p is its address, input G + 2 + 2p its data, and output G + 1 + p its value
abbrev pub value_place : Queue → ℕ
value_place q = plus (plus q.groups 1) q.port

abbrev pub addr_place : Queue → ℕ
addr_place q = plus (value_place q) q.port

abbrev pub data_place : Queue → ℕ
data_place q = plus (addr_place q) 1

abbrev pub next_port : Queue → Queue
next_port q = record q { port = plus q.port 1 }

abbrev pub next_group : Queue → Queue
next_group q = record q { group = plus q.group 1 }

-- the control token passes a place of a queue
abbrev pub through_queue : Queue → ℕ → Draft → Draft
through_queue q p d = with_control (at q.unit p) (with_chan d.control (at q.unit p) 32 true d)

-- the next group of a queue is allocated
abbrev pub group_taken : ℕ → Queue → Draft → Draft
group_taken a q d = with_queue a (next_group q) (through_queue q q.group d)

abbrev pub allocated_by : ℕ → Option Queue → Draft → Draft
allocated_by a None d = d
allocated_by a (Some q) d = group_taken a q d

abbrev pub allocated : ℕ → Draft → Draft
allocated a d = allocated_by a (queue_of d a) d

-- ---- steps without a queue

abbrev pub const_laid : ℕ → ℕ → Draft → Draft
const_laid w n d =
    let e = triggered d in
    defined (at (next e) 0) w (fed (trigger_of d) (next e) 0 (with_unit (Const w n) e))

abbrev pub one_laid : Unary → ℕ → Draft → Draft
one_laid op a d =
    let e = copied a d in
    defined (at (next e) 0) (op1_out op) (fed (copy_of a d) (next e) 0 (with_unit (Op1 op) e))

abbrev pub two_laid : Binary → ℕ → ℕ → Draft → Draft
two_laid op a b d =
    let e = copied a d in
    let f = copied b e in
    defined (at (next f) 0) (op2_out op) (fed (copy_of b e) (next f) 1 (fed (copy_of a d) (next f) 0 (with_unit (Op2 op) f)))

abbrev pub select_laid : ℕ → ℕ → ℕ → ℕ → Draft → Draft
select_laid w c a b d =
    let e = copied c d in
    let f = copied a e in
    let g = copied b f in
    defined (at (next g) 0) w (fed (copy_of b f) (next g) 2 (fed (copy_of a e) (next g) 1 (fed (copy_of c d) (next g) 0 (with_unit (Select w) g))))

-- ---- loads and stores

abbrev pub element_width : Option Array → ℕ
element_width None = 0
element_width (Some x) = ty_width x.ty

abbrev pub width_at : List Array → ℕ → ℕ
width_at arrays a = element_width (slice_get arrays a)

abbrev pub read_laid : ℕ → ℕ → ℕ → Draft → Draft
read_laid a w p d =
    let e = copied p d in
    defined (at (next e) 0) w (fed (copy_of p d) (next e) 0 (with_unit (Read a) e))

-- the address goes to the port, whose output has the value
abbrev pub load_taken : Queue → ℕ → ℕ → ℕ → Draft → Draft
load_taken q a w p d =
    let e = fed (copy_of p d) q.unit (addr_place q) (copied p d) in
    with_queue a (next_port q) (defined (at q.unit (value_place q)) w e)

-- an array without a queue is only read
abbrev pub load_by : Option Queue → ℕ → ℕ → ℕ → Draft → Draft
load_by None a w p d = read_laid a w p d
load_by (Some q) a w p d = load_taken q a w p d

abbrev pub load_laid : List Array → ℕ → ℕ → Draft → Draft
load_laid arrays a p d = load_by (queue_of d a) a (width_at arrays a) p d

-- address and data go to the port
abbrev pub store_taken : Queue → ℕ → ℕ → ℕ → Draft → Draft
store_taken q a p v d =
    let e = copied p d in
    let f = copied v e in
    with_queue a (next_port q) (undefined (fed (copy_of v e) q.unit (data_place q) (fed (copy_of p d) q.unit (addr_place q) f)))

-- a store of an array without a queue does not come
abbrev pub store_by : Option Queue → ℕ → ℕ → ℕ → Draft → Draft
store_by None a p v d = undefined d
store_by (Some q) a p v d = store_taken q a p v d

abbrev pub store_laid : ℕ → ℕ → ℕ → Draft → Draft
store_laid a p v d = store_by (queue_of d a) a p v d

-- ---- all steps of a block, in order

abbrev pub step_made : List Array → Instr → Draft → Draft
step_made arrays (step.Const w n) d = const_laid w n d
step_made arrays (step.One op a) d = one_laid op a d
step_made arrays (step.Two op a b) d = two_laid op a b d
step_made arrays (step.Select w c a b) d = select_laid w c a b d
step_made arrays (step.Load a p) d = load_laid arrays a p d
step_made arrays (step.Store a p v) d = store_laid a p v d

abbrev pub step_laid : List Array → Instr → Draft → Draft
step_laid arrays i d = cond (is_laid i (uses_of_next d)) (step_made arrays i d) (undefined d)

abbrev pub steps_laid : List Array → List Instr → Draft → Draft
steps_laid arrays [] d = d
steps_laid arrays (i ∷ is) d = steps_laid arrays is (step_laid arrays i d)
