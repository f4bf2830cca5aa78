-- What is laid after the blocks: the return join with the ends of all queues and the exit, and a feeder for each target that no edge leads to.
use Rattle.std.specs.Prelude.{ℕ, List, [], ◌∷◌, zero, suc, length, get_or, true, Option, Some, None}
use Rattle.el_base.specs.declared.ty.Ty.{Ty}
use Rattle.el_base.specs.Widths.{ty_width}
use Rattle.ir.specs.declared.graph.Block.{Block}
use Rattle.net_types.specs.declared.net.Unit.TheVariants.{Branch, Const, Exit}
use Rattle.net_types.specs.Nets.{at}
use Rattle.circuit_build.specs.declared.draft.Draft.{Draft}
use Rattle.circuit_build.specs.declared.draft.End.{End}
use Rattle.circuit_build.specs.declared.draft.Queue.{Queue}
use Rattle.circuit_build.specs.Drafts.{number, plus, next, with_unit, with_chan, with_control, fed, control_forked, triggered, trigger_of, copied, copy_of}
use Rattle.circuit_build.specs.Steps.{through_queue}
use Rattle.circuit_build.specs.Jumps.{with_edge}
use Rattle.circuit_build.specs.Blocks.{head_laid}

-- ---- the return join

abbrev pub result_widths : Option Ty → List ℕ
result_widths None = []
result_widths (Some t) = ty_width t ∷ []

abbrev pub ended_by : Option Queue → Draft → Draft
ended_by None d = d
ended_by (Some q) d = through_queue q q.groups d

-- the control token passes the end of each queue, in order, without buffers
abbrev pub all_ended : List (Option Queue) → Draft → Draft
all_ended [] d = d
all_ended (q ∷ qs) d = all_ended qs (ended_by q d)

abbrev pub exited : Option Ty → Draft → Draft
exited None d = with_chan d.control (at (next d) 0) 32 true (with_unit Exit d)
exited (Some t) d =
    let e = with_chan d.control (at (next d) 0) 32 true (with_unit Exit d) in
    fed (copy_of 0 e) (next d) 1 (copied 0 e)

-- each argument has one use
abbrev pub ones : List ℕ → List ℕ
ones [] = []
ones (w ∷ ws) = 1 ∷ ones ws

abbrev pub join_laid : ℕ → ℕ → Option Ty → Draft → Draft
join_laid ins join r d =
    let e = head_laid ins join (result_widths r) (ones (result_widths r)) 0 d in
    exited r (all_ended e.queues e)

-- ---- feeders

-- a zero of each width, which a copy of the control token triggers
abbrev pub zero_laid : ℕ → Draft → Draft
zero_laid w d = fed (trigger_of d) (next d) 0 (with_unit (Const w 0) (triggered d))

abbrev pub zeros_laid : List ℕ → Draft → Draft
zeros_laid [] d = d
zeros_laid (w ∷ ws) d = zeros_laid ws (zero_laid w d)

abbrev pub zero_ends : List ℕ → Draft → List End
zero_ends [] d = []
zero_ends (w ∷ ws) d = record { place = at (next d) 0; width = w } ∷ zero_ends ws (zero_laid w d)

-- a branch of control that feeds its own data input, so that it never fires, and gives itself its condition, and n copies
abbrev pub fed_by_itself : ℕ → Draft → Draft
fed_by_itself n d =
    let e = control_forked (plus n 1) (with_control (at (next d) 0) (with_chan (at (next d) 1) (at (next d) 1) 32 true (with_unit (Branch 32) d))) in
    fed (trigger_of e) (next d) 0 (triggered e)

abbrev pub feeder_laid : ℕ → List ℕ → Draft → Draft
feeder_laid t args d =
    let e = fed_by_itself (number (length args)) d in
    let f = zeros_laid args e in
    with_edge t f.control (zero_ends args e) f

-- where no edge leads to the target
abbrev pub feeder_if : ℕ → ℕ → List ℕ → Draft → Draft
feeder_if zero t args d = feeder_laid t args d
feeder_if (suc n) t args d = d

-- of the blocks from b on, in order
abbrev pub feeders_laid : List ℕ → ℕ → List Block → Draft → Draft
feeders_laid counts b [] d = d
feeders_laid counts b (block ∷ blocks) d = feeders_laid counts (plus b 1) blocks (feeder_if (get_or counts b 0) b block.args d)
