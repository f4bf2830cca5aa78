-- What is laid for a block: its head, its groups of queues, its steps, and its jump.
use Rattle.std.specs.Prelude.{ℕ, zero, suc, ◌==◌, Bool, true, false, max, cond, List, [], ◌∷◌, ◌++◌, length, get_or, slice_get, Option, Some, None}
use Rattle.el_base.specs.declared.ty.Array.{Array}
use Rattle.ir.specs.declared.graph.Block.{Block}
use Rattle.ir.specs.declared.graph.Jump.{Jump}
use Rattle.ir.specs.declared.graph.Jump.TheVariants.{Go, Two, Return}
use Rattle.ir.specs.declared.groups.Access.{Access}
use Rattle.net_types.specs.declared.net.Unit.TheVariants.{Cmerge, Mux}
use Rattle.net_types.specs.Nets.{at}
use Rattle.circuit_build.specs.declared.draft.Draft.{Draft}
use Rattle.circuit_build.specs.declared.draft.Edge.{Edge}
use Rattle.circuit_build.specs.declared.draft.End.{End}
use Rattle.circuit_build.specs.Drafts.{number, plus, next, with_unit, with_control, fed, defined, control_forked, triggered, trigger_of, buffered}
use Rattle.circuit_build.specs.Uses.{uses, constants}
use Rattle.circuit_build.specs.Steps.{allocated, steps_laid}
use Rattle.circuit_build.specs.Jumps.{jump_laid}

-- ---- heads with edges that are still to come: a merge of the control tokens, whose token is the number of the edge, and muxes selected by copies of it

abbrev pub mux_laid : ℕ → ℕ → Draft → Draft
mux_laid ins w d = fed (trigger_of d) (next d) 0 (with_unit (Mux w ins) (triggered d))

abbrev pub muxes_laid : ℕ → List ℕ → Draft → Draft
muxes_laid ins [] d = d
muxes_laid ins (w ∷ ws) d = muxes_laid ins ws (mux_laid ins w d)

-- the arguments stand at these, which are in a row
abbrev pub args_defined : ℕ → List ℕ → Draft → Draft
args_defined u [] d = d
args_defined u (w ∷ ws) d = args_defined (plus u 1) ws (defined (at u 0) w d)

abbrev pub merged : ℕ → Draft → Draft
merged ins d = record (with_control (at (next d) 0) (with_unit (Cmerge ins) d)) { heads = d.heads ++ next d ∷ [] }

-- t triggers beside those of the muxes
abbrev pub opened : ℕ → List ℕ → ℕ → Draft → Draft
opened ins args t d =
    let e = control_forked (plus t (number (length args))) (merged ins d) in
    args_defined (next e) args (muxes_laid ins args e)

-- ---- heads whose one edge stands: what it hands on are the arguments

abbrev pub ends_defined : List End → Draft → Draft
ends_defined [] d = d
ends_defined (e ∷ es) d = ends_defined es (defined e.place e.width d)

abbrev pub passed_in : Edge → ℕ → Draft → Draft
passed_in e t d = ends_defined e.with (control_forked t (record (with_control e.control d) { heads = d.heads ++ 0 ∷ [] }))

-- 1 and the number of an edge; 0 is none
abbrev pub numbered : ℕ → List Edge → Option Edge
numbered zero es = None
numbered (suc n) es = slice_get es n

-- the last edge to a target, where the target has one edge and that stands
abbrev pub tail_of : ℕ → ℕ → Draft → Option Edge
tail_of ins t d = cond (ins == 1) (numbered (get_or d.tails t 0) d.edges) None

abbrev pub head_by : Option Edge → ℕ → List ℕ → ℕ → Draft → Draft
head_by None ins args t d = opened ins args t d
head_by (Some e) ins args t d = passed_in e t d

-- the head of a target, whose arguments have these widths and uses
abbrev pub head_laid : ℕ → ℕ → List ℕ → List ℕ → ℕ → Draft → Draft
head_laid ins target args us t d = head_by (tail_of ins target d) ins args t (record d { uses = us; ends = [] })

-- how many inputs a head has: one for each edge, and one where there is none
abbrev pub ins_of : List ℕ → ℕ → ℕ
ins_of counts t = max 1 (get_or counts t 0)

-- ---- groups: the accesses come by ascending blocks

-- those of block b, which come first
abbrev pub allocations : ℕ → List Access → Draft → Draft
allocations b [] d = d
allocations b (x ∷ xs) d = cond (x.block == b) (allocations b xs (allocated x.array d)) d

abbrev pub after_block : ℕ → List Access → List Access
after_block b [] = []
after_block b (x ∷ xs) = cond (x.block == b) (after_block b xs) (x ∷ xs)

-- has the block an access
abbrev pub has_access : ℕ → List Access → Bool
has_access b [] = false
has_access b (x ∷ xs) = x.block == b

-- ---- blocks

-- a block that leads on and for which no channel is laid gets a buffer of its control token: so each of its visits fires
abbrev pub bare_buffered : ℕ → Jump → Draft → Draft
bare_buffered n (Go to) d = cond (length d.chans == n) (buffered d) d
bare_buffered n (Two c yes_part no_part) d = d
bare_buffered n (Return v) d = d

-- the constants' triggers are of one fork: behind the groups where there are some, so that what waits for a constant does not wait in front of them
abbrev pub early_triggers : ℕ → Block → List Access → ℕ
early_triggers b block xs = cond (has_access b xs) 0 (number (constants (length block.args) block.steps (uses block)))

abbrev pub late_triggers : ℕ → Block → List Access → ℕ
late_triggers b block xs = cond (has_access b xs) (number (constants (length block.args) block.steps (uses block))) 0

-- the head, the groups, and what stands in front of the jump
abbrev pub block_opened : ℕ → ℕ → Block → List Access → Draft → Draft
block_opened ins b block xs d = head_laid ins b block.args (uses block) (early_triggers b block xs) d

abbrev pub block_grouped : ℕ → ℕ → Block → List Access → Draft → Draft
block_grouped ins b block xs d = control_forked (late_triggers b block xs) (allocations b xs (block_opened ins b block xs d))

abbrev pub block_worked : List Array → ℕ → ℕ → Block → List Access → Draft → Draft
block_worked arrays ins b block xs d = bare_buffered (length d.chans) block.jump (steps_laid arrays block.steps (block_grouped ins b block xs d))

abbrev pub block_laid : List Array → ℕ → ℕ → ℕ → Block → List Access → Draft → Draft
block_laid arrays join ins b block xs d = jump_laid join block.jump (block_worked arrays ins b block xs d)

-- the blocks from b on, in order
abbrev pub blocks_laid : List Array → ℕ → List ℕ → ℕ → List Block → List Access → Draft → Draft
blocks_laid arrays join counts b [] xs d = d
blocks_laid arrays join counts b (block ∷ blocks) xs d = blocks_laid arrays join counts (plus b 1) blocks (after_block b xs) (block_laid arrays join (ins_of counts b) b block xs d)
