-- Jump threading: an edge into a block that only leads on leads one further.
use Rattle.std.specs.Prelude.{ℕ, zero, suc, ◌==◌, ◌&&◌, not, nat_le, cond, List, [], ◌∷◌, map, length, Option, Some, None}
use Rattle.ir.specs.declared.instr.Instr.{Instr}
use Rattle.ir.specs.declared.graph.Block.{Block}
use Rattle.ir.specs.declared.graph.Jump.{Jump}
use Rattle.ir.specs.declared.graph.Jump.TheVariants.{Go, Two, Return}
use Rattle.ir.specs.declared.graph.To.{To}
use Rattle.block_merge.specs.Renamed.{block_of, moved_to, renamed_to}

-- to another block, with no more values than are had
abbrev pub leads_further : ℕ → ℕ → To → Option To
leads_further k n to = cond (not (to.block == k) && nat_le (length to.with) n) (Some to) None

-- where block k of n arguments with these steps and this jump leads on to: it has no steps, no condition, and hands on no more than it
-- gets (so no weight grows) to another block (so a ring stays)
abbrev pub onward_of_parts : ℕ → ℕ → List Instr → Jump → Option To
onward_of_parts k n [] (Go to) = leads_further k n to
onward_of_parts k n [] (Two c yes_part no_part) = None
onward_of_parts k n [] (Return v) = None
onward_of_parts k n (i ∷ is) (Go to) = None
onward_of_parts k n (i ∷ is) (Two c yes_part no_part) = None
onward_of_parts k n (i ∷ is) (Return v) = None

abbrev pub only_onward : List Block → ℕ → Option To
only_onward bs k = let b = block_of bs k in onward_of_parts k (length b.args) b.steps b.jump

-- the edge one further, if its target only leads on
abbrev pub further : To → Option To → To
further t None = t
further t (Some to) = renamed_to (moved_to t.with 0) to

abbrev pub threaded_to : List Block → To → To
threaded_to bs t = further t (only_onward bs t.block)

abbrev pub threaded_jump : List Block → Jump → Jump
threaded_jump bs (Go t) = Go (threaded_to bs t)
threaded_jump bs (Two c yes_part no_part) = Two c (threaded_to bs yes_part) (threaded_to bs no_part)
threaded_jump bs (Return v) = Return v

abbrev pub threaded_block : List Block → Block → Block
threaded_block bs b = record { args = b.args; steps = b.steps; jump = threaded_jump bs b.jump }

-- all edges at once
abbrev pub threaded_once : List Block → List Block
threaded_once bs = map (threaded_block bs) bs

-- after each time an edge passes twice as many blocks in a row
abbrev pub threaded : ℕ → List Block → List Block
threaded zero bs = bs
threaded (suc n) bs = threaded n (threaded_once bs)
