-- Private: only contracts of private functions cite it. Whether edges lead into blocks that only lead on.
use Rattle.std.specs.Prelude.{◌||◌, Bool, true, false, List, Option, Some, None}
use Rattle.std.specs.List.{list_any}
use Rattle.ir.specs.declared.graph.Block.{Block}
use Rattle.ir.specs.declared.graph.Jump.{Jump}
use Rattle.ir.specs.declared.graph.Jump.TheVariants.{Go, Two, Return}
use Rattle.ir.specs.declared.graph.To.{To}
use Rattle.block_merge.specs.Threaded.{only_onward}

-- does an edge lead into a block that only leads on
abbrev pub is_some_to : Option To → Bool
is_some_to None = false
is_some_to (Some to) = true

abbrev pub leads_by_way : List Block → Jump → Bool
leads_by_way bs (Go t) = is_some_to (only_onward bs t.block)
leads_by_way bs (Two c yes_part no_part) = is_some_to (only_onward bs yes_part.block) || is_some_to (only_onward bs no_part.block)
leads_by_way bs (Return v) = false

abbrev pub some_lead_by_way : List Block → Bool
some_lead_by_way bs = list_any (λ b. leads_by_way bs b.jump) bs
