use Rattle.std.proofs.Common.{◌≡◌, ◌∙◌, sym, Some, arith}
use Rattle.lsq_core.specs.Views.{oldest_of}
use Rattle.net_core.proofs.QueueFindLemmas.{serial_below}
use Rattle.net_core.proofs.find.serials.Goals as goal

pub overflow_add-end : goal.overflow_add-end
overflow_add-end c =
    let o : oldest_of c.args.queue.now.queue ≡ Some c.in-Some.oldest = sym c.oldest.ensures ∙ c.in-Some.is in
    let l = serial_below c.args.queue.now c.in-Some.oldest c.len-count.ensures.order o in
    omega arith
