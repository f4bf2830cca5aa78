use Rattle.std.proofs.Common.{sym, ◌∙◌, arith}
use Rattle.net_worker.proofs.Holdings.{laid_on}
use Rattle.net_worker.proofs.crossing_parts.hand_over_on.Goals as goal

pub take_out-requires-clause-here : goal.take_out-requires-clause-here
take_out-requires-clause-here c =
    laid_on c.args.tables.now.net.now c.args.portion.now c.args.offered.unit c.args.offered.put c.in-Some.laid (sym c.requires.laid ∙ c.in-Some.is) c.requires.here
    (let l = c.has_near.ensures.within c.if-has_near.true in omega (arith, c.requires.long))
