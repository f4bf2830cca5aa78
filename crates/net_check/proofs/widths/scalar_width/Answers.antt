use Rattle.std.proofs.Common.{sym, ◌∙◌}
use Rattle.std.proofs.lemmas.Bool.{ltb-true, ltb-false}
use Rattle.net_check.proofs.WidthLemmas.{scalar_width-at, scalar_width-past}
use Rattle.net_check.proofs.widths.scalar_width.Goals as goal

pub returns-in-None : goal.returns-in-None
returns-in-None c = sym (scalar_width-past c.args.scalars.now c.args.scalar (ltb-false _ _ (sym c.in-None.ensures.lookup.0)))

pub returns-in-Some : goal.returns-in-Some
returns-in-Some c = c.width.ensures ∙ scalar_width-at c.args.scalars.now c.args.scalar c.in-Some.scalar.now (ltb-true _ _ (sym c.in-Some.ensures.lookup.0)) c.in-Some.ensures.lookup.1
