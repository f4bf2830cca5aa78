use Rattle.std.proofs.Common.{sym, ◌∙◌}
use Rattle.std.proofs.lemmas.Bool.{ltb-true, ltb-false}
use Rattle.net_check.proofs.WidthLemmas.{array_width-at, array_width-past}
use Rattle.net_check.proofs.widths.element_width.Goals as goal

pub returns-in-None : goal.returns-in-None
returns-in-None c = sym (array_width-past c.args.arrays.now c.args.array (ltb-false _ _ (sym c.in-None.ensures.lookup.0)))

pub returns-in-Some : goal.returns-in-Some
returns-in-Some c = c.width.ensures ∙ array_width-at c.args.arrays.now c.args.array c.in-Some.array.now (ltb-true _ _ (sym c.in-Some.ensures.lookup.0)) c.in-Some.ensures.lookup.1
