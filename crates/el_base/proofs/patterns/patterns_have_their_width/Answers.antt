use Rattle.el_base.proofs.PatternLemmas.{pattern-lt}
use Rattle.el_base.proofs.patterns.patterns_have_their_width.Goals as goal

pub returns : goal.returns
returns c = pattern-lt
