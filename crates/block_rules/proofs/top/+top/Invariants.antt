use Rattle.block_rules.proofs.top.+top.Given as goal

abbrev pub decreases-top : goal.decreases-top
decreases-top l = l.steps_back
