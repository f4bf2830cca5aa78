use Rattle.buffer_place.proofs.LevelLemmas.{each_levelled}
use Rattle.buffer_place.proofs.cuts.unit_cuts.Goals as goal

pub returns-in_ok-levels-in-Some-clause-each :
    goal.returns-in_ok-levels-in-Some-clause-each
returns-in_ok-levels-in-Some-clause-each c =
    (c.in_ok-marks.ensures.parted.size, each_levelled c.args.timing c.in-Some.depth c.args.net.now _ _ c.in_ok-levels-in-Some.ensures)
