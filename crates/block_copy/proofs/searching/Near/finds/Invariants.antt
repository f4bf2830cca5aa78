use Rattle.std.proofs.Common.{◌≡◌, ◌-◌}
use Rattle.block_copy.specs.Searches.{finds, search_of}
use Rattle.block_copy.proofs.searching.Near.finds.Given as goal

abbrev pub invariant-loop-look : goal.invariant-loop-look
invariant-loop-look l = finds (l.looks - l.look) l.blocks l.wanted l.at (search_of l.near) ≡ finds l.looks l.blocks l.wanted l.at (search_of l.fn.self)
