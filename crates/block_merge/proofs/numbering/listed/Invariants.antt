use Rattle.std.proofs.Common.{◌≡◌, ◌++◌, drop, get_or}
use Rattle.block_merge.specs.Numbered.{listed}
use Rattle.block_merge.proofs.numbering.listed.Given as goal

abbrev pub invariant-loop-number : goal.invariant-loop-number
invariant-loop-number l = l.made ++ listed l.blocks (drop l.number-index l.found) (λ n. get_or l.places n 0) ≡ listed l.blocks l.found (λ n. get_or l.places n 0)
