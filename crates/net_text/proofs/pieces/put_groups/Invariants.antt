use Rattle.std.proofs.Common.{◌≡◌, ◌∷◌, ◌++◌, take}
use Rattle.std.specs.List.{flat_map}
use Rattle.net_text.specs.Fits.{GroupsFit}
use Rattle.net_text.specs.Pieces.{group_text}
use Rattle.net_text.proofs.pieces.put_groups.Given as goal

abbrev pub invariant-loop-group : goal.invariant-loop-group
invariant-loop-group l = record {
  written : l.text.items ≡ l.initial.text.items ++ flat_map (λ g. 59 ∷ group_text g) (take l.group-index l.rest);
  fit : GroupsFit (take l.group-index l.rest);
}
