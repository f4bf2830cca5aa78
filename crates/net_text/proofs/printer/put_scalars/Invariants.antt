use Rattle.std.proofs.Common.{◌≡◌, ◌++◌, map, take}
use Rattle.std.specs.List.{All, flat_map}
use Rattle.net_text.specs.Fits.{ScalarFits}
use Rattle.net_text.specs.Pieces.{line}
use Rattle.net_text.specs.Texts.{scalar_parts}
use Rattle.net_text.proofs.printer.put_scalars.Given as goal

abbrev pub invariant-loop-scalar : goal.invariant-loop-scalar
invariant-loop-scalar l = record {
  written : l.text.items ≡ l.initial.text.items ++ flat_map line (map scalar_parts (take l.scalar-index l.scalars));
  fit : All ScalarFits (take l.scalar-index l.scalars);
}
