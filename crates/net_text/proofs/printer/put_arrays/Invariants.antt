use Rattle.std.proofs.Common.{◌≡◌, ◌++◌, map, take}
use Rattle.std.specs.List.{All, flat_map}
use Rattle.net_text.specs.Fits.{ArrayFits}
use Rattle.net_text.specs.Pieces.{line}
use Rattle.net_text.specs.Texts.{array_parts}
use Rattle.net_text.proofs.printer.put_arrays.Given as goal

abbrev pub invariant-loop-array : goal.invariant-loop-array
invariant-loop-array l = record {
  written : l.text.items ≡ l.initial.text.items ++ flat_map line (map array_parts (take l.array-index l.arrays));
  fit : All ArrayFits (take l.array-index l.arrays);
}
