use Rattle.std.proofs.Common.{◌≡◌, ◌++◌, map, take}
use Rattle.std.specs.List.{All, flat_map}
use Rattle.net_text.specs.Fits.{UnitFits}
use Rattle.net_text.specs.Pieces.{line}
use Rattle.net_text.specs.declared.version.Version.TheVariants.{Two}
use Rattle.net_text.specs.Texts.{unit_parts}
use Rattle.net_text.proofs.printer.put_units.Given as goal

abbrev pub invariant-loop-unit : goal.invariant-loop-unit
invariant-loop-unit l = record {
  written : l.text.items ≡ l.initial.text.items ++ flat_map line (map (unit_parts Two) (take l.unit-index l.units));
  fit : All UnitFits (take l.unit-index l.units);
}
