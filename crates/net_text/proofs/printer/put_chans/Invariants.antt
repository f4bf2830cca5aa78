use Rattle.std.proofs.Common.{◌≡◌, ◌++◌, map, take}
use Rattle.std.specs.List.{All, flat_map}
use Rattle.net_text.specs.Fits.{ChanFits}
use Rattle.net_text.specs.Pieces.{line}
use Rattle.net_text.specs.Texts.{chan_parts}
use Rattle.net_text.proofs.printer.put_chans.Given as goal

abbrev pub invariant-loop-chan : goal.invariant-loop-chan
invariant-loop-chan l = record {
  written : l.text.items ≡ l.initial.text.items ++ flat_map line (map chan_parts (take l.chan-index l.chans));
  fit : All ChanFits (take l.chan-index l.chans);
}
