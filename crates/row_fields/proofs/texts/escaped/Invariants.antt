use Rattle.std.proofs.Common.{◌≡◌, take}
use Rattle.std.specs.List.{flat_map}
use Rattle.row_fields.specs.Texts.{escape}
use Rattle.row_fields.proofs.texts.escaped.Given as goal

abbrev pub invariant-loop-byte : goal.invariant-loop-byte
invariant-loop-byte l = l.field.items ≡ flat_map escape (take l.byte-index l.text)
