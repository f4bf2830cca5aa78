use Rattle.std.proofs.Common.{◌≡◌, ◌<◌, ◌^◌, take}
use Rattle.std.specs.Str.Parse.{digits_value}
use Rattle.c_lex.proofs.numeral.value_of.Given as goal

abbrev pub invariant-loop-byte : goal.invariant-loop-byte
invariant-loop-byte l = record { low : l.value < 2 ^ 64; worth : l.value ≡ digits_value l.base (take l.byte-index l.digits) }
