use Rattle.std.proofs.Common.{refl}
use Rattle.c_parse.proofs.Refusing.{no_number}
use Rattle.c_parse.specs.Stops.{Refuses}
use Rattle.c_parse.proofs.cursor.Cursor.number.Goals as goal

pub returns-in_default-clause-refused : goal.returns-in_default-clause-refused
returns-in_default-clause-refused c = Refuses.unfit _ _ c.in_ok-token.ensures.read (no_number _ c.in_default.not-Number) refl
