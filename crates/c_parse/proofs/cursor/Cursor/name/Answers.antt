use Rattle.std.proofs.Common.{refl}
use Rattle.c_parse.proofs.Refusing.{no_name}
use Rattle.c_parse.specs.Stops.{Refuses}
use Rattle.c_parse.proofs.cursor.Cursor.name.Goals as goal

pub returns-in_default-clause-refused : goal.returns-in_default-clause-refused
returns-in_default-clause-refused c = Refuses.unfit _ _ c.in_ok-token.ensures.read (no_name _ c.in_default.not-Name) refl
