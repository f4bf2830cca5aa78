use Rattle.std.proofs.Common.{rules, refl}
use Rattle.c_parse.specs.Stops.{Refuses}
use Rattle.c_parse.proofs.Refusing.{no_type, no_plain_type}
use Rattle.c_parse.proofs.cursor.Cursor.type_word.Goals as goal

pub returns-in_default : goal.returns-in_default
returns-in_default c = record { read = search rules; refused = Refuses.unfit _ _ c.in_ok-token.ensures.read (no_type _ c.in_default.not-Key) refl }

pub returns-in-None-clause-refused : goal.returns-in-None-clause-refused
returns-in-None-clause-refused c = Refuses.unfit _ _ c.in_ok-token.ensures.read (no_plain_type _ _ c.in-Key.is (search rules)) refl
