use Rattle.std.proofs.Common.{rules, refl}
use Rattle.c_parse.proofs.Rules.{signs}
use Rattle.c_parse.specs.Tables.{sign_of}
use Rattle.c_parse.specs.Stops.{Refuses}
use Rattle.c_parse.proofs.Refusing.{no_meaning, unknown_mark}
use Rattle.c_parse.proofs.cursor.Cursor.sign.Goals as goal

pub returns-in-Some-clause-read : goal.returns-in-Some-clause-read
returns-in-Some-clause-read c = signs _ _ _ _ _ c.in_ok-token.ensures.read c.in-Mark.is (search rules)

pub returns-in_default : goal.returns-in_default
returns-in_default c = record { read = search rules; refused = Refuses.unfit _ _ c.in_ok-token.ensures.read (no_meaning sign_of _ c.in_default.not-Mark) refl }

pub returns-in-None-clause-refused : goal.returns-in-None-clause-refused
returns-in-None-clause-refused c = Refuses.unfit _ _ c.in_ok-token.ensures.read (unknown_mark sign_of _ _ c.in-Mark.is (search rules)) refl
