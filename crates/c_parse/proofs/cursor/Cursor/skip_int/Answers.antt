use Rattle.c_parse.proofs.Rules.{skips_int}
use Rattle.c_parse.proofs.cursor.Cursor.skip_int.Goals as goal

pub returns : goal.returns
returns c = skips_int _ _ _ c.take_key.ensures.some c.take_key.ensures.none c.take_key.ensures.other
