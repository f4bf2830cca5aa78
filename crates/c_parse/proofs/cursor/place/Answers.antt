use Rattle.c_parse.proofs.Places.{place_between}
use Rattle.c_parse.proofs.cursor.place.Goals as goal

pub returns-in-Some-Some : goal.returns-in-Some-Some
returns-in-Some-Some c = λ used split. place_between _ _ _ used _ _ _ c.min.ensures c.split_at.ensures.front c.in-Some-Some.ensures.value c.in-Some-Some.ensures'.value split
