use Rattle.ref_interp.proofs.Turns.{need_no_more}
use Rattle.ref_interp.proofs.turn_laws.ends_need_only_their_turns.Goals as goal

pub returns : goal.returns
returns c = need_no_more
