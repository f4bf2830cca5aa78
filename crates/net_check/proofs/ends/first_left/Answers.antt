use Rattle.std.proofs.Common.{refl}
use Rattle.net_check.proofs.EndLemmas.{some_exit_at, left_decided}
use Rattle.net_check.proofs.ends.first_left.Goals as goal

pub returns-in_default : goal.returns-in_default
returns-in_default c = absurd (some_exit_at c.args.net.now c.args.net.now.units c.the_exit.result refl c.requires.exit c.in_default.is c.the_exit.ensures)

pub returns : goal.returns
returns c =
    left_decided c.args.net.now c.args.net.now.units c.as_slice.result.now c.in-Some.exit c.in_ok-met.met.items c.as_slice-2.result.now c.the_exit.result c.first_unmet.result refl c.as_slice.ensures
    c.as_slice-2.ensures.value c.requires.exit c.in-Some.is c.the_exit.ensures c.in_ok-met.ensures c.first_unmet.ensures
