use Rattle.std.proofs.Common.{length}
use Rattle.net_core.specs.States.{state_of}
use Rattle.net_worker.specs.Views.{owner_in}
use Rattle.worker_run.proofs.AssembleLemmas.{assembled, handed_over, no_strays, no_tokens, units_can, units_linked, units_tokens}
use Rattle.worker_run.proofs.handing.hand_over.Goals as goal

pub add_strays-requires-clause-none : goal.add_strays-requires-clause-none
add_strays-requires-clause-none c a = no_strays c.args.net.now c.args.tables.now (state_of c.args.into.now) a c.requires.opening

pub hand_chans-requires-clause-linked : goal.hand_chans-requires-clause-linked
hand_chans-requires-clause-linked c =
    units_linked c.args.tables.now c.args.net.now c.args.workers.now c.hand_units.new.workers (state_of c.add_strays.new.into) (state_of c.hand_units.new.into) (length c.args.net.now.units) c.hand_units.ensures.handed c.requires.linked

pub hand_chans-requires-clause-can : goal.hand_chans-requires-clause-can
hand_chans-requires-clause-can c i l =
    units_can c.args.net.now (owner_in c.args.tables.now) c.args.workers.now c.hand_units.new.workers (state_of c.add_strays.new.into) (state_of c.hand_units.new.into) (length c.args.net.now.units) i c.hand_units.ensures.handed (c.requires.can i l)

pub hand_chans-requires-clause-none : goal.hand_chans-requires-clause-none
hand_chans-requires-clause-none c i =
    units_tokens c.args.net.now (owner_in c.args.tables.now) c.args.workers.now c.hand_units.new.workers (state_of c.args.into.now) (state_of c.add_strays.new.into) (state_of c.hand_units.new.into) (length c.args.net.now.units) i
    c.hand_units.ensures.handed c.add_strays.ensures.strays (no_tokens c.args.net.now c.args.tables.now (state_of c.args.into.now) i c.requires.opening)

pub returns-clause-handed : goal.returns-clause-handed
returns-clause-handed c =
    let t = c.args.tables.now in
    let net = c.args.net.now in
    let s1 = state_of c.add_strays.new.into in
    let s2 = state_of c.hand_units.new.into in
    let s3 = state_of c.hand_chans.new.into in
    let units = c.hand_units.ensures.handed in
    let chans = c.hand_chans.ensures.handed in
    handed_over t net c.args.workers.now c.hand_units.new.workers c.hand_chans.new.workers c.close.new.workers s1 s2 s3 (length net.units) (length net.chans) units chans
    c.hand_chans.ensures.linked c.close.ensures
    (assembled t net c.args.workers.now c.hand_units.new.workers c.hand_chans.new.workers (state_of c.args.into.now) s1 s2 s3 c.requires.net c.requires.opening c.add_strays.ensures.strays units chans c.requires.can)
