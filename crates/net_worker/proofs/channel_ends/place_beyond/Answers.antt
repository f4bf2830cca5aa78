use Rattle.net_worker.proofs.EndPlaces.{found_at, found_not}
use Rattle.net_worker.proofs.channel_ends.place_beyond.Goals as goal

pub returns-in-Ok : goal.returns-in-Ok
returns-in-Ok c = record { some = found_at c.requires.0 c.args.chans.now c.args.chan c.in-Ok.at c.requires.1 c.in-Ok.ensures.position; none = tt }

pub returns-in-Err : goal.returns-in-Err
returns-in-Err c = record { some = tt; none = found_not c.requires.0 c.args.chans.now c.args.chan c.in-Err.field-0 c.requires.1 c.in-Err.ensures.position }
