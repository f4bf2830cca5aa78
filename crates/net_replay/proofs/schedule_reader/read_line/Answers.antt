use Rattle.net_replay.proofs.ScheduleLemmas.{great_unit, no_act}
use Rattle.net_replay.proofs.schedule_reader.read_line.Goals as goal

pub returns-in_default-small : goal.returns-in_default-small
returns-in_default-small c = great_unit c.args.text.now c.in-Some.number c.in-Some.rest.now c.in-Some.ensures c.in_default-small.ensures

pub returns-in_default-read_act : goal.returns-in_default-read_act
returns-in_default-read_act c = no_act c.args.text.now c.in-Some.number c.in-Some.rest.now c.in-Some.ensures c.in_default-read_act.ensures
