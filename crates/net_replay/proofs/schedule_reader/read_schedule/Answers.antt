use Rattle.net_replay.proofs.ScheduleLemmas.{only}
use Rattle.net_replay.proofs.schedule_reader.read_schedule.Goals as goal

pub returns-clause-only : goal.returns-clause-only
returns-clause-only c = only c.args.bytes.now c.read_lines.result c.read_lines.ensures
