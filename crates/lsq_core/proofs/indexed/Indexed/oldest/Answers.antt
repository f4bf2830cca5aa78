use Rattle.lsq_core.proofs.PlaceLemmas.{oldest_none}
use Rattle.lsq_core.proofs.ExecLemmas.{serial_found}
use Rattle.lsq_core.proofs.indexed.Indexed.oldest.Goals as goal

pub returns-in-None : goal.returns-in-None
returns-in-None c = oldest_none c.args.self.now.queue.forward c.args.self.now.queue.next c.args.self.now.queue.items c.in-None.ensures

pub returns-in-Some : goal.returns-in-Some
returns-in-Some c = serial_found c.args.self.now.queue.forward c.args.self.now.queue.next c.args.self.now.queue.items c.in-Some.at c.serial_at.result c.in-Some.ensures c.serial_at.ensures.value
