use Rattle.net_worker.proofs.Glancing.{looked_trans}
use Rattle.net_worker.proofs.worker.Worker.look_taken.Goals as goal

pub returns-in-Two-clause-looked : goal.returns-in-Two-clause-looked
returns-in-Two-clause-looked c = looked_trans c.args.self.now c.look_on-in-Two.new.self c.look_on-in-Two-2.new.self c.look_on-in-Two.ensures.looked c.look_on-in-Two-2.ensures.looked

pub returns-in-Three-clause-looked : goal.returns-in-Three-clause-looked
returns-in-Three-clause-looked c =
    looked_trans c.args.self.now c.look_on-in-Three-2.new.self c.look_on-in-Three-3.new.self
    (looked_trans c.args.self.now c.look_on-in-Three.new.self c.look_on-in-Three-2.new.self c.look_on-in-Three.ensures.looked c.look_on-in-Three-2.ensures.looked)
    c.look_on-in-Three-3.ensures.looked
