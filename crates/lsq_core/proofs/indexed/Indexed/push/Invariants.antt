use Rattle.lsq_core.proofs.indexed.Indexed.push.Given as goal

abbrev pub ghost-add : goal.ghost-add
ghost-add a = (a.self.now.addr.rows, a.self.now.addr.width)
