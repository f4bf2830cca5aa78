use Rattle.lsq_core.proofs.indexed.Indexed.change.Given as goal

abbrev pub ghost-change : goal.ghost-change
ghost-change a = (a.self.now.addr.rows, a.self.now.addr.width)
