use Rattle.lsq_core.proofs.indexed.Indexed.retire.Given as goal

abbrev pub ghost-retire : goal.ghost-retire
ghost-retire a = (a.self.now.addr.rows, a.self.now.addr.width)
