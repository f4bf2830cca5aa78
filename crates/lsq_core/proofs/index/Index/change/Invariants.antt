use Rattle.lsq_core.proofs.index.Index.change.Given as goal

abbrev pub ghost-change_addr : goal.ghost-change_addr
ghost-change_addr g a = g.shape

abbrev pub ghost-change_datum : goal.ghost-change_datum
ghost-change_datum g a = g.shape

abbrev pub ghost-change_done : goal.ghost-change_done
ghost-change_done g a = g.shape

abbrev pub ghost-change_replied : goal.ghost-change_replied
ghost-change_replied g a = g.shape
