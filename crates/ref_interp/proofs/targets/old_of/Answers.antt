use Rattle.ref_interp.proofs.Aims.{old_var, old_element}
use Rattle.ref_interp.proofs.targets.old_of.Goals as goal

pub returns-in-Var : goal.returns-in-Var
returns-in-Var c = old_var c.args.cells.now c.args.to c.args.place c.in-Var.var c.args.at c.args.trace.now c.read.new.trace c.read.result c.in-Var.is c.read.ensures

pub returns-in-Array : goal.returns-in-Array
returns-in-Array c = old_element c.args.cells.now c.args.to c.args.place c.in-Array.array c.args.at c.args.trace.now c.element.new.trace c.element.result c.in-Array.is c.element.ensures
