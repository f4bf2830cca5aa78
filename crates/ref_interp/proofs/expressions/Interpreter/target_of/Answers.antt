use Rattle.ref_interp.specs.Runs.{objects_of}
use Rattle.ref_interp.proofs.Aims.{aimed_var, aimed_array}
use Rattle.ref_interp.proofs.expressions.Interpreter.target_of.Goals as goal

pub returns-in-Var : goal.returns-in-Var
returns-in-Var c t h ready = aimed_var (objects_of c.args.self.now) c.args.cells.now c.args.target.now c.in-Var.field-0 t c.args.trace.now c.in-Var.is h ready

pub returns-in-Array : goal.returns-in-Array
returns-in-Array c t h ready =
    aimed_array (objects_of c.args.self.now) c.args.cells.now c.args.target.now c.as_slice.result.now c.in-Array.array t c.args.trace.now c.place_of.new.trace c.place_of.result c.in-Array.is c.as_slice.ensures h ready c.place_of.ensures
