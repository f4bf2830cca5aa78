-- What a run of a kernel goes by.
use Rattle.c_meaning.specs.Stores.{Objects}
use Rattle.c_meaning.specs.Statements.{objects}
use Rattle.ref_interp.specs.declared.expressions.Interpreter.{Interpreter}

-- the objects of the kernel under the profile
abbrev pub objects_of : Interpreter → Objects
objects_of i = objects i.profile i.typed.now
