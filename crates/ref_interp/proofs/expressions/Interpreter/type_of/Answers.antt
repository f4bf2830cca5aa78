use Rattle.std.proofs.Common.{◌≡◌, Some, None, sym, ap, ◌∙◌, arith}
use Rattle.std.specs.Prelude.{slice_get}
use Rattle.std.proofs.lemmas.Option.{gets}
use Rattle.std.proofs.lemmas.Grind.{common_steps}
use Rattle.c_meaning.specs.Statements.{objects, object_type}
use Rattle.c_meaning.proofs.StoreParts.{array_type_is}
use Rattle.ref_interp.proofs.Aims.{array_type_none}
use Rattle.ref_interp.proofs.expressions.Interpreter.type_of.Goals as goal

pub returns-in-Some-get : goal.returns-in-Some-get
returns-in-Some-get c p =
    let l = c.in-Some-get.ensures in
    let g : slice_get c.args.self.now.typed.now.arrays c.in-Array.array ≡ Some c.in-Some-get.array.now = grind (arith, common_steps, gets) in
    sym (array_type_is c.args.self.now.typed.now.arrays c.in-Array.array c.in-Some-get.array.now g) ∙ ap (object_type (objects p c.args.self.now.typed.now)) (sym c.in-Array.is)

pub returns-in-None-get : goal.returns-in-None-get
returns-in-None-get c p =
    let l = c.in-None-get.ensures in
    let g : slice_get c.args.self.now.typed.now.arrays c.in-Array.array ≡ None = grind (arith, common_steps, gets) in
    sym (array_type_none c.args.self.now.typed.now.arrays c.in-Array.array g) ∙ ap (object_type (objects p c.args.self.now.typed.now)) (sym c.in-Array.is)
