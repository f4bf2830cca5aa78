use Rattle.std.proofs.Common.{◌≡◌, ◌≤◌, Some, None, sym, ap, ◌∙◌, arith, length}
use Rattle.std.specs.Prelude.{slice_get}
use Rattle.std.proofs.lemmas.Option.{gets}
use Rattle.std.proofs.lemmas.Grind.{common_steps}
use Rattle.c_meaning.specs.Expressions.{undefined_value}
use Rattle.ref_interp.specs.Answers.{most}
use Rattle.ref_interp.proofs.Values.{gives, fails}
use Rattle.ref_interp.proofs.Places.{element_gives, element_past, array_past}
use Rattle.ref_interp.proofs.expressions.element.Goals as goal

pub returns-then-place-elements : goal.returns-then-place-elements
returns-then-place-elements c k n t v u el cells loc =
    let l = c.in-Some.ensures in
    let ps = c.as_slice-elements.result.now in
    let h = c.as_slice-elements.type_inv in
    let few : length ps ≤ most = omega arith in
    let got : slice_get c.args.cells.now.arrays c.args.array ≡ Some c.in-Some.elements.now = grind (arith, common_steps, gets) in
    gives c.args.trace.now.failed t _ u _ c.args.trace.now c.if-trace.false
    (element_gives k c.args.cells.now c.args.array n t c.args.at v u c.args.place c.args.trace.now ps el cells c.if-trace.false loc (got ∙ ap Some (sym c.as_slice-elements.ensures)) c.if-place-elements.true few)

pub returns-else-place-elements : goal.returns-else-place-elements
returns-else-place-elements c k n t v u el cells loc =
    let l = c.in-Some.ensures in
    let ps = c.as_slice-elements.result.now in
    let h = c.as_slice-elements.type_inv in
    let few : length ps ≤ most = omega arith in
    let got : slice_get c.args.cells.now.arrays c.args.array ≡ Some c.in-Some.elements.now = grind (arith, common_steps, gets) in
    fails c.fail.new.self.failed t _ u 0 c.fail.new.self c.fail.ensures.failed
    (element_past k c.args.cells.now c.args.array n t c.args.at v u c.args.place c.args.trace.now ps el cells c.if-trace.false loc (got ∙ ap Some (sym c.as_slice-elements.ensures)) c.if-place-elements.false few ∙ ap undefined_value (sym c.fail.ensures.place))

pub returns-in-None : goal.returns-in-None
returns-in-None c k n t v u el cells loc =
    let l = c.in-None.ensures in
    let got : slice_get c.args.cells.now.arrays c.args.array ≡ None = grind (arith, common_steps, gets) in
    fails c.fail-in-None.new.self.failed t _ u 0 c.fail-in-None.new.self c.fail-in-None.ensures.failed
    (array_past k c.args.cells.now c.args.array c.args.at v u c.args.place c.args.trace.now c.if-trace.false loc got ∙ ap undefined_value (sym c.fail-in-None.ensures.place))
