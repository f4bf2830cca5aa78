use Rattle.std.proofs.Common.{◌≡◌, ◌≤◌, sym, ap, ◌∙◌, arith, subst, refl, length}
use Rattle.el_base.specs.Numbers.{number}
use Rattle.c_meaning.specs.Types.{conv}
use Rattle.c_meaning.specs.Patterns.{conversion_op, converted_by}
use Rattle.c_meaning.specs.Statements.{objects, write_place, of_var}
use Rattle.c_meaning.specs.Lawful.{IsObject}
use Rattle.ref_interp.specs.declared.cells.Cells.{Cells}
use Rattle.ref_interp.specs.Answers.{most}
use Rattle.ref_interp.specs.Cells.{AreCells, store_of}
use Rattle.ref_interp.specs.Machines.{cell_list}
use Rattle.ref_interp.specs.Laws.{IsPattern}
use Rattle.ref_interp.specs.Targets.{IsSeen}
use Rattle.ref_interp.proofs.Values.{gives_is}
use Rattle.ref_interp.proofs.Written.{Stands, var_written, element_written}
use Rattle.ref_interp.proofs.Aims.{type_is, store_fails, store_starved, store_goes}
use Rattle.ref_interp.proofs.expressions.Interpreter.store.Goals as goal

pub returns-then-m : goal.returns-then-m
returns-then-m c q n t p v is can seen an = store_fails (objects q c.args.self.now.typed.now) c.args.self.now.typed.now.result t c.args.value.ty p v c.args.value.pattern c.args.m.now can c.if-m.true an

pub returns-then-not-take : goal.returns-then-not-take
returns-then-not-take c q n t p v is can seen an =
    let no = c.take.ensures.no c.if-not-take.true in
    store_starved (objects q c.args.self.now.typed.now) c.args.self.now.typed.now.result t c.args.value.ty p v c.args.value.pattern c.args.m.now c.take.new.self can c.if-m.false an no.0 c.take.ensures.cells no.1

pub returns-in-Var : goal.returns-in-Var
returns-in-Var c q n t p v is can seen an =
    let k = objects q c.args.self.now.typed.now in
    let m = c.args.m.now in
    let left = c.take.ensures.yes c.if-not-take.false in
    let g = gives_is m.trace.failed c.args.value.ty v 0 c.args.value.pattern m.trace c.if-m.false an in
    let ty : c.type_of.result ≡ t = c.type_of.ensures q ∙ type_is k c.args.to n t is in
    let pattern = c.converted-pattern.result in
    let cast : IsPattern t pattern (conv t (number c.args.value.ty c.args.value.pattern)) =
    subst (λ y. IsPattern t y (conv t (number c.args.value.ty c.args.value.pattern))) (sym (c.converted-pattern.ensures ∙ ap (λ t. converted_by (conversion_op c.args.value.ty t) c.args.value.pattern) ty)) (can.laws.converts c.args.value.ty t c.args.value.pattern g.below) in
    let var = subst (λ o. IsObject k o n t) c.in-Var.is is in
    let at : p ≡ of_var c.in-Var.var = subst (λ o. IsSeen o c.args.place p) c.in-Var.is seen in
    let cells : AreCells k c.take.new.self.cells = subst (AreCells k) (sym c.take.ensures.cells) can.cells in
    let new : Cells = record { vars = c.put_var.new.vars; arrays = c.take.new.self.cells.arrays } in
    let st = var_written k c.take.new.self.cells new c.in-Var.var t pattern (conv t (number c.args.value.ty c.args.value.pattern)) var.0 cells cast.0 cast.1 c.put_var.ensures refl in
    store_goes k c.args.self.now.typed.now.result t c.args.value.ty p v c.args.value.pattern m c.take.new.self _ can c.if-m.false an left c.take.ensures.cells (subst (λ p. Stands k new (write_place p (conv t (number c.args.value.ty c.args.value.pattern)) (store_of k c.take.new.self.cells))) (sym at) st) refl

pub returns-in-Array : goal.returns-in-Array
returns-in-Array c q n t p v is can seen an =
    let k = objects q c.args.self.now.typed.now in
    let m = c.args.m.now in
    let left = c.take.ensures.yes c.if-not-take.false in
    let g = gives_is m.trace.failed c.args.value.ty v 0 c.args.value.pattern m.trace c.if-m.false an in
    let ty : c.type_of.result ≡ t = c.type_of.ensures q ∙ type_is k c.args.to n t is in
    let pattern = c.converted-pattern.result in
    let el = subst (λ o. IsObject k o n t) c.in-Array.is is in
    let cast : IsPattern el.0.ty pattern (conv t (number c.args.value.ty c.args.value.pattern)) =
    subst (λ u. IsPattern u pattern (conv t (number c.args.value.ty c.args.value.pattern))) (sym el.2) (subst (λ y. IsPattern t y (conv t (number c.args.value.ty c.args.value.pattern))) (sym (c.converted-pattern.ensures ∙ ap (λ t. converted_by (conversion_op c.args.value.ty t) c.args.value.pattern) ty)) (can.laws.converts c.args.value.ty t c.args.value.pattern g.below)) in
    let at = subst (λ o. IsSeen o c.args.place p) c.in-Array.is seen in
    let cells : AreCells k c.take.new.self.cells = subst (AreCells k) (sym c.take.ensures.cells) can.cells in
    let few = c.put_element.ensures.few in
    let few2 : length (cell_list c.take.new.self.cells.arrays c.in-Array.array) ≤ most = omega (arith, few) in
    let new : Cells = record { vars = c.take.new.self.cells.vars; arrays = c.put_element.new.arrays } in
    let st = element_written k c.take.new.self.cells new c.in-Array.array el.0 at.0 c.args.place pattern (conv t (number c.args.value.ty c.args.value.pattern)) el.1 cells cast.0 cast.1 few2 at.2 c.put_element.ensures.put refl in
    store_goes k c.args.self.now.typed.now.result t c.args.value.ty p v c.args.value.pattern m c.take.new.self _ can c.if-m.false an left c.take.ensures.cells (subst (λ p. Stands k new (write_place p (conv t (number c.args.value.ty c.args.value.pattern)) (store_of k c.take.new.self.cells))) (sym at.1) st) refl
