use Rattle.std.proofs.Common.{◌≡◌, sym, ap, ◌∙◌, subst}
use Rattle.c_meaning.specs.Expressions.{later}
use Rattle.c_meaning.specs.Patterns.{conversion_op, converted_by}
use Rattle.c_meaning.specs.Statements.{read_place, joined_with, joined_in}
use Rattle.ref_interp.specs.Runs.{objects_of}
use Rattle.ref_interp.specs.Answers.{Answered}
use Rattle.ref_interp.specs.Cells.{store_of}
use Rattle.ref_interp.proofs.Aims.{type_is, join_answers}
use Rattle.ref_interp.proofs.expressions.Interpreter.join_into.Goals as goal

pub returns : goal.returns
returns c n t p w u m is can seen pj rt g used an =
    let k = objects_of c.args.self.now in
    let s = store_of k c.args.m.now.cells in
    let at = c.args.aim.now.target.now.at in
    let new = c.strict-z.new.trace in
    let ty : c.type_of.result ≡ t = c.type_of.ensures c.args.self.now.profile ∙ type_is k c.args.aim.now.target.now.to n t is in
    let cast = c.converted-x.ensures ∙ ap (λ t. converted_by (conversion_op t c.args.joint) c.args.aim.now.old) ty in
    let v = later u (joined_with at (joined_in k.profile c.args.op c.args.joint) (read_place s p) w) in
    let it = join_answers k t c.args.joint c.args.right.ty at c.args.op p w u m c.args.aim.now.old c.args.right.pattern c.strict-z.result c.converted-x.result s c.args.m.now.trace new can.laws cast pj rt g used an c.strict-z.ensures in
    let h = c.store.ensures c.args.self.now.profile n t p v is (record { laws = can.laws; parts = can.parts; cells = can.cells; few = can.few }) seen (subst (λ ty. Answered new.failed ty v 0 new c.strict-z.result) (sym c.result_type.ensures) it) in
    record { is = h.is; cells = h.cells; few = h.few; given = h.given }
