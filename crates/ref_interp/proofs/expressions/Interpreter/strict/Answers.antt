use Rattle.std.proofs.Common.{sym, ◌∙◌}
use Rattle.c_meaning.specs.Operators.{binary_value}
use Rattle.ref_interp.proofs.Values.{gives, gives_is, the_some, two_some}
use Rattle.el_base.specs.Numbers.{number}
use Rattle.ref_interp.specs.Laws.{IsPattern}
use Rattle.c_ast.specs.ResultTypes.{result_type}
use Rattle.std.proofs.Common.{subst}
use Rattle.ref_interp.proofs.expressions.Interpreter.strict.Goals as goal

pub returns : goal.returns
returns c v w u m laws p ty g h =
    let f = binary_value c.args.self.now.profile c.args.op c.args.left.ty in
    let t = c.args.trace.now in
    let second = gives_is t.failed c.args.right.ty w m c.args.right.pattern t c.if-trace.false h in
    let some = the_some (f (number c.args.left.ty c.args.left.pattern) (number c.args.right.ty c.args.right.pattern)) (sym (c.is_defined.ensures second.below ty) ∙ c.if-not-is_defined.false) in
    let it = laws.joins c.args.op c.args.left.ty c.args.right.ty c.args.left.pattern c.args.right.pattern p ty g.below second.below c.args.self.now.profile some.0 some.1 in
    gives t.failed (result_type c.args.op c.args.left.ty) _ u c.joined.result t c.if-trace.false
    (two_some c.args.at f c.args.left.ty c.args.right.ty (result_type c.args.op c.args.left.ty) v w c.args.left.pattern c.args.right.pattern u m t.turns c.joined.result some.0 g second some.1 (subst (λ r. IsPattern (result_type c.args.op c.args.left.ty) r some.0) (sym c.joined.ensures) it))
