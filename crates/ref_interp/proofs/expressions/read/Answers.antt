use Rattle.std.proofs.Common.{◌≡◌, Some, None, sym, ap, ◌∙◌, arith}
use Rattle.std.specs.Prelude.{slice_get}
use Rattle.std.proofs.lemmas.Option.{gets}
use Rattle.std.proofs.lemmas.Grind.{common_steps}
use Rattle.c_meaning.specs.Expressions.{undefined_value}
use Rattle.ref_interp.proofs.Values.{gives, fails}
use Rattle.ref_interp.proofs.Places.{set_gives, unset_is}
use Rattle.ref_interp.proofs.expressions.read.Goals as goal

pub returns-in-Some-Some : goal.returns-in-Some-Some
returns-in-Some-Some c k t is ready =
    let l = c.in-Some-Some.ensures in
    let g : slice_get c.args.cells.now.vars c.args.var ≡ Some (Some c.in-Some-Some.pattern) = grind (arith, common_steps, gets) in
    gives c.args.trace.now.failed t _ c.args.trace.now.turns _ c.args.trace.now ready.clear (set_gives k c.args.cells.now c.args.var c.args.at t c.in-Some-Some.pattern c.args.trace.now.turns is ready.cells ready.few g)

pub returns-in-Some-None : goal.returns-in-Some-None
returns-in-Some-None c k t is ready =
    let l = c.in-Some-None.ensures in
    let g : slice_get c.args.cells.now.vars c.args.var ≡ Some None = grind (arith, common_steps, gets) in
    fails c.fail.new.self.failed t _ c.args.trace.now.turns 0 c.fail.new.self c.fail.ensures.failed (unset_is k c.args.cells.now c.args.var c.args.at t is ready.cells (λ p e. grind (arith, common_steps)) ∙ ap undefined_value (sym c.fail.ensures.place))

pub returns-in-None : goal.returns-in-None
returns-in-None c k t is ready =
    let l = c.in-None.ensures in
    let g : slice_get c.args.cells.now.vars c.args.var ≡ None = grind (arith, common_steps, gets) in
    fails c.fail-in-None.new.self.failed t _ c.args.trace.now.turns 0 c.fail-in-None.new.self c.fail-in-None.ensures.failed (unset_is k c.args.cells.now c.args.var c.args.at t is ready.cells (λ p e. grind (arith, common_steps)) ∙ ap undefined_value (sym c.fail-in-None.ensures.place))
