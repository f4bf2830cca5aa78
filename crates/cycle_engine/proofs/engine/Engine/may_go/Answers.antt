use Rattle.std.proofs.Common.{◌∙◌, Option, Some, get_or, sym, ap, subst, refl, MatchOption}
use Rattle.std.proofs.lemmas.Bool.{false≢true}
use Rattle.net_core.specs.Plans.{planned}
use Rattle.net_core.specs.States.{own_at, array_at, IsPlanOf}
use Rattle.net_types.specs.declared.firing.Act.TheVariants.{Go}
use Rattle.net_types.specs.Nets.{kind_of, firing}
use Rattle.cycle_engine.specs.private.Trials.{dated_of}
use Rattle.cycle_engine.specs.Cycles.{May}
use Rattle.cycle_engine.specs.declared.trial.Planned.{Planned}
use Rattle.cycle_engine.proofs.GoLemmas.{go_depth}
use Rattle.cycle_engine.proofs.UsedLemmas.{may_of, may_parts, no_plan}
use Rattle.cycle_engine.proofs.engine.Engine.may_go.Goals as goal

pub returns-in_err-plan-clause-may : goal.returns-in_err-plan-clause-may
returns-in_err-plan-clause-may c start b =
    let refused : May c.args.net.now c.args.now start (dated_of c.args.self.now) (firing c.args.unit Go) → ⊥ = no_plan c.args.net.now c.args.now c.args.self.now start (firing c.args.unit Go) c.args.plan c.requires.effect c.in_err-plan.was in
    let P : Option Planned → Type 0 = λ o. MatchOption o (May c.args.net.now c.args.now start (dated_of c.args.self.now) (firing c.args.unit Go) → ⊥) (λ p. May c.args.net.now c.args.now start (dated_of c.args.self.now) (firing c.args.unit Go)) in
    subst P (sym c.from_residual.ensures) refused

pub allows-requires-clause-depth : goal.allows-requires-clause-depth
allows-requires-clause-depth c = go_depth (kind_of c.args.net.now c.args.unit) (get_or c.args.self.now.begun.items c.args.unit 0)

pub returns-then-allows-clause-may : goal.returns-then-allows-clause-may
returns-then-allows-clause-may c start b =
    let is : IsPlanOf c.args.net.now c.args.self.now.state (firing c.args.unit Go) (Some c.in_ok-plan.plan) = ap (planned (kind_of c.args.net.now c.args.unit) (own_at c.args.self.now.state c.args.unit) (array_at c.args.net.now c.args.self.now.state c.args.unit)) (sym c.in_ok-plan.was) ∙ c.requires.effect in
    may_of c.args.net.now c.args.now c.args.self.now start (firing c.args.unit Go) c.in_ok-plan.plan is (c.if-allows.ensures.0 refl) b

pub returns-else-allows-clause-may : goal.returns-else-allows-clause-may
returns-else-allows-clause-may c start b m =
    let is : IsPlanOf c.args.net.now c.args.self.now.state (firing c.args.unit Go) (Some c.in_ok-plan.plan) = ap (planned (kind_of c.args.net.now c.args.unit) (own_at c.args.self.now.state c.args.unit) (array_at c.args.net.now c.args.self.now.state c.args.unit)) (sym c.in_ok-plan.was) ∙ c.requires.effect in
    false≢true (c.if-allows.ensures.1 (may_parts c.args.net.now c.args.now c.args.self.now start (firing c.args.unit Go) c.in_ok-plan.plan is b m))
