use Rattle.std.proofs.Common.{◌∙◌, ℕ, Option, Some, List, get_or, sym, ap, subst, refl, MatchOption}
use Rattle.std.proofs.lemmas.Bool.{false≢true}
use Rattle.net_core.specs.Plans.{planned}
use Rattle.net_core.specs.States.{own_at, array_at, IsPlanOf}
use Rattle.net_types.specs.Nets.{kind_of}
use Rattle.cycle_engine.specs.private.Trials.{dated_of, HadDepth}
use Rattle.cycle_engine.specs.Cycles.{May}
use Rattle.cycle_engine.specs.declared.trial.Planned.{Planned}
use Rattle.cycle_engine.proofs.UsedLemmas.{may_of, may_parts, no_plan}
use Rattle.cycle_engine.proofs.engine.Engine.may.Goals as goal
use Rattle.cycle_engine.proofs.engine.Engine.may.Goals.{else-had_depth-via-then-had_depth+else-allows, else-had_depth-via-else-had_depth}

pub returns-in_err-plan-clause-may : goal.returns-in_err-plan-clause-may
returns-in_err-plan-clause-may c start b =
    let refused : May c.args.net.now c.args.now start (dated_of c.args.self.now) c.args.firing → ⊥ = no_plan c.args.net.now c.args.now c.args.self.now start c.args.firing c.args.plan c.requires.effect c.in_err-plan.was in
    let P : Option Planned → Type 0 = λ o. MatchOption o (May c.args.net.now c.args.now start (dated_of c.args.self.now) c.args.firing → ⊥) (λ p. May c.args.net.now c.args.now start (dated_of c.args.self.now) c.args.firing) in
    subst P (sym c.from_residual.ensures) refused

pub returns-then-allows-clause-may : goal.returns-then-allows-clause-may
returns-then-allows-clause-may c start b =
    let is : IsPlanOf c.args.net.now c.args.self.now.state c.args.firing (Some c.in_ok-plan.plan) = ap (planned (kind_of c.args.net.now c.args.firing.unit) (own_at c.args.self.now.state c.args.firing.unit) (array_at c.args.net.now c.args.self.now.state c.args.firing.unit)) (sym c.in_ok-plan.was) ∙ c.requires.effect in
    may_of c.args.net.now c.args.now c.args.self.now start c.args.firing c.in_ok-plan.plan is (c.if-allows.ensures.0 refl) b

pub returns-else-had_depth-clause-may : goal.returns-else-had_depth-clause-may
returns-else-had_depth-clause-may c start b m =
    let is : IsPlanOf c.args.net.now c.args.self.now.state c.args.firing (Some c.in_ok-plan.plan) = ap (planned (kind_of c.args.net.now c.args.firing.unit) (own_at c.args.self.now.state c.args.firing.unit) (array_at c.args.net.now c.args.self.now.state c.args.firing.unit)) (sym c.in_ok-plan.was) ∙ c.requires.effect in
    let parts = may_parts c.args.net.now c.args.now c.args.self.now start c.args.firing c.in_ok-plan.plan is b m in
    let P : List ℕ → Type 0 = λ xs. HadDepth (kind_of c.args.net.now c.args.firing.unit) (get_or xs c.args.firing.unit 0) c.args.firing.act in
    elim c.else-had_depth.branch [
      | else-had_depth-via-then-had_depth+else-allows w ↦ false≢true (w.if-allows.ensures.1 parts)
      | else-had_depth-via-else-had_depth w ↦ false≢true (w.if-had_depth.ensures.1 (subst P (sym c.as_slice.ensures.value) parts.had_depth))
    ]
