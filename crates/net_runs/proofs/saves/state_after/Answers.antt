use Rattle.std.proofs.Common.{inl, sym, subst}
use Rattle.net_core.specs.States.{state_of}
use Rattle.net_runs.specs.Saves.{IsReachedBy}
use Rattle.net_runs.proofs.SaveLemmas.{rest_reached}
use Rattle.net_runs.proofs.saves.state_after.Goals as goal
use Rattle.net_runs.proofs.saves.state_after.Goals.{in-Rest, in-Limit}

pub returns-clause-reached : goal.returns-clause-reached
returns-clause-reached c = elim c.match-finish.branch [
  | in-Rest w ↦
      let ends = w.in-Rest.ensures.finished.finishes.ends in
      subst (λ n. IsReachedBy c.args.net.now c.args.at (record { made = n; parts = c.in_ok-parts.parts })) (sym w.made-is)
      (rest_reached c.args.net.now c.args.at (state_of c.finish.new.state) c.in_ok-parts.parts _ ends.rest c.in_ok-parts.ensures.state ends.within)
  | in-Limit w ↦ inl w.made-is
]
