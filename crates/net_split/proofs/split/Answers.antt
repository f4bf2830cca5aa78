use Rattle.std.proofs.Common.{◌≡◌, ◌<◌, ◌++◌, [], ◌∷◌, All, sym, subst, rules}
use Rattle.std.proofs.lemmas.List.Elements.{All-push}
use Rattle.net_split.proofs.OwnerLemmas.{pushed_owner}
use Rattle.net_split.proofs.split.Goals as goal

pub loop-unit-preserved : goal.loop-unit-preserved
loop-unit-preserved c =
    let pushed : c.push.new.self ≡ c.loop-unit.owners ++ c.owner_of.result ∷ [] = search rules in (
      pushed_owner _ _ _ _ _ _ pushed c.loop-unit.invariant.0 c.owner_of.ensures.owner,
      subst (All (λ o. o < c.args.workers)) (sym pushed) (All-push (λ o. o < c.args.workers) c.loop-unit.owners c.owner_of.result c.loop-unit.invariant.1 c.owner_of.ensures.below),
    )
