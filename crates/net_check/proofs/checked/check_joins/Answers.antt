use Rattle.net_types.specs.Rules.{KeepsC1}
use Rattle.net_check.specs.declared.refusal.Rule.TheVariants.{C1}
use Rattle.net_check.specs.Places.{CulpritC1}
use Rattle.net_check.proofs.RefusalLemmas.{first_1, refused_by, refused_exit}
use Rattle.net_check.proofs.checked.check_joins.Goals as goal

pub returns-in_err-refuse-clause-refused : goal.returns-in_err-refuse-clause-refused
returns-in_err-refuse-clause-refused c =
    let net = c.args.net.now in
    refused_exit net _ _ c.from_residual-in_err-refuse.ensures.1
    (refused_by net C1 (KeepsC1 net) (CulpritC1 net) c.in_ok-places.places _ (λ x. first_1 net x c.requires.header c.requires.shapes) c.in_ok-places.ensures c.in_err-refuse.ensures.broken)
