use Rattle.std.proofs.lemmas.Result.{on_ok_weaker}
use Rattle.net_check.specs.declared.refusal.Rule.TheVariants.{C3, C4}
use Rattle.net_check.specs.Sizes.{KeepsC3, CulpritC3}
use Rattle.net_check.specs.Cycles.{KeepsC4, CulpritC4}
use Rattle.net_check.proofs.ChangeLemmas.{base_of, checked_again}
use Rattle.net_check.proofs.CycleLemmas.{linked}
use Rattle.net_check.proofs.RefusalLemmas.{first_3, first_4, refused_by, refused_exit, refused_last, kept_by}
use Rattle.net_check.proofs.retiming.check_times.Goals as goal

pub check_sizes-sizes-requires : goal.check_sizes-sizes-requires
check_sizes-sizes-requires c = c.requires.numbered

pub returns-in_err-refuse-clause-refused : goal.returns-in_err-refuse-clause-refused
returns-in_err-refuse-clause-refused c =
    let net = c.args.net.now in
    let k = c.requires in
    refused_exit net _ _ c.from_residual.ensures.1
    (refused_by net C3 (KeepsC3 net) (CulpritC3 net) c.check_sizes-sizes.result _ (λ x. first_3 net x k.c8 k.c7 k.c1 k.c2) c.check_sizes-sizes.ensures c.in_err-refuse.ensures.broken)

pub check_cycles-requires-clause-linked : goal.check_cycles-requires-clause-linked
check_cycles-requires-clause-linked c = linked c.args.net.now c.requires.c1

pub check_cycles-requires-clause-numbered : goal.check_cycles-requires-clause-numbered
check_cycles-requires-clause-numbered c = c.requires.numbered

pub returns-clause-kept : goal.returns-clause-kept
returns-clause-kept c =
    let net = c.args.net.now in
    let k3 = kept_by (KeepsC3 net) (CulpritC3 net) c.check_sizes-sizes.result c.check_sizes-sizes.ensures c.in_ok-refuse.ensures.kept in
    on_ok_weaker c.refuse-2.result (λ e. checked_again net c.requires k3 (kept_by (KeepsC4 net) (CulpritC4 net) c.in_ok-cycles.cycles c.in_ok-cycles.ensures e)) c.refuse-2.ensures.kept

pub returns-clause-refused : goal.returns-clause-refused
returns-clause-refused c =
    let net = c.args.net.now in
    let k3 = kept_by (KeepsC3 net) (CulpritC3 net) c.check_sizes-sizes.result c.check_sizes-sizes.ensures c.in_ok-refuse.ensures.kept in
    refused_last net C4 (KeepsC4 net) (CulpritC4 net) c.in_ok-cycles.cycles c.refuse-2.result (λ x. first_4 net x (base_of net c.requires k3)) c.in_ok-cycles.ensures c.refuse-2.ensures.broken
