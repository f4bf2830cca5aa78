use Rattle.std.proofs.lemmas.Result.{on_ok_weaker}
use Rattle.net_check.specs.declared.refusal.Rule.TheVariants.{C4, C5, C6}
use Rattle.net_check.specs.Cycles.{KeepsC4, CulpritC4}
use Rattle.net_check.specs.Controls.{KeepsC5, CulpritC5}
use Rattle.net_check.specs.Ends.{KeepsC6, CulpritC6}
use Rattle.net_check.proofs.CheckLemmas.{checked_base}
use Rattle.net_check.proofs.CycleLemmas.{linked}
use Rattle.net_check.proofs.RefusalLemmas.{first_4, first_5, first_6, refused_by, refused_exit, refused_last, kept_by}
use Rattle.net_check.proofs.checked.check_rest.Goals as goal

pub check_cycles-requires-clause-linked : goal.check_cycles-requires-clause-linked
check_cycles-requires-clause-linked c = linked c.args.net.now c.requires.base.c1

pub returns-in_err-refuse-clause-refused : goal.returns-in_err-refuse-clause-refused
returns-in_err-refuse-clause-refused c =
    let net = c.args.net.now in
    refused_exit net _ _ c.from_residual-in_err-refuse.ensures.1
    (refused_by net C4 (KeepsC4 net) (CulpritC4 net) c.in_ok-cycles.cycles _ (λ x. first_4 net x c.requires.base) c.in_ok-cycles.ensures c.in_err-refuse.ensures.broken)

pub returns-in_err-refuse-2-clause-refused : goal.returns-in_err-refuse-2-clause-refused
returns-in_err-refuse-2-clause-refused c =
    let net = c.args.net.now in
    let k4 = kept_by (KeepsC4 net) (CulpritC4 net) c.in_ok-cycles.cycles c.in_ok-cycles.ensures c.in_ok-refuse.ensures.kept in
    refused_exit net _ _ c.from_residual-in_err-refuse-2.ensures.1
    (refused_by net C5 (KeepsC5 net) (CulpritC5 net) c.check_controls-controls.result _ (λ x. first_5 net x c.requires.base k4) c.check_controls-controls.ensures c.in_err-refuse-2.ensures.broken)

pub returns-clause-kept : goal.returns-clause-kept
returns-clause-kept c =
    let net = c.args.net.now in
    let k4 = kept_by (KeepsC4 net) (CulpritC4 net) c.in_ok-cycles.cycles c.in_ok-cycles.ensures c.in_ok-refuse.ensures.kept in
    let k5 = kept_by (KeepsC5 net) (CulpritC5 net) c.check_controls-controls.result c.check_controls-controls.ensures c.in_ok-refuse-2.ensures.kept in
    on_ok_weaker c.refuse-3.result (λ e. checked_base net c.requires.base k4 k5 (kept_by (KeepsC6 net) (CulpritC6 net) c.in_ok-ends.ends c.in_ok-ends.ensures e)) c.refuse-3.ensures.kept

pub returns-clause-refused : goal.returns-clause-refused
returns-clause-refused c =
    let net = c.args.net.now in
    let k4 = kept_by (KeepsC4 net) (CulpritC4 net) c.in_ok-cycles.cycles c.in_ok-cycles.ensures c.in_ok-refuse.ensures.kept in
    let k5 = kept_by (KeepsC5 net) (CulpritC5 net) c.check_controls-controls.result c.check_controls-controls.ensures c.in_ok-refuse-2.ensures.kept in
    refused_last net C6 (KeepsC6 net) (CulpritC6 net) c.in_ok-ends.ends c.refuse-3.result (λ x. first_6 net x c.requires.base k4 k5) c.in_ok-ends.ensures c.refuse-3.ensures.broken
