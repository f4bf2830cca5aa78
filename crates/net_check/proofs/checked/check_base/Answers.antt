use Rattle.net_types.specs.Rules.{KeepsC2}
use Rattle.net_check.specs.declared.refusal.Rule.TheVariants.{C2, C3, C7, C8}
use Rattle.net_check.specs.Headers.{KeepsC8, CulpritC8}
use Rattle.net_check.specs.Shapes.{KeepsC7, CulpritC7}
use Rattle.net_check.specs.Places.{CulpritC2}
use Rattle.net_check.specs.Sizes.{KeepsC3, CulpritC3}
use Rattle.net_check.proofs.RefusalLemmas.{first_8, first_7, first_2, first_3, refused_by, refused_exit, kept_by}
use Rattle.net_check.proofs.checked.check_base.Goals as goal

pub returns-in_err-refuse-clause-refused : goal.returns-in_err-refuse-clause-refused
returns-in_err-refuse-clause-refused c =
    let net = c.args.net.now in
    refused_exit net _ _ c.from_residual-in_err-refuse.ensures.1 (refused_by net C8 (KeepsC8 net) (CulpritC8 net) c.in_ok-header.header _ (first_8 net) c.in_ok-header.ensures c.in_err-refuse.ensures.broken)

pub returns-in_err-refuse-2-clause-refused : goal.returns-in_err-refuse-2-clause-refused
returns-in_err-refuse-2-clause-refused c =
    let net = c.args.net.now in
    let k8 = kept_by (KeepsC8 net) (CulpritC8 net) c.in_ok-header.header c.in_ok-header.ensures c.in_ok-refuse.ensures.kept in
    refused_exit net _ _ c.from_residual-in_err-refuse-2.ensures.1
    (refused_by net C7 (KeepsC7 net) (CulpritC7 net) c.in_ok-shapes.shapes _ (λ x. first_7 net x k8) c.in_ok-shapes.ensures c.in_err-refuse-2.ensures.broken)

pub returns-in_err-refuse-3-clause-refused : goal.returns-in_err-refuse-3-clause-refused
returns-in_err-refuse-3-clause-refused c =
    let net = c.args.net.now in
    let k8 = kept_by (KeepsC8 net) (CulpritC8 net) c.in_ok-header.header c.in_ok-header.ensures c.in_ok-refuse.ensures.kept in
    let k7 = kept_by (KeepsC7 net) (CulpritC7 net) c.in_ok-shapes.shapes c.in_ok-shapes.ensures c.in_ok-refuse-2.ensures.kept in
    refused_exit net _ _ c.from_residual-in_err-refuse-3.ensures.1
    (refused_by net C2 (KeepsC2 net) (CulpritC2 net) c.check_widths-widths.result _ (λ x. first_2 net x k8 k7 c.in_ok-wires.ensures.kept) c.check_widths-widths.ensures c.in_err-refuse-3.ensures.broken)

pub returns-in_err-refuse-4-clause-refused : goal.returns-in_err-refuse-4-clause-refused
returns-in_err-refuse-4-clause-refused c =
    let net = c.args.net.now in
    let k8 = kept_by (KeepsC8 net) (CulpritC8 net) c.in_ok-header.header c.in_ok-header.ensures c.in_ok-refuse.ensures.kept in
    let k7 = kept_by (KeepsC7 net) (CulpritC7 net) c.in_ok-shapes.shapes c.in_ok-shapes.ensures c.in_ok-refuse-2.ensures.kept in
    let k2 = kept_by (KeepsC2 net) (CulpritC2 net) c.check_widths-widths.result c.check_widths-widths.ensures c.in_ok-refuse-3.ensures.kept in
    refused_exit net _ _ c.from_residual-in_err-refuse-4.ensures.1
    (refused_by net C3 (KeepsC3 net) (CulpritC3 net) c.check_sizes-sizes.result _ (λ x. first_3 net x k8 k7 c.in_ok-wires.ensures.kept k2) c.check_sizes-sizes.ensures c.in_err-refuse-4.ensures.broken)
