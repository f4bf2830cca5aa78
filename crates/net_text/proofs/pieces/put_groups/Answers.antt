use Rattle.std.proofs.Common.{◌++◌, ap, sym, ◌∙◌, subst, arith}
use Rattle.std.proofs.lemmas.Grind.{common_steps}
use Rattle.std.proofs.lemmas.List.{take_all}
use Rattle.std.proofs.lemmas.List.Elements.{All-same, All-cons, All-more}
use Rattle.net_text.specs.Fits.{GroupFits, GroupsFit}
use Rattle.net_text.specs.Pieces.{group_text, groups_text}
use Rattle.net_text.proofs.PrintedLines.{loop_written}
use Rattle.net_text.proofs.pieces.put_groups.Goals as goal

pub returns-after-loop-group-clause-ok : goal.returns-after-loop-group-clause-ok
returns-after-loop-group-clause-ok c =
    loop_written 59 group_text _ _ _ _ _ _ (c.in_ok-put_group-in-Some.ensures.ok ∙ ap (λ g. c.args.text.now.items ++ group_text g) c.as_slice.ensures) c.loop-group.invariant.written c.loop-group-test.false
    ∙ ap (λ g. c.args.text.now.items ++ groups_text g) (sym c.in-Some.ensures.cases.0)

pub returns-after-loop-group-clause-fits : goal.returns-after-loop-group-clause-fits
returns-after-loop-group-clause-fits c =
    let first = subst GroupFits c.as_slice.ensures c.in_ok-put_group-in-Some.ensures.fits in
    let rest = subst GroupsFit (take_all c.loop-group.group-index c.in-Some.rest.now c.loop-group-test.false) c.loop-group.invariant.fit in
    All-same GroupFits c.args.groups.now _ c.in-Some.ensures.cases.0 (All-cons GroupFits c.in-Some.first.now c.in-Some.rest.now first rest)

pub loop-group-preserved : goal.loop-group-preserved
loop-group-preserved c = record {
  written = grind (arith, common_steps);
  fit = All-more GroupFits c.in-Some.rest.now c.loop-group.group-index c.group-item.result c.loop-group-test.true c.loop-group.invariant.fit
      (subst GroupFits (c.as_slice-in-loop-group.ensures ∙ c.group-item.is) c.in_ok-put_group-in-Some-2.ensures.fits);
}
