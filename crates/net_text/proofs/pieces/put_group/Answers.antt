use Rattle.std.proofs.Common.{◌++◌, ◌∷◌, decimal, ap, sym, ◌∙◌, arith}
use Rattle.std.proofs.lemmas.List.Elements.{All-from_get_or}
use Rattle.el_base.specs.Limits.{IsNumbered}
use Rattle.net_text.specs.Pieces.{group_text}
use Rattle.net_text.proofs.PrintedLines.{loop_written, one_more_written, with_separator}
use Rattle.net_text.proofs.pieces.put_group.Goals as goal

pub returns-after-loop-number-clause-ok : goal.returns-after-loop-number-clause-ok
returns-after-loop-number-clause-ok c =
    loop_written 44 decimal _ _ _ _ _ _ c.in_ok-put_u32-in-Some.ensures.ok c.loop-number.invariant c.loop-number-test.false
    ∙ ap (λ g. c.args.text.now.items ++ group_text g) (sym c.in-Some.ensures.cases.0)

pub returns-after-loop-number-clause-fits : goal.returns-after-loop-number-clause-fits
returns-after-loop-number-clause-fits c = All-from_get_or IsNumbered c.args.group.now 0 (λ i within. omega (arith, c.type_inv.group i))

pub loop-number-preserved : goal.loop-number-preserved
loop-number-preserved c = one_more_written (λ n. 44 ∷ decimal n) _ _ _ c.loop-number.number-index _ c.in-Some.rest.now c.loop-number.invariant
    (with_separator 44 _ _ _ _ c.in_ok-put_bytes-in-Some.ensures.ok c.in_ok-put_u32-in-Some-2.ensures.ok) c.loop-number-test.true
