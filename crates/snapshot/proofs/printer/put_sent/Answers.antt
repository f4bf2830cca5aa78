use Rattle.std.proofs.Common.{◌∷◌, codes, decimal, sym, ◌∙◌}
use Rattle.net_text.proofs.PrintedLines.{one_more_written, with_separator}
use Rattle.net_text.proofs.Texts.{some_left}
use Rattle.snapshot.proofs.Printed.{list_of}
use Rattle.snapshot.proofs.printer.put_sent.Goals as goal

pub returns : goal.returns
returns c =
    list_of (codes "fork") c.args.unit c.args.sent.now c.loop-out.out-index _ _ _ _ _ c.in_ok-put_bytes.ensures.ok c.in_ok-put_u64.ensures.ok c.loop-out.invariant c.loop-out-test.false c.in_ok-put_bytes-3.ensures.ok (some_left c.args.sent.now (sym c.if-is_empty.false ∙ c.is_empty.ensures))

pub loop-out-preserved : goal.loop-out-preserved
loop-out-preserved c = one_more_written (λ n. 32 ∷ decimal n) _ _ _ c.loop-out.out-index _ c.args.sent.now c.loop-out.invariant
    (with_separator 32 _ _ _ _ c.in_ok-put_bytes-2.ensures.ok (rw c.from.ensures at c.in_ok-put_u64-2.ensures.ok)) c.loop-out-test.true
