use Rattle.std.proofs.Common.{◌∷◌, codes, decimal, sym, ◌∙◌}
use Rattle.net_text.proofs.PrintedLines.{one_more_written, with_separator}
use Rattle.net_text.proofs.Texts.{some_left}
use Rattle.snapshot.proofs.Printed.{list_of}
use Rattle.snapshot.proofs.printer.put_tokens.Goals as goal

pub returns : goal.returns
returns c =
    list_of (codes "chan") c.args.chan c.args.tokens.now c.loop-token.token-index _ _ _ _ _ c.in_ok-put_bytes.ensures.ok c.in_ok-put_u64.ensures.ok c.loop-token.invariant c.loop-token-test.false c.in_ok-put_bytes-3.ensures.ok (some_left c.args.tokens.now (sym c.if-is_empty.false ∙ c.is_empty.ensures))

pub loop-token-preserved : goal.loop-token-preserved
loop-token-preserved c = one_more_written (λ n. 32 ∷ decimal n) _ _ _ c.loop-token.token-index _ c.args.tokens.now c.loop-token.invariant
    (with_separator 32 _ _ _ _ c.in_ok-put_bytes-2.ensures.ok c.in_ok-put_u64-2.ensures.ok) c.loop-token-test.true
