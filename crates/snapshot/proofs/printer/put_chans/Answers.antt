use Rattle.std.proofs.Common.{◌++◌, [], ap, ◌∙◌, codes, arith}
use Rattle.std.proofs.lemmas.List.{get_or_read}
use Rattle.net_text.specs.Bodies.{text_of}
use Rattle.snapshot.specs.Texts.{chan_lines, list_lines}
use Rattle.snapshot.proofs.Printed.{put_more, put_all}
use Rattle.snapshot.proofs.printer.put_chans.Goals as goal

pub loop-chan-preserved : goal.loop-chan-preserved
loop-chan-preserved c =
    let is = get_or_read c.args.tokens.now c.loop-chan.chan c.index-tokens-chan.result c.loop-chan-test.true c.index-tokens-chan.is [] in
    put_more (chan_lines c.args.tokens.now) c.loop-chan.chan _ _ _ c.loop-chan.invariant (c.in_ok-put_tokens.ensures ∙ ap (λ l. c.loop-chan.text.items ++ text_of (list_lines (codes "chan") c.loop-chan.chan l)) (c.as_slice.ensures ∙ is))

pub returns : goal.returns
returns c = put_all (chan_lines c.args.tokens.now) c.loop-chan.chan _ _ _ c.loop-chan.invariant (omega arith)
