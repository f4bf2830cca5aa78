use Rattle.std.proofs.Common.{◌++◌, [], ap, ◌∙◌, codes, arith}
use Rattle.std.proofs.lemmas.List.{get_or_read}
use Rattle.net_text.specs.Bodies.{text_of}
use Rattle.snapshot.specs.Texts.{fork_lines, list_lines}
use Rattle.snapshot.proofs.Printed.{put_more, put_all}
use Rattle.snapshot.proofs.printer.put_forks.Goals as goal

pub loop-u-preserved : goal.loop-u-preserved
loop-u-preserved c =
    let is = get_or_read c.args.sent.now c.loop-u.u c.index-sent-u.result c.loop-u-test.true c.index-sent-u.is [] in
    put_more (fork_lines c.args.sent.now) c.loop-u.u _ _ _ c.loop-u.invariant (c.in_ok-put_sent.ensures ∙ ap (λ l. c.loop-u.text.items ++ text_of (list_lines (codes "fork") c.loop-u.u l)) (c.as_slice.ensures ∙ is))

pub returns : goal.returns
returns c = put_all (fork_lines c.args.sent.now) c.loop-u.u _ _ _ c.loop-u.invariant (omega arith)
