use Rattle.std.proofs.Common.{arith}
use Rattle.snapshot.specs.Texts.{fired_lines}
use Rattle.snapshot.proofs.Printed.{put_more, put_all}
use Rattle.snapshot.proofs.printer.put_fired.Goals as goal

pub loop-u-preserved : goal.loop-u-preserved
loop-u-preserved c = put_more (fired_lines c.args.fired.now) c.loop-u.u _ _ _ c.loop-u.invariant c.in_ok-put_flag.ensures

pub returns : goal.returns
returns c = put_all (fired_lines c.args.fired.now) c.loop-u.u _ _ _ c.loop-u.invariant (omega arith)
