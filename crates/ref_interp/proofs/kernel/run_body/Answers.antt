use Rattle.std.proofs.Common.{sym, subst, arith}
use Rattle.std.specs.Prelude.{false}
use Rattle.c_meaning.specs.Statements.{objects}
use Rattle.ref_interp.specs.Cells.{AreCells}
use Rattle.ref_interp.specs.Machines.{CanRun}
use Rattle.ref_interp.specs.Statements.{EnterGives, AllGive}
use Rattle.ref_interp.proofs.ByParts.{entered_can}
use Rattle.ref_interp.proofs.Whole.{body_starved, body_goes}
use Rattle.ref_interp.proofs.kernel.run_body.Goals as goal

pub returns-then-not-take : goal.returns-then-not-take
returns-then-not-take c laws parts law cells =
    let short = c.take.ensures.no c.if-not-take.true in
    body_starved (objects c.args.profile c.args.typed.now) c.args.typed.now.result c.args.typed.now.body c.args.m.now c.take.new.self cells short.0 c.take.ensures.cells short.1

pub returns : goal.returns
returns c laws parts law cells =
    let k = objects c.args.profile c.args.typed.now in
    let r = c.args.typed.now.result in
    let body = c.args.typed.now.body in
    let m1 = c.take.new.self in
    let left = c.take.ensures.yes c.if-not-take.false in
    let range = c.take.ensures.range in
    let can : CanRun k m1 = record { laws = laws; parts = parts; cells = subst (AreCells k) (sym c.take.ensures.cells) cells; few = omega (arith, left, range) } in
    let en = subst (λ ss. EnterGives k ss m1 c.enter.new.m) c.as_slice.ensures (c.enter.ensures k) can in
    let ran = subst (λ ss. AllGive k r ss c.enter.new.m c.exec_all.result c.exec_all.new.m) c.as_slice-2.ensures c.exec_all.ensures false (law.statements c.args.profile) (entered_can k body m1 c.enter.new.m can en) in
    body_goes k r body c.args.m.now m1 c.enter.new.m c.exec_all.new.m c.exec_all.result left c.take.ensures.cells en ran
