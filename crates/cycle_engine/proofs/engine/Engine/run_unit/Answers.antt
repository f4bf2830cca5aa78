use Rattle.std.proofs.Common.{◌∙◌, ap, refl, sym, arith}
use Rattle.net_check.specs.Ends.{is_lsq}
use Rattle.cycle_engine.proofs.MarkLemmas.{put_off_listed, put_off_long}
use Rattle.cycle_engine.proofs.TurnLemmas.{open_put_off, ready_marks}
use Rattle.cycle_engine.proofs.UnitTurnLemmas.{turn_begun}
use Rattle.cycle_engine.proofs.engine.Engine.run_unit.Goals as goal

pub returns-in-Const-clause-tried : goal.returns-in-Const-clause-tried
returns-in-Const-clause-tried c past start t =
    turn_begun c.args.net.now past c.args.bounds c.args.now start c.args.self.now c.args.unit c.go_const.new.self _ c.go_const.result (sym c.in-Const.is ∙ c.requires.kind) refl t c.go_const.ensures

pub returns-in-Op1-clause-tried : goal.returns-in-Op1-clause-tried
returns-in-Op1-clause-tried c past start t =
    turn_begun c.args.net.now past c.args.bounds c.args.now start c.args.self.now c.args.unit c.go_op1.new.self _ c.go_op1.result (sym c.in-Op1.is ∙ c.requires.kind) refl t c.go_op1.ensures

pub returns-in-Op2-clause-tried : goal.returns-in-Op2-clause-tried
returns-in-Op2-clause-tried c past start t =
    turn_begun c.args.net.now past c.args.bounds c.args.now start c.args.self.now c.args.unit c.go_op2.new.self _ c.go_op2.result (sym c.in-Op2.is ∙ c.requires.kind) refl t c.go_op2.ensures

pub returns-in-Select-clause-tried : goal.returns-in-Select-clause-tried
returns-in-Select-clause-tried c past start t =
    turn_begun c.args.net.now past c.args.bounds c.args.now start c.args.self.now c.args.unit c.go_select.new.self _ c.go_select.result (sym c.in-Select.is ∙ c.requires.kind) refl t c.go_select.ensures

pub returns-in-Mux-clause-tried : goal.returns-in-Mux-clause-tried
returns-in-Mux-clause-tried c past start t =
    turn_begun c.args.net.now past c.args.bounds c.args.now start c.args.self.now c.args.unit c.go_mux.new.self _ c.go_mux.result (sym c.in-Mux.is ∙ c.requires.kind) refl t c.go_mux.ensures

pub returns-in-Branch-clause-tried : goal.returns-in-Branch-clause-tried
returns-in-Branch-clause-tried c past start t =
    turn_begun c.args.net.now past c.args.bounds c.args.now start c.args.self.now c.args.unit c.go_branch.new.self _ c.go_branch.result (sym c.in-Branch.is ∙ c.requires.kind) refl t c.go_branch.ensures

pub returns-in-Sink-clause-tried : goal.returns-in-Sink-clause-tried
returns-in-Sink-clause-tried c past start t =
    turn_begun c.args.net.now past c.args.bounds c.args.now start c.args.self.now c.args.unit c.go_sink.new.self _ c.go_sink.result (sym c.in-Sink.is ∙ c.requires.kind) refl t c.go_sink.ensures

pub returns-in-Read-clause-tried : goal.returns-in-Read-clause-tried
returns-in-Read-clause-tried c past start t =
    turn_begun c.args.net.now past c.args.bounds c.args.now start c.args.self.now c.args.unit c.go_read.new.self _ c.go_read.result (sym c.in-Read.is ∙ c.requires.kind) refl t c.go_read.ensures

pub returns-in-Entry-clause-tried : goal.returns-in-Entry-clause-tried
returns-in-Entry-clause-tried c past start t =
    turn_begun c.args.net.now past c.args.bounds c.args.now start c.args.self.now c.args.unit c.go_once.new.self _ c.go_once.result (sym c.in-Entry.is ∙ c.requires.kind) refl t c.go_once.ensures

pub returns-in-Param-clause-tried : goal.returns-in-Param-clause-tried
returns-in-Param-clause-tried c past start t =
    turn_begun c.args.net.now past c.args.bounds c.args.now start c.args.self.now c.args.unit c.go_once-in-Param.new.self _ c.go_once-in-Param.result (sym c.in-Param.is ∙ c.requires.kind) refl t c.go_once-in-Param.ensures

pub returns-in-Exit-clause-tried : goal.returns-in-Exit-clause-tried
returns-in-Exit-clause-tried c past start t =
    turn_begun c.args.net.now past c.args.bounds c.args.now start c.args.self.now c.args.unit c.go_once-in-Exit.new.self _ c.go_once-in-Exit.result (sym c.in-Exit.is ∙ c.requires.kind) refl t c.go_once-in-Exit.ensures

pub returns-in-Fork-clause-tried : goal.returns-in-Fork-clause-tried
returns-in-Fork-clause-tried c past start t =
    turn_begun c.args.net.now past c.args.bounds c.args.now start c.args.self.now c.args.unit c.sends.new.self _ c.sends.result (sym c.in-Fork.is ∙ c.requires.kind) refl t c.sends.ensures

pub returns-in-Cmerge-clause-tried : goal.returns-in-Cmerge-clause-tried
returns-in-Cmerge-clause-tried c past start t =
    turn_begun c.args.net.now past c.args.bounds c.args.now start c.args.self.now c.args.unit c.froms.new.self _ c.froms.result (sym c.in-Cmerge.is ∙ c.requires.kind) refl t c.froms.ensures

pub returns-in_ok-put_off-in-Lsq-clause-ready : goal.returns-in_ok-put_off-in-Lsq-clause-ready
returns-in_ok-put_off-in-Lsq-clause-ready c =
    let off = c.in_ok-put_off-in-Lsq.ensures in
    ready_marks c.args.net.now c.args.bounds c.args.self.now c.put_off.new.self c.requires.ready (put_off_long c.args.self.now.marks c.put_off.new.self c.args.unit off ∙ c.requires.ready.marked)
    (put_off_listed c.args.self.now.marks c.put_off.new.self c.args.unit off c.args.net.now (ap is_lsq (sym c.requires.kind ∙ c.in-Lsq.is)) c.requires.ready.listed)

pub returns-in_ok-put_off-in-Lsq-clause-tried : goal.returns-in_ok-put_off-in-Lsq-clause-tried
returns-in_ok-put_off-in-Lsq-clause-tried c past start t =
    open_put_off c.args.net.now past c.args.bounds c.args.now start c.args.self.now c.args.unit c.put_off.new.self c.in_ok-put_off-in-Lsq.ensures (let l = c.requires.ready.marked in let w = c.requires.within in omega arith) t
