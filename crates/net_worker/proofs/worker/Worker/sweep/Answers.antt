use Rattle.std.proofs.Common.{◌≡◌, ◌∙◌, sym, refl, arith}
use Rattle.std.proofs.lemmas.Bool.{false≢true}
use Rattle.net_worker.proofs.Exact.{swept_self}
use Rattle.net_worker.proofs.Firing.{later_self}
use Rattle.net_worker.proofs.Glancing.{same_worker_self}
use Rattle.net_worker.proofs.worker.Worker.sweep.Goals as goal

pub returns-then-exited-clause-same : goal.returns-then-exited-clause-same
returns-then-exited-clause-same c = same_worker_self c.args.self.now

pub returns-then-exited-clause-answer : goal.returns-then-exited-clause-answer
returns-then-exited-clause-answer c = c.requires.made.exit.0 ((c.exited.ensures c.args.tables.now.net.now c.requires.made.of).0 c.if-exited.true)

pub returns-then-exited-2-clause-answer : goal.returns-then-exited-2-clause-answer
returns-then-exited-2-clause-answer c = c.go-fired.ensures.made.exit.0 ((c.exited-2.ensures c.args.tables.now.net.now c.go-fired.ensures.made.of).0 c.if-exited-2.true)

pub returns-then-is_full-clause-same : goal.returns-then-is_full-clause-same
returns-then-is_full-clause-same c = same_worker_self c.args.self.now

pub returns-then-is_full-clause-exited : goal.returns-then-is_full-clause-exited
returns-then-is_full-clause-exited c = λ e. absurd (false≢true (sym c.if-exited.false ∙ (c.exited.ensures c.args.tables.now.net.now c.requires.made.of).1 (c.requires.made.exit.1 e)))

pub returns-then-fired-eq0-clause-exited : goal.returns-then-fired-eq0-clause-exited
returns-then-fired-eq0-clause-exited c = λ e. absurd (false≢true (sym c.if-exited-2.false ∙ (c.exited-2.ensures c.args.tables.now.net.now c.go-fired.ensures.made.of).1 (c.go-fired.ensures.made.exit.1 e)))

pub returns-clause-exited : goal.returns-clause-exited
returns-clause-exited c = λ e. absurd (false≢true (sym c.if-exited-2.false ∙ (c.exited-2.ensures c.args.tables.now.net.now c.go-fired.ensures.made.of).1 (c.go-fired.ensures.made.exit.1 e)))

pub returns-clause-answer : goal.returns-clause-answer
returns-clause-answer c = (
  omega arith,
  c.go-fired.ensures.added,
  λ e. false≢true (sym c.if-exited-2.false ∙ (c.exited-2.ensures c.args.tables.now.net.now c.go-fired.ensures.made.of).1 (c.go-fired.ensures.made.exit.1 e)),
  λ f. false≢true (sym c.if-is_full.false ∙ c.is_full.ensures.1 f),
)

pub returns-then-is_full-clause-answer : goal.returns-then-is_full-clause-answer
returns-then-is_full-clause-answer c = (c.is_full.ensures.0 c.if-is_full.true, refl, λ e. false≢true (sym c.if-exited.false ∙ (c.exited.ensures c.args.tables.now.net.now c.requires.made.of).1 (c.requires.made.exit.1 e)))

pub returns-then-exited-clause-stamps : goal.returns-then-exited-clause-stamps
returns-then-exited-clause-stamps c = swept_self c.args.tables.now c.args.self.now c.requires.made

pub returns-then-is_full-clause-stamps : goal.returns-then-is_full-clause-stamps
returns-then-is_full-clause-stamps c = swept_self c.args.tables.now c.args.self.now c.requires.made

pub returns-then-exited-2-clause-same : goal.returns-then-exited-2-clause-same
returns-then-exited-2-clause-same c = (c.go-fired.ensures.later c.args.self.now (later_self c.args.tables.now c.args.self.now c.requires.made)).same

pub returns-then-exited-2-clause-stamps : goal.returns-then-exited-2-clause-stamps
returns-then-exited-2-clause-stamps c = (c.go-fired.ensures.later c.args.self.now (later_self c.args.tables.now c.args.self.now c.requires.made)).exact

pub returns-then-fired-eq0-clause-same : goal.returns-then-fired-eq0-clause-same
returns-then-fired-eq0-clause-same c = (c.go-fired.ensures.later c.args.self.now (later_self c.args.tables.now c.args.self.now c.requires.made)).same

pub returns-then-fired-eq0-clause-stamps : goal.returns-then-fired-eq0-clause-stamps
returns-then-fired-eq0-clause-stamps c = (c.go-fired.ensures.later c.args.self.now (later_self c.args.tables.now c.args.self.now c.requires.made)).exact

pub returns-clause-same : goal.returns-clause-same
returns-clause-same c = (c.go-fired.ensures.later c.args.self.now (later_self c.args.tables.now c.args.self.now c.requires.made)).same

pub returns-clause-stamps : goal.returns-clause-stamps
returns-clause-stamps c = (c.go-fired.ensures.later c.args.self.now (later_self c.args.tables.now c.args.self.now c.requires.made)).exact

pub returns-then-fired-eq0-clause-answer : goal.returns-then-fired-eq0-clause-answer
returns-then-fired-eq0-clause-answer c =
    let x : c.go-fired.result ≡ 0 = omega arith in (
      c.go-fired.ensures.none x,
      c.go-fired.ensures.held x,
      λ e. false≢true (sym c.if-exited-2.false ∙ (c.exited-2.ensures c.args.tables.now.net.now c.go-fired.ensures.made.of).1 (c.go-fired.ensures.made.exit.1 e)),
      λ f. false≢true (sym c.if-is_full.false ∙ c.is_full.ensures.1 f),
    )
