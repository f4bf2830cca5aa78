use Rattle.std.proofs.Common.{◌∙◌, inl, inr, refl, sym}
use Rattle.std.proofs.lemmas.Bool.{false≢true}
use Rattle.net_worker.proofs.Exact.{swept_self}
use Rattle.net_worker.proofs.Firing.{later_self}
use Rattle.net_worker.proofs.Glancing.{same_worker_self}
use Rattle.net_worker.proofs.worker.Worker.go_on.Goals as goal

pub returns-then-is_full-clause-same : goal.returns-then-is_full-clause-same
returns-then-is_full-clause-same c = same_worker_self c.args.self.now

pub returns-then-is_full-clause-stamps : goal.returns-then-is_full-clause-stamps
returns-then-is_full-clause-stamps c = swept_self c.args.tables.now c.args.self.now c.requires.made

pub returns-then-is_full-clause-none : goal.returns-then-is_full-clause-none
returns-then-is_full-clause-none c = λ _. (refl, inr (c.is_full.ensures.0 c.if-is_full.true))

pub returns-clause-same : goal.returns-clause-same
returns-clause-same c = (c.go.ensures.later c.args.self.now (later_self c.args.tables.now c.args.self.now c.requires.made)).same

pub returns-clause-stamps : goal.returns-clause-stamps
returns-clause-stamps c = (c.go.ensures.later c.args.self.now (later_self c.args.tables.now c.args.self.now c.requires.made)).exact

pub returns-clause-none : goal.returns-clause-none
returns-clause-none c = λ q. (c.go.ensures.none q, inl ((λ f. false≢true (sym c.if-is_full.false ∙ c.is_full.ensures.1 f)), c.go.ensures.held q))
