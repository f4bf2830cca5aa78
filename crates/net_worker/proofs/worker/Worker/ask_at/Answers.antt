use Rattle.std.proofs.Common.{refl}
use Rattle.std.proofs.lemmas.Bool.{false≢true}
use Rattle.net_worker.proofs.Turning.{credited_made}
use Rattle.net_worker.proofs.worker.Worker.ask_at.Goals as goal

pub returns-then-has_credit-clause-made : goal.returns-then-has_credit-clause-made
returns-then-has_credit-clause-made c =
    credited_made c.args.self.now _
    (record { number = refl; share = refl; log = refl; clock = refl; portion = refl; outs = refl; ins = refl; closed = refl; takes = refl; puts = c.has_credit.ensures.looked; rests = λ r. absurd (false≢true r) })
    c.args.tables.now c.requires.made

pub returns-else-has_credit-clause-made : goal.returns-else-has_credit-clause-made
returns-else-has_credit-clause-made c =
    credited_made c.args.self.now _
    (record { number = refl; share = refl; log = refl; clock = refl; portion = refl; outs = refl; ins = refl; closed = refl; takes = refl; puts = c.has_credit.ensures.looked; rests = λ r. (r, λ _ h. h) })
    c.args.tables.now c.requires.made
