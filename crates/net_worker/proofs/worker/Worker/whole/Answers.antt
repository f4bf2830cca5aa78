use Rattle.std.proofs.Common.{◌∙◌, sym}
use Rattle.std.proofs.lemmas.Bool.{false≢true}
use Rattle.net_worker.proofs.worker.Worker.whole.Goals as goal

pub returns-then-has_puts : goal.returns-then-has_puts
returns-then-has_puts c = λ t m. (
  λ q. record { puts = (c.has_puts.ensures t m).0 c.if-has_puts.true; takes = (c.has_takes.ensures t m).0 q; not_closed = c.if-self.false },
  λ w. (c.has_takes.ensures t m).1 w.takes,
)

pub returns : goal.returns
returns c = λ t m. (λ q. absurd (false≢true q), λ w. absurd (false≢true (sym c.if-has_puts.false ∙ (c.has_puts.ensures t m).1 w.puts)))
