use Rattle.std.proofs.Common.{arith}
use Rattle.firing_log.proofs.Reading.{next_fits}
use Rattle.firing_log.proofs.entries.Entries.first.Goals as goal

-- src/entries.rt:54:13
pub overflow_add-stamp : goal.overflow_add-stamp
overflow_add-stamp c =
    let i = c.self.inside in
    omega (arith, next_fits i.before c.in_ok-made.made.now i.made.now i.numbers.now i.serials.now i.stamps.now c.in_ok-made.ensures.value c.if-made.false c.self.invariant)
