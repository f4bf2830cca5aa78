use Rattle.std.proofs.Common.{◌∙◌, length, ap, refl, arith}
use Rattle.net_worker.proofs.Asking.{asked_made, asked_trans}
use Rattle.net_worker.proofs.Firing.{goes_then_asked}
use Rattle.net_worker.proofs.worker.Worker.try_one.Goals as goal

pub returns : goal.returns
returns c =
    let t = c.args.tables.now in
    let a = c.args.self.now in
    let m = c.try_act.new.self in
    let b = c.note.new.self in
    let h = c.if-try_act.ensures.held refl in
    record {
      made = asked_made t m b c.try_act.ensures.made c.note.ensures.asked;
      later = goes_then_asked t a m b c.try_act.ensures.made c.try_act.ensures.later c.note.ensures.asked;
      added = omega (arith, ap (λ l. length l.items) (c.note.ensures.asked.log ∙ h.asked.log));
      none = λ _. asked_trans a m b h.asked c.note.ensures.asked;
    }
