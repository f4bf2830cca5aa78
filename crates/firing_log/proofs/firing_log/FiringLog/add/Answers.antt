use Rattle.std.proofs.Common.{◌∙◌, ap, [], ◌∷◌, ◌++◌, refl}
use Rattle.el_base.specs.Logs.{Logged}
use Rattle.firing_log.specs.declared.entry.Entry.{Entry}
use Rattle.firing_log.specs.declared.family.Family.{Family}
use Rattle.firing_log.proofs.Adding.{IsAdded, items_more, kept_more}
use Rattle.firing_log.proofs.firing_log.FiringLog.add.Goals as goal

added : (c : goal.After-self-1) → IsAdded c.self.inside (record { made = c.add.new.self; numbers = c.add_numbers.new.numbers; serials = c.add_numbers.new.serials; stamps = c.add_if.new.log; last = c.args.stamp }) c.args.stamp c.args.firing c.jumps-jumps.result
added c = record {
  made = c.add.ensures.items ∙ ap (λ (f : Family). c.self.inside.made.items ++ (record { unit = c.args.firing.unit; family = f; jumps = c.jumps-jumps.result }) ∷ []) c.of-family.ensures;
  numbers = c.add_numbers.ensures.numbers;
  serials = c.add_numbers.ensures.serials;
  stamps = c.add_if.ensures.items;
  room = c.add.ensures.room;
  number_room = c.add_numbers.ensures.number_room;
  serial_room = c.add_numbers.ensures.serial_room;
  stamp_room = c.add_if.ensures.room;
  last = refl;
  next = c.jumps-jumps.ensures;
  fits = c.ranges.stamp.fits;
}

pub invariant_of-self : goal.invariant_of-self
invariant_of-self c = kept_more c.self.inside _ c.args.stamp c.args.firing c.jumps-jumps.result c.self.invariant (added c)

pub returns-clause-items : goal.returns-clause-items
returns-clause-items c = items_more c.self.inside _ c.args.stamp c.args.firing c.jumps-jumps.result c.self.invariant (added c) ∙ ap (λ (l : Logged Entry). l.items ++ (record { stamp = c.args.stamp; firing = c.args.firing }) ∷ []) c.self.view_is
