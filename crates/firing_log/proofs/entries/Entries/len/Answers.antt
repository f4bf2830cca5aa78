use Rattle.std.proofs.Common.{◌∙◌, ap, length, sym}
use Rattle.firing_log.proofs.Appended.{entries_long}
use Rattle.firing_log.proofs.entries.Entries.len.Goals as goal

pub returns : goal.returns
returns c = sym (entries_long c.self.inside.before c.self.inside.made.now c.self.inside.numbers.now c.self.inside.serials.now c.self.inside.stamps.now) ∙ ap length c.self.view_is
