use Rattle.std.proofs.Common.{◌∙◌, ap}
use Rattle.std.proofs.lemmas.List.{map-set}
use Rattle.std.proofs.Common.{ℕ, set}
use Rattle.cycle_engine.specs.private.Stacks.{Stacked}
use Rattle.cycle_engine.specs.private.Lists.{lists_of}
use Rattle.cycle_engine.proofs.cells.clear_at.Goals as goal

pub returns : goal.returns
returns c = map-set (λ (v : Stacked ℕ). v.items) c.args.lists.now.items c.args.at c.clear_to.new.self ∙ ap (set (lists_of c.args.lists.now.items) c.args.at) c.clear_to.ensures
