use Rattle.c_types.proofs.Lookups.{left_scopes}
use Rattle.c_types.proofs.scopes.Scopes.leave.Goals as goal

pub returns-in-Some : goal.returns-in-Some
returns-in-Some g c = left_scopes c.self.inside.outer.items c.pop.new.self.items c.self.inside.inner c.in-Some.outer c.args.self.now c.in-Some.ensures.items c.self.view_is
