use Rattle.std.proofs.Common.{refl}
use Rattle.ref_interp.proofs.Moves.{enters_declared, enters_none}
use Rattle.ref_interp.proofs.statements.enter_one.Goals as goal

pub returns-in-Declare : goal.returns-in-Declare
returns-in-Declare c k can = enters_declared k c.args.stmt.now c.in-Declare.var c.in-Declare.init c.args.m.now _ c.in-Declare.is can c.put_var.ensures refl refl

pub returns-in_default : goal.returns-in_default
returns-in_default c k can = enters_none k c.args.stmt.now c.args.m.now c.in_default.not-Declare can
