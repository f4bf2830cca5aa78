use Rattle.std.proofs.Common.{refl}
use Rattle.c_types.proofs.UsedNames.{declared_name, variable_name, array_name}
use Rattle.c_types.proofs.program_casts.object.Goals as goal

pub unreachable-requires : goal.unreachable-requires
unreachable-requires c = declared_name c.args.scopes.now c.args.name.now c.args.indices c.requires (cc (c.find.ensures, c.in-None.is))

pub returns-in-Some-Var : goal.returns-in-Some-Var
returns-in-Some-Var c =
    variable_name c.args.scopes.now c.args.name.now c.args.indices c.in-Some-Var.var c.in-Some-Var.ty _ c.requires (cc (c.find.ensures, c.in-Some-Var.is, c.in-Some-Var.field-0-is)) refl

pub returns-in-Some-Array : goal.returns-in-Some-Array
returns-in-Some-Array c =
    array_name c.args.scopes.now c.args.name.now c.args.indices c.in-Some-Array.array c.in-Some-Array.ty _ c.requires (cc (c.find.ensures, c.in-Some-Array.is, c.in-Some-Array.field-0-is)) refl
