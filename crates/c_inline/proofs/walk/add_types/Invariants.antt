use Rattle.std.proofs.Common.{◌≡◌, ◌++◌, take}
use Rattle.c_inline.proofs.walk.add_types.Given as goal

abbrev pub invariant-loop-ty : goal.invariant-loop-ty
invariant-loop-ty l = l.vars ≡ l.fn.vars ++ take l.ty-index l.types
