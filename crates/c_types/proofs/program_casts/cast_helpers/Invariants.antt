use Rattle.std.proofs.Common.{take}
use Rattle.std.specs.Prelude.{[]}
use Rattle.c_ast.specs.ProgramCasts.{CastsHelpers}
use Rattle.c_types.proofs.program_casts.cast_helpers.Given as goal

abbrev pub invariant-loop-place : goal.invariant-loop-place
invariant-loop-place l = CastsHelpers [] (take l.place l.helpers) l.items
