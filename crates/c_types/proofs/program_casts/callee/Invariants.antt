use Rattle.std.proofs.Common.{◌≡◌, drop}
use Rattle.c_ast.specs.ProgramCasts.{helper_from, helper_of}
use Rattle.c_types.specs.ProgramContexts.{callees}
use Rattle.c_types.proofs.program_casts.callee.Given as goal

abbrev pub invariant-loop-place : goal.invariant-loop-place
invariant-loop-place l = helper_of (callees l.helpers) l.name ≡ helper_from l.place (callees (drop l.place l.helpers)) l.name
