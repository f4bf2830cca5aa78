-- That a tree is checked as the program without helpers whose kernel it is.
use Rattle.std.specs.Prelude.{◌↔◌, []}
use Rattle.c_ast.specs.declared.tree.Tree.{Tree}
use Rattle.c_ast.specs.declared.tree.Program.{Program}
use Rattle.c_ast.specs.Typing.{Typing}
use Rattle.c_ast.specs.Programs.{TypingProgram}
use Rattle.c_types.specs.declared.fault.TypeRefusal.{TypeRefusal}
use Rattle.c_types.specs.Causes.{IsCause, IsProgramCause}

-- the program without helpers whose kernel is a tree
abbrev pub alone : Tree → Program
alone tree = record { helpers = []; kernel = tree }

-- it keeps the rules exactly where the tree does
abbrev pub AloneKeepsRules : Type 0
AloneKeepsRules = (tree : Tree) → TypingProgram (alone tree) ↔ Typing tree

-- it is refused for exactly what the tree is refused for
abbrev pub AloneIsRefused : Type 0
AloneIsRefused = (tree : Tree) (r : TypeRefusal) → IsProgramCause (alone tree) r ↔ IsCause tree r
