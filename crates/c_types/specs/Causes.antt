-- When a tree or a program is refused: its first fault, by the place and then by the number of the rule. Want of memory alone is free.
use Rattle.c_ast.specs.declared.tree.Tree.{Tree}
use Rattle.c_ast.specs.declared.tree.Program.{Program}
use Rattle.c_ast.specs.Typing.{Typing}
use Rattle.c_ast.specs.Programs.{TypingProgram}
use Rattle.c_types.specs.declared.fault.Fault.{Fault}
use Rattle.c_types.specs.declared.fault.TypeRefusal.{TypeRefusal}
use Rattle.c_types.specs.declared.fault.TypeRefusal.TheVariants as refusal
use Rattle.c_types.specs.Places.{IsFirst}
use Rattle.c_types.specs.Faults.{tree_faults}
use Rattle.c_types.specs.ProgramFaults.{program_faults}

-- a tree has a fault, and none that goes before
pub record IsBroken (tree : Tree) (f : Fault) : Type 0 where
  pub first : IsFirst f (tree_faults tree)
  pub untyped : Typing tree → ⊥

abbrev pub IsCause : Tree → TypeRefusal → Type 0
IsCause tree (refusal.Broken f) = IsBroken tree f
IsCause tree refusal.Memory = Unit {0}

-- a program has a fault, and none that goes before
pub record IsProgramBroken (p : Program) (f : Fault) : Type 0 where
  pub first : IsFirst f (program_faults p)
  pub untyped : TypingProgram p → ⊥

abbrev pub IsProgramCause : Program → TypeRefusal → Type 0
IsProgramCause p (refusal.Broken f) = IsProgramBroken p f
IsProgramCause p refusal.Memory = Unit {0}
