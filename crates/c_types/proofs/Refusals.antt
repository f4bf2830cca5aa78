-- A tree or a program is refused for its first fault, and keeps the rules where it has none.
use Rattle.std.proofs.Common.{◌≡◌, ◌↔◌, List, [], Option, Some, None, sym, ap, ◌∙◌}
use Rattle.c_ast.specs.declared.tree.Tree.{Tree}
use Rattle.c_ast.specs.declared.tree.Program.{Program}
use Rattle.c_ast.specs.Typing.{Typing}
use Rattle.c_ast.specs.Programs.{TypingProgram}
use Rattle.c_types.specs.declared.fault.Fault.{Fault}
use Rattle.c_types.specs.Places.{IsFirst, first_of}
use Rattle.c_types.specs.Faults.{tree_faults}
use Rattle.c_types.specs.ProgramFaults.{program_faults}
use Rattle.c_types.specs.Causes.{IsBroken, IsProgramBroken}
use Rattle.c_types.proofs.First.{none_is_empty, first_is}
use Rattle.c_types.proofs.Kept.{tree_kept, tree_clean, program_kept, program_clean}

-- of what keeps the rules exactly where it has no fault
kept : {K : Type 0} (fs : List Fault) (r : Option Fault) → (fs ≡ [] → K) → r ≡ first_of fs → r ≡ None → K
kept fs r keep is none = keep (none_is_empty fs (sym is ∙ none))

broken : {K : Type 0} (fs : List Fault) (r : Option Fault) (f : Fault) → (K → fs ≡ []) → r ≡ first_of fs → r ≡ Some f → IsFirst f fs × (K → ⊥)
broken fs r f clean is some =
    let h : first_of fs ≡ Some f = sym is ∙ some in
    (first_is fs f h, λ k. (let none : None ≡ Some f = sym (ap first_of (clean k)) ∙ h in absurd (cc)))

pub typed : (tree : Tree) (r : Option Fault) → r ≡ first_of (tree_faults tree) → r ≡ None → Typing tree
typed tree r = kept (tree_faults tree) r (tree_kept tree)

pub refused : (tree : Tree) (r : Option Fault) (f : Fault) → r ≡ first_of (tree_faults tree) → r ≡ Some f → IsBroken tree f
refused tree r f is some = let b = broken (tree_faults tree) r f (tree_clean tree) is some in record { first = b.0; untyped = b.1 }

pub no_faults : (tree : Tree) → Typing tree ↔ (tree_faults tree ≡ [])
no_faults tree = (tree_clean tree, tree_kept tree)

pub program_typed : (p : Program) (r : Option Fault) → r ≡ first_of (program_faults p) → r ≡ None → TypingProgram p
program_typed p r = kept (program_faults p) r (program_kept p)

pub program_refused : (p : Program) (r : Option Fault) (f : Fault) → r ≡ first_of (program_faults p) → r ≡ Some f → IsProgramBroken p f
program_refused p r f is some = let b = broken (program_faults p) r f (program_clean p) is some in record { first = b.0; untyped = b.1 }

pub no_program_faults : (p : Program) → TypingProgram p ↔ (program_faults p ≡ [])
no_program_faults p = (program_clean p, program_kept p)
