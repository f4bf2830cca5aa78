-- The laws of texts that type: they are kernels, a kernel ends where its program does, and the kernel of a text without helpers is its tree's typed tree.
use Rattle.std.specs.Prelude.{◌≡◌, ◌↔◌, ◌≤◌, ℕ, ℤ, List, Option}
use Rattle.el_base.specs.Limits.{max_nodes}
use Rattle.c_ast.specs.declared.tree.Program.{Program}
use Rattle.c_ast.specs.declared.tree.Tree.{Tree}
use Rattle.c_ast.specs.declared.program.TypedProgram.{TypedProgram}
use Rattle.c_ast.specs.declared.typed.Typed.{Typed}
use Rattle.c_ast.specs.Casts.{Casts}
use Rattle.c_ast.specs.Nodes.{tree_nodes, typed_nodes}
use Rattle.c_ast.specs.ProgramCasts.{CastsProgram}
use Rattle.c_ast.specs.Typing.{Typing}
use Rattle.c_meaning.specs.declared.profile.Profile.{Profile}
use Rattle.c_meaning.specs.Stores.{Inputs}
use Rattle.c_meaning.specs.Statements.{Ends}
use Rattle.c_calls.specs.Inlined.{Inlined}
use Rattle.c_calls.specs.Meanings.{Calls}
use Rattle.c_types.specs.Laws.{alone}
use Rattle.kernel_front.specs.declared.reading.Kernel.{Kernel}
use Rattle.kernel_front.specs.Answers.{SpellsWithin, SpellsTyped, IsKernel}

-- whatever tree without calls a program becomes has no more nodes than a kernel may have
abbrev pub BecomesSmall : Program → Type 0
BecomesSmall program = (typed : TypedProgram) (k : Typed) → CastsProgram program typed → Inlined typed k → typed_nodes k ≤ max_nodes

-- bytes that spell a program within the limits which keeps the typing rules, and whose tree without calls has no more nodes than a kernel may have, are a kernel:
-- that tree, with its nodes
abbrev pub TextsThatTypeAreKernels : Type 0
TextsThatTypeAreKernels = (bytes : List ℕ) (program : TypedProgram) (k : Typed) → SpellsTyped bytes program → Inlined program k → typed_nodes k ≤ max_nodes
    → IsKernel bytes (record { typed = k; nodes = typed_nodes k })

-- where bytes spell a typed program, and a kernel is the tree without calls that it becomes, then for every profile and all inputs the program ends with these arrays
-- and this result exactly where the kernel does
abbrev pub KernelsEndAsPrograms : Type 0
KernelsEndAsPrograms = (bytes : List ℕ) (kernel : Kernel) (is : IsKernel bytes kernel)
    → (p : Profile) (i : Inputs) (out : List (List ℤ)) (r : Option ℤ) → Calls is.program p i out r ↔ ((t : ℕ) × Ends kernel.typed p i out r t)

-- ---- texts without helpers

-- where a tree keeps the rules, the typed program of the program without helpers whose kernel it is becomes exactly what the tree is cast to
abbrev pub AloneBecomesCast : Type 0
AloneBecomesCast = (tree : Tree) (typed : TypedProgram) (k : Typed) → Typing tree → CastsProgram (alone tree) typed → Inlined typed k ↔ Casts tree k

-- the tree keeps the rules, and the kernel is its typed tree with the number of the tree's nodes
pub record IsCast (tree : Tree) (kernel : Kernel) : Type 0 where
  pub typing : Typing tree
  pub casts : Casts tree kernel.typed
  pub nodes : kernel.nodes ≡ tree_nodes tree

-- the kernel of bytes that spell a kernel alone, within the limits, is exactly that
abbrev pub TextsWithoutHelpersAreCast : Type 0
TextsWithoutHelpersAreCast = (bytes : List ℕ) (tree : Tree) (kernel : Kernel) → SpellsWithin bytes (alone tree) → IsKernel bytes kernel ↔ IsCast tree kernel
