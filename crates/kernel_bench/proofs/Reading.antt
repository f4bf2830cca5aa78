-- The bytes of a bench's kernel are its typed tree, and nothing of it is refused.
use Rattle.std.proofs.Common.{◌≡◌, ◌≢◌, inl, inr, ◌≤◌, ◌+◌, [], sym, ◌∙◌, subst, lit≤}
use Rattle.std.specs.Prelude.{Result, Ok, Err}
use Rattle.el_base.specs.Limits.{max_nodes}
use Rattle.c_ast.specs.declared.tree.Tree.{Tree}
use Rattle.c_ast.specs.declared.typed.Typed.{Typed}
use Rattle.c_ast.specs.Casts.{Casts}
use Rattle.c_ast.specs.Nodes.{tree_nodes, typed_nodes}
use Rattle.c_ast.specs.Programs.{helpers_nodes}
use Rattle.c_calls.proofs.CastExists.{program_casts}
use Rattle.c_calls.proofs.CastOnce.{cast_program}
use Rattle.kernel_front.specs.declared.reading.Kernel.{Kernel}
use Rattle.kernel_front.specs.declared.refusal.KernelRefusal.{KernelRefusal}
use Rattle.kernel_front.specs.declared.refusal.KernelRefusal.TheVariants as refusal
use Rattle.kernel_front.specs.Answers.{SpellsWithin, IsKernel}
use Rattle.kernel_front.specs.Laws.{TextsThatTypeAreKernels}
use Rattle.kernel_compile.specs.declared.compiling.Compiled.{Compiled}
use Rattle.kernel_compile.specs.Compiling.{AnswersAsRead}
use Rattle.kernel_bench.specs.Histogram.{bench_kernel, hist_tree, hist_program, hist}
use Rattle.kernel_bench.specs.Benches.{IsWorkedKernel}
use Rattle.kernel_bench.proofs.Derived.{program_derived, program_shallow}
use Rattle.kernel_bench.proofs.Lexing.{tokens, read}
use Rattle.kernel_bench.proofs.Typed.{program_typing, casts, inlined_is, nodes}

pub kernel_is : ((tree : Tree) (k : Typed) → Casts tree k → typed_nodes k ≡ tree_nodes tree) → TextsThatTypeAreKernels → IsWorkedKernel
kernel_is same law =
    let tree_is : tree_nodes hist_tree ≡ 23 = sym (same hist_tree hist casts) ∙ nodes in
    let within : SpellsWithin bench_kernel hist_program
    = record { tokens = tokens; read = read; derived = program_derived; shallow = program_shallow; small = subst (λ n. helpers_nodes [] + n ≤ max_nodes) (sym tree_is) (lit≤ tt) } in
    subst (λ n. IsKernel bench_kernel (record { typed = hist; nodes = n })) nodes
    (law bench_kernel (cast_program hist_program) hist (record { program = hist_program; within = within; typing = program_typing; casts = program_casts hist_program program_typing }) inlined_is
    (subst (λ n. n ≤ max_nodes) (sym nodes) (lit≤ tt)))

-- ---- compiling it

abbrev read_answer : Result Kernel KernelRefusal
read_answer = Ok (record { typed = hist; nodes = 23 })

abbrev IsRead : Result Kernel KernelRefusal → Type 0
IsRead (Ok kernel) = Unit {0}
IsRead (Err r) = ⊥

read_is_told : read_answer ≢ Err refusal.Memory
read_is_told e = subst IsRead e tt

abbrev IsRefused : Result Compiled KernelRefusal → Type 0
IsRefused (Ok c) = ⊥
IsRefused (Err r) = Unit {0}

-- what is compiled has the typed tree
pub typed_is : IsWorkedKernel → (c : Compiled) → AnswersAsRead bench_kernel (Ok c) → c.typed ≡ hist
typed_is is c as_read = elim (as_read read_answer read_is_told is) [
  | inl goes ↦ goes.0
  | inr e ↦ absurd (subst IsRefused (sym e) tt)
]

-- a refusal is want of memory
abbrev pub IsWant : KernelRefusal → Type 0
IsWant (refusal.Lex e) = ⊥
IsWant (refusal.Parse e) = ⊥
IsWant (refusal.Types e) = ⊥
IsWant (refusal.Inline e) = ⊥
IsWant refusal.Memory = Unit {0}

pub only_memory : IsWorkedKernel → (r : KernelRefusal) → AnswersAsRead bench_kernel (Err r) → IsWant r
only_memory is r as_read = elim (as_read read_answer read_is_told is) [
  | inl goes ↦ absurd goes
  | inr e ↦ (let same : r ≡ refusal.Memory = cc in subst IsWant (sym same) tt)
]
