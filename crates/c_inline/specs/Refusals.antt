-- When a program is refused, and with what number.
use Rattle.std.specs.Prelude.{◌≡◌, ◌-◌, ◌^◌, ◌<◌, ℕ, min}
use Rattle.el_base.specs.declared.span.Span.{Span}
use Rattle.el_base.specs.Limits.{max_nodes}
use Rattle.c_ast.specs.Nodes.{typed_nodes}
use Rattle.c_ast.specs.declared.program.TypedProgram.{TypedProgram}
use Rattle.c_calls.specs.Inlined.{inlined}
use Rattle.c_inline.specs.declared.refusal.InlineRefusal.{InlineRefusal}
use Rattle.c_inline.specs.declared.refusal.InlineRefusal.TheVariants as refusal

-- the kernel without calls has too many nodes; the place is the kernel's name
pub record IsGrownAt (P : TypedProgram) (at : Span) (n : ℕ) : Type 0 where
  pub large : max_nodes < typed_nodes (inlined P)
  pub name : at ≡ P.kernel.at
  pub count : n ≡ min (typed_nodes (inlined P)) (2 ^ 64 - 1)

-- want of memory asks nothing
abbrev pub IsGrown : TypedProgram → InlineRefusal → Type 0
IsGrown P (refusal.Grown at n) = IsGrownAt P at n
IsGrown P refusal.Memory = Unit {0}
