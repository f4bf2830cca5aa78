-- What a run of the plain interpreter answers for a kernel and the bytes of its inputs.
use Rattle.std.specs.Prelude.{◌≡◌, ◌≢◌, ◌⊎◌, Result, Ok, Err}
use Rattle.c_ast.specs.declared.typed.Typed.{Typed}
use Rattle.kernel_ref.specs.declared.options.InterpretOptions.{InterpretOptions}
use Rattle.kernel_ref.specs.declared.refusal.InterpretRefusal.{InterpretRefusal}
use Rattle.kernel_ref.specs.declared.refusal.InterpretRefusal.TheVariants as refusal
use Rattle.kernel_ref.specs.Texts.{Bytes, On, IsNoInputs}
use Rattle.kernel_ref.specs.Results.{EndsWith, IsUndefinedAt, IsOutOfTurns}

-- want of memory says nothing
abbrev pub Interprets : Typed → Bytes → InterpretOptions → Result Bytes InterpretRefusal → Type 0
Interprets k bytes o (Ok text) = On k bytes (EndsWith o text k)
Interprets k bytes o (Err (refusal.Inputs r)) = IsNoInputs k bytes r
Interprets k bytes o (Err (refusal.Undefined at)) = On k bytes (IsUndefinedAt o at k)
Interprets k bytes o (Err (refusal.OutOfTurns n)) = On k bytes (IsOutOfTurns o n k)
Interprets k bytes o (Err refusal.Memory) = Unit {0}

-- no other answer but want of memory says what holds of the kernel and the bytes
abbrev pub IsOnly : Typed → Bytes → InterpretOptions → Result Bytes InterpretRefusal → Type 0
IsOnly k bytes o answer =
    (other : Result Bytes InterpretRefusal) → other ≢ Err refusal.Memory → Interprets k bytes o other → (answer ≡ other) ⊎ (answer ≡ Err refusal.Memory)
