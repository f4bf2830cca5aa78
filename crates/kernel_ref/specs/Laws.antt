-- The laws of answers.
use Rattle.std.specs.Prelude.{◌≢◌, Result, Err}
use Rattle.c_ast.specs.declared.typed.Typed.{Typed}
use Rattle.kernel_ref.specs.declared.options.InterpretOptions.{InterpretOptions}
use Rattle.kernel_ref.specs.declared.refusal.InterpretRefusal.{InterpretRefusal}
use Rattle.kernel_ref.specs.declared.refusal.InterpretRefusal.TheVariants as refusal
use Rattle.kernel_ref.specs.Texts.{Bytes, On}
use Rattle.kernel_ref.specs.Results.{EndsWithin}
use Rattle.kernel_ref.specs.Answers.{Interprets, IsOnly}

-- what holds of a kernel and a text is said by one answer alone
abbrev pub InputsHaveOneAnswer : Type 0
InputsHaveOneAnswer = (k : Typed) (bytes : Bytes) (o : InterpretOptions) (answer : Result Bytes InterpretRefusal) → Interprets k bytes o answer → IsOnly k bytes o answer

-- where the bytes give inputs on which the kernel ends within the turns, nothing but want of memory is refused
abbrev pub EndingKernelsAreNotRefused : Type 0
EndingKernelsAreNotRefused = (k : Typed) (bytes : Bytes) (o : InterpretOptions) (r : InterpretRefusal) → On k bytes (EndsWithin o k) → r ≢ refusal.Memory → Interprets k bytes o (Err r) → ⊥
