-- Why a part of a run has no text. Only private contracts cite these.
use Rattle.net_types.specs.declared.firing.Inputs.{Inputs}
use Rattle.c_ast.specs.declared.typed.Typed.{Typed}
use Rattle.kernel_ref.specs.declared.options.InterpretOptions.{InterpretOptions}
use Rattle.kernel_ref.specs.declared.refusal.InterpretRefusal.{InterpretRefusal}
use Rattle.kernel_ref.specs.declared.refusal.InterpretRefusal.TheVariants as refusal
use Rattle.kernel_ref.specs.Texts.{Bytes, On, IsNoInputs}
use Rattle.kernel_ref.specs.Results.{IsUndefinedAt, IsOutOfTurns}

-- a refusal of the inputs, or want of memory
abbrev pub IsInputsFault : Typed → Bytes → InterpretRefusal → Type 0
IsInputsFault k bytes (refusal.Inputs r) = IsNoInputs k bytes r
IsInputsFault k bytes (refusal.Undefined at) = ⊥
IsInputsFault k bytes (refusal.OutOfTurns n) = ⊥
IsInputsFault k bytes refusal.Memory = Unit {0}

-- how a run on inputs ends without results, or want of memory
abbrev pub IsEndFault : Typed → Inputs → InterpretOptions → InterpretRefusal → Type 0
IsEndFault k inputs o (refusal.Inputs r) = ⊥
IsEndFault k inputs o (refusal.Undefined at) = IsUndefinedAt o at k inputs
IsEndFault k inputs o (refusal.OutOfTurns n) = IsOutOfTurns o n k inputs
IsEndFault k inputs o refusal.Memory = Unit {0}

-- why a kernel has no text on the inputs that bytes give, or want of memory
abbrev pub IsRunFault : Typed → Bytes → InterpretOptions → InterpretRefusal → Type 0
IsRunFault k bytes o (refusal.Inputs r) = IsNoInputs k bytes r
IsRunFault k bytes o (refusal.Undefined at) = On k bytes (IsUndefinedAt o at k)
IsRunFault k bytes o (refusal.OutOfTurns n) = On k bytes (IsOutOfTurns o n k)
IsRunFault k bytes o refusal.Memory = Unit {0}
