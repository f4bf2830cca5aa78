-- From refusals of the parts of a run to what the run answers.
use Rattle.std.proofs.Common.{◌≡◌, ◌≢◌, List, Err}
use Rattle.net_types.specs.declared.firing.Inputs.{Inputs}
use Rattle.c_ast.specs.declared.typed.Typed.{Typed}
use Rattle.ref_interp.specs.Outcomes.{InputsFit}
use Rattle.kernel_ref.specs.declared.options.InterpretOptions.{InterpretOptions}
use Rattle.kernel_ref.specs.declared.refusal.InterpretRefusal.{InterpretRefusal}
use Rattle.kernel_ref.specs.declared.refusal.InterpretRefusal.TheVariants as refusal
use Rattle.kernel_ref.specs.Texts.{Bytes, Gives}
use Rattle.kernel_ref.specs.Answers.{Interprets}
use Rattle.kernel_ref.specs.Faults.{IsInputsFault, IsEndFault, IsRunFault}

pub inputs_refused : (k : Typed) (bytes : Bytes) (o : InterpretOptions) (r : InterpretRefusal) → IsInputsFault k bytes r → IsRunFault k bytes o r
inputs_refused k bytes o (refusal.Inputs r) is = is
inputs_refused k bytes o (refusal.Undefined at) is = absurd is
inputs_refused k bytes o (refusal.OutOfTurns n) is = absurd is
inputs_refused k bytes o refusal.Memory is = tt

pub end_refused : (k : Typed) (bytes : Bytes) (o : InterpretOptions) (i : Inputs) → Gives k bytes i → InputsFit k i → (r : InterpretRefusal) → IsEndFault k i o r → IsRunFault k bytes o r
end_refused k bytes o i given fit (refusal.Inputs r) is = absurd is
end_refused k bytes o i given fit (refusal.Undefined at) is = record { inputs = i; given = given; fit = fit; holds = is }
end_refused k bytes o i given fit (refusal.OutOfTurns n) is = record { inputs = i; given = given; fit = fit; holds = is }
end_refused k bytes o i given fit refusal.Memory is = tt

-- and from there to the answer
pub run_refused : (k : Typed) (bytes : Bytes) (o : InterpretOptions) (r : InterpretRefusal) → IsRunFault k bytes o r → Interprets k bytes o (Err r)
run_refused k bytes o (refusal.Inputs r) is = is
run_refused k bytes o (refusal.Undefined at) is = is
run_refused k bytes o (refusal.OutOfTurns n) is = is
run_refused k bytes o refusal.Memory is = tt
