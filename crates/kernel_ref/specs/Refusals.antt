-- The number and the word by which refusals of a kernel's run are printed: those of the reader of inputs, and of a run by C.
use Rattle.std.specs.Prelude.{ℕ, List, codes, Option, Some, None}
use Rattle.inputs_text.specs.Refusals.{refusal_number as input_number, refusal_word as input_word}
use Rattle.kernel_ref.specs.declared.refusal.InterpretRefusal.{InterpretRefusal}
use Rattle.kernel_ref.specs.declared.refusal.InterpretRefusal.TheVariants as refusal

-- want of memory has no number
abbrev pub interpret_number : InterpretRefusal → Option ℕ
interpret_number (refusal.Inputs r) = input_number r
interpret_number (refusal.Undefined place) = Some 80
interpret_number (refusal.OutOfTurns n) = Some 81
interpret_number refusal.Memory = None

abbrev pub interpret_word : InterpretRefusal → List ℕ
interpret_word (refusal.Inputs r) = input_word r
interpret_word (refusal.Undefined place) = codes "Undefined"
interpret_word (refusal.OutOfTurns n) = codes "Turns"
interpret_word refusal.Memory = codes "Memory"
