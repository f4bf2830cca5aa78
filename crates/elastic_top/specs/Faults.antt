-- What a call that printed nothing says: its status and its line on the error output.
use Rattle.std.specs.Prelude.{◌≡◌, ◌⊎◌, ℕ, List, [], ◌∷◌, Option, Some, None, codes, decimal}
use Rattle.std.specs.List.{concat}
use Rattle.std.specs.Option.{option_copied}
use Rattle.std.specs.Io.KnownBytes.{append_known}
use Rattle.el_io.specs.Outside.{Rose, IsCut}
use Rattle.el_base.specs.Labels.{printed}
use Rattle.el_base.specs.declared.span.Span.{Span}
use Rattle.kernel_front.specs.Refusals.{refusal_number as kernel_number, refusal_word as kernel_word, refusal_span as kernel_span}
use Rattle.net_text.specs.Refusals.{refusal_line as text_line}
use Rattle.net_check.specs.declared.refusal.At.{At}
use Rattle.net_check.specs.declared.refusal.At.TheVariants as at
use Rattle.net_check.specs.Refusals.{refusal_at as rule_at}
use Rattle.net_front.specs.declared.refusal.NetlistRefusal.{NetlistRefusal}
use Rattle.net_front.specs.declared.refusal.NetlistRefusal.TheVariants as netlist
use Rattle.net_front.specs.Refusals.{netlist_number, netlist_word}
use Rattle.inputs_text.specs.declared.refusal.InputRefusal.{InputRefusal}
use Rattle.inputs_text.specs.Refusals.{refusal_line as input_line, refusal_name as input_name}
use Rattle.net_replay.specs.Readings.{refusal_line as schedule_line}
use Rattle.net_runs.specs.declared.refusal.RunRefusal.{RunRefusal}
use Rattle.net_runs.specs.declared.refusal.RunRefusal.TheVariants as run
use Rattle.net_runs.specs.Refusals.{run_refusal_number, run_refusal_word}
use Rattle.snapshot.specs.Refusals.{refusal_line as snapshot_line}
use Rattle.net_runs.specs.declared.resume_refusal.ResumeRefusal.{ResumeRefusal}
use Rattle.net_runs.specs.declared.resume_refusal.ResumeRefusal.TheVariants as resume
use Rattle.net_runs.specs.ResumeRefusals.{resume_refusal_number, resume_refusal_word}
use Rattle.kernel_ref.specs.declared.refusal.InterpretRefusal.{InterpretRefusal}
use Rattle.kernel_ref.specs.declared.refusal.InterpretRefusal.TheVariants as interpret
use Rattle.kernel_ref.specs.Refusals.{interpret_number, interpret_word}
use Rattle.kernel_runs.specs.declared.refusal.GoRefusal.{GoRefusal}
use Rattle.kernel_runs.specs.declared.refusal.GoRefusal.TheVariants as go
use Rattle.kernel_runs.specs.Refusals.{go_number, go_word}
use Rattle.elastic_top.specs.declared.status.TheConstants.{INPUTS_REFUSED, KERNEL_REFUSED, SNAPSHOT_REFUSED, WANT_OF_MEMORY}
use Rattle.elastic_top.specs.declared.fault.KernelFiles.{KernelFiles}
use Rattle.elastic_top.specs.declared.fault.RunFiles.{RunFiles}
use Rattle.elastic_top.specs.declared.fault.Fault.{Fault}
use Rattle.elastic_top.specs.declared.fault.Fault.TheVariants.{Usage, Read, Write, Memory, TooLong, Refused}
use Rattle.elastic_top.specs.declared.fault.Refusal.{Refusal}
use Rattle.elastic_top.specs.declared.fault.Refusal.TheVariants.{Kernel, Net, Run, Go, Interpret, Resume, Bench}

-- ---- refusals: the number, the word and the status of each kind of work

-- the number; want of memory, whichever work wanted it, has none
abbrev pub label_number : Refusal → Option ℕ
label_number (Kernel file r) = kernel_number r
label_number (Net file r) = netlist_number r
label_number (Run files r) = run_refusal_number r
label_number (Go files r) = go_number r
label_number (Interpret files r) = interpret_number r
label_number (Resume file r) = resume_refusal_number r
label_number (Bench want) = None

abbrev pub label_word : Refusal → List ℕ
label_word (Kernel file r) = kernel_word r
label_word (Net file r) = netlist_word r
label_word (Run files r) = run_refusal_word r
label_word (Go files r) = go_word r
label_word (Interpret files r) = interpret_word r
label_word (Resume file r) = resume_refusal_word r
label_word (Bench want) = codes "Memory"

-- what is printed: the number, a space (32) and the word
abbrev pub refusal_label : Refusal → List ℕ
refusal_label r = printed (label_number r) (label_word r)

abbrev pub run_code : RunRefusal → ℕ
run_code (run.Inputs r) = INPUTS_REFUSED
run_code (run.Schedule r) = 7
run_code (run.NotEnabled i) = 7
run_code (run.Limit n) = 8
run_code run.Stuck = 9
run_code (run.Stray array name) = 10
run_code run.Memory = WANT_OF_MEMORY

abbrev pub go_code : GoRefusal → ℕ
go_code (go.Kernel r) = KERNEL_REFUSED
go_code (go.Run r) = run_code r
go_code go.Memory = WANT_OF_MEMORY

abbrev pub interpret_code : InterpretRefusal → ℕ
interpret_code (interpret.Inputs r) = INPUTS_REFUSED
interpret_code (interpret.Undefined place) = 13
interpret_code (interpret.OutOfTurns n) = 14
interpret_code interpret.Memory = WANT_OF_MEMORY

abbrev pub resume_code : ResumeRefusal → ℕ
resume_code (resume.Snapshot r) = SNAPSHOT_REFUSED
resume_code (resume.Limit n) = 8
resume_code resume.Stuck = 9
resume_code (resume.Stray array name) = 10
resume_code resume.Memory = WANT_OF_MEMORY

-- the status of a refusal
abbrev pub refusal_code : Refusal → ℕ
refusal_code (Kernel file r) = KERNEL_REFUSED
refusal_code (Net file r) = 5
refusal_code (Run files r) = run_code r
refusal_code (Go files r) = go_code r
refusal_code (Interpret files r) = interpret_code r
refusal_code (Resume file r) = resume_code r
refusal_code (Bench want) = WANT_OF_MEMORY

-- ---- forms of lines

-- the name of the program, with which a line begins that names no file
abbrev pub program : List ℕ
program = codes "elastic"

-- what a line begins with
abbrev pub front : Option (List ℕ) → List ℕ
front None = program
front (Some file) = file

-- a line that names a file, the number and the word of a refusal, and where there is one the number of a line, or another number
abbrev pub line_parts : List ℕ → List ℕ → Option ℕ → List (List ℕ)
line_parts file label None = file ∷ codes ": " ∷ label ∷ codes "\n" ∷ []
line_parts file label (Some n) = file ∷ codes ": " ∷ label ∷ codes " " ∷ decimal n ∷ codes "\n" ∷ []

-- and a line that names a name
abbrev pub name_parts : List ℕ → List ℕ → List ℕ → List (List ℕ)
name_parts file label name = file ∷ codes ": " ∷ label ∷ codes " " ∷ name ∷ codes "\n" ∷ []

-- a name, where there is one
abbrev pub named_parts : List ℕ → List ℕ → Option ℕ → Option (List ℕ) → List (List ℕ)
named_parts file label line None = line_parts file label line
named_parts file label line (Some name) = name_parts file label name

-- and a line that names the line and the column of a place, where there is one
abbrev pub span_parts : List ℕ → List ℕ → Option Span → List (List ℕ)
span_parts file label None = line_parts file label None
span_parts file label (Some span) = file ∷ codes ":" ∷ decimal span.line ∷ codes ":" ∷ decimal span.column ∷ codes ": " ∷ label ∷ codes "\n" ∷ []

-- and a line that names a unit, a channel or the net
abbrev pub part_parts : List ℕ → List ℕ → List ℕ → ℕ → List (List ℕ)
part_parts file label part n = file ∷ codes ": " ∷ label ∷ part ∷ decimal n ∷ codes "\n" ∷ []

abbrev pub place_parts : List ℕ → List ℕ → Option At → List (List ℕ)
place_parts file label None = line_parts file label None
place_parts file label (Some (at.Unit u)) = part_parts file label (codes " unit ") u
place_parts file label (Some (at.Chan c)) = part_parts file label (codes " chan ") c
place_parts file label (Some at.Net) = file ∷ codes ": " ∷ label ∷ codes " net\n" ∷ []

-- ---- the line of each kind of work, with its number and its word, in parts, with the line feed; a file is named by the word that named it

abbrev pub input_parts : List ℕ → List ℕ → InputRefusal → List (List ℕ)
input_parts file label r = named_parts file label (input_line r) (input_name r)

abbrev pub net_parts : List ℕ → List ℕ → NetlistRefusal → List (List ℕ)
net_parts file label (netlist.Text r) = line_parts file label (text_line r)
net_parts file label (netlist.Rule r) = place_parts file label (rule_at r)
net_parts file label netlist.Memory = line_parts file label None

abbrev pub run_parts : RunFiles → List ℕ → RunRefusal → List (List ℕ)
run_parts files label (run.Inputs r) = input_parts files.inputs.now label r
run_parts files label (run.Schedule r) = line_parts (front (option_copied files.schedule)) label (schedule_line r)
run_parts files label (run.NotEnabled i) = line_parts (front (option_copied files.schedule)) label (Some i)
run_parts files label (run.Limit n) = line_parts program label (Some n)
run_parts files label run.Stuck = line_parts program label None
run_parts files label (run.Stray array name) = name_parts program label name
run_parts files label run.Memory = line_parts program label None

abbrev pub go_parts : KernelFiles → List ℕ → GoRefusal → List (List ℕ)
go_parts files label (go.Kernel r) = span_parts files.kernel.now label (kernel_span r)
go_parts files label (go.Run r) = run_parts (record { inputs = files.inputs; schedule = None }) label r
go_parts files label go.Memory = line_parts program label None

abbrev pub interpret_parts : KernelFiles → List ℕ → InterpretRefusal → List (List ℕ)
interpret_parts files label (interpret.Inputs r) = input_parts files.inputs.now label r
interpret_parts files label (interpret.Undefined place) = span_parts files.kernel.now label (Some place)
interpret_parts files label (interpret.OutOfTurns n) = line_parts program label (Some n)
interpret_parts files label interpret.Memory = line_parts program label None

abbrev pub resume_parts : List ℕ → List ℕ → ResumeRefusal → List (List ℕ)
resume_parts file label (resume.Snapshot r) = line_parts file label (snapshot_line r)
resume_parts file label (resume.Limit n) = line_parts program label (Some n)
resume_parts file label resume.Stuck = line_parts program label None
resume_parts file label (resume.Stray array name) = name_parts program label name
resume_parts file label resume.Memory = line_parts program label None

abbrev pub labelled_parts : List ℕ → Refusal → List (List ℕ)
labelled_parts label (Kernel file r) = span_parts file.now label (kernel_span r)
labelled_parts label (Net file r) = net_parts file.now label r
labelled_parts label (Run files r) = run_parts files label r
labelled_parts label (Go files r) = go_parts files label r
labelled_parts label (Interpret files r) = interpret_parts files label r
labelled_parts label (Resume file r) = resume_parts file.now label r
labelled_parts label (Bench want) = line_parts program label None

abbrev pub refusal_parts : Refusal → List (List ℕ)
refusal_parts refusal = labelled_parts (refusal_label refusal) refusal

-- ---- faults

-- the status of a fault
abbrev pub fault_code : Fault → ℕ
fault_code Usage = 1
fault_code (Read file) = 2
fault_code Write = 3
fault_code Memory = WANT_OF_MEMORY
fault_code (TooLong file) = 12
fault_code (Refused refusal) = refusal_code refusal

-- the lines of the outside
abbrev pub unread_parts : List ℕ → List (List ℕ)
unread_parts name = codes "elastic: cannot read " ∷ name ∷ codes "\n" ∷ []

abbrev pub long_parts : List ℕ → List (List ℕ)
long_parts name = codes "elastic: " ∷ name ∷ codes " is too long\n" ∷ []

abbrev pub usage_line : List ℕ
usage_line = codes "elastic: the words are no command\n"

abbrev pub write_line : List ℕ
write_line = codes "elastic: cannot write\n"

abbrev pub memory_line : List ℕ
memory_line = codes "elastic: want of memory\n"

-- the line of a fault, in parts
abbrev pub fault_parts : Fault → List (List ℕ)
fault_parts Usage = usage_line ∷ []
fault_parts (Read file) = unread_parts file.now
fault_parts Write = write_line ∷ []
fault_parts Memory = memory_line ∷ []
fault_parts (TooLong file) = long_parts file.now
fault_parts (Refused refusal) = refusal_parts refusal

abbrev pub fault_line : Fault → List ℕ
fault_line fault = concat (fault_parts fault)

-- a refusal is a fault of its own where it has a number, and else it is want of memory
abbrev pub numbered_fault : Option ℕ → Refusal → Fault
numbered_fault None refusal = Memory
numbered_fault (Some number) refusal = Refused refusal

abbrev pub call_fault : Refusal → Fault
call_fault refusal = numbered_fault (label_number refusal) refusal

-- a sink has grown by exactly the line, or by a proper prefix of it, which comes only where its count of faults rose
abbrev pub IsTold : Option (List ℕ) → Option (List ℕ) → ℕ → ℕ → List ℕ → Type 0
IsTold before now faults faults' line = (now ≡ append_known before line) ⊎ (IsCut before now line × Rose faults faults')
