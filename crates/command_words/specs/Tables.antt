-- The commands and options by name: their words, what their plain words are, and which options each has.
use Rattle.std.specs.Prelude.{ℕ, Bool, List, [], ◌∷◌, codes}
use Rattle.std.specs.List.{list_any}
use Rattle.std.specs.Str.{bytes_eq}
use Rattle.el_base.specs.Limits.{max_kernel_bytes, max_inputs_bytes, max_netlist_bytes, max_schedule_bytes, max_slots, max_workers, max_firings}
use Rattle.command_words.specs.declared.verb.Verb.{Verb}
use Rattle.command_words.specs.declared.verb.Verb.TheVariants.{Compile, Go, Run, Replay, Bench, Upgrade, Ref, Save, Resume}
use Rattle.command_words.specs.declared.verb.PlainKind.{PlainKind}
use Rattle.command_words.specs.declared.verb.PlainKind.TheVariants.{File, Seed}
use Rattle.command_words.specs.declared.choice.Choice.{Choice}
use Rattle.command_words.specs.declared.choice.Choice.TheVariants.{Delay, Slots, Depth, Workers, Limit, Turns, At, Count, Cycles, Log, Forward, Wrap}
use Rattle.command_words.specs.declared.choice.ValueKind.{ValueKind}
use Rattle.command_words.specs.declared.choice.ValueKind.TheVariants.{Flag, Number, Delays}
use Rattle.command_words.specs.declared.choice.TheConstants.{MAX_UNITS_IN_A_ROW}
use Rattle.command_words.specs.declared.choice.Class.{Class}
use Rattle.command_words.specs.declared.choice.Class.TheVariants as class

abbrev pub Text : Type 0
Text = List ℕ

-- ---- all commands

abbrev pub verb_word : Verb → Text
verb_word Compile = codes "compile"
verb_word Go = codes "go"
verb_word Run = codes "run"
verb_word Replay = codes "replay"
verb_word Bench = codes "bench"
verb_word Upgrade = codes "upgrade"
verb_word Ref = codes "ref"
verb_word Save = codes "save"
verb_word Resume = codes "resume"

abbrev pub kernel : PlainKind
kernel = File max_kernel_bytes

abbrev pub inputs : PlainKind
inputs = File max_inputs_bytes

abbrev pub netlist : PlainKind
netlist = File max_netlist_bytes

abbrev pub schedule : PlainKind
schedule = File max_schedule_bytes

-- a saved state is at most as long as a net text
abbrev pub snapshot : PlainKind
snapshot = File max_netlist_bytes

-- what the plain words of a command are, in order
abbrev pub plain_of : Verb → List PlainKind
plain_of Compile = kernel ∷ []
plain_of Go = kernel ∷ inputs ∷ []
plain_of Run = netlist ∷ inputs ∷ []
plain_of Replay = netlist ∷ inputs ∷ schedule ∷ []
plain_of Bench = Seed ∷ []
plain_of Upgrade = netlist ∷ []
plain_of Ref = kernel ∷ inputs ∷ []
plain_of Save = netlist ∷ inputs ∷ []
plain_of Resume = netlist ∷ snapshot ∷ []

-- the options of a command
abbrev pub choices_of : Verb → List Choice
choices_of Compile = Delay ∷ Slots ∷ Depth ∷ Forward ∷ Wrap ∷ []
choices_of Go = Delay ∷ Slots ∷ Depth ∷ Workers ∷ Limit ∷ Count ∷ Cycles ∷ Forward ∷ Wrap ∷ []
choices_of Run = Workers ∷ Limit ∷ Count ∷ Cycles ∷ Log ∷ []
choices_of Replay = []
choices_of Bench = []
choices_of Upgrade = []
choices_of Ref = Wrap ∷ Turns ∷ Count ∷ []
choices_of Save = At ∷ []
choices_of Resume = Limit ∷ Count ∷ []

-- ---- all options

abbrev pub choice_word : Choice → Text
choice_word Delay = codes "--delay"
choice_word Slots = codes "--slots"
choice_word Depth = codes "--depth"
choice_word Workers = codes "--workers"
choice_word Limit = codes "--limit"
choice_word Turns = codes "--turns"
choice_word At = codes "--at"
choice_word Count = codes "--count"
choice_word Cycles = codes "--cycles"
choice_word Log = codes "--log"
choice_word Forward = codes "--forward"
choice_word Wrap = codes "--wrap"

-- what the value of an option is: none, a number in a range, or a list of delays
abbrev pub kind_of : Choice → ValueKind
kind_of Delay = Delays
kind_of Slots = Number 1 max_slots
kind_of Depth = Number 1 MAX_UNITS_IN_A_ROW
kind_of Workers = Number 1 max_workers
kind_of Limit = Number 1 max_firings
kind_of Turns = Number 1 max_firings
kind_of At = Number 0 max_firings
kind_of Count = Flag
kind_of Cycles = Flag
kind_of Log = Flag
kind_of Forward = Flag
kind_of Wrap = Flag

abbrev pub class_word : Class → Text
class_word class.Logic = codes "logic"
class_word class.Mul = codes "mul"
class_word class.Div = codes "div"
class_word class.Read = codes "read"
class_word class.Lsq = codes "lsq"

abbrev pub least_delay : Class → ℕ
least_delay class.Logic = 0
least_delay class.Mul = 0
least_delay class.Div = 0
least_delay class.Read = 0
least_delay class.Lsq = 1

-- ---- membership

abbrev pub is_choice : Choice → Choice → Bool
is_choice o p = bytes_eq (choice_word o) (choice_word p)

abbrev pub is_in : Choice → List Choice → Bool
is_in o os = list_any (λ p. is_choice o p) os

-- an option of the command
abbrev pub is_own : Verb → Choice → Bool
is_own verb o = is_in o (choices_of verb)
