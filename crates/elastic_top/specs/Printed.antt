-- What `replay` and `run` print of the circuit that `compile` printed, and when `run`, `compile` and `go` have nothing to refuse.
use Rattle.std.specs.Prelude.{◌≡◌, ◌⊎◌, ◌≤◌, ◌*◌, ◌+◌, ◌++◌, ℕ, ℤ, List, codes, Option, Ok}
use Rattle.c_ast.specs.declared.tree.Program.{Program}
use Rattle.c_ast.specs.declared.program.TypedProgram.{TypedProgram}
use Rattle.c_ast.specs.declared.typed.Typed.{Typed}
use Rattle.c_ast.specs.Nodes.{typed_nodes}
use Rattle.c_ast.specs.Programs.{TypingProgram}
use Rattle.c_calls.specs.Inlined.{Inlined}
use Rattle.c_meaning.specs.declared.profile.Profile.{Profile}
use Rattle.c_meaning.specs.Statements.{Ends}
use Rattle.c_meaning.specs.Stores.{Inputs as Numbers}
use Rattle.net_types.specs.declared.net.Net.{Net}
use Rattle.net_types.specs.declared.firing.Firing.{Firing}
use Rattle.net_front.specs.Answers.{IsNetlist}
use Rattle.net_runs.specs.Results.{count_line, cycles_line, log_lines}
use Rattle.net_runs.specs.Laws.{IsSoundRun}
use Rattle.el_base.specs.Limits.{max_nodes}
use Rattle.kernel_front.specs.Answers.{IsKernel, SpellsTyped, SpellsWithin}
use Rattle.kernel_front.specs.Laws.{BecomesSmall}
use Rattle.kernel_ref.specs.Results.{turns_line}
use Rattle.kernel_runs.specs.Circuits.{Compiles}
use Rattle.kernel_runs.specs.Goes.{GivesNumbers, BeginsWithEnd}
use Rattle.kernel_runs.specs.Laws.{EndsInFirings}
use Rattle.kernel_runs.specs.Printed.{IsEndText, NamesNext}
use Rattle.command_words.specs.declared.verb.Verb.TheVariants.{Compile, Go, Run, Replay, Ref}
use Rattle.command_words.specs.declared.command.Chosen.{Chosen}
use Rattle.command_words.specs.Tables.{Text}
use Rattle.command_words.specs.Commands.{Asked}
use Rattle.elastic_top.specs.Answers.{Answers, AnswersBy, at}
use Rattle.elastic_top.specs.Laws.{RefusesNothing}
use Rattle.elastic_top.specs.Options.{circuit_of, limit_or, options_of}

-- ---- calls on the printed circuit of a kernel

-- a call of `compile` has the text for the kernel of its file, and it is the netlist of another call; the kernel ends on the numbers that the inputs of that call give
pub record IsOnPrinted (c : Asked) (compiled contents : List Text) (k : Typed) (p : Profile) (z : Numbers) (out : List (List ℤ)) (r : Option ℤ) (t : ℕ) : Type 0 where
  pub compiles : c.verb ≡ Compile
  pub nodes : ℕ
  pub kernel : IsKernel (at compiled 0) (record { typed = k; nodes = nodes })
  pub answer : Answers c compiled (Ok (at contents 0))
  pub given : GivesNumbers k (at contents 1) z
  pub ends : Ends k p z out r t

-- where that is a call of `replay`, a text that it has is that of the kernel's own arrays and result, or names a firing that may come next
abbrev pub ReplaysShowTheEnd : Type 0
ReplaysShowTheEnd = (c d : Asked) (compiled contents : List Text) (text : Text) (k : Typed) (p : Profile) (z : Numbers) (out : List (List ℤ)) (r : Option ℤ) (t : ℕ)
    → IsOnPrinted c compiled contents k p z out r t → d.verb ≡ Replay → Answers d contents (Ok text) → IsEndText k out r text ⊎ NamesNext text

-- where it is one of `run`, a text that it has begins with that of the kernel's own arrays and result
abbrev pub RunsShowTheEnd : Type 0
RunsShowTheEnd = (c d : Asked) (compiled contents : List Text) (text : Text) (k : Typed) (p : Profile) (z : Numbers) (out : List (List ℤ)) (r : Option ℤ) (t : ℕ)
    → IsOnPrinted c compiled contents k p z out r t → d.verb ≡ Run → Answers d contents (Ok text) → BeginsWithEnd k out r text

-- ---- calls that have nothing to refuse

-- a call of `run`, where its netlist is that of a net, and its inputs are such that no run of the net is longer than the limit, and some run rests exited and without strays
abbrev pub SoundRunsAreAnswered : Type 0
SoundRunsAreAnswered = (c : Asked) (contents : List Text) (net : Net) → c.verb ≡ Run → IsNetlist (at contents 0) net → IsSoundRun net (at contents 1) (options_of c.chosen)
    → RefusesNothing c contents

-- a call of `compile`, where its file spells a program within the limits that keeps the typing rules, and the tree without calls is within the limit on nodes too
abbrev pub TypedTextsAreCompiled : Type 0
TypedTextsAreCompiled = (c : Asked) (contents : List Text) (program : Program) → c.verb ≡ Compile → SpellsWithin (at contents 0) program → TypingProgram program → BecomesSmall program
    → RefusesNothing c contents

-- a call of `go`, where besides the kernel ends within the limit on the inputs, so counted
abbrev pub TypedTextsGo : Type 0
TypedTextsGo = (c : Asked) (contents : List Text) (typed : TypedProgram) (k : Typed) → c.verb ≡ Go → SpellsTyped (at contents 0) typed → Inlined typed k → typed_nodes k ≤ max_nodes
    → EndsInFirings k (at contents 1) (limit_or c.chosen.limit) → RefusesNothing c contents

-- a call of `go`, where a call of `ref` on the same files has a text after T turns, and 256 firings for each of the kernel's nodes, once for each turn and once more, are
-- within the limit
abbrev pub InterpretedKernelsAreRun : Type 0
InterpretedKernelsAreRun = (c : Asked) (plain : List Text) (chosen : Chosen) (contents : List Text) (text : Text) (ended : AnswersBy Ref plain chosen contents (Ok text)) → c.verb ≡ Go
    → 256 * typed_nodes ended.kernel.typed * (ended.holds.holds.turns + 1) ≤ limit_or c.chosen.limit → RefusesNothing c contents

-- ---- `ref` and `go`

-- The first text is the results and, where it is asked for, the number of turns. The second is a text that a compilation of the kernel has by the same options, a
-- line `%%`, the same results and then, where they are asked for, the numbers of firings and of cycles and the firings.
pub record ShowOneEnd (ref go : Chosen) (contents : List Text) (told gone : Text) : Type 0 where
  pub results : Text
  pub turns : ℕ
  pub interpreted : told ≡ results ++ turns_line ref.count turns
  pub netlist : Text
  pub compiled : Compiles (at contents 0) (circuit_of go) (Ok netlist)
  pub made : ℕ
  pub cycles : ℕ
  pub firings : List Firing
  pub ran : gone ≡ netlist ++ codes "%%\n" ++ (results ++ count_line go.count made ++ cycles_line go.cycles cycles ++ log_lines go.log firings)

-- so it is of the texts that a call of `ref` and one of `go` have for the same contents of their files, each under its own profile
abbrev pub RefAndGoShowOneEnd : Type 0
RefAndGoShowOneEnd = (c d : Asked) (contents : List Text) (told gone : Text) → c.verb ≡ Ref → d.verb ≡ Go → Answers c contents (Ok told) → Answers d contents (Ok gone)
    → ShowOneEnd c.chosen d.chosen contents told gone
