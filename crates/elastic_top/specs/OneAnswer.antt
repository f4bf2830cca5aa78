-- That a call of `compile`, and one of `go` or `run` by however many workers, print one thing, whatever is asked of signed results, but for the order of firings; and that `compile` and `go` print one net.
use Rattle.std.specs.Prelude.{◌≡◌, ◌⊎◌, ◌↔◌, ◌++◌, ℕ, Bool, true, false, List, length, Option, Some, None, Result, Ok, Err}
use Rattle.net_types.specs.declared.net.Net.{Net}
use Rattle.net_types.specs.declared.firing.Firing.{Firing}
use Rattle.net_types.specs.declared.firing.Inputs.{Inputs}
use Rattle.net_core.specs.Runs.{Long}
use Rattle.net_text.specs.Refusals.{Says as SaysNet}
use Rattle.net_runs.specs.Given.{Gives}
use Rattle.net_runs.specs.Results.{log_lines}
use Rattle.net_runs.specs.declared.options.RunOptions.{RunOptions}
use Rattle.kernel_runs.specs.OneAnswer.{IsFollowedByRun}
use Rattle.command_words.specs.declared.verb.Verb.TheVariants.{Compile, Go, Run}
use Rattle.command_words.specs.Tables.{Text}
use Rattle.command_words.specs.Commands.{Asked}
use Rattle.elastic_top.specs.Answers.{Answers, at}
use Rattle.elastic_top.specs.Faults.{refusal_code, refusal_parts}
use Rattle.elastic_top.specs.Options.{circuit_of, options_of, limit_or}
use Rattle.elastic_top.specs.declared.fault.Refusal.{Refusal}

-- ---- one call

-- two answers print the same: one text, or one line with one status
abbrev pub PrintTheSame : Result Text Refusal → Result Text Refusal → Type 0
PrintTheSame (Ok s) (Ok t) = s ≡ t
PrintTheSame (Ok s) (Err q) = ⊥
PrintTheSame (Err r) (Ok t) = ⊥
PrintTheSame (Err r) (Err q) = (refusal_code r ≡ refusal_code q) × (refusal_parts r ≡ refusal_parts q)

-- all answers of a call of `compile` for the same contents of its file print the same
abbrev pub CompilesPrintOnce : Type 0
CompilesPrintOnce = (c : Asked) (contents : List Text) (a b : Result Text Refusal) → c.verb ≡ Compile → Answers c contents a → Answers c contents b → PrintTheSame a b

-- the same call, with so many workers, or with none
abbrev pub by_workers : Asked → Option ℕ → Asked
by_workers c workers = record c { chosen = record c.chosen { workers = workers } }

-- two runs by so many workers or none are made alike: both by cycles, or both by workers
abbrev pub AreMadeAlike : Option ℕ → Option ℕ → Type 0
AreMadeAlike None None = Unit {0}
AreMadeAlike None (Some m) = ⊥
AreMadeAlike (Some n) None = ⊥
AreMadeAlike (Some n) (Some m) = Unit {0}

-- where a run counts cycles, one by so many workers, or by none, is made alike; workers count none
abbrev pub AreCountedAlike : RunOptions → Option ℕ → Type 0
AreCountedAlike o workers = o.cycles ≡ true → AreMadeAlike o.workers workers

-- besides no firings are written
pub record TellsNoOrder (o : RunOptions) (workers : Option ℕ) : Type 0 where
  pub log : o.log ≡ false
  pub cycles : AreCountedAlike o workers

-- and so do all of a call of `go`, with however many workers, or with none; where it counts cycles, with none both times, or with some
abbrev pub GoesPrintOnce : Type 0
GoesPrintOnce = (c : Asked) (contents : List Text) (workers : Option ℕ) (a b : Result Text Refusal) → c.verb ≡ Go → TellsNoOrder (options_of c.chosen) workers → Answers c contents a
    → Answers (by_workers c workers) contents b → PrintTheSame a b

-- and all of a call of `run` that writes no firings
abbrev pub RunsPrintOnce : Type 0
RunsPrintOnce = (c : Asked) (contents : List Text) (workers : Option ℕ) (a b : Result Text Refusal) → c.verb ≡ Run → TellsNoOrder (options_of c.chosen) workers → Answers c contents a
    → Answers (by_workers c workers) contents b → PrintTheSame a b

-- two texts of a run are equal up to the firings that are written, and as many are written; which stands before which is not told
pub record AreEqualButForOrder (log : Bool) (s t : Text) : Type 0 where
  pub front : Text
  pub told : List Firing
  pub again : List Firing
  pub first : s ≡ front ++ log_lines log told
  pub second : t ≡ front ++ log_lines log again
  pub many : length told ≡ length again

-- and so are all texts of a call of `run` that writes firings
abbrev pub RunsTellAsMany : Type 0
RunsTellAsMany = (c : Asked) (contents : List Text) (workers : Option ℕ) (s t : Text) → c.verb ≡ Run → AreCountedAlike (options_of c.chosen) workers → Answers c contents (Ok s)
    → Answers (by_workers c workers) contents (Ok t) → AreEqualButForOrder c.chosen.log s t

-- ---- signed results out of range

-- the same call, with `--wrap` or without
abbrev pub with_wrap : Asked → Bool → Asked
with_wrap c wrap = record c { chosen = record c.chosen { wrap = wrap } }

-- `--wrap` changes no answer of `compile` and `go`
abbrev pub WrapChangesNothing : Type 0
WrapChangesNothing = (c : Asked) (contents : List Text) (a : Result Text Refusal) (wrap : Bool) → (c.verb ≡ Compile) ⊎ (c.verb ≡ Go) → Answers c contents a
    → Answers (with_wrap c wrap) contents a

-- ---- two calls on one kernel

-- the first is of `compile` and has the text, the second is of `go`; both are for the same kernel, with the same slots, delays and marks
pub record CompilesFor (text : Text) (c : Asked) (compiled : List Text) (d : Asked) (contents : List Text) : Type 0 where
  pub compiles : c.verb ≡ Compile
  pub goes : d.verb ≡ Go
  pub kernel : at compiled 0 ≡ at contents 0
  pub circuit : circuit_of c.chosen ≡ circuit_of d.chosen
  pub answer : Answers c compiled (Ok text)

-- then a text of the second is that of the first, a line `%%` and the text of a run of the net that is read from the first
abbrev pub OneNetIsShown : Type 0
OneNetIsShown = (c d : Asked) (compiled contents : List Text) (text gone : Text) → CompilesFor text c compiled d contents → Answers d contents (Ok gone)
    → IsFollowedByRun text gone (at contents 1) (options_of d.chosen)

-- the status of an answer
abbrev pub answer_code : Result Text Refusal → ℕ
answer_code (Ok text) = 0
answer_code (Err refusal) = refusal_code refusal

-- and the status of the second is 8 exactly where that net has runs of more firings than the limit on the inputs that its file gives
abbrev pub StatusEightIsLong : Type 0
StatusEightIsLong = (c d : Asked) (compiled contents : List Text) (text : Text) (net : Net) (inputs : Inputs) (a : Result Text Refusal) → CompilesFor text c compiled d contents
    → SaysNet text (Ok net) → Gives net (at contents 1) inputs → Answers d contents a → (answer_code a ≡ 8) ↔ Long net inputs (limit_or d.chosen.limit)
