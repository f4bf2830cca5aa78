-- That a state that `save` printed comes by `resume` to what `run` prints; and that status 12 has one file.
use Rattle.std.specs.Prelude.{◌≡◌, ◌≢◌, ℕ, List, Result, Ok, None}
use Rattle.el_io.specs.Outside.{Told}
use Rattle.net_runs.specs.Laws.{AsksForNoCycles}
use Rattle.command_words.specs.declared.verb.Verb.TheVariants.{Run, Save, Resume}
use Rattle.command_words.specs.Tables.{Text}
use Rattle.command_words.specs.Commands.{Asked}
use Rattle.elastic_top.specs.Answers.{Answers, at}
use Rattle.elastic_top.specs.Files.{Wanted}
use Rattle.elastic_top.specs.OneAnswer.{PrintTheSame}
use Rattle.elastic_top.specs.Options.{limit_or, options_of}
use Rattle.elastic_top.specs.Reading.{IsTooLong}
use Rattle.elastic_top.specs.declared.fault.Refusal.{Refusal}

-- ---- saved states

-- Three calls: the first is of `save` and has a text, for the netlist and the inputs of its files. The second is of `resume`, for that netlist and that
-- text. The third is of `run`, for the netlist and the inputs, and tells neither cycles nor firings. The second and the third have one limit, and both count
-- the firings or neither does.
pub record GoesOnAsRun (c d e : Asked) (saved resumed run : List Text) : Type 0 where
  pub saves : c.verb ≡ Save
  pub answer : Answers c saved (Ok (at resumed 1))
  pub resumes : d.verb ≡ Resume
  pub net : at resumed 0 ≡ at saved 0
  pub runs : e.verb ≡ Run
  pub run_net : at run 0 ≡ at saved 0
  pub inputs : at run 1 ≡ at saved 1
  pub plain : AsksForNoCycles (options_of e.chosen)
  pub limit : limit_or d.chosen.limit ≡ limit_or e.chosen.limit
  pub count : d.chosen.count ≡ e.chosen.count

-- then whatever the second answers prints the same as whatever the third does, with any number of workers or without
abbrev pub ResumedCallsPrintAsRuns : Type 0
ResumedCallsPrintAsRuns = (c d e : Asked) (saved resumed run : List Text) (a b : Result Text Refusal) → GoesOnAsRun c d e saved resumed run
    → Answers d resumed a → Answers e run b → PrintTheSame a b

-- ---- long files

-- where it is told what the files hold, a file that is too long is the one at its place: files before it are not, and none after it is reached
abbrev pub LongFilesAreOne : Type 0
LongFilesAreOne = (holds : Text → Told) (long : ℕ) (files : List Wanted) (name other : Text) (a : IsTooLong holds long files name)
    (b : IsTooLong holds long files other) → holds name ≢ None → holds other ≢ None → a.reached.place ≡ b.reached.place
