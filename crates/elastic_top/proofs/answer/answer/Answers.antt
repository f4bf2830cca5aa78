use Rattle.std.proofs.Common.{subst, ◌∙◌}
use Rattle.std.specs.Prelude.{IfOk, IfErr, Ok, Err}
use Rattle.net_runs.specs.Runs.{Runs}
use Rattle.net_runs.specs.Replays.{Replays}
use Rattle.net_runs.specs.Saves.{Saves}
use Rattle.net_runs.specs.Resumes.{Resumes}
use Rattle.kernel_ref.specs.Answers.{Interprets}
use Rattle.kernel_runs.specs.Circuits.{Compiles}
use Rattle.kernel_runs.specs.Goes.{Goes}
use Rattle.command_words.specs.Commands.{word_texts}
use Rattle.elastic_top.specs.Answers.{CompilesKernel, GoesKernel, InterpretsKernel, OfKernel, OfNet, ReplaysNet, ResumesNet, RunsNet, SavesNet, at}
use Rattle.elastic_top.specs.Reading.{contents_of}
use Rattle.elastic_top.specs.Options.{at_or, circuit_of, interpretation_of, limit_or, options_of}
use Rattle.elastic_top.proofs.AnswerLemmas.{bytes_of_one, bytes_of_two, bytes_of_three, of_one, of_two, of_three, some_seed}
use Rattle.elastic_top.proofs.PlanLemmas.{length-texts}
use Rattle.elastic_top.proofs.answer.answer.Goals as goal

pub returns-in-Compile-clause-ok : goal.returns-in-Compile-clause-ok
returns-in-Compile-clause-ok g c =
    rw c.in-Compile.is
    (bytes_of_one (λ a. IfOk c.compile.result (λ text. Compiles a (circuit_of c.args.command.now.chosen) (Ok text.items))) c.args.contents.now _
    (rw c.in-Compile.is at c.requires.count) c.index-contents-0.is
    (rw (c.as_slice.ensures.value, c.circuit_of.ensures.value) at c.compile.ensures.ok))

pub returns-in-Compile-clause-err : goal.returns-in-Compile-clause-err
returns-in-Compile-clause-err g c =
    rw c.in-Compile.is
    (subst (λ o. IfErr c.compile.result (λ refusal. CompilesKernel (at (word_texts c.args.command.now.plain.items) 0) o (at (contents_of c.args.contents.now) 0) (Err refusal))) c.circuit_of.ensures.value
    (of_one (λ v a. IfErr c.compile.result (λ refusal. CompilesKernel v c.circuit_of.result a (Err refusal))) c.args.command.now.plain.items _ c.args.contents.now _ _ _
    c.as_slice-words.ensures.value c.as_slice.ensures.value
    (rw c.in-Compile.is at c.requires.plain) (rw c.in-Compile.is at c.requires.count) c.index-contents-0.is c.compile.ensures.err))

pub returns-in-Go-clause-ok : goal.returns-in-Go-clause-ok
returns-in-Go-clause-ok g c =
    rw c.in-Go.is
    (bytes_of_two (λ a b. IfOk c.go.result (λ text. Goes a b (circuit_of c.args.command.now.chosen) (options_of c.args.command.now.chosen) (Ok text.items))) c.args.contents.now _ _
    (rw c.in-Go.is at c.requires.count) c.index-contents-0-in-Go.is c.index-contents-1.is
    (rw (c.as_slice-in-Go.ensures.value, c.as_slice-in-Go-2.ensures.value, c.circuit_of-in-Go.ensures.value, c.options_of.ensures) at c.go.ensures.ok))

pub returns-in-Go-clause-err : goal.returns-in-Go-clause-err
returns-in-Go-clause-err g c =
    rw c.in-Go.is
    (subst (λ o. IfErr c.go.result (λ refusal. GoesKernel (at (word_texts c.args.command.now.plain.items) 0) (at (word_texts c.args.command.now.plain.items) 1) (circuit_of c.args.command.now.chosen) o (at (contents_of c.args.contents.now) 0) (at (contents_of c.args.contents.now) 1) (Err refusal))) c.options_of.ensures
    (subst (λ o. IfErr c.go.result (λ refusal. GoesKernel (at (word_texts c.args.command.now.plain.items) 0) (at (word_texts c.args.command.now.plain.items) 1) o c.options_of.result (at (contents_of c.args.contents.now) 0) (at (contents_of c.args.contents.now) 1) (Err refusal))) c.circuit_of-in-Go.ensures.value
    (of_two (λ v w a b. IfErr c.go.result (λ refusal. GoesKernel v w c.circuit_of-in-Go.result c.options_of.result a b (Err refusal))) c.args.command.now.plain.items _ c.args.contents.now _ _ _ _ _ _
    c.as_slice-words.ensures.value c.as_slice-in-Go.ensures.value c.as_slice-in-Go-2.ensures.value
    (rw c.in-Go.is at c.requires.plain) (rw c.in-Go.is at c.requires.count) c.index-contents-0-in-Go.is c.index-contents-1.is c.go.ensures.err)))

pub returns-in-Run-clause-err : goal.returns-in-Run-clause-err
returns-in-Run-clause-err g c =
    rw c.in-Run.is
    (subst (λ o. IfErr c.run.result (λ refusal. RunsNet (at (word_texts c.args.command.now.plain.items) 0) (at (word_texts c.args.command.now.plain.items) 1) o (at (contents_of c.args.contents.now) 0) (at (contents_of c.args.contents.now) 1) (Err refusal))) c.options_of-in-Run.ensures
    (of_two (λ v w a b. IfErr c.run.result (λ refusal. RunsNet v w c.options_of-in-Run.result a b (Err refusal))) c.args.command.now.plain.items _ c.args.contents.now _ _ _ _ _ _
    c.as_slice-words.ensures.value c.as_slice-in-Run.ensures.value c.as_slice-in-Run-2.ensures.value
    (rw c.in-Run.is at c.requires.plain) (rw c.in-Run.is at c.requires.count) c.index-contents-0-in-Run.is c.index-contents-1-in-Run.is c.run.ensures.err))

pub returns-in-Run-clause-ok : goal.returns-in-Run-clause-ok
returns-in-Run-clause-ok g c =
    rw c.in-Run.is
    (bytes_of_two (λ a b. IfOk c.run.result (λ text. OfNet a (λ net. Runs net b (options_of c.args.command.now.chosen) (Ok text.items)))) c.args.contents.now _ _
    (rw c.in-Run.is at c.requires.count) c.index-contents-0-in-Run.is c.index-contents-1-in-Run.is
    (subst (λ o. IfOk c.run.result (λ text. OfNet c.index-contents-0-in-Run.result.items (λ net. Runs net c.index-contents-1-in-Run.result.items o (Ok text.items)))) c.options_of-in-Run.ensures
    (subst (λ x. IfOk c.run.result (λ text. OfNet x (λ net. Runs net c.index-contents-1-in-Run.result.items c.options_of-in-Run.result (Ok text.items)))) c.as_slice-in-Run.ensures.value
    (subst (λ y. IfOk c.run.result (λ text. OfNet c.as_slice-in-Run.result.now (λ net. Runs net y c.options_of-in-Run.result (Ok text.items)))) c.as_slice-in-Run-2.ensures.value c.run.ensures.ok))))

pub returns-in-Replay-clause-ok : goal.returns-in-Replay-clause-ok
returns-in-Replay-clause-ok g c =
    rw c.in-Replay.is
    (bytes_of_three (λ a b d. IfOk c.replay.result (λ text. OfNet a (λ net. Replays net b d (Ok text.items)))) c.args.contents.now _ _ _
    (rw c.in-Replay.is at c.requires.count) c.index-contents-0-in-Replay.is c.index-contents-1-in-Replay.is c.index-contents-2.is
    (subst (λ x. IfOk c.replay.result (λ text. OfNet x (λ net. Replays net c.index-contents-1-in-Replay.result.items c.index-contents-2.result.items (Ok text.items)))) c.as_slice-in-Replay.ensures.value
    (subst (λ y. IfOk c.replay.result (λ text. OfNet c.as_slice-in-Replay.result.now (λ net. Replays net y c.index-contents-2.result.items (Ok text.items)))) c.as_slice-in-Replay-2.ensures.value
    (subst (λ z. IfOk c.replay.result (λ text. OfNet c.as_slice-in-Replay.result.now (λ net. Replays net c.as_slice-in-Replay-2.result.now z (Ok text.items)))) c.as_slice-in-Replay-3.ensures.value
    c.replay.ensures.ok))))

pub returns-in-Replay-clause-err : goal.returns-in-Replay-clause-err
returns-in-Replay-clause-err g c =
    rw c.in-Replay.is
    (of_three (λ u v w a b d. IfErr c.replay.result (λ refusal. ReplaysNet u v w a b d (Err refusal))) c.args.command.now.plain.items _ c.args.contents.now _ _ _ _ _ _ _ _ _
    c.as_slice-words.ensures.value c.as_slice-in-Replay.ensures.value c.as_slice-in-Replay-2.ensures.value c.as_slice-in-Replay-3.ensures.value
    (rw c.in-Replay.is at c.requires.plain) (rw c.in-Replay.is at c.requires.count) c.index-contents-0-in-Replay.is c.index-contents-1-in-Replay.is c.index-contents-2.is
    c.replay.ensures.err)

pub returns-in-Ref-clause-ok : goal.returns-in-Ref-clause-ok
returns-in-Ref-clause-ok g c =
    rw c.in-Ref.is
    (bytes_of_two (λ a b. IfOk c.interpret.result (λ text. OfKernel a (λ k. Interprets k b (interpretation_of c.args.command.now.chosen) (Ok text.items)))) c.args.contents.now _ _
    (rw c.in-Ref.is at c.requires.count) c.index-contents-0-in-Ref.is c.index-contents-1-in-Ref.is
    (subst (λ o. IfOk c.interpret.result (λ text. OfKernel c.index-contents-0-in-Ref.result.items (λ k. Interprets k c.index-contents-1-in-Ref.result.items o (Ok text.items)))) c.interpretation_of.ensures
    (subst (λ x. IfOk c.interpret.result (λ text. OfKernel x (λ k. Interprets k c.index-contents-1-in-Ref.result.items c.interpretation_of.result (Ok text.items)))) c.as_slice-in-Ref.ensures.value
    (subst (λ y. IfOk c.interpret.result (λ text. OfKernel c.as_slice-in-Ref.result.now (λ k. Interprets k y c.interpretation_of.result (Ok text.items)))) c.as_slice-in-Ref-2.ensures.value c.interpret.ensures.ok))))

pub returns-in-Ref-clause-err : goal.returns-in-Ref-clause-err
returns-in-Ref-clause-err g c =
    rw c.in-Ref.is
    (subst (λ o. IfErr c.interpret.result (λ refusal. InterpretsKernel (at (word_texts c.args.command.now.plain.items) 0) (at (word_texts c.args.command.now.plain.items) 1) o (at (contents_of c.args.contents.now) 0) (at (contents_of c.args.contents.now) 1) (Err refusal))) c.interpretation_of.ensures
    (of_two (λ v w a b. IfErr c.interpret.result (λ refusal. InterpretsKernel v w c.interpretation_of.result a b (Err refusal))) c.args.command.now.plain.items _ c.args.contents.now _ _ _ _ _ _
    c.as_slice-words.ensures.value c.as_slice-in-Ref.ensures.value c.as_slice-in-Ref-2.ensures.value
    (rw c.in-Ref.is at c.requires.plain) (rw c.in-Ref.is at c.requires.count) c.index-contents-0-in-Ref.is c.index-contents-1-in-Ref.is c.interpret.ensures.err))

pub go-requires-clause-shared : goal.go-requires-clause-shared
go-requires-clause-shared g c = λ κs lives. rw c.options_of.ensures c.requires.chosen.shared

pub run-requires-clause-shared : goal.run-requires-clause-shared
run-requires-clause-shared g c = λ κs lives. rw c.options_of-in-Run.ensures c.requires.chosen.shared

pub bench-requires : goal.bench-requires
bench-requires g c =
    some_seed (word_texts c.args.command.now.plain.items) c.args.command.now.chosen.seed
    (length-texts c.args.command.now.plain.items ∙ rw c.in-Bench.is at c.requires.plain) (rw c.in-Bench.is at c.requires.seed)

pub returns-in-Bench-clause-ok : goal.returns-in-Bench-clause-ok
returns-in-Bench-clause-ok g c = rw c.in-Bench.is c.bench.ensures.ok

pub returns-in-Bench-clause-err : goal.returns-in-Bench-clause-err
returns-in-Bench-clause-err g c = rw c.in-Bench.is c.bench.ensures.err

pub returns-in-Save-clause-ok : goal.returns-in-Save-clause-ok
returns-in-Save-clause-ok g c =
    rw c.in-Save.is
    (bytes_of_two (λ a b. IfOk c.save.result (λ text. OfNet a (λ net. Saves net b (at_or c.args.command.now.chosen.at) (Ok text.items)))) c.args.contents.now _ _
    (rw c.in-Save.is at c.requires.count) c.index-contents-0-in-Save.is c.index-contents-1-in-Save.is
    (subst (λ k. IfOk c.save.result (λ text. OfNet c.index-contents-0-in-Save.result.items (λ net. Saves net c.index-contents-1-in-Save.result.items k (Ok text.items)))) c.at_or.ensures
    (subst (λ x. IfOk c.save.result (λ text. OfNet x (λ net. Saves net c.index-contents-1-in-Save.result.items c.at_or.result (Ok text.items)))) c.as_slice-in-Save.ensures.value
    (subst (λ y. IfOk c.save.result (λ text. OfNet c.as_slice-in-Save.result.now (λ net. Saves net y c.at_or.result (Ok text.items)))) c.as_slice-in-Save-2.ensures.value c.save.ensures.ok))))

pub returns-in-Save-clause-err : goal.returns-in-Save-clause-err
returns-in-Save-clause-err g c =
    rw c.in-Save.is
    (subst (λ k. IfErr c.save.result (λ refusal. SavesNet (at (word_texts c.args.command.now.plain.items) 0) (at (word_texts c.args.command.now.plain.items) 1) k (at (contents_of c.args.contents.now) 0) (at (contents_of c.args.contents.now) 1) (Err refusal))) c.at_or.ensures
    (of_two (λ v w a b. IfErr c.save.result (λ refusal. SavesNet v w c.at_or.result a b (Err refusal))) c.args.command.now.plain.items _ c.args.contents.now _ _ _ _ _ _
    c.as_slice-words.ensures.value c.as_slice-in-Save.ensures.value c.as_slice-in-Save-2.ensures.value
    (rw c.in-Save.is at c.requires.plain) (rw c.in-Save.is at c.requires.count) c.index-contents-0-in-Save.is c.index-contents-1-in-Save.is c.save.ensures.err))

pub returns-in-Resume-clause-ok : goal.returns-in-Resume-clause-ok
returns-in-Resume-clause-ok g c =
    rw c.in-Resume.is
    (bytes_of_two (λ a b. IfOk c.resume.result (λ text. OfNet a (λ net. Resumes net b (limit_or c.args.command.now.chosen.limit) c.args.command.now.chosen.count (Ok text.items)))) c.args.contents.now _ _
    (rw c.in-Resume.is at c.requires.count) c.index-contents-0-in-Resume.is c.index-contents-1-in-Resume.is
    (subst (λ n. IfOk c.resume.result (λ text. OfNet c.index-contents-0-in-Resume.result.items (λ net. Resumes net c.index-contents-1-in-Resume.result.items n c.args.command.now.chosen.count (Ok text.items)))) c.limit_or.ensures
    (subst (λ x. IfOk c.resume.result (λ text. OfNet x (λ net. Resumes net c.index-contents-1-in-Resume.result.items c.limit_or.result c.args.command.now.chosen.count (Ok text.items)))) c.as_slice-in-Resume.ensures.value
    (subst (λ y. IfOk c.resume.result (λ text. OfNet c.as_slice-in-Resume.result.now (λ net. Resumes net y c.limit_or.result c.args.command.now.chosen.count (Ok text.items)))) c.as_slice-in-Resume-2.ensures.value c.resume.ensures.ok))))

pub returns-in-Resume-clause-err : goal.returns-in-Resume-clause-err
returns-in-Resume-clause-err g c =
    rw c.in-Resume.is
    (subst (λ n. IfErr c.resume.result (λ refusal. ResumesNet (at (word_texts c.args.command.now.plain.items) 0) (at (word_texts c.args.command.now.plain.items) 1) n c.args.command.now.chosen.count (at (contents_of c.args.contents.now) 0) (at (contents_of c.args.contents.now) 1) (Err refusal))) c.limit_or.ensures
    (of_two (λ v w a b. IfErr c.resume.result (λ refusal. ResumesNet v w c.limit_or.result c.args.command.now.chosen.count a b (Err refusal))) c.args.command.now.plain.items _ c.args.contents.now _ _ _ _ _ _
    c.as_slice-words.ensures.value c.as_slice-in-Resume.ensures.value c.as_slice-in-Resume-2.ensures.value
    (rw c.in-Resume.is at c.requires.plain) (rw c.in-Resume.is at c.requires.count) c.index-contents-0-in-Resume.is c.index-contents-1-in-Resume.is c.resume.ensures.err))
