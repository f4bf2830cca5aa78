use Rattle.std.proofs.Common.{◌∙◌, refl, sym, ap, subst}
use Rattle.command_words.specs.Tables.{plain_of}
use Rattle.command_words.specs.Commands.{word_texts}
use Rattle.elastic_top.specs.Files.{limits_of, AreWithin}
use Rattle.elastic_top.proofs.PlanLemmas.{held_within, length-contents, length-texts, within_count}
use Rattle.el_io.specs.Outside.{IsCut}
use Rattle.command_words.specs.Commands.{asked}
use Rattle.elastic_top.specs.Reading.{AreHeld, contents_of}
use Rattle.elastic_top.specs.Faults.{fault_code, label_number}
use Rattle.elastic_top.specs.Causes.{IsCauseOf}
use Rattle.elastic_top.proofs.AnswerLemmas.{refused_cause}
use Rattle.elastic_top.proofs.RefusalLemmas.{not_outside}
use Rattle.elastic_top.proofs.call.run_files.Goals as goal

pub returns-in-Err-answer-clause-fault : goal.returns-in-Err-answer-clause-fault
returns-in-Err-answer-clause-fault g c =
    let r = c.in-Err-answer.refusal in
    subst (IsCauseOf (g.F.Files.holds c.args.files.now) (g.F.Files.steady c.args.files.now) (g.F.Files.long c.read_all.new.files)
    (IsCut (g.O.Sink.written c.args.out.now) (g.O.Sink.written c.args.out.now)) (asked c.args.command.now)) (sym c.call_fault.ensures)
    (refused_cause (g.F.Files.holds c.args.files.now) (g.F.Files.steady c.args.files.now) (g.F.Files.long c.read_all.new.files)
    (IsCut (g.O.Sink.written c.args.out.now) (g.O.Sink.written c.args.out.now))
    (asked c.args.command.now) (contents_of c.in-Ok.contents.items) r (label_number r) refl
    (subst (λ fs. AreHeld (g.F.Files.holds c.args.files.now) fs (contents_of c.in-Ok.contents.items)) c.requires.plan c.in-Ok.ensures.ok)
    (rw c.as_slice.ensures.value at c.in-Err-answer.ensures.err))

pub returns-in-Err-answer-clause-failed : goal.returns-in-Err-answer-clause-failed
returns-in-Err-answer-clause-failed g c = λ e. absurd ((not_outside c.in-Err-answer.refusal (label_number c.in-Err-answer.refusal)).unread (ap fault_code (sym c.call_fault.ensures) ∙ e))

pub returns-in-Err-answer-clause-write : goal.returns-in-Err-answer-clause-write
returns-in-Err-answer-clause-write g c = λ e. absurd ((not_outside c.in-Err-answer.refusal (label_number c.in-Err-answer.refusal)).unwritten (ap fault_code (sym c.call_fault.ensures) ∙ e))

pub returns-in-Err-answer-clause-long : goal.returns-in-Err-answer-clause-long
returns-in-Err-answer-clause-long g c = λ e. absurd ((not_outside c.in-Err-answer.refusal (label_number c.in-Err-answer.refusal)).long (ap fault_code (sym c.call_fault.ensures) ∙ e))

pub answer-requires-clause-within : goal.answer-requires-clause-within
answer-requires-clause-within g c = λ κs lives.
    rw c.as_slice.ensures.value
    (held_within (g.F.Files.holds c.args.files.now) (plain_of c.args.command.now.verb) (word_texts c.args.command.now.plain.items) (contents_of c.in-Ok.contents.items)
    (length-texts c.args.command.now.plain.items ∙ c.requires.plain)
    (subst (λ fs. AreHeld (g.F.Files.holds c.args.files.now) fs (contents_of c.in-Ok.contents.items)) c.requires.plan c.in-Ok.ensures.ok))

pub answer-requires-clause-count : goal.answer-requires-clause-count
answer-requires-clause-count g c = λ κs lives.
    let within : AreWithin (limits_of (plain_of c.args.command.now.verb)) (contents_of c.in-Ok.contents.items) =
    held_within (g.F.Files.holds c.args.files.now) (plain_of c.args.command.now.verb) (word_texts c.args.command.now.plain.items) (contents_of c.in-Ok.contents.items)
    (length-texts c.args.command.now.plain.items ∙ c.requires.plain)
    (subst (λ fs. AreHeld (g.F.Files.holds c.args.files.now) fs (contents_of c.in-Ok.contents.items)) c.requires.plan c.in-Ok.ensures.ok) in
    rw c.as_slice.ensures.value (sym (length-contents c.in-Ok.contents.items) ∙ within_count _ _ within)
