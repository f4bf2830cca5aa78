use Rattle.std.proofs.Common.{◌≡◌, arith, refl, sym, ◌∙◌, ap, subst, Contains}
use Rattle.std.specs.Option.{is_some}
use Rattle.std.specs.Io.KnownBytes.{append_known}
use Rattle.el_io.specs.Outside.{IsCut}
use Rattle.command_words.specs.Commands.{asked, texts, Command}
use Rattle.elastic_top.specs.Faults.{IsTold, fault_code}
use Rattle.elastic_top.specs.Statuses.{statuses_of}
use Rattle.elastic_top.specs.Causes.{AreSound, Unread, TooLong, Writes, RefusesWith}
use Rattle.elastic_top.proofs.CallLemmas.{outside, status_of, spelled_of, not_done, any_status, unread_of, long_of, cut_of, refused_of, unwritten_of, memory_of, sound_status}
use Rattle.elastic_top.proofs.RangeLemmas.{spelled_within}
use Rattle.elastic_top.proofs.call.top.Goals as goal

pub run_command-requires-clause-chosen : goal.run_command-requires-clause-chosen
run_command-requires-clause-chosen g c = λ κs lives.
    let spells : Command (texts c.args.words.now) (asked c.in-Ok-Some.command) = rw c.in-Ok-Some.field-0-is at c.in-Ok-Some.ensures.some in
    spelled_within (texts c.args.words.now) (asked c.in-Ok-Some.command) spells

pub run_command-requires-clause-seed : goal.run_command-requires-clause-seed
run_command-requires-clause-seed g c = λ κs lives.
    let spells : Command (texts c.args.words.now) (asked c.in-Ok-Some.command) = rw c.in-Ok-Some.field-0-is at c.in-Ok-Some.ensures.some in
    spells.spelled.seed

pub returns-in-Ok-None-clause-usage : goal.returns-in-Ok-None-clause-usage
returns-in-Ok-None-clause-usage g c = λ is. c.in-Ok-None.ensures.none (ap is_some c.in-Ok-None.field-0-is)

pub returns-in-Ok-None-clause-statuses : goal.returns-in-Ok-None-clause-statuses
returns-in-Ok-None-clause-statuses g c = λ d spelled. absurd (c.in-Ok-None.ensures.none (ap is_some c.in-Ok-None.field-0-is) d spelled)

pub returns-in-Ok-None-clause-complete : goal.returns-in-Ok-None-clause-complete
returns-in-Ok-None-clause-complete g c = λ d spelled sound quiet. absurd (c.in-Ok-None.ensures.none (ap is_some c.in-Ok-None.field-0-is) d spelled)

pub returns-in-Err-clause-statuses : goal.returns-in-Err-clause-statuses
returns-in-Err-clause-statuses g c = λ d spelled. (outside d.verb).memory

pub returns-in-Err-clause-codes : goal.returns-in-Err-clause-codes
returns-in-Err-clause-codes g c = (11, omega arith, refl)

pub returns-in-Ok-clause-statuses : goal.returns-in-Ok-clause-statuses
returns-in-Ok-clause-statuses g c = λ d spelled. (outside d.verb).done

pub returns-clause-codes : goal.returns-clause-codes
returns-clause-codes g c = rw c.code.ensures (any_status c.in-Err-run_command.fault)

pub returns-clause-usage : goal.returns-clause-usage
returns-clause-usage g c = λ is.
    absurd (spelled_of (g.F.Files.holds c.args.files.now) (g.F.Files.steady c.args.files.now) (g.F.Files.long c.run_command.new.files)
    (IsCut (g.O.Sink.written c.args.out.now) (g.O.Sink.written c.run_command.new.out))
    (asked c.in-Ok-Some.command) c.in-Err-run_command.fault c.in-Err-run_command.ensures.fault (sym c.code.ensures ∙ is))

pub returns-clause-done : goal.returns-clause-done
returns-clause-done g c = λ is. absurd (not_done c.in-Err-run_command.fault (sym c.code.ensures ∙ is))

pub returns-in-Ok-clause-done : goal.returns-in-Ok-clause-done
returns-in-Ok-clause-done g c = λ is d spelled.
    let spells : Command (texts c.args.words.now) (asked c.in-Ok-Some.command) = rw c.in-Ok-Some.field-0-is at c.in-Ok-Some.ensures.some in
    let same : asked c.in-Ok-Some.command ≡ d = c.words_spell_one_command.ensures (texts c.args.words.now) (asked c.in-Ok-Some.command) d spells spelled in
    subst (λ x. Writes (g.F.Files.holds c.args.files.now) x
    (λ text. g.O.Sink.written c.run_command.new.out ≡ append_known (g.O.Sink.written c.args.out.now) text)) same c.in-Ok.ensures.done

pub returns-clause-statuses : goal.returns-clause-statuses
returns-clause-statuses g c = λ d spelled.
    let spells : Command (texts c.args.words.now) (asked c.in-Ok-Some.command) = rw c.in-Ok-Some.field-0-is at c.in-Ok-Some.ensures.some in
    let same : asked c.in-Ok-Some.command ≡ d = c.words_spell_one_command.ensures (texts c.args.words.now) (asked c.in-Ok-Some.command) d spells spelled in
    rw c.code.ensures
    (subst (λ x. Contains (statuses_of x.verb) (fault_code c.in-Err-run_command.fault)) same
    (status_of (g.F.Files.holds c.args.files.now) (g.F.Files.steady c.args.files.now) (g.F.Files.long c.run_command.new.files)
    (IsCut (g.O.Sink.written c.args.out.now) (g.O.Sink.written c.run_command.new.out))
    (asked c.in-Ok-Some.command) c.in-Err-run_command.fault c.in-Err-run_command.ensures.fault))

pub returns-clause-unread : goal.returns-clause-unread
returns-clause-unread g c = λ is d spelled.
    let spells : Command (texts c.args.words.now) (asked c.in-Ok-Some.command) = rw c.in-Ok-Some.field-0-is at c.in-Ok-Some.ensures.some in
    let same : asked c.in-Ok-Some.command ≡ d = c.words_spell_one_command.ensures (texts c.args.words.now) (asked c.in-Ok-Some.command) d spells spelled in
    subst (λ x. Unread (g.F.Files.holds c.args.files.now) (g.F.Files.steady c.args.files.now) x (IsTold (g.E.Sink.written c.args.err.now) (g.E.Sink.written c.tell-in-Err-run_command.new.err)
    (g.E.Sink.faults c.args.err.now) (g.E.Sink.faults c.tell-in-Err-run_command.new.err))) same
    (unread_of (g.F.Files.holds c.args.files.now) (g.F.Files.steady c.args.files.now) (g.F.Files.long c.run_command.new.files)
    (IsCut (g.O.Sink.written c.args.out.now) (g.O.Sink.written c.run_command.new.out))
    (asked c.in-Ok-Some.command) c.in-Err-run_command.fault
    (IsTold (g.E.Sink.written c.args.err.now) (g.E.Sink.written c.tell-in-Err-run_command.new.err)
    (g.E.Sink.faults c.args.err.now) (g.E.Sink.faults c.tell-in-Err-run_command.new.err))
    c.in-Err-run_command.ensures.fault (sym c.code.ensures ∙ is) c.tell-in-Err-run_command.ensures)

pub returns-clause-long_file : goal.returns-clause-long_file
returns-clause-long_file g c = λ is d spelled.
    let spells : Command (texts c.args.words.now) (asked c.in-Ok-Some.command) = rw c.in-Ok-Some.field-0-is at c.in-Ok-Some.ensures.some in
    let same : asked c.in-Ok-Some.command ≡ d = c.words_spell_one_command.ensures (texts c.args.words.now) (asked c.in-Ok-Some.command) d spells spelled in
    subst (λ x. TooLong (g.F.Files.holds c.args.files.now) (g.F.Files.long c.run_command.new.files) x (IsTold (g.E.Sink.written c.args.err.now) (g.E.Sink.written c.tell-in-Err-run_command.new.err)
    (g.E.Sink.faults c.args.err.now) (g.E.Sink.faults c.tell-in-Err-run_command.new.err))) same
    (long_of (g.F.Files.holds c.args.files.now) (g.F.Files.steady c.args.files.now) (g.F.Files.long c.run_command.new.files)
    (IsCut (g.O.Sink.written c.args.out.now) (g.O.Sink.written c.run_command.new.out))
    (asked c.in-Ok-Some.command) c.in-Err-run_command.fault
    (IsTold (g.E.Sink.written c.args.err.now) (g.E.Sink.written c.tell-in-Err-run_command.new.err)
    (g.E.Sink.faults c.args.err.now) (g.E.Sink.faults c.tell-in-Err-run_command.new.err))
    c.in-Err-run_command.ensures.fault (sym c.code.ensures ∙ is) c.tell-in-Err-run_command.ensures)

pub returns-clause-cut : goal.returns-clause-cut
returns-clause-cut g c = λ is d spelled.
    let spells : Command (texts c.args.words.now) (asked c.in-Ok-Some.command) = rw c.in-Ok-Some.field-0-is at c.in-Ok-Some.ensures.some in
    let same : asked c.in-Ok-Some.command ≡ d = c.words_spell_one_command.ensures (texts c.args.words.now) (asked c.in-Ok-Some.command) d spells spelled in
    subst (λ x. Writes (g.F.Files.holds c.args.files.now) x (IsCut (g.O.Sink.written c.args.out.now) (g.O.Sink.written c.run_command.new.out))) same
    (cut_of (g.F.Files.holds c.args.files.now) (g.F.Files.steady c.args.files.now) (g.F.Files.long c.run_command.new.files)
    (IsCut (g.O.Sink.written c.args.out.now) (g.O.Sink.written c.run_command.new.out))
    (asked c.in-Ok-Some.command) c.in-Err-run_command.fault c.in-Err-run_command.ensures.fault (sym c.code.ensures ∙ is))

pub returns-clause-refused : goal.returns-clause-refused
returns-clause-refused g c = λ o d spelled.
    let spells : Command (texts c.args.words.now) (asked c.in-Ok-Some.command) = rw c.in-Ok-Some.field-0-is at c.in-Ok-Some.ensures.some in
    let same : asked c.in-Ok-Some.command ≡ d = c.words_spell_one_command.ensures (texts c.args.words.now) (asked c.in-Ok-Some.command) d spells spelled in
    rw c.code.ensures
    (subst (λ x. RefusesWith (g.F.Files.holds c.args.files.now) x (fault_code c.in-Err-run_command.fault) (IsTold (g.E.Sink.written c.args.err.now) (g.E.Sink.written c.tell-in-Err-run_command.new.err)
    (g.E.Sink.faults c.args.err.now) (g.E.Sink.faults c.tell-in-Err-run_command.new.err))) same
    (refused_of (g.F.Files.holds c.args.files.now) (g.F.Files.steady c.args.files.now) (g.F.Files.long c.run_command.new.files)
    (IsCut (g.O.Sink.written c.args.out.now) (g.O.Sink.written c.run_command.new.out))
    (asked c.in-Ok-Some.command) c.in-Err-run_command.fault
    (IsTold (g.E.Sink.written c.args.err.now) (g.E.Sink.written c.tell-in-Err-run_command.new.err)
    (g.E.Sink.faults c.args.err.now) (g.E.Sink.faults c.tell-in-Err-run_command.new.err))
    c.in-Err-run_command.ensures.fault (rw c.code.ensures at o) c.tell-in-Err-run_command.ensures))

pub returns-clause-complete : goal.returns-clause-complete
returns-clause-complete g c = λ d spelled sound quiet.
    let spells : Command (texts c.args.words.now) (asked c.in-Ok-Some.command) = rw c.in-Ok-Some.field-0-is at c.in-Ok-Some.ensures.some in
    let same : asked c.in-Ok-Some.command ≡ d = c.words_spell_one_command.ensures (texts c.args.words.now) (asked c.in-Ok-Some.command) d spells spelled in
    rw c.code.ensures
    (sound_status (g.F.Files.holds c.args.files.now) (g.F.Files.steady c.args.files.now) (g.F.Files.long c.run_command.new.files)
    (IsCut (g.O.Sink.written c.args.out.now) (g.O.Sink.written c.run_command.new.out))
    (asked c.in-Ok-Some.command) c.in-Err-run_command.fault c.in-Err-run_command.ensures.fault
    (subst (λ x. AreSound (g.F.Files.holds c.args.files.now) (g.F.Files.steady c.args.files.now) x) (sym same) sound) (λ e. quiet (c.in-Err-run_command.ensures.write e)))

pub returns-clause-err_write : goal.returns-clause-err_write
returns-clause-err_write g c = λ is.
    subst (IsTold (g.E.Sink.written c.args.err.now) (g.E.Sink.written c.tell-in-Err-run_command.new.err)
    (g.E.Sink.faults c.args.err.now) (g.E.Sink.faults c.tell-in-Err-run_command.new.err))
    (unwritten_of (g.F.Files.holds c.args.files.now) (g.F.Files.steady c.args.files.now) (g.F.Files.long c.run_command.new.files)
    (IsCut (g.O.Sink.written c.args.out.now) (g.O.Sink.written c.run_command.new.out))
    (asked c.in-Ok-Some.command) c.in-Err-run_command.fault c.in-Err-run_command.ensures.fault (sym c.code.ensures ∙ is))
    c.tell-in-Err-run_command.ensures

pub returns-clause-err_memory : goal.returns-clause-err_memory
returns-clause-err_memory g c = λ is.
    subst (IsTold (g.E.Sink.written c.args.err.now) (g.E.Sink.written c.tell-in-Err-run_command.new.err)
    (g.E.Sink.faults c.args.err.now) (g.E.Sink.faults c.tell-in-Err-run_command.new.err))
    (memory_of (g.F.Files.holds c.args.files.now) (g.F.Files.steady c.args.files.now) (g.F.Files.long c.run_command.new.files)
    (IsCut (g.O.Sink.written c.args.out.now) (g.O.Sink.written c.run_command.new.out))
    (asked c.in-Ok-Some.command) c.in-Err-run_command.fault c.in-Err-run_command.ensures.fault (sym c.code.ensures ∙ is))
    c.tell-in-Err-run_command.ensures
