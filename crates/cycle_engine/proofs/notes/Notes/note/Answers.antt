use Rattle.cycle_engine.proofs.NoteLemmas.{noted_some}
use Rattle.cycle_engine.proofs.notes.Notes.note.Goals as goal

pub returns-in_ok-note_put-in-Some : goal.returns-in_ok-note_put-in-Some
returns-in_ok-note_put-in-Some c =
    noted_some c.args.net.now c.args.laid c.in-Some.laid c.args.now c.args.self.now c.note_put.new.self c.in-Some.is c.requires.cells c.in_ok-note_put-in-Some.ensures
