use Rattle.std.proofs.Common.{refl}
use Rattle.block_fold.proofs.TableLemmas.{appended_there}
use Rattle.block_fold.proofs.table.StepTable.append.Goals as goal

pub returns : goal.returns
returns c =
    let t = c.args.self.now in
    appended_there t (record { args = t.args; steps = c.push.new.self; places = c.note.new.places }) c.args.step c.values-number.result c.requires.places refl c.in_ok-push.ensures.ok c.values-number.ensures c.in_ok-note.ensures
