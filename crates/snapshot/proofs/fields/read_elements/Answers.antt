use Rattle.net_types.specs.Inputs.{IsPatternOf}
use Rattle.net_text.proofs.Lists.{fits_at, one_more}
use Rattle.inputs_text.specs.Results.{written}
use Rattle.snapshot.proofs.fields.read_elements.Goals as goal

pub returns-in-None : goal.returns-in-None
returns-in-None c = λ vs fits e.
    let at = fits_at (λ w. w.now) (IsPatternOf c.args.ty) (written c.args.ty) vs c.args.words.now c.loop-word.word-index _ fits e c.loop-word-test.true in
    c.in-None.ensures at.0 at.1.0 at.1.1
