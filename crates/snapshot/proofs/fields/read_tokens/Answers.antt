use Rattle.std.proofs.Common.{decimal}
use Rattle.net_text.proofs.Lists.{fits_at, one_more}
use Rattle.net_text.proofs.ReadLemmas.{none_read, some_read}
use Rattle.snapshot.specs.private.Words.{PatternFits}
use Rattle.snapshot.proofs.fields.read_tokens.Goals as goal

pub returns-in-None : goal.returns-in-None
returns-in-None c = λ vs fits e.
    let at = fits_at (λ w. w.now) (PatternFits c.args.width) decimal vs c.args.words.now c.loop-word.word-index _ fits e c.loop-word-test.true in
    c.in-None.ensures at.0 at.1.0 at.1.1
