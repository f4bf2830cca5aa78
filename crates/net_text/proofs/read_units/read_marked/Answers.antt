use Rattle.net_text.specs.Fits.{GroupsFit}
use Rattle.net_text.specs.Pieces.{groups_text, mark_text}
use Rattle.net_text.proofs.ReadLemmas.{none_read}
use Rattle.net_text.proofs.UnitKinds.{groups_cut}
use Rattle.net_text.proofs.read_units.read_marked.Goals as goal

pub returns-in_default-read_mark : goal.returns-in_default-read_mark
returns-in_default-read_mark c = λ p f e.
    let cut = groups_cut p.0 (mark_text p.1) c.args.text.now c.in-Some.groups.now c.in-Some.mark.now f.0 e c.in-Some.ensures in
    c.in_default-read_mark.ensures p.1 tt cut.1

pub returns-in-None : goal.returns-in-None
returns-in-None c = λ p f e.
    let cut = groups_cut p.0 (mark_text p.1) c.args.text.now c.in-Some.groups.now c.in-Some.mark.now f.0 e c.in-Some.ensures in
    none_read GroupsFit groups_text c.in-Some.groups.now c.in_ok-groups.field-0 c.in-None.is c.in_ok-groups.ensures p.0 f.0 cut.0
