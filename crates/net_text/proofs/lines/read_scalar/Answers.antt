use Rattle.net_text.proofs.LineTexts.{scalar_cut, name_none}
use Rattle.net_text.proofs.ReadLemmas.{none_some}
use Rattle.net_text.proofs.lines.read_scalar.Goals as goal

pub returns-in_default-of_name : goal.returns-in_default-of_name
returns-in_default-of_name c = λ s fits e.
    let cut = scalar_cut s c.args.line.now c.in-Some.rest.now c.in-Some-cut.name.now c.in-Some-cut.ty.now fits e c.in-Some.ensures c.in-Some-cut.ensures in
    none_some s.ty (c.in_default-of_name.ensures.every s.ty cut.1)

pub returns-in_default-2 : goal.returns-in_default-2
returns-in_default-2 c = λ s fits e.
    let cut = scalar_cut s c.args.line.now c.in-Some.rest.now c.in-Some-cut.name.now c.in-Some-cut.ty.now fits e c.in-Some.ensures c.in-Some-cut.ensures in
    name_none _ c.in_ok-name.field-0 c.in_default-2.is c.in_ok-name.ensures.some s.name fits cut.0
