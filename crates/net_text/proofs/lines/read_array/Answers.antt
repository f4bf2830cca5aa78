use Rattle.net_text.proofs.LineTexts.{array_cut, len_cut, len_uncut, name_none}
use Rattle.net_text.proofs.ReadLemmas.{none_some}
use Rattle.net_text.proofs.lines.read_array.Goals as goal

pub returns-in_default-cut-2 : goal.returns-in_default-cut-2
returns-in_default-cut-2 c = λ a fits e.
    let s1 = array_cut a c.args.line.now c.in-Some.rest.now c.in-Some-cut.name.now c.in-Some-cut.rest.now fits e c.in-Some.ensures c.in-Some-cut.ensures in
    len_uncut a c.in-Some-cut.rest.now s1.1 c.in_default-cut-2.ensures

pub returns-in_default-of_name : goal.returns-in_default-of_name
returns-in_default-of_name c = λ a fits e.
    let s1 = array_cut a c.args.line.now c.in-Some.rest.now c.in-Some-cut.name.now c.in-Some-cut.rest.now fits e c.in-Some.ensures c.in-Some-cut.ensures in
    let s2 = len_cut a c.in-Some-cut.rest.now c.in-Some-cut-2.ty.now c.in-Some-cut-2.len.now s1.1 c.in-Some-cut-2.ensures in
    none_some a.ty (c.in_default-of_name.ensures.every a.ty s2.0)

pub returns-in_default-read_u64 : goal.returns-in_default-read_u64
returns-in_default-read_u64 c = λ a fits e.
    let s1 = array_cut a c.args.line.now c.in-Some.rest.now c.in-Some-cut.name.now c.in-Some-cut.rest.now fits e c.in-Some.ensures c.in-Some-cut.ensures in
    let s2 = len_cut a c.in-Some-cut.rest.now c.in-Some-cut-2.ty.now c.in-Some-cut-2.len.now s1.1 c.in-Some-cut-2.ensures in
    none_some a.len (c.in_default-read_u64.ensures.every a.len fits.len s2.1)

pub returns-in_default-2 : goal.returns-in_default-2
returns-in_default-2 c = λ a fits e.
    let s1 = array_cut a c.args.line.now c.in-Some.rest.now c.in-Some-cut.name.now c.in-Some-cut.rest.now fits e c.in-Some.ensures c.in-Some-cut.ensures in
    name_none _ c.in_ok-name.field-0 c.in_default-2.is c.in_ok-name.ensures.some a.name fits.name s1.0
