use Rattle.std.proofs.Common.{sym, ◌∙◌}
use Rattle.std.proofs.lemmas.Bool.{false≢true}
use Rattle.std.proofs.lemmas.Bool.Decides.{Decides-eqb}
use Rattle.std.proofs.lemmas.Slice.Eq.{slice_eq-Decides}
use Rattle.net_text.specs.Reads.{DelayFits, delay_text}
use Rattle.net_text.proofs.LineTexts.{delay_cut}
use Rattle.net_text.proofs.ReadLemmas.{none_some, reads_none}
use Rattle.net_text.proofs.lines.read_delay.Goals as goal

pub returns-in_err-read_u32-in-Some : goal.returns-in_err-read_u32-in-Some
returns-in_err-read_u32-in-Some c = reads_none DelayFits delay_text c.args.text.now _ c.from_residual.ensures (λ p fits e.
    let cut = delay_cut p c.args.text.now c.in-Some.delay.now c.in-Some.word.now fits e c.in-Some.ensures in
    none_some p.0 (c.in_err-read_u32-in-Some.ensures.every p.0 fits cut.0))

pub returns-in-Some-2 : goal.returns-in-Some-2
returns-in-Some-2 c = λ p fits e.
    let cut = delay_cut p c.args.text.now c.in-Some.delay.now c.in-Some.word.now fits e c.in-Some.ensures in
    false≢true (sym c.if-eq.false ∙ (slice_eq-Decides Decides-eqb _ _ _ c.eq.ensures).1 (sym cut.1 ∙ sym c.as_slice.ensures))
