use Rattle.std.proofs.Common.{◌∙◌, sym}
use Rattle.std.proofs.lemmas.Bool.{false≢true}
use Rattle.std.proofs.lemmas.Bool.Decides.{Decides-eqb}
use Rattle.std.proofs.lemmas.Slice.Eq.{slice_eq-Decides}
use Rattle.net_text.proofs.UnitKinds.{plain_none}
use Rattle.net_text.proofs.read_units.read_plain.Goals as goal

pub returns : goal.returns
returns c = plain_none c.args.text.now
    (λ e. false≢true (sym c.if-eq.false ∙ (slice_eq-Decides Decides-eqb _ _ _ c.eq.ensures).1 (e ∙ sym c.as_slice.ensures)))
    (λ e. false≢true (sym c.if-eq-2.false ∙ (slice_eq-Decides Decides-eqb _ _ _ c.eq-2.ensures).1 (e ∙ sym c.as_slice-2.ensures)))
    c.in_default.ensures c.in_default-number_after.ensures c.in_default-pair_after.ensures c.in_default-pair_after-2.ensures
    c.in_default-number_after-2.ensures c.in_default-number_after-3.ensures c.in_default-number_after-4.ensures c.in_default-number_after-5.ensures
    c.in_default-const_after.ensures c.in_default-op1_after.ensures c.in_default-op2_after.ensures
