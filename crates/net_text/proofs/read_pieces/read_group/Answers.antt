use Rattle.std.proofs.Common.{◌∙◌, sym, map, ap, decimal, refl, arith, lit<}
use Rattle.std.proofs.lemmas.Bool.{false≢true}
use Rattle.std.proofs.lemmas.Bool.Decides.{Decides-eqb}
use Rattle.std.proofs.lemmas.Result.{IfOk-weaker}
use Rattle.std.proofs.lemmas.Slice.Eq.{slice_eq-Decides}
use Rattle.el_base.specs.Limits.{IsNumbered}
use Rattle.net_text.specs.Fits.{GroupFits}
use Rattle.net_text.specs.Pieces.{group_text}
use Rattle.net_text.specs.Reads.{Reads}
use Rattle.net_text.proofs.Cuts.{decimal_lacks}
use Rattle.net_text.proofs.Lists.{reads_joined}
use Rattle.net_text.proofs.read_pieces.read_group.Goals as goal

pub returns : goal.returns
returns c = IfOk-weaker c.read_numbers.result (λ o. Reads GroupFits (map decimal) (map (λ part. part.now) c.as_slice-2.result.now) o) (λ o. Reads GroupFits group_text c.args.bytes.now o)
    (λ o r. reads_joined IsNumbered 44 decimal group_text c.args.bytes.now (map (λ part. part.now) c.as_slice-2.result.now) o
    (λ n fits. decimal_lacks 44 n (lit< tt) (omega (arith, fits))) (λ x xs. refl)
    (λ e. false≢true (sym c.if-eq.false ∙ (slice_eq-Decides Decides-eqb _ _ _ c.eq.ensures).1 (e ∙ sym c.as_slice.ensures)))
    (ap (λ ps. map (λ part. part.now) ps) c.as_slice-2.ensures.value ∙ c.in_ok-parts.ensures) r) c.read_numbers.ensures
