use Rattle.std.proofs.Common.{◌∙◌, sym, map, ap, refl}
use Rattle.std.proofs.lemmas.Bool.{false≢true}
use Rattle.std.proofs.lemmas.Bool.Decides.{Decides-eqb}
use Rattle.std.proofs.lemmas.Result.{IfOk-weaker}
use Rattle.std.proofs.lemmas.Slice.Eq.{slice_eq-Decides}
use Rattle.net_text.specs.Fits.{GroupFits, GroupsFit}
use Rattle.net_text.specs.Pieces.{group_text, groups_text}
use Rattle.net_text.specs.Reads.{Reads}
use Rattle.net_text.proofs.Lists.{reads_joined}
use Rattle.net_text.proofs.GroupTexts.{group_lacks}
use Rattle.net_text.proofs.read_pieces.read_groups.Goals as goal

pub returns : goal.returns
returns c = IfOk-weaker c.read_group_list.result (λ o. Reads GroupsFit (map group_text) (map (λ part. part.now) c.as_slice-2.result.now) o) (λ o. Reads GroupsFit groups_text c.args.bytes.now o)
    (λ o r. reads_joined GroupFits 59 group_text groups_text c.args.bytes.now (map (λ part. part.now) c.as_slice-2.result.now) o
    group_lacks (λ x xs. refl)
    (λ e. false≢true (sym c.if-eq.false ∙ (slice_eq-Decides Decides-eqb _ _ _ c.eq.ensures).1 (e ∙ sym c.as_slice.ensures)))
    (ap (λ ps. map (λ part. part.now) ps) c.as_slice-2.ensures.value ∙ c.in_ok-parts.ensures) r) c.read_group_list.ensures
