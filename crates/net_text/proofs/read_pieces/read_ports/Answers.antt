use Rattle.std.proofs.Common.{◌∙◌, sym, map, length, ap, eq-eqb}
use Rattle.std.proofs.lemmas.Bool.{false≢true}
use Rattle.std.proofs.lemmas.Bool.Decides.{Decides-eqb}
use Rattle.std.proofs.lemmas.Result.{IfOk-weaker}
use Rattle.std.proofs.lemmas.Slice.Eq.{slice_eq-Decides}
use Rattle.net_text.specs.Fits.{Always}
use Rattle.net_text.specs.Pieces.{port_letter, ports_text}
use Rattle.net_text.specs.Reads.{Reads}
use Rattle.net_text.proofs.Lists.{reads_ports}
use Rattle.net_text.proofs.read_pieces.read_ports.Goals as goal

pub returns : goal.returns
returns c = IfOk-weaker c.read_letters.result (λ o. Reads Always (map port_letter) c.args.bytes.now o) (λ o. Reads Always ports_text c.args.bytes.now o)
    (λ o r. reads_ports c.args.bytes.now o
    (λ e. false≢true (sym c.if-eq.false ∙ (slice_eq-Decides Decides-eqb _ _ _ c.eq.ensures).1 (e ∙ sym c.as_slice.ensures)))
    (λ e. false≢true (sym c.if-is_empty.false ∙ c.is_empty.ensures ∙ eq-eqb (length c.args.bytes.now) 0 (ap length e))) r) c.read_letters.ensures
