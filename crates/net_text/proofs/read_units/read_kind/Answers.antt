use Rattle.std.proofs.Common.{List, ℕ, IfOk, sym, subst}
use Rattle.net_text.specs.Fits.{WritesUnit}
use Rattle.net_text.specs.Reads.{Reads, kind_text}
use Rattle.net_text.proofs.UnitKinds.{reads_plain}
use Rattle.net_text.proofs.read_units.read_kind.Goals as goal

pub returns-in-Some : goal.returns-in-Some
returns-in-Some c =
    let P : List ℕ → Type 0 = λ t. IfOk c.read_queue.result (λ o. Reads (WritesUnit c.args.version) (kind_text c.args.version) t o) in
    subst P (sym c.in-Some.ensures) c.read_queue.ensures

pub returns-in-None : goal.returns-in-None
returns-in-None c = reads_plain c.args.version c.args.text.now c.read_plain.result c.in-None.ensures c.read_plain.ensures
