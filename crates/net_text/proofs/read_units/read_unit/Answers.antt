use Rattle.std.proofs.Common.{sym, ◌∙◌}
use Rattle.std.proofs.lemmas.Result.{IfOk-weaker}
use Rattle.net_text.specs.Fits.{WritesUnit}
use Rattle.net_text.specs.Reads.{Reads, kind_text, unit_text}
use Rattle.net_text.proofs.UnitKinds.{reads_unit, unit_kind}
use Rattle.net_text.proofs.read_units.read_unit.Goals as goal

pub returns-in-Some : goal.returns-in-Some
returns-in-Some c = IfOk-weaker c.read_kind.result (λ o. Reads (WritesUnit c.args.version) (kind_text c.args.version) c.in-Some.kind.now o) (λ o. Reads (WritesUnit c.args.version) (unit_text c.args.version) c.args.line.now o)
    (λ o r. reads_unit c.args.version c.args.line.now c.in-Some.kind.now o c.in-Some.ensures r) c.read_kind.ensures

pub returns-in-None : goal.returns-in-None
returns-in-None c = λ u fits e. c.in-None.ensures (kind_text c.args.version u) (sym e ∙ unit_kind c.args.version u)
