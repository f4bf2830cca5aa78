use Rattle.std.proofs.Common.{◌++◌, sym, subst}
use Rattle.elastic_top.specs.Lines.{AreGathered}
use Rattle.elastic_top.proofs.Cuts.{all_written, cut_on, on_any}
use Rattle.elastic_top.proofs.line.write_alone.Goals as goal

pub returns-clause-ok : goal.returns-clause-ok
returns-clause-ok g c =
    subst (λ h. AreGathered (g.E.Sink.written c.args.err.now) (g.E.Sink.written c.write_all.new.sink) h (c.args.gathered.now.items ++ c.args.bytes.now)) (sym c.in_ok-flush.ensures.empty)
    (all_written _ _ _ _ _ c.in_ok-flush.ensures.ok c.in_ok-write_all.ensures.ok)

pub returns-in_err-write_all-clause-cut : goal.returns-in_err-write_all-clause-cut
returns-in_err-write_all-clause-cut g c = on_any _ _ (cut_on _ _ _ _ _ c.in_ok-flush.ensures.ok c.in_err-write_all.ensures.cut)
