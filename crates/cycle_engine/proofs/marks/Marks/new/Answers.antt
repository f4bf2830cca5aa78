use Rattle.std.proofs.Common.{◌∙◌, below_more, length, ap, arith}
use Rattle.net_types.specs.declared.net.Net.{Net}
use Rattle.cycle_engine.specs.private.Marking.{IsMarked}
use Rattle.cycle_engine.proofs.marks.Marks.new.Goals as goal

pub loop-at-preserved : goal.loop-at-preserved
loop-at-preserved c =
    let kept = c.in_ok-mark.ensures.kept in
    let units = ap length (c.as_slice-count.ensures ∙ ap (λ (n : Net). n.units) c.net.ensures.net) in
    record {
      long = kept.long ∙ c.loop-at.invariant.long;
      listed = kept.listed c.args.net.now c.loop-at.invariant.listed;
      each = below_more (IsMarked c.mark.new.self) c.loop-at.at (λ u l. kept.kept u (c.loop-at.invariant.each u l)) (c.in_ok-mark.ensures.marked (omega arith));
    }
