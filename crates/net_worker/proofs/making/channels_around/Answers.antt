use Rattle.net_worker.specs.Places.{has_end}
use Rattle.net_worker.specs.Workers.{IsInto, IsOutOf}
use Rattle.net_worker.proofs.Givings.{listed_if, only_if}
use Rattle.net_worker.proofs.EndPlaces.{channels_if}
use Rattle.net_worker.proofs.Holdings.{numbers_more}
use Rattle.net_worker.proofs.making.channels_around.Goals as goal

pub loop-at-preserved : goal.loop-at-preserved
loop-at-preserved c = record {
  outs = listed_if (IsOutOf c.args.tables.now c.args.number) c.loop-at.at c.loop-at.outs.items c.note_if.new.chans.items c.is_out-goes_out.result c.is_out-goes_out.ensures.0 c.is_out-goes_out.ensures.1 c.in_ok-note_if.ensures c.loop-at.invariant.outs;
  outs_only = only_if (IsOutOf c.args.tables.now c.args.number) c.loop-at.at c.loop-at.outs.items c.note_if.new.chans.items c.is_out-goes_out.result c.is_out-goes_out.ensures.0 c.in_ok-note_if.ensures c.loop-at.invariant.outs_only;
  outs_ascend = channels_if c.loop-at.at c.loop-at.outs.items c.note_if.new.chans.items c.is_out-goes_out.result c.in_ok-note_if.ensures c.loop-at.invariant.outs_ascend;
  ins = listed_if (IsInto c.args.tables.now c.args.number) c.loop-at.at c.loop-at.ins.items c.note_if-in-loop-at.new.chans.items c.is_into-comes_in.result c.is_into-comes_in.ensures.0 c.is_into-comes_in.ensures.1 c.in_ok-note_if-2.ensures c.loop-at.invariant.ins;
  ins_only = only_if (IsInto c.args.tables.now c.args.number) c.loop-at.at c.loop-at.ins.items c.note_if-in-loop-at.new.chans.items c.is_into-comes_in.result c.is_into-comes_in.ensures.0 c.in_ok-note_if-2.ensures c.loop-at.invariant.ins_only;
  ins_ascend = channels_if c.loop-at.at c.loop-at.ins.items c.note_if-in-loop-at.new.chans.items c.is_into-comes_in.result c.in_ok-note_if-2.ensures c.loop-at.invariant.ins_ascend;
  all = numbers_more (has_end c.args.tables.now.net.now c.args.tables.now.owners c.args.number) c.loop-at.at c.loop-at.all.items c.note_if-in-loop-at-2.new.chans.items c.is_at-own.result c.is_at-own.ensures c.in_ok-note_if-3.ensures c.loop-at.invariant.all;
}
