use Rattle.net_worker.proofs.worker.Worker.close.Goals as goal

pub returns-clause-made : goal.returns-clause-made
returns-clause-made c t m = record {
  of = m.of;
  counts = m.counts;
  own = m.own;
  room = m.room;
  ends = m.ends;
  ends_too = m.ends_too;
  clock = m.clock;
  after = m.after;
  local = m.local;
  sees = m.sees;
  exit = m.exit;
  held = m.held;
  held_stamps = m.held_stamps;
  puts_out = m.puts_out;
  takes_in = m.takes_in;
  outs = m.outs;
  outs_only = m.outs_only;
  ins = m.ins;
  ins_only = m.ins_only;
  repaid = m.repaid;
  rests = m.rests;
}
