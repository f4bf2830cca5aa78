use Rattle.std.proofs.Common.{refl, ◌∙◌, arith}
use Rattle.lsq_core.proofs.ViewLemmas.{fresh_step, room_left}
use Rattle.lsq_core.proofs.lsq.add_group.Goals as goal

pub add-requires-clause-room : goal.add-requires-clause-room
add-requires-clause-room c =
    let d = c.loop-port.invariant.depth in
    let r = room_left c.args.entries.now.queue.items c.loop-port.entries.queue.items c.args.entries.now.queue.next c.args.ports.now c.args.group.now c.loop-port.port-index c.args.entries.now.depth c.loop-port.invariant.items c.loop-port-test.true c.requires.room in
    omega arith

pub loop-port-preserved : goal.loop-port-preserved
loop-port-preserved c = record {
  items = fresh_step c.args.entries.now.queue.items c.loop-port.entries.queue.items c.add.new.self.queue.items c.args.entries.now.queue.next c.loop-port.entries.queue.next _ c.loop-port.port-index _ c.args.ports.now c.args.group.now
      c.loop-port-test.true refl c.loop-port.invariant.items c.loop-port.invariant.next c.is_store_at.ensures c.add.ensures.items;
  mark = c.add.ensures.mark ∙ c.loop-port.invariant.mark;
  next = (let a = c.add.ensures.next in let b = c.loop-port.invariant.next in omega arith);
  depth = c.add.ensures.depth ∙ c.loop-port.invariant.depth;
  ports = c.add.ensures.ports ∙ c.loop-port.invariant.ports;
}
