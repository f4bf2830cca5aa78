use Rattle.std.proofs.Common.{None, Some, refl, ap, arith}
use Rattle.lsq_core.specs.declared.entry.PortAct.TheVariants as port
use Rattle.lsq_core.specs.Index.{in_row}
use Rattle.lsq_core.proofs.WaitLemmas.{port_of_row}
use Rattle.lsq_core.proofs.indexed.Indexed.next_addr_port.Goals as goal

pub overflow_cast-result : goal.overflow_cast-result
overflow_cast-result c =
    let n = c.in-Some.ensures c.self.inside.head c.self.inside.entries.queue.items c.self.invariant.shows.addr in
    let l = n.below in
    let f = c.ranges.ports.fits in
    omega arith

pub returns-in-None : goal.returns-in-None
returns-in-None c =
    port_of_row port.Addr c.self.inside.index.addr c.self.inside.entries.queue.items c.args.self.now.queue.items c.args.from c.args.ports None (λ r x. ap (λ k. in_row k c.self.inside.index.addr.rows r x) c.self.invariant.index.addr.kind) (λ r. refl)
    (ap (λ v. v.queue.items) c.self.view_is) (rw c.requires c.len.ensures.ports) (c.in-None.ensures c.self.inside.head c.self.inside.entries.queue.items c.self.invariant.shows.addr)

pub returns-in-Some : goal.returns-in-Some
returns-in-Some c =
    port_of_row port.Addr c.self.inside.index.addr c.self.inside.entries.queue.items c.args.self.now.queue.items c.args.from c.args.ports (Some c.in-Some.port) (λ r x. ap (λ k. in_row k c.self.inside.index.addr.rows r x) c.self.invariant.index.addr.kind) (λ r. refl)
    (ap (λ v. v.queue.items) c.self.view_is) (rw c.requires c.len.ensures.ports) (c.in-Some.ensures c.self.inside.head c.self.inside.entries.queue.items c.self.invariant.shows.addr)
