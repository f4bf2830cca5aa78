use Rattle.lsq_core.specs.declared.marks.Kind.TheVariants as kind
use Rattle.lsq_core.specs.Acts.{with_addr}
use Rattle.lsq_core.specs.Index.{buckets}
use Rattle.lsq_core.proofs.IndexLemmas.{now_shows, shifted_shows, still_shows, pending_within}
use Rattle.lsq_core.proofs.index.Index.change_addr.Goals as goal
use Rattle.std.proofs.Common.{refl, ◌*◌}

pub transfer-requires-clause-old : goal.transfer-requires-clause-old
transfer-requires-clause-old g c = pending_within g.shape.1 c.args.self.now.pending c.args.old.now c.requires.0.pending c.requires.0.some

pub transfer-requires-clause-new : goal.transfer-requires-clause-new
transfer-requires-clause-new g c = pending_within g.shape.1 c.args.self.now.pending c.with-new.result c.requires.0.pending c.requires.0.some

pub returns-clause-shows : goal.returns-clause-shows
returns-clause-shows g c = λ head at items pe l is h. record {
  addr = now_shows c.args.self.now.addr c.change.new.self kind.Addr g.shape.0 g.shape.1 c.args.place head at items c.args.old.now c.with-new.result (with_addr c.args.addr c.args.old.now) c.requires.0.addr pe l is c.with-new.ensures refl c.change.ensures.shows h.addr;
  «data» = still_shows c.args.self.now.«data» kind.Data g.shape.0 g.shape.1 head at items c.args.old.now (with_addr c.args.addr c.args.old.now) c.requires.0.«data» (λ r. refl) refl l is h.«data»;
  reply = still_shows c.args.self.now.reply kind.Reply g.shape.0 g.shape.1 head at items c.args.old.now (with_addr c.args.addr c.args.old.now) c.requires.0.reply (λ r. refl) refl l is h.reply;
  answer = still_shows c.args.self.now.answer kind.Answer g.shape.0 g.shape.1 head at items c.args.old.now (with_addr c.args.addr c.args.old.now) c.requires.0.answer (λ r. refl) refl l is h.answer;
  blank = now_shows c.args.self.now.blank c.change-2.new.self kind.Blank 2 g.shape.1 c.args.place head at items c.args.old.now c.with-new.result (with_addr c.args.addr c.args.old.now) c.requires.0.blank pe l is c.with-new.ensures refl c.change-2.ensures.shows h.blank;
  ready = now_shows c.args.self.now.ready c.change-3.new.self kind.Ready 2 g.shape.1 c.args.place head at items c.args.old.now c.with-new.result (with_addr c.args.addr c.args.old.now) c.requires.0.ready pe l is c.with-new.ensures refl c.change-3.ensures.shows h.ready;
  pending = shifted_shows c.args.self.now.pending c.transfer.new.self kind.Pending (2 * buckets g.shape.1) g.shape.1 c.args.place head at items c.args.old.now c.with-new.result (with_addr c.args.addr c.args.old.now) c.requires.0.pending pe l is c.with-new.ensures c.transfer.ensures.shows h.pending;
}
