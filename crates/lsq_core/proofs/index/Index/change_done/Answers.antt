use Rattle.lsq_core.specs.declared.marks.Kind.TheVariants as kind
use Rattle.lsq_core.specs.Acts.{executed}
use Rattle.lsq_core.specs.Index.{buckets}
use Rattle.lsq_core.proofs.IndexLemmas.{now_shows, still_shows, pending_within}
use Rattle.lsq_core.proofs.index.Index.change_done.Goals as goal
use Rattle.std.proofs.Common.{refl, ◌*◌}

pub change-requires-3-clause-new : goal.change-requires-3-clause-new
change-requires-3-clause-new g c = pending_within g.shape.1 c.args.self.now.pending c.with-new.result c.requires.0.pending c.requires.0.some

pub returns-clause-shows : goal.returns-clause-shows
returns-clause-shows g c = λ head at items pe l is h. record {
  addr = still_shows c.args.self.now.addr kind.Addr g.shape.0 g.shape.1 head at items c.args.old.now (executed c.args.value c.args.old.now) c.requires.0.addr (λ r. refl) refl l is h.addr;
  «data» = still_shows c.args.self.now.«data» kind.Data g.shape.0 g.shape.1 head at items c.args.old.now (executed c.args.value c.args.old.now) c.requires.0.«data» (λ r. refl) refl l is h.«data»;
  reply = still_shows c.args.self.now.reply kind.Reply g.shape.0 g.shape.1 head at items c.args.old.now (executed c.args.value c.args.old.now) c.requires.0.reply (λ r. refl) refl l is h.reply;
  blank = still_shows c.args.self.now.blank kind.Blank 2 g.shape.1 head at items c.args.old.now (executed c.args.value c.args.old.now) c.requires.0.blank (λ r. refl) refl l is h.blank;
  answer = now_shows c.args.self.now.answer c.change.new.self kind.Answer g.shape.0 g.shape.1 c.args.place head at items c.args.old.now c.with-new.result (executed c.args.value c.args.old.now) c.requires.0.answer pe l is c.with-new.ensures refl c.change.ensures.shows h.answer;
  ready = now_shows c.args.self.now.ready c.change-2.new.self kind.Ready 2 g.shape.1 c.args.place head at items c.args.old.now c.with-new.result (executed c.args.value c.args.old.now) c.requires.0.ready pe l is c.with-new.ensures refl c.change-2.ensures.shows h.ready;
  pending = now_shows c.args.self.now.pending c.change-3.new.self kind.Pending (2 * buckets g.shape.1) g.shape.1 c.args.place head at items c.args.old.now c.with-new.result (executed c.args.value c.args.old.now) c.requires.0.pending pe l is c.with-new.ensures refl c.change-3.ensures.shows h.pending;
}
