use Rattle.lsq_core.specs.declared.marks.Kind.TheVariants as kind
use Rattle.lsq_core.specs.Acts.{answered}
use Rattle.lsq_core.specs.Index.{buckets}
use Rattle.lsq_core.proofs.IndexLemmas.{now_shows, still_shows}
use Rattle.lsq_core.proofs.index.Index.change_replied.Goals as goal
use Rattle.std.proofs.Common.{refl, ◌*◌}

pub returns-clause-shows : goal.returns-clause-shows
returns-clause-shows g c = λ head at items pe l is h. record {
  addr = still_shows c.args.self.now.addr kind.Addr g.shape.0 g.shape.1 head at items c.args.old.now (answered c.args.old.now) c.requires.0.addr (λ r. refl) refl l is h.addr;
  «data» = still_shows c.args.self.now.«data» kind.Data g.shape.0 g.shape.1 head at items c.args.old.now (answered c.args.old.now) c.requires.0.«data» (λ r. refl) refl l is h.«data»;
  reply = now_shows c.args.self.now.reply c.change.new.self kind.Reply g.shape.0 g.shape.1 c.args.place head at items c.args.old.now c.with-new.result (answered c.args.old.now) c.requires.0.reply pe l is c.with-new.ensures refl c.change.ensures.shows h.reply;
  answer = now_shows c.args.self.now.answer c.change-2.new.self kind.Answer g.shape.0 g.shape.1 c.args.place head at items c.args.old.now c.with-new.result (answered c.args.old.now) c.requires.0.answer pe l is c.with-new.ensures refl c.change-2.ensures.shows h.answer;
  blank = still_shows c.args.self.now.blank kind.Blank 2 g.shape.1 head at items c.args.old.now (answered c.args.old.now) c.requires.0.blank (λ r. refl) refl l is h.blank;
  ready = still_shows c.args.self.now.ready kind.Ready 2 g.shape.1 head at items c.args.old.now (answered c.args.old.now) c.requires.0.ready (λ r. refl) refl l is h.ready;
  pending = still_shows c.args.self.now.pending kind.Pending (2 * buckets g.shape.1) g.shape.1 head at items c.args.old.now (answered c.args.old.now) c.requires.0.pending (λ r. refl) refl l is h.pending;
}
