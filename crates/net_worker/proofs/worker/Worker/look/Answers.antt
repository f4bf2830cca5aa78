use Rattle.std.proofs.Common.{◌≡◌, ◌<◌, ◌∙◌, length, get_or, ap, subst, arith, below_more}
use Rattle.std.proofs.lemmas.List.{get_or_default, get_or_read}
use Rattle.net_worker.specs.Glances.{IsSeen}
use Rattle.net_worker.proofs.Asking.{asked_self}
use Rattle.net_worker.proofs.Glancing.{asked_looked, looked_trans, seen_later, seen_since}
use Rattle.net_worker.proofs.worker.Worker.look.Goals as goal

pub loop-at-init : goal.loop-at-init
loop-at-init c = record {
  made = c.requires.made;
  looked = asked_looked c.args.self.now c.args.self.now (asked_self c.args.self.now);
  seen = λ k l. absurd (omega arith);
}

pub loop-at-preserved : goal.loop-at-preserved
loop-at-preserved c =
    let a = c.args.self.now in
    let m = c.loop-at.self in
    let b = c.look_at.new.self in
    let k : length m.ins.items ≡ length a.ins.items = ap (λ v. length v.items) c.loop-at.invariant.looked.ins in
    let l : c.loop-at.at < length m.ins.items = omega arith in
    let e : c.index-chan.result.now ≡ get_or m.ins.items c.loop-at.at 0 = get_or_read m.ins.items c.loop-at.at c.index-chan.result.now l c.index-chan.ensures 0 in
    let i : get_or m.ins.items c.loop-at.at 0 ≡ get_or a.ins.items c.loop-at.at 0 = ap (λ v. get_or v.items c.loop-at.at 0) c.loop-at.invariant.looked.ins in
    record {
      made = c.look_at.ensures.made;
      looked = looked_trans a m b c.loop-at.invariant.looked c.look_at.ensures.looked;
      seen = below_more (λ k. IsSeen (get_or a.ins.items k 0) a b) c.loop-at.at
          (λ k l. seen_later (get_or a.ins.items k 0) a m b (c.loop-at.invariant.seen k l) c.look_at.ensures.looked)
          (subst (λ n. IsSeen n a b) (e ∙ i) (seen_since c.index-chan.result.now a m b c.loop-at.invariant.looked c.look_at.ensures.seen));
    }

pub returns-clause-seen : goal.returns-clause-seen
returns-clause-seen c =
    λ d i.
    (let a = c.args.self.now in
    let h = c.requires.made.ins d i in
    let l : h.0 < c.loop-at.at = omega (arith, h.1) in
    subst (λ n. IsSeen n a c.loop-at.self) (get_or_default a.ins.items h.0 0 d h.1 ∙ h.2) (c.loop-at.invariant.seen h.0 l))
