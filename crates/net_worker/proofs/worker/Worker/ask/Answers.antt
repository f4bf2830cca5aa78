use Rattle.std.proofs.Common.{◌≡◌, inl, inr, ◌<◌, ◌∙◌, length, get_or, ap, sym, subst, arith}
use Rattle.std.proofs.lemmas.Bool.{cases_lt}
use Rattle.std.proofs.lemmas.List.{get_or_default, get_or_read}
use Rattle.net_worker.specs.Offers.{NoCreditAt}
use Rattle.net_worker.specs.Workers.{IsAwaited, put_end}
use Rattle.net_worker.proofs.Asking.{asked_self}
use Rattle.net_worker.proofs.Glancing.{asked_looked, looked_trans}
use Rattle.net_worker.proofs.Turning.{denied_more}
use Rattle.net_worker.proofs.worker.Worker.ask.Goals as goal

pub loop-at-init : goal.loop-at-init
loop-at-init c = record {
  made = c.requires.made;
  looked = asked_looked c.args.self.now c.args.self.now (asked_self c.args.self.now);
  denied = λ r k l. absurd (omega arith);
}

pub loop-at-preserved : goal.loop-at-preserved
loop-at-preserved c =
    let a = c.args.self.now in
    let m = c.loop-at.self in
    let b = c.ask_at.new.self in
    let k : length m.outs.items ≡ length a.outs.items = ap (λ v. length v.items) c.loop-at.invariant.looked.outs in
    let l : c.loop-at.at < length m.outs.items = omega arith in
    let e : c.index-chan.result.now ≡ get_or m.outs.items c.loop-at.at 0 = get_or_read m.outs.items c.loop-at.at c.index-chan.result.now l c.index-chan.ensures 0 in
    let i : c.index-chan.result.now ≡ get_or a.outs.items c.loop-at.at 0 = e ∙ ap (λ v. get_or v.items c.loop-at.at 0) c.loop-at.invariant.looked.outs in
    record {
      made = c.ask_at.ensures.made;
      looked = looked_trans a m b c.loop-at.invariant.looked c.ask_at.ensures.looked;
      denied = λ r k l. denied_more a m b c.index-chan.result.now (get_or a.outs.items k 0) c.loop-at.invariant.looked (c.ask_at.ensures.denied r)
          (λ w n. elim (cases_lt k c.loop-at.at) [
            | inl x ↦ c.loop-at.invariant.denied (c.ask_at.ensures.denied r).rested k x w
            | inr x ↦ (let q : k ≡ c.loop-at.at = omega arith in absurd (n (ap (λ j. get_or a.outs.items j 0) q ∙ sym i)))
          ]);
    }

pub returns-clause-denied : goal.returns-clause-denied
returns-clause-denied c =
    λ r d o.
    (let a = c.args.self.now in
    let h = c.requires.made.outs d o in
    let l : h.0 < c.loop-at.at = omega (arith, h.1) in
    subst (λ n. IsAwaited c.loop-at.self n → NoCreditAt (put_end a n) (put_end c.loop-at.self n)) (get_or_default a.outs.items h.0 0 d h.1 ∙ h.2) (c.loop-at.invariant.denied r h.0 l))
