use Rattle.std.proofs.Common.{◌≡◌, inl, inr, ◌<◌, ◌≤◌, ◌+◌, ◌∙◌, length, ap, sym, subst, arith}
use Rattle.std.proofs.lemmas.Bool.{cases_lt, false≢true}
use Rattle.net_types.specs.declared.firing.Firing.{Firing}
use Rattle.net_core.specs.Fire.{enabled}
use Rattle.net_core.specs.States.{state_of}
use Rattle.net_core.proofs.FindLemmas.{past_quiet}
use Rattle.net_worker.specs.Going.{OwnTriedAs}
use Rattle.net_worker.specs.Workers.{owner_in}
use Rattle.net_worker.proofs.Asking.{asked_self}
use Rattle.net_worker.proofs.Firing.{goes_asked, later_same}
use Rattle.net_worker.proofs.Glancing.{same_whole}
use Rattle.net_worker.proofs.Tries.{both_true, all_of, own_asked, own_refused, own_waiting}
use Rattle.net_worker.specs.declared.passes.Tried.TheVariants as tried
use Rattle.net_worker.proofs.worker.Worker.exact_pass.Goals as goal

pub try_own-tried-requires-clause-whole : goal.try_own-tried-requires-clause-whole
try_own-tried-requires-clause-whole c =
    same_whole c.args.tables.now c.args.self.now c.loop-at.self
    (later_same c.args.tables.now c.args.self.now c.loop-at.self c.requires.made (goes_asked c.args.tables.now c.args.self.now c.loop-at.self c.requires.made c.loop-at.invariant.asked)) c.requires.whole

pub try_own-tried-requires-clause-room : goal.try_own-tried-requires-clause-room
try_own-tried-requires-clause-room c = subst (λ l. 0 < l.room) (sym c.loop-at.invariant.asked.log) c.requires.room

pub returns-then-is_made-clause-later : goal.returns-then-is_made-clause-later
returns-then-is_made-clause-later c = λ z l. c.try_own-tried.ensures.later z (goes_asked c.args.tables.now c.args.self.now c.loop-at.self c.requires.made c.loop-at.invariant.asked z l)

pub returns-then-is_made-clause-tried : goal.returns-then-is_made-clause-tried
returns-then-is_made-clause-tried c =
    let t = c.args.tables.now in
    let h = subst (λ r. OwnTriedAs t r c.loop-at.self c.try_own-tried.new.self c.loop-at.at) (c.is_made.ensures.0 c.if-is_made.true) c.try_own-tried.ensures.tried in
    subst (λ l. length c.try_own-tried.new.self.log.items ≡ length l.items + 1) c.loop-at.invariant.asked.log h

-- no unit below the span is the worker's own
pub loop-at-init : goal.loop-at-init
loop-at-init c = record {
  made = c.requires.made;
  asked = asked_self c.args.self.now;
  refused = λ f l mine e. absurd (below f l mine e);
  waits = λ w f l mine e. absurd (below f l mine e);
}
  where
    below : (f : Firing) → f.unit < c.span-span.result.first → owner_in c.args.tables.now f.unit ≡ c.args.self.now.number → enabled c.args.tables.now.net.now (state_of c.args.self.now.portion.state) f → ⊥
    below f l mine e = elim (cases_lt f.unit (length c.args.tables.now.net.now.units)) [
      | inl k ↦ omega (arith, (c.span-span.ensures f.unit k mine).0)
      | inr k ↦ past_quiet c.args.tables.now.net.now (state_of c.args.self.now.portion.state) f c.net.ensures.checked c.requires.made.of.long k e
    ]

pub loop-at-preserved : goal.loop-at-preserved
loop-at-preserved c =
    let t = c.args.tables.now in
    let a = c.args.self.now in
    let m = c.loop-at.self in
    let b = c.try_own-tried.new.self in
    let r = c.try_own-tried.result in
    let h = c.try_own-tried.ensures.tried in
    let first = c.loop-at.invariant.asked in
    let n : r ≡ tried.Made → ⊥ = λ q. false≢true (sym c.if-is_made.false ∙ c.is_made.ensures.1 q) in
    record {
      made = c.try_own-tried.ensures.made;
      asked = own_asked t a m b c.loop-at.at first r h n;
      refused = own_refused t a m b c.loop-at.at first r h n c.loop-at.invariant.refused;
      waits = λ w. (let v = both_true c.loop-at.waiting c.is_waiting-waiting.result w in own_waiting t a m b c.loop-at.at first r h n (c.is_waiting-waiting.ensures.0 v.1) (c.loop-at.invariant.waits v.0));
    }

pub returns-clause-later : goal.returns-clause-later
returns-clause-later c = goes_asked c.args.tables.now c.args.self.now c.loop-at.self c.requires.made c.loop-at.invariant.asked

pub returns-clause-tried : goal.returns-clause-tried
returns-clause-tried c =
    all_of c.args.tables.now c.args.self.now c.loop-at.self c.loop-at.waiting c.of.result c.of.ensures
    (record { asked = c.loop-at.invariant.asked; refused = λ f mine e. elim (cases_lt f.unit c.loop-at.at) [ inl l ↦ c.loop-at.invariant.refused f l mine e | inr l ↦ absurd (past f l mine e) ] })
    (λ w f mine e. elim (cases_lt f.unit c.loop-at.at) [
      | inl l ↦ c.loop-at.invariant.waits w f l mine e
      | inr l ↦ absurd (past f l (mine ∙ c.loop-at.invariant.asked.number) (subst (λ s. enabled c.args.tables.now.net.now (state_of s.state) f) c.loop-at.invariant.asked.portion e))
    ])
  where
    past : (f : Firing) → c.loop-at.at ≤ f.unit → owner_in c.args.tables.now f.unit ≡ c.args.self.now.number → enabled c.args.tables.now.net.now (state_of c.args.self.now.portion.state) f → ⊥
    past f l mine e = elim (cases_lt f.unit (length c.args.tables.now.net.now.units)) [
      | inl k ↦ (let s = c.span-span.ensures f.unit k mine in let n = ap (λ (x : _). length x.units) c.net.ensures.net in omega (arith, s.0, s.1))
      | inr k ↦ past_quiet c.args.tables.now.net.now (state_of c.args.self.now.portion.state) f c.net.ensures.checked c.requires.made.of.long k e
    ]
