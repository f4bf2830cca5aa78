use Rattle.std.proofs.Common.{◌≡◌, ◌<◌, ◌+◌, ◌&&◌, length, subst, sym, ◌∙◌}
use Rattle.std.proofs.lemmas.Bool.{false≢true}
use Rattle.net_core.specs.Fire.{enabled}
use Rattle.net_core.specs.States.{state_of}
use Rattle.net_types.specs.declared.firing.Act.{Act}
use Rattle.net_types.specs.Nets.{firing}
use Rattle.net_types.specs.Order.{ActLe}
use Rattle.net_worker.specs.Workers.{IsWaiting}
use Rattle.net_worker.proofs.Asking.{asked_self}
use Rattle.net_worker.proofs.Firing.{goes_asked, later_same}
use Rattle.net_worker.proofs.Glancing.{same_whole}
use Rattle.net_worker.proofs.Tries.{both_true, unit_of, asked_on, refused_up_to, refused_before, waits_up_to, waits_before}
use Rattle.net_worker.proofs.Trying.{go_least, all_quiet}
use Rattle.net_worker.specs.declared.passes.Tried.TheVariants as tried
use Rattle.net_worker.proofs.worker.Worker.try_unit.Goals as goal

pub try_again-tried-requires-clause-whole : goal.try_again-tried-requires-clause-whole
try_again-tried-requires-clause-whole c =
    same_whole c.args.tables.now c.args.self.now c.acts.self
    (later_same c.args.tables.now c.args.self.now c.acts.self c.requires.made (goes_asked c.args.tables.now c.args.self.now c.acts.self c.requires.made c.acts.invariant.asked)) c.requires.whole

pub try_again-tried-requires-clause-room : goal.try_again-tried-requires-clause-room
try_again-tried-requires-clause-room c = subst (λ l. 0 < l.room) (sym c.acts.invariant.asked.log) c.requires.room

pub acts-init : goal.acts-init
acts-init c = record { made = c.requires.made; asked = asked_self c.args.self.now; fits = tt; refused = λ b e n. absurd (n (go_least b)); waits = λ w b e n. absurd (n (go_least b)) }

pub returns-in_default-clause-later : goal.returns-in_default-clause-later
returns-in_default-clause-later c = goes_asked c.args.tables.now c.args.self.now c.acts.self c.requires.made c.acts.invariant.asked

pub returns-in_default-clause-tried : goal.returns-in_default-clause-tried
returns-in_default-clause-tried c =
    let t = c.args.tables.now in
    let a = c.args.self.now in
    let m = c.acts.self in
    let u = c.args.unit in
    unit_of t a m u c.acts.waiting c.of.result c.of.ensures
    (record {
      asked = c.acts.invariant.asked;
      refused = λ x e. absurd_quiet x (subst (λ s. enabled t.net.now (state_of s.state) (firing u x)) (sym c.acts.invariant.asked.portion) e);
    })
    (λ w x e. all_quiet t.net.now (state_of m.portion.state) u c.acts.from (λ x. IsWaiting t m (firing u x)) (c.acts.invariant.waits w) c.in_default.ensures x e)
  where
    absurd_quiet : (x : _) → enabled c.args.tables.now.net.now (state_of c.acts.self.portion.state) (firing c.args.unit x) → Rattle.net_worker.specs.Going.IsRefused c.args.tables.now c.args.self.now c.acts.self (firing c.args.unit x)
    absurd_quiet x e = all_quiet c.args.tables.now.net.now (state_of c.acts.self.portion.state) c.args.unit c.acts.from (λ y. Rattle.net_worker.specs.Going.IsRefused c.args.tables.now c.args.self.now c.acts.self (firing c.args.unit y)) c.acts.invariant.refused c.in_default.ensures x e

pub returns-then-is_made-clause-later : goal.returns-then-is_made-clause-later
returns-then-is_made-clause-later c = λ z l. c.try_again-tried.ensures.later z (goes_asked c.args.tables.now c.args.self.now c.acts.self c.requires.made c.acts.invariant.asked z l)

pub returns-then-is_made-clause-tried : goal.returns-then-is_made-clause-tried
returns-then-is_made-clause-tried c =
    let t = c.args.tables.now in
    let h = subst (λ r. Rattle.net_worker.specs.Going.OneTriedAs t r c.acts.self c.try_again-tried.new.self (firing c.args.unit c.in-Some.act)) (c.is_made.ensures.0 c.if-is_made.true) c.try_again-tried.ensures.tried in
    subst (λ l. length c.try_again-tried.new.self.log.items ≡ length l.items + 1) c.acts.invariant.asked.log h

pub returns-in_default-next-clause-later : goal.returns-in_default-next-clause-later
returns-in_default-next-clause-later c = λ z l. c.try_again-tried.ensures.later z (goes_asked c.args.tables.now c.args.self.now c.acts.self c.requires.made c.acts.invariant.asked z l)

pub returns-in_default-next-clause-tried : goal.returns-in_default-next-clause-tried
returns-in_default-next-clause-tried c =
    let t = c.args.tables.now in
    let a = c.args.self.now in
    let m = c.acts.self in
    let b = c.try_again-tried.new.self in
    let u = c.args.unit in
    let r = c.try_again-tried.result in
    let act = c.in-Some.act in
    let first = c.acts.invariant.asked in
    let n : r ≡ tried.Made → ⊥ = λ q. false≢true (sym c.if-is_made.false ∙ c.is_made.ensures.1 q) in
    let h = c.try_again-tried.ensures.tried in
    let on = asked_on t a m b u c.acts.from act first r h n c.in-Some.ensures in
    let fits = c.acts_fit.ensures act (subst (λ s. enabled t.net.now (state_of s.state) (firing u act)) first.portion c.in-Some.ensures.fires) in
    let last : (x : Act) → enabled t.net.now (state_of a.portion.state) (firing u x) → ActLe x act = λ x e. c.acts_follow.ensures.last act x fits (sym c.in_default-next.ensures) (c.acts_fit.ensures x e) in
    unit_of t a b u (c.acts.waiting && c.is_waiting-waiting.result) c.of-in_default-next.result c.of-in_default-next.ensures
    (record {
      asked = on;
      refused = λ x e. refused_up_to t a m b u c.acts.from act first r h n c.in-Some.ensures c.acts.invariant.refused x (subst (λ s. enabled t.net.now (state_of s.state) (firing u x)) (sym on.portion) e) (last x e);
    })
    (λ w x e.
    (let v = both_true c.acts.waiting c.is_waiting-waiting.result w in
    waits_up_to t a m b u c.acts.from act first r h n c.in-Some.ensures (c.is_waiting-waiting.ensures.0 v.1) (c.acts.invariant.waits v.0) x e (last x (subst (λ s. enabled t.net.now (state_of s.state) (firing u x)) on.portion e))))

pub acts-preserved : goal.acts-preserved
acts-preserved c =
    let t = c.args.tables.now in
    let a = c.args.self.now in
    let m = c.acts.self in
    let b = c.try_again-tried.new.self in
    let u = c.args.unit in
    let r = c.try_again-tried.result in
    let act = c.in-Some.act in
    let first = c.acts.invariant.asked in
    let n : r ≡ tried.Made → ⊥ = λ q. false≢true (sym c.if-is_made.false ∙ c.is_made.ensures.1 q) in
    let h = c.try_again-tried.ensures.tried in
    let on = asked_on t a m b u c.acts.from act first r h n c.in-Some.ensures in
    let fits = c.acts_fit.ensures act (subst (λ s. enabled t.net.now (state_of s.state) (firing u act)) first.portion c.in-Some.ensures.fires) in
    let next = c.acts_follow.ensures.next act c.in-Some-next.next fits (sym c.in-Some-next.ensures) in
    record {
      made = c.try_again-tried.ensures.made;
      asked = on;
      fits = c.acts_follow.ensures.fits act c.in-Some-next.next fits (sym c.in-Some-next.ensures);
      refused = λ x e k. refused_before t a m b u c.acts.from act first r h n c.in-Some.ensures c.acts.invariant.refused c.in-Some-next.next next x (c.acts_fit.ensures x (subst (λ s. enabled t.net.now (state_of s.state) (firing u x)) on.portion e)) e k;
      waits = λ w x e k.
          (let v = both_true c.acts.waiting c.is_waiting-waiting.result w in
          waits_before t a m b u c.acts.from act first r h n c.in-Some.ensures (c.is_waiting-waiting.ensures.0 v.1) (c.acts.invariant.waits v.0) c.in-Some-next.next next x (c.acts_fit.ensures x (subst (λ s. enabled t.net.now (state_of s.state) (firing u x)) on.portion e)) e k);
    }
