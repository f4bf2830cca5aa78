-- What trying firings came to.
use Rattle.std.proofs.Common.{◌≡◌, inl, inr, ℕ, ◌+◌, ◌<◌, ◌&&◌, Bool, true, false, cond, refl, ap, ◌∙◌, sym, subst, arith}
use Rattle.std.proofs.lemmas.Bool.{cases_lt}
use Rattle.net_types.specs.declared.firing.Act.{Act}
use Rattle.net_types.specs.declared.firing.Firing.{Firing}
use Rattle.net_types.specs.Nets.{firing}
use Rattle.net_types.specs.Order.{ActFits, ActLe, IsNextAct}
use Rattle.net_core.specs.Finds.{IsLeastAct}
use Rattle.net_core.specs.Fire.{enabled}
use Rattle.net_core.specs.States.{state_of}
use Rattle.net_worker.specs.Asking.{IsAsked}
use Rattle.net_worker.specs.Going.{IsRefused, IsHeld, IsUnitHeld, IsOwnHeld, IsAllHeld, UnitWaits, OneTriedAs, UnitTriedAs, OwnTriedAs, TriedAs}
use Rattle.net_worker.specs.Workers.{owner_in, IsWaiting, AllWait}
use Rattle.net_worker.specs.declared.passes.Tried.{Tried}
use Rattle.net_worker.specs.declared.passes.Tried.TheVariants as tried
use Rattle.net_worker.specs.declared.tables.Tables.{Tables}
use Rattle.net_worker.specs.declared.worker.Worker.{Worker}
use Rattle.net_worker.proofs.Asking.{asked_self, asked_trans}
use Rattle.net_worker.proofs.HeldBack.{refused_on, refused_since}
use Rattle.net_worker.proofs.Trying.{up_to, before_next}
use Rattle.net_worker.proofs.Waits.{waiting_on}

-- a firing that was held back is so after more asking
pub held_then_asked : (t : Tables) (a m b : Worker) (f : Firing) → IsHeld t a m f → IsAsked m b → IsHeld t a b f
held_then_asked t a m b f h k = record { asked = asked_trans a m b h.asked k; refused = refused_on t a m b f h.asked k h.refused }

module _ (t : Tables) (a b : Worker) where
  pub one_of : (f : Firing) (w : Bool) (r : Tried) → r ≡ cond w tried.Waiting tried.Held → IsHeld t a b f → (w ≡ true → IsWaiting t b f) → OneTriedAs t r a b f
  one_of f true r q h k = subst (λ x. OneTriedAs t x a b f) (sym q) (h, k refl)
  one_of f false r q h k = subst (λ x. OneTriedAs t x a b f) (sym q) h

  pub one_held : (f : Firing) (r : Tried) → OneTriedAs t r a b f → (r ≡ tried.Made → ⊥) → IsHeld t a b f
  one_held f tried.Made h n = absurd (n refl)
  one_held f tried.Held h n = h
  one_held f tried.Waiting h n = h.0

  pub one_waits : (f : Firing) (r : Tried) → OneTriedAs t r a b f → r ≡ tried.Waiting → IsWaiting t b f
  one_waits f r h q = (subst (λ x. OneTriedAs t x a b f) q h).1

  pub unit_of : (u : ℕ) (w : Bool) (r : Tried) → r ≡ cond w tried.Waiting tried.Held → IsUnitHeld t a b u → (w ≡ true → UnitWaits t b u) → UnitTriedAs t r a b u
  unit_of u true r q h k = subst (λ x. UnitTriedAs t x a b u) (sym q) (h, k refl)
  unit_of u false r q h k = subst (λ x. UnitTriedAs t x a b u) (sym q) h

  pub own_of : (u : ℕ) (r : Tried) → UnitTriedAs t r a b u → OwnTriedAs t r a b u
  own_of u tried.Made h = h
  own_of u tried.Held h = record { asked = h.asked; refused = λ _. h.refused }
  own_of u tried.Waiting h = (record { asked = h.0.asked; refused = λ _. h.0.refused }, λ _. h.1)

  pub own_held : (u : ℕ) (r : Tried) → OwnTriedAs t r a b u → (r ≡ tried.Made → ⊥) → IsOwnHeld t a b u
  own_held u tried.Made h n = absurd (n refl)
  own_held u tried.Held h n = h
  own_held u tried.Waiting h n = h.0

  pub own_waits : (u : ℕ) (r : Tried) → OwnTriedAs t r a b u → r ≡ tried.Waiting → owner_in t u ≡ a.number → UnitWaits t b u
  own_waits u r h q = (subst (λ x. OwnTriedAs t x a b u) q h).1

  pub all_of : (w : Bool) (r : Tried) → r ≡ cond w tried.Waiting tried.Held → IsAllHeld t a b → (w ≡ true → AllWait t b) → TriedAs t r a b
  all_of true r q h k = subst (λ x. TriedAs t x a b) (sym q) (h, k refl)
  all_of false r q h k = subst (λ x. TriedAs t x a b) (sym q) h

pub own_other : (t : Tables) (a : Worker) (u : ℕ) → (owner_in t u ≡ a.number → ⊥) → OwnTriedAs t tried.Waiting a a u
own_other t a u n = (record { asked = asked_self a; refused = λ q. absurd (n q) }, λ q. absurd (n q))

-- ---- the acts of a unit, one after another

module _ (t : Tables) (a m b : Worker) (u : ℕ) (from act : Act) (first : IsAsked a m) (r : Tried) (tried_so : OneTriedAs t r m b (firing u act)) (not_made : r ≡ tried.Made → ⊥)
    (least : IsLeastAct t.net.now (state_of m.portion.state) u from act) where
  held : IsHeld t m b (firing u act)
  held = one_held t m b (firing u act) r tried_so not_made

  pub asked_on : IsAsked a b
  asked_on = asked_trans a m b first held.asked

  state_m : state_of b.portion.state ≡ state_of m.portion.state
  state_m = ap (λ p. state_of p.state) held.asked.portion

  in_m : (x : Act) → enabled t.net.now (state_of b.portion.state) (firing u x) → enabled t.net.now (state_of m.portion.state) (firing u x)
  in_m x e = subst (λ s. enabled t.net.now s (firing u x)) state_m e

  module _ (sofar : (x : Act) → enabled t.net.now (state_of m.portion.state) (firing u x) → (ActLe from x → ⊥) → IsRefused t a m (firing u x)) where
    abbrev Refused : Act → Type 0
    Refused x = IsRefused t a b (firing u x)

    before : (x : Act) → enabled t.net.now (state_of m.portion.state) (firing u x) → (ActLe from x → ⊥) → Refused x
    before x e n = refused_on t a m b (firing u x) first held.asked (sofar x e n)

    here : Refused act
    here = refused_since t a m b (firing u act) first held.refused

    pub refused_up_to : (x : Act) → enabled t.net.now (state_of b.portion.state) (firing u x) → ActLe x act → IsRefused t a b (firing u x)
    refused_up_to x e l = up_to t.net.now (state_of m.portion.state) u from act Refused before least here x (in_m x e) l

    pub refused_before : (next : Act) → IsNextAct act next → (x : Act) → ActFits x → enabled t.net.now (state_of b.portion.state) (firing u x) → (ActLe next x → ⊥) → IsRefused t a b (firing u x)
    refused_before next i x fits e n = before_next t.net.now (state_of m.portion.state) u from act Refused before least here next i x fits (in_m x e) n

  module _ (waits : r ≡ tried.Waiting) (sofar : (x : Act) → enabled t.net.now (state_of m.portion.state) (firing u x) → (ActLe from x → ⊥) → IsWaiting t m (firing u x)) where
    abbrev Waits : Act → Type 0
    Waits x = IsWaiting t b (firing u x)

    waits_sofar : (x : Act) → enabled t.net.now (state_of m.portion.state) (firing u x) → (ActLe from x → ⊥) → Waits x
    waits_sofar x e n = waiting_on t m b held.asked.number state_m held.asked.waits (firing u x) (sofar x e n)

    waits_here : Waits act
    waits_here = one_waits t m b (firing u act) r tried_so waits

    pub waits_up_to : (x : Act) → enabled t.net.now (state_of b.portion.state) (firing u x) → ActLe x act → IsWaiting t b (firing u x)
    waits_up_to x e l = up_to t.net.now (state_of m.portion.state) u from act Waits waits_sofar least waits_here x (in_m x e) l

    pub waits_before : (next : Act) → IsNextAct act next → (x : Act) → ActFits x → enabled t.net.now (state_of b.portion.state) (firing u x) → (ActLe next x → ⊥) → IsWaiting t b (firing u x)
    waits_before next i x fits e n = before_next t.net.now (state_of m.portion.state) u from act Waits waits_sofar least waits_here next i x fits (in_m x e) n

-- ---- the units, one after another

module _ (t : Tables) (a m b : Worker) (u : ℕ) (first : IsAsked a m) (r : Tried) (tried_so : OwnTriedAs t r m b u) (not_made : r ≡ tried.Made → ⊥) where
  own : IsOwnHeld t m b u
  own = own_held t m b u r tried_so not_made

  pub own_asked : IsAsked a b
  own_asked = asked_trans a m b first own.asked

  pub own_refused : ((f : Firing) → f.unit < u → owner_in t f.unit ≡ a.number → enabled t.net.now (state_of a.portion.state) f → IsRefused t a m f)
      → (f : Firing) → f.unit < u + 1 → owner_in t f.unit ≡ a.number → enabled t.net.now (state_of a.portion.state) f → IsRefused t a b f
  own_refused sofar f l mine e =
      elim (cases_lt f.unit u) [
        | inl k ↦ refused_on t a m b f first own.asked (sofar f k mine e)
        | inr k ↦
            (let q : f.unit ≡ u = omega arith in
            refused_since t a m b f first
            (subst (λ n. IsRefused t m b (firing n f.act)) (sym q)
            (own.refused (ap (owner_in t) (sym q) ∙ (mine ∙ sym first.number)) f.act
            (subst (λ n. enabled t.net.now (state_of m.portion.state) (firing n f.act)) q (subst (λ s. enabled t.net.now (state_of s.state) f) (sym first.portion) e)))))
      ]

  pub own_waiting : r ≡ tried.Waiting → ((f : Firing) → f.unit < u → owner_in t f.unit ≡ m.number → enabled t.net.now (state_of m.portion.state) f → IsWaiting t m f)
      → (f : Firing) → f.unit < u + 1 → owner_in t f.unit ≡ b.number → enabled t.net.now (state_of b.portion.state) f → IsWaiting t b f
  own_waiting q sofar f l mine e =
      elim (cases_lt f.unit u) [
        | inl k ↦ waiting_on t m b own.asked.number (ap (λ p. state_of p.state) own.asked.portion) own.asked.waits f (sofar f k (mine ∙ own.asked.number) (subst (λ s. enabled t.net.now (state_of s.state) f) own.asked.portion e))
        | inr k ↦
            (let z : f.unit ≡ u = omega arith in
            subst (λ n. IsWaiting t b (firing n f.act)) (sym z)
            (own_waits t m b u r tried_so q (ap (owner_in t) (sym z) ∙ (mine ∙ own.asked.number)) f.act (subst (λ n. enabled t.net.now (state_of b.portion.state) (firing n f.act)) z e)))
      ]

pub both_true : (a b : Bool) → (a && b) ≡ true → (a ≡ true) × (b ≡ true)
both_true true true h = (refl, refl)
both_true true false h = cc
both_true false b h = cc
