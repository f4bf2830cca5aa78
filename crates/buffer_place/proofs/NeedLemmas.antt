-- Where registers stand: on each cycle of channels whose classes have no delay, and by a depth, feedback aside, only where a chain would weigh more.
use Rattle.std.proofs.Common.{◌≡◌, ◌⊎◌, inl, inr, ℕ, zero, suc, ◌+◌, ◌<◌, ◌==◌, Bool, true, false, cond, List, [], ◌∷◌, ◌++◌, refl, sym, ap, subst, ◌∙◌, arith}
use Rattle.std.specs.Prelude.{nat_le, Option, Some, None}
use Rattle.std.proofs.lemmas.Bool.{cases_lt, eq-eqb, leb-false}
use Rattle.net_types.specs.declared.net.Chan.{Chan}
use Rattle.net_types.specs.declared.net.Net.{Net}
use Rattle.net_types.specs.Nets.{kind_of, chan_at}
use Rattle.net_check.specs.Cycles.{IsInstant, Leads, IsClosedWalk}
use Rattle.net_check.specs.Retimed.{SamePlain}
use Rattle.buffer_place.specs.declared.timing.Timing.{Timing}
use Rattle.buffer_place.specs.Timings.{source_delay}
use Rattle.buffer_place.specs.Chains.{weight, walk_weight, depth_delay}
use Rattle.buffer_place.specs.Placing.{classed, IsDeep, MayStay, HasRegister, AreDelays, AreDepthDelays, CyclesHaveRegisters, RegistersAreNeeded}
use Rattle.buffer_place.proofs.EdgeLemmas.{within_of, instant_target, instant_source}
use Rattle.buffer_place.proofs.DepthLemmas.{weights_same, many_same, ends_same, goes_up, no_cycle}

-- ---- walks of the weight of a level

-- a walk with one channel more
longer : (net : Net) (v s u c : ℕ) (cs : List ℕ) → Leads net v cs s → IsInstant net s u c → Leads net v (cs ++ c ∷ []) u
longer net v s u c [] l i =
    let j : IsInstant net v u c = subst (λ x. IsInstant net x u c) (sym l) i in
    (subst (λ x. IsInstant net v x c) (sym i.target) j, i.target)
longer net v s u c (d ∷ cs) l i = (l.0, longer net (chan_at net d).to.unit s u c cs l.1 i)

heavier : (net : Net) (v s u c : ℕ) (cs : List ℕ) → Leads net v cs s → IsInstant net s u c → walk_weight net v (cs ++ c ∷ []) ≡ walk_weight net v cs + weight (kind_of net u)
heavier net v s u c [] l i = ap (λ x. weight (kind_of net v) + weight (kind_of net x)) i.target
heavier net v s u c (d ∷ cs) l i = let h = heavier net (chan_at net d).to.unit s u c cs l.1 i in omega arith

-- a walk to the unit that weighs its level
record IsReached (net : Net) (level : ℕ → ℕ) (u : ℕ) : Type 0 where
  pub start : ℕ
  pub walk : List ℕ
  pub leads : Leads net start walk u
  pub weighs : walk_weight net start walk ≡ level u

module _ (t : Timing) (depth : ℕ) (old new : Net) (same : SamePlain old new) (d : AreDepthDelays t depth old new) where
  reached_before : (k u : ℕ) → d.order u < k → IsReached new d.level u
  reached_before zero u l = absurd (omega arith)
  reached_before (suc k) u l = elim (d.levels.least u) [
    | inl e ↦ record { start = u; walk = []; leads = refl; weighs = sym e }
    | inr o ↦ (
        let up = goes_up t depth d.level old new same d.delays d.order d.rising o.source u o.chan o.instant in
        let r = reached_before k o.source (omega arith) in
        record {
          start = r.start;
          walk = r.walk ++ o.chan ∷ [];
          leads = longer new r.start o.source u o.chan r.walk r.leads o.instant;
          weighs = heavier new r.start o.source u o.chan r.walk r.leads o.instant ∙ ap (λ n. n + weight (kind_of new u)) r.weighs ∙ sym o.is;
        })
  ]

  reached : (u : ℕ) → IsReached new d.level u
  reached u = reached_before (suc (d.order u)) u (omega arith)

  high : (c : Chan) → source_delay t old c ≡ 0 → 0 < depth_delay t depth d.level old c → depth < d.level c.from.unit + weight (kind_of old c.to.unit)
  high c z = by (nat_le (d.level c.from.unit + weight (kind_of old c.to.unit)) depth) refl
    where
      by : (b : Bool) → nat_le (d.level c.from.unit + weight (kind_of old c.to.unit)) depth ≡ b → 0 < cond (source_delay t old c == 0) (cond b 0 1) (source_delay t old c) → depth < d.level c.from.unit + weight (kind_of old c.to.unit)
      by true e l = (let q = ap (λ x. cond x 0 (source_delay t old c)) (eq-eqb _ _ z) in absurd (omega arith))
      by false e l = leb-false _ _ e

  pub needed : (c : ℕ) → MayStay t old c → 0 < (chan_at new c).delay → IsDeep depth new (chan_at new c)
  needed c m l =
      let x = chan_at old c in
      let h : depth < d.level x.from.unit + weight (kind_of old x.to.unit) = high x m.class (omega (arith, d.delays.other c m.within m.ahead)) in
      let e = ends_same old new same c m.within in
      let f : (chan_at new c).from.unit ≡ x.from.unit = ap (λ (y : Chan). y.from.unit) e in
      let g : (chan_at new c).to.unit ≡ x.to.unit = ap (λ (y : Chan). y.to.unit) e in
      let r = reached (chan_at new c).from.unit in
      record {
        start = r.start;
        walk = r.walk;
        leads = r.leads;
        above = omega (arith, r.weighs, ap d.level f, ap (λ u. weight (kind_of old u)) g, weights_same old new same (chan_at new c).to.unit, h);
      }

-- ---- registers on cycles

module _ (t : Timing) (old new : Net) (same : SamePlain old new) where
  -- a walk has a register, or is one along channels without delay
  leads_or : (cs : List ℕ) (v u : ℕ) → Leads (classed t old) v cs u → HasRegister new cs ⊎ Leads new v cs u
  leads_or [] v u l = inr l
  leads_or (c ∷ cs) v u l = elim (cases_lt 0 (chan_at new c).delay) [
    | inl some ↦ inl (0, omega arith, some)
    | inr none ↦ (
        let w = (chan_at (classed t old) c).to.unit in
        let k = within_of t old v w c l.0 in
        let e = ends_same old new same c k in
        let g : (chan_at new c).to.unit ≡ w = ap (λ (y : Chan). y.to.unit) e ∙ instant_target t old v w c l.0 in
        let i : IsInstant new v (chan_at new c).to.unit c =
        record { within = omega (arith, many_same old new same, k); delay = omega arith; source = ap (λ (y : Chan). y.from.unit) e ∙ instant_source t old v w c l.0; target = refl } in
        elim (leads_or cs w u l.1) [
          | inl h ↦ inl (suc h.0, (let n = h.1 in omega arith), h.2)
          | inr h ↦ inr (i, subst (λ x. Leads new x cs u) (sym g) h)
        ])
  ]

  cycle_has : (d : Option ℕ) → AreDelays t d old new → (cs : List ℕ) → IsClosedWalk (classed t old) cs → HasRegister new cs
  cycle_has None a [] w = let l = w.some in absurd (omega arith)
  cycle_has None a (c ∷ cs) w = (0, omega arith, (let e = a.on_cycle c (cs, w) in omega arith))
  cycle_has (Some depth) a cs w = elim (leads_or cs w.unit w.unit w.leads) [
    | inl h ↦ h
    | inr h ↦ absurd (no_cycle t depth a.level old new same a.delays a.order a.rising cs (record { unit = w.unit; some = w.some; leads = h }))
  ]

pub cycles_have : CyclesHaveRegisters
cycles_have t old new p cs w = cycle_has t old new p.same t.depth p.delays cs w

pub registers_needed : RegistersAreNeeded
registers_needed t depth old new e p c m l = needed t depth old new p.same (subst (λ o. AreDelays t o old new) e p.delays) c m l
