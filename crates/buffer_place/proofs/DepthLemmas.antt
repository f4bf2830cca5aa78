-- Delays by a depth: what stays without a delay rises in an order of the units, and leads to levels within the depth.
use Rattle.std.proofs.Common.{◌≡◌, inl, inr, ℕ, ◌+◌, ◌<◌, ◌≤◌, ◌==◌, Bool, true, false, cond, List, [], ◌∷◌, length, get_or, map, refl, sym, ap, subst, ◌∙◌, arith}
use Rattle.std.specs.Prelude.{nat_le}
use Rattle.std.proofs.lemmas.Bool.{eq-eqb, eqb-true, eqb-false, le-leb, leb-true}
use Rattle.std.proofs.lemmas.List.{length-map, get_or-map}
use Rattle.el_base.specs.declared.operation.Op1.{Op1}
use Rattle.el_base.specs.declared.operation.Op1.TheVariants as op1
use Rattle.net_types.specs.declared.net.Chan.{Chan}
use Rattle.net_types.specs.declared.net.Net.{Net}
use Rattle.net_types.specs.declared.net.Unit.{Unit as Kind}
use Rattle.net_types.specs.declared.net.Unit.TheVariants as kind
use Rattle.net_types.specs.Nets.{nowhere, kind_of, chan_at}
use Rattle.net_check.specs.Cycles.{IsInstant, Leads, IsClosedWalk}
use Rattle.net_check.specs.Retimed.{untimed, SamePlain}
use Rattle.buffer_place.specs.declared.timing.Timing.{Timing}
use Rattle.buffer_place.specs.Timings.{source_delay}
use Rattle.buffer_place.specs.Chains.{op1_weight, weight, walk_weight, AreLevels, is_low, depth_delay}
use Rattle.buffer_place.specs.Placing.{IsFeedback, IsRising, AreLevelDelays}

-- ---- one channel

module _ (t : Timing) (depth : ℕ) (level : ℕ → ℕ) (net : Net) where
  abbrev entered : Chan → ℕ
  entered c = level c.from.unit + weight (kind_of net c.to.unit)

  -- the channel is low, and its class has no delay
  pub record GoesThrough (c : Chan) : Type 0 where
    pub class : source_delay t net c ≡ 0
    pub few : entered c ≤ depth

  pub goes_through : (c : Chan) → depth_delay t depth level net c ≡ 0 → GoesThrough c
  goes_through c = by (source_delay t net c == 0) (nat_le (entered c) depth) refl refl
    where
      by : (a d : Bool) → (source_delay t net c == 0) ≡ a → nat_le (entered c) depth ≡ d → cond a (cond d 0 1) (source_delay t net c) ≡ 0 → GoesThrough c
      by true true e g z = record { class = eqb-true _ _ e; few = leb-true _ _ g }
      by true false e g z = absurd (omega arith)
      by false d e g z = absurd (eqb-false _ _ e z)

  pub no_delay : (c : Chan) → GoesThrough c → depth_delay t depth level net c ≡ 0
  no_delay c h = ap (λ b. cond b (cond (is_low depth level net c) 0 1) (source_delay t net c)) (eq-eqb _ _ h.class) ∙ ap (λ b. cond b 0 1) (le-leb _ _ h.few)

-- ---- nets

module _ (old new : Net) (same : SamePlain old new) where
  pub kinds_same : (u : ℕ) → kind_of new u ≡ kind_of old u
  kinds_same u = ap (λ (n : Net). kind_of n u) same

  pub weights_same : (u : ℕ) → weight (kind_of new u) ≡ weight (kind_of old u)
  weights_same u = ap weight (kinds_same u)

  pub many_same : length new.chans ≡ length old.chans
  many_same =
      let e : length (map untimed new.chans) ≡ length (map untimed old.chans) = ap (λ (n : Net). length n.chans) same in
      omega (arith, length-map new.chans untimed, length-map old.chans untimed)

  pub ends_same : (c : ℕ) → c < length old.chans → untimed (chan_at new c) ≡ untimed (chan_at old c)
  ends_same c l =
      sym (get_or-map untimed new.chans c nowhere nowhere (omega (arith, many_same))) ∙ ap (λ (n : Net). get_or n.chans c nowhere) same ∙ get_or-map untimed old.chans c nowhere nowhere l

module _ (t : Timing) (depth : ℕ) (level : ℕ → ℕ) (old new : Net) (same : SamePlain old new) (delays : AreLevelDelays t depth level old new) where
  -- the channel c has no delay and goes from the unit v to the unit u
  pub record Crosses (v u c : ℕ) : Type 0 where
    pub within : c < length old.chans
    pub free : IsFeedback t old c → ⊥
    pub through : GoesThrough t depth level old (chan_at old c)
    pub source : (chan_at old c).from.unit ≡ v
    pub target : (chan_at old c).to.unit ≡ u

  pub crosses : (v u c : ℕ) → IsInstant new v u c → Crosses v u c
  crosses v u c i =
      let l : c < length old.chans = omega (arith, many_same old new same, i.within) in
      let e = ends_same old new same c l in
      let free : IsFeedback t old c → ⊥ = λ f. (let one = delays.feedback c f in let none = i.delay in absurd (omega arith)) in
      record {
        within = l;
        free = free;
        through = goes_through t depth level old (chan_at old c) (sym (delays.other c l free) ∙ i.delay);
        source = sym (ap (λ (x : Chan). x.from.unit) e) ∙ i.source;
        target = sym (ap (λ (x : Chan). x.to.unit) e) ∙ i.target;
      }

  pub is_instant : (v u c : ℕ) → Crosses v u c → IsInstant new v u c
  is_instant v u c h =
      let e = ends_same old new same c h.within in
      record {
        within = omega (arith, many_same old new same, h.within);
        delay = delays.other c h.within h.free ∙ no_delay t depth level old (chan_at old c) h.through;
        source = ap (λ (x : Chan). x.from.unit) e ∙ h.source;
        target = ap (λ (x : Chan). x.to.unit) e ∙ h.target;
      }

  pub enters_low : (v u c : ℕ) → IsInstant new v u c → level v + weight (kind_of old u) ≤ depth
  enters_low v u c i =
      let h = crosses v u c i in
      subst (λ x. level v + weight (kind_of old x) ≤ depth) h.target (subst (λ x. level x + weight (kind_of old (chan_at old c).to.unit) ≤ depth) h.source h.through.few)

  -- ---- cycles

  module _ (order : ℕ → ℕ) (rising : IsRising t old order) where
    pub goes_up : (v u c : ℕ) → IsInstant new v u c → order v < order u
    goes_up v u c i =
        let h = crosses v u c i in
        let r = rising c (record { within = h.within; class = h.through.class; ahead = h.free }) in
        omega (arith, ap order h.source, ap order h.target)

    rise : (v u : ℕ) (cs : List ℕ) → Leads new v cs u → order v + length cs ≤ order u
    rise v u [] l = omega (arith, ap order l)
    rise v u (c ∷ cs) l =
        let a = goes_up v (chan_at new c).to.unit c l.0 in
        let b = rise (chan_at new c).to.unit u cs l.1 in
        omega arith

    pub no_cycle : (cs : List ℕ) → IsClosedWalk new cs → ⊥
    no_cycle cs w = let a = rise w.unit w.unit cs w.leads in let b = w.some in absurd (omega arith)

  -- ---- walks

  module _ (levels : AreLevels new level) where
    -- from the unit v to the unit u the level grows by the weights of the units after v
    walk_grows : (v u : ℕ) (cs : List ℕ) → Leads new v cs u → level v + walk_weight new v cs ≤ level u + weight (kind_of new v)
    walk_grows v u [] l = omega (arith, ap level l)
    walk_grows v u (c ∷ cs) l =
        let a = levels.over v (chan_at new c).to.unit c l.0 in
        let b = walk_grows (chan_at new c).to.unit u cs l.1 in
        omega arith

    light1 : (op : Op1) → op1_weight op ≤ 1
    light1 op1.Neg32 = omega arith
    light1 op1.Neg64 = omega arith
    light1 op1.Not32 = omega arith
    light1 op1.Not64 = omega arith
    light1 op1.Zero32 = omega arith
    light1 op1.Zero64 = omega arith
    light1 op1.S8to16 = omega arith
    light1 op1.S8to32 = omega arith
    light1 op1.S8to64 = omega arith
    light1 op1.S16to32 = omega arith
    light1 op1.S16to64 = omega arith
    light1 op1.S32to64 = omega arith
    light1 op1.U8to16 = omega arith
    light1 op1.U8to32 = omega arith
    light1 op1.U8to64 = omega arith
    light1 op1.U16to32 = omega arith
    light1 op1.U16to64 = omega arith
    light1 op1.U32to64 = omega arith
    light1 op1.Cut16to8 = omega arith
    light1 op1.Cut32to8 = omega arith
    light1 op1.Cut32to16 = omega arith
    light1 op1.Cut64to8 = omega arith
    light1 op1.Cut64to16 = omega arith
    light1 op1.Cut64to32 = omega arith

    light : (k : Kind) → weight k ≤ 1
    light (kind.Op1 op) = light1 op
    light _ = omega arith

    level_within : 0 < depth → (u : ℕ) → level u ≤ depth
    level_within some u = elim (levels.least u) [
      | inl e ↦ omega (arith, e, some, light (kind_of new u))
      | inr o ↦ omega (arith, o.is, weights_same old new same u, enters_low o.source u o.chan o.instant)
    ]

    pub walk_within : 0 < depth → (v u : ℕ) (cs : List ℕ) → Leads new v cs u → walk_weight new v cs ≤ depth
    walk_within some v u cs l = omega (arith, walk_grows v u cs l, levels.own v, level_within some u)
