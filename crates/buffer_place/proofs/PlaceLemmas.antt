-- The placed channels keep what is promised of them.
use Rattle.std.proofs.Common.{◌≡◌, inl, inr, ℕ, ◌+◌, ◌<◌, ◌≤◌, ◌==◌, ◌&&◌, Bool, true, false, cond, List, [], ◌∷◌, length, refl, sym, ap, subst, ◌∙◌, arith}
use Rattle.std.specs.Prelude.{Option, Some, None}
use Rattle.std.proofs.lemmas.Bool.{cases_lt, eq-eqb, eqb-true}
use Rattle.std.proofs.lemmas.List.{length-map, get_or_past}
use Rattle.el_base.specs.Limits.{max_delay}
use Rattle.net_types.specs.declared.net.Chan.{Chan}
use Rattle.net_types.specs.declared.net.Net.{Net}
use Rattle.net_types.specs.declared.net.Unit.TheVariants.{Sink}
use Rattle.net_types.specs.Nets.{kind_of, chan_at}
use Rattle.net_check.specs.Checks.{EndsWithin}
use Rattle.net_check.specs.Sizes.{KeepsC3}
use Rattle.net_check.specs.Cycles.{IsInstant, Leads, IsClosedWalk, KeepsC4}
use Rattle.net_check.specs.Retimed.{SamePlain}
use Rattle.graph_parts.specs.Graph.{InRow}
use Rattle.buffer_place.specs.declared.timing.Timing.{Timing}
use Rattle.buffer_place.specs.declared.cuts.Cuts.{Cuts}
use Rattle.buffer_place.specs.declared.cuts.Cuts.TheVariants.{Cycles, Chains}
use Rattle.buffer_place.specs.Timings.{IsTiming, source_delay}
use Rattle.buffer_place.specs.Chains.{weight, ComesOver, AreLevels, is_low, depth_delay}
use Rattle.buffer_place.specs.Placing.{classed, LiesOnCycle, IsRising, AreMostSlots, AreUsualDelays, AreLevelDelays, AreDepthDelays, AreDelays, IsPlaced}
use Rattle.buffer_place.specs.Edges.{AreUnitParts, is_joined, is_ahead, marked_delay}
use Rattle.buffer_place.specs.Cuts.{AreUnitLevels, AreCutsFor, chain_delay, cut_delay, level_at}
use Rattle.buffer_place.proofs.EdgeLemmas.{goes_round, lies_on, given_at, Stays, stays_of, row_of, feedback_joined, ahead_of, may_stay}
use Rattle.buffer_place.proofs.LevelLemmas.{AreRowLevels, unit_row_levels, each_levelled, place_of, place_rises}
use Rattle.buffer_place.proofs.TimedLemmas.{source_within, after, at_after, same_after, slots_each, sized_after, delayed_each}
use Rattle.buffer_place.proofs.DepthLemmas.{GoesThrough, Crosses, crosses, is_instant, enters_low, no_cycle}

-- ---- where channels on cycles get a delay

module _ (t : Timing) (net : Net) (marks : List ℕ) (slots : ℕ) where
  abbrev marked : Net
  marked = after t net (marked_delay t net marks) slots

  abbrev marked_at : (c : ℕ) → c < length net.chans → (chan_at marked c).delay ≡ marked_delay t net marks (chan_at net c)
  marked_at c l = ap (λ (x : Chan). x.delay) (at_after t net (marked_delay t net marks) slots c l)

  round_delay : (c : Chan) → source_delay t net c ≡ 0 → is_joined marks c ≡ true → marked_delay t net marks c ≡ 1
  round_delay c z j = ap (λ b. cond (b && is_joined marks c) 1 (source_delay t net c)) (eq-eqb _ _ z) ∙ ap (λ b. cond b 1 (source_delay t net c)) j

  other_delay : (c : Chan) → (source_delay t net c ≡ 0 → is_joined marks c ≡ true → ⊥) → marked_delay t net marks c ≡ source_delay t net c
  other_delay c apart = by (source_delay t net c == 0) (is_joined marks c) refl refl
    where
      by : (a b : Bool) → (source_delay t net c == 0) ≡ a → is_joined marks c ≡ b → cond (a && b) 1 (source_delay t net c) ≡ source_delay t net c
      by true true e f = absurd (apart (eqb-true _ _ e) f)
      by true false e f = refl
      by false b e f = refl

  -- a channel without delay is one whose class has none
  none_after : (c : Chan) → marked_delay t net marks c ≡ 0 → source_delay t net c ≡ 0
  none_after c = by (source_delay t net c == 0) (is_joined marks c) refl
    where
      by : (a b : Bool) → (source_delay t net c == 0) ≡ a → cond (a && b) 1 (source_delay t net c) ≡ 0 → source_delay t net c ≡ 0
      by true b e f = eqb-true _ _ e
      by false b e f = f

  marked_some : (c : Chan) → 0 < source_delay t net c → 0 < marked_delay t net marks c
  marked_some c l = by ((source_delay t net c == 0) && is_joined marks c)
    where
      by : (b : Bool) → 0 < cond b 1 (source_delay t net c)
      by true = omega arith
      by false = l

  marked_within : IsTiming t → (c : Chan) → marked_delay t net marks c ≤ max_delay
  marked_within h c = by ((source_delay t net c == 0) && is_joined marks c)
    where
      by : (b : Bool) → cond b 1 (source_delay t net c) ≤ max_delay
      by true = omega arith
      by false = source_within t net c h

  usual_delays : AreUnitParts t net marks → EndsWithin net → AreUsualDelays t net marked
  usual_delays a ends = record {
    on_cycle = λ c h. (let r = goes_round t net marks a ends c h in marked_at c r.within ∙ round_delay (chan_at net c) r.delay r.joined);
    off_cycle = λ c l away.
        marked_at c l ∙ other_delay (chan_at net c) (λ z j. away (lies_on t net marks a ends c (record { within = l; delay = z; joined = j })));
  }

  instant_before : (v u c : ℕ) → IsInstant marked v u c → IsInstant (classed t net) v u c
  instant_before v u c h =
      let l : c < length net.chans = (let w = h.within in omega (arith, length-map net.chans (λ (c : Chan). record c { slots = slots; delay = marked_delay t net marks c }))) in
      let e = at_after t net (marked_delay t net marks) slots c l in
      let z = none_after (chan_at net c) (sym (marked_at c l) ∙ h.delay) in
      record {
        within = omega (arith, length-map net.chans (λ (c : Chan). record c { delay = source_delay t net c }));
        delay = ap (λ (x : Chan). x.delay) (given_at t net c l) ∙ z;
        source = ap (λ (x : Chan). x.from.unit) (given_at t net c l) ∙ sym (ap (λ (x : Chan). x.from.unit) e) ∙ h.source;
        target = ap (λ (x : Chan). x.to.unit) (given_at t net c l) ∙ sym (ap (λ (x : Chan). x.to.unit) e) ∙ h.target;
      }

  leads_before : (cs : List ℕ) (v u : ℕ) → Leads marked v cs u → Leads (classed t net) v cs u
  leads_before [] v u h = h
  leads_before (c ∷ cs) v u h =
      let i = instant_before v (chan_at marked c).to.unit c h.0 in
      let r = leads_before cs (chan_at marked c).to.unit u h.1 in
      let e : (chan_at marked c).to.unit ≡ (chan_at (classed t net) c).to.unit = sym i.target in
      (subst (λ x. IsInstant (classed t net) v x c) e i, subst (λ x. Leads (classed t net) x cs u) e r)

  no_round : AreUnitParts t net marks → EndsWithin net → (cs : List ℕ) → IsClosedWalk marked cs → ⊥
  no_round a ends [] h = let l = h.some in absurd (omega arith)
  no_round a ends (c ∷ cs) h =
      let w = leads_before (c ∷ cs) h.unit h.unit h.leads in
      let on : LiesOnCycle (classed t net) c = (cs, record { unit = h.unit; some = omega arith; leads = w }) in
      let r = goes_round t net marks a ends c on in
      let d : (chan_at marked c).delay ≡ 1 = marked_at c r.within ∙ round_delay (chan_at net c) r.delay r.joined in
      let z : (chan_at marked c).delay ≡ 0 = h.leads.0.delay in
      absurd (omega arith)

-- ---- where channels get a delay by a depth

module _ (t : Timing) (depth : ℕ) (net : Net) (marks levels : List ℕ) where
  abbrev level : ℕ → ℕ
  level = level_at levels

  chain_some : (c : Chan) → 0 < source_delay t net c → 0 < chain_delay t depth marks level net c
  chain_some c l = by (source_delay t net c == 0) refl
    where
      by : (a : Bool) → (source_delay t net c == 0) ≡ a → 0 < cond a (cond (is_ahead marks c && is_low depth level net c) 0 1) (source_delay t net c)
      by true e = let z = eqb-true _ _ e in absurd (omega arith)
      by false e = l

  chain_within : IsTiming t → (c : Chan) → chain_delay t depth marks level net c ≤ max_delay
  chain_within h c = by (source_delay t net c == 0) (is_ahead marks c && is_low depth level net c)
    where
      by : (a b : Bool) → cond a (cond b 0 1) (source_delay t net c) ≤ max_delay
      by true true = omega arith
      by true false = omega arith
      by false b = source_within t net c h

module _ (t : Timing) (depth : ℕ) (net : Net) (marks levels : List ℕ) (slots : ℕ) (parts : AreUnitParts t net marks) (a : AreUnitLevels t depth net marks levels) (ends : EndsWithin net) where
  abbrev cut : Net
  cut = after t net (chain_delay t depth marks (level_at levels) net) slots

  abbrev same_cut : SamePlain net cut
  same_cut = same_after t net (chain_delay t depth marks (level_at levels) net) slots

  cut_at : (c : ℕ) → c < length net.chans → (chan_at cut c).delay ≡ chain_delay t depth marks (level_at levels) net (chan_at net c)
  cut_at c l = ap (λ (x : Chan). x.delay) (at_after t net (chain_delay t depth marks (level_at levels) net) slots c l)

  behind_delay : (c : Chan) → source_delay t net c ≡ 0 → is_ahead marks c ≡ false → chain_delay t depth marks (level_at levels) net c ≡ 1
  behind_delay c z f =
      ap (λ b. cond b (cond (is_ahead marks c && is_low depth (level_at levels) net c) 0 1) (source_delay t net c)) (eq-eqb _ _ z)
      ∙ ap (λ b. cond (b && is_low depth (level_at levels) net c) 0 1) f

  ahead_delay : (c : Chan) → (source_delay t net c ≡ 0 → is_ahead marks c ≡ true) → chain_delay t depth marks (level_at levels) net c ≡ depth_delay t depth (level_at levels) net c
  ahead_delay c f = by (source_delay t net c == 0) refl
    where
      by : (b : Bool) → (source_delay t net c == 0) ≡ b
          → cond b (cond (is_ahead marks c && is_low depth (level_at levels) net c) 0 1) (source_delay t net c) ≡ cond b (cond (is_low depth (level_at levels) net c) 0 1) (source_delay t net c)
      by true e = ap (λ b. cond (b && is_low depth (level_at levels) net c) 0 1) (f (eqb-true _ _ e))
      by false e = refl

  level_delays : AreLevelDelays t depth (level_at levels) net cut
  level_delays = record {
    feedback = λ c f. (let j = feedback_joined t net marks parts ends c f in cut_at c j.1.0 ∙ behind_delay (chan_at net c) j.0 j.1.1);
    other = λ c l away. cut_at c l ∙ ahead_delay (chan_at net c) (λ z. ahead_of t net marks parts ends c (record { within = l; class = z; ahead = away }));
  }

  found : AreRowLevels depth net a.rows levels
  found = unit_row_levels t depth net marks levels a

  many : length levels ≡ length net.units
  many = each_levelled t depth net marks levels a

  over_cut : (v u c : ℕ) → IsInstant cut v u c → level_at levels v + weight (kind_of cut u) ≤ level_at levels u
  over_cut v u c i =
      let h = crosses t depth (level_at levels) net cut same_cut level_delays v u c i in
      let l : u < length levels = omega (arith, many, ends.to c h.within, h.target) in
      let ahead = ahead_of t net marks parts ends c (record { within = h.within; class = h.through.class; ahead = h.free }) in
      let s : Stays t net marks parts ends v u = record { chan = c; within = h.within; class = h.through.class; ahead = ahead; source = h.source; target = h.target } in
      (found.each u l).over v (row_of t net marks parts ends a.rows a.are_rows u v s) (enters_low t depth (level_at levels) net cut same_cut level_delays v u c i)

  comes_over : (v u : ℕ) → InRow a.rows u v → level_at levels v + weight (kind_of net u) ≤ depth → level_at levels u ≡ level_at levels v + weight (kind_of net u) → ComesOver cut (level_at levels) u
  comes_over v u r few is =
      let s = stays_of t net marks parts ends a.rows a.are_rows u v r in
      let x = chan_at net s.chan in
      let m = may_stay t net marks parts ends s.chan s.within s.class s.ahead in
      let low : level_at levels x.from.unit + weight (kind_of net x.to.unit) ≤ depth =
      subst (λ y. level_at levels x.from.unit + weight (kind_of net y) ≤ depth) (sym s.target) (subst (λ y. level_at levels y + weight (kind_of net u) ≤ depth) (sym s.source) few) in
      let through : GoesThrough t depth (level_at levels) net x = record { class = s.class; few = low } in
      let h : Crosses t depth (level_at levels) net cut same_cut level_delays v u s.chan = record { within = s.within; free = m.ahead; through = through; source = s.source; target = s.target } in
      record { source = v; chan = s.chan; instant = is_instant t depth (level_at levels) net cut same_cut level_delays v u s.chan h; is = is }

  no_unit : (u : ℕ) → length levels ≤ u → (level_at levels u ≡ 0) × (weight (kind_of net u) ≡ 0)
  no_unit u l = (get_or_past levels u 0 l, ap weight (get_or_past net.units u (Sink 0) (omega (arith, many))))

  cut_levels : AreLevels cut (level_at levels)
  cut_levels = record {
    own = λ u. elim (cases_lt u (length levels)) [ inl l ↦ (found.each u l).own | inr l ↦ omega (arith, (no_unit u l).1) ];
    over = over_cut;
    least = λ u. elim (cases_lt u (length levels)) [
      | inl l ↦ elim (found.each u l).least [ inl e ↦ inl e | inr g ↦ inr (comes_over g.source u g.named g.few g.is) ]
      | inr l ↦ inl ((no_unit u l).0 ∙ sym (no_unit u l).1)
    ];
  }

  rising : IsRising t net (place_of a.order)
  rising c m =
      let x = chan_at net c in
      let s : Stays t net marks parts ends x.from.unit x.to.unit = record { chan = c; within = m.within; class = m.class; ahead = ahead_of t net marks parts ends c m; source = refl; target = refl } in
      let l : x.to.unit < length a.rows = omega (arith, ends.to c m.within, a.are_rows.size) in
      place_rises a.rows a.order x.to.unit x.from.unit a.topological l (row_of t net marks parts ends a.rows a.are_rows x.to.unit x.from.unit s)

  depth_delays : AreDepthDelays t depth net cut
  depth_delays = record { order = place_of a.order; rising = rising; level = level_at levels; levels = cut_levels; delays = level_delays }

  cuts_no_cycle : (cs : List ℕ) → IsClosedWalk cut cs → ⊥
  cuts_no_cycle = no_cycle t depth (level_at levels) net cut same_cut level_delays (place_of a.order) rising

-- ---- both

module _ (t : Timing) (net : Net) (slots : ℕ) where
  abbrev placed_net : Cuts → Net
  placed_net cuts = after t net (cut_delay t net cuts) slots

  delays : (d : Option ℕ) (cuts : Cuts) → AreCutsFor t d net cuts → EndsWithin net → AreDelays t d net (placed_net cuts)
  delays None (Cycles marks) a ends = usual_delays t net marks.items slots a ends
  delays None (Chains depth marks levels) a ends = absurd a
  delays (Some d) (Cycles marks) a ends = absurd a
  delays (Some d) (Chains depth marks levels) a ends =
      subst (λ x. AreDepthDelays t x net (placed_net (Chains depth marks levels))) a.0
      (depth_delays t depth net marks.items levels.items slots a.1.0 (subst (λ x. AreUnitLevels t x net marks.items levels.items) (sym a.0) a.1.1) ends)

  cut_within : IsTiming t → (cuts : Cuts) (c : Chan) → cut_delay t net cuts c ≤ max_delay
  cut_within h (Cycles marks) c = marked_within t net marks.items slots h c
  cut_within h (Chains depth marks levels) c = chain_within t depth net marks.items levels.items h c

  cut_some : (cuts : Cuts) (c : Chan) → 0 < source_delay t net c → 0 < cut_delay t net cuts c
  cut_some (Cycles marks) c l = marked_some t net marks.items slots c l
  cut_some (Chains depth marks levels) c l = chain_some t depth net marks.items levels.items c l

  no_cycles : (d : Option ℕ) (cuts : Cuts) → AreCutsFor t d net cuts → EndsWithin net → (cs : List ℕ) → IsClosedWalk (placed_net cuts) cs → ⊥
  no_cycles None (Cycles marks) a ends cs w = no_round t net marks.items slots a ends cs w
  no_cycles None (Chains depth marks levels) a ends cs w = absurd a
  no_cycles (Some d) (Cycles marks) a ends cs w = absurd a
  no_cycles (Some d) (Chains depth marks levels) a ends cs w =
      cuts_no_cycle t depth net marks.items levels.items slots a.1.0 (subst (λ x. AreUnitLevels t x net marks.items levels.items) (sym a.0) a.1.1) ends cs w

  module _ (cuts : Cuts) (a : AreCutsFor t t.depth net cuts) (ends : EndsWithin net) where
    pub placed : AreMostSlots t.slots (length net.chans) slots → IsPlaced t net (placed_net cuts)
    placed m = record {
      same = same_after t net (cut_delay t net cuts) slots;
      delays = delays t.depth cuts a ends;
      slots = slots;
      most = m;
      each = slots_each t net (cut_delay t net cuts) slots net.chans;
    }

    pub sized : IsTiming t → 0 < slots → AreMostSlots t.slots (length net.chans) slots → KeepsC3 (placed_net cuts)
    sized h s m = sized_after t net (cut_delay t net cuts) slots h (cut_within h cuts) s m

    pub delayed : IsTiming t → KeepsC4 (placed_net cuts)
    delayed h = record { queues = delayed_each t net (cut_delay t net cuts) slots h (cut_some cuts) net.chans; cycles = no_cycles t.depth cuts a ends }
