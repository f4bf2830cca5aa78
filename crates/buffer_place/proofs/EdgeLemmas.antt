-- Channels whose classes have delay 0 as edges between units, and walks along them.
use Rattle.std.proofs.Common.{◌≡◌, ◌≢◌, ◌⊎◌, inl, inr, ℕ, zero, suc, ◌<◌, ◌≤◌, ◌==◌, ◌&&◌, Bool, true, false, cond, List, [], ◌∷◌, get_or, length, map, refl, sym, ap, subst, ◌∙◌, arith}
use Rattle.std.specs.Prelude.{filter, nat_lt, not, ◌||◌}
use Rattle.std.proofs.lemmas.Bool.{eq-eqb, eqb-true, le-ltb, ltb-true, ltb-false}
use Rattle.std.proofs.lemmas.List.{length-map}
use Rattle.net_types.specs.declared.net.Chan.{Chan}
use Rattle.net_types.specs.declared.net.Net.{Net}
use Rattle.net_types.specs.Nets.{nowhere, chan_at}
use Rattle.net_check.specs.Checks.{EndsWithin}
use Rattle.net_check.specs.Cycles.{IsInstant, Leads}
use Rattle.graph_parts.specs.Graph.{Edge, InRow, Walk, Reaches, AreRows}
use Rattle.graph_parts.specs.Topological.{IsAcyclic, AreNodes}
use Rattle.buffer_place.specs.declared.timing.Timing.{Timing}
use Rattle.buffer_place.specs.Timings.{source_delay}
use Rattle.buffer_place.specs.Placing.{classed, LiesOnCycle, IsFeedback, MayStay}
use Rattle.buffer_place.specs.Edges.{instant, sources, targets, AreUnitParts, is_joined, is_ahead, staying}

no_true : false ≡ true → ⊥
no_true e = cc

-- ---- items of lists

-- within a list an item of the mapped list is the mapped item, whatever stands past the lists
pub mapped_at : (g : Chan → Chan) (cs : List Chan) (c : ℕ) → c < length cs → get_or (map g cs) c nowhere ≡ g (get_or cs c nowhere)
mapped_at g [] c l = absurd (omega arith)
mapped_at g (x ∷ cs) zero l = refl
mapped_at g (x ∷ cs) (suc c) l = mapped_at g cs c (omega arith)

from_at : (cs : List Chan) (e : ℕ) → get_or (sources cs) e 0 ≡ (get_or cs e nowhere).from.unit
from_at [] e = refl
from_at (x ∷ cs) zero = refl
from_at (x ∷ cs) (suc e) = from_at cs e

to_at : (cs : List Chan) (e : ℕ) → get_or (targets cs) e 0 ≡ (get_or cs e nowhere).to.unit
to_at [] e = refl
to_at (x ∷ cs) zero = refl
to_at (x ∷ cs) (suc e) = to_at cs e

record Found (xs : List Chan) (x : Chan) : Type 0 where
  pub place : ℕ
  pub within : place < length xs
  pub here : get_or xs place nowhere ≡ x

kept_at : (p : Chan → Bool) (cs : List Chan) (c : ℕ) → c < length cs → p (get_or cs c nowhere) ≡ true → Found (filter p cs) (get_or cs c nowhere)
kept_at p [] c l h = absurd (omega arith)
kept_at p (x ∷ cs) zero l h = subst (λ b. Found (cond b (x ∷ filter p cs) (filter p cs)) x) (sym h) (record { place = 0; within = omega arith; here = refl })
kept_at p (x ∷ cs) (suc c) l h = by (p x) (kept_at p cs c (omega arith) h)
  where
    by : (b : Bool) → Found (filter p cs) (get_or cs c nowhere) → Found (cond b (x ∷ filter p cs) (filter p cs)) (get_or cs c nowhere)
    by true r = record { place = suc r.place; within = (let l = r.within in omega arith); here = r.here }
    by false r = r

record Passed (p : Chan → Bool) (xs : List Chan) (x : Chan) : Type 0 where
  pub found : Found xs x
  pub passes : p x ≡ true

passed_more : (p : Chan → Bool) (y : Chan) (xs : List Chan) (x : Chan) → Passed p xs x → Passed p (y ∷ xs) x
passed_more p y xs x r = record { found = record { place = suc r.found.place; within = (let l = r.found.within in omega arith); here = r.found.here }; passes = r.passes }

kept_from : (p : Chan → Bool) (cs : List Chan) (e : ℕ) → e < length (filter p cs) → Passed p cs (get_or (filter p cs) e nowhere)
kept_from p [] e l = absurd (omega arith)
kept_from p (x ∷ cs) e l = by (p x) refl (λ e l. kept_from p cs e l) e l
  where
    by : (b : Bool) → p x ≡ b → ((e : ℕ) → e < length (filter p cs) → Passed p cs (get_or (filter p cs) e nowhere)) → (e : ℕ) → e < length (cond b (x ∷ filter p cs) (filter p cs))
        → Passed p (x ∷ cs) (get_or (cond b (x ∷ filter p cs) (filter p cs)) e nowhere)
    by true h rest zero l = record { found = record { place = 0; within = omega arith; here = refl }; passes = h }
    by true h rest (suc e) l = passed_more p x cs _ (rest e (omega arith))
    by false h rest e l = passed_more p x cs _ (rest e l)

-- ---- edges

module _ (t : Timing) (net : Net) where
  abbrev is_instant : Chan → Bool
  is_instant c = source_delay t net c == 0

  abbrev given : Chan → Chan
  given c = record c { delay = source_delay t net c }

  abbrev pub Goes : ℕ → ℕ → Type 0
  Goes u v = Edge (sources (instant t net net.chans)) (targets (instant t net net.chans)) u v

  pub given_at : (c : ℕ) → c < length net.chans → chan_at (classed t net) c ≡ given (chan_at net c)
  given_at c l = mapped_at given net.chans c l

  pub within_of : (v u c : ℕ) → IsInstant (classed t net) v u c → c < length net.chans
  within_of v u c h = let l = h.within in omega (arith, length-map net.chans given)

  pub instant_delay : (v u c : ℕ) → IsInstant (classed t net) v u c → source_delay t net (chan_at net c) ≡ 0
  instant_delay v u c h = sym (ap (λ (x : Chan). x.delay) (given_at c (within_of v u c h))) ∙ h.delay

  pub instant_source : (v u c : ℕ) → IsInstant (classed t net) v u c → (chan_at net c).from.unit ≡ v
  instant_source v u c h = sym (ap (λ (x : Chan). x.from.unit) (given_at c (within_of v u c h))) ∙ h.source

  pub instant_target : (v u c : ℕ) → IsInstant (classed t net) v u c → (chan_at net c).to.unit ≡ u
  instant_target v u c h = sym (ap (λ (x : Chan). x.to.unit) (given_at c (within_of v u c h))) ∙ h.target

  pub is_instant_of : (c : ℕ) → c < length net.chans → source_delay t net (chan_at net c) ≡ 0 → IsInstant (classed t net) (chan_at net c).from.unit (chan_at net c).to.unit c
  is_instant_of c l z = record {
    within = omega (arith, length-map net.chans given);
    delay = ap (λ (x : Chan). x.delay) (given_at c l) ∙ z;
    source = ap (λ (x : Chan). x.from.unit) (given_at c l);
    target = ap (λ (x : Chan). x.to.unit) (given_at c l);
  }

  pub edge_of : (v u c : ℕ) → IsInstant (classed t net) v u c → Goes v u
  edge_of v u c h =
      let ks = instant t net net.chans in
      let k = kept_at is_instant net.chans c (within_of v u c h) (eq-eqb _ _ (instant_delay v u c h)) in
      let l = k.within in (
        k.place,
        omega (arith, length-map ks (λ (c : Chan). c.from.unit)),
        from_at ks k.place ∙ ap (λ (x : Chan). x.from.unit) k.here ∙ instant_source v u c h,
        to_at ks k.place ∙ ap (λ (x : Chan). x.to.unit) k.here ∙ instant_target v u c h,
      )

  pub instant_of : (v u : ℕ) → Goes v u → (c : ℕ) × IsInstant (classed t net) v u c
  instant_of v u g =
      let ks = instant t net net.chans in
      let l = g.1 in
      let k = kept_from is_instant net.chans g.0 (omega (arith, length-map ks (λ (c : Chan). c.from.unit))) in
      let c = k.found.place in
      let x : chan_at net c ≡ get_or ks g.0 nowhere = k.found.here in
      let z : source_delay t net (chan_at net c) ≡ 0 = ap (source_delay t net) x ∙ eqb-true _ _ k.passes in
      let i = is_instant_of c k.found.within z in
      let s : (chan_at net c).from.unit ≡ v = ap (λ (x : Chan). x.from.unit) x ∙ sym (from_at ks g.0) ∙ g.2 in
      let d : (chan_at net c).to.unit ≡ u = ap (λ (x : Chan). x.to.unit) x ∙ sym (to_at ks g.0) ∙ g.3 in
      (c, record { within = i.within; delay = i.delay; source = i.source ∙ s; target = i.target ∙ d })

  -- ---- walks

  to_reach : (cs : List ℕ) (v u : ℕ) → Leads (classed t net) v cs u → Reaches Goes v u
  to_reach [] v u h = ([], h)
  to_reach (c ∷ cs) v u h =
      let w = (chan_at (classed t net) c).to.unit in
      let r = to_reach cs w u h.1 in
      (w ∷ r.0, (edge_of v w c h.0, r.1))

  of_reach : (ws : List ℕ) (v u : ℕ) → Walk Goes v ws u → (cs : List ℕ) × Leads (classed t net) v cs u
  of_reach [] v u h = ([], h)
  of_reach (w ∷ ws) v u h =
      let i = instant_of v w h.0 in
      let r = of_reach ws w u h.1 in
      let e : w ≡ (chan_at (classed t net) i.0).to.unit = sym i.1.target in
      (i.0 ∷ r.0, (subst (λ x. IsInstant (classed t net) v x i.0) e i.1, subst (λ x. Leads (classed t net) x r.0 u) e r.1))

  -- ---- cycles and marks

  pub record GoesRound (marks : List ℕ) (c : ℕ) : Type 0 where
    pub within : c < length net.chans
    pub delay : source_delay t net (chan_at net c) ≡ 0
    pub joined : is_joined marks (chan_at net c) ≡ true

  pub goes_round : (marks : List ℕ) → AreUnitParts t net marks → EndsWithin net → (c : ℕ) → LiesOnCycle (classed t net) c → GoesRound marks c
  goes_round marks a ends c h =
      let cs = h.0 in
      let v = h.1.unit in
      let u = (chan_at (classed t net) c).to.unit in
      let i : IsInstant (classed t net) v u c = h.1.leads.0 in
      let l = within_of v u c i in
      let back = to_reach cs u v h.1.leads.1 in
      let on : Reaches Goes v u = (u ∷ [], (edge_of v u c i, refl)) in
      let s = instant_source v u c i in
      let d = instant_target v u c i in
      let n : get_or marks v 0 ≢ 0 = a.all v (subst (λ x. x < length net.units) s (ends.from c l)) in
      let m : get_or marks u 0 ≡ get_or marks v 0 = a.parted.whole v u n (on, back) in
      record {
        within = l;
        delay = instant_delay v u c i;
        joined = eq-eqb _ _ (ap (λ x. get_or marks x 0) s ∙ sym m ∙ sym (ap (λ x. get_or marks x 0) d));
      }

  pub lies_on : (marks : List ℕ) → AreUnitParts t net marks → EndsWithin net → (c : ℕ) → GoesRound marks c → LiesOnCycle (classed t net) c
  lies_on marks a ends c h =
      let v = (chan_at net c).from.unit in
      let u = (chan_at net c).to.unit in
      let i = is_instant_of c h.within h.delay in
      let m : get_or marks u 0 ≡ get_or marks v 0 = sym (eqb-true _ _ h.joined) in
      let r = a.parted.joined u v (a.all u (ends.to c h.within)) m in
      let w = of_reach r.0 u v r.1 in
      let e : u ≡ (chan_at (classed t net) c).to.unit = sym i.target in (
        w.0,
        record {
          unit = v;
          some = omega arith;
          leads = (subst (λ x. IsInstant (classed t net) v x c) e i, subst (λ x. Leads (classed t net) x w.0 v) e w.1);
        },
      )

-- ---- channels that may stay, and rows of their sources

module _ (t : Timing) (net : Net) (marks : List ℕ) (parts : AreUnitParts t net marks) (ends : EndsWithin net) where
  abbrev stays : Chan → Bool
  stays c = (source_delay t net c == 0) && is_ahead marks c

  -- the channel leads from the unit v to the unit u, its class has no delay, and it is ahead
  pub record Stays (v u : ℕ) : Type 0 where
    pub chan : ℕ
    pub within : chan < length net.chans
    pub class : source_delay t net (chan_at net chan) ≡ 0
    pub ahead : is_ahead marks (chan_at net chan) ≡ true
    pub source : (chan_at net chan).from.unit ≡ v
    pub target : (chan_at net chan).to.unit ≡ u

  both : (a b : Bool) → a && b ≡ true → (a ≡ true) × (b ≡ true)
  both true b e = (refl, e)
  both false b e = absurd (let z : false ≡ true = e in no_true z)

  either : (a b : Bool) → a || not b ≡ true → (a ≡ true) ⊎ (b ≡ true → ⊥)
  either true b e = inl refl
  either false true e = absurd (no_true e)
  either false false e = inr (λ z. no_true z)

  neither : (a b : Bool) → a || not b ≡ false → (a ≡ false) × (b ≡ true)
  neither true b e = absurd (no_true (sym e))
  neither false true e = (refl, refl)
  neither false false e = absurd (no_true (sym e))

  module _ (rows : List (List ℕ)) (are_rows : AreRows (length net.units) (targets (staying t net marks net.chans)) (sources (staying t net marks net.chans)) rows) where
    pub stays_of : (u v : ℕ) → InRow rows u v → Stays v u
    stays_of u v r =
        let e = are_rows.sound u v r in
        let k = kept_from stays net.chans e.0 (let l = e.1 in omega (arith, length-map (staying t net marks net.chans) (λ (c : Chan). c.to.unit))) in
        let x : chan_at net k.found.place ≡ get_or (staying t net marks net.chans) e.0 nowhere = k.found.here in
        let p = both (source_delay t net (get_or (staying t net marks net.chans) e.0 nowhere) == 0) (is_ahead marks (get_or (staying t net marks net.chans) e.0 nowhere)) k.passes in
        record {
          chan = k.found.place;
          within = k.found.within;
          class = ap (source_delay t net) x ∙ eqb-true _ _ p.0;
          ahead = ap (is_ahead marks) x ∙ p.1;
          source = ap (λ (c : Chan). c.from.unit) x ∙ sym (from_at (staying t net marks net.chans) e.0) ∙ e.3;
          target = ap (λ (c : Chan). c.to.unit) x ∙ sym (to_at (staying t net marks net.chans) e.0) ∙ e.2;
        }

    pub row_of : (u v : ℕ) → Stays v u → InRow rows u v
    row_of u v s =
        let x = chan_at net s.chan in
        let h : stays x ≡ true = ap (λ b. b && is_ahead marks x) (eq-eqb _ _ s.class) ∙ s.ahead in
        let k = kept_at stays net.chans s.chan s.within h in
        let l = k.within in
        are_rows.whole u v (
          k.place,
          omega (arith, length-map (staying t net marks net.chans) (λ (c : Chan). c.to.unit)),
          to_at (staying t net marks net.chans) k.place ∙ ap (λ (c : Chan). c.to.unit) k.here ∙ s.target,
          from_at (staying t net marks net.chans) k.place ∙ ap (λ (c : Chan). c.from.unit) k.here ∙ s.source,
        )

    goes : (u v : ℕ) → InRow rows u v → Goes t net v u
    goes u v r =
        let s = stays_of u v r in
        subst (λ x. Goes t net x u) s.source (subst (Goes t net (chan_at net s.chan).from.unit) s.target (edge_of t net _ _ s.chan (is_instant_of t net s.chan s.within s.class)))

    one_more : (Goes : ℕ → ℕ → Type 0) (x v w : ℕ) (ws : List ℕ) → Walk Goes x ws v → Goes v w → Reaches Goes x w
    one_more Goes x v w [] k g = let P : ℕ → Type 0 = λ y. Goes y w in (w ∷ [], (subst P (sym k) g, refl))
    one_more Goes x v w (y ∷ ws) k g = let r = one_more Goes y v w ws k.1 g in (y ∷ r.0, (k.0, r.1))

    -- a walk along rows goes back along channels
    back : (x y : ℕ) (ws : List ℕ) → Walk (InRow rows) x ws y → Reaches (Goes t net) y x
    back x y [] k = let P : ℕ → Type 0 = λ z. Reaches (Goes t net) z x in subst P k ([], refl)
    back x y (w ∷ ws) k = let r = back w y ws k.1 in one_more (Goes t net) y w x r.0 r.1 (goes x w k.0)

    -- along a row of which the unit comes back, numbers fall
    falls : (x y : ℕ) → InRow rows x y → Reaches (InRow rows) y x → y < x
    falls x y r back_again =
        let s = stays_of x y r in
        let there : Reaches (Goes t net) y x = (x ∷ [], (goes x y r, refl)) in
        let here : Reaches (Goes t net) x y = back y x back_again.0 back_again.1 in
        let n : get_or marks y 0 ≢ 0 = parts.all y (subst (λ x. x < length net.units) s.source (ends.from s.chan s.within)) in
        let m : get_or marks x 0 ≡ get_or marks y 0 = parts.parted.whole y x n (there, here) in
        let j : is_joined marks (chan_at net s.chan) ≡ true = eq-eqb _ _ (ap (λ x. get_or marks x 0) s.source ∙ sym m ∙ sym (ap (λ x. get_or marks x 0) s.target)) in
        elim (either (nat_lt (chan_at net s.chan).from.unit (chan_at net s.chan).to.unit) (is_joined marks (chan_at net s.chan)) s.ahead) [
          | inl a ↦ omega (arith, ltb-true _ _ a, s.source, s.target)
          | inr a ↦ absurd (a j)
        ]

    then_reaches : (x y z : ℕ) (ws : List ℕ) → Walk (InRow rows) x ws y → Reaches (InRow rows) y z → Reaches (InRow rows) x z
    then_reaches x y z [] k r = let P : ℕ → Type 0 = λ w. Reaches (InRow rows) w z in subst P (sym k) r
    then_reaches x y z (w ∷ ws) k r = let q = then_reaches w y z ws k.1 r in (w ∷ q.0, (k.0, q.1))

    descends : (x u : ℕ) (ws : List ℕ) → Walk (InRow rows) x ws u → Reaches (InRow rows) u x → u ≤ x
    descends x u [] k r = omega (arith, k)
    descends x u (w ∷ ws) k r =
        let l = falls x w k.0 (then_reaches w u x ws k.1 r) in
        let m = descends w u ws k.1 (one_more (InRow rows) u x w r.0 r.1 k.0) in
        omega arith

    pub rows_acyclic : IsAcyclic (InRow rows)
    rows_acyclic u v r again =
        let l = falls u v r again in
        let m = descends v u again.0 again.1 (v ∷ [], (r, refl)) in
        omega arith

    pub rows_named : AreNodes rows
    rows_named u v r = let n = are_rows.named u v r in omega (arith, are_rows.size)

  -- ---- feedback

  pub feedback_joined : (c : ℕ) → IsFeedback t net c → (source_delay t net (chan_at net c) ≡ 0) × ((c < length net.chans) × (is_ahead marks (chan_at net c) ≡ false))
  feedback_joined c f =
      let r = goes_round t net marks parts ends c f.on_cycle in
      let l : nat_lt (chan_at net c).from.unit (chan_at net c).to.unit ≡ false = le-ltb _ _ f.falls in
      (r.delay, (r.within, ap (λ b. b || not (is_joined marks (chan_at net c))) l ∙ ap (λ b. not b) r.joined))

  pub ahead_of : (c : ℕ) → MayStay t net c → is_ahead marks (chan_at net c) ≡ true
  ahead_of c s = by (is_ahead marks (chan_at net c)) refl
    where
      by : (b : Bool) → is_ahead marks (chan_at net c) ≡ b → b ≡ true
      by true e = refl
      by false e =
          let n = neither (nat_lt (chan_at net c).from.unit (chan_at net c).to.unit) (is_joined marks (chan_at net c)) e in
          let on = lies_on t net marks parts ends c (record { within = s.within; delay = s.class; joined = n.1 }) in
          absurd (s.ahead (record { on_cycle = on; falls = ltb-false _ _ n.0 }))

  pub may_stay : (c : ℕ) → c < length net.chans → source_delay t net (chan_at net c) ≡ 0 → is_ahead marks (chan_at net c) ≡ true → MayStay t net c
  may_stay c l z a = record { within = l; class = z; ahead = λ f. no_true (sym (feedback_joined c f).1.1 ∙ a) }

-- the units of edges are units of the net
pub sources_within : (n : ℕ) (p : Chan → Bool) (cs : List Chan) (e : ℕ) → ((c : ℕ) → c < length cs → (get_or cs c nowhere).from.unit < n) → e < length (sources (filter p cs)) → get_or (sources (filter p cs)) e 0 < n
sources_within n p cs e h l =
    let k = kept_from p cs e (omega (arith, length-map (filter p cs) (λ (c : Chan). c.from.unit))) in
    subst (λ x. x < n) (ap (λ (x : Chan). x.from.unit) k.found.here ∙ sym (from_at (filter p cs) e)) (h k.found.place k.found.within)

pub targets_within : (n : ℕ) (p : Chan → Bool) (cs : List Chan) (e : ℕ) → ((c : ℕ) → c < length cs → (get_or cs c nowhere).to.unit < n) → e < length (targets (filter p cs)) → get_or (targets (filter p cs)) e 0 < n
targets_within n p cs e h l =
    let k = kept_from p cs e (omega (arith, length-map (filter p cs) (λ (c : Chan). c.to.unit))) in
    subst (λ x. x < n) (ap (λ (x : Chan). x.to.unit) k.found.here ∙ sym (to_at (filter p cs) e)) (h k.found.place k.found.within)
