-- The ending: the control token passes the ends of all queues, and the exit takes it with the result. Nothing is left then.
use Rattle.std.proofs.Common.{◌≡◌, ◌≢◌, ℕ, zero, suc, ◌+◌, ◌^◌, ◌<◌, ◌≤◌, ◌==◌, ◌⊎◌, Bool, true, false, cond, Option, Some, None, List, [], ◌∷◌, ◌++◌, length, get_or, refl, sym, ap, subst, ◌∙◌, inl, inr, arith, eq-eqb, ne_eqb, slice_get, is_some, length-append}
use Rattle.std.proofs.lemmas.Bool.{cases_eq, cases_lt}
use Rattle.el_base.specs.declared.ty.Ty.{Ty}
use Rattle.ir.specs.declared.groups.Groups.{Groups}
use Rattle.ir.specs.Graphs.{Graph}
use Rattle.net_types.specs.declared.net.Chan.{Chan}
use Rattle.net_types.specs.declared.net.Net.{Net}
use Rattle.net_types.specs.declared.net.Place.{Place}
use Rattle.net_types.specs.declared.net.Unit.{Unit as Kind}
use Rattle.net_types.specs.declared.net.Unit.TheVariants.{Entry, Param, Const, Op1, Op2, Select, Fork, Mux, Cmerge, Branch, Sink, Read, Lsq, Exit}
use Rattle.net_types.specs.declared.firing.Act.TheVariants.{Go, End}
use Rattle.net_types.specs.declared.firing.Firing.{Firing}
use Rattle.net_types.specs.Nets.{is_at, out_of, nowhere, kind_of, owns, at, firing}
use Rattle.net_core.specs.Fire.{State, Own, idle, tokens_at}
use Rattle.net_core.specs.Laws.{starts, IsSpent}
use Rattle.net_core.specs.Runs.{Leads, Exited}
use Rattle.circuit_build.specs.declared.draft.Draft.{Draft}
use Rattle.circuit_build.specs.declared.draft.End.{End as OpenEnd}
use Rattle.circuit_build.specs.declared.draft.Queue.{Queue}
use Rattle.circuit_build.specs.Drafts.{next, end_of}
use Rattle.circuit_build.specs.Steps.{queue_or, through_queue}
use Rattle.circuit_build.specs.Blocks.{head_laid}
use Rattle.circuit_build.specs.Endings.{result_widths, ones, all_ended, exited}
use Rattle.circuit_build.specs.Fronts.{ports_of, groups_from, depth_from}
use Rattle.circuit_build.specs.Asks.{IsAsked}
use Rattle.circuit_build.specs.Built.{join_of, front_of, with_feeders, built}
use Rattle.circuit_build.specs.Counted.{queue_for}
use Rattle.circuit_build.proofs.CountBooks.{froms}
use Rattle.circuit_build.proofs.CountRules.{at_place, one_out}
use Rattle.circuit_build.proofs.CountChain.{at_own}
use Rattle.circuit_build.proofs.Marks.{Wired, Aside, with_own, Shows}
use Rattle.circuit_build.proofs.Stages.{spread, NotIn}
use Rattle.circuit_build.proofs.MarkLemmas.{leads_on, unit_at}
use Rattle.circuit_build.proofs.SpreadLemmas.{spread_none, spread_front, spread_second, take_front, add_front, pushed_same, popped_same}
use Rattle.circuit_build.proofs.KindLemmas.{exit_goes, exit_takes}
use Rattle.circuit_build.proofs.QueueLemmas.{end_goes}
use Rattle.circuit_build.proofs.LaySections.{Within, Used, AllUsed}
use Rattle.circuit_build.proofs.LayExtends.{extends_then, within_less, all_ended_extends, exited_extends}
use Rattle.circuit_build.proofs.LayBlocks.{inputs_of, QueueAt, EndsAt, join_head, JoinAt}
use Rattle.circuit_build.proofs.LayWires.{net_closed}
use Rattle.circuit_build.proofs.Fields.{head_headed}
use Rattle.circuit_build.proofs.Small.{small, blocks_before, feeders_after}
use Rattle.circuit_build.proofs.StageParts.{shows_as}
use Rattle.circuit_build.proofs.StageKinds.{Calm}
use Rattle.circuit_build.proofs.StageCounts.{table}
use Rattle.circuit_build.proofs.StageTokens.{Token, token, row, kept, swaps_of}
use Rattle.circuit_build.proofs.StageUses.{open_tokens, At, at_swapped, last_wire, second_wire}
use Rattle.circuit_build.proofs.Opening.{slice_kind, last_unit}
use Rattle.circuit_build.proofs.Waits.{NoneWaits, none_waits_queue}

-- the result that the exit takes
abbrev pub taken_result : Option Ty → List ℕ → Option ℕ
taken_result None vs = None
taken_result (Some t) vs = Some (get_or vs 0 0)

-- ---- a state without tokens, whose exit has fired

-- one channel at most leads from each place
abbrev pub OneFrom : Net → Type 0
OneFrom net = (u p : ℕ) → froms (at_place u p) net.chans ≤ 1

has_from : (p : Place) (cs : List Chan) (k : ℕ) → k < length cs → (get_or cs k nowhere).from ≡ p → 1 ≤ froms (at_place p.unit p.place) cs
has_from p [] k l e = absurd (omega arith)
has_from p (c ∷ cs) zero l e = let a : at_place p.unit p.place c.from c.width c.ctl ≡ 1 = ap (λ b. cond b 1 0) (at_own c.from p.unit p.place e) in omega (arith, a)
has_from p (c ∷ cs) (suc k) l e = let a = has_from p cs k (omega arith) e in omega (arith, a)

-- a channel is the first from its place
its_own : (p : Place) (cs : List Chan) (k : ℕ) → k < length cs → (get_or cs k nowhere).from ≡ p → froms (at_place p.unit p.place) cs ≤ 1 → out_of p.unit p.place cs ≡ k
its_own p [] k l e one = absurd (omega arith)
its_own p (c ∷ cs) zero l e one = ap (λ b. cond b 0 (suc (out_of p.unit p.place cs))) (at_own c.from p.unit p.place e)
its_own p (c ∷ cs) (suc k) l e one = by (is_at c.from p.unit p.place) refl (has_from p cs k (omega arith) e) (its_own p cs k (omega arith) e)
  where
    by : (b : Bool) → is_at c.from p.unit p.place ≡ b → 1 ≤ froms (at_place p.unit p.place) cs → (froms (at_place p.unit p.place) cs ≤ 1 → out_of p.unit p.place cs ≡ k) → cond (is_at c.from p.unit p.place) 0 (suc (out_of p.unit p.place cs)) ≡ suc k
    by true i h rest = let a : at_place p.unit p.place c.from c.width c.ctl ≡ 1 = ap (λ b. cond b 1 0) i in absurd (omega (arith, a, h, one))
    by false i h rest = ap (λ b. cond b 0 (suc (out_of p.unit p.place cs))) i ∙ ap suc (rest (omega (arith, one)))

past_all : (xss : List (List ℕ)) (k : ℕ) → length xss ≤ k → get_or xss k [] ≡ []
past_all [] k l = refl
past_all (x ∷ xss) zero l = absurd (omega arith)
past_all (x ∷ xss) (suc k) l = past_all xss k (omega arith)

past_units : (os : List Own) (k : ℕ) → length os ≤ k → get_or os k idle ≡ idle
past_units [] k l = refl
past_units (x ∷ os) zero l = absurd (omega arith)
past_units (x ∷ os) (suc k) l = past_units os k (omega arith)

past_slice : (ks : List Kind) (u : ℕ) → slice_get ks u ≡ None → (length ks ≤ u) × (get_or ks u (Sink 0) ≡ Sink 0)
past_slice [] u e = (omega arith, refl)
past_slice (x ∷ ks) zero e = absurd (cc)
past_slice (x ∷ ks) (suc u) e = let w = past_slice ks u e in ((let y = w.0 in omega (arith, y)), w.1)

module _ (net : Net) (scalars : List ℕ) (t : State) (a : Aside) (calm : Calm net a) (waits : NoneWaits net a) (x : ℕ) (o : Own) (h : Shows net scalars t (λ r. []) (with_own x o a)) where
  no_token : OneFrom net → (c : ℕ) → tokens_at t c ≡ []
  no_token one c = by (cases_lt c (length net.chans))
    where
      by : (c < length net.chans) ⊎ (length net.chans ≤ c) → tokens_at t c ≡ []
      by (inl l) = let p = (get_or net.chans c nowhere).from in ap (tokens_at t) (sym (its_own p net.chans c l refl (one p.unit p.place))) ∙ h.sees p
      by (inr l) = past_all t.tokens c (let e = h.long in omega (arith, e, l))

  -- what another unit keeps
  other_own : (u : ℕ) → u ≢ x → get_or t.own u idle ≡ a.own u
  other_own u n = let b : (u == x) ≡ false = ne_eqb u x n in h.own u ∙ ap (λ c. cond c o (a.own u)) b

  this_own : get_or t.own x idle ≡ o
  this_own = let b : (x == x) ≡ true = eq-eqb x x refl in h.own x ∙ ap (λ c. cond c o (a.own x)) b

  of_kind_items : (u : ℕ) (k : Kind) → slice_get net.units u ≡ Some k → (a.own u).queue.items ≡ []
  of_kind_items u Entry e = ap (λ (w : Own). w.queue.items) (calm u Entry e refl)
  of_kind_items u (Param j) e = ap (λ (w : Own). w.queue.items) (calm u (Param j) e refl)
  of_kind_items u (Const w n) e = ap (λ (w : Own). w.queue.items) (calm u (Const w n) e refl)
  of_kind_items u (Op1 op) e = ap (λ (w : Own). w.queue.items) (calm u (Op1 op) e refl)
  of_kind_items u (Op2 op) e = ap (λ (w : Own). w.queue.items) (calm u (Op2 op) e refl)
  of_kind_items u (Select w) e = ap (λ (w : Own). w.queue.items) (calm u (Select w) e refl)
  of_kind_items u (Fork w outs) e = ap (λ (w : Own). w.queue.items) (calm u (Fork w outs) e refl)
  of_kind_items u (Mux w ins) e = ap (λ (w : Own). w.queue.items) (calm u (Mux w ins) e refl)
  of_kind_items u (Cmerge ins) e = ap (λ (w : Own). w.queue.items) (calm u (Cmerge ins) e refl)
  of_kind_items u (Branch w) e = ap (λ (w : Own). w.queue.items) (calm u (Branch w) e refl)
  of_kind_items u (Sink w) e = ap (λ (w : Own). w.queue.items) (calm u (Sink w) e refl)
  of_kind_items u (Read b) e = ap (λ (w : Own). w.queue.items) (calm u (Read b) e refl)
  of_kind_items u (Lsq b d ports groups forward) e = ap (λ (w : Own). w.queue.items) (waits u b d ports groups forward e).1
  of_kind_items u Exit e = ap (λ (w : Own). w.queue.items) (calm u Exit e refl)

  no_entry : o.queue.items ≡ [] → (u : ℕ) → (get_or t.own u idle).queue.items ≡ []
  no_entry empty u = by (cases_eq u x)
    where
      at_unit : (k : Option Kind) → slice_get net.units u ≡ k → u ≢ x → (get_or t.own u idle).queue.items ≡ []
      at_unit None e n = ap (λ (w : Own). w.queue.items) (past_units t.own u (let l = (past_slice net.units u e).0 in let m = h.owned in omega (arith, l, m)))
      at_unit (Some k) e n = ap (λ (w : Own). w.queue.items) (other_own u n) ∙ of_kind_items u k e

      by : (u ≡ x) ⊎ (u ≡ x → ⊥) → (get_or t.own u idle).queue.items ≡ []
      by (inl e) = ap (λ (w : Own). w.queue.items) (ap (λ v. get_or t.own v idle) e ∙ this_own) ∙ empty
      by (inr n) = at_unit (slice_get net.units u) refl n

  all_started : o.fired ≡ true → (u : ℕ) → starts (kind_of net u) ≡ true → (get_or t.own u idle).fired ≡ true
  all_started fired u go = by (cases_eq u x)
    where
      owns_none : (k : Kind) → starts k ≡ true → owns k ≡ None
      owns_none (Lsq b d ports groups forward) e = absurd (cc)
      owns_none _ e = refl

      at_unit : (k : Option Kind) → slice_get net.units u ≡ k → u ≢ x → (get_or t.own u idle).fired ≡ true
      at_unit None e n = let z : starts (Sink 0) ≡ true = ap starts (sym (past_slice net.units u e).1) ∙ go in absurd (cc)
      at_unit (Some k) e n = let z : starts k ≡ true = ap starts (sym (unit_at net.units u k e).0) ∙ go in ap (λ (w : Own). w.fired) (other_own u n ∙ calm u k e (owns_none k z)) ∙ z

      by : (u ≡ x) ⊎ (u ≡ x → ⊥) → (get_or t.own u idle).fired ≡ true
      by (inl e) = ap (λ (w : Own). w.fired) (ap (λ v. get_or t.own v idle) e ∙ this_own) ∙ fired
      by (inr n) = at_unit (slice_get net.units u) refl n

  pub is_spent : OneFrom net → o.fired ≡ true → o.queue.items ≡ [] → IsSpent net t
  is_spent one fired empty = record { tokens = no_token one; entries = no_entry empty; started = all_started fired }

  pub has_exited : (r : Option ℕ) → ((u : ℕ) → slice_get net.units u ≡ Some Exit → u ≡ x) → o.fired ≡ true → o.value ≡ r → Exited net r t
  has_exited r exits fired value = record {
    fired = λ u k. ap (λ (w : Own). w.fired) (ap (λ v. get_or t.own v idle) (exits u (slice_kind net.units u Exit (λ z. cc) k)) ∙ this_own) ∙ fired;
    value = λ u k. ap (λ (w : Own). w.value) (ap (λ v. get_or t.own v idle) (exits u (slice_kind net.units u Exit (λ z. cc) k)) ∙ this_own) ∙ value;
  }

-- ---- the ends of the queues

ends_kept : (qs : List (Option Queue)) (d : Draft) → (all_ended qs d).ends ≡ d.ends
ends_kept [] d = refl
ends_kept (None ∷ qs) d = ends_kept qs d
ends_kept (Some q ∷ qs) d = ends_kept qs (through_queue q q.groups d)

module _ {net : Net} (r : Option Ty) where
  -- what follows a queue stands in the net
  within_ended : (qs : List (Option Queue)) (d : Draft) → Within net (exited r (all_ended qs d)) → Within net d
  within_ended qs d w = within_less net d (exited r (all_ended qs d)) (extends_then d (all_ended qs d) (exited r (all_ended qs d)) (all_ended_extends d qs) (exited_extends (all_ended qs d) r)) w

  passing : (q : Queue) (qs : List (Option Queue)) (d : Draft) → Within net (exited r (all_ended qs (through_queue q q.groups d))) → Wired net d.control (at q.unit q.groups)
  passing q qs d w =
      let e = through_queue q q.groups d in
      last_wire {d = e} d.chans (record { from = d.control; to = at q.unit q.groups; width = 32; slots = 1; delay = 1; ctl = true }) (within_ended qs e w) refl

-- the control token goes to the exit
to_exit : {net : Net} (r : Option Ty) (d : Draft) → Within net (exited r d) → Wired net d.control (at (next d) 0)
to_exit None d w = last_wire {d = exited None d} d.chans (record { from = d.control; to = at (next d) 0; width = 32; slots = 1; delay = 1; ctl = true }) w refl
to_exit (Some t) d w =
    let x = end_of d.ends 0 in
    second_wire {d = exited (Some t) d} d.chans (record { from = d.control; to = at (next d) 0; width = 32; slots = 1; delay = 1; ctl = true }) (record { from = x.place; to = at (next d) 1; width = x.width; slots = 1; delay = 1; ctl = false }) w refl

control_goes : {net : Net} (r : Option Ty) (qs : List (Option Queue)) (d : Draft) → Within net (exited r (all_ended qs d)) → (p : Place) × Wired net d.control p
control_goes r [] d w = (at (next d) 0, to_exit r d w)
control_goes r (None ∷ qs) d w = control_goes r qs d w
control_goes r (Some q ∷ qs) d w = (at q.unit q.groups, passing r q qs d w)

-- the tokens after some firings
record Passes (net : Net) (scalars : List ℕ) (s : State) (a : Aside) (k : ℕ) (c : Place) (ps : List (Option Place)) (z : ℕ) (ws : List ℕ) : Type 0 where
  firings : List Firing
  to : State
  run : Leads net s firings to
  few : length firings ≤ k
  shows : Shows net scalars to (spread (Some c ∷ ps) (z ∷ ws)) a
  apart : NotIn c ps

module _ (g : Graph) (gs : Groups) (net : Net) (scalars : List ℕ) (a : Aside) (waits : NoneWaits net a) (r : Option Ty) (low : ℕ) (early : length (front_of g gs).units ≤ low) (all : List (Option Queue)) (ps : List (Option Place)) (z : ℕ) (ws : List ℕ)
    (out : AllUsed low all ps) where
  -- the control token has passed no queue of the arrays from x on
  abbrev Before : ℕ → Place → Type 0
  Before x c = Used low all c ⊎ ((b : ℕ) × (b < x) × (slice_get net.units c.unit ≡ Some (queue_for g gs b)))

  before_more : (x : ℕ) (c : Place) → Before x c → Before (1 + x) c
  before_more x c (inl l) = inl l
  before_more x c (inr h) = inr (h.0, (let l = h.1 in omega (arith, l)), h.2)

  -- the end of a queue is none of its outputs that are used
  not_used : (x : ℕ) (q : Queue) (c : Place) → QueueAt g gs net x q [] → slice_get all x ≡ Some (Some q) → Used low all c → at q.unit (length (groups_from x 0 gs.of)) ≢ c
  not_used x q c h is (inl l) e = let k : q.unit ≡ c.unit = ap (λ (p : Place). p.unit) e in let f = h.early in absurd (omega (arith, k, l, f, early))
  not_used x q c h is (inr u) e =
      let k : q.unit ≡ c.unit = ap (λ (p : Place). p.unit) e in
      let o : length (groups_from x 0 gs.of) ≡ c.place = ap (λ (p : Place). p.place) e in
      let m = h.many in
      elim (u x q (ap queue_or is) (sym k)) [
        | inl y ↦ (let w = y.1 in absurd (omega (arith, o, m, w)))
        | inr y ↦ (let w = y.0 in absurd (omega (arith, o, m, w)))
      ]

  none_used : (x : ℕ) (q : Queue) (rs : List (Option Place)) → QueueAt g gs net x q [] → slice_get all x ≡ Some (Some q) → AllUsed low all rs → NotIn (at q.unit (length (groups_from x 0 gs.of))) rs
  none_used x q [] h is u = tt
  none_used x q (None ∷ rs) h is u = none_used x q rs h is u
  none_used x q (Some p ∷ rs) h is u = (not_used x q p h is u.0, none_used x q rs h is u.1)

  another : (x : ℕ) (q : Queue) (c : Place) → QueueAt g gs net x q [] → slice_get all x ≡ Some (Some q) → Before x c → at q.unit (length (groups_from x 0 gs.of)) ≢ c
  another x q c h is (inl u) e = not_used x q c h is u e
  another x q c h is (inr b) e =
      let k : Some (queue_for g gs x) ≡ Some (queue_for g gs b.0) = sym h.unit ∙ ap (λ (p : Place). slice_get net.units p.unit) e ∙ b.2 in
      let same : x ≡ b.0 = ap array_of k in
      let l = b.1 in
      absurd (omega (arith, same, l))
    where
      number_or : Option ℕ → ℕ
      number_or None = 0
      number_or (Some i) = i

      array_of : Option Kind → ℕ
      array_of None = 0
      array_of (Some k) = number_or (owns k)

  all_pass : (qs : List (Option Queue)) (x : ℕ) (d : Draft) (s : State) → ((i : ℕ) (o : Option Queue) → slice_get qs i ≡ Some o → slice_get all (x + i) ≡ Some o) → EndsAt g gs net x qs → Within net (exited r (all_ended qs d)) → Shows net scalars s (spread (Some d.control ∷ ps) (z ∷ ws)) a
      → NotIn d.control ps → Before x d.control → Passes net scalars s a (length qs) (all_ended qs d).control ps z ws
  all_pass [] x d s of_all ends w h free before = record { firings = []; to = s; run = refl; few = omega arith; shows = h; apart = free }
  all_pass (None ∷ qs) x d s of_all ends w h free before =
      let later : (i : ℕ) (o : Option Queue) → slice_get qs i ≡ Some o → slice_get all ((1 + x) + i) ≡ Some o = (λ i o e. ap (slice_get all) (let z : (1 + x) + i ≡ x + suc i = omega arith in z) ∙ of_all (suc i) o e) in
      let i = all_pass qs (1 + x) d s later ends w h free (before_more x d.control before) in
      record { firings = i.firings; to = i.to; run = i.run; few = (let l = i.few in omega (arith, l)); shows = i.shows; apart = i.apart }
  all_pass (Some q ∷ qs) x d s of_all ends w h free before =
      let here = ends.0 in
      let e = through_queue q q.groups d in
      let is : slice_get all x ≡ Some (Some q) = ap (slice_get all) (let z : x ≡ x + 0 = omega arith in z) ∙ of_all 0 (Some q) refl in
      let later : (i : ℕ) (o : Option Queue) → slice_get qs i ≡ Some o → slice_get all ((1 + x) + i) ≡ Some o = (λ i o e. ap (slice_get all) (let z : (1 + x) + i ≡ x + suc i = omega arith in z) ∙ of_all (suc i) o e) in
      let groups = groups_from x 0 gs.of in
      let ports = ports_of x g.blocks gs.of in
      let depth = depth_from x 16 gs.of in
      let own = none_waits_queue net a waits q.unit x depth ports groups here.unit in
      let c = at q.unit (length groups) in
      let is_c : at q.unit q.groups ≡ c = ap (at q.unit) here.many in
      let wp : Wired net d.control c = subst (λ p. Wired net d.control p) is_c (passing r q qs d w) in
      let next_one = control_goes r qs e w in
      let wr : Wired net c next_one.0 = subst (λ p. Wired net p next_one.0) is_c next_one.1 in
      let new : NotIn c ps = none_used x q ps here is out in
      let none = spread_none c (Some d.control ∷ ps) (z ∷ ws) (another x q d.control here is before, new) in
      let go = end_goes net scalars s (spread (Some d.control ∷ ps) (z ∷ ws)) a h q.unit x depth ports groups here.unit own.0 z d.control next_one.0 own.1 wp wr (spread_front d.control z ps ws) none in
      let shown : Shows net scalars go.to (spread (Some (at q.unit q.groups) ∷ ps) (z ∷ ws)) a =
      shows_as (spread (Some (at q.unit q.groups) ∷ ps) (z ∷ ws))
      (λ y. pushed_same c z _ _ (take_front d.control z ps ws free) y ∙ (add_front c z ps ws new y ∙ ap (λ p. spread (Some p ∷ ps) (z ∷ ws) y) (sym is_c))) go.shows in
      let i = all_pass qs (1 + x) e go.to later ends.1 w shown (subst (λ p. NotIn p ps) (sym is_c) new) (inr (x, omega arith, here.unit)) in
      record {
        firings = firing q.unit End ∷ i.firings;
        to = i.to;
        run = (go.run.0, subst (λ t. Leads net t i.firings i.to) (sym go.run.1) i.run);
        few = (let l = i.few in omega (arith, l));
        shows = i.shows;
        apart = i.apart;
      }

-- ---- the end

-- at most k firings lead to an end: nothing is left, the exit took this result, and the arrays are these
pub record Finished (net : Net) (s : State) (k : ℕ) (r : Option ℕ) (arrays : List (List ℕ)) (strays : ℕ) : Type 0 where
  pub firings : List Firing
  pub to : State
  pub run : Leads net s firings to
  pub few : length firings ≤ k
  pub spent : IsSpent net to
  pub exited : Exited net r to
  pub arrays_are : to.arrays ≡ arrays
  pub most : (b : ℕ) → get_or to.strays b 0 ≤ strays

exit_unit : {net : Net} (r : Option Ty) (d : Draft) → Within net (exited r d) → slice_get net.units (next d) ≡ Some Exit
exit_unit {net} r d w = by r w
  where
    here : length d.units + 1 ≤ length net.units → length net.units < 2 ^ 32 → next d ≡ length d.units
    here l f = omega (arith, l, f)

    by : (t : Option Ty) → Within net (exited t d) → slice_get net.units (next d) ≡ Some Exit
    by None w = let n = here (let l = w.less in let k = length-append d.units (Exit ∷ []) in omega (arith, l, k)) w.few in w.unit (next d) Exit (ap (slice_get (d.units ++ Exit ∷ [])) n ∙ last_unit d.units Exit)
    by (Some t) w = let n = here (let l = w.less in let k = length-append d.units (Exit ∷ []) in omega (arith, l, k)) w.few in w.unit (next d) Exit (ap (slice_get (d.units ++ Exit ∷ [])) n ∙ last_unit d.units Exit)

-- the head of the return join, with one value where there is a result
abbrev pub join_top : ℕ → ℕ → Option Ty → Draft → Draft
join_top ins join r d = head_laid ins join (result_widths r) (ones (result_widths r)) 0 d

-- no value
no_values : (T : ℕ → ℕ) (es : List (Option OpenEnd)) → length es ≡ 0 → kept T es [] ≡ []
no_values T [] l = refl
no_values T (x ∷ es) l = absurd (omega (arith, l))

-- the one value of a list of ends, with one use
one_token : (T : ℕ → ℕ) (es : List (Option OpenEnd)) (v : ℕ) → length es ≡ 1 → T 0 ≡ 1 → kept T es (v ∷ []) ++ [] ≡ token (end_of es 0).place v ∷ []
one_token T [] v l t = absurd (omega (arith, l))
one_token T (None ∷ []) v l t = ap (λ n. (row (at 0 0) n v ++ []) ++ []) t
one_token T (Some e ∷ []) v l t = ap (λ n. (row e.place n v ++ []) ++ []) t
one_token T (x ∷ y ∷ es) v l t = absurd (omega (arith, l))

-- the tokens at the join's head: of the control token, and of the result
pub join_tokens : (r : Option Ty) (d : Draft) (z : ℕ) (vs : List ℕ) → length d.ends ≡ length vs → length vs ≡ length (result_widths r) → length (open_tokens d z 0 (table (ones (result_widths r))) vs []) ≤ 1 + length vs
join_tokens None d z [] many l = let a = ap (λ (ts : List Token). length (ts ++ [])) (no_values (table []) d.ends many) in omega (arith, a)
join_tokens None d z (v ∷ vs) many l = absurd (omega (arith, l))
join_tokens (Some t) d z [] many l = absurd (omega (arith, l))
join_tokens (Some t) d z (v ∷ []) many l = let a = ap (λ (ts : List Token). length ts) (one_token (table (1 ∷ [])) d.ends v many refl) in omega (arith, a)
join_tokens (Some t) d z (v ∷ w ∷ vs) many l = absurd (omega (arith, l))

module _ (g : Graph) (gs : Groups) (net : Net) (scalars : List ℕ) (one : OneFrom net) where
  finished_by : (s t : State) (a : Aside) (fs : List Firing) (k x : ℕ) (o : Own) (r : Option ℕ) → Calm net a → NoneWaits net a → ((u : ℕ) → slice_get net.units u ≡ Some Exit → u ≡ x) → Leads net s fs t → length fs ≤ k
      → Shows net scalars t (λ y. []) (with_own x o a) → o.fired ≡ true → o.queue.items ≡ [] → o.value ≡ r → Finished net s k r a.arrays a.strays
  finished_by s t a fs k x o r calm waits exits run few h fired empty value = record {
    firings = fs;
    to = t;
    run = run;
    few = few;
    spent = is_spent net scalars t a calm waits x o h one fired empty;
    exited = has_exited net scalars t a calm waits x o h r exits fired value;
    arrays_are = h.same;
    most = h.few;
  }

  -- from the head of the return join: one firing for each queue, and that of the exit
  pub finishes : (ins join : ℕ) (b : Draft) (r : Option Ty) → net.result ≡ r → (let d = join_top ins join r b in EndsAt g gs net 0 d.queues → Within net (exited r (all_ended d.queues d))
      → ((u : ℕ) → slice_get net.units u ≡ Some Exit → u ≡ next (all_ended d.queues d))
      → (s : State) (a : Aside) (low m z : ℕ) (vs : List ℕ) → length (front_of g gs).units ≤ low → NoneWaits net a → length d.ends ≡ length vs → length vs ≡ length (result_widths r)
      → At net scalars low m s a d (open_tokens d z 0 (table (ones (result_widths r))) vs [])
      → Finished net s (length d.queues + 1) (taken_result r vs) a.arrays a.strays)
  finishes ins join b None none ends w exits s a low m z (v ∷ vs) early waits many as_many o = absurd (omega (arith, as_many))
  finishes ins join b None none ends w exits s a low m z [] early waits many as_many o =
      let d = join_top ins join None b in
      let e = all_ended d.queues d in
      let none_kept : kept (table []) d.ends [] ≡ [] = no_values (table []) d.ends many in
      let o1 = at_swapped (swaps_of (ap (λ (l : List Token). token d.control z ∷ (l ++ [])) none_kept)) o in
      let st = o1.stage in
      let p = all_pass g gs net scalars a waits None low early d.queues [] z [] tt d.queues 0 d s (λ i q e. ap (slice_get d.queues) (let z : 0 + i ≡ i = omega arith in z) ∙ e) ends w st.shows tt (inl o1.used.0) in
      let x = next e in
      let is : slice_get net.units x ≡ Some Exit = exit_unit None e w in
      let own = o.calm x Exit is refl in
      let go = exit_goes net scalars p.to (spread (Some e.control ∷ []) (z ∷ [])) a p.shows x z e.control is none (ap (λ (y : Own). y.fired) own) (to_exit None e w) (spread_front e.control z [] []) in
      let shown = shows_as (λ y. []) (λ y. take_front e.control z [] [] tt y) go.shows in
      finished_by s go.to a (p.firings ++ firing x Go ∷ []) (length d.queues + 1) x (record (a.own x) { fired = true }) None o.calm waits exits
      (leads_on net s p.firings (firing x Go ∷ []) p.to go.to p.run go.run) (let l = p.few in let k = length-append p.firings (firing x Go ∷ []) in omega (arith, l, k)) shown refl
      (ap (λ (y : Own). y.queue.items) own) (ap (λ (y : Own). y.value) own)
  finishes ins join b (Some t) some ends w exits s a low m z [] early waits many as_many o = absurd (omega (arith, as_many))
  finishes ins join b (Some t) some ends w exits s a low m z (v ∷ v' ∷ vs) early waits many as_many o = absurd (omega (arith, as_many))
  finishes ins join b (Some t) some ends w exits s a low m z (v ∷ []) early waits many as_many o =
      let d = join_top ins join (Some t) b in
      let e = all_ended d.queues d in
      let q = (end_of d.ends 0).place in
      let o1 = at_swapped (swaps_of (ap (λ (l : List Token). token d.control z ∷ l) (one_token (table (1 ∷ [])) d.ends v many refl))) o in
      let st = o1.stage in
      let p = all_pass g gs net scalars a waits (Some t) low early d.queues (Some q ∷ []) z (v ∷ []) o1.used.1 d.queues 0 d s (λ i q e. ap (slice_get d.queues) (let z : 0 + i ≡ i = omega arith in z) ∙ e) ends w st.shows st.apart.0 (inl o1.used.0) in
      let x = next e in
      let is : slice_get net.units x ≡ Some Exit = exit_unit (Some t) e w in
      let own = o.calm x Exit is refl in
      let y = end_of e.ends 0 in
      let same : y.place ≡ q = ap (λ es. (end_of es 0).place) (ends_kept d.queues d) in
      let wq : Wired net q (at x 1) = subst (λ k. Wired net k (at x 1)) same
      (last_wire {d = exited (Some t) e} (e.chans ++ record { from = e.control; to = at x 0; width = 32; slots = 1; delay = 1; ctl = true } ∷ []) (record { from = y.place; to = at x 1; width = y.width; slots = 1; delay = 1; ctl = false }) w refl) in
      let valued : is_some net.result ≡ true = ap is_some some in
      let second = spread_second e.control q z v [] [] (λ k. p.apart.0 (sym k)) in
      let go = exit_takes net scalars p.to (spread (Some e.control ∷ Some q ∷ []) (z ∷ v ∷ [])) a p.shows x z v e.control q is valued (ap (λ (k : Own). k.fired) own) (to_exit (Some t) e w) wq (spread_front e.control z (Some q ∷ []) (v ∷ [])) second in
      let shown = shows_as (λ k. []) (λ k. popped_same q _ _ (take_front e.control z (Some q ∷ []) (v ∷ []) p.apart) k ∙ take_front q v [] [] tt k) go.shows in
      finished_by s go.to a (p.firings ++ firing x Go ∷ []) (length d.queues + 1) x (record (a.own x) { fired = true; value = Some v }) (Some v) o.calm waits exits
      (leads_on net s p.firings (firing x Go ∷ []) p.to go.to p.run go.run) (let l = p.few in let k = length-append p.firings (firing x Go ∷ []) in omega (arith, l, k)) shown refl
      (ap (λ (k : Own). k.queue.items) own) refl

-- so of the net that is built, whose join is laid
pub ending : (g : Graph) (gs : Groups) → IsAsked g gs → JoinAt g gs (built g gs) → (scalars : List ℕ) (s : State) (a : Aside) (low m z : ℕ) (vs : List ℕ) → length (front_of g gs).units ≤ low → NoneWaits (built g gs) a
    → length (join_head g gs).ends ≡ length vs → length vs ≡ length (result_widths g.result)
    → At (built g gs) scalars low m s a (join_head g gs) (open_tokens (join_head g gs) z 0 (table (ones (result_widths g.result))) vs []) → Finished (built g gs) s (length g.arrays + 1) (taken_result g.result vs) a.arrays a.strays
ending g gs ask join scalars s a low m z vs early waits ends as_many o =
    let net = built g gs in
    let one : OneFrom net = (λ u p. one_out net (small g gs ask).units (net_closed g gs ask) u p) in
    let ins = inputs_of g (join_of g) in
    let w = with_feeders g gs in
    let many : length (join_head g gs).queues ≡ length g.arrays =
    ap (λ (qs : List (Option Queue)). length qs) (head_headed ins (join_of g) (result_widths g.result) (ones (result_widths g.result)) 0 w).queues ∙ (feeders_after g gs).queues ∙ (blocks_before g gs ask).queues in
    subst (λ k. Finished net s (k + 1) (taken_result g.result vs) a.arrays a.strays) many
    (finishes g gs net scalars one ins (join_of g) w g.result refl join.queues join.laid join.exits s a low m z vs early waits ends as_many o)
