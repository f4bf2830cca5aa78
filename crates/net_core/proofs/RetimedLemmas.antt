-- Firings of nets that are equal but for slots and delays.
use Rattle.std.proofs.Common.{◌≡◌, ℕ, suc, ◌<◌, ◌≤◌, ◌==◌, cond, Option, Some, None, List, [], ◌∷◌, length, get_or, map, refl, sym, ap, subst, ◌∙◌, inl, inr, arith, IsSomeAnd}
use Rattle.std.specs.List.{All}
use Rattle.std.proofs.lemmas.Bool.{cases_lt}
use Rattle.std.proofs.lemmas.List.{length-map, get_or_past}
use Rattle.net_types.specs.declared.net.Chan.{Chan}
use Rattle.net_types.specs.declared.net.Net.{Net}
use Rattle.net_types.specs.declared.firing.Inputs.{Inputs}
use Rattle.net_types.specs.declared.firing.Firing.{Firing}
use Rattle.net_types.specs.Nets.{is_at, into, out_of, nowhere, chan_at, kind_of, uses}
use Rattle.net_check.specs.Retimed.{untimed, plain, SamePlain, Retimed}
use Rattle.net_core.specs.Fire.{Put, State, Effect, effect, effect_of, row, idle, at_array, setting, head_at, first, tokens_at, has_room, enabled, after, after_effect, applied, moved, added, taken, takes_from, puts_on, among, changed_from}
use Rattle.net_core.specs.Runs.{Leads, opening}
use Rattle.net_core.specs.Laws.{HasSlotsOf, MoreSlots, SameOpening, OneSlotServes, StaysAtRest}

into_plain : (u p : ℕ) (cs : List Chan) → into u p (map untimed cs) ≡ into u p cs
into_plain u p [] = refl
into_plain u p (c ∷ cs) = ap (λ n. cond (is_at c.to u p) 0 (suc n)) (into_plain u p cs)

out_plain : (u p : ℕ) (cs : List Chan) → out_of u p (map untimed cs) ≡ out_of u p cs
out_plain u p [] = refl
out_plain u p (c ∷ cs) = ap (λ n. cond (is_at c.from u p) 0 (suc n)) (out_plain u p cs)

effect_plain : (net : Net) (s : State) (f : Firing) → effect (plain net) s f ≡ effect net s f
effect_plain net s f =
    let heads : head_at (plain net) s f.unit ≡ head_at net s f.unit = λ i p. first (tokens_at s (into_plain f.unit p net.chans i)) in
    ap (λ h. effect_of (row (kind_of net f.unit) f.act (get_or s.own f.unit idle) (at_array s.arrays (uses (kind_of net f.unit))) (setting net s)) h) heads

puts_plain : (net : Net) (u : ℕ) (o : Option Put) (c : ℕ) → puts_on (plain net) u o c ≡ puts_on net u o c
puts_plain net u None c = refl
puts_plain net u (Some w) c = ap (λ n. cond (c == n) (Some w.value) None) (out_plain u w.place net.chans)

takes_plain : (net : Net) (u : ℕ) (e : Effect) (c : ℕ) → takes_from (plain net) u e c ≡ takes_from net u e c
takes_plain net u e c =
    let fun : ◌≡◌ {A = ℕ → ℕ} (λ p. into u p (map untimed net.chans)) (λ p. into u p net.chans) = λ i p. into_plain u p net.chans i in
    ap (λ h. among c (map h e.takes)) fun

applied_plain : (net : Net) (u : ℕ) (e : Effect) (s : State) → applied (plain net) u e s ≡ applied net u e s
applied_plain net u e s =
    let m : moved (plain net) u e ≡ moved net u e = λ i c xs. added (puts_plain net u e.put c i) (taken (takes_plain net u e c i) xs) in
    λ i. record (applied net u e s) { tokens = changed_from (m i) 0 s.tokens }

after_by : (net : Net) (s : State) (u : ℕ) (o : Option Effect) → after_effect (plain net) s u o ≡ after_effect net s u o
after_by net s u None = refl
after_by net s u (Some e) = applied_plain net u e s

after_plain : (net : Net) (s : State) (f : Firing) → after (plain net) s f ≡ after net s f
after_plain net s f = ap (λ o. after_effect (plain net) s f.unit o) (effect_plain net s f) ∙ after_by net s f.unit (effect net s f)

opening_plain : (cs : List Chan) → ◌≡◌ {A = List (List ℕ)} (map (λ c. []) (map untimed cs)) (map (λ c. []) cs)
opening_plain [] = refl
opening_plain (c ∷ cs) = ap (λ r. [] ∷ r) (opening_plain cs)

module _ (net net2 : Net) (same : SamePlain net net2) where
  effect_same : (s : State) (f : Firing) → effect net2 s f ≡ effect net s f
  effect_same s f = sym (effect_plain net2 s f) ∙ ap (λ n. effect n s f) same ∙ effect_plain net s f

  after_same : (s : State) (f : Firing) → after net2 s f ≡ after net s f
  after_same s f = sym (after_plain net2 s f) ∙ ap (λ n. after n s f) same ∙ after_plain net s f

  out_same : (u p : ℕ) → out_of u p net2.chans ≡ out_of u p net.chans
  out_same u p = sym (out_plain u p net2.chans) ∙ ap (λ (n : Net). out_of u p n.chans) same ∙ out_plain u p net.chans

  chans_same : length net2.chans ≡ length net.chans
  chans_same =
      let e : length (map untimed net2.chans) ≡ length (map untimed net.chans) = ap (λ (n : Net). length n.chans) same in
      omega (arith, length-map net2.chans untimed, length-map net.chans untimed)

  opening_same : (inputs : Inputs) → opening net2 inputs ≡ opening net inputs
  opening_same inputs =
      let a : opening (plain net2) inputs ≡ opening net2 inputs = ap (λ t. record (opening net2 inputs) { tokens = t }) (opening_plain net2.chans) in
      let b : opening (plain net) inputs ≡ opening net inputs = ap (λ t. record (opening net inputs) { tokens = t }) (opening_plain net.chans) in
      sym a ∙ ap (λ n. opening n inputs) same ∙ b

  -- room is the only thing that a firing asks of slots
  enabled_by : (s : State) (f : Firing) → ((o : Option Put) → has_room net s f.unit o → has_room net2 s f.unit o) → enabled net s f → enabled net2 s f
  enabled_by s f room h =
      let P : Option Effect → Type 0 = λ o. IsSomeAnd o (λ e. has_room net2 s f.unit e.put) in
      subst P (sym (effect_same s f)) (at (effect net s f) h)
    where
      at : (o : Option Effect) → IsSomeAnd o (λ e. has_room net s f.unit e.put) → IsSomeAnd o (λ e. has_room net2 s f.unit e.put)
      at None h = h
      at (Some e) h = room e.put h

  room_more : ((c : ℕ) → (chan_at net c).slots ≤ (chan_at net2 c).slots) → (s : State) (u : ℕ) (o : Option Put) → has_room net s u o → has_room net2 s u o
  room_more more s u None h = h
  room_more more s u (Some w) h =
      let P : ℕ → Type 0 = λ c. length (tokens_at s c) < (chan_at net2 c).slots in
      let m = more (out_of u w.place net.chans) in
      subst P (sym (out_same u w.place)) (omega arith)

  leads_more : ((c : ℕ) → (chan_at net c).slots ≤ (chan_at net2 c).slots) → (s : State) (fs : List Firing) (t : State) → Leads net s fs t → Leads net2 s fs t
  leads_more more s [] t r = r
  leads_more more s (f ∷ fs) t r =
      let P : State → Type 0 = λ x. Leads net2 x fs t in
      (enabled_by s f (room_more more s f.unit) r.0, subst P (sym (after_same s f)) (leads_more more (after net s f) fs t r.1))

-- the other way: without tokens there is room where there are slots
room_empty : (net net2 : Net) → SamePlain net net2 → HasSlotsOf net net2 → (s : State) → ((c : ℕ) → tokens_at s c ≡ []) → (u : ℕ) (o : Option Put) → has_room net2 s u o → has_room net s u o
room_empty net net2 same some s empty u None h = h
room_empty net net2 same some s empty u (Some w) h =
    let P : ℕ → Type 0 = λ c. length (tokens_at s c) < (chan_at net2 c).slots in
    let c = out_of u w.place net.chans in
    let a : length (tokens_at s c) < (chan_at net2 c).slots = subst P (out_same net net2 same u w.place) h in
    let b : length (tokens_at s c) ≡ 0 = ap (λ (xs : List ℕ). length xs) (empty c) in
    let d : 0 < (chan_at net c).slots = some c (omega arith) in
    omega arith

pub more_slots : MoreSlots
more_slots net net2 s t fs r l = leads_more net net2 r.same r.slots s fs t l

pub same_opening : SameOpening
same_opening net net2 inputs same = opening_same net net2 same inputs

pub stays_at_rest : StaysAtRest
stays_at_rest net net2 s same some empty rest f h = rest f (enabled_by net2 net (sym same) s f (room_empty net net2 same some s empty f.unit) h)

-- ---- one slot a channel

one_roomier : (net net2 : Net) → All (λ (c : Chan). c.slots ≡ 1) net.chans → Retimed net net2 → (c : ℕ) → (chan_at net c).slots ≤ (chan_at net2 c).slots
one_roomier net net2 one r c = elim (cases_lt c (length net.chans)) [
  | inl l ↦ (
      let a : (chan_at net c).slots ≡ 1 = one c nowhere l in
      let b = (r.checked.sized c (omega (arith, chans_same net net2 r.same))).slots_some in
      omega arith)
  | inr l ↦ (let a : (chan_at net c).slots ≡ 0 = ap (λ (x : Chan). x.slots) (get_or_past net.chans c nowhere l) in omega arith)
]

pub one_slot_serves : OneSlotServes
one_slot_serves net net2 inputs fs s one r run =
    let P : State → Type 0 = λ x. Leads net2 x fs s in
    subst P (sym (opening_same net net2 r.same inputs)) (leads_more net net2 r.same (one_roomier net net2 one r) (opening net inputs) fs s run)
