-- What holds of a state that has data that may be saved, said of the state itself.
use Rattle.std.proofs.Common.{◌≡◌, ◌≢◌, ℕ, zero, suc, ◌+◌, ◌<◌, ◌≤◌, ◌^◌, ◌⊎◌, Bool, true, false, List, [], ◌∷◌, length, get_or, set, map, replicate, refl, sym, ap, subst, ◌∙◌, inl, inr, arith}
use Rattle.std.proofs.Math.ListN.{get_or-map}
use Rattle.std.proofs.lemmas.List.{length-map, get_or_past}
use Rattle.std.proofs.lemmas.List.Elements.{All-same}
use Rattle.std.proofs.lemmas.Bool.{cases_lt}
use Rattle.std.specs.List.{All, AllZip, list_all}
use Rattle.el_base.specs.declared.ty.Scalar.{Scalar}
use Rattle.net_types.specs.declared.net.Net.{Net}
use Rattle.net_types.specs.declared.net.Unit.{Unit as Kind}
use Rattle.net_types.specs.declared.net.Unit.TheVariants.{Fork, Sink, Lsq, Exit}
use Rattle.net_types.specs.Inputs.{IsPatternOf, AreElementsOf}
use Rattle.net_types.specs.Nets.{into, chan_at, kind_of}
use Rattle.net_types.specs.Tables.{array_width}
use Rattle.net_check.specs.Checks.{IsChecked}
use Rattle.lsq_core.specs.Parts.{MayStand, queue_of}
use Rattle.net_core.specs.declared.parts.Parts.{Parts}
use Rattle.net_core.specs.Fire.{State, Own, idle, tokens_at}
use Rattle.net_core.specs.Parts.{SentFits, IsByUnit, state_from, own_from, owns_from, with_bits, no_part, noted_outs, OwnStands}
use Rattle.net_core.specs.States.{CountsWithin}
use Rattle.net_core.specs.private.Restores.{numbers_set, part_of}
use Rattle.net_core.specs.private.Sents.{count_false}
use Rattle.net_core.proofs.RestoreLemmas.{length-with_bits, length-false, none_counted, none_sent}
use Rattle.net_core.proofs.RestoredLemmas.{OwnForm, Tells, told_by_unit, told_owns, owns_first}
use Rattle.net_core.proofs.SentLemmas.{set_count, all_or}
use Rattle.snapshot.specs.Fits.{EntryFits, Fits, UnitFits, ValueFits, max_count}
use Rattle.snapshot.specs.Laws.{HasData}

-- what is asked besides of what a unit of this kind keeps: a fork has an output left, entries may stand in a queue, and a value
-- stands where the exit has fired
abbrev pub OwnFits : Net → Kind → Own → Type 0
OwnFits net (Fork w outs) o = list_all (λ b. b) o.sent ≡ false
OwnFits net (Lsq a d ps gs f) o = MayStand d (length ps) o.queue × All (EntryFits (array_width net.arrays a) ps) o.queue.items
OwnFits net Exit o = ValueFits net.result o.fired o.value
OwnFits net k o = Unit {0}

-- a fork that has sent its head on has it
abbrev pub HeadsStay : Net → State → Type 0
HeadsStay net s = (u w outs j : ℕ) → kind_of net u ≡ Fork w outs → get_or (get_or s.own u idle).sent j false ≡ true → tokens_at s (into u 0 net.chans) ≢ []

pub record StateFits (net : Net) (s : State) : Type 0 where
  pub scalars : AllZip (λ (x : Scalar) n. IsPatternOf x.ty n) net.scalars s.scalars
  pub arrays : AllZip AreElementsOf net.arrays s.arrays
  pub long : length s.tokens ≡ length net.chans
  pub slots : (c : ℕ) → length (tokens_at s c) ≤ (chan_at net c).slots
  pub tokens : (c : ℕ) → All (λ v. v < 2 ^ (chan_at net c).width) (tokens_at s c)
  pub owned : length s.own ≡ length net.units
  pub form : (u : ℕ) → OwnForm (kind_of net u) (get_or s.own u idle)
  pub own : (u : ℕ) → OwnFits net (kind_of net u) (get_or s.own u idle)
  pub heads : HeadsStay net s
  pub strays : length s.strays ≡ length net.arrays
  pub counts : CountsWithin max_count s

-- ---- from data

-- so many false bits are left
left_after : (js : List ℕ) (bits : List Bool) → count_false bits ≤ count_false (with_bits js bits) + length js
left_after [] bits = omega arith
left_after (j ∷ js) bits = let r = left_after js (set bits j true) in let e = one (get_or bits j true) refl in omega arith
  where
    same : (bits : List Bool) (j : ℕ) → get_or bits j true ≡ true → set bits j true ≡ bits
    same [] j e = refl
    same (b ∷ bits) zero e = ap (λ x. x ∷ bits) (sym e)
    same (b ∷ bits) (suc j) e = ap (λ r. b ∷ r) (same bits j e)

    one : (b : Bool) → get_or bits j true ≡ b → count_false bits ≤ suc (count_false (set bits j true))
    one true e = rw (same bits j e) (omega arith)
    one false e = let s = set_count bits j e in omega arith

not_all : (bits : List Bool) → 1 ≤ count_false bits → list_all (λ b. b) bits ≡ false
not_all bits l = elim (all_or bits) [ inl w ↦ (let z = w.1 in absurd (omega arith)) | inr w ↦ w.0 ]

sent_left : (outs : ℕ) (js : List ℕ) → length js < outs → list_all (λ b. b) (with_bits js (replicate outs false)) ≡ false
sent_left outs js l =
    let a = left_after js (replicate outs false) in
    let b = none_counted (replicate outs false) (none_sent (replicate outs false) outs refl) in
    let c = length-false outs in
    not_all (with_bits js (replicate outs false)) (omega arith)

-- what a unit keeps by data, of its form
form_from : (k : Kind) (p : Parts) (u : ℕ) → OwnForm k (own_from k p u)
form_from (Fork w outs) p u = (refl, length-with_bits (get_or p.sent u []) (replicate outs false) ∙ length-false outs)
form_from (Lsq a d ps gs f) p u = (refl, refl)
form_from k p u = refl

module _ (net : Net) (p : Parts) (fits : Fits net p) where
  own_is : (u : ℕ) → u < length net.units → get_or (state_from net p).own u idle ≡ own_from (kind_of net u) p u
  own_is u l = owns_first p net.units u l

  length-owns : (n : ℕ) (ks : List Kind) → length (owns_from p n ks) ≡ length ks
  length-owns n [] = refl
  length-owns n (k ∷ ks) = ap suc (length-owns (suc n) ks)

  own_past : (u : ℕ) → length net.units ≤ u → get_or (state_from net p).own u idle ≡ idle
  own_past u l = get_or_past (owns_from p 0 net.units) u idle (let e = length-owns 0 net.units in omega arith)

  kind_past : (u : ℕ) → length net.units ≤ u → kind_of net u ≡ Sink 0
  kind_past u l = get_or_past net.units u (Sink 0) l

  all_own : (P : Kind → Own → Type 0) → P (Sink 0) idle → ((u : ℕ) → u < length net.units → P (kind_of net u) (own_from (kind_of net u) p u)) → (u : ℕ) → P (kind_of net u) (get_or (state_from net p).own u idle)
  all_own P none each u = by (cases_lt u (length net.units))
    where
      by : (u < length net.units) ⊎ (length net.units ≤ u) → P (kind_of net u) (get_or (state_from net p).own u idle)
      by (inl l) = subst (P (kind_of net u)) (sym (own_is u l)) (each u l)
      by (inr l) = rw (kind_past u l, own_past u l) none

  own_fits : (k : Kind) (u : ℕ) → OwnStands k p u → UnitFits net p u k → (k ≡ Exit → ValueFits net.result (get_or p.fired u false) p.value) → OwnFits net k (own_from k p u)
  own_fits (Fork w outs) u h g v = sent_left outs (get_or p.sent u []) h.some
  own_fits (Lsq a d ps gs f) u h g v = (h, g)
  own_fits Exit u h g v = v refl
  own_fits k u h g v = tt

  some_sent : (js : List ℕ) (n j : ℕ) → get_or (with_bits js (replicate n false)) j false ≡ true → js ≢ []
  some_sent [] n j h e = let z = none_sent (replicate n false) n refl j in cc
  some_sent (x ∷ js) n j h e = cc

  heads_of : (u w outs j : ℕ) → kind_of net u ≡ Fork w outs → get_or (get_or (state_from net p).own u idle).sent j false ≡ true → tokens_at (state_from net p) (into u 0 net.chans) ≢ []
  heads_of u w outs j is h = by (cases_lt u (length net.units))
    where
      by : (u < length net.units) ⊎ (length net.units ≤ u) → tokens_at (state_from net p) (into u 0 net.chans) ≢ []
      by (inl l) =
          let q : get_or (own_from (Fork w outs) p u).sent j false ≡ true = ap (λ k. get_or (own_from k p u).sent j false) (sym is) ∙ ap (λ (o : Own). get_or o.sent j false) (sym (own_is u l)) ∙ h in
          let f : UnitFits net p u (Fork w outs) = subst (UnitFits net p u) is (fits.units u) in
          f (some_sent (get_or p.sent u []) outs j q)
      by (inr l) = let z : Fork w outs ≡ Sink 0 = sym is ∙ kind_past u l in cc

  pub state_fits : StateFits net (state_from net p)
  state_fits = record {
    scalars = fits.stands.fit.scalars;
    arrays = fits.stands.fit.arrays;
    long = fits.stands.chans;
    slots = fits.stands.slots;
    tokens = fits.tokens;
    owned = length-owns 0 net.units;
    form = all_own OwnForm refl (λ u l. form_from (kind_of net u) p u);
    own = all_own (OwnFits net) tt (λ u l. own_fits (kind_of net u) u (fits.stands.own u l) (fits.units u) (fits.value u));
    heads = heads_of;
    strays = fits.stands.strays;
    counts = record { serials = all_own (λ k o. o.queue.next ≤ max_count) (omega arith) (λ u l. next_is (kind_of net u) u (fits.serials u)); strays = fits.strays };
  }
    where
      next_is : (k : Kind) (u : ℕ) → (get_or p.queues u no_part).next ≤ max_count → (own_from k p u).queue.next ≤ max_count
      next_is (Lsq a d ps gs f) u h = h
      next_is (Fork w outs) u h = omega arith
      next_is k u h = omega arith

-- ---- to data

rises_below : (n : ℕ) (bits : List Bool) → list_all (λ b. b) bits ≡ false → length (numbers_set n bits) < length bits
rises_below n [] h = cc
rises_below n (true ∷ bits) h = let r = rises_below (suc n) bits h in omega arith
rises_below n (false ∷ bits) h = let r = at_most (suc n) bits in omega arith
  where
    at_most : (n : ℕ) (bits : List Bool) → length (numbers_set n bits) ≤ length bits
    at_most n [] = omega arith
    at_most n (true ∷ bits) = let r = at_most (suc n) bits in omega arith
    at_most n (false ∷ bits) = let r = at_most (suc n) bits in omega arith

-- the data of a state, with the exit's number
abbrev pub data_of : State → ℕ → Parts
data_of s x = record {
  given = record { scalars = s.scalars; arrays = s.arrays };
  tokens = s.tokens;
  sent = map (λ (o : Own). numbers_set 0 o.sent) s.own;
  fired = map (λ (o : Own). o.fired) s.own;
  value = (get_or s.own x idle).value;
  queues = map part_of s.own;
  strays = s.strays;
}

set_some : (n : ℕ) (bits : List Bool) → numbers_set n bits ≢ [] → (j : ℕ) × (get_or bits j false ≡ true)
set_some n [] h = absurd (h refl)
set_some n (true ∷ bits) h = (0, refl)
set_some n (false ∷ bits) h = let w = set_some (suc n) bits h in (suc w.0, w.1)

module _ (net : Net) (s : State) (checked : IsChecked net) (fits : StateFits net s) where
  tells : Tells (data_of s checked.one_exit.unit) s.own
  tells = record {
    sent_long = length-map s.own (λ (o : Own). numbers_set 0 o.sent);
    fired_long = length-map s.own (λ (o : Own). o.fired);
    queues_long = length-map s.own part_of;
    sent = λ u. get_or-map (λ (o : Own). numbers_set 0 o.sent) s.own u idle;
    fired = λ u. get_or-map (λ (o : Own). o.fired) s.own u idle;
    queues = λ u. get_or-map part_of s.own u idle;
  }

  by_unit : IsByUnit net (data_of s checked.one_exit.unit)
  by_unit = told_by_unit net (data_of s checked.one_exit.unit) s.own fits.owned fits.form tells

  one_exit : (x : ℕ) → kind_of net x ≡ Exit → x ≡ checked.one_exit.unit
  one_exit x e = checked.one_exit.only x (rw e refl)

  is_state : state_from net (data_of s checked.one_exit.unit) ≡ s
  is_state =
      let own = told_owns net (data_of s checked.one_exit.unit) s.own fits.owned fits.form tells (λ x e. ap (λ n. (get_or s.own n idle).value) (one_exit x e)) in
      λ i. record { scalars = s.scalars; tokens = s.tokens; own = sym own i; arrays = s.arrays; strays = s.strays }

  sent_fits : (u w outs : ℕ) → kind_of net u ≡ Fork w outs → SentFits outs (get_or (data_of s checked.one_exit.unit).sent u [])
  sent_fits u w outs is =
      let o : Own = get_or s.own u idle in
      let f : OwnForm (Fork w outs) (get_or s.own u idle) = subst (λ k. OwnForm k (get_or s.own u idle)) is (fits.form u) in
      let l : list_all (λ b. b) (get_or s.own u idle).sent ≡ false = subst (λ k. OwnFits net k (get_or s.own u idle)) is (fits.own u) in
      let r = rises_below 0 (get_or s.own u idle).sent l in
      let m = f.1 in
      record {
        rising = by_unit.rising u;
        within = subst (λ k. All (λ j. j < noted_outs k) (get_or (data_of s checked.one_exit.unit).sent u [])) is (by_unit.within u);
        some = rw (tells.sent u) (omega arith);
      }

  stands_own : (u : ℕ) (k : Kind) → kind_of net u ≡ k → OwnStands k (data_of s checked.one_exit.unit) u
  stands_own u (Fork w outs) is = sent_fits u w outs is
  stands_own u (Lsq a d ps gs f) is =
      let g : OwnFits net (Lsq a d ps gs f) (get_or s.own u idle) = subst (λ k. OwnFits net k (get_or s.own u idle)) is (fits.own u) in
      let m : OwnForm (Lsq a d ps gs f) (get_or s.own u idle) = subst (λ k. OwnForm k (get_or s.own u idle)) is (fits.form u) in
      let e : (get_or s.own u idle).queue ≡ queue_of f (get_or (data_of s checked.one_exit.unit).queues u no_part) = (let x = m.1 in let y = tells.queues u in λ i. record { forward = x i; next = (sym y i).next; items = (sym y i).entries }) in
      subst (MayStand d (length ps)) e g.0
  stands_own u k is = tt

  unit_fits : (u : ℕ) (k : Kind) → kind_of net u ≡ k → UnitFits net (data_of s checked.one_exit.unit) u k
  unit_fits u (Fork w outs) is = λ h. (let x = set_some 0 (get_or s.own u idle).sent (λ e. h (tells.sent u ∙ e)) in fits.heads u w outs x.0 is x.1)
  unit_fits u (Lsq a d ps gs f) is =
      let g : OwnFits net (Lsq a d ps gs f) (get_or s.own u idle) = subst (λ k. OwnFits net k (get_or s.own u idle)) is (fits.own u) in
      All-same (EntryFits (array_width net.arrays a) ps) _ _ (ap (λ q. q.entries) (tells.queues u)) g.1
  unit_fits u k is = tt

  value_fits : (x : ℕ) → kind_of net x ≡ Exit → ValueFits net.result (get_or (data_of s checked.one_exit.unit).fired x false) (data_of s checked.one_exit.unit).value
  value_fits x is =
      let g : ValueFits net.result (get_or s.own x idle).fired (get_or s.own x idle).value = subst (λ k. OwnFits net k (get_or s.own x idle)) is (fits.own x) in
      let e = tells.fired x in
      let v = ap (λ n. (get_or s.own n idle).value) (one_exit x is) in
      subst (λ b. ValueFits net.result b (data_of s checked.one_exit.unit).value) (sym e) (subst (ValueFits net.result (get_or s.own x idle).fired) v g)

  pub has_data : HasData net s
  has_data = record {
    parts = data_of s checked.one_exit.unit;
    fits = record {
      stands = record {
        fit = record { scalars = fits.scalars; arrays = fits.arrays };
        chans = fits.long;
        slots = fits.slots;
        own = λ u l. stands_own u (kind_of net u) refl;
        strays = fits.strays;
      };
      by_unit = by_unit;
      tokens = fits.tokens;
      units = λ u. unit_fits u (kind_of net u) refl;
      value = value_fits;
      serials = λ u. rw (tells.queues u) (fits.counts.serials u);
      strays = fits.counts.strays;
    };
    is = is_state;
  }
