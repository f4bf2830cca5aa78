-- What a worker keeps: the rooms of its own units and of the channels at them.
use Rattle.std.proofs.Common.{◌≡◌, ℕ, zero, suc, ◌+◌, ◌<◌, Bool, true, false, cond, List, [], ◌∷◌, ◌++◌, Option, Some, None, length, get_or, refl, ap, ◌∙◌, sym, subst, arith, add-one, append-nil}
use Rattle.net_types.specs.declared.net.Net.{Net}
use Rattle.net_types.specs.Nets.{into, out_of, chan_at}
use Rattle.net_core.specs.declared.plan.Laid.{Laid}
use Rattle.net_core.specs.declared.plan.Moves.{Moves}
use Rattle.net_core.specs.declared.plan.Plan.{Plan}
use Rattle.net_core.specs.declared.plan.Put.{Put}
use Rattle.net_core.specs.declared.plan.Takes.{Takes}
use Rattle.net_core.specs.declared.plan.Takes.TheVariants.{None as no_place, One, Two, Three}
use Rattle.net_core.specs.Plans.{taken_of, laid_of, moves_of}
use Rattle.net_core.proofs.ApartLemmas.{into-at, out_of-at, is_at-inv}
use Rattle.net_worker.specs.ChannelEnds.{AreChannels, StandsAt}
use Rattle.net_worker.specs.Handed.{HoldsToo, MadeHolds}
use Rattle.net_worker.specs.MovesHere.{AreTakenHere, IsInIfAny, IsLaidHere, IsOutIfAny}
use Rattle.net_worker.specs.Places.{chans_of, has_end, numbers_where, owns_unit, units_of}
use Rattle.net_worker.specs.Portions.{PortionView, HasPins, SameHere}
use Rattle.net_worker.specs.Turns.{HasUnit}
use Rattle.net_worker.specs.Workers.{owner_in, HoldsOwn, IsMadeOf}
use Rattle.net_worker.specs.declared.tables.Tables.{Tables}
use Rattle.net_worker.specs.declared.worker.Worker.{Worker}
use Rattle.net_worker.proofs.EndPlaces.{channels_if}
use Rattle.net_worker.proofs.Here.{UnitIn, OutIn, InIn}
pub use Rattle.net_worker.proofs.Here.{here_same, here_trans, in_on, out_on, pins_on, unit_on}

pub own_on : (t : Tables) (i j : ℕ) (p q : PortionView) → j ≡ i → SameHere p q → HoldsOwn t i p → HoldsOwn t j q
own_on t i j p q e h k = record {
  unit = λ u l o. unit_on p q u h (k.unit u l (o ∙ e));
  out = λ c l o. out_on p q c h (k.out c l (o ∙ e));
  into = λ c l o. in_on p q c h (k.into c l (o ∙ e));
}

pub holds_on : (a b : Worker) → SameHere a.portion b.portion → HoldsToo a b
holds_on a b h = record { units = λ u k. unit_on a.portion b.portion u h k; chans = λ c k. in_on a.portion b.portion c h k }

-- ---- own units

-- the numbers below n of which f is true ascend
pub numbers_more : (f : ℕ → Bool) (n : ℕ) (cs ds : List ℕ) (b : Bool) → b ≡ f n → ds ≡ cond b (cs ++ n ∷ []) cs → cs ≡ numbers_where f n → ds ≡ numbers_where f (n + 1)
numbers_more f n cs ds true is h k =
    h ∙ (ap (λ xs. xs ++ n ∷ []) k ∙ (ap (λ c. numbers_where f n ++ cond c (n ∷ []) []) is ∙ ap (numbers_where f) (sym (add-one n))))
numbers_more f n cs ds false is h k =
    h ∙ (k ∙ (sym (append-nil (numbers_where f n)) ∙ (ap (λ c. numbers_where f n ++ cond c (n ∷ []) []) is ∙ ap (numbers_where f) (sym (add-one n)))))

numbers_if : (xs : List ℕ) (n : ℕ) (b : Bool) → xs ++ cond b (n ∷ []) [] ≡ cond b (xs ++ n ∷ []) xs
numbers_if xs n true = refl
numbers_if xs n false = append-nil xs

pub numbers_ascend : (f : ℕ → Bool) (n : ℕ) → AreChannels n (numbers_where f n)
numbers_ascend f zero = record { rise = λ i j a b. absurd (omega arith); within = λ i l. absurd (omega arith) }
numbers_ascend f (suc n) =
    subst (λ k. AreChannels k (numbers_where f (suc n))) (add-one n)
    (channels_if n (numbers_where f n) (numbers_where f (suc n)) (f n) (numbers_if (numbers_where f n) n (f n)) (numbers_ascend f n))

pub units_ascend : (t : Tables) (j : ℕ) → AreChannels (length t.net.now.units) (units_of t.owners j)
units_ascend t j = subst (λ n. AreChannels n (units_of t.owners j)) t.owned (numbers_ascend (owns_unit t.owners j) (length t.owners))

pub chans_ascend : (t : Tables) (j : ℕ) → AreChannels (length t.net.now.chans) (chans_of t.net.now t.owners j)
chans_ascend t j = numbers_ascend (has_end t.net.now t.owners j) (length t.net.now.chans)

-- the units of the worker j, and the channels at them, are its own
pub own_opened : (t : Tables) (j : ℕ) (p : PortionView) → p.units ≡ units_of t.owners j → p.chans ≡ chans_of t.net.now t.owners j → p.places ≡ t.places.value → HoldsOwn t j p
own_opened t j p us cs ps = record {
  unit = λ u l e. subst (λ q. UnitIn q p.units u) (sym ps) (subst (λ x. UnitIn t.places.value x u) (sym us)
      (omega (arith, t.stand.units_long, t.owned), subst (λ k. StandsAt (units_of t.owners k) u (get_or t.places.value.units.items u 0)) e (t.stand.unit u (omega (arith, t.owned)))));
  out = λ c l e. subst (λ q. OutIn q p.chans c) (sym ps) (subst (λ x. OutIn t.places.value x c) (sym cs)
      (omega (arith, t.stand.outs_long), subst (λ k. StandsAt (chans_of t.net.now t.owners k) c (get_or t.places.value.outs.items c 0)) e (t.stand.out c l)));
  into = λ c l e. subst (λ q. InIn q p.chans c) (sym ps) (subst (λ x. InIn t.places.value x c) (sym cs)
      (omega (arith, t.stand.ins_long), subst (λ k. StandsAt (chans_of t.net.now t.owners k) c (get_or t.places.value.ins.items c 0)) e (t.stand.into c l)));
}

pub own_pins : (t : Tables) (j : ℕ) (p : PortionView) (u : ℕ) → HoldsOwn t j p → owner_in t u ≡ j → u < length t.net.now.units → HasPins t.net.now p u
own_pins t j p u h e l = record {
  unit = h.unit u l e;
  outs = λ c k q. h.out c k (ap (owner_in t) q ∙ e);
  ins = λ c k q. h.into c k (ap (owner_in t) q ∙ e);
}

pub made_pins : (t : Tables) (w : Worker) (u : ℕ) → IsMadeOf t w → owner_in t u ≡ w.number → u < length t.net.now.units → HasPins t.net.now w.portion u
made_pins t w u m e l = own_pins t w.number w.portion u m.own e l

pub unit_pins : (t : Tables) (w : Worker) (u : ℕ) → HasUnit t w u → HasPins t.net.now w.portion u
unit_pins t w u h = made_pins t w u h.made h.mine h.within

pub made_holds : MadeHolds
made_holds = record { units = λ t w u m l e. m.own.unit u l e; chans = λ t w c m l e. m.own.into c l e }

-- ---- channels at the places of a unit

pub in_place : (net : Net) (p : PortionView) (u q : ℕ) → HasPins net p u → IsInIfAny net p (into u q net.chans)
in_place net p u q h l = h.ins (into u q net.chans) l (is_at-inv (chan_at net (into u q net.chans)).to u q (into-at u q net.chans l)).0

pub out_place : (net : Net) (p : PortionView) (u q : ℕ) → HasPins net p u → IsOutIfAny net p (out_of u q net.chans)
out_place net p u q h l = h.outs (out_of u q net.chans) l (is_at-inv (chan_at net (out_of u q net.chans)).from u q (out_of-at u q net.chans l)).0

pub in_chan : (net : Net) (p : PortionView) (u q c : ℕ) → c ≡ into u q net.chans → HasPins net p u → IsInIfAny net p c
in_chan net p u q c e h = subst (IsInIfAny net p) (sym e) (in_place net p u q h)

pub out_chan : (net : Net) (p : PortionView) (u q c : ℕ) → c ≡ out_of u q net.chans → HasPins net p u → IsOutIfAny net p c
out_chan net p u q c e h = subst (IsOutIfAny net p) (sym e) (out_place net p u q h)

pub taken_here : (net : Net) (p : PortionView) (u : ℕ) (ts : Takes) → HasPins net p u → AreTakenHere net p (taken_of net u ts)
taken_here net p u no_place h = tt
taken_here net p u (One a) h = in_place net p u a h
taken_here net p u (Two a b) h = (in_place net p u a h, in_place net p u b h)
taken_here net p u (Three a b c) h = (in_place net p u a h, in_place net p u b h, in_place net p u c h)

pub laid_here : (net : Net) (p : PortionView) (u : ℕ) (o : Option Put) → HasPins net p u → IsLaidHere net p (laid_of net u o)
laid_here net p u None h = tt
laid_here net p u (Some w) h = out_place net p u w.place h

pub laid_on : (net : Net) (p : PortionView) (u : ℕ) (o : Option Put) (l : Laid) → laid_of net u o ≡ Some l → HasPins net p u → IsOutIfAny net p l.chan
laid_on net p u o l is h = subst (IsLaidHere net p) is (laid_here net p u o h)

-- what a firing of the unit moves
pub moves_taken : (net : Net) (p : PortionView) (u : ℕ) (x : Plan) (m : Moves) → m ≡ moves_of net u x → HasPins net p u → AreTakenHere net p m.taken
moves_taken net p u x m e h = subst (λ (m : Moves). AreTakenHere net p m.taken) (sym e) (taken_here net p u x.takes h)

pub moves_laid : (net : Net) (p : PortionView) (u : ℕ) (x : Plan) (m : Moves) → m ≡ moves_of net u x → HasPins net p u → IsLaidHere net p m.laid
moves_laid net p u x m e h = subst (λ (m : Moves). IsLaidHere net p m.laid) (sym e) (laid_here net p u x.put h)
