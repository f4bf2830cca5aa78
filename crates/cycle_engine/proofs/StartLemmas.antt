-- The engine at the opening state, and as a cycle begins.
use Rattle.std.proofs.Common.{◌≡◌, ℕ, suc, zero, ◌+◌, ◌*◌, ◌<◌, ◌≤◌, inl, replicate, Bool, true, false, cond, Some, is_some, List, [], ◌∷◌, ◌++◌, length, map, get_or, refl, sym, ap, subst, ◌∙◌, arith}
use Rattle.std.proofs.lemmas.List.{append-nil}
use Rattle.std.specs.List.{AllByRecursion}
use Rattle.el_base.specs.Limits.{max_depth, max_firings}
use Rattle.net_types.specs.declared.net.Chan.{Chan}
use Rattle.net_types.specs.declared.net.Net.{Net}
use Rattle.net_types.specs.declared.firing.Firing.{Firing}
use Rattle.net_types.specs.declared.firing.Inputs.{Inputs}
use Rattle.net_types.specs.declared.net.Unit.{Unit as Kind}
use Rattle.net_types.specs.declared.net.Unit.TheVariants.{Exit}
use Rattle.net_types.specs.Nets.{into, chan_at}
use Rattle.net_check.specs.Checks.{IsChecked}
use Rattle.net_core.specs.Fire.{State, idle, opened, first, head_at, tokens_at}
use Rattle.net_core.specs.Runs.{opening}
use Rattle.net_core.specs.States.{state_of, dates_of, IsOf, CountsWithin}
use Rattle.net_core.proofs.RegularLemmas.{opening_tokens}
use Rattle.cycle_engine.specs.declared.engine.Engine.{Engine}
use Rattle.cycle_engine.specs.declared.engine.Bounds.{Bounds}
use Rattle.cycle_engine.specs.declared.freed.Freed.{Freed}
use Rattle.cycle_engine.specs.declared.feeds.Feeds.{Feeds}
use Rattle.cycle_engine.specs.declared.used.Used.{Used}
use Rattle.cycle_engine.specs.Cycles.{Dated, dated_opening, May, AreDated, Makes, Once, InOrder}
use Rattle.cycle_engine.specs.Cuts.{joined}
use Rattle.cycle_engine.specs.private.Trials.{dated_of, IsBegun, IsEngine}
use Rattle.cycle_engine.specs.private.Marking.{Holds, IsMarked, IsListed, AreFeeds, AreListed, HasCells, coming_in, entries_at}
use Rattle.cycle_engine.specs.private.Control.{HasControl}
use Rattle.cycle_engine.specs.private.Fed.{AreMarksOf, HasFed}
use Rattle.cycle_engine.specs.private.Used.{AreNumbered, AreTold}
use Rattle.cycle_engine.specs.private.Goings.{Past, IsReady, InCycle, HasDone, AreComing, AreShut, all_made}
use Rattle.cycle_engine.specs.private.Pending.{HasPlaces, IsOpened}
use Rattle.cycle_engine.proofs.ShutLemmas.{none_shut, places_kept}
use Rattle.cycle_engine.proofs.PlaceLemmas.{fires_within}
use Rattle.cycle_engine.proofs.UsedLemmas.{told_first, told_next}

no_dates : List ℕ
no_dates = []

long_map : (cs : List Chan) → length (map (λ (c : Chan). no_dates) cs) ≡ length cs
long_map [] = refl
long_map (c ∷ cs) = ap suc (long_map cs)

pub opening_are : (net : Net) (inputs : Inputs) → AreDated net (dated_opening net inputs)
unfolding no_dates
opening_are net inputs = record { chans = long_map net.chans; lists = long_map net.chans; each = λ d. refl }

pub opened_as : (net : Net) (inputs : Inputs) (e : Engine) → state_of e.state ≡ opening net inputs → (dates_of e.state) ≡ map (λ (c : Chan). []) net.chans → dated_opening net inputs ≡ dated_of e
opened_as net inputs e a d = λ i. record { state = sym a i; dates = sym d i }

opened_starved : (net : Net) (inputs : Inputs) (e : Engine) → dated_opening net inputs ≡ dated_of e → (u p : ℕ) → is_some (head_at net (state_of e.state) u p) ≡ true → ⊥
opened_starved net inputs e same u p h =
    let xs : tokens_at (dated_opening net inputs).state (into u p net.chans) ≡ [] = opening_tokens net inputs (into u p net.chans) in
    let z : false ≡ true = ap is_some (sym (ap first xs)) ∙ (ap (λ (s : Dated). is_some (head_at net s.state u p)) same ∙ h) in cc

pub opened_ready : (net : Net) (inputs : Inputs) (b : Bounds) (e : Engine) → IsOf net e.state → dated_opening net inputs ≡ dated_of e → b.limit ≤ max_firings
    → e.made ≡ 0 → e.fired.items ≡ [] → CountsWithin 0 (state_of e.state) → e.log.room ≡ cond b.keep b.limit 0 → length e.freed.marked.items ≡ length net.chans → length e.begun.items ≡ length net.units
    → length e.marks.marked.items ≡ length net.units → IsListed net e.marks → HasCells net e.notes → AreNumbered net e.used.base.items (length e.used.last.items) → ((x : ℕ) → get_or e.used.last.items x 0 ≡ 0) → AreFeeds net e.feeds → HasPlaces net (length e.used.last.items) e.pending → AreMarksOf net (length e.used.last.items) e.fed → IsReady net b e
opened_ready net inputs b e of same few made fired counts room chans queues marked listed cells places none feeds pending fed =
    let z : all_made e ≡ 0 = (let l = ap (λ (fs : List Firing). length fs) fired in omega arith) in
    let k : all_made e * max_depth ≡ 0 = ap (λ n. n * max_depth) z in
    let P : ℕ → Type 0 = λ n. CountsWithin n (state_of e.state) in
    let D : Dated → Type 0 = AreDated net in
    let T : ℕ → Type 0 = λ n. AreTold net e.used n e.fired.items in
    record {
      engine = record { state = of; dated = subst D same (opening_are net inputs) };
      few = few;
      within = omega arith;
      counts = subst P (sym k) counts;
      room = λ h. (let r : e.log.room ≡ b.limit = room ∙ ap (λ x. cond x b.limit 0) h in omega arith);
      chans = chans;
      queues = queues;
      marked = marked;
      listed = listed;
      cells = cells;
      told = subst T (sym made) (subst (AreTold net e.used 0) (sym fired) (told_first net e.used none));
      places = places;
      feeds = feeds;
      pending = pending;
      fed = record { leads = fed.leads; sized = fed.sized; places = fed.places; each = λ u p a k many i h. absurd (opened_starved net inputs e same u p h) };
    }

items_none : (us : List Kind) (u : ℕ) → length (get_or (map opened us) u idle).queue.items ≡ 0
items_none [] zero = refl
items_none [] (suc u) = refl
items_none (Exit ∷ us) zero = refl
items_none (_ ∷ us) zero = refl
items_none (k ∷ us) (suc u) = items_none us u

lists_none : (cs : List Chan) (d : ℕ) → get_or (map (λ (c : Chan). no_dates) cs) d no_dates ≡ no_dates
lists_none [] d = refl
lists_none (c ∷ cs) zero = refl
lists_none (c ∷ cs) (suc d) = lists_none cs d

each_one : {A : Type 0} (z : A) (n d : ℕ) → get_or (replicate n z) d z ≡ z
each_one z zero zero = refl
each_one z zero (suc d) = refl
each_one z (suc n) zero = refl
each_one z (suc n) (suc d) = each_one z n d

pub none_listed : (f : Freed) → ((d : ℕ) → get_or f.marked.items d false ≡ false) → AreListed f
none_listed f none d m = let z : true ≡ false = sym m ∙ none d in cc

pub opened_done : (net : Net) (inputs : Inputs) (b : Bounds) (e : Engine) → dated_opening net inputs ≡ dated_of e → e.made ≡ 0 → e.fired.items ≡ [] → e.log.items ≡ [] → IsChecked net → e.freed.marked.items ≡ replicate (length net.chans) false → e.begun.items ≡ replicate (length net.units) 0
    → ((u : ℕ) → u < length net.units → IsMarked e.marks u) → e.pending.noted.items ≡ replicate (length net.units) false → HasDone net (record { inputs = inputs; cycles = [] }) b 0 e
unfolding no_dates
opened_done net inputs b e same made fired log checked chans queues marked unnoted = record {
  done = same;
  number = refl;
  made = (let l = ap (λ (fs : List Firing). length fs) fired in omega arith);
  log = log ∙ sym (none b.keep);
  listed = none_listed e.freed (λ d. ap (λ (xs : List Bool). get_or xs d false) chans ∙ each_one false (length net.chans) d);
  entries = λ u l. inl (ap (λ xs. get_or xs u 0) queues ∙ (each_one 0 (length net.units) u ∙ (sym (items_none net.units u) ∙ ap (λ (s : Dated). entries_at s.state u) same)));
  coming = λ d. (let P : List ℕ → Type 0 = AllByRecursion (λ x. (x < 0) × (0 ≤ x + (chan_at net d).delay → Holds d (coming_in e.notes (x + (chan_at net d).delay)))) in subst P (sym (ap (λ (s : Dated). get_or s.dates d []) (sym same) ∙ lists_none net.chans d)) tt);
  control = λ u g v l h. absurd (starved u g v h);
  shut = none_shut net (length net.units) e unnoted;
  next = λ g m stirred. stirred (inl (marked g.unit (within g m)));
}
  where
    starved : (u g v : ℕ) → head_at net (state_of e.state) u g ≡ Some v → ⊥
    starved u g v h = opened_starved net inputs e same u g (ap is_some h)

    within : (g : Firing) → May net 0 (dated_of e) (dated_of e) g → g.unit < length net.units
    within g m = fires_within net (state_of e.state) g checked (let P : Dated → Type 0 = λ x. length x.state.tokens ≡ length net.chans in subst P same (long_map net.chans)) m.turn

    none : (k : Bool) → cond k (joined []) [] ≡ joined []
    none true = refl
    none false = refl

pub begun_ready : (net : Net) (b : Bounds) (old new : Engine) → IsReady net b old → IsEngine net new → state_of new.state ≡ state_of old.state → new.made ≡ all_made old → new.fired.items ≡ [] → new.log ≡ old.log
    → length new.freed.marked.items ≡ length net.chans → length new.begun.items ≡ length net.units
    → length new.marks.marked.items ≡ length net.units → IsListed net new.marks → HasCells net new.notes → new.used ≡ old.used → new.feeds ≡ old.feeds → IsOpened old.pending new.pending → new.fed ≡ old.fed → IsReady net b new
begun_ready net b old new r eng same made fired log chans queues marked listed cells used feeds opened fed =
    let z : all_made new ≡ all_made old = (let l = ap (λ (fs : List Firing). length fs) fired in omega arith) in
    let k : all_made new * max_depth ≡ all_made old * max_depth = ap (λ n. n * max_depth) z in
    let P : ℕ → Type 0 = λ n. CountsWithin n (state_of new.state) in
    let Q : _ → Type 0 = CountsWithin (all_made old * max_depth) in
    let F : Feeds → Type 0 = AreFeeds net in
    let U : Used → Type 0 = λ u. AreNumbered net u.base.items (length u.last.items) in
    let T : Used → Type 0 = λ u. AreTold net u new.made [] in
    let N : Used → Type 0 = λ u. HasFed net (state_of new.state) u old.fed in
    let S : State → Type 0 = λ s. HasFed net s old.used old.fed in
    record {
      engine = eng;
      few = r.few;
      within = (let w = r.within in omega arith);
      counts = subst P (sym k) (subst Q (sym same) r.counts);
      room = λ h. (let x = r.room h in let y : new.log.room ≡ old.log.room = ap (λ l. l.room) log in omega arith);
      chans = chans;
      queues = queues;
      marked = marked;
      listed = listed;
      cells = cells;
      told = subst (AreTold net new.used new.made) (sym fired) (subst T (sym used) (told_next net old.used old.made new.made old.fired.items r.told made));
      places = subst U (sym used) r.places;
      feeds = subst F (sym feeds) r.feeds;
      pending = places_kept net (length old.used.last.items) (length new.used.last.items) old.pending new.pending (ap (λ (u : Used). length u.last.items) used) opened r.pending;
      fed = subst (HasFed net (state_of new.state) new.used) (sym fed) (subst N (sym used) (subst S (sym same) r.fed));
    }

-- so a cycle begins
pub begun_going : (net : Net) (past : Past) (b : Bounds) (c : ℕ) (old new : Engine) → HasDone net past b c old → IsBegun net c (dated_of old) new → dated_of new ≡ dated_of old → new.fired.items ≡ []
    → new.made ≡ all_made old → new.log.items ≡ old.log.items → AreListed new.freed → AreComing net (c + 1) new → HasControl net (state_of new.state) new.control → AreShut net (dated_of old) new → InCycle net past b c (dated_of old) new
begun_going net past b c old new d begun same none made log listed coming control shut =
    let M : List Firing → Type 0 = λ fs. Makes net c (dated_of old) (dated_of old) fs (dated_of new) in
    let O : List Firing → Type 0 = Once in
    let I : List Firing → Type 0 = InOrder in
    record {
      began = begun;
      done = d.done;
      number = d.number;
      makes = subst M (sym none) (sym same);
      once = subst O (sym none) tt;
      order = subst I (sym none) tt;
      made = made ∙ d.made;
      log = log ∙ (d.log ∙ (ap (λ xs. cond b.keep xs []) (sym (append-nil (joined past.cycles))) ∙ ap (λ fs. cond b.keep (joined past.cycles ++ fs) []) (sym none)));
      listed = listed;
      coming = coming;
      control = control;
      shut = shut;
    }
