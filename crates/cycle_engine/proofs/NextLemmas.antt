-- From one cycle to the next: which units may fire in it.
use Rattle.std.proofs.Common.{◌≡◌, ◌≢◌, ℕ, suc, zero, ◌+◌, ◌%◌, ◌<◌, ◌≤◌, ◌⊎◌, inl, inr, Bool, true, false, Option, Some, None, List, [], ◌∷◌, length, get_or, set, refl, sym, ap, subst, ◌∙◌, arith, IsSomeAnd, get_or-set_other}
use Rattle.std.specs.List.{AllByRecursion}
use Rattle.std.proofs.lemmas.Bool.{cases_lt, cases_eq}
use Rattle.net_types.specs.declared.net.Net.{Net}
use Rattle.net_types.specs.declared.net.Unit.{Unit as Kind}
use Rattle.net_types.specs.declared.net.Unit.TheVariants.{Lsq}
use Rattle.net_types.specs.declared.firing.Act.{Act}
use Rattle.net_types.specs.declared.firing.Firing.{Firing}
use Rattle.net_types.specs.Nets.{into, out_of, kind_of, chan_at}
use Rattle.net_check.specs.Checks.{IsChecked}
use Rattle.net_check.specs.Ends.{is_lsq}
use Rattle.net_core.specs.Fire.{Own, Effect, idle, effect, first, has_room, tokens_at}
use Rattle.net_core.specs.declared.plan.Put.{Put}
use Rattle.net_core.specs.States.{state_of, dates_of}
use Rattle.net_core.proofs.ApartLemmas.{into-at, out_of-at, is_at-inv}
use Rattle.cycle_engine.specs.declared.engine.Engine.{Engine}
use Rattle.cycle_engine.specs.declared.engine.Bounds.{Bounds}
use Rattle.cycle_engine.specs.declared.marks.Marks.{Marks}
use Rattle.cycle_engine.specs.Cycles.{Dated, IsRipe, HasDepth, May, Makes, IsUnused, after_by, after_in}
use Rattle.cycle_engine.specs.private.Trials.{dated_of, IsOldFull, IsFollowed, IsEngine}
use Rattle.cycle_engine.specs.private.Marking.{Holds, HasUnit, no_firing, IsMarked, IsStarved, IsSourceMarked, IsFedMarked, HasCells, coming_in, cells_of, entries_at}
use Rattle.cycle_engine.specs.private.Goings.{Past, IsReady, HasDone, IsStirred, IsWatching, AreComing}
use Rattle.cycle_engine.specs.private.Places.{IsFull}
use Rattle.cycle_engine.specs.Rousing.{Could}
use Rattle.cycle_engine.proofs.NoteLemmas.{apart_rests, cleared_long}
use Rattle.cycle_engine.proofs.BeforeLemmas.{some_within, after_of, may_could}
use Rattle.cycle_engine.proofs.RousingLemmas.{slots_within, next_could}
use Rattle.cycle_engine.proofs.DateLemmas.{each_as, effect_there}
use Rattle.cycle_engine.proofs.FeedLemmas.{lacking_quiet}
use Rattle.cycle_engine.proofs.PlaceLemmas.{fires_within, starved_quiet}

get_other : (xs : List Own) (v u : ℕ) (o : Own) → u ≢ v → get_or (set xs v o) u idle ≡ get_or xs u idle
get_other xs v u o n = get_or-set_other xs v u o idle n

-- a unit that has not fired keeps what it kept
pub own_same : (net : Net) (c : ℕ) (start s : Dated) (fs : List Firing) (t : Dated) (u : ℕ) → Makes net c start s fs t → (HasUnit u fs → ⊥) → get_or t.state.own u idle ≡ get_or s.state.own u idle
own_same net c start s [] t u m n = ap (λ (x : Dated). get_or x.state.own u idle) (sym m)
own_same net c start s (f ∷ fs) t u m n =
    let w = effect_there net s.state f m.0.turn in
    let q : after_in net c s f ≡ after_of net c s f.unit w.0 = ap (after_by net c s f.unit) w.1 in
    own_same net c start (after_in net c s f) fs t u m.2 (λ h. n (record { at = suc h.at; within = (let l = h.within in omega arith); is = h.is }))
    ∙ (ap (λ (x : Dated). get_or x.state.own u idle) q ∙ get_other s.state.own f.unit u w.0.own (λ e. n (record { at = 0; within = omega arith; is = sym e })))

unit_unused : (fs : List Firing) (g : Firing) → (HasUnit g.unit fs → ⊥) → IsUnused fs g
unit_unused [] g n = tt
unit_unused (f ∷ fs) g n = (
  (λ e. n (record { at = 0; within = omega arith; is = ap (λ (x : Firing). x.unit) e })),
  unit_unused fs g (λ h. n (record { at = suc h.at; within = (let l = h.within in omega arith); is = h.is })),
)

pub no_unit : (fs : List Firing) (u : ℕ) → AllByRecursion (λ g. g.unit ≢ u) fs → HasUnit u fs → ⊥
no_unit fs u h k = by fs k.at h k.within k.is
  where
    by : (fs : List Firing) (i : ℕ) → AllByRecursion (λ g. g.unit ≢ u) fs → i < length fs → (get_or fs i no_firing).unit ≡ u → ⊥
    by [] i h l e = absurd (omega arith)
    by (g ∷ fs) zero h l e = h.0 e
    by (g ∷ fs) (suc i) h l e = by fs i h.1 (omega arith) e

has_unit_or : (fs : List Firing) (u : ℕ) → HasUnit u fs ⊎ (HasUnit u fs → ⊥)
has_unit_or [] u = inr (λ h. (let l = h.within in omega arith))
has_unit_or (f ∷ fs) u = by (cases_eq f.unit u) (has_unit_or fs u)
  where
    by : (f.unit ≡ u) ⊎ (f.unit ≢ u) → HasUnit u fs ⊎ (HasUnit u fs → ⊥) → HasUnit u (f ∷ fs) ⊎ (HasUnit u (f ∷ fs) → ⊥)
    by (inl e) k = inl (record { at = 0; within = omega arith; is = e })
    by (inr e) (inl h) = inl (record { at = suc h.at; within = (let l = h.within in omega arith); is = h.is })
    by (inr e) (inr k) = inr (λ h. none h.at h.within h.is)
      where
        none : (i : ℕ) → i < length (f ∷ fs) → (get_or (f ∷ fs) i no_firing).unit ≡ u → ⊥
        none zero l z = e z
        none (suc i) l z = k (record { at = i; within = omega arith; is = z })

-- what an act of a unit that is no queue asks of a depth it always has
plain_depth : (k : Kind) (o : Own) (a : Act) → is_lsq k ≡ false → HasDepth k o a
plain_depth (Lsq x d ps gs fw) o a q = cc
plain_depth k o a q = tt

-- a unit that is not to be marked as the next cycle begins may not fire in it
module _ (net : Net) (past : Past) (b : Bounds) (c : ℕ) (start : Dated) (e : Engine) (eng : IsEngine net e) (f : IsFull net past b c start e) where
  -- a queue is to be looked at again where it has fired
  queue_again : (u : ℕ) → is_lsq (kind_of net u) ≡ true → HasUnit u e.fired.items → Holds u e.again.items
  queue_again u l h = by (f.again u l h)
    where
      by : ⊥ ⊎ Holds u e.again.items → Holds u e.again.items
      by (inl z) = absurd z
      by (inr k) = k

  pub entries_now : (u : ℕ) → is_lsq (kind_of net u) ≡ true → (get_or e.begun.items u 0 ≡ entries_at (state_of e.state) u) ⊎ Holds u e.again.items
  entries_now u l = by (has_unit_or e.fired.items u)
    where
      by : HasUnit u e.fired.items ⊎ (HasUnit u e.fired.items → ⊥) → (get_or e.begun.items u 0 ≡ entries_at (state_of e.state) u) ⊎ Holds u e.again.items
      by (inl h) = inr (queue_again u l h)
      by (inr n) = inl (f.going.began.queues u l ∙ ap (λ (o : Own). length o.queue.items) (sym (own_same net c start start e.fired.items (dated_of e) u f.going.makes n)))

  pub next_quiet : (g : Firing) → May net (c + 1) (dated_of e) (dated_of e) g → (IsStirred net (c + 1) e g.unit → ⊥) → ⊥
  next_quiet g m quiet = end (has_unit_or e.fired.items g.unit)
    where
      there : (x : Effect) × (effect net (state_of e.state) g ≡ Some x) × has_room net (state_of e.state) g.unit x.put
      there = effect_there net (state_of e.state) g m.turn

      fed : IsStarved net (state_of e.state) g.unit → ⊥
      fed h = starved_quiet net (state_of e.state) g.unit g.act h m.turn

      -- the unit is not to be looked at again
      not_again : Holds g.unit e.again.items → ⊥
      not_again h = quiet (inr (inl (h, fed)))

      -- where what g puts has room now it had room as the cycle began
      rooms : (o : Option Put) → has_room net (state_of e.state) g.unit o → has_room net start.state g.unit o
      rooms None r = tt
      rooms (Some w) r = by (get_or e.freed.marked.items (out_of g.unit w.place net.chans) false) refl
        where
          within : out_of g.unit w.place net.chans < length net.chans
          within = slots_within net.chans (out_of g.unit w.place net.chans) (length (tokens_at (state_of e.state) (out_of g.unit w.place net.chans))) r

          freed : get_or e.freed.marked.items (out_of g.unit w.place net.chans) false ≡ true → ⊥
          freed m = quiet (inr (inr (inl (record {
            chan = out_of g.unit w.place net.chans;
            listed = f.going.listed (out_of g.unit w.place net.chans) m;
            within = within;
            source = (is_at-inv (chan_at net (out_of g.unit w.place net.chans)).from g.unit w.place (out_of-at g.unit w.place net.chans within)).0;
            fed = fed;
          }))))

          clear : (length (tokens_at start.state (out_of g.unit w.place net.chans)) < (chan_at net (out_of g.unit w.place net.chans)).slots) ⊎ IsOldFull net c e (out_of g.unit w.place net.chans) → has_room net start.state g.unit (Some w)
          clear (inl l) = l
          clear (inr k) = (let z = k.0 in absurd (omega arith))

          by : (x : Bool) → get_or e.freed.marked.items (out_of g.unit w.place net.chans) false ≡ x → has_room net start.state g.unit (Some w)
          by true m = absurd (freed m)
          by false m = clear ((f.going.began.chans (out_of g.unit w.place net.chans)).clear m)

      ripes : (p : ℕ) → IsRipe net (suc c) (dated_of e) (into g.unit p net.chans) → IsRipe net c (dated_of e) (into g.unit p net.chans)
      ripes p r = by (get_or (dates_of e.state) (into g.unit p net.chans) []) refl (f.going.coming (into g.unit p net.chans)) r
        where
          delay : ℕ
          delay = (chan_at net (into g.unit p net.chans)).delay

          within : into g.unit p net.chans < length net.chans
          within = (let w = some_within (dates_of e.state) (into g.unit p net.chans) (λ x. x + (chan_at net (into g.unit p net.chans)).delay ≤ suc c) r in let k = eng.dated.lists in omega arith)

          at : (x : ℕ) → x + (chan_at net (into g.unit p net.chans)).delay ≤ suc c → (x < c + 1) × (c + 1 ≤ x + (chan_at net (into g.unit p net.chans)).delay → Holds (into g.unit p net.chans) (coming_in e.notes (x + (chan_at net (into g.unit p net.chans)).delay)))
              → (x + (chan_at net (into g.unit p net.chans)).delay ≤ c) ⊎ (c < x + (chan_at net (into g.unit p net.chans)).delay) → x + (chan_at net (into g.unit p net.chans)).delay ≤ c
          at x l k (inl m) = m
          at x l k (inr m) =
              let z : x + (chan_at net (into g.unit p net.chans)).delay ≡ c + 1 = omega arith in
              let P : ℕ → Type 0 = λ n. Holds (into g.unit p net.chans) (coming_in e.notes n) in
              absurd (quiet (inr (inr (inr (record {
                chan = into g.unit p net.chans;
                coming = subst P z (k.1 (omega arith));
                within = within;
                target = (is_at-inv (chan_at net (into g.unit p net.chans)).to g.unit p (into-at g.unit p net.chans within)).0;
                fed = lacking_quiet net (state_of e.state) g (into g.unit p net.chans) there.0 there.1 (is_at-inv (chan_at net (into g.unit p net.chans)).to g.unit p (into-at g.unit p net.chans within)).0;
              })))))

          or : (x y : ℕ) → (x ≤ y) ⊎ (y < x)
          or x y = swap (cases_lt y x)
            where
              swap : (y < x) ⊎ (x ≤ y) → (x ≤ y) ⊎ (y < x)
              swap (inl l) = inr l
              swap (inr l) = inl l

          by : (ds : List ℕ) → get_or (dates_of e.state) (into g.unit p net.chans) [] ≡ ds
              → AllByRecursion (λ x. (x < c + 1) × (c + 1 ≤ x + (chan_at net (into g.unit p net.chans)).delay → Holds (into g.unit p net.chans) (coming_in e.notes (x + (chan_at net (into g.unit p net.chans)).delay)))) ds
              → IsSomeAnd (first ds) (λ date. date + (chan_at net (into g.unit p net.chans)).delay ≤ suc c) → IsSomeAnd (first ds) (λ date. date + (chan_at net (into g.unit p net.chans)).delay ≤ c)
          by [] i k h = absurd h
          by (x ∷ ds) i k h = at x h k.0 (or (x + (chan_at net (into g.unit p net.chans)).delay) c)

      depth : HasDepth (kind_of net g.unit) (get_or (state_of e.state).own g.unit idle) g.act → HasDepth (kind_of net g.unit) (get_or start.state.own g.unit idle) g.act
      depth h = by (is_lsq (kind_of net g.unit)) refl (has_unit_or e.fired.items g.unit)
        where
          by : (q : Bool) → is_lsq (kind_of net g.unit) ≡ q → HasUnit g.unit e.fired.items ⊎ (HasUnit g.unit e.fired.items → ⊥) → HasDepth (kind_of net g.unit) (get_or start.state.own g.unit idle) g.act
          by false q k = plain_depth (kind_of net g.unit) (get_or start.state.own g.unit idle) g.act q
          by true q (inl k) = absurd (not_again (queue_again g.unit q k))
          by true q (inr n) = (let P : Own → Type 0 = λ o. HasDepth (kind_of net g.unit) o g.act in subst P (own_same net c start start e.fired.items (dated_of e) g.unit f.going.makes n) h)

      sooner : May net (suc c) (dated_of e) (dated_of e) g
      sooner = (let z : c + 1 ≡ suc c = omega arith in let P : ℕ → Type 0 = λ n. May net n (dated_of e) (dated_of e) g in subst P z m)

      then_could : Could net c start (dated_of e) g
      then_could = next_could net c start (dated_of e) g rooms ripes depth (may_could net (suc c) (dated_of e) (dated_of e) g sooner)

      end : HasUnit g.unit e.fired.items ⊎ (HasUnit g.unit e.fired.items → ⊥) → ⊥
      end (inl h) = not_again (f.kept g h then_could)
      end (inr n) = f.full g (unit_unused e.fired.items g n) (record { turn = m.turn; ripe = then_could.ripe; room = then_could.acts; depth = then_could.depth })

-- as a cycle begins, what is to be marked was marked
pub begun_watching : (net : Net) (past : Past) (b : Bounds) (c n : ℕ) (old new : Engine) → IsChecked net → IsReady net b old → HasDone net past b c old → dated_of new ≡ dated_of old
    → ((u : ℕ) → u < length net.units → IsStirred net c old u → IsMarked new.marks u) → IsWatching net c (dated_of old) new
begun_watching net past b c n old new checked ready done same marked g un m = by (get_or new.marks.marked.items g.unit false) refl
  where
    may : May net c (dated_of old) (dated_of old) g
    may = (let P : Dated → Type 0 = λ x. May net c (dated_of old) x g in subst P same m)

    within : g.unit < length net.units
    within = fires_within net (state_of old.state) g checked ready.engine.dated.chans may.turn

    by : (x : Bool) → get_or new.marks.marked.items g.unit false ≡ x → IsMarked new.marks g.unit
    by true e = e
    by false e = absurd (done.next g may (λ s. let z : false ≡ true = sym e ∙ marked g.unit within s in cc))

-- the marks of a cycle's beginning
pub stirred_marked : (net : Net) (c : ℕ) (old : Engine) (m1 m2 m3 : Marks) (n : ℕ) → length net.units ≡ n → ((u : ℕ) → IsMarked old.marks u → IsMarked m1 u) → ((u : ℕ) → IsMarked m1 u → IsMarked m2 u) → ((u : ℕ) → IsMarked m2 u → IsMarked m3 u)
    → ((u : ℕ) → Holds u old.again.items → (IsStarved net (state_of old.state) u → ⊥) → u < n → IsMarked m1 u)
    → ((d : ℕ) → Holds d old.freed.list.items → IsSourceMarked net (state_of old.state) n m2 d)
    → ((d : ℕ) → Holds d (coming_in old.notes c) → IsFedMarked net (state_of old.state) n m3 d)
    → (u : ℕ) → u < length net.units → IsStirred net c old u → IsMarked m3 u
stirred_marked net c old m1 m2 m3 n e a1 a2 a3 again freed ripened u l (inl k) = a3 u (a2 u (a1 u k))
stirred_marked net c old m1 m2 m3 n e a1 a2 a3 again freed ripened u l (inr (inl h)) = a3 u (a2 u (again u h.0 h.1 (omega arith)))
stirred_marked net c old m1 m2 m3 n e a1 a2 a3 again freed ripened u l (inr (inr (inl h))) =
    let s = h.source in
    let F : ℕ → Type 0 = λ v. IsStarved net (state_of old.state) v → ⊥ in
    a3 u (subst (IsMarked m2) h.source (freed h.chan h.listed h.within (subst F (sym h.source) h.fed) (omega arith)))
stirred_marked net c old m1 m2 m3 n e a1 a2 a3 again freed ripened u l (inr (inr (inr h))) =
    let s = h.target in
    subst (IsMarked m3) h.target (ripened h.chan h.coming h.fed h.within (omega arith))

-- no channel is marked as a cycle begins, and all tokens are older
pub begun_followed : (net : Net) (c : ℕ) (old new : Engine) → dated_of new ≡ dated_of old → ((d : ℕ) → get_or new.freed.marked.items d false ≡ false) → AreComing net c old → (d : ℕ) → IsFollowed net c (dated_of old) new d
begun_followed net c old new same none coming d = record {
  marked = λ m. (let z : true ≡ false = sym m ∙ none d in cc);
  clear = λ m. by (cases_lt (length (tokens_at (state_of old.state) d)) (chan_at net d).slots);
  newest = inl (omega (arith, tokens));
}
  where
    tokens : length (tokens_at (state_of new.state) d) ≡ length (tokens_at (state_of old.state) d)
    tokens = ap (λ (s : Dated). length (tokens_at s.state d)) same

    older : AllByRecursion (λ x. x < c) (get_or (dates_of new.state) d [])
    older =
        let P : Dated → Type 0 = λ s. AllByRecursion (λ x. x < c) (get_or s.dates d []) in
        subst P (sym same) (each_as (λ x. (x < c) × (c ≤ x + (chan_at net d).delay → Holds d (coming_in old.notes (x + (chan_at net d).delay)))) (λ x. x < c) (λ x k. k.0) (get_or (dates_of old.state) d []) (coming d))

    by : (length (tokens_at (state_of old.state) d) < (chan_at net d).slots) ⊎ ((chan_at net d).slots ≤ length (tokens_at (state_of old.state) d))
        → (length (tokens_at (state_of old.state) d) < (chan_at net d).slots) ⊎ IsOldFull net c new d
    by (inl l) = inl l
    by (inr l) = inr (omega (arith, tokens), older)

-- the cell of the cycle that begins is emptied
pub begun_coming : (net : Net) (c : ℕ) (old new : Engine) → HasCells net old.notes → (dates_of new.state) ≡ (dates_of old.state) → cells_of new.notes ≡ set (cells_of old.notes) (c % length (cells_of old.notes)) [] → AreComing net c old → AreComing net (c + 1) new
begun_coming net c old new has same cells h d =
    let P : List (List ℕ) → Type 0 = λ xs. AllByRecursion (λ x. (x < c + 1) × (c + 1 ≤ x + (chan_at net d).delay → Holds d (coming_in new.notes (x + (chan_at net d).delay)))) (get_or xs d []) in
    subst P (sym same) (each_as (λ x. (x < c) × (c ≤ x + (chan_at net d).delay → Holds d (coming_in old.notes (x + (chan_at net d).delay)))) (λ x. (x < c + 1) × (c + 1 ≤ x + (chan_at net d).delay → Holds d (coming_in new.notes (x + (chan_at net d).delay))))
    (λ x k. (omega (arith, k.0), λ l. at x k.0 l (k.1 (omega arith)))) (get_or (dates_of old.state) d []) (h d))
  where
    n : ℕ
    n = length (cells_of old.notes)

    at : (x : ℕ) → x < c → c + 1 ≤ x + (chan_at net d).delay → Holds d (coming_in old.notes (x + (chan_at net d).delay)) → Holds d (coming_in new.notes (x + (chan_at net d).delay))
    at x l k q =
        let t : ℕ = x + (chan_at net d).delay in
        let m = has.more d in
        let P : List ℕ → Type 0 = Holds d in
        let Q : ℕ → Type 0 = λ j. Holds d (get_or (cells_of new.notes) (t % j) []) in
        subst Q (sym (cleared_long old.notes new.notes (c % n) cells))
        (subst P (sym (ap (λ xs. get_or xs (t % n) []) cells ∙ get_or-set_other (cells_of old.notes) (c % n) (t % n) [] [] (apart_rests c t n (omega arith) (omega arith)))) q)
