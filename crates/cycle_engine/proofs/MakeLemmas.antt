-- A firing made by the engine.
use Rattle.std.proofs.Common.{◌≡◌, ℕ, ◌+◌, ◌*◌, ◌<◌, ◌≤◌, ◌≢◌, Bool, true, false, cond, Option, Some, None, List, [], ◌∷◌, ◌++◌, length, map, get_or, refl, sym, ap, subst, ◌∙◌, arith, IfSome, IsSomeAnd, Result, Ok, Err, OnOk, length-append, append_assoc}
use Rattle.std.specs.List.{AllByRecursion}
use Rattle.el_base.specs.Limits.{max_depth}
use Rattle.el_base.specs.Logs.{Logged}
use Rattle.net_types.specs.declared.net.Net.{Net}
use Rattle.net_types.specs.declared.firing.Firing.{Firing}
use Rattle.net_types.specs.Nets.{into, out_of, kind_of}
use Rattle.net_core.specs.Fire.{State, Effect, has_room, tokens_at, after, after_effect, applied}
use Rattle.net_core.specs.declared.plan.Put.{Put}
use Rattle.net_core.specs.declared.plan.Moves.{Moves}
use Rattle.net_core.specs.declared.plan.Laid.{Laid}
use Rattle.net_core.specs.declared.plan.Change.TheVariants as change
use Rattle.net_core.specs.declared.plan.Plan.{Plan}
use Rattle.net_core.specs.Held.{AllWithin, dated_laid, laid_on, taken_all}
use Rattle.net_core.specs.Plans.{places_of, effect_by, apart, chans_of, taken_of, laid_of, moves_of}
use Rattle.net_core.specs.private.Moves.{taken_chans}
use Rattle.net_core.specs.States.{state_of, dates_of, IsOf, own_at, array_at, IsPlanOf, CountsRise}
use Rattle.net_core.proofs.StateLemmas.{plan_within}
use Rattle.net_core.proofs.MoveLemmas.{chans_are, distinct_of, moves_are}
use Rattle.net_replay.specs.Finishes.{IsLogged}
use Rattle.net_replay.proofs.PathLemmas.{counts_more}
use Rattle.cycle_engine.specs.declared.engine.Engine.{Engine}
use Rattle.cycle_engine.specs.declared.engine.Bounds.{Bounds}
use Rattle.cycle_engine.specs.declared.marks.Marks.{Marks}
use Rattle.cycle_engine.specs.declared.feeds.Feeds.{Feeds}
use Rattle.lsq_core.specs.Laws.{phase}
use Rattle.cycle_engine.specs.Cycles.{Dated, dated, after_by, after_in, AreDated, May, Makes, Once, InOrder, IsUnused, IsOldest, place_of}
use Rattle.cycle_engine.specs.Cuts.{joined}
use Rattle.cycle_engine.specs.private.Trials.{dated_of, IsEngine, IsBegun, dates_after}
use Rattle.cycle_engine.specs.private.Goings.{Past, IsReady, InCycle, MayFollow, IsMade, all_made}
use Rattle.cycle_engine.specs.private.Control.{HasControl, control_after}
use Rattle.cycle_engine.specs.private.Fed.{HasFed}
use Rattle.cycle_engine.specs.private.Used.{AreNumbered, AreTold, HasPlace, IsStamped, place_number}
use Rattle.cycle_engine.specs.private.Marking.{IsListed, IsMarkedWhere, IsNoted, IsFreed, AreFeeds}
use Rattle.cycle_engine.specs.declared.pending.Pending.{Pending}
use Rattle.cycle_engine.specs.private.Pending.{HasPlaces, IsForgotten}
use Rattle.cycle_engine.proofs.ShutLemmas.{opened_same, places_kept, shut_made}
use Rattle.cycle_engine.proofs.NoteLemmas.{after_is, cells_kept, coming_after}
use Rattle.cycle_engine.proofs.FollowLemmas.{followed_after}
use Rattle.cycle_engine.proofs.RousingLemmas.{slots_within}
use Rattle.cycle_engine.proofs.BeforeLemmas.{after_of}
use Rattle.cycle_engine.proofs.DateLemmas.{dated_after}
use Rattle.cycle_engine.proofs.UsedLemmas.{told_stamped, numbered_stamped}

-- ---- dates are moved as tokens are

each_within : (n : ℕ) (f : ℕ → ℕ) (ps : List ℕ) → AllWithin n (map f ps) → AllByRecursion (λ p. f p < n) ps
each_within n f [] h = tt
each_within n f (p ∷ ps) h = (h.0, each_within n f ps h.1)

plan_dates : (net : Net) (e : Engine) (f : Firing) (p : Plan) → IsEngine net e → IsPlanOf net e.state f (Some p) → AllWithin (length (dates_of e.state)) (taken_chans net f.unit p.takes)
plan_dates net e f p k is =
    let P : ℕ → Type 0 = λ n. AllWithin n (taken_chans net f.unit p.takes) in
    subst P (k.dated.chans ∙ sym k.dated.lists) (plan_within net e.state f p (sym is))

-- the channels from which a plan takes are among those of the dates
pub takes_within : (net : Net) (e : Engine) (f : Firing) (p : Plan) → IsEngine net e → IsPlanOf net e.state f (Some p) → AllByRecursion (λ q. into f.unit q net.chans < length (dates_of e.state)) (places_of p.takes)
takes_within net e f p k is = each_within (length (dates_of e.state)) (λ q. into f.unit q net.chans) (places_of p.takes) (plan_dates net e f p k is)

-- so are those of its moves, among those of the net
pub moves_within : (net : Net) (e : Engine) (f : Firing) (p : Plan) (m : Moves) → m ≡ moves_of net f.unit p → IsEngine net e → IsPlanOf net e.state f (Some p) → AllWithin (length net.chans) (chans_of m.taken)
moves_within net e f p m s k is =
    let P : Moves → Type 0 = λ x. AllWithin (length net.chans) (chans_of x.taken) in
    let Q : List ℕ → Type 0 = AllWithin (length net.chans) in
    let N : ℕ → Type 0 = λ n. AllWithin n (taken_chans net f.unit p.takes) in
    subst P (sym s) (subst Q (sym (chans_are net f.unit p.takes)) (subst N k.dated.chans (plan_within net e.state f p (sym is))))

-- and that on which is put
pub laid_within : (net : Net) (e : Engine) (f : Firing) (p : Plan) (m : Moves) → m ≡ moves_of net f.unit p → has_room net (state_of e.state) f.unit p.put → IfSome m.laid (λ w. w.chan < length net.chans)
laid_within net e f p m s room = (let P : Moves → Type 0 = λ x. IfSome x.laid (λ w. w.chan < length net.chans) in subst P (sym s) (by p.put room))
  where
    by : (o : Option Put) → has_room net (state_of e.state) f.unit o → IfSome (laid_of net f.unit o) (λ w. w.chan < length net.chans)
    by None h = tt
    by (Some w) h = slots_within net.chans (out_of f.unit w.place net.chans) (length (tokens_at (state_of e.state) (out_of f.unit w.place net.chans))) h

laid_dated : (net : Net) (u c : ℕ) (o : Option Put) → dated_laid c (laid_of net u o) ≡ laid_of net u (dated c o)
laid_dated net u c None = refl
laid_dated net u c (Some w) = refl

-- so are the dates moved
pub dates_made : (net : Net) (c : ℕ) (e : Engine) (f : Firing) (p : Plan) (m : Moves) (new : List (List ℕ)) → IsEngine net e → IsPlanOf net e.state f (Some p) → apart p.takes ≡ true → m ≡ moves_of net f.unit p
    → new ≡ laid_on (dated_laid c m.laid) (taken_all (chans_of m.taken) (dates_of e.state)) → new ≡ dates_after net f.unit p.takes p.put c (dates_of e.state)
dates_made net c e f p m new k is a s r =
    let x : Plan = record { takes = p.takes; put = dated c p.put; change = change.Keep } in
    let P : ℕ → Type 0 = λ n. AllWithin n (taken_chans net f.unit p.takes) in
    let w : AllWithin (length net.chans) (taken_chans net f.unit p.takes) = subst P k.dated.chans (plan_within net e.state f p (sym is)) in
    r ∙ (ap (λ (y : Moves). laid_on (dated_laid c y.laid) (taken_all (chans_of y.taken) (dates_of e.state))) s
    ∙ (ap (λ l. laid_on l (taken_all (chans_of (taken_of net f.unit p.takes)) (dates_of e.state))) (laid_dated net f.unit c p.put)
    ∙ moves_are net f.unit x (dates_of e.state) (distinct_of net f.unit p.takes a w)))

pub made_is : (net : Net) (c : ℕ) (e e' : Engine) (f : Firing) (p : Plan) → IsPlanOf net e.state f (Some p) → state_of e'.state ≡ after net (state_of e.state) f
    → (dates_of e'.state) ≡ dates_after net f.unit p.takes p.put c (dates_of e.state) → dated_of e' ≡ after_in net c (dated_of e) f
made_is net c e e' f p is st d =
    let x : Effect = effect_by (kind_of net f.unit) (own_at e.state f.unit) (array_at net e.state f.unit) p in
    let a : state_of e'.state ≡ applied net f.unit (effect_by (kind_of net f.unit) (own_at e.state f.unit) (array_at net e.state f.unit) p) (state_of e.state) = st ∙ ap (after_effect net (state_of e.state) f.unit) (sym is) in
    let b : after_in net c (dated_of e) f ≡ after_of net c (dated_of e) f.unit (effect_by (kind_of net f.unit) (own_at e.state f.unit) (array_at net e.state f.unit) p) = ap (after_by net c (dated_of e) f.unit) (sym is) in
    let r : dated_of e' ≡ after_of net c (dated_of e) f.unit (effect_by (kind_of net f.unit) (own_at e.state f.unit) (array_at net e.state f.unit) p) = λ i. record { state = a i; dates = d i } in
    r ∙ sym b

pub made_engine : (net : Net) (c : ℕ) (e e' : Engine) (f : Firing) (p : Plan) → IsEngine net e → IsPlanOf net e.state f (Some p) → dated_of e' ≡ after_in net c (dated_of e) f → IsOf net e'.state → IsEngine net e'
made_engine net c e e' f p k is r o =
    let b : after_in net c (dated_of e) f ≡ after_of net c (dated_of e) f.unit (effect_by (kind_of net f.unit) (own_at e.state f.unit) (array_at net e.state f.unit) p) = ap (after_by net c (dated_of e) f.unit) (sym is) in
    let P : Dated → Type 0 = AreDated net in
    record { state = o; dated = subst P (sym (r ∙ b)) (dated_after net c (dated_of e) f.unit (effect_by (kind_of net f.unit) (own_at e.state f.unit) (array_at net e.state f.unit) p) k.dated) }

-- what is made holds also where the call then gave up
pub on_ok : {T E : Type 0} (r : Result T E) (P : Type 0) → P → OnOk r P
on_ok (Ok v) P h = h
on_ok (Err e) P h = tt

-- ---- the cycle after it

pub length_snoc : (fs : List Firing) (f : Firing) → length (fs ++ f ∷ []) ≡ length fs + 1
length_snoc fs f = let n = length-append fs (f ∷ []) in omega arith

pub makes_snoc : (net : Net) (c : ℕ) (start s : Dated) (fs : List Firing) (m : Dated) (f : Firing) (t : Dated) → Makes net c start s fs m → May net c start m f → IsOldest net m.state f.unit f.act
    → t ≡ after_in net c m f → Makes net c start s (fs ++ f ∷ []) t
makes_snoc net c start s [] m f t a may old e =
    let P : Dated → Type 0 = λ x. Makes net c start x (f ∷ []) t in
    subst P (sym a) (may, old, sym e)
makes_snoc net c start s (g ∷ fs) m f t a may old e = (a.0, a.1, makes_snoc net c start (after_in net c s g) fs m f t a.2 may old e)

pub all_snoc : (P : Firing → Type 0) (fs : List Firing) (f : Firing) → AllByRecursion P fs → P f → AllByRecursion P (fs ++ f ∷ [])
all_snoc P [] f h p = (p, tt)
all_snoc P (g ∷ fs) f h p = (h.0, all_snoc P fs f h.1 p)

once_snoc : (fs : List Firing) (f : Firing) → Once fs → IsUnused fs f → Once (fs ++ f ∷ [])
once_snoc [] f o un = (tt, tt)
once_snoc (g ∷ fs) f o un = (all_snoc (λ x. place_of x ≢ place_of g) fs f o.0 (λ z. un.0 (sym z)), once_snoc fs f o.1 un.1)

order_snoc : (fs : List Firing) (f : Firing) → InOrder fs → AllByRecursion (λ g. g.unit ≡ f.unit → phase g.act ≤ phase f.act) fs → InOrder (fs ++ f ∷ [])
order_snoc [] f o h = (tt, tt)
order_snoc (g ∷ fs) f o h = (all_snoc (λ x. x.unit ≡ g.unit → phase g.act ≤ phase x.act) fs f o.0 (λ z. h.0 (sym z)), order_snoc fs f o.1 h.1)

logged : (keep : Bool) (xs ys zs ws : List Firing) (f : Firing) → xs ≡ cond keep (ys ++ zs) [] → ws ≡ xs ++ cond keep (f ∷ []) [] → ws ≡ cond keep (ys ++ (zs ++ f ∷ [])) []
logged true xs ys zs ws f a b = b ∙ (ap (λ k. k ++ f ∷ []) a ∙ append_assoc ys zs (f ∷ []))
logged false xs ys zs ws f a b = b ∙ ap (λ (k : List Firing). k ++ []) a

-- the engine after a firing that moved these tokens
pub record Makes1 (net : Net) (b : Bounds) (c : ℕ) (old new : Engine) (f : Firing) (m : Moves) : Type 0 where
  pub after : dated_of new ≡ after_in net c (dated_of old) f
  pub fired : new.fired.items ≡ old.fired.items ++ f ∷ []
  pub begun : new.begun ≡ old.begun
  pub made : new.made ≡ old.made
  pub logged : IsLogged b.keep (f ∷ []) old.log new.log
  pub notes : IsNoted net m.laid c old.notes new.notes
  pub freed : IsFreed net old.state c (chans_of m.taken) old.freed new.freed
  pub control : new.control ≡ control_after net m.laid old.control
  pub pending : new.pending ≡ old.pending
  pub base : new.used.base ≡ old.used.base

-- where it was one firing that the limit allows, the engine is ready for the next
pub made_more : (old new : Engine) (f : Firing) → new.made ≡ old.made → new.fired.items ≡ old.fired.items ++ f ∷ [] → all_made new ≡ all_made old + 1
made_more old new f made fired =
    let n = length_snoc old.fired.items f in
    let k = ap (λ (xs : List Firing). length xs) fired in
    omega arith

room_left : (keep : Bool) (limit before after : ℕ) (f : Firing) (old new : Logged Firing) → IsLogged keep (f ∷ []) old new → after ≡ before + 1 → (keep ≡ true → limit ≤ before + old.room) → keep ≡ true → limit ≤ after + new.room
room_left true limit before after f old new l n h k = let a = h refl in let b = l.room in omega arith
room_left false limit before after f old new l n h k = cc

-- the list of marks serves the net on
marks_where : (rouses : Bool) (net : Net) (s : State) (laid : Option Laid) (old new : Marks) → IsMarkedWhere rouses net s laid old new → (length new.marked.items ≡ length old.marked.items) × (IsListed net old → IsListed net new)
marks_where true net s laid old new h = (h.0.long, h.0.listed net)
marks_where false net s laid old new h =
    let P : Marks → Type 0 = IsListed net in
    (ap (λ (x : Marks). length x.marked.items) h, λ l. subst P (sym h) l)

-- the place of the firing tells of it
made_told : (net : Net) (old new : Engine) (f : Firing) → HasPlace net f → AreNumbered net old.used.base.items (length old.used.last.items) → IsStamped (place_number old.used.base.items f) (all_made old) old.used new.used
    → new.made ≡ old.made → new.fired.items ≡ old.fired.items ++ f ∷ [] → AreTold net old.used old.made old.fired.items → AreTold net new.used new.made new.fired.items
made_told net old new f place numbers stamped made fired told =
    let P : ℕ → Type 0 = λ n. AreTold net new.used n new.fired.items in
    let Q : List Firing → Type 0 = λ fs. AreTold net new.used old.made fs in
    subst P (sym made) (subst Q (sym fired) (told_stamped net old.used new.used old.made old.fired.items f numbers place told stamped))

pub made_ready : (net : Net) (b : Bounds) (c : ℕ) (old new : Engine) (f : Firing) (m : Moves) (rouses : Bool) → IsReady net b old → all_made old < b.limit → IsEngine net new → CountsRise max_depth (state_of old.state) (state_of new.state)
    → HasPlace net f → IsStamped (place_number old.used.base.items f) (all_made old) old.used new.used → IsMarkedWhere rouses net (state_of new.state) m.laid old.marks new.marks → new.feeds ≡ old.feeds → Makes1 net b c old new f m
    → HasFed net (state_of new.state) new.used new.fed → IsReady net b new
made_ready net b c old new f m rouses ready less engine rise place stamped marked feeds one fed =
    let n = made_more old new f one.made one.fired in
    let w = marks_where rouses net (state_of new.state) m.laid old.marks new.marks marked in
    let Q : Feeds → Type 0 = AreFeeds net in
    record {
      engine = engine;
      few = ready.few;
      within = omega arith;
      counts = counts_more (all_made old * max_depth) (all_made new * max_depth) max_depth (state_of old.state) (state_of new.state) (omega arith) ready.counts rise;
      room = room_left b.keep b.limit (all_made old) (all_made new) f old.log new.log one.logged n ready.room;
      chans = one.freed.long ∙ ready.chans;
      queues = ap (λ (v : _). length v.items) one.begun ∙ ready.queues;
      marked = w.0 ∙ ready.marked;
      listed = w.1 ready.listed;
      cells = cells_kept net old.notes new.notes one.notes.cells ready.cells;
      told = made_told net old new f place ready.places stamped one.made one.fired ready.told;
      places = numbered_stamped net (place_number old.used.base.items f) (all_made old) old.used new.used ready.places stamped;
      feeds = subst Q (sym feeds) ready.feeds;
      pending = (let P : Pending → Type 0 = λ x. HasPlaces net (length new.used.last.items) x in
          subst P (sym one.pending) (places_kept net (length old.used.last.items) (length new.used.last.items) old.pending old.pending stamped.long (opened_same old.pending) ready.pending));
      fed = fed;
    }

made_begun : (net : Net) (b : Bounds) (c : ℕ) (start : Dated) (old new : Engine) (f : Firing) (p : Plan) (m : Moves) → IsReady net b old → IsPlanOf net old.state f (Some p) → m ≡ moves_of net f.unit p → May net c start (dated_of old) f
    → Makes1 net b c old new f m → IsBegun net c start old → IsBegun net c start new
made_begun net b c start old new f p m ready is s may one began = record {
  chans =
      (let P : Option Effect → Type 0 = λ o. IsSomeAnd o (λ x. has_room net (state_of old.state) f.unit x.put) in
      let Q : Moves → Type 0 = λ x. IsFreed net old.state c (chans_of x.taken) old.freed new.freed in
      followed_after net c start old new f p ready.engine is (subst P (sym is) may.turn) (after_is net c old new f p is one.after) (subst Q s one.freed) ready.chans began.chans);
  queues = λ u q. (ap (λ k. get_or k.items u 0) one.begun ∙ began.queues u q);
}

pub made_going : (net : Net) (past : Past) (b : Bounds) (c : ℕ) (start : Dated) (old new : Engine) (f : Firing) (p : Plan) (m : Moves) → IsReady net b old → IsPlanOf net old.state f (Some p) → m ≡ moves_of net f.unit p
    → InCycle net past b c start old → MayFollow net old f → IsUnused old.fired.items f → May net c start (dated_of old) f → Makes1 net b c old new f m
    → HasControl net (state_of new.state) new.control → IsForgotten net old.pending f.unit m.taken → IsMade net past b c start old new f
made_going net past b c start old new f p m ready is s going follow un may one control forgotten = record {
  may = may;
  after = one.after;
  fired = one.fired;
  going = record {
    began = made_begun net b c start old new f p m ready is s may one going.began;
    done = going.done;
    number = going.number;
    makes = (let P : List Firing → Type 0 = λ fs. Makes net c start start fs (dated_of new) in
        subst P (sym one.fired) (makes_snoc net c start start old.fired.items (dated_of old) f (dated_of new) going.makes may follow.oldest one.after));
    once = (let P : List Firing → Type 0 = Once in subst P (sym one.fired) (once_snoc old.fired.items f going.once un));
    order = (let P : List Firing → Type 0 = InOrder in subst P (sym one.fired) (order_snoc old.fired.items f going.order follow.order));
    made = one.made ∙ going.made;
    log = (let P : List Firing → Type 0 = λ fs. new.log.items ≡ cond b.keep (joined past.cycles ++ fs) [] in
        subst P (sym one.fired) (logged b.keep old.log.items (joined past.cycles) old.fired.items new.log.items f going.log one.logged.items));
    listed = one.freed.listed going.listed;
    coming = (let Q : Moves → Type 0 = λ x. IsNoted net x.laid c old.notes new.notes in
        coming_after net c old new f p ready.engine (after_is net c old new f p is one.after) (subst Q s one.notes) going.coming);
    control = control;
    shut = shut_made net c start old new f p m is s one.after forgotten one.pending one.base going.shut;
  };
}
