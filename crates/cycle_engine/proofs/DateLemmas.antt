-- The dates of tokens along a run, and tokens that are ripe.
use Rattle.std.proofs.Common.{◌≡◌, ◌≢◌, ◌⊎◌, inl, inr, ℕ, ◌+◌, ◌<◌, ◌≤◌, ◌==◌, ◌&&◌, nat_lt, nat_le, Bool, true, false, cond, Option, Some, None, List, [], ◌∷◌, ◌++◌, length, get_or, refl, sym, ap, subst, ◌∙◌, arith, IsSomeAnd, length-append}
use Rattle.std.proofs.lemmas.Bool.{cases_lt, leb-true}
use Rattle.std.proofs.lemmas.List.{get_or_past}
use Rattle.net_types.specs.declared.net.Net.{Net}
use Rattle.net_types.specs.declared.net.Unit.{Unit as Kind}
use Rattle.net_types.specs.declared.net.Unit.TheVariants.{Lsq}
use Rattle.net_types.specs.declared.firing.Act.{Act}
use Rattle.net_types.specs.declared.firing.Act.TheVariants.{Alloc}
use Rattle.net_types.specs.declared.firing.Firing.{Firing}
use Rattle.net_types.specs.Nets.{into, out_of, kind_of, uses, chan_at}
use Rattle.net_core.specs.Fire.{State, Own, Row, Stop, Look, Take, Fires, Effect, effect_of, with_head, taking, idle, row, setting, at_array, head_at, tokens_at, first, effect, has_room, enabled, moved, applied, changed_from, puts_on, takes_from, added, taken}
use Rattle.net_core.specs.declared.plan.Put.{Put}
use Rattle.net_core.specs.Uses.{used_by, then_used, used}
use Rattle.net_core.proofs.RowLemmas.{length-changed, get-changed}
use Rattle.std.specs.List.{AllByRecursion}
use Rattle.cycle_engine.specs.Cycles.{Dated, dated, after_by, after_in, IsRipe, HasDepth, May, Makes, AreDated}
use Rattle.cycle_engine.proofs.BeforeLemmas.{after_of, dated_put}

-- each date is at most m
abbrev pub AllBy : ℕ → Dated → Type 0
AllBy m s = (d : ℕ) → AllByRecursion (λ x. x ≤ m) (get_or s.dates d [])

pub each_taken : (P : ℕ → Type 0) (g : Bool) (xs : List ℕ) → AllByRecursion P xs → AllByRecursion P (taken g xs)
each_taken P true [] h = tt
each_taken P true (x ∷ xs) h = h.1
each_taken P false xs h = h

each_push : (P : ℕ → Type 0) (v : ℕ) (xs : List ℕ) → AllByRecursion P xs → P v → AllByRecursion P (xs ++ v ∷ [])
each_push P v [] h p = (p, tt)
each_push P v (x ∷ xs) h p = (h.0, each_push P v xs h.1 p)

pub each_added : (P : ℕ → Type 0) (o : Option ℕ) (xs : List ℕ) → AllByRecursion P xs → ((v : ℕ) → o ≡ Some v → P v) → AllByRecursion P (added o xs)
each_added P None xs h p = h
each_added P (Some v) xs h p = each_push P v xs h (p v refl)

pub each_as : (P Q : ℕ → Type 0) → ((x : ℕ) → P x → Q x) → (xs : List ℕ) → AllByRecursion P xs → AllByRecursion Q xs
each_as P Q f [] h = tt
each_as P Q f (x ∷ xs) h = (f x h.0, each_as P Q f xs h.1)

same_length : (o p : Option ℕ) (g : Bool) (xs ds : List ℕ) → length ds ≡ length xs → ((x : ℕ) → o ≡ Some x → p ≢ None) → ((x : ℕ) → p ≡ Some x → o ≢ None) → length (added p (taken g ds)) ≡ length (added o (taken g xs))
same_length None (Some b) g xs ds l f k = absurd (k b refl refl)
same_length (Some a) None g xs ds l f k = absurd (f a refl refl)
same_length None None true [] [] l f k = refl
same_length None None true (x ∷ xs) (d ∷ ds) l f k = omega arith
same_length None None true [] (d ∷ ds) l f k = absurd (omega arith)
same_length None None true (x ∷ xs) [] l f k = absurd (omega arith)
same_length None None false xs ds l f k = l
same_length (Some a) (Some b) true [] [] l f k = refl
same_length (Some a) (Some b) true (x ∷ xs) (d ∷ ds) l f k = let m = length-append xs (a ∷ []) in let n = length-append ds (b ∷ []) in omega arith
same_length (Some a) (Some b) true [] (d ∷ ds) l f k = absurd (omega arith)
same_length (Some a) (Some b) true (x ∷ xs) [] l f k = absurd (omega arith)
same_length (Some a) (Some b) false xs ds l f k = let m = length-append xs (a ∷ []) in let n = length-append ds (b ∷ []) in omega arith

put_dated : (net : Net) (v c d x : ℕ) (o : Option Put) → puts_on net v o d ≡ Some x → puts_on net v (dated c o) d ≢ None
put_dated net v c d x None e = λ z. cc
put_dated net v c d x (Some w) e = by (d == out_of v w.place net.chans) refl e
  where
    by : (b : Bool) → (d == out_of v w.place net.chans) ≡ b → cond b (Some w.value) None ≡ Some x → cond b (Some c) None ≢ None
    by true is q = λ z. cc
    by false is q = λ z. cc

pub dated_after : (net : Net) (c : ℕ) (s : Dated) (v : ℕ) (e : Effect) → AreDated net s → AreDated net (after_of net c s v e)
dated_after net c s v e k = record {
  chans = length-changed (moved net v e) 0 s.state.tokens ∙ k.chans;
  lists = length-changed (moved net v (record e { put = dated c e.put })) 0 s.dates ∙ k.lists;
  each = λ d. each d (cases_lt d (length net.chans));
}
  where
    each : (d : ℕ) → (d < length net.chans) ⊎ (length net.chans ≤ d) → length (get_or (after_of net c s v e).dates d []) ≡ length (tokens_at (after_of net c s v e).state d)
    each d (inl l) =
        let a = k.chans in let b = k.lists in
        let et : tokens_at (after_of net c s v e).state d ≡ moved net v e d (tokens_at s.state d) = get-changed (moved net v e) 0 s.state.tokens d d (omega arith) (omega arith) in
        let ed : get_or (after_of net c s v e).dates d [] ≡ moved net v (record e { put = dated c e.put }) d (get_or s.dates d [])
        = get-changed (moved net v (record e { put = dated c e.put })) 0 s.dates d d (omega arith) (omega arith) in
        ap length ed
        ∙ same_length (puts_on net v e.put d) (puts_on net v (dated c e.put) d) (takes_from net v e d) (tokens_at s.state d) (get_or s.dates d []) (k.each d)
        (λ x q. put_dated net v c d x e.put q) (λ x q. (dated_put net v c d x e.put q).1)
        ∙ sym (ap length et)
    each d (inr l) =
        let a = k.chans in let b = k.lists in
        let n : length (after_of net c s v e).dates ≡ length s.dates = length-changed (moved net v (record e { put = dated c e.put })) 0 s.dates in
        let m : length (after_of net c s v e).state.tokens ≡ length s.state.tokens = length-changed (moved net v e) 0 s.state.tokens in
        let l' : length net.chans ≤ d = l in
        ap length (get_or_past (after_of net c s v e).dates d [] (omega arith)) ∙ sym (ap length (get_or_past (after_of net c s v e).state.tokens d [] (omega arith)))

pub by_after : (net : Net) (c : ℕ) (s : Dated) (v : ℕ) (e : Effect) → AllBy c s → AllBy c (after_of net c s v e)
by_after net c s v e h d = at (cases_lt d (length s.dates))
  where
    at : (d < length s.dates) ⊎ (length s.dates ≤ d) → AllByRecursion (λ x. x ≤ c) (get_or (after_of net c s v e).dates d [])
    at (inl l) =
        let ed : get_or (after_of net c s v e).dates d [] ≡ moved net v (record e { put = dated c e.put }) d (get_or s.dates d [])
        = get-changed (moved net v (record e { put = dated c e.put })) 0 s.dates d d (omega arith) l in
        let P : List ℕ → Type 0 = AllByRecursion (λ x. x ≤ c) in
        subst P (sym ed) (each_added (λ x. x ≤ c) (puts_on net v (dated c e.put) d) (taken (takes_from net v e d) (get_or s.dates d []))
        (each_taken (λ x. x ≤ c) (takes_from net v e d) (get_or s.dates d []) (h d)) (λ x q. (let z : x ≡ c = (dated_put net v c d x e.put q).0 in omega arith)))
    at (inr l) =
        let n : length (after_of net c s v e).dates ≡ length s.dates = length-changed (moved net v (record e { put = dated c e.put })) 0 s.dates in
        let P : List ℕ → Type 0 = AllByRecursion (λ x. x ≤ c) in
        let l' : length s.dates ≤ d = l in
        subst P (sym (get_or_past (after_of net c s v e).dates d [] (omega arith))) tt

pub some_effect : (o : Option Effect) (Q : Effect → Type 0) → IsSomeAnd o Q → (e : Effect) × (o ≡ Some e) × Q e
some_effect None Q i = absurd i
some_effect (Some e) Q i = (e, refl, i)

pub effect_there : (net : Net) (s : State) (f : Firing) → enabled net s f → (e : Effect) × (effect net s f ≡ Some e) × has_room net s f.unit e.put
effect_there net s f n = some_effect (effect net s f) (λ e. has_room net s f.unit e.put) n

-- the dates along the firings of a cycle
pub makes_dates : (net : Net) (c : ℕ) (start s : Dated) (fs : List Firing) (t : Dated) → Makes net c start s fs t → AreDated net s → AllBy c s → AreDated net t × AllBy c t
makes_dates net c start s [] t m k h =
    let P : Dated → Type 0 = λ x. AreDated net x × AllBy c x in subst P m (k, h)
makes_dates net c start s (f ∷ fs) t m k h =
    let w = effect_there net s.state f m.0.turn in
    let q : after_in net c s f ≡ after_of net c s f.unit w.0 = ap (after_by net c s f.unit) w.1 in
    let P : Dated → Type 0 = λ x. Makes net c start x fs t in
    makes_dates net c start (after_of net c s f.unit w.0) fs t (subst P q m.2) (dated_after net c s f.unit w.0 k) (by_after net c s f.unit w.0 h)

-- the used places have heads
next_heads : (h : ℕ → Option ℕ) (o : Option ℕ) (k : ℕ → Option Effect) (next : ℕ → Row) (e : Effect) → with_head o k ≡ Some e
    → ((v : ℕ) → k v ≡ Some e → AllByRecursion (λ p. IsSomeAnd (h p) (λ x. Unit {0})) (used_by (next v) h))
    → IsSomeAnd o (λ x. Unit {0}) × AllByRecursion (λ p. IsSomeAnd (h p) (λ x. Unit {0})) (then_used o (λ v. used_by (next v) h))
next_heads h None k next e q f = cc
next_heads h (Some v) k next e q f = (tt, f v q)

untaking : (p : ℕ) (o : Option Effect) (e : Effect) → taking p o ≡ Some e → (x : Effect) × (o ≡ Some x)
untaking p None e q = cc
untaking p (Some x) e q = (x, refl)

pub used_heads : (r : Row) (h : ℕ → Option ℕ) (e : Effect) → effect_of r h ≡ Some e → AllByRecursion (λ p. IsSomeAnd (h p) (λ x. Unit {0})) (used_by r h)
used_heads Stop h e q = tt
used_heads (Look p next) h e q = next_heads h (h p) (λ v. effect_of (next v) h) next e q (λ v x. used_heads (next v) h e x)
used_heads (Take p next) h e q = next_heads h (h p) (λ v. taking p (effect_of (next v) h)) next e q (λ v x. let w = untaking p (effect_of (next v) h) e x in used_heads (next v) h w.0 w.1)
used_heads (Fires put own array strays) h e q = tt

-- all tokens are ripe in the cycle c
abbrev pub AllRipe : Net → ℕ → Dated → Type 0
AllRipe net c s = (d : ℕ) → AllByRecursion (λ x. x + (chan_at net d).delay ≤ c) (get_or s.dates d [])

ripe_by : (net : Net) (c : ℕ) (s : Dated) (d : ℕ) → AreDated net s → AllByRecursion (λ x. x + (chan_at net d).delay ≤ c) (get_or s.dates d []) → IsSomeAnd (first (tokens_at s.state d)) (λ x. Unit {0}) → IsRipe net c s d
ripe_by net c s d k r i = by (tokens_at s.state d) (get_or s.dates d []) (k.each d) r i
  where
    by : (xs ds : List ℕ) → length ds ≡ length xs → AllByRecursion (λ x. x + (chan_at net d).delay ≤ c) ds → IsSomeAnd (first xs) (λ x. Unit {0}) → IsSomeAnd (first ds) (λ x. x + (chan_at net d).delay ≤ c)
    by [] ds e r i = absurd i
    by (x ∷ xs) [] e r i = absurd (omega arith)
    by (x ∷ xs) (y ∷ ds) e r i = r.0

each_ripe : (net : Net) (c : ℕ) (s : Dated) (u : ℕ) (ps : List ℕ) → AreDated net s → AllRipe net c s
    → AllByRecursion (λ p. IsSomeAnd (head_at net s.state u p) (λ x. Unit {0})) ps → AllByRecursion (λ p. IsRipe net c s (into u p net.chans)) ps
each_ripe net c s u [] k r i = tt
each_ripe net c s u (p ∷ ps) k r i = (ripe_by net c s (into u p net.chans) k (r (into u p net.chans)) i.0, each_ripe net c s u ps k r i.1)

both : (a b : Bool) → a && b ≡ true → b ≡ true
both true true e = refl
both true false e = cc
both false b e = cc

-- an allocation that fires has its depth
depth_of : (k : Kind) (act : Act) (o : Own) (xs : List ℕ) (h : ℕ → Option ℕ) (e : Effect) (net : Net) (s : State) → effect_of (row k act o xs (setting net s)) h ≡ Some e → HasDepth k o act
unfolding row
depth_of (Lsq a d ps gs fw) (Alloc g) o xs h e net s q = by (nat_lt g (length gs)) (nat_le (length o.queue.items + length (get_or gs g [])) d) refl q
  where
    by : (b t : Bool) → nat_le (length o.queue.items + length (get_or gs g [])) d ≡ t → effect_of (Rattle.net_core.specs.Fire.when (b && t) (Rattle.net_core.specs.Fire.gate (Some g) (Rattle.net_core.specs.Fire.queue_fires ps gs (Alloc g) o xs))) h ≡ Some e
        → length o.queue.items + length (get_or gs g []) ≤ d
    by true true z x = leb-true _ _ z
    by true false z x = cc
    by false t z x = cc
depth_of (Lsq a d ps gs fw) _ o xs h e net s q = tt
depth_of _ act o xs h e net s q = tt

-- where all tokens are ripe, what is enabled may be made
pub ripe_may : (net : Net) (c : ℕ) (s : Dated) (f : Firing) → AreDated net s → AllRipe net c s → enabled net s.state f → May net c s s f
ripe_may net c s f k r n =
    let w = effect_there net s.state f n in
    record {
      turn = n;
      ripe = each_ripe net c s f.unit (used net s.state f) k r
          (used_heads (row (kind_of net f.unit) f.act (get_or s.state.own f.unit idle) (at_array s.state.arrays (uses (kind_of net f.unit))) (setting net s.state)) (head_at net s.state f.unit) w.0 w.1);
      room = n;
      depth = depth_of (kind_of net f.unit) f.act (get_or s.state.own f.unit idle) (at_array s.state.arrays (uses (kind_of net f.unit))) (head_at net s.state f.unit) w.0 net s.state w.1;
    }
