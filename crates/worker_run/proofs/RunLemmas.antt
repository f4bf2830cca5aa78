-- Workers that threads have swept, and what their run reports.
use Rattle.std.proofs.Common.{rules, ◌≡◌, ◌≢◌, ◌⊎◌, inl, inr, ℕ, zero, suc, ◌+◌, ◌*◌, ◌-◌, ◌^◌, ◌<◌, ◌≤◌, Bool, true, false, cond, Option, Some, None, IsSome, Result, Ok, Err, IfErr, List, [], ◌∷◌, ◌++◌, length, get_or, refl, ap, ◌∙◌, sym, subst, arith, append_assoc, append-nil, length-append}
use Rattle.std.specs.Result.{IsErrAnd}
use mathlib.Core.List.{IsPrefix}
use Rattle.elastic_link.specs.declared.put_end.PutEnd.{PutEnd}
use Rattle.elastic_link.specs.declared.take_end.TakeEnd.{TakeEnd}
use Rattle.elastic_link.specs.Ends.{SamePutEnd, SameTakeEnd, IsLink}
use Rattle.net_types.specs.declared.net.Net.{Net}
use Rattle.net_types.specs.declared.firing.Firing.{Firing}
use Rattle.net_types.specs.declared.firing.Inputs.{Inputs}
use Rattle.net_core.specs.Fire.{State, enabled, after}
use Rattle.net_core.specs.Runs.{opening, Leads, Run, AtRest, Long}
use Rattle.net_replay.specs.declared.fault.RunFault.{RunFault}
use Rattle.net_replay.specs.declared.fault.RunFault.TheVariants as fault
use Rattle.net_replay.specs.Judgements.{IsFault, IsSound}
use Rattle.net_worker.specs.declared.tables.Tables.{Tables}
use Rattle.net_worker.specs.declared.worker.Worker.{Worker}
use Rattle.net_worker.specs.Handed.{SameLogged}
use Rattle.net_worker.specs.Merged.{IsRested, entries_of}
use Rattle.net_worker.specs.Plays.{putter, taker}
use Rattle.net_worker.specs.Views.{net_of, inputs_of, owner_in, number_of, log_share, log_of, log_room, clock_of, held_state, put_end, take_end}
use Rattle.net_worker.specs.Workers.{IsMadeOf, IsWhole, IsOutOf, IsInto, IsFull, HasExitAmong, HasRested, SamePut, SameTake, SameWorker, AreLinkedAt}
use Rattle.net_worker.proofs.Settling.{same_put, same_take, same_put_then, same_take_then, link_ends}
use Rattle.worker_run.specs.Crews.{AreMade, AreLinked, AllWhole, AreSameWork, logs_of, merged_of, share_of}
use Rattle.worker_run.specs.Reports.{IsCrewOf, HasEnded, IsRunFault}
use Rattle.worker_run.specs.private.Sweepings.{IsSweptFrom, HasStopped, AreSwept, AreSweptBy}
use Rattle.net_replay.proofs.PathLemmas.{leads_on, leads_more}
use Rattle.worker_run.proofs.ShareLemmas.{within_limit}

-- ---- the same worker later

prefix_same : {X : Type 0} (xs : List X) → IsPrefix xs xs
prefix_same xs = ([], append-nil xs)

prefix_then : {X : Type 0} (xs ys zs : List X) → IsPrefix xs ys → IsPrefix ys zs → IsPrefix xs zs
prefix_then xs ys zs (a, p) (b, q) = (a ++ b, sym (append_assoc xs a b) ∙ (ap (λ v. v ++ b) p ∙ q))

put_same : (o : Option PutEnd) → SamePut o o
put_same None = tt
put_same (Some p) = (same_put p, prefix_same _)

take_same : (o : Option TakeEnd) → SameTake o o
take_same None = tt
take_same (Some e) = same_take e

put_then : (o p q : Option PutEnd) → SamePut o p → SamePut p q → SamePut o q
put_then None None q a b = b
put_then None (Some y) q a b = absurd a
put_then (Some x) None q a b = absurd a
put_then (Some x) (Some y) None a b = absurd b
put_then (Some x) (Some y) (Some z) a b = (same_put_then x y z a.0 b.0, prefix_then _ _ _ a.1 b.1)

take_then : (o p q : Option TakeEnd) → SameTake o p → SameTake p q → SameTake o q
take_then None None q a b = b
take_then None (Some y) q a b = absurd a
take_then (Some x) None q a b = absurd a
take_then (Some x) (Some y) None a b = absurd b
take_then (Some x) (Some y) (Some z) a b = same_take_then x y z a b

pub same_worker : (a : Worker) → SameWorker a a
same_worker a = record {
  number = refl;
  share = refl;
  closed = refl;
  log = prefix_same _;
  puts = λ c. put_same (put_end a c);
  takes = λ c. take_same (take_end a c);
}

pub same_worker_then : (a b c : Worker) → SameWorker a b → SameWorker b c → SameWorker a c
same_worker_then a b c p q = record {
  number = q.number ∙ p.number;
  share = q.share ∙ p.share;
  closed = q.closed ∙ p.closed;
  log = prefix_then _ _ _ p.log q.log;
  puts = λ i. put_then (put_end a i) (put_end b i) (put_end c i) (p.puts i) (q.puts i);
  takes = λ i. take_then (take_end a i) (take_end b i) (take_end c i) (p.takes i) (q.takes i);
}

some_put : (o q : Option PutEnd) → SamePut o q → IsSome o → IsSome q
some_put None q k h = cc
some_put (Some x) None k h = absurd k
some_put (Some x) (Some y) k h = refl

some_take : (o q : Option TakeEnd) → SameTake o q → IsSome o → IsSome q
some_take None q k h = cc
some_take (Some x) None k h = absurd k
some_take (Some x) (Some y) k h = refl

pub whole_later : (t : Tables) (a b : Worker) → SameWorker a b → IsWhole t a → IsWhole t b
whole_later t a b s h = record {
  puts = λ c o. some_put (put_end a c) (put_end b c) (s.puts c) (h.puts c (subst (λ n. IsOutOf t n c) s.number o));
  takes = λ c o. some_take (take_end a c) (take_end b c) (s.takes c) (h.takes c (subst (λ n. IsInto t n c) s.number o));
  not_closed = s.closed ∙ h.not_closed;
}

put_before : (o : Option PutEnd) (q : PutEnd) → SamePut o (Some q) → (p : PutEnd) × (o ≡ Some p) × SamePutEnd p q
put_before None q k = absurd k
put_before (Some p) q k = (p, refl, k.0)

take_before : (o : Option TakeEnd) (e : TakeEnd) → SameTake o (Some e) → (d : TakeEnd) × (o ≡ Some d) × SameTakeEnd d e
take_before None e k = absurd k
take_before (Some d) e k = (d, refl, k)

linked_later : (c : ℕ) (a b x y : Worker) → AreLinkedAt c a b → SameWorker a x → SameWorker b y → AreLinkedAt c x y
linked_later c a b x y s k l q e is_put is_take =
    let p = put_before (put_end a c) q (subst (SamePut (put_end a c)) is_put (k.puts c)) in
    let d = take_before (take_end b c) e (subst (SameTake (take_end b c)) is_take (l.takes c)) in
    link_ends p.0 q d.0 e (s p.0 d.0 p.1 d.1) p.2 d.2

-- ---- all workers later

pub made_swept : (t : Tables) (a b : List Worker) → AreSwept t a b → AreMade t a → AreMade t b
made_swept t a b k m = record {
  few = omega (arith, k.long, m.few);
  fit = m.fit;
  below = λ i d l. (let h = m.below i d l in omega (arith, h, k.long));
  numbered = λ j d l. (let h : j < length a = omega (arith, l, k.long) in (k.each j d h).same.number ∙ m.numbered j d h);
  made = λ j d l nc. (let h : j < length a = omega (arith, l, k.long) in (k.each j d h).made);
}

pub linked_swept : (t : Tables) (a b : List Worker) → AreSwept t a b → AreLinked t a → AreLinked t b
linked_swept t a b k linked c d e l ne p q =
    let v = putter (net_of t) (owner_in t) c in
    let w = taker (net_of t) (owner_in t) c in
    let hv : v < length a = omega (arith, p, k.long) in
    let hw : w < length a = omega (arith, q, k.long) in
    linked_later c (get_or a v d) (get_or a w e) (get_or b v d) (get_or b w e) (linked c d e l ne hv hw) (k.each v d hv).same (k.each w e hw).same

pub whole_swept : (t : Tables) (a b : List Worker) → AreSwept t a b → AllWhole t a → AllWhole t b
whole_swept t a b k whole j d l = let h : j < length a = omega (arith, l, k.long) in whole_later t (get_or a j d) (get_or b j d) (k.each j d h).same (whole j d h)

pub crew_swept : (net : Net) (inputs : Inputs) (count limit : ℕ) (t : Tables) (a b : List Worker) → AreSwept t a b → IsCrewOf net inputs count limit t a → IsCrewOf net inputs count limit t b
crew_swept net inputs count limit t a b k c = record {
  net_is = c.net_is;
  inputs_are = c.inputs_are;
  owners = c.owners;
  count_is = k.long ∙ c.count_is;
  shares = λ j d l. (k.each j d (omega (arith, l, c.count_is))).same.share ∙ c.shares j d l;
}

pub crew_same : (net : Net) (inputs : Inputs) (count limit : ℕ) (t : Tables) (a b : List Worker) → AreSameWork a b → IsCrewOf net inputs count limit t a → IsCrewOf net inputs count limit t b
crew_same net inputs count limit t a b k c = record {
  net_is = c.net_is;
  inputs_are = c.inputs_are;
  owners = c.owners;
  count_is = k.long ∙ c.count_is;
  shares = λ j d l. (k.each j d (omega (arith, l, c.count_is))).share ∙ c.shares j d l;
}

log_within : (t : Tables) (w : Worker) (n : ℕ) → IsMadeOf t w → log_share w ≡ n → length (log_of w) ≤ n
log_within t w n m is = omega (arith, m.room, is)

-- the workers keep to the limit
entries_within : (net : Net) (inputs : Inputs) (count limit : ℕ) (t : Tables) (ws : List Worker) → 0 < count → IsCrewOf net inputs count limit t ws
    → ((j : ℕ) (d : Worker) → j < length ws → IsMadeOf t (get_or ws j d)) → entries_of (logs_of ws) ≤ limit
entries_within net inputs count limit t ws some c m =
    within_limit limit count ws some c.count_is (λ j d l. log_within t (get_or ws j d) (share_of limit count j) (m j d l) (c.shares j d (omega (arith, l, c.count_is))))

-- ---- why a worker ended

ended_by : (t : Tables) (s : State) (j : ℕ) (a b : Worker) → SameLogged a b → number_of a ≡ j → (HasRested t a → IsRested (net_of t) (owner_in t) j s) → HasStopped t a → HasEnded t s b
ended_by t s j a b w n rests (inl exit) = inl (subst (HasExitAmong (net_of t)) (sym w.log) exit)
ended_by t s j a b w n rests (inr (inl (inl full))) = inr (inl (inl (w.room ∙ full)))
ended_by t s j a b w n rests (inr (inl (inr last))) = inr (inl (inr (ap (λ k. k + 1) w.clock ∙ last)))
ended_by t s j a b w n rests (inr (inr rest)) = inr (inr (subst (λ i. IsRested (net_of t) (owner_in t) i s) (sym (w.number ∙ n)) (rests rest)))

pub all_ended : (t : Tables) (s : State) (a b : List Worker) → AreMade t a → AreSameWork a b → ((j : ℕ) (d : Worker) → j < length a → HasRested t (get_or a j d) → IsRested (net_of t) (owner_in t) j s) → ((j : ℕ) (d : Worker) → j < length a → HasStopped t (get_or a j d))
    → (j : ℕ) (d : Worker) → j < length a → HasEnded t s (get_or b j d)
all_ended t s a b m w rests stopped j d l = ended_by t s j (get_or a j d) (get_or b j d) (w.each j d l) (m.numbered j d l) (rests j d l) (stopped j d l)

-- ---- a run that is too long

pub longer : (net : Net) (inputs : Inputs) (limit made : ℕ) (fs gs : List Firing) (s t : State) (f : Firing) → Run net inputs fs s → Leads net s gs t → enabled net t f → length fs ≡ made → made + length gs ≡ limit → Long net inputs limit
longer net inputs limit made fs gs s t f run more goes count reached = record {
  firings = (fs ++ gs) ++ f ∷ [];
  to = after net t f;
  run = leads_more net (opening net inputs) (fs ++ gs) t f (after net t f) (leads_on net (opening net inputs) fs gs s t run more) goes refl;
  more = omega (arith, length-append (fs ++ gs) (f ∷ []), length-append fs gs, count, reached);
}

-- ---- the log

pub kept_log : (keep : Bool) (old new : List Firing) (fs gs : List Firing) → old ≡ cond keep fs [] → new ≡ old ++ cond keep gs [] → new ≡ cond keep (fs ++ gs) []
kept_log true old new fs gs a b = b ∙ ap (λ l. l ++ gs) a
kept_log false old new fs gs a b = b ∙ (ap (λ l. l ++ []) a)

-- ---- the workers that were swept

-- they keep to the limit too
pub swept_within : (net : Net) (inputs : Inputs) (count limit : ℕ) (t : Tables) (Opened : Type 0) (a b : List Worker) → 0 < count → IsCrewOf net inputs count limit t a → AreMade t a → AreSweptBy t Opened a b → entries_of (logs_of b) ≤ limit
swept_within net inputs count limit t Opened a b some crew made h =
    let swept = h.swept in
    entries_within net inputs count limit t b some (crew_swept net inputs count limit t a b swept crew) (λ j d l. (swept.each j d (omega (arith, l, swept.long))).made)

-- ---- why a run has no report

pub judged_fault : (net : Net) (inputs : Inputs) (limit : ℕ) (fs : List Firing) (s : State) (e : RunFault) → Run net inputs fs s → length fs ≤ limit → AtRest net s → IsFault net s e → IsRunFault net inputs limit e
judged_fault net inputs limit fs s (fault.Limit n) run within rest h = absurd h
judged_fault net inputs limit fs s fault.Stuck run within rest h = record { firings = fs; to = s; run = run; within = within; at_rest = rest; fault = h }
judged_fault net inputs limit fs s (fault.Stray a) run within rest h = record { firings = fs; to = s; run = run; within = within; at_rest = rest; fault = h }
judged_fault net inputs limit fs s fault.Memory run within rest h = absurd h

-- what is known of an error
pub err_by : {X E : Type 0} (r : Result X E) (P Q : E → Type 0) → IsErrAnd r P → ((e : E) → P e → Q e) → IfErr r Q
err_by (Ok x) P Q h so = tt
err_by (Err e) P Q h so = so e h
