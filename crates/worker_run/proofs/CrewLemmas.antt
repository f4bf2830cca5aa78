-- A crew of whole workers with sound links gathers.
use Rattle.std.proofs.Common.{◌≡◌, ◌≢◌, ◌⊎◌, inl, inr, ℕ, zero, suc, ◌<◌, ◌≤◌, List, [], ◌∷◌, ◌++◌, length, get_or, map, Option, Some, None, IsSome, refl, ap, ◌∙◌, sym, subst, arith, append_assoc}
use Rattle.std.proofs.lemmas.Bool.{cases_lt}
use Rattle.std.specs.List.{sum, sum_by}
use Rattle.std.proofs.lemmas.List.{get_or_past, get_or-map, length-map, append_cancel_right}
use Rattle.std.proofs.lemmas.List.FromFn.{fill_by_all}
use Rattle.std.proofs.lemmas.List.Sums.{sum-map}
use mathlib.Core.List.{IsPrefix}
use Rattle.elastic_link.specs.declared.put_end.PutEnd.{PutEnd}
use Rattle.elastic_link.specs.declared.take_end.TakeEnd.{TakeEnd}
use Rattle.elastic_link.specs.declared.message.Token.{Token}
use Rattle.elastic_link.specs.declared.message.Credit.{Credit}
use Rattle.elastic_link.specs.Credits.{owed_message}
use Rattle.elastic_link.specs.Ends.{IsSound, messages_received, messages_sent, messages_repaid, tokens_taken, credits_owed, repaid_stamp}
use Rattle.net_types.specs.declared.net.Net.{Net}
use Rattle.net_types.specs.declared.firing.Inputs.{Inputs}
use Rattle.net_types.specs.Nets.{chan_at, kind_of, uses}
use Rattle.net_check.specs.Checks.{IsChecked}
use Rattle.net_core.specs.Fire.{State, at_array, tokens_at}
use Rattle.net_core.specs.States.{state_of, strays_at}
use Rattle.net_core.proofs.ApartLemmas.{owns-uses}
use Rattle.net_worker.specs.declared.tables.Tables.{Tables}
use Rattle.net_worker.specs.declared.worker.Worker.{Worker}
use Rattle.net_worker.specs.Plays.{putter, taker}
use Rattle.net_worker.specs.Merge.{Alike, sum_below}
use Rattle.net_worker.specs.Local.{values, fed_opening, Shown, IsLocal, AreLinked as Linked}
use Rattle.net_worker.specs.Merged.{IsRested, Gathers}
use Rattle.net_worker.specs.Together.{IsTogether}
use Rattle.net_worker.specs.Views.{net_of, inputs_of, owner_in, log_of, held_state, put_end, take_end}
use Rattle.net_worker.specs.Workers.{held_by, handed_by, put_by, received_by, repaid_by, shown, Sees, IsMadeOf}
use Rattle.net_worker.proofs.Gathering.{workers_gather}
use Rattle.net_worker.proofs.Logs.{rest_is_shared}
use Rattle.net_worker.proofs.Opening.{map_append}
use Rattle.net_worker.proofs.Strays.{sum_same}
use Rattle.worker_run.specs.Crews.{AreMade, AllWhole, logs_of}
use Rattle.worker_run.specs.Gathers.{AllSound, IsAssembled, CrewGathers}

some_inv : {X : Type 0} (o : Option X) → IsSome o → (x : X) × (o ≡ Some x)
some_inv None h = cc
some_inv (Some x) h = (x, refl)

prefix_longer : (xs ys zs : List Credit) → IsPrefix xs ys → IsPrefix xs (ys ++ zs)
prefix_longer xs ys zs (rest, is) = (rest ++ zs, sym (append_assoc xs rest zs) ∙ ap (λ l. l ++ zs) is)

pub log_at : (ws : List Worker) (d : Worker) (v : ℕ) → v < length ws → get_or (logs_of ws) v [] ≡ log_of (get_or ws v d)
log_at [] d v l = absurd (omega arith)
log_at (w ∷ ws) d zero l = refl
log_at (w ∷ ws) d (suc v) l = log_at ws d v (omega arith)

-- a worker that is not there
abbrev nobody : Net → Inputs → Shown
nobody net inputs = record { log = []; after = fed_opening net inputs (λ c. []); handed = λ c. []; put = λ c. []; received = λ c. []; repaid = λ c. [] }

-- a sum over a list is one over its places
sum_of_all : (f : Worker → ℕ) (ws : List Worker) (d : Worker) → sum_by f ws ≡ sum_below (length ws) (λ v. f (get_or ws v d))
sum_of_all f ws d = sym (sum-map f ws) ∙ ap sum (fill_by_all (λ v. f (get_or ws v d)) (map f ws) (length ws) 0 (length-map ws f) (λ k l. get_or-map f ws k d 0 l))

module _ (t : Tables) (ws : List Worker) (d : Worker) (checked : IsChecked (net_of t)) (made : AreMade t ws) (whole : AllWhole t ws) (sound : AllSound t ws d) where
  abbrev owner : ℕ → ℕ
  owner = owner_in t

  here : (v : ℕ) → v < length ws → IsMadeOf t (get_or ws v d)
  here v l = made.made v d l (whole v d l).not_closed

  abbrev pick : (v : ℕ) → (v < length ws) ⊎ (length ws ≤ v) → Shown
  pick v (inl l) = shown (get_or ws v d) (here v l).after
  pick v (inr l) = nobody (net_of t) (inputs_of t)

  abbrev all : ℕ → Shown
  all v = pick v (cases_lt v (length ws))

  puts_below : (c : ℕ) → c < length (net_of t).chans → putter (net_of t) owner c < length ws
  puts_below c l = made.below (chan_at (net_of t) c).from.unit 0 (omega (arith, checked.within.from c l, t.owned))

  takes_below : (c : ℕ) → c < length (net_of t).chans → taker (net_of t) owner c < length ws
  takes_below c l = made.below (chan_at (net_of t) c).to.unit 0 (omega (arith, checked.within.to c l, t.owned))

  local : (v : ℕ) (o : (v < length ws) ⊎ (length ws ≤ v)) → IsLocal (net_of t) (inputs_of t) owner v (pick v o)
  local v (inl l) = subst (λ j. IsLocal (net_of t) (inputs_of t) owner j (shown (get_or ws v d) (here v l).after)) (made.numbered v d l) (here v l).local
  local v (inr l) = record {
    plays = refl;
    from_others = λ c q. refl;
    to_itself = λ c q. refl;
    values_put = λ c b p q. absurd (omega (arith, puts_below c b));
    stamps_put = λ c b p q. absurd (omega (arith, puts_below c b));
    had_room = λ c b p q. absurd (omega (arith, puts_below c b));
    stand_for = λ c b p q. refl;
  }

  logs : (v : ℕ) (o : (v < length ws) ⊎ (length ws ≤ v)) → (pick v o).log ≡ get_or (logs_of ws) v []
  logs v (inl l) = sym (log_at ws d v l)
  logs v (inr l) = sym (get_or_past (logs_of ws) v [] (omega (arith, length-map ws log_of)))

  record Ends (c v w : ℕ) : Type 0 where
    put : PutEnd
    is_put : put_end (get_or ws v d) c ≡ Some put
    take : TakeEnd
    is_take : take_end (get_or ws w d) c ≡ Some take
    is_sound : IsSound put take

  ends : (c : ℕ) → c < length (net_of t).chans → putter (net_of t) owner c ≢ taker (net_of t) owner c → Ends c (putter (net_of t) owner c) (taker (net_of t) owner c)
  ends c l ne =
      let v = putter (net_of t) owner c in
      let w = taker (net_of t) owner c in
      let nv = made.numbered v d (puts_below c l) in
      let nw = made.numbered w d (takes_below c l) in
      let p = some_inv (put_end (get_or ws v d) c) ((whole v d (puts_below c l)).puts c (l, sym nv, λ q. ne (sym (q ∙ nv)))) in
      let e = some_inv (take_end (get_or ws w d) c) ((whole w d (takes_below c l)).takes c (l, sym nw, λ q. ne (q ∙ nw))) in
      record { put = p.0; is_put = p.1; take = e.0; is_take = e.1; is_sound = sound c l ne p.0 e.0 p.1 e.1 }

  tokens_linked : (c v w : ℕ) → Ends c v w → v < length ws → w < length ws → (o : (v < length ws) ⊎ (length ws ≤ v)) (q : (w < length ws) ⊎ (length ws ≤ w)) → IsPrefix ((pick w q).handed c) ((pick v o).put c)
  tokens_linked c v w e bv bw (inr l) q = absurd (omega arith)
  tokens_linked c v w e bv bw (inl l) (inr k) = absurd (omega arith)
  tokens_linked c v w e bv bw (inl l) (inl k) =
      subst (λ x. IsPrefix (handed_by x) (put_by (put_end (get_or ws v d) c))) (sym e.is_take) (subst (λ x. IsPrefix (handed_by (Some e.take)) (put_by x)) (sym e.is_put) e.is_sound.tokens_in_order)

  messages_linked : (c v w : ℕ) → Ends c v w → v < length ws → w < length ws → (o : (v < length ws) ⊎ (length ws ≤ v)) (q : (w < length ws) ⊎ (length ws ≤ w)) → IsPrefix ((pick v o).received c) ((pick w q).repaid c)
  messages_linked c v w e bv bw (inr l) q = absurd (omega arith)
  messages_linked c v w e bv bw (inl l) (inr k) = absurd (omega arith)
  messages_linked c v w e bv bw (inl l) (inl k) =
      subst (λ x. IsPrefix (received_by (put_end (get_or ws v d) c)) (repaid_by x)) (sym e.is_take)
      (subst (λ x. IsPrefix (received_by x) (messages_repaid e.take)) (sym e.is_put)
      (prefix_longer (messages_received e.put) (messages_sent e.take) (owed_message (credits_owed e.take) (repaid_stamp e.take)) e.is_sound.messages_in_order))

  linked : Linked (net_of t) owner all
  linked = record {
    tokens = λ c l ne. tokens_linked c (putter (net_of t) owner c) (taker (net_of t) owner c) (ends c l ne) (puts_below c l) (takes_below c l) (cases_lt (putter (net_of t) owner c) (length ws)) (cases_lt (taker (net_of t) owner c) (length ws));
    messages = λ c l ne. messages_linked c (putter (net_of t) owner c) (taker (net_of t) owner c) (ends c l ne) (puts_below c l) (takes_below c l) (cases_lt (putter (net_of t) owner c) (length ws)) (cases_lt (taker (net_of t) owner c) (length ws));
  }

  gathers : Gathers (net_of t) (inputs_of t) owner all (logs_of ws)
  gathers = workers_gather (net_of t) (inputs_of t) owner all (logs_of ws) checked (λ v. local v (cases_lt v (length ws))) linked (λ v. logs v (cases_lt v (length ws)))

  -- what a worker holds is what it shows
  held : (j : ℕ) (l : j < length ws) (o : (j < length ws) ⊎ (length ws ≤ j)) → Sees (net_of t) owner j (held_state (get_or ws j d)) (pick j o).after.state
  held j l (inr k) = absurd (omega arith)
  held j l (inl k) = subst (λ n. Sees (net_of t) owner n (held_state (get_or ws j d)) (here j k).after.state) (made.numbered j d k) (here j k).sees

  -- the state after the run is alike with each worker's own state
  own_alike : (j : ℕ) (l : j < length ws) → Alike (net_of t) owner j gathers.to (held_state (get_or ws j d))
  own_alike j l =
      let a = gathers.alike j in
      let s = held j l (cases_lt j (length ws)) in
      record {
        scalars = sym s.scalars ∙ a.scalars;
        own = λ u q. sym (s.own u q) ∙ a.own u q;
        arrays = λ u q. sym (s.arrays u q) ∙ a.arrays u q;
        inner = λ c p q. sym (s.into c q) ∙ a.inner c p q;
      }

  owned : (u : ℕ) → u < length (net_of t).units → owner u < length ws
  owned u l = made.below u 0 (omega (arith, t.owned))

  -- ---- a state that is put together of what the workers hold

  module _ (s : State) (i : IsAssembled t ws d s) where
    -- the tokens that are gone of a channel are those that its taker took
    between : (c : ℕ) (l : c < length (net_of t).chans) (ne : putter (net_of t) owner c ≢ taker (net_of t) owner c)
        → (o : (putter (net_of t) owner c < length ws) ⊎ (length ws ≤ putter (net_of t) owner c)) (q : (taker (net_of t) owner c < length ws) ⊎ (length ws ≤ taker (net_of t) owner c))
        → (gone : List ℕ) → gone ++ tokens_at (pick (taker (net_of t) owner c) q).after.state c ≡ values ((pick (taker (net_of t) owner c) q).handed c)
        → gone ++ tokens_at s c ≡ values ((pick (putter (net_of t) owner c) o).put c)
    between c l ne (inr j) q gone h = absurd (omega (arith, puts_below c l))
    between c l ne (inl j) (inr k) gone h = absurd (omega (arith, takes_below c l))
    between c l ne (inl j) (inl k) gone h =
        let w = taker (net_of t) owner c in
        let e = ends c l ne in
        let n = made.numbered w d k in
        let left : tokens_at (here w k).after.state c ≡ values (held_by (Some e.take)) = (here w k).held c (l, sym n, λ z. ne (z ∙ n)) ∙ ap (λ x. values (held_by x)) e.is_take in
        let all_of_it : gone ++ values (held_by (Some e.take)) ≡ values (tokens_taken e.take) ++ values (held_by (Some e.take)) =
        ap (λ x. gone ++ x) (sym left) ∙ (h ∙ (ap (λ x. values (handed_by x)) e.is_take ∙ map_append (λ (x : Token). x.value) (tokens_taken e.take) (held_by (Some e.take)))) in
        let taken : gone ≡ values (tokens_taken e.take) = append_cancel_right gone (values (tokens_taken e.take)) (values (held_by (Some e.take))) all_of_it in
        ap (λ x. x ++ tokens_at s c) taken ∙ (i.between c l ne e.put e.take e.is_put e.is_take ∙ ap (λ x. values (put_by x)) (sym e.is_put))

    strays : (a : ℕ) → a < length (inputs_of t).arrays → strays_at s a ≡ sum_below (length ws) (λ v. strays_at (all v).after.state a)
    strays a l =
        i.strays a l ∙ (sum_of_all (λ (w : Worker). strays_at (held_state w) a) ws d
        ∙ sum_same (length ws) (λ v. strays_at (all v).after.state a) (λ v. strays_at (held_state (get_or ws v d)) a) (λ v l. ap (λ xs. get_or xs a 0) (sym (held v l (cases_lt v (length ws))).strays)))

    together : IsTogether (net_of t) (inputs_of t) owner (length ws) all s
    together = record {
      measures = i.measures;
      scalars = i.scalars;
      own = λ u l. i.own u l ∙ sym ((held (owner u) (owned u l) (cases_lt (owner u) (length ws))).own u refl);
      arrays = λ u a l q.
          let used : uses (kind_of (net_of t) u) ≡ Some a = owns-uses (kind_of (net_of t) u) a q in
          i.arrays u a l q ∙ (ap (at_array (held_state (get_or ws (owner u) d)).arrays) (sym used)
          ∙ (sym ((held (owner u) (owned u l) (cases_lt (owner u) (length ws))).arrays u refl) ∙ ap (at_array (all (owner u)).after.state.arrays) used));
      others = i.others;
      inner = λ c l q. i.inner c l q ∙ sym ((held (taker (net_of t) owner c) (takes_below c l) (cases_lt (taker (net_of t) owner c) (length ws))).into c refl);
      between = λ c l ne gone h. between c l ne (cases_lt (putter (net_of t) owner c) (length ws)) (cases_lt (taker (net_of t) owner c) (length ws)) gone h;
      strays_long = i.strays_long;
      strays = strays;
    }

pub crew_gathers : CrewGathers
crew_gathers t ws d checked made whole sound =
    let g = gathers t ws d checked made whole sound in
    record {
      to = g.to;
      run = g.run;
      count = g.count;
      rests = λ j l rested. rest_is_shared (net_of t) (owner_in t) j g.to (state_of (get_or ws j d).portion.state)
          (own_alike t ws d checked made whole sound j l) g.long (here t ws d checked made whole sound j l).of.long
          (subst (λ n. IsRested (net_of t) (owner_in t) n (state_of (get_or ws j d).portion.state)) (made.numbered j d l) rested);
      is = λ s i. g.is (length ws) (owned t ws d checked made whole sound) s (together t ws d checked made whole sound s i);
    }
