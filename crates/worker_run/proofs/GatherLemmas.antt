-- What gathering a crew gives: the state after the merged log, and what of the workers stays.
use Rattle.std.proofs.Common.{◌≡◌, ◌≢◌, ℕ, suc, ◌+◌, ◌*◌, ◌^◌, ◌<◌, ◌≤◌, List, [], ◌∷◌, ◌++◌, length, get_or, take, drop, refl, ap, ◌∙◌, sym, subst, arith}
use Rattle.std.proofs.Math.Logic.{∥∥₁_elim}
use Rattle.std.proofs.Math.Bridge.{le_prop}
use Rattle.std.specs.Coded.{Coded-set, codes}
use Rattle.std.proofs.lemmas.Grind.{common_steps}
use Rattle.std.proofs.lemmas.List.{get_or_default}
use Rattle.el_base.specs.Limits.{max_depth}
use Rattle.elastic_link.specs.declared.message.Credit.{Credit}
use Rattle.elastic_link.specs.declared.put_end.PutEnd.{PutEnd}
use Rattle.elastic_link.specs.declared.take_end.TakeEnd.{TakeEnd}
use Rattle.elastic_link.specs.Credits.{credits_in}
use Rattle.elastic_link.specs.Ends.{IsSound, tokens_put, tokens_taken, messages_received, messages_sent}
use Rattle.net_types.specs.declared.net.Net.{Net}
use Rattle.net_types.specs.declared.firing.Firing.{Firing}
use Rattle.net_types.specs.declared.firing.Inputs.{Inputs}
use Rattle.net_types.specs.Nets.{chan_at}
use Rattle.net_check.specs.Checks.{IsChecked}
use Rattle.net_core.specs.Fire.{State, enabled, after}
use Rattle.net_core.specs.Runs.{opening, Leads, Run}
use Rattle.net_core.specs.States.{CountsWithin, strays_at}
use Rattle.net_core.proofs.GoesLemmas.{goes}
use Rattle.net_core.proofs.PropLemmas.{is_of_prop, state_set}
use Rattle.net_core.proofs.RaiseLemmas.{counts_after}
use Rattle.net_worker.specs.declared.tables.Tables.{Tables}
use Rattle.net_worker.specs.declared.worker.Worker.{Worker}
use Rattle.net_worker.specs.Given.{SameWork}
use Rattle.net_worker.specs.Handed.{SameLogged, HoldsOf, HoldsUnit, HoldsChan, FewLeft}
use Rattle.net_worker.specs.Merged.{merged, entries_of, IsRested}
use Rattle.net_worker.specs.Plays.{putter, taker}
use Rattle.net_worker.specs.Views.{net_of, inputs_of, owner_in, number_of, log_of, held_state, take_end}
use Rattle.net_worker.specs.Workers.{IsMadeOf, HasRested}
use Rattle.net_worker.proofs.Holdings.{made_holds as held}
use Rattle.net_worker.proofs.Logs.{merged_length}
use Rattle.worker_run.specs.Crews.{AreMade, AllWhole, AreSameWork, logs_of, merged_of}
use Rattle.worker_run.specs.Gathers.{RestsIn}
use Rattle.worker_run.specs.private.Handings.{AllHold, AllHoldOwn, StraysAreFew, CanDrain, AreHandedOver}
use Rattle.worker_run.specs.private.Settlings.{AreKept, AreSettled, CanAll, after_all}
use Rattle.worker_run.proofs.CrewLemmas.{crew_gathers}
use Rattle.worker_run.proofs.HandLemmas.{same_logged_then}
use Rattle.worker_run.proofs.KeptLemmas.{made_kept, whole_kept, made_logged, logs_by, putter_hidden, taker_hidden, putter_below, taker_below, put_there, take_there}
use Rattle.net_core.proofs.OpenLemmas.{opening_counts}
use Rattle.net_replay.proofs.PathLemmas.{counts_less}
use Rattle.worker_run.proofs.ShareLemmas.{all_few}
use Rattle.worker_run.proofs.TruthLemmas.{not_hidden, from_hidden, hidden_map, can_or_not, leads_can, leads_all}

-- ---- the merged log can be fired

pub can_merge : (t : Tables) (a b : List Worker) → IsChecked (net_of t) → ∥ AreMade t a ∥₁ → AllWhole t a → AreKept a b → AreSettled t b (length (net_of t).chans)
    → CanAll (net_of t) (opening (net_of t) (inputs_of t)) (merged_of b)
can_merge t a [] checked made whole kept sound = refl
can_merge t a (w ∷ b) checked made whole kept sound =
    from_hidden made (can_or_not (net_of t) (opening (net_of t) (inputs_of t)) (merged_of (w ∷ b))) (λ m. (
    let g = crew_gathers t (w ∷ b) w checked (made_kept t a (w ∷ b) kept m) (whole_kept t a (w ∷ b) kept whole) (λ c l ne. sound c l w ne) in
    leads_can (net_of t) (opening (net_of t) (inputs_of t)) (merged_of (w ∷ b)) g.to g.run))

-- what the workers hold together is the state after it
pub state_merged : (t : Tables) (a b : List Worker) (to : State) → IsChecked (net_of t) → ∥ AreMade t a ∥₁ → AllWhole t a → AreKept a b → AreSettled t b (length (net_of t).chans) → 0 < length b
    → ((d : Worker) → Rattle.worker_run.specs.Gathers.IsAssembled t b d to) → to ≡ after_all (net_of t) (opening (net_of t) (inputs_of t)) (merged_of b)
state_merged t a [] to checked made whole kept sound some h = absurd (omega (arith, some))
state_merged t a (w ∷ b) to checked made whole kept sound some h =
    ∥∥₁_elim made (state_set to (after_all (net_of t) (opening (net_of t) (inputs_of t)) (merged_of (w ∷ b)))) (λ m. (
    let g = crew_gathers t (w ∷ b) w checked (made_kept t a (w ∷ b) kept m) (whole_kept t a (w ∷ b) kept whole) (λ c l ne. sound c l w ne) in
    g.is to (h w) ∙ leads_all (net_of t) (opening (net_of t) (inputs_of t)) (merged_of (w ∷ b)) g.to g.run))

rested_kept : (t : Tables) (a b : Worker) → number_of b ≡ number_of a → held_state b ≡ held_state a → HasRested t a → HasRested t b
rested_kept t a b number state h = subst (λ n. IsRested (net_of t) (owner_in t) n (held_state b)) (sym number) (subst (λ s. IsRested (net_of t) (owner_in t) (number_of a) s) (sym state) h)

-- the worker's number is its place
pub rests_in : (t : Tables) (a b : List Worker) (s : State) → IsChecked (net_of t) → ∥ AreMade t a ∥₁ → AllWhole t a → AreKept a b → AreSettled t b (length (net_of t).chans)
    → s ≡ after_all (net_of t) (opening (net_of t) (inputs_of t)) (merged_of b) → RestsIn t a s
rests_in t a b s checked made whole kept sound is j d l rested f mine inner can =
    not_hidden made (λ m. (
    let k = kept.each j d l in
    let g = crew_gathers t b d checked (made_kept t a b kept m) (whole_kept t a b kept whole) (λ c h ne. sound c h d ne) in
    let there = g.rests j (omega (arith, l, kept.long)) (rested_kept t (get_or a j d) (get_or b j d) k.work.number k.work.state rested) in
    let same : s ≡ g.to = is ∙ sym (leads_all (net_of t) (opening (net_of t) (inputs_of t)) (merged_of b) g.to g.run) in
    there f mine inner (subst (λ x. enabled (net_of t) x f) same can)))

-- ---- bounds

worker_few : (t : Tables) (w : Worker) → IsMadeOf t w → length (log_of w) ≤ 16000000
worker_few t w m = omega (arith, m.room, w.most)

pub entries_few : (t : Tables) (ws : List Worker) → ∥ AreMade t ws ∥₁ → AllWhole t ws → entries_of (logs_of ws) ≤ 2 ^ 40
entries_few t ws made whole =
    ∥∥₁_elim made le_prop (λ m. (
    let all = all_few 16000000 ws (λ j d l. worker_few t (get_or ws j d) (m.made j d l (whole j d l).not_closed)) in
    omega (arith, all, m.few)))

pub few_hidden : (t : Tables) (ws : List Worker) → ∥ AreMade t ws ∥₁ → length ws ≤ 64
few_hidden t ws made = ∥∥₁_elim made le_prop (λ m. m.few)

few_strays : (t : Tables) (w : Worker) (a : ℕ) → IsMadeOf t w → strays_at (held_state w) a ≤ 2 ^ 50
few_strays t w a m = omega (arith, m.counts.strays a, worker_few t w m)

pub strays_few : (t : Tables) (ws : List Worker) → ∥ AreMade t ws ∥₁ → AllWhole t ws → StraysAreFew ws
strays_few t ws made whole j d l a = ∥∥₁_elim made le_prop (λ m. few_strays t (get_or ws j d) a (m.made j d l (whole j d l).not_closed))

-- each firing raises counts by so much at most
leads_counts : (net : Net) (s : State) (fs : List Firing) (t : State) (n : ℕ) → IsChecked net → Leads net s fs t → CountsWithin n s → CountsWithin (n + max_depth * length fs) t
leads_counts net s [] t n checked l h =
    let e : n ≡ n + max_depth * 0 = omega arith in
    subst (λ k. CountsWithin k t) e (subst (CountsWithin n) l h)
leads_counts net s (f ∷ fs) t n checked l h =
    let g = goes net s f l.0 in
    let one = counts_after net s f g.0 checked g.1.is n h in
    let more = leads_counts net (after net s f) fs t (n + max_depth) checked l.1 one in
    let e : n + max_depth + max_depth * length fs ≡ n + max_depth * suc (length fs) = omega arith in
    subst (λ k. CountsWithin k t) e more

pub run_counts : (net : Net) (inputs : Inputs) (ws : List Worker) (to : State) → IsChecked net → Run net inputs (merged_of ws) to → entries_of (logs_of ws) ≤ 2 ^ 40 → CountsWithin (2 ^ 60) to
run_counts net inputs ws to checked run few =
    let h = leads_counts net (opening net inputs) (merged_of ws) to 0 checked run (opening_counts net inputs) in
    counts_less (0 + max_depth * length (merged_of ws)) (2 ^ 60) to (omega (arith, few, merged_length (logs_of ws))) h

-- ---- what handing over needs

pub all_hold : (t : Tables) (ws : List Worker) (net : Net) → net_of t ≡ net → ∥ AreMade t ws ∥₁ → AllWhole t ws → AllHold net ws
all_hold t ws net is made whole j d l =
    subst (λ n. HoldsOf n (get_or ws j d)) is (∥∥₁_elim made (is_of_prop (net_of t) (get_or ws j d).portion.state) (λ m. (m.made j d l (whole j d l).not_closed).of))

unit_prop : (w : Worker) (u : ℕ) → IsProp (HoldsUnit w u)
unit_prop w u = hlevel (codes, Coded-set, le_prop)

chan_prop : (w : Worker) (c : ℕ) → IsProp (HoldsChan w c)
chan_prop w c = hlevel (codes, Coded-set, le_prop)

pub all_hold_own : (t : Tables) (ws : List Worker) → ∥ AreMade t ws ∥₁ → AllWhole t ws → AllHoldOwn t ws
all_hold_own t ws made whole = record {
  units = λ u d l within.
      let o = owner_in t u in
      ∥∥₁_elim made (unit_prop (get_or ws o d) u) (λ m. held.units t (get_or ws o d) u (m.made o d within (whole o d within).not_closed) l (sym (m.numbered o d within)));
  chans = λ c d l within.
      let o = taker (net_of t) (owner_in t) c in
      ∥∥₁_elim made (chan_prop (get_or ws o d) c) (λ m. held.chans t (get_or ws o d) c (m.made o d within (whole o d within).not_closed) l (sym (m.numbered o d within)));
}

pub owners_below : (t : Tables) (ws : List Worker) (net : Net) → net_of t ≡ net → ∥ AreMade t ws ∥₁ → (u : ℕ) → u < length net.units → owner_in t u < length ws
owners_below t ws net is made u l =
    let within : u < length (net_of t).units = subst (λ (n : Net). u < length n.units) (sym is) l in
    ∥∥₁_elim made le_prop (λ m. m.below u 0 (omega (arith, within, t.owned)))

credits_prefix : (xs ys : List Credit) → credits_in xs ≤ credits_in (xs ++ ys)
credits_prefix [] ys = omega arith
credits_prefix (x ∷ xs) ys = omega (arith, credits_prefix xs ys)

sound_few : (p : PutEnd) (e : TakeEnd) (slots : ℕ) → IsSound p e → p.slots ≡ slots → length (tokens_put p) ≤ slots + length (tokens_taken e)
sound_few p e slots s is =
    let got : credits_in (messages_received p) ≤ credits_in (messages_sent e) = subst (λ ms. credits_in (messages_received p) ≤ credits_in ms) s.messages_in_order.1 (credits_prefix (messages_received p) s.messages_in_order.0) in
    omega (arith, s.room, s.repaid_were_taken, got, is)

few_there : (t : Tables) (ws : List Worker) → IsChecked (net_of t) → ∥ AreMade t ws ∥₁ → AllWhole t ws → AreSettled t ws (length (net_of t).chans) → (c : ℕ) → c < length (net_of t).chans
    → putter (net_of t) (owner_in t) c ≢ taker (net_of t) (owner_in t) c → (d e : Worker)
    → FewLeft (chan_at (net_of t) c).slots c (get_or ws (putter (net_of t) (owner_in t) c) d) (get_or ws (taker (net_of t) (owner_in t) c) e)
few_there t ws checked made whole sound c l ne d e p x is_put is_take =
    ∥∥₁_elim made le_prop (λ m. (
    let v = putter (net_of t) (owner_in t) c in
    let w = taker (net_of t) (owner_in t) c in
    let hv = putter_below t ws checked m c l in
    let hw = taker_below t ws checked m c l in
    let same : get_or ws w e ≡ get_or ws w d = get_or_default ws w e d hw in
    let slots = ((m.made v d hv (whole v d hv).not_closed).puts_out c p is_put).1 in
    sound_few p x (chan_at (net_of t) c).slots (sound c l d ne p x is_put (ap (λ z. take_end z c) (sym same) ∙ is_take)) slots))

pub can_drain : (t : Tables) (ws : List Worker) (net : Net) → net_of t ≡ net → IsChecked net → ∥ AreMade t ws ∥₁ → AllWhole t ws → AreSettled t ws (length net.chans)
    → (c : ℕ) → c < length net.chans → CanDrain net (owner_in t) ws c
can_drain t ws net is checked made whole sound =
    let P : Net → Type 0 = λ n. IsChecked n → AreSettled t ws (length n.chans) → (c : ℕ) → c < length n.chans → CanDrain n (owner_in t) ws c in
    let here : P (net_of t) = λ ch st c l. record {
      from = putter_hidden t ws ch made c l;
      to = taker_hidden t ws ch made c l;
      put = λ ne d. put_there t ws ch made whole c l ne d;
      take = λ ne d. take_there t ws ch made whole c l ne d;
      few = λ ne d e. few_there t ws ch made whole st c l ne d e;
    } in
    subst P is here checked sound

-- ---- workers that are settled and have handed over what they hold

-- what a slice leaves in its list
pub slice_back : {X : Type 0} (xs ys : List X) (n : ℕ) → n ≡ length xs → length ys ≡ length xs → take n (ys ++ drop (length ys) xs) ≡ ys
slice_back xs ys n h k = grind (arith, common_steps)

logged_of : (a b : Worker) → SameWork a b → SameLogged a b
logged_of a b h = record { number = h.number; share = h.share; log = h.log; room = h.room; clock = h.clock }

pub work_stays : (t : Tables) (a b x : List Worker) (to : State) → AreKept a b → AreHandedOver t b x to → AreSameWork a x
work_stays t a b x to k h = record {
  long = h.long ∙ k.long;
  each = λ j d l. same_logged_then (get_or a j d) (get_or b j d) (get_or x j d) (logged_of (get_or a j d) (get_or b j d) (k.each j d l).work) (h.each j d (omega (arith, l, k.long)));
}

pub logs_stay : (t : Tables) (a b x : List Worker) (to : State) → AreKept a b → AreHandedOver t b x to → logs_of x ≡ logs_of a
logs_stay t a b x to k h = let w = work_stays t a b x to k h in logs_by a x w.long (λ j d l. (w.each j d l).log)

pub logs_handed : (t : Tables) (b x : List Worker) (to : State) → AreHandedOver t b x to → logs_of x ≡ logs_of b
logs_handed t b x to h = logs_by b x h.long (λ j d l. (h.each j d l).log)

pub handed_crew : (t : Tables) (b x : List Worker) (to : State) → AreHandedOver t b x to → ∥ AreMade t b ∥₁ → ∥ AreMade t x ∥₁
handed_crew t b x to h made = hidden_map made (λ m. made_logged t b x h.long h.each h.closed m)

pub gather_can : (t : Tables) (a b x : List Worker) (net : Net) (to : State) → net_of t ≡ net → IsChecked net → ∥ AreMade t a ∥₁ → AllWhole t a → AreKept a b
    → AreSettled t b (length net.chans) → AreHandedOver t b x to → CanAll net (opening net (inputs_of t)) (merged_of x)
gather_can t a b x net to is checked made whole kept sound handed =
    let P : Net → Type 0 = λ n. IsChecked n → AreSettled t b (length n.chans) → CanAll n (opening n (inputs_of t)) (merged_of x) in
    let here : P (net_of t) = λ ch st.
    subst (λ l. CanAll (net_of t) (opening (net_of t) (inputs_of t)) (merged l)) (sym (logs_handed t b x to handed)) (can_merge t a b ch made whole kept st) in
    subst P is here checked sound

pub gather_state : (t : Tables) (a b x : List Worker) (net : Net) (to : State) → net_of t ≡ net → IsChecked net → ∥ AreMade t a ∥₁ → AllWhole t a → AreKept a b
    → AreSettled t b (length net.chans) → 0 < length b → AreHandedOver t b x to → to ≡ after_all net (opening net (inputs_of t)) (merged_of x)
gather_state t a b x net to is checked made whole kept sound some handed =
    let P : Net → Type 0 = λ n. IsChecked n → AreSettled t b (length n.chans) → to ≡ after_all n (opening n (inputs_of t)) (merged_of x) in
    let here : P (net_of t) = λ ch st.
    state_merged t a b to ch made whole kept st some handed.assembled ∙ ap (λ l. after_all (net_of t) (opening (net_of t) (inputs_of t)) (merged l)) (sym (logs_handed t b x to handed)) in
    subst P is here checked sound

pub gather_rests : (t : Tables) (a b x : List Worker) (net : Net) (to : State) → net_of t ≡ net → IsChecked net → ∥ AreMade t a ∥₁ → AllWhole t a → AreKept a b
    → AreSettled t b (length net.chans) → AreHandedOver t b x to → to ≡ after_all net (opening net (inputs_of t)) (merged_of x) → RestsIn t a to
gather_rests t a b x net to is checked made whole kept sound handed ends =
    let P : Net → Type 0 = λ n. IsChecked n → AreSettled t b (length n.chans) → to ≡ after_all n (opening n (inputs_of t)) (merged_of x) → RestsIn t a to in
    let here : P (net_of t) = λ ch st e.
    rests_in t a b to ch made whole kept st (e ∙ ap (λ l. after_all (net_of t) (opening (net_of t) (inputs_of t)) (merged l)) (logs_handed t b x to handed)) in
    subst P is here checked sound ends

pub gather_run : (net : Net) (inputs : Inputs) (ws : List Worker) (to : State) → CanAll net (opening net inputs) (merged_of ws) → to ≡ after_all net (opening net inputs) (merged_of ws) → Run net inputs (merged_of ws) to
gather_run net inputs ws to can ends = subst (Leads net (opening net inputs) (merged_of ws)) (sym ends) can
