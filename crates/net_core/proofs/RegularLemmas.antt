-- What holds of every reachable state, and stays.
use Rattle.std.proofs.Common.{◌≡◌, ℕ, suc, zero, ◌-◌, ◌<◌, ◌≤◌, ◌⊎◌, Bool, true, false, cond, Some, List, [], ◌∷◌, length, map, get_or, set, refl, sym, ap, subst, ◌∙◌, inl, inr, arith, length-set, get_or-set_other, get_or-set_same}
use Rattle.std.proofs.lemmas.Bool.{cases_eq, cases_lt}
use Rattle.std.proofs.lemmas.List.{length-map, set_past}
use Rattle.net_types.specs.declared.net.Chan.{Chan}
use Rattle.net_types.specs.declared.net.Unit.{Unit as Kind}
use Rattle.net_types.specs.declared.net.Unit.TheVariants.{Entry, Fork, Sink}
use Rattle.net_types.specs.declared.firing.Act.TheVariants.{Send}
use Rattle.net_types.specs.declared.firing.Firing.{Firing}
use Rattle.net_types.specs.declared.firing.Inputs.{Inputs}
use Rattle.net_types.specs.declared.net.Net.{Net}
use Rattle.net_types.specs.Nets.{chan_at, firing, kind_of, uses}
use Rattle.net_check.specs.Controls.{ctl_in, ctl_out}
use Rattle.lsq_core.specs.Laws.{IsConsistent, StaysConsistent}
use Rattle.net_core.specs.Fire.{setting, Effect, State, Own, idle, opened, tokens_at, head_at, at_array, effect, enabled, after, after_effect, moved, applied, row}
use Rattle.net_core.specs.Control.{early, held, to_come, coming, control_tokens}
use Rattle.net_core.specs.Runs.{opening, Leads}
use Rattle.net_core.proofs.Premises.{Steers, Premises}
use Rattle.net_core.proofs.PathLemmas.{Kept}
use Rattle.net_core.proofs.RowLemmas.{length-changed}
use Rattle.net_core.proofs.GoesLemmas.{Goes, goes, heads}
use Rattle.net_core.proofs.ForkLemmas.{fork_is, send_inv}
use Rattle.net_core.proofs.EffectLemmas.{each_effect, QueueGoes, queue_goes_on}
use Rattle.net_core.proofs.AccountLemmas.{is_fork, Account, row_account}
use Rattle.net_core.proofs.ActLemmas.{kind_within, fork_act}
use Rattle.net_core.proofs.TotalLemmas.{total_all, total_one}
use Rattle.net_core.proofs.CountLemmas.{plain_count}
use Rattle.net_core.proofs.ForkCountLemmas.{fork_count}

-- what holds of every reachable state
pub record IsRegular (net : Net) (s : State) : Type 0 where
  pub long : length s.tokens ≡ length net.chans
  pub owned : length s.own ≡ length net.units
  pub queues : (u : ℕ) → IsConsistent (get_or s.own u idle).queue
  pub control : control_tokens net s ≤ 1

-- the count over one firing
pub counts : (net : Net) (s : State) (f : Firing) (e : Effect) → Premises net → IsRegular net s → Goes net s f e → control_tokens net (applied net f.unit e s) ≤ control_tokens net s
counts net s f e checked good g = by (is_fork (kind_of net f.unit)) refl
  where
    u : ℕ
    u = f.unit

    fork_kind : (k : Kind) → is_fork k ≡ true → (wd : ℕ) × (outs : ℕ) × (k ≡ Fork wd outs)
    fork_kind (Fork wd outs) h = (wd, outs, refl)
    fork_kind _ h = cc

    sends : (wd outs j : ℕ) → kind_of net f.unit ≡ Fork wd outs → f.act ≡ Send j → control_tokens net (applied net f.unit e s) ≤ control_tokens net s
    sends wd outs j is a =
        let q : effect net s (firing f.unit (Send j)) ≡ Some e = rw a at g.is in
        let w = send_inv outs j (get_or s.own f.unit idle) [] (head_at net s f.unit) e (sym (fork_is net s f.unit wd outs is s j) ∙ q) in
        let l : f.unit < length net.units = kind_within net f.unit (λ z. (let m : Fork wd outs ≡ Sink 0 = sym is ∙ z in cc)) in
        let lu : f.unit < length s.own = (let o = good.owned in omega arith) in
        let st : Steers (Fork wd outs) (ctl_in net f.unit) (ctl_out net f.unit) = rw is at (checked.steered f.unit) in
        let r = fork_count net s f.unit wd outs j w.1 [] checked.forked st is good.long good.owned lu w.0 w.2 in
        let P : Effect → Type 0 = λ x. control_tokens net (applied net f.unit x s) ≤ control_tokens net s in
        subst P w.3 r

    by : (b : Bool) → is_fork (kind_of net f.unit) ≡ b → control_tokens net (applied net f.unit e s) ≤ control_tokens net s
    by true is = let w = fork_kind (kind_of net f.unit) is in let x = fork_act net s f.unit w.0 w.1 f.act w.2 e g.is in sends w.0 w.1 x.0 w.2 x.1
    by false is = plain_count net s f.unit e is good.long good.owned (heads net s f e g.is)
        (each_effect (Account net f.unit (kind_of net f.unit) (get_or s.own f.unit idle))
        (row (kind_of net f.unit) f.act (get_or s.own f.unit idle) (at_array s.arrays (uses (kind_of net f.unit))) (setting net s)) (head_at net s f.unit) e
        (row_account net f.unit (kind_of net f.unit) f.act (get_or s.own f.unit idle) (at_array s.arrays (uses (kind_of net f.unit))) (setting net s) is (checked.steered f.unit)) g.is)

-- what each unit keeps after one of them has changed what it keeps
pub own_kept : (P : Own → Type 0) (os : List Own) (u : ℕ) (o : Own) (v : ℕ) → (P (get_or os u idle) → P o) → P (get_or os v idle) → P (get_or (set os u o) v idle)
own_kept P os u o v change h = by (cases_eq v u) (cases_lt u (length os))
  where
    by : (v ≡ u) ⊎ (v ≡ u → ⊥) → (u < length os) ⊎ (length os ≤ u) → P (get_or (set os u o) v idle)
    by (inl a) (inl l) =
        let here : P (get_or os u idle) = subst (λ x. P (get_or os x idle)) a h in
        let e : get_or (set os u o) v idle ≡ o = ap (λ x. get_or (set os u o) x idle) a ∙ get_or-set_same os u o idle l in
        subst P (sym e) (change here)
    by (inl a) (inr l) = subst (λ xs. P (get_or xs v idle)) (sym (set_past os u o l)) h
    by (inr n) l = subst P (sym (get_or-set_other os u v o idle n)) h

-- queues stay consistent
queue_after : (net : Net) (s : State) (f : Firing) (e : Effect) → StaysConsistent → IsRegular net s → Goes net s f e → (v : ℕ) → IsConsistent (get_or (set s.own f.unit e.own) v idle).queue
queue_after net s f e consistent good g v = own_kept (λ o. IsConsistent o.queue) s.own f.unit e.own v here (good.queues v)
  where
    o : Own
    o = get_or s.own f.unit idle

    xs : List ℕ
    xs = at_array s.arrays (uses (kind_of net f.unit))

    by : QueueGoes (kind_of net f.unit) f.act o xs e → IsConsistent o.queue → IsConsistent e.own.queue
    by (QueueGoes.stays q) h = subst IsConsistent (sym q) h
    by (QueueGoes.steps a d ps gs fw v is c q) h = subst IsConsistent (sym q) (consistent d ps gs o.queue xs f.act v h c)

    here : IsConsistent o.queue → IsConsistent e.own.queue
    here = by (queue_goes_on (kind_of net f.unit) f.act o xs (setting net s) (head_at net s f.unit) e g.is)

pub regular_kept : (net : Net) → Premises net → Kept State Firing (enabled net) (after net) (IsRegular net)
regular_kept net checked s f good h =
    let w = goes net s f h in
    let P : State → Type 0 = λ t. IsRegular net t in
    subst P (sym (ap (after_effect net s f.unit) w.1.is)) (at w.0 w.1)
  where
    at : (e : Effect) → Goes net s f e → IsRegular net (applied net f.unit e s)
    at e g = record {
      long = length-changed (moved net f.unit e) 0 s.tokens ∙ good.long;
      owned = length-set s.own f.unit e.own ∙ good.owned;
      queues = queue_after net s f e checked.queues.consistent good g;
      control = (let a = counts net s f e checked good g in let b = good.control in omega arith);
    }

-- ---- the opening state

abbrev no_list : List ℕ
no_list = []

-- no channel has a token
tokens_none : (cs : List Chan) (c : ℕ) → get_or (map (λ (x : Chan). no_list) cs) c no_list ≡ no_list
tokens_none [] c = refl
tokens_none (x ∷ cs) zero = refl
tokens_none (x ∷ cs) (suc c) = tokens_none cs c

pub opening_tokens : (net : Net) (inputs : Inputs) (c : ℕ) → tokens_at (opening net inputs) c ≡ []
opening_tokens net inputs c = tokens_none net.chans c

-- no channel has a counted token
pub opening_held : (net : Net) (inputs : Inputs) (c : ℕ) → held net (opening net inputs) c ≡ 0
opening_held net inputs c = by (chan_at net c).ctl (tokens_at (opening net inputs) c) (opening_tokens net inputs c)
  where
    by : (b : Bool) (xs : List ℕ) → xs ≡ [] → cond b (length xs - early (kind_of net (chan_at net c).to.unit) (get_or (opening net inputs).own (chan_at net c).to.unit idle)) 0 ≡ 0
    by true xs e = let l : length xs ≡ 0 = ap (λ (ys : List ℕ). length ys) e in omega arith
    by false xs e = refl

opened_queue : (k : Kind) → IsConsistent (opened k).queue
opened_queue (Fork wd outs) = record { all_sound = refl; all_below = refl; all_rising = refl }
opened_queue _ = record { all_sound = refl; all_below = refl; all_rising = refl }

opened_queues : (ks : List Kind) (u : ℕ) → IsConsistent (get_or (map opened ks) u idle).queue
opened_queues [] u = record { all_sound = refl; all_below = refl; all_rising = refl }
opened_queues (k ∷ ks) zero = opened_queue k
opened_queues (k ∷ ks) (suc u) = opened_queues ks u

come_le : (k : Kind) (o : Own) → to_come k o ≤ 1
come_le Entry o = by o.fired
  where
    by : (b : Bool) → cond b 0 1 ≤ 1
    by true = omega arith
    by false = omega arith
come_le _ o = omega arith

come_entry : (k : Kind) (o : Own) → 1 ≤ to_come k o → k ≡ Entry
come_entry Entry o h = refl
come_entry _ o h = absurd (omega arith)

pub regular_opening : (net : Net) (inputs : Inputs) → Premises net → IsRegular net (opening net inputs)
regular_opening net inputs checked = record {
  long = length-map net.chans (λ c. no_list);
  owned = length-map net.units opened;
  queues = opened_queues net.units;
  control = (
      let a = total_all (held net s) (length net.chans) (opening_held net inputs) in
      let b = total_one (coming net s) (length net.units) (λ u. come_le (kind_of net u) (get_or s.own u idle))
      (λ u v h g. checked.one_entry u v (come_entry (kind_of net u) (get_or s.own u idle) h) (come_entry (kind_of net v) (get_or s.own v idle) g)) in
      omega arith);
}
  where
    s : State
    s = opening net inputs

pub regular_run : (net : Net) → Premises net → (s t : State) (fs : List Firing) → IsRegular net s → Leads net s fs t → IsRegular net t
regular_run net checked s t [] good r = let P : State → Type 0 = λ x. IsRegular net x in subst P r good
regular_run net checked s t (f ∷ fs) good r = regular_run net checked (after net s f) t fs (regular_kept net checked s f good r.0) r.1
