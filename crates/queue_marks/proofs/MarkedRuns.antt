-- Each firing of a net is one of the net with the marks.
use Rattle.std.proofs.Common.{◌≡◌, ℕ, zero, suc, ◌&&◌, Bool, true, false, cond, Option, Some, None, option_map, List, [], ◌∷◌, length, map, get_or, set, refl, sym, ap, subst, ◌∙◌, IsSomeAnd, arith, length-set}
use Rattle.std.specs.List.{find, list_all}
use Rattle.net_types.specs.declared.net.Net.{Net}
use Rattle.net_types.specs.declared.net.Port.{Port}
use Rattle.net_types.specs.declared.net.Unit.{Unit as Kind}
use Rattle.net_types.specs.declared.net.Unit.TheVariants.{Entry, Sink, Lsq, Exit}
use Rattle.net_types.specs.declared.firing.Act.{Act}
use Rattle.net_types.specs.declared.firing.Act.TheVariants.{Exec}
use Rattle.net_types.specs.declared.firing.Firing.{Firing}
use Rattle.net_types.specs.Nets.{kind_of, uses, owns}
use Rattle.lsq_core.specs.declared.entry.Entry.{Entry as Access}
use Rattle.lsq_core.specs.Acts.{QueueState, Stepped, can, step, exec, may_exec, executes, ready, order_ok, source_ok, known, lets, waiting, last_such, is_serial, in_place, out_place}
use Rattle.net_core.specs.Fire.{State, Own, Setting, Effect, idle, opened, effect, effect_of, enabled, has_room, after, after_effect, applied, row, queue_row, queue_fires, gate, when, with_head, taking, put_out, head_at, at_array, setting, written, counted, moved, changed_from}
use Rattle.net_core.specs.Laws.{starts}
use Rattle.net_core.specs.Runs.{opening, Leads}
use Rattle.queue_marks.specs.Marked.{with_mark, forwarding, forwards, own_with_mark, all_with_marks, with_marks}
use Rattle.queue_marks.specs.Laws.{MarksAllowRuns, MarksEndAlike, QueuesHaveMark}

-- ---- kinds

kinds_marked : (ks : List Kind) (u : ℕ) → get_or (map with_mark ks) u (Sink 0) ≡ with_mark (get_or ks u (Sink 0))
kinds_marked [] u = refl
kinds_marked (k ∷ ks) zero = refl
kinds_marked (k ∷ ks) (suc u) = kinds_marked ks u

pub kind_marked : (net : Net) (u : ℕ) → kind_of (forwarding net) u ≡ with_mark (kind_of net u)
kind_marked net u = kinds_marked net.units u

queue_has_mark : (k : Kind) (a depth : ℕ) (ports : List Port) (groups : List (List ℕ)) (mark : Bool) → with_mark k ≡ Lsq a depth ports groups mark → mark ≡ true
queue_has_mark (Lsq b d ps gs f) a depth ports groups mark e = cc
queue_has_mark _ a depth ports groups mark e = cc

pub queues_have : QueuesHaveMark
queues_have net u a depth ports groups mark e = queue_has_mark (kind_of net u) a depth ports groups mark (sym (kind_marked net u) ∙ e)

uses_marked : (k : Kind) → uses (with_mark k) ≡ uses k
uses_marked Exit = refl
uses_marked _ = refl

owns_marked : (k : Kind) → owns (with_mark k) ≡ owns k
owns_marked Exit = refl
owns_marked _ = refl

-- ---- what units keep

own_marked : (ks : List Kind) (os : List Own) (u : ℕ) → length os ≡ length ks → get_or (all_with_marks ks os) u idle ≡ own_with_mark (get_or ks u (Sink 0)) (get_or os u idle)
own_marked [] [] u l = refl
own_marked [] (o ∷ os) u l = absurd (omega arith)
own_marked (k ∷ ks) [] u l = absurd (omega arith)
own_marked (k ∷ ks) (o ∷ os) zero l = refl
own_marked (k ∷ ks) (o ∷ os) (suc u) l = own_marked ks os u (omega arith)

set_marked : (ks : List Kind) (os : List Own) (u : ℕ) (o : Own) → set (all_with_marks ks os) u (own_with_mark (get_or ks u (Sink 0)) o) ≡ all_with_marks ks (set os u o)
set_marked [] os u o = refl
set_marked (k ∷ ks) [] u o = refl
set_marked (k ∷ ks) (x ∷ os) zero o = refl
set_marked (k ∷ ks) (x ∷ os) (suc u) o = ap (λ r. own_with_mark k x ∷ r) (set_marked ks os u o)

-- what is kept beside the mark
seen_marked : {X : Type 0} (see : Own → X) → ((o : Own) → see (forwards o) ≡ see o) → (k : Kind) (o : Own) → see (own_with_mark k o) ≡ see o
seen_marked see h (Lsq a d ps gs f) o = h o
seen_marked see h _ o = refl

all_seen : {X : Type 0} (see : Own → X) → ((o : Own) → see (forwards o) ≡ see o) → (ks : List Kind) (os : List Own) (u : ℕ) → see (get_or (all_with_marks ks os) u idle) ≡ see (get_or os u idle)
all_seen see h [] os u = refl
all_seen see h (k ∷ ks) [] u = refl
all_seen see h (k ∷ ks) (o ∷ os) zero = seen_marked see h k o
all_seen see h (k ∷ ks) (o ∷ os) (suc u) = all_seen see h ks os u

-- ---- acts of a queue

abbrev marked : QueueState → QueueState
marked q = record q { forward = true }

source_marked : (f : Bool) (o : Option Access) → source_ok f o ≡ true → source_ok true o ≡ true
source_marked true o h = h
source_marked false None h = refl
source_marked false (Some y) h = absurd (cc)

order_marked : (f store all others : Bool) (o : Option Access) → cond store all (others && source_ok f o) ≡ true → cond store all (others && source_ok true o) ≡ true
order_marked f true all others o h = h
order_marked f false all true o h = source_marked f o h
order_marked f false all false o h = h

executes_marked : (f : Bool) (items : List Access) (x : Access) → executes f items x ≡ true → executes true items x ≡ true
executes_marked f items x h = by (ready x) h
  where
    by : (r : Bool) → (r && order_ok f items x) ≡ true → (r && order_ok true items x) ≡ true
    by true h = order_marked f x.store (list_all (lets x) items) (list_all (known x) items) (last_such (waiting x) items) h
    by false h = h

may_marked : (f : Bool) (items : List Access) (o : Option Access) → may_exec f items o ≡ true → may_exec true items o ≡ true
may_marked f items None h = h
may_marked f items (Some x) h = executes_marked f items x h

can_marked : (depth : ℕ) (groups : List (List ℕ)) (q : QueueState) (act : Act) → can depth groups q act ≡ true → can depth groups (marked q) act ≡ true
can_marked depth groups q (Exec e) h = may_marked q.forward q.items (find (is_serial e) q.items) h
can_marked depth groups q _ h = h

abbrev marked_step : Stepped → Stepped
marked_step r = record r { queue = marked r.queue }

exec_marked : (q : QueueState) (xs : List ℕ) (e : ℕ) (o : Option Access) → exec (marked q) xs e o ≡ marked_step (exec q xs e o)
exec_marked q xs e None = refl
exec_marked q xs e (Some x) = refl

step_marked : (ports : List Port) (groups : List (List ℕ)) (q : QueueState) (xs : List ℕ) (act : Act) (v : ℕ) → step ports groups (marked q) xs act v ≡ marked_step (step ports groups q xs act v)
step_marked ports groups q xs (Exec e) v = exec_marked q xs e (find (is_serial e) q.items)
step_marked ports groups q xs _ v = refl

-- ---- effects

abbrev marked_effect : Kind → Effect → Effect
marked_effect k e = record e { own = own_with_mark k e.own }

abbrev forwarded : Effect → Effect
forwarded e = record e { own = forwards e.own }

module _ (depth : ℕ) (ports : List Port) (groups : List (List ℕ)) (act : Act) (o : Own) (xs : List ℕ) (heads : ℕ → Option ℕ) where
  fires_marked : (v : ℕ) → effect_of (queue_fires ports groups act (forwards o) xs v) heads ≡ option_map forwarded (effect_of (queue_fires ports groups act o xs v) heads)
  fires_marked v = ap (λ (r : Stepped). Some (record { takes = []; put = put_out (out_place groups act) r.put; own = record o { queue = r.queue }; array = r.array; strays = r.strays })) (step_marked ports groups o.queue xs act v)

  gate_marked : (p : Option ℕ) → effect_of (gate p (queue_fires ports groups act (forwards o) xs)) heads ≡ option_map forwarded (effect_of (gate p (queue_fires ports groups act o xs)) heads)
  gate_marked None = fires_marked 0
  gate_marked (Some p) = by (heads p)
    where
      by : (h : Option ℕ) → with_head h (λ v. taking p (effect_of (queue_fires ports groups act (forwards o) xs v) heads)) ≡ option_map forwarded (with_head h (λ v. taking p (effect_of (queue_fires ports groups act o xs v) heads)))
      by None = refl
      by (Some v) = ap (taking p) (fires_marked v)

  queue_marked : (e : Effect) → effect_of (queue_row depth ports groups act o xs) heads ≡ Some e → effect_of (queue_row depth ports groups act (forwards o) xs) heads ≡ Some (forwarded e)
  queue_marked e h = by (can depth groups o.queue act) refl h
    where
      by : (b : Bool) → can depth groups o.queue act ≡ b → effect_of (when b (gate (in_place groups act) (queue_fires ports groups act o xs))) heads ≡ Some e → effect_of (queue_row depth ports groups act (forwards o) xs) heads ≡ Some (forwarded e)
      by true c h = ap (λ b. effect_of (when b (gate (in_place groups act) (queue_fires ports groups act (forwards o) xs))) heads) (can_marked depth groups o.queue act c) ∙ (gate_marked (in_place groups act) ∙ ap (option_map forwarded) h)
      by false c h = absurd (cc)

row_marked : (k : Kind) (act : Act) (o : Own) (xs : List ℕ) (ss : Setting) (heads : ℕ → Option ℕ) (e : Effect) → effect_of (row k act o xs ss) heads ≡ Some e → effect_of (row (with_mark k) act (own_with_mark k o) xs ss) heads ≡ Some (marked_effect k e)
unfolding row
row_marked (Lsq a d ps gs f) act o xs ss heads e h = queue_marked d ps gs act o xs heads e h
row_marked _ act o xs ss heads e h = h

-- ---- firings

module _ (net : Net) where
  effect_marked : (s : State) (f : Firing) (e : Effect) → length s.own ≡ length net.units → effect net s f ≡ Some e → effect (forwarding net) (with_marks net s) f ≡ Some (marked_effect (kind_of net f.unit) e)
  effect_marked s f e l h =
      let u = f.unit in
      let k = kind_of net u in
      let t = with_marks net s in
      ap (λ x. effect_of (row x f.act (get_or t.own u idle) (at_array s.arrays (uses x)) (setting net s)) (head_at net s u)) (kind_marked net u)
      ∙ (ap (λ o. effect_of (row (with_mark k) f.act o (at_array s.arrays (uses (with_mark k))) (setting net s)) (head_at net s u)) (own_marked net.units s.own u l)
      ∙ (ap (λ a. effect_of (row (with_mark k) f.act (own_with_mark k (get_or s.own u idle)) (at_array s.arrays a) (setting net s)) (head_at net s u)) (uses_marked k)
      ∙ row_marked k f.act (get_or s.own u idle) (at_array s.arrays (uses k)) (setting net s) (head_at net s u) e h))

  applied_marked : (s : State) (u : ℕ) (e : Effect) → applied (forwarding net) u (marked_effect (kind_of net u) e) (with_marks net s) ≡ with_marks net (applied net u e s)
  applied_marked s u e =
      let owned = set_marked net.units s.own u e.own in
      let arrays = ap (λ a. written a e.array s.arrays) (ap owns (kind_marked net u) ∙ owns_marked (kind_of net u)) in
      let strays = ap (λ a. counted a e.strays s.strays) (ap uses (kind_marked net u) ∙ uses_marked (kind_of net u)) in
      λ j. record { scalars = s.scalars; tokens = changed_from (moved net u e) 0 s.tokens; own = owned j; arrays = arrays j; strays = strays j }

  record Marks (s : State) (f : Firing) : Type 0 where
    can : enabled (forwarding net) (with_marks net s) f
    leads : after (forwarding net) (with_marks net s) f ≡ with_marks net (after net s f)
    same : length (after net s f).own ≡ length s.own

  fires : (s : State) (f : Firing) → length s.own ≡ length net.units → enabled net s f → Marks s f
  fires s f l h = by (effect net s f) refl h
    where
      by : (o : Option Effect) → effect net s f ≡ o → IsSomeAnd o (λ e. has_room net s f.unit e.put) → Marks s f
      by None e h = absurd h
      by (Some x) e h =
          let z = effect_marked s f x l e in
          record {
            can = subst (λ o. IsSomeAnd o (λ y. has_room (forwarding net) (with_marks net s) f.unit y.put)) (sym z) h;
            leads = ap (after_effect (forwarding net) (with_marks net s) f.unit) z ∙ (applied_marked s f.unit x ∙ ap (with_marks net) (sym (ap (after_effect net s f.unit) e)));
            same = ap (λ o. length (after_effect net s f.unit o).own) e ∙ length-set s.own f.unit x.own;
          }

  path_marked : (fs : List Firing) (s t : State) → length s.own ≡ length net.units → Leads net s fs t → Leads (forwarding net) (with_marks net s) fs (with_marks net t)
  path_marked [] s t l r = ap (with_marks net) r
  path_marked (f ∷ fs) s t l r =
      let x = fires s f l r.0 in
      (x.can, subst (λ y. Leads (forwarding net) y fs (with_marks net t)) (sym x.leads) (path_marked fs (after net s f) t (x.same ∙ l) r.1))

-- ---- the opening

opened_marked : (k : Kind) → opened (with_mark k) ≡ own_with_mark k (opened k)
opened_marked Exit = refl
opened_marked _ = refl

all_opened : (ks : List Kind) → map opened (map with_mark ks) ≡ all_with_marks ks (map opened ks)
all_opened [] = refl
all_opened (k ∷ ks) = let a = opened_marked k in let b = all_opened ks in λ j. a j ∷ b j

as_many : (ks : List Kind) → length (map opened ks) ≡ length ks
as_many [] = refl
as_many (k ∷ ks) = ap suc (as_many ks)

pub runs_marked : MarksAllowRuns
runs_marked net inputs fs s r =
    let start = opening net inputs in
    let same : opening (forwarding net) inputs ≡ with_marks net start = (let o = all_opened net.units in λ j. record start { own = o j }) in
    subst (λ x. Leads (forwarding net) x fs (with_marks net s)) (sym same) (path_marked net fs start s (as_many net.units) r)

-- ---- the end

starts_marked : (k : Kind) → starts (with_mark k) ≡ starts k
starts_marked Exit = refl
starts_marked _ = refl

exit_unmarked : (k : Kind) → with_mark k ≡ Exit → k ≡ Exit
exit_unmarked (Lsq a d ps gs f) e = absurd (cc)
exit_unmarked _ e = e

pub ends_marked : MarksEndAlike
ends_marked net s = record {
  spent = λ h. record {
    tokens = h.tokens;
    entries = λ u. all_seen (λ o. o.queue.items) (λ o. refl) net.units s.own u ∙ h.entries u;
    started = λ u e. all_seen (λ o. o.fired) (λ o. refl) net.units s.own u ∙ h.started u (sym (ap starts (kind_marked net u) ∙ starts_marked (kind_of net u)) ∙ e);
  };
  exited = λ r h. record {
    fired = λ x e. all_seen (λ o. o.fired) (λ o. refl) net.units s.own x ∙ h.fired x (exit_unmarked (kind_of net x) (sym (kind_marked net x) ∙ e));
    value = λ x e. all_seen (λ o. o.value) (λ o. refl) net.units s.own x ∙ h.value x (exit_unmarked (kind_of net x) (sym (kind_marked net x) ∙ e));
  };
}
