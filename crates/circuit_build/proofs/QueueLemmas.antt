-- What the acts of a queue do to tokens seen by places, where accesses come in the order of the program.
use Rattle.std.proofs.Common.{◌≡◌, ℕ, suc, ◌+◌, ◌*◌, ◌<◌, ◌≤◌, Bool, true, false, cond, Option, Some, None, List, [], ◌∷◌, length, get_or, set, refl, sym, ap, ◌∙◌, arith, slice_get}
use Rattle.std.proofs.lemmas.List.{set-get_or}
use Rattle.net_types.specs.declared.net.Net.{Net}
use Rattle.net_types.specs.declared.net.Place.{Place}
use Rattle.net_types.specs.declared.net.Port.{Port}
use Rattle.net_types.specs.declared.net.Port.TheVariants.{Load, Store}
use Rattle.net_types.specs.declared.net.Unit.TheVariants.{Lsq}
use Rattle.net_types.specs.declared.firing.Act.{Act}
use Rattle.net_types.specs.declared.firing.Act.TheVariants.{Alloc, Addr, Data, Exec, Reply, Retire, End}
use Rattle.net_types.specs.Nets.{is_at, kind_of, uses, owns, at, firing}
use Rattle.lsq_core.specs.Acts.{QueueState, fresh_entry, with_addr, with_data, executed, answered}
use Rattle.net_core.specs.declared.plan.Put.{Put}
use Rattle.net_core.specs.Fire.{State, Own, idle, effect, effect_of, head_at, taken, written, row, queue_row, at_array, setting, put_at}
use Rattle.circuit_build.proofs.Marks.{Marks, Wired, popped, pushed, popped_all, put_mark, Aside, own_set, Shows, Goes, Fed, Free, awaiting, awaits}
use Rattle.circuit_build.proofs.MarkLemmas.{moves, goes_as, goes_on, unit_at, own_same, own_here, own_twice, head_is}
use Rattle.circuit_build.proofs.KindLemmas.{past}
use Rattle.circuit_build.proofs.QueueOrder as order
use Rattle.circuit_build.proofs.QueueOrder.{holding, queue_effect, headed, after_first}

popped_none : (p r : Place) (m : Marks) → m r ≡ [] → popped p m r ≡ []
popped_none p r m e = by (is_at r p.unit p.place)
  where
    by : (b : Bool) → cond b (taken true (m r)) (m r) ≡ []
    by true = ap (taken true) e
    by false = e

module _ (net : Net) (scalars : List ℕ) (u b depth : ℕ) (ports : List Port) (groups : List (List ℕ)) (is : slice_get net.units u ≡ Some (Lsq b depth ports groups false)) (os : ℕ → Own) where
  -- beside the tokens, where the unit keeps this queue
  abbrev keeps : QueueState → List (List ℕ) → ℕ → Aside
  keeps q arrays n = record { own = own_set u (holding q) os; arrays = arrays; strays = n }

  -- an act, given what its row does
  next_act : (s : State) (m : Marks) (q : QueueState) (arrays : List (List ℕ)) (n : ℕ) → Shows net scalars s m (keeps q arrays n)
      → (act : Act) (takes : List ℕ) (put : Option Put) (q' : QueueState) (xs : List ℕ) (k : ℕ) (srcs : List Place) (arrays' : List (List ℕ)) (n' : ℕ)
      → effect_of (queue_row depth ports groups act (holding q) (get_or arrays b [])) (head_at net s u) ≡ Some (queue_effect takes put q' xs k)
      → set arrays b xs ≡ arrays' → n + k ≤ n' → Fed net u m takes srcs → Free net u m put
      → Goes net scalars s (firing u act ∷ []) (put_mark u put (popped_all srcs m)) (keeps q' arrays' n')
  unfolding row
  next_act s m q arrays n h act takes put q' xs k srcs arrays' n' e written_is le fed free =
      let w = unit_at net.units u (Lsq b depth ports groups false) is in
      let own : get_or s.own u idle ≡ holding q = h.own u ∙ own_here os u (holding q) in
      let z : effect net s (firing u act) ≡ Some (queue_effect takes put q' xs k) =
      ap (λ x. effect_of (row x act (get_or s.own u idle) (at_array s.arrays (uses x)) (setting net s)) (head_at net s u)) w.0
      ∙ (ap (λ o. effect_of (queue_row depth ports groups act o (get_or s.arrays b [])) (head_at net s u)) own
      ∙ (ap (λ (t : List (List ℕ)). effect_of (queue_row depth ports groups act (holding q) (get_or t b [])) (head_at net s u)) h.same ∙ e)) in
      let same : written (owns (kind_of net u)) xs s.arrays ≡ arrays' = ap (λ o. written o xs s.arrays) (ap owns w.0) ∙ (ap (λ t. set t b xs) h.same ∙ written_is) in
      goes_as net scalars s (firing u act ∷ []) _ _ _ (keeps q' arrays' n') (moves net scalars s m (keeps q arrays n) h u act (queue_effect takes put q' xs k) srcs w.1 z fed free)
      (λ r. refl) (λ v. own_twice os u (holding q) (holding q') v) same le

-- what a unit keeps under another word
shows_queue : (net : Net) (scalars : List ℕ) (s : State) (m : Marks) (a : Aside) → Shows net scalars s m a → (u : ℕ) (o : Own) → a.own u ≡ o
    → Shows net scalars s m (record a { own = own_set u o a.own })
shows_queue net scalars s m a h u o e = record {
  given = h.given;
  sees = h.sees;
  own = λ v. h.own v ∙ (sym (own_same u a.own v) ∙ ap (λ x. own_set u x a.own v) e);
  same = h.same;
  few = h.few;
  long = h.long;
  owned = h.owned;
}

module _ (net : Net) (scalars : List ℕ) (s : State) (m : Marks) (a : Aside) (h : Shows net scalars s m a) (u b depth : ℕ) (ports : List Port) (groups : List (List ℕ))
    (is : slice_get net.units u ≡ Some (Lsq b depth ports groups false)) where
  -- an allocation: the group's ports wait
  pub alloc_goes : (n g v : ℕ) (p r : Place) → a.own u ≡ awaits ports n [] → g < length groups → length (get_or groups g []) ≤ depth
      → Wired net p (at u g) → Wired net (at u g) r → m p ≡ v ∷ [] → m (at u g) ≡ []
      → Goes net scalars s (firing u (Alloc g) ∷ []) (pushed (at u g) v (popped p m)) (record a { own = own_set u (awaits ports n (get_or groups g [])) a.own })
  alloc_goes n g v p r own lt room wp wr ev eo =
      let cells : List ℕ = get_or a.arrays b [] in
      let h' = shows_queue net scalars s m a h u (awaits ports n []) own in
      let i = head_is net scalars s m a h u g v p wp ev in
      next_act net scalars u b depth ports groups is a.own s m (awaiting ports n []) a.arrays a.strays h' (Alloc g) (g ∷ []) (put_at g v) (awaiting ports n (get_or groups g [])) cells 0 (p ∷ []) a.arrays a.strays
      (order.group_comes depth ports groups n cells (head_at net s u) g v lt room i) (set-get_or a.arrays b []) (omega arith) (wp, (v, ev), tt) ((r, wr), eo)

  -- the control token passes the end of an empty queue
  pub end_goes : (n v : ℕ) (p r : Place) → a.own u ≡ awaits ports n [] → Wired net p (at u (length groups)) → Wired net (at u (length groups)) r → m p ≡ v ∷ [] → m (at u (length groups)) ≡ []
      → Goes net scalars s (firing u End ∷ []) (pushed (at u (length groups)) v (popped p m)) a
  end_goes n v p r own wp wr ev eo =
      let cells : List ℕ = get_or a.arrays b [] in
      let h' = shows_queue net scalars s m a h u (awaits ports n []) own in
      let i = head_is net scalars s m a h u (length groups) v p wp ev in
      goes_as net scalars s (firing u End ∷ []) _ _ _ a
      (next_act net scalars u b depth ports groups is a.own s m (awaiting ports n []) a.arrays a.strays h' End (length groups ∷ []) (put_at (length groups) v) (awaiting ports n []) cells 0 (p ∷ []) a.arrays a.strays
      (order.ends depth ports groups n cells (head_at net s u) v i) (set-get_or a.arrays b []) (omega arith) (wp, (v, ev), tt) ((r, wr), eo))
      (λ x. refl) (λ w. ap (λ x. own_set u x a.own w) (sym own) ∙ own_same u a.own w) refl (omega arith)

  -- a load, whose port waits first: its address is taken, and the element there is put; 0 for one past the array
  pub load_goes : (n p : ℕ) (left : List ℕ) (v : ℕ) (r t : Place) → a.own u ≡ awaits ports n (p ∷ left) → slice_get ports p ≡ Some Load
      → Wired net r (at u (length groups + 1 + 2 * p)) → Wired net (at u (length groups + 1 + p)) t → m r ≡ v ∷ [] → m (at u (length groups + 1 + p)) ≡ []
      → Goes net scalars s (firing u (Addr p) ∷ firing u (Exec n) ∷ firing u (Reply p) ∷ firing u Retire ∷ []) (pushed (at u (length groups + 1 + p)) (get_or (get_or a.arrays b []) v 0) (popped r m))
      (record { own = own_set u (awaits ports (suc n) left) a.own; arrays = a.arrays; strays = a.strays + past (get_or a.arrays b []) v })
  load_goes n p left v r t own port wr wt ev eo =
      let cells : List ℕ = get_or a.arrays b [] in
      let x : ℕ = get_or cells v 0 in
      let next : ℕ = n + length (p ∷ left) in
      let e0 = fresh_entry n p false in
      let q0 : QueueState = headed next ports (suc n) left e0 in
      let q1 : QueueState = headed next ports (suc n) left (with_addr v e0) in
      let q2 : QueueState = headed next ports (suc n) left (executed x (with_addr v e0)) in
      let q3 : QueueState = headed next ports (suc n) left (answered (executed x (with_addr v e0))) in
      let q4 : QueueState = after_first next ports (suc n) left in
      let same = set-get_or a.arrays b [] in
      let late : ℕ = a.strays + past cells v in
      let h0 = shows_queue net scalars s m a h u (holding q0) (own ∙ order.first_of_left ports n p left Load port) in
      let g1 = next_act net scalars u b depth ports groups is a.own s m q0 a.arrays a.strays h0 (Addr p) ((length groups + 1 + 2 * p) ∷ []) None q1 cells 0 (r ∷ []) a.arrays a.strays
      (order.gets_addr depth ports groups next n p left cells (head_at net s u) false v (head_is net scalars s m a h u (length groups + 1 + 2 * p) v r wr ev)) same (omega arith) (wr, (v, ev), tt) tt in
      let m1 : Marks = popped r m in
      let g2 = next_act net scalars u b depth ports groups is a.own g1.to m1 q1 a.arrays a.strays g1.shows (Exec n) [] None q2 cells (past cells v) [] a.arrays late
      (order.load_executes depth ports groups next n p left cells (head_at net g1.to u) v) same (omega arith) tt tt in
      let g3 = next_act net scalars u b depth ports groups is a.own g2.to m1 q2 a.arrays late g2.shows (Reply p) [] (put_at (length groups + 1 + p) x) q3 cells 0 [] a.arrays late
      (order.load_replies depth ports groups next n p left cells (head_at net g2.to u) v x) same (omega arith) tt ((t, wt), popped_none r (at u (length groups + 1 + p)) m eo) in
      let m3 : Marks = pushed (at u (length groups + 1 + p)) x m1 in
      let g4 = next_act net scalars u b depth ports groups is a.own g3.to m3 q3 a.arrays late g3.shows Retire [] None q4 cells 0 [] a.arrays late
      (order.load_retires depth ports groups next n p left cells (head_at net g3.to u) v x) same (omega arith) tt tt in
      goes_as net scalars s (firing u (Addr p) ∷ firing u (Exec n) ∷ firing u (Reply p) ∷ firing u Retire ∷ []) m3 m3 _ (record { own = own_set u (awaits ports (suc n) left) a.own; arrays = a.arrays; strays = late })
      (goes_on net scalars s (firing u (Addr p) ∷ []) (firing u (Exec n) ∷ firing u (Reply p) ∷ firing u Retire ∷ []) _ _ _ _ g1
      (goes_on net scalars g1.to (firing u (Exec n) ∷ []) (firing u (Reply p) ∷ firing u Retire ∷ []) _ _ _ _ g2
      (goes_on net scalars g2.to (firing u (Reply p) ∷ []) (firing u Retire ∷ []) _ _ _ _ g3 g4)))
      (λ y. refl) (λ w. ap (λ y. own_set u y a.own w) (order.first_gone ports n p left)) refl (omega arith)

  -- a store, whose port waits first: its address and its value are taken, and written; nothing is written past the array
  pub store_goes : (n p : ℕ) (left : List ℕ) (v x : ℕ) (r t : Place) → a.own u ≡ awaits ports n (p ∷ left) → slice_get ports p ≡ Some Store
      → Wired net r (at u (length groups + 1 + 2 * p)) → Wired net t (at u (length groups + 2 + 2 * p)) → m r ≡ v ∷ [] → m t ≡ x ∷ [] → is_at t r.unit r.place ≡ false
      → Goes net scalars s (firing u (Addr p) ∷ firing u (Data p) ∷ firing u (Exec n) ∷ firing u Retire ∷ []) (popped t (popped r m))
      (record { own = own_set u (awaits ports (suc n) left) a.own; arrays = set a.arrays b (set (get_or a.arrays b []) v x); strays = a.strays + past (get_or a.arrays b []) v })
  store_goes n p left v x r t own port wr wt ev ex ne =
      let cells : List ℕ = get_or a.arrays b [] in
      let next : ℕ = n + length (p ∷ left) in
      let e0 = fresh_entry n p true in
      let e2 = with_data x (with_addr v e0) in
      let q0 : QueueState = headed next ports (suc n) left e0 in
      let q1 : QueueState = headed next ports (suc n) left (with_addr v e0) in
      let q2 : QueueState = headed next ports (suc n) left e2 in
      let q3 : QueueState = headed next ports (suc n) left (executed 0 e2) in
      let q4 : QueueState = after_first next ports (suc n) left in
      let same = set-get_or a.arrays b [] in
      let arrays' : List (List ℕ) = set a.arrays b (set cells v x) in
      let late : ℕ = a.strays + past cells v in
      let h0 = shows_queue net scalars s m a h u (holding q0) (own ∙ order.first_of_left ports n p left Store port) in
      let g1 = next_act net scalars u b depth ports groups is a.own s m q0 a.arrays a.strays h0 (Addr p) ((length groups + 1 + 2 * p) ∷ []) None q1 cells 0 (r ∷ []) a.arrays a.strays
      (order.gets_addr depth ports groups next n p left cells (head_at net s u) true v (head_is net scalars s m a h u (length groups + 1 + 2 * p) v r wr ev)) same (omega arith) (wr, (v, ev), tt) tt in
      let m1 : Marks = popped r m in
      let ex1 : m1 t ≡ x ∷ [] = rw ne ex in
      let g2 = next_act net scalars u b depth ports groups is a.own g1.to m1 q1 a.arrays a.strays g1.shows (Data p) ((length groups + 2 + 2 * p) ∷ []) None q2 cells 0 (t ∷ []) a.arrays a.strays
      (order.gets_data depth ports groups next n p left cells (head_at net g1.to u) v x (head_is net scalars g1.to m1 _ g1.shows u (length groups + 2 + 2 * p) x t wt ex1)) same (omega arith) (wt, (x, ex1), tt) tt in
      let m2 : Marks = popped t m1 in
      let g3 = next_act net scalars u b depth ports groups is a.own g2.to m2 q2 a.arrays a.strays g2.shows (Exec n) [] None q3 (set cells v x) (past cells v) [] arrays' late
      (order.store_executes depth ports groups next n p left cells (head_at net g2.to u) v x) refl (omega arith) tt tt in
      let g4 = next_act net scalars u b depth ports groups is a.own g3.to m2 q3 arrays' late g3.shows Retire [] None q4 (get_or arrays' b []) 0 [] arrays' late
      (order.store_retires depth ports groups next n p left (get_or arrays' b []) (head_at net g3.to u) v x) (set-get_or arrays' b []) (omega arith) tt tt in
      goes_as net scalars s (firing u (Addr p) ∷ firing u (Data p) ∷ firing u (Exec n) ∷ firing u Retire ∷ []) m2 m2 _ (record { own = own_set u (awaits ports (suc n) left) a.own; arrays = arrays'; strays = late })
      (goes_on net scalars s (firing u (Addr p) ∷ []) (firing u (Data p) ∷ firing u (Exec n) ∷ firing u Retire ∷ []) _ _ _ _ g1
      (goes_on net scalars g1.to (firing u (Data p) ∷ []) (firing u (Exec n) ∷ firing u Retire ∷ []) _ _ _ _ g2
      (goes_on net scalars g2.to (firing u (Exec n) ∷ []) (firing u Retire ∷ []) _ _ _ _ g3 g4)))
      (λ y. refl) (λ w. ap (λ y. own_set u y a.own w) (order.first_gone ports n p left)) refl (omega arith)
