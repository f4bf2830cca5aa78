-- When a worker may make a firing, by the state and the ends that it holds.
use Rattle.std.proofs.Common.{◌≡◌, ◌⊎◌, inl, inr, ℕ, ◌<◌, ◌≤◌, Bool, true, false, cond, Option, Some, None, is_some, IsSomeAnd, List, [], ◌∷◌, ◌++◌, length, get_or, refl, ap, ◌∙◌, sym, subst, arith}
use mathlib.Core.Path.{fun_ext}
use Rattle.std.specs.List.{AllByRecursion}
use Rattle.std.proofs.lemmas.Bool.{cases_lt, cases_eq}
use Rattle.std.proofs.lemmas.List.{get_or_past}
use Rattle.elastic_link.specs.declared.message.Token.{Token}
use Rattle.elastic_link.specs.declared.take_end.TakeEnd.{TakeEnd}
use Rattle.elastic_link.specs.Held.{tokens_of}
use Rattle.elastic_link.specs.Ends.{token_held}
use Rattle.net_types.specs.declared.net.Net.{Net}
use Rattle.net_types.specs.declared.firing.Firing.{Firing}
use Rattle.net_types.specs.Nets.{into, out_of, chan_at, kind_of, uses}
use Rattle.net_core.specs.declared.plan.Put.{Put}
use Rattle.net_core.specs.Fire.{State, Effect, Row, Stop, Look, Take, Fires, effect_of, with_head, taking, row, effect, idle, at_array, setting, first, tokens_at, head_at, takes_from, puts_on, taken, added}
use Rattle.net_core.specs.States.{state_of}
use Rattle.net_core.specs.Uses.{used_by, then_used, used}
use Rattle.net_core.proofs.RowLemmas.{Has}
use Rattle.net_core.proofs.ApartLemmas.{is_at-inv, into-at, first_within}
use Rattle.net_worker.specs.Stamped.{Stamped, stamps_at, after_at}
use Rattle.net_worker.specs.Plays.{putter, taker, HasRoomIn, MayIn, Plays}
use Rattle.net_worker.specs.Merge.{IsPaired, Measures}
use Rattle.net_worker.specs.Local.{stamps_of, fed_opening}
use Rattle.net_worker.specs.Steps.{last_stamp}
use Rattle.net_worker.specs.Mays.{IsEarlyAt, MayBeMade, WorkerMay}
use Rattle.net_worker.specs.Workers.{owner_in, IsMadeOf, take_end, held_by, shown}
use Rattle.firing_log.specs.declared.entry.Entry.{Entry}
use Rattle.net_worker.specs.declared.tables.Tables.{Tables}
use Rattle.net_worker.specs.declared.worker.Worker.{Worker}
use Rattle.net_worker.proofs.Moves.{stamps_after}
use Rattle.net_worker.proofs.Steps.{effect_in, after_is, stamps_long, paired_after}
use Rattle.net_worker.proofs.Opening.{fed_measures, fed_stamps_long, fed_paired, fed_stamps}
use Rattle.net_worker.proofs.Locals.{plays_measures}

-- ---- used heads are there

under : (P : ℕ → Type 0) (o : Option ℕ) (k : ℕ → Option Effect) (l : ℕ → List ℕ) (e : Effect) → with_head o k ≡ Some e → ((v : ℕ) → o ≡ Some v → k v ≡ Some e → AllByRecursion P (l v)) → AllByRecursion P (then_used o l)
under P None k l e q rest = cc
under P (Some v) k l e q rest = rest v refl q

there : (o : Option ℕ) (k : ℕ → Option Effect) (e : Effect) → with_head o k ≡ Some e → (v : ℕ) × (o ≡ Some v)
there None k e q = cc
there (Some v) k e q = (v, refl)

untaken : (p : ℕ) (o : Option Effect) (e : Effect) → taking p o ≡ Some e → (x : Effect) × (o ≡ Some x)
untaken p None e q = cc
untaken p (Some x) e q = (x, refl)

pub used_there : (r : Row) (h : ℕ → Option ℕ) (e : Effect) → effect_of r h ≡ Some e → AllByRecursion (Has h) (used_by r h)
used_there Stop h e q = cc
used_there (Look p rest) h e q =
    (there (h p) (λ v. effect_of (rest v) h) e q, under (Has h) (h p) (λ v. effect_of (rest v) h) (λ v. used_by (rest v) h) e q (λ v z k. used_there (rest v) h e k))
used_there (Take p rest) h e q =
    (there (h p) (λ v. taking p (effect_of (rest v) h)) e q, under (Has h) (h p) (λ v. taking p (effect_of (rest v) h)) (λ v. used_by (rest v) h) e q (λ v z k. (let y = untaken p (effect_of (rest v) h) e k in used_there (rest v) h y.0 y.1)))
used_there (Fires put own array strays) h e q = tt

pub all_both : (P Q R : ℕ → Type 0) (ps : List ℕ) → AllByRecursion P ps → AllByRecursion Q ps → ((p : ℕ) → P p → Q p → R p) → AllByRecursion R ps
all_both P Q R [] a b f = tt
all_both P Q R (p ∷ ps) a b f = (f p a.0 b.0, all_both P Q R ps a.1 b.1 f)

-- ---- stamps of a worker's states

pub plays_paired : (net : Net) (owner : ℕ → ℕ) (j clock n : ℕ) (s : Stamped) (es : List Entry) (t : Stamped) → Plays net owner j clock s es t → Measures net n s.state → length s.stamps ≡ length net.chans → IsPaired s → IsPaired t
plays_paired net owner j clock n s [] t p m l q = subst IsPaired p q
plays_paired net owner j clock n s (e ∷ es) t p m l q =
    let k = effect_in net owner j e.stamp s e.firing p.1 in
    let is = after_is net e.stamp s e.firing k.0 k.1 in
    plays_paired net owner j e.stamp n (after_at net e.stamp s e.firing) es t p.2
    (plays_measures net owner j clock n s (e ∷ []) (after_at net e.stamp s e.firing) (p.0, p.1, refl) m)
    (ap (λ (x : Stamped). length x.stamps) is ∙ (stamps_long net e.stamp e.firing.unit k.0 s ∙ l))
    (subst IsPaired (sym is) (paired_after net e.stamp e.firing.unit k.0 s m.tokens l q))

abbrev pub AllMost : ℕ → List ℕ → Type 0
AllMost n [] = Unit {0}
AllMost n (m ∷ ms) = (m ≤ n) × AllMost n ms

most_later : (n k : ℕ) (ms : List ℕ) → n ≤ k → AllMost n ms → AllMost k ms
most_later n k [] h a = tt
most_later n k (m ∷ ms) h a = (omega (arith, a.0), most_later n k ms h a.1)

most_snoc : (n k : ℕ) (ms : List ℕ) → k ≤ n → AllMost n ms → AllMost n (ms ++ k ∷ [])
most_snoc n k [] h a = (h, tt)
most_snoc n k (m ∷ ms) h a = (a.0, most_snoc n k ms h a.1)

most_moved : (n : ℕ) (b g : Bool) (ms : List ℕ) → AllMost n ms → AllMost n (added (cond b (Some n) None) (taken g ms))
most_moved n b g ms a = put b (take g ms a)
  where
    take : (g : Bool) (ms : List ℕ) → AllMost n ms → AllMost n (taken g ms)
    take true [] a = tt
    take true (m ∷ ms) a = a.1
    take false ms a = a

    put : (b : Bool) → AllMost n (taken g ms) → AllMost n (added (cond b (Some n) None) (taken g ms))
    put true a = most_snoc n n (taken g ms) (omega arith) a
    put false a = a

pub plays_most : (net : Net) (owner : ℕ → ℕ) (j clock c : ℕ) (s : Stamped) (es : List Entry) (t : Stamped) → Plays net owner j clock s es t → length s.stamps ≡ length net.chans → c < length net.chans
    → AllMost clock (stamps_at s c) → AllMost (last_stamp clock es) (stamps_at t c)
plays_most net owner j clock c s [] t p l b a = subst (λ (x : Stamped). AllMost clock (stamps_at x c)) p a
plays_most net owner j clock c s (e ∷ es) t p l b a =
    let k = effect_in net owner j e.stamp s e.firing p.1 in
    let is = after_is net e.stamp s e.firing k.0 k.1 in
    let within : c < length s.stamps = omega arith in
    let now : stamps_at (after_at net e.stamp s e.firing) c ≡ added (cond (is_some (puts_on net e.firing.unit k.0.put c)) (Some e.stamp) None) (taken (takes_from net e.firing.unit k.0 c) (stamps_at s c)) =
    ap (λ (x : Stamped). stamps_at x c) is ∙ stamps_after net e.stamp e.firing.unit k.0 s c within in
    plays_most net owner j e.stamp c (after_at net e.stamp s e.firing) es t p.2 (ap (λ (x : Stamped). length x.stamps) is ∙ (stamps_long net e.stamp e.firing.unit k.0 s ∙ l)) b
    (subst (AllMost e.stamp) (sym now) (most_moved e.stamp (is_some (puts_on net e.firing.unit k.0.put c)) (takes_from net e.firing.unit k.0 c) (stamps_at s c) (most_later clock e.stamp (stamps_at s c) (omega (arith, p.0)) a)))

pub first_most : (n : ℕ) (ms : List ℕ) (k : ℕ) → AllMost n ms → first ms ≡ Some k → k ≤ n
first_most n [] k a q = cc
first_most n (m ∷ ms) k a q = let z : m ≡ k = cc in omega (arith, a.0)

pub stamp_of : (xs ys : List ℕ) (x : ℕ) → length ys ≡ length xs → first xs ≡ Some x → (y : ℕ) × (first ys ≡ Some y)
stamp_of [] ys x h q = cc
stamp_of (z ∷ xs) [] x h q = absurd (omega arith)
stamp_of (z ∷ xs) (y ∷ ys) x h q = (y, refl)

pub held_once : (o : Option TakeEnd) (k : ℕ) → first (stamps_of (held_by o)) ≡ Some k → (x : Token) × (held_by o ≡ x ∷ []) × (x.stamp ≡ k)
held_once None k q = cc
held_once (Some e) k q = by (token_held e) q
  where
    by : (o : Option Token) → first (stamps_of (tokens_of o)) ≡ Some k → (x : Token) × (tokens_of o ≡ x ∷ []) × (x.stamp ≡ k)
    by None q = cc
    by (Some x) q = (x, refl, cc)

-- ---- a worker

module _ (t : Tables) (a : Worker) (m : IsMadeOf t a) where
  abbrev owner : ℕ → ℕ
  owner = owner_in t

  abbrev s : State
  s = state_of a.portion.state

  pub after_measures : Measures t.net.now (length t.inputs.arrays) m.after.state
  after_measures = plays_measures t.net.now owner a.number 0 (length t.inputs.arrays) (fed_opening t.net.now t.inputs (shown a m.after).handed) a.log.items m.after m.local.plays (fed_measures t.net.now t.inputs (shown a m.after).handed)

  pub after_paired : IsPaired m.after
  after_paired = plays_paired t.net.now owner a.number 0 (length t.inputs.arrays) (fed_opening t.net.now t.inputs (shown a m.after).handed) a.log.items m.after m.local.plays (fed_measures t.net.now t.inputs (shown a m.after).handed) (fed_stamps_long t.net.now t.inputs (shown a m.after).handed) (fed_paired t.net.now t.inputs (shown a m.after).handed)

  -- stamps between the worker's own units are not above the clock
  pub inner_most : (c k : ℕ) → c < length t.net.now.chans → putter t.net.now owner c ≡ taker t.net.now owner c → first (stamps_at m.after c) ≡ Some k → k ≤ a.clock
  inner_most c k l q is =
      let none : stamps_at (fed_opening t.net.now t.inputs (shown a m.after).handed) c ≡ [] = fed_stamps t.net.now t.inputs (shown a m.after).handed c l ∙ ap stamps_of (m.local.from_others c q) in
      let most = plays_most t.net.now owner a.number 0 c (fed_opening t.net.now t.inputs (shown a m.after).handed) a.log.items m.after m.local.plays (fed_stamps_long t.net.now t.inputs (shown a m.after).handed) l (subst (AllMost 0) (sym none) tt) in
      let r = first_most (last_stamp 0 a.log.items) (stamps_at m.after c) k most is in
      omega (arith, m.clock)

  pub heads_same : (u : ℕ) → owner u ≡ a.number → head_at t.net.now m.after.state u ≡ head_at t.net.now s u
  heads_same u mine = fun_ext (λ p. by p (cases_lt (into u p t.net.now.chans) (length t.net.now.chans)))
    where
      by : (p : ℕ) → (into u p t.net.now.chans < length t.net.now.chans) ⊎ (length t.net.now.chans ≤ into u p t.net.now.chans) → head_at t.net.now m.after.state u p ≡ head_at t.net.now s u p
      by p (inl l) =
          let at = (is_at-inv (chan_at t.net.now (into u p t.net.now.chans)).to u p (into-at u p t.net.now.chans l)).0 in
          ap first (m.sees.into (into u p t.net.now.chans) (ap owner at ∙ mine))
      by p (inr l) =
          ap first (get_or_past m.after.state.tokens (into u p t.net.now.chans) [] (omega (arith, after_measures.tokens)) ∙ sym (get_or_past s.tokens (into u p t.net.now.chans) [] (omega (arith, m.of.long))))

  pub row_same : (f : Firing) → owner f.unit ≡ a.number
      → row (kind_of t.net.now f.unit) f.act (get_or m.after.state.own f.unit idle) (at_array m.after.state.arrays (uses (kind_of t.net.now f.unit))) (setting t.net.now m.after.state)
      ≡ row (kind_of t.net.now f.unit) f.act (get_or s.own f.unit idle) (at_array s.arrays (uses (kind_of t.net.now f.unit))) (setting t.net.now s)
  row_same f mine =
      let o = m.sees.own f.unit mine in
      let x = m.sees.arrays f.unit mine in
      let g : setting t.net.now m.after.state ≡ setting t.net.now s = ap (λ l. record { scalars = l; valued = is_some t.net.now.result }) m.sees.scalars in
      cc

  module _ (f : Firing) (e : Effect) (n : ℕ) (v : MayBeMade t a f e n) where
    does : effect t.net.now m.after.state f ≡ Some e
    does = ap (λ r. effect_of r (head_at t.net.now m.after.state f.unit)) (row_same f v.mine) ∙ (ap (λ h. effect_of (row (kind_of t.net.now f.unit) f.act (get_or s.own f.unit idle) (at_array s.arrays (uses (kind_of t.net.now f.unit))) (setting t.net.now s)) h) (heads_same f.unit v.mine) ∙ v.does)

    pub uses_same : used t.net.now m.after.state f ≡ used t.net.now s f
    uses_same = ap (λ r. used_by r (head_at t.net.now m.after.state f.unit)) (row_same f v.mine) ∙ ap (λ h. used_by (row (kind_of t.net.now f.unit) f.act (get_or s.own f.unit idle) (at_array s.arrays (uses (kind_of t.net.now f.unit))) (setting t.net.now s)) h) (heads_same f.unit v.mine)

    abbrev Above : ℕ → Type 0
    Above p = IsSomeAnd (first (stamps_at m.after (into f.unit p t.net.now.chans))) (λ k. k < n)

    above : (p : ℕ) → Has (head_at t.net.now s f.unit) p → IsEarlyAt t a f.unit n p → Above p
    above p h early = finish (below (cases_eq (putter t.net.now owner c) a.number))
      where
        c : ℕ
        c = into f.unit p t.net.now.chans

        within : c < length t.net.now.chans
        within = let k = first_within s.tokens c h.0 h.1 in omega (arith, m.of.long)

        to : taker t.net.now owner c ≡ a.number
        to = ap owner (is_at-inv (chan_at t.net.now c).to f.unit p (into-at f.unit p t.net.now.chans within)).0 ∙ v.mine

        token : first (tokens_at m.after.state c) ≡ Some h.0
        token = ap first (m.sees.into c to) ∙ h.1

        stamp : (y : ℕ) × (first (stamps_at m.after c) ≡ Some y)
        stamp = stamp_of (tokens_at m.after.state c) (stamps_at m.after c) h.0 (after_paired c) token

        below : (putter t.net.now owner c ≡ a.number) ⊎ (putter t.net.now owner c ≡ a.number → ⊥) → stamp.0 < n
        below (inl q) = let k = inner_most c stamp.0 within (q ∙ sym to) stamp.1 in omega (arith, v.later)
        below (inr q) =
            let x = held_once (take_end a c) stamp.0 (ap first (sym (m.held_stamps c (within, to, q))) ∙ stamp.1) in
            omega (arith, early x.0 (within, to, q) x.1, x.2)

        finish : stamp.0 < n → Above p
        finish l = subst (λ o. IsSomeAnd o (λ k. k < n)) (sym stamp.1) l

    room : (o : Option Put) → HasRoomIn t.net.now owner a.number s f.unit o → HasRoomIn t.net.now owner a.number m.after.state f.unit o
    room None h = tt
    room (Some w) h = (h.0, λ q. (let k : length (tokens_at m.after.state (out_of f.unit w.place t.net.now.chans)) ≡ length (tokens_at s (out_of f.unit w.place t.net.now.chans)) = ap length (m.sees.into (out_of f.unit w.place t.net.now.chans) q) in let r = h.1 q in omega arith))

    may : MayIn t.net.now owner a.number n m.after f
    may = record {
      mine = v.mine;
      turn = subst (λ o. IsSomeAnd o (λ e. HasRoomIn t.net.now owner a.number m.after.state f.unit e.put)) (sym does) (room e.put v.room);
      above = subst (AllByRecursion Above) (sym uses_same)
          (all_both (Has (head_at t.net.now s f.unit)) (IsEarlyAt t a f.unit n) Above (used t.net.now s f)
          (used_there (row (kind_of t.net.now f.unit) f.act (get_or s.own f.unit idle) (at_array s.arrays (uses (kind_of t.net.now f.unit))) (setting t.net.now s)) (head_at t.net.now s f.unit) e v.does) v.early above);
    }

pub worker_may : WorkerMay
worker_may t a m f e n v = (does t a m f e n v, may t a m f e n v)
