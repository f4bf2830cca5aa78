-- The acts of units, by their ranks and numbers.
use Rattle.std.proofs.Common.{is_some, suc, zero, cond, eqb-true, ◌≡◌, ◌≢◌, ℕ, ◌<◌, ◌≤◌, ◌⊎◌, inl, inr, Bool, true, false, Option, Some, None, List, [], length, get_or, refl, sym, ap, ◌∙◌, arith, nat_le, nat_lt, min, max, eqb, ltb-true, MatchOption}
use Rattle.std.proofs.lemmas.Bool.{cases_lt, and_parts, le-leb, lt-leb, eq-eqb, false≢true}
use Rattle.net_types.specs.declared.net.Net.{Net}
use Rattle.net_types.specs.declared.net.Unit.{Unit as Kind}
use Rattle.net_types.specs.declared.net.Unit.TheVariants.{Entry, Param, Fork, Cmerge, Lsq, Exit}
use Rattle.net_types.specs.declared.firing.Act.{Act}
use Rattle.net_types.specs.declared.firing.Act.TheVariants.{Go, From, Send, Alloc, Addr, Data, Exec, Reply, Retire, End}
use Rattle.net_types.specs.declared.firing.Firing.{Firing}
use Rattle.net_types.specs.Nets.{kind_of, firing, uses}
use Rattle.net_types.specs.Order.{act_rank, act_number}
use Rattle.net_check.specs.Checks.{IsChecked}
use Rattle.net_check.specs.Ends.{is_lsq}
use Rattle.std.specs.List.{find}
use Rattle.lsq_core.specs.Acts.{can, wants_addr, wants_data, wants_reply}
use Rattle.lsq_core.specs.Views.{QueueView}
use Rattle.lsq_core.specs.Wants.{HasNoPort, IsNextPort, HasNoAddr, IsNextAddr, HasNoData, IsNextData, HasNoReply, IsNextReply, replies}
use Rattle.lsq_core.proofs.PortLemmas.{done_some}
use Rattle.net_core.specs.Fire.{State, Own, Row, Take, Setting, Effect, with_head, taking, on_go, fork_row, effect_of, idle, effect, enabled, head_at, at_array, row, go_row, setting}
use Rattle.net_core.proofs.GoesLemmas.{goes}
use Rattle.net_core.proofs.ForkLemmas.{fork_is, send_inv}
use Rattle.net_core.proofs.ActLemmas.{merge_inv, from_kind, alloc_kind}
use Rattle.net_core.proofs.QueueActLemmas.{queue_inv, lsq_is, group_within}
use Rattle.lsq_core.specs.Laws.{act_place}
use Rattle.cycle_engine.proofs.UsedLemmas.{found_port}
use Rattle.cycle_engine.specs.private.Places.{HasView, HasNoneFrom, IsNextNumber, IsNoted, IsViewOf, TakesControl, takes_at, count_in, inputs_in, outputs_in, first_of}
use Rattle.cycle_engine.specs.private.Control.{groups_in, noted_place, place_from, end_from, ports_in}
use Rattle.cycle_engine.specs.private.Marking.{asks_first, IsStarved}
use Rattle.net_core.proofs.PlanUses.{fork_act}
use Rattle.cycle_engine.proofs.OwnLemmas.{on_go_is}

-- ---- numbers of acts

send_kind : (k : Kind) (j : ℕ) (o : Own) (xs : List ℕ) (ss : Setting) (h : ℕ → Option ℕ) (e : Effect) → effect_of (row k (Send j) o xs ss) h ≡ Some e → (w : ℕ) × (n : ℕ) × (k ≡ Fork w n)
unfolding row
send_kind (Fork w n) j o xs ss h e q = (w, n, refl)
send_kind _ j o xs ss h e q = cc

addr_kind : (k : Kind) (j : ℕ) (o : Own) (xs : List ℕ) (ss : Setting) (h : ℕ → Option ℕ) (e : Effect) → effect_of (row k (Addr j) o xs ss) h ≡ Some e → is_lsq k ≡ true
unfolding row
addr_kind (Lsq a d ps gs fw) j o xs ss h e q = refl
addr_kind _ j o xs ss h e q = cc

data_kind : (k : Kind) (j : ℕ) (o : Own) (xs : List ℕ) (ss : Setting) (h : ℕ → Option ℕ) (e : Effect) → effect_of (row k (Data j) o xs ss) h ≡ Some e → is_lsq k ≡ true
unfolding row
data_kind (Lsq a d ps gs fw) j o xs ss h e q = refl
data_kind _ j o xs ss h e q = cc

reply_kind : (k : Kind) (j : ℕ) (o : Own) (xs : List ℕ) (ss : Setting) (h : ℕ → Option ℕ) (e : Effect) → effect_of (row k (Reply j) o xs ss) h ≡ Some e → is_lsq k ≡ true
unfolding row
reply_kind (Lsq a d ps gs fw) j o xs ss h e q = refl
reply_kind _ j o xs ss h e q = cc

module _ (net : Net) (s : State) (u : ℕ) where
  from_below : (j : ℕ) → enabled net s (firing u (From j)) → j < inputs_in (kind_of net u)
  from_below j n =
      let g = goes net s (firing u (From j)) n in
      let k = from_kind (kind_of net u) j (get_or s.own u idle) (at_array s.arrays (uses (kind_of net u))) (setting net s) (head_at net s u) g.0 g.1.is in
      let m = merge_inv net s u k.0 (From j) k.1 g.0 g.1.is in
      let e : j ≡ m.0 = (let q : From j ≡ From m.0 = m.1 in cc) in
      let l = m.2 in
      let h : inputs_in (kind_of net u) ≡ k.0 = ap inputs_in k.1 in
      omega arith

  send_below : (j : ℕ) → enabled net s (firing u (Send j)) → j < outputs_in (kind_of net u)
  send_below j n =
      let g = goes net s (firing u (Send j)) n in
      let k = send_kind (kind_of net u) j (get_or s.own u idle) (at_array s.arrays (uses (kind_of net u))) (setting net s) (head_at net s u) g.0 g.1.is in
      let i = send_inv k.1 j (get_or s.own u idle) [] (head_at net s u) g.0 (sym (fork_is net s u k.0 k.1 k.2 s j) ∙ g.1.is) in
      let l : j < k.1 = ltb-true _ _ (and_parts (nat_lt j k.1) _ i.0).0 in
      let h : outputs_in (kind_of net u) ≡ k.1 = ap outputs_in k.2 in
      omega arith

  alloc_below : (j : ℕ) → enabled net s (firing u (Alloc j)) → j < groups_in (kind_of net u)
  alloc_below j n =
      let g = goes net s (firing u (Alloc j)) n in
      let k = alloc_kind (kind_of net u) j (get_or s.own u idle) (at_array s.arrays (uses (kind_of net u))) (setting net s) (head_at net s u) g.0 g.1.is in
      let i = queue_inv k.depth k.ports k.groups (Alloc j) (get_or s.own u idle) (get_or s.arrays k.array []) (head_at net s u) g.0 (sym (lsq_is net u k.array k.depth k.ports k.groups k.mark k.is s (Alloc j)) ∙ g.1.is) in
      let l : j < length k.groups = group_within k.depth k.groups (get_or s.own u idle).queue j i.1 in
      let h : groups_in (kind_of net u) ≡ length k.groups = ap groups_in k.is in
      omega arith

  port_below : (j : ℕ) (v : HasView net s u) → j < length v.view.ports → j < ports_in (kind_of net u)
  port_below j v l = (let h : ports_in (kind_of net u) ≡ length v.view.ports = ap ports_in v.shape in omega arith)

  can_of : (b : Act) (v : HasView net s u) → enabled net s (firing u b) → can v.view.depth v.view.groups v.view.queue b ≡ true
  can_of b v n =
      let g = goes net s (firing u b) n in
      let i = queue_inv v.view.depth v.view.ports v.view.groups b (get_or s.own u idle) (get_or s.arrays v.array []) (head_at net s u) g.0 (sym (lsq_is net u v.array v.view.depth v.view.ports v.view.groups v.view.queue.forward v.shape s b) ∙ g.1.is) in
      ap (λ z. can v.view.depth v.view.groups z b) v.state ∙ i.1

  addr_below : (j : ℕ) → (is_lsq (kind_of net u) ≡ true → HasView net s u) → enabled net s (firing u (Addr j)) → j < ports_in (kind_of net u)
  addr_below j view n =
      let g = goes net s (firing u (Addr j)) n in
      let v = view (addr_kind (kind_of net u) j (get_or s.own u idle) (at_array s.arrays (uses (kind_of net u))) (setting net s) (head_at net s u) g.0 g.1.is) in
      let f : is_some (find (wants_addr j) v.view.queue.items) ≡ true = (can_of (Addr j) v n) in
      port_below j v (found_port (wants_addr j) v.view.queue.items j (length v.view.ports) v.ports (λ x h. eqb-true _ _ (and_parts _ _ h).0) f)

  data_below : (j : ℕ) → (is_lsq (kind_of net u) ≡ true → HasView net s u) → enabled net s (firing u (Data j)) → j < ports_in (kind_of net u)
  data_below j view n =
      let g = goes net s (firing u (Data j)) n in
      let v = view (data_kind (kind_of net u) j (get_or s.own u idle) (at_array s.arrays (uses (kind_of net u))) (setting net s) (head_at net s u) g.0 g.1.is) in
      let f : is_some (find (wants_data j) v.view.queue.items) ≡ true = (can_of (Data j) v n) in
      port_below j v (found_port (wants_data j) v.view.queue.items j (length v.view.ports) v.ports (λ x h. eqb-true _ _ (and_parts _ _ h).0) f)

  reply_below : (j : ℕ) → (is_lsq (kind_of net u) ≡ true → HasView net s u) → enabled net s (firing u (Reply j)) → j < ports_in (kind_of net u)
  reply_below j view n =
      let g = goes net s (firing u (Reply j)) n in
      let v = view (reply_kind (kind_of net u) j (get_or s.own u idle) (at_array s.arrays (uses (kind_of net u))) (setting net s) (head_at net s u) g.0 g.1.is) in
      let f : is_some (find (wants_reply j) v.view.queue.items) ≡ true = done_some (find (wants_reply j) v.view.queue.items) (can_of (Reply j) v n) in
      port_below j v (found_port (wants_reply j) v.view.queue.items j (length v.view.ports) v.ports (λ x h. eqb-true _ _ (and_parts _ _ h).0) f)

-- ---- acts by their ranks and numbers

abbrev pub act_by : ℕ → ℕ → Act
act_by zero j = Go
act_by (suc zero) j = From j
act_by (suc (suc zero)) j = Send j
act_by (suc (suc (suc zero))) j = Alloc j
act_by (suc (suc (suc (suc zero)))) j = Addr j
act_by (suc (suc (suc (suc (suc zero))))) j = Data j
act_by (suc (suc (suc (suc (suc (suc zero)))))) j = Exec j
act_by (suc (suc (suc (suc (suc (suc (suc zero))))))) j = Reply j
act_by (suc (suc (suc (suc (suc (suc (suc (suc zero)))))))) j = Retire
act_by (suc (suc (suc (suc (suc (suc (suc (suc (suc n))))))))) j = End

act_back : (b : Act) → b ≡ act_by (act_rank b) (act_number b)
act_back Go = refl
act_back _ = refl

-- an act of a rank is that of its number
pub act_is : (r : ℕ) (b : Act) → act_rank b ≡ r → b ≡ act_by r (act_number b)
act_is r b e = act_back b ∙ ap (λ n. act_by n (act_number b)) e

pub same_act : (a b : Act) → act_rank a ≡ act_rank b → act_number a ≡ act_number b → a ≡ b
same_act a b r n = act_back a ∙ (ap (λ x. act_by x (act_number a)) r ∙ (ap (act_by (act_rank b)) n ∙ sym (act_back b)))

pub go_is : (b : Act) → act_rank b ≡ 0 → act_place b ≡ Go
go_is b e = ap act_place (act_is 0 b e)

pub exec_is : (b : Act) → act_rank b ≡ 6 → b ≡ Exec (act_number b)
exec_is b e = act_is 6 b e

pub place_rank : (a : Act) → act_rank (act_place a) ≡ act_rank a
place_rank Go = refl
place_rank _ = refl

pub place_fixed : (a : Act) → act_rank a ≢ 6 → act_place a ≡ a
place_fixed (Exec j) n = absurd (n refl)
place_fixed _ n = refl

pub end_is : (b : Act) → act_rank b ≡ 9 → act_place b ≡ End
end_is b e = ap act_place (act_is 9 b e)

-- ---- how many acts there are of a kind

-- the acts that are enabled have the first numbers
pub numbers_below : (net : Net) (s : State) (u : ℕ) (kind b : Act) → (is_lsq (kind_of net u) ≡ true → HasView net s u) → act_rank b ≡ act_rank kind → enabled net s (firing u b) → act_number (act_place b) < count_in (kind_of net u) kind
numbers_below net s u kind b view r n = by b r n
  where
    kind_is : (x : ℕ) → act_rank kind ≡ x → count_in (kind_of net u) kind ≡ count_in (kind_of net u) (act_by x (act_number kind))
    kind_is x e = ap (count_in (kind_of net u)) (act_is x kind e)

    by : (b : Act) → act_rank b ≡ act_rank kind → enabled net s (firing u b) → act_number (act_place b) < count_in (kind_of net u) kind
    by Go r n = let k = kind_is 0 (sym r) in omega arith
    by (From j) r n = let k = kind_is 1 (sym r) in let l = from_below net s u j n in omega arith
    by (Send j) r n = let k = kind_is 2 (sym r) in let l = send_below net s u j n in omega arith
    by (Alloc j) r n = let k = kind_is 3 (sym r) in let l = alloc_below net s u j n in omega arith
    by (Addr j) r n = let k = kind_is 4 (sym r) in let l = addr_below net s u j view n in omega arith
    by (Data j) r n = let k = kind_is 5 (sym r) in let l = data_below net s u j view n in omega arith
    by (Exec j) r n = let k = kind_is 6 (sym r) in omega arith
    by (Reply j) r n = let k = kind_is 7 (sym r) in let l = reply_below net s u j view n in omega arith
    by Retire r n = let k = kind_is 8 (sym r) in omega arith
    by End r n = let k = kind_is 9 (sym r) in omega arith

first_kind : (k : Kind) (b : Act) (o : Own) (xs : List ℕ) (ss : Setting) (h : ℕ → Option ℕ) (e : Effect) → is_lsq k ≡ false → effect_of (row k b o xs ss) h ≡ Some e → act_rank b ≡ act_rank (first_of k)
unfolding row
first_kind (Lsq a d ps gs fw) b o xs ss h e l q = cc
first_kind (Fork w outs) b o xs ss h e l q = ap act_rank (fork_act outs b o xs h e q).1
first_kind (Cmerge ins) (From j) o xs ss h e l q = refl
first_kind (Cmerge ins) b o xs ss h e l q = cc
first_kind k b o xs ss h e l q = ap act_rank (on_go_is b (go_row k o xs ss) h e q)

-- a unit that is no queue has acts of one kind
pub first_rank : (net : Net) (s : State) (u : ℕ) (b : Act) → is_lsq (kind_of net u) ≡ false → enabled net s (firing u b) → act_rank b ≡ act_rank (first_of (kind_of net u))
first_rank net s u b l n =
    let g = goes net s (firing u b) n in
    first_kind (kind_of net u) b (get_or s.own u idle) (at_array s.arrays (uses (kind_of net u))) (setting net s) (head_at net s u) g.0 l g.1.is

queue_kind : (k : Kind) (b : Act) (o : Own) (xs : List ℕ) (ss : Setting) (h : ℕ → Option ℕ) (e : Effect) → is_lsq k ≡ true → effect_of (row k b o xs ss) h ≡ Some e → 3 ≤ act_rank b
unfolding row
queue_kind (Lsq a d ps gs fw) Go o xs ss h e l q = cc
queue_kind (Lsq a d ps gs fw) (From j) o xs ss h e l q = cc
queue_kind (Lsq a d ps gs fw) (Send j) o xs ss h e l q = cc
queue_kind (Lsq a d ps gs fw) (Alloc j) o xs ss h e l q = omega arith
queue_kind (Lsq a d ps gs fw) (Addr j) o xs ss h e l q = omega arith
queue_kind (Lsq a d ps gs fw) (Data j) o xs ss h e l q = omega arith
queue_kind (Lsq a d ps gs fw) (Exec j) o xs ss h e l q = omega arith
queue_kind (Lsq a d ps gs fw) (Reply j) o xs ss h e l q = omega arith
queue_kind (Lsq a d ps gs fw) Retire o xs ss h e l q = omega arith
queue_kind (Lsq a d ps gs fw) End o xs ss h e l q = omega arith
queue_kind k b o xs ss h e l q = cc

-- the acts of a queue come from the third kind on
pub queue_rank : (net : Net) (s : State) (u : ℕ) (b : Act) → is_lsq (kind_of net u) ≡ true → enabled net s (firing u b) → 3 ≤ act_rank b
queue_rank net s u b l n =
    let g = goes net s (firing u b) n in
    queue_kind (kind_of net u) b (get_or s.own u idle) (at_array s.arrays (uses (kind_of net u))) (setting net s) (head_at net s u) g.0 l g.1.is

pub fires_within : (net : Net) (s : State) (f : Firing) → IsChecked net → length s.tokens ≡ length net.chans → enabled net s f → f.unit < length net.units
fires_within net s f checked long n = by (cases_lt f.unit (length net.units))
  where
    by : (f.unit < length net.units) ⊎ (length net.units ≤ f.unit) → f.unit < length net.units
    by (inl l) = l
    by (inr l) = absurd (Rattle.net_core.proofs.FindLemmas.past_quiet net s f checked long l n)

pub rank_most : (a : Act) → act_rank a ≤ 9
rank_most Go = omega arith
rank_most _ = omega arith

-- ---- units that want a token

none_head : (o : Option ℕ) (k : ℕ → Option Effect) (e : Effect) → o ≡ None → with_head o k ≡ Some e → ⊥
none_head None k e n q = cc
none_head (Some v) k e n q = cc

go_asks : (a : Act) (next : ℕ → Row) (h : ℕ → Option ℕ) (e : Effect) → h 0 ≡ None → effect_of (on_go a (Take 0 next)) h ≡ Some e → ⊥
go_asks Go next h e n q = none_head (h 0) (λ v. taking 0 (effect_of (next v) h)) e n q
go_asks _ next h e n q = cc

fork_asks : (outs : ℕ) (a : Act) (o : Own) (xs : List ℕ) (h : ℕ → Option ℕ) (e : Effect) → h 0 ≡ None → effect_of (fork_row outs a o xs) h ≡ Some e → ⊥
fork_asks outs a o xs h e n q =
    let fa = fork_act outs a o xs h e q in
    let i = send_inv outs fa.0 o xs h e fa.2 in
    let z : None ≡ Some i.1 = sym n ∙ i.2 in cc

asks : (k : Kind) (a : Act) (o : Own) (xs : List ℕ) (ss : Setting) (h : ℕ → Option ℕ) (e : Effect) → asks_first k ≡ true → h 0 ≡ None → effect_of (row k a o xs ss) h ≡ Some e → ⊥
unfolding row
asks Entry a o xs ss h e t n q = cc
asks (Param j) a o xs ss h e t n q = cc
asks (Cmerge ins) a o xs ss h e t n q = cc
asks (Lsq x d ps gs fw) a o xs ss h e t n q = cc
asks Exit a o xs ss h e t n q = cc
asks (Fork w outs) a o xs ss h e t n q = fork_asks outs a o xs h e n q
asks _ a o xs ss h e t n q = go_asks a _ h e n q

-- a unit that wants a token does nothing
pub starved_none : (net : Net) (s : State) (u : ℕ) (a : Act) (e : Effect) → IsStarved net s u → effect net s (firing u a) ≡ Some e → ⊥
starved_none net s u a e h is = asks (kind_of net u) a (get_or s.own u idle) (at_array s.arrays (uses (kind_of net u))) (setting net s) (head_at net s u) e h.0 h.1 is

-- so it does not fire
pub starved_quiet : (net : Net) (s : State) (u : ℕ) (a : Act) → IsStarved net s u → enabled net s (firing u a) → ⊥
starved_quiet net s u a h n =
    let g = goes net s (firing u a) n in
    starved_none net s u a g.0 h g.1.is

-- ---- ports at which a queue does not allow an act

plain_low : (k : Kind) → is_lsq k ≡ false → act_rank (first_of k) ≤ 2
plain_low (Lsq a d ps gs f) l = cc
plain_low _ l = omega arith

-- a unit that is no queue has no acts of ports
pub no_ports : (net : Net) (s : State) (u : ℕ) (kind : Act) (from : ℕ) → is_lsq (kind_of net u) ≡ false → 4 ≤ act_rank kind → HasNoneFrom net s u kind from
no_ports net s u kind from l m b r f n = let e = first_rank net s u b l n in let low = plain_low (kind_of net u) l in absurd (omega arith)

module _ (net : Net) (s : State) (u : ℕ) (q : QueueView) (v : IsViewOf net s u q) (kind : Act) (act : ℕ → Act) (test : ℕ → Bool)
    (is : (b : Act) → act_rank b ≡ act_rank kind → b ≡ act (act_number b)) (number : (n : ℕ) → act_number (act_place (act n)) ≡ n) (allowed : (n : ℕ) → can q.depth q.groups q.queue (act n) ≡ test n) where
  passes : (b : Act) → act_rank b ≡ act_rank kind → enabled net s (firing u b) → test (act_number (act_place b)) ≡ true
  passes b r n =
      let e = is b r in
      let m : act_number (act_place b) ≡ act_number b = ap (λ x. act_number (act_place x)) e ∙ number (act_number b) in
      let c : can q.depth q.groups q.queue b ≡ true = ap (λ (x : QueueView). can x.depth x.groups x.queue b) (sym v.1) ∙ can_of net s u b v.0 n in
      ap test m ∙ (sym (allowed (act_number b)) ∙ (ap (can q.depth q.groups q.queue) (sym e) ∙ c))

  pub none_at_ports : (from : ℕ) → HasNoPort test from → HasNoneFrom net s u kind from
  none_at_ports from none b r f n = false≢true (sym (none (act_number (act_place b)) f) ∙ passes b r n)

  pub next_at_ports : (from p : ℕ) → IsNextPort test from p → IsNextNumber net s u kind from p
  next_at_ports from p next = record { from_on = next.from_on; none = λ b r f l n. false≢true (sym (next.before (act_number (act_place b)) f l) ∙ passes b r n) }

-- what a queue tells of its ports
module _ (net : Net) (s : State) (u : ℕ) (q : QueueView) (v : IsViewOf net s u q) (from : ℕ) (o : Option ℕ) where
  pub told_addr : MatchOption o (HasNoAddr q.queue.items from) (IsNextAddr q.queue.items from) → MatchOption o (HasNoneFrom net s u (Addr 0) from) (IsNextNumber net s u (Addr 0) from)
  told_addr h = by o h
    where
      by : (o : Option ℕ) → MatchOption o (HasNoAddr q.queue.items from) (IsNextAddr q.queue.items from) → MatchOption o (HasNoneFrom net s u (Addr 0) from) (IsNextNumber net s u (Addr 0) from)
      by None h = none_at_ports net s u q v (Addr 0) Addr (λ p. is_some (find (wants_addr p) q.queue.items)) (act_is 4) (λ n. refl) (λ n. refl) from h
      by (Some p) h = next_at_ports net s u q v (Addr 0) Addr (λ p. is_some (find (wants_addr p) q.queue.items)) (act_is 4) (λ n. refl) (λ n. refl) from p h

  pub told_data : MatchOption o (HasNoData q.queue.items from) (IsNextData q.queue.items from) → MatchOption o (HasNoneFrom net s u (Data 0) from) (IsNextNumber net s u (Data 0) from)
  told_data h = by o h
    where
      by : (o : Option ℕ) → MatchOption o (HasNoData q.queue.items from) (IsNextData q.queue.items from) → MatchOption o (HasNoneFrom net s u (Data 0) from) (IsNextNumber net s u (Data 0) from)
      by None h = none_at_ports net s u q v (Data 0) Data (λ p. is_some (find (wants_data p) q.queue.items)) (act_is 5) (λ n. refl) (λ n. refl) from h
      by (Some p) h = next_at_ports net s u q v (Data 0) Data (λ p. is_some (find (wants_data p) q.queue.items)) (act_is 5) (λ n. refl) (λ n. refl) from p h

  pub told_reply : MatchOption o (HasNoReply q.queue.items from) (IsNextReply q.queue.items from) → MatchOption o (HasNoneFrom net s u (Reply 0) from) (IsNextNumber net s u (Reply 0) from)
  told_reply h = by o h
    where
      by : (o : Option ℕ) → MatchOption o (HasNoReply q.queue.items from) (IsNextReply q.queue.items from) → MatchOption o (HasNoneFrom net s u (Reply 0) from) (IsNextNumber net s u (Reply 0) from)
      by None h = none_at_ports net s u q v (Reply 0) Reply (replies q.queue.items) (act_is 7) (λ n. refl) (λ n. refl) from h
      by (Some p) h = next_at_ports net s u q v (Reply 0) Reply (replies q.queue.items) (act_is 7) (λ n. refl) (λ n. refl) from p h

pub from_here : (net : Net) (s : State) (u : ℕ) (kind : Act) (from : ℕ) → IsNextNumber net s u kind from from
from_here net s u kind from = record { from_on = omega arith; none = λ b r f l n. absurd (omega arith) }

-- what the noted channel tells of acts that take the control token at the place of their number
module _ (net : Net) (s : State) (noted u : ℕ) (on : IsNoted net s noted) (kind : Act) (act : ℕ → Act)
    (is : (b : Act) → act_rank b ≡ act_rank kind → b ≡ act (act_number b)) (number : (n : ℕ) → act_number (act_place (act n)) ≡ n) (takes : (n : ℕ) → takes_at (kind_of net u) (act n) ≡ Some n) where
  noted_here : (b : Act) → act_rank b ≡ act_rank kind → enabled net s (firing u b) → noted_place net noted u ≡ Some (act_number (act_place b))
  noted_here b r n =
      let e = is b r in
      let m : act_number (act_place b) ≡ act_number b = ap (λ x. act_number (act_place x)) e ∙ number (act_number b) in
      on u (act_number b) b (ap (takes_at (kind_of net u)) e ∙ takes (act_number b)) n ∙ ap Some (sym m)

  told_control_place : (from : ℕ) (o : Option ℕ) → o ≡ place_from (noted_place net noted u) from → MatchOption o (HasNoneFrom net s u kind from) (IsNextNumber net s u kind from)
  told_control_place from o told = rw told (by (noted_place net noted u) refl)
    where
      by : (c : Option ℕ) → noted_place net noted u ≡ c → MatchOption (place_from c from) (HasNoneFrom net s u kind from) (IsNextNumber net s u kind from)
      by None q = λ b r f n. (let z : None ≡ Some (act_number (act_place b)) = sym q ∙ noted_here b r n in cc)
      by (Some p) q = at (cases_lt p from)
        where
          same : (b : Act) → act_rank b ≡ act_rank kind → enabled net s (firing u b) → act_number (act_place b) ≡ p
          same b r n = let z : Some (act_number (act_place b)) ≡ Some p = sym (noted_here b r n) ∙ q in cc

          at : (p < from) ⊎ (from ≤ p) → MatchOption (place_from (Some p) from) (HasNoneFrom net s u kind from) (IsNextNumber net s u kind from)
          at (inl l) = let e : nat_le from p ≡ false = lt-leb from p l in rw e (λ b r f n. (let k = same b r n in absurd (omega arith)))
          at (inr l) = let e : nat_le from p ≡ true = le-leb from p l in rw e (record { from_on = l; none = λ b r f h n. (let k = same b r n in absurd (omega arith)) })

-- so for each kind of acts that takes the control token but the end
pub told_control : (net : Net) (s : State) (noted u : ℕ) → IsNoted net s noted → (from : ℕ) (o : Option ℕ) → o ≡ place_from (noted_place net noted u) from → (kind : Act) → TakesControl kind → kind ≢ End
    → MatchOption o (HasNoneFrom net s u kind from) (IsNextNumber net s u kind from)
told_control net s noted u on from o told (From j) takes other = told_control_place net s noted u on (From j) From (act_is 1) (λ n. refl) (λ n. refl) from o told
told_control net s noted u on from o told (Alloc j) takes other = told_control_place net s noted u on (Alloc j) Alloc (act_is 3) (λ n. refl) (λ n. refl) from o told
told_control net s noted u on from o told End takes other = absurd (other refl)
told_control net s noted u on from o told _ takes other = absurd takes

pub told_end : (net : Net) (s : State) (noted u : ℕ) → IsNoted net s noted → (from end : ℕ) (o : Option ℕ) → end ≡ groups_in (kind_of net u) → o ≡ end_from (noted_place net noted u) end from
    → MatchOption o (HasNoneFrom net s u End from) (IsNextNumber net s u End from)
told_end net s noted u on from end o g told = rw told (by (noted_place net noted u) refl)
  where
    here : (b : Act) → act_rank b ≡ 9 → enabled net s (firing u b) → noted_place net noted u ≡ Some end
    here b r n = on u end b (ap (takes_at (kind_of net u)) (act_is 9 b r) ∙ ap Some (sym g)) n

    by : (c : Option ℕ) → noted_place net noted u ≡ c → MatchOption (end_from c end from) (HasNoneFrom net s u End from) (IsNextNumber net s u End from)
    by None q = λ b r f n. (let z : None ≡ Some end = sym q ∙ here b r n in cc)
    by (Some p) q = at (eqb p end) refl
      where
        at : (x : Bool) → eqb p end ≡ x → MatchOption (cond x (Some from) None) (HasNoneFrom net s u End from) (IsNextNumber net s u End from)
        at true e = from_here net s u End from
        at false e = λ b r f n. (let z : Some p ≡ Some end = sym q ∙ here b r n in let k : p ≡ end = cc in false≢true (sym e ∙ eq-eqb p end k))

-- the lesser of the number that was found and so many, or so many where none was
pub number_least : (net : Net) (s : State) (u : ℕ) (kind : Act) (from n count m : ℕ) → IsNextNumber net s u kind from n → from ≤ count → m ≡ min (max n from) count → IsNextNumber net s u kind from m
number_least net s u kind from n count m next l e = record { from_on = (let f = next.from_on in omega arith); none = λ b r f h en. next.none b r f (let k = next.from_on in omega arith) en }

pub number_none : (net : Net) (s : State) (u : ℕ) (kind : Act) (from m : ℕ) → HasNoneFrom net s u kind from → from ≤ m → IsNextNumber net s u kind from m
number_none net s u kind from m none l = record { from_on = l; none = λ b r f h e. none b r f e }
