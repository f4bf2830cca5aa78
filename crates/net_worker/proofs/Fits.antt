-- The numbers of acts that are enabled have their bits.
use Rattle.std.proofs.Common.{◌≡◌, ℕ, suc, ◌+◌, ◌^◌, ◌<◌, ◌≤◌, ◌⊎◌, inl, inr, true, false, Option, Some, None, List, [], ◌∷◌, length, get_or, refl, ap, ◌∙◌, sym, subst, arith, ltb-true}
use Rattle.std.proofs.lemmas.Bool.{and_parts}
use Rattle.net_types.specs.declared.net.Net.{Net}
use Rattle.net_types.specs.declared.net.Unit.{Unit as Kind}
use Rattle.net_types.specs.declared.net.Unit.TheVariants.{Entry, Param, Const, Op1, Op2, Select, Fork, Mux, Cmerge, Branch, Sink, Read, Lsq, Exit}
use Rattle.net_types.specs.declared.firing.Act.{Act}
use Rattle.net_types.specs.declared.firing.Act.TheVariants.{Go, From, Send, Alloc, Addr, Data, Exec, Reply, Retire, End}
use Rattle.net_types.specs.Nets.{kind_of, firing}
use Rattle.net_types.specs.Order.{ActFits}
use Rattle.net_check.specs.Checks.{IsChecked}
use Rattle.net_check.specs.Shapes.{HasShape}
use Rattle.net_check.specs.Ends.{is_lsq}
use Rattle.lsq_core.specs.Views.{QueueView, InOrder, InPorts, oldest_of}
use Rattle.net_core.specs.Fire.{State, Effect, idle, at_array, setting, row, on_go, go_row, effect, enabled, head_at, effect_of}
use Rattle.net_core.specs.private.Searches.{queue_families, serials_from}
use Rattle.net_core.proofs.ActLemmas.{plain_act, merge_inv}
use Rattle.net_core.proofs.GoesLemmas.{goes}
use Rattle.net_core.proofs.QueueFindLemmas.{below_first, queue_range, serial_below}

go_fits : (a : Act) → a ≡ Go → ActFits a
go_fits a q = subst ActFits (sym q) tt

-- of a fork: its sends are to outputs
fork_fits : (net : Net) (s : State) (u w outs : ℕ) (a : Act) → kind_of net u ≡ Fork w outs → outs < 2 ^ 32 → (e : Effect) → effect net s (firing u a) ≡ Some e → ActFits a
unfolding row
fork_fits net s u w outs a is few e q =
    by a (sym (ap (λ k. effect_of (row k a (get_or s.own u idle) (at_array s.arrays (Rattle.net_types.specs.Nets.uses k)) (setting net s)) (head_at net s u)) is) ∙ q)
  where
    by : (a : Act) → effect_of (Rattle.net_core.specs.Fire.fork_row outs a (get_or s.own u idle) []) (head_at net s u) ≡ Some e → ActFits a
    by (Send j) q =
        let i = Rattle.net_core.proofs.ForkLemmas.send_inv outs j (get_or s.own u idle) [] (head_at net s u) e q in
        let l = ltb-true j outs (and_parts _ _ i.0).0 in
        omega arith
    by Go q = tt
    by Retire q = tt
    by End q = tt
    by _ q = cc

abbrev pick : {F : Type 0} (fs : List F) (i : ℕ) → i < length fs → F
pick [] i l = absurd (omega arith)
pick (f ∷ fs) Rattle.std.proofs.Common.zero l = f
pick (f ∷ fs) (suc i) l = pick fs i (omega arith)

-- of a queue
module _ (net : Net) (s : State) (u a : ℕ) (q : QueueView) (kind : kind_of net u ≡ Lsq a q.depth q.ports q.groups q.queue.forward) (own : q.queue ≡ (get_or s.own u idle).queue)
    (order : InOrder q.queue) (within : InPorts (length q.ports) q.queue.items) (next : q.queue.next < 2 ^ 63) (checked : IsChecked net) where
  abbrev ports_few : length q.ports < 2 ^ 32
  ports_few = checked.numbered.ports u a q.depth q.ports q.groups q.queue.forward kind

  abbrev groups_few : length q.groups < 2 ^ 32
  groups_few = checked.numbered.groups u a q.depth q.ports q.groups q.queue.forward kind

  few_items : length q.queue.items ≤ 2 ^ 63
  few_items = by (length q.queue.items) refl
    where
      by : (n : ℕ) → length q.queue.items ≡ n → length q.queue.items ≤ 2 ^ 63
      by Rattle.std.proofs.Common.zero is = omega arith
      by (suc n) is = let o = order 0 (omega arith) in omega arith

  exec_few : (o : Option ℕ) → oldest_of q.queue ≡ o → (e : ℕ) → e < (serials_from Go (length q.queue.items) o).end → e < 2 ^ 64
  exec_few None is e l = absurd (omega arith)
  exec_few (Some x) is e l = let k = serial_below q x order is in let f = few_items in omega arith

  pub queue_fits : (b : Act) → enabled net s (firing u b) → ActFits b
  queue_fits (From j) e = absurd (below_first net s u a q kind own order within Go (From j) (omega arith) e (inl (omega arith)))
  queue_fits (Send j) e = absurd (below_first net s u a q kind own order within Go (Send j) (omega arith) e (inl (omega arith)))
  queue_fits (Alloc g) e =
      let r = (queue_range net s u a q kind own order within Go (pick queue_families 0 (omega arith)) (omega arith)).covers (Alloc g) refl e (inl (omega arith)) in
      let f = groups_few in omega (arith, r.1)
  queue_fits (Addr p) e =
      let r = (queue_range net s u a q kind own order within Go (pick queue_families 1 (omega arith)) (omega arith)).covers (Addr p) refl e (inl (omega arith)) in
      let f = ports_few in omega (arith, r.1)
  queue_fits (Data p) e =
      let r = (queue_range net s u a q kind own order within Go (pick queue_families 2 (omega arith)) (omega arith)).covers (Data p) refl e (inl (omega arith)) in
      let f = ports_few in omega (arith, r.1)
  queue_fits (Exec x) e =
      let r = (queue_range net s u a q kind own order within Go (pick queue_families 3 (omega arith)) (omega arith)).covers (Exec x) refl e (inl (omega arith)) in
      exec_few (oldest_of q.queue) refl x r.1
  queue_fits (Reply p) e =
      let r = (queue_range net s u a q kind own order within Go (pick queue_families 4 (omega arith)) (omega arith)).covers (Reply p) refl e (inl (omega arith)) in
      let f = ports_few in omega (arith, r.1)
  queue_fits _ e = tt

-- of a unit that is no queue
pub plain_fits : (net : Net) (s : State) (u : ℕ) → IsChecked net → is_lsq (kind_of net u) ≡ false → (b : Act) → enabled net s (firing u b) → ActFits b
unfolding row
plain_fits net s u checked plain b e = by (kind_of net u) refl plain
  where
    g : (x : Effect) × Rattle.net_core.proofs.GoesLemmas.Goes net s (firing u b) x
    g = goes net s (firing u b) e

    by : (k : Kind) → kind_of net u ≡ k → is_lsq k ≡ false → ActFits b
    by (Fork w outs) is plain = (let c : HasShape (Fork w outs) = subst HasShape is (checked.shapes u) in fork_fits net s u w outs b is (omega (arith, c.most)) g.0 g.1.is)
    by (Cmerge ins) is plain =
        (let c : HasShape (Cmerge ins) = subst HasShape is (checked.shapes u) in
        let m = merge_inv net s u ins b is g.0 g.1.is in
        subst ActFits (sym m.1) (omega (arith, m.2, c.most)))
    by Entry is plain = go_fits b (plain_act net s u b Entry refl is g.0 g.1.is)
    by (Param j) is plain = go_fits b (plain_act net s u b (Param j) refl is g.0 g.1.is)
    by (Const w n) is plain = go_fits b (plain_act net s u b (Const w n) refl is g.0 g.1.is)
    by (Op1 op) is plain = go_fits b (plain_act net s u b (Op1 op) refl is g.0 g.1.is)
    by (Op2 op) is plain = go_fits b (plain_act net s u b (Op2 op) refl is g.0 g.1.is)
    by (Select w) is plain = go_fits b (plain_act net s u b (Select w) refl is g.0 g.1.is)
    by (Mux w n) is plain = go_fits b (plain_act net s u b (Mux w n) refl is g.0 g.1.is)
    by (Branch w) is plain = go_fits b (plain_act net s u b (Branch w) refl is g.0 g.1.is)
    by (Sink w) is plain = go_fits b (plain_act net s u b (Sink w) refl is g.0 g.1.is)
    by (Read n) is plain = go_fits b (plain_act net s u b (Read n) refl is g.0 g.1.is)
    by Exit is plain = go_fits b (plain_act net s u b Exit refl is g.0 g.1.is)
    by (Lsq n d ps gs fw) is plain = cc
