-- How each firing pays for the control token that it may put.
use Rattle.std.proofs.Common.{◌≡◌, ℕ, suc, ◌+◌, ◌≤◌, ◌==◌, not, Bool, true, false, cond, Option, Some, None, List, [], ◌∷◌, length, get_or, refl, ◌∙◌, arith, nat_lt, ltb-true, eq-eqb}
use Rattle.net_types.specs.declared.net.Port.{Port}
use Rattle.net_types.specs.declared.net.Unit.{Unit as Kind}
use Rattle.net_types.specs.declared.net.Unit.TheVariants.{Entry, Param, Const, Op1, Op2, Select, Fork, Mux, Cmerge, Branch, Sink, Read, Lsq, Exit}
use Rattle.net_types.specs.declared.firing.Act.{Act}
use Rattle.net_types.specs.declared.firing.Act.TheVariants.{From, Alloc, Addr, Data, Exec, Reply, Retire, End}
use Rattle.net_types.specs.declared.net.Net.{Net}
use Rattle.net_check.specs.Controls.{ctl_in, ctl_out}
use Rattle.lsq_core.specs.Acts.{can, step, in_place}
use Rattle.word_ops.specs.Operations.{op1_result, op2_result}
use Rattle.net_core.specs.Fire.{Setting, Take, Fires, Effect, among, Put, put_at, put_out, gate, Own, row, queue_row, queue_fires, cmerge_row, go_row, exit_fires}
use Rattle.net_core.specs.Control.{to_come}
use Rattle.net_core.proofs.Premises.{Steers}
use Rattle.net_core.proofs.QueueActLemmas.{group_within}
use Rattle.net_core.proofs.EffectLemmas.{EachEffect, each_go, each_when}

abbrev pub is_fork : Kind → Bool
is_fork (Fork wd outs) = true
is_fork _ = false

-- how a firing pays for the control token that it may put (forks aside)
pub data Account (net : Net) (u : ℕ) (k : Kind) (o : Own) (e : Effect) : Type 0 where
  quiet : ((w : Put) → e.put ≡ Some w → ctl_out net u w.place ≡ false) → to_come k e.own ≤ to_come k o → Account net u k o e
  pays : (p : ℕ) → among p e.takes ≡ true → ctl_in net u p ≡ true → to_come k e.own ≤ to_come k o → Account net u k o e
  opens : suc (to_come k e.own) ≤ to_come k o → Account net u k o e

put_place : (p v : ℕ) (w : Put) → put_at p v ≡ Some w → p ≡ w.place
put_place p v w e = cc

-- a put on an output that is no control place
plain_put : (net : Net) (u p v : ℕ) → ctl_out net u p ≡ false → (w : Put) → put_at p v ≡ Some w → ctl_out net u w.place ≡ false
plain_put net u p v n w e = let k : p ≡ w.place = put_place p v w e in rw (← k) n

no_put : (net : Net) (u : ℕ) (w : Put) → None ≡ Some w → ctl_out net u w.place ≡ false
no_put net u w e = cc

branch_account : (net : Net) (u wd : ℕ) (o : Own) (xs : List ℕ) → Steers (Branch wd) (ctl_in net u) (ctl_out net u) → (c v : ℕ)
    → Account net u (Branch wd) o (record { takes = 0 ∷ 1 ∷ []; put = put_at (cond (c == 0) 1 0) v; own = o; array = xs; strays = 0 })
branch_account net u wd o xs st c v = by (ctl_in net u 1) refl (c == 0)
  where
    by : (b : Bool) → ctl_in net u 1 ≡ b → (d : Bool) → Account net u (Branch wd) o (record { takes = 0 ∷ 1 ∷ []; put = put_at (cond d 1 0) v; own = o; array = xs; strays = 0 })
    by true is d = pays 1 refl is (omega arith)
    by false is true = quiet (plain_put net u 1 v (st.2 ∙ is)) (omega arith)
    by false is false = quiet (plain_put net u 0 v (st.1 ∙ is)) (omega arith)

unfired : (b : Bool) → not b ≡ true → 1 ≤ cond b 0 1
unfired true h = cc
unfired false h = omega arith

exit_account : (net : Net) (u : ℕ) (b : Bool) (o : Own) (xs : List ℕ) → EachEffect (Account net u Exit o) (exit_fires b o xs)
exit_account net u true o xs = λ c v. quiet (no_put net u) (omega arith)
exit_account net u false o xs = λ c. quiet (no_put net u) (omega arith)

go_account : (net : Net) (u : ℕ) (k : Kind) (o : Own) (xs : List ℕ) (ss : Setting) → Steers k (ctl_in net u) (ctl_out net u) → EachEffect (Account net u k o) (go_row k o xs ss)
go_account net u Entry o xs ss st =
    each_when (Account net u Entry o) (not o.fired) (Fires (put_at 0 0) (record o { fired = true }) xs 0) (λ c. opens (let l = unfired o.fired c in omega arith))
go_account net u (Param j) o xs ss st =
    each_when (Account net u (Param j) o) (not o.fired) (Fires (put_at 0 (get_or ss.scalars j 0)) (record o { fired = true }) xs 0) (λ c. quiet (plain_put net u 0 (get_or ss.scalars j 0) st) (omega arith))
go_account net u (Const wd n) o xs ss st = λ v. quiet (plain_put net u 0 n st) (omega arith)
go_account net u (Op1 op) o xs ss st = λ v. quiet (plain_put net u 0 (op1_result op v) st) (omega arith)
go_account net u (Op2 op) o xs ss st = λ v w. quiet (plain_put net u 0 (op2_result op v w) st) (omega arith)
go_account net u (Select wd) o xs ss st = λ c v w. quiet (plain_put net u 0 (cond (c == 0) w v) st) (omega arith)
go_account net u (Mux wd ins) o xs ss st = λ c v. quiet (plain_put net u 0 v st) (omega arith)
go_account net u (Branch wd) o xs ss st = λ c v. branch_account net u wd o xs st c v
go_account net u (Sink wd) o xs ss st = λ v. quiet (no_put net u) (omega arith)
go_account net u (Read n) o xs ss st = λ v. quiet (plain_put net u 0 (get_or xs v 0) st) (omega arith)
go_account net u Exit o xs ss st = each_when (Account net u Exit o) (not o.fired) (exit_fires ss.valued o xs) (λ c. exit_account net u ss.valued o xs)
go_account net u _ o xs ss st = tt

among_self : (p : ℕ) → among p (p ∷ []) ≡ true
among_self p = let e : (p == p) ≡ true = eq-eqb p p refl in rw e refl

merge_account : (net : Net) (u ins : ℕ) (a : Act) (o : Own) (xs : List ℕ) → Steers (Cmerge ins) (ctl_in net u) (ctl_out net u) → EachEffect (Account net u (Cmerge ins) o) (cmerge_row ins a o xs)
merge_account net u ins (From j) o xs st =
    each_when (Account net u (Cmerge ins) o) (nat_lt j ins) (Take j (λ v. Fires (put_at 0 j) o xs 0))
    (λ c v. pays j (among_self j) (st.0 j (ltb-true _ _ c)) (omega arith))
merge_account net u ins _ o xs st = tt

put_out_place : (p : ℕ) (v : Option ℕ) (w : Put) → put_out (Some p) v ≡ Some w → p ≡ w.place
put_out_place p None w e = cc
put_out_place p (Some v) w e = put_place p v w e

queue_account : (net : Net) (u n depth : ℕ) (ports : List Port) (groups : List (List ℕ)) (fw : Bool) (a : Act) (o : Own) (xs : List ℕ)
    → Steers (Lsq n depth ports groups fw) (ctl_in net u) (ctl_out net u) → EachEffect (Account net u (Lsq n depth ports groups fw) o) (queue_row depth ports groups a o xs)
queue_account net u n depth ports groups fw a o xs st =
    each_when (Account net u (Lsq n depth ports groups fw) o) (can depth groups o.queue a) (gate (in_place groups a) (queue_fires ports groups a o xs)) (at a)
  where
    at : (a : Act) → can depth groups o.queue a ≡ true → EachEffect (Account net u (Lsq n depth ports groups fw) o) (gate (in_place groups a) (queue_fires ports groups a o xs))
    at (Alloc g) c = λ v. pays g (among_self g) (st.0 g (let l = group_within depth groups o.queue g c in omega arith)) (omega arith)
    at End c = λ v. pays (length groups) (among_self (length groups)) (st.0 (length groups) (omega arith)) (omega arith)
    at (Reply p) c = quiet (λ w e. (let k : length groups + 1 + p ≡ w.place = put_out_place (length groups + 1 + p) (step ports groups o.queue xs (Reply p) 0).put w e in st.1 w.place (omega arith))) (omega arith)
    at (Addr p) c = λ v. quiet (λ w e. cc) (omega arith)
    at (Data p) c = λ v. quiet (λ w e. cc) (omega arith)
    at (Exec x) c = quiet (λ w e. cc) (omega arith)
    at Retire c = quiet (λ w e. cc) (omega arith)
    at _ c = cc

pub row_account : (net : Net) (u : ℕ) (k : Kind) (a : Act) (o : Own) (xs : List ℕ) (ss : Setting) → is_fork k ≡ false → Steers k (ctl_in net u) (ctl_out net u) → EachEffect (Account net u k o) (row k a o xs ss)
unfolding row
row_account net u (Fork wd outs) a o xs ss f st = cc
row_account net u (Cmerge ins) a o xs ss f st = merge_account net u ins a o xs st
row_account net u (Lsq n depth ports groups fw) a o xs ss f st = queue_account net u n depth ports groups fw a o xs st
row_account net u k a o xs ss f st = each_go (Account net u k o) a (go_row k o xs ss) (go_account net u k o xs ss st)
