-- The places that a plan uses.
use Rattle.std.proofs.Common.{◌≡◌, ℕ, ◌&&◌, not, nat_lt, Bool, true, false, cond, Option, Some, None, List, [], ◌∷◌, get_or, set, refl, sym, ap, ◌∙◌}
use Rattle.std.specs.List.{list_all}
use Rattle.net_types.specs.declared.net.Net.{Net}
use Rattle.net_types.specs.declared.net.Unit.{Unit as Kind}
use Rattle.net_types.specs.declared.net.Unit.TheVariants.{Entry, Param, Const, Op1, Op2, Select, Fork, Mux, Cmerge, Branch, Sink, Read, Lsq, Exit}
use Rattle.net_types.specs.declared.firing.Act.{Act}
use Rattle.net_types.specs.declared.firing.Act.TheVariants.{Go, From, Send, Alloc, Addr, Data, Exec, Reply, Retire, End}
use Rattle.net_types.specs.Nets.{kind_of, uses, firing}
use Rattle.lsq_core.specs.Acts.{can, in_place}
use Rattle.net_core.specs.Fire.{State, Own, Row, Stop, Look, Take, Fires, Effect, Setting, effect_of, with_head, taking, on_go, when, put_at, gate, idle, row, fork_row, send_row, sent_to, exit_fires, queue_fires, setting, at_array, head_at, effect}
use Rattle.net_core.specs.Plans.{places_of}
use Rattle.net_core.specs.Uses.{used_by, then_used, used, is_fork, places_used}
use Rattle.net_core.specs.Laws.{PlansUse}
use Rattle.net_core.proofs.ForkLemmas.{send_eff, send_inv}

-- a row that looks at nothing it doesn't take
abbrev Plainly : Row → Type 0
Plainly Stop = Unit {0}
Plainly (Look p next) = ⊥
Plainly (Take p next) = (v : ℕ) → Plainly (next v)
Plainly (Fires put own array strays) = Unit {0}

untake : (p : ℕ) (o : Option Effect) (e : Effect) → taking p o ≡ Some e → (x : Effect) × (o ≡ Some x) × (e.takes ≡ p ∷ x.takes)
untake p None e q = cc
untake p (Some x) e q = let k : record x { takes = p ∷ x.takes } ≡ e = cc in (x, refl, ap (λ (y : Effect). y.takes) (sym k))

plain_used : (r : Row) (h : ℕ → Option ℕ) (e : Effect) → Plainly r → effect_of r h ≡ Some e → used_by r h ≡ e.takes
plain_used Stop h e pl q = cc
plain_used (Look p next) h e pl q = absurd pl
plain_used (Take p next) h e pl q = by (h p) q (λ v x y. plain_used (next v) h x (pl v) y)
  where
    by : (t : Option ℕ) → with_head t (λ v. taking p (effect_of (next v) h)) ≡ Some e → ((v : ℕ) (x : Effect) → effect_of (next v) h ≡ Some x → used_by (next v) h ≡ x.takes)
        → p ∷ then_used t (λ v. used_by (next v) h) ≡ e.takes
    by None q ih = cc
    by (Some v) q ih = let w = untake p (effect_of (next v) h) e q in ap (λ ps. p ∷ ps) (ih v w.0 w.1) ∙ sym w.2
plain_used (Fires put own array strays) h e pl q = let k : record { takes = []; put = put; own = own; array = array; strays = strays } ≡ e = cc in ap (λ (y : Effect). y.takes) k

go_plain : (a : Act) (r : Row) → Plainly r → Plainly (on_go a r)
go_plain Go r p = p
go_plain _ r p = tt

when_plain : (b : Bool) (r : Row) → Plainly r → Plainly (when b r)
when_plain true r p = p
when_plain false r p = tt

gate_plain : (o : Option ℕ) (next : ℕ → Row) → ((v : ℕ) → Plainly (next v)) → Plainly (gate o next)
gate_plain None next p = p 0
gate_plain (Some q) next p = p

exit_plain : (b : Bool) (o : Own) (xs : List ℕ) → Plainly (exit_fires b o xs)
exit_plain true o xs = λ c v. tt
exit_plain false o xs = λ c. tt

row_plain : (k : Kind) (a : Act) (o : Own) (xs : List ℕ) (ss : Setting) → is_fork k ≡ false → Plainly (row k a o xs ss)
unfolding row
row_plain (Fork w outs) a o xs ss f = cc
row_plain (Cmerge ins) (From j) o xs ss f = when_plain (nat_lt j ins) _ (λ v. tt)
row_plain (Cmerge ins) Go o xs ss f = tt
row_plain (Cmerge ins) (Send j) o xs ss f = tt
row_plain (Cmerge ins) (Alloc g) o xs ss f = tt
row_plain (Cmerge ins) (Addr q) o xs ss f = tt
row_plain (Cmerge ins) (Data q) o xs ss f = tt
row_plain (Cmerge ins) (Exec e) o xs ss f = tt
row_plain (Cmerge ins) (Reply q) o xs ss f = tt
row_plain (Cmerge ins) Retire o xs ss f = tt
row_plain (Cmerge ins) End o xs ss f = tt
row_plain (Lsq n d ps gs fw) a o xs ss f = when_plain (can d gs o.queue a) (gate (in_place gs a) (queue_fires ps gs a o xs)) (gate_plain (in_place gs a) (queue_fires ps gs a o xs) (λ v. tt))
row_plain Entry a o xs ss f = go_plain a _ (when_plain (not o.fired) _ tt)
row_plain (Param j) a o xs ss f = go_plain a _ (when_plain (not o.fired) _ tt)
row_plain (Const w n) a o xs ss f = go_plain a _ (λ v. tt)
row_plain (Op1 op) a o xs ss f = go_plain a _ (λ v. tt)
row_plain (Op2 op) a o xs ss f = go_plain a _ (λ v w. tt)
row_plain (Select wd) a o xs ss f = go_plain a _ (λ c v w. tt)
row_plain (Mux wd n) a o xs ss f = go_plain a _ (λ c v. tt)
row_plain (Branch wd) a o xs ss f = go_plain a _ (λ c v. tt)
row_plain (Sink wd) a o xs ss f = go_plain a _ (λ v. tt)
row_plain (Read n) a o xs ss f = go_plain a _ (λ v. tt)
row_plain Exit a o xs ss f = go_plain a _ (when_plain (not o.fired) _ (exit_plain ss.valued o xs))

-- ---- forks

pub fork_act : (outs : ℕ) (a : Act) (o : Own) (xs : List ℕ) (h : ℕ → Option ℕ) (e : Effect) → effect_of (fork_row outs a o xs) h ≡ Some e → (j : ℕ) × (a ≡ Send j) × (effect_of (send_row outs j o xs) h ≡ Some e)
fork_act outs (Send j) o xs h e q = (j, refl, q)
fork_act outs _ o xs h e q = cc

pub fork_effect : (net : Net) (u w outs : ℕ) → kind_of net u ≡ Fork w outs → (t : State) (a : Act) → effect net t (firing u a) ≡ effect_of (fork_row outs a (get_or t.own u idle) []) (head_at net t u)
unfolding row
fork_effect net u w outs is t a = ap (λ k. effect_of (row k a (get_or t.own u idle) (at_array t.arrays (uses k)) (setting net t)) (head_at net t u)) is

pub fork_uses : (net : Net) (u w outs : ℕ) → kind_of net u ≡ Fork w outs → (t : State) (a : Act) → used net t (firing u a) ≡ used_by (fork_row outs a (get_or t.own u idle) []) (head_at net t u)
unfolding row
fork_uses net u w outs is t a = ap (λ k. used_by (row k a (get_or t.own u idle) (at_array t.arrays (uses k)) (setting net t)) (head_at net t u)) is

pub send_does : (outs j : ℕ) (o : Own) (xs : List ℕ) (h : ℕ → Option ℕ) (v : ℕ) → (nat_lt j outs && not (get_or o.sent j true)) ≡ true → h 0 ≡ Some v
    → (effect_of (send_row outs j o xs) h ≡ Some (send_eff j o xs v)) × (used_by (send_row outs j o xs) h ≡ 0 ∷ [])
send_does outs j o xs h v g e = (rw g (does (list_all (λ b. b) (set o.sent j true))), rw g (uses_it (list_all (λ b. b) (set o.sent j true))))
  where
    does : (b : Bool) → effect_of (cond b (Take 0 (λ v. Fires (put_at j v) (record o { sent = sent_to j o.sent }) xs 0)) (Look 0 (λ v. Fires (put_at j v) (record o { sent = sent_to j o.sent }) xs 0))) h
        ≡ Some (record { takes = cond b (0 ∷ []) []; put = put_at j v; own = record o { sent = sent_to j o.sent }; array = xs; strays = 0 })
    does true = rw e refl
    does false = rw e refl

    uses_it : (b : Bool) → used_by (cond b (Take 0 (λ v. Fires (put_at j v) (record o { sent = sent_to j o.sent }) xs 0)) (Look 0 (λ v. Fires (put_at j v) (record o { sent = sent_to j o.sent }) xs 0))) h ≡ 0 ∷ []
    uses_it true = rw e refl
    uses_it false = rw e refl

fork_used : (net : Net) (u w outs : ℕ) (s : State) (a : Act) (e : Effect) → kind_of net u ≡ Fork w outs → effect net s (firing u a) ≡ Some e → used net s (firing u a) ≡ 0 ∷ []
fork_used net u w outs s a e is ea =
    let fa = fork_act outs a (get_or s.own u idle) [] (head_at net s u) e (sym (fork_effect net u w outs is s a) ∙ ea) in
    let i = send_inv outs fa.0 (get_or s.own u idle) [] (head_at net s u) e fa.2 in
    fork_uses net u w outs is s a ∙ ap (λ q. used_by (fork_row outs q (get_or s.own u idle) []) (head_at net s u)) fa.1
    ∙ (send_does outs fa.0 (get_or s.own u idle) [] (head_at net s u) i.1 i.0 i.2).1

pub plans_use : PlansUse
plans_use net s u a e takes ea t = by (kind_of net u) refl
  where
    other : is_fork (kind_of net u) ≡ false → used net s (firing u a) ≡ places_of takes
    other f = plain_used (row (kind_of net u) a (get_or s.own u idle) (at_array s.arrays (uses (kind_of net u))) (setting net s)) (head_at net s u) e
        (row_plain (kind_of net u) a (get_or s.own u idle) (at_array s.arrays (uses (kind_of net u))) (setting net s) f) ea ∙ t

    by : (k : Kind) → kind_of net u ≡ k → used net s (firing u a) ≡ places_used (is_fork k) takes
    by (Fork w outs) is = fork_used net u w outs s a e is ea
    by _ is = other (ap is_fork is)
