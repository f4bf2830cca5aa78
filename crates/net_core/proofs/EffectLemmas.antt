-- What holds of each effect that a row can have, and the queue that a firing leaves to its unit.
use Rattle.std.proofs.Common.{◌≡◌, ℕ, ◌&&◌, not, Bool, true, false, cond, Option, Some, None, List, [], ◌∷◌, get_or, set, refl, sym, ap, subst, nat_lt}
use Rattle.std.specs.List.{list_all}
use Rattle.net_types.specs.declared.net.Port.{Port}
use Rattle.net_types.specs.declared.net.Unit.{Unit as Kind}
use Rattle.net_types.specs.declared.net.Unit.TheVariants.{Entry, Param, Const, Op1, Op2, Select, Fork, Mux, Cmerge, Branch, Sink, Read, Lsq, Exit}
use Rattle.net_types.specs.declared.firing.Act.{Act}
use Rattle.net_types.specs.declared.firing.Act.TheVariants.{Go, From, Send}
use Rattle.net_check.specs.Ends.{is_lsq}
use Rattle.lsq_core.specs.Acts.{can, step}
use Rattle.net_core.specs.Fire.{Setting, Row, Stop, Look, Take, Fires, Effect, effect_of, with_head, taking, put_at, when, on_go, Own, row, fork_row, cmerge_row, sent_to, go_row, exit_fires}
use Rattle.net_core.proofs.QueueActLemmas.{queue_inv}

abbrev pub EachEffect : (Effect → Type 0) → Row → Type 0
EachEffect P Stop = Unit {0}
EachEffect P (Look p next) = (v : ℕ) → EachEffect P (next v)
EachEffect P (Take p next) = (v : ℕ) → EachEffect (λ e. P (record e { takes = p ∷ e.takes })) (next v)
EachEffect P (Fires put own array strays) = P (record { takes = []; put = put; own = own; array = array; strays = strays })

taking_each : (P : Effect → Type 0) (p : ℕ) (o : Option Effect) (e : Effect) → taking p o ≡ Some e → ((x : Effect) → o ≡ Some x → P (record x { takes = p ∷ x.takes })) → P e
taking_each P p None e q h = cc
taking_each P p (Some x) e q h = let k : record x { takes = p ∷ x.takes } ≡ e = cc in subst P k (h x refl)

pub each_effect : (P : Effect → Type 0) (r : Row) (h : ℕ → Option ℕ) (e : Effect) → EachEffect P r → effect_of r h ≡ Some e → P e
each_effect P Stop h e all q = cc
each_effect P (Look p next) h e all q = by (h p) q (λ v x. each_effect P (next v) h e (all v) x)
  where
    by : (t : Option ℕ) → with_head t (λ v. effect_of (next v) h) ≡ Some e → ((v : ℕ) → effect_of (next v) h ≡ Some e → P e) → P e
    by None q k = cc
    by (Some v) q k = k v q
each_effect P (Take p next) h e all q = by (h p) q (λ v x. each_effect (λ e. P (record e { takes = p ∷ e.takes })) (next v) h x (all v))
  where
    by : (t : Option ℕ) → with_head t (λ v. taking p (effect_of (next v) h)) ≡ Some e
        → ((v : ℕ) (x : Effect) → effect_of (next v) h ≡ Some x → P (record x { takes = p ∷ x.takes })) → P e
    by None q k = cc
    by (Some v) q k = taking_each P p (effect_of (next v) h) e q (k v)
each_effect P (Fires put own array strays) h e all q =
    let k : record { takes = []; put = put; own = own; array = array; strays = strays } ≡ e = cc in subst P k all

pub each_go : (P : Effect → Type 0) (a : Act) (r : Row) → EachEffect P r → EachEffect P (on_go a r)
each_go P Go r h = h
each_go P _ r h = tt

pub each_when : (P : Effect → Type 0) (b : Bool) (r : Row) → (b ≡ true → EachEffect P r) → EachEffect P (when b r)
each_when P true r h = h refl
each_when P false r h = tt

-- ---- the queue

-- the queue stays as it was
abbrev SameQueue : Own → Effect → Type 0
SameQueue o e = e.own.queue ≡ o.queue

send_queue : (outs : ℕ) (a : Act) (o : Own) (xs : List ℕ) → EachEffect (SameQueue o) (fork_row outs a o xs)
send_queue outs (Send j) o xs =
    each_when (SameQueue o) (nat_lt j outs && not (get_or o.sent j true))
    (cond (list_all (λ b. b) (set o.sent j true)) (Take 0 (λ v. Fires (put_at j v) (record o { sent = sent_to j o.sent }) xs 0)) (Look 0 (λ v. Fires (put_at j v) (record o { sent = sent_to j o.sent }) xs 0)))
    (λ c. by (list_all (λ b. b) (set o.sent j true)))
  where
    by : (b : Bool) → EachEffect (SameQueue o) (cond b (Take 0 (λ v. Fires (put_at j v) (record o { sent = sent_to j o.sent }) xs 0)) (Look 0 (λ v. Fires (put_at j v) (record o { sent = sent_to j o.sent }) xs 0)))
    by true = λ v. refl
    by false = λ v. refl
send_queue outs _ o xs = tt

merge_queue : (ins : ℕ) (a : Act) (o : Own) (xs : List ℕ) → EachEffect (SameQueue o) (cmerge_row ins a o xs)
merge_queue ins (From j) o xs = each_when (SameQueue o) (nat_lt j ins) (Take j (λ v. Fires (put_at 0 j) o xs 0)) (λ c v. refl)
merge_queue ins _ o xs = tt

exit_queue : (valued : Bool) (o : Own) (xs : List ℕ) → EachEffect (SameQueue o) (exit_fires valued o xs)
exit_queue true o xs = λ c v. refl
exit_queue false o xs = λ c. refl

go_queue : (k : Kind) (o : Own) (xs : List ℕ) (ss : Setting) → EachEffect (SameQueue o) (go_row k o xs ss)
go_queue Entry o xs ss = each_when (SameQueue o) (not o.fired) (Fires (put_at 0 0) (record o { fired = true }) xs 0) (λ c. refl)
go_queue (Param j) o xs ss = each_when (SameQueue o) (not o.fired) (Fires (put_at 0 (get_or ss.scalars j 0)) (record o { fired = true }) xs 0) (λ c. refl)
go_queue (Const w n) o xs ss = λ v. refl
go_queue (Op1 op) o xs ss = λ v. refl
go_queue (Op2 op) o xs ss = λ v w. refl
go_queue (Select w) o xs ss = λ c x y. refl
go_queue (Fork w outs) o xs ss = tt
go_queue (Mux w ins) o xs ss = λ c v. refl
go_queue (Cmerge ins) o xs ss = tt
go_queue (Branch w) o xs ss = λ c v. refl
go_queue (Sink w) o xs ss = λ v. refl
go_queue (Read a) o xs ss = λ v. refl
go_queue (Lsq a d ps gs fw) o xs ss = tt
go_queue Exit o xs ss = each_when (SameQueue o) (not o.fired) (exit_fires ss.valued o xs) (λ c. exit_queue ss.valued o xs)

row_queue : (k : Kind) (a : Act) (o : Own) (xs : List ℕ) (ss : Setting) → is_lsq k ≡ false → EachEffect (SameQueue o) (row k a o xs ss)
unfolding row
row_queue (Fork w outs) a o xs ss n = send_queue outs a o xs
row_queue (Cmerge ins) a o xs ss n = merge_queue ins a o xs
row_queue (Lsq a d ps gs fw) act o xs ss n = cc
row_queue k a o xs ss n = each_go (SameQueue o) a (go_row k o xs ss) (go_queue k o xs ss)

-- what a firing does to the queue of its unit: nothing, or an act that the queue allows
pub data QueueGoes (k : Kind) (act : Act) (o : Own) (xs : List ℕ) (e : Effect) : Type 0 where
  stays : e.own.queue ≡ o.queue → QueueGoes k act o xs e
  steps : (a d : ℕ) (ps : List Port) (gs : List (List ℕ)) (fw : Bool) (v : ℕ) → k ≡ Lsq a d ps gs fw → can d gs o.queue act ≡ true
      → e.own.queue ≡ (step ps gs o.queue xs act v).queue → QueueGoes k act o xs e

pub queue_goes_on : (k : Kind) (act : Act) (o : Own) (xs : List ℕ) (ss : Setting) (h : ℕ → Option ℕ) (e : Effect) → effect_of (row k act o xs ss) h ≡ Some e → QueueGoes k act o xs e
unfolding row
queue_goes_on (Lsq a d ps gs fw) act o xs ss h e q =
    let i = queue_inv d ps gs act o xs h e q in
    steps a d ps gs fw i.0 refl i.1 (sym (ap (λ (z : Effect). z.own.queue) i.3))
queue_goes_on k act o xs ss h e q = stays (each_effect (SameQueue o) (row k act o xs ss) h e (row_queue k act o xs ss refl) q)
