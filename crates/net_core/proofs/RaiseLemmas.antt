-- One firing raises each next serial number and each count of strays by the greatest depth of a queue at most.
use Rattle.std.proofs.Common.{◌≡◌, ℕ, zero, suc, ◌+◌, ◌<◌, ◌≤◌, ◌⊎◌, ◌&&◌, not, nat_lt, Bool, true, false, cond, Option, Some, None, List, [], ◌∷◌, length, get_or, set, sym, ap, subst, inl, inr, arith, get_or-set_same, get_or-set_other}
use Rattle.std.proofs.lemmas.Bool.{cases_lt, cases_eq}
use Rattle.std.proofs.lemmas.List.{set_past, get_or_past}
use Rattle.std.proofs.lemmas.List.Elements.{All-get_or}
use Rattle.std.specs.List.{find, list_all}
use Rattle.el_base.specs.Limits.{max_depth}
use Rattle.net_types.specs.declared.net.Net.{Net}
use Rattle.net_types.specs.declared.net.Port.{Port}
use Rattle.net_types.specs.declared.net.Unit.{Unit as Kind}
use Rattle.net_types.specs.declared.net.Unit.TheVariants.{Entry, Param, Const, Op1, Op2, Select, Fork, Mux, Cmerge, Branch, Sink, Read, Lsq, Exit}
use Rattle.net_types.specs.declared.firing.Act.{Act}
use Rattle.net_types.specs.declared.firing.Act.TheVariants.{From, Send, Alloc, Exec}
use Rattle.net_types.specs.declared.firing.Firing.{Firing}
use Rattle.net_types.specs.Nets.{kind_of, uses}
use Rattle.net_types.specs.Queues.{IsGroup}
use Rattle.net_check.specs.Shapes.{HasShape}
use Rattle.net_check.specs.Checks.{IsChecked}
use Rattle.lsq_core.specs.declared.entry.Entry.{Entry as Item}
use Rattle.lsq_core.specs.Acts.{QueueState, can, step, exec, in_place, is_serial, or_zero}
use Rattle.net_core.specs.Fire.{Setting, setting, Take, Look, Fires, Effect, effect, put_at, gate, go_row, fork_row, cmerge_row, queue_row, queue_fires, exit_fires, sent_to, State, Own, idle, at_array, head_at, after, after_effect, counted, raised, row}
use Rattle.net_core.specs.States.{CountsWithin, CountsRise}
use Rattle.net_core.proofs.EffectLemmas.{EachEffect, each_effect, each_go, each_when}

abbrev Few : Own → Effect → Type 0
Few o e = (e.own.queue.next ≤ o.queue.next + max_depth) × (e.strays ≤ 1)

exec_few : (q : QueueState) (xs : List ℕ) (e : ℕ) (o : Option Item) → ((exec q xs e o).queue.next ≤ q.next + max_depth) × ((exec q xs e o).strays ≤ 1)
exec_few q xs e None = (omega arith, omega arith)
exec_few q xs e (Some x) = (omega arith, one (nat_lt (or_zero x.addr) (length xs)))
  where
    one : (b : Bool) → cond b 0 1 ≤ 1
    one true = omega arith
    one false = omega arith

step_few : (ps : List Port) (gs : List (List ℕ)) (q : QueueState) (xs : List ℕ) (act : Act) (v : ℕ) → ((g : ℕ) → length (get_or gs g []) ≤ max_depth)
    → ((step ps gs q xs act v).queue.next ≤ q.next + max_depth) × ((step ps gs q xs act v).strays ≤ 1)
step_few ps gs q xs (Alloc g) v room = let h = room g in (omega arith, omega arith)
step_few ps gs q xs (Exec e) v room = exec_few q xs e (find (is_serial e) q.items)
step_few ps gs q xs _ v room = (omega arith, omega arith)

queue_few : (depth : ℕ) (ps : List Port) (gs : List (List ℕ)) (a : Act) (o : Own) (xs : List ℕ) → ((g : ℕ) → length (get_or gs g []) ≤ max_depth) → EachEffect (Few o) (queue_row depth ps gs a o xs)
queue_few depth ps gs a o xs room = each_when (Few o) (can depth gs o.queue a) (gate (in_place gs a) (queue_fires ps gs a o xs)) (λ c. at (in_place gs a))
  where
    at : (ip : Option ℕ) → EachEffect (Few o) (gate ip (queue_fires ps gs a o xs))
    at None = step_few ps gs o.queue xs a 0 room
    at (Some p) = λ v. step_few ps gs o.queue xs a v room

send_few : (outs : ℕ) (a : Act) (o : Own) (xs : List ℕ) → EachEffect (Few o) (fork_row outs a o xs)
send_few outs (Send j) o xs =
    each_when (Few o) (nat_lt j outs && not (get_or o.sent j true))
    (cond (list_all (λ b. b) (set o.sent j true)) (Take 0 (λ v. Fires (put_at j v) (record o { sent = sent_to j o.sent }) xs 0)) (Look 0 (λ v. Fires (put_at j v) (record o { sent = sent_to j o.sent }) xs 0)))
    (λ c. by (list_all (λ b. b) (set o.sent j true)))
  where
    by : (b : Bool) → EachEffect (Few o) (cond b (Take 0 (λ v. Fires (put_at j v) (record o { sent = sent_to j o.sent }) xs 0)) (Look 0 (λ v. Fires (put_at j v) (record o { sent = sent_to j o.sent }) xs 0)))
    by true = λ v. (omega arith, omega arith)
    by false = λ v. (omega arith, omega arith)
send_few outs _ o xs = tt

merge_few : (ins : ℕ) (a : Act) (o : Own) (xs : List ℕ) → EachEffect (Few o) (cmerge_row ins a o xs)
merge_few ins (From j) o xs = each_when (Few o) (nat_lt j ins) (Take j (λ v. Fires (put_at 0 j) o xs 0)) (λ c v. (omega arith, omega arith))
merge_few ins _ o xs = tt

exit_few : (valued : Bool) (o : Own) (xs : List ℕ) → EachEffect (Few o) (exit_fires valued o xs)
exit_few true o xs = λ c v. (omega arith, omega arith)
exit_few false o xs = λ c. (omega arith, omega arith)

read_few : (b : Bool) → cond b 0 1 ≤ 1
read_few true = omega arith
read_few false = omega arith

go_few : (k : Kind) (o : Own) (xs : List ℕ) (ss : Setting) → EachEffect (Few o) (go_row k o xs ss)
go_few Entry o xs ss = each_when (Few o) (not o.fired) (Fires (put_at 0 0) (record o { fired = true }) xs 0) (λ c. (omega arith, omega arith))
go_few (Param j) o xs ss = each_when (Few o) (not o.fired) (Fires (put_at 0 (get_or ss.scalars j 0)) (record o { fired = true }) xs 0) (λ c. (omega arith, omega arith))
go_few (Const wd n) o xs ss = λ v. (omega arith, omega arith)
go_few (Op1 op) o xs ss = λ v. (omega arith, omega arith)
go_few (Op2 op) o xs ss = λ v w. (omega arith, omega arith)
go_few (Select wd) o xs ss = λ c v w. (omega arith, omega arith)
go_few (Mux wd ins) o xs ss = λ c v. (omega arith, omega arith)
go_few (Branch wd) o xs ss = λ c v. (omega arith, omega arith)
go_few (Sink wd) o xs ss = λ v. (omega arith, omega arith)
go_few (Read n) o xs ss = λ v. (omega arith, read_few (nat_lt v (length xs)))
go_few Exit o xs ss = each_when (Few o) (not o.fired) (exit_fires ss.valued o xs) (λ c. exit_few ss.valued o xs)
go_few _ o xs ss = tt

row_few : (k : Kind) (a : Act) (o : Own) (xs : List ℕ) (ss : Setting) → HasShape k → EachEffect (Few o) (row k a o xs ss)
unfolding row
row_few (Fork wd outs) a o xs ss h = send_few outs a o xs
row_few (Cmerge ins) a o xs ss h = merge_few ins a o xs
row_few (Lsq n d ps gs fw) a o xs ss h = queue_few d ps gs a o xs (λ g. room g (cases_lt g (length gs)))
  where
    room : (g : ℕ) → (g < length gs) ⊎ (length gs ≤ g) → length (get_or gs g []) ≤ max_depth
    room g (inl l) = let r = (All-get_or (IsGroup d (length ps)) gs g [] l h.each_group).room in let m = h.depth_at_most in omega arith
    room g (inr l) = let e = ap length (get_or_past gs g [] l) in omega arith
row_few k a o xs ss h = each_go (Few o) a (go_row k o xs ss) (go_few k o xs ss)

raised_few : (m : ℕ) (xs : List ℕ) (b a : ℕ) → get_or (raised m xs b) a 0 ≤ get_or xs a 0 + m
raised_few m [] b a = omega arith
raised_few m (x ∷ xs) zero zero = omega arith
raised_few m (x ∷ xs) zero (suc a) = omega arith
raised_few m (x ∷ xs) (suc b) zero = omega arith
raised_few m (x ∷ xs) (suc b) (suc a) = raised_few m xs b a

counted_few : (o : Option ℕ) (m : ℕ) (xs : List ℕ) (a : ℕ) → get_or (counted o m xs) a 0 ≤ get_or xs a 0 + m
counted_few None m xs a = omega arith
counted_few (Some b) m xs a = raised_few m xs b a

pub counts_after : (net : Net) (s : State) (f : Firing) (e : Effect) → IsChecked net → effect net s f ≡ Some e → CountsRise max_depth s (after net s f)
counts_after net s f e checked is n h =
    subst (CountsWithin (n + max_depth)) (sym (ap (after_effect net s f.unit) is)) (record {
      serials = λ u. serial u (cases_eq u f.unit);
      strays = λ a. (let w = counted_few (uses (kind_of net f.unit)) e.strays s.strays a in let k = h.strays a in let m = few.1 in omega arith);
    })
  where
    few : Few (get_or s.own f.unit idle) e
    few = each_effect (Few (get_or s.own f.unit idle)) (row (kind_of net f.unit) f.act (get_or s.own f.unit idle) (at_array s.arrays (uses (kind_of net f.unit))) (setting net s)) (head_at net s f.unit) e
        (row_few (kind_of net f.unit) f.act (get_or s.own f.unit idle) (at_array s.arrays (uses (kind_of net f.unit))) (setting net s) (checked.shapes f.unit)) is

    serial : (u : ℕ) → (u ≡ f.unit) ⊎ (u ≡ f.unit → ⊥) → (get_or (set s.own f.unit e.own) u idle).queue.next ≤ n + max_depth
    serial u (inr m) = let g : get_or (set s.own f.unit e.own) u idle ≡ get_or s.own u idle = get_or-set_other s.own f.unit u e.own idle m in rw g (let k = h.serials u in omega arith)
    serial u (inl q) = by (cases_lt f.unit (length s.own))
      where
        by : (f.unit < length s.own) ⊎ (length s.own ≤ f.unit) → (get_or (set s.own f.unit e.own) u idle).queue.next ≤ n + max_depth
        by (inl l) = let g : get_or (set s.own f.unit e.own) f.unit idle ≡ e.own = get_or-set_same s.own f.unit e.own idle l in rw (q, g) (let k = h.serials f.unit in let m = few.0 in omega arith)
        by (inr l) = rw (set_past s.own f.unit e.own l) (let k = h.serials u in omega arith)

pub counts_more : (s : State) → CountsRise max_depth s s
counts_more s n h = record { serials = λ u. (let k = h.serials u in omega arith); strays = λ a. (let k = h.strays a in omega arith) }
