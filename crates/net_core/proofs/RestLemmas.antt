-- A state without tokens and entries, in which the entry and the parameters have fired, is at rest.
use Rattle.std.proofs.Common.{◌≡◌, ℕ, ◌&&◌, not, nat_lt, Bool, true, false, cond, Option, Some, None, List, [], ◌∷◌, get_or, set, refl, sym, ap, ◌∙◌}
use Rattle.std.specs.List.{list_all}
use Rattle.net_types.specs.declared.net.Port.{Port}
use Rattle.net_types.specs.declared.net.Unit.{Unit as Kind}
use Rattle.net_types.specs.declared.net.Unit.TheVariants.{Entry, Param, Fork, Cmerge, Lsq, Exit}
use Rattle.net_types.specs.declared.firing.Act.{Act}
use Rattle.net_types.specs.declared.firing.Act.TheVariants.{Go, From, Send, Alloc, End}
use Rattle.net_types.specs.Nets.{into, kind_of, uses}
use Rattle.lsq_core.specs.declared.entry.Entry.{Entry as Item}
use Rattle.lsq_core.specs.Acts.{can, in_place}
use Rattle.net_core.specs.Fire.{Setting, setting, Row, Look, Take, Fires, effect_of, put_at, when, gate, on_go, go_row, exit_fires, fork_row, cmerge_row, queue_row, queue_fires, sent_to, Own, idle, at_array, first, head_at, row}
use Rattle.net_core.specs.Laws.{starts, SpentIsAtRest}
use Rattle.net_core.proofs.GoesLemmas.{goes}

-- a row that asks for a head has no effect without heads
abbrev pub NoEffect : Row → (ℕ → Option ℕ) → Type 0
NoEffect r h = effect_of r h ≡ None

without : (p : ℕ) (next : ℕ → Row) (h : ℕ → Option ℕ) → ((q : ℕ) → h q ≡ None) → NoEffect (Take p next) h
without p next h none = rw (none p) refl

when_none : (b : Bool) (r : Row) (h : ℕ → Option ℕ) → (b ≡ true → NoEffect r h) → NoEffect (when b r) h
when_none true r h n = n refl
when_none false r h n = refl

go_none : (act : Act) (r : Row) (h : ℕ → Option ℕ) → NoEffect r h → NoEffect (on_go act r) h
go_none Go r h n = n
go_none _ r h n = refl

started : (b : Bool) (r : Row) (h : ℕ → Option ℕ) → b ≡ true → NoEffect (when (not b) r) h
started true r h e = refl
started false r h e = cc

exit_none : (b : Bool) (o : Own) (xs : List ℕ) (h : ℕ → Option ℕ) → ((q : ℕ) → h q ≡ None) → NoEffect (exit_fires b o xs) h
exit_none true o xs h none = rw (none 0) refl
exit_none false o xs h none = rw (none 0) refl

send_none : (outs : ℕ) (act : Act) (o : Own) (xs : List ℕ) (h : ℕ → Option ℕ) → ((q : ℕ) → h q ≡ None) → NoEffect (fork_row outs act o xs) h
send_none outs (Send j) o xs h none =
    when_none (nat_lt j outs && not (get_or o.sent j true))
    (cond (list_all (λ b. b) (set o.sent j true)) (Take 0 (λ v. Fires (put_at j v) (record o { sent = sent_to j o.sent }) xs 0)) (Look 0 (λ v. Fires (put_at j v) (record o { sent = sent_to j o.sent }) xs 0)))
    h (λ c. by (list_all (λ b. b) (set o.sent j true)))
  where
    by : (b : Bool) → NoEffect (cond b (Take 0 (λ v. Fires (put_at j v) (record o { sent = sent_to j o.sent }) xs 0)) (Look 0 (λ v. Fires (put_at j v) (record o { sent = sent_to j o.sent }) xs 0))) h
    by true = rw (none 0) refl
    by false = rw (none 0) refl
send_none outs _ o xs h none = refl

merge_none : (ins : ℕ) (act : Act) (o : Own) (xs : List ℕ) (h : ℕ → Option ℕ) → ((q : ℕ) → h q ≡ None) → NoEffect (cmerge_row ins act o xs) h
merge_none ins (From j) o xs h none = when_none (nat_lt j ins) (Take j (λ v. Fires (put_at 0 j) o xs 0)) h (λ c. without j (λ v. Fires (put_at 0 j) o xs 0) h none)
merge_none ins _ o xs h none = refl

-- a queue without entries allows acts that take a token alone
can_none : (depth : ℕ) (groups : List (List ℕ)) (forward : Bool) (n : ℕ) (is : List Item) (act : Act) → is ≡ [] → can depth groups (record { forward = forward; next = n; items = is }) act ≡ true
    → (p : ℕ) × (in_place groups act ≡ Some p)
can_none depth groups fw n [] (Alloc g) e c = (g, refl)
can_none depth groups fw n [] End e c = (_, refl)
can_none depth groups fw n [] act e c = cc
can_none depth groups fw n (x ∷ is) act e c = cc

queue_none : (depth : ℕ) (ports : List Port) (groups : List (List ℕ)) (act : Act) (o : Own) (xs : List ℕ) (h : ℕ → Option ℕ) → o.queue.items ≡ [] → ((q : ℕ) → h q ≡ None)
    → NoEffect (queue_row depth ports groups act o xs) h
queue_none depth ports groups act o xs h e none =
    when_none (can depth groups o.queue act) (gate (in_place groups act) (queue_fires ports groups act o xs)) h (λ c.
    let p = can_none depth groups o.queue.forward o.queue.next o.queue.items act e c in
    rw (p.1, none p.0) refl)

pub row_none : (k : Kind) (act : Act) (o : Own) (xs : List ℕ) (ss : Setting) (h : ℕ → Option ℕ) → (starts k ≡ true → o.fired ≡ true) → o.queue.items ≡ [] → ((q : ℕ) → h q ≡ None) → NoEffect (row k act o xs ss) h
unfolding row
row_none Entry act o xs ss h s e none = go_none act (go_row Entry o xs ss) h (started o.fired (Fires (put_at 0 0) (record o { fired = true }) xs 0) h (s refl))
row_none (Param j) act o xs ss h s e none = go_none act (go_row (Param j) o xs ss) h (started o.fired (Fires (put_at 0 (get_or ss.scalars j 0)) (record o { fired = true }) xs 0) h (s refl))
row_none (Fork w outs) act o xs ss h s e none = send_none outs act o xs h none
row_none (Cmerge ins) act o xs ss h s e none = merge_none ins act o xs h none
row_none (Lsq a d ps gs fw) act o xs ss h s e none = queue_none d ps gs act o xs h e none
row_none Exit act o xs ss h s e none = go_none act (go_row Exit o xs ss) h (when_none (not o.fired) (exit_fires ss.valued o xs) h (λ c. exit_none ss.valued o xs h none))
row_none k act o xs ss h s e none = go_none act (go_row k o xs ss) h (rw (none 0) refl)

pub spent_is_at_rest : SpentIsAtRest
spent_is_at_rest net s spent f h =
    let w = goes net s f h in
    let none : (q : ℕ) → head_at net s f.unit q ≡ None = λ q. ap first (spent.tokens (into f.unit q net.chans)) in
    let z = row_none (kind_of net f.unit) f.act (get_or s.own f.unit idle) (at_array s.arrays (uses (kind_of net f.unit))) (setting net s) (head_at net s f.unit) (spent.started f.unit) (spent.entries f.unit) none in
    let y : None ≡ Some w.0 = sym z ∙ w.1.is in cc
