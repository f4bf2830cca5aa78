-- States of nets, and what a firing does: the table of firings, when one is enabled, and the state after it.
use Rattle.std.specs.Prelude.{ℕ, zero, suc, ◌+◌, ◌-◌, ◌<◌, ◌==◌, ◌&&◌, ◌||◌, min, not, nat_lt, Bool, true, false, cond, Option, Some, None, is_some, List, [], ◌∷◌, ◌++◌, length, get_or, set, map, replicate, IsSomeAnd}
use Rattle.std.specs.List.{list_all}
use Rattle.word_ops.specs.Operations.{op1_result, op2_result}
use Rattle.net_types.specs.declared.net.Port.{Port}
use Rattle.net_types.specs.declared.net.Net.{Net}
use Rattle.net_types.specs.declared.net.Unit.{Unit as Kind}
use Rattle.net_types.specs.declared.net.Unit.TheVariants.{Entry, Param, Const, Op1, Op2, Select, Fork, Mux, Cmerge, Branch, Sink, Read, Lsq, Exit}
use Rattle.net_types.specs.declared.firing.Act.{Act}
use Rattle.net_types.specs.declared.firing.Act.TheVariants.{Go, From, Send, Alloc, Addr, Data, Exec, Reply, Retire, End}
use Rattle.net_types.specs.declared.firing.Firing.{Firing}
use Rattle.net_types.specs.Nets.{into, out_of, chan_at, kind_of, uses, owns}
use Rattle.lsq_core.specs.Acts.{QueueState, can, step, in_place, out_place}
pub use Rattle.net_core.specs.declared.plan.Put.{Put}

-- what a unit keeps between its firings: whether it has fired (entry, parameters and exit), the result that the exit
-- took, a bit for each output of a fork, set where its head was sent there, and the entries of a queue;
-- what its kind does not use stays as it was at first
pub record Own : Type 0 where
  pub fired : Bool
  pub value : Option ℕ
  pub sent : List Bool
  pub queue : QueueState

-- the scalars of the inputs, the tokens of each channel, oldest first, what each unit keeps, and for each array its
-- elements and how many strays it has had
pub record State : Type 0 where
  pub scalars : List ℕ
  pub tokens : List (List ℕ)
  pub own : List Own
  pub arrays : List (List ℕ)
  pub strays : List ℕ

-- what a unit may read besides: the scalars, and whether the exit takes a result
pub record Setting : Type 0 where
  pub scalars : List ℕ
  pub valued : Bool

abbrev pub setting : Net → State → Setting
setting net s = record { scalars = s.scalars; valued = is_some net.result }

-- ---- rows

-- a row says which heads a firing looks at and which it takes, one after another, and then what it does: the token
-- that it puts, if any, what the unit keeps and what its array holds afterwards, and how many strays it adds.
-- It can read nothing else, and change nothing else
pub data Row : Type 0 where
  Stop : Row
  Look : (place : ℕ) (next : ℕ → Row) → Row
  Take : (place : ℕ) (next : ℕ → Row) → Row
  Fires : (put : Option Put) (own : Own) (array : List ℕ) (strays : ℕ) → Row

-- what a row does, with the places that it takes from
pub record Effect : Type 0 where
  pub takes : List ℕ
  pub put : Option Put
  pub own : Own
  pub array : List ℕ
  pub strays : ℕ

abbrev pub taking : ℕ → Option Effect → Option Effect
taking p None = None
taking p (Some e) = Some (record e { takes = p ∷ e.takes })

abbrev pub with_head : Option ℕ → (ℕ → Option Effect) → Option Effect
with_head None next = None
with_head (Some v) next = next v

-- the effect of a row where the heads at the unit's input places are these; none where a head that it asks for is not there
abbrev pub effect_of : Row → (ℕ → Option ℕ) → Option Effect
effect_of Stop heads = None
effect_of (Look p next) heads = with_head (heads p) (λ v. effect_of (next v) heads)
effect_of (Take p next) heads = with_head (heads p) (λ v. taking p (effect_of (next v) heads))
effect_of (Fires put own array strays) heads = Some (record { takes = []; put = put; own = own; array = array; strays = strays })

abbrev pub put_at : ℕ → ℕ → Option Put
put_at p v = Some (record { place = p; value = v })

-- only where it holds
abbrev pub when : Bool → Row → Row
when true r = r
when false r = Stop

-- ---- the kinds that only go

-- once: puts the value
abbrev pub entry_row : Own → List ℕ → ℕ → Row
entry_row o xs v = when (not o.fired) (Fires (put_at 0 v) (record o { fired = true }) xs 0)

-- the exit takes the control token and, where the net has a result, its value
abbrev pub exit_fires : Bool → Own → List ℕ → Row
exit_fires true o xs = Take 0 (λ c. Take 1 (λ v. Fires None (record o { fired = true; value = Some v }) xs 0))
exit_fires false o xs = Take 0 (λ c. Fires None (record o { fired = true }) xs 0)

abbrev pub in_bounds : ℕ → List ℕ → Bool
in_bounds a xs = nat_lt a (length xs)

-- the act Go of each kind; xs is the unit's array
abbrev pub go_row : Kind → Own → List ℕ → Setting → Row
go_row Entry o xs ss = entry_row o xs 0
go_row (Param j) o xs ss = entry_row o xs (get_or ss.scalars j 0)
go_row (Const w n) o xs ss = Take 0 (λ v. Fires (put_at 0 n) o xs 0)
go_row (Op1 op) o xs ss = Take 0 (λ v. Fires (put_at 0 (op1_result op v)) o xs 0)
go_row (Op2 op) o xs ss = Take 0 (λ v. Take 1 (λ w. Fires (put_at 0 (op2_result op v w)) o xs 0))
-- the first value where the condition is not 0, else the second; both are taken
go_row (Select w) o xs ss = Take 0 (λ c. Take 1 (λ x. Take 2 (λ y. Fires (put_at 0 (cond (c == 0) y x)) o xs 0)))
go_row (Fork w outs) o xs ss = Stop
-- the token of the input that the number at place 0 names, of the last input where there is no such
go_row (Mux w ins) o xs ss = Take 0 (λ c. Take (min c (ins - 1) + 1) (λ v. Fires (put_at 0 v) o xs 0))
go_row (Cmerge ins) o xs ss = Stop
-- to output 0 where the condition is not 0, else to output 1
go_row (Branch w) o xs ss = Take 0 (λ c. Take 1 (λ v. Fires (put_at (cond (c == 0) 1 0) v) o xs 0))
go_row (Sink w) o xs ss = Take 0 (λ v. Fires None o xs 0)
-- an address past the array reads 0 and is a stray
go_row (Read a) o xs ss = Take 0 (λ v. Fires (put_at 0 (get_or xs v 0)) o xs (cond (in_bounds v xs) 0 1))
go_row (Lsq a depth ports groups forward) o xs ss = Stop
go_row Exit o xs ss = when (not o.fired) (exit_fires ss.valued o xs)

-- the row for the act Go, and for no other act
abbrev pub on_go : Act → Row → Row
on_go Go r = r
on_go (From j) r = Stop
on_go (Send j) r = Stop
on_go (Alloc g) r = Stop
on_go (Addr p) r = Stop
on_go (Data p) r = Stop
on_go (Exec e) r = Stop
on_go (Reply p) r = Stop
on_go Retire r = Stop
on_go End r = Stop

-- ---- forks, control merges and queues

-- the bits after a send to output j: where all are set then, none is
abbrev pub sent_to : ℕ → List Bool → List Bool
sent_to j sent = let bits = set sent j true in cond (list_all (λ b. b) bits) (map (λ b. false) bits) bits

-- a send to an output that has not had the head yet; the last of them takes the token, the others look at it
abbrev pub send_row : ℕ → ℕ → Own → List ℕ → Row
send_row outs j o xs =
    when (nat_lt j outs && not (get_or o.sent j true))
    (cond (list_all (λ b. b) (set o.sent j true))
    (Take 0 (λ v. Fires (put_at j v) (record o { sent = sent_to j o.sent }) xs 0))
    (Look 0 (λ v. Fires (put_at j v) (record o { sent = sent_to j o.sent }) xs 0)))

abbrev pub fork_row : ℕ → Act → Own → List ℕ → Row
fork_row outs Go o xs = Stop
fork_row outs (From j) o xs = Stop
fork_row outs (Send j) o xs = send_row outs j o xs
fork_row outs (Alloc g) o xs = Stop
fork_row outs (Addr p) o xs = Stop
fork_row outs (Data p) o xs = Stop
fork_row outs (Exec e) o xs = Stop
fork_row outs (Reply p) o xs = Stop
fork_row outs Retire o xs = Stop
fork_row outs End o xs = Stop

-- a control merge puts the number of the input that it takes from
abbrev pub cmerge_row : ℕ → Act → Own → List ℕ → Row
cmerge_row ins Go o xs = Stop
cmerge_row ins (From j) o xs = when (nat_lt j ins) (Take j (λ v. Fires (put_at 0 j) o xs 0))
cmerge_row ins (Send j) o xs = Stop
cmerge_row ins (Alloc g) o xs = Stop
cmerge_row ins (Addr p) o xs = Stop
cmerge_row ins (Data p) o xs = Stop
cmerge_row ins (Exec e) o xs = Stop
cmerge_row ins (Reply p) o xs = Stop
cmerge_row ins Retire o xs = Stop
cmerge_row ins End o xs = Stop

-- a row that takes the token of a place, where there is one, and goes on with its value
abbrev pub gate : Option ℕ → (ℕ → Row) → Row
gate None next = next 0
gate (Some p) next = Take p next

abbrev pub put_out : Option ℕ → Option ℕ → Option Put
put_out None v = None
put_out (Some p) None = None
put_out (Some p) (Some v) = put_at p v

abbrev pub queue_fires : List Port → List (List ℕ) → Act → Own → List ℕ → ℕ → Row
queue_fires ports groups act o xs v =
    let r = step ports groups o.queue xs act v in
    Fires (put_out (out_place groups act) r.put) (record o { queue = r.queue }) r.array r.strays

-- an act that the queue allows, with the token of the act's input place
abbrev pub queue_row : (depth : ℕ) → List Port → List (List ℕ) → Act → Own → List ℕ → Row
queue_row depth ports groups act o xs =
    when (can depth groups o.queue act) (gate (in_place groups act) (queue_fires ports groups act o xs))

-- ---- the table of firings

unfoldable pub row : Kind → Act → Own → List ℕ → Setting → Row
row Entry act o xs ss = on_go act (go_row Entry o xs ss)
row (Param j) act o xs ss = on_go act (go_row (Param j) o xs ss)
row (Const w n) act o xs ss = on_go act (go_row (Const w n) o xs ss)
row (Op1 op) act o xs ss = on_go act (go_row (Op1 op) o xs ss)
row (Op2 op) act o xs ss = on_go act (go_row (Op2 op) o xs ss)
row (Select w) act o xs ss = on_go act (go_row (Select w) o xs ss)
row (Fork w outs) act o xs ss = fork_row outs act o xs
row (Mux w ins) act o xs ss = on_go act (go_row (Mux w ins) o xs ss)
row (Cmerge ins) act o xs ss = cmerge_row ins act o xs
row (Branch w) act o xs ss = on_go act (go_row (Branch w) o xs ss)
row (Sink w) act o xs ss = on_go act (go_row (Sink w) o xs ss)
row (Read a) act o xs ss = on_go act (go_row (Read a) o xs ss)
row (Lsq a depth ports groups forward) act o xs ss = queue_row depth ports groups act o xs
row Exit act o xs ss = on_go act (go_row Exit o xs ss)

-- ---- firings of a net

-- a queue without entries
abbrev pub empty_queue : Bool → QueueState
empty_queue forward = record { forward = forward; next = 0; items = [] }

-- what a unit keeps that has not fired and keeps nothing else
abbrev pub idle : Own
idle = record { fired = false; value = None; sent = []; queue = empty_queue false }

abbrev pub tokens_at : State → ℕ → List ℕ
tokens_at s c = get_or s.tokens c []

-- the oldest token
abbrev pub first : List ℕ → Option ℕ
first [] = None
first (x ∷ xs) = Some x

abbrev pub at_array : List (List ℕ) → Option ℕ → List ℕ
at_array arrays None = []
at_array arrays (Some a) = get_or arrays a []

-- the head at an input place of a unit
abbrev pub head_at : Net → State → ℕ → ℕ → Option ℕ
head_at net s u p = first (tokens_at s (into u p net.chans))

abbrev pub effect : Net → State → Firing → Option Effect
effect net s f =
    effect_of
    (row (kind_of net f.unit) f.act (get_or s.own f.unit idle) (at_array s.arrays (uses (kind_of net f.unit))) (setting net s))
    (head_at net s f.unit)

-- fewer tokens than slots where a token is put; past the channels there are no slots
abbrev pub has_room : Net → State → ℕ → Option Put → Type 0
has_room net s u None = Unit {0}
has_room net s u (Some w) = length (tokens_at s (out_of u w.place net.chans)) < (chan_at net (out_of u w.place net.chans)).slots

-- the firing has an effect, and room for the token that it puts
abbrev pub enabled : Net → State → Firing → Type 0
enabled net s f = IsSomeAnd (effect net s f) (λ e. has_room net s f.unit e.put)

-- is c one of these channels
abbrev pub among : ℕ → List ℕ → Bool
among c [] = false
among c (d ∷ ds) = (c == d) || among c ds

abbrev pub taken : Bool → List ℕ → List ℕ
taken true [] = []
taken true (x ∷ xs) = xs
taken false xs = xs

abbrev pub added : Option ℕ → List ℕ → List ℕ
added None xs = xs
added (Some v) xs = xs ++ v ∷ []

-- is a token taken from the channel c
abbrev pub takes_from : Net → ℕ → Effect → ℕ → Bool
takes_from net u e c = among c (map (λ p. into u p net.chans) e.takes)

-- the token that is put on the channel c
abbrev pub puts_on : Net → ℕ → Option Put → ℕ → Option ℕ
puts_on net u None c = None
puts_on net u (Some w) c = cond (c == out_of u w.place net.chans) (Some w.value) None

-- each list changed by what a function says of its number, counted from i
abbrev pub changed_from : (ℕ → List ℕ → List ℕ) → ℕ → List (List ℕ) → List (List ℕ)
changed_from change i [] = []
changed_from change i (xs ∷ xss) = change i xs ∷ changed_from change (suc i) xss

-- the tokens of the channel c after an effect: the oldest is gone where it is taken, and the new one is the youngest
abbrev pub moved : Net → ℕ → Effect → ℕ → List ℕ → List ℕ
moved net u e c xs = added (puts_on net u e.put c) (taken (takes_from net u e c) xs)

abbrev pub written : Option ℕ → List ℕ → List (List ℕ) → List (List ℕ)
written None xs arrays = arrays
written (Some a) xs arrays = set arrays a xs

abbrev pub raised : ℕ → List ℕ → ℕ → List ℕ
raised n [] a = []
raised n (x ∷ xs) zero = (x + n) ∷ xs
raised n (x ∷ xs) (suc a) = x ∷ raised n xs a

abbrev pub counted : Option ℕ → ℕ → List ℕ → List ℕ
counted None n strays = strays
counted (Some a) n strays = raised n strays a

-- the state after an effect of the unit u
abbrev pub applied : Net → ℕ → Effect → State → State
applied net u e s = record {
  scalars = s.scalars;
  tokens = changed_from (moved net u e) 0 s.tokens;
  own = set s.own u e.own;
  arrays = written (owns (kind_of net u)) e.array s.arrays;
  strays = counted (uses (kind_of net u)) e.strays s.strays;
}

abbrev pub after_effect : Net → State → ℕ → Option Effect → State
after_effect net s u None = s
after_effect net s u (Some e) = applied net u e s

-- the state after a firing; a firing without an effect leaves the state
abbrev pub after : Net → State → Firing → State
after net s f = after_effect net s f.unit (effect net s f)

-- what a unit keeps at first
abbrev pub opened : Kind → Own
opened Entry = idle
opened (Param j) = idle
opened (Const w n) = idle
opened (Op1 op) = idle
opened (Op2 op) = idle
opened (Select w) = idle
opened (Fork w outs) = record idle { sent = replicate outs false }
opened (Mux w ins) = idle
opened (Cmerge ins) = idle
opened (Branch w) = idle
opened (Sink w) = idle
opened (Read a) = idle
opened (Lsq a depth ports groups forward) = record idle { queue = empty_queue forward }
opened Exit = idle
