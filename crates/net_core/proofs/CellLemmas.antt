-- A cell after a change that it admits, as the definitions see it.
use Rattle.std.proofs.Common.{◌≡◌, ℕ, Bool, true, false, cond, Option, Some, None, List, length, set, map, refl, ap, ◌∙◌, nat_eq, length-set}
use Rattle.std.proofs.lemmas.List.{length-map}
use Rattle.std.specs.List.{list_all, find}
use Rattle.net_types.specs.declared.net.Port.{Port}
use Rattle.net_types.specs.declared.net.Unit.{Unit as Kind}
use Rattle.net_types.specs.declared.net.Unit.TheVariants as unit
use Rattle.net_types.specs.declared.firing.Act.{Act}
use Rattle.net_types.specs.declared.firing.Act.TheVariants.{Send, Exec}
use Rattle.lsq_core.specs.declared.entry.Entry.{Entry}
use Rattle.lsq_core.specs.Acts.{QueueState, step, exec, is_serial}
use Rattle.net_core.specs.declared.cell.Cell.{Cell}
use Rattle.net_core.specs.declared.cell.Cell.TheVariants as cell
use Rattle.net_core.specs.declared.plan.Change.{Change}
use Rattle.net_core.specs.declared.plan.Change.TheVariants as change
use Rattle.net_core.specs.Fire.{idle, sent_to}
use Rattle.net_core.specs.Plans.{own_of, own_with, array_with, strays_of, admits, keeps, cell_after, strays_after, IsShaped}
use Rattle.net_core.specs.States.{queue_array}

exec_mark : (q : QueueState) (xs : List ℕ) (e : ℕ) (o : Option Entry) → (exec q xs e o).queue.forward ≡ q.forward
exec_mark q xs e None = refl
exec_mark q xs e (Some x) = refl

-- no act changes the mark
pub mark_stays : (ps : List Port) (gs : List (List ℕ)) (q : QueueState) (xs : List ℕ) (act : Act) (v : ℕ) → (step ps gs q xs act v).queue.forward ≡ q.forward
mark_stays ps gs q xs (Exec e) v = exec_mark q xs e (find (is_serial e) q.items)
mark_stays ps gs q xs _ v = refl

pub own_after : (k : Kind) (c : Cell) (ch : Change) (xs : List ℕ) → keeps k c ≡ true → IsShaped k c xs → admits c ch ≡ true → own_of (cell_after ch c) ≡ own_with k ch (own_of c) xs
own_after k c change.Keep xs f h a = refl
own_after k c change.Stray xs f h a = refl
own_after k cell.Plain change.Fire xs f h a = cc
own_after k cell.Plain (change.Finish w) xs f h a = cc
own_after k cell.Plain (change.Send j) xs f h a = cc
own_after k cell.Plain (change.Act act v) xs f h a = cc
own_after k (cell.Start b) change.Fire xs f h a = refl
own_after k (cell.Start b) (change.Finish w) xs f h a = cc
own_after k (cell.Start b) (change.Send j) xs f h a = cc
own_after k (cell.Start b) (change.Act act v) xs f h a = cc
own_after k (cell.Exit b w) change.Fire xs f h a = refl
own_after k (cell.Exit b w) (change.Finish v) xs f h a = refl
own_after k (cell.Exit b w) (change.Send j) xs f h a = cc
own_after k (cell.Exit b w) (change.Act act v) xs f h a = cc
own_after k (cell.Fork bits) change.Fire xs f h a = cc
own_after k (cell.Fork bits) (change.Finish w) xs f h a = cc
own_after k (cell.Fork bits) (change.Send j) xs f h a = refl
own_after k (cell.Fork bits) (change.Act act v) xs f h a = cc
own_after k (cell.Queue b) change.Fire xs f h a = cc
own_after k (cell.Queue b) (change.Finish w) xs f h a = cc
own_after k (cell.Queue b) (change.Send j) xs f h a = cc
own_after (unit.Lsq n d ps gs fw) (cell.Queue b) (change.Act act v) xs f h a =
    let p = h.port in let g = h.group in let y = h.elements in
    λ i. record idle { queue = (step (p i) (g i) b.value.queue (y i) act v).queue }
own_after k (cell.Queue b) (change.Act act v) xs f h a = cc

pub strays_same : (k : Kind) (c : Cell) (ch : Change) (xs : List ℕ) → keeps k c ≡ true → IsShaped k c xs → admits c ch ≡ true → strays_after ch c ≡ strays_of k ch (own_of c) xs
strays_same k c change.Keep xs f h a = refl
strays_same k c change.Stray xs f h a = refl
strays_same k c change.Fire xs f h a = refl
strays_same k c (change.Finish w) xs f h a = refl
strays_same k c (change.Send j) xs f h a = refl
strays_same k cell.Plain (change.Act act v) xs f h a = cc
strays_same k (cell.Start b) (change.Act act v) xs f h a = cc
strays_same k (cell.Exit b w) (change.Act act v) xs f h a = cc
strays_same k (cell.Fork bits) (change.Act act v) xs f h a = cc
strays_same (unit.Lsq n d ps gs fw) (cell.Queue b) (change.Act act v) xs f h a =
    let p = h.port in let g = h.group in let y = h.elements in
    λ i. (step (p i) (g i) b.value.queue (y i) act v).strays
strays_same k (cell.Queue b) (change.Act act v) xs f h a = cc

pub array_after : (n d : ℕ) (ps : List Port) (gs : List (List ℕ)) (fw : Bool) (c : Cell) (ch : Change) (xs : List ℕ) → keeps (unit.Lsq n d ps gs fw) c ≡ true
    → IsShaped (unit.Lsq n d ps gs fw) c xs → queue_array (cell_after ch c) ≡ array_with (unit.Lsq n d ps gs fw) ch (own_of c) xs
array_after n d ps gs fw cell.Plain ch xs f h = cc
array_after n d ps gs fw (cell.Start b) ch xs f h = cc
array_after n d ps gs fw (cell.Exit b v) ch xs f h = cc
array_after n d ps gs fw (cell.Fork bits) ch xs f h = cc
array_after n d ps gs fw (cell.Queue b) change.Keep xs f h = h.elements
array_after n d ps gs fw (cell.Queue b) change.Stray xs f h = h.elements
array_after n d ps gs fw (cell.Queue b) change.Fire xs f h = h.elements
array_after n d ps gs fw (cell.Queue b) (change.Finish w) xs f h = h.elements
array_after n d ps gs fw (cell.Queue b) (change.Send j) xs f h = h.elements
array_after n d ps gs fw (cell.Queue b) (change.Act act v) xs f h =
    let p = h.port in let g = h.group in let y = h.elements in
    λ i. (step (p i) (g i) b.value.queue (y i) act v).array

pub length_sent : (j : ℕ) (bits : List Bool) → length (sent_to j bits) ≡ length bits
length_sent j bits = by (list_all (λ b. b) (set bits j true))
  where
    by : (b : Bool) → length (cond b (map (λ b. false) (set bits j true)) (set bits j true)) ≡ length bits
    by true = length-map (set bits j true) (λ b. false) ∙ length-set bits j true
    by false = length-set bits j true

keeps_start : (k : Kind) (b d : Bool) → keeps k (cell.Start b) ≡ keeps k (cell.Start d)
keeps_start unit.Entry b d = refl
keeps_start k b d = refl

keeps_exit : (k : Kind) (b d : Bool) (v w : Option ℕ) → keeps k (cell.Exit b v) ≡ keeps k (cell.Exit d w)
keeps_exit unit.Entry b d v w = refl
keeps_exit k b d v w = refl

keeps_fork : (k : Kind) (x y : List Bool) → length x ≡ length y → keeps k (cell.Fork x) ≡ keeps k (cell.Fork y)
keeps_fork (unit.Fork w n) x y e = ap (λ l. nat_eq l n) e
keeps_fork k x y e = refl

keeps_queue : (k : Kind) (p q : _) → keeps k (cell.Queue p) ≡ keeps k (cell.Queue q)
keeps_queue unit.Entry p q = refl
keeps_queue k p q = refl

pub keeps_after : (k : Kind) (c : Cell) (ch : Change) → keeps k c ≡ true → keeps k (cell_after ch c) ≡ true
keeps_after k c change.Keep f = f
keeps_after k c change.Stray f = f
keeps_after k cell.Plain ch f = plain ch
  where
    plain : (ch : Change) → keeps k (cell_after ch cell.Plain) ≡ true
    plain change.Keep = f
    plain change.Fire = f
    plain (change.Finish w) = f
    plain (change.Send j) = f
    plain change.Stray = f
    plain (change.Act act v) = f
keeps_after k (cell.Start b) change.Fire f = keeps_start k true b ∙ f
keeps_after k (cell.Start b) (change.Finish w) f = f
keeps_after k (cell.Start b) (change.Send j) f = f
keeps_after k (cell.Start b) (change.Act act v) f = f
keeps_after k (cell.Exit b v) change.Fire f = keeps_exit k true b v v ∙ f
keeps_after k (cell.Exit b v) (change.Finish w) f = keeps_exit k true b (Some w) v ∙ f
keeps_after k (cell.Exit b v) (change.Send j) f = f
keeps_after k (cell.Exit b v) (change.Act act w) f = f
keeps_after k (cell.Fork bits) change.Fire f = f
keeps_after k (cell.Fork bits) (change.Finish w) f = f
keeps_after k (cell.Fork bits) (change.Send j) f = keeps_fork k (sent_to j bits) bits (length_sent j bits) ∙ f
keeps_after k (cell.Fork bits) (change.Act act v) f = f
keeps_after k (cell.Queue b) change.Fire f = f
keeps_after k (cell.Queue b) (change.Finish w) f = f
keeps_after k (cell.Queue b) (change.Send j) f = f
keeps_after k (cell.Queue b) (change.Act act v) f = keeps_queue k _ b ∙ f

pub shaped_after : (k : Kind) (c : Cell) (ch : Change) → keeps k c ≡ true → IsShaped k c (queue_array c) → IsShaped k (cell_after ch c) (queue_array (cell_after ch c))
shaped_after (unit.Lsq n d ps gs fw) (cell.Queue b) change.Keep f h = h
shaped_after (unit.Lsq n d ps gs fw) (cell.Queue b) change.Stray f h = h
shaped_after (unit.Lsq n d ps gs fw) (cell.Queue b) change.Fire f h = h
shaped_after (unit.Lsq n d ps gs fw) (cell.Queue b) (change.Finish w) f h = h
shaped_after (unit.Lsq n d ps gs fw) (cell.Queue b) (change.Send j) f h = h
shaped_after (unit.Lsq n d ps gs fw) (cell.Queue b) (change.Act act v) f h = record {
  deep = h.deep;
  port = h.port;
  group = h.group;
  mark = mark_stays b.value.ports b.value.groups b.value.queue b.value.array act v ∙ h.mark;
  elements = refl;
}
shaped_after (unit.Lsq n d ps gs fw) c ch f h = cc
shaped_after k c ch f h = tt
