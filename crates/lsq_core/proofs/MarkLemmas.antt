-- The mark of a queue that forwards.
use Rattle.std.proofs.Common.{◌≡◌, ℕ, ◌+◌, ◌&&◌, Bool, true, false, cond, Option, Some, None, is_some, List, [], ◌∷◌, refl, ap, ap₂, ◌∙◌}
use Rattle.std.specs.List.{find, list_all}
use Rattle.net_types.specs.declared.firing.Act.{Act}
use Rattle.net_types.specs.declared.firing.Act.TheVariants.{Exec}
use Rattle.lsq_core.specs.declared.entry.Entry.{Entry}
use Rattle.lsq_core.specs.Acts.{QueueState, is_serial, ready, lets, known, waiting, last_such, source_ok, order_ok, may_exec, exec}
use Rattle.lsq_core.specs.Views.{QueueView, allows, given, acted}
use Rattle.lsq_core.specs.Runs.{all_allowed, after_acts, puts_of, put_before, strays_of, marked}
use Rattle.lsq_core.specs.Laws.{MarkAllowsMore}
use Rattle.lsq_core.proofs.EntryLemmas.{and_inv, and_true}

source_more : (fw : Bool) (o : Option Entry) → source_ok fw o ≡ true → source_ok true o ≡ true
source_more fw None h = refl
source_more fw (Some y) h = (and_inv fw (is_some y.datum) h).1

exec_more : (fw : Bool) (is : List Entry) (o : Option Entry) → may_exec fw is o ≡ true → may_exec true is o ≡ true
exec_more fw is None h = h
exec_more fw is (Some x) h = let w = and_inv (ready x) (order_ok fw is x) h in and_true (ready x) (order_ok true is x) w.0 (by x.store w.1)
  where
    by : (b : Bool) → cond b (list_all (lets x) is) (list_all (known x) is && source_ok fw (last_such (waiting x) is)) ≡ true
        → cond b (list_all (lets x) is) (list_all (known x) is && source_ok true (last_such (waiting x) is)) ≡ true
    by true h = h
    by false h =
        let w = and_inv (list_all (known x) is) (source_ok fw (last_such (waiting x) is)) h in
        and_true (list_all (known x) is) (source_ok true (last_such (waiting x) is)) w.0 (source_more fw (last_such (waiting x) is) w.1)

allowed_more : (q : QueueView) (a : Act) → allows q a ≡ true → allows (marked q) a ≡ true
allowed_more q (Exec e) h = exec_more q.queue.forward q.queue.items (find (is_serial e) q.queue.items) h
allowed_more q _ h = h

-- an act of the queue with the mark does the same
pub record Alike (q : QueueView) (a : Act) (v : ℕ) : Type 0 where
  pub after : acted (marked q) a v ≡ marked (acted q a v)
  pub puts : (given (marked q) a v).put ≡ (given q a v).put
  pub strays : (given (marked q) a v).strays ≡ (given q a v).strays

abbrev mark : QueueState → QueueState
mark q = record q { forward = true }

record SameExec (q : QueueState) (xs : List ℕ) (e : ℕ) (o : Option Entry) : Type 0 where
  pub queue : (exec (mark q) xs e o).queue ≡ mark (exec q xs e o).queue
  pub array : (exec (mark q) xs e o).array ≡ (exec q xs e o).array
  pub puts : (exec (mark q) xs e o).put ≡ (exec q xs e o).put
  pub strays : (exec (mark q) xs e o).strays ≡ (exec q xs e o).strays

same_exec : (q : QueueState) (xs : List ℕ) (e : ℕ) (o : Option Entry) → SameExec q xs e o
same_exec q xs e None = record { queue = refl; array = refl; puts = refl; strays = refl }
same_exec q xs e (Some x) = record { queue = refl; array = refl; puts = refl; strays = refl }

alike : (q : QueueView) (a : Act) (v : ℕ) → Alike q a v
alike q (Exec e) v =
    let s = same_exec q.queue q.array e (find (is_serial e) q.queue.items) in
    record { after = (λ i. record q { queue = s.queue i; array = s.array i }); puts = s.puts; strays = s.strays }
alike q _ v = record { after = refl; puts = refl; strays = refl }

pub mark_allows_more : MarkAllowsMore
mark_allows_more q [] h = record { allowed = refl; after = refl; puts = refl; strays = refl }
mark_allows_more q (a ∷ acts) h =
    let w = and_inv (allows q a.0) (all_allowed (acted q a.0 a.1) acts) h in
    let s = alike q a.0 a.1 in
    let r = mark_allows_more (acted q a.0 a.1) acts w.1 in
    record {
      allowed = and_true (allows (marked q) a.0) (all_allowed (acted (marked q) a.0 a.1) acts) (allowed_more q a.0 w.0) (ap (λ k. all_allowed k acts) s.after ∙ r.allowed);
      after = ap (λ k. after_acts k acts) s.after ∙ r.after;
      puts = ap₂ put_before s.puts (ap (λ k. puts_of k acts) s.after ∙ r.puts);
      strays = ap₂ (λ m n. m + n) s.strays (ap (λ k. strays_of k acts) s.after ∙ r.strays);
    }
