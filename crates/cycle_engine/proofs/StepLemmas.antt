-- Steps of turns: the acts of one kind by their numbers, and what a try of a place told.
use Rattle.std.proofs.Common.{◌≡◌, ◌≢◌, ℕ, ◌+◌, ◌<◌, ◌≤◌, ◌⊎◌, inl, inr, Bool, true, false, refl, sym, ap, subst, ◌∙◌, arith}
use Rattle.std.proofs.lemmas.Bool.{cases_lt}
use Rattle.net_types.specs.declared.net.Net.{Net}
use Rattle.net_types.specs.declared.net.Unit.{Unit as Kind}
use Rattle.net_types.specs.declared.firing.Act.{Act}
use Rattle.net_types.specs.declared.firing.Act.TheVariants.{Go, Exec, Retire, End}
use Rattle.net_types.specs.declared.firing.Firing.{Firing}
use Rattle.net_types.specs.Nets.{kind_of, firing}
use Rattle.net_types.specs.Order.{act_rank, act_number}
use Rattle.net_check.specs.Checks.{IsChecked}
use Rattle.net_check.specs.Ends.{is_lsq}
use Rattle.net_core.specs.Fire.{State, enabled}
use Rattle.net_core.specs.States.{state_of}
use Rattle.cycle_engine.specs.declared.engine.Engine.{Engine}
use Rattle.cycle_engine.specs.declared.engine.Bounds.{Bounds}
use Rattle.cycle_engine.specs.declared.marks.Marks.{Marks}
use Rattle.lsq_core.specs.Laws.{act_place}
use Rattle.cycle_engine.specs.Cycles.{Dated, IsOldest}
use Rattle.cycle_engine.specs.private.Goings.{Past, IsReady, IsTried}
use Rattle.cycle_engine.specs.private.Places.{IsNextAct, IsNextNumber, IsTurn, HasNoExec, count_in, numbered}
use Rattle.cycle_engine.proofs.PlaceLemmas.{exec_is}
use Rattle.cycle_engine.proofs.TurnLemmas.{turn_passed, queue_made, turn_on, turn_to}

-- ---- the acts of one kind, by their numbers

one_number : (net : Net) (k : Kind) (kind : Act) (n count : ℕ) → count ≡ count_in k kind → n < count → act_rank kind ≢ 6 → (act_rank (numbered kind n) ≡ act_rank kind) × (act_number (act_place (numbered kind n)) ≡ n)
one_number net k Go n count e l x = (refl, omega arith)
one_number net k (Exec j) n count e l x = absurd (x refl)
one_number net k Retire n count e l x = (refl, omega arith)
one_number net k End n count e l x = (refl, omega arith)
one_number net k _ n count e l x = (refl, refl)

other_oldest : (net : Net) (s : State) (u : ℕ) (a : Act) → act_rank a ≢ 6 → IsOldest net s u a
other_oldest net s u (Exec j) e = absurd (e refl)
other_oldest net s u _ e = tt

pub next_numbered : (net : Net) (s : State) (u : ℕ) (kind : Act) (n count : ℕ) (act : Act) → act_rank kind ≢ 6 → act ≡ numbered kind n → count ≡ count_in (kind_of net u) kind → n < count → IsNextAct net s (firing u act) (act_rank kind) n
next_numbered net s u kind n count act x is e l =
    let w = one_number net (kind_of net u) kind n count e l x in
    let r : act_rank act ≡ act_rank kind = ap act_rank is ∙ w.0 in
    record {
      rank = r;
      number = ap (λ a. act_number (act_place a)) is ∙ w.1;
      exec = λ z. absurd (x z);
      oldest = other_oldest net s u act (λ z. x (sym r ∙ z));
    }

-- the acts of a kind up to the next number are not enabled
pub turn_next : (net : Net) (past : Past) (b : Bounds) (c : ℕ) (start : Dated) (marks : Marks) (e : Engine) (u : ℕ) (kind : Act) (n m : ℕ) → IsNextNumber net (state_of e.state) u kind n m
    → IsTurn net past b c start marks e u (act_rank kind) n → IsTurn net past b c start marks e u (act_rank kind) m
turn_next net past b c start marks e u kind n m next t = turn_to net past b c start marks e u (act_rank kind) n m t (λ a en r. at a en r (cases_lt (act_number (act_place a)) n) (cases_lt (act_number (act_place a)) m))
  where
    at : (a : Act) → enabled net (state_of e.state) (firing u a) → act_rank a ≡ act_rank kind → (act_number (act_place a) < n) ⊎ (n ≤ act_number (act_place a)) → (act_number (act_place a) < m) ⊎ (m ≤ act_number (act_place a))
        → (act_number (act_place a) < n) ⊎ (m ≤ act_number (act_place a))
    at a en r (inl l) k = inl l
    at a en r (inr l) (inr k) = inr k
    at a en r (inr l) (inl k) = absurd (next.none a r l k en)

pub exec_on : (net : Net) (past : Past) (b : Bounds) (c : ℕ) (start : Dated) (marks : Marks) (e : Engine) (u : ℕ) → HasNoExec net (state_of e.state) u → IsTurn net past b c start marks e u 6 0 → IsTurn net past b c start marks e u 7 0
exec_on net past b c start marks e u none t = turn_on net past b c start marks e u 6 0 t (λ a n r. absurd (at a n r))
  where
    at : (a : Act) → enabled net (state_of e.state) (firing u a) → act_rank a ≡ 6 → ⊥
    at a n r = (let N : Act → Type 0 = λ x. enabled net (state_of e.state) (firing u x) in none (act_number a) (subst N (exec_is a r) n))

pub exec_done : (net : Net) (past : Past) (b : Bounds) (c : ℕ) (start : Dated) (marks : Marks) (e : Engine) (u : ℕ) → IsTurn net past b c start marks e u 6 1 → IsTurn net past b c start marks e u 7 0
exec_done net past b c start marks e u t = turn_on net past b c start marks e u 6 1 t (λ a n r. at a r)
  where
    at : (a : Act) → act_rank a ≡ 6 → act_number (act_place a) < 1
    at a r = (let z : act_number (act_place a) ≡ 0 = ap (λ x. act_number (act_place x)) (exec_is a r) in omega arith)

-- ---- what a try told

-- a queue tried a place
pub step_tried : (net : Net) (past : Past) (b : Bounds) (c : ℕ) (start : Dated) (marks : Marks) (old new : Engine) (f : Firing) (r n : ℕ) (did : Bool) → IsTurn net past b c start marks old f.unit r n → IsNextAct net (state_of old.state) f r n
    → IsTried net past b c start old new f did → new.marks ≡ old.marks → new.again ≡ old.again → IsChecked net → IsReady net b old → is_lsq (kind_of net f.unit) ≡ true → IsTurn net past b c start marks new f.unit r (n + 1)
step_tried net past b c start marks old new f r n true t next made marked again checked ready l = queue_made net past b c start marks old f r n t next new made checked ready.engine l marked again
step_tried net past b c start marks old new f r n false t next passed marked again checked ready l = turn_passed net past b c start marks old f r n t next new passed.same passed.refused
