-- Firings that wait for credits.
use Rattle.std.proofs.Common.{◌≡◌, ◌⊎◌, inl, inr, ℕ, ◌<◌, Option, Some, None, IsSome, List, length, get_or, set, refl, ap, ◌∙◌, sym, subst, get_or-set_same, get_or-set_other}
use Rattle.std.proofs.lemmas.Bool.{cases_eq}
use Rattle.net_types.specs.declared.firing.Firing.{Firing}
use Rattle.net_types.specs.Nets.{out_of}
use Rattle.net_core.specs.declared.plan.Put.{Put}
use Rattle.net_core.specs.Fire.{effect, enabled}
use Rattle.net_core.specs.States.{state_of}
use Rattle.net_worker.specs.Workers.{IsOutOf, WaitsStay, PutWaits, IsWaiting, AllWait}
use Rattle.net_worker.specs.declared.tables.Tables.{Tables}
use Rattle.net_worker.specs.declared.worker.Worker.{Worker}

module _ (t : Tables) (a b : Worker) (number : b.number ≡ a.number) (state : state_of b.portion.state ≡ state_of a.portion.state) (stay : WaitsStay a b) where
  put_on : (u : ℕ) (o : Option Put) → PutWaits t a u o → PutWaits t b u o
  put_on u None h = h
  put_on u (Some p) h = (subst (λ k. IsOutOf t k (out_of u p.place t.net.now.chans)) (sym number) h.0, stay (out_of u p.place t.net.now.chans) h.1)

  pub waiting_on : (f : Firing) → IsWaiting t a f → IsWaiting t b f
  waiting_on f h x does = put_on f.unit x.put (h x (ap (λ k. effect t.net.now k f) (sym state) ∙ does))

  pub waits_on : AllWait t a → AllWait t b
  waits_on h f mine e = waiting_on f (h f (mine ∙ number) (subst (λ k. enabled t.net.now k f) state e))

-- one channel more is waited for
pub noted_on : {A : Type 0} (xs : List (Option A)) (c d : ℕ) (x : A) → c < length xs → IsSome (get_or xs d None) → IsSome (get_or (set xs c (Some x)) d None)
noted_on xs c d x l h = by (cases_eq d c)
  where
    by : (d ≡ c) ⊎ (d ≡ c → ⊥) → IsSome (get_or (set xs c (Some x)) d None)
    by (inl q) = subst IsSome (sym (ap (λ k. get_or (set xs c (Some x)) k None) q ∙ get_or-set_same xs c (Some x) None l)) refl
    by (inr n) = subst IsSome (sym (get_or-set_other xs c d (Some x) None n)) h

-- an end that was laid for its credit is waited for
pub awaited_at : (xs : List (Option (Unit {0}))) (c : ℕ) → c < length xs → IsSome (get_or (set xs c (Some tt)) c None)
awaited_at xs c l = subst IsSome (sym (get_or-set_same xs c (Some tt) None l)) refl
