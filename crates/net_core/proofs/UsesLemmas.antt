-- An effect rests on the heads that its row uses.
use Rattle.std.proofs.Common.{◌≡◌, ℕ, Option, Some, None, List, refl, ap}
use Rattle.net_core.specs.Fire.{Stop, Look, Take, Fires, Effect, effect_of, with_head, taking}
use Rattle.net_core.specs.Uses.{used_by, then_used, AllSame}
use Rattle.net_core.specs.Laws.{RowsUseOnly}

next_same : (h g : ℕ → Option ℕ) (o : Option ℕ) (used : ℕ → List ℕ) (k l : ℕ → Option Effect)
    → AllSame h g (then_used o used) → ((v : ℕ) → AllSame h g (used v) → k v ≡ l v) → with_head o k ≡ with_head o l
next_same h g None used k l s f = refl
next_same h g (Some v) used k l s f = f v s

pub rows_use_only : RowsUseOnly
rows_use_only Stop h g s = refl
rows_use_only (Look p next) h g s =
    rw s.0 (next_same h g (h p) (λ v. used_by (next v) h) (λ v. effect_of (next v) g) (λ v. effect_of (next v) h) s.1 (λ v t. rows_use_only (next v) h g t))
rows_use_only (Take p next) h g s =
    rw s.0
    (next_same h g (h p) (λ v. used_by (next v) h) (λ v. taking p (effect_of (next v) g)) (λ v. taking p (effect_of (next v) h)) s.1
    (λ v t. ap (taking p) (rows_use_only (next v) h g t)))
rows_use_only (Fires put own array strays) h g s = refl
