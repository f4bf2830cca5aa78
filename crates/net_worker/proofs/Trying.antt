-- Acts of a unit, tried one after another.
use Rattle.std.proofs.Common.{◌≡◌, ◌⊎◌, inl, inr, ℕ, ◌<◌, ◌≤◌, refl, ap, sym, subst, arith}
use Rattle.std.proofs.lemmas.Bool.{cases_lt, cases_eq}
use Rattle.net_types.specs.declared.firing.Act.{Act}
use Rattle.net_types.specs.declared.firing.Act.TheVariants.{Go, From, Send, Alloc, Addr, Data, Exec, Reply, Retire, End}
use Rattle.net_types.specs.Nets.{firing}
use Rattle.net_types.specs.Order.{ActFits, ActLe, IsNextAct, act_rank, act_number}
use Rattle.net_types.specs.declared.net.Net.{Net}
use Rattle.net_core.specs.Fire.{State, enabled}
use Rattle.net_core.specs.Finds.{IsLeastAct, IsQuiet}

act_same : (a b : Act) → act_rank a ≡ act_rank b → act_number a ≡ act_number b → a ≡ b
act_same Go Go r n = refl
act_same (From i) (From j) r n = ap From n
act_same (Send i) (Send j) r n = ap Send n
act_same (Alloc i) (Alloc j) r n = ap Alloc n
act_same (Addr i) (Addr j) r n = ap Addr n
act_same (Data i) (Data j) r n = ap Data n
act_same (Exec i) (Exec j) r n = ap Exec n
act_same (Reply i) (Reply j) r n = ap Reply n
act_same Retire Retire r n = refl
act_same End End r n = refl
act_same _ _ r n = absurd (omega arith)

both_le : (a b : Act) → ActLe a b → ActLe b a → a ≡ b
both_le a b (inl l) (inl k) = absurd (omega arith)
both_le a b (inl l) (inr k) = absurd (omega (arith, k.0))
both_le a b (inr l) (inl k) = absurd (omega (arith, l.0))
both_le a b (inr l) (inr k) = act_same a b l.0 (omega (arith, l.1, k.1))

pub go_least : (b : Act) → ActLe Go b
go_least Go = inr (refl, omega arith)
go_least _ = inl (omega arith)

pub le_or : (a b : Act) → ActLe a b ⊎ (ActLe a b → ⊥)
le_or a b = by (cases_lt (act_rank a) (act_rank b)) (cases_eq (act_rank a) (act_rank b)) (cases_lt (act_number b) (act_number a))
  where
    by : (act_rank a < act_rank b) ⊎ (act_rank b ≤ act_rank a) → (act_rank a ≡ act_rank b) ⊎ (act_rank a ≡ act_rank b → ⊥) → (act_number b < act_number a) ⊎ (act_number a ≤ act_number b) → ActLe a b ⊎ (ActLe a b → ⊥)
    by (inl l) q k = inl (inl l)
    by (inr l) (inl q) (inr k) = inl (inr (q, k))
    by (inr l) (inl q) (inl k) = inr (λ h. not_le l k h)
      where
        not_le : act_rank b ≤ act_rank a → act_number b < act_number a → ActLe a b → ⊥
        not_le l k (inl x) = absurd (omega arith)
        not_le l k (inr x) = absurd (omega (arith, x.1))
    by (inr l) (inr n) k = inr (λ h. not_le h)
      where
        not_le : ActLe a b → ⊥
        not_le (inl x) = absurd (omega arith)
        not_le (inr x) = n x.0

-- a property of all acts before `from` that are enabled, and of the least one from there on
module _ (net : Net) (s : State) (u : ℕ) (from act : Act) (P : Act → Type 0) (sofar : (x : Act) → enabled net s (firing u x) → (ActLe from x → ⊥) → P x)
    (least : IsLeastAct net s u from act) (now : P act) where
  -- all up to the act
  pub up_to : (x : Act) → enabled net s (firing u x) → ActLe x act → P x
  up_to x e l = by (le_or from x)
    where
      by : ActLe from x ⊎ (ActLe from x → ⊥) → P x
      by (inr n) = sofar x e n
      by (inl k) = subst P (sym (both_le x act l (least.least x e k))) now

  -- all before the next act
  pub before_next : (next : Act) → IsNextAct act next → (x : Act) → ActFits x → enabled net s (firing u x) → (ActLe next x → ⊥) → P x
  before_next next i x fits e n = by (le_or x act)
    where
      by : ActLe x act ⊎ (ActLe x act → ⊥) → P x
      by (inl l) = up_to x e l
      by (inr k) = absurd (n (i.least x fits k))

-- where none is enabled from there on
pub all_quiet : (net : Net) (s : State) (u : ℕ) (from : Act) (P : Act → Type 0) → ((x : Act) → enabled net s (firing u x) → (ActLe from x → ⊥) → P x) → IsQuiet net s u from
    → (x : Act) → enabled net s (firing u x) → P x
all_quiet net s u from P sofar quiet x e = sofar x e (quiet x e)
