-- The order of firings, by units, kinds of acts and numbers.
use Rattle.std.proofs.Common.{◌≡◌, ℕ, ◌<◌, ◌≤◌, ◌⊎◌, Bool, true, false, refl, sym, inl, inr, arith}
use Rattle.std.proofs.lemmas.Bool.{cases_lt}
use Rattle.std.specs.Ordering.{nat_cmp, is_lt, ordering_then}
use Rattle.std.specs.Cmp.{nat_cmp_is}
use Rattle.std.specs.declared.cmp.Ordering.{Ordering}
use Rattle.std.specs.declared.cmp.Ordering.TheVariants.{Less, Equal, Greater}
use Rattle.net_types.specs.declared.firing.Act.{Act}
use Rattle.net_types.specs.declared.firing.Act.TheVariants.{Go}
use Rattle.net_types.specs.declared.firing.Firing.{Firing}
use Rattle.net_types.specs.Order.{act_rank, act_number, is_before, ActLe, FiringLe}

-- how two numbers stand to each other
data Stand (a b : ℕ) : Ordering → Type 0 where
  less : a < b → Stand a b Less
  same : a ≡ b → Stand a b Equal
  more : b < a → Stand a b Greater

stand : (a b : ℕ) → Stand a b (nat_cmp a b)
stand a b = by (cases_lt a b) (cases_lt b a)
  where
    by : (a < b) ⊎ (b ≤ a) → (b < a) ⊎ (a ≤ b) → Stand a b (nat_cmp a b)
    by (inl l) y = rw (← nat_cmp_is a b Less l) (less l)
    by (inr l) (inl m) = rw (← nat_cmp_is a b Greater m) (more m)
    by (inr l) (inr m) = let e : a ≡ b = omega arith in rw (← nat_cmp_is a b Equal e) (same e)

numbers_le : (a b : ℕ) (o : Ordering) → Stand b a o → a ≤ b → is_lt o ≡ false
numbers_le a b Less (less l) h = absurd (omega arith)
numbers_le a b Equal (same e) h = refl
numbers_le a b Greater (more l) h = refl

pub le_before : (f g : Firing) → FiringLe f g → is_before g f ≡ false
le_before f g h =
    units (nat_cmp g.unit f.unit) (nat_cmp (act_rank g.act) (act_rank f.act)) (nat_cmp (act_number g.act) (act_number f.act)) (stand g.unit f.unit) (stand (act_rank g.act) (act_rank f.act)) (stand (act_number g.act) (act_number f.act)) h
  where
    units : (o p q : Ordering) → Stand g.unit f.unit o → Stand (act_rank g.act) (act_rank f.act) p → Stand (act_number g.act) (act_number f.act) q → FiringLe f g
        → is_lt (ordering_then o (ordering_then p q)) ≡ false
    units Greater p q x y z h = refl
    units Less p q (less l) y z (inl m) = absurd (omega arith)
    units Less p q (less l) y z (inr m) = let e = m.0 in absurd (omega arith)
    units Equal p q (same e) y z (inl m) = absurd (omega arith)
    units Equal Greater q x y z (inr m) = refl
    units Equal Less q x (less l) z (inr (e, inl m)) = absurd (omega arith)
    units Equal Less q x (less l) z (inr (e, inr m)) = let r = m.0 in absurd (omega arith)
    units Equal Equal q x (same r) z (inr (e, inl m)) = absurd (omega arith)
    units Equal Equal q x (same r) z (inr (e, inr m)) = numbers_le (act_number f.act) (act_number g.act) q z m.1

pub before_le : (f g : Firing) → is_before g f ≡ false → FiringLe f g
before_le f g h =
    units (nat_cmp g.unit f.unit) (nat_cmp (act_rank g.act) (act_rank f.act)) (nat_cmp (act_number g.act) (act_number f.act)) (stand g.unit f.unit) (stand (act_rank g.act) (act_rank f.act)) (stand (act_number g.act) (act_number f.act)) h
  where
    units : (o p q : Ordering) → Stand g.unit f.unit o → Stand (act_rank g.act) (act_rank f.act) p → Stand (act_number g.act) (act_number f.act) q
        → is_lt (ordering_then o (ordering_then p q)) ≡ false → FiringLe f g
    units Less p q x y z h = cc
    units Greater p q (more l) y z h = inl l
    units Equal Less q x y z h = cc
    units Equal Greater q (same e) (more l) z h = inr (sym e, inl l)
    units Equal Equal Less x y z h = cc
    units Equal Equal Equal (same e) (same r) (same n) h = inr (sym e, inr (sym r, omega arith))
    units Equal Equal Greater (same e) (same r) (more l) h = inr (sym e, inr (sym r, omega arith))

-- what is not before is before or not
pub before_or : (f g : Firing) → (is_before g f ≡ true) ⊎ FiringLe f g
before_or f g = by (is_before g f) refl
  where
    by : (b : Bool) → is_before g f ≡ b → (is_before g f ≡ true) ⊎ FiringLe f g
    by true e = inl e
    by false e = inr (before_le f g e)

pub go_least : (b : Act) → ActLe Go b
go_least Go = inr (refl, omega arith)
go_least _ = inl (omega arith)
