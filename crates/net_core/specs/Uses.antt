-- The heads that a row uses.
use Rattle.std.specs.Prelude.{◌≡◌, ℕ, Bool, true, false, Option, Some, None, List, [], ◌∷◌, get_or}
use Rattle.net_types.specs.declared.net.Net.{Net}
use Rattle.net_types.specs.declared.net.Unit.{Unit as Kind}
use Rattle.net_types.specs.declared.net.Unit.TheVariants.{Entry, Param, Const, Op1, Op2, Select, Fork, Mux, Cmerge, Branch, Sink, Read, Lsq, Exit}
use Rattle.net_types.specs.declared.firing.Firing.{Firing}
use Rattle.net_types.specs.Nets.{kind_of, uses}
use Rattle.net_core.specs.Fire.{State, Row, Stop, Look, Take, Fires, row, idle, at_array, setting, head_at}
use Rattle.net_core.specs.declared.plan.Takes.{Takes}
use Rattle.net_core.specs.Plans.{places_of}

abbrev pub then_used : Option ℕ → (ℕ → List ℕ) → List ℕ
then_used None next = []
then_used (Some v) next = next v

-- the places whose heads a row looks at or takes, one after another, up to one that has none
abbrev pub used_by : Row → (ℕ → Option ℕ) → List ℕ
used_by Stop heads = []
used_by (Look p next) heads = p ∷ then_used (heads p) (λ v. used_by (next v) heads)
used_by (Take p next) heads = p ∷ then_used (heads p) (λ v. used_by (next v) heads)
used_by (Fires put own array strays) heads = []

-- the same heads at these places
abbrev pub AllSame : (ℕ → Option ℕ) → (ℕ → Option ℕ) → List ℕ → Type 0
AllSame h g [] = Unit {0}
AllSame h g (p ∷ ps) = (g p ≡ h p) × AllSame h g ps

-- the places whose heads a firing takes or looks at
abbrev pub used : Net → State → Firing → List ℕ
used net s f =
    used_by
    (row (kind_of net f.unit) f.act (get_or s.own f.unit idle) (at_array s.arrays (uses (kind_of net f.unit))) (setting net s))
    (head_at net s f.unit)

-- forks alone look at a head that they may not take
abbrev pub is_fork : Kind → Bool
is_fork Entry = false
is_fork (Param j) = false
is_fork (Const w n) = false
is_fork (Op1 op) = false
is_fork (Op2 op) = false
is_fork (Select w) = false
is_fork (Fork w outs) = true
is_fork (Mux w ins) = false
is_fork (Cmerge ins) = false
is_fork (Branch w) = false
is_fork (Sink w) = false
is_fork (Read a) = false
is_fork (Lsq a d ps gs f) = false
is_fork Exit = false

-- the places whose heads a plan uses
abbrev pub places_used : Bool → Takes → List ℕ
places_used true takes = 0 ∷ []
places_used false takes = places_of takes
