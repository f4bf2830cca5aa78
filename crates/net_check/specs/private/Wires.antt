-- Private: only contracts of this crate cite it. Tables of the channels at places.
use Rattle.std.specs.Prelude.{◌≡◌, ℕ, ◌+◌, ◌*◌, ◌<◌, ◌≤◌, nat_lt, cond, List, [], ◌∷◌, length, get_or}
use Rattle.net_types.specs.declared.net.Place.{Place}
use Rattle.net_types.specs.declared.net.Chan.{Chan}
use Rattle.net_types.specs.declared.net.Unit.{Unit as Kind}
use Rattle.net_types.specs.declared.net.Unit.TheVariants.{Entry, Param, Const, Op1, Op2, Select, Fork, Mux, Cmerge, Branch, Sink, Read, Lsq, Exit}
use Rattle.net_types.specs.Nets.{into, out_of, nowhere}
use Rattle.net_check.specs.declared.wires.Side.{Side}
use Rattle.net_check.specs.declared.wires.Side.TheVariants.{In, Out}

-- each input place of a unit has a number below this one
abbrev pub in_bound : Kind → ℕ
in_bound Entry = 0
in_bound (Param j) = 0
in_bound (Const w n) = 1
in_bound (Op1 op) = 1
in_bound (Op2 op) = 2
in_bound (Select w) = 3
in_bound (Fork w n) = 1
in_bound (Mux w n) = n + 1
in_bound (Cmerge n) = n
in_bound (Branch w) = 2
in_bound (Sink w) = 1
in_bound (Read a) = 1
in_bound (Lsq a d ps gs f) = length gs + 1 + 2 * length ps
in_bound Exit = 2

abbrev pub out_bound : Kind → ℕ
out_bound Entry = 1
out_bound (Param j) = 1
out_bound (Const w n) = 1
out_bound (Op1 op) = 1
out_bound (Op2 op) = 1
out_bound (Select w) = 1
out_bound (Fork w n) = n
out_bound (Mux w n) = 1
out_bound (Cmerge n) = 1
out_bound (Branch w) = 2
out_bound (Sink w) = 0
out_bound (Read a) = 1
out_bound (Lsq a d ps gs f) = length gs + 1 + length ps
out_bound Exit = 0

abbrev pub bound : Side → Kind → ℕ
bound In k = in_bound k
bound Out k = out_bound k

-- the end of a channel at an input place, or at an output place
abbrev pub end_of : Side → Chan → Place
end_of In c = c.to
end_of Out c = c.from

-- the number of the first channel with its end there, or the number of channels where there is none
abbrev pub first_at : Side → ℕ → ℕ → List Chan → ℕ
first_at In u p cs = into u p cs
first_at Out u p cs = out_of u p cs

-- where each unit's places begin, and at last how many there are
abbrev pub starts_from : Side → ℕ → List Kind → List ℕ
starts_from side n [] = n ∷ []
starts_from side n (k ∷ ks) = n ∷ starts_from side (n + bound side k) ks

-- the numbers never fall, and are as many as this at last
abbrev pub Rises : List ℕ → Type 0
Rises starts = (u v : ℕ) → u ≤ v → v < length starts → get_or starts u 0 ≤ get_or starts v 0

-- a table has an entry for each place
abbrev pub Fits : List ℕ → List ℕ → Type 0
Fits starts table = (u : ℕ) → u < length starts → get_or starts u 0 ≤ length table

-- a place that has an entry
abbrev pub Inside : List ℕ → ℕ → ℕ → Type 0
Inside starts u p = get_or starts u 0 + p < get_or starts (u + 1) 0

-- each channel ends at a place that has an entry
pub record AreInside (side : Side) (starts : List ℕ) (chans : List Chan) : Type 0 where
  pub each : (c : ℕ) → c < length chans → Inside starts (end_of side (get_or chans c nowhere)).unit (end_of side (get_or chans c nowhere)).place

-- what a table says of a place; `none` where it has no entry
abbrev pub wire : List ℕ → List ℕ → ℕ → ℕ → ℕ → ℕ
wire starts chans none u p = cond (nat_lt (get_or starts u 0 + p) (get_or starts (u + 1) 0)) (get_or chans (get_or starts u 0 + p) 0) none

-- the table tells the first channel at each place, and `none` is the number of channels
pub record IsTable (side : Side) (starts table : List ℕ) (none : ℕ) (chans : List Chan) : Type 0 where
  pub past : none ≡ length chans
  pub tells : (u p : ℕ) → wire starts table none u p ≡ first_at side u p chans

-- the table of all channels, with an entry for each place
pub record IsFilled (side : Side) (starts table : List ℕ) (chans : List Chan) : Type 0 where
  pub tells : IsTable side starts table (length chans) chans
  pub fits : Fits starts table
