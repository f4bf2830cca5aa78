-- Private: only contracts of this crate cite it. The first unit that passes a test.
use Rattle.std.specs.Prelude.{◌≡◌, ℕ, ◌<◌, Bool, true, false, Option, Some, None, List, get_or}
use Rattle.net_types.specs.declared.net.Unit.{Unit as Kind}
use Rattle.net_types.specs.declared.net.Unit.TheVariants.{Sink}

-- of the units below the number n, the first that passes the test q, if one does
abbrev pub IsFirst : (Kind → Bool) → List Kind → ℕ → Option ℕ → Type 0
IsFirst q units n None = (k : ℕ) → k < n → q (get_or units k (Sink 0)) ≡ false
IsFirst q units n (Some f) = (f < n) × (q (get_or units f (Sink 0)) ≡ true) × ((k : ℕ) → k < f → q (get_or units k (Sink 0)) ≡ false)
