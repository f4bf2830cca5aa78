-- Private: only proofs cite it. Channels from which a firing takes.
use Rattle.std.specs.Prelude.{ℕ, List, map}
use Rattle.net_types.specs.declared.net.Net.{Net}
use Rattle.net_types.specs.Nets.{into}
use Rattle.net_core.specs.declared.plan.Takes.{Takes}
use Rattle.net_core.specs.Plans.{places_of}

-- the channels into the places that a firing takes from
abbrev pub taken_chans : Net → ℕ → Takes → List ℕ
taken_chans net u takes = map (λ p. into u p net.chans) (places_of takes)
