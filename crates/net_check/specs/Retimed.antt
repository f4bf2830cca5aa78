-- Nets that are equal but for slots and delays.
use Rattle.std.specs.Prelude.{◌≡◌, ℕ, suc, ◌<◌, ◌==◌, cond, Option, Some, None, List, [], ◌∷◌, map, length}
use Rattle.std.specs.List.{All}
use Rattle.std.specs.Option.{option_or}
use Rattle.net_types.specs.declared.net.Chan.{Chan}
use Rattle.net_types.specs.declared.net.Net.{Net}
use Rattle.net_check.specs.declared.retiming.Change.{Change}
use Rattle.net_check.specs.Checks.{IsChecked}

-- a channel without its slots and its delay, and a net without those of its channels
abbrev pub untimed : Chan → Chan
untimed c = record c { slots = 0; delay = 0 }

abbrev pub plain : Net → Net
plain net = record net { chans = map untimed net.chans }

-- equal but for slots and delays
abbrev pub SamePlain : Net → Net → Type 0
SamePlain net net2 = plain net2 ≡ plain net

-- and the second keeps the eight rules
pub record Retimed (net net2 : Net) : Type 0 where
  pub same : SamePlain net net2
  pub checked : IsChecked net2

-- the last change of a list that names the channel c
abbrev pub last_change : ℕ → List Change → Option Change
last_change c [] = None
last_change c (x ∷ xs) = option_or (last_change c xs) (cond (x.chan == c) (Some x) None)

-- the channel with the slots and the delay of a change
abbrev pub changed : Option Change → Chan → Chan
changed None c = c
changed (Some x) c = record c { slots = x.slots; delay = x.delay }

-- channels numbered from n on, each with the slots and the delay of the last change that names it
abbrev pub changed_from : List Change → ℕ → List Chan → List Chan
changed_from xs n [] = []
changed_from xs n (c ∷ cs) = changed (last_change n xs) c ∷ changed_from xs (suc n) cs

-- the net with the changes: of two changes of one channel the later counts
abbrev pub with_changes : List Change → Net → Net
with_changes xs net = record net { chans = changed_from xs 0 net.chans }

-- each change names a channel of the net
abbrev pub NameChannels : List Change → Net → Type 0
NameChannels xs net = All (λ (x : Change). x.chan < length net.chans) xs
