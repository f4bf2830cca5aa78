-- The laws of saved states.
use Rattle.std.specs.Prelude.{◌≡◌, ℕ, ◌≤◌, List, length, Result}
use Rattle.el_base.specs.Limits.{max_firings}
use Rattle.net_types.specs.declared.net.Net.{Net}
use Rattle.net_types.specs.declared.firing.Firing.{Firing}
use Rattle.net_types.specs.declared.firing.Inputs.{Inputs}
use Rattle.net_types.specs.Inputs.{InputsFit}
use Rattle.net_check.specs.Checks.{IsChecked}
use Rattle.net_text.specs.Fits.{HeaderFits}
use Rattle.net_core.specs.declared.parts.Parts.{Parts}
use Rattle.net_core.specs.Fire.{State, enabled, after}
use Rattle.net_core.specs.Parts.{IsByUnit, state_from}
use Rattle.net_core.specs.Runs.{opening, Run, AtRest, Long}
use Rattle.net_core.specs.States.{CountsWithin}
use Rattle.snapshot.specs.declared.refusal.SnapRefusal.{SnapRefusal}
use Rattle.snapshot.specs.declared.saved.Saved.{Saved}
use Rattle.snapshot.specs.Fits.{Fits, max_count}
use Rattle.snapshot.specs.Refusals.{MaySave, Says, IsOnly}
use Rattle.snapshot.specs.Resumes.{IsOfRun, RestsFrom, IsPast}
use Rattle.snapshot.specs.Texts.{StateText}

-- the state has data that may be saved
pub record HasData (net : Net) (s : State) : Type 0 where
  pub parts : Parts
  pub fits : Fits net parts
  pub is : state_from net parts ≡ s

-- the opening state has
abbrev pub OpeningFits : Type 0
OpeningFits = (net : Net) (inputs : Inputs) → IsChecked net → InputsFit net inputs → HasData net (opening net inputs)

-- and so has the state after a firing
abbrev pub FitsStay : Type 0
FitsStay = (net : Net) (s : State) (f : Firing) → IsChecked net → HasData net s → enabled net s f → CountsWithin max_count (after net s f)
    → HasData net (after net s f)

-- so each state that a run of as many firings as are allowed leads to has
abbrev pub RunsFit : Type 0
RunsFit = (net : Net) (inputs : Inputs) (fs : List Firing) (s : State) → IsChecked net → InputsFit net inputs → Run net inputs fs s → length fs ≤ max_firings
    → HasData net s

-- data of the one form that are of one state are the same
abbrev pub OneForm : Type 0
OneForm = (net : Net) (p q : Parts) → IsChecked net → IsByUnit net p → IsByUnit net q → state_from net p ≡ state_from net q → p ≡ q

-- so where a state has data that may be saved, its data of the one form may
abbrev pub PartsFit : Type 0
PartsFit = (net : Net) (s : State) (p : Parts) → IsChecked net → HasData net s → IsByUnit net p → state_from net p ≡ s → Fits net p

-- the counts of a state that may be saved are those that are saved
abbrev pub SavedCountsFit : Type 0
SavedCountsFit = (net : Net) (p : Parts) → Fits net p → CountsWithin max_count (state_from net p)

-- From a state of a run on inputs, of as many firings, what is come to at rest is come to by some run on them, of as many
-- firings in all: so the results and counts are those of the one state at rest. And where the limit is passed there are
-- runs of more firings than it.
pub record GoesAsRun (net : Net) (inputs : Inputs) (s : Saved) : Type 0 where
  pub rests : (limit made : ℕ) (to : State) → RestsFrom net s limit made to → (fs : List Firing) × Run net inputs fs to × (length fs ≡ made)
  pub one : (fs : List Firing) (t : State) → Run net inputs fs t → AtRest net t → (limit made : ℕ) (to : State) → RestsFrom net s limit made to
      → (t ≡ to) × (length fs ≡ made)
  pub past : (limit : ℕ) → IsPast net s limit → Long net inputs limit

abbrev pub ResumesAsRun : Type 0
ResumesAsRun = (net : Net) (inputs : Inputs) (s : Saved) → IsChecked net → IsOfRun net inputs s → GoesAsRun net inputs s

-- ---- texts

-- a text is that of one state of a net that may be saved, where the types of the header's fields can hold it
abbrev pub TextsSpellOneState : Type 0
TextsSpellOneState = (net : Net) (s t : Saved) (bytes : List ℕ) → IsChecked net → HeaderFits net → MaySave net s → MaySave net t → StateText net s.made s.parts bytes
    → StateText net t.made t.parts bytes → s ≡ t

-- and an answer of the reader, want of memory aside, is the only one
abbrev pub SnapshotsHaveOneAnswer : Type 0
SnapshotsHaveOneAnswer = (net : Net) (bytes : List ℕ) (r : Result Saved SnapRefusal) → IsChecked net → HeaderFits net → Says net bytes r → IsOnly net bytes r
