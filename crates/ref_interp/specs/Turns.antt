-- A run that is over took so many turns, and needs no more.
use Rattle.std.specs.Prelude.{◌≡◌, ℕ, ◌+◌, ◌≤◌}
use Rattle.c_ast.specs.declared.typed.Typed.{Typed}
use Rattle.c_meaning.specs.declared.profile.Profile.{Profile}
use Rattle.c_meaning.specs.Stores.{Inputs}
use Rattle.c_meaning.specs.Runs.{Ended}
use Rattle.c_meaning.specs.Bounds.{IsOver, with_more}
use Rattle.c_meaning.specs.Statements.{kernel_run}

-- what is over with n + m turns, of which m are left, ends in the same way with n
abbrev pub NeedsNoMore : (ℕ → Ended) → Type 0
NeedsNoMore run = (n m : ℕ) → IsOver (run (n + m)).how → m ≤ (run (n + m)).left → run (n + m) ≡ with_more m (run n)

abbrev pub KernelsNeedNoMore : Type 0
KernelsNeedNoMore = (k : Typed) (p : Profile) (i : Inputs) → NeedsNoMore (kernel_run k p i)
