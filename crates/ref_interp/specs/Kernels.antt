-- Words of the contracts of the parts of a kernel's run.
use Rattle.std.specs.Prelude.{◌≡◌, ℕ, ◌^◌, ◌<◌, List, [], ◌∷◌, Option, Some, None}
use Rattle.el_base.specs.declared.ty.Ty.{Ty}
use Rattle.el_base.specs.Numbers.{number, pattern}
use Rattle.el_base.specs.Widths.{ty_width}
use Rattle.net_types.specs.declared.firing.Inputs.{Inputs as Patterns}
use Rattle.c_ast.specs.declared.typed.Typed.{Typed}
use Rattle.c_meaning.specs.declared.profile.Profile.{Profile}
use Rattle.c_meaning.specs.Stores.{Inputs, opening}
use Rattle.c_meaning.specs.Bounds.{EndsIsOne, KernelsKeepEnds}
use Rattle.c_meaning.specs.Lawful.{Lawful}
use Rattle.c_meaning.specs.Statements.{objects, body_run}
use Rattle.ref_interp.specs.declared.cells.Cells.{Cells}
use Rattle.ref_interp.specs.declared.machine.Ending.{Ending}
use Rattle.ref_interp.specs.declared.machine.Machine.{Machine}
use Rattle.ref_interp.specs.declared.kernel.Outcome.{Outcome}
use Rattle.ref_interp.specs.Cells.{AreCells, store_of}
use Rattle.ref_interp.specs.Laws.{PatternLaws}
use Rattle.ref_interp.specs.Parts.{PartLaws}
use Rattle.ref_interp.specs.Machines.{Ran, Given, ended}
use Rattle.ref_interp.specs.Turns.{KernelsNeedNoMore}
use Rattle.ref_interp.specs.Outcomes.{InputsFit, input_numbers, Says, IsOnly}

-- the cells of variables of these types, of which the first ones are set
abbrev pub opened : List Ty → List ℕ → List (Option ℕ)
opened [] ps = []
opened (t ∷ ts) [] = None ∷ opened ts []
opened (t ∷ ts) (p ∷ ps) = Some p ∷ opened ts ps

-- cells stand for the opening store of a kernel on inputs
pub record Opens (k : Typed) (p : Profile) (i : Patterns) (c : Cells) : Type 0 where
  pub is : store_of (objects p k) c ≡ opening (objects p k) (input_numbers k i)
  pub cells : AreCells (objects p k) c

abbrev pub IsOpening : Typed → Patterns → Cells → Type 0
IsOpening k i c = (p : Profile) → Lawful k → InputsFit k i → Opens k p i c

abbrev pub BodyGives : Typed → Profile → Machine → Ending → Machine → Type 0
BodyGives k p old e new = PatternLaws → PartLaws → Lawful k → AreCells (objects p k) old.cells → Ran (objects p k) k.result (body_run (objects p k) k.body) old e new

abbrev pub IsRound : Type 0
IsRound = (t : Ty) (p : ℕ) → p < 2 ^ ty_width t → pattern t (number t p) ≡ p

-- the block ended so, in a machine, on whole-number inputs with n turns
abbrev pub OutcomeGives : Typed → Machine → Ending → ℕ → Outcome → Type 0
OutcomeGives k m e n o =
    (p : Profile) (i : Inputs) → let ko = objects p k in EndsIsOne → KernelsKeepEnds → KernelsNeedNoMore → IsRound → Lawful k → body_run ko k.body (opening ko i) n ≡ ended ko k.result e m → AreCells ko m.cells → Given k.result e m
    → Says k p i n o × IsOnly k p i n o
