-- Cells hold patterns: which store they stand for, and which are those of a kernel.
use Rattle.std.specs.Prelude.{ℕ, ◌^◌, ◌<◌, List, [], ◌∷◌, map, Option, Some, None, All, ℤ}
use Rattle.el_base.specs.declared.ty.Ty.{Ty}
use Rattle.el_base.specs.Numbers.{number}
use Rattle.el_base.specs.Widths.{ty_width}
use Rattle.c_ast.specs.declared.typed.ArrayOf.{ArrayOf}
use Rattle.c_meaning.specs.Stores.{Store, Objects}
use Rattle.ref_interp.specs.declared.cells.Cells.{Cells}

-- ---- the store that cells stand for: the number of each pattern

abbrev pub cell_number : Ty → Option ℕ → Option ℤ
cell_number t None = None
cell_number t (Some p) = Some (number t p)

abbrev pub var_numbers : List Ty → List (Option ℕ) → List (Option ℤ)
var_numbers [] cs = []
var_numbers (t ∷ ts) [] = []
var_numbers (t ∷ ts) (c ∷ cs) = cell_number t c ∷ var_numbers ts cs

abbrev pub array_numbers : List ArrayOf → List (List ℕ) → List (List ℤ)
array_numbers [] pss = []
array_numbers (x ∷ xs) [] = []
array_numbers (x ∷ xs) (ps ∷ pss) = map (number x.ty) ps ∷ array_numbers xs pss

abbrev pub store_of : Objects → Cells → Store
store_of k c = record { vars = var_numbers k.vars c.vars; arrays = array_numbers k.arrays c.arrays }

-- ---- cells of a kernel: as many as it has variables and arrays, with patterns of their types

abbrev pub IsCell : Ty → Option ℕ → Type 0
IsCell t None = Unit {0}
IsCell t (Some p) = p < 2 ^ ty_width t

abbrev pub AreVarCells : List Ty → List (Option ℕ) → Type 0
AreVarCells [] [] = Unit {0}
AreVarCells (t ∷ ts) (c ∷ cs) = IsCell t c × AreVarCells ts cs
AreVarCells [] (c ∷ cs) = ⊥
AreVarCells (t ∷ ts) [] = ⊥

abbrev pub AreArrayCells : List ArrayOf → List (List ℕ) → Type 0
AreArrayCells [] [] = Unit {0}
AreArrayCells (x ∷ xs) (ps ∷ pss) = All (λ p. p < 2 ^ ty_width x.ty) ps × AreArrayCells xs pss
AreArrayCells [] (ps ∷ pss) = ⊥
AreArrayCells (x ∷ xs) [] = ⊥

pub record AreCells (k : Objects) (c : Cells) : Type 0 where
  pub vars : AreVarCells k.vars c.vars
  pub arrays : AreArrayCells k.arrays c.arrays
