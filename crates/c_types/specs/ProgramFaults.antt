-- Which rules a program breaks, and where: those of each helper and of the kernel in the scope of the helpers before, and calls where none may stand.
-- A helper's name is in scope after its own body. A name that two helpers have keeps its first helper.
use Rattle.std.specs.Prelude.{List, [], ◌∷◌, ◌++◌, length, Some}
use Rattle.c_ast.specs.declared.tree.Tree.{Tree}
use Rattle.c_ast.specs.declared.tree.Helper.{Helper}
use Rattle.c_ast.specs.declared.tree.Program.{Program}
use Rattle.c_types.specs.declared.fault.Rule.TheVariants as rule
use Rattle.c_types.specs.declared.fault.Fault.{Fault}
use Rattle.c_types.specs.declared.sort.Sort.TheVariants as sort
use Rattle.c_types.specs.Scopes.{is_new_in, with_entry}
use Rattle.c_types.specs.Faults.{Sorts, expr_faults, unless, block_faults, sorts_at_end}
use Rattle.c_types.specs.CallPlaces.{program_places}

abbrev pub helper_faults : Sorts → Helper → List Fault
helper_faults names h =
    unless (is_new_in names h.name) rule.Redeclared h.at ++ (block_faults ([] ∷ names) h.params h.body (Some h.result) ++ expr_faults (sorts_at_end ([] ∷ names) h.params h.body) h.value)

abbrev pub sorts_after_helper : Sorts → Helper → Sorts
sorts_after_helper names h = with_entry h.name (sort.Helper (length h.params)) names

abbrev pub helpers_faults : Sorts → List Helper → List Fault
helpers_faults names [] = []
helpers_faults names (h ∷ hs) = helper_faults names h ++ helpers_faults (sorts_after_helper names h) hs

abbrev pub sorts_after_helpers : Sorts → List Helper → Sorts
sorts_after_helpers names [] = names
sorts_after_helpers names (h ∷ hs) = sorts_after_helpers (sorts_after_helper names h) hs

abbrev pub kernel_faults : Sorts → Tree → List Fault
kernel_faults names k = unless (is_new_in names k.name) rule.Redeclared k.at ++ block_faults ([] ∷ names) k.params k.body k.result

-- all but those of calls where none may stand
abbrev pub declared_faults : Program → List Fault
declared_faults p = helpers_faults ([] ∷ []) p.helpers ++ kernel_faults (sorts_after_helpers ([] ∷ []) p.helpers) p.kernel

-- all faults of a program
abbrev pub program_faults : Program → List Fault
program_faults p = declared_faults p ++ program_places p
