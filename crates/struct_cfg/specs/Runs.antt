-- What the graph of a normal form is made to keep: its runs, its variables and its sizes.
use Rattle.std.specs.Prelude.{◌≡◌, ℕ, ◌+◌, ◌≤◌, List, [], ◌∷◌, length, map, get_or, sum_by, ℤ, Option, Some, None}
use Rattle.el_base.specs.declared.ty.Ty.{Ty}
use Rattle.el_base.specs.declared.ty.Ty.TheVariants.{I32}
use Rattle.el_base.specs.Numbers.{pattern}
use Rattle.el_base.specs.Widths.{ty_width}
use Rattle.c_ast.specs.declared.normal.Normal.{Normal}
use Rattle.c_meaning.specs.declared.profile.Profile.{Profile}
use Rattle.c_meaning.specs.Stores.{Store, Inputs, AreFitting, scalar_types}
use Rattle.c_meaning.specs.Headers.{normal_header}
use Rattle.c_meaning.specs.KernelPatterns.{scalar_patterns, array_patterns, result_pattern}
use Rattle.c_meaning.specs.Normals.{normal_run, NormalEnds}
use Rattle.c_meaning.specs.Counts.{NormalCosts}
use Rattle.c_meaning.specs.Sizes.{Sizes}
use Rattle.ir.specs.Accesses.{accesses_in}
pub use Rattle.block_trim.specs.Shares.{variables_after}
use Rattle.ir.specs.Steps.{value_at}
use Rattle.ir.specs.Visits.{Visit, Finishes}
use Rattle.ir.specs.Variables.{VarGraph, var_passage, var_first_visit, steps_made}
use Rattle.ir.specs.Finished.{Finished}
use Rattle.ir.specs.Headers.{var_graph_header}

-- the first visit of the graph of a form on inputs
abbrev pub first_on : Normal → VarGraph → Inputs → Visit
first_on f g z = var_first_visit g (scalar_patterns (scalar_types f.params) z.scalars) (array_patterns f.arrays z.arrays)

-- Under either profile: where the form ends, the run of the graph returns with the patterns of the same arrays and result, without strays,
-- after at most as many further visits as the form has jumps; the steps of the visits are at most the form's price and one for each variable.
abbrev pub RunsFollow : Normal → VarGraph → Type 0
RunsFollow f g = (p : Profile) (z : Inputs) (out : List (List ℤ)) (r : Option ℤ) (t jumps price : ℕ) → AreFitting f.params f.arrays z → NormalEnds f p z out r t → NormalCosts f p z jumps price
    → Finished (var_passage g) (first_on f g z) (result_pattern f.result r) (array_patterns f.arrays out) (steps_made g) jumps (price + length f.vars)

-- ---- variables

-- each variable that is set in a store has the pattern of its number; of an unset one nothing is said
pub record ShowsVariables (ts : List Ty) (s : Store) (vs : List ℕ) : Type 0 where
  pub each : (x : ℕ) (z : ℤ) → get_or s.vars x None ≡ Some z → value_at vs x ≡ pattern (get_or ts x I32) z

abbrev pub last_of : Visit → List Visit → Visit
last_of v [] = v
last_of v (w ∷ ws) = last_of w ws

-- where the form ends, the last visit of the graph's run shows the variables of the store then
abbrev pub VariablesFollow : Normal → VarGraph → Type 0
VariablesFollow f g = (p : Profile) (z : Inputs) (out : List (List ℤ)) (r : Option ℤ) (t : ℕ) → AreFitting f.params f.arrays z → (e : NormalEnds f p z out r t)
    → (rest : List Visit) (q : Option ℕ) (arrays : List (List ℕ)) → Finishes (var_passage g) (first_on f g z) rest q arrays
    → ShowsVariables f.vars (normal_run f p z e.bound).store (variables_after g (last_of (first_on f g z) rest))

-- ---- all that the graph keeps of the form

pub record CfgShare (f : Normal) (g : VarGraph) : Type 0 where
  pub header : var_graph_header g ≡ normal_header f
  pub vars : g.vars ≡ map ty_width f.vars
  pub runs : RunsFollow f g
  pub variables : VariablesFollow f g

-- ---- sizes

-- as many blocks as the form's size says; steps and accesses that are written, all blocks together, at most as many, and one step more:
-- the last block of a kernel with a result has a constant that no run comes to
pub record CfgSizes (g : VarGraph) (z : Sizes) : Type 0 where
  pub blocks : length g.blocks ≡ z.blocks
  pub steps : sum_by (λ b. length b.steps) g.blocks ≤ z.steps + 1
  pub accesses : sum_by (λ b. accesses_in b.steps) g.blocks ≤ z.accesses
