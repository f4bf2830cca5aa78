-- What a graph over arguments keeps of the graph over variables that it is made of.
use Rattle.std.specs.Prelude.{◌≡◌, ◌≤◌, ◌+◌, ◌*◌, ℕ, List, Option, length, sum_by, All}
use Rattle.ir.specs.Finished.{Finished}
use Rattle.ir.specs.Headers.{graph_header, var_graph_header}
use Rattle.ir.specs.Accesses.{accesses_in}
use Rattle.ir.specs.Graphs.{Graph, passage, first_visit, weight, size}
use Rattle.ir.specs.Variables.{VarGraph, var_passage, var_first_visit, steps_made}

pub record ArgsShare (c : VarGraph) (g : Graph) : Type 0 where
  pub header : graph_header g ≡ var_graph_header c
  pub runs : (scalars : List ℕ) (arrays : List (List ℕ)) (r : Option ℕ) (last_arrays : List (List ℕ)) (jumps price : ℕ) → length scalars ≡ length c.scalars
      → Finished (var_passage c) (var_first_visit c scalars arrays) r last_arrays (steps_made c) jumps price
      → Finished (passage g) (first_visit scalars arrays) r last_arrays (weight g) jumps (price + (jumps + 1) * (2 + 3 * length c.vars))

-- the sizes of a graph over arguments, from those of the graph over variables
pub record ArgsSizes (c : VarGraph) (g : Graph) : Type 0 where
  pub blocks : length g.blocks ≡ length c.blocks
  pub bounded : size g ≤ sum_by (λ b. length b.steps) c.blocks + length c.blocks * (2 + 3 * length c.vars)
  pub steps : sum_by (λ b. length b.steps) g.blocks ≤ sum_by (λ b. length b.steps) c.blocks + length c.vars
  pub accesses : sum_by (λ b. accesses_in b.steps) g.blocks ≡ sum_by (λ b. accesses_in b.steps) c.blocks
  pub args : All (λ b. length b.args ≤ length c.vars) g.blocks
