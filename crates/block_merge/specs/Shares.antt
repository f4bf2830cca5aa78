-- What the merged graph keeps of the graph that it is made of: a relation that every graph has to itself, and that goes on from one to the next.
use Rattle.std.specs.Prelude.{◌≡◌, ◌≤◌, ◌↔◌, ℕ, List, Option, length, sum_by, All}
use Rattle.ir.specs.Accesses.{accesses_in, IsStoredTo}
use Rattle.ir.specs.Finished.{Finished}
use Rattle.ir.specs.Graphs.{Graph, IsGraph, passage, first_visit, weight, size}
use Rattle.ir.specs.Headers.{graph_header}

-- each finished run is one of h, with the same arrays and result, without strays, in no more visits of no greater weight
abbrev pub RunsOver : Graph → Graph → Type 0
RunsOver g h = (scalars : List ℕ) (arrays : List (List ℕ)) (r : Option ℕ) (last : List (List ℕ)) (more most : ℕ) → length scalars ≡ length g.scalars
    → Finished (passage g) (first_visit scalars arrays) r last (weight g) more most
    → Finished (passage h) (first_visit scalars arrays) r last (weight h) more most

-- and back: each finished run of h without strays is one of g, whatever its visits
abbrev pub RunsBack : Graph → Graph → Type 0
RunsBack g h = (scalars : List ℕ) (arrays : List (List ℕ)) (r : Option ℕ) (last : List (List ℕ)) (more : ℕ) → length scalars ≡ length g.scalars
    → Finished (passage h) (first_visit scalars arrays) r last (λ v. 0) more 0
    → (visits : ℕ) × Finished (passage g) (first_visit scalars arrays) r last (λ v. 0) visits 0

-- no more blocks, no greater size, no more steps, arguments and accesses, all blocks together, and no block with more arguments than one had
pub record NoGreater (g h : Graph) : Type 0 where
  pub blocks : length h.blocks ≤ length g.blocks
  pub bounded : size h ≤ size g
  pub steps : sum_by (λ b. length b.steps) h.blocks ≤ sum_by (λ b. length b.steps) g.blocks
  pub args : sum_by (λ b. length b.args) h.blocks ≤ sum_by (λ b. length b.args) g.blocks
  pub accesses : sum_by (λ b. accesses_in b.steps) h.blocks ≤ sum_by (λ b. accesses_in b.steps) g.blocks
  pub few_args : (most : ℕ) → All (λ b. length b.args ≤ most) g.blocks → All (λ b. length b.args ≤ most) h.blocks

pub record MergeShare (g h : Graph) : Type 0 where
  pub header : graph_header h ≡ graph_header g
  pub fine : IsGraph h
  pub runs : RunsOver g h
  pub sizes : NoGreater g h
  pub stored : (a : ℕ) → IsStoredTo h a ↔ IsStoredTo g a
