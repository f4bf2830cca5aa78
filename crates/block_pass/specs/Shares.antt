-- What a graph that a pass makes keeps of the graph that it is made of: a relation that every graph has to itself, and that goes on.
use Rattle.std.specs.Prelude.{◌≡◌, ◌≤◌, ◌↔◌, ℕ, List, Option, length, All}
use Rattle.ir.specs.Accesses.{IsStoredTo}
use Rattle.ir.specs.Finished.{Finished}
use Rattle.ir.specs.Graphs.{Graph, IsGraph, passage, first_visit}
use Rattle.ir.specs.Headers.{graph_header}
use Rattle.block_pass.specs.Fitting.{FitHeader}

-- the graph's run on these inputs returns that result with those arrays, without strays, after at most so many visits more than the first
abbrev pub Ends : Graph → List ℕ → List (List ℕ) → Option ℕ → List (List ℕ) → ℕ → Type 0
Ends g scalars arrays r last more = Finished (passage g) (first_visit scalars arrays) r last (λ v. 0) more 0

-- each finished run without strays, on inputs that fit, is one of h, without strays, with the same result and arrays, in no more visits
abbrev pub VisitsOver : Graph → Graph → Type 0
VisitsOver g h = (scalars : List ℕ) (arrays : List (List ℕ)) (r : Option ℕ) (last : List (List ℕ)) (more : ℕ) → FitHeader g scalars arrays
    → Ends g scalars arrays r last more → Ends h scalars arrays r last more

-- and back: each finished run of h without strays, on inputs that fit, is one of g. So where g's run never ends, or strays, h's has no clean end
abbrev pub VisitsBack : Graph → Graph → Type 0
VisitsBack g h = (scalars : List ℕ) (arrays : List (List ℕ)) (r : Option ℕ) (last : List (List ℕ)) (more : ℕ) → FitHeader g scalars arrays
    → Ends h scalars arrays r last more → (more_visits : ℕ) × Ends g scalars arrays r last more_visits

pub record PassShare (g h : Graph) : Type 0 where
  pub header : graph_header h ≡ graph_header g
  pub fine : IsGraph h
  pub runs : VisitsOver g h
  pub blocks : length h.blocks ≤ length g.blocks
  pub few_args : (most : ℕ) → All (λ b. length b.args ≤ most) g.blocks → All (λ b. length b.args ≤ most) h.blocks
  pub stored : (a : ℕ) → IsStoredTo h a ↔ IsStoredTo g a
