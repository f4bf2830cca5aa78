-- What a graph with trimmed blocks keeps of the graph that it is made of, and what is trimmed.
use Rattle.std.specs.Prelude.{◌≡◌, ◌↔◌, ◌<◌, ◌≤◌, ℕ, List, Option, Some, length, slice_get, sum_by, All}
use Rattle.std.specs.List.{Contains}
use Rattle.ir.specs.declared.cfg.CfgBlock.{CfgBlock}
use Rattle.ir.specs.declared.cfg.Write.{Write}
use Rattle.ir.specs.Accesses.{accesses_in}
use Rattle.ir.specs.Finished.{Finished}
use Rattle.ir.specs.Headers.{var_graph_header}
use Rattle.ir.specs.Steps.{through, beginning}
use Rattle.ir.specs.Visits.{Visit, Passage, AreVisits, Finishes}
use Rattle.ir.specs.Variables.{VarGraph, var_block_at, read_values, written, var_passage, var_first_visit, steps_made}
use Rattle.block_trim.specs.Trimming.{uses}

-- two passages that lead to the same block with the same given values, or return the same, with the same arrays and strays
pub record LeadAlike (p q : Passage) : Type 0 where
  pub onward : q.onward ≡ p.onward
  pub arrays : q.arrays ≡ p.arrays
  pub strays : q.strays ≡ p.strays

-- what the variables are after the writes of a visit
abbrev pub variables_after : VarGraph → Visit → List ℕ
variables_after g v =
    let b = var_block_at g v.block in
    written (through b.steps (beginning (read_values v.given b) v.arrays)).values b.writes v.given

-- the same header and variables; the same visits on all inputs, each with the same arrays, strays, variables and number of steps
pub record TrimShare (g h : VarGraph) : Type 0 where
  pub header : var_graph_header h ≡ var_graph_header g
  pub vars : h.vars ≡ g.vars
  pub first : (scalars : List ℕ) (arrays : List (List ℕ)) → var_first_visit h scalars arrays ≡ var_first_visit g scalars arrays
  pub passages : (v : Visit) → LeadAlike (var_passage g v) (var_passage h v)
  pub variables : (v : Visit) → variables_after h v ≡ variables_after g v
  pub steps : (v : Visit) → steps_made h v ≡ steps_made g v
  pub visits : (first : Visit) (vs : List Visit) → AreVisits (var_passage g) first vs ↔ AreVisits (var_passage h) first vs
  pub ends : (first : Visit) (rest : List Visit) (r : Option ℕ) (arrays : List (List ℕ)) → Finishes (var_passage g) first rest r arrays ↔ Finishes (var_passage h) first rest r arrays
  pub runs : (first : Visit) (r : Option ℕ) (arrays : List (List ℕ)) (more most : ℕ)
      → Finished (var_passage g) first r arrays (steps_made g) more most ↔ Finished (var_passage h) first r arrays (steps_made h) more most

-- as many blocks, each with as many steps and accesses, and with no more reads and writes
pub record TrimSizes (g h : VarGraph) : Type 0 where
  pub blocks : length h.blocks ≡ length g.blocks
  pub steps : (n : ℕ) → length (var_block_at h n).steps ≡ length (var_block_at g n).steps
  pub accesses : (n : ℕ) → accesses_in (var_block_at h n).steps ≡ accesses_in (var_block_at g n).steps
  pub reads : (n : ℕ) → length (var_block_at h n).reads ≤ length (var_block_at g n).reads
  pub writes : (n : ℕ) → length (var_block_at h n).writes ≤ length (var_block_at g n).writes
  pub all_steps : sum_by (λ b. length b.steps) h.blocks ≡ sum_by (λ b. length b.steps) g.blocks
  pub all_accesses : sum_by (λ b. accesses_in b.steps) h.blocks ≡ sum_by (λ b. accesses_in b.steps) g.blocks

-- each read is used by a step, a write or the jump; no write gives its variable what the block reads of it, and no two writes are to one variable
pub record IsTrim (b : CfgBlock) : Type 0 where
  pub reads : (a : ℕ) → a < length b.reads → Contains (uses b.steps b.writes b.jump) a
  pub changes : All (λ x. ¬ (slice_get b.reads x.value ≡ Some x.var)) b.writes
  pub once : (i j : ℕ) (x y : Write) → slice_get b.writes i ≡ Some x → slice_get b.writes j ≡ Some y → i < j → ¬ (x.var ≡ y.var)
