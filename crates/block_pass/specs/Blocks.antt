-- What a block that is made anew keeps of the block that it is made of.
use Rattle.std.specs.Prelude.{◌≡◌, ◌↔◌, ℕ, List, slice_get, Some}
use Rattle.ir.specs.declared.instr.Instr.TheVariants.{Store}
use Rattle.ir.specs.declared.graph.Block.{Block}
use Rattle.ir.specs.Steps.{through, beginning}
use Rattle.ir.specs.Visits.{Passage}
use Rattle.ir.specs.Graphs.{Graph, IsBlock, onward_of}
use Rattle.block_pass.specs.Fitting.{FitWidths, FitArrays}

-- what a visit of the block makes, on what it is given and the arrays then
abbrev pub block_passage : Block → List ℕ → List (List ℕ) → Passage
block_passage b given arrays =
    let w = through b.steps (beginning given arrays) in
    record { values = w.values; arrays = w.arrays; strays = w.strays; onward = onward_of b.jump w.values }

-- q leads where p leads, with the same arrays, and without strays
pub record LeadsClean (p q : Passage) : Type 0 where
  pub onward : q.onward ≡ p.onward
  pub arrays : q.arrays ≡ p.arrays
  pub clean : q.strays ≡ 0

-- some step of the block stores to the array
pub record StoresTo (b : Block) (a : ℕ) : Type 0 where
  pub place : ℕ
  pub addr : ℕ
  pub value : ℕ
  pub is_step : slice_get b.steps place ≡ Some (Store a addr value)

-- Block c, made of block b of graph g: the same arguments; a visit of b without strays, on values that fit, is one of c that leads alike; where
-- c's visit has no strays, b's has none; and both store to the same arrays.
pub record BlockShare (g : Graph) (b c : Block) : Type 0 where
  pub args : c.args ≡ b.args
  pub fine : IsBlock g c
  pub over : (given : List ℕ) (arrays : List (List ℕ)) → FitWidths b.args given → FitArrays g.arrays arrays
      → (block_passage b given arrays).strays ≡ 0 → LeadsClean (block_passage b given arrays) (block_passage c given arrays)
  pub back : (given : List ℕ) (arrays : List (List ℕ)) → FitWidths b.args given → FitArrays g.arrays arrays
      → (block_passage c given arrays).strays ≡ 0 → (block_passage b given arrays).strays ≡ 0
  pub stored : (a : ℕ) → StoresTo c a ↔ StoresTo b a
