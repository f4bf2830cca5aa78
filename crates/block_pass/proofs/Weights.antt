-- Visits weigh at most their number times the weight of the heaviest block.
use Rattle.std.proofs.Common.{◌≡◌, ℕ, ◌*◌, ◌≤◌, List, [], ◌∷◌, length, ap, arith, inl, inr}
use Rattle.std.specs.Prelude.{All}
use Rattle.std.proofs.lemmas.Bool.{cases_lt}
use Rattle.std.proofs.lemmas.List.{get_or_past}
use Rattle.std.proofs.lemmas.List.Elements.{All-get_or}
use Rattle.ir.specs.declared.graph.Block.{Block}
use Rattle.ir.specs.Visits.{Visit, over_visits}
use Rattle.ir.specs.Graphs.{Graph, no_block, block_at, block_weight, weight}
use Rattle.block_pass.specs.Laws.{LightVisits}

module _ (g : Graph) (most : ℕ) (some : 1 ≤ most) (all : All (λ (b : Block). block_weight b ≤ most) g.blocks) where
  one_light : (n : ℕ) → block_weight (block_at g n) ≤ most
  one_light n = elim (cases_lt n (length g.blocks)) [
    | inl lt ↦ All-get_or (λ (b : Block). block_weight b ≤ most) g.blocks n no_block lt all
    | inr ge ↦ let e : block_weight (block_at g n) ≡ 1 = ap block_weight (get_or_past g.blocks n no_block ge) in omega (arith, e, some)
  ]

  all_light : (vs : List Visit) → over_visits (weight g) vs ≤ length vs * most
  all_light [] = omega arith
  all_light (v ∷ vs) = let a = one_light v.block in let b = all_light vs in omega (arith, a, b)

pub light_visits : LightVisits
light_visits g most vs some all = all_light g most some all vs
