-- Words that the contracts of private functions cite, and no other.
use Rattle.std.specs.Prelude.{◌≡◌, ℕ, zero, suc, ◌+◌, ◌*◌, ◌<◌, ◌≤◌, ◌^◌, ◌⊎◌, List, ◌++◌, length, map, drop, sum_by, Bool, true, false, Option}
use Rattle.c_ast.specs.declared.typed.ArrayOf.{ArrayOf}
use Rattle.c_ast.specs.declared.typed.TypedExpr.{TypedExpr}
use Rattle.c_ast.specs.declared.normal.NormalStmt.{NormalStmt}
use Rattle.c_ast.specs.declared.normal.NormalStmtKind.{NormalStmtKind}
use Rattle.c_ast.specs.declared.normal.NormalStmtKind.TheVariants as normal
use Rattle.c_meaning.specs.Counts.{target_price}
use Rattle.ir.specs.declared.instr.Instr.{Instr}
use Rattle.struct_cfg.specs.declared.draft.Draft.{Draft}
use Rattle.struct_cfg.specs.Drafts.{here}
use Rattle.struct_cfg.specs.Exprs.{piece}
use Rattle.struct_cfg.specs.Layings.{Laying, Piece}
use Rattle.struct_cfg.specs.Operators.{index_laid, next_place, further_places, place_laid}

-- a laying was put behind the steps of a block with these values of variables, and v is the number of its value
pub record IsLaid (a : Laying) (env : List ℕ) (old new : List Instr) (v : ℕ) : Type 0 where
  pub steps : new ≡ old ++ (a (length env + length old)).steps
  pub value : v ≡ (a (length env + length old)).value

-- so many values more may be numbered
abbrev pub HasRoom : List ℕ → List Instr → ℕ → Type 0
HasRoom env steps more = length env + length steps + more ≤ 2 ^ 32

-- the place after one index more: of the first dimension, or of the next one
abbrev pub one_place : Bool → ℕ → ℕ → Piece → Laying
one_place true at d p = index_laid p
one_place false at d p = next_place at d p

-- what lays the places that are left after k indices
abbrev pub left_places : ℕ → ℕ → List ℕ → List Piece → Laying
left_places zero at ds ps = place_laid ds ps
left_places (suc k) at ds ps = further_places at (drop (suc k) ds) (drop (suc k) ps)

-- k indices are laid, by a counter that stays at the number of dimensions: what lays the rest from here on lays the whole
pub record GoesOn (arrays : List ArrayOf) (env dims : List ℕ) (indices : List TypedExpr) (old : List Instr) (k counter at : ℕ) (now : List Instr) : Type 0 where
  pub left : (new : List Instr) (u : ℕ) → IsLaid (left_places k at dims (map (piece arrays env) indices)) env now new u → IsLaid (place_laid dims (map (piece arrays env) indices)) env old new u
  pub few : length now + target_price (drop k indices) ≤ length old + target_price indices
  pub counted : (counter ≡ k) ⊎ ((length dims ≤ counter) × (length dims ≤ k))

-- ---- drafts

-- the variables of a draft, its closed blocks, and the steps of all its blocks
abbrev pub draft_size : Draft → ℕ
draft_size d = length d.env + here d + (sum_by (λ b. length b.steps) d.blocks + length d.steps)

-- so many blocks and steps more may be numbered
abbrev pub HasSpace : Draft → ℕ → ℕ → Type 0
HasSpace d blocks steps = draft_size d + blocks + 2 * steps < 2 ^ 32

-- a draft has grown by so many blocks and steps, or less
abbrev pub HasGrown : Draft → Draft → ℕ → ℕ → Type 0
HasGrown d e blocks steps = draft_size e ≤ draft_size d + blocks + steps

-- ---- statements

-- a for with these parts behind its first one
pub record IsFor (k : NormalStmtKind) (before : List NormalStmt) (cond : Option TypedExpr) (step : Option NormalStmt) (body : NormalStmt) : Type 0 where
  pub first : List NormalStmt
  pub is : k ≡ normal.For first before cond step body
