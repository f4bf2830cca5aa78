-- What a normal form promises of the kernel that it is made of.
use Rattle.std.specs.Prelude.{◌≡◌, ℕ, ◌+◌, ◌*◌, ◌≤◌, List, length, ℤ, Option}
use Rattle.c_ast.specs.declared.typed.Typed.{Typed}
use Rattle.c_ast.specs.declared.normal.Normal.{Normal}
use Rattle.c_ast.specs.Nodes.{typed_nodes}
use Rattle.c_meaning.specs.declared.profile.Profile.{Profile}
use Rattle.c_meaning.specs.Stores.{Inputs, AreFitting}
use Rattle.c_meaning.specs.Statements.{Ends}
use Rattle.c_meaning.specs.Normals.{NormalEnds}
use Rattle.c_meaning.specs.Counts.{NormalCosts}
use Rattle.c_meaning.specs.Lawful.{LawfulNormal}
use Rattle.c_meaning.specs.Sizes.{Sizes}

-- the form's run, with its two counts, for a run of the kernel of n nodes in t turns
pub record NormalRun (f : Normal) (n : ℕ) (p : Profile) (z : Inputs) (out : List (List ℤ)) (r : Option ℤ) (t : ℕ) : Type 0 where
  pub turns : ℕ
  pub jumps : ℕ
  pub price : ℕ
  pub ends : NormalEnds f p z out r turns
  pub costs : NormalCosts f p z jumps price
  pub few : jumps ≤ 2 * t
  pub cheap : price ≤ 13 * n * (t + 1)

-- Under either profile: where the kernel ends, the form ends with the same arrays and the same result.
abbrev pub EndsAlike : Typed → Normal → Type 0
EndsAlike k f = (p : Profile) (z : Inputs) (out : List (List ℤ)) (r : Option ℤ) (t : ℕ) → AreFitting k.params k.arrays z → Ends k p z out r t → NormalRun f (typed_nodes k) p z out r t

-- The header stays, and the name's place; the form is lawful, ends as the kernel does, and has at least two variables less than the kernel has nodes.
pub record NormalShare (k : Typed) (f : Normal) : Type 0 where
  pub lawful : LawfulNormal f
  pub name : f.name ≡ k.name
  pub place : f.at ≡ k.at
  pub result : f.result ≡ k.result
  pub params : f.params ≡ k.params
  pub arrays : f.arrays ≡ k.arrays
  pub few_vars : length f.vars + 2 ≤ typed_nodes k
  pub runs : EndsAlike k f

-- ---- sizes

-- The sizes of a form of v variables that is made of a kernel of n nodes: each node pays for four blocks or for one variable, for 13 steps and for one access.
pub record NormalSizes (n v : ℕ) (z : Sizes) : Type 0 where
  pub few_blocks : z.blocks + 4 * v + 7 ≤ 4 * n
  pub few_steps : z.steps ≤ 13 * n
  pub few_accesses : z.accesses ≤ n
  pub few_vars : v + 2 ≤ n

-- What a graph over block arguments may come to at most: its blocks; its size, where each block has an argument for each variable and hands on two more for each,
-- and there may be one step more for each variable and one besides; and the accesses of one block.
pub record SmallSizes (v : ℕ) (z : Sizes) : Type 0 where
  pub blocks : z.blocks ≤ 32768
  pub bounded : z.steps + v + 1 + z.blocks * (2 + 3 * v) ≤ 8000000
  pub accesses : z.accesses ≤ 1024
