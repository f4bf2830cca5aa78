-- A worked graph, and its run computed: n times one is added to an element of an array of 2 elements, one element after the
-- other. With n = 3 the third turn goes past the array, once by its load and once by its store.
use Rattle.std.specs.Prelude.{◌≡◌, ℕ, false, List, [], ◌∷◌, Some}
use Rattle.el_base.specs.declared.ty.Ty.TheVariants.{U32}
use Rattle.el_base.specs.declared.operation.Op1.TheVariants.{U32to64}
use Rattle.el_base.specs.declared.operation.Op2.TheVariants.{Add32, Ltu32}
use Rattle.ir.specs.declared.instr.Instr.{Instr}
use Rattle.ir.specs.declared.instr.Instr.TheVariants.{Const, One, Two, Load, Store}
use Rattle.ir.specs.declared.graph.Block.{Block}
use Rattle.ir.specs.declared.graph.Jump.TheVariants as jump
use Rattle.ir.specs.declared.groups.Groups.{Groups}
use Rattle.ir.specs.Visits.{Visit, Finishes, over_visits, strays_of}
use Rattle.ir.specs.Graphs.{Graph, IsGraph, passage, first_visit, weight, size}
use Rattle.ir.specs.Accesses.{GroupsShare}

-- the count begins at 0
abbrev pub entry_block : Block
entry_block = record { args = 32 ∷ []; steps = Const 32 0 ∷ []; jump = jump.Go (record { block = 1; with = 0 ∷ 1 ∷ [] }) }

-- on to the body where the count is below n, else to the end
abbrev pub head_block : Block
head_block =
    record {
      args = 32 ∷ 32 ∷ [];
      steps = Two Ltu32 1 0 ∷ [];
      jump = jump.Two 2 (record { block = 2; with = 0 ∷ 1 ∷ [] }) (record { block = 3; with = 1 ∷ [] });
    }

abbrev pub body_steps : List Instr
body_steps = One U32to64 1 ∷ Load 0 2 ∷ Const 32 1 ∷ Two Add32 3 4 ∷ Store 0 2 5 ∷ Two Add32 1 4 ∷ []

abbrev pub body_block : Block
body_block = record { args = 32 ∷ 32 ∷ []; steps = body_steps; jump = jump.Go (record { block = 1; with = 0 ∷ 7 ∷ [] }) }

-- the count is the result
abbrev pub end_block : Block
end_block = record { args = 32 ∷ []; steps = []; jump = jump.Return (Some 0) }

-- the names are those of the graph, of its scalar and of its array
abbrev pub sample_graph : List ℕ → List ℕ → List ℕ → Graph
sample_graph name n a =
    record {
      name = name;
      scalars = record { name = n; ty = U32 } ∷ [];
      arrays = record { name = a; ty = U32; len = 2 } ∷ [];
      result = Some U32;
      blocks = entry_block ∷ head_block ∷ body_block ∷ end_block ∷ [];
    }

abbrev pub at : ℕ → List ℕ → ℕ → ℕ → Visit
at b given x y = record { block = b; given = given; arrays = (x ∷ y ∷ []) ∷ [] }

abbrev pub sample_first : Visit
sample_first = first_visit (3 ∷ []) ((5 ∷ 7 ∷ []) ∷ [])

abbrev pub sample_rest : List Visit
sample_rest =
    at 1 (3 ∷ 0 ∷ []) 5 7 ∷ at 2 (3 ∷ 0 ∷ []) 5 7 ∷ at 1 (3 ∷ 1 ∷ []) 6 7 ∷ at 2 (3 ∷ 1 ∷ []) 6 7 ∷ at 1 (3 ∷ 2 ∷ []) 6 8
    ∷ at 2 (3 ∷ 2 ∷ []) 6 8 ∷ at 1 (3 ∷ 3 ∷ []) 6 8 ∷ at 3 (3 ∷ []) 6 8 ∷ []

abbrev pub sample_groups : Groups
sample_groups = record { read_only = false ∷ []; of = record { block = 2; array = 0; steps = 1 ∷ 4 ∷ [] } ∷ [] }

-- what is computed of the graph by the definitions
pub record SampleRun (g : Graph) : Type 0 where
  pub formed : IsGraph g
  pub finishes : Finishes (passage g) sample_first sample_rest (Some 3) ((6 ∷ 8 ∷ []) ∷ [])
  pub strays : strays_of (passage g) (sample_first ∷ sample_rest) ≡ 2
  pub weight_is : over_visits (weight g) (sample_first ∷ sample_rest) ≡ 68
  pub size_is : size g ≡ 25
  pub groups : GroupsShare g sample_groups

abbrev pub SamplesRun : Type 0
SamplesRun = (name n a : List ℕ) → SampleRun (sample_graph name n a)
