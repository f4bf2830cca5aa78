-- What no well formed graph has.
use Rattle.std.specs.Prelude.{ℕ, ◌<◌, List, [], ◌∷◌, length}
use Rattle.el_base.specs.declared.ty.Array.{Array}
use Rattle.ir.specs.declared.instr.Instr.TheVariants.{Store}
use Rattle.ir.specs.declared.graph.Block.{Block}
use Rattle.ir.specs.declared.graph.Jump.TheVariants.{Two}
use Rattle.ir.specs.declared.graph.To.{To}
use Rattle.ir.specs.Shapes.{Shape, IsOfWidth, shape_after}
use Rattle.ir.specs.Graphs.{Graph, IsTarget, IsJump}

-- the number of a store has no width, so no operand may name it
abbrev pub StoresHaveNoWidth : Type 0
StoresHaveNoWidth = (arrays : List Array) (ws : Shape) (a p v w : ℕ) → ¬ (IsOfWidth (shape_after arrays ws (Store a p v ∷ [])) (length ws) w)

abbrev pub NoTargetIsTheEntry : Type 0
NoTargetIsTheEntry = (blocks : List Block) (ws : Shape) (to : To) → IsTarget blocks ws to → 0 < to.block

abbrev pub ConditionsHave32Bits : Type 0
ConditionsHave32Bits = (g : Graph) (ws : Shape) (c : ℕ) (yes_part no_part : To) → IsJump g ws (Two c yes_part no_part) → IsOfWidth ws c 32
