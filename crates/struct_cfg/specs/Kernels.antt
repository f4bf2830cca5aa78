-- The blocks of a whole normal form.
use Rattle.std.specs.Prelude.{ℕ, ◌+◌, ◌<◌, ◌^◌, List, [], ◌∷◌, map, length, Option, Some, None}
use Rattle.el_base.specs.declared.ty.Ty.{Ty}
use Rattle.el_base.specs.Widths.{ty_width}
use Rattle.c_ast.specs.declared.typed.ArrayOf.{ArrayOf}
use Rattle.c_ast.specs.declared.normal.Normal.{Normal}
use Rattle.c_ast.specs.declared.normal.NormalStmt.{NormalStmt}
use Rattle.ir.specs.Variables.{VarGraph}
use Rattle.c_meaning.specs.Sizes.{form_sizes}
use Rattle.c_meaning.specs.Headers.{scalars_of, flat}
use Rattle.ir.specs.declared.instr.Instr.TheVariants.{Const}
use Rattle.ir.specs.declared.cfg.CfgJump.TheVariants.{Return}
use Rattle.struct_cfg.specs.declared.draft.Draft.{Draft}
use Rattle.struct_cfg.specs.Drafts.{own_values, next_value, with_steps, close}
use Rattle.struct_cfg.specs.Lists.{lower_all}

-- nothing is laid yet, and each of n variables is its own value
abbrev pub empty : ℕ → Draft
empty n = record { blocks = []; steps = []; env = own_values n }

-- the last block returns: nothing, or 0 where there is a result, which no run without anything undefined comes to
abbrev pub finish : Option Ty → Draft → Draft
finish None d = close (Return None) d
finish (Some t) d = close (Return (Some (next_value d))) (with_steps (Const (ty_width t) 0 ∷ []) d)

abbrev pub kernel_draft : List ArrayOf → Option Ty → ℕ → List NormalStmt → Draft
kernel_draft arrays r n body = finish r (lower_all arrays 0 0 body (empty n))

-- the graph of a whole normal form
abbrev pub form_graph : Normal → VarGraph
form_graph f = record {
  name = f.name;
  scalars = scalars_of f.params;
  arrays = map flat f.arrays;
  result = f.result;
  vars = map ty_width f.vars;
  blocks = (kernel_draft f.arrays f.result (length f.vars) f.body).blocks;
}

-- its variables, the blocks of its graph and the steps that are written in it can be numbered
abbrev pub IsSmallForm : Normal → Type 0
IsSmallForm f = length f.vars + (form_sizes f).blocks + (form_sizes f).steps < 2 ^ 30
