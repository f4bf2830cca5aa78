-- What holds of the graph of every lawful normal form.
use Rattle.std.specs.Prelude.{◌≡◌, map}
use Rattle.el_base.specs.Widths.{ty_width}
use Rattle.c_ast.specs.declared.normal.Normal.{Normal}
use Rattle.c_meaning.specs.Lawful.{LawfulNormal}
use Rattle.c_meaning.specs.Sizes.{form_sizes}
use Rattle.ir.specs.Headers.{var_graph_header}
use Rattle.ir.specs.Variables.{IsVarGraph}
use Rattle.c_meaning.specs.Headers.{normal_header}
use Rattle.struct_cfg.specs.Kernels.{form_graph}
use Rattle.struct_cfg.specs.Runs.{RunsFollow, VariablesFollow, CfgSizes}

abbrev pub FormsFit : Type 0
FormsFit = (f : Normal) → LawfulNormal f → IsVarGraph (form_graph f)

abbrev pub FormRunsAreFollowed : Type 0
FormRunsAreFollowed = (f : Normal) → LawfulNormal f → RunsFollow f (form_graph f)

abbrev pub FormVariablesAreShown : Type 0
FormVariablesAreShown = (f : Normal) → LawfulNormal f → VariablesFollow f (form_graph f)

abbrev pub FormSizesAreKept : Type 0
FormSizesAreKept = (f : Normal) → CfgSizes (form_graph f) (form_sizes f)

abbrev pub FormHeadersAreKept : Type 0
FormHeadersAreKept = (f : Normal) → var_graph_header (form_graph f) ≡ normal_header f

abbrev pub FormVariablesAreKept : Type 0
FormVariablesAreKept = (f : Normal) → (form_graph f).vars ≡ map ty_width f.vars
