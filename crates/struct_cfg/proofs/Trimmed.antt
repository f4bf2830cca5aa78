-- What a trimmed graph keeps of the form whose graph was trimmed.
use Rattle.std.proofs.Common.{◌≡◌, ◌+◌, length, sym, ap, ◌∙◌, subst, arith}
use Rattle.std.specs.Prelude.{All}
use Rattle.c_ast.specs.declared.normal.Normal.{Normal}
use Rattle.c_meaning.specs.KernelPatterns.{scalar_patterns, array_patterns, result_pattern}
use Rattle.c_meaning.specs.Normals.{normal_run}
use Rattle.c_meaning.specs.Sizes.{Sizes}
use Rattle.c_meaning.specs.Stores.{scalar_types}
use Rattle.ir.specs.Variables.{VarGraph, IsVarGraph, var_passage, steps_made}
use Rattle.ir.specs.Visits.{Visit, Finishes}
use Rattle.ir.specs.Finished.{Finished}
use Rattle.block_trim.specs.Laws.{TrimmedGraphsRunTheSame, TrimmedSizesAreKept, TrimmedBlocksAreTrim}
use Rattle.block_trim.specs.Shares.{TrimShare, TrimSizes, IsTrim}
use Rattle.block_trim.specs.Trimming.{trimmed}
use Rattle.struct_cfg.specs.Runs.{first_on, ShowsVariables, variables_after, last_of, CfgShare, CfgSizes}

trim_shares : (f : Normal) (g h : VarGraph) → TrimShare g h → CfgShare f g → CfgShare f h
trim_shares f g h same share = record {
  header = same.header ∙ share.header;
  vars = same.vars ∙ share.vars;
  runs = λ p z out r t jumps price fits ends costs.
      let first = same.first (scalar_patterns (scalar_types f.params) z.scalars) (array_patterns f.arrays z.arrays) in
      let run = share.runs p z out r t jumps price fits ends costs in
      subst (λ (v : Visit). Finished (var_passage h) v (result_pattern f.result r) (array_patterns f.arrays out) (steps_made h) jumps (price + length f.vars)) (sym first)
      ((same.runs (first_on f g z) (result_pattern f.result r) (array_patterns f.arrays out) jumps (price + length f.vars)).0 run);
  variables = λ p z out r t fits e rest q arrays done.
      let first = same.first (scalar_patterns (scalar_types f.params) z.scalars) (array_patterns f.arrays z.arrays) in
      let done2 : Finishes (var_passage h) (first_on f g z) rest q arrays = subst (λ (v : Visit). Finishes (var_passage h) v rest q arrays) first done in
      let shown = share.variables p z out r t fits e rest q arrays ((same.ends (first_on f g z) rest q arrays).1 done2) in
      let last : variables_after h (last_of (first_on f h z) rest) ≡ variables_after g (last_of (first_on f g z) rest) =
      ap (λ (v : Visit). variables_after h (last_of v rest)) first ∙ same.variables (last_of (first_on f g z) rest) in
      subst (ShowsVariables f.vars (normal_run f p z e.bound).store) (sym last) shown;
}

trim_sizes : (g h : VarGraph) (z : Sizes) → TrimSizes g h → CfgSizes g z → CfgSizes h z
trim_sizes g h z same sizes = record {
  blocks = same.blocks ∙ sizes.blocks;
  steps = omega (arith, same.all_steps, sizes.steps);
  accesses = omega (arith, same.all_accesses, sizes.accesses);
}

pub trimmed_share : (f : Normal) (g h : VarGraph) → TrimmedGraphsRunTheSame → IsVarGraph g → h ≡ trimmed g → CfgShare f g → CfgShare f h
trimmed_share f g h law fit is share = subst (CfgShare f) (sym is) (trim_shares f g (trimmed g) (law g fit) share)

pub trimmed_sizes : (g h : VarGraph) (z : Sizes) → TrimmedSizesAreKept → h ≡ trimmed g → CfgSizes g z → CfgSizes h z
trimmed_sizes g h z law is sizes = subst (λ (h : VarGraph). CfgSizes h z) (sym is) (trim_sizes g (trimmed g) z (law g) sizes)

pub trimmed_trim : (g h : VarGraph) → TrimmedBlocksAreTrim → h ≡ trimmed g → All IsTrim h.blocks
trimmed_trim g h law is = subst (λ (h : VarGraph). All IsTrim h.blocks) (sym is) (law g)
