use Rattle.std.proofs.Common.{◌≡◌, ◌∙◌, ap, length, map, refl, sym, subst}
use Rattle.el_base.specs.Widths.{ty_width}
use Rattle.c_ast.specs.declared.normal.Normal.{Normal}
use Rattle.c_meaning.specs.declared.profile.Profile.TheVariants.{Plain}
use Rattle.c_meaning.specs.Headers.{scalars_of, flat}
use Rattle.c_meaning.specs.Lawful.{LawfulNormal}
use Rattle.c_meaning.specs.Normals.{normal_objects}
use Rattle.c_meaning.specs.Sizes.{form_sizes}
use Rattle.ir.specs.Variables.{VarGraph, IsVarGraph}
use Rattle.struct_cfg.specs.Kernels.{kernel_draft, form_graph}
use Rattle.struct_cfg.specs.Laws.{FormHeadersAreKept, FormVariablesAreKept, FormRunsAreFollowed, FormVariablesAreShown}
use Rattle.struct_cfg.specs.Runs.{CfgShare, CfgSizes}
use Rattle.struct_cfg.specs.Shares.{AreSmallArrays}
use Rattle.struct_cfg.proofs.Formed.{form_fits}
use Rattle.struct_cfg.proofs.Sized.{sizes_kept}
use Rattle.struct_cfg.proofs.Stores.{small_arrays}
use Rattle.struct_cfg.proofs.graph.wide_cfg.Goals as goal

graph_made : (f : Normal) (g : VarGraph) → g.name ≡ f.name → g.scalars ≡ scalars_of f.params → g.arrays ≡ map flat f.arrays → g.result ≡ f.result → g.vars ≡ map ty_width f.vars
    → g.blocks ≡ (kernel_draft f.arrays f.result (length f.vars) f.body).blocks → g ≡ form_graph f
graph_made f g name scalars arrays result vars blocks = λ i. record { name = name i; scalars = scalars i; arrays = arrays i; result = result i; vars = vars i; blocks = blocks i }

shared : (f : Normal) (g : VarGraph) → g ≡ form_graph f → LawfulNormal f → FormHeadersAreKept → FormVariablesAreKept → FormRunsAreFollowed → FormVariablesAreShown → CfgShare f g
shared f g is lawful header vars runs variables = subst (CfgShare f) (sym is) (record { header = header f; vars = vars f; runs = runs f lawful; variables = variables f lawful })

pub flat_arrays-requires : goal.flat_arrays-requires
flat_arrays-requires c =
    let f = c.args.normal.now in
    subst AreSmallArrays (sym c.as_slice-2.ensures) (small_arrays f.params (normal_objects Plain f) (c.requires.lawful.header Plain))

pub returns-clause-graph : goal.returns-clause-graph
returns-clause-graph c =
    let f = c.args.normal.now in
    let g : VarGraph = record {
      name = c.in_ok-copy.field-0;
      scalars = c.in_ok-scalars.field-0;
      arrays = c.in_ok-flat_arrays.field-0;
      result = f.result;
      vars = c.in_ok-widths.field-0;
      blocks = c.in_ok-blocks.field-0;
    } in
    let made : g ≡ form_graph f =
    graph_made f g c.in_ok-copy.ensures (c.in_ok-scalars.ensures ∙ ap scalars_of c.as_slice.ensures) (c.in_ok-flat_arrays.ensures ∙ ap (map flat) c.as_slice-2.ensures) refl
    (c.in_ok-widths.ensures ∙ ap (map ty_width) c.as_slice-3.ensures) c.in_ok-blocks.ensures in
    made

pub returns-clause-fit : goal.returns-clause-fit
returns-clause-fit c =
    let f = c.args.normal.now in
    let made = returns-clause-graph c in
    subst IsVarGraph (sym made) (form_fits f c.requires.lawful)

pub returns-clause-share : goal.returns-clause-share
returns-clause-share c =
    let f = c.args.normal.now in
    let made = returns-clause-graph c in
    let laws = c.graphs_follow_their_forms.ensures in
    shared f _ made c.requires.lawful laws.header laws.vars laws.runs laws.variables

pub returns-clause-sizes : goal.returns-clause-sizes
returns-clause-sizes c =
    let f = c.args.normal.now in
    let made = returns-clause-graph c in
    subst (λ (x : VarGraph). CfgSizes x (form_sizes f)) (sym made) (sizes_kept f)
