-- The graph of a lawful normal form is well formed.
use Rattle.std.proofs.Common.{◌≡◌, ℕ, zero, suc, ◌+◌, ◌^◌, ◌<◌, List, [], ◌∷◌, ◌++◌, map, length, take, Option, Some, None, refl, sym, ◌∙◌, ap, subst, arith}
use Rattle.std.specs.Prelude.{true, false, All, option_map, sum_by}
use Rattle.std.proofs.lemmas.List.{length-map, map-append}
use Rattle.std.proofs.lemmas.List.Sums.{sum_by-cons}
use Rattle.std.proofs.lemmas.List.Elements.{All-nil, All-cons}
use Rattle.std.proofs.lemmas.Option.{slice_get-map}
use Rattle.el_base.specs.declared.ty.Ty.{Ty}
use Rattle.el_base.specs.declared.ty.Ty.TheVariants.{I8}
use Rattle.el_base.specs.declared.ty.Scalar.{Scalar}
use Rattle.el_base.specs.Widths.{ty_width}
use Rattle.c_ast.specs.declared.tree.Param.{Param}
use Rattle.c_ast.specs.declared.normal.Normal.{Normal}
use Rattle.c_ast.specs.declared.normal.NormalStmt.{NormalStmt}
use Rattle.ir.specs.declared.instr.Instr.TheVariants.{Const}
use Rattle.ir.specs.declared.cfg.CfgJump.TheVariants.{Return}
use Rattle.ir.specs.Shapes.{IsWidth}
use Rattle.ir.specs.Graphs.{IsReturn}
use Rattle.ir.specs.Variables.{VarGraph, IsVarGraph, IsVarBlock}
use Rattle.c_meaning.specs.declared.profile.Profile.{Profile}
use Rattle.c_meaning.specs.declared.profile.Profile.TheVariants.{Plain}
use Rattle.c_meaning.specs.Sizes.{closes}
use Rattle.c_meaning.specs.Stores.{Objects, scalar_type, scalar_types}
use Rattle.c_meaning.specs.Normals.{normal_objects}
use Rattle.c_meaning.specs.Lawful.{LawfulNormal}
use Rattle.struct_cfg.specs.declared.draft.Draft.{Draft}
use Rattle.struct_cfg.specs.Drafts.{here, next_value, with_steps, own_values}
use Rattle.struct_cfg.specs.Layings.{Laid}
use Rattle.c_meaning.specs.Headers.{scalar_of, scalars_of, flat}
use Rattle.struct_cfg.specs.Kernels.{empty, finish, form_graph}
use Rattle.struct_cfg.specs.Lists.{lower_all}
use Rattle.struct_cfg.specs.Lowering.{lower}
use Rattle.struct_cfg.specs.Fits.{EnvFits, Fits, HasObjects}
use Rattle.struct_cfg.specs.Places.{Frame}
use Rattle.struct_cfg.proofs.Fitting.{width_is, step_fits}
use Rattle.struct_cfg.proofs.Blocks.{length_count_from}
use Rattle.struct_cfg.proofs.Lays.{grown_kind, grown_all, here_close}
use Rattle.struct_cfg.proofs.Kernels.{AllLawful}
use Rattle.struct_cfg.proofs.Fine.{FitsHeader, IsFine, open_shape, own_fits, fine_close, fine_laid, laid_width, next_shape, fine_kind}
use Rattle.struct_cfg.proofs.Stores.{small_arrays}
use Rattle.struct_cfg.proofs.Whole.{all_lawful}

widths : (ts : List Ty) → All IsWidth (map ty_width ts)
widths [] = All-nil IsWidth
widths (t ∷ ts) = All-cons IsWidth (ty_width t) (map ty_width ts) (width_is t) (widths ts)

has_objects : (p : Profile) (f : Normal) → HasObjects (normal_objects p f) (map ty_width f.vars) (map flat f.arrays)
has_objects p f = record {
  vars_are = λ v t e. slice_get-map ty_width f.vars v ∙ ap (option_map ty_width) e;
  arrays_are = λ a x e. (flat x, slice_get-map flat f.arrays a ∙ ap (option_map flat) e, refl);
}

zero_below : (t : Ty) → 0 < 2 ^ ty_width t
zero_below I8 = omega arith
zero_below t = omega arith

-- ---- lists of statements

abbrev outer : Frame
outer = record { loop = false; free = true; break_to = 0; continue_to = 0 }

module _ (g : VarGraph) (k : Objects) (r : Option Ty) (header : FitsHeader g k r) where
  fine_all : (ss : List NormalStmt) (d : Draft) → IsFine g d → AllLawful k r ss → here d + sum_by (λ s. closes s.kind) ss < length g.blocks → IsFine g (lower_all k.arrays 0 0 ss d)
  fine_all [] d f l h = f
  fine_all (s ∷ ss) d f l h =
      let n = sum_by-cons (λ s. closes s.kind) s ss in
      let a = grown_kind k.arrays 0 0 s.kind d in
      fine_all ss (lower k.arrays 0 0 s.kind d) (fine_kind g k r header outer s.kind d f l.0 (λ z. absurd (cc)) (omega (arith, n))) l.2 (omega (arith, a.blocks, n))

  fine_finish : (t : Option Ty) (d : Draft) → g.result ≡ t → IsFine g d → IsFine g (finish t d)
  fine_finish None d e f = fine_close g d (Return None) f (subst (λ q. IsReturn q (open_shape g d) None) (sym e) tt)
  fine_finish (Some t) d e f =
      let n = next_value d in
      let l : Laid = record { steps = Const (ty_width t) 0 ∷ []; value = n } in
      let ws = open_shape g d in
      let m : Fits g.arrays ws l (ty_width t) = subst (λ i. Fits g.arrays ws (record { steps = Const (ty_width t) 0 ∷ []; value = i }) (ty_width t)) (next_shape g d f) (step_fits g.arrays ws (Const (ty_width t) 0) (ty_width t) (width_is t, zero_below t) refl) in
      fine_close g (with_steps l.steps d) (Return (Some n)) (fine_laid g l (ty_width t) d m f) (subst (λ q. IsReturn q (open_shape g (with_steps l.steps d)) (Some n)) (sym e) (laid_width g l (ty_width t) d m))

finish_blocks : (t : Option Ty) (d : Draft) → length (finish t d).blocks ≡ here d + 1
finish_blocks None d = here_close (Return None) d
finish_blocks (Some t) d = here_close (Return (Some (next_value d))) (with_steps (Const (ty_width t) 0 ∷ []) d)

pub form_blocks : (f : Normal) → length (form_graph f).blocks ≡ sum_by (λ s. closes s.kind) f.body + 1
form_blocks f =
    let d = empty (length f.vars) in
    let g = grown_all f.arrays 0 0 f.body d in
    finish_blocks f.result (lower_all f.arrays 0 0 f.body d) ∙ (omega (arith, g.blocks))

scalar_widths_one : (ds : List ℕ) (p : Param) → map (λ s. ty_width s.ty) (scalar_of ds p) ≡ map ty_width (scalar_type ds p.ty)
scalar_widths_one [] p = refl
scalar_widths_one (d ∷ ds) p = refl

scalar_widths : (ps : List Param) → map (λ s. ty_width s.ty) (scalars_of ps) ≡ map ty_width (scalar_types ps)
scalar_widths [] = refl
scalar_widths (p ∷ ps) =
    map-append (λ (s : Scalar). ty_width s.ty) (scalar_of p.dims p) (scalars_of ps)
    ∙ ap (λ l. l ++ map (λ (s : Scalar). ty_width s.ty) (scalars_of ps)) (scalar_widths_one p.dims p)
    ∙ ap (λ l. map ty_width (scalar_type p.dims p.ty) ++ l) (scalar_widths ps)
    ∙ sym (map-append ty_width (scalar_type p.dims p.ty) (scalar_types ps))

take_map : (n : ℕ) (ts : List Ty) → take n (map ty_width ts) ≡ map ty_width (take n ts)
take_map zero ts = refl
take_map (suc n) [] = refl
take_map (suc n) (t ∷ ts) = ap (λ l. ty_width t ∷ l) (take_map n ts)

pub form_fits : (f : Normal) → LawfulNormal f → IsVarGraph (form_graph f)
form_fits f lawful =
    let g = form_graph f in
    let k = normal_objects Plain f in
    let n = length f.vars in
    let d0 = empty n in
    let head = lawful.header Plain in
    let header : FitsHeader g k f.result = record { has = has_objects Plain f; small = small_arrays f.params k head; result = refl } in
    let many = form_blocks f in
    let long : n ≡ length g.vars = sym (length-map f.vars ty_width) in
    let opened : IsFine g d0 = record {
      blocks = All-nil (IsVarBlock g);
      steps = tt;
      long = length_count_from 0 n ∙ long;
      env = subst (λ i. EnvFits g.vars (own_values i) (map Some g.vars)) (sym long) (own_fits g.vars);
    } in
    let body = fine_all g k f.result header f.body d0 opened (all_lawful k f.result f.body (lawful.statements Plain) lawful.quiet) (omega (arith, many)) in
    let whole = fine_finish g k f.result header f.result (lower_all f.arrays 0 0 f.body d0) refl body in
    let count : length (scalars_of f.params) ≡ length (scalar_types f.params) =
    sym (length-map (scalars_of f.params) (λ (s : Scalar). ty_width s.ty)) ∙ ap length (scalar_widths f.params) ∙ length-map (scalar_types f.params) ty_width in
    record {
      vars = widths f.vars;
      scalars = ap (λ i. take i (map ty_width f.vars)) count ∙ take_map (length (scalar_types f.params)) f.vars ∙ ap (map ty_width) head.first_vars ∙ sym (scalar_widths f.params);
      some = omega (arith, many);
      blocks = whole.blocks;
    }
