-- The graph is well formed: steps, writes and jumps fit, draft by draft.
use Rattle.std.proofs.Common.{◌≡◌, ℕ, zero, suc, ◌+◌, ◌<◌, ◌≤◌, List, [], ◌∷◌, ◌++◌, map, length, get_or, Option, Some, None, refl, sym, ◌∙◌, ap, subst, arith, length-append, append_assoc, ⊎_elim}
use Rattle.std.specs.Prelude.{true, false, IsTrue, slice_get, set, All, option_map}
use mathlib.Core.Former.{Count}
use Rattle.std.proofs.lemmas.List.{length-map, length-set, get_or-set_same, get_or-set_other}
use Rattle.std.proofs.lemmas.List.Elements.{All-append, All-cons, All-nil, All-head, All-tail}
use Rattle.std.proofs.lemmas.Option.{slice_get_within, slice_get-get_or, slice_get-map, same_Some}
use Rattle.std.proofs.lemmas.Bool.{cases_eq}
use Rattle.std.proofs.Math.Seq.{get_or-append_seam}
use Rattle.el_base.specs.declared.ty.Ty.{Ty}
use Rattle.el_base.specs.Widths.{ty_width}
use Rattle.c_ast.specs.declared.typed.TypedExpr.{TypedExpr}
use Rattle.el_base.specs.declared.span.Span.{Span}
use Rattle.c_ast.specs.declared.typed.ArrayOf.{ArrayOf}
use Rattle.c_ast.specs.declared.typed.Object.{Object}
use Rattle.c_ast.specs.declared.typed.Object.TheVariants as object
use Rattle.c_ast.specs.declared.normal.NormalStmtKind.{NormalStmtKind, Row_of-NormalStmt, end_of-NormalStmt, more_of-NormalStmt, Held-NormalStmtKind-If-3}
use Rattle.c_ast.specs.declared.normal.NormalStmtKind as step
use Rattle.ir.specs.declared.cfg.CfgJump.{CfgJump}
use Rattle.ir.specs.declared.cfg.CfgJump.TheVariants.{Go, Two, Return}
use Rattle.ir.specs.Shapes.{Shape, IsOfWidth, StepsFit, shape_after}
use Rattle.ir.specs.Graphs.{IsReturn}
use Rattle.ir.specs.Variables.{VarGraph, IsTo, IsVarJump, IsWrite, IsVarBlock, read_shape}
use Rattle.c_meaning.specs.Stores.{Objects}
use Rattle.c_meaning.specs.Sizes.{closes, closes_held, closes_step, closes_row}
use Rattle.c_meaning.specs.Lawful.{LawfulExpr, LawfulNormalExpr, IsVar, IsElement, LawfulOption, LawfulAssignment, LawfulDeclaration, LawfulReturn, LawfulNormalStmt, LawfulNormalStmtHeld, LawfulNormalStmts}
use Rattle.struct_cfg.specs.declared.draft.Draft.{Draft}
use Rattle.struct_cfg.specs.Drafts.{here, next_value, with_steps, with_value, closed, close, count_from, own_values, writes_from}
use Rattle.struct_cfg.specs.Places.{Frame}
use Rattle.struct_cfg.specs.Layings.{Laid, Laying}
use Rattle.struct_cfg.specs.Exprs.{expr_laying, condition_laying, store_laying}
use Rattle.struct_cfg.specs.Lowering.{with_expr, value_of, with_condition, condition_of, assign_to, declare, loop_parts, lower, lower_held, lower_step, lower_row}
use Rattle.struct_cfg.specs.Shares.{AreSmallArrays}
use Rattle.struct_cfg.specs.Fits.{EnvFits, Fits, HasObjects, AlwaysFits}
use Rattle.struct_cfg.proofs.Fitting.{shape_append, steps_append, width_stays, length_shape, expr_fits, condition_fits}
use Rattle.struct_cfg.proofs.Stores.{store_fits}
use Rattle.struct_cfg.proofs.Blocks.{length_count_from, get_count_from}
use Rattle.struct_cfg.proofs.Lays.{grown_kind, grown_row, grown_close, here_close, loop_grown}

abbrev pub open_shape : VarGraph → Draft → Shape
open_shape g d = shape_after g.arrays (map Some g.vars) d.steps

pub record IsFine (g : VarGraph) (d : Draft) : Type 0 where
  pub blocks : All (IsVarBlock g) d.blocks
  pub steps : StepsFit g.arrays (map Some g.vars) d.steps
  pub long : length d.env ≡ length g.vars
  pub env : EnvFits g.vars d.env (open_shape g d)

pub own_fits : (vars : List ℕ) → EnvFits vars (own_values (length vars)) (map Some vars)
own_fits vars = record {
  by = λ x w e.
      let within = slice_get_within vars x w e in
      let is : get_or (own_values (length vars)) x 0 ≡ x = get_count_from 0 (length vars) x within ∙ omega arith in
      subst (λ i. slice_get (map Some vars) i ≡ Some (Some w)) (sym is) (slice_get-map Some vars x ∙ ap (option_map Some) e);
}

length_somes : (vs : List ℕ) → length (map Some vs) ≡ length vs
length_somes vs = length-map vs Some

reads_from : (pre vs : List ℕ) → map (slice_get (pre ++ vs)) (count_from (length pre) (length vs)) ≡ map Some vs
reads_from pre [] = refl
reads_from pre (v ∷ vs) =
    let within : length pre < length (pre ++ v ∷ vs) = omega (arith, length-append pre (v ∷ vs)) in
    let here_is : slice_get (pre ++ v ∷ vs) (length pre) ≡ Some v = slice_get-get_or (pre ++ v ∷ vs) (length pre) v within ∙ ap Some (get_or-append_seam pre v vs v) in
    let more = pre ++ v ∷ [] in
    let one : suc (length pre) ≡ length more = omega (arith, length-append pre (v ∷ [])) in
    ap (λ x. x ∷ map (slice_get (pre ++ v ∷ vs)) (count_from (suc (length pre)) (length vs))) here_is
    ∙ ap (λ n. Some v ∷ map (slice_get (pre ++ v ∷ vs)) (count_from n (length vs))) one
    ∙ ap (λ l. Some v ∷ map (slice_get l) (count_from (length more) (length vs))) (sym (append_assoc pre (v ∷ []) vs))
    ∙ ap (λ l. Some v ∷ l) (reads_from more vs)

reads_below : (j n m : ℕ) → j + n ≤ m → All (λ v. v < m) (count_from j n)
reads_below j zero m h = All-nil (λ v. v < m)
reads_below j (suc n) m h = All-cons (λ v. v < m) j (count_from (suc j) n) (omega arith) (reads_below (suc j) n m (omega arith))

module _ (g : VarGraph) where
  writes_fit : (j : ℕ) (env : List ℕ) (ws : Shape) → ((i : ℕ) → i < length env → IsWrite g ws (record { var = j + i; value = get_or env i 0 })) → All (IsWrite g ws) (writes_from j env)
  writes_fit j [] ws h = All-nil (IsWrite g ws)
  writes_fit j (v ∷ env) ws h =
      let e : j + 0 ≡ j = omega arith in
      All-cons (IsWrite g ws) (record { var = j; value = v }) (writes_from (suc j) env) (subst (λ n. IsWrite g ws (record { var = n; value = v })) e (h 0 (omega arith)))
      (writes_fit (suc j) env ws (λ i lt. let n : j + suc i ≡ suc j + i = omega arith in subst (λ n. IsWrite g ws (record { var = n; value = get_or env i 0 })) n (h (suc i) (omega arith))))

  pub fine_close : (d : Draft) (j : CfgJump) → IsFine g d → IsVarJump g (open_shape g d) j → IsFine g (close j d)
  fine_close d j f h =
      let b = closed j d in
      let reads : read_shape g b ≡ map Some g.vars = ap (λ n. map (slice_get g.vars) (own_values n)) f.long ∙ reads_from [] g.vars in
      let block : IsVarBlock g b = record {
        reads = reads_below 0 (length d.env) (length g.vars) (omega (arith, f.long));
        steps = subst (λ ws. StepsFit g.arrays ws d.steps) (sym reads) f.steps;
        writes = subst (λ ws. All (IsWrite g (shape_after g.arrays ws d.steps)) (writes_from 0 d.env)) (sym reads) (writes_fit 0 d.env (open_shape g d) (λ i lt.
            let within : 0 + i < length g.vars = omega (arith, f.long) in
            let w = get_or g.vars (0 + i) 0 in
            let named : slice_get g.vars (0 + i) ≡ Some w = slice_get-get_or g.vars (0 + i) 0 within in
            let same : 0 + i ≡ i = omega arith in
            (w, named, subst (λ n. IsOfWidth (open_shape g d) (get_or d.env n 0) w) same (f.env.by (0 + i) w named))));
        jump = subst (λ ws. IsVarJump g (shape_after g.arrays ws d.steps) j) (sym reads) h;
      } in
      record {
        blocks = All-append (IsVarBlock g) d.blocks (b ∷ []) f.blocks (All-cons (IsVarBlock g) b [] block (All-nil (IsVarBlock g)));
        steps = tt;
        long = length_count_from 0 (length d.env) ∙ f.long;
        env = subst (λ n. EnvFits g.vars (own_values n) (map Some g.vars)) (sym f.long) (own_fits g.vars);
      }

  pub next_shape : (d : Draft) → IsFine g d → length (open_shape g d) ≡ next_value d
  next_shape d f = omega (arith, length_shape g.arrays d.steps (map Some g.vars), length_somes g.vars, f.long)

  -- steps that are laid in the open block
  pub fine_laid : (l : Laid) (w : ℕ) (d : Draft) → Fits g.arrays (open_shape g d) l w → IsFine g d → IsFine g (with_steps l.steps d)
  fine_laid l w d m f =
      let ws = open_shape g d in
      record {
        blocks = f.blocks;
        steps = steps_append g.arrays (map Some g.vars) d.steps l.steps f.steps m.steps;
        long = f.long;
        env = subst (EnvFits g.vars d.env) (sym (shape_append g.arrays (map Some g.vars) d.steps l.steps)) (record { by = λ x w i. width_stays g.arrays l.steps ws (get_or d.env x 0) w (f.env.by x w i) });
      }

  pub laid_fits : (a : List ℕ → Laying) (w : ℕ) (d : Draft) → AlwaysFits g.vars g.arrays d.env (a d.env) w → IsFine g d → Fits g.arrays (open_shape g d) (a d.env (next_value d)) w
  laid_fits a w d law f = subst (λ n. Fits g.arrays (open_shape g d) (a d.env n) w) (next_shape d f) (law.fits (open_shape g d) f.env)

  pub laid_width : (l : Laid) (w : ℕ) (d : Draft) → Fits g.arrays (open_shape g d) l w → IsOfWidth (open_shape g (with_steps l.steps d)) l.value w
  laid_width l w d m = subst (λ s. IsOfWidth s l.value w) (sym (shape_append g.arrays (map Some g.vars) d.steps l.steps)) m.width

  pub fine_set : (x a w : ℕ) (d : Draft) → IsFine g d → slice_get g.vars x ≡ Some w → IsOfWidth (open_shape g d) a w → IsFine g (with_value x a d)
  fine_set x a w d f named h = record {
    blocks = f.blocks;
    steps = f.steps;
    long = length-set d.env x a ∙ f.long;
    env = record {
      by = λ y u e.
          ⊎_elim
          (λ q.
          let same : w ≡ u = same_Some _ _ (sym named ∙ ap (slice_get g.vars) (sym q) ∙ e) in
          let val : get_or (set d.env x a) y 0 ≡ a = ap (λ i. get_or (set d.env x a) i 0) q ∙ get_or-set_same d.env x a 0 (omega (arith, slice_get_within g.vars x w named, f.long)) in
          subst (λ i. IsOfWidth (open_shape g d) i u) (sym val) (subst (IsOfWidth (open_shape g d) a) same h))
          (λ ne. subst (λ i. IsOfWidth (open_shape g d) i u) (sym (get_or-set_other d.env x y a 0 ne)) (f.env.by y u e))
          (cases_eq y x);
    };
  }

-- what the trees need: the kernel's objects in the graph, and its result
pub record FitsHeader (g : VarGraph) (k : Objects) (r : Option Ty) : Type 0 where
  pub has : HasObjects k g.vars g.arrays
  pub small : AreSmallArrays k.arrays
  pub result : g.result ≡ r

abbrev out_of : Frame → Frame
out_of f = record { loop = false; free = f.free; break_to = f.break_to; continue_to = f.continue_to }

module _ (g : VarGraph) (k : Objects) (r : Option Ty) (header : FitsHeader g k r) where
  abbrev arrays : List ArrayOf
  arrays = k.arrays

  expr_fine : (e : TypedExpr) (d : Draft) → LawfulNormalExpr k e → IsFine g d → IsFine g (with_expr arrays e d)
  expr_fine e d l f = fine_laid g (expr_laying arrays d.env e (next_value d)) (ty_width e.ty) d (laid_fits g (λ env. expr_laying arrays env e) (ty_width e.ty) d (expr_fits k header.small g.vars g.arrays header.has d.env e l.0) f) f

  expr_wide : (e : TypedExpr) (d : Draft) → LawfulNormalExpr k e → IsFine g d → IsOfWidth (open_shape g (with_expr arrays e d)) (value_of arrays e d) (ty_width e.ty)
  expr_wide e d l f = laid_width g (expr_laying arrays d.env e (next_value d)) (ty_width e.ty) d (laid_fits g (λ env. expr_laying arrays env e) (ty_width e.ty) d (expr_fits k header.small g.vars g.arrays header.has d.env e l.0) f)

  cond_laid : (e : TypedExpr) (d : Draft) → LawfulNormalExpr k e → IsFine g d → Fits g.arrays (open_shape g d) (condition_laying arrays d.env e (next_value d)) 32
  cond_laid e d l f = laid_fits g (λ env. condition_laying arrays env e) 32 d (condition_fits k header.small g.vars g.arrays header.has d.env e l.0) f

  abbrev Targets : Frame → Type 0
  Targets f = IsTrue f.loop → IsTo g.blocks f.break_to × IsTo g.blocks f.continue_to

  to_is : (b : ℕ) → 0 < b → b < length g.blocks → IsTo g.blocks b
  to_is b p q = (p, q)

  fine_two : (e : TypedExpr) (d : Draft) (a b : ℕ) → LawfulNormalExpr k e → IsFine g d → 0 < a → a < length g.blocks → 0 < b → b < length g.blocks → IsFine g (close (Two (condition_of arrays e d) a b) (with_condition arrays e d))
  fine_two e d a b l f p q s t =
      let c = condition_laying arrays d.env e (next_value d) in
      let m = cond_laid e d l f in
      fine_close g (with_condition arrays e d) (Two (condition_of arrays e d) a b) (fine_laid g c 32 d m f) (laid_width g c 32 d m, to_is a p q, to_is b s t)

  fine_return : (e : Option TypedExpr) (d : Draft) (q : Option Ty) → g.result ≡ q → LawfulReturn (LawfulNormalExpr k) q e → IsFine g d → IsFine g (lower arrays 0 0 (step.Return e) d)
  fine_return None d None i l f = fine_close g d (Return None) f (subst (λ q. IsReturn q (open_shape g d) None) (sym i) tt)
  fine_return None d (Some t) i l f = absurd l
  fine_return (Some e) d None i l f = absurd l
  fine_return (Some e) d (Some t) i l f =
      let wide = subst (λ t. IsOfWidth (open_shape g (with_expr arrays e d)) (value_of arrays e d) (ty_width t)) l.0 (expr_wide e d l.1 f) in
      fine_close g (with_expr arrays e d) (Return (Some (value_of arrays e d))) (expr_fine e d l.1 f) (subst (λ q. IsReturn q (open_shape g (with_expr arrays e d)) (Some (value_of arrays e d))) (sym i) wide)

  return_is : (x y : ℕ) (e : Option TypedExpr) (d : Draft) → lower arrays 0 0 (step.Return e) d ≡ lower arrays x y (step.Return e) d
  return_is x y e d = refl

  fine_declare : (x : ℕ) (e : Option TypedExpr) (d : Draft) → LawfulDeclaration k (LawfulNormalExpr k) x e → IsFine g d → IsFine g (declare arrays x e d)
  fine_declare x None d l f = f
  fine_declare x (Some e) d l f = fine_set g x (value_of arrays e d) (ty_width e.ty) (with_expr arrays e d) (expr_fine e d l.1 f) (header.has.vars_are x e.ty l.0) (expr_wide e d l.1 f)

  weaken : (es : List TypedExpr) → All (LawfulNormalExpr k) es → All (LawfulExpr k) es
  weaken [] h = All-nil (LawfulExpr k)
  weaken (e ∷ es) h =
      let q = All-head (LawfulNormalExpr k) e es h in
      All-cons (LawfulExpr k) e es q.0 (weaken es (All-tail (LawfulNormalExpr k) e es h))

  fine_assign : (to : Object) (at : Span) (is : List TypedExpr) (e : TypedExpr) (d : Draft) → LawfulAssignment k (LawfulNormalExpr k) (record { to = to; at = at; indices = is }) None e → IsFine g d → IsFine g (assign_to arrays to is e d)
  fine_assign (object.Var x) at is e d l f =
      let named : IsVar k x e.ty = subst (IsVar k x) (sym l.2) l.1.0.0 in
      fine_set g x (value_of arrays e d) (ty_width e.ty) (with_expr arrays e d) (expr_fine e d l.3 f) (header.has.vars_are x e.ty named) (expr_wide e d l.3 f)
  fine_assign (object.Array a) at is e d l f =
      let named : IsElement k a (length is) e.ty = subst (IsElement k a (length is)) (sym l.2) l.1.0 in
      let ws = open_shape g d in
      let fits : StepsFit g.arrays ws (store_laying arrays d.env a is e (next_value d)).steps =
      subst (λ n. StepsFit g.arrays ws (store_laying arrays d.env a is e n).steps) (next_shape g d f) (store_fits k header.small g.vars g.arrays header.has d.env a is e named (weaken is l.1.1) l.3.0 ws f.env) in
      let steps = (store_laying arrays d.env a is e (next_value d)).steps in
      record {
        blocks = f.blocks;
        steps = steps_append g.arrays (map Some g.vars) d.steps steps f.steps fits;
        long = f.long;
        env = subst (EnvFits g.vars d.env) (sym (shape_append g.arrays (map Some g.vars) d.steps steps)) (record { by = λ x w i. width_stays g.arrays steps ws (get_or d.env x 0) w (f.env.by x w i) });
      }

  fine_loop : (x : ℕ) (before : Draft → Draft) (cond : Option TypedExpr) (body : Draft → Draft) (d : Draft) → LawfulOption (LawfulNormalExpr k) cond → IsFine g (before d) → here (before d) + 1 < length g.blocks → 0 < x → x < length g.blocks
      → ((e : Draft) → here e ≡ here (before d) + 1 → IsFine g e → IsFine g (body e)) → IsFine g (loop_parts arrays x before cond body d)
  fine_loop x before None body d l f p q s b =
      let j = Go (here (before d) + 1) in
      b (close j (before d)) (here_close j (before d)) (fine_close g (before d) j f (to_is (here (before d) + 1) (omega arith) p))
  fine_loop x before (Some e) body d l f p q s b =
      let j = Two (condition_of arrays e (before d)) (here (before d) + 1) x in
      b (close j (with_condition arrays e (before d))) (here_close j (with_condition arrays e (before d))) (fine_two e (before d) (here (before d) + 1) x l f (omega arith) p q s)

  -- a loop without a step, from the jump to its condition on
  fine_stepless : (f : Frame) {n : Count} (before : Row_of-NormalStmt n) (cond : Option TypedExpr) (s : NormalStmtKind) (exit : ℕ) (d0 : Draft) → IsFine g d0 → LawfulOption (LawfulNormalExpr k) cond
      → ((d : Draft) → IsFine g d → here d + closes_row before < length g.blocks → IsFine g (lower_row arrays f.break_to f.continue_to before d))
      → ((a c : ℕ) → IsTo g.blocks a → IsTo g.blocks c → (d : Draft) → IsFine g d → here d + closes s < length g.blocks → IsFine g (lower arrays a c s d))
      → here d0 + 1 + closes_row before + 1 + closes s + 1 ≡ exit → exit < length g.blocks
      → (let head = here d0 + 1 in IsFine g (close (Go head) (loop_parts arrays exit (lower_row arrays f.break_to f.continue_to before) cond (lower arrays exit head s) (close (Go head) d0))))
  fine_stepless f before cond s exit d0 i lc rows body at h =
      let head = here d0 + 1 in
      let ahead = lower_row arrays f.break_to f.continue_to before in
      let d1 = close (Go head) d0 in
      let g1 = grown_close (Go head) d0 in
      let g2 = grown_row arrays f.break_to f.continue_to before d1 in
      let to_head = to_is head (omega arith) (omega arith) in
      let to_exit = to_is exit (omega arith) (omega arith) in
      let i1 = rows d1 (fine_close g d0 (Go head) i to_head) (omega (arith, g1.blocks)) in
      let i2 = fine_loop exit ahead cond (lower arrays exit head s) d1 lc i1 (omega (arith, g1.blocks, g2.blocks)) (omega arith) (omega arith) (λ b q ib. body exit head to_exit to_head b ib (omega (arith, g1.blocks, g2.blocks, q))) in
      fine_close g (loop_parts arrays exit ahead cond (lower arrays exit head s) d1) (Go head) i2 to_head

  mutual
    pub fine_kind : (f : Frame) (s : NormalStmtKind) (d : Draft) → IsFine g d → LawfulNormalStmt k r f.loop s → Targets f → here d + closes s < length g.blocks → IsFine g (lower arrays f.break_to f.continue_to s d)
    fine_kind f (step.Block' n row) d i l t h = fine_row f row d i l t h
    fine_kind f (step.Declare v e) d i l t h = fine_declare v e d l i
    fine_kind f (step.Assign target e) d i l t h = fine_assign target.to target.at target.indices e d l i
    fine_kind f (step.If' n before cond p (more_of-NormalStmt s at end_of-NormalStmt) o) d i l t h =
        let x = f.break_to in let y = f.continue_to in
        let d1 = lower_row arrays x y before d in
        let second = here d1 + 1 + closes s + 1 in
        let join = second + closes_held o + 1 in
        let j = Two (condition_of arrays cond d1) (here d1 + 1) second in
        let d2 = close j (with_condition arrays cond d1) in
        let d3 = lower arrays x y s d2 in
        let d4 = close (Go join) d3 in
        let d5 = lower_held arrays x y o d4 in
        let g1 = grown_row arrays x y before d in
        let g2 = grown_close j (with_condition arrays cond d1) in
        let g3 = grown_kind arrays x y s d2 in
        let g4 = grown_close (Go join) d3 in
        let i1 = fine_row f before d i l.0 t (omega arith) in
        let i2 = fine_two cond d1 (here d1 + 1) second l.1 i1 (omega arith) (omega (arith, g1.blocks)) (omega arith) (omega (arith, g1.blocks)) in
        let i3 = fine_kind f s d2 i2 l.2 t (omega (arith, g1.blocks, g2.blocks)) in
        let i4 = fine_close g d3 (Go join) i3 (to_is join (omega arith) (omega (arith, g1.blocks))) in
        let i5 = fine_held f o d4 i4 l.3 t (omega (arith, g1.blocks, g2.blocks, g3.blocks, g4.blocks)) in
        fine_close g d5 (Go join) i5 (to_is join (omega arith) (omega (arith, g1.blocks)))
    fine_kind f (step.While' n before cond p (more_of-NormalStmt s at end_of-NormalStmt)) d i l t h =
        let exit = here d + 1 + closes_row before + 1 + closes s + 1 in
        fine_stepless f before (Some cond) s exit d i l.1 (λ b ib hb. fine_row (out_of f) before b ib l.0 (λ z. absurd (cc)) hb)
        (λ a c p q b ib hb. fine_kind (record { loop = true; free = f.free; break_to = a; continue_to = c }) s b ib l.2 (λ z. (p, q)) hb) refl (omega arith)
    fine_kind f (step.DoWhile' p (more_of-NormalStmt s at end_of-NormalStmt) n before cond) d i l t h =
        let x = f.break_to in let y = f.continue_to in
        let first = here d + 1 in
        let head = first + closes s + 1 in
        let exit = head + closes_row before + 1 in
        let d1 = close (Go first) d in
        let d2 = lower arrays exit head s d1 in
        let d3 = close (Go head) d2 in
        let d4 = lower_row arrays x y before d3 in
        let g1 = grown_close (Go first) d in
        let g2 = grown_kind arrays exit head s d1 in
        let g3 = grown_close (Go head) d2 in
        let inner : Frame = record { loop = true; free = f.free; break_to = exit; continue_to = head } in
        let i1 = fine_close g d (Go first) i (to_is first (omega arith) (omega arith)) in
        let i2 = fine_kind inner s d1 i1 l.0 (λ z. (to_is exit (omega arith) (omega arith), to_is head (omega arith) (omega arith))) (omega (arith, g1.blocks)) in
        let i3 = fine_close g d2 (Go head) i2 (to_is head (omega arith) (omega arith)) in
        let i4 = fine_row (out_of f) before d3 i3 l.1 (λ z. absurd (cc)) (omega (arith, g1.blocks, g2.blocks, g3.blocks)) in
        fine_two cond d4 first exit l.2 i4 (omega arith) (omega arith) (omega arith) (omega arith)
    fine_kind f (step.For' n first m before cond o p (more_of-NormalStmt s at end_of-NormalStmt)) d i l t h = fine_for f before cond s o (lower_row arrays f.break_to f.continue_to first d) (fine_row (out_of f) first d i l.0 (λ z. absurd (cc)) (omega arith)) l.2 l.4
        (λ d i h. fine_row (out_of f) before d i l.1 (λ z. absurd (cc)) h) (λ a c p q d i h. fine_kind (record { loop = true; free = f.free; break_to = a; continue_to = c }) s d i l.5 (λ z. (p, q)) h)
        (let g0 = grown_row arrays f.break_to f.continue_to first d in omega (arith, g0.blocks))
    fine_kind f step.Break d i l t h = fine_close g d (Go f.break_to) i (t l).0
    fine_kind f step.Continue d i l t h = fine_close g d (Go f.continue_to) i (t l).1
    fine_kind f (step.Return e) d i l t h = subst (IsFine g) (return_is f.break_to f.continue_to e d) (fine_return e d r header.result l i)
    fine_kind f step.Empty d i l t h = i

    fine_for : (f : Frame) {n : Count} (before : Row_of-NormalStmt n) (cond : Option TypedExpr) (s : NormalStmtKind) (o : Held-NormalStmtKind-If-3) (d0 : Draft) → IsFine g d0 → LawfulOption (LawfulNormalExpr k) cond → LawfulNormalStmtHeld k r false o
        → ((d : Draft) → IsFine g d → here d + closes_row before < length g.blocks → IsFine g (lower_row arrays f.break_to f.continue_to before d))
        → ((a c : ℕ) → IsTo g.blocks a → IsTo g.blocks c → (d : Draft) → IsFine g d → here d + closes s < length g.blocks → IsFine g (lower arrays a c s d))
        → here d0 + 1 + closes_row before + 1 + closes s + 1 + closes_step o < length g.blocks
        → (let head = here d0 + 1 in let after = head + closes_row before + 1 + closes s + 1 in let exit = after + closes_step o in
        IsFine g (lower_step arrays f.break_to f.continue_to head o (λ to. loop_parts arrays exit (lower_row arrays f.break_to f.continue_to before) cond (lower arrays exit to s) (close (Go head) d0)) after))
    fine_for f before cond s step.None' d0 i lc lo rows body h = fine_stepless f before cond s (here d0 + 1 + closes_row before + 1 + closes s + 1 + 0) d0 i lc rows body (omega arith) (omega arith)
    fine_for f before cond s (step.Some' b (more_of-NormalStmt u at end_of-NormalStmt)) d0 i lc lo rows body h =
        let x = f.break_to in let y = f.continue_to in
        let head = here d0 + 1 in
        let after = head + closes_row before + 1 + closes s + 1 in
        let exit = after + (closes u + 1) in
        let d1 = close (Go head) d0 in
        let g1 = grown_close (Go head) d0 in
        let g2 = grown_row arrays x y before d1 in
        let to_head = to_is head (omega arith) (omega arith) in
        let to_exit = to_is exit (omega arith) (omega arith) in
        let to_after = to_is after (omega arith) (omega arith) in
        let e = loop_parts arrays exit (lower_row arrays x y before) cond (lower arrays exit after s) d1 in
        let g3 = loop_grown arrays exit (lower_row arrays x y before) (closes_row before) cond (lower arrays exit after s) (closes s) d1 (grown_row arrays x y before) (grown_kind arrays exit after s) in
        let d5 = close (Go after) e in
        let g5 = grown_close (Go after) e in
        let i1 = fine_close g d0 (Go head) i to_head in
        let i2 = fine_loop exit (lower_row arrays x y before) cond (lower arrays exit after s) d1 lc (rows d1 i1 (omega (arith, g1.blocks))) (omega (arith, g1.blocks, g2.blocks)) (omega arith) (omega arith) (λ b q ib. body exit after to_exit to_after b ib (omega (arith, g1.blocks, g2.blocks, q))) in
        let i5 = fine_close g e (Go after) i2 to_after in
        let i6 = fine_kind (out_of f) u d5 i5 lo (λ z. absurd (cc)) (omega (arith, g1.blocks, g3.blocks, g5.blocks)) in
        fine_close g (lower arrays x y u d5) (Go head) i6 to_head

    fine_held : (f : Frame) (o : Held-NormalStmtKind-If-3) (d : Draft) → IsFine g d → LawfulNormalStmtHeld k r f.loop o → Targets f → here d + closes_held o < length g.blocks → IsFine g (lower_held arrays f.break_to f.continue_to o d)
    fine_held f step.None' d i l t h = i
    fine_held f (step.Some' p (more_of-NormalStmt s at end_of-NormalStmt)) d i l t h = fine_kind f s d i l t h

    pub fine_row : (f : Frame) {n : Count} (row : Row_of-NormalStmt n) (d : Draft) → IsFine g d → LawfulNormalStmts k r f.loop row → Targets f → here d + closes_row row < length g.blocks → IsFine g (lower_row arrays f.break_to f.continue_to row d)
    fine_row f end_of-NormalStmt d i l t h = i
    fine_row f (more_of-NormalStmt s at row) d i l t h =
        let x = f.break_to in let y = f.continue_to in
        let g1 = grown_kind arrays x y s d in
        fine_row f row (lower arrays x y s d) (fine_kind f s d i l.0 t (omega arith)) l.1 t (omega (arith, g1.blocks))
