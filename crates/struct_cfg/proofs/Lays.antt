-- What lowering keeps: blocks that are closed stay, each statement closes its number of blocks, and each variable keeps its place.
use Rattle.std.proofs.Common.{◌≡◌, ℕ, ◌+◌, ◌<◌, List, [], ◌∷◌, ◌++◌, length, Option, Some, None, refl, ◌∙◌, ap, arith, length-append}
use mathlib.Core.Former.{Count}
use Rattle.std.specs.Prelude.{slice_get, sum_by}
use Rattle.std.proofs.lemmas.List.Sums.{sum_by-cons}
use Rattle.std.proofs.lemmas.List.{length-set, get_or_append_left}
use Rattle.std.proofs.lemmas.Option.{slice_get_within, slice_get-get_or, get_or_from_slice_get}
use Rattle.std.proofs.Math.Seq.{get_or-append_seam}
use Rattle.c_ast.specs.declared.typed.ArrayOf.{ArrayOf}
use Rattle.c_ast.specs.declared.typed.TypedExpr.{TypedExpr}
use Rattle.c_ast.specs.declared.typed.Object.{Object}
use Rattle.c_ast.specs.declared.typed.Object.TheVariants as object
use Rattle.c_ast.specs.declared.normal.NormalStmt.{NormalStmt}
use Rattle.c_ast.specs.declared.normal.NormalStmtKind.{NormalStmtKind, Row_of-NormalStmt, end_of-NormalStmt, more_of-NormalStmt, Held-NormalStmtKind-If-3}
use Rattle.c_ast.specs.declared.normal.NormalStmtKind as step
use Rattle.ir.specs.declared.instr.Instr.{Instr}
use Rattle.ir.specs.declared.cfg.CfgBlock.{CfgBlock}
use Rattle.ir.specs.declared.cfg.CfgJump.{CfgJump}
use Rattle.ir.specs.declared.cfg.CfgJump.TheVariants.{Go, Two, Return}
use Rattle.ir.specs.Variables.{VarGraph, no_var_block}
use Rattle.struct_cfg.specs.declared.draft.Draft.{Draft}
use Rattle.struct_cfg.specs.Drafts.{here, next_value, closed, close, with_steps}
use Rattle.struct_cfg.specs.Exprs.{expr_laying, condition_laying}
use Rattle.c_meaning.specs.Sizes.{closes, closes_held, closes_step, closes_row}
use Rattle.struct_cfg.specs.Lowering.{value_of, with_condition, condition_of, assign_to, loop_parts, lower, lower_held, lower_step, lower_row}
use Rattle.struct_cfg.specs.Lists.{lower_all}
use Rattle.struct_cfg.proofs.Blocks.{Stands, length_count_from}

-- ---- closed blocks stand in the graph

pub record Holds (g : VarGraph) (bs : List CfgBlock) : Type 0 where
  pub by : (b : ℕ) (x : CfgBlock) → slice_get bs b ≡ Some x → slice_get g.blocks b ≡ Some x

pub holds_front : (g : VarGraph) (bs cs : List CfgBlock) → Holds g (bs ++ cs) → Holds g bs
holds_front g bs cs h = record {
  by = λ b x e.
      let within = slice_get_within bs b x e in
      let more : b < length (bs ++ cs) = omega (arith, length-append bs cs, within) in
      h.by b x (slice_get-get_or (bs ++ cs) b x more ∙ ap Some (get_or_append_left bs cs x b within ∙ get_or_from_slice_get bs b x x e));
}

pub stands_last : (g : VarGraph) (d : Draft) (j : CfgJump) → Holds g (close j d).blocks → Stands g d j
stands_last g d j h =
    let x = closed j d in
    let within : length d.blocks < length (d.blocks ++ x ∷ []) = omega (arith, length-append d.blocks (x ∷ [])) in
    let is : slice_get (d.blocks ++ x ∷ []) (length d.blocks) ≡ Some x = slice_get-get_or (d.blocks ++ x ∷ []) (length d.blocks) x within ∙ ap Some (get_or-append_seam d.blocks x [] x) in
    record { by = get_or_from_slice_get g.blocks (length d.blocks) x no_var_block (h.by (length d.blocks) x is) }

pub before_close : (g : VarGraph) (d : Draft) (j : CfgJump) → Holds g (close j d).blocks → Holds g d.blocks
before_close g d j h = holds_front g d.blocks (closed j d ∷ []) h

-- ---- how many blocks are closed, and how many variables have a place

pub here_close : (j : CfgJump) (d : Draft) → here (close j d) ≡ here d + 1
here_close j d = length-append d.blocks (closed j d ∷ [])

-- the next open block, and as many variables; blocks that stand after a part stand before it
pub record Grown (d e : Draft) (n : ℕ) : Type 0 where
  pub blocks : here e ≡ here d + n
  pub env : length e.env ≡ length d.env
  pub kept : (g : VarGraph) → Holds g e.blocks → Holds g d.blocks

pub grown_close : (j : CfgJump) (d : Draft) → Grown d (close j d) 1
grown_close j d = record { blocks = here_close j d; env = length_count_from 0 (length d.env); kept = λ g h. before_close g d j h }

pub grown_same : (d : Draft) → Grown d d 0
grown_same d = record { blocks = omega arith; env = refl; kept = λ g h. h }

pub grown_then : {d e f : Draft} {m n : ℕ} → Grown d e m → Grown e f n → Grown d f (m + n)
grown_then a b = record { blocks = omega (arith, a.blocks, b.blocks); env = b.env ∙ a.env; kept = λ g h. a.kept g (b.kept g h) }

pub grown_as : {d e : Draft} {m : ℕ} (n : ℕ) → Grown d e m → m ≡ n → Grown d e n
grown_as n a i = record { blocks = omega (arith, a.blocks, i); env = a.env; kept = a.kept }

module _ (arrays : List ArrayOf) where
  -- a jump after steps
  grown_steps : (j : CfgJump) (is : List Instr) (d : Draft) → Grown d (close j (with_steps is d)) 1
  grown_steps j is d = let a = grown_close j (with_steps is d) in record { blocks = a.blocks; env = a.env; kept = a.kept }

  grown_condition : (j : CfgJump) (cond : TypedExpr) (d : Draft) → Grown d (close j (with_condition arrays cond d)) 1
  grown_condition j cond d = grown_steps j (condition_laying arrays d.env cond (next_value d)).steps d

  assign_grown : (to : Object) (is : List TypedExpr) (e : TypedExpr) (d : Draft) → Grown d (assign_to arrays to is e d) 0
  assign_grown (object.Var v) is e d = record { blocks = omega arith; env = length-set d.env v (value_of arrays e d); kept = λ g h. h }
  assign_grown (object.Array a) is e d = record { blocks = omega arith; env = refl; kept = λ g h. h }

  pub loop_grown : (x : ℕ) (before : Draft → Draft) (m : ℕ) (cond : Option TypedExpr) (body : Draft → Draft) (n : ℕ) (d : Draft) → ((e : Draft) → Grown e (before e) m) → ((e : Draft) → Grown e (body e) n) → Grown d (loop_parts arrays x before cond body d) (m + 1 + n)
  loop_grown x before m None body n d a b = let j = Go (here (before d) + 1) in grown_as _ (grown_then (a d) (grown_then (grown_close j (before d)) (b (close j (before d))))) (omega arith)
  loop_grown x before m (Some cond) body n d a b =
      let j = Two (condition_of arrays cond (before d)) (here (before d) + 1) x in
      grown_as _ (grown_then (a d) (grown_then (grown_condition j cond (before d)) (b (close j (with_condition arrays cond (before d)))))) (omega arith)

  mutual
    pub grown_kind : (x y : ℕ) (k : NormalStmtKind) (d : Draft) → Grown d (lower arrays x y k d) (closes k)
    grown_kind x y (step.Block' n row) d = grown_row x y row d
    grown_kind x y (step.Declare v None) d = grown_same d
    grown_kind x y (step.Declare v (Some e)) d = record { blocks = omega arith; env = length-set d.env v (value_of arrays e d); kept = λ g h. h }
    grown_kind x y (step.Assign target e) d = assign_grown target.to target.indices e d
    grown_kind x y (step.If' n before cond p (more_of-NormalStmt s at end_of-NormalStmt) o) d =
        let d1 = lower_row arrays x y before d in
        let second = here d1 + 1 + closes s + 1 in
        let join = second + closes_held o + 1 in
        let j = Two (condition_of arrays cond d1) (here d1 + 1) second in
        let d2 = close j (with_condition arrays cond d1) in
        let d3 = lower arrays x y s d2 in
        let d4 = close (Go join) d3 in
        let d5 = lower_held arrays x y o d4 in
        grown_as _ (grown_then (grown_row x y before d) (grown_then (grown_condition j cond d1) (grown_then (grown_kind x y s d2)
        (grown_then (grown_close (Go join) d3) (grown_then (grown_held x y o d4) (grown_close (Go join) d5)))))) (omega arith)
    grown_kind x y (step.While' n before cond p (more_of-NormalStmt s at end_of-NormalStmt)) d =
        let head = here d + 1 in
        let exit = head + closes_row before + 1 + closes s + 1 in
        let d0 = close (Go head) d in
        let d1 = loop_parts arrays exit (lower_row arrays x y before) (Some cond) (lower arrays exit head s) d0 in
        grown_as _ (grown_then (grown_close (Go head) d) (grown_then
        (loop_grown exit (lower_row arrays x y before) (closes_row before) (Some cond) (lower arrays exit head s) (closes s) d0 (grown_row x y before) (grown_kind exit head s)) (grown_close (Go head) d1))) (omega arith)
    grown_kind x y (step.DoWhile' p (more_of-NormalStmt s at end_of-NormalStmt) n before cond) d =
        let first = here d + 1 in
        let head = first + closes s + 1 in
        let exit = head + closes_row before + 1 in
        let d1 = close (Go first) d in
        let d2 = lower arrays exit head s d1 in
        let d3 = close (Go head) d2 in
        let d4 = lower_row arrays x y before d3 in
        grown_as _ (grown_then (grown_close (Go first) d) (grown_then (grown_kind exit head s d1) (grown_then (grown_close (Go head) d2)
        (grown_then (grown_row x y before d3) (grown_condition (Two (condition_of arrays cond d4) first exit) cond d4))))) (omega arith)
    grown_kind x y (step.For' n first m before cond o p (more_of-NormalStmt s at end_of-NormalStmt)) d =
        let d0 = lower_row arrays x y first d in
        let head = here d0 + 1 in
        let after = head + closes_row before + 1 + closes s + 1 in
        let exit = after + closes_step o in
        let d1 = close (Go head) d0 in
        grown_as _ (grown_then (grown_row x y first d) (grown_then (grown_close (Go head) d0)
        (grown_step x y head o after (λ to. loop_parts arrays exit (lower_row arrays x y before) cond (lower arrays exit to s) d1) d1 (closes_row before + 1 + closes s)
        (λ to. loop_grown exit (lower_row arrays x y before) (closes_row before) cond (lower arrays exit to s) (closes s) d1 (grown_row x y before) (grown_kind exit to s))))) (omega arith)
    grown_kind x y step.Break d = grown_close (Go x) d
    grown_kind x y step.Continue d = grown_close (Go y) d
    grown_kind x y (step.Return None) d = grown_close (Return None) d
    grown_kind x y (step.Return (Some e)) d = grown_steps (Return (Some (value_of arrays e d))) (expr_laying arrays d.env e (next_value d)).steps d
    grown_kind x y step.Empty d = grown_same d

    pub grown_held : (x y : ℕ) (o : Held-NormalStmtKind-If-3) (d : Draft) → Grown d (lower_held arrays x y o d) (closes_held o)
    grown_held x y step.None' d = grown_same d
    grown_held x y (step.Some' p (more_of-NormalStmt s at end_of-NormalStmt)) d = grown_kind x y s d

    pub grown_step : (x y head : ℕ) (o : Held-NormalStmtKind-If-3) (after : ℕ) (body : ℕ → Draft) (d : Draft) (n : ℕ) → ((to : ℕ) → Grown d (body to) n) → Grown d (lower_step arrays x y head o body after) (n + 1 + closes_step o)
    grown_step x y head step.None' after body d n a = grown_as _ (grown_then (a head) (grown_close (Go head) (body head))) (omega arith)
    grown_step x y head (step.Some' p (more_of-NormalStmt s at end_of-NormalStmt)) after body d n a =
        let d1 = close (Go after) (body after) in
        grown_as _ (grown_then (a after) (grown_then (grown_close (Go after) (body after)) (grown_then (grown_kind x y s d1) (grown_close (Go head) (lower arrays x y s d1))))) (omega arith)

    pub grown_row : (x y : ℕ) {n : Count} (row : Row_of-NormalStmt n) (d : Draft) → Grown d (lower_row arrays x y row d) (closes_row row)
    grown_row x y end_of-NormalStmt d = grown_same d
    grown_row x y (more_of-NormalStmt s at row) d = grown_then (grown_kind x y s d) (grown_row x y row (lower arrays x y s d))

  pub grown_all : (x y : ℕ) (ss : List NormalStmt) (d : Draft) → Grown d (lower_all arrays x y ss d) (sum_by (λ s. closes s.kind) ss)
  grown_all x y [] d = grown_same d
  grown_all x y (s ∷ ss) d = grown_as _ (grown_then (grown_kind x y s.kind d) (grown_all x y ss (lower arrays x y s.kind d))) (omega (arith, sum_by-cons (λ (s : NormalStmt). closes s.kind) s ss))
