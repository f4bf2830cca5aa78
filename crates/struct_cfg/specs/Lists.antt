-- The blocks of lists of statements, of statements that may be absent, and of statements by their parts, as the code takes them apart.
use Rattle.std.specs.Prelude.{ℕ, ◌+◌, List, [], ◌∷◌, Option, Some, None}
use Rattle.c_meaning.specs.PartLaws.{blocks_of, blocks_if_any, blocks_of_step}
use Rattle.c_ast.specs.declared.typed.ArrayOf.{ArrayOf}
use Rattle.c_ast.specs.declared.typed.TypedExpr.{TypedExpr}
use Rattle.c_ast.specs.declared.normal.NormalStmt.{NormalStmt}
use Rattle.ir.specs.declared.cfg.CfgJump.TheVariants.{Go, Two}
use Rattle.c_meaning.specs.Sizes.{closes}
use Rattle.struct_cfg.specs.declared.draft.Draft.{Draft}
use Rattle.struct_cfg.specs.Drafts.{here, close}
use Rattle.struct_cfg.specs.Lowering.{with_condition, condition_of, if_parts, lower}

-- ---- sizes

-- ---- blocks

-- where continue leads in a for: to the step, or to the condition
abbrev pub again_in : Option NormalStmt → ℕ → ℕ → ℕ
again_in None head after = head
again_in (Some s) head after = after

module _ (arrays : List ArrayOf) where
  abbrev pub lower_all : ℕ → ℕ → List NormalStmt → Draft → Draft
  lower_all x y [] d = d
  lower_all x y (s ∷ ss) d = lower_all x y ss (lower arrays x y s.kind d)

  abbrev pub lower_any : ℕ → ℕ → Option NormalStmt → Draft → Draft
  lower_any x y None d = d
  lower_any x y (Some s) d = lower arrays x y s.kind d

  -- a condition ends the block: it leads to block x where it holds, else to block y
  abbrev pub branched : TypedExpr → ℕ → ℕ → Draft → Draft
  branched cond x y d = close (Two (condition_of arrays cond d) x y) (with_condition arrays cond d)

  -- the block before the body of a for is left for the body, or for block x where the condition does not hold
  abbrev pub entered : Option TypedExpr → ℕ → Draft → Draft
  entered None x d = close (Go (here d + 1)) d
  entered (Some cond) x d = branched cond (here d + 1) x d

  abbrev pub lower_if : ℕ → ℕ → List NormalStmt → TypedExpr → NormalStmt → Option NormalStmt → Draft → Draft
  lower_if x y before cond s o d = if_parts arrays (lower_all x y before) cond (closes s.kind) (lower arrays x y s.kind) (blocks_if_any o) (lower_any x y o) d

  abbrev pub lower_while : ℕ → ℕ → List NormalStmt → TypedExpr → NormalStmt → Draft → Draft
  lower_while x y before cond s d =
      let head = here d + 1 in
      let exit = head + blocks_of before + 1 + closes s.kind + 1 in
      let d1 = lower_all x y before (close (Go head) d) in
      close (Go head) (lower arrays exit head s.kind (branched cond (here d1 + 1) exit d1))

  abbrev pub lower_do : ℕ → ℕ → NormalStmt → List NormalStmt → TypedExpr → Draft → Draft
  lower_do x y s before cond d =
      let first = here d + 1 in
      let head = first + closes s.kind + 1 in
      let exit = head + blocks_of before + 1 in
      branched cond first exit (lower_all x y before (close (Go head) (lower arrays exit head s.kind (close (Go first) d))))

  -- the step of a for
  abbrev pub stepped : ℕ → ℕ → Option NormalStmt → ℕ → Draft → Draft
  stepped x y None after d = d
  stepped x y (Some s) after d = lower arrays x y s.kind (close (Go after) d)

  -- a for behind its first part
  abbrev pub lower_for : ℕ → ℕ → List NormalStmt → Option TypedExpr → Option NormalStmt → NormalStmt → Draft → Draft
  lower_for x y before cond o s d =
      let head = here d + 1 in
      let after = head + blocks_of before + 1 + closes s.kind + 1 in
      let exit = after + blocks_of_step o in
      let d1 = entered cond exit (lower_all x y before (close (Go head) d)) in
      close (Go head) (stepped x y o after (lower arrays exit (again_in o head after) s.kind d1))
