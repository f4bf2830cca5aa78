-- The trimmed graph is well formed.
use Rattle.std.proofs.Common.{◌≡◌, ℕ, suc, ◌+◌, ◌<◌, List, [], ◌∷◌, ◌++◌, map, length, Option, Some, None, sym, ◌∙◌, ap, subst, arith, length-append, inl, inr}
use Rattle.std.specs.Prelude.{Bool, true, false, slice_get, option_map, if◌then◌else◌}
use Rattle.std.specs.List.{AllByRecursion, flat_map}
use Rattle.std.proofs.lemmas.Option.{slice_get_within, slice_get-map}
use Rattle.std.proofs.lemmas.List.{length-map}
use Rattle.std.proofs.lemmas.List.Elements.{recursion_from_All, All-from_recursion}
use Rattle.el_base.specs.declared.ty.Ty.{Ty}
use Rattle.el_base.specs.declared.ty.Array.{Array}
use Rattle.el_base.specs.Widths.{ty_width}
use Rattle.ir.specs.declared.instr.Instr.{Instr}
use Rattle.ir.specs.declared.cfg.CfgBlock.{CfgBlock}
use Rattle.ir.specs.declared.cfg.CfgJump.{CfgJump}
use Rattle.ir.specs.declared.cfg.CfgJump.TheVariants.{Go, Two, Return}
use Rattle.ir.specs.declared.cfg.Write.{Write}
use Rattle.ir.specs.Shapes.{Shape, IsOfWidth, step_width, shape_after}
use Rattle.ir.specs.Graphs.{IsReturn}
use Rattle.ir.specs.Variables.{VarGraph, IsVarGraph, IsVarBlock, IsVarJump, IsWrite, IsTo, read_shape}
use Rattle.ir.specs.Renaming.{KeepsWidths, RenamedFit, MayName, StepsName, operands}
use Rattle.ir.proofs.Fitting.{fitting_steps_name, renamed_steps_fit}
use Rattle.block_trim.specs.Trimming.{kept_writes, kept_reads, jump_operands, renamed_write, renamed_jump, block_uses, trimmed_number, trimmed_block, trimmed}
use Rattle.block_trim.proofs.Written.{all_kept}
use Rattle.block_trim.proofs.Uses.{AreUsed, used_left, used_right, first_used, later_used, steps_kept, may_use, number_of_step}
use Rattle.block_trim.proofs.Passages.{kept, MayUse, AllMayBeUsed, UsesValues, m, new_reads, long_kept, read_placed}

length_shape : (arrays : List Array) (ws : Shape) (is : List Instr) → length (shape_after arrays ws is) ≡ length ws + length is
length_shape arrays ws [] = omega arith
length_shape arrays ws (i ∷ is) = omega (arith, length_shape arrays (ws ++ step_width arrays i ∷ []) is, length-append ws (step_width arrays i ∷ []))

-- ---- the parts of what a block uses

steps_used : (b : CfgBlock) → AreUsed (block_uses b) (flat_map operands b.steps)
steps_used b a u = used_left (flat_map operands b.steps) (map (λ x. x.value) (kept_writes b.reads b.writes) ++ jump_operands b.jump) a u

pub writes_used : (b : CfgBlock) → AreUsed (block_uses b) (map (λ (x : Write). x.value) (kept_writes b.reads b.writes))
writes_used b a u =
    used_right (flat_map operands b.steps) (map (λ x. x.value) (kept_writes b.reads b.writes) ++ jump_operands b.jump) a
    (used_left (map (λ x. x.value) (kept_writes b.reads b.writes)) (jump_operands b.jump) a u)

jump_used : (b : CfgBlock) → AreUsed (block_uses b) (jump_operands b.jump)
jump_used b a u =
    used_right (flat_map operands b.steps) (map (λ x. x.value) (kept_writes b.reads b.writes) ++ jump_operands b.jump) a
    (used_right (map (λ x. x.value) (kept_writes b.reads b.writes)) (jump_operands b.jump) a u)

-- ---- a block of a well formed graph uses its values

module _ (g : VarGraph) (b : CfgBlock) (fine : IsVarBlock g b) where
  abbrev pub old_shape : Shape
  old_shape = shape_after g.arrays (read_shape g b) b.steps

  long : length old_shape ≡ length b.reads + length b.steps
  long = omega (arith, length_shape g.arrays (read_shape g b) b.steps, length-map b.reads (slice_get g.vars))

  may : (a w : ℕ) → kept b a ≡ true → IsOfWidth old_shape a w → MayUse b a
  may a w u h = may_use (block_uses b) (length b.reads) (length b.steps) a u (omega (arith, long, slice_get_within old_shape a (Some w) h))

  steps_name : StepsName (kept b) (length b.reads) 0 b.steps
  steps_name = fitting_steps_name (kept b) (length b.reads) g.arrays b.steps 0 (read_shape g b) (omega (arith, length-map b.reads (slice_get g.vars)))
      (steps_kept (block_uses b) (length b.reads) b.steps (steps_used b)) fine.steps

  writes_may : (xs : List Write) → AllByRecursion (IsWrite g old_shape) xs → AreUsed (block_uses b) (map (λ (x : Write). x.value) xs) → AllByRecursion (λ x. MayUse b x.value) xs
  writes_may [] h u = tt
  writes_may (x ∷ xs) h u =
      let rest : List ℕ = map (λ (y : Write). y.value) xs in
      (may x.value h.0.0 (u x.value (first_used x.value rest)) h.0.2, writes_may xs h.1 (λ a k. u a (later_used x.value rest a k)))

  returned_may : (t : Option Ty) (v : ℕ) → kept b v ≡ true → IsReturn t old_shape (Some v) → MayUse b v
  returned_may None v u h = absurd h
  returned_may (Some t) v u h = may v (ty_width t) u h

  jump_may : (j : CfgJump) → IsVarJump g old_shape j → AreUsed (block_uses b) (jump_operands j) → AllMayBeUsed b (jump_operands j)
  jump_may (Go c) h u = tt
  jump_may (Two c yes_part no_part) h u = (may c 32 (u c (first_used c [])) h.0, tt)
  jump_may (Return None) h u = tt
  jump_may (Return (Some v)) h u = (returned_may g.result v (u v (first_used v [])) h, tt)

  kept_fit : AllByRecursion (IsWrite g old_shape) (kept_writes b.reads b.writes)
  kept_fit = all_kept (IsWrite g old_shape) b.reads b.writes (recursion_from_All (IsWrite g old_shape) b.writes fine.writes)

  pub uses_values : UsesValues b
  uses_values = record {
    steps = steps_name;
    writes = writes_may (kept_writes b.reads b.writes) kept_fit (writes_used b);
    jump = jump_may b.jump fine.jump (jump_used b);
  }

  -- ---- the trimmed block is well formed

  abbrev new_read_shape : Shape
  new_read_shape = map (slice_get g.vars) (new_reads b)

  keeps : KeepsWidths (kept b) (trimmed_number b) (length b.reads) 0 (read_shape g b) new_read_shape
  keeps a w (inl (lt, u)) h =
      slice_get-map (slice_get g.vars) (new_reads b) (trimmed_number b a) ∙ ap (option_map (slice_get g.vars)) (read_placed b a lt u)
      ∙ sym (slice_get-map (slice_get g.vars) b.reads a) ∙ h
  keeps a w (inr (i, lt, is)) h = absurd (omega arith)

  fits : RenamedFit (kept b) (trimmed_number b) (length b.reads) 0 g.arrays (read_shape g b) new_read_shape b.steps
  fits = renamed_steps_fit (kept b) (trimmed_number b) (length b.reads) (m b) (number_of_step (block_uses b) (length b.reads)) g.arrays b.steps 0 (read_shape g b) new_read_shape
      (omega (arith, length-map b.reads (slice_get g.vars))) (omega (arith, length-map (new_reads b) (slice_get g.vars), long_kept b)) keeps steps_name fine.steps

  abbrev new_shape : Shape
  new_shape = shape_after g.arrays new_read_shape (trimmed_block b).steps

  wide : (a w : ℕ) → MayUse b a → IsOfWidth old_shape a w → IsOfWidth new_shape (trimmed_number b a) w
  wide a w h k =
      let e : length b.steps ≡ 0 + length b.steps = omega arith in
      fits.widths a w (subst (λ j. MayName (kept b) (length b.reads) j a) e h) k

  writes_fit : (xs : List Write) → AllByRecursion (IsWrite g old_shape) xs → AllByRecursion (λ x. MayUse b x.value) xs → AllByRecursion (IsWrite (trimmed g) new_shape) (map (renamed_write (trimmed_number b)) xs)
  writes_fit [] h u = tt
  writes_fit (x ∷ xs) h u = ((h.0.0, h.0.1, wide x.value h.0.0 u.0 h.0.2), writes_fit xs h.1 u.1)

  to_fits : (c : ℕ) → IsTo g.blocks c → IsTo (trimmed g).blocks c
  to_fits c h = (h.0, let lt = h.1 in omega (arith, length-map g.blocks trimmed_block))

  return_fits : (t : Option Ty) (r : Option ℕ) → IsReturn t old_shape r → AllMayBeUsed b (jump_operands (Return r)) → IsReturn t new_shape (option_map (trimmed_number b) r)
  return_fits None None h u = tt
  return_fits None (Some v) h u = absurd h
  return_fits (Some t) None h u = absurd h
  return_fits (Some t) (Some v) h u = wide v (ty_width t) u.0 h

  jump_fits : (j : CfgJump) → IsVarJump g old_shape j → AllMayBeUsed b (jump_operands j) → IsVarJump (trimmed g) new_shape (renamed_jump (trimmed_number b) j)
  jump_fits (Go c) h u = to_fits c h
  jump_fits (Two c yes_part no_part) h u = (wide c 32 u.0 h.0, to_fits yes_part h.1, to_fits no_part h.2)
  jump_fits (Return r) h u = return_fits g.result r h u

  reads_fit : (i : ℕ) (rs : List ℕ) → AllByRecursion (λ v. v < length g.vars) rs → AllByRecursion (λ v. v < length g.vars) (kept_reads (block_uses b) i rs)
  reads_fit i [] h = tt
  reads_fit i (r ∷ rs) h = by (kept b i) (reads_fit (suc i) rs h.1)
    where
      by : (c : Bool) → AllByRecursion (λ v. v < length g.vars) (kept_reads (block_uses b) (suc i) rs)
          → AllByRecursion (λ v. v < length g.vars) (if c then (r ∷ kept_reads (block_uses b) (suc i) rs) else kept_reads (block_uses b) (suc i) rs)
      by true rest = (h.0, rest)
      by false rest = rest

  pub is_block : IsVarBlock (trimmed g) (trimmed_block b)
  is_block = record {
    reads = All-from_recursion (λ v. v < length g.vars) (new_reads b) (reads_fit 0 b.reads (recursion_from_All (λ v. v < length g.vars) b.reads fine.reads));
    steps = fits.steps;
    writes = All-from_recursion (IsWrite (trimmed g) new_shape) (trimmed_block b).writes (writes_fit (kept_writes b.reads b.writes) kept_fit uses_values.writes);
    jump = jump_fits b.jump fine.jump uses_values.jump;
  }

module _ (g : VarGraph) (fine : IsVarGraph g) where
  all_blocks : (bs : List CfgBlock) → AllByRecursion (IsVarBlock g) bs → AllByRecursion (IsVarBlock (trimmed g)) (map trimmed_block bs)
  all_blocks [] h = tt
  all_blocks (b ∷ bs) h = (is_block g b h.0, all_blocks bs h.1)

  pub is_graph : IsVarGraph (trimmed g)
  is_graph = record {
    vars = fine.vars;
    scalars = fine.scalars;
    some = let lt = fine.some in omega (arith, length-map g.blocks trimmed_block);
    blocks = All-from_recursion (IsVarBlock (trimmed g)) (trimmed g).blocks (all_blocks g.blocks (recursion_from_All (IsVarBlock g) g.blocks fine.blocks));
  }
