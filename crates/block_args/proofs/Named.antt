-- What the blocks of a well formed graph name, and what a table that serves it gives them.
use Rattle.std.proofs.Common.{◌≡◌, ℕ, zero, suc, ◌+◌, ◌-◌, ◌<◌, ◌≤◌, List, [], ◌∷◌, ◌++◌, length, Option, Some, None, refl, subst, arith, length-append, inl, inr}
use Rattle.std.specs.Prelude.{slice_get}
use Rattle.std.specs.List.{Contains, AllByRecursion}
use Rattle.std.proofs.lemmas.Bool.{cases_lt}
use Rattle.std.proofs.lemmas.Option.{slice_get_within, get_or_from_slice_get}
use Rattle.std.proofs.lemmas.List.{length-map}
use Rattle.std.proofs.lemmas.List.Elements.{recursion_from_All}
use Rattle.el_base.specs.declared.ty.Ty.{Ty}
use Rattle.el_base.specs.declared.ty.Array.{Array}
use Rattle.el_base.specs.Widths.{ty_width}
use Rattle.ir.specs.declared.instr.Instr.{Instr}
use Rattle.ir.specs.declared.instr.Instr.TheVariants as instr
use Rattle.ir.specs.declared.cfg.CfgBlock.{CfgBlock}
use Rattle.ir.specs.declared.cfg.CfgJump.{CfgJump}
use Rattle.ir.specs.declared.cfg.CfgJump.TheVariants.{Go, Two, Return}
use Rattle.ir.specs.declared.cfg.Write.{Write}
use Rattle.ir.specs.Shapes.{Shape, IsOfWidth, step_width, shape_after}
use Rattle.ir.specs.Graphs.{IsReturn}
use Rattle.ir.specs.Variables.{VarGraph, IsVarGraph, IsVarBlock, IsVarJump, IsWrite, IsTo, read_shape}
use Rattle.ir.specs.Renaming.{MayName, AreKept, OperandsAreKept, StepsName}
use Rattle.ir.proofs.Fitting.{fitting_steps_name}
use Rattle.block_args.specs.Live.{targets}
use Rattle.block_args.specs.Tables.{Serves, held_at, listed_at, AreAscending}
use Rattle.block_args.proofs.Passages.{every, IsNamed, NamesJump, NamesWrites, Names, Handed}

-- ---- shapes

pub length_shape : (arrays : List Array) (ws : Shape) (is : List Instr) → length (shape_after arrays ws is) ≡ length ws + length is
length_shape arrays ws [] = omega arith
length_shape arrays ws (i ∷ is) = omega (arith, length_shape arrays (ws ++ step_width arrays i ∷ []) is, length-append ws (step_width arrays i ∷ []))

kept : (n : ℕ) (xs : List ℕ) → AreKept every n xs
kept n [] = tt
kept n (a ∷ xs) = ((λ lt. refl), kept n xs)

all_kept : (n : ℕ) (is : List Instr) → OperandsAreKept every n is
all_kept n [] = tt
all_kept n (instr.Const w c ∷ is) = (tt, all_kept n is)
all_kept n (instr.One op a ∷ is) = (kept n (a ∷ []), all_kept n is)
all_kept n (instr.Two op a b ∷ is) = (kept n (a ∷ b ∷ []), all_kept n is)
all_kept n (instr.Select w c a b ∷ is) = (kept n (c ∷ a ∷ b ∷ []), all_kept n is)
all_kept n (instr.Load a p ∷ is) = (kept n (p ∷ []), all_kept n is)
all_kept n (instr.Store a p v ∷ is) = (kept n (p ∷ v ∷ []), all_kept n is)

may_name : (n k a : ℕ) → a < n + k → MayName every n k a
may_name n k a h = elim (cases_lt a n) [ inl lt ↦ inl (lt, refl) | inr ge ↦ inr (a - n, omega arith, omega arith) ]

-- ---- a block of a well formed graph

module _ (g : VarGraph) (fine : IsVarGraph g) (n : ℕ) (b : CfgBlock) (is_there : slice_get g.blocks n ≡ Some b) where
  pub fine_block : IsVarBlock g b
  fine_block = subst (IsVarBlock g) (get_or_from_slice_get g.blocks n b b is_there) (fine.blocks n b (slice_get_within g.blocks n b is_there))

  abbrev shape : Shape
  shape = shape_after g.arrays (read_shape g b) b.steps

  long : length shape ≡ length b.reads + length b.steps
  long = omega (arith, length_shape g.arrays (read_shape g b) b.steps, length-map b.reads (slice_get g.vars))

  named : (a w : ℕ) → IsOfWidth shape a w → IsNamed b a
  named a w h = may_name (length b.reads) (length b.steps) a (omega (arith, long, slice_get_within shape a (Some w) h))

  steps_named : StepsName every (length b.reads) 0 b.steps
  steps_named = fitting_steps_name every (length b.reads) g.arrays b.steps 0 (read_shape g b) (omega (arith, length-map b.reads (slice_get g.vars))) (all_kept (length b.reads) b.steps) fine_block.steps

  writes_named : (xs : List Write) → AllByRecursion (IsWrite g shape) xs → NamesWrites b xs
  writes_named [] h = tt
  writes_named (x ∷ xs) h = (named x.value h.0.0 h.0.2, writes_named xs h.1)

  returned_named : (t : Option Ty) (v : ℕ) → IsReturn t shape (Some v) → IsNamed b v
  returned_named None v h = absurd h
  returned_named (Some t) v h = named v (ty_width t) h

  jump_named : (j : CfgJump) → IsVarJump g shape j → NamesJump b j
  jump_named (Go c) h = tt
  jump_named (Two c yes_part no_part) h = named c 32 h.0
  jump_named (Return None) h = tt
  jump_named (Return (Some v)) h = returned_named g.result v h

  -- each target is a block that is not block 0
  target_of : (j : CfgJump) → IsVarJump g shape j → (c : ℕ) → Contains (targets j) c → IsTo g.blocks c
  target_of (Go d) h c (zero, lt, is) = subst (IsTo g.blocks) is h
  target_of (Go d) h c (suc k, lt, is) = absurd (omega arith)
  target_of (Two x yes_part no_part) h c (zero, lt, is) = subst (IsTo g.blocks) is h.1
  target_of (Two x yes_part no_part) h c (suc zero, lt, is) = subst (IsTo g.blocks) is h.2
  target_of (Two x yes_part no_part) h c (suc (suc k), lt, is) = absurd (omega arith)
  target_of (Return v) h c (k, lt, is) = absurd (omega arith)

  pub target : (c : ℕ) → Contains (targets b.jump) c → IsTo g.blocks c
  target = target_of b.jump fine_block.jump

  module _ (table : List (List ℕ)) (serves : Serves g table) where
    pub names : Names (held_at (length g.vars) table n) b
    names = record {
      reads = λ a lt. serves.reads n b is_there a 0 lt;
      steps = steps_named;
      writes = writes_named b.writes (recursion_from_All (IsWrite g shape) b.writes fine_block.writes);
      jump = jump_named b.jump fine_block.jump;
    }

    pub hands : (c : ℕ) → Contains (targets b.jump) c → Handed (held_at (length g.vars) table n) (listed_at table c) b (length g.vars)
    hands c to = record {
      each = λ v h. serves.handed n c v b is_there to h;
      below = λ v h. subst (λ x. x < length g.vars) h.2 (serves.below c h.0 v h.1);
    }

-- ---- how many variables a block lists

pub few_from : (xs : List ℕ) (low high : ℕ) → AreAscending xs → AllByRecursion (λ x. low ≤ x) xs → AllByRecursion (λ x. x < high) xs → low ≤ high → length xs + low ≤ high
few_from [] low high up least most h = omega arith
few_from (x ∷ xs) low high up least most h =
    let rest = few_from xs (suc x) high up.1 (weaker xs up.0) most.1 (let lt = most.0 in omega arith) in
    let le = least.0 in omega arith
  where
    weaker : (ys : List ℕ) → AllByRecursion (λ y. x < y) ys → AllByRecursion (λ y. suc x ≤ y) ys
    weaker [] k = tt
    weaker (y ∷ ys) k = (let lt = k.0 in omega arith, weaker ys k.1)

pub all_from_zero : (xs : List ℕ) → AllByRecursion (λ x. 0 ≤ x) xs
all_from_zero [] = tt
all_from_zero (x ∷ xs) = (omega arith, all_from_zero xs)

pub few_listed : (g : VarGraph) (table : List (List ℕ)) (b : ℕ) → Serves g table → length (listed_at table b) ≤ length g.vars
few_listed g table b serves =
    let xs = listed_at table b in
    let r = few_from xs 0 (length g.vars) (serves.ascending b) (all_from_zero xs) (recursion_from_All (λ v. v < length g.vars) xs (serves.below b)) (omega arith) in
    omega arith
