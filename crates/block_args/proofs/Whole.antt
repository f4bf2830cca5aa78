-- The graph over arguments is well formed, block by block.
use Rattle.std.proofs.Common.{◌≡◌, ℕ, zero, suc, ◌+◌, ◌<◌, ◌^◌, List, [], ◌∷◌, ◌++◌, map, length, get_or, take, drop, Option, Some, None, refl, sym, ◌∙◌, ap, subst, arith, append_assoc, append-nil, inl, inr}
use Rattle.std.specs.Prelude.{slice_get, option_map}
use Rattle.std.specs.List.{Contains, AllByRecursion}
use Rattle.std.proofs.lemmas.Simd.{map-map}
use Rattle.std.proofs.lemmas.Option.{slice_get-get_or}
use Rattle.std.proofs.lemmas.List.Elements.{recursion_from_All, All-from_recursion}
use Rattle.el_base.specs.declared.ty.Ty.{Ty}
use Rattle.el_base.specs.declared.ty.Array.{Array}
use Rattle.el_base.specs.Widths.{ty_width}
use Rattle.ir.specs.declared.instr.Instr.{Instr}
use Rattle.ir.specs.declared.cfg.CfgBlock.{CfgBlock}
use Rattle.ir.specs.declared.cfg.CfgJump.{CfgJump}
use Rattle.ir.specs.declared.cfg.CfgJump.TheVariants.{Go, Two, Return}
use Rattle.ir.specs.Shapes.{Shape, IsWidth, StepsFit, step_width, shape_after}
use Rattle.ir.specs.Graphs.{Graph, IsTarget, IsReturn, IsJump, IsBlock, IsGraph}
use Rattle.ir.specs.Variables.{VarGraph, IsVarGraph, IsVarJump, no_var_block}
use Rattle.block_args.specs.Live.{targets}
use Rattle.block_args.specs.Tables.{Serves, count_from, held_at, listed_at}
use Rattle.block_args.specs.Arguments.{new_number, to, new_jump, new_steps, zeros, new_block, new_blocks, argued}
use Rattle.block_args.proofs.Passages.{NamesJump, Names}
use Rattle.block_args.proofs.Named.{fine_block, names, hands, target}
use Rattle.block_args.proofs.Runs.{new_at, own_values}
use Rattle.block_args.proofs.Fits.{held_shape, steps_fit, new_shape, old_shape, value_wide, handed_wide}

-- ---- the zeros of block 0

shape_append : (arrays : List Array) (ws : Shape) (is js : List Instr) → shape_after arrays ws (is ++ js) ≡ shape_after arrays (shape_after arrays ws is) js
shape_append arrays ws [] js = refl
shape_append arrays ws (i ∷ is) js = shape_append arrays (ws ++ step_width arrays i ∷ []) is js

zeros_shape : (arrays : List Array) (ws : Shape) (xs : List ℕ) → shape_after arrays ws (zeros xs) ≡ ws ++ map Some xs
zeros_shape arrays ws [] = sym (append-nil ws)
zeros_shape arrays ws (x ∷ xs) = zeros_shape arrays (ws ++ Some x ∷ []) xs ∙ append_assoc ws (Some x ∷ []) (map Some xs)

some_below : (w : ℕ) → IsWidth w → 0 < 2 ^ w
some_below w h = elim h [
  | inl e ↦ subst (λ k. 0 < 2 ^ k) (sym e) (omega arith)
  | inr r ↦ elim r [
    | inl e ↦ subst (λ k. 0 < 2 ^ k) (sym e) (omega arith)
    | inr q ↦ elim q [ inl e ↦ subst (λ k. 0 < 2 ^ k) (sym e) (omega arith) | inr e ↦ subst (λ k. 0 < 2 ^ k) (sym e) (omega arith) ]
  ]
]

zeros_fit : (arrays : List Array) (ws : Shape) (xs : List ℕ) (js : List Instr) → AllByRecursion IsWidth xs → StepsFit arrays (ws ++ map Some xs) js → StepsFit arrays ws (zeros xs ++ js)
zeros_fit arrays ws [] js h f = subst (λ us. StepsFit arrays us js) (append-nil ws) f
zeros_fit arrays ws (x ∷ xs) js h f =
    ((h.0, some_below x h.0), zeros_fit arrays (ws ++ Some x ∷ []) xs js h.1 (subst (λ us. StepsFit arrays us js) (sym (append_assoc ws (Some x ∷ []) (map Some xs))) f))

joined : (s : ℕ) (xs : List ℕ) → map Some (take s xs) ++ map Some (drop s xs) ≡ map Some xs
joined zero xs = refl
joined (suc s) [] = refl
joined (suc s) (x ∷ xs) = ap (λ l. Some x ∷ l) (joined s xs)

all_taken : (s : ℕ) (xs : List ℕ) → AllByRecursion IsWidth xs → AllByRecursion IsWidth (take s xs)
all_taken zero xs h = tt
all_taken (suc s) [] h = tt
all_taken (suc s) (x ∷ xs) h = (h.0, all_taken s xs h.1)

all_dropped : (s : ℕ) (xs : List ℕ) → AllByRecursion IsWidth xs → AllByRecursion IsWidth (drop s xs)
all_dropped zero xs h = h
all_dropped (suc s) [] h = tt
all_dropped (suc s) (x ∷ xs) h = all_dropped s xs h.1

module _ (g : VarGraph) (fine : IsVarGraph g) (table : List (List ℕ)) (serves : Serves g table) where
  abbrev v : ℕ
  v = length g.vars

  abbrev s : ℕ
  s = length g.scalars

  abbrev ir : Graph
  ir = argued g table

  block_new : (n : ℕ) (x : CfgBlock) → slice_get g.blocks n ≡ Some x → slice_get ir.blocks n ≡ Some (new_block s g.vars table n x)
  block_new n x h = new_at s g.vars table 0 n g.blocks x h ∙ ap (λ k. Some (new_block s g.vars table k x)) (let e : 0 + n ≡ n = omega arith in e)

  widths : (ys : List ℕ) → AllByRecursion (λ y. y < v) ys → AllByRecursion IsWidth (map (λ y. get_or g.vars y 0) ys)
  widths [] h = tt
  widths (y ∷ ys) h = (fine.vars y 0 h.0, widths ys h.1)

  module _ (n : ℕ) (x : CfgBlock) (there : slice_get g.blocks n ≡ Some x) where
    abbrev held : List ℕ
    held = held_at v table n

    abbrev nms : Names held x
    nms = names g fine n x there table serves

    abbrev shape : Shape
    shape = new_shape g fine n x there held nms

    one_target : (c : ℕ) → Contains (targets x.jump) c → IsTarget ir.blocks shape (to table held x c)
    one_target zero h = absurd (let t = (target g fine n x there zero h).0 in omega arith)
    one_target (suc k) h =
        let t = target g fine n x there (suc k) h in
        let y = get_or g.blocks (suc k) no_var_block in
        record {
          block = new_block s g.vars table (suc k) y;
          exists = block_new (suc k) y (slice_get-get_or g.blocks (suc k) no_var_block t.1);
          no_entry = t.0;
          handed = handed_wide g fine n x there held nms (listed_at table (suc k)) (hands g fine n x there table serves (suc k) h);
        }

    returns : (t : Option Ty) (r : Option ℕ) → IsReturn t (old_shape g fine n x there held nms) r → NamesJump x (Return r) → IsReturn t shape (option_map (new_number held x.reads) r)
    returns None None h named = tt
    returns None (Some r) h named = absurd h
    returns (Some t) None h named = absurd h
    returns (Some t) (Some r) h named = value_wide g fine n x there held nms r (ty_width t) named h

    jump_fits : (j : CfgJump) → IsVarJump g (old_shape g fine n x there held nms) j → NamesJump x j → ((c : ℕ) → Contains (targets j) c → IsTarget ir.blocks shape (to table held x c)) → IsJump ir shape (new_jump table held x j)
    jump_fits (Go c) h named ts = ts c (0, omega arith, refl)
    jump_fits (Two c yes_part no_part) h named ts = (value_wide g fine n x there held nms c 32 named h.0, ts yes_part (0, omega arith, refl), ts no_part (1, omega arith, refl))
    jump_fits (Return r) h named ts = returns g.result r h named

    jump : IsJump ir shape (new_jump table held x x.jump)
    jump = jump_fits x.jump (fine_block g fine n x there).jump nms.jump one_target

    fits : StepsFit g.arrays (held_shape g.vars held) (new_steps held x)
    fits = (steps_fit g fine n x there held nms).steps

  all_shape : map Some g.vars ≡ held_shape g.vars (count_from 0 v)
  all_shape = ap (map Some) (sym (own_values v g.vars refl)) ∙ map-map Some (λ y. get_or g.vars y 0) (count_from 0 v)

  entry_shape : map Some (take s g.vars) ++ map Some (drop s g.vars) ≡ held_shape g.vars (count_from 0 v)
  entry_shape = joined s g.vars ∙ all_shape

  is_block : (n : ℕ) (x : CfgBlock) → slice_get g.blocks n ≡ Some x → IsBlock ir (new_block s g.vars table n x)
  is_block zero x there =
      let ks = new_steps (count_from 0 v) x in
      let same : shape_after g.arrays (map Some (take s g.vars)) (zeros (drop s g.vars) ++ ks) ≡ shape_after g.arrays (held_shape g.vars (count_from 0 v)) ks =
      shape_append g.arrays (map Some (take s g.vars)) (zeros (drop s g.vars)) ks
      ∙ ap (λ us. shape_after g.arrays us ks) (zeros_shape g.arrays (map Some (take s g.vars)) (drop s g.vars) ∙ entry_shape) in
      record {
        args = All-from_recursion IsWidth (take s g.vars) (all_taken s g.vars (recursion_from_All IsWidth g.vars fine.vars));
        steps = zeros_fit g.arrays (map Some (take s g.vars)) (drop s g.vars) ks (all_dropped s g.vars (recursion_from_All IsWidth g.vars fine.vars))
            (subst (λ us. StepsFit g.arrays us ks) (sym entry_shape) (fits zero x there));
        jump = subst (λ us. IsJump ir us (new_jump table (count_from 0 v) x x.jump)) (sym same) (jump zero x there);
      }
  is_block (suc n) x there =
      let hs = listed_at table (suc n) in
      let same : map Some (map (λ y. get_or g.vars y 0) hs) ≡ held_shape g.vars hs = map-map Some (λ y. get_or g.vars y 0) hs in
      record {
        args = All-from_recursion IsWidth (map (λ y. get_or g.vars y 0) hs) (widths hs (recursion_from_All (λ y. y < v) hs (serves.below (suc n))));
        steps = subst (λ us. StepsFit g.arrays us (new_steps hs x)) (sym same) (fits (suc n) x there);
        jump = subst (λ us. IsJump ir (shape_after g.arrays us (new_steps hs x)) (new_jump table hs x x.jump)) (sym same) (jump (suc n) x there);
      }

  all_blocks : (n : ℕ) (bs : List CfgBlock) → ((k : ℕ) (x : CfgBlock) → slice_get bs k ≡ Some x → slice_get g.blocks (n + k) ≡ Some x) → AllByRecursion (IsBlock ir) (new_blocks s g.vars table n bs)
  all_blocks n [] h = tt
  all_blocks n (b ∷ bs) h = (
    is_block n b (subst (λ k. slice_get g.blocks k ≡ Some b) (let e : n + 0 ≡ n = omega arith in e) (h 0 b refl)),
    all_blocks (suc n) bs (λ k x q. subst (λ m. slice_get g.blocks m ≡ Some x) (let e : n + suc k ≡ suc n + k = omega arith in e) (h (suc k) x q)),
  )

  pub is_graph : IsGraph ir
  is_graph =
      let b = get_or g.blocks 0 no_var_block in
      record {
        blocks = All-from_recursion (IsBlock ir) ir.blocks (all_blocks 0 g.blocks (λ k x q. subst (λ m. slice_get g.blocks m ≡ Some x) (let e : k ≡ 0 + k = omega arith in e) q));
        entry = new_block s g.vars table 0 b;
        first = block_new 0 b (slice_get-get_or g.blocks 0 no_var_block fine.some);
        scalars = fine.scalars;
      }
