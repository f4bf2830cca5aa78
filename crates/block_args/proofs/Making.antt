-- The blocks of a graph whose live variables are listed fit the new numbers, and what the new graph has.
use Rattle.std.proofs.Common.{◌≡◌, inl, inr, ℕ, zero, suc, ◌+◌, ◌<◌, ◌≤◌, ◌^◌, List, [], ◌∷◌, ◌++◌, length, get_or, drop, refl, sym, ◌∙◌, ap, subst, arith, add-one, append_assoc}
use Rattle.std.specs.Prelude.{slice_get, sum_by, Some, None, All}
use Rattle.std.specs.List.{AllByRecursion}
use Rattle.std.proofs.lemmas.Option.{same_Some, slice_get_within, slice_get-get_or, get_or_from_slice_get}
use Rattle.std.proofs.lemmas.List.{length-map, length-take, at_drop_more}
use Rattle.std.proofs.lemmas.List.Elements.{All-from_recursion, All-weaker, Contains-get_or}
use Rattle.std.proofs.lemmas.List.Sums.{get_or-le-sum_by}
use Rattle.el_base.specs.Widths.{ty_width}
use Rattle.el_base.specs.declared.ty.Scalar.{Scalar}
use Rattle.ir.specs.declared.instr.Instr.{Instr}
use Rattle.ir.specs.declared.graph.Block.{Block}
use Rattle.ir.specs.declared.cfg.CfgBlock.{CfgBlock}
use Rattle.ir.specs.declared.cfg.CfgJump.{CfgJump}
use Rattle.ir.specs.declared.cfg.CfgJump.TheVariants.{Go, Two, Return}
use Rattle.ir.specs.declared.cfg.Write.{Write}
use Rattle.ir.specs.Shapes.{Shape, shape_after}
use Rattle.ir.specs.Graphs.{Graph, IsGraph}
use Rattle.ir.specs.Variables.{VarGraph, IsVarGraph, IsWrite, read_shape, no_var_block}
use Rattle.ir.specs.Renaming.{MayName, AllMayBeNamed, StepsName, operands}
use Rattle.block_args.specs.Tables.{count_from, listed_at, held_at, AreAscending, Serves, ListsLive}
use Rattle.block_args.specs.Arguments.{new_block, new_blocks, argued}
use Rattle.block_args.specs.Shares.{ArgsShare, ArgsSizes}
use Rattle.block_args.specs.Numbers.{jump_values, Renumbers}
use Rattle.block_args.specs.Made.{parts, AreLiveArgs, HasLiveArgs}
use Rattle.block_args.proofs.Passages.{every, NamesJump, NamesWrites}
use Rattle.block_args.proofs.Named.{fine_block, names}
use Rattle.block_args.proofs.Runs.{runs}
use Rattle.block_args.proofs.Lives.{live_variables_serve}
use Rattle.block_args.proofs.Sizes.{sizes}
use Rattle.block_args.proofs.Whole.{is_graph}

-- ---- what a block names is below the number of its values

named_below : (n k a : ℕ) → MayName every n k a → a < n + k
named_below n k a (inl h) = let lt = h.0 in omega arith
named_below n k a (inr h) = let lt = h.1 in let is = h.2 in omega arith

operands_below : (n k most : ℕ) (xs : List ℕ) → n + k ≤ most → AllMayBeNamed every n k xs → AllByRecursion (λ a. a < most) xs
operands_below n k most [] le h = tt
operands_below n k most (x ∷ xs) le h = (let lt = named_below n k x h.0 in omega arith, operands_below n k most xs le h.1)

steps_below : (n k most : ℕ) (is : List Instr) → n + k + length is ≤ most → StepsName every n k is → AllByRecursion (λ (i : Instr). All (λ a. a < most) (operands i)) is
steps_below n k most [] le h = tt
steps_below n k most (i ∷ is) le h =
    (All-from_recursion (λ a. a < most) (operands i) (operands_below n k most (operands i) (omega arith) h.0), steps_below n (suc k) most is (omega arith) h.1)

writes_below : (b : CfgBlock) (xs : List Write) → NamesWrites b xs → AllByRecursion (λ (x : Write). x.value < length b.reads + length b.steps) xs
writes_below b [] h = tt
writes_below b (x ∷ xs) h = (named_below (length b.reads) (length b.steps) x.value h.0, writes_below b xs h.1)

jump_below : (b : CfgBlock) (j : CfgJump) → NamesJump b j → AllByRecursion (λ a. a < length b.reads + length b.steps) (jump_values j)
jump_below b (Go c) h = tt
jump_below b (Two c yes_part no_part) h = (named_below (length b.reads) (length b.steps) c h, tt)
jump_below b (Return None) h = tt
jump_below b (Return (Some v)) h = (named_below (length b.reads) (length b.steps) v h, tt)

-- ---- all numbers from one on ascend

count_above : (i k n : ℕ) → i < k → AllByRecursion (λ y. i < y) (count_from k n)
count_above i k zero h = tt
count_above i k (suc n) h = (h, count_above i (suc k) n (omega arith))

count_ascends : (i n : ℕ) → AreAscending (count_from i n)
count_ascends i zero = tt
count_ascends i (suc n) = (count_above i (suc i) n (omega arith), count_ascends (suc i) n)

count_below : (i n most : ℕ) → i + n ≤ most → AllByRecursion (λ v. v < most) (count_from i n)
count_below i zero most h = tt
count_below i (suc n) most h = (omega arith, count_below (suc i) n most (omega arith))

module _ (g : VarGraph) (fine : IsVarGraph g) (table : List (List ℕ)) (lists : ListsLive g table) where
  abbrev serves : Serves g table
  serves = live_variables_serve g table fine lists

  held_ascends : (n : ℕ) → AreAscending (held_at (length g.vars) table n)
  held_ascends zero = count_ascends 0 (length g.vars)
  held_ascends (suc n) = lists.ascending (suc n)

  held_below : (n : ℕ) → All (λ v. v < length g.vars) (held_at (length g.vars) table n)
  held_below zero = All-from_recursion (λ v. v < length g.vars) (count_from 0 (length g.vars)) (count_below 0 (length g.vars) (length g.vars) (omega arith))
  held_below (suc n) = serves.below (suc n)

  pub renumbers : (n : ℕ) (b : CfgBlock) → slice_get g.blocks n ≡ Some b → parts g < 2 ^ 32 → Renumbers (length g.vars) (held_at (length g.vars) table n) b
  renumbers n b there few =
      let nms = names g fine n b there table serves in
      let shape : Shape = shape_after g.arrays (read_shape g b) b.steps in
      let one : length (get_or g.blocks n no_var_block).steps ≤ sum_by (λ (x : CfgBlock). length x.steps) g.blocks =
      get_or-le-sum_by (λ (x : CfgBlock). length x.steps) g.blocks n no_var_block (slice_get_within g.blocks n b there) in
      let same : length (get_or g.blocks n no_var_block).steps ≡ length b.steps = ap (λ (x : CfgBlock). length x.steps) (get_or_from_slice_get g.blocks n b no_var_block there) in
      record {
        ascending = held_ascends n;
        below = held_below n;
        few = omega arith;
        steps = All-from_recursion (λ (i : Instr). All (λ a. a < length b.reads + length b.steps) (operands i)) b.steps (steps_below (length b.reads) 0 (length b.reads + length b.steps) b.steps (omega arith) nms.steps);
        writes = All-from_recursion (λ (x : Write). x.value < length b.reads + length b.steps) b.writes (writes_below b b.writes nms.writes);
        written = All-weaker (IsWrite g shape) (λ (x : Write). x.var < length g.vars) (λ x h. slice_get_within g.vars x.var h.0 h.1) b.writes (fine_block g fine n b there).writes;
        jump = All-from_recursion (λ a. a < length b.reads + length b.steps) (jump_values b.jump) (jump_below b b.jump nms.jump);
      }

  -- the same, of what the code has at hand
  pub renumbers_at : (vars : List ℕ) (blocks : List CfgBlock) (at number : ℕ) (b : CfgBlock) → vars ≡ g.vars → blocks ≡ g.blocks → number ≡ at → at < length blocks → b ≡ get_or blocks at b → parts g < 2 ^ 32
      → Renumbers (length vars) (held_at (length vars) table number) b
  renumbers_at vars blocks at number b v bs n lt is few =
      let there : slice_get g.blocks at ≡ Some b = slice_get-get_or g.blocks at b (subst (λ (xs : List CfgBlock). at < length xs) bs lt) ∙ ap Some (sym (is ∙ ap (λ (xs : List CfgBlock). get_or xs at b) bs)) in
      subst (λ k. Renumbers (length vars) (held_at (length vars) table k) b) (sym n)
      (subst (λ (xs : List ℕ). Renumbers (length xs) (held_at (length xs) table at) b) (sym v) (renumbers at b there few))

  -- ---- the whole graph

  live_args : HasLiveArgs g (argued g table)
  live_args = record { each = at }
    where
      old_block : (s : ℕ) (vars : List ℕ) (t : List (List ℕ)) (i n : ℕ) (bs : List CfgBlock) (x : Block) → slice_get (new_blocks s vars t i bs) n ≡ Some x → (b : CfgBlock) × (x ≡ new_block s vars t (i + n) b)
      old_block s vars t i n [] x h = absurd (cc)
      old_block s vars t i zero (b ∷ bs) x h = (b, sym (same_Some (new_block s vars t i b) x h) ∙ ap (λ k. new_block s vars t k b) (let e : i ≡ i + 0 = omega arith in e))
      old_block s vars t i (suc n) (b ∷ bs) x h =
          let r = old_block s vars t (suc i) n bs x h in
          (r.0, r.1 ∙ ap (λ k. new_block s vars t k r.0) (let e : suc i + n ≡ i + suc n = omega arith in e))

      at : (b : ℕ) (x : Block) → 0 < b → slice_get (argued g table).blocks b ≡ Some x → AreLiveArgs g b x.args
      at zero x lt h = absurd (omega arith)
      at (suc n) x lt h =
          let r = old_block (length g.scalars) g.vars table 0 (suc n) g.blocks x h in
          record {
            vars = listed_at table (suc n);
            ascending = lists.ascending (suc n);
            live = λ k d l. lists.live (suc n) (get_or (listed_at table (suc n)) k d) (Contains-get_or (listed_at table (suc n)) k d l);
            all = lists.all (suc n);
            widths = ap (λ (y : Block). y.args) (r.1 ∙ ap (λ k. new_block (length g.scalars) g.vars table k r.0) (let e : 0 + suc n ≡ suc n = omega arith in e));
          }

  module _ (made : Graph) (is : made ≡ argued g table) where
    pub made_live : HasLiveArgs g made
    made_live = subst (HasLiveArgs g) (sym is) live_args

    pub made_share : ArgsShare g made
    made_share = subst (ArgsShare g) (sym is) (record { header = refl; runs = runs g fine table serves })

    pub made_sizes : ArgsSizes g made
    made_sizes = subst (ArgsSizes g) (sym is) (sizes g fine table serves)

    pub made_fine : IsGraph made
    made_fine = subst IsGraph (sym is) (is_graph g fine table serves)

pub few_scalars : (g : VarGraph) → IsVarGraph g → length g.scalars ≤ length g.vars
few_scalars g fine =
    let e = ap length fine.scalars in
    let l = length-take (length g.scalars) g.vars in
    let m = length-map g.scalars (λ (s : Scalar). ty_width s.ty) in
    omega arith

-- the blocks from the i-th on are those behind it, once that one is made
pub made_next : (s : ℕ) (vars : List ℕ) (table : List (List ℕ)) (made after : List Block) (n i : ℕ) (blocks : List CfgBlock) (b : CfgBlock) (x : Block) → i < length blocks → b ≡ get_or blocks i b
    → after ≡ made ++ x ∷ [] → x ≡ new_block s vars table n b → after ++ new_blocks s vars table (n + 1) (drop (i + 1) blocks) ≡ made ++ new_blocks s vars table n (drop i blocks)
made_next s vars table made after n i blocks b x lt is pushed e =
    let rest = drop (i + 1) blocks in
    ap (λ ys. ys ++ new_blocks s vars table (n + 1) rest) (pushed ∙ ap (λ y. made ++ y ∷ []) e)
    ∙ append_assoc made (new_block s vars table n b ∷ []) (new_blocks s vars table (n + 1) rest)
    ∙ ap (λ k. made ++ new_block s vars table n b ∷ new_blocks s vars table k rest) (add-one n)
    ∙ ap (λ y. made ++ new_block s vars table n y ∷ new_blocks s vars table (suc n) rest) is
    ∙ sym (ap (λ bs. made ++ bs) (at_drop_more (new_blocks s vars table n) blocks i b lt))

-- the new graph, field by field
pub all_fields : (g : VarGraph) (table : List (List ℕ)) (made : Graph) → made.name ≡ g.name → made.scalars ≡ g.scalars → made.arrays ≡ g.arrays → made.result ≡ g.result
    → made.blocks ≡ new_blocks (length g.scalars) g.vars table 0 g.blocks → made ≡ argued g table
all_fields g table made n s a r b =
    ap (λ x. record { name = x; scalars = made.scalars; arrays = made.arrays; result = made.result; blocks = made.blocks }) n
    ∙ ap (λ x. record { name = g.name; scalars = x; arrays = made.arrays; result = made.result; blocks = made.blocks }) s
    ∙ ap (λ x. record { name = g.name; scalars = g.scalars; arrays = x; result = made.result; blocks = made.blocks }) a
    ∙ ap (λ x. record { name = g.name; scalars = g.scalars; arrays = g.arrays; result = x; blocks = made.blocks }) r
    ∙ ap (λ x. record { name = g.name; scalars = g.scalars; arrays = g.arrays; result = g.result; blocks = x }) b
