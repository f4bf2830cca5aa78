-- Graphs with other blocks: when they are well formed, and how great they are.
use Rattle.std.proofs.Common.{◌≡◌, ℕ, ◌+◌, ◌<◌, ◌≤◌, List, [], ◌∷◌, ◌++◌, map, length, refl, sym, ◌∙◌, ap, subst, arith, length-append, inl, inr}
use Rattle.std.specs.Prelude.{All, sum_by}
use Rattle.std.proofs.lemmas.Bool.{cases_lt}
use Rattle.std.proofs.lemmas.Option.{get_or_from_slice_get, slice_get-get_or, slice_get_within}
use Rattle.std.proofs.lemmas.List.{get_or_past, length-map}
use Rattle.std.proofs.lemmas.List.Elements.{All-get_or, All-from_get_or}
use Rattle.ir.specs.declared.instr.Instr.{Instr}
use Rattle.ir.specs.declared.instr.Instr.TheVariants as step
use Rattle.ir.specs.declared.graph.Block.{Block}
use Rattle.ir.specs.declared.graph.Jump.{Jump}
use Rattle.ir.specs.declared.graph.To.{To}
use Rattle.ir.specs.Shapes.{Shape}
use Rattle.ir.specs.Accesses.{is_access, accesses_in}
use Rattle.ir.specs.Renaming.{renamed}
use Rattle.ir.specs.Graphs.{Graph, IsGraph, IsBlock, IsTarget, AreHanded, no_block, block_at, handed_on, block_weight}
use Rattle.block_merge.specs.Renamed.{block_of, moved_to}
use Rattle.block_merge.specs.Joined.{values_of, joined, idle}
use Rattle.block_merge.specs.Numbered.{numbered}
use Rattle.block_merge.specs.Merged.{with_blocks}
use Rattle.block_merge.specs.Shares.{NoGreater}
use Rattle.block_merge.proofs.JoinedRuns.{renamed_handed}
use Rattle.block_merge.proofs.ListedRuns.{as_heavy_jump}

-- ---- well formed

pub entry_is : (g : Graph) (fine : IsGraph g) → block_at g 0 ≡ fine.entry
entry_is g fine = get_or_from_slice_get g.blocks 0 fine.entry no_block fine.first

pub some_blocks : (g : Graph) → IsGraph g → 0 < length g.blocks
some_blocks g fine = slice_get_within g.blocks 0 fine.entry fine.first

pub graph_of : (g : Graph) (bs : List Block) → IsGraph g → 0 < length bs → (block_of bs 0).args ≡ (block_at g 0).args
    → ((n : ℕ) → n < length bs → IsBlock (with_blocks g bs) (block_of bs n)) → IsGraph (with_blocks g bs)
graph_of g bs fine some args each = record {
  blocks = All-from_get_or (IsBlock (with_blocks g bs)) bs no_block each;
  entry = block_of bs 0;
  first = slice_get-get_or bs 0 no_block some;
  scalars = args ∙ ap (λ (b : Block). b.args) (entry_is g fine) ∙ fine.scalars;
}

-- a target that has the same arguments among other blocks
pub target_of : (xs bs : List Block) (ws : Shape) (to : To) → IsTarget xs ws to → to.block < length bs → (block_of bs to.block).args ≡ (block_of xs to.block).args → IsTarget bs ws to
target_of xs bs ws to t lt same = record {
  block = block_of bs to.block;
  exists = slice_get-get_or bs to.block no_block lt;
  no_entry = t.no_entry;
  handed =
      let e : block_of xs to.block ≡ t.block = get_or_from_slice_get xs to.block t.block no_block t.exists in
      subst (λ ys. AreHanded ws to.with ys) (sym (same ∙ ap (λ (b : Block). b.args) e)) t.handed;
}

-- what an edge hands on fits the arguments of its target
pub target_hands : (bs : List Block) (ws : Shape) (to : To) → IsTarget bs ws to → AreHanded ws to.with (block_of bs to.block).args
target_hands bs ws to t =
    let e : block_of bs to.block ≡ t.block = get_or_from_slice_get bs to.block t.block no_block t.exists in
    subst (λ ys. AreHanded ws to.with ys) (sym (ap (λ (b : Block). b.args) e)) t.handed

-- ---- sizes

-- a number of each block that no rewriting raises
pub record IsWeight (w : Block → ℕ) : Type 0 where
  pub numbered_same : (f : ℕ → ℕ) (b : Block) → w (numbered f b) ≡ w b
  pub joined_less : (b c : Block) (with : List ℕ) (n : ℕ) → w (joined b with c) + w (idle n) ≤ w b + w c
  pub lighter : (b : Block) (j : Jump) → handed_on j ≤ handed_on b.jump → w (record { args = b.args; steps = b.steps; jump = j }) ≤ w b

pub accesses_append : (is js : List Instr) → accesses_in (is ++ js) ≡ accesses_in is + accesses_in js
accesses_append [] js = omega arith
accesses_append (i ∷ is) js = omega (arith, accesses_append is js)

renamed_access : (f : ℕ → ℕ) (i : Instr) → is_access (renamed f i) ≡ is_access i
renamed_access f (step.Const w n) = refl
renamed_access f (step.One op a) = refl
renamed_access f (step.Two op a b) = refl
renamed_access f (step.Select w c a b) = refl
renamed_access f (step.Load a p) = refl
renamed_access f (step.Store a p v) = refl

pub renamed_accesses : (f : ℕ → ℕ) (is : List Instr) → accesses_in (map (renamed f) is) ≡ accesses_in is
renamed_accesses f [] = refl
renamed_accesses f (i ∷ is) = ap (λ n. n + accesses_in (map (renamed f) is)) (renamed_access f i) ∙ ap (λ n. is_access i + n) (renamed_accesses f is)

abbrev steps_of : Block → ℕ
steps_of b = length b.steps

abbrev args_of : Block → ℕ
args_of b = length b.args

abbrev accesses_of : Block → ℕ
accesses_of b = accesses_in b.steps

weights : IsWeight block_weight
weights = record {
  numbered_same = λ f b. let e = as_heavy_jump f b.jump in omega (arith, e);
  joined_less = λ b c with n.
      let f = moved_to with (values_of b) in
      let x = renamed_handed f c.jump in
      omega (arith, x, length-append b.steps (map (renamed f) c.steps), length-map c.steps (renamed f));
  lighter = λ b j h. omega (arith, h);
}

steps_weigh : IsWeight steps_of
steps_weigh = record {
  numbered_same = λ f b. refl;
  joined_less = λ b c with n. let f = moved_to with (values_of b) in omega (arith, length-append b.steps (map (renamed f) c.steps), length-map c.steps (renamed f));
  lighter = λ b j h. omega arith;
}

args_weigh : IsWeight args_of
args_weigh = record { numbered_same = λ f b. refl; joined_less = λ b c with n. omega arith; lighter = λ b j h. omega arith }

accesses_weigh : IsWeight accesses_of
accesses_weigh = record {
  numbered_same = λ f b. refl;
  joined_less = λ b c with n. let f = moved_to with (values_of b) in omega (arith, accesses_append b.steps (map (renamed f) c.steps), renamed_accesses f c.steps);
  lighter = λ b j h. omega arith;
}

-- no block has more arguments than that many, also past the blocks
abbrev pub HasFewArgs : List Block → ℕ → Type 0
HasFewArgs bs most = (n : ℕ) → length (block_of bs n).args ≤ most

few_of : (bs : List Block) (most : ℕ) → All (λ (b : Block). length b.args ≤ most) bs → HasFewArgs bs most
few_of bs most h n = elim (cases_lt n (length bs)) [
  | inl lt ↦ All-get_or (λ (b : Block). length b.args ≤ most) bs n no_block lt h
  | inr ge ↦ let e : length (block_of bs n).args ≡ 0 = ap (λ (b : Block). length b.args) (get_or_past bs n no_block ge) in omega (arith, e)
]

pub no_greater : (g : Graph) (bs : List Block) → length bs ≤ length g.blocks → ((w : Block → ℕ) → IsWeight w → sum_by w bs ≤ sum_by w g.blocks)
    → ((most : ℕ) → HasFewArgs g.blocks most → HasFewArgs bs most) → NoGreater g (with_blocks g bs)
no_greater g bs blocks each few = record {
  blocks = blocks;
  bounded = each block_weight weights;
  steps = each steps_of steps_weigh;
  args = each args_of args_weigh;
  accesses = each accesses_of accesses_weigh;
  few_args = λ most h. All-from_get_or (λ (b : Block). length b.args ≤ most) bs no_block (λ i lt. few most (few_of g.blocks most h) i);
}
