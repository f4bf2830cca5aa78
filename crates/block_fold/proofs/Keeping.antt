-- A block made anew does what the block does, and so does the graph of such blocks.
use Rattle.std.proofs.Common.{◌≡◌, ℕ, suc, ◌<◌, ◌^◌, List, [], ◌∷◌, map, length, Some, refl, sym, ◌∙◌, ap, subst, inl, inr}
use Rattle.std.specs.Prelude.{slice_get}
use Rattle.std.specs.List.{flat_map}
use Rattle.std.proofs.lemmas.Nat.{pow_pos}
use Rattle.std.proofs.lemmas.List.Elements.{All-nil}
use Rattle.el_base.specs.declared.ty.Array.{Array}
use Rattle.el_base.specs.declared.ty.Scalar.{Scalar}
use Rattle.el_base.specs.Widths.{ty_width}
use Rattle.ir.specs.declared.instr.Instr.{Instr}
use Rattle.ir.specs.declared.instr.Instr.TheVariants.{Const, One, Two, Select, Load, Store}
use Rattle.ir.specs.declared.graph.Block.{Block}
use Rattle.ir.specs.Graphs.{Graph, IsGraph, IsBlock, shape_of}
use Rattle.block_merge.specs.Found.{stored_by}
use Rattle.block_merge.specs.Merged.{with_blocks}
use Rattle.block_merge.proofs.Members.{In, in_either}
use Rattle.block_merge.proofs.Stored as merge
use Rattle.block_pass.specs.Fitting.{FitWidths, FitShape, FitArrays}
use Rattle.block_pass.specs.Blocks.{block_passage, LeadsClean, StoresTo, BlockShare}
use Rattle.block_pass.specs.Shares.{VisitsBack}
use Rattle.block_pass.specs.Laws.{ValuesStayInWidths, BlocksGoOn, BlocksPass}
use Rattle.block_pass.proofs.Values.{fit_first}
use Rattle.block_rules.specs.Laws.{RewritingsAreRight, ConditionsAreRight}
use Rattle.block_prune.specs.Pruned.{pruned}
use Rattle.block_prune.specs.Laws.{PrunedBlocksKeep}
use Rattle.block_fold.specs.Simplified.{Made, nothing_made, new_number, taken_all, simplified}
use Rattle.block_fold.specs.Folded.{folded_block, folded}
use Rattle.block_fold.specs.Laws.{SimplifiedBlocksKeep, FoldedBlocksKeep, FoldedGraphsPass}
use Rattle.block_fold.proofs.Growing.{Start, shape, work, values, known_values}
use Rattle.block_fold.proofs.Walking.{Follows, block_taken}
use Rattle.block_fold.proofs.JumpLemmas.{jump_fits, jump_leads}

-- ---- some values that fit

zeros_fit : (ws : List ℕ) → FitShape (map Some ws) (map (λ w. 0) ws)
zeros_fit [] = tt
zeros_fit (w ∷ ws) = (pow_pos w, zeros_fit ws)

empty_fit : (xs : List Array) → FitArrays xs (map (λ x. []) xs)
empty_fit [] = tt
empty_fit (x ∷ xs) = (All-nil (λ n. n < 2 ^ ty_width x.ty), empty_fit xs)

-- ---- stores

record IsStore (a : ℕ) (i : Instr) : Type 0 where
  addr : ℕ
  value : ℕ
  is : i ≡ Store a addr value

store_of : (a : ℕ) (i : Instr) → In (stored_by i) a → IsStore a i
store_of a (Const w n) h = absurd h
store_of a (One op x) h = absurd h
store_of a (Two op x y) h = absurd h
store_of a (Select w c x y) h = absurd h
store_of a (Load b p) h = absurd h
store_of a (Store b p v) (inl e) = record { addr = p; value = v; is = ap (λ x. Store x p v) e }
store_of a (Store b p v) (inr h) = absurd h

record HasStore (a : ℕ) (is : List Instr) : Type 0 where
  place : ℕ
  addr : ℕ
  value : ℕ
  is_step : slice_get is place ≡ Some (Store a addr value)

has_store : (a : ℕ) (is : List Instr) → In (flat_map stored_by is) a → HasStore a is
has_store a [] h = absurd h
has_store a (i ∷ is) h = elim (in_either (stored_by i) (flat_map stored_by is) a h) [
  | inl p ↦ let s = store_of a i p in record { place = 0; addr = s.addr; value = s.value; is_step = ap Some s.is }
  | inr q ↦ let s = has_store a is q in record { place = suc s.place; addr = s.addr; value = s.value; is_step = s.is_step }
]

stores_over : (b c : Block) → flat_map stored_by c.steps ≡ flat_map stored_by b.steps → (a : ℕ) → StoresTo b a → StoresTo c a
stores_over b c e a s =
    let h = has_store a c.steps (subst (λ l. In l a) (sym e) (merge.stored_at a b.steps s.place s.addr s.value s.is_step)) in
    record { place = h.place; addr = h.addr; value = h.value; is_step = h.is_step }

-- ---- blocks

module _ (stay : ValuesStayInWidths) (rules : RewritingsAreRight) (conditions : ConditionsAreRight) (g : Graph) (b : Block) (fine : IsBlock g b) where
  abbrev made : Made
  made = taken_all (length b.args) nothing_made b.steps

  abbrev start : (given : List ℕ) (arrays : List (List ℕ)) → FitShape (map Some b.args) given → FitArrays g.arrays arrays → Start
  start given arrays fit_given fit_arrays = record { declared = g.arrays; args = b.args; given = given; arrays = arrays; fit_given = fit_given; fit_arrays = fit_arrays }

  follows : (given : List ℕ) (arrays : List (List ℕ)) (fit_given : FitShape (map Some b.args) given) (fit_arrays : FitArrays g.arrays arrays)
      → let s = start given arrays fit_given fit_arrays in Follows s (shape_of g b) (work s b.steps) (flat_map stored_by b.steps) made
  follows given arrays fit_given fit_arrays = block_taken stay rules (start given arrays fit_given fit_arrays) b.steps fine.steps

  abbrev first : Start
  first = start (map (λ w. 0) b.args) (map (λ x. []) g.arrays) (zeros_fit b.args) (empty_fit g.arrays)

  first_follows : Follows first (shape_of g b) (work first b.steps) (flat_map stored_by b.steps) made
  first_follows = follows (map (λ w. 0) b.args) (map (λ x. []) g.arrays) (zeros_fit b.args) (empty_fit g.arrays)

  new_block : IsBlock g (simplified b)
  new_block =
      let h = first_follows in
      record {
        args = fine.args;
        steps = h.fit;
        jump = jump_fits conditions g (length b.args) made.steps (shape first made.steps) (values first made.steps) (known_values stay first made.steps h.fit) (new_number (length b.args) made) (shape_of g b) h.widths b.jump fine.jump;
      }

  leads_over : (given : List ℕ) (arrays : List (List ℕ)) → FitWidths b.args given → FitArrays g.arrays arrays → (block_passage b given arrays).strays ≡ 0
      → LeadsClean (block_passage b given arrays) (block_passage (simplified b) given arrays)
  leads_over given arrays fit_given fit_arrays clean =
      let s = start given arrays (fit_first b.args given fit_given) fit_arrays in
      let h = follows given arrays (fit_first b.args given fit_given) fit_arrays in
      let a = h.over clean in
      record {
        onward = jump_leads conditions g (length b.args) made.steps (shape s made.steps) (values s made.steps) (known_values stay s made.steps h.fit) (new_number (length b.args) made) (shape_of g b) h.widths (work s b.steps).values a.values_are b.jump fine.jump;
        arrays = a.arrays;
        clean = a.clean;
      }

  leads_back : (given : List ℕ) (arrays : List (List ℕ)) → FitWidths b.args given → FitArrays g.arrays arrays → (block_passage (simplified b) given arrays).strays ≡ 0
      → (block_passage b given arrays).strays ≡ 0
  leads_back given arrays fit_given fit_arrays clean = (follows given arrays (fit_first b.args given fit_given) fit_arrays).back clean

  keeps : BlockShare g b (simplified b)
  keeps =
      let e : flat_map stored_by made.steps ≡ flat_map stored_by b.steps = first_follows.stores in
      record {
        args = refl;
        fine = new_block;
        over = leads_over;
        back = leads_back;
        stored = λ a. (stores_over (simplified b) b (sym e) a, stores_over b (simplified b) e a);
      }

pub simplified_keeps : ValuesStayInWidths → RewritingsAreRight → ConditionsAreRight → SimplifiedBlocksKeep
simplified_keeps stay rules conditions g b fine = keeps stay rules conditions g b fine

pub folded_keeps : BlocksGoOn → SimplifiedBlocksKeep → PrunedBlocksKeep → FoldedBlocksKeep
unfolding folded_block
folded_keeps on simple prune g b block =
    let one = simple g b block in
    on g b (simplified b) (pruned (simplified b)) one (prune g (simplified b) one.fine)

pub folded_passes : BlocksPass → FoldedBlocksKeep → FoldedGraphsPass
folded_passes pass keep g fine = pass g folded_block fine (keep g)

-- ---- the graph that the code makes

pub back_of : (g v : Graph) (n : List ℕ) (s : List Scalar) (a : List Array) (bs : List Block) → IsGraph g → FoldedGraphsPass → v ≡ g → n ≡ v.name → s ≡ v.scalars → a ≡ v.arrays → bs ≡ map folded_block g.blocks
    → VisitsBack g (record { name = n; scalars = s; arrays = a; result = v.result; blocks = bs })
back_of g v n s a bs fine law h e_n e_s e_a e_b =
    let e : record { name = n; scalars = s; arrays = a; result = v.result; blocks = bs } ≡ folded g =
    ap (λ (x : List ℕ). record { name = x; scalars = s; arrays = a; result = v.result; blocks = bs }) e_n
    ∙ ap (λ (x : List Scalar). record { name = v.name; scalars = x; arrays = a; result = v.result; blocks = bs }) e_s
    ∙ ap (λ (x : List Array). record { name = v.name; scalars = v.scalars; arrays = x; result = v.result; blocks = bs }) e_a
    ∙ ap (λ (x : Graph). with_blocks x bs) h
    ∙ ap (with_blocks g) e_b in
    subst (λ (x : Graph). VisitsBack g x) (sym e) (law g fine).back
