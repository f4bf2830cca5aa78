-- What the code makes of a block is the trimmed block.
use Rattle.std.proofs.Common.{◌≡◌, ℕ, suc, ◌+◌, ◌<◌, ◌≤◌, List, [], ◌∷◌, ◌++◌, map, length, get_or, drop, sym, ◌∙◌, ap, subst, arith, drop-cons, append_assoc, append-nil}
use Rattle.std.specs.Prelude.{Bool, false, replicate}
use Rattle.std.proofs.lemmas.Option.{slice_get_within}
use Rattle.std.proofs.lemmas.List.{length-replicate}
use Rattle.std.proofs.Math.ListN.{drop_of_length-le}
use Rattle.ir.specs.declared.cfg.CfgBlock.{CfgBlock}
use Rattle.ir.specs.declared.cfg.Write.{Write}
use Rattle.ir.specs.Renaming.{renamed}
use Rattle.ir.specs.Variables.{VarGraph, IsVarGraph, IsVarBlock}
use Rattle.block_trim.specs.Trimming.{uses, kept_writes, kept_reads, number_among, renamed_write, renamed_jump, block_uses, trimmed_number, trimmed_block}
use Rattle.block_trim.specs.Code.{NameVariables, Numbering, marked, reads_by, number_by, numbering}
use Rattle.block_trim.proofs.Fits.{is_graph}
use Rattle.block_trim.proofs.Marking.{AreMarks, all_marks, length_marked, reads_same, number_same}

-- the parts that the code makes, each from the ones before
pub record IsMade (b : CfgBlock) (ws : List Write) (ms : List Bool) (n : Numbering) (new : CfgBlock) : Type 0 where
  pub kept : ws ≡ kept_writes b.reads b.writes
  pub marks : ms ≡ marked (replicate (length b.reads) false) (uses b.steps ws b.jump)
  pub numbers : n ≡ numbering ms
  pub reads : new.reads ≡ reads_by ms b.reads
  pub steps : new.steps ≡ map (renamed (number_by n)) b.steps
  pub writes : new.writes ≡ map (renamed_write (number_by n)) ws
  pub jump : new.jump ≡ renamed_jump (number_by n) b.jump

same_block : (x y : CfgBlock) → x.reads ≡ y.reads → x.steps ≡ y.steps → x.writes ≡ y.writes → x.jump ≡ y.jump → x ≡ y
same_block x y r s w j = λ i. record { reads = r i; steps = s i; writes = w i; jump = j i }

pub made_trimmed : (b : CfgBlock) (ws : List Write) (ms : List Bool) (n : Numbering) (new : CfgBlock) → IsMade b ws ms n new → new ≡ trimmed_block b
made_trimmed b ws ms n new h =
    let used = block_uses b in
    let all = marked (replicate (length b.reads) false) used in
    let is : ms ≡ all = h.marks ∙ ap (λ xs. marked (replicate (length b.reads) false) (uses b.steps xs b.jump)) h.kept in
    let long : length all ≡ length b.reads = length_marked (replicate (length b.reads) false) used ∙ length-replicate (length b.reads) false in
    let marks : AreMarks used 0 all = all_marks used (length b.reads) in
    let each : (a : ℕ) → number_by n a ≡ trimmed_number b a = λ a. ap (λ m. number_by m a) (h.numbers ∙ ap numbering is) ∙ number_same used all marks a ∙ ap (λ k. number_among used k a) long in
    let f : number_by n ≡ trimmed_number b = λ i a. each a i in
    let reads : new.reads ≡ kept_reads used 0 b.reads = h.reads ∙ ap (λ m. reads_by m b.reads) is ∙ reads_same used 0 all b.reads long marks in
    let steps : new.steps ≡ map (renamed (trimmed_number b)) b.steps = h.steps ∙ ap (λ (g : ℕ → ℕ). map (renamed g) b.steps) f in
    let writes : new.writes ≡ map (renamed_write (trimmed_number b)) (kept_writes b.reads b.writes) = h.writes ∙ ap (λ (g : ℕ → ℕ). map (renamed_write g) ws) f ∙ ap (map (renamed_write (trimmed_number b))) h.kept in
    let jump : new.jump ≡ renamed_jump (trimmed_number b) b.jump = h.jump ∙ ap (λ (g : ℕ → ℕ). renamed_jump g b.jump) f in
    same_block new (trimmed_block b) reads steps writes jump

-- the writes of a well formed graph are to its variables
pub writes_named : (g : VarGraph) (blocks : List CfgBlock) (i n : ℕ) (b : CfgBlock) → IsVarGraph g → blocks ≡ g.blocks → i < length blocks → b ≡ get_or blocks i b → n ≡ length g.vars → NameVariables n b.writes
writes_named g blocks i n b fine is lt at long k d below =
    let fine_block : IsVarBlock g b = subst (IsVarBlock g) (sym (at ∙ ap (λ l. get_or l i b) is)) (fine.blocks i b (subst (λ l. i < length l) is lt)) in
    let w = fine_block.writes k d below in
    subst (λ m. (get_or b.writes k d).var < m) (sym long) (slice_get_within g.vars (get_or b.writes k d).var w.0 w.1)

-- one block more
pub blocks_more : (items made all : List CfgBlock) (i : ℕ) (x y : CfgBlock) → i < length items → y ≡ get_or items i y → x ≡ trimmed_block y → made ++ map trimmed_block (drop i items) ≡ all
    → (made ++ x ∷ []) ++ map trimmed_block (drop (i + 1) items) ≡ all
blocks_more items made all i x y lt at is h =
    let one : drop i items ≡ y ∷ drop (suc i) items = drop-cons items i y lt ∙ ap (λ z. z ∷ drop (suc i) items) (sym at) in
    let next : drop (i + 1) items ≡ drop (suc i) items = ap (λ k. drop k items) (let e : i + 1 ≡ suc i = omega arith in e) in
    let rest = map trimmed_block (drop (suc i) items) in
    ap (λ l. (made ++ x ∷ []) ++ map trimmed_block l) next ∙ append_assoc made (x ∷ []) rest ∙ ap (λ z. made ++ z ∷ rest) is
    ∙ ap (λ l. made ++ map trimmed_block l) (sym one) ∙ h

pub all_made : (items made : List CfgBlock) (i : ℕ) → length items ≤ i → made ++ map trimmed_block (drop i items) ≡ map trimmed_block items → made ≡ map trimmed_block items
all_made items made i h e = sym (append-nil made) ∙ ap (λ l. made ++ map trimmed_block l) (sym (drop_of_length-le items h)) ∙ e

-- a graph whose blocks are the trimmed ones is well formed
pub graph_fits : (g : VarGraph) (blocks : List CfgBlock) → IsVarGraph g → blocks ≡ map trimmed_block g.blocks
    → IsVarGraph (record { name = g.name; scalars = g.scalars; arrays = g.arrays; result = g.result; vars = g.vars; blocks = blocks })
graph_fits g blocks fine e =
    subst (λ bs. IsVarGraph (record { name = g.name; scalars = g.scalars; arrays = g.arrays; result = g.result; vars = g.vars; blocks = bs })) (sym e) (is_graph g fine)
