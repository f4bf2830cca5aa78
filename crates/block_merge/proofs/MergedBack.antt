-- The finished runs of the merged graph are runs of the graph: each rewriting gives them back, and so do all of them.
use Rattle.std.proofs.Common.{◌≡◌, ℕ, zero, suc, List, length, Option, Some, None, refl}
use Rattle.std.specs.Option.{option_map_or}
use Rattle.ir.specs.declared.graph.Block.{Block}
use Rattle.ir.specs.declared.graph.To.{To}
use Rattle.ir.specs.Graphs.{Graph, IsGraph}
use Rattle.block_merge.specs.Threaded.{threaded_once, threaded}
use Rattle.block_merge.specs.Joined.{joined_at, next_in_row, row_joined, rows_joined, all_joined}
use Rattle.block_merge.specs.Numbered.{reached}
use Rattle.block_merge.specs.Merged.{rounds, with_blocks, merged}
use Rattle.block_merge.specs.Laws.{MergedRunsGoBack}
use Rattle.block_merge.proofs.Backs.{EndsBack, runs_back}
use Rattle.block_merge.proofs.ThreadedRuns.{threaded_back}
use Rattle.block_merge.proofs.Rows.{is_row}
use Rattle.block_merge.proofs.JoinedFits.{row_back}
use Rattle.block_merge.proofs.ListedFits.{reached_back}
use Rattle.block_merge.proofs.Passes.{once_keeps, threaded_keeps, join_keeps, row_keeps, rows_keep, reached_keeps}

back_twice : (g : Graph) (bs cs : List Block) → EndsBack g (with_blocks g bs) → EndsBack (with_blocks g bs) (with_blocks g cs) → EndsBack g (with_blocks g cs)
back_twice g bs cs a b scalars arrays r last l x = a scalars arrays r last l (b scalars arrays r last l x)

all_threaded_back : (n : ℕ) (g : Graph) → IsGraph g → EndsBack g (with_blocks g (threaded n g.blocks))
all_threaded_back zero g fine = λ scalars arrays r last l x. x
all_threaded_back (suc n) g fine =
    let h = with_blocks g (threaded_once g.blocks) in
    back_twice g h.blocks (threaded n h.blocks) (threaded_back g fine) (all_threaded_back n h (once_keeps g fine).fine)

row_joined_back : (n : ℕ) (g : Graph) (k : ℕ) → IsGraph g → EndsBack g (with_blocks g (row_joined n g.blocks k))
row_joined_back zero g k fine = λ scalars arrays r last l x. x
row_joined_back (suc n) g k fine = by (next_in_row g.blocks k) refl (λ h f. row_joined_back n h k f)
  where
    by : (o : Option To) → next_in_row g.blocks k ≡ o → ((h : Graph) → IsGraph h → EndsBack h (with_blocks h (row_joined n h.blocks k)))
        → EndsBack g (with_blocks g (option_map_or (λ to. row_joined n (joined_at g.blocks k to) k) o g.blocks))
    by None e rest = λ scalars arrays r last l x. x
    by (Some to) e rest =
        let row = is_row g.blocks k to e in
        let bs = joined_at g.blocks k to in
        back_twice g bs (row_joined n bs k) (row_back g k to fine row) (rest (with_blocks g bs) (join_keeps g k to fine row).fine)

rows_joined_back : (m : ℕ) (g : Graph) (k : ℕ) → IsGraph g → EndsBack g (with_blocks g (rows_joined m g.blocks k))
rows_joined_back zero g k fine = λ scalars arrays r last l x. x
rows_joined_back (suc m) g k fine =
    let bs = row_joined (length g.blocks) g.blocks k in
    back_twice g bs (rows_joined m bs (suc k)) (row_joined_back (length g.blocks) g k fine) (rows_joined_back m (with_blocks g bs) (suc k) (row_keeps (length g.blocks) g k fine).fine)

merged_back : (g : Graph) → IsGraph g → EndsBack g (merged g)
merged_back g fine =
    let a = (threaded_keeps rounds g fine).fine in
    let h = with_blocks g (threaded rounds g.blocks) in
    let b = (reached_keeps h a).fine in
    let i = with_blocks g (reached h.blocks) in
    let c = (rows_keep (length i.blocks) i 0 b).fine in
    let j = with_blocks g (all_joined i.blocks) in
    back_twice g h.blocks (reached j.blocks) (all_threaded_back rounds g fine)
    (back_twice h i.blocks (reached j.blocks) (reached_back h a) (back_twice i j.blocks (reached j.blocks) (rows_joined_back (length i.blocks) i 0 b) (reached_back j c)))

pub merged_runs_back : MergedRunsGoBack
merged_runs_back g fine = runs_back g (merged g) (merged_back g fine)
