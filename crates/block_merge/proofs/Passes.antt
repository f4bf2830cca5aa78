-- Each rewriting keeps what the merged graph is to keep, and so do all of them one after the other.
use Rattle.std.proofs.Common.{◌≡◌, ℕ, zero, suc, ◌+◌, ◌<◌, ◌≤◌, List, [], ◌∷◌, ◌++◌, map, length, get_or, Option, Some, None, refl, sym, ◌∙◌, ap, subst, arith, inl, inr}
use Rattle.std.specs.Prelude.{set, sum_by}
use Rattle.std.specs.Option.{option_map_or}
use Rattle.std.proofs.lemmas.Bool.{cases_lt, cases_eq}
use Rattle.std.proofs.lemmas.Grind.{flat_map-append}
use Rattle.std.proofs.lemmas.List.{length-map, length-set, get_or-set_other, get_or_past}
use Rattle.std.proofs.lemmas.List.Sums.{sum_by-cons, sum_by-set}
use Rattle.el_base.specs.Headers.{Header}
use Rattle.ir.specs.declared.graph.Block.{Block}
use Rattle.ir.specs.declared.graph.To.{To}
use Rattle.ir.specs.Renaming.{renamed}
use Rattle.ir.specs.Graphs.{Graph, IsGraph, shape_of, no_block, block_at}
use Rattle.block_merge.specs.Renamed.{block_of, moved_to}
use Rattle.block_merge.specs.Threaded.{threaded_jump, threaded_block, threaded_once, threaded}
use Rattle.block_merge.specs.Joined.{values_of, joined, idle, joined_at, next_in_row, row_joined, rows_joined, all_joined}
use Rattle.block_merge.specs.Found.{stored_by, stored_in, found_blocks}
use Rattle.block_merge.specs.Numbered.{place_of, reached}
use Rattle.block_merge.specs.Merged.{rounds, with_blocks, merged}
use Rattle.block_merge.specs.Shares.{NoGreater, MergeShare}
use Rattle.block_merge.proofs.Visiting.{is_block}
use Rattle.block_merge.proofs.Blocks.{IsWeight, HasFewArgs, no_greater}
use Rattle.block_merge.proofs.ThreadedRuns.{threaded_runs, block_is, lighter}
use Rattle.block_merge.proofs.ThreadedFits.{threaded_fits}
use Rattle.block_merge.proofs.Rows.{IsRow, is_row}
use Rattle.block_merge.proofs.JoinedFits as row
use Rattle.block_merge.proofs.Members.{In, in_left, in_right, in_either}
use Rattle.block_merge.proofs.FoundLemmas.{stored_by_one}
use Rattle.block_merge.proofs.ListedFits as list
use Rattle.block_merge.proofs.Stored.{Stores, stored_alike, renamed_stores}

-- ---- one after the other

pub keeps_itself : (g : Graph) → IsGraph g → MergeShare g g
keeps_itself g fine = record {
  header = refl;
  fine = fine;
  runs = λ scalars arrays r last more most l x. x;
  sizes = record { blocks = omega arith; bounded = omega arith; steps = omega arith; args = omega arith; accesses = omega arith; few_args = λ most h. h };
  stored = λ a. (λ s. s, λ s. s);
}

no_greater_twice : (g h k : Graph) → NoGreater g h → NoGreater h k → NoGreater g k
no_greater_twice g h k a b = record {
  blocks = (let x = a.blocks in let y = b.blocks in omega (arith, x, y));
  bounded = (let x = a.bounded in let y = b.bounded in omega (arith, x, y));
  steps = (let x = a.steps in let y = b.steps in omega (arith, x, y));
  args = (let x = a.args in let y = b.args in omega (arith, x, y));
  accesses = (let x = a.accesses in let y = b.accesses in omega (arith, x, y));
  few_args = λ most f. b.few_args most (a.few_args most f);
}

pub keeps_twice : (g h k : Graph) → MergeShare g h → MergeShare h k → MergeShare g k
keeps_twice g h k a b = record {
  header = b.header ∙ a.header;
  fine = b.fine;
  runs = λ scalars arrays r last more most l x.
      let s : length h.scalars ≡ length g.scalars = ap (λ (e : Header). length e.scalars) a.header in
      b.runs scalars arrays r last more most (l ∙ sym s) (a.runs scalars arrays r last more most l x);
  sizes = no_greater_twice g h k a.sizes b.sizes;
  stored = λ x. (λ s. (a.stored x).0 ((b.stored x).0 s), λ s. (b.stored x).1 ((a.stored x).1 s));
}

-- ---- threaded

module _ (g : Graph) (fine : IsGraph g) where
  abbrev bs : List Block
  bs = threaded_once g.blocks

  lighter_blocks : (w : Block → ℕ) → IsWeight w → (xs : List Block) → ((i : ℕ) → i < length xs → w (threaded_block g.blocks (block_of xs i)) ≤ w (block_of xs i))
      → sum_by w (map (threaded_block g.blocks) xs) ≤ sum_by w xs
  lighter_blocks w is_w [] h = omega arith
  lighter_blocks w is_w (x ∷ xs) h =
      let i = lighter_blocks w is_w xs (λ j lt. h (suc j) (omega arith)) in
      let e = h 0 (omega arith) in
      let p = sum_by-cons w (threaded_block g.blocks x) (map (threaded_block g.blocks) xs) in
      let q = sum_by-cons w x xs in
      omega (arith, i, e, p, q)

  one_lighter : (w : Block → ℕ) → IsWeight w → (i : ℕ) → i < length g.blocks → w (threaded_block g.blocks (block_at g i)) ≤ w (block_at g i)
  one_lighter w is_w i lt =
      let b = block_at g i in
      is_w.lighter b (threaded_jump g.blocks b.jump) (lighter g fine (shape_of g b) b.jump (is_block g fine i lt).jump)

  same_stores : (n : ℕ) → stored_in (block_of bs n) ≡ stored_in (block_at g n)
  same_stores n = ap stored_in (block_is g fine n)

  pub once_keeps : MergeShare g (with_blocks g bs)
  once_keeps = record {
    header = refl;
    fine = threaded_fits g fine;
    runs = threaded_runs g fine;
    sizes = no_greater g bs (let e = length-map g.blocks (threaded_block g.blocks) in omega (arith, e)) (λ w is_w. lighter_blocks w is_w g.blocks (one_lighter w is_w))
        (λ most h n. let e : length (block_of bs n).args ≡ length (block_at g n).args = ap (λ (b : Block). length b.args) (block_is g fine n) in let l = h n in omega (arith, e, l));
    stored = stored_alike g (with_blocks g bs)
        (λ a s. record { number = s.number; stores = subst (λ l. In l a) (sym (same_stores s.number)) s.stores })
        (λ a s. record { number = s.number; stores = subst (λ l. In l a) (same_stores s.number) s.stores });
  }

pub threaded_keeps : (n : ℕ) (g : Graph) → IsGraph g → MergeShare g (with_blocks g (threaded n g.blocks))
threaded_keeps zero g fine = keeps_itself g fine
threaded_keeps (suc n) g fine =
    let h = with_blocks g (threaded_once g.blocks) in
    let one = once_keeps g fine in
    keeps_twice g h (with_blocks g (threaded (suc n) g.blocks)) one (threaded_keeps n h one.fine)

-- ---- joined

module _ (g : Graph) (k : ℕ) (to : To) (fine : IsGraph g) (is : IsRow g.blocks k to) where
  abbrev js : List Block
  js = joined_at g.blocks k to

  abbrev b : Block
  b = block_at g k

  abbrev c : Block
  c = block_at g to.block

  abbrev bc : Block
  bc = joined b to.with c

  c_within : to.block < length g.blocks
  c_within = row.to_within g k to fine is

  joined_lighter : (w : Block → ℕ) → IsWeight w → sum_by w js ≤ sum_by w g.blocks
  joined_lighter w is_w =
      let first : sum_by w (set g.blocks k bc) + w b ≡ sum_by w g.blocks + w bc = sum_by-set w g.blocks k bc no_block is.within in
      let lt = c_within in
      let second : sum_by w js + w (block_of (set g.blocks k bc) to.block) ≡ sum_by w (set g.blocks k bc) + w (idle to.block) =
      sum_by-set w (set g.blocks k bc) to.block (idle to.block) no_block (omega (arith, lt, length-set g.blocks k bc)) in
      let same : w (block_of (set g.blocks k bc) to.block) ≡ w c = ap w (get_or-set_other g.blocks k to.block bc no_block is.other) in
      let less = is_w.joined_less b c to.with to.block in
      omega (arith, first, second, same, less)

  few : (most : ℕ) → HasFewArgs g.blocks most → HasFewArgs js most
  few most h n = elim (cases_eq n to.block) [
    | inl e ↦ let z : length (block_of js n).args ≡ 0 = ap (λ (x : Block). length x.args) (ap (block_of js) e ∙ row.at_next g k to fine is) in omega (arith, z)
    | inr p ↦ elim (cases_eq n k) [
      | inl e ↦ let z : length (block_of js n).args ≡ length b.args = ap (λ (x : Block). length x.args) (ap (block_of js) e ∙ row.at_row g k to fine is) in let l = h k in omega (arith, z, l)
      | inr q ↦ let z : length (block_of js n).args ≡ length (block_at g n).args = ap (λ (x : Block). length x.args) (row.at_other g k to fine is n p q) in let l = h n in omega (arith, z, l)
    ]
  ]

  both_stores : stored_in bc ≡ stored_in b ++ stored_in c
  both_stores =
      let f = moved_to to.with (values_of b) in
      flat_map-append stored_by b.steps (map (renamed f) c.steps) ∙ ap (λ l. stored_in b ++ l) (renamed_stores f c.steps)

  at_k : block_of js k ≡ bc
  at_k = row.at_row g k to fine is

  stores_after : (a : ℕ) → Stores g.blocks a → Stores js a
  stores_after a s = elim (cases_eq s.number to.block) [
    | inl e ↦ record {
      number = k;
      stores = subst (λ (x : Block). In (stored_in x) a) (sym at_k) (subst (λ l. In l a) (sym both_stores) (in_right (stored_in b) (stored_in c) a (subst (λ n. In (stored_in (block_at g n)) a) e s.stores)));
    }
    | inr p ↦ elim (cases_eq s.number k) [
      | inl e ↦ record {
        number = k;
        stores = subst (λ (x : Block). In (stored_in x) a) (sym at_k) (subst (λ l. In l a) (sym both_stores) (in_left (stored_in b) (stored_in c) a (subst (λ n. In (stored_in (block_at g n)) a) e s.stores)));
      }
      | inr q ↦ record { number = s.number; stores = subst (λ (x : Block). In (stored_in x) a) (sym (row.at_other g k to fine is s.number p q)) s.stores }
    ]
  ]

  stores_before : (a : ℕ) → Stores js a → Stores g.blocks a
  stores_before a s = elim (cases_eq s.number to.block) [
    | inl e ↦ let none : In (stored_in (idle to.block)) a = subst (λ (x : Block). In (stored_in x) a) (ap (block_of js) e ∙ row.at_next g k to fine is) s.stores in absurd none
    | inr p ↦ elim (cases_eq s.number k) [
      | inl e ↦
          let both : In (stored_in b ++ stored_in c) a = subst (λ l. In l a) both_stores (subst (λ (x : Block). In (stored_in x) a) (ap (block_of js) e ∙ at_k) s.stores) in
          elim (in_either (stored_in b) (stored_in c) a both) [ inl x ↦ record { number = k; stores = x } | inr y ↦ record { number = to.block; stores = y } ]
      | inr q ↦ record { number = s.number; stores = subst (λ (x : Block). In (stored_in x) a) (row.at_other g k to fine is s.number p q) s.stores }
    ]
  ]

  pub join_keeps : MergeShare g (with_blocks g js)
  join_keeps = record {
    header = refl;
    fine = row.joined_fits g k to fine is;
    runs = row.row_runs g k to fine is;
    sizes = no_greater g js (let l = row.long g k to fine is in omega (arith, l)) joined_lighter few;
    stored = stored_alike g (with_blocks g js) stores_after stores_before;
  }

pub row_keeps : (n : ℕ) (g : Graph) (k : ℕ) → IsGraph g → MergeShare g (with_blocks g (row_joined n g.blocks k))
row_keeps zero g k fine = keeps_itself g fine
row_keeps (suc n) g k fine = by (next_in_row g.blocks k) refl (λ h f. row_keeps n h k f)
  where
    by : (o : Option To) → next_in_row g.blocks k ≡ o → ((h : Graph) → IsGraph h → MergeShare h (with_blocks h (row_joined n h.blocks k)))
        → MergeShare g (with_blocks g (option_map_or (λ to. row_joined n (joined_at g.blocks k to) k) o g.blocks))
    by None e rest = keeps_itself g fine
    by (Some to) e rest =
        let one = join_keeps g k to fine (is_row g.blocks k to e) in
        let h = with_blocks g (joined_at g.blocks k to) in
        keeps_twice g h (with_blocks g (row_joined n (joined_at g.blocks k to) k)) one (rest h one.fine)

pub rows_keep : (m : ℕ) (g : Graph) (k : ℕ) → IsGraph g → MergeShare g (with_blocks g (rows_joined m g.blocks k))
rows_keep zero g k fine = keeps_itself g fine
rows_keep (suc m) g k fine =
    let h = with_blocks g (row_joined (length g.blocks) g.blocks k) in
    let one = row_keeps (length g.blocks) g k fine in
    keeps_twice g h (with_blocks g (rows_joined (suc m) g.blocks k)) one (rows_keep m h (suc k) one.fine)

-- ---- reached

module _ (g : Graph) (fine : IsGraph g) where
  abbrev found : List ℕ
  found = found_blocks g.blocks

  abbrev ls : List Block
  ls = reached g.blocks

  listed_before : (a : ℕ) → Stores ls a → Stores g.blocks a
  listed_before a s = elim (cases_lt s.number (length found)) [
    | inl lt ↦ record { number = get_or found s.number 0; stores = subst (λ (x : Block). In (stored_in x) a) (list.at_place g fine s.number lt) s.stores }
    | inr ge ↦
        let e : block_of ls s.number ≡ no_block = get_or_past ls s.number no_block (let l = list.long g fine in omega (arith, l, ge)) in
        let none : In (stored_in no_block) a = subst (λ (x : Block). In (stored_in x) a) e s.stores in absurd none
  ]

  listed_after : (a : ℕ) → Stores g.blocks a → Stores ls a
  listed_after a s =
      let t = stored_by_one g.blocks found a ((list.is g fine).stores s.number a s.stores) in
      record { number = place_of found t.block; stores = subst (λ (x : Block). In (stored_in x) a) (sym (list.at_found g fine t.block t.is_found)) t.stores }

  pub reached_keeps : MergeShare g (with_blocks g ls)
  reached_keeps = record {
    header = refl;
    fine = list.reached_fits g fine;
    runs = list.reached_runs g fine;
    sizes = no_greater g ls (list.reached_few g fine) (list.reached_lighter g fine) (list.reached_few_args g fine);
    stored = stored_alike g (with_blocks g ls) listed_after listed_before;
  }

-- ---- all

pub merged_keeps : (g : Graph) → IsGraph g → MergeShare g (merged g)
merged_keeps g fine =
    let a = threaded_keeps rounds g fine in
    let h = with_blocks g (threaded rounds g.blocks) in
    let b = reached_keeps h a.fine in
    let i = with_blocks g (reached h.blocks) in
    let c = rows_keep (length i.blocks) i 0 b.fine in
    let j = with_blocks g (all_joined i.blocks) in
    let d = reached_keeps j c.fine in
    keeps_twice g h (merged g) a (keeps_twice h i (merged g) b (keeps_twice i j (merged g) c d))
