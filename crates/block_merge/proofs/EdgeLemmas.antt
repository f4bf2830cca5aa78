-- Edges that are counted once stay counted while rows are joined.
use Rattle.std.proofs.Common.{◌≡◌, ◌≢◌, ℕ, zero, suc, ◌+◌, ◌<◌, ◌≤◌, ◌==◌, Bool, true, false, cond, List, [], ◌∷◌, length, get_or, refl, sym, ◌∙◌, ap, arith, inl, inr}
use Rattle.std.specs.Prelude.{set, sum_by, replicate}
use Rattle.std.proofs.lemmas.Bool.{cases_lt, eqb-true, eq-eqb}
use Rattle.std.proofs.lemmas.List.{get_or-set_same, get_or-set_other, get_or_past, length-set}
use Rattle.std.proofs.lemmas.List.{get_or-replicate, length-replicate}
use Rattle.std.proofs.lemmas.List.Sums.{sum_by-cons, sum_by-set}
use Rattle.ir.specs.declared.graph.Block.{Block}
use Rattle.ir.specs.declared.graph.Jump.{Jump}
use Rattle.ir.specs.declared.graph.Jump.TheVariants.{Go, Two, Return}
use Rattle.ir.specs.declared.graph.To.{To}
use Rattle.ir.specs.Graphs.{no_block}
use Rattle.block_merge.specs.declared.joining.Edges.{Edges}
use Rattle.block_merge.specs.declared.joining.Edges.TheVariants.{Zero}
use Rattle.block_merge.specs.Renamed.{block_of, moved_to, renamed_jump}
use Rattle.block_merge.specs.Joined.{values_of, joined, idle, joined_at, edge_to, edges_of, edges_to}
use Rattle.block_merge.specs.Found.{targets}
use Rattle.block_merge.specs.Merged.{with_blocks}
use Rattle.block_merge.specs.Edges.{more_edges, counted_edge, counted_jump, counted_all, many_edges, CountsEdges}
use Rattle.block_merge.specs.Parts.{AreBlocks}
use Rattle.block_merge.proofs.Rows.{IsRow}
use Rattle.block_merge.proofs.Members.{In}
use Rattle.block_merge.proofs.FoundLemmas.{LeadsWithin}
use Rattle.block_merge.proofs.ListedFits.{leads_within}

-- ---- counted

one_more : (n : ℕ) → more_edges (many_edges n) ≡ many_edges (n + 1)
one_more zero = refl
one_more (suc zero) = refl
one_more (suc (suc n)) = let e : suc (suc n) + 1 ≡ suc (suc (n + 1)) = omega arith in sym (ap many_edges e)

edge_counted : (es : List Edges) (t : To) (c m : ℕ) → c < length es → get_or es c Zero ≡ many_edges m → get_or (counted_edge es t) c Zero ≡ many_edges (m + edge_to c t)
edge_counted es t c m lt h = by (t.block == c) refl
  where
    by : (b : Bool) → (t.block == c) ≡ b → get_or (counted_edge es t) c Zero ≡ many_edges (m + edge_to c t)
    by true e =
        let is : t.block ≡ c = eqb-true t.block c e in
        let one : edge_to c t ≡ 1 = ap (λ b. cond b 1 0) e in
        let x = get_or es t.block Zero in
        let there : get_or (set es t.block (more_edges x)) t.block Zero ≡ more_edges x = get_or-set_same es t.block (more_edges x) Zero (omega (arith, lt, is)) in
        ap (λ i. get_or (counted_edge es t) i Zero) (sym is) ∙ there ∙ ap (λ i. more_edges (get_or es i Zero)) is ∙ ap more_edges h ∙ one_more m ∙ ap (λ n. many_edges (m + n)) (sym one)
    by false e =
        let none : edge_to c t ≡ 0 = ap (λ b. cond b 1 0) e in
        let same : m ≡ m + edge_to c t = omega (arith, none) in
        get_or-set_other es t.block c (more_edges (get_or es t.block Zero)) Zero (λ is. absurd (let u : (t.block == c) ≡ true = eq-eqb t.block c (sym is) in let v : false ≡ true = sym e ∙ u in cc)) ∙ h ∙ ap many_edges same

counted_long : (es : List Edges) (j : Jump) → length (counted_jump es j) ≡ length es
counted_long es (Go t) = length-set es t.block (more_edges (get_or es t.block Zero))
counted_long es (Two v a b) =
    let xs = counted_edge es a in
    length-set xs b.block (more_edges (get_or xs b.block Zero)) ∙ length-set es a.block (more_edges (get_or es a.block Zero))
counted_long es (Return v) = refl

jump_counted : (es : List Edges) (j : Jump) (c m : ℕ) → c < length es → get_or es c Zero ≡ many_edges m → get_or (counted_jump es j) c Zero ≡ many_edges (m + edges_of c j)
jump_counted es (Go t) c m lt h = edge_counted es t c m lt h
jump_counted es (Two v a b) c m lt h =
    let xs = counted_edge es a in
    let l : length xs ≡ length es = length-set es a.block (more_edges (get_or es a.block Zero)) in
    let e : (m + edge_to c a) + edge_to c b ≡ m + (edge_to c a + edge_to c b) = omega arith in
    edge_counted xs b c (m + edge_to c a) (omega (arith, lt, l)) (edge_counted es a c m lt h) ∙ ap many_edges e
jump_counted es (Return v) c m lt h = let e : m ≡ m + 0 = omega arith in h ∙ ap many_edges e

abbrev edges : ℕ → Block → ℕ
edges c b = edges_of c b.jump

all_counted : (es : List Edges) (bs : List Block) (c m : ℕ) → c < length es → get_or es c Zero ≡ many_edges m → get_or (counted_all es bs) c Zero ≡ many_edges (m + edges_to bs c)
all_counted es [] c m lt h = let e : m ≡ m + edges_to [] c = omega arith in h ∙ ap many_edges e
all_counted es (b ∷ bs) c m lt h =
    let xs = counted_jump es b.jump in
    let l = counted_long es b.jump in
    let p : edges_to (b ∷ bs) c ≡ edges_of c b.jump + edges_to bs c = sum_by-cons (edges c) b bs in
    let e : (m + edges_of c b.jump) + edges_to bs c ≡ m + edges_to (b ∷ bs) c = omega (arith, p) in
    all_counted xs bs c (m + edges_of c b.jump) (omega (arith, lt, l)) (jump_counted es b.jump c m lt h) ∙ ap many_edges e

all_long : (es : List Edges) (bs : List Block) → length (counted_all es bs) ≡ length es
all_long es [] = refl
all_long es (b ∷ bs) = all_long (counted_jump es b.jump) bs ∙ counted_long es b.jump

-- ---- no edge leads out of the blocks

apart : (c : ℕ) (t : To) → t.block ≢ c → edge_to c t ≡ 0
apart c t ne = by (t.block == c) refl
  where
    by : (b : Bool) → (t.block == c) ≡ b → edge_to c t ≡ 0
    by true e = absurd (ne (eqb-true t.block c e))
    by false e = ap (λ b. cond b 1 0) e

no_edge : (c : ℕ) (j : Jump) → ((t : ℕ) → In (targets j) t → t ≢ c) → edges_of c j ≡ 0
no_edge c (Go t) h = apart c t (h t.block (inl refl))
no_edge c (Two v x y) h =
    let p = apart c x (h x.block (inl refl)) in
    let q = apart c y (h y.block (inr (inl refl))) in
    omega (arith, p, q)
no_edge c (Return v) h = refl

none_past : (bs all : List Block) (c : ℕ) → length all ≤ c → ((n : ℕ) → (t : ℕ) → In (targets (block_of bs n).jump) t → t < length all) → edges_to bs c ≡ 0
none_past [] all c ge h = refl
none_past (b ∷ bs) all c ge h =
    let one = no_edge c b.jump (λ t k is. let l = h 0 t k in absurd (omega (arith, l, ge, is))) in
    let rest = none_past bs all c ge (λ n t k. h (suc n) t k) in
    sum_by-cons (edges c) b bs ∙ omega (arith, one, rest)

pub edges_counted : (bs : List Block) (es : List Edges) → AreBlocks bs → es ≡ counted_all (replicate (length bs) Zero) bs → CountsEdges bs es
edges_counted bs es are e =
    let start = replicate (length bs) Zero in
    let l : length start ≡ length bs = length-replicate (length bs) Zero in
    let within : LeadsWithin bs = leads_within (with_blocks are.graph bs) are.fine in
    record {
      long = ap length e ∙ all_long start bs ∙ l;
      each = λ c. ap (λ xs. get_or xs c Zero) e ∙ elim (cases_lt c (length bs)) [
        | inl lt ↦ all_counted start bs c 0 (omega (arith, lt, l)) (get_or-replicate (length bs) c Zero Zero lt) ∙ (let z : 0 + edges_to bs c ≡ edges_to bs c = omega arith in ap many_edges z)
        | inr ge ↦
            let z = none_past bs bs c ge within in
            get_or_past (counted_all start bs) c Zero (let k = all_long start bs in omega (arith, k, l, ge)) ∙ sym (ap many_edges z)
      ];
    }

-- ---- joined rows have the same edges

renamed_edges : (f : ℕ → ℕ) (c : ℕ) (j : Jump) → edges_of c (renamed_jump f j) ≡ edges_of c j
renamed_edges f c (Go t) = refl
renamed_edges f c (Two v a b) = refl
renamed_edges f c (Return v) = refl

pub edges_kept : (bs : List Block) (k : ℕ) (to : To) → IsRow bs k to → to.block < length bs → (c : ℕ) → edges_to (joined_at bs k to) c ≡ edges_to bs c
edges_kept bs k to row lt c =
    let b = block_of bs k in
    let n = block_of bs to.block in
    let bc = joined b to.with n in
    let f = moved_to to.with (values_of b) in
    let first : sum_by (edges c) (set bs k bc) + edges c b ≡ sum_by (edges c) bs + edges c bc = sum_by-set (edges c) bs k bc no_block row.within in
    let second : sum_by (edges c) (joined_at bs k to) + edges c (block_of (set bs k bc) to.block) ≡ sum_by (edges c) (set bs k bc) + edges c (idle to.block) =
    sum_by-set (edges c) (set bs k bc) to.block (idle to.block) no_block (omega (arith, lt, length-set bs k bc)) in
    let same : edges c (block_of (set bs k bc) to.block) ≡ edges c n = ap (edges c) (get_or-set_other bs k to.block bc no_block row.other) in
    let mine : edges c b ≡ edge_to c to = ap (edges_of c) row.goes in
    let moved : edges c bc ≡ edges c n = renamed_edges f c n.jump in
    let own : edges c (idle to.block) ≡ edge_to c to = refl in
    omega (arith, first, second, same, mine, moved, own)

pub counts_kept : (bs : List Block) (k : ℕ) (to : To) (es : List Edges) → IsRow bs k to → to.block < length bs → CountsEdges bs es → CountsEdges (joined_at bs k to) es
counts_kept bs k to es row lt h = record {
  long = h.long ∙ sym (length-set (set bs k (joined (block_of bs k) to.with (block_of bs to.block))) to.block (idle to.block) ∙ length-set bs k (joined (block_of bs k) to.with (block_of bs to.block)));
  each = λ c. h.each c ∙ ap many_edges (sym (edges_kept bs k to row lt c));
}
