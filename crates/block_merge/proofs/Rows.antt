-- A block in a row: no edge leads to it but that of the block before it.
use Rattle.std.proofs.Common.{◌≡◌, ◌≢◌, ℕ, ◌+◌, ◌<◌, ◌==◌, ◌&&◌, not, Bool, true, false, cond, List, length, Some, None, refl, sym, ◌∙◌, ap, subst, arith, inl, inr}
use Rattle.std.specs.Prelude.{set, sum_by}
use Rattle.std.proofs.lemmas.Bool.{cases_lt, eqb-true, eq-eqb}
use Rattle.std.proofs.lemmas.Option.{same_Some}
use Rattle.std.proofs.lemmas.List.{get_or_past, get_or-set_other, length-set}
use Rattle.std.proofs.lemmas.List.Sums.{sum_by-set}
use Rattle.ir.specs.declared.graph.Block.{Block}
use Rattle.ir.specs.declared.graph.Jump.{Jump}
use Rattle.ir.specs.declared.graph.Jump.TheVariants.{Go, Two, Return}
use Rattle.ir.specs.declared.graph.To.{To}
use Rattle.ir.specs.Graphs.{no_block}
use Rattle.block_merge.specs.Renamed.{block_of, renamed_jump}
use Rattle.block_merge.specs.Joined.{edge_to, edges_of, edges_to, row_of_jump, next_in_row}
use Rattle.block_merge.proofs.ListedRuns.{LeadsTo}

-- block k leads to the next one of its row
pub record IsRow (bs : List Block) (k : ℕ) (to : To) : Type 0 where
  pub within : k < length bs
  pub goes : (block_of bs k).jump ≡ Go to
  pub other : to.block ≢ k
  pub alone : edges_to bs to.block ≡ 1

pub record IsRowJump (bs : List Block) (k : ℕ) (j : Jump) (to : To) : Type 0 where
  pub goes : j ≡ Go to
  pub other : to.block ≢ k
  pub alone : edges_to bs to.block ≡ 1

row_jump : (bs : List Block) (k : ℕ) (j : Jump) (to : To) → row_of_jump bs k j ≡ Some to → IsRowJump bs k j to
row_jump bs k (Go t) to e = by (t.block == k) (edges_to bs t.block == 1) refl refl e
  where
    by : (a b : Bool) → (t.block == k) ≡ a → (edges_to bs t.block == 1) ≡ b → cond (not a && b) (Some t) None ≡ Some to → IsRowJump bs k (Go t) to
    by false true p q e =
        let s : t ≡ to = same_Some t to e in
        record {
          goes = ap Go s;
          other = λ is. (let u : (t.block == k) ≡ true = eq-eqb t.block k (ap (λ (x : To). x.block) s ∙ is) in let v : false ≡ true = sym p ∙ u in absurd (cc));
          alone = subst (λ (x : To). edges_to bs x.block ≡ 1) s (eqb-true (edges_to bs t.block) 1 q);
        }
    by true true p q e = absurd (cc)
    by true false p q e = absurd (cc)
    by false false p q e = absurd (cc)
row_jump bs k (Two c a b) to e = absurd (cc)
row_jump bs k (Return v) to e = absurd (cc)

-- a jump that leads somewhere is of a block that there is
pub jump_within : (bs : List Block) (k : ℕ) (to : To) → (block_of bs k).jump ≡ Go to → k < length bs
jump_within bs k to e = elim (cases_lt k (length bs)) [
  | inl lt ↦ lt
  | inr ge ↦ absurd (let n : Return None ≡ Go to = sym (ap (λ (b : Block). b.jump) (get_or_past bs k no_block ge)) ∙ e in cc)
]

pub is_row : (bs : List Block) (k : ℕ) (to : To) → next_in_row bs k ≡ Some to → IsRow bs k to
is_row bs k to e =
    let r = row_jump bs k (block_of bs k).jump to e in
    record { within = jump_within bs k to r.goes; goes = r.goes; other = r.other; alone = r.alone }

-- ---- no other edge

abbrev edges : ℕ → Block → ℕ
edges c b = edges_of c b.jump

one_edge : (t : To) → edge_to t.block t ≡ 1
one_edge t = ap (λ b. cond b 1 0) (eq-eqb t.block t.block refl)

pub no_other_edge : (bs : List Block) (k : ℕ) (to : To) → IsRow bs k to → (n : ℕ) → n ≢ k → edges_of to.block (block_of bs n).jump ≡ 0
no_other_edge bs k to row n ne = elim (cases_lt n (length bs)) [
  | inr ge ↦ ap (λ (b : Block). edges_of to.block b.jump) (get_or_past bs n no_block ge)
  | inl lt ↦
      let c = to.block in
      let without = set bs k no_block in
      let mine : edges c (block_of bs k) ≡ 1 = ap (edges_of c) row.goes ∙ one_edge to in
      let first : sum_by (edges c) without + edges c (block_of bs k) ≡ sum_by (edges c) bs + 0 = sum_by-set (edges c) bs k no_block no_block row.within in
      let all : sum_by (edges c) bs ≡ 1 = row.alone in
      let zero_left : sum_by (edges c) without ≡ 0 = omega (arith, mine, first, all) in
      let same : block_of without n ≡ block_of bs n = get_or-set_other bs k n no_block no_block ne in
      let second : sum_by (edges c) (set without n no_block) + edges c (block_of without n) ≡ sum_by (edges c) without + 0 = sum_by-set (edges c) without n no_block no_block (omega (arith, lt, length-set bs k no_block)) in
      let it : edges c (block_of without n) ≡ edges c (block_of bs n) = ap (edges c) same in
      omega (arith, second, zero_left, it)
]

not_to : (c : ℕ) (t : To) → edge_to c t ≡ 0 → t.block ≢ c
not_to c t h is = let e : edge_to c t ≡ 1 = ap (λ b. cond b 1 0) (eq-eqb t.block c is) in absurd (omega (arith, e, h))

-- a jump without an edge to a block leads elsewhere
pub leads_elsewhere : (c : ℕ) (j : Jump) → edges_of c j ≡ 0 → LeadsTo (λ m. m ≢ c) j
leads_elsewhere c (Go t) h = not_to c t h
leads_elsewhere c (Two v a b) h = (not_to c a (omega (arith, h)), not_to c b (omega (arith, h)))
leads_elsewhere c (Return v) h = tt

pub renamed_leads : (P : ℕ → Type 0) (f : ℕ → ℕ) (j : Jump) → LeadsTo P j → LeadsTo P (renamed_jump f j)
renamed_leads P f (Go t) h = h
renamed_leads P f (Two v a b) h = h
renamed_leads P f (Return v) h = tt
