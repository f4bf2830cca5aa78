-- Blocks in a row can be joined, and are then blocks of a well formed graph again.
use Rattle.std.proofs.Common.{◌≡◌, ◌≢◌, ℕ, zero, suc, ◌+◌, ◌-◌, ◌<◌, ◌≤◌, List, [], ◌∷◌, ◌++◌, map, length, get_or, Option, Some, None, refl, sym, ◌∙◌, ap, subst, arith, length-append}
use Rattle.std.specs.Prelude.{set, sum_by, option_map, replicate}
use Rattle.std.specs.Option.{option_map_or}
use Rattle.std.proofs.lemmas.Option.{slice_get_within, same_Some}
use Rattle.std.proofs.lemmas.List.{length-map, set-set, get_or-set_other}
use Rattle.std.proofs.lemmas.List.Elements.{All-nil, All-cons}
use Rattle.std.proofs.lemmas.List.Sums.{sum_by-cons, get_or-le-sum_by}
use Rattle.el_base.specs.declared.ty.Array.{Array}
use Rattle.el_base.specs.Limits.{IsNumbered}
use Rattle.ir.specs.declared.instr.Instr.{Instr}
use Rattle.ir.specs.declared.instr.Instr.TheVariants as step
use Rattle.ir.specs.declared.graph.Block.{Block}
use Rattle.ir.specs.declared.graph.Jump.{Jump}
use Rattle.ir.specs.declared.graph.Jump.TheVariants.{Go, Two, Return}
use Rattle.ir.specs.declared.graph.To.{To}
use Rattle.ir.specs.Shapes.{Shape, IsOfWidth, StepFits, StepsFit, step_width}
use Rattle.ir.specs.Renaming.{renamed, operands}
use Rattle.ir.specs.Graphs.{Graph, IsBlock, IsJump, IsReturn, AreHanded, shape_of, no_block, block_weight}
use Rattle.block_merge.specs.declared.joining.Edges.{Edges}
use Rattle.block_merge.specs.Renamed.{block_of, moved_to}
use Rattle.block_merge.specs.Joined.{values_of, joined, idle, joined_at, next_in_row, row_joined, rows_joined, all_joined}
use Rattle.block_merge.specs.Merged.{with_blocks}
use Rattle.block_merge.specs.Shares.{MergeShare}
use Rattle.block_merge.specs.Moves.{IsMovable, AreMovable, StepsAreMovable, JumpIsMovable}
use Rattle.block_merge.specs.declared.joining.Edges.TheVariants.{Zero}
use Rattle.block_merge.specs.Edges.{counted_all, CountsEdges}
use Rattle.block_merge.specs.Parts.{AreBlocks, given_on, CanBeJoined, TakesIn}
use Rattle.block_merge.specs.declared.moving.Numbers.{Numbers}
use Rattle.block_merge.proofs.JoinedValues.{shape_long, somes_long, widths, handed_long}
use Rattle.block_merge.proofs.JoinedRuns.{is_c, hand}
use Rattle.block_merge.proofs.OrderLemmas.{same_default}
use Rattle.block_merge.proofs.Rows.{IsRow, is_row}
use Rattle.block_merge.proofs.JoinedFits as row
use Rattle.block_merge.proofs.Passes.{join_keeps}
use Rattle.block_merge.proofs.EdgeLemmas.{counts_kept, edges_counted}

-- ---- all can be numbered

pub length_in_size : (bs : List Block) → length bs ≤ sum_by block_weight bs
length_in_size [] = omega arith
length_in_size (b ∷ bs) = let i = length_in_size bs in let e = sum_by-cons block_weight b bs in omega (arith, i, e)

-- operands are of values before them
movable : (ns : Numbers) (arrays : List Array) (ws : Shape) (a w m : ℕ) → IsOfWidth ws a w → length ws ≤ length ns.args + m → IsNumbered (ns.steps + m) → IsMovable ns a
movable ns arrays ws a w m h le few = let l = slice_get_within ws a (Some w) h in omega (arith, l, le, few)

module _ (ns : Numbers) (arrays : List Array) (m : ℕ) (few : IsNumbered (ns.steps + m)) where
  one_movable : (ws : Shape) (a w : ℕ) → length ws ≤ length ns.args + m → IsOfWidth ws a w → IsMovable ns a
  one_movable ws a w le h = movable ns arrays ws a w m h le few

  step_movable : (ws : Shape) (i : Instr) → length ws ≤ length ns.args + m → StepFits arrays ws i → AreMovable ns (operands i)
  step_movable ws (step.Const w n) le h = All-nil (IsMovable ns)
  step_movable ws (step.One op a) le h = All-cons (IsMovable ns) a [] (one_movable ws a _ le h) (All-nil (IsMovable ns))
  step_movable ws (step.Two op a b) le h = All-cons (IsMovable ns) a (b ∷ []) (one_movable ws a _ le h.0) (All-cons (IsMovable ns) b [] (one_movable ws b _ le h.1) (All-nil (IsMovable ns)))
  step_movable ws (step.Select w c a b) le h =
      All-cons (IsMovable ns) c (a ∷ b ∷ []) (one_movable ws c _ le h.1)
      (All-cons (IsMovable ns) a (b ∷ []) (one_movable ws a _ le h.2) (All-cons (IsMovable ns) b [] (one_movable ws b _ le h.3) (All-nil (IsMovable ns))))
  step_movable ws (step.Load a p) le h = All-cons (IsMovable ns) p [] (one_movable ws p _ le h.2) (All-nil (IsMovable ns))
  step_movable ws (step.Store a p v) le h = All-cons (IsMovable ns) p (v ∷ []) (one_movable ws p _ le h.2) (All-cons (IsMovable ns) v [] (one_movable ws v _ le h.3) (All-nil (IsMovable ns)))

  steps_movable : (is : List Instr) (ws : Shape) → length ws + length is ≤ length ns.args + m → StepsFit arrays ws is → StepsAreMovable ns is
  steps_movable [] ws le h = All-nil (λ i. AreMovable ns (operands i))
  steps_movable (i ∷ is) ws le h =
      All-cons (λ i. AreMovable ns (operands i)) i is (step_movable ws i (omega (arith, le)) h.0)
      (steps_movable is (ws ++ step_width arrays i ∷ []) (omega (arith, le, length-append ws (step_width arrays i ∷ []))) h.1)

  hands_movable : (ws : Shape) (xs args : List ℕ) → length ws ≤ length ns.args + m → AreHanded ws xs args → AreMovable ns xs
  hands_movable ws [] [] le h = All-nil (IsMovable ns)
  hands_movable ws (x ∷ xs) (w ∷ args) le h = All-cons (IsMovable ns) x xs (one_movable ws x w le h.0) (hands_movable ws xs args le h.1)
  hands_movable ws [] (w ∷ args) le h = absurd h
  hands_movable ws (x ∷ xs) [] le h = absurd h

  jump_movable : (g : Graph) (ws : Shape) (j : Jump) → length ws ≤ length ns.args + m → IsJump g ws j → JumpIsMovable ns j
  jump_movable g ws (Go t) le h = hands_movable ws t.with h.block.args le h.handed
  jump_movable g ws (Two c x y) le h = (one_movable ws c 32 le h.0, hands_movable ws x.with h.1.block.args le h.1.handed, hands_movable ws y.with h.2.block.args le h.2.handed)
  jump_movable g ws (Return v) le h = by g.result v h
    where
      by : (r : _) (v : Option ℕ) → IsReturn r ws v → JumpIsMovable ns (Return v)
      by None None h = tt
      by (Some t) (Some v) h = one_movable ws v _ le h
      by None (Some v) h = absurd h
      by (Some t) None h = absurd h

-- ---- two blocks

-- where the values of both can be numbered
pub can_join_blocks : (g : Graph) (b c : Block) (with : List ℕ) → IsBlock g c → AreHanded (shape_of g b) with c.args → given_on b.jump ≡ with → IsNumbered (values_of b + length c.steps)
    → CanBeJoined b c
can_join_blocks g b c with c_is hand goes few =
    let ns : Numbers = record { args = given_on b.jump; steps = values_of b } in
    let n = handed_long (shape_of g b) with c.args hand in
    let m = ap length goes in
    let e = shape_long g.arrays (widths c.args) c.steps in
    record {
      few = omega (arith, few);
      steps = steps_movable ns g.arrays (length c.steps) few c.steps (widths c.args) (omega (arith, somes_long c.args, n, m)) c_is.steps;
      jump = jump_movable ns g.arrays (length c.steps) few g (shape_of g c) c.jump (omega (arith, e, somes_long c.args, n, m)) c_is.jump;
    }

-- ---- a row

module _ (bs : List Block) (k : ℕ) (to : To) (are : AreBlocks bs) (is : IsRow bs k to) where
  abbrev g : Graph
  g = with_blocks are.graph bs

  keeps : MergeShare g (with_blocks are.graph (joined_at bs k to))
  keeps = join_keeps g k to are.fine is

  pub next_within : to.block < length bs
  next_within = row.to_within g k to are.fine is

  pub blocks_kept : AreBlocks (joined_at bs k to)
  blocks_kept =
      let m = keeps in
      record { graph = are.graph; fine = m.fine; small = (let l = m.sizes.bounded in let s = are.small in omega (arith, l, s)) }

  abbrev b : Block
  b = block_of bs k

  abbrev c : Block
  c = block_of bs to.block

  -- the joined block weighs no more than all
  few_steps : IsNumbered (values_of b + length c.steps)
  few_steps =
      let js = joined_at bs k to in
      let l = row.long g k to are.fine is in
      let w = is.within in
      let h = get_or-le-sum_by block_weight js k no_block (omega (arith, l, w)) in
      let f = moved_to to.with (values_of b) in
      let e : block_weight (block_of js k) ≡ block_weight (joined b to.with c) = ap block_weight (row.at_row g k to are.fine is) in
      let s = blocks_kept.small in
      omega (arith, h, e, s, length-append b.steps (map (renamed f) c.steps), length-map c.steps (renamed f))

  goes : given_on b.jump ≡ to.with
  goes = ap given_on is.goes

  pub can_join : CanBeJoined b c
  can_join = let leads = row.leads g k to are.fine is in can_join_blocks g b c to.with (is_c g k to leads) (hand g k to leads) goes few_steps

  pub takes_in : next_in_row bs k ≡ Some to → TakesIn bs k to.block
  takes_in e = record {
    to = to;
    is_next = e;
    number = refl;
    goes = goes;
    within = is.within;
    next_within = next_within;
    other = λ x. is.other (sym x);
    few = (let l = next_within in let z = length_in_size bs in let s = are.small in omega (arith, l, z, s));
    joinable = can_join;
  }

-- ---- rows

-- the state of a row after some joins
pub record IsJoining (first : List Block) (counts : List Edges) (k n : ℕ) (bs : List Block) : Type 0 where
  pub are : AreBlocks bs
  pub counted : CountsEdges bs counts
  pub rest : row_joined n bs k ≡ row_joined (length first) first k

some_of : (o : Option To) (next : ℕ) → option_map (λ (t : To). t.block) o ≡ Some next → (to : To) × (o ≡ Some to) × (to.block ≡ next)
some_of None next e = absurd (cc)
some_of (Some to) next e = (to, refl, same_Some to.block next e)

pub joining_takes : (first bs : List Block) (counts : List Edges) (k n next : ℕ) → IsJoining first counts k n bs → Some next ≡ option_map (λ (t : To). t.block) (next_in_row bs k) → TakesIn bs k next
joining_takes first bs counts k n next h e =
    let s = some_of (next_in_row bs k) next (sym e) in
    subst (TakesIn bs k) s.2 (takes_in bs k s.0 h.are (is_row bs k s.0 s.1) s.1)

pub joining_more : (first bs new : List Block) (counts : List Edges) (k n next : ℕ) → IsJoining first counts k (suc n) bs → Some next ≡ option_map (λ (t : To). t.block) (next_in_row bs k)
    → ((to : To) → next_in_row bs k ≡ Some to → new ≡ joined_at bs k to) → IsJoining first counts k n new
joining_more first bs new counts k n next h e is =
    let s = some_of (next_in_row bs k) next (sym e) in
    let to = s.0 in
    let r = is_row bs k to s.1 in
    let same = is to s.1 in
    let step : row_joined (suc n) bs k ≡ row_joined n (joined_at bs k to) k = ap (λ o. option_map_or (λ (t : To). row_joined n (joined_at bs k t) k) o bs) s.1 in
    subst (IsJoining first counts k n) (sym same) (record {
      are = blocks_kept bs k to h.are r;
      counted = counts_kept bs k to counts r (next_within bs k to h.are r) h.counted;
      rest = sym step ∙ h.rest;
    })

none_of : (o : Option To) → option_map (λ (t : To). t.block) o ≡ None → o ≡ None
none_of None e = refl
none_of (Some to) e = absurd (cc)

pub joining_done : (first bs : List Block) (counts : List Edges) (k n : ℕ) → IsJoining first counts k n bs → None ≡ option_map (λ (t : To). t.block) (next_in_row bs k) → bs ≡ row_joined (length first) first k
joining_done first bs counts k zero h e = h.rest
joining_done first bs counts k (suc n) h e =
    let step : row_joined (suc n) bs k ≡ bs = ap (λ o. option_map_or (λ (t : To). row_joined n (joined_at bs k t) k) o bs) (none_of (next_in_row bs k) (sym e)) in
    sym step ∙ h.rest

pub joining_starts : (bs : List Block) (counts : List Edges) (k : ℕ) → AreBlocks bs → CountsEdges bs counts → IsJoining bs counts k (length bs) bs
joining_starts bs counts k a c = record { are = a; counted = c; rest = refl }

-- ---- what a row keeps

pub record RowKeeps (bs new : List Block) (counts : List Edges) : Type 0 where
  pub are : AreBlocks new
  pub counted : CountsEdges new counts

pub row_keeps_blocks : (n : ℕ) (bs : List Block) (k : ℕ) (counts : List Edges) → AreBlocks bs → CountsEdges bs counts → RowKeeps bs (row_joined n bs k) counts
row_keeps_blocks zero bs k counts a c = record { are = a; counted = c }
row_keeps_blocks (suc n) bs k counts a c = by (next_in_row bs k) refl (λ js h d. row_keeps_blocks n js k counts h d)
  where
    by : (o : Option To) → next_in_row bs k ≡ o → ((js : List Block) → AreBlocks js → CountsEdges js counts → RowKeeps js (row_joined n js k) counts)
        → RowKeeps bs (option_map_or (λ to. row_joined n (joined_at bs k to) k) o bs) counts
    by None e rest = record { are = a; counted = c }
    by (Some to) e rest =
        let r = is_row bs k to e in
        let x = rest (joined_at bs k to) (blocks_kept bs k to a r) (counts_kept bs k to counts r (next_within bs k to a r) c) in
        record { are = x.are; counted = x.counted }

-- the state after the rows of some blocks
pub record AreJoining (first : List Block) (counts : List Edges) (k m : ℕ) (bs : List Block) : Type 0 where
  pub are : AreBlocks bs
  pub counted : CountsEdges bs counts
  pub rest : rows_joined m bs k ≡ all_joined first

pub rows_more : (first bs new : List Block) (counts : List Edges) (k m : ℕ) → AreJoining first counts k (suc m) bs → new ≡ row_joined (length bs) bs k → AreJoining first counts (suc k) m new
rows_more first bs new counts k m h e =
    let r = row_keeps_blocks (length bs) bs k counts h.are h.counted in
    subst (AreJoining first counts (suc k) m) (sym e) (record { are = r.are; counted = r.counted; rest = h.rest })

-- ---- as the code has it

pub take_in_made : (bs one slice two three : List Block) (k next : ℕ) (other taken block done last : Block) → TakesIn bs k next → block ≡ block_of bs k → one ≡ set bs k other → slice ≡ one → taken ≡ get_or slice next taken
    → done ≡ joined block (given_on block.jump) taken → two ≡ set one k done → last ≡ idle next → three ≡ set two next last
    → (to : To) → next_in_row bs k ≡ Some to → three ≡ joined_at bs k to
take_in_made bs one slice two three k next other taken block done last t e_block e_one e_slice e_taken e_done e_two e_last e_three to is =
    let same : t.to ≡ to = same_Some t.to to (sym t.is_next ∙ is) in
    let other_place : next ≢ k = λ x. t.other (sym x) in
    let lt : next < length bs = t.next_within in
    let mine : taken ≡ block_of bs next =
    e_taken ∙ ap (λ (l : List Block). get_or l next taken) (e_slice ∙ e_one) ∙ get_or-set_other bs k next other taken other_place ∙ same_default bs next taken no_block lt in
    let d : done ≡ joined (block_of bs k) t.to.with (block_of bs next) =
    e_done ∙ ap (λ (x : Block). joined x (given_on x.jump) taken) e_block ∙ ap (λ (y : Block). joined (block_of bs k) (given_on (block_of bs k).jump) y) mine ∙ ap (λ w. joined (block_of bs k) w (block_of bs next)) t.goes in
    let both : two ≡ set bs k done = e_two ∙ ap (λ (l : List Block). set l k done) e_one ∙ set-set bs k other done in
    let end : three ≡ set (set bs k done) next (idle next) = e_three ∙ ap (λ (l : List Block). set l next last) both ∙ ap (set (set bs k done) next) e_last in
    let four : set (set bs k (joined (block_of bs k) t.to.with (block_of bs next))) next (idle next) ≡ joined_at bs k t.to = ap (λ n. set (set bs k (joined (block_of bs k) t.to.with (block_of bs n))) n (idle n)) (sym t.number) in
    end ∙ ap (λ x. set (set bs k x) next (idle next)) d ∙ four ∙ ap (joined_at bs k) same

abbrev next_number : List Block → ℕ → Option ℕ
next_number bs k = option_map (λ (t : To). t.block) (next_in_row bs k)

pub row_takes : (first bs slice : List Block) (counts : List Edges) (k n next : ℕ) → IsJoining first counts k n bs → slice ≡ bs → Some next ≡ next_number slice k → TakesIn bs k next
row_takes first bs slice counts k n next h s e = joining_takes first bs counts k n next h (e ∙ ap (λ l. next_number l k) s)

pub row_more : (first bs slice new : List Block) (counts : List Edges) (k n i next : ℕ) → i < n → IsJoining first counts k (n - i) bs → slice ≡ bs → Some next ≡ next_number slice k
    → ((to : To) → next_in_row bs k ≡ Some to → new ≡ joined_at bs k to) → IsJoining first counts k (n - (i + 1)) new
row_more first bs slice new counts k n i next lt h s e is =
    let m : n - i ≡ suc (n - (i + 1)) = omega (arith, lt) in
    joining_more first bs new counts k (n - (i + 1)) next (subst (λ x. IsJoining first counts k x bs) m h) (e ∙ ap (λ l. next_number l k) s) is

pub row_done : (first bs slice : List Block) (counts : List Edges) (k n : ℕ) → IsJoining first counts k n bs → slice ≡ bs → None ≡ next_number slice k → bs ≡ row_joined (length first) first k
row_done first bs slice counts k n h s e = joining_done first bs counts k n h (e ∙ ap (λ l. next_number l k) s)

pub rows_start : (bs slice : List Block) (es : List Edges) (m : ℕ) → AreBlocks bs → slice ≡ bs → es ≡ counted_all (replicate (length slice) Zero) slice → m ≡ length bs → AreJoining bs es 0 (m - 0) bs
rows_start bs slice es m a s e l = record {
  are = a;
  counted = edges_counted bs es a (e ∙ ap (λ x. counted_all (replicate (length x) Zero) x) s);
  rest = (let k : m - 0 ≡ length bs = omega (arith, l) in ap (λ n. rows_joined n bs 0) k);
}

pub next_row : (first bs new : List Block) (es : List Edges) (n i : ℕ) → i < n → AreJoining first es i (n - i) bs → new ≡ row_joined (length bs) bs i → AreJoining first es (i + 1) (n - (i + 1)) new
next_row first bs new es n i lt h e =
    let m : n - i ≡ suc (n - (i + 1)) = omega (arith, lt) in
    let k : suc i ≡ i + 1 = omega arith in
    subst (λ x. AreJoining first es x (n - (i + 1)) new) k (rows_more first bs new es i (n - (i + 1)) (subst (λ x. AreJoining first es i x bs) m h) e)
