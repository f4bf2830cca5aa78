-- The whole net is in balance: nothing is open and nothing waits.
use Rattle.std.proofs.Common.{◌≡◌, ℕ, zero, suc, ◌+◌, ◌*◌, ◌<◌, ◌≤◌, ◌^◌, List, [], ◌∷◌, ◌++◌, length, get_or, set, map, Bool, true, false, Option, Some, None, refl, sym, ap, ◌∙◌, subst, inl, inr, arith, length-append}
use Rattle.std.specs.Prelude.{All, slice_get, sum_by}
use Rattle.std.proofs.lemmas.Bool.{cases_eq, cases_lt, false≢true}
use Rattle.std.proofs.lemmas.List.{length-set, length-map, get_or-set_same, get_or-set_other}
use Rattle.std.proofs.lemmas.List.Elements.{All-nil, All-cons}
use Rattle.std.proofs.lemmas.List.Sums.{sum_by-cons}
use Rattle.std.proofs.lemmas.Option.{slice_get_within, slice_get-get_or, get_or_from_slice_get}
use Rattle.el_base.specs.declared.ty.Ty.{Ty}
use Rattle.el_base.specs.declared.ty.Ty.TheVariants.{I8, U8, I16, U16, I32, U32, I64, U64}
use Rattle.el_base.specs.Widths.{ty_width}
use Rattle.ir.specs.declared.graph.Block.{Block}
use Rattle.ir.specs.declared.graph.Jump.{Jump}
use Rattle.ir.specs.declared.graph.Jump.TheVariants.{Go, Two, Return}
use Rattle.ir.specs.declared.groups.Groups.{Groups}
use Rattle.ir.specs.Accesses.{GroupsShare, IsStoredTo}
use Rattle.ir.specs.declared.instr.Instr.{Instr}
use Rattle.ir.specs.declared.instr.Instr.TheVariants as step
use Rattle.ir.specs.Shapes.{Shape, IsWidth, StepFits, StepsFit, step_width}
use Rattle.el_base.specs.declared.ty.Array.{Array}
use Rattle.ir.specs.Graphs.{Graph, IsGraph, IsBlock, size, block_weight, handed_on}
use Rattle.net_types.specs.declared.net.Unit.{Unit as Kind}
use Rattle.net_types.specs.declared.net.Unit.TheVariants.{Const, Select, Fork, Exit}
use Rattle.net_types.specs.Nets.{at}
use Rattle.net_types.specs.Tables.{array_width, ins, outs}
use Rattle.circuit_build.specs.declared.draft.Draft.{Draft}
use Rattle.circuit_build.specs.declared.draft.Edge.{Edge}
use Rattle.circuit_build.specs.Drafts.{number, plus, with_unit}
use Rattle.circuit_build.specs.Steps.{queue_of}
use Rattle.circuit_build.specs.Uses.{zeros}
use Rattle.circuit_build.specs.Blocks.{ins_of, head_laid}
use Rattle.circuit_build.specs.Edges.{raised, sides_counted, jumps_counted, edge_counts}
use Rattle.circuit_build.specs.Endings.{result_widths, ones, feeders_laid}
use Rattle.circuit_build.specs.Fronts.{started, param_ends, entered, ports_of, groups_from}
use Rattle.circuit_build.specs.Built.{join_of, front_of, with_blocks, with_join, with_feeders, whole_draft, built}
use Rattle.circuit_build.proofs.CountBooks.{Weight, row, outs_of as out_sum, ins_of as in_sum, Books, moved}
use Rattle.circuit_build.specs.Ports.{PortsOfNetsAgree}
use Rattle.circuit_build.proofs.CountRules.{Closed, keeps_c1, keeps_c2, keeps_c5}
use Rattle.circuit_build.proofs.CountQueues.{queues_in, queues_out}
use Rattle.circuit_build.proofs.CountSteps.{edges, hsum, groups_in, owe_of, rest_of, StoredIf, AllStored}
use Rattle.circuit_build.proofs.CountJumps.{widths, Between}
use Rattle.circuit_build.proofs.Targets.{one_if, occurs, tops_of, top_at, top_last}
use Rattle.circuit_build.proofs.CountKept.{heading, waits, Kept, kept_as, adds}
use Rattle.circuit_build.proofs.CountHeads.{head_within, all_get}
use Rattle.circuit_build.proofs.CountBlocks.{jump_edges, all_edges, blocks_ports, all_after, handed_all, Roomy, blocks_between}
use Rattle.circuit_build.proofs.CountStored.{groups_some, queue_owned}
use Rattle.circuit_build.proofs.Keeps as keeps
use Rattle.circuit_build.proofs.Keeps.{Laid}
pub use Rattle.circuit_build.proofs.Remains.{one_most, zeros_length, zeros_at}
use Rattle.circuit_build.proofs.CountAccess.{groups_length, few_groups, no_groups, some_if, all_ports, none_after, blocks_most}
use Rattle.circuit_build.proofs.CountFronts.{entered_books, params_widths, Fronted, Suits, queues_fronted, queues_same}
use Rattle.circuit_build.proofs.CountEndings.{Standing, ended_standing, fed_one, fed_max, fed_other, if_between, feeders, feeders_between, feeders_after, feeders_at}
use Rattle.circuit_build.proofs.CountEdges.{hsum_same, one_own, one_other, edges_books}

-- ---- counts of edges

pub raised_is : (u t : ℕ) (table : List ℕ) → t < length table → get_or table t 0 + 1 < 2 ^ 32 → get_or (raised u table) t 0 ≡ get_or table t 0 + one_if u t
raised_is u t table l few = elim (cases_eq t u) [
  | inl e ↦ (let x = get_or-set_same table t (plus (get_or table t 0) 1) 0 l in let y = ap (λ n. get_or (raised n table) t 0) e in let z = ap (λ n. one_if n t) e in let o = one_own t in omega (arith, x, y, z, o, few))
  | inr n ↦ (let x = get_or-set_other table u t (plus (get_or table u 0) 1) 0 n in let o = one_other u t n in omega (arith, x, o))
]

pub raised_length : (u : ℕ) (table : List ℕ) → length (raised u table) ≡ length table
raised_length u table = length-set table u (plus (get_or table u 0) 1)

sides_are : (join : ℕ) (j : Jump) (t : ℕ) (table : List ℕ) → t < length table → get_or table t 0 + 2 < 2 ^ 32 → get_or (sides_counted join j table) t 0 ≡ get_or table t 0 + jump_edges join j t
sides_are join (Go to) t table l few = raised_is to.block t table l (omega arith)
sides_are join (Two c a b) t table l few =
    let x = raised_is a.block t table l (omega arith) in
    let m = one_most a.block t in
    let y = raised_is b.block t (raised a.block table) (let z = raised_length a.block table in omega (arith, z, l)) (omega (arith, x, m, few)) in
    omega (arith, x, y)
sides_are join (Return v) t table l few = raised_is join t table l (omega arith)

sides_length : (join : ℕ) (j : Jump) (table : List ℕ) → length (sides_counted join j table) ≡ length table
sides_length join (Go to) table = raised_length to.block table
sides_length join (Two c a b) table = raised_length b.block (raised a.block table) ∙ raised_length a.block table
sides_length join (Return v) table = raised_length join table

jump_most : (join : ℕ) (j : Jump) (t : ℕ) → jump_edges join j t ≤ 2
jump_most join (Go to) t = let x = one_most to.block t in omega (arith, x)
jump_most join (Two c a b) t = let x = one_most a.block t in let y = one_most b.block t in omega (arith, x, y)
jump_most join (Return v) t = let x = one_most join t in omega (arith, x)

edges_most : (join : ℕ) (ks : List Block) (t : ℕ) → all_edges join ks t ≤ 2 * length ks
edges_most join [] t = omega arith
edges_most join (k ∷ ks) t = let x = jump_most join k.jump t in let y = edges_most join ks t in omega (arith, x, y)

jumps_are : (join : ℕ) (ks : List Block) (t : ℕ) (table : List ℕ) → t < length table → get_or table t 0 + 2 * length ks < 2 ^ 32 → get_or (jumps_counted join ks table) t 0 ≡ get_or table t 0 + all_edges join ks t
jumps_are join [] t table l few = omega arith
jumps_are join (k ∷ ks) t table l few =
    let x = sides_are join k.jump t table l (omega arith) in
    let m = jump_most join k.jump t in
    let y = jumps_are join ks t (sides_counted join k.jump table) (let z = sides_length join k.jump table in omega (arith, z, l)) (omega (arith, x, m, few)) in
    omega (arith, x, y)

-- ---- where a list of blocks is short

first_less : (ks : List Block) (k : Block) → slice_get ks 0 ≡ Some k → length k.args < sum_by block_weight ks
first_less [] k e = absurd (cc)
first_less (x ∷ ks) k e = let z : x ≡ k = cc in let y = sum_by-cons block_weight x ks in let v = ap (λ (b : Block). length b.args) z in omega (arith, y, v)

result_fits : (r : Option Ty) → ((t : Ty) → IsWidth (ty_width t)) → All IsWidth (result_widths r)
result_fits None h = All-nil IsWidth
result_fits (Some t) h = All-cons IsWidth (ty_width t) [] (h t) (All-nil IsWidth)

-- rows read the header alone
outs_header : (g : Graph) (gs : Groups) (m : Bool) (k : Kind) → outs (heading g) m k ≡ outs (built g gs) m k
outs_header g gs m (Fork w zero) = refl
outs_header g gs m (Fork w (suc o)) = refl
outs_header g gs m _ = refl

ins_header : (g : Graph) (gs : Groups) (m : Bool) (k : Kind) → ins (heading g) m k ≡ ins (built g gs) m k
ins_header g gs m Exit = refl
ins_header g gs m _ = refl

outs_all : (g : Graph) (gs : Groups) (f : Weight) (n : ℕ) (ks : List Kind) (ms : List Bool) → out_sum (heading g) f n ks ms ≡ out_sum (built g gs) f n ks ms
outs_all g gs f n [] ms = refl
outs_all g gs f n (k ∷ ks) [] = refl
outs_all g gs f n (k ∷ ks) (m ∷ ms) = ap (λ ss. row f (number n) ss + out_sum (heading g) f (suc n) ks ms) (outs_header g gs m k) ∙ ap (λ x. row f (number n) (outs (built g gs) m k) + x) (outs_all g gs f (suc n) ks ms)

ins_all : (g : Graph) (gs : Groups) (f : Weight) (n : ℕ) (ks : List Kind) (ms : List Bool) → in_sum (heading g) f n ks ms ≡ in_sum (built g gs) f n ks ms
ins_all g gs f n [] ms = refl
ins_all g gs f n (k ∷ ks) [] = refl
ins_all g gs f n (k ∷ ks) (m ∷ ms) = ap (λ ss. row f (number n) ss + in_sum (heading g) f (suc n) ks ms) (ins_header g gs m k) ∙ ap (λ x. row f (number n) (ins (built g gs) m k) + x) (ins_all g gs f (suc n) ks ms)

headed : (g : Graph) (gs : Groups) → Books (heading g) (whole_draft g gs).units (whole_draft g gs).chans (λ f. 0) (λ f. 0) → Closed (built g gs)
headed g gs b = record {
  marks = b.marks;
  same = b.same;
  out = λ f. b.out f ∙ outs_all g gs f 0 (whole_draft g gs).units b.marks;
  into = λ f. b.into f ∙ ins_all g gs f 0 (whole_draft g gs).units b.marks;
  fit = b.fit;
}

-- ---- the sections one after another

width_ty : (t : Ty) → IsWidth (ty_width t)
width_ty I8 = inl refl
width_ty U8 = inl refl
width_ty I16 = inr (inl refl)
width_ty U16 = inr (inl refl)
width_ty I32 = inr (inr (inl refl))
width_ty U32 = inr (inr (inl refl))
width_ty I64 = inr (inr (inr refl))
width_ty U64 = inr (inr (inr refl))

-- ---- blocks of a small graph

all_on : (j : Jump) → handed_all j ≤ handed_on j + 1
all_on (Go to) = omega arith
all_on (Two c a b) = omega arith
all_on (Return v) = omega arith

pub blocks_roomy : (ks : List Block) → sum_by block_weight ks ≤ 8000000 → All Roomy ks
blocks_roomy [] h = All-nil Roomy
blocks_roomy (k ∷ ks) h = let s = sum_by-cons block_weight k ks in let a = all_on k.jump in All-cons Roomy k ks (omega (arith, s, a, h)) (blocks_roomy ks (omega (arith, s, h)))

args_roomy : (ks : List Block) → sum_by block_weight ks ≤ 8000000 → All (λ (k : Block). length k.args + 4 < 2 ^ 32) ks
args_roomy [] h = All-nil (λ (k : Block). length k.args + 4 < 2 ^ 32)
args_roomy (k ∷ ks) h = let s = sum_by-cons block_weight k ks in All-cons (λ (k : Block). length k.args + 4 < 2 ^ 32) k ks (omega (arith, s, h)) (args_roomy ks (omega (arith, s, h)))

-- the arrays that the steps store to
pub steps_stored : (g : Graph) (n : ℕ) (k : Block) → slice_get g.blocks n ≡ Some k → (is : List Instr) (m : ℕ) → ((i : ℕ) (s : Instr) → slice_get is i ≡ Some s → slice_get k.steps (m + i) ≡ Some s) → AllStored (IsStoredTo g) is
steps_stored g n k e [] m h = tt
steps_stored g n k e (s ∷ is) m h =
    (by s (ap (λ j. slice_get k.steps j) (let z : m ≡ m + 0 = omega arith in z) ∙ h 0 s refl), steps_stored g n k e is (m + 1) (λ i t x. ap (λ j. slice_get k.steps j) (let z : m + 1 + i ≡ m + suc i = omega arith in z) ∙ h (suc i) t x))
  where
    by : (s : Instr) → slice_get k.steps m ≡ Some s → StoredIf (IsStoredTo g) s
    by (step.Const w v) x = tt
    by (step.One op a) x = tt
    by (step.Two op a b) x = tt
    by (step.Select w c a b) x = tt
    by (step.Load a p) x = tt
    by (step.Store a p v) x = record { number = n; block = k; is_block = e; place = m; addr = p; value = v; is_step = x }

blocks_stored : (g : Graph) (ks : List Block) (b : ℕ) → ((i : ℕ) (k : Block) → slice_get ks i ≡ Some k → slice_get g.blocks (b + i) ≡ Some k) → All (λ (k : Block). AllStored (IsStoredTo g) k.steps) ks
blocks_stored g [] b h = All-nil (λ (k : Block). AllStored (IsStoredTo g) k.steps)
blocks_stored g (k ∷ ks) b h =
    All-cons (λ (k : Block). AllStored (IsStoredTo g) k.steps) k ks (steps_stored g (b + 0) k (h 0 k refl) k.steps 0 (λ i s e. ap (λ j. slice_get k.steps j) (let z : 0 + i ≡ i = omega arith in z) ∙ e))
    (blocks_stored g ks (b + 1) (λ i q e. ap (λ n. slice_get g.blocks n) (let z : b + 1 + i ≡ b + suc i = omega arith in z) ∙ h (suc i) q e))

-- an array that a step stores to is one
array_is : (arrays : List Array) (ws : Shape) (is : List Instr) (m a p v : ℕ) → StepsFit arrays ws is → slice_get is m ≡ Some (step.Store a p v) → a < length arrays
array_is arrays ws [] m a p v h e = absurd (cc)
array_is arrays ws (i ∷ is) zero a p v (x, y) e =
    let z : i ≡ step.Store a p v = cc in
    let f = subst (StepFits arrays ws) z x in
    slice_get_within arrays a f.1.0 f.1.1
array_is arrays ws (i ∷ is) (suc m) a p v (x, y) e = array_is arrays (ws ++ step_width arrays i ∷ []) is m a p v y e

ones_most : (ws : List ℕ) (v : ℕ) → get_or (ones ws) v 0 < 2 ^ 32
ones_most [] v = omega arith
ones_most (w ∷ ws) zero = omega arith
ones_most (w ∷ ws) (suc v) = ones_most ws v

occurs_most : (t : ℕ) (es : List Edge) → occurs t es ≤ length es
occurs_most t [] = omega arith
occurs_most t (e ∷ es) = let a = one_most e.to t in let b = occurs_most t es in omega (arith, a, b)

result_few : (r : Option Ty) → length (result_widths r) + 4 < 2 ^ 32
result_few None = omega arith
result_few (Some t) = omega arith

-- some unit stands
any : Laid (λ k. Unit {0}) keeps.Free keeps.Free
any = record { const = λ w n. tt; op1 = λ op. tt; op2 = λ op. tt; select = λ w. tt; fork1 = λ w. tt; forks = λ w n s o. tt; mux = λ w n i. tt; merge = λ n i. tt; branch = λ w. tt; sink = λ w. tt }

pub front_some : (g : Graph) (gs : Groups) → 0 < length (front_of g gs).units
front_some g gs =
    let I : Draft → Type 0 = λ d. 0 < length d.units in
    let U : (k : Kind) (d : Draft) → Unit {0} → I d → I (with_unit k d) = λ k d e h. let l = length-append d.units (k ∷ []) in omega (arith, l) in
    let e = keeps.entered_keeps I (λ k. Unit {0}) keeps.Free keeps.Free any U (λ p q w c d h. h) (λ d e u c h. let l = ap length u in omega (arith, l, h)) (λ j. tt) g.scalars (started (length g.blocks + 1)) (omega arith) in
    keeps.front_keeps I (λ k. Unit {0}) keeps.Free keeps.Free any U (λ p q w c d h. h) (λ d e u c h. let l = ap length u in omega (arith, l, h)) (λ a m ps qs. tt) g gs e

pub feeders_some : (g : Graph) (gs : Groups) → 0 < length (with_feeders g gs).units
feeders_some g gs =
    let I : Draft → Type 0 = λ d. 0 < length d.units in
    let U : (k : Kind) (d : Draft) → Unit {0} → I d → I (with_unit k d) = λ k d e h. let l = length-append d.units (k ∷ []) in omega (arith, l) in
    let b = keeps.blocks_of_keep I (λ k. Unit {0}) keeps.Free keeps.Free any U (λ p q w c d h. h) (λ d e u c h. let l = ap length u in omega (arith, l, h)) (λ a. tt) g gs (λ t. tt) (keeps.free g.blocks) (front_some g gs) in
    keeps.feeders_of_keep I (λ k. Unit {0}) keeps.Free keeps.Free any U (λ p q w c d h. h) (λ d e u c h. let l = ap length u in omega (arith, l, h)) g gs (keeps.free g.blocks) keeps.free_few b

-- what waits of each head before any edge is laid
abbrev pub waiting_of : Graph → Weight → ℕ → ℕ → ℕ
waiting_of g f t h = waits f h (get_or (tops_of g) t []) 0 (ins_of (edge_counts g.blocks) t)

-- the edges of the entry and of the jumps to each target
abbrev pub jumps_to : Graph → ℕ → ℕ
jumps_to g t = one_if 0 t + all_edges (join_of g) g.blocks t

-- and of the feeders
abbrev pub edges_to : Graph → ℕ → ℕ
edges_to g t = jumps_to g t + feeders (edge_counts g.blocks) 0 g.blocks t + fed_one (get_or (edge_counts g.blocks) (join_of g) 0) (join_of g) t

module _ (g : Graph) (gs : Groups) (fine : IsGraph g) (share : GroupsShare g gs) (small : size g ≤ 8000000) (few : length g.arrays < 2 ^ 32) where
  abbrev K : Weight → ℕ → ℕ → ℕ
  K = waiting_of g

  abbrev G : ℕ → ℕ
  G a = groups_in a gs.of

  abbrev C : ℕ → ℕ
  C = jumps_to g

  abbrev D : ℕ → ℕ
  D = edges_to g

  pub blocks_few : length g.blocks ≤ 8000000
  blocks_few = let x = blocks_most 0 g.blocks in omega (arith, x, small)

  pub is_join : join_of g ≡ length g.blocks
  is_join = let x = blocks_few in omega (arith, x)

  scalars_few : length g.scalars < 2 ^ 32
  scalars_few =
      let x = first_less g.blocks fine.entry fine.first in
      let y = ap length fine.scalars in
      let z = length-map g.scalars (λ s. ty_width s.ty) in
      omega (arith, x, y, z, small)

  pub suits : (b : ℕ) → 0 < length (groups_from b 0 gs.of) → Suits (blocks_ports g.blocks) G b (ports_of b g.blocks gs.of) (groups_from b 0 gs.of)
  suits b some = by (slice_get gs.read_only b) refl
    where
      none : some_if (slice_get gs.read_only b) ≡ 0 → Suits (blocks_ports g.blocks) G b (ports_of b g.blocks gs.of) (groups_from b 0 gs.of)
      none e =
          let x = no_groups b gs.read_only 0 g.blocks e in
          let y = ap (λ xs. groups_in b xs) share.accesses in
          let z = groups_length b 0 gs.of in
          absurd (omega (arith, x, y, z, some))

      by : (o : Option Bool) → slice_get gs.read_only b ≡ o → Suits (blocks_ports g.blocks) G b (ports_of b g.blocks gs.of) (groups_from b 0 gs.of)
      by None e = none (ap some_if e)
      by (Some true) e = none (ap some_if e)
      by (Some false) e =
          let p : blocks_ports g.blocks b ≡ ports_of b g.blocks gs.of = sym (ap (λ xs. ports_of b g.blocks xs) share.accesses ∙ all_ports b g.blocks gs.read_only 0 g.blocks e (λ i. ap (λ n. slice_get g.blocks n) (let z : 0 + i ≡ i = omega arith in z))) in
          let x = few_groups b gs.read_only 0 g.blocks in
          let y = ap (λ xs. groups_in b xs) share.accesses in
          let z = groups_length b 0 gs.of in
          let v = blocks_most b g.blocks in
          let w = ap length p in
          let l = blocks_few in
          record { ports = p; groups = sym z; few = omega (arith, x, y, z, v, w, l, small) }

  front : Fronted (heading g) (blocks_ports g.blocks) G (front_of g gs) (0 + length g.arrays)
  front =
      let W : ℕ → ℕ = array_width g.arrays in
      let P = blocks_ports g.blocks in
      let d = entered g.scalars (started (length g.blocks + 1)) in
      let e = entered_books (heading g) (length g.blocks + 1) scalars_few in
      let b = moved (λ f. queues_in f W P G d.queues) (λ f. edges f d.heads d.edges + queues_out f W P G d.queues) e.books (λ f. sym (ap (λ qs. queues_in f W P G qs) e.queues_are)) (λ f. let x = ap (λ qs. queues_out f W P G qs) e.queues_are in omega (arith, x)) in
      queues_fronted g.blocks gs.of 0 g.arrays d suits (omega (arith, few)) (record { books = b; many = ap length e.queues_are })

  front_stored : (a : ℕ) → queue_of (front_of g gs) a ≡ None → IsStoredTo g a → ⊥
  front_stored a n s = by (slice_get gs.read_only a) refl
    where
      lt : a < length g.arrays
      lt = let b = all_get (IsBlock g) g.blocks s.number s.block fine.blocks s.is_block in array_is g.arrays (map Some s.block.args) s.block.steps s.place a s.addr s.value b.steps s.is_step

      by : (o : Option Bool) → slice_get gs.read_only a ≡ o → ⊥
      by None e = let l = lt in let m = share.as_many in let z = slice_get-get_or gs.read_only a false (omega (arith, l, m)) in none (sym z ∙ e)
        where
          none : {b : Bool} → Some b ≡ None → ⊥
          none e = cc
      by (Some true) e = share.read_only a e s
      by (Some false) e =
          let x = groups_some a gs.read_only 0 g.blocks s.number s.block s.place s.addr s.value s.is_block s.is_step e in
          let y = ap (λ xs. groups_in a xs) share.accesses in
          let z = groups_length a 0 gs.of in
          let q = (entered_books (heading g) (length g.blocks + 1) scalars_few).queues_are in
          queue_owned g.blocks gs.of g.arrays (entered g.scalars (started (length g.blocks + 1))) a (ap length q) lt few (omega (arith, x, y, z)) n

  pub begun : Between (heading g) (IsStoredTo g) K (Kept (tops_of g) D 0 1 (λ t. one_if 0 t)) (blocks_ports g.blocks) G (front_of g gs)
  begun =
      let P = blocks_ports g.blocks in
      let n = length g.blocks + 1 in
      let d = front_of g gs in
      let e = entered_books (heading g) n scalars_few in
      let s = queues_same g.blocks gs.of 0 g.arrays (entered g.scalars (started n)) in
      let x : Edge = record { to = 0; control = at 0 0; with = param_ends 0 g.scalars (started n) } in
      let de : d.edges ≡ x ∷ [] = s.0 ∙ e.edges_are in
      let dh : d.heads ≡ [] = s.1 ∙ e.heads_are in
      let dt : d.tails ≡ set (zeros n) 0 (number 1) = s.2 ∙ e.tails_are in
      let F : Edge → Type 0 = λ (y : Edge). slice_get (tops_of g) y.to ≡ Some (widths y.with) in
      let o = one_own 0 in
      let add = adds (tops_of g) D 0 0 (λ t. 0) 0 fine.entry.args (top_at g.blocks (result_widths g.result) 0 fine.entry fine.first) (omega (arith, o)) (omega arith) in
      let base : Kept (tops_of g) D 0 0 (λ t. 0) [] [] (zeros n) = record {
        heads = refl;
        fit = All-nil F;
        count = λ t. refl;
        lean = λ t z. absurd (false≢true z);
        last = λ t m z. absurd (let y = zeros_at n t in omega (arith, y, z));
        many = omega arith;
      } in
      let one : Kept (tops_of g) D 0 1 (λ t. one_if 0 t) (x ∷ []) [] (set (zeros n) 0 (number 1)) = kept_as (add.more x [] [] (zeros n) refl (params_widths g.scalars 0 (started n) ∙ sym fine.scalars) base) (omega arith) (λ t. let z : 0 + one_if 0 t ≡ one_if 0 t = omega arith in z) in
      record {
        books = moved (owe_of (heading g) K P G d) (rest_of (heading g) P G d) front.books (λ f. let y = ap (λ hs. hsum (K f) hs) dh in omega (arith, y)) (λ f. refl);
        kept = subst (λ ts. Kept (tops_of g) D 0 1 (λ t. one_if 0 t) d.edges d.heads ts) (sym dt) (subst (λ hs. Kept (tops_of g) D 0 1 (λ t. one_if 0 t) d.edges hs (set (zeros n) 0 (number 1))) (sym dh) (subst (λ es. Kept (tops_of g) D 0 1 (λ t. one_if 0 t) es [] (set (zeros n) 0 (number 1))) (sym de) one));
        stored = front_stored;
      }

  counts_are : (t : ℕ) → t < suc (length g.blocks) → get_or (edge_counts g.blocks) t 0 ≡ C t
  counts_are t l =
      let n = length g.blocks in
      let m = blocks_few in
      let zs = zeros (n + 1) in
      let z = zeros_at (n + 1) t in
      let y = zeros_length (n + 1) in
      let r = raised_is 0 t zs (omega (arith, y, l)) (omega (arith, z)) in
      let v = raised_length 0 zs in
      let o = one_most 0 t in
      let j = jumps_are (join_of g) g.blocks t (raised 0 zs) (omega (arith, v, y, l)) (omega (arith, r, z, o, m)) in
      omega (arith, j, r, z)

  pub totals : (t : ℕ) → t < suc (length g.blocks) → D t ≡ ins_of (edge_counts g.blocks) t
  totals t l =
      let n = length g.blocks in
      let m = blocks_few in
      let counts = edge_counts g.blocks in
      let c = counts_are t l in
      let x = fed_max (get_or counts t 0) t in
      let j = is_join in
      elim (cases_lt t n) [
        | inl i ↦ (let y = feeders_at counts g.blocks 0 t t (omega arith) i (omega (arith, m)) in let z = fed_other (get_or counts (join_of g) 0) (join_of g) t (λ e. absurd (omega (arith, e, i, j))) in omega (arith, c, x, y, z))
        | inr i ↦ (let e : join_of g ≡ t = omega (arith, i, l, j) in let y = feeders_after counts g.blocks 0 t (omega (arith, i)) (omega (arith, m)) in let z = ap (λ u. fed_one (get_or counts u 0) u t) e in omega (arith, c, x, y, z))
      ]

  pub waiting : (f : Weight) (t h : ℕ) (args : List ℕ) → slice_get (tops_of g) t ≡ Some args → K f t h ≡ waits f h args 0 (ins_of (edge_counts g.blocks) t)
  waiting f t h args e = ap (λ ws. waits f h ws 0 (ins_of (edge_counts g.blocks) t)) (get_or_from_slice_get (tops_of g) t args [] e)

  zero_more : (i : ℕ) → i ≡ 0 + i
  zero_more i = omega arith

  all_blocks : Between (heading g) (IsStoredTo g) K (Kept (tops_of g) D (length g.blocks) (1 + 2 * length g.blocks) C) (λ a. []) (λ a. 0) (with_blocks g gs)
  all_blocks =
      let few = blocks_few in
      let n = length g.blocks in
      let b = blocks_between g (join_of g) is_join (IsStoredTo g) K D (edge_counts g.blocks) g.blocks 0 gs.of (front_of g gs) 1 (λ t. one_if 0 t) fine.blocks (blocks_roomy g.blocks small) (blocks_stored g g.blocks 0 (λ i k e. ap (λ n. slice_get g.blocks n) (sym (zero_more i)) ∙ e))
      (λ i k e. ap (λ n. slice_get (tops_of g) n) (sym (zero_more i)) ∙ top_at g.blocks (result_widths g.result) i k e) waiting (omega (arith, few)) (λ t l. totals t (omega (arith, l))) (front_some g gs) (λ t. omega arith) (omega (arith, few)) begun in
      let e : all_after 0 g.blocks gs.of ≡ [] = ap (λ xs. all_after 0 g.blocks xs) share.accesses ∙ none_after gs.read_only 0 g.blocks (omega (arith, few)) in
      let J : ℕ → ℕ → (ℕ → ℕ) → _ = λ h m c. Kept (tops_of g) D h m c in
      let c = subst (λ xs. Between (heading g) (IsStoredTo g) K (Kept (tops_of g) D (0 + n) (1 + 2 * n) C) (λ a. []) (λ a. groups_in a xs) (with_blocks g gs)) e b in
      subst (λ m. Between (heading g) (IsStoredTo g) K (Kept (tops_of g) D m (1 + 2 * n) C) (λ a. []) (λ a. 0) (with_blocks g gs)) (sym (zero_more n)) c

  pub fed : Between (heading g) (IsStoredTo g) K (Kept (tops_of g) D (length g.blocks) (suc (1 + 2 * length g.blocks + length g.blocks)) D) (λ a. []) (λ a. 0) (with_feeders g gs)
  fed =
      let n = length g.blocks in
      let l = blocks_few in
      let counts = edge_counts g.blocks in
      let f = feeders_between (tops_of g) D n g counts g.blocks 0 (with_blocks g gs) (1 + 2 * n) C fine.blocks (args_roomy g.blocks small)
      (λ i k e. ap (λ m. slice_get (tops_of g) m) (sym (zero_more i)) ∙ top_at g.blocks (result_widths g.result) i k e) (omega (arith, l)) (λ u. omega arith) (omega (arith, l)) all_blocks in
      if_between (tops_of g) D n (1 + 2 * n + n) (λ u. C u + feeders counts 0 g.blocks u) (get_or counts (join_of g) 0) (join_of g) (result_widths g.result) (feeders_laid counts 0 g.blocks (with_blocks g gs)) (result_fits g.result width_ty) (result_few g.result) (top_last g.blocks (result_widths g.result) (join_of g) is_join) (λ u. omega arith) (omega (arith, l)) f

  joined : Standing (heading g) K (Kept (tops_of g) D (suc (join_of g)) (suc (1 + 2 * length g.blocks + length g.blocks)) D) (with_join g gs)
  joined =
      let n = length g.blocks in
      let counts = edge_counts g.blocks in
      let j = join_of g in
      let ins = ins_of counts j in
      let ws = result_widths g.result in
      let rf = result_few g.result in
      let d = with_feeders g gs in
      let h = subst (λ m. Between (heading g) (IsStoredTo g) K (Kept (tops_of g) D m (suc (1 + 2 * n + n)) D) (λ a. []) (λ a. 0) d) (sym is_join) fed in
      let top = top_last g.blocks ws j is_join in
      let e = is_join in
      let w = head_within (heading g) ins j ws (ones ws) 0 d (result_fits g.result width_ty) top (feeders_some g gs) (omega (arith, rf)) (ones_most ws) (λ f x. waiting f j x ws top) (totals j (omega (arith, e))) (omega arith) h in
      ended_standing g.result (head_laid ins j ws (ones ws) 0 d) refl w

  -- the edges: how many lead to each target, and that each fits the arguments there
  pub edges_count : (t : ℕ) → t < suc (length g.blocks) → occurs t (with_join g gs).edges ≡ ins_of (edge_counts g.blocks) t
  edges_count t l = joined.kept.count t ∙ totals t l

  pub edges_few : (t : ℕ) → occurs t (with_join g gs).edges + 1 < 2 ^ 32
  edges_few t = let m = blocks_few in let a = occurs_most t (with_join g gs).edges in let b = joined.kept.many in omega (arith, a, b, m)

  pub edges_fit : All (λ (e : Edge). slice_get (tops_of g) e.to ≡ Some (widths e.with)) (with_join g gs).edges
  edges_fit = joined.kept.fit

  pub heads_many : length (with_join g gs).heads ≡ suc (length g.blocks)
  heads_many = joined.kept.heads ∙ ap suc is_join

  pub tops_many : length (tops_of g) ≡ suc (length g.blocks)
  tops_many = let a = length-append (map (λ (b : Block). b.args) g.blocks) (result_widths g.result ∷ []) in let b = length-map g.blocks (λ (b : Block). b.args) in omega (arith, a, b)

  whole : Books (heading g) (whole_draft g gs).units (whole_draft g gs).chans (λ f. 0) (λ f. 0)
  whole =
      let n = length g.blocks in
      let counts = edge_counts g.blocks in
      let zs = zeros (n + 1) in
      let d = with_join g gs in
      let s = joined in
      let tl = tops_many in
      let hl = heads_many in
      let zl = zeros_length (n + 1) in
      let start = moved (λ f. hsum (λ t h. waits f h (get_or (tops_of g) t []) (get_or zs t 0) (occurs t d.edges)) d.heads) (λ f. edges f d.heads d.edges) s.books
      (λ f. hsum_same d.heads (K f) (λ t h. waits f h (get_or (tops_of g) t []) (get_or zs t 0) (occurs t d.edges))
      (λ t h l. ap (λ k. waits f h (get_or (tops_of g) t []) 0 k) (sym (edges_count t (omega (arith, l, hl)))) ∙ ap (λ j. waits f h (get_or (tops_of g) t []) j (occurs t d.edges)) (sym (zeros_at (n + 1) t)))) (λ f. refl) in
      edges_books (heading g) (tops_of g) zs d.edges (record d { edges = [] }) (omega (arith, hl, tl)) (omega (arith, zl, tl)) (λ t. let a = zeros_at (n + 1) t in let b = edges_few t in omega (arith, a, b)) edges_fit start

  pub closed : Closed (built g gs)
  closed = headed g gs whole

pub ports_of_nets : PortsOfNetsAgree
ports_of_nets g gs h =
    let net = built g gs in
    let b = closed g gs h.graph h.groups h.size h.arrays in
    record { c1 = keeps_c1 net h.units b; c2 = keeps_c2 net h.units b; c5 = keeps_c5 net h.units b }
