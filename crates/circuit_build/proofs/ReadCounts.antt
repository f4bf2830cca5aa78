-- How many units read an array, and that no unit reads an array with a queue.
use Rattle.std.proofs.Common.{◌≡◌, ℕ, zero, suc, ◌+◌, ◌^◌, ◌<◌, ◌≤◌, List, [], ◌∷◌, ◌++◌, length, Bool, true, false, refl, sym, subst, ap, ◌∙◌, arith, inl, inr, length-append}
use Rattle.std.specs.Prelude.{cond, ◌==◌, sum_by, count_by, slice_get, Option, Some, None}
use Rattle.std.proofs.lemmas.Bool.{eq-eqb, ne_eqb, cases_eq, cases_lt}
use Rattle.std.proofs.lemmas.List.Sums.{sum_by-cons}
use Rattle.el_base.specs.declared.ty.Array.{Array}
use Rattle.el_base.specs.declared.ty.Scalar.{Scalar}
use Rattle.ir.specs.declared.graph.Block.{Block}
use Rattle.ir.specs.declared.groups.Access.{Access}
use Rattle.ir.specs.declared.groups.Groups.{Groups}
use Rattle.ir.specs.declared.instr.Instr.{Instr}
use Rattle.ir.specs.declared.instr.Instr.TheVariants as step
use Rattle.ir.specs.Graphs.{Graph}
use Rattle.net_types.specs.declared.net.Place.{Place}
use Rattle.net_types.specs.declared.net.Port.{Port}
use Rattle.net_types.specs.declared.net.Unit.{Unit as Kind}
use Rattle.net_types.specs.declared.net.Unit.TheVariants.{Param, Read, Lsq}
use Rattle.net_types.specs.Nets.{at}
use Rattle.net_check.specs.Headers.{is_read, is_queue}
use Rattle.circuit_build.specs.declared.draft.Draft.{Draft}
use Rattle.circuit_build.specs.declared.draft.Queue.{Queue}
use Rattle.circuit_build.specs.Counted.{is_load, graph_loads}
use Rattle.circuit_build.specs.Drafts.{number, next, with_unit, fed, copied, copy_of, uses_of_next, undefined, plus}
use Rattle.circuit_build.specs.Steps.{queue_or, queue_of, width_at, load_by, read_laid, step_made, step_laid, steps_laid}
use Rattle.circuit_build.specs.Uses.{is_laid}
use Rattle.circuit_build.specs.Blocks.{ins_of, after_block, block_grouped, block_worked, block_laid, blocks_laid}
use Rattle.circuit_build.specs.Edges.{edge_counts}
use Rattle.circuit_build.specs.Fronts.{started, params_laid, entered, queue_if, queues_laid, ports_of, groups_from, depth_from}
use Rattle.circuit_build.specs.Built.{join_of, front_of, with_blocks, with_feeders, whole_draft}
use Rattle.circuit_build.proofs.Keeps as keeps
use Rattle.circuit_build.proofs.Keeps.{Laid, Free, free, free_few, free_block, free_jump}
use Rattle.circuit_build.proofs.Keys.{key_of, keys, keys_of, step_keys, grouped_keys, block_keys}
use Rattle.circuit_build.proofs.Once.{how_many, other_unit, this_unit, same_units}

-- ---- which arrays have no queue

abbrev pub lacks : List (Option Place) → ℕ → Bool
lacks [] a = true
lacks (None ∷ ks) zero = true
lacks (Some p ∷ ks) zero = false
lacks (k ∷ ks) (suc a) = lacks ks a

lacks_none : (qs : List (Option Queue)) (a : ℕ) → queue_or (slice_get qs a) ≡ None → lacks (keys qs) a ≡ true
lacks_none [] a h = refl
lacks_none (None ∷ qs) zero h = refl
lacks_none (Some q ∷ qs) zero h = absurd (cc)
lacks_none (None ∷ qs) (suc a) h = lacks_none qs a h
lacks_none (Some q ∷ qs) (suc a) h = lacks_none qs a h

lacks_some : (qs : List (Option Queue)) (a : ℕ) (q : Queue) → queue_or (slice_get qs a) ≡ Some q → lacks (keys qs) a ≡ false
lacks_some [] a q h = absurd (cc)
lacks_some (None ∷ qs) zero q h = absurd (cc)
lacks_some (Some r ∷ qs) zero q h = refl
lacks_some (None ∷ qs) (suc a) q h = lacks_some qs a q h
lacks_some (Some r ∷ qs) (suc a) q h = lacks_some qs a q h

-- ---- steps

readers : (a : ℕ) → Laid (λ k. is_read a k ≡ false) (λ n. Unit {0}) Free
readers a = record { const = λ w n. refl; op1 = λ op. refl; op2 = λ op. refl; select = λ w. refl; fork1 = λ w. refl; forks = λ w n l o. refl; mux = λ w n i. refl; merge = λ n i. refl; branch = λ w. refl; sink = λ w. refl }

abbrev NotRead : ℕ → Kind → Type 0
NotRead a k = is_read a k ≡ false

abbrev Any : ℕ → Type 0
Any m = Unit {0}

abbrev Reads : ℕ → ℕ → Draft → Type 0
Reads a n d = how_many (is_read a) d ≡ n

read_fed : (a b n p : ℕ) (d : Draft) → how_many (is_read a) (with_unit (Read b) (copied p d)) ≡ n → (w : ℕ) → how_many (is_read a) (read_laid b w p d) ≡ n
read_fed a b n p d h w =
    let e = copied p d in
    let f = fed (copy_of p d) (next e) 0 (with_unit (Read b) e) in
    keeps.defined_keeps (Reads a n) (NotRead a) Any Free (readers a) (other_unit (is_read a) n) (λ p q w c d h. h) (same_units (is_read a) n) (at (next e) 0) w f tt h

load_none : (a b w p : ℕ) (d : Draft) (t : Bool) → (b == a) ≡ t → how_many (is_read a) (read_laid b w p d) ≡ how_many (is_read a) d + cond t 1 0
load_none a b w p d true e =
    let n = how_many (is_read a) d in
    read_fed a b (n + 1) p d (this_unit (is_read a) n (Read b) (copied p d) e refl) w
load_none a b w p d false e =
    let n = how_many (is_read a) d in
    let r = read_fed a b n p d (other_unit (is_read a) n (Read b) (copied p d) e refl) w in
    omega (arith, r)

load_some : (a b w p : ℕ) (q : Queue) (d : Draft) → how_many (is_read a) (load_by (Some q) b w p d) ≡ how_many (is_read a) d
load_some a b w p q d =
    let n = how_many (is_read a) d in
    keeps.load_keeps (Reads a n) (NotRead a) Any Free (readers a) (other_unit (is_read a) n) (λ p q w c d h. h) (same_units (is_read a) n) (Some q) b w p (λ e. absurd (cc)) d (λ i. tt) refl

-- of an array, which is the one that is counted or is not
counted : (a b n m : ℕ) (l : Bool) → m ≡ n + cond (b == a) (cond l 1 0) 0 → m ≡ n + cond (b == a) (cond l 1 0) 0
counted a b n m l e = e

load_reads : (q : Option Queue) (a b w p : ℕ) (d : Draft) → queue_of d b ≡ q → how_many (is_read a) (load_by q b w p d) ≡ how_many (is_read a) d + cond (b == a) (cond (lacks (keys_of d) a) 1 0) 0
load_reads None a b w p d h =
    elim (cases_eq b a) [
      | inl same ↦ (let t = eq-eqb b a same in
          let e = load_none a b w p d true t in
          let l : lacks (keys_of d) a ≡ true = subst (λ x. lacks (keys_of d) x ≡ true) same (lacks_none d.queues b h) in
          let v = ap {B = ℕ} (λ u. cond u (cond (lacks (keys_of d) a) 1 0) 0) t in
          let w = ap {B = ℕ} (λ u. cond u 1 0) l in
          omega (arith, e, v, w))
      | inr ne ↦ (let t = ne_eqb b a ne in
          let e = load_none a b w p d false t in
          let v = ap {B = ℕ} (λ u. cond u (cond (lacks (keys_of d) a) 1 0) 0) t in
          omega (arith, e, v))
    ]
load_reads (Some q) a b w p d h =
    let e = load_some a b w p q d in
    elim (cases_eq b a) [
      | inl same ↦ (let t = eq-eqb b a same in
          let l : lacks (keys_of d) a ≡ false = subst (λ x. lacks (keys_of d) x ≡ false) same (lacks_some d.queues b q h) in
          let v = ap {B = ℕ} (λ u. cond u (cond (lacks (keys_of d) a) 1 0) 0) t in
          let w = ap {B = ℕ} (λ u. cond u 1 0) l in
          omega (arith, e, v, w))
      | inr ne ↦ (let t = ne_eqb b a ne in
          let v = ap {B = ℕ} (λ u. cond u (cond (lacks (keys_of d) a) 1 0) 0) t in
          omega (arith, e, v))
    ]

made_reads : (a : ℕ) (arrays : List Array) (i : Instr) (d : Draft) → how_many (is_read a) (step_made arrays i d) ≡ how_many (is_read a) d + cond (is_load a i) (cond (lacks (keys_of d) a) 1 0) 0
made_reads a arrays (step.Const w m) d =
    let n = how_many (is_read a) d in
    let e = keeps.const_keeps (Reads a n) (NotRead a) Any Free (readers a) (other_unit (is_read a) n) (λ p q w c d h. h) (same_units (is_read a) n) w m d (λ i. tt) refl in omega (arith, e)
made_reads a arrays (step.One op x) d =
    let n = how_many (is_read a) d in
    let e = keeps.one_keeps (Reads a n) (NotRead a) Any Free (readers a) (other_unit (is_read a) n) (λ p q w c d h. h) (same_units (is_read a) n) op x d (λ i. tt) refl in omega (arith, e)
made_reads a arrays (step.Two op x y) d =
    let n = how_many (is_read a) d in
    let e = keeps.two_keeps (Reads a n) (NotRead a) Any Free (readers a) (other_unit (is_read a) n) (λ p q w c d h. h) (same_units (is_read a) n) op x y d (λ i. tt) refl in omega (arith, e)
made_reads a arrays (step.Select w c x y) d =
    let n = how_many (is_read a) d in
    let e = keeps.select_keeps (Reads a n) (NotRead a) Any Free (readers a) (other_unit (is_read a) n) (λ p q w c d h. h) (same_units (is_read a) n) w c x y d (λ i. tt) refl in omega (arith, e)
made_reads a arrays (step.Load b p) d = load_reads (queue_of d b) a b (width_at arrays b) p d refl
made_reads a arrays (step.Store b p v) d =
    let n = how_many (is_read a) d in
    let e = keeps.store_keeps (Reads a n) (NotRead a) Any Free (readers a) (other_unit (is_read a) n) (λ p q w c d h. h) (same_units (is_read a) n) (queue_of d b) b p v d refl in omega (arith, e)

-- a step that is not laid is no load
unlaid_reads : (a : ℕ) (i : Instr) (n : ℕ) → is_laid i n ≡ false → is_load a i ≡ false
unlaid_reads a (step.Const w m) n e = refl
unlaid_reads a (step.One op x) n e = refl
unlaid_reads a (step.Two op x y) n e = refl
unlaid_reads a (step.Select w c x y) n e = refl
unlaid_reads a (step.Load b p) n e = absurd (cc)
unlaid_reads a (step.Store b p v) n e = refl

if_reads : (a : ℕ) (arrays : List Array) (i : Instr) (d : Draft) (t : Bool) → is_laid i (uses_of_next d) ≡ t
    → how_many (is_read a) (cond t (step_made arrays i d) (undefined d)) ≡ how_many (is_read a) d + cond (is_load a i) (cond (lacks (keys_of d) a) 1 0) 0
if_reads a arrays i d true e = made_reads a arrays i d
if_reads a arrays i d false e = let x = ap {B = ℕ} (λ t. cond t (cond (lacks (keys_of d) a) 1 0) 0) (unlaid_reads a i (uses_of_next d) e) in omega (arith, x)

step_reads : (a : ℕ) (arrays : List Array) (i : Instr) (d : Draft) → how_many (is_read a) (step_laid arrays i d) ≡ how_many (is_read a) d + cond (is_load a i) (cond (lacks (keys_of d) a) 1 0) 0
step_reads a arrays i d = if_reads a arrays i d (is_laid i (uses_of_next d)) refl

joined : (t l : Bool) (n : ℕ) → cond t (cond l 1 0) 0 + cond l n 0 ≡ cond l (cond t 1 0 + n) 0
joined true true n = refl
joined true false n = refl
joined false true n = refl
joined false false n = refl

steps_reads : (a : ℕ) (arrays : List Array) (is : List Instr) (d : Draft) (ks : List (Option Place)) → keys_of d ≡ ks
    → how_many (is_read a) (steps_laid arrays is d) ≡ how_many (is_read a) d + cond (lacks ks a) (count_by (is_load a) is) 0
steps_reads a arrays [] d ks same = none (lacks ks a)
  where
    none : (l : Bool) → how_many (is_read a) d ≡ how_many (is_read a) d + cond l 0 0
    none true = omega arith
    none false = omega arith
steps_reads a arrays (i ∷ is) d ks same =
    let e = step_laid arrays i d in
    let one = step_reads a arrays i d in
    let l = ap {B = ℕ} (λ (xs : List (Option Place)). cond (is_load a i) (cond (lacks xs a) 1 0) 0) same in
    let rest = steps_reads a arrays is e ks (step_keys arrays i d ∙ same) in
    let s = sum_by-cons (λ x. cond (is_load a x) 1 0) i is in
    let t = ap {B = ℕ} (λ n. cond (lacks ks a) n 0) s in
    let j = joined (is_load a i) (lacks ks a) (count_by (is_load a) is) in
    omega (arith, one, l, rest, t, j)

-- ---- blocks

block_reads : (a : ℕ) (arrays : List Array) (join ins b : ℕ) (k : Block) (xs : List Access) (d : Draft) (ks : List (Option Place)) → keys_of d ≡ ks
    → how_many (is_read a) (block_laid arrays join ins b k xs d) ≡ how_many (is_read a) d + cond (lacks ks a) (count_by (is_load a) k.steps) 0
block_reads a arrays join ins b k xs d ks same =
    let n = how_many (is_read a) d in
    let f = block_grouped ins b k xs d in
    let g = steps_laid arrays k.steps f in
    let j = block_worked arrays ins b k xs d in
    let m = how_many (is_read a) g in
    let y = keeps.block_grouped_keeps (Reads a n) (NotRead a) Any Free (readers a) (other_unit (is_read a) n) (λ p q w c d h. h) (same_units (is_read a) n) ins b tt k (free_block k) xs d refl in
    let z = steps_reads a arrays k.steps f ks (grouped_keys ins b k xs d ∙ same) in
    let u = keeps.bare_keeps (Reads a m) (NotRead a) Any Free (readers a) (other_unit (is_read a) m) (λ p q w c d h. h) (same_units (is_read a) m) (length d.chans) k.jump g refl in
    let v = keeps.jump_keeps (Reads a m) (NotRead a) Any Free (readers a) (other_unit (is_read a) m) (λ p q w c d h. h) (same_units (is_read a) m) join k.jump j (free_jump k.jump) u in
    omega (arith, y, z, v)

added : (l : Bool) (n m : ℕ) → cond l n 0 + cond l m 0 ≡ cond l (n + m) 0
added true n m = refl
added false n m = refl

abbrev loads_of : ℕ → Block → ℕ
loads_of a b = count_by (is_load a) b.steps

blocks_reads : (a : ℕ) (arrays : List Array) (join : ℕ) (counts : List ℕ) (b : ℕ) (bs : List Block) (xs : List Access) (d : Draft) (ks : List (Option Place)) → keys_of d ≡ ks
    → how_many (is_read a) (blocks_laid arrays join counts b bs xs d) ≡ how_many (is_read a) d + cond (lacks ks a) (sum_by (loads_of a) bs) 0
blocks_reads a arrays join counts b [] xs d ks same = none (lacks ks a)
  where
    none : (l : Bool) → how_many (is_read a) d ≡ how_many (is_read a) d + cond l 0 0
    none true = omega arith
    none false = omega arith
blocks_reads a arrays join counts b (k ∷ bs) xs d ks same =
    let e = block_laid arrays join (ins_of counts b) b k xs d in
    let one = block_reads a arrays join (ins_of counts b) b k xs d ks same in
    let rest = blocks_reads a arrays join counts (plus b 1) bs (after_block b xs) e ks (block_keys arrays join (ins_of counts b) b k xs d ∙ same) in
    let s = ap {B = ℕ} (λ n. cond (lacks ks a) n 0) (sum_by-cons (loads_of a) k bs) in
    let j = added (lacks ks a) (loads_of a k) (sum_by (loads_of a) bs) in
    omega (arith, one, rest, s, j)

-- ---- all units

front_reads : (a : ℕ) (g : Graph) (gs : Groups) → how_many (is_read a) (front_of g gs) ≡ 0
front_reads a g gs =
    let e = keeps.entered_keeps (Reads a 0) (NotRead a) Any Free (readers a) (other_unit (is_read a) 0) (λ p q w c d h. h) (same_units (is_read a) 0) (λ j. refl) g.scalars (started (length g.blocks + 1)) refl in
    keeps.front_keeps (Reads a 0) (NotRead a) Any Free (readers a) (other_unit (is_read a) 0) (λ p q w c d h. h) (same_units (is_read a) 0) (λ b m ps hs. refl) g gs e

abbrev pub front_keys : Graph → Groups → List (Option Place)
front_keys g gs = keys_of (front_of g gs)

pub all_reads : (a : ℕ) (g : Graph) (gs : Groups) → how_many (is_read a) (whole_draft g gs) ≡ cond (lacks (front_keys g gs) a) (graph_loads a g) 0
all_reads a g gs =
    let ks = front_keys g gs in
    let n = cond (lacks ks a) (graph_loads a g) 0 in
    let ins = ins_of (edge_counts g.blocks) (join_of g) in
    let z = front_reads a g gs in
    let b = blocks_reads a g.arrays (join_of g) (edge_counts g.blocks) 0 g.blocks gs.of (front_of g gs) ks refl in
    let e : Reads a n (with_blocks g gs) = omega (arith, z, b) in
    let h = keeps.feeders_of_keep (Reads a n) (NotRead a) Any Free (readers a) (other_unit (is_read a) n) (λ p q w c d h. h) (same_units (is_read a) n) g gs (free g.blocks) free_few e in
    let j = keeps.join_keeps (Reads a n) (NotRead a) Any Free (readers a) (other_unit (is_read a) n) (λ p q w c d h. h) (same_units (is_read a) n) refl free_few ins (join_of g) tt g.result (with_feeders g gs) h in
    keeps.rest_keeps (Reads a n) (NotRead a) Any Free (readers a) (other_unit (is_read a) n) (λ p q w c d h. h) (same_units (is_read a) n) g gs j

-- ---- queues

push_below : (ks : List (Option Place)) (k : Option Place) (b : ℕ) → b < length ks → lacks (ks ++ k ∷ []) b ≡ lacks ks b
push_below [] k b lt = absurd (omega arith)
push_below (None ∷ ks) k zero lt = refl
push_below (Some p ∷ ks) k zero lt = refl
push_below (None ∷ ks) k (suc b) lt = push_below ks k b (omega arith)
push_below (Some p ∷ ks) k (suc b) lt = push_below ks k b (omega arith)

push_at : (ks : List (Option Place)) (k : Option Place) → lacks (ks ++ k ∷ []) (length ks) ≡ lacks (k ∷ []) 0
push_at [] k = refl
push_at (None ∷ ks) k = push_at ks k
push_at (Some p ∷ ks) k = push_at ks k

lacks_past : (ks : List (Option Place)) (b : ℕ) → length ks ≤ b → lacks ks b ≡ true
lacks_past [] b le = refl
lacks_past (None ∷ ks) zero le = absurd (omega arith)
lacks_past (Some p ∷ ks) zero le = absurd (omega arith)
lacks_past (None ∷ ks) (suc b) le = lacks_past ks b (omega arith)
lacks_past (Some p ∷ ks) (suc b) le = lacks_past ks b (omega arith)

keys_push : (qs : List (Option Queue)) (q : Option Queue) → keys (qs ++ q ∷ []) ≡ keys qs ++ key_of q ∷ []
keys_push [] q = refl
keys_push (x ∷ qs) q = ap (λ ks. key_of x ∷ ks) (keys_push qs q)

keys_many : (qs : List (Option Queue)) → length (keys qs) ≡ length qs
keys_many [] = refl
keys_many (x ∷ qs) = ap suc (keys_many qs)

abbrev pub is_empty : List (List ℕ) → Bool
is_empty [] = true
is_empty (g ∷ gs) = false

-- of the first n arrays each has a queue where it has a group
pub record Queued (of : List Access) (n : ℕ) (d : Draft) : Type 0 where
  pub many : length d.queues ≡ n
  pub counts : (b : ℕ) → how_many (is_queue b) d ≡ cond (lacks (keys_of d) b) 0 1
  pub each : (b : ℕ) → b < n → lacks (keys_of d) b ≡ is_empty (groups_from b 0 of)

-- nothing more
push_none : (ks : List (Option Place)) (b : ℕ) → lacks ks b ≡ lacks (ks ++ None ∷ []) b
push_none [] zero = refl
push_none [] (suc b) = refl
push_none (None ∷ ks) zero = refl
push_none (Some p ∷ ks) zero = refl
push_none (None ∷ ks) (suc b) = push_none ks b
push_none (Some p ∷ ks) (suc b) = push_none ks b

each_pushed : (of : List Access) (n b : ℕ) (ks : List (Option Place)) (k : Option Place) → length ks ≡ n → ((c : ℕ) → c < n → lacks ks c ≡ is_empty (groups_from c 0 of)) → lacks (k ∷ []) 0 ≡ is_empty (groups_from n 0 of) → b < suc n
    → lacks (ks ++ k ∷ []) b ≡ is_empty (groups_from b 0 of)
each_pushed of n b ks k many h own lt =
    elim (cases_eq b n) [
      | inl same ↦ (let at_end : lacks (ks ++ k ∷ []) n ≡ lacks (k ∷ []) 0 = subst (λ m. lacks (ks ++ k ∷ []) m ≡ lacks (k ∷ []) 0) many (push_at ks k) in
          subst (λ m. lacks (ks ++ k ∷ []) m ≡ is_empty (groups_from m 0 of)) (sym same) (at_end ∙ own))
      | inr ne ↦ (let below : b < n = not_last b n lt ne in push_below ks k b (omega (arith, many, below)) ∙ h b below)
    ]
  where
    not_last : (i j : ℕ) → i < suc j → ¬ (i ≡ j) → i < j
    not_last i j le ne = grind (arith, le, ne)

some_past : (ks : List (Option Place)) (p : Place) (b : ℕ) → length ks < b → lacks (ks ++ Some p ∷ []) b ≡ true
some_past [] p zero lt = absurd (omega arith)
some_past [] p (suc b) lt = refl
some_past (None ∷ ks) p zero lt = absurd (omega arith)
some_past (Some q ∷ ks) p zero lt = absurd (omega arith)
some_past (None ∷ ks) p (suc b) lt = some_past ks p b (omega arith)
some_past (Some q ∷ ks) p (suc b) lt = some_past ks p b (omega arith)

-- a queue more, of array n
counts_pushed : (of : List Access) (n b m : ℕ) (ps : List Port) (gs : List (List ℕ)) (p : Place) (d : Draft) → Queued of n d
    → how_many (is_queue b) (with_unit (Lsq n m ps gs false) d) ≡ cond (lacks (keys_of d ++ Some p ∷ []) b) 0 1
counts_pushed of n b m ps gs p d h =
    let ks = keys_of d in
    let many : length ks ≡ n = keys_many d.queues ∙ h.many in
    let c = h.counts b in
    elim (cases_eq n b) [
      | inl same ↦ (let past = lacks_past ks b (omega (arith, many, same)) in
          let none : how_many (is_queue b) d ≡ 0 = c ∙ ap {B = ℕ} (λ t. cond t 0 1) past in
          let one = this_unit (is_queue b) 0 (Lsq n m ps gs false) d (eq-eqb n b same) none in
          let own : lacks (ks ++ Some p ∷ []) b ≡ false = subst (λ x. lacks (ks ++ Some p ∷ []) x ≡ false) (many ∙ same) (push_at ks (Some p)) in
          one ∙ ap {B = ℕ} (λ t. cond t 0 1) (sym own))
      | inr ne ↦ (let other = other_unit (is_queue b) (how_many (is_queue b) d) (Lsq n m ps gs false) d (ne_eqb n b ne) refl in
          other ∙ c ∙ ap {B = ℕ} (λ t. cond t 0 1) (same_lack n b ks p many ne))
    ]
  where
    same_lack : (n b : ℕ) (ks : List (Option Place)) (p : Place) → length ks ≡ n → ¬ (n ≡ b) → lacks ks b ≡ lacks (ks ++ Some p ∷ []) b
    same_lack n b ks p many ne =
        elim (cases_lt b (length ks)) [
          | inl lt ↦ sym (push_below ks (Some p) b lt)
          | inr le ↦ (let after : length ks < b = not_first (length ks) b le (λ e. ne (sym many ∙ e)) in lacks_past ks b le ∙ sym (some_past ks p b after))
        ]
      where
        not_first : (i j : ℕ) → i ≤ j → ¬ (i ≡ j) → i < j
        not_first i j le ne = grind (arith, le, ne)

one_queued : (of : List Access) (n : ℕ) (ps : List Port) (gs : List (List ℕ)) (m : ℕ) (d : Draft) → groups_from n 0 of ≡ gs → Queued of n d → Queued of (suc n) (queue_if n ps gs m d)
one_queued of n ps [] m d is h =
    let l = length-append d.queues (None ∷ []) in
    let p = keys_push d.queues None in
    record {
      many = omega (arith, l, h.many);
      counts = λ b. h.counts b ∙ ap {B = ℕ} (λ t. cond t 0 1) (push_none (keys_of d) b) ∙ ap {B = ℕ} (λ (ks : List (Option Place)). cond (lacks ks b) 0 1) (sym p);
      each = λ b lt. ap (λ (ks : List (Option Place)). lacks ks b) p ∙ each_pushed of n b (keys_of d) None (keys_many d.queues ∙ h.many) h.each (sym (ap is_empty is)) lt;
    }
one_queued of n ps (g ∷ gs) m d is h =
    let q : Queue = record { unit = next d; groups = number (length (g ∷ gs)); group = 0; port = 0 } in
    let l = length-append d.queues (Some q ∷ []) in
    let p = keys_push d.queues (Some q) in
    let k : Place = record { unit = next d; place = number (length (g ∷ gs)) } in
    record {
      many = omega (arith, l, h.many);
      counts = λ b. counts_pushed of n b m ps (g ∷ gs) k d h ∙ ap {B = ℕ} (λ (ks : List (Option Place)). cond (lacks ks b) 0 1) (sym p);
      each = λ b lt. ap (λ (ks : List (Option Place)). lacks ks b) p ∙ each_pushed of n b (keys_of d) (Some k) (keys_many d.queues ∙ h.many) h.each (sym (ap is_empty is)) lt;
    }

all_queued : (blocks : List Block) (of : List Access) (n : ℕ) (xs : List Array) (d : Draft) → n + length xs < 2 ^ 32 → Queued of n d → Queued of (n + length xs) (queues_laid blocks of n xs d)
all_queued blocks of n [] d few h = let e : n ≡ n + 0 = omega arith in subst (λ m. Queued of m d) e h
all_queued blocks of n (x ∷ xs) d few h =
    let e = queue_if n (ports_of n blocks of) (groups_from n 0 of) (depth_from n 16 of) d in
    let one = one_queued of n (ports_of n blocks of) (groups_from n 0 of) (depth_from n 16 of) d refl h in
    let p : suc n ≡ plus n 1 = omega arith in
    let rest = all_queued blocks of (plus n 1) xs e (omega arith) (subst (λ m. Queued of m e) p one) in
    let t : plus n 1 + length xs ≡ n + length (x ∷ xs) = omega arith in
    subst (λ m. Queued of m (queues_laid blocks of (plus n 1) xs e)) t rest

queuers : (a : ℕ) → Laid (λ k. is_queue a k ≡ false) (λ n. Unit {0}) Free
queuers a = record { const = λ w n. refl; op1 = λ op. refl; op2 = λ op. refl; select = λ w. refl; fork1 = λ w. refl; forks = λ w n l o. refl; mux = λ w n i. refl; merge = λ n i. refl; branch = λ w. refl; sink = λ w. refl }

pub params_queues : (j : ℕ) (ss : List Scalar) (d : Draft) → (params_laid j ss d).queues ≡ d.queues
params_queues j [] d = refl
params_queues j (s ∷ ss) d = params_queues (plus j 1) ss (with_unit (Param j) d)

pub front_queued : (g : Graph) (gs : Groups) → length g.arrays < 2 ^ 32 → Queued gs.of (length g.arrays) (front_of g gs)
front_queued g gs few =
    let e = entered g.scalars (started (length g.blocks + 1)) in
    let q : e.queues ≡ [] = params_queues 0 g.scalars (started (length g.blocks + 1)) in
    let none : (b : ℕ) → how_many (is_queue b) e ≡ 0 = λ b. keeps.entered_keeps (λ d. how_many (is_queue b) d ≡ 0) (λ k. is_queue b k ≡ false) Any Free (queuers b) (other_unit (is_queue b) 0) (λ p q w c d h. h) (same_units (is_queue b) 0) (λ j. refl) g.scalars (started (length g.blocks + 1)) refl in
    let same : 0 + length g.arrays ≡ length g.arrays = omega arith in
    subst (λ n. Queued gs.of n (front_of g gs)) same (all_queued g.blocks gs.of 0 g.arrays e (omega (arith, few)) (record {
      many = ap (λ (qs : List (Option Queue)). length qs) q;
      counts = λ b. none b ∙ ap {B = ℕ} (λ (qs : List (Option Queue)). cond (lacks (keys qs) b) 0 1) (sym q);
      each = λ b lt. absurd (omega (arith, lt));
    }))

pub all_queues : (g : Graph) (gs : Groups) → length g.arrays < 2 ^ 32 → (a : ℕ) → how_many (is_queue a) (whole_draft g gs) ≡ cond (lacks (front_keys g gs) a) 0 1
all_queues g gs few a =
    let q = front_queued g gs few in
    let n = how_many (is_queue a) (front_of g gs) in
    let h = keeps.after_front (λ d. how_many (is_queue a) d ≡ n) (λ k. is_queue a k ≡ false) Any Free (queuers a) (other_unit (is_queue a) n) (λ p q w c d h. h) (same_units (is_queue a) n) (λ b. refl) refl g gs (λ t. tt) (free g.blocks) free_few refl in
    h ∙ q.counts a
