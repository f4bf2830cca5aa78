-- The blocks keep the balance: each brings a head, which waits for its edges or takes the one that stands, and an edge for each side of its jump.
use Rattle.std.proofs.Common.{◌≡◌, ℕ, suc, ◌+◌, ◌*◌, ◌<◌, ◌≤◌, ◌^◌, List, [], ◌∷◌, ◌++◌, length, get_or, map, Bool, true, false, Option, Some, None, refl, sym, ap, ◌∙◌, subst, arith, length-append}
use Rattle.std.specs.Prelude.{All, slice_get, cond, ◌==◌}
use Rattle.std.proofs.lemmas.List.{length-map}
use Rattle.std.proofs.lemmas.List.Elements.{All-head, All-tail}
use Rattle.el_base.specs.declared.ty.Ty.{Ty}
use Rattle.ir.specs.declared.graph.Block.{Block}
use Rattle.ir.specs.declared.graph.Jump.{Jump}
use Rattle.ir.specs.declared.graph.Jump.TheVariants.{Go, Two, Return}
use Rattle.ir.specs.declared.graph.To.{To}
use Rattle.ir.specs.declared.groups.Access.{Access}
use Rattle.ir.specs.declared.instr.Instr.{Instr}
use Rattle.ir.specs.Shapes.{Shape, step_width, shape_after}
use Rattle.ir.specs.Graphs.{Graph, AreHanded, IsReturn, IsJump, IsBlock}
use Rattle.net_types.specs.declared.net.Port.{Port}
use Rattle.circuit_build.specs.declared.draft.Draft.{Draft}
use Rattle.circuit_build.specs.Drafts.{number, plus, control_forked, buffered}
use Rattle.circuit_build.specs.Uses.{zeros, handed_often, uses, constants, steps_added}
use Rattle.circuit_build.specs.Jumps.{result_list, jump_laid}
use Rattle.circuit_build.specs.Blocks.{ins_of, after_block, has_access, early_triggers, bare_buffered, block_opened, block_grouped, block_laid, blocks_laid}
use Rattle.circuit_build.specs.Endings.{result_widths}
use Rattle.circuit_build.proofs.CountBooks.{Weight}
use Rattle.circuit_build.proofs.CountItems.{buffered_open, forked_open}
use Rattle.circuit_build.proofs.CountSteps.{groups_in, steps_ports, Within, AllStored, settled, allocations_within, steps_within}
use Rattle.circuit_build.proofs.CountJumps.{Between, gone_between, parted_between}
use Rattle.circuit_build.proofs.CountHeads.{head_within}
use Rattle.circuit_build.proofs.CountKept.{adds, kept_as, waits}
pub use Rattle.circuit_build.proofs.CountKept.{heading, hsum_more, muxes_left, head_left, occurs, occurs_more, Kept}
pub use Rattle.circuit_build.proofs.Targets.{one_if, tops_of, top_at, top_last}
use Rattle.circuit_build.proofs.Remains.{one_own, often, AreBelow, of_width_below, left_table, jump_uses, JumpBelow, handed_many, left_is, left_most, remains_most, all_added_is, all_added_most, below_as, zeros_at, zeros_length, handed_length, jump_added_length, constants_most}
use Rattle.circuit_build.proofs.Fields as fields
use Rattle.circuit_build.proofs.Keeps as keeps
use Rattle.circuit_build.proofs.Keeps.{Laid}

-- ---- edges

abbrev pub jump_edges : ℕ → Jump → ℕ → ℕ
jump_edges join (Go to) t = one_if to.block t
jump_edges join (Two c a b) t = one_if a.block t + one_if b.block t
jump_edges join (Return v) t = one_if join t

abbrev pub all_edges : ℕ → List Block → ℕ → ℕ
all_edges join [] t = 0
all_edges join (k ∷ ks) t = jump_edges join k.jump t + all_edges join ks t

returned : (r : Option Ty) (ws : Shape) (v : Option ℕ) → IsReturn r ws v → AreHanded ws (result_list v) (result_widths r)
returned None ws None i = tt
returned (Some t) ws (Some v) i = (i, tt)
returned None ws (Some v) i = absurd i
returned (Some t) ws None i = absurd i

-- ports of the blocks from one on
abbrev pub blocks_ports : List Block → ℕ → List Port
blocks_ports [] a = []
blocks_ports (k ∷ ks) a = steps_ports a k.steps (blocks_ports ks a)

abbrev pub all_after : ℕ → List Block → List Access → List Access
all_after b [] xs = xs
all_after b (k ∷ ks) xs = all_after (plus b 1) ks (after_block b xs)

-- ---- numbers have room

abbrev pub handed_all : Jump → ℕ
handed_all (Go to) = length to.with
handed_all (Two c a b) = length a.with + length b.with
handed_all (Return v) = 1

abbrev pub Roomy : Block → Type 0
Roomy k = 4 * length k.steps + 2 * length k.args + handed_all k.jump + 10 < 2 ^ 32

many_all : (j : Jump) → handed_many j ≤ handed_all j
many_all (Go to) = omega arith
many_all (Two c a b) = omega arith
many_all (Return v) = omega arith

uses_few : (k : Block) → Roomy k → (v : ℕ) → get_or (uses k) v 0 < 2 ^ 32
uses_few k r v = let a = remains_most k (length k.args) k.steps v (omega arith) (omega (arith, r)) in let b = many_all k.jump in omega (arith, a, b, r)

pub shape_length : (arrays : List _) (ws : Shape) (is : List Instr) → length (shape_after arrays ws is) ≡ length ws + length is
shape_length arrays ws [] = omega arith
shape_length arrays ws (i ∷ is) = let a = length-append ws (step_width arrays i ∷ []) in let b = shape_length arrays (ws ++ step_width arrays i ∷ []) is in omega (arith, a, b)

-- ---- values that a jump names

handed_below : (ws : Shape) (vs args : List ℕ) → AreHanded ws vs args → AreBelow (length ws) vs
handed_below ws [] args a = tt
handed_below ws (v ∷ vs) [] a = absurd a
handed_below ws (v ∷ vs) (w ∷ args) (i, x) = (of_width_below ws v w i, handed_below ws vs args x)

pub jump_below : (g : Graph) (ws : Shape) (j : Jump) → IsJump g ws j → JumpBelow j (length ws)
jump_below g ws (Go to) i = handed_below ws to.with i.block.args i.handed
jump_below g ws (Two c a b) (i, x, y) = of_width_below ws c 32 i
jump_below g ws (Return None) i = tt
jump_below g ws (Return (Some v)) i = by g.result i
  where
    by : (r : Option Ty) → IsReturn r ws (Some v) → v < length ws
    by None i = absurd i
    by (Some t) i = of_width_below ws v _ i

handed_is : (n : ℕ) (to : To) (u : ℕ) → AreBelow n to.with → length to.with + 2 < 2 ^ 32 → get_or (handed_often n to) u 0 ≡ often u to.with
handed_is n to u b few =
    let z = zeros_at n u in
    let l = zeros_length n in
    let x = all_added_is to.with u (zeros n) (below_as to.with n (length (zeros n)) (omega (arith, l)) b) (omega (arith, z, few)) in
    omega (arith, x, z)

handed_few : (n : ℕ) (to : To) (u : ℕ) → length to.with + 2 < 2 ^ 32 → get_or (handed_often n to) u 0 < 2 ^ 32
handed_few n to u few = let z = zeros_at n u in let x = all_added_most to.with u (zeros n) in omega (arith, x, z, few)

result_uses : (v : Option ℕ) (n u : ℕ) → jump_uses (Return v) n u ≡ often u (result_list v)
result_uses None n u = refl
result_uses (Some v) n u = omega arith

-- ---- a block

pub some_kept : (arrays : List _) (join ins b : ℕ) (k : Block) (xs : List Access) (d : Draft) → 0 < length d.units → 0 < length (block_laid arrays join ins b k xs d).units
some_kept arrays join ins b k xs d s =
    keeps.block_keeps (λ d. 0 < length d.units) (λ k. Unit {0}) keeps.Free keeps.Free any (λ k d e h. let l = length-append d.units (k ∷ []) in omega (arith, l)) (λ p q w c d h. h) (λ d e u c h. let l = ap length u in omega (arith, l, h)) (λ a. tt) arrays join ins b tt k (keeps.free_block k) xs d s
  where
    any : Laid (λ k. Unit {0}) keeps.Free keeps.Free
    any = record { const = λ w n. tt; op1 = λ op. tt; op2 = λ op. tt; select = λ w. tt; fork1 = λ w. tt; forks = λ w n s o. tt; mux = λ w n i. tt; merge = λ n i. tt; branch = λ w. tt; sink = λ w. tt }

module _ (g : Graph) (join : ℕ) (is_join : join ≡ length g.blocks) (S : ℕ → Type 0) (K : Weight → ℕ → ℕ → ℕ) (T : ℕ → ℕ) where
  jump_between : {P : ℕ → List Port} {G : ℕ → ℕ} {d : Draft} {ws : Shape} {U : ℕ → ℕ} (H N : ℕ) (C : ℕ → ℕ) (j : Jump) → IsJump g ws j → handed_all j + 2 < 2 ^ 32 → length ws < 2 ^ 32 → ((u : ℕ) → U u ≡ jump_uses j (length ws) u) → ((t : ℕ) → C t + jump_edges join j t ≤ T t) → N + 3 < 2 ^ 32
      → Within (heading g) S K (Kept (tops_of g) T H N C) P G d ws U 0 → Between (heading g) S K (Kept (tops_of g) T H (N + 2) (λ t. C t + jump_edges join j t)) P G (jump_laid join j d)
  jump_between {P} {G} {d} {ws} {U} H N C (Go to) i room long t less few h =
      let l = less to.block in
      let o = one_own to.block in
      let r = gone_between to.block to.with i.block.args i.handed t (adds (tops_of g) T H N C to.block i.block.args (top_at g.blocks (result_widths g.result) to.block i.block i.exists) (omega (arith, l, o)) (omega (arith, few))) h in
      record { books = r.books; kept = kept_as r.kept (omega arith) (λ u. refl); stored = r.stored }
  jump_between {P} {G} {d} {ws} {U} H N C (Two c a b) (i, x, y) room long t less few h =
      let l = less a.block in
      let o = one_own a.block in
      let m = less b.block in
      let q = one_own b.block in
      let p = adds (tops_of g) T H N C a.block x.block.args (top_at g.blocks (result_widths g.result) a.block x.block x.exists) (omega (arith, l, o)) (omega (arith, few)) in
      let s = adds (tops_of g) T H (suc N) (λ t. C t + one_if a.block t) b.block y.block.args (top_at g.blocks (result_widths g.result) b.block y.block y.exists) (omega (arith, m, q)) (omega (arith, few)) in
      let n = length d.ends in
      let e : n ≡ length ws = h.open_ends.fits.long in
      let below_a = below_as a.with (length ws) n (omega (arith, e)) (handed_below ws a.with x.block.args x.handed) in
      let below_b = below_as b.with (length ws) n (omega (arith, e)) (handed_below ws b.with y.block.args y.handed) in
      let r = parted_between c a b x.block.args y.block.args i x.handed y.handed (omega (arith, e, long)) (λ u. handed_is n a u below_a (omega (arith, room))) (λ u. handed_is n b u below_b (omega (arith, room)))
      (λ u. handed_few n a u (omega (arith, room))) (λ u. handed_few n b u (omega (arith, room))) (handed_length n a) (handed_length n b) (λ u. t u ∙ ap (λ z. jump_uses (Two c a b) z u) (sym e)) p s h in
      record { books = r.books; kept = kept_as r.kept (omega arith) (λ t. omega arith); stored = r.stored }
  jump_between {P} {G} {d} {ws} {U} H N C (Return v) i room long t less few h =
      let l = less join in
      let o = one_own join in
      let r = gone_between join (result_list v) (result_widths g.result) (returned g.result ws v i) (λ u. t u ∙ result_uses v (length ws) u) (adds (tops_of g) T H N C join (result_widths g.result) (top_last g.blocks (result_widths g.result) join is_join) (omega (arith, l, o)) (omega (arith, few))) h in
      record { books = r.books; kept = kept_as r.kept (omega arith) (λ u. refl); stored = r.stored }

  forked_within : {J : _} {P : ℕ → List Port} {G : ℕ → ℕ} {d : Draft} {ws : Shape} {L : ℕ → ℕ} (n : ℕ) → n + 2 < 2 ^ 32 → Within (heading g) S K J P G d ws L 0 → Within (heading g) S K J P G (control_forked n d) ws L n
  forked_within {J} {P} {G} {d} n few h = let s = fields.forked_still n d in settled d (control_forked n d) s.kept s.queues h.kept h.stored (forked_open n few h.open_ends)

  late_within : {J : _} {P : ℕ → List Port} {G : ℕ → ℕ} {d : Draft} {ws : Shape} {L : ℕ → ℕ} (t : Bool) (n : ℕ) → n + 2 < 2 ^ 32 → Within (heading g) S K J P G d ws L (cond t 0 n) → Within (heading g) S K J P G (control_forked (cond t n 0) d) ws L n
  late_within true n few h = forked_within n few h
  late_within false n few h = h

  bare_within : {J : _} {P : ℕ → List Port} {G : ℕ → ℕ} {d : Draft} {ws : Shape} {L : ℕ → ℕ} (n : ℕ) (j : Jump) → Within (heading g) S K J P G d ws L 0 → Within (heading g) S K J P G (bare_buffered n j d) ws L 0
  bare_within {J} {P} {G} {d} {ws} {L} n (Go to) h = by (length d.chans == n)
    where
      by : (t : Bool) → Within (heading g) S K J P G (cond t (buffered d) d) ws L 0
      by true = let b = buffered_open h.open_ends in record { open_ends = record { books = b.books; fits = b.fits; wide = b.wide; ahead = b.ahead; few = b.few }; kept = h.kept; stored = h.stored }
      by false = h
  bare_within n (Two c a b) h = h
  bare_within n (Return v) h = h

  early_most : (t : Bool) (n m : ℕ) → n ≤ m → cond t 0 n ≤ m
  early_most true n m l = omega arith
  early_most false n m l = l

  pub block_between : {P : ℕ → List Port} (ins b : ℕ) (k : Block) (xs : List Access) (d : Draft) (N : ℕ) (C : ℕ → ℕ) → IsBlock g k → Roomy k → AllStored S k.steps → slice_get (tops_of g) b ≡ Some k.args → 0 < length d.units → ((f : Weight) (h : ℕ) → K f b h ≡ waits f h k.args 0 ins) → T b ≡ ins
      → ((t : ℕ) → C t + jump_edges join k.jump t ≤ T t) → N + 3 < 2 ^ 32 → Between (heading g) S K (Kept (tops_of g) T b N C) (λ a. steps_ports a k.steps (P a)) (λ a. groups_in a xs) d
      → Between (heading g) S K (Kept (tops_of g) T (suc b) (N + 2) (λ t. C t + jump_edges join k.jump t)) P (λ a. groups_in a (after_block b xs)) (block_laid g.arrays join ins b k xs d)
  block_between {P} ins b k xs d N C block room stored top some wait total less few h =
      let us = uses k in
      let table = left_table k in
      let n = length k.args in
      let ws = map Some k.args in
      let wl : length ws ≡ n = length-map k.args Some in
      let cs = constants n k.steps us in
      let cm = constants_most n k.steps us in
      let num : number cs ≡ cs = omega (arith, cm, room) in
      let t = has_access b xs in
      let em = early_most t (number cs) (length k.steps) (omega (arith, cm, num)) in
      let x = head_within (heading g) ins b k.args us (early_triggers b k xs) d block.args top some (omega (arith, em, room)) (uses_few k room) wait total (let l = less b in omega (arith, l)) h in
      let e = block_opened ins b k xs d in
      let y = allocations_within b xs e ws x in
      let z = late_within t (number cs) (omega (arith, cm, num, room)) y in
      let G : ℕ → ℕ = λ a. groups_in a (after_block b xs) in
      let f = block_grouped ins b k xs d in
      let z1 : Within (heading g) S K (Kept (tops_of g) T (suc b) N C) (λ a. steps_ports a k.steps (P a)) G f ws (λ u. get_or (steps_added (length ws) k.steps table) u 0) (constants (length ws) k.steps us) =
      subst (λ m. Within (heading g) S K (Kept (tops_of g) T (suc b) N C) (λ a. steps_ports a k.steps (P a)) G f ws (λ u. get_or (steps_added m k.steps table) u 0) (constants m k.steps us)) (sym wl)
      (subst (λ m. Within (heading g) S K (Kept (tops_of g) T (suc b) N C) (λ a. steps_ports a k.steps (P a)) G f ws (λ u. get_or us u 0) m) num z) in
      let tl : length table ≡ n + length k.steps = jump_added_length k.jump (zeros (n + length k.steps)) ∙ zeros_length (n + length k.steps) in
      let q = steps_within P table us k.steps f ws block.steps stored (keeps.grouped_uses ins b k xs d) (omega (arith, tl, wl)) (λ u. let a = left_most k u (omega (arith, room)) in let m = many_all k.jump in omega (arith, a, m, room)) z1 in
      let v = bare_within (length d.chans) k.jump q in
      let after = shape_after g.arrays ws k.steps in
      let al = shape_length g.arrays ws k.steps in
      let m = many_all k.jump in
      let lens : length after ≡ n + length k.steps = omega (arith, al, wl) in
      jump_between (suc b) N C k.jump block.jump (omega (arith, room)) (omega (arith, lens, room))
      (λ u. left_is k u (subst (λ m. JumpBelow k.jump m) lens (jump_below g after k.jump block.jump)) (omega (arith, room)) (omega (arith, m, room)) ∙ ap (λ m. jump_uses k.jump m u) (sym lens)) less few v

  pub blocks_between : (counts : List ℕ) → (ks : List Block) (b : ℕ) (xs : List Access) (d : Draft) (N : ℕ) (C : ℕ → ℕ) → All (IsBlock g) ks → All Roomy ks → All (λ k. AllStored S k.steps) ks
      → ((i : ℕ) (k : Block) → slice_get ks i ≡ Some k → slice_get (tops_of g) (b + i) ≡ Some k.args) → ((f : Weight) (t h : ℕ) (args : List ℕ) → slice_get (tops_of g) t ≡ Some args → K f t h ≡ waits f h args 0 (ins_of counts t)) → b + length ks < 2 ^ 32 → ((t : ℕ) → t < b + length ks → T t ≡ ins_of counts t) → 0 < length d.units
      → ((t : ℕ) → C t + all_edges join ks t ≤ T t) → N + 2 * length ks + 3 < 2 ^ 32 → Between (heading g) S K (Kept (tops_of g) T b N C) (blocks_ports ks) (λ a. groups_in a xs) d
      → Between (heading g) S K (Kept (tops_of g) T (b + length ks) (N + 2 * length ks) (λ t. C t + all_edges join ks t)) (λ a. []) (λ a. groups_in a (all_after b ks xs)) (blocks_laid g.arrays join counts b ks xs d)
  blocks_between counts [] b xs d N C a r s t wait few total some less room h =
      let z : b ≡ b + 0 = omega arith in
      record { books = h.books; kept = subst (λ n. Kept (tops_of g) T n (N + 2 * 0) (λ t. C t + 0) d.edges d.heads d.tails) z (kept_as h.kept (omega arith) (λ t. omega arith)); stored = h.stored }
  blocks_between counts (k ∷ ks) b xs d N C a r s t wait few total some less room h =
      let ins = ins_of counts b in
      let top : slice_get (tops_of g) b ≡ Some k.args = ap (λ n. slice_get (tops_of g) n) (let z : b ≡ b + 0 = omega arith in z) ∙ t 0 k refl in
      let x = block_between ins b k xs d N C (All-head (IsBlock g) k ks a) (All-head Roomy k ks r) (All-head (λ k. AllStored S k.steps) k ks s) top some (λ f h. wait f b h k.args top) (total b (omega arith)) (λ t. let l = less t in omega (arith, l)) (omega (arith, room)) h in
      let v = block_laid g.arrays join ins b k xs d in
      let next : suc b ≡ plus b 1 = omega (arith, few) in
      let C2 : ℕ → ℕ = λ t. C t + jump_edges join k.jump t in
      let i : Between (heading g) S K (Kept (tops_of g) T (plus b 1) (N + 2) C2) (blocks_ports ks) (λ a. groups_in a (after_block b xs)) v = subst (λ n. Between (heading g) S K (Kept (tops_of g) T n (N + 2) C2) (blocks_ports ks) (λ a. groups_in a (after_block b xs)) v) next x in
      let q = blocks_between counts ks (plus b 1) (after_block b xs) v (N + 2) C2 (All-tail (IsBlock g) k ks a) (All-tail Roomy k ks r) (All-tail (λ k. AllStored S k.steps) k ks s)
      (λ i q e. ap (λ n. slice_get (tops_of g) n) (let z : plus b 1 + i ≡ b + suc i = omega (arith, next) in z) ∙ t (suc i) q e) wait (omega (arith, next, few)) (λ t l. total t (omega (arith, next, l))) (some_kept g.arrays join ins b k xs d some) (λ t. let l = less t in omega (arith, l)) (omega (arith, room)) i in
      let z : plus b 1 + length ks ≡ b + suc (length ks) = omega (arith, next) in
      record {
        books = q.books;
        kept = subst (λ n. Kept (tops_of g) T n (N + 2 * suc (length ks)) (λ t. C t + all_edges join (k ∷ ks) t) (blocks_laid g.arrays join counts b (k ∷ ks) xs d).edges (blocks_laid g.arrays join counts b (k ∷ ks) xs d).heads (blocks_laid g.arrays join counts b (k ∷ ks) xs d).tails) z
            (kept_as q.kept (omega arith) (λ t. omega arith));
        stored = q.stored;
      }
