-- What is kept of the edges from block to block: how many values each hands on, and the last one to each target.
use Rattle.std.proofs.Common.{◌≡◌, ℕ, zero, suc, ◌+◌, ◌*◌, ◌^◌, ◌<◌, ◌≤◌, List, [], ◌∷◌, ◌++◌, length, length-append, get_or, map, Bool, true, false, Option, Some, None, refl, sym, ap, ◌∙◌, subst, inl, inr, arith, append-nil, append_assoc}
use Rattle.std.specs.Prelude.{cond, ◌==◌, slice_get, All}
use Rattle.std.proofs.lemmas.Bool.{cases_lt, eqb-true}
use Rattle.std.proofs.lemmas.List.{length-map}
use Rattle.std.proofs.lemmas.Option.{get_or_from_slice_get, slice_get_within}
use Rattle.el_base.specs.declared.ty.Array.{Array}
use Rattle.el_base.specs.declared.ty.Scalar.{Scalar}
use Rattle.el_base.specs.Widths.{ty_width}
use Rattle.ir.specs.declared.graph.Block.{Block}
use Rattle.ir.specs.declared.graph.Jump.{Jump}
use Rattle.ir.specs.declared.graph.Jump.TheVariants.{Go, Two, Return}
use Rattle.ir.specs.declared.graph.To.{To}
use Rattle.ir.specs.declared.groups.Access.{Access}
use Rattle.ir.specs.declared.groups.Groups.{Groups}
use Rattle.ir.specs.Graphs.{Graph, IsGraph, IsBlock, IsJump, IsReturn, AreHanded, shape_of}
use Rattle.ir.specs.Shapes.{Shape}
use Rattle.net_types.specs.declared.net.Port.{Port}
use Rattle.net_types.specs.declared.net.Unit.TheVariants.{Branch, Param}
use Rattle.net_types.specs.Nets.{at}
use Rattle.circuit_build.specs.declared.draft.Draft.{Draft}
use Rattle.circuit_build.specs.declared.draft.Edge.{Edge}
use Rattle.circuit_build.specs.declared.draft.End.{End}
use Rattle.circuit_build.specs.Blocks.{numbered, tail_of, ins_of, block_worked, block_laid}
use Rattle.circuit_build.specs.Built.{join_of, front_of}
use Rattle.circuit_build.specs.Drafts.{number, plus, next, with_unit, with_chan, with_control, used}
use Rattle.circuit_build.specs.Edges.{edge_counts}
use Rattle.circuit_build.specs.Endings.{result_widths, zero_laid, zeros_laid, zero_ends, fed_by_itself, feeder_if, feeders_laid}
use Rattle.circuit_build.specs.Fronts.{started, params_laid, param_ends, entered, queue_if, queues_laid, ports_of, groups_from, depth_from}
use Rattle.circuit_build.specs.Jumps.{passed_ends, taken, yes_ends, no_ends, result_list, jump_laid}
use Rattle.circuit_build.specs.Uses.{zeros}
use Rattle.circuit_build.proofs.Fields.{Kept, kept_own, kept_then, forked_still}
use Rattle.circuit_build.proofs.LayBlocks.{args_of, gone_edge, yes_edge, no_edge}
use Rattle.circuit_build.proofs.LayLists.{led, all_led, side_edges, before_edges, before_kept, jump_led, block_edges, worked_edges, worked_tails}
use Rattle.circuit_build.proofs.LayTails.{Stands, TailsAre, last_to, later, led_stands, all_led_stands, stands_as, tail_is}
use Rattle.circuit_build.proofs.Targets.{tops_of, top_at, top_last}

-- ---- lists of edges

get_split : {X : Type 0} → (xs ys : List X) (i : ℕ) (x : X) (P : X → Type 0) → slice_get (xs ++ ys) i ≡ Some x → ((j : ℕ) → slice_get xs j ≡ Some x → P x) → ((j : ℕ) → slice_get ys j ≡ Some x → P x) → P x
get_split [] ys i x P e f h = h i e
get_split (y ∷ xs) ys zero x P e f h = f 0 e
get_split (y ∷ xs) ys (suc i) x P e f h = get_split xs ys i x P e (λ j s. f (suc j) s) h

pub last_at : (t : ℕ) (es : List Edge) (e : Edge) → last_to t es ≡ Some e → (e.to ≡ t) × (i : ℕ) × (slice_get es i ≡ Some e)
last_at t [] e s = absurd (cc)
last_at t (x ∷ es) e s = by (last_to t es) (x.to == t) refl refl (λ y z. last_at t es y z)
  where
    by : (o : Option Edge) (b : Bool) → last_to t es ≡ o → (x.to == t) ≡ b → ((y : Edge) → last_to t es ≡ Some y → (y.to ≡ t) × (i : ℕ) × (slice_get es i ≡ Some y)) → (e.to ≡ t) × (i : ℕ) × (slice_get (x ∷ es) i ≡ Some e)
    by (Some y) b p q h =
        let z : last_to t (x ∷ es) ≡ Some y = ap (λ o. later o (cond (x.to == t) (Some x) None)) p in
        let same : y ≡ e = cc in
        let r = h e (p ∙ ap Some same) in
        (r.0, suc r.1, r.2)
    by None true p q h =
        let z : last_to t (x ∷ es) ≡ Some x = ap (λ o. later o (cond (x.to == t) (Some x) None)) p ∙ ap (λ b. cond b (Some x) None) q in
        let same : x ≡ e = cc in
        (ap (λ (y : Edge). y.to) (sym same) ∙ eqb-true x.to t q, 0, ap Some same)
    by None false p q h =
        let z : last_to t (x ∷ es) ≡ None = ap (λ o. later o (cond (x.to == t) (Some x) None)) p ∙ ap (λ b. cond b (Some x) None) q in
        absurd (cc)

-- ---- how many values an edge hands on

pub handed_many : (ws : Shape) (vs args : List ℕ) → AreHanded ws vs args → length vs ≡ length args
handed_many ws [] [] h = refl
handed_many ws [] (w ∷ args) h = absurd h
handed_many ws (v ∷ vs) [] h = absurd h
handed_many ws (v ∷ vs) (w ∷ args) h = ap suc (handed_many ws vs args h.1)

passed_many : (m n : ℕ) (vs : List ℕ) (d : Draft) → length (passed_ends m n vs d) ≡ length vs
passed_many m n [] d = refl
passed_many m n (v ∷ vs) d = ap suc (passed_many m n vs _)

taken_many : (vs : List ℕ) (es : List (Option End)) → length (taken vs es) ≡ length vs
taken_many [] es = refl
taken_many (v ∷ vs) es = ap suc (taken_many vs _)

zeros_many : (ws : List ℕ) (d : Draft) → length (zero_ends ws d) ≡ length ws
zeros_many [] d = refl
zeros_many (w ∷ ws) d = ap suc (zeros_many ws (zero_laid w d))

pub params_many : (j : ℕ) (ss : List Scalar) (d : Draft) → length (param_ends j ss d) ≡ length ss
params_many j [] d = refl
params_many j (s ∷ ss) d = ap suc (params_many (plus j 1) ss (with_unit (Param j) d))

return_many : (g : Graph) (ws : Shape) (v : Option ℕ) → IsReturn g.result ws v → length (result_list v) ≡ length (result_widths g.result)
return_many g ws v h = by g.result v h
  where
    by : (r : Option _) (v : Option ℕ) → IsReturn r ws v → length (result_list v) ≡ length (result_widths r)
    by None None h = refl
    by (Some t) (Some v) h = refl
    by None (Some v) h = absurd h
    by (Some t) None h = absurd h

-- ---- the front and the blocks

params_kept : (j : ℕ) (ss : List Scalar) (d : Draft) → Kept d (params_laid j ss d)
params_kept j [] d = kept_own d
params_kept j (s ∷ ss) d = let i = params_kept (plus j 1) ss (with_unit (Param j) d) in record { uses = i.uses; edges = i.edges; heads = i.heads; tails = i.tails }

queue_kept : (a : ℕ) (ps : List Port) (gs : List (List ℕ)) (m : ℕ) (d : Draft) → Kept d (queue_if a ps gs m d)
queue_kept a ps [] m d = record { uses = refl; edges = refl; heads = refl; tails = refl }
queue_kept a ps (g ∷ gs) m d = record { uses = refl; edges = refl; heads = refl; tails = refl }

queues_kept : (ks : List Block) (of : List Access) (a : ℕ) (xs : List Array) (d : Draft) → Kept d (queues_laid ks of a xs d)
queues_kept ks of a [] d = kept_own d
queues_kept ks of a (x ∷ xs) d =
    let e = queue_if a (ports_of a ks of) (groups_from a 0 of) (depth_from a 16 of) d in
    kept_then d e (queues_laid ks of (plus a 1) xs e) (queue_kept a (ports_of a ks of) (groups_from a 0 of) (depth_from a 16 of) d) (queues_kept ks of (plus a 1) xs e)

zeros_long : (n : ℕ) → length (zeros n) ≡ n
zeros_long zero = refl
zeros_long (suc n) = let a = length-append (zeros n) (0 ∷ []) in let i = zeros_long n in omega (arith, a, i)

push_zero : (xs : List ℕ) (u : ℕ) → get_or (xs ++ 0 ∷ []) u 0 ≡ get_or xs u 0
push_zero [] zero = refl
push_zero [] (suc u) = refl
push_zero (x ∷ xs) zero = refl
push_zero (x ∷ xs) (suc u) = push_zero xs u

zero_at : (n u : ℕ) → get_or (zeros n) u 0 ≡ 0
zero_at zero u = refl
zero_at (suc n) u = push_zero (zeros n) u ∙ zero_at n u

module _ (g : Graph) where
  abbrev pub targets : ℕ
  targets = suc (length g.blocks)

  -- each edge has a value for each argument of its target
  abbrev pub AllFit : List Edge → Type 0
  AllFit es = (i : ℕ) (e : Edge) → slice_get es i ≡ Some e → length e.with ≡ length (args_of g e.to)

  pub record Held (n : ℕ) (d : Draft) : Type 0 where
    pub tails : Stands targets d
    pub fit : AllFit d.edges
    pub few : length d.edges ≤ n

  pub args_at : (b : ℕ) (k : Block) → slice_get g.blocks b ≡ Some k → args_of g b ≡ k.args
  args_at b k e = get_or_from_slice_get (tops_of g) b k.args [] (top_at g.blocks (result_widths g.result) b k e)

  pub args_last : (b : ℕ) → b ≡ length g.blocks → args_of g b ≡ result_widths g.result
  args_last b e = get_or_from_slice_get (tops_of g) b (result_widths g.result) [] (top_last g.blocks (result_widths g.result) b e)

  all_fit : (xs ys : List Edge) → AllFit xs → AllFit ys → AllFit (xs ++ ys)
  all_fit xs ys f h i e s = get_split xs ys i e (λ e. length e.with ≡ length (args_of g e.to)) s (λ j t. f j e t) (λ j t. h j e t)

  one_fit : (x : Edge) → length x.with ≡ length (args_of g x.to) → AllFit (x ∷ [])
  one_fit x h zero e s = let same : x ≡ e = cc in subst (λ (y : Edge). length y.with ≡ length (args_of g y.to)) same h
  one_fit x h (suc i) e s = absurd (cc)

  target_many : (ws : Shape) (to : To) (block : Block) → slice_get g.blocks to.block ≡ Some block → AreHanded ws to.with block.args → length to.with ≡ length (args_of g to.block)
  target_many ws to block e h = handed_many ws to.with block.args h ∙ sym (ap (λ (xs : List ℕ). length xs) (args_at to.block block e))

  pub join_number : length g.blocks ≤ 32768 → join_of g ≡ length g.blocks
  join_number l = omega (arith, l)

  sides_fit : length g.blocks ≤ 32768 → (ws : Shape) (j : Jump) (d : Draft) → IsJump g ws j → AllFit (side_edges (join_of g) j d)
  sides_fit l ws (Go to) d h = one_fit (gone_edge to.block to.with d) (passed_many (get_or d.heads to.block 0) (number (length to.with)) to.with d ∙ target_many ws to h.block h.exists h.handed)
  sides_fit l ws (Two c a b) d h =
      let x = h.1 in
      let y = h.2 in
      all_fit (yes_edge c a b d ∷ []) (no_edge c a b d ∷ [])
      (one_fit (yes_edge c a b d) (taken_many a.with _ ∙ target_many ws a x.block x.exists x.handed))
      (one_fit (no_edge c a b d) (taken_many b.with _ ∙ target_many ws b y.block y.exists y.handed))
  sides_fit l ws (Return v) d h =
      one_fit (gone_edge (join_of g) (result_list v) d)
      (passed_many (get_or d.heads (join_of g) 0) (number (length (result_list v))) (result_list v) d ∙ return_many g ws v h ∙ sym (ap (λ (xs : List ℕ). length xs) (args_last (join_of g) (join_number l))))

  pub sides_few : (j : Jump) (d : Draft) → length (side_edges (join_of g) j d) ≤ 2
  sides_few (Go to) d = omega arith
  sides_few (Two c a b) d = omega arith
  sides_few (Return v) d = omega arith

  pub held_block : (n b : ℕ) (k : Block) (xs : List Access) (d : Draft) → length g.blocks ≤ 32768 → IsBlock g k → n + 2 < 2 ^ 32 → Held n d → Held (n + 2) (block_laid g.arrays (join_of g) (ins_of (edge_counts g.blocks) b) b k xs d)
  held_block n b k xs d low fine room h =
      let ins = ins_of (edge_counts g.blocks) b in
      let w = block_worked g.arrays ins b k xs d in
      let x = before_edges (join_of g) k.jump w in
      let es = side_edges (join_of g) k.jump w in
      let kept = before_kept (join_of g) k.jump w in
      let e1 = kept.edges ∙ worked_edges g.arrays (join_of g) ins b k xs d in
      let t1 = kept.tails ∙ worked_tails g.arrays (join_of g) ins b k xs d in
      let f = h.few in
      let l = ap (λ (ys : List Edge). length ys) e1 in
      let m = sides_few k.jump w in
      let all = block_edges g.arrays (join_of g) ins b k xs d in
      let n1 = ap (λ (ys : List Edge). length ys) all in
      let n2 = length-append d.edges es in
      record {
        tails = subst (Stands targets) (sym (jump_led (join_of g) k.jump w)) (all_led_stands targets es x (omega (arith, l, m, f, room)) (stands_as targets d x e1 t1 h.tails));
        fit = subst AllFit (sym all) (all_fit d.edges es h.fit (sides_fit low (shape_of g k) k.jump w fine.jump));
        few = omega (arith, n1, n2, m, f);
      }

  started_stands : Stands targets (started (length g.blocks + 1))
  started_stands =
      let n = length g.blocks + 1 in
      let l = zeros_long n in
      record {
        tails = record { many = omega (arith, l); each = λ t lt. ap (λ m. numbered m []) (zero_at n t) };
        within = λ t. let z = zero_at n t in omega (arith, z);
      }

  pub held_front : (gs : Groups) → IsGraph g → Held 1 (front_of g gs)
  held_front gs fine =
      let n = length g.blocks + 1 in
      let s = started n in
      let p = params_laid 0 g.scalars s in
      let k = params_kept 0 g.scalars s in
      let f = entered g.scalars s in
      let q = queues_kept g.blocks gs.of 0 g.arrays f in
      let x : Edge = record { to = 0; control = at 0 0; with = param_ends 0 g.scalars s } in
      let l = ap (λ (ys : List Edge). length ys) k.edges in
      let own = stands_as targets s p k.edges k.tails started_stands in
      let edges : (front_of g gs).edges ≡ x ∷ [] = q.edges ∙ ap (λ es. es ++ x ∷ []) k.edges in
      let many : length (param_ends 0 g.scalars s) ≡ length (args_of g 0) =
      params_many 0 g.scalars s ∙ sym (length-map g.scalars (λ s. ty_width s.ty)) ∙ sym (ap (λ (ws : List ℕ). length ws) (args_at 0 fine.entry fine.first ∙ fine.scalars)) in
      let m = ap (λ (ys : List Edge). length ys) edges in
      record {
        tails = stands_as targets f (front_of g gs) q.edges q.tails (led_stands targets x p (omega (arith, l)) own);
        fit = subst AllFit (sym edges) (one_fit x many);
        few = omega (arith, m);
      }

  -- the edge of a head
  pub held_tail : (n ins t : ℕ) (d : Draft) (e : Edge) → t < targets → Held n d → tail_of ins t d ≡ Some e → length e.with ≡ length (args_of g t)
  held_tail n ins t d e lt h s = by (ins == 1) (sym (tail_is targets ins t d lt h.tails) ∙ s)
    where
      by : (b : Bool) → cond b (last_to t d.edges) None ≡ Some e → length e.with ≡ length (args_of g t)
      by true z = let r = last_at t d.edges e z in h.fit r.1 e r.2 ∙ ap (λ u. length (args_of g u)) r.0
      by false z = absurd (cc)

  -- ---- feeders

  zeros_kept : (ws : List ℕ) (d : Draft) → Kept d (zeros_laid ws d)
  zeros_kept [] d = kept_own d
  zeros_kept (w ∷ ws) d = let i = zeros_kept ws (zero_laid w d) in record { uses = i.uses; edges = i.edges; heads = i.heads; tails = i.tails }

  pub held_feeder : (n c t : ℕ) (ws : List ℕ) (d : Draft) → n + 1 < 2 ^ 32 → length ws ≡ length (args_of g t) → Held n d → Held (n + 1) (feeder_if c t ws d)
  held_feeder n (suc c) t ws d room e h = let f = h.few in record { tails = h.tails; fit = h.fit; few = omega (arith, f) }
  held_feeder n zero t ws d room e h =
      let m = number (length ws) in
      let k = with_control (at (next d) 0) (with_chan (at (next d) 1) (at (next d) 1) 32 true (with_unit (Branch 32) d)) in
      let s = forked_still (plus m 1) k in
      let y = fed_by_itself m d in
      let z = zeros_laid ws y in
      let r = zeros_kept ws y in
      let x : Edge = record { to = t; control = z.control; with = zero_ends ws y } in
      let edges : z.edges ≡ d.edges = r.edges ∙ s.kept.edges in
      let tails : z.tails ≡ d.tails = r.tails ∙ s.kept.tails in
      let f = h.few in
      let l = ap (λ (ys : List Edge). length ys) edges in
      let l2 = length-append z.edges (x ∷ []) in
      record {
        tails = led_stands targets x z (omega (arith, l, f, room)) (stands_as targets d z edges tails h.tails);
        fit = all_fit z.edges (x ∷ []) (subst AllFit (sym edges) h.fit) (one_fit x (zeros_many ws y ∙ e));
        few = omega (arith, l, l2, f);
      }

  pub held_feeders : (n b : ℕ) (counts : List ℕ) (ks : List Block) (d : Draft) → n + length ks < 2 ^ 32 → b + length ks < 2 ^ 32 → ((i : ℕ) (k : Block) → slice_get ks i ≡ Some k → slice_get g.blocks (b + i) ≡ Some k) → Held n d → Held (n + length ks) (feeders_laid counts b ks d)
  held_feeders n b counts [] d room few at_b h = subst (λ m. Held m d) (let z : n ≡ n + 0 = omega arith in z) h
  held_feeders n b counts (k ∷ ks) d room few at_b h =
      let p : plus b 1 ≡ suc b = omega (arith, few) in
      let here : slice_get g.blocks b ≡ Some k = ap (slice_get g.blocks) (let z : b ≡ b + 0 = omega arith in z) ∙ at_b 0 k refl in
      let e = feeder_if (get_or counts b 0) b k.args d in
      let one = held_feeder n (get_or counts b 0) b k.args d (omega (arith, room)) (sym (ap (λ (ws : List ℕ). length ws) (args_at b k here))) h in
      let rest = held_feeders (n + 1) (plus b 1) counts ks e (omega (arith, room)) (omega (arith, few, p)) (λ i q t. ap (slice_get g.blocks) (let z : plus b 1 + i ≡ b + suc i = omega (arith, p) in z) ∙ at_b (suc i) q t) one in
      subst (λ m. Held m (feeders_laid counts (plus b 1) ks e)) (let z : n + 1 + length ks ≡ n + length (k ∷ ks) = omega arith in z) rest
