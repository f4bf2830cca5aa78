-- One block made anew: the graph is well formed, and each visit leads as before or past its arm.
use Rattle.std.proofs.Common.{◌≡◌, ◌≢◌, ℕ, zero, suc, ◌+◌, ◌<◌, List, [], ◌++◌, map, length, Some, refl, sym, ◌∙◌, ap, subst, arith, inl, inr, append-nil}
use Rattle.std.specs.Prelude.{set, All}
use Rattle.std.specs.List.{flat_map}
use Rattle.std.proofs.lemmas.Bool.{cases_eq}
use Rattle.std.proofs.lemmas.Grind.{flat_map-append}
use Rattle.std.proofs.lemmas.Option.{slice_get-get_or, slice_get_within}
use Rattle.std.proofs.lemmas.List.{get_or-set_same, get_or-set_other, length-set}
use Rattle.ir.specs.declared.instr.Instr.{Instr}
use Rattle.ir.specs.declared.graph.Block.{Block}
use Rattle.ir.specs.declared.graph.Jump.{Jump}
use Rattle.ir.specs.declared.graph.Jump.TheVariants.{Go, Two, Return}
use Rattle.ir.specs.declared.graph.To.{To}
use Rattle.ir.specs.Accesses.{accesses_in}
use Rattle.ir.specs.Steps.{Work, value_at, through, beginning}
use Rattle.ir.specs.Visits.{Visit, Onward, onto, Passage, next_of}
use Rattle.ir.specs.Shapes.{Shape, IsWidth, IsOfWidth, shape_after}
use Rattle.ir.specs.Graphs.{Graph, IsGraph, IsBlock, IsJump, IsTarget, AreHanded, shape_of, handed, side, onward_of, no_block, block_at, passage}
use Rattle.block_merge.specs.Renamed.{block_of}
use Rattle.block_merge.specs.Merged.{with_blocks}
use Rattle.block_merge.specs.Parts.{given_on}
use Rattle.block_merge.specs.Found.{stored_by, stored_in}
use Rattle.block_merge.proofs.JoinedValues.{widths}
use Rattle.block_merge.proofs.JoinedBlocks.{shape_append, fit_append}
use Rattle.block_merge.proofs.Blocks.{graph_of, target_of, some_blocks}
use Rattle.block_merge.proofs.Visiting.{is_block, Fits, by_block}
use Rattle.block_merge.proofs.Works.{through_append}
use Rattle.block_select.specs.declared.arms.Way.{Way}
use Rattle.block_select.specs.declared.arms.Way.TheVariants.{Direct, ByArm}
use Rattle.block_select.specs.declared.arms.Meeting.{Meeting}
use Rattle.block_select.specs.Arms.{side_end}
use Rattle.block_select.specs.Choices.{choices, chosen_values, select_of}
use Rattle.block_select.specs.Selected.{along, selected_block}
use Rattle.block_select.proofs.Quiet.{quiet_arrays, quiet_strays, quiet_stores}
use Rattle.block_select.proofs.Meetings.{Meets, leads_by}
use Rattle.block_select.proofs.Sides.{AlongSide, along_side, along_block, arm_visit, side_onward, side_same, along_hands, along_width, along_target, end_hands, along_arrays, along_strays, along_values, along_value, end_leads}
use Rattle.block_select.proofs.Choosing.{selects_quiet, choosing_fits, choosing_hands, choosing_leads}
use Rattle.block_pass.proofs.Runs.{AlikeOrPast}

-- block k has a condition, and its sides meet
pub record Chooses (g : Graph) (k c : ℕ) (yes_part no_part : To) (m : Meeting) : Type 0 where
  pub graph : IsGraph g
  pub within : k < length g.blocks
  pub decides : (block_at g k).jump ≡ Two c yes_part no_part
  pub meets : Meets g.blocks k yes_part no_part m

-- a visit of f that leads along a side leads by h where the way of the side leads
along_way : (g : Graph) (p q : Visit → Passage) (k : ℕ) (v : Visit) (to : To) (w : Way) (j : ℕ) (one : Work) → p ≡ passage g → side_end g.blocks k to w ≡ Some j
    → (p v).onward ≡ handed one.values to → (p v).arrays ≡ one.arrays → (p v).strays ≡ one.strays
    → (q v).onward ≡ side_onward g to w one → (q v).arrays ≡ one.arrays → (q v).strays ≡ one.strays → AlikeOrPast p q v
along_way g p q k v to Direct j one is ends a b c x y z = inl (record { onward = x ∙ sym a; arrays = y ∙ sym b; strays = z ∙ sym c })
along_way g p q k v to ByArm j one is ends a b c x y z =
    let l = leads_by g.blocks k to j ends in
    let begins : Work = beginning (map (value_at one.values) to.with) one.arrays in
    let next = arm_visit to one in
    let n : p next ≡ passage g next = ap (λ (f : Visit → Passage). f next) is in
    let quiet = quiet_strays (block_at g to.block).steps begins l.quiet in
    let still : (p next).strays ≡ 0 = ap (λ (o : Passage). o.strays) n ∙ quiet in
    inr (record {
      next = next;
      is_next = ap (λ o. next_of o (p v).arrays) a ∙ ap (next_of (handed one.values to)) b;
      onward = x ∙ ap (λ (o : Passage). o.onward) (sym n);
      arrays = y ∙ (sym (quiet_arrays (block_at g to.block).steps begins l.quiet) ∙ ap (λ (o : Passage). o.arrays) (sym n));
      strays = omega (arith, z, c, still);
    })

module _ (g : Graph) (k c : ℕ) (yes_part no_part : To) (m : Meeting) (is : Chooses g k c yes_part no_part m) where
  abbrev b : Block
  b = block_at g k

  abbrev new : Block
  new = selected_block g.blocks b c yes_part no_part m

  abbrev bs : List Block
  bs = set g.blocks k new

  abbrev pub h : Graph
  h = with_blocks g (set g.blocks k (selected_block g.blocks (block_at g k) c yes_part no_part m))

  pub is_b : IsBlock g b
  is_b = is_block g is.graph k is.within

  pub jump_fits : IsJump g (shape_of g b) (Two c yes_part no_part)
  jump_fits = subst (IsJump g (shape_of g b)) is.decides is_b.jump

  -- ---- along the one side, and along the other behind it

  abbrev p1 : Block
  p1 = along g.blocks b yes_part m.yes

  pub first : AlongSide g b yes_part m.yes m.block p1
  first = along_side g is.graph b is_b k yes_part jump_fits.1 m.yes m.block is.meets.yes_end

  pub is_p1 : IsBlock g p1
  is_p1 = along_block g b yes_part m.yes m.block p1 is_b first

  abbrev p2 : Block
  p2 = along g.blocks p1 no_part m.no

  pub no_target : IsTarget g.blocks (shape_of g p1) no_part
  no_target = along_target g b yes_part m.yes m.block p1 first g.blocks no_part jump_fits.2

  pub second : AlongSide g p1 no_part m.no m.block p2
  second = along_side g is.graph p1 is_p1 k no_part no_target m.no m.block is.meets.no_end

  pub is_p2 : IsBlock g p2
  is_p2 = along_block g p1 no_part m.no m.block p2 is_p1 second

  -- ---- the block where both meet

  pub j_within : m.block < length g.blocks
  j_within = let t = second.target in slice_get_within g.blocks m.block t.block t.exists

  abbrev ws : List ℕ
  ws = (block_of g.blocks m.block).args

  abbrev xs : List ℕ
  xs = given_on p1.jump

  abbrev ys : List ℕ
  ys = given_on p2.jump

  j_args : All IsWidth ws
  j_args = (is_block g is.graph m.block j_within).args

  pub x1 : AreHanded (shape_of g p1) xs ws
  x1 = end_hands g b yes_part m.yes m.block p1 first

  x2 : AreHanded (shape_of g p2) xs ws
  x2 = along_hands g p1 no_part m.no m.block p2 second xs ws x1

  pub y2 : AreHanded (shape_of g p2) ys ws
  y2 = end_hands g p1 no_part m.no m.block p2 second

  c1 : IsOfWidth (shape_of g p1) c 32
  c1 = along_width g b yes_part m.yes m.block p1 first c 32 jump_fits.0

  c2 : IsOfWidth (shape_of g p2) c 32
  c2 = along_width g p1 no_part m.no m.block p2 second c 32 c1

  abbrev sels : List Instr
  sels = map (select_of c) (choices ws xs ys [])

  -- ---- well formed

  pub same_args_new : (selected_block g.blocks (block_at g k) c yes_part no_part m).args ≡ (block_at g k).args
  same_args_new = second.args ∙ first.args

  at_new : block_of bs k ≡ new
  at_new = get_or-set_same g.blocks k new no_block is.within

  at_other : (n : ℕ) → n ≢ k → block_of bs n ≡ block_at g n
  at_other n ne = get_or-set_other g.blocks k n new no_block ne

  long : length bs ≡ length g.blocks
  long = length-set g.blocks k new

  pub same_args : (n : ℕ) → (block_of (set g.blocks k (selected_block g.blocks (block_at g k) c yes_part no_part m)) n).args ≡ (block_at g n).args
  same_args n = elim (cases_eq n k) [
    | inl e ↦ ap (λ (x : Block). x.args) (ap (block_of bs) e ∙ at_new) ∙ (same_args_new ∙ ap (λ i. (block_at g i).args) (sym e))
    | inr ne ↦ ap (λ (x : Block). x.args) (at_other n ne)
  ]

  kept : (shape : Shape) (t : To) → IsTarget g.blocks shape t → IsTarget bs shape t
  kept shape t h = target_of g.blocks bs shape t h (let l = slice_get_within g.blocks t.block h.block h.exists in omega (arith, l, long)) (same_args t.block)

  kept_jump : (shape : Shape) (x : Jump) → IsJump g shape x → IsJump (with_blocks g bs) shape x
  kept_jump shape (Go t) h = kept shape t h
  kept_jump shape (Two v x y) h = (h.0, kept shape x h.1, kept shape y h.2)
  kept_jump shape (Return v) h = h

  abbrev after : Shape
  after = shape_after g.arrays (shape_of g p2) sels

  abbrev end : To
  end = record { block = m.block; with = chosen_values (length p2.args + length p2.steps) (choices ws xs ys []) ws xs ys }

  end_target : IsTarget g.blocks after end
  end_target = record {
    block = block_at g m.block;
    exists = slice_get-get_or g.blocks m.block no_block j_within;
    no_entry = second.target.no_entry;
    handed = choosing_hands g p2 c ws xs ys is_p2 c2 j_args x2 y2;
  }

  new_fits : IsBlock (with_blocks g bs) new
  new_fits =
      let e : shape_of g new ≡ after = shape_append g.arrays (widths p2.args) p2.steps sels in
      record {
        args = is_p2.args;
        steps = fit_append g.arrays (widths p2.args) p2.steps sels is_p2.steps (choosing_fits g p2 c ws xs ys is_p2 c2 j_args x2 y2);
        jump = subst (λ s. IsTarget bs s end) (sym e) (kept after end end_target);
      }

  fits_block : (n : ℕ) → n < length bs → IsBlock (with_blocks g bs) (block_of bs n)
  fits_block n lt = elim (cases_eq n k) [
    | inl e ↦ subst (IsBlock (with_blocks g bs)) (sym (ap (block_of bs) e ∙ at_new)) new_fits
    | inr ne ↦
        let x = block_at g n in
        let i = is_block g is.graph n (omega (arith, lt, long)) in
        subst (IsBlock (with_blocks g bs)) (sym (at_other n ne)) (record { args = i.args; steps = i.steps; jump = kept_jump (shape_of g x) x.jump i.jump })
  ]

  pub new_graph : IsGraph (with_blocks g (set g.blocks k (selected_block g.blocks (block_at g k) c yes_part no_part m)))
  new_graph = graph_of g bs is.graph (let l = some_blocks g is.graph in omega (arith, l, long)) (same_args 0) fits_block

  -- ---- stores

  more_stores : (x y : List Instr) → accesses_in y ≡ 0 → flat_map stored_by (x ++ y) ≡ flat_map stored_by x
  more_stores x y quiet =
      flat_map-append stored_by x y ∙ (ap (λ l. flat_map stored_by x ++ l) (quiet_stores y quiet) ∙ append-nil (flat_map stored_by x))

  new_stores : stored_in new ≡ stored_in b
  new_stores =
      more_stores p2.steps sels (selects_quiet c (choices ws xs ys []))
      ∙ (ap (flat_map stored_by) second.steps ∙ (more_stores p1.steps second.more second.quiet
      ∙ (ap (flat_map stored_by) first.steps ∙ more_stores b.steps first.more first.quiet)))

  pub same_stores : (n : ℕ) → stored_in (block_of (set g.blocks k (selected_block g.blocks (block_at g k) c yes_part no_part m)) n) ≡ stored_in (block_at g n)
  same_stores n = elim (cases_eq n k) [
    | inl e ↦ ap stored_in (ap (block_of bs) e ∙ at_new) ∙ (new_stores ∙ ap (λ i. stored_in (block_at g i)) (sym e))
    | inr ne ↦ ap stored_in (at_other n ne)
  ]

  -- ---- visits of block k

  module _ (us : List ℕ) (zs : List (List ℕ)) (long_us : length us ≡ length b.args) where
    abbrev v : Visit
    v = record { block = k; given = us; arrays = zs }

    abbrev one : Work
    one = through b.steps (beginning us zs)

    abbrev w1 : Work
    w1 = through p1.steps (beginning us zs)

    abbrev w2 : Work
    w2 = through p2.steps (beginning us zs)

    abbrev w3 : Work
    w3 = through (p2.steps ++ sels) (beginning us zs)

    long_1 : length us ≡ length p1.args
    long_1 = long_us ∙ ap length (sym first.args)

    long_2 : length us ≡ length p2.args
    long_2 = long_1 ∙ ap length (sym second.args)

    passage_is : passage h v ≡ by_block new us zs
    passage_is = ap (λ (x : Block). by_block x us zs) at_new

    abbrev yes_onward : Onward
    yes_onward = side_onward g yes_part m.yes one

    abbrev no_onward : Onward
    no_onward = side_onward g no_part m.no one

    cond_is : value_at w2.values c ≡ value_at one.values c
    cond_is = along_value g p1 no_part m.no m.block p2 second us zs long_1 c 32 c1 ∙ along_value g b yes_part m.yes m.block p1 first us zs long_us c 32 jump_fits.0

    yes_leads : onto m.block (map (value_at w2.values) xs) ≡ yes_onward
    yes_leads = ap (onto m.block) (along_values g p1 no_part m.no m.block p2 second us zs long_1 xs ws x1) ∙ end_leads g b yes_part m.yes m.block p1 first us zs long_us

    no_leads : onto m.block (map (value_at w2.values) ys) ≡ no_onward
    no_leads =
        let t = jump_fits.2 in
        end_leads g p1 no_part m.no m.block p2 second us zs long_1
        ∙ side_same g no_part m.no w1 one (along_values g b yes_part m.yes m.block p1 first us zs long_us no_part.with t.block.args t.handed)
        (along_arrays g b yes_part m.yes m.block p1 first us zs long_us)

    new_onward : (passage h v).onward ≡ side (value_at one.values c) yes_onward no_onward
    new_onward =
        ap (λ (o : Passage). o.onward) passage_is
        ∙ (choosing_leads g p2 c ws xs ys is_p2 c2 j_args x2 y2 us zs long_2 m.block
        ∙ (ap (λ n. side n (onto m.block (map (value_at w2.values) xs)) (onto m.block (map (value_at w2.values) ys))) cond_is
        ∙ (ap (λ o. side (value_at one.values c) o (onto m.block (map (value_at w2.values) ys))) yes_leads ∙ ap (side (value_at one.values c) yes_onward) no_leads)))

    new_arrays : (passage h v).arrays ≡ one.arrays
    new_arrays =
        ap (λ (o : Passage). o.arrays) passage_is
        ∙ (ap (λ (q : Work). q.arrays) (through_append p2.steps sels (beginning us zs))
        ∙ (quiet_arrays sels w2 (selects_quiet c (choices ws xs ys []))
        ∙ (along_arrays g p1 no_part m.no m.block p2 second us zs long_1 ∙ along_arrays g b yes_part m.yes m.block p1 first us zs long_us)))

    new_strays : (passage h v).strays ≡ one.strays
    new_strays =
        ap (λ (o : Passage). o.strays) passage_is
        ∙ (ap (λ (q : Work). q.strays) (through_append p2.steps sels (beginning us zs))
        ∙ (quiet_strays sels w2 (selects_quiet c (choices ws xs ys []))
        ∙ (along_strays g p1 no_part m.no m.block p2 second us zs long_1 ∙ along_strays g b yes_part m.yes m.block p1 first us zs long_us)))

    old_onward : (passage g v).onward ≡ side (value_at one.values c) (handed one.values yes_part) (handed one.values no_part)
    old_onward = ap (λ x. onward_of x one.values) is.decides

    visit_of_new : AlikeOrPast (passage g) (passage h) v
    visit_of_new = by (value_at one.values c) old_onward new_onward
      where
        by : (n : ℕ) → (passage g v).onward ≡ side n (handed one.values yes_part) (handed one.values no_part) → (passage h v).onward ≡ side n yes_onward no_onward → AlikeOrPast (passage g) (passage h) v
        by zero x y = along_way g (passage g) (passage h) k v no_part m.no m.block one refl is.meets.no_end x refl refl y new_arrays new_strays
        by (suc n) x y = along_way g (passage g) (passage h) k v yes_part m.yes m.block one refl is.meets.yes_end x refl refl y new_arrays new_strays

  -- ---- all visits

  pub each_visit : (v : Visit) → Fits g is.graph v → AlikeOrPast (passage g) (passage (with_blocks g (set g.blocks k (selected_block g.blocks (block_at g k) c yes_part no_part m)))) v
  each_visit v fit = elim (cases_eq v.block k) [
    | inl e ↦
        let z : ◌≡◌ {A = Visit} v (record { block = k; given = v.given; arrays = v.arrays }) = ap (λ n. record { block = n; given = v.given; arrays = v.arrays }) e in
        subst (AlikeOrPast (passage g) (passage h)) (sym z) (visit_of_new v.given v.arrays (fit.long ∙ ap (λ n. length (block_at g n).args) e))
    | inr ne ↦
        let q : passage h v ≡ passage g v = ap (λ (x : Block). by_block x v.given v.arrays) (at_other v.block ne) in
        inl (record { onward = ap (λ (o : Passage). o.onward) q; arrays = ap (λ (o : Passage). o.arrays) q; strays = ap (λ (o : Passage). o.strays) q })
  ]
