-- Blocks whose values can be numbered: what the code asks when it makes one anew.
use Rattle.std.proofs.Common.{◌≡◌, ℕ, suc, ◌+◌, ◌-◌, ◌<◌, ◌≤◌, List, [], length, Option, Some, None, refl, sym, ◌∙◌, ap, subst, arith, inl, inr, length-append}
use Rattle.std.specs.Prelude.{set, nat_le, get_or, Result, Ok, Err, IfOk}
use Rattle.std.specs.Option.{option_map_or}
use Rattle.std.proofs.lemmas.Bool.{cases_eq, cases_lt, cond_both, leb-true}
use Rattle.std.proofs.lemmas.Option.{slice_get_within}
use Rattle.std.proofs.lemmas.List.{length-set, get_or-set_same, get_or-set_other, set_past, get_or_past}
use Rattle.std.proofs.lemmas.List.Sums.{get_or-le-sum_by}
use Rattle.el_base.specs.Limits.{IsNumbered}
use Rattle.el_base.specs.declared.memory.Memory.{Memory}
use Rattle.el_base.specs.declared.ty.Array.{Array}
use Rattle.el_base.specs.declared.ty.Scalar.{Scalar}
use Rattle.ir.specs.declared.graph.Block.{Block}
use Rattle.ir.specs.declared.graph.Jump.{Jump}
use Rattle.ir.specs.declared.graph.Jump.TheVariants.{Go, Two, Return}
use Rattle.ir.specs.declared.graph.To.{To}
use Rattle.ir.specs.Graphs.{Graph, IsGraph, IsTarget, shape_of, no_block, block_weight, size}
use Rattle.block_merge.specs.Renamed.{block_of}
use Rattle.block_merge.specs.Joined.{values_of}
use Rattle.block_merge.specs.Merged.{with_blocks}
use Rattle.block_merge.specs.Parts.{given_on}
use Rattle.block_merge.proofs.JoinedValues.{handed_long}
use Rattle.block_merge.proofs.Blocks.{target_hands}
use Rattle.block_merge.proofs.OrderLemmas.{same_default}
use Rattle.block_merge.proofs.PartLemmas.{can_join_blocks}
use Rattle.block_merge.proofs.Visiting.{is_block}
use Rattle.block_select.specs.declared.arms.Way.{Way}
use Rattle.block_select.specs.declared.arms.Way.TheVariants.{Direct, ByArm}
use Rattle.block_select.specs.declared.arms.Meeting.{Meeting}
use Rattle.block_pass.specs.Laws.{PassesBack}
use Rattle.block_select.specs.declared.choices.Choice.{Choice}
use Rattle.block_select.specs.Arms.{meeting}
use Rattle.block_select.specs.Choices.{choices}
use Rattle.block_select.specs.Selected.{along, choosing, selected_block, with_light, selected_by, selected_at, selected_blocks, selected}
use Rattle.block_select.specs.Light.{AreLight, CanGoAlong, SidesMeet}
use Rattle.block_select.proofs.Meetings.{meets}
use Rattle.block_select.proofs.OneBlock.{Chooses, jump_fits, first, no_target, second, j_within, x1, y2}
use Rattle.block_select.proofs.Passing.{at_passes, selected_passes}
use Rattle.block_select.proofs.Chosen.{choices_few}

-- ---- arms can be taken in

can_go : (g : Graph) (b : Block) (to : To) (w : Way) → IsGraph g → IsTarget g.blocks (shape_of g b) to → IsNumbered (values_of b + length (block_of g.blocks to.block).steps) → CanGoAlong g.blocks b to w
can_go g b to Direct fine target few = tt
can_go g b to ByArm fine target few =
    let l = slice_get_within g.blocks to.block target.block target.exists in
    let led : Block = record { args = b.args; steps = b.steps; jump = Go to } in
    (l, can_join_blocks g led (block_of g.blocks to.block) to.with (is_block g fine to.block l) (target_hands g.blocks (shape_of g b) to target) refl few)

module _ (bs : List Block) (k c : ℕ) (yes_part no_part : To) (m : Meeting) (s : SidesMeet bs k c yes_part no_part m) where
  abbrev g : Graph
  g = with_blocks s.blocks.graph bs

  is : Chooses g k c yes_part no_part m
  is = record { graph = s.blocks.fine; within = s.within; decides = s.decides; meets = meets bs k yes_part no_part m s.meets }

  abbrev b : Block
  b = block_of bs k

  abbrev p1 : Block
  p1 = along bs b yes_part m.yes

  abbrev p2 : Block
  p2 = along bs p1 no_part m.no

  abbrev ws : List ℕ
  ws = (block_of bs m.block).args

  few_1 : values_of p1 ≤ 16000000
  few_1 =
      let f = first g k c yes_part no_part m is in
      let w = s.blocks.light k in
      let v = s.blocks.light yes_part.block in
      let l = f.few in
      let e = ap length f.steps in
      let a = ap length f.args in omega (arith, w, v, l, e, a, length-append b.steps f.more)

  few_2 : values_of p2 ≤ 24000000
  few_2 =
      let f = second g k c yes_part no_part m is in
      let v = s.blocks.light no_part.block in
      let l = f.few in
      let e = ap length f.steps in
      let a = ap length f.args in
      let p = few_1 in omega (arith, p, v, l, e, a, length-append p1.steps f.more)

  pub can_go_first : CanGoAlong bs (block_of bs k) yes_part m.yes
  can_go_first =
      let w = s.blocks.light k in
      let v = s.blocks.light yes_part.block in
      can_go g b yes_part m.yes s.blocks.fine (jump_fits g k c yes_part no_part m is).1 (omega (arith, w, v))

  pub can_go_second : CanGoAlong bs (along bs (block_of bs k) yes_part m.yes) no_part m.no
  can_go_second =
      let w = few_1 in
      let v = s.blocks.light no_part.block in
      can_go g p1 no_part m.no s.blocks.fine (no_target g k c yes_part no_part m is) (omega (arith, w, v))

  pub end_within : m.block < length bs
  end_within = j_within g k c yes_part no_part m is

  pub few_values : IsNumbered (values_of (along bs (along bs (block_of bs k) yes_part m.yes) no_part m.no) + length (block_of bs m.block).args)
  few_values = let p = few_2 in let v = s.blocks.light m.block in omega (arith, p, v)

  pub yes_long : length (given_on (along bs (block_of bs k) yes_part m.yes).jump) ≡ length (block_of bs m.block).args
  yes_long = handed_long (shape_of g p1) (given_on p1.jump) ws (x1 g k c yes_part no_part m is)

  pub no_long : length (given_on (along bs (along bs (block_of bs k) yes_part m.yes) no_part m.no).jump) ≡ length (block_of bs m.block).args
  no_long = handed_long (shape_of g p2) (given_on p2.jump) ws (y2 g k c yes_part no_part m is)

-- ---- what the code makes

pub block_same : (r : Result Block Memory) (x y : Block) → IfOk r (λ b. b ≡ x) → x ≡ y → IfOk r (λ b. b ≡ y)
block_same (Ok b) x y h e = h ∙ e
block_same (Err m) x y h e = tt

pub block_at_is : (bs : List Block) (k : ℕ) (x b : Block) → k < length bs → x ≡ get_or bs k x → b ≡ x → b ≡ block_of bs k
block_at_is bs k x b lt e f = f ∙ (e ∙ same_default bs k x no_block lt)

pub args_at_is : (bs : List Block) (k : ℕ) (x : Block) → k < length bs → (get_or bs k x).args ≡ (block_of bs k).args
args_at_is bs k x lt = ap (λ (b : Block). b.args) (same_default bs k x no_block lt)

pub choosing_few : (b : Block) (n m : ℕ) (ws xs ys : List ℕ) (cs ds : List Choice) → n ≡ length b.args → m ≡ length b.steps → ds ≡ cs → cs ≡ choices ws xs ys [] → IsNumbered (values_of b + length ws)
    → IsNumbered (n + m + length ds)
choosing_few b n m ws xs ys cs ds p q r e few = let l = choices_few ws xs ys [] in let d = ap length (r ∙ e) in omega (arith, p, q, l, d, few)

module _ (bs : List Block) (k c : ℕ) (yes_part no_part : To) (m : Meeting) (s : SidesMeet bs k c yes_part no_part m) (b0 : Block) (is_b : b0 ≡ block_of bs k) where
  pub go_first : CanGoAlong bs b0 yes_part m.yes
  go_first = subst (λ (x : Block). CanGoAlong bs x yes_part m.yes) (sym is_b) (can_go_first bs k c yes_part no_part m s)

  module _ (q1 : Block) (is_first : q1 ≡ along bs b0 yes_part m.yes) where
    first_is : q1 ≡ along bs (block_of bs k) yes_part m.yes
    first_is = is_first ∙ ap (λ (x : Block). along bs x yes_part m.yes) is_b

    pub go_second : CanGoAlong bs q1 no_part m.no
    go_second = subst (λ (x : Block). CanGoAlong bs x no_part m.no) (sym first_is) (can_go_second bs k c yes_part no_part m s)

    module _ (q2 : Block) (is_second : q2 ≡ along bs q1 no_part m.no) (ws xs ys : List ℕ) (is_ws : ws ≡ (block_of bs m.block).args) (is_xs : xs ≡ given_on q1.jump) (is_ys : ys ≡ given_on q2.jump) where
      second_is : q2 ≡ along bs (along bs (block_of bs k) yes_part m.yes) no_part m.no
      second_is = is_second ∙ ap (λ (x : Block). along bs x no_part m.no) first_is

      yes_is : xs ≡ given_on (along bs (block_of bs k) yes_part m.yes).jump
      yes_is = is_xs ∙ ap (λ (x : Block). given_on x.jump) first_is

      no_is : ys ≡ given_on (along bs (along bs (block_of bs k) yes_part m.yes) no_part m.no).jump
      no_is = is_ys ∙ ap (λ (x : Block). given_on x.jump) second_is

      pub few_numbers : IsNumbered (values_of q2 + length ws)
      few_numbers =
          let e = ap values_of second_is in
          let f = ap length is_ws in
          let l = few_values bs k c yes_part no_part m s in omega (arith, e, f, l)

      pub yes_as_long : length xs ≡ length ws
      yes_as_long = ap length yes_is ∙ (yes_long bs k c yes_part no_part m s ∙ ap length (sym is_ws))

      pub no_as_long : length ys ≡ length ws
      no_as_long = ap length no_is ∙ (no_long bs k c yes_part no_part m s ∙ ap length (sym is_ws))

      pub made_is : choosing q2 c m.block ws xs ys ≡ selected_block bs (block_of bs k) c yes_part no_part m
      made_is =
          let p2 = along bs (along bs (block_of bs k) yes_part m.yes) no_part m.no in
          let args = (block_of bs m.block).args in
          ap (λ (x : Block). choosing x c m.block ws xs ys) second_is
          ∙ (ap (λ (l : List ℕ). choosing p2 c m.block l xs ys) is_ws
          ∙ (ap (λ (l : List ℕ). choosing p2 c m.block args l ys) yes_is
          ∙ ap (λ (l : List ℕ). choosing p2 c m.block args (given_on (along bs (block_of bs k) yes_part m.yes).jump) l) no_is))

-- ---- blocks made anew stay light

pub at_cases : (P : List Block → Type 0) (most : ℕ) (bs : List Block) (k : ℕ) → P bs → ((b : Block) → block_weight b ≤ most → P (set bs k b)) → P (selected_at most bs k)
at_cases P most bs k p q = by_jump (block_of bs k).jump
  where
    by_meeting : (c : ℕ) (yes_part no_part : To) (o : Option Meeting) → P (option_map_or (λ m. with_light most bs k (selected_block bs (block_of bs k) c yes_part no_part m)) o bs)
    by_meeting c yes_part no_part None = p
    by_meeting c yes_part no_part (Some m) =
        let new = selected_block bs (block_of bs k) c yes_part no_part m in
        cond_both (nat_le (block_weight new) most) (set bs k new) bs P (λ t. q new (leb-true (block_weight new) most t)) (λ t. p)

    by_jump : (j : Jump) → P (selected_by most bs k j)
    by_jump (Go to) = p
    by_jump (Two c yes_part no_part) = by_meeting c yes_part no_part (meeting bs k yes_part no_part)
    by_jump (Return v) = p

at_long : (most : ℕ) (bs : List Block) (k : ℕ) → length (selected_at most bs k) ≡ length bs
at_long most bs k = at_cases (λ l. length l ≡ length bs) most bs k refl (λ b w. length-set bs k b)

abbrev IsLight : List Block → Type 0
IsLight bs = (n : ℕ) → block_weight (block_of bs n) ≤ 8000000

set_light : (bs : List Block) (k : ℕ) (b : Block) → IsLight bs → block_weight b ≤ 8000000 → IsLight (set bs k b)
set_light bs k b light w n = elim (cases_eq n k) [
  | inl e ↦ elim (cases_lt k (length bs)) [
    | inl lt ↦ subst (λ (x : Block). block_weight x ≤ 8000000) (sym (ap (block_of (set bs k b)) e ∙ get_or-set_same bs k b no_block lt)) w
    | inr ge ↦ subst (λ l. block_weight (block_of l n) ≤ 8000000) (sym (set_past bs k b ge)) (light n)
  ]
  | inr ne ↦ subst (λ (x : Block). block_weight x ≤ 8000000) (sym (get_or-set_other bs k n b no_block ne)) (light n)
]

light_at : (most : ℕ) (bs : List Block) (k : ℕ) → most ≤ 8000000 → AreLight bs → AreLight (selected_at most bs k)
light_at most bs k few are = record {
  graph = are.graph;
  fine = (at_passes most (with_blocks are.graph bs) are.fine k).share.fine;
  light = at_cases IsLight most bs k are.light (λ b w. set_light bs k b are.light (omega (arith, w, few)));
}

-- ---- one after the other

pub record AreSelecting (most : ℕ) (first : List Block) (k n : ℕ) (bs : List Block) : Type 0 where
  pub are : AreLight bs
  pub long : length bs ≡ length first
  pub rest : selected_blocks most n bs k ≡ selected_blocks most (length first) first 0

pub selecting_starts : (most : ℕ) (bs : List Block) (n : ℕ) → AreLight bs → n ≡ length bs → AreSelecting most bs 0 (n - 0) bs
selecting_starts most bs n are e =
    let z : n - 0 ≡ length bs = omega (arith, e) in record { are = are; long = refl; rest = ap (λ i. selected_blocks most i bs 0) z }

pub selecting_next : (most : ℕ) (first bs new : List Block) (n i : ℕ) → most ≤ 8000000 → i < n → AreSelecting most first i (n - i) bs → new ≡ selected_at most bs i
    → AreSelecting most first (i + 1) (n - (i + 1)) new
selecting_next most first bs new n i few lt s e =
    let next = selected_at most bs i in
    let z : n - i ≡ suc (n - (i + 1)) = omega (arith, lt) in
    let r : selected_blocks most (n - (i + 1)) next (suc i) ≡ selected_blocks most (length first) first 0 = sym (ap (λ j. selected_blocks most j bs i) z) ∙ s.rest in
    let y : suc i ≡ i + 1 = omega arith in
    subst (AreSelecting most first (i + 1) (n - (i + 1))) (sym e)
    (record { are = light_at most bs i few s.are; long = at_long most bs i ∙ s.long; rest = sym (ap (selected_blocks most (n - (i + 1)) next) y) ∙ r })

pub selecting_more : (most : ℕ) (first bs slice new : List Block) (o : Option Block) (n i : ℕ) → most ≤ 8000000 → i < n → AreSelecting most first i (n - i) bs → slice ≡ bs
    → option_map_or (λ b. set slice i b) o slice ≡ selected_at most slice i → new ≡ option_map_or (λ b. set bs i b) o bs → AreSelecting most first (i + 1) (n - (i + 1)) new
selecting_more most first bs slice new o n i few lt s e f g =
    let a = ap (λ (l : List Block). option_map_or (λ b. set l i b) o l) e in
    let b = ap (λ (l : List Block). selected_at most l i) e in selecting_next most first bs new n i few lt s (g ∙ (sym a ∙ (f ∙ b)))

pub selecting_ends : (most : ℕ) (first bs : List Block) (n i : ℕ) → n ≤ i → AreSelecting most first i (n - i) bs → bs ≡ selected_blocks most (length first) first 0
selecting_ends most first bs n i le s = let z : n - i ≡ 0 = omega (arith, le) in sym (ap (λ j. selected_blocks most j bs i) z) ∙ s.rest

-- ---- at the start

pub starts_light : (g : Graph) (bs : List Block) → IsGraph g → size g ≤ 8000000 → bs ≡ g.blocks → AreLight bs
starts_light g bs fine few e = subst AreLight (sym e) (record { graph = g; fine = fine; light = each })
  where
    each : IsLight g.blocks
    each n = elim (cases_lt n (length g.blocks)) [
      | inl lt ↦ let l = get_or-le-sum_by block_weight g.blocks n no_block lt in omega (arith, l, few)
      | inr ge ↦ subst (λ (x : Block). block_weight x ≤ 8000000) (sym (get_or_past g.blocks n no_block ge)) (omega arith)
    ]

-- ---- the whole graph

pub graph_made : (most : ℕ) (g v : Graph) (n : List ℕ) (s : List Scalar) (a : List Array) (bs cs : List Block) → v ≡ g → n ≡ v.name → s ≡ v.scalars → a ≡ v.arrays → cs ≡ g.blocks
    → bs ≡ selected_blocks most (length cs) cs 0 → record { name = n; scalars = s; arrays = a; result = v.result; blocks = bs } ≡ selected most g
graph_made most g v n s a bs cs h e_n e_s e_a e_c e_b =
    ap (λ (x : List ℕ). record { name = x; scalars = s; arrays = a; result = v.result; blocks = bs }) e_n
    ∙ ap (λ (x : List Scalar). record { name = v.name; scalars = x; arrays = a; result = v.result; blocks = bs }) e_s
    ∙ ap (λ (x : List Array). record { name = v.name; scalars = v.scalars; arrays = x; result = v.result; blocks = bs }) e_a
    ∙ ap (λ (x : Graph). with_blocks x bs) h
    ∙ ap (with_blocks g) (e_b ∙ ap (λ (l : List Block). selected_blocks most (length l) l 0) e_c)

pub passes_of : (most : ℕ) (g r : Graph) → IsGraph g → r ≡ selected most g → PassesBack g r
passes_of most g r fine e = subst (PassesBack g) (sym e) (selected_passes most g fine)
