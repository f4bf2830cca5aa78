-- Where two sides meet, each leads to that block by its way.
use Rattle.std.proofs.Common.{List, None, Option, Some, ap, arith, inl, inr, refl, subst, sym, ℕ, ◌∙◌, ◌≡◌, ◌⊎◌}
use Rattle.std.specs.Prelude.{Bool, true, false, cond, ◌==◌, ◌&&◌, not, nat_le, option_map, sum_by}
use Rattle.std.specs.Option.{option_or}
use Rattle.std.proofs.lemmas.Option.{same_Some}
use Rattle.ir.specs.declared.graph.Block.{Block}
use Rattle.ir.specs.declared.graph.Jump.{Jump}
use Rattle.ir.specs.declared.graph.Jump.TheVariants.{Go, Two, Return}
use Rattle.ir.specs.declared.graph.To.{To}
use Rattle.ir.specs.Accesses.{accesses_in}
use Rattle.block_merge.specs.Renamed.{block_of}
use Rattle.block_select.specs.declared.arms.Way.{Way}
use Rattle.block_select.specs.declared.arms.Way.TheVariants.{Direct, ByArm}
use Rattle.block_select.specs.declared.arms.Meeting.{Meeting}
use Rattle.block_select.specs.Arms.{step_cost, max_arm_cost, are_arm_steps, arm_of_jump, side_end, meeting_of_ends, meeting_by, meeting}

-- ---- arms

-- the arm has no access, and goes on to block j
pub record LeadsBy (bs : List Block) (to : To) (j : ℕ) : Type 0 where
  pub next : To
  pub goes : (block_of bs to.block).jump ≡ Go next
  pub block : next.block ≡ j
  pub quiet : accesses_in (block_of bs to.block).steps ≡ 0

-- a test of which both parts hold
first_part : (a b : Bool) → a && b ≡ true → a ≡ true
first_part true b h = refl
first_part false b h = absurd (cc)

second_part : (a b : Bool) → a && b ≡ true → b ≡ true
second_part true b h = h
second_part false b h = absurd (cc)

is_zero : (n : ℕ) → (n == 0) ≡ true → n ≡ 0
is_zero n h = grind (arith, h)

some_none : (t : ℕ) → None ≡ Some t → ⊥
some_none t e = absurd (cc)

goes_of : (b : Bool) (jump : Jump) (j : ℕ) → option_map (λ (t : To). t.block) (arm_of_jump b jump) ≡ Some j → (b ≡ true) × ((t : To) × (jump ≡ Go t) × (t.block ≡ j))
goes_of true (Go t) j h = (refl, (t, refl, same_Some t.block j h))
goes_of false (Go t) j h = absurd (some_none j h)
goes_of b (Two c x y) j h = absurd (some_none j h)
goes_of b (Return v) j h = absurd (some_none j h)

pub leads_by : (bs : List Block) (k : ℕ) (to : To) (j : ℕ) → side_end bs k to ByArm ≡ Some j → LeadsBy bs to j
leads_by bs k to j h =
    let c = block_of bs to.block in
    let g = goes_of (not (to.block == k) && are_arm_steps c.steps) c.jump j h in
    let s = second_part (not (to.block == k)) (are_arm_steps c.steps) g.0 in
    record { next = g.1.0; goes = g.1.1; block = g.1.2; quiet = is_zero (accesses_in c.steps) (first_part (accesses_in c.steps == 0) (nat_le (sum_by step_cost c.steps) max_arm_cost) s) }

-- ---- meetings

pub record Meets (bs : List Block) (k : ℕ) (yes_part no_part : To) (m : Meeting) : Type 0 where
  pub yes_end : side_end bs k yes_part m.yes ≡ Some m.block
  pub no_end : side_end bs k no_part m.no ≡ Some m.block

module _ (bs : List Block) (k : ℕ) (yes_part no_part : To) where
  meets_ends : (v w : Way) (e f : Option ℕ) (m : Meeting) → side_end bs k yes_part v ≡ e → side_end bs k no_part w ≡ f → meeting_of_ends v w e f ≡ Some m → Meets bs k yes_part no_part m
  meets_ends v w (Some a) (Some b) m p q h = by (a == b) refl h
    where
      by : (t : Bool) → (a == b) ≡ t → cond t (Some (record { block = a; yes = v; no = w })) None ≡ Some m → Meets bs k yes_part no_part m
      by true s h =
          let z : record { block = a; yes = v; no = w } ≡ m = same_Some (record { block = a; yes = v; no = w }) m h in
          let e : a ≡ b = grind (arith, s) in
          subst (Meets bs k yes_part no_part) z (record { yes_end = p; no_end = q ∙ ap Some (sym e) })
      by false s h = absurd (cc)
  meets_ends v w None (Some b) m p q h = absurd (cc)
  meets_ends v w (Some a) None m p q h = absurd (cc)
  meets_ends v w None None m p q h = absurd (cc)

  meets_by : (v w : Way) (m : Meeting) → meeting_by bs k yes_part no_part v w ≡ Some m → Meets bs k yes_part no_part m
  meets_by v w m h = meets_ends v w (side_end bs k yes_part v) (side_end bs k no_part w) m refl refl h

  either : (p q : Option Meeting) (m : Meeting) → option_or p q ≡ Some m → (p ≡ Some m) ⊎ (q ≡ Some m)
  either None q m h = inr h
  either (Some x) q m h = inl h

  pub meets : (m : Meeting) → meeting bs k yes_part no_part ≡ Some m → Meets bs k yes_part no_part m
  meets m h =
      let by : Way → Way → Option Meeting = meeting_by bs k yes_part no_part in
      elim (either (by Direct Direct) (option_or (by ByArm Direct) (option_or (by Direct ByArm) (by ByArm ByArm))) m h) [
        | inl p ↦ meets_by Direct Direct m p
        | inr q ↦ elim (either (by ByArm Direct) (option_or (by Direct ByArm) (by ByArm ByArm)) m q) [
          | inl p ↦ meets_by ByArm Direct m p
          | inr q ↦ elim (either (by Direct ByArm) (by ByArm ByArm) m q) [ inl p ↦ meets_by Direct ByArm m p | inr p ↦ meets_by ByArm ByArm m p ]
        ]
      ]
