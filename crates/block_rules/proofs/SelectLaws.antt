-- What a choice becomes has its value.
use Rattle.std.proofs.Common.{◌≡◌, ℕ, ◌%◌, ◌^◌, Bool, true, false, cond, List, Option, Some, None, refl, sym, ◌∙◌, ap, subst, eqb}
use Rattle.std.specs.Prelude.{◌==◌, not, ◌&&◌}
use Rattle.std.specs.Int.{from_bool}
use Rattle.std.proofs.lemmas.Bool.{cond_both, and_parts}
use Rattle.std.proofs.Math.Nat.{mod-eq_of_lt}
use borrow.Author.Tests.{eqb-true}
use Rattle.el_base.specs.declared.ty.Array.{Array}
use Rattle.el_base.specs.declared.operation.Op1.TheVariants.{Zero32}
use Rattle.ir.specs.declared.instr.Instr.{Instr}
use Rattle.ir.specs.declared.instr.Instr.TheVariants.{One, Select}
use Rattle.block_rules.specs.declared.change.Change.{Change}
use Rattle.block_rules.specs.declared.change.Change.TheVariants.{Stays, Is, Becomes}
use Rattle.ir.specs.Shapes.{Shape, IsOfWidth, IsWidth}
use Rattle.ir.specs.Steps.{value_at, chosen_of}
use Rattle.block_rules.specs.declared.rewriting.Condition.{Condition}
use Rattle.block_rules.specs.Known.{AreValues}
use Rattle.block_rules.specs.Laws.{DecidesAlike}
use Rattle.block_rules.specs.Reading.{const_at, is_test}
use Rattle.block_rules.specs.Conditions.{is_constant, stripped}
use Rattle.block_rules.specs.SelectRules.{chosen_by, chosen, chosen_on, select_change}
use Rattle.block_rules.proofs.Operations.{zero-result}
use Rattle.block_rules.proofs.Facts.{below, constant, test}
use Rattle.block_rules.proofs.Changed.{IsChange, one_step}
use Rattle.block_rules.proofs.TwoLaws.{given}
use Rattle.block_rules.proofs.ConditionLaws.{constant_is, strip_law}

-- ---- of truth values

same_sides : (b : Bool) (x y : ℕ) → y ≡ x → x ≡ cond b y x
same_sides true x y e = sym e
same_sides false x y e = refl

other_way : (b : Bool) (x y : ℕ) → cond (not b) y x ≡ cond b x y
other_way true x y = refl
other_way false x y = refl

bit_chosen : (b : Bool) → from_bool b ≡ chosen_of (from_bool b) 1 0
bit_chosen true = refl
bit_chosen false = refl

truth_chosen : (b : Bool) → from_bool b ≡ cond b 1 0
truth_chosen true = refl
truth_chosen false = refl

value_chosen : (vs : List ℕ) (b : Bool) (x y : ℕ) → value_at vs (cond b y x) ≡ cond b (value_at vs y) (value_at vs x)
value_chosen vs true x y = refl
value_chosen vs false x y = refl

-- the sides of a condition that decides alike
turned_chosen : (vs : List ℕ) (t : Bool) (c v a b : ℕ) → (c == 0) ≡ cond t (not (value_at vs v == 0)) (value_at vs v == 0)
    → chosen_of c (value_at vs a) (value_at vs b) ≡ chosen_of (value_at vs v) (value_at vs (cond t b a)) (value_at vs (cond t a b))
turned_chosen vs true c v a b e = ap (λ (q : Bool). cond q (value_at vs b) (value_at vs a)) e ∙ other_way (value_at vs v == 0) (value_at vs a) (value_at vs b)
turned_chosen vs false c v a b e = ap (λ (q : Bool). cond q (value_at vs b) (value_at vs a)) e

module _ (arrays : List Array) (n : ℕ) (steps : List Instr) (ws : Shape) (vs : List ℕ) (known : AreValues arrays n steps ws vs) where
  module _ (w c v a b : ℕ) (wide : IsWidth w) (cond_wide : IsOfWidth ws v 32) (yes_wide : IsOfWidth ws a w) (no_wide : IsOfWidth ws b w) where
    -- a side that is a constant
    side : (x k : ℕ) → IsOfWidth ws x w → is_constant k (const_at n steps x) ≡ true → value_at vs x ≡ k
    side x k h e = (constant arrays n steps ws vs known x w k (constant_is k (const_at n steps x) e) h).value

    by_law : IsChange arrays ws vs w (chosen_of (value_at vs v) (value_at vs a) (value_at vs b)) (chosen_by n steps w c v a b)
    unfolding chosen_by
    by_law =
        let x = value_at vs v in
        let y = value_at vs a in
        let z = value_at vs b in
        let r = chosen_of x y z in
        let one = const_at n steps a in
        let other_one = const_at n steps b in
        let last : Change = cond (eqb v c) Stays (Becomes (Select w v a b)) in
        let third : Change = cond ((eqb w 32 && is_constant 0 one) && is_constant 1 other_one) (Becomes (One Zero32 v)) last in
        let second : Change = cond (((eqb w 32 && is_constant 1 one) && is_constant 0 other_one) && is_test n steps v) (Is v) third in
        given arrays ws vs w r (eqb a b) (Is a) second (λ e. (yes_wide, same_sides (x == 0) y z (ap (value_at vs) (sym (eqb-true a b e)))))
        (λ other. given arrays ws vs w r (((eqb w 32 && is_constant 1 one) && is_constant 0 other_one) && is_test n steps v) (Is v) third
        (λ e. let p = and_parts ((eqb w 32 && is_constant 1 one) && is_constant 0 other_one) (is_test n steps v) e in
        let q = and_parts (eqb w 32 && is_constant 1 one) (is_constant 0 other_one) p.0 in
        let s = and_parts (eqb w 32) (is_constant 1 one) q.0 in
        let t = test arrays n steps ws vs known v p.1 in
        let yes : y ≡ 1 = side a 1 yes_wide s.1 in
        let no : z ≡ 0 = side b 0 no_wide q.1 in (
          subst (λ (u : ℕ). IsOfWidth ws v u) (sym (eqb-true w 32 s.0)) cond_wide,
          t.value ∙ bit_chosen t.bit ∙ (λ i. chosen_of (sym t.value i) (sym yes i) (sym no i)),
        ))
        (λ more. given arrays ws vs w r ((eqb w 32 && is_constant 0 one) && is_constant 1 other_one) (Becomes (One Zero32 v)) last
        (λ e. let q = and_parts (eqb w 32 && is_constant 0 one) (is_constant 1 other_one) e in
        let s = and_parts (eqb w 32) (is_constant 0 one) q.0 in
        let yes : y ≡ 0 = side a 0 yes_wide s.1 in
        let no : z ≡ 1 = side b 1 no_wide q.1 in
        let small : x % 2 ^ 32 ≡ x = mod-eq_of_lt (below arrays n steps ws vs known v 32 cond_wide) in
        one_step arrays ws vs Zero32 v 32 w r refl (sym (eqb-true w 32 s.0)) cond_wide
        (zero-result Zero32 refl x ∙ ap (λ (k : ℕ). from_bool (k == 0)) small ∙ truth_chosen (x == 0) ∙ (λ i. cond (x == 0) (sym no i) (sym yes i))))
        (λ still. given arrays ws vs w r (eqb v c) Stays (Becomes (Select w v a b)) (λ e. tt)
        (λ e. record { pure = tt; fits = (wide, cond_wide, yes_wide, no_wide); width = refl; value = refl }))))

    chosen_law : (o : Option ℕ) → const_at n steps v ≡ o → IsChange arrays ws vs w (chosen_of (value_at vs v) (value_at vs a) (value_at vs b)) (chosen n steps w c v a b o)
    chosen_law None e = by_law
    chosen_law (Some x) e =
        let k = constant arrays n steps ws vs known v 32 x e cond_wide in (
          cond_both (eqb x 0) b a (λ (u : ℕ). IsOfWidth ws u w) (λ q. no_wide) (λ q. yes_wide),
          value_chosen vs (eqb x 0) a b ∙ ap (λ (u : ℕ). chosen_of u (value_at vs a) (value_at vs b)) (sym k.value),
        )

  on_law : (w c a b : ℕ) (d : Condition) → IsWidth w → IsOfWidth ws a w → IsOfWidth ws b w → DecidesAlike ws vs c d
      → IsChange arrays ws vs w (chosen_of (value_at vs c) (value_at vs a) (value_at vs b)) (chosen_on n steps w c d a b)
  unfolding chosen_on
  on_law w c a b d wide ha hb h =
      let yes : ℕ = cond d.turned b a in
      let no : ℕ = cond d.turned a b in
      let change = chosen n steps w c d.value yes no (const_at n steps d.value) in
      let yes_wide : IsOfWidth ws yes w = cond_both d.turned b a (λ (u : ℕ). IsOfWidth ws u w) (λ q. hb) (λ q. ha) in
      let no_wide : IsOfWidth ws no w = cond_both d.turned a b (λ (u : ℕ). IsOfWidth ws u w) (λ q. ha) (λ q. hb) in
      subst (λ (x : ℕ). IsChange arrays ws vs w x change) (sym (turned_chosen vs d.turned (value_at vs c) d.value a b h.decides))
      (chosen_law w c d.value yes no wide h.width yes_wide no_wide (const_at n steps d.value) refl)

  pub select_law : (w c a b : ℕ) → IsWidth w → IsOfWidth ws c 32 → IsOfWidth ws a w → IsOfWidth ws b w
      → IsChange arrays ws vs w (chosen_of (value_at vs c) (value_at vs a) (value_at vs b)) (select_change n steps w c a b)
  unfolding select_change
  select_law w c a b wide hc ha hb = on_law w c a b (stripped n steps c) wide ha hb (strip_law arrays n steps ws vs known c hc)
