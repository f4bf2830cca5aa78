-- A folded jump fits the new shape, and leads where the old one led.
use Rattle.std.proofs.Common.{◌≡◌, ℕ, zero, suc, List, [], ◌∷◌, map, Option, Some, None, refl, sym, ◌∙◌, ap, arith}
use Rattle.std.specs.Prelude.{◌==◌, not, Bool, true, false, cond, if◌then◌else◌, option_map}
use Rattle.std.proofs.lemmas.Bool.{and_parts, eqb-true, ne_eqb}
use Rattle.std.specs.Cmp.Lexicographic.{pointwise}
use Rattle.ir.specs.declared.instr.Instr.{Instr}
use Rattle.ir.specs.declared.graph.Block.{Block}
use Rattle.ir.specs.declared.graph.Jump.{Jump}
use Rattle.ir.specs.declared.graph.Jump.TheVariants.{Go, Two, Return}
use Rattle.ir.specs.declared.graph.To.{To}
use Rattle.ir.specs.Steps.{value_at}
use Rattle.ir.specs.Visits.{Onward, onto, leaves}
use Rattle.ir.specs.Shapes.{Shape, IsOfWidth}
use Rattle.ir.specs.Graphs.{Graph, IsJump, IsTarget, IsReturn, AreHanded, handed, side, result_of, onward_of}
use Rattle.block_merge.specs.Renamed.{renamed_to}
use Rattle.block_rules.specs.declared.rewriting.Condition.{Condition}
use Rattle.block_rules.specs.Known.{AreValues}
use Rattle.block_rules.specs.Rules.{stripped}
use Rattle.block_rules.specs.Laws.{DecidesAlike, ConditionsAreRight}
use Rattle.block_rules.specs.Reading.{const_at}
use Rattle.block_fold.specs.Jumps.{same_target, decided, decided_by, folded_jump}
use Rattle.block_fold.proofs.StepLemmas.{SameValues}
use Rattle.block_fold.proofs.Sums.{constant_value}

-- ---- it fits

module _ (f : ℕ → ℕ) (ws us : Shape) (keep : (a y : ℕ) → IsOfWidth ws a y → IsOfWidth us (f a) y) where
  hands_renamed : (vs args : List ℕ) → AreHanded ws vs args → AreHanded us (map f vs) args
  hands_renamed [] [] h = tt
  hands_renamed (v ∷ vs) (w ∷ args) h = (keep v w h.0, hands_renamed vs args h.1)
  hands_renamed [] (w ∷ args) h = absurd h
  hands_renamed (v ∷ vs) [] h = absurd h

  target_renamed : (bs : List Block) (t : To) → IsTarget bs ws t → IsTarget bs us (renamed_to f t)
  target_renamed bs t h = record { block = h.block; exists = h.exists; no_entry = h.no_entry; handed = hands_renamed t.with h.block.args h.handed }

  return_renamed : (r : _) (v : Option ℕ) → IsReturn r ws v → IsReturn r us (option_map f v)
  return_renamed None None h = tt
  return_renamed (Some t) (Some v) h = keep v _ h
  return_renamed None (Some v) h = absurd h
  return_renamed (Some t) None h = absurd h

decided_fits : (g : Graph) (us : Shape) (c : ℕ) (s t : To) → IsOfWidth us c 32 → IsTarget g.blocks us s → IsTarget g.blocks us t → (o : Option ℕ) → IsJump g us (decided c s t o)
decided_fits g us c s t wide x y (Some zero) = y
decided_fits g us c s t wide x y (Some (suc n)) = x
decided_fits g us c s t wide x y None = by (same_target s t)
  where
    by : (b : Bool) → IsJump g us (if b then Go s else Two c s t)
    by true = x
    by false = (wide, x, y)

decided_by_fits : (g : Graph) (us : Shape) (n : ℕ) (steps : List Instr) (d : Condition) (s t : To) → IsOfWidth us d.value 32 → IsTarget g.blocks us s → IsTarget g.blocks us t → IsJump g us (decided_by n steps d s t)
decided_by_fits g us n steps d s t wide x y = by d.turned
  where
    by : (b : Bool) → IsJump g us (if b then decided d.value t s (const_at n steps d.value) else decided d.value s t (const_at n steps d.value))
    by true = decided_fits g us d.value t s wide y x (const_at n steps d.value)
    by false = decided_fits g us d.value s t wide x y (const_at n steps d.value)

-- ---- it leads alike

module _ (f : ℕ → ℕ) (ws : Shape) (olds news : List ℕ) (same : SameValues f ws olds news) where
  values_same : (vs args : List ℕ) → AreHanded ws vs args → map (value_at news) (map f vs) ≡ map (value_at olds) vs
  values_same [] [] h = refl
  values_same (a ∷ vs) (w ∷ args) h = ap (λ x. x ∷ map (value_at news) (map f vs)) (same a w h.0) ∙ ap (λ xs. value_at olds a ∷ xs) (values_same vs args h.1)
  values_same [] (w ∷ args) h = absurd h
  values_same (a ∷ vs) [] h = absurd h

  handed_same : (bs : List Block) (t : To) → IsTarget bs ws t → handed news (renamed_to f t) ≡ handed olds t
  handed_same bs t h = ap (onto t.block) (values_same t.with h.block.args h.handed)

  returned_same : (r : _) (v : Option ℕ) → IsReturn r ws v → result_of news (option_map f v) ≡ result_of olds v
  returned_same None None h = refl
  returned_same (Some t) (Some v) h = ap Some (same v _ h)
  returned_same None (Some v) h = absurd h
  returned_same (Some t) None h = absurd h

same_values_is : (xs ys : List ℕ) → pointwise ◌==◌ xs ys ≡ true → xs ≡ ys
same_values_is [] [] h = refl
same_values_is (x ∷ xs) (y ∷ ys) h =
    let both = and_parts (x == y) (pointwise ◌==◌ xs ys) h in
    ap (λ z. z ∷ xs) (eqb-true x y both.0) ∙ ap (λ zs. y ∷ zs) (same_values_is xs ys both.1)
same_values_is [] (y ∷ ys) h = absurd (cc)
same_values_is (x ∷ xs) [] h = absurd (cc)

same_target_handed : (vs : List ℕ) (s t : To) → same_target s t ≡ true → handed vs s ≡ handed vs t
same_target_handed vs s t h =
    let both = and_parts (s.block == t.block) (pointwise ◌==◌ s.with t.with) h in
    ap (λ b. onto b (map (value_at vs) s.with)) (eqb-true s.block t.block both.0) ∙ ap (λ l. onto t.block (map (value_at vs) l)) (same_values_is s.with t.with both.1)

-- a side by a test
side_on : (x : ℕ) (a b : Onward) → side x a b ≡ cond (x == 0) b a
side_on zero a b = refl
side_on (suc x) a b = let ne : (suc x == 0) ≡ false = ne_eqb (suc x) 0 (λ e. absurd (omega (arith, e))) in sym (ap (λ t. cond t b a) ne)

side_same : (x : ℕ) (a b : Onward) → a ≡ b → a ≡ side x a b
side_same zero a b e = e
side_same (suc x) a b e = refl

cond_not : (t : Bool) (a b : Onward) → cond t a b ≡ cond (not t) b a
cond_not true a b = refl
cond_not false a b = refl

decided_leads : (vs : List ℕ) (c : ℕ) (s t : To) (o : Option ℕ) → ((x : ℕ) → o ≡ Some x → value_at vs c ≡ x) → onward_of (decided c s t o) vs ≡ side (value_at vs c) (handed vs s) (handed vs t)
decided_leads vs c s t (Some zero) h = sym (ap (λ z. side z (handed vs s) (handed vs t)) (h zero refl))
decided_leads vs c s t (Some (suc x)) h = sym (ap (λ z. side z (handed vs s) (handed vs t)) (h (suc x) refl))
decided_leads vs c s t None h = by (same_target s t) refl
  where
    by : (b : Bool) → same_target s t ≡ b → onward_of (if b then Go s else Two c s t) vs ≡ side (value_at vs c) (handed vs s) (handed vs t)
    by true e = side_same (value_at vs c) (handed vs s) (handed vs t) (same_target_handed vs s t e)
    by false e = refl

decided_by_leads : (vs : List ℕ) (n : ℕ) (steps : List Instr) (x : ℕ) (d : Condition) (s t : To) → ((c : ℕ) → const_at n steps d.value ≡ Some c → value_at vs d.value ≡ c)
    → (x == 0) ≡ cond d.turned (not (value_at vs d.value == 0)) (value_at vs d.value == 0) → onward_of (decided_by n steps d s t) vs ≡ side x (handed vs s) (handed vs t)
decided_by_leads vs n steps x d s t constant decides = by d.turned decides ∙ sym (side_on x (handed vs s) (handed vs t))
  where
    by : (b : Bool) → (x == 0) ≡ cond b (not (value_at vs d.value == 0)) (value_at vs d.value == 0)
        → onward_of (if b then decided d.value t s (const_at n steps d.value) else decided d.value s t (const_at n steps d.value)) vs ≡ cond (x == 0) (handed vs t) (handed vs s)
    by true e =
        decided_leads vs d.value t s (const_at n steps d.value) constant ∙ side_on (value_at vs d.value) (handed vs t) (handed vs s)
        ∙ cond_not (value_at vs d.value == 0) (handed vs s) (handed vs t) ∙ sym (ap (λ b. cond b (handed vs t) (handed vs s)) e)
    by false e =
        decided_leads vs d.value s t (const_at n steps d.value) constant ∙ side_on (value_at vs d.value) (handed vs s) (handed vs t)
        ∙ sym (ap (λ b. cond b (handed vs t) (handed vs s)) e)

-- ---- the whole jump

module _ (conditions : ConditionsAreRight) (g : Graph) (n : ℕ) (steps : List Instr) (us : Shape) (news : List ℕ) (known : AreValues g.arrays n steps us news) (f : ℕ → ℕ) (ws : Shape) (keep : (a y : ℕ) → IsOfWidth ws a y → IsOfWidth us (f a) y) where
  stripped_right : (c : ℕ) → IsOfWidth ws c 32 → DecidesAlike us news (f c) (stripped n steps (f c))
  stripped_right c wide = conditions g.arrays n steps us news (f c) known (keep c 32 wide)

  pub jump_fits : (j : Jump) → IsJump g ws j → IsJump g us (folded_jump n steps f j)
  jump_fits (Go t) h = target_renamed f ws us keep g.blocks t h
  jump_fits (Two c s t) h = decided_by_fits g us n steps (stripped n steps (f c)) (renamed_to f s) (renamed_to f t) (stripped_right c h.0).width (target_renamed f ws us keep g.blocks s h.1) (target_renamed f ws us keep g.blocks t h.2)
  jump_fits (Return v) h = return_renamed f ws us keep g.result v h

  pub jump_leads : (olds : List ℕ) → SameValues f ws olds news → (j : Jump) → IsJump g ws j → onward_of (folded_jump n steps f j) news ≡ onward_of j olds
  jump_leads olds same (Go t) h = handed_same f ws olds news same g.blocks t h
  jump_leads olds same (Two c s t) h =
      let d = stripped n steps (f c) in
      decided_by_leads news n steps (value_at news (f c)) d (renamed_to f s) (renamed_to f t) (constant_value g.arrays n steps us news known d.value) (stripped_right c h.0).decides
      ∙ ap (λ x. side x (handed news (renamed_to f s)) (handed news (renamed_to f t))) (same c 32 h.0)
      ∙ ap (λ o. side (value_at olds c) o (handed news (renamed_to f t))) (handed_same f ws olds news same g.blocks s h.1)
      ∙ ap (λ o. side (value_at olds c) (handed olds s) o) (handed_same f ws olds news same g.blocks t h.2)
  jump_leads olds same (Return v) h = ap leaves (returned_same f ws olds news same g.result v h)
