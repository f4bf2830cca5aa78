-- The nodes of a typed tree, by those of its parts.
use Rattle.std.proofs.Common.{◌≡◌, ℕ, ◌+◌, ◌-◌, ◌^◌, min, sum, [], ◌∷◌, arith}
use Rattle.std.proofs.lemmas.Grind.{common_steps}
use Rattle.c_ast.proofs.TypedNodeEquations.{typed_number, typed_var, typed_element, typed_unary, typed_implied, typed_written, typed_binary, typed_choice, act_block, act_declaration, act_assignment, act_stepping, act_choice, act_while_loop, act_do_loop, act_for_loop, act_leaving, act_continuing, act_returning, act_empty}

pub ruleset expressions = (typed_number, typed_var, typed_element, typed_unary, typed_implied, typed_written, typed_binary, typed_choice)

pub ruleset statements = (act_block, act_declaration, act_assignment, act_stepping, act_choice, act_while_loop, act_do_loop, act_for_loop, act_leaving, act_continuing, act_returning, act_empty)

-- ---- sums up to the greatest number

abbrev pub most : ℕ
most = 2 ^ 64 - 1

sum_one : (x : ℕ) → sum (x ∷ []) ≡ x
sum_one x = grind (arith, common_steps)

sum_two : (x y : ℕ) → sum (x ∷ y ∷ []) ≡ x + y
sum_two x y = grind (arith, common_steps)

sum_three : (x y z : ℕ) → sum (x ∷ y ∷ z ∷ []) ≡ x + y + z
sum_three x y z = grind (arith, common_steps)

sum_four : (x y z w : ℕ) → sum (x ∷ y ∷ z ∷ w ∷ []) ≡ x + y + z + w
sum_four x y z w = grind (arith, common_steps)

pub of_one : (k a x r : ℕ) → k ≡ 1 + a → x ≡ min a most → r ≡ min (1 + sum (x ∷ [])) most → r ≡ min k most
of_one k a x r e p all = let s = sum_one x in omega (arith, e, p, all, s)

pub of_two : (k a b x y r : ℕ) → k ≡ 1 + a + b → x ≡ min a most → y ≡ min b most → r ≡ min (1 + sum (x ∷ y ∷ [])) most → r ≡ min k most
of_two k a b x y r e p q all = let s = sum_two x y in omega (arith, e, p, q, all, s)

pub of_three : (k a b c x y z r : ℕ) → k ≡ 1 + a + b + c → x ≡ min a most → y ≡ min b most → z ≡ min c most → r ≡ min (1 + sum (x ∷ y ∷ z ∷ [])) most → r ≡ min k most
of_three k a b c x y z r e p q o all = let s = sum_three x y z in omega (arith, e, p, q, o, all, s)

pub of_four : (k a b c d x y z w r : ℕ) → k ≡ 1 + a + b + c + d → x ≡ min a most → y ≡ min b most → z ≡ min c most → w ≡ min d most → r ≡ min (1 + sum (x ∷ y ∷ z ∷ w ∷ [])) most
    → r ≡ min k most
of_four k a b c d x y z w r e p q o u all = let s = sum_four x y z w in omega (arith, e, p, q, o, u, all, s)
