-- Values with calls and without, by the forms of expressions.
use Rattle.std.proofs.Common.{◌≡◌, ℕ, ℤ, ◌+◌, List, ◌∷◌, Option, Some, refl, sym, ◌∙◌, ap, arith}
use Rattle.el_base.specs.declared.span.Span.{Span}
use Rattle.c_meaning.specs.Operators.{is_zero}
use Rattle.c_meaning.specs.Stores.{Store, Objects, place}
use Rattle.c_meaning.specs.Expressions.{value, values, Meaning, after_turns, on_one, on_two, later, one_of, chosen, with_first, all_values, element, element_at}
use Rattle.c_meaning.proofs.ValueParts.{operand, operands, choosing, firsts, sides_same, indexed, element_of_arrays}
use Rattle.c_meaning.proofs.StoreParts.{Below}
use Rattle.c_calls.proofs.Imitates.{Rel}
use Rattle.c_calls.proofs.Expands.{Means, Gives, Two, both_give, Makes}

abbrev pub val_means : (ℕ → Meaning) → Means ℤ
val_means c n s x u = c n s ≡ value x u

-- in whatever turns
abbrev pub val_gives : Meaning → Gives ℤ
val_gives c r x = (u : ℕ) × (c r ≡ value x u)

abbrev pub vals_means : (ℕ → List Meaning) → Means (List ℤ)
vals_means cs n s xs u = all_values (cs n) s ≡ values xs u

abbrev pub vals_gives : List Meaning → Gives (List ℤ)
vals_gives cs r xs = (u : ℕ) × (all_values cs r ≡ values xs u)

more_turns : (y : ℤ) (u d : ℕ) → d ≡ 0 → value y u ≡ value y (u + d)
more_turns y u d e = let h : u ≡ u + d = omega arith in ap (value y) h

-- ---- the forms

module _ (R : Rel) (g : ℕ) where
  pub one_makes : (at : Span) (op : ℤ → Option ℤ) (a : ℕ → Meaning) (a2 : Meaning)
      → Makes R g (val_means a) (val_gives a2) (val_means (λ n s. on_one at op (a n s))) (val_gives (λ s. on_one at op (a2 s))) (λ n s x y d. (op x ≡ Some y) × (d ≡ 0)) (λ r x y. op x ≡ Some y)
  one_makes at op a a2 = record {
    down = λ n s y u h. let o = operand at op (a n s) y u h in record { from = o.x; turns = u; extra = 0; first = o.is; then = (o.gives, refl); sum = omega arith };
    up = λ n s x y u d h c. ap (on_one at op) h ∙ ap (after_turns at u) c.0 ∙ more_turns y u d c.1;
    left_down = λ r y h. let o = operand at op (a2 r) y h.0 h.1 in (o.x, (h.0, o.is), o.gives);
    left_up = λ r x y h d. (h.0, ap (on_one at op) h.1 ∙ ap (after_turns at h.0) d);
    there = λ n s r x y d k c. c.0;
    again = λ s r x y k d. (0, λ n. (d, refl));
    keeps = λ r q x y w d. d;
  }

  pub two_make : (at : Span) (op : ℤ → ℤ → Option ℤ) (a b : ℕ → Meaning) (a2 b2 : Meaning)
      → Makes R g (Two (val_means a) (val_means b)) (both_give (val_gives a2) (val_gives b2)) (val_means (λ n s. on_two at op (a n s) (b n s))) (val_gives (λ s. on_two at op (a2 s) (b2 s))) (λ n s x y d. (op x.0 x.1 ≡ Some y) × (d ≡ 0)) (λ r x y. op x.0 x.1 ≡ Some y)
  two_make at op a b a2 b2 = record {
    down = λ n s y u h. let o = operands at op (a n s) (b n s) y u h in record { from = (o.x, o.y); turns = u; extra = 0; first = record { left_turns = o.t; right_turns = o.r; left = o.left; right = o.right; sum = o.all }; then = (o.both, refl); sum = omega arith };
    up = λ n s x y u d h c. ap (λ v. on_two at op v (b n s)) h.left ∙ ap (λ v. on_two at op (value x.0 h.left_turns) v) h.right ∙ ap (after_turns at (h.left_turns + h.right_turns)) c.0 ∙ ap (value y) (sym h.sum) ∙ more_turns y u d c.1;
    left_down = λ r y h. let o = operands at op (a2 r) (b2 r) y h.0 h.1 in ((o.x, o.y), ((o.t, o.left), (o.r, o.right)), o.both);
    left_up = λ r x y h d. (h.0.0 + h.1.0, ap (λ v. on_two at op v (b2 r)) h.0.1 ∙ ap (λ v. on_two at op (value x.0 h.0.0) v) h.1.1 ∙ ap (after_turns at (h.0.0 + h.1.0)) d);
    there = λ n s r x y d k c. c.0;
    again = λ s r x y k d. (0, λ n. (d, refl));
    keeps = λ r q x y w d. d;
  }

  -- a choice whose sides mean the same in both
  pub choice_makes : (c a b : ℕ → Meaning) (c2 a2 b2 : Meaning) → ((n : ℕ) (s r : Store) → R s r → a2 r ≡ a n s) → ((n : ℕ) (s r : Store) → R s r → b2 r ≡ b n s) → ((r q : Store) → Below g r q → a2 r ≡ a2 q) → ((r q : Store) → Below g r q → b2 r ≡ b2 q)
      → Makes R g (val_means c) (val_gives c2) (val_means (λ n s. chosen (c n s) (a n) (b n) s)) (val_gives (λ s. chosen (c2 s) a2 b2 s)) (λ n s x y d. (r : ℕ) × (one_of (is_zero x) (b n) (a n) s ≡ value y r) × (d ≡ 1 + r)) (λ r x y. (u : ℕ) × (one_of (is_zero x) b2 a2 r ≡ value y u))
  choice_makes c a b c2 a2 b2 sa sb ka kb = record {
    down = λ n s y u h. let o = choosing (c n s) (a n) (b n) s y u h in record { from = o.w; turns = o.t; extra = 1 + o.r; first = o.cond; then = (o.r, o.side, refl); sum = o.all };
    up = λ n s x y u d h k. let e : u + 1 + k.0 ≡ u + d = let i = k.2 in omega arith in ap (λ v. chosen v (a n) (b n) s) h ∙ ap (later (u + 1)) k.1 ∙ ap (value y) e;
    left_down = λ r y h. let o = choosing (c2 r) a2 b2 r y h.0 h.1 in (o.w, (o.t, o.cond), (o.r, o.side));
    left_up = λ r x y h d. (h.0 + 1 + d.0, ap (λ v. chosen v a2 b2 r) h.1 ∙ ap (later (h.0 + 1)) d.1);
    there = λ n s r x y d k c. (c.0, sides_same (is_zero x) (a n) (b n) a2 b2 s r (sa n s r k) (sb n s r k) ∙ c.1);
    again = λ s r x y k d. (1 + d.0, λ n. (d.0, sym (sides_same (is_zero x) (a n) (b n) a2 b2 s r (sa n s r k) (sb n s r k)) ∙ d.1, refl));
    keeps = λ r q x y w d. (d.0, sides_same (is_zero x) a2 b2 a2 b2 r q (sym (ka r q w)) (sym (kb r q w)) ∙ d.1);
  }

  pub row_makes : (a : ℕ → Meaning) (xs : ℕ → List Meaning) (a2 : Meaning) (xs2 : List Meaning)
      → Makes R g (Two (val_means a) (vals_means xs)) (both_give (val_gives a2) (vals_gives xs2)) (vals_means (λ n. a n ∷ xs n)) (vals_gives (a2 ∷ xs2)) (λ n s x y d. (y ≡ x.0 ∷ x.1) × (d ≡ 0)) (λ r x y. y ≡ x.0 ∷ x.1)
  row_makes a xs a2 xs2 = record {
    down = λ n s y u h. let o = firsts (a n s) (all_values (xs n) s) y u h in record { from = (o.x, o.xs); turns = u; extra = 0; first = record { left_turns = o.t; right_turns = o.r; left = o.first; right = o.rest; sum = o.all }; then = (o.is, refl); sum = omega arith };
    up = λ n s x y u d h c. let e : h.left_turns + h.right_turns ≡ u + d = let i = h.sum in let j = c.1 in omega arith in ap (λ v. with_first v (all_values (xs n) s)) h.left ∙ ap (λ v. with_first (value x.0 h.left_turns) v) h.right ∙ ap (λ i. values (x.0 ∷ x.1) i) e ∙ ap (λ z. values z (u + d)) (sym c.0);
    left_down = λ r y h. let o = firsts (a2 r) (all_values xs2 r) y h.0 h.1 in ((o.x, o.xs), ((o.t, o.first), (o.r, o.rest)), o.is);
    left_up = λ r x y h d. (h.0.0 + h.1.0, ap (λ v. with_first v (all_values xs2 r)) h.0.1 ∙ ap (λ v. with_first (value x.0 h.0.0) v) h.1.1 ∙ ap (λ z. values z (h.0.0 + h.1.0)) (sym d));
    there = λ n s r x y d k c. c.0;
    again = λ s r x y k d. (0, λ n. (d, refl));
    keeps = λ r q x y w d. d;
  }

  pub element_makes : (k K : Objects) (at : Span) (a : ℕ) (xs : ℕ → List Meaning) (xs2 : List Meaning) → k.arrays ≡ K.arrays → ((s r : Store) → R s r → s.arrays ≡ r.arrays)
      → Makes R g (vals_means xs) (vals_gives xs2) (val_means (λ n s. element k at s a (all_values (xs n) s))) (val_gives (λ s. element K at s a (all_values xs2 s))) (λ n s x y d. (element_at s a (place k.arrays a x) ≡ Some y) × (d ≡ 0)) (λ r x y. element_at r a (place K.arrays a x) ≡ Some y)
  element_makes k K at a xs xs2 e f = record {
    down = λ n s y u h. let o = indexed k at s a (all_values (xs n) s) y u h in record { from = o.given; turns = u; extra = 0; first = o.all; then = (o.is, refl); sum = omega arith };
    up = λ n s x y u d h c. ap (element k at s a) h ∙ ap (after_turns at u) c.0 ∙ more_turns y u d c.1;
    left_down = λ r y h. let o = indexed K at r a (all_values xs2 r) y h.0 h.1 in (o.given, (h.0, o.all), o.is);
    left_up = λ r x y h d. (h.0, ap (element K at r a) h.1 ∙ ap (after_turns at h.0) d);
    there = λ n s r x y d k0 c. sym (ap (λ z. element_at s a (place z a x)) e ∙ element_of_arrays a (place K.arrays a x) s r (f s r k0)) ∙ c.0;
    again = λ s r x y k0 d. (0, λ n. (ap (λ z. element_at s a (place z a x)) e ∙ element_of_arrays a (place K.arrays a x) s r (f s r k0) ∙ d, refl));
    keeps = λ r q x y w d. sym (element_of_arrays a (place K.arrays a x) r q w.arrays) ∙ d;
  }
