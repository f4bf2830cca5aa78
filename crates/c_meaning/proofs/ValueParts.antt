-- What an expression that has a value is made of: the values of its parts, and the turns that each of them takes.
use Rattle.std.proofs.Common.{◌≡◌, ℕ, ℤ, ◌+◌, List, ◌∷◌, Option, Some, None, refl, sym, ap, arith}
use Rattle.std.specs.Prelude.{Bool, true, false}
use Rattle.el_base.specs.declared.span.Span.{Span}
use Rattle.c_meaning.specs.Operators.{is_zero}
use Rattle.c_meaning.specs.Stores.{Store, Objects, place}
use Rattle.c_meaning.specs.Expressions.{Val, undefined_value, value, Vals, undefined_values, values, Meaning, after_turns, on_one, on_two, later, one_of, chosen, with_first, element, element_at}

pub value_one : (x y : ℤ) (t u : ℕ) → value x t ≡ value y u → x ≡ y
value_one x y t u e = cc

pub value_two : (x y : ℤ) (t u : ℕ) → value x t ≡ value y u → t ≡ u
value_two x y t u e = cc

pub values_one : (xs ys : List ℤ) (t u : ℕ) → values xs t ≡ values ys u → xs ≡ ys
values_one xs ys t u e = cc

pub values_two : (xs ys : List ℤ) (t u : ℕ) → values xs t ≡ values ys u → t ≡ u
values_two xs ys t u e = cc

pub after_is : (at : Span) (n m : ℕ) (o : Option ℤ) (z : ℤ) → after_turns at n o ≡ value z m → (o ≡ Some z) × (m ≡ n)
after_is at n m None z e = absurd (cc)
after_is at n m (Some x) z e = (ap Some (value_one x z n m e), sym (value_two x z n m e))

-- ---- operands

pub record Operand (op : ℤ → Option ℤ) (a : Val) (z : ℤ) (u : ℕ) : Type 0 where
  pub x : ℤ
  pub is : a ≡ value x u
  pub gives : op x ≡ Some z

pub operand : (at : Span) (op : ℤ → Option ℤ) (a : Val) (z : ℤ) (u : ℕ) → on_one at op a ≡ value z u → Operand op a z u
operand at op (undefined_value p) z u e = absurd (cc)
operand at op (value x t) z u e = let h = after_is at t u (op x) z e in record { x = x; is = ap (value x) (sym h.1); gives = h.0 }

pub record Operands (op : ℤ → ℤ → Option ℤ) (a b : Val) (z : ℤ) (u : ℕ) : Type 0 where
  pub x : ℤ
  pub y : ℤ
  pub t : ℕ
  pub r : ℕ
  pub left : a ≡ value x t
  pub right : b ≡ value y r
  pub both : op x y ≡ Some z
  pub all : u ≡ t + r

pub operands : (at : Span) (op : ℤ → ℤ → Option ℤ) (a b : Val) (z : ℤ) (u : ℕ) → on_two at op a b ≡ value z u → Operands op a b z u
operands at op (undefined_value p) b z u e = absurd (cc)
operands at op (value x t) (undefined_value p) z u e = absurd (cc)
operands at op (value x t) (value y r) z u e = let h = after_is at (t + r) u (op x y) z e in record { x = x; y = y; t = t; r = r; left = refl; right = refl; both = h.0; all = h.1 }

-- ---- choices

pub record Later (n : ℕ) (v : Val) (z : ℤ) (m : ℕ) : Type 0 where
  pub r : ℕ
  pub is : v ≡ value z r
  pub all : m ≡ n + r

pub later_is : (n m : ℕ) (v : Val) (z : ℤ) → later n v ≡ value z m → Later n v z m
later_is n m (undefined_value p) z e = absurd (cc)
later_is n m (value x r) z e = record { r = r; is = ap (λ y. value y r) (value_one x z (n + r) m e); all = sym (value_two x z (n + r) m e) }

-- the condition of a choice that has a value, and the side that it leads to
pub record Chosen (c : Val) (a b : Meaning) (s : Store) (z : ℤ) (u : ℕ) : Type 0 where
  pub w : ℤ
  pub t : ℕ
  pub r : ℕ
  pub cond : c ≡ value w t
  pub side : one_of (is_zero w) b a s ≡ value z r
  pub all : u ≡ t + (1 + r)

pub choosing : (c : Val) (a b : Meaning) (s : Store) (z : ℤ) (u : ℕ) → chosen c a b s ≡ value z u → Chosen c a b s z u
choosing (undefined_value p) a b s z u e = absurd (cc)
choosing (value w t) a b s z u e = let h = later_is (t + 1) u (one_of (is_zero w) b a s) z e in record { w = w; t = t; r = h.r; cond = refl; side = h.is; all = let i = h.all in omega arith }

pub sides_same : (z : Bool) (a b a2 b2 : Meaning) (s r : Store) → a2 r ≡ a s → b2 r ≡ b s → one_of z b2 a2 r ≡ one_of z b a s
sides_same true a b a2 b2 s r x y = y
sides_same false a b a2 b2 s r x y = x

-- ---- rows, and elements of arrays

-- the first of several, and the others
pub record First (v : Val) (vs : Vals) (zs : List ℤ) (u : ℕ) : Type 0 where
  pub x : ℤ
  pub xs : List ℤ
  pub t : ℕ
  pub r : ℕ
  pub first : v ≡ value x t
  pub rest : vs ≡ values xs r
  pub is : zs ≡ x ∷ xs
  pub all : u ≡ t + r

pub firsts : (v : Val) (vs : Vals) (zs : List ℤ) (u : ℕ) → with_first v vs ≡ values zs u → First v vs zs u
firsts (undefined_value p) vs zs u e = absurd (cc)
firsts (value x t) (undefined_values p) zs u e = absurd (cc)
firsts (value x t) (values xs r) zs u e = record { x = x; xs = xs; t = t; r = r; first = refl; rest = refl; is = sym (values_one (x ∷ xs) zs (t + r) u e); all = sym (values_two (x ∷ xs) zs (t + r) u e) }

-- the indices of an element that has a value
pub record Indexed (k : Objects) (at : Span) (s : Store) (a : ℕ) (vs : Vals) (z : ℤ) (u : ℕ) : Type 0 where
  pub given : List ℤ
  pub all : vs ≡ values given u
  pub is : element_at s a (place k.arrays a given) ≡ Some z

pub indexed : (k : Objects) (at : Span) (s : Store) (a : ℕ) (vs : Vals) (z : ℤ) (u : ℕ) → element k at s a vs ≡ value z u → Indexed k at s a vs z u
indexed k at s a (undefined_values p) z u e = absurd (cc)
indexed k at s a (values is t) z u e = let h = after_is at t u (element_at s a (place k.arrays a is)) z e in record { given = is; all = ap (values is) (sym h.1); is = h.0 }

pub element_of_arrays : (a : ℕ) (o : Option ℕ) (s r : Store) → s.arrays ≡ r.arrays → element_at s a o ≡ element_at r a o
element_of_arrays a None s r e = refl
element_of_arrays a (Some i) s r e = ap (λ arrays. element_at (record { vars = s.vars; arrays = arrays }) a (Some i)) e
