-- Answers, by the trace after them.
use Rattle.std.proofs.Common.{◌≡◌, ℕ, zero, suc, ◌+◌, ◌^◌, ◌<◌, refl, sym, ◌∙◌, ap, subst, arith}
use Rattle.std.specs.Prelude.{Bool, true, false, not, ℤ, pos, Option, Some, None, is_some, ◌==◌, if◌then◌else◌}
use Rattle.std.proofs.lemmas.Int.{ints}
use Rattle.std.proofs.lemmas.Bool.Decides.{nat_tests}
use Rattle.el_base.specs.declared.ty.Ty.{Ty}
use Rattle.el_base.specs.declared.ty.Ty.TheVariants.{I8, I32}
use Rattle.el_base.specs.declared.span.Span.{Span}
use Rattle.el_base.specs.Numbers.{number}
use Rattle.el_base.specs.Widths.{ty_width}
use Rattle.c_meaning.specs.Operators.{is_zero, truth}
use Rattle.c_meaning.specs.Stores.{Store}
use Rattle.c_meaning.specs.Expressions.{Val, undefined_value, value, Meaning, after_turns, on_one, on_two, later, as_truth, one_of, chosen, always}
use Rattle.ref_interp.specs.declared.cells.Trace.{Trace}
use Rattle.ref_interp.specs.Answers.{most, plus_turns, Gives, Answered}
use Rattle.ref_interp.specs.Laws.{IsPattern}

pub failed_is : (b : Bool) (t : Ty) (v : Val) (u p : ℕ) (new : Trace) → b ≡ true → Answered b t v u new p → v ≡ undefined_value new.at
failed_is true t v u p new e h = h
failed_is false t v u p new e h = absurd (cc)

pub gives_is : (b : Bool) (t : Ty) (v : Val) (u p : ℕ) (new : Trace) → b ≡ false → Answered b t v u new p → Gives t p u new.turns v
gives_is true t v u p new e h = absurd (cc)
gives_is false t v u p new e h = h

pub fails : (b : Bool) (t : Ty) (v : Val) (u p : ℕ) (new : Trace) → b ≡ true → v ≡ undefined_value new.at → Answered b t v u new p
fails b t v u p new e h = subst (λ b. Answered b t v u new p) (sym e) h

pub gives : (b : Bool) (t : Ty) (v : Val) (u p : ℕ) (new : Trace) → b ≡ false → Gives t p u new.turns v → Answered b t v u new p
gives b t v u p new e h = subst (λ b. Answered b t v u new p) (sym e) h

-- an answer of one type and value is one of another that is equal
pub answers_as : (b : Bool) (t t2 : Ty) (v v2 : Val) (u p : ℕ) (new : Trace) → t2 ≡ t → v2 ≡ v → Answered b t v u new p → Answered b t2 v2 u new p
answers_as b t t2 v v2 u p new e f h = subst (λ t. Answered b t v2 u new p) (sym e) (subst (λ v. Answered b t v u new p) (sym f) h)

-- ---- what is undefined, and what is not

pub the_some : (o : Option ℤ) → is_some o ≡ true → (z : ℤ) × (o ≡ Some z)
the_some None e = absurd (cc)
the_some (Some z) e = (z, refl)

two_values : (at : Span) (f : ℤ → ℤ → Option ℤ) (t by : Ty) (v w : Val) (x y u m o : ℕ) (g : Gives t x u m v) (h : Gives by y m o w) → on_two at f v w ≡ after_turns at (g.turns + h.turns) (f (number t x) (number by y))
two_values at f t by v w x y u m o g h = ap (λ v. on_two at f v w) g.is ∙ ap (on_two at f (value (number t x) g.turns)) h.is

pub two_some : (at : Span) (f : ℤ → ℤ → Option ℤ) (t by r : Ty) (v w : Val) (x y u m o q : ℕ) (z : ℤ) → Gives t x u m v → Gives by y m o w → f (number t x) (number by y) ≡ Some z → IsPattern r q z → Gives r q u o (on_two at f v w)
two_some at f t by r v w x y u m o q z g h e i = record {
  turns = g.turns + h.turns;
  is = two_values at f t by v w x y u m o g h ∙ ap (after_turns at (g.turns + h.turns)) e ∙ ap (λ z. value z (g.turns + h.turns)) (sym i.0);
  below = i.1;
  used = (let a = g.used in let b = h.used in omega arith);
}

-- ---- patterns of 0

pub zero_number : (t : Ty) (p : ℕ) → p < 2 ^ ty_width t → p ≡ 0 → is_zero (number t p) ≡ true
zero_number I8 p b e = rw e refl
zero_number t p b e = rw e refl

pub not_zero_number : (t : Ty) (p : ℕ) → p < 2 ^ ty_width t → (p ≡ 0 → ⊥) → is_zero (number t p) ≡ false
not_zero_number I8 p b e = grind (arith, ints)
not_zero_number t p b e = grind (arith, ints)

-- ---- sides

-- the side that counts, with one turn more
side_answers : (c : Bool) (t ta : Ty) (v : Val) (a b : Meaning) (s : Store) (x u m q : ℕ) (mid new : Trace) → Gives ta x u m v
    → is_zero (number ta x) ≡ c → mid.turns ≡ plus_turns m 1
    → Answered new.failed t (one_of c b a s) mid.turns new q → Answered new.failed t (chosen v a b s) u new q
side_answers c t ta v a b s x u m q mid new g z e h = by_cases new.failed refl
  where
    is : chosen v a b s ≡ later (g.turns + 1) (one_of c b a s)
    is = ap (λ v. chosen v a b s) g.is ∙ ap (λ c. later (g.turns + 1) (one_of c b a s)) z

    by_cases : (f : Bool) → new.failed ≡ f → Answered new.failed t (chosen v a b s) u new q
    by_cases true f =
        fails new.failed t _ u q new f (is ∙ ap (later (g.turns + 1)) (failed_is new.failed t (one_of c b a s) mid.turns q new f h))
    by_cases false f =
        let i = gives_is new.failed t (one_of c b a s) mid.turns q new f h in
        gives new.failed t _ u q new f (record {
          turns = g.turns + 1 + i.turns;
          is = is ∙ ap (later (g.turns + 1)) i.is;
          below = i.below;
          used = (let j = g.used in let l = i.used in omega arith);
        })

pub second_answers : (t ta : Ty) (v : Val) (a b : Meaning) (s : Store) (x u m q : ℕ) (mid new : Trace) → Gives ta x u m v
    → x ≡ 0 → mid.turns ≡ plus_turns m 1 → Answered new.failed t (b s) mid.turns new q → Answered new.failed t (chosen v a b s) u new q
second_answers t ta v a b s x u m q mid new g z e h = side_answers true t ta v a b s x u m q mid new g (zero_number ta x g.below z) e h

pub first_answers : (t ta : Ty) (v : Val) (a b : Meaning) (s : Store) (x u m q : ℕ) (mid new : Trace) → Gives ta x u m v
    → (x ≡ 0 → ⊥) → mid.turns ≡ plus_turns m 1 → Answered new.failed t (a s) mid.turns new q → Answered new.failed t (chosen v a b s) u new q
first_answers t ta v a b s x u m q mid new g z e h = side_answers false t ta v a b s x u m q mid new g (not_zero_number ta x g.below z) e h

-- ---- truth values

number_small : (n : ℕ) → n < 2 ^ 31 → number I32 n ≡ pos n
number_small n b = grind (arith, ints)

truth_zero : (p : ℕ) → p ≡ 0 → ◌≡◌ {A = ℕ} (if p == 0 then 0 else 1) 0
truth_zero p e = grind (arith, nat_tests)

truth_more : (p : ℕ) → (p ≡ 0 → ⊥) → ◌≡◌ {A = ℕ} (if p == 0 then 0 else 1) 1
truth_more p e = grind (arith, nat_tests)

truth_is : (t : Ty) (v : Val) (p q u w : ℕ) (b : Bool) → (g : Gives t p u w v) → is_zero (number t p) ≡ b → q < 2 ^ 31 → pos q ≡ truth (not b) → Gives I32 q u w (as_truth v)
truth_is t v p q u w b g z small e = record {
  turns = g.turns;
  is = ap as_truth g.is ∙ ap (λ b. value (truth (not b)) g.turns) z ∙ ap (λ z. value z g.turns) (sym (number_small q small ∙ e));
  below = omega arith;
  used = g.used;
}

truth_gives : (t : Ty) (v : Val) (p q u w : ℕ) → Gives t p u w v → q ≡ (if p == 0 then 0 else 1) → Gives I32 q u w (as_truth v)
truth_gives t v zero q u w g e =
    let is : q ≡ 0 = e ∙ truth_zero zero refl in
    truth_is t v zero q u w true g (zero_number t zero g.below refl) (omega arith) (ap pos is)
truth_gives t v (suc p) q u w g e =
    let is : q ≡ 1 = e ∙ truth_more (suc p) (λ e. omega arith) in
    truth_is t v (suc p) q u w false g (not_zero_number t (suc p) g.below (λ e. omega arith)) (omega arith) (ap pos is)

pub truth_answers : (t : Ty) (v : Val) (p q u : ℕ) (new : Trace) → Answered new.failed t v u new p → q ≡ (if p == 0 then 0 else 1) → Answered new.failed I32 (as_truth v) u new q
truth_answers t v p q u new h e = by_cases new.failed refl
  where
    by_cases : (f : Bool) → new.failed ≡ f → Answered new.failed I32 (as_truth v) u new q
    by_cases true is = fails new.failed I32 _ u q new is (ap as_truth (failed_is new.failed t v u p new is h))
    by_cases false is = gives new.failed I32 _ u q new is (truth_gives t v p q u new.turns (gives_is new.failed t v u p new is h) e)

-- a constant
pub always_gives : (z : ℕ) (s : Store) (n : ℕ) → z < 2 ^ 31 → n < most + 1 → Gives I32 z n n (always (pos z) s)
always_gives z s n b m = record { turns = 0; is = ap (λ z. value z 0) (sym (number_small z b)); below = omega arith; used = omega arith }
