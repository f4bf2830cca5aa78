-- The first of several faults, from the first of each part.
use Rattle.std.proofs.Common.{◌≡◌, ℕ, ◌+◌, ◌*◌, ◌<◌, Bool, true, false, ◌&&◌, ◌||◌, nat_lt, nat_eq, if◌then◌else◌, List, [], ◌∷◌, ◌++◌, Option, Some, None, refl, sym, ap, ◌∙◌, arith}
use Rattle.std.proofs.Common.{length, take, get_or, append-nil, append_assoc}
use Rattle.std.proofs.lemmas.List.{take_more}
use Rattle.std.proofs.lemmas.Bool.Decides.{nat_tests}
use Rattle.c_types.specs.declared.fault.Rule.{Rule}
use Rattle.c_types.specs.declared.fault.Rule.TheVariants as rule
use Rattle.c_types.specs.declared.fault.Fault.{Fault}
use Rattle.c_types.specs.Places.{is_before, earlier, first_of}
use Rattle.c_types.specs.Refusals.{rule_number}

-- one number for a fault's place in the order
pub key : Fault → ℕ
key f = 100 * f.span.start + rule_number f.rule

number_small : (r : Rule) → rule_number r < 100
number_small rule.Undeclared = omega arith
number_small r = omega arith

before_by_numbers : (a b m n : ℕ) → m < 100 → n < 100 → (nat_lt a b || (nat_eq a b && nat_lt m n)) ≡ nat_lt (100 * a + m) (100 * b + n)
before_by_numbers a b m n small small2 = grind (arith, nat_tests)

pub before_by_key : (f g : Fault) → is_before f g ≡ nat_lt (key f) (key g)
unfolding key
before_by_key f g = before_by_numbers f.span.start g.span.start (rule_number f.rule) (rule_number g.rule) (number_small f.rule) (number_small g.rule)

pub earlier-earlier : (f g h : Option Fault) → earlier (earlier f g) h ≡ earlier f (earlier g h)
earlier-earlier None g h = refl
earlier-earlier (Some f) None h = refl
earlier-earlier (Some f) (Some g) None = by (is_before g f)
  where
    by : (b : Bool) → earlier (if b then Some g else Some f) None ≡ (if b then Some g else Some f)
    by true = refl
    by false = refl
earlier-earlier (Some f) (Some g) (Some h) = by (is_before g f) (is_before h g) refl refl
  where
    lower : (a b c : ℕ) → nat_lt b a ≡ true → nat_lt c b ≡ true → nat_lt c a ≡ true
    lower a b c p q = grind (arith, nat_tests)

    higher : (a b c : ℕ) → nat_lt b a ≡ false → nat_lt c b ≡ false → nat_lt c a ≡ false
    higher a b c p q = grind (arith, nat_tests)

    by : (p q : Bool) → is_before g f ≡ p → is_before h g ≡ q → earlier (if p then Some g else Some f) (Some h) ≡ earlier (Some f) (if q then Some h else Some g)
    by true true p q =
        ap (λ b. if b then Some h else Some g) q
        ∙ sym (ap (λ b. if b then Some h else Some f) (before_by_key h f ∙ lower (key f) (key g) (key h) (sym (before_by_key g f) ∙ p) (sym (before_by_key h g) ∙ q)))
    by true false p q = ap (λ b. if b then Some h else Some g) q ∙ sym (ap (λ b. if b then Some g else Some f) p)
    by false true p q = refl
    by false false p q =
        ap (λ b. if b then Some h else Some f) (before_by_key h f ∙ higher (key f) (key g) (key h) (sym (before_by_key g f) ∙ p) (sym (before_by_key h g) ∙ q))
        ∙ sym (ap (λ b. if b then Some g else Some f) p)

pub first_of_both : (fs gs : List Fault) → first_of (fs ++ gs) ≡ earlier (first_of fs) (first_of gs)
first_of_both [] gs = refl
first_of_both (f ∷ fs) gs = ap (earlier (Some f)) (first_of_both fs gs) ∙ sym (earlier-earlier (Some f) (first_of fs) (first_of gs))

-- a node with two parts, and one with three
pub of_two : (fs gs hs : List Fault) (a b o : Option Fault) → hs ≡ fs ++ gs → a ≡ first_of fs → b ≡ first_of gs → o ≡ earlier a b → o ≡ first_of hs
of_two fs gs hs a b o is p q r = r ∙ ap (λ x. earlier x b) p ∙ ap (earlier (first_of fs)) q ∙ sym (first_of_both fs gs) ∙ sym (ap first_of is)

pub of_three : (fs gs hs us : List Fault) (a b d o n : Option Fault) → us ≡ fs ++ (gs ++ hs) → a ≡ first_of fs → b ≡ first_of gs → d ≡ first_of hs → n ≡ earlier b d → o ≡ earlier a n → o ≡ first_of us
of_three fs gs hs us a b d o n is p q r s t = of_two fs (gs ++ hs) us a n o is p (of_two gs hs (gs ++ hs) b d n refl q r s) t

-- one more item of a list, where the faults of a list are those of each item
pub one_more : {A : Type 0} (f : List A → List Fault) (g : A → List Fault) → f [] ≡ [] → ((x : A) (xs : List A) → f (x ∷ xs) ≡ g x ++ f xs)
    → (xs us : List A) (x : A) (a b o : Option Fault) → us ≡ xs ++ x ∷ [] → a ≡ first_of (f xs) → b ≡ first_of (g x) → o ≡ earlier a b → o ≡ first_of (f us)
one_more {A} f g none more xs us x a b o is p q h = of_two (f xs) (g x) (f us) a b o (ap f is ∙ at_end xs) p q h
  where
    at_end : (xs : List A) → f (xs ++ x ∷ []) ≡ f xs ++ g x
    at_end [] = more x [] ∙ ap (λ fs. g x ++ fs) none ∙ append-nil (g x) ∙ ap (λ fs. fs ++ g x) (sym none)
    at_end (y ∷ ys) = more y (ys ++ x ∷ []) ∙ ap (λ fs. g y ++ fs) (at_end ys) ∙ sym (append_assoc (g y) (f ys) (g x)) ∙ ap (λ fs. fs ++ g x) (sym (more y ys))

-- one more item of a list that is gone over
pub item_more : {X : Type 0} (xs : List X) (i : ℕ) (x : X) → i < length xs → x ≡ get_or xs i x → take (i + 1) xs ≡ take i xs ++ x ∷ []
item_more xs i x lt is = take_more xs i x lt ∙ sym (ap (λ y. take i xs ++ y ∷ []) is)
