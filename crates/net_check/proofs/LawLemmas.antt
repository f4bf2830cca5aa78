-- What the laws say of rules and refusals.
use Rattle.std.proofs.Common.{◌≡◌, inl, inr, ℕ, ◌+◌, List, [], ◌∷◌, ◌++◌, refl, sym, ap, subst, ◌∙◌, arith}
use Rattle.std.specs.List.{All}
use Rattle.std.proofs.lemmas.Bool.{cases_lt}
use Rattle.std.proofs.lemmas.List.Elements.{All-nil, All-cons, All-head, All-tail}
use Rattle.net_types.specs.declared.net.Net.{Net}
use Rattle.net_types.specs.Numbered.{AreNumbered}
use Rattle.net_check.specs.declared.refusal.At.{At}
use Rattle.net_check.specs.declared.refusal.At.TheVariants as «at»
use Rattle.net_check.specs.Lowest.{IsLowest}
use Rattle.net_check.specs.Headers.{CulpritC8}
use Rattle.net_check.specs.Shapes.{CulpritC7}
use Rattle.net_check.specs.Places.{CulpritC1, CulpritC2}
use Rattle.net_check.specs.Sizes.{CulpritC3}
use Rattle.net_check.specs.Cycles.{CulpritC4}
use Rattle.net_check.specs.Controls.{CulpritC5}
use Rattle.net_check.specs.Ends.{CulpritC6}
use Rattle.net_check.specs.Keeps.{Keeps, keeps_c1, keeps_c2, keeps_c3, keeps_c4, keeps_c5, keeps_c6, keeps_c7, keeps_c8, Culprit, culprit_c1, culprit_c2, culprit_c3, culprit_c4, culprit_c5, culprit_c6, culprit_c7, culprit_c8, rules_in_order}
use Rattle.net_check.specs.Refusals.{IsFirstBroken, IsRuleRefusal}
use Rattle.net_check.specs.Checks.{IsChecked}
use Rattle.net_check.proofs.CheckLemmas.{checked_of}
use Rattle.net_check.proofs.KeepLemmas.{kept_1, kept_2, kept_3, kept_4, kept_5, kept_6, kept_7, kept_8, culprit_1, culprit_2, culprit_3, culprit_4, culprit_5, culprit_6, culprit_7, culprit_8}

-- ---- all rules

pub check_all : (net : Net) → AreNumbered net → All (Keeps net) rules_in_order → IsChecked net
check_all net n a8 =
    let P : ℕ → Type 0 = Keeps net in
    let a7 = All-tail P 8 (7 ∷ 1 ∷ 2 ∷ 3 ∷ 4 ∷ 5 ∷ 6 ∷ []) a8 in
    let a1 = All-tail P 7 (1 ∷ 2 ∷ 3 ∷ 4 ∷ 5 ∷ 6 ∷ []) a7 in
    let a2 = All-tail P 1 (2 ∷ 3 ∷ 4 ∷ 5 ∷ 6 ∷ []) a1 in
    let a3 = All-tail P 2 (3 ∷ 4 ∷ 5 ∷ 6 ∷ []) a2 in
    let a4 = All-tail P 3 (4 ∷ 5 ∷ 6 ∷ []) a3 in
    let a5 = All-tail P 4 (5 ∷ 6 ∷ []) a4 in
    let a6 = All-tail P 5 (6 ∷ []) a5 in
    checked_of net n
    (kept_1 net (All-head P 1 (2 ∷ 3 ∷ 4 ∷ 5 ∷ 6 ∷ []) a1))
    (kept_2 net (All-head P 2 (3 ∷ 4 ∷ 5 ∷ 6 ∷ []) a2))
    (kept_3 net (All-head P 3 (4 ∷ 5 ∷ 6 ∷ []) a3))
    (kept_4 net (All-head P 4 (5 ∷ 6 ∷ []) a4))
    (kept_5 net (All-head P 5 (6 ∷ []) a5))
    (kept_6 net (All-head P 6 [] a6))
    (kept_7 net (All-head P 7 (1 ∷ 2 ∷ 3 ∷ 4 ∷ 5 ∷ 6 ∷ []) a7))
    (kept_8 net (All-head P 8 (7 ∷ 1 ∷ 2 ∷ 3 ∷ 4 ∷ 5 ∷ 6 ∷ []) a8))

pub keeps_all : (net : Net) → IsChecked net → All (Keeps net) rules_in_order
keeps_all net k =
    let P : ℕ → Type 0 = Keeps net in
    All-cons P 8 (7 ∷ 1 ∷ 2 ∷ 3 ∷ 4 ∷ 5 ∷ 6 ∷ []) (keeps_c8 k.c8)
    (All-cons P 7 (1 ∷ 2 ∷ 3 ∷ 4 ∷ 5 ∷ 6 ∷ []) (keeps_c7 k.c7)
    (All-cons P 1 (2 ∷ 3 ∷ 4 ∷ 5 ∷ 6 ∷ []) (keeps_c1 k.c1)
    (All-cons P 2 (3 ∷ 4 ∷ 5 ∷ 6 ∷ []) (keeps_c2 k.c2)
    (All-cons P 3 (4 ∷ 5 ∷ 6 ∷ []) (keeps_c3 k.c3)
    (All-cons P 4 (5 ∷ 6 ∷ []) (keeps_c4 k.c4)
    (All-cons P 5 (6 ∷ []) (keeps_c5 k.c5)
    (All-cons P 6 [] (keeps_c6 k.c6) (All-nil P))))))))

-- ---- one refusal

one_lowest : (P : ℕ → Type 0) (m n : ℕ) → IsLowest P m → IsLowest P n → m ≡ n
one_lowest P m n a b = elim (cases_lt m n) [
  | inl l ↦ absurd (b.below m l a.here)
  | inr l ↦ elim (cases_lt n m) [ inl k ↦ absurd (a.below n k b.here) | inr k ↦ omega arith ]
]

one_unit : (P : ℕ → Type 0) (m n : ℕ) → IsLowest P m → IsLowest P n → at.Unit m ≡ at.Unit n
one_unit P m n a b = ap (λ x. at.Unit x) (one_lowest P m n a b)

one_chan : (P : ℕ → Type 0) (m n : ℕ) → IsLowest P m → IsLowest P n → at.Chan m ≡ at.Chan n
one_chan P m n a b = ap (λ x. at.Chan x) (one_lowest P m n a b)

same_1 : (net : Net) (x y : At) → CulpritC1 net x → CulpritC1 net y → x ≡ y
same_1 net (at.Chan c) (at.Chan d) a b = one_chan _ c d a b
same_1 net (at.Chan c) (at.Unit v) a b = absurd (b.0 c a.here)
same_1 net (at.Chan c) at.Net a b = absurd b
same_1 net (at.Unit u) (at.Chan d) a b = absurd (a.0 d b.here)
same_1 net (at.Unit u) (at.Unit v) a b = one_unit _ u v a.1 b.1
same_1 net (at.Unit u) at.Net a b = absurd b
same_1 net at.Net y a b = absurd a

same_2 : (net : Net) (x y : At) → CulpritC2 net x → CulpritC2 net y → x ≡ y
same_2 net (at.Unit u) (at.Unit v) a b = one_unit _ u v a b
same_2 net (at.Unit u) (at.Chan d) a b = absurd (b.0 u a.here)
same_2 net (at.Unit u) at.Net a b = absurd b
same_2 net (at.Chan c) (at.Unit v) a b = absurd (a.0 v b.here)
same_2 net (at.Chan c) (at.Chan d) a b = one_chan _ c d a.1 b.1
same_2 net (at.Chan c) at.Net a b = absurd b
same_2 net at.Net y a b = absurd a

same_3 : (net : Net) (x y : At) → CulpritC3 net x → CulpritC3 net y → x ≡ y
same_3 net (at.Chan c) (at.Chan d) a b = one_chan _ c d a b
same_3 net (at.Chan c) (at.Unit v) a b = absurd b
same_3 net (at.Chan c) at.Net a b = absurd (b.0 c a.here)
same_3 net (at.Unit u) y a b = absurd a
same_3 net at.Net (at.Chan d) a b = absurd (a.0 d b.here)
same_3 net at.Net (at.Unit v) a b = absurd b
same_3 net at.Net at.Net a b = refl

same_4 : (net : Net) (x y : At) → CulpritC4 net x → CulpritC4 net y → x ≡ y
same_4 net (at.Chan c) (at.Chan d) a b = one_chan _ c d a b
same_4 net (at.Chan c) (at.Unit v) a b = absurd (b.0 c a.here)
same_4 net (at.Chan c) at.Net a b = absurd b
same_4 net (at.Unit u) (at.Chan d) a b = absurd (a.0 d b.here)
same_4 net (at.Unit u) (at.Unit v) a b = one_unit _ u v a.1 b.1
same_4 net (at.Unit u) at.Net a b = absurd b
same_4 net at.Net y a b = absurd a

same_5 : (net : Net) (x y : At) → CulpritC5 net x → CulpritC5 net y → x ≡ y
same_5 net (at.Unit u) (at.Unit v) a b = one_unit _ u v a b
same_5 net (at.Unit u) (at.Chan d) a b = absurd b
same_5 net (at.Unit u) at.Net a b = absurd b
same_5 net (at.Chan c) y a b = absurd a
same_5 net at.Net y a b = absurd a

same_6 : (net : Net) (x y : At) → CulpritC6 net x → CulpritC6 net y → x ≡ y
same_6 net (at.Unit u) (at.Unit v) (inl a) (inl b) = one_unit _ u v a b
same_6 net (at.Unit u) (at.Unit v) (inl a) (inr b) = absurd (b.0 u a.here)
same_6 net (at.Unit u) (at.Unit v) (inr a) (inl b) = absurd (a.0 v b.here)
same_6 net (at.Unit u) (at.Unit v) (inr a) (inr b) = one_unit _ u v a.1 b.1
same_6 net (at.Unit u) (at.Chan d) a b = absurd b
same_6 net (at.Unit u) at.Net a b = absurd b
same_6 net (at.Chan c) y a b = absurd a
same_6 net at.Net y a b = absurd a

same_7 : (net : Net) (x y : At) → CulpritC7 net x → CulpritC7 net y → x ≡ y
same_7 net (at.Unit u) (at.Unit v) a b = one_unit _ u v a b
same_7 net (at.Unit u) (at.Chan d) a b = absurd b
same_7 net (at.Unit u) at.Net a b = absurd b
same_7 net (at.Chan c) y a b = absurd a
same_7 net at.Net y a b = absurd a

same_8 : (net : Net) (x y : At) → CulpritC8 net x → CulpritC8 net y → x ≡ y
same_8 net (at.Unit u) (at.Unit v) a b = one_unit _ u v a b
same_8 net (at.Unit u) (at.Chan d) a b = absurd b
same_8 net (at.Unit u) at.Net a b = absurd (b.0 u a.here)
same_8 net (at.Chan c) y a b = absurd a
same_8 net at.Net (at.Unit v) a b = absurd (a.0 v b.here)
same_8 net at.Net (at.Chan d) a b = absurd b
same_8 net at.Net at.Net a b = refl

same_culprit : (net : Net) (i : ℕ) (x y : At) → Culprit net x i → Culprit net y i → x ≡ y
same_culprit net i x y (culprit_c1 a) b = same_1 net x y a (culprit_1 net y b)
same_culprit net i x y (culprit_c2 a) b = same_2 net x y a (culprit_2 net y b)
same_culprit net i x y (culprit_c3 a) b = same_3 net x y a (culprit_3 net y b)
same_culprit net i x y (culprit_c4 a) b = same_4 net x y a (culprit_4 net y b)
same_culprit net i x y (culprit_c5 a) b = same_5 net x y a (culprit_5 net y b)
same_culprit net i x y (culprit_c6 a) b = same_6 net x y a (culprit_6 net y b)
same_culprit net i x y (culprit_c7 a) b = same_7 net x y a (culprit_7 net y b)
same_culprit net i x y (culprit_c8 a) b = same_8 net x y a (culprit_8 net y b)

-- of two cuts of a list by a broken one after kept ones, the broken ones are one
same_cut : (P : ℕ → Type 0) (es fs gs hs : List ℕ) (i j : ℕ) → es ++ i ∷ gs ≡ fs ++ j ∷ hs → All P es → All P fs → (P i → ⊥) → (P j → ⊥) → i ≡ j
same_cut P [] [] gs hs i j e a b x y = cc
same_cut P [] (f ∷ fs) gs hs i j e a b x y = let z : f ≡ i = cc in absurd (x (subst P z (All-head P f fs b)))
same_cut P (d ∷ es) [] gs hs i j e a b x y = let z : d ≡ j = cc in absurd (y (subst P z (All-head P d es a)))
same_cut P (d ∷ es) (f ∷ fs) gs hs i j e a b x y = let z : es ++ i ∷ gs ≡ fs ++ j ∷ hs = cc in same_cut P es fs gs hs i j z (All-tail P d es a) (All-tail P f fs b) x y

pub same_rule : (net : Net) (i j : ℕ) (x y : At) → IsFirstBroken net i x → IsFirstBroken net j y → i ≡ j
same_rule net i j x y a b = same_cut (Keeps net) a.earlier b.earlier a.later b.later i j (sym a.tried ∙ b.tried) a.kept b.kept a.broken b.broken

pub one_refusal : (net : Net) (m n : ℕ) (x y : At) → IsRuleRefusal net m x → IsRuleRefusal net n y → (m ≡ n) × (x ≡ y)
one_refusal net m n x y a b =
    let e : a.rule ≡ b.rule = same_rule net a.rule b.rule x y a.first b.first in
    let c : Culprit net x b.rule = subst (Culprit net x) e a.first.culprit in
    (a.numbered ∙ ap (λ i. 29 + i) e ∙ sym b.numbered, same_culprit net b.rule x y c b.first.culprit)

-- a rule of the order is kept where all are
in_order : (P : ℕ → Type 0) (es gs : List ℕ) (i : ℕ) → All P (es ++ i ∷ gs) → P i
in_order P [] gs i a = All-head P i gs a
in_order P (e ∷ es) gs i a = in_order P es gs i (All-tail P e (es ++ i ∷ gs) a)

pub not_refused : (net : Net) (n : ℕ) (x : At) → IsChecked net → IsRuleRefusal net n x → ⊥
not_refused net n x k r = r.first.broken (in_order (Keeps net) r.first.earlier r.first.later r.rule (subst (All (Keeps net)) r.first.tried (keeps_all net k)))
