-- The place of some tokens, by the first and the last of them.
use Rattle.std.proofs.Common.{◌≡◌, ℕ, ◌+◌, ◌-◌, min, List, [], ◌∷◌, ◌++◌, length, take, Some, slice_get, arith, length-append, sym, ◌∙◌, ap, subst}
use Rattle.std.proofs.lemmas.Option.{same_Some, none-some}
use Rattle.std.proofs.Math.Seq.{take-append_seam}
use Rattle.c_ast.specs.declared.token.Token.{Token}
use Rattle.c_ast.specs.Derives.{join, last_span, place_of}

last_is : (u : Token) (us : List Token) (t : Token) → slice_get (u ∷ us) (length us) ≡ Some t → t.span ≡ last_span u.span us
last_is u [] t e = let h : u ≡ t = same_Some u t e in ap (λ x. x.span) (sym h)
last_is u (v ∷ vs) t e = last_is v vs t e

place_is : (used : List Token) (first last : Token) → slice_get used 0 ≡ Some first → slice_get used (length used - 1) ≡ Some last → join first.span last.span ≡ place_of used
place_is [] first last f l = absurd (none-some first f)
place_is (u ∷ us) first last f l =
    let h : u ≡ first = same_Some u first f in
    let n : length (u ∷ us) - 1 ≡ length us = omega arith in
    let e : last.span ≡ last_span u.span us = last_is u us last (subst (λ k. slice_get (u ∷ us) k ≡ Some last) n l) in
    ap (λ x. join x.span last.span) (sym h) ∙ ap (λ s. join u.span s) e

-- the front of a list, up to a rest
front_is : (from rest front used : List Token) (m : ℕ) → m ≡ min (length rest) (length from) → front ≡ take (length from - m) from → from ≡ used ++ rest → front ≡ used
front_is from rest front used m small cut split =
    let all : length from ≡ length used + length rest = ap length split ∙ length-append used rest in
    let count : length from - m ≡ length used = omega arith in
    cut ∙ ap (λ n. take n from) count ∙ ap (λ ts. take (length used) ts) split ∙ take-append_seam used rest

pub place_between : (from rest front used : List Token) (m : ℕ) (first last : Token) → m ≡ min (length rest) (length from) → front ≡ take (length from - m) from
    → Some first ≡ slice_get front 0 → Some last ≡ slice_get front (length front - 1) → from ≡ used ++ rest → join first.span last.span ≡ place_of used
place_between from rest front used m first last small cut f l split =
    let same : front ≡ used = front_is from rest front used m small cut split in
    place_is used first last (subst (λ ts. slice_get ts 0 ≡ Some first) same (sym f)) (subst (λ ts. slice_get ts (length ts - 1) ≡ Some last) same (sym l))
