-- Lists of tokens that are parted.
use Rattle.std.proofs.Common.{◌≡◌, ◌≤◌, ℕ, ◌-◌, ◌+◌, min, List, [], ◌∷◌, ◌++◌, All, Bool, true, false, not, length, take, drop, arith, length-append, refl, sym, ◌∙◌, ap, subst, append_assoc}
use Rattle.std.proofs.lemmas.List.Elements.{All-nil, All-cons, All-append}
use Rattle.std.proofs.Math.Seq.{take-append_seam, drop-append_seam}
use Rattle.c_ast.specs.declared.token.Token.{Token}
use Rattle.c_parse.specs.declared.bar.Bar.{Bar}
use Rattle.c_parse.specs.Symbols.{bars}
use Rattle.c_parse.specs.Bars.{IsFreeOf, is_free_at, BeginsBarred, IsParted}

-- the tokens before some have no barred word
pub record Free (b : Bar) (all back : List Token) : Type 0 where
  pub front : List Token
  pub split : all ≡ front ++ back
  pub free : All (IsFreeOf b) front

pub none_yet : (b : Bar) (all : List Token) → Free b all all
none_yet b all = record { front = []; split = refl; free = All-nil (IsFreeOf b) }

not_free : (x : Bool) → not x ≡ true → x ≡ false
not_free false h = refl
not_free true h = absurd (cc)

still_barred : (x : Bool) → not x ≡ false → x ≡ true
still_barred true h = refl
still_barred false h = absurd (cc)

pub one_more : (b : Bar) (all back new : List Token) → Free b all back → is_free_at b back ≡ true → new ≡ drop 1 back → Free b all new
one_more b all [] new f h e = absurd (cc)
one_more b all (t ∷ ts) new f h e = record {
  front = f.front ++ t ∷ [];
  split = f.split ∙ sym (append_assoc f.front (t ∷ []) ts) ∙ ap (λ us. (f.front ++ t ∷ []) ++ us) (sym e);
  free = All-append (IsFreeOf b) f.front (t ∷ []) f.free (All-cons (IsFreeOf b) t [] (not_free (bars b t.word) h) (All-nil (IsFreeOf b)));
}

pub nonempty : (b : Bar) (back : List Token) → is_free_at b back ≡ true → 1 ≤ length back
nonempty b [] h = absurd (cc)
nonempty b (t ∷ ts) h = omega arith

begins : (b : Bar) (back : List Token) → is_free_at b back ≡ false → BeginsBarred b back
begins b [] h = BeginsBarred.none
begins b (t ∷ ts) h = BeginsBarred.some t ts (still_barred (bars b t.word) h)

pub parted_at : (b : Bar) (all back x y : List Token) → Free b all back → is_free_at b back ≡ false → x ≡ take (length all - length back) all → y ≡ drop (length all - length back) all → IsParted b all x y
parted_at b all back x y f h p q =
    let long : length all ≡ length f.front + length back = ap length f.split ∙ length-append f.front back in
    let n : length all - length back ≡ length f.front = omega arith in
    let front : x ≡ f.front = p ∙ ap (λ k. take k all) n ∙ ap (λ ts. take (length f.front) ts) f.split ∙ take-append_seam f.front back in
    let rest : y ≡ back = q ∙ ap (λ k. drop k all) n ∙ ap (λ ts. drop (length f.front) ts) f.split ∙ drop-append_seam f.front back in
    record {
      split = f.split ∙ ap (λ ts. ts ++ back) (sym front) ∙ ap (λ ts. x ++ ts) (sym rest);
      free = subst (All (IsFreeOf b)) (sym front) f.free;
      begins = subst (BeginsBarred b) (sym rest) (begins b back h);
    }

-- what is behind the tokens that were read
pub behind_is : (all front left used back y : List Token) (m n k : ℕ) → m ≡ min (length left) (length front) → n ≡ length front - m → k ≡ min n (length all) → y ≡ drop k all → all ≡ front ++ back → front ≡ used ++ left → y ≡ left ++ back
behind_is all front left used back y m n k p q r e split read =
    let whole : all ≡ used ++ (left ++ back) = split ∙ ap (λ ts. ts ++ back) read ∙ append_assoc used left back in
    let long : length all ≡ length used + length (left ++ back) = ap length whole ∙ length-append used (left ++ back) in
    let part : length front ≡ length used + length left = ap length read ∙ length-append used left in
    let is : k ≡ length used = omega arith in
    e ∙ ap (λ j. drop j all) is ∙ ap (λ ts. drop (length used) ts) whole ∙ drop-append_seam used (left ++ back)
