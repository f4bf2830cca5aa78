-- The place after some bytes counts their line feeds and the bytes after the last.
use Rattle.std.proofs.Common.{◌≡◌, ℕ, ◌+◌, Bool, true, false, cond, not, List, [], ◌∷◌, ◌++◌, take, refl, sym, ap, ◌∙◌, subst, append_assoc, arith}
use Rattle.std.proofs.lemmas.List.{append-nil, reverse-append}
use Rattle.std.proofs.lemmas.List.Sums.{sum_by-append}
use Rattle.std.specs.List.{count_by, suffix_len, prefix_len}
use Rattle.c_ast.specs.Tokens.{Place, after_byte, place_after, first_of_text, span_at}
use Rattle.kernel_front.specs.Places.{is_line_feed, IsPlace}

record IsCounted (bs : List ℕ) : Type 0 where
  line : (place_after first_of_text bs).line ≡ 1 + count_by is_line_feed bs
  column : (place_after first_of_text bs).column ≡ 1 + suffix_len (λ b. not (is_line_feed b)) bs

place_after-last : (p : Place) (bs : List ℕ) (b : ℕ) → place_after p (bs ++ b ∷ []) ≡ after_byte b (place_after p bs)
unfolding place_after
place_after-last p [] b = refl
place_after-last p (a ∷ bs) b = place_after-last (after_byte a p) bs b

count_by-last : (p : ℕ → Bool) (bs : List ℕ) (b : ℕ) → count_by p (bs ++ b ∷ []) ≡ count_by p bs + cond (p b) 1 0
count_by-last p bs b = sum_by-append (λ x. cond (p x) 1 0) bs (b ∷ []) ∙ ap (λ n. count_by p bs + n) (one_of (cond (p b) 1 0))
  where
    one_of : (n : ℕ) → 0 + n ≡ n
    one_of n = omega arith

line_after : (b : ℕ) (p : Place) → (after_byte b p).line ≡ p.line + cond (is_line_feed b) 1 0
line_after b p = by (is_line_feed b)
  where
    by : (t : Bool) → (let q : Place = cond t (record { line = p.line + 1; column = 1 }) (record { line = p.line; column = p.column + 1 }) in q.line) ≡ p.line + cond t 1 0
    by true = refl
    by false = omega arith

column_after : (b : ℕ) (p : Place) (n : ℕ) → p.column ≡ 1 + n → (after_byte b p).column ≡ 1 + cond (not (is_line_feed b)) (1 + n) 0
column_after b p n h = by (is_line_feed b)
  where
    by : (t : Bool) → (let q : Place = cond t (record { line = p.line + 1; column = 1 }) (record { line = p.line; column = p.column + 1 }) in q.column) ≡ 1 + cond (not t) (1 + n) 0
    by true = refl
    by false = omega (arith, h)

suffix_len-last : (p : ℕ → Bool) (bs : List ℕ) (b : ℕ) → suffix_len p (bs ++ b ∷ []) ≡ cond (p b) (1 + suffix_len p bs) 0
suffix_len-last p bs b = ap (prefix_len p) (reverse-append bs (b ∷ []))

one_more : (bs : List ℕ) (b : ℕ) → IsCounted bs → IsCounted (bs ++ b ∷ [])
one_more bs b h = record {
  line = ap (λ p. p.line) (place_after-last first_of_text bs b) ∙ line_after b (place_after first_of_text bs)
      ∙ ap (λ n. n + cond (is_line_feed b) 1 0) h.line
      ∙ regroup 1 (count_by is_line_feed bs) (cond (is_line_feed b) 1 0)
      ∙ ap (λ n. 1 + n) (sym (count_by-last is_line_feed bs b));
  column = ap (λ p. p.column) (place_after-last first_of_text bs b)
      ∙ column_after b (place_after first_of_text bs) (suffix_len (λ b. not (is_line_feed b)) bs) h.column
      ∙ ap (λ n. 1 + n) (sym (suffix_len-last (λ b. not (is_line_feed b)) bs b));
}
  where
    regroup : (a b d : ℕ) → (a + b) + d ≡ a + (b + d)
    regroup a b d = omega arith

more : (done bs : List ℕ) → IsCounted done → IsCounted (done ++ bs)
more done [] h = subst IsCounted (sym (append-nil done)) h
more done (b ∷ bs) h = subst IsCounted (append_assoc done (b ∷ []) bs) (more (done ++ b ∷ []) bs (one_more done b h))

none : IsCounted []
unfolding place_after
none = record { line = refl; column = refl }

pub span_counted : (bytes : List ℕ) (k n : ℕ) → IsPlace bytes (span_at bytes k n)
unfolding span_at
span_counted bytes k n = let h = more [] (take k bytes) none in record { line = h.line; column = h.column }
