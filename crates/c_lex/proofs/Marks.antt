-- Punctuators and comments.
use Rattle.std.proofs.Common.{◌≡◌, ℕ, suc, ◌+◌, ◌<◌, ◌≤◌, Bool, true, false, cond, ◌==◌, ◌&&◌, List, [], ◌∷◌, length, take, Option, Some, None, refl, sym, subst, ap, ◌∙◌, arith, length-take, lit<}
use Rattle.std.specs.Cmp.Lexicographic.{pointwise}
use Rattle.std.specs.List.{find}
use Rattle.c_ast.specs.Pieces.{mark_of}
use Rattle.el_base.specs.declared.span.Span.{Span}
use Rattle.c_ast.specs.Numerals.{begins}
use Rattle.c_ast.specs.Texts.{mark_text}
use Rattle.c_ast.specs.Tokens.{bad_byte, open_comment, whole, broken, span_at, is_open, splice_in, splice_fault, comment_end}
use Rattle.c_ast.specs.declared.mark.Mark.{Mark}
use Rattle.c_ast.specs.declared.mark.Mark.TheVariants as mark

pub mark_some : (m : Mark) → 0 < length (mark_text m)
mark_some mark.ShlAssign = lit< tt
mark_some m = lit< tt

pointwise_len : (xs ys : List ℕ) → pointwise ◌==◌ xs ys ≡ true → length xs ≡ length ys
pointwise_len [] [] e = refl
pointwise_len [] (y ∷ ys) e = absurd (cc)
pointwise_len (x ∷ xs) [] e = absurd (cc)
pointwise_len (x ∷ xs) (y ∷ ys) e = by (x == y) (pointwise_len xs ys) e
  where
    by : (t : Bool) → (pointwise ◌==◌ xs ys ≡ true → length xs ≡ length ys) → (t && pointwise ◌==◌ xs ys) ≡ true → length (x ∷ xs) ≡ length (y ∷ ys)
    by true more h = ap suc (more h)
    by false more h = absurd (cc)

-- what stands at the front of a text is no longer than the text
pub begins_le : (front text : List ℕ) → begins front text ≡ true → length front ≤ length text
begins_le front text e = let same = pointwise_len front (take (length front) text) e in omega (arith, same, length-take (length front) text)

-- the broken rule of a comment, from what is found in it
pub fault_open : (bytes text rest : List ℕ) (k n : ℕ) (s : Span) → rest ≡ text → true ≡ is_open rest → s ≡ span_at bytes k 2 → broken open_comment s ≡ comment_end bytes k text n
unfolding comment_end
fault_open bytes text rest k n s same is there =
    ap (broken open_comment) there
    ∙ sym (ap (λ t. cond t (broken open_comment (span_at bytes k 2)) (splice_fault bytes k (splice_in text n))) (ap is_open (sym same) ∙ sym is))

not_open : (bytes text rest : List ℕ) (k n : ℕ) → rest ≡ text → false ≡ is_open rest → splice_fault bytes k (splice_in rest n) ≡ comment_end bytes k text n
unfolding comment_end
not_open bytes text rest k n same is =
    ap (λ t. splice_fault bytes k (splice_in t n)) same
    ∙ sym (ap (λ t. cond t (broken open_comment (span_at bytes k 2)) (splice_fault bytes k (splice_in text n))) (ap is_open (sym same) ∙ sym is))

pub fault_splice : (bytes text rest : List ℕ) (k n m j : ℕ) (s : Span) → rest ≡ text → false ≡ is_open rest → Some m ≡ splice_in rest n → j ≡ k + m → s ≡ span_at bytes j 1
    → broken bad_byte s ≡ comment_end bytes k text n
fault_splice bytes text rest k n m j s same is found on there =
    ap (broken bad_byte) (there ∙ ap (λ i. span_at bytes i 1) on) ∙ ap (splice_fault bytes k) found ∙ not_open bytes text rest k n same is

pub fault_none : (bytes text rest : List ℕ) (k n : ℕ) → rest ≡ text → false ≡ is_open rest → None ≡ splice_in rest n → whole ≡ comment_end bytes k text n
fault_none bytes text rest k n same is found = ap (splice_fault bytes k) found ∙ not_open bytes text rest k n same is

-- what the marks of a text's first byte give, all give
pub chosen : (text rest : List ℕ) (b : ℕ) (all : List Mark) (r : Option Mark) → text ≡ b ∷ rest → r ≡ find (λ m. begins (mark_text m) text) all
    → ((ts : List ℕ) → find (λ m. begins (mark_text m) (b ∷ ts)) all ≡ mark_of (b ∷ ts)) → r ≡ mark_of text
chosen text rest b all r is found same = found ∙ subst (λ ts. find (λ m. begins (mark_text m) ts) all ≡ mark_of ts) (sym is) (same rest)
