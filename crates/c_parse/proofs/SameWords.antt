-- The token that comes next has the mark or the reserved word that is looked for, or another.
use Rattle.std.proofs.Common.{◌≡◌, List, [], ◌∷◌, Some, refl, sym, ◌∙◌, ap, subst}
use Rattle.c_ast.specs.declared.token.Token.{Token}
use Rattle.c_ast.specs.declared.token.Word.{Word}
use Rattle.c_ast.specs.declared.token.Word.TheVariants as word
use Rattle.c_ast.specs.declared.key.Key.{Key}
use Rattle.c_ast.specs.declared.mark.Mark.{Mark}
use Rattle.c_ast.specs.Derives.{marked, keyed}
use Rattle.c_parse.specs.declared.refusal.Stop.{Stop}
use Rattle.c_parse.specs.Reads.{mark_of, mark_at, key_of, key_at}
use Rattle.c_parse.specs.Stops.{Refuses, stop_at}
use Rattle.c_parse.proofs.Rules.{token_of}
use Rattle.c_parse.proofs.Chains.{marked_word}

pub mark_taken : (t : Token) (m k : Mark) (before after : List Token) → before ≡ t ∷ after → t.word ≡ word.Mark m → m ≡ k → before ≡ marked k t.span ∷ after
mark_taken t m k before after p is same = p ∙ ap (λ u. u ∷ after) (token_of t (word.Mark k) (is ∙ ap word.Mark same))

pub key_taken : (t : Token) (m k : Key) (before after : List Token) → before ≡ t ∷ after → t.word ≡ word.Key m → m ≡ k → before ≡ keyed k t.span ∷ after
key_taken t m k before after p is same = p ∙ ap (λ u. u ∷ after) (token_of t (word.Key k) (is ∙ ap word.Key same))

pub no_mark_next : (t : Token) (k : Mark) (before after : List Token) → before ≡ t ∷ after → (t.word ≡ word.Mark k → ⊥) → mark_at before ≡ Some k → ⊥
no_mark_next t k before after p other h = other (marked_word t.word k (ap mark_at (sym p) ∙ h))

keyed_word : (w : Word) (k : Key) → key_of w ≡ Some k → w ≡ word.Key k
keyed_word (word.Key j) k h = let same : j ≡ k = cc in ap word.Key same
keyed_word w k h = absurd (cc)

pub no_key_next : (t : Token) (k : Key) (before after : List Token) → before ≡ t ∷ after → (t.word ≡ word.Key k → ⊥) → key_at before ≡ Some k → ⊥
no_key_next t k before after p other h = other (keyed_word t.word k (ap key_at (sym p) ∙ h))

-- ---- the stop at a token with another word

mark_refused : (k : Mark) (ts : List Token) → (mark_at ts ≡ Some k → ⊥) → Refuses (λ w. w ≡ word.Mark k → ⊥) ts (stop_at ts)
mark_refused k [] other = Refuses.ended refl refl
mark_refused k (t ∷ ts) other = Refuses.unfit t ts refl (λ is. other (ap mark_of is)) refl

key_refused : (k : Key) (ts : List Token) → (key_at ts ≡ Some k → ⊥) → Refuses (λ w. w ≡ word.Key k → ⊥) ts (stop_at ts)
key_refused k [] other = Refuses.ended refl refl
key_refused k (t ∷ ts) other = Refuses.unfit t ts refl (λ is. other (ap key_of is)) refl

pub refuses_mark : (k : Mark) (before after : List Token) (e : Stop) → after ≡ before → (mark_at before ≡ Some k → ⊥) → e ≡ stop_at after → Refuses (λ w. w ≡ word.Mark k → ⊥) before e
refuses_mark k before after e same other is = subst (λ s. Refuses (λ w. w ≡ word.Mark k → ⊥) before s) (sym (is ∙ ap stop_at same)) (mark_refused k before other)

pub refuses_key : (k : Key) (before after : List Token) (e : Stop) → after ≡ before → (key_at before ≡ Some k → ⊥) → e ≡ stop_at after → Refuses (λ w. w ≡ word.Key k → ⊥) before e
refuses_key k before after e same other is = subst (λ s. Refuses (λ w. w ≡ word.Key k → ⊥) before s) (sym (is ∙ ap stop_at same)) (key_refused k before other)
