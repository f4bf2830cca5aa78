-- The verdict over statements and their parts, by what was read of them.
use Rattle.std.proofs.Common.{◌≡◌, ℕ, ◌≤◌, List, [], ◌∷◌, false, Some, refl, sym, ap, ◌∙◌, subst}
use Rattle.el_base.specs.Limits.{max_nesting}
use Rattle.el_base.specs.declared.span.Span.{Span}
use Rattle.c_ast.specs.declared.token.Token.{Token}
use Rattle.c_ast.specs.declared.token.Word.{Word}
use Rattle.c_ast.specs.declared.token.Word.TheVariants as word
use Rattle.c_ast.specs.declared.key.Key.{Key}
use Rattle.c_ast.specs.declared.key.Key.TheVariants as key
use Rattle.c_ast.specs.declared.mark.Mark.TheVariants as mark
use Rattle.c_ast.specs.Derives.{marked}
use Rattle.c_parse.specs.declared.refusal.Stop.{Stop}
use Rattle.c_parse.specs.Reads.{mark_at, key_of, key_at}
use Rattle.c_parse.specs.Stops.{is_type_at, stop_at}
use Rattle.c_parse.specs.Symbols.{Symbol, Move, move, key_move}
use Rattle.c_parse.specs.Traces.{judge}
use Rattle.c_parse.specs.Verdicts.{Tells}
use Rattle.c_parse.specs.Parts.{braced_symbols}
use Rattle.c_parse.proofs.Judging.{judge_sticks}
use Rattle.c_parse.proofs.Chains.{Same, Fails, same_then, same_part, same_takes, same_reduces, same_fixed}
use Rattle.c_parse.proofs.Exits.{Read}
use Rattle.c_parse.proofs.Openings.{body_opened}

-- ---- short statements

pub empty_read : (n : ℕ) (s : Span) (before after : List Token) → n ≤ max_nesting → before ≡ marked mark.Semicolon s ∷ after → Same (Symbol.statement n ∷ []) [] before after
empty_read n s before after small p = same_then (same_takes p refl small) same_reduces

-- ---- blocks

pub braces_opened : (n : ℕ) (s : Span) (before m1 : List Token) → n ≤ max_nesting → before ≡ marked mark.OpenBrace s ∷ m1 → Same (braced_symbols n) (Symbol.body n ∷ []) before m1
braces_opened n s before m1 small p = same_then (same_fixed refl small p) same_reduces

pub item_read : (n : ℕ) (before after : List Token) → is_type_at before ≡ false → (mark_at before ≡ Some mark.CloseBrace → ⊥) → Read (Symbol.statement n ∷ []) before after → Same (Symbol.body n ∷ []) (Symbol.body n ∷ []) before after
item_read n before after plain other stmt = same_then (body_opened n before plain other) (same_then (same_part (Symbol.statement n ∷ []) stmt) same_reduces)

pub empty_item : (n : ℕ) (s : Span) (before after : List Token) → n ≤ max_nesting → before ≡ marked mark.Semicolon s ∷ after → Same (Symbol.body n ∷ []) (Symbol.body n ∷ []) before after
empty_item n s before after small p =
    let other : mark_at before ≡ Some mark.CloseBrace → ⊥ = λ is. let h : Some mark.Semicolon ≡ Some mark.CloseBrace = sym (ap mark_at p) ∙ is in absurd (cc) in
    item_read n before after (ap is_type_at p) other (empty_read n s before after small p).holds

-- ---- statements that begin with a word

-- a reserved word that begins no statement
pub record StartsNone (k : Key) : Type 0 where
  pub not_if : k ≡ key.If → ⊥
  pub not_while : k ≡ key.While → ⊥
  pub not_do : k ≡ key.Do → ⊥
  pub not_for : k ≡ key.For → ⊥
  pub not_break : k ≡ key.Break → ⊥
  pub not_continue : k ≡ key.Continue → ⊥
  pub not_return : k ≡ key.Return → ⊥

key_stuck : (n : ℕ) (k : Key) → StartsNone k → key_move n k ≡ Move.stuck
key_stuck n key.If h = absurd (h.not_if refl)
key_stuck n key.While h = absurd (h.not_while refl)
key_stuck n key.Do h = absurd (h.not_do refl)
key_stuck n key.For h = absurd (h.not_for refl)
key_stuck n key.Break h = absurd (h.not_break refl)
key_stuck n key.Continue h = absurd (h.not_continue refl)
key_stuck n key.Return h = absurd (h.not_return refl)
key_stuck n k h = refl

keyed_stuck : (n : ℕ) (k : Key) (w : Word) → key_of w ≡ Some k → StartsNone k → move (Symbol.statement n) w ≡ Move.stuck
keyed_stuck n k (word.Key i) is h = let same : k ≡ i = cc in key_stuck n i (subst StartsNone same h)
keyed_stuck n k w is h = absurd (cc)

pub keyed_refused : (n : ℕ) (k : Key) (before : List Token) (e : Stop) → key_at before ≡ Some k → StartsNone k → e ≡ stop_at before → Fails (Symbol.statement n ∷ []) before e
keyed_refused n k [] e next h is = absurd (cc)
keyed_refused n k (t ∷ ts) e next h is = record { holds = λ symbols. subst (λ x. Tells x (judge (Symbol.statement n ∷ symbols) (t ∷ ts))) (sym is) (judge_sticks (Symbol.statement n) symbols t ts (keyed_stuck n k t.word next h)) }
