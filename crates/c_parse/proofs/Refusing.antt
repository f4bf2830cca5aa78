-- Tokens that do not fit.
use Rattle.std.proofs.Common.{◌≡◌, ℕ, List, false, Option, None, is_some, refl, ◌∙◌, ap}
use Rattle.el_base.specs.declared.ty.Ty.{Ty}
use Rattle.c_ast.specs.declared.token.Word.{Word}
use Rattle.c_ast.specs.declared.token.Word.TheVariants as word
use Rattle.c_ast.specs.declared.key.Key.{Key}
use Rattle.c_ast.specs.declared.mark.Mark.{Mark}
use Rattle.c_parse.specs.Tables.{plain_type}
use Rattle.c_parse.specs.Symbols.{is_type_word}
use Rattle.c_parse.specs.Stops.{is_name, is_number, meaning}

-- another mark or reserved word
pub no_mark : (w : Word) (m k : Mark) → w ≡ word.Mark k → (k ≡ m → ⊥) → w ≡ word.Mark m → ⊥
no_mark w m k is other same = let h : k ≡ m = cc in other h

pub no_key : (w : Word) (m k : Key) → w ≡ word.Key k → (k ≡ m → ⊥) → w ≡ word.Key m → ⊥
no_key w m k is other same = let h : k ≡ m = cc in other h

pub no_name : (w : Word) → ((x : List ℕ) → w ≡ word.Name x → ⊥) → is_name w ≡ false
no_name (word.Name x) other = absurd (other x refl)
no_name w other = refl

pub no_number : (w : Word) → ((n : ℕ) (t : Ty) → w ≡ word.Number n t → ⊥) → is_number w ≡ false
no_number (word.Number n t) other = absurd (other n t refl)
no_number w other = refl

pub no_type : (w : Word) → ((k : Key) → w ≡ word.Key k → ⊥) → is_type_word w ≡ false
no_type (word.Key k) other = absurd (other k refl)
no_type w other = refl

pub no_plain_type : (w : Word) (k : Key) → w ≡ word.Key k → plain_type k ≡ None → is_type_word w ≡ false
no_plain_type w k is none = ap is_type_word is ∙ ap is_some none

-- a word that a table of marks has not
pub no_meaning : {A : Type 0} (table : Mark → Option A) (w : Word) → ((m : Mark) → w ≡ word.Mark m → ⊥) → meaning table w ≡ None
no_meaning table (word.Mark m) other = absurd (other m refl)
no_meaning table w other = refl

pub unknown_mark : {A : Type 0} (table : Mark → Option A) (w : Word) (m : Mark) → w ≡ word.Mark m → table m ≡ None → meaning table w ≡ None
unknown_mark table w m is none = ap (λ v. meaning table v) is ∙ none
