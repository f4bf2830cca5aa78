-- Parts that are read or stop, and tests that fail.
use Rattle.std.proofs.Common.{◌≡◌, List, [], ◌++◌, true, false, Some, ap, subst}
use Rattle.std.specs.Bool.{IsTrue}
use Rattle.c_ast.specs.declared.token.Token.{Token}
use Rattle.c_ast.specs.declared.token.Word.{Word}
use Rattle.c_ast.specs.declared.token.Word.TheVariants as word
use Rattle.c_ast.specs.declared.key.Key.{Key}
use Rattle.c_parse.specs.declared.refusal.Stop.{Stop}
use Rattle.c_parse.specs.Reads.{key_of, key_at}
use Rattle.c_parse.specs.Stops.{Refuses}
use Rattle.c_parse.specs.Symbols.{Symbol}
use Rattle.c_parse.specs.Traces.{judge}
use Rattle.c_parse.specs.Verdicts.{Tells}
use Rattle.c_parse.proofs.Chains.{Fails, memory_fails}

-- a part is read, or stops, whatever is expected behind it
abbrev pub Read : List Symbol → List Token → List Token → Type 0
Read part before after = (symbols : List Symbol) → judge (part ++ symbols) before ≡ judge symbols after

abbrev pub Stopped : List Symbol → List Token → Stop → Type 0
Stopped part before e = (symbols : List Symbol) → Tells e (judge (part ++ symbols) before)

-- what is not true
pub untrue : {A : Type 0} → (A → IsTrue false) → A → ⊥
untrue f x = let h : false ≡ true = f x in absurd (cc)

-- a reserved word that comes next is not refused, but for want of memory
pub key_not_refused : {part : List Symbol} {m : List Token} {e : Stop} (k : Key) → key_at m ≡ Some k → Refuses (λ w. w ≡ word.Key k → ⊥) m e → Fails part m e
key_not_refused {part} {m} {e} k next (Refuses.ended none is) = let h : key_at [] ≡ Some k = subst (λ ts. key_at ts ≡ Some k) none next in absurd (cc)
key_not_refused {part} {m} {e} k next (Refuses.unfit t after split misfit is) = absurd (misfit (by_word t.word k (subst (λ ts. key_at ts ≡ Some k) split next)))
  where
    by_word : (w : Word) (j : Key) → key_of w ≡ Some j → w ≡ word.Key j
    by_word (word.Key i) j h = let q : i ≡ j = cc in ap word.Key q
    by_word w j h = absurd (cc)
key_not_refused {part} {m} {e} k next (Refuses.memory is) = memory_fails is
