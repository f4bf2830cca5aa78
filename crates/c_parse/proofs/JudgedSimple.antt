-- The verdict over assignments, steps and declarations, by what was read of them.
use Rattle.std.proofs.Common.{◌≡◌, ℕ, ◌≤◌, List, [], ◌∷◌, Bool, Option, Some, None, refl, sym, ◌∙◌, ap, subst}
use Rattle.el_base.specs.Limits.{max_nesting}
use Rattle.c_ast.specs.declared.token.Token.{Token}
use Rattle.c_ast.specs.declared.token.Word.{Word}
use Rattle.c_ast.specs.declared.token.Word.TheVariants as word
use Rattle.c_ast.specs.declared.mark.Mark.{Mark}
use Rattle.c_ast.specs.declared.tree.Binary.{Binary}
use Rattle.c_ast.specs.Derives.{IsAssigning, IsStep}
use Rattle.c_parse.specs.declared.refusal.Stop.{Stop}
use Rattle.c_parse.specs.Reads.{mark_at, Steps}
use Rattle.c_parse.specs.Tables.{step_of, assigning_of}
use Rattle.c_parse.specs.Stops.{Refuses, meaning, meaning_at}
use Rattle.c_parse.specs.Symbols.{Symbol, Fixed, Reduction, Move, move, assign_move, step_move}
use Rattle.c_parse.proofs.Chains.{Same, Fails, memory_fails, fails_from, same_takes, refused_fails, marked_word}

-- ---- steps whose mark comes first

-- a step that comes next is not refused, but for want of memory
pub step_not_refused : (part : List Symbol) (m : List Token) (e : Stop) → (meaning_at step_of m ≡ None → ⊥) → Refuses (λ w. meaning step_of w ≡ None) m e → Fails part m e
step_not_refused part m e next (Refuses.ended none is) = absurd (next (ap (λ ts. meaning_at step_of ts) none))
step_not_refused part m e next (Refuses.unfit t after split misfit is) = absurd (next (ap (λ ts. meaning_at step_of ts) split ∙ misfit))
step_not_refused part m e next (Refuses.memory is) = memory_fails is

first_step : (n : ℕ) (m : Mark) (up : Bool) → IsStep m up → move (Symbol.simple n) (word.Mark m) ≡ Move.take n (Symbol.a_name n ∷ Symbol.reduce Reduction.no_indices ∷ Symbol.indices n ∷ Symbol.reduce Reduction.target ∷ Symbol.reduce Reduction.step_before ∷ [])
first_step n m up IsStep.up = refl
first_step n m up IsStep.down = refl

pub step_opened : (n : ℕ) (up : Bool) (before m1 : List Token) → n ≤ max_nesting → Steps up before m1
    → Same (Symbol.simple n ∷ []) (Symbol.a_name n ∷ Symbol.reduce Reduction.no_indices ∷ Symbol.indices n ∷ Symbol.reduce Reduction.target ∷ Symbol.reduce Reduction.step_before ∷ []) before m1
step_opened n up before m1 small r = same_takes r.split (first_step n r.mark up r.operator) small

-- a mark of a step comes next
pub step_comes : (k : Mark) (up : Bool) (m : List Token) → step_of k ≡ Some up → mark_at m ≡ Some k → meaning_at step_of m ≡ None → ⊥
step_comes k up [] is next = λ h. absurd (cc)
step_comes k up (t ∷ ts) is next = λ h. let w : None ≡ Some up = sym h ∙ ap (λ v. meaning step_of v) (marked_word t.word k next) ∙ is in absurd (cc)

-- ---- assignments, and steps whose mark comes last

pub assignment : (n : ℕ) (m : Mark) (op : Option Binary) → IsAssigning m op → move (Symbol.assigning n) (word.Mark m) ≡ Move.take n (Symbol.expression n 0 ∷ Symbol.reduce Reduction.assigned ∷ [])
assignment n m op IsAssigning.plain = refl
assignment n m op i = refl

pub last_step : (n : ℕ) (m : Mark) (up : Bool) → IsStep m up → move (Symbol.assigning n) (word.Mark m) ≡ Move.take n (Symbol.reduce Reduction.step_after ∷ [])
last_step n m up IsStep.up = refl
last_step n m up IsStep.down = refl

assigning_stuck : (n : ℕ) (w : Word) → (meaning assigning_of w ≡ None) × (meaning step_of w ≡ None) → move (Symbol.assigning n) w ≡ Move.stuck
assigning_stuck n (word.Mark m) h = ap (λ x. assign_move n m x) h.0 ∙ ap (λ x. step_move n (Symbol.reduce Reduction.step_after ∷ []) x) h.1
assigning_stuck n w h = refl

-- what is neither an assignment nor a step
neither : (m : List Token) (e : Stop) → meaning_at assigning_of m ≡ None → Refuses (λ w. meaning step_of w ≡ None) m e → Refuses (λ w. (meaning assigning_of w ≡ None) × (meaning step_of w ≡ None)) m e
neither m e none (Refuses.ended empty is) = Refuses.ended empty is
neither m e none (Refuses.unfit t after split misfit is) = Refuses.unfit t after split (subst (λ ts. meaning_at assigning_of ts ≡ None) split none, misfit) is
neither m e none (Refuses.memory is) = Refuses.memory is

pub assigning_fails : (n : ℕ) (m1 m2 : List Token) (e : Stop) → m2 ≡ m1 → meaning_at assigning_of m1 ≡ None → Refuses (λ w. meaning step_of w ≡ None) m2 e → Fails (Symbol.assigning n ∷ []) m1 e
assigning_fails n m1 m2 e same other r = fails_from (sym same) (refused_fails refl (assigning_stuck n) (neither m2 e (ap (λ ts. meaning_at assigning_of ts) same ∙ other) r))

-- ---- declarations

-- what is expected behind a declared name
abbrev pub more_symbols : ℕ → List Symbol
more_symbols n = Symbol.more_declared n ∷ Symbol.fixed n Fixed.semicolon ∷ Symbol.reduce Reduction.declared ∷ []
