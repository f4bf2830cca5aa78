-- The first tokens of statements and items, and which symbols the symbols of a statement and of a body become there.
use Rattle.std.proofs.Common.{◌≡◌, ℕ, List, [], ◌∷◌, ◌++◌, true, false, refl, sym, ◌∙◌, ap, subst, append_assoc}
use Rattle.c_ast.specs.declared.token.Token.{Token}
use Rattle.c_ast.specs.declared.token.Word.{Word}
use Rattle.c_ast.specs.declared.token.Word.TheVariants as word
use Rattle.c_ast.specs.declared.key.Key.TheVariants as key
use Rattle.c_ast.specs.declared.mark.Mark.TheVariants as mark
use Rattle.c_ast.specs.declared.tree.Stmt.{Stmt}
use Rattle.c_ast.specs.Derives.{marked, IsStep, DerivesTarget, DerivesSimple, DerivesDeclaration, DerivesItems}
use Rattle.c_parse.specs.Symbols.{Symbol, Reduction, Fixed, Move, move, followed, declarators, is_type_word, type_move, body_move, other_move}
use Rattle.c_parse.specs.Values.{Value}
use Rattle.c_parse.specs.Traces.{trace}
use Rattle.c_parse.specs.Reads.{key_of, is_else_word, is_else}
use Rattle.c_parse.proofs.Tracing.{trace_passes}
use Rattle.c_parse.proofs.Starting.{StartsBy, trace_starts, IsTypeWord, type_starts, IsStmtWord, stmt_starts, statement_stays, followed_twice}
use Rattle.c_parse.proofs.TracedParts.{type_unfolds}

-- ---- else

other_at : (n : ℕ) (w : Word) → is_else_word (key_of w) ≡ false → other_move n w ≡ Move.pass
other_at n (word.Key key.Else) h = absurd (cc)
other_at n w h = refl

-- where no else stands, none is read
pub trace_other : (n : ℕ) (symbols : List Symbol) (vs : List Value) (rest : List Token) → is_else rest ≡ false → trace (Symbol.other n ∷ symbols) vs rest ≡ trace symbols vs rest
trace_other n symbols vs [] h = refl
trace_other n symbols vs (t ∷ ts) h = trace_passes (Symbol.other n) symbols vs t ts (other_at n t.word h)

-- ---- assignments and steps as statements

-- at an assignment or step, the symbol of a statement becomes that of one
pub simple_stmt : (n : ℕ) (ts rest : List Token) (s : Stmt) (symbols : List Symbol) (vs : List Value) → DerivesSimple ts s
    → trace (Symbol.statement n ∷ symbols) vs (ts ++ rest) ≡ trace (Symbol.simple n ∷ Symbol.fixed n Fixed.semicolon ∷ Symbol.reduce Reduction.simple ∷ symbols) vs (ts ++ rest)
simple_stmt n ts rest s symbols vs (DerivesSimple.assign us ws m z t op e (DerivesTarget.target x q xs es indices) operator value) = refl
simple_stmt n ts rest s symbols vs (DerivesSimple.step_after us m z t b (DerivesTarget.target x q xs es indices) operator) = refl
simple_stmt n ts rest s symbols vs (DerivesSimple.step_before us m z t b IsStep.up to) = refl
simple_stmt n ts rest s symbols vs (DerivesSimple.step_before us m z t b IsStep.down to) = refl

-- ---- statements as items

pub statement_item : (n : ℕ) (ts rest : List Token) (symbols : List Symbol) (vs : List Value) → StartsBy IsStmtWord ts
    → trace (Symbol.body n ∷ symbols) vs (ts ++ rest) ≡ trace (Symbol.statement n ∷ Symbol.reduce Reduction.statement_item ∷ Symbol.body n ∷ symbols) vs (ts ++ rest)
statement_item n ts rest symbols vs start =
    trace_starts IsStmtWord (Symbol.body n) (Symbol.statement n) (Symbol.reduce Reduction.statement_item ∷ Symbol.body n ∷ []) symbols vs ts rest start (λ w h. h.item n) (statement_stays n)

-- ---- declarations as items

-- what follows the type of a declaration that is an item
abbrev declared_item : ℕ → List Symbol
declared_item n = declarators n ++ Symbol.reduce Reduction.declared_items ∷ Symbol.body n ∷ []

body_at_type : (n : ℕ) (w : Word) → is_type_word w ≡ true → move (Symbol.body n) w ≡ followed (type_move n w) (declared_item n)
body_at_type n w h = ap (λ b. body_move n b w) h ∙ followed_twice (type_move n w) (declarators n) (Symbol.reduce Reduction.declared_items ∷ Symbol.body n ∷ [])

pub declaration_item : (n : ℕ) (ts rest : List Token) (ds : List Stmt) (symbols : List Symbol) (vs : List Value) → DerivesDeclaration ts ds
    → trace (Symbol.body n ∷ symbols) vs (ts ++ rest) ≡ trace (Symbol.a_type n ∷ (declarators n ++ Symbol.reduce Reduction.declared_items ∷ Symbol.body n ∷ symbols)) vs (ts ++ rest)
declaration_item n ts rest ds symbols vs (DerivesDeclaration.declaration us ws z t xs ty d) =
    let more : List Token = ws ++ marked mark.Semicolon z ∷ [] in
    subst (λ v. trace (Symbol.body n ∷ symbols) vs v ≡ trace (Symbol.a_type n ∷ (declared_item n ++ symbols)) vs v) (sym (append_assoc us more rest))
    (type_unfolds n (Symbol.body n) (declared_item n) symbols vs us (more ++ rest) t ty (body_at_type n))

-- ---- no else

type_word_no_else : (w : Word) → is_type_word w ≡ true → is_else_word (key_of w) ≡ false
type_word_no_else (word.Key key.Else) h = absurd (cc)
type_word_no_else w h = refl

starts_no_else : (P : Word → Type 0) (ts us rest : List Token) → StartsBy P ts → ((w : Word) → P w → is_else_word (key_of w) ≡ false) → is_else ((ts ++ us) ++ rest) ≡ false
starts_no_else P [] us rest start h = absurd start
starts_no_else P (t ∷ ts) us rest start h = h t.word start

declaration_no_else : (ts rest : List Token) (ds : List Stmt) → DerivesDeclaration ts ds → is_else (ts ++ rest) ≡ false
declaration_no_else ts rest ds (DerivesDeclaration.declaration us ws z t xs ty d) = starts_no_else IsTypeWord us (ws ++ marked mark.Semicolon z ∷ []) rest (type_starts us t ty) type_word_no_else

-- where items stand before what begins with no else, none is the first token either
pub items_no_else : (ts rest : List Token) (ss : List Stmt) → DerivesItems ts ss → is_else rest ≡ false → is_else (ts ++ rest) ≡ false
items_no_else ts rest ss DerivesItems.done h = h
items_no_else ts rest ss (DerivesItems.statement f us ws s xs d items) h = starts_no_else IsStmtWord us ws rest (stmt_starts f us s d) (λ w h. h.no_else)
items_no_else ts rest ss (DerivesItems.declares us ws ds xs d items) h = ap is_else (append_assoc us ws rest) ∙ declaration_no_else us (ws ++ rest) ds d
