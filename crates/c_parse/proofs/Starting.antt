-- How types, expressions, assignments, steps and statements begin.
use Rattle.std.proofs.Common.{◌≡◌, ℕ, suc, List, [], ◌∷◌, ◌++◌, Bool, true, false, if◌then◌else◌, is_some, refl, ap, append_assoc}
use Rattle.el_base.specs.declared.ty.Ty.{Ty}
use Rattle.c_ast.specs.declared.token.Token.{Token}
use Rattle.c_ast.specs.declared.token.Word.{Word}
use Rattle.c_ast.specs.declared.token.Word.TheVariants as word
use Rattle.c_ast.specs.declared.key.Key.TheVariants as key
use Rattle.c_ast.specs.declared.mark.Mark.{Mark}
use Rattle.c_ast.specs.declared.mark.Mark.TheVariants as mark
use Rattle.c_ast.specs.declared.tree.Unary.{Unary}
use Rattle.c_ast.specs.declared.tree.Expr.{Expr}
use Rattle.c_ast.specs.declared.tree.Stmt.{Stmt}
use Rattle.c_ast.specs.Derives.{marked, IsUnary, IsStep, DerivesType, DerivesExpr, DerivesTarget, DerivesSimple, DerivesStmt}
use Rattle.c_parse.specs.Tables.{sign_of, plain_type}
use Rattle.c_parse.specs.Symbols.{Symbol, Reduction, Move, move, followed, is_type_word, type_move}
use Rattle.c_parse.specs.Values.{Value}
use Rattle.c_parse.specs.Traces.{trace}
use Rattle.c_parse.specs.Reads.{key_of, is_else_word}
use Rattle.c_parse.proofs.Tracing.{is_pass, trace_unfolds}

-- the first token has a word with P
abbrev pub StartsBy : (Word → Type 0) → List Token → Type 0
StartsBy P [] = ⊥
StartsBy P (t ∷ ts) = P t.word

pub starts_behind : (P : Word → Type 0) (ts us : List Token) → StartsBy P ts → StartsBy P (ts ++ us)
starts_behind P [] us h = absurd h
starts_behind P (t ∷ ts) us h = h

-- a symbol whose rule begins with another at such words
pub trace_starts : (P : Word → Type 0) (s lead : Symbol) (more symbols : List Symbol) (vs : List Value) (ts rest : List Token) → StartsBy P ts → ((w : Word) → P w → move s w ≡ followed (move lead w) more)
    → ((w : Word) → is_pass (move lead w) ≡ false) → trace (s ∷ symbols) vs (ts ++ rest) ≡ trace (lead ∷ (more ++ symbols)) vs (ts ++ rest)
trace_starts P s lead more symbols vs [] rest h same some = absurd h
trace_starts P s lead more symbols vs (t ∷ ts) rest h same some = trace_unfolds s lead more symbols vs t (ts ++ rest) (same t.word h) (some t.word)

-- symbols behind symbols behind a move
pub followed_twice : (m : Move) (new more : List Symbol) → followed (followed m new) more ≡ followed m (new ++ more)
followed_twice Move.pass new more = refl
followed_twice (Move.take n symbols) new more = ap (λ all. Move.take n all) (append_assoc symbols new more)
followed_twice Move.stuck new more = refl

-- ---- types

abbrev pub IsTypeWord : Word → Type 0
IsTypeWord w = is_type_word w ≡ true

pub type_starts : (ts : List Token) (t : Ty) → DerivesType ts t → StartsBy IsTypeWord ts
type_starts ts t (DerivesType.fixed_8 s) = refl
type_starts ts t d = refl

stays_either : (n : ℕ) (b : Bool) → is_pass (if b then Move.take n (Symbol.reduce Reduction.plain ∷ []) else Move.stuck) ≡ false
stays_either n true = refl
stays_either n false = refl

-- a type is never passed over
pub type_stays : (n : ℕ) (w : Word) → is_pass (type_move n w) ≡ false
type_stays n (word.Key key.Signed) = refl
type_stays n (word.Key key.Unsigned) = refl
type_stays n (word.Key k) = stays_either n (is_some (plain_type k))
type_stays n w = refl

-- ---- expressions

-- a word that an expression may begin with
abbrev pub is_expr_word : Word → Bool
is_expr_word (word.Name x) = true
is_expr_word (word.Number v t) = true
is_expr_word (word.Mark mark.Open) = true
is_expr_word (word.Mark m) = is_some (sign_of m)
is_expr_word (word.Key k) = false

abbrev pub IsExprWord : Word → Type 0
IsExprWord w = is_expr_word w ≡ true

pub expr_no_type : (w : Word) → is_expr_word w ≡ true → is_type_word w ≡ false
expr_no_type (word.Key k) h = absurd (cc)
expr_no_type w h = refl

pub expr_no_semicolon : (w : Word) → is_expr_word w ≡ true → w ≡ word.Mark mark.Semicolon → ⊥
expr_no_semicolon w h same = let known : is_expr_word w ≡ false = ap is_expr_word same in cc

sign_begins : (m : Mark) (op : Unary) → IsUnary m op → is_expr_word (word.Mark m) ≡ true
sign_begins m op IsUnary.plus = refl
sign_begins m op u = refl

pub expr_starts : (l : ℕ) (ts : List Token) (e : Expr) → DerivesExpr l ts e → StartsBy IsExprWord ts
expr_starts l ts e (DerivesExpr.tighter k us x below d) = expr_starts (suc k) us x d
expr_starts l ts e (DerivesExpr.choice us ws xs q c a b x cond yes_part no_part) = starts_behind IsExprWord us (marked mark.Question q ∷ (ws ++ marked mark.Colon c ∷ xs)) (expr_starts 1 us a cond)
expr_starts l ts e (DerivesExpr.joined k m op us ws s a b operator left right) = starts_behind IsExprWord us (marked m s ∷ ws) (expr_starts k us a left)
expr_starts l ts e (DerivesExpr.prefixed m op us s a operator arg) = sign_begins m op operator
expr_starts l ts e d = refl

-- ---- assignments, steps and statements

pub simple_stays : (n : ℕ) (w : Word) → is_pass (move (Symbol.simple n) w) ≡ false
simple_stays n (word.Mark mark.Increment) = refl
simple_stays n (word.Mark m) = refl
simple_stays n w = refl

pub statement_stays : (n : ℕ) (w : Word) → is_pass (move (Symbol.statement n) w) ≡ false
statement_stays n (word.Key key.If) = refl
statement_stays n (word.Key k) = refl
statement_stays n (word.Mark mark.OpenBrace) = refl
statement_stays n (word.Mark m) = refl
statement_stays n w = refl

-- a word that a statement may begin with: at it the symbol of a body becomes that of a statement
pub record IsStmtWord (w : Word) : Type 0 where
  pub item : (n : ℕ) → move (Symbol.body n) w ≡ followed (move (Symbol.statement n) w) (Symbol.reduce Reduction.statement_item ∷ Symbol.body n ∷ [])
  pub no_else : is_else_word (key_of w) ≡ false
  pub no_type : is_type_word w ≡ false

simple_starts : (ts us : List Token) (s : Stmt) → DerivesSimple ts s → StartsBy IsStmtWord (ts ++ us)
simple_starts ts us s (DerivesSimple.assign ws xs m z t op e (DerivesTarget.target x q ys es indices) operator value) = record { item = λ n. refl; no_else = refl; no_type = refl }
simple_starts ts us s (DerivesSimple.step_after ws m z t b (DerivesTarget.target x q ys es indices) operator) = record { item = λ n. refl; no_else = refl; no_type = refl }
simple_starts ts us s (DerivesSimple.step_before ws m z t b IsStep.up to) = record { item = λ n. refl; no_else = refl; no_type = refl }
simple_starts ts us s d = record { item = λ n. refl; no_else = refl; no_type = refl }

pub stmt_starts : (f : Bool) (ts : List Token) (s : Stmt) → DerivesStmt f ts s → StartsBy IsStmtWord ts
stmt_starts f ts s (DerivesStmt.simple us z x d) = simple_starts us (marked mark.Semicolon z ∷ []) x d
stmt_starts f ts s d = record { item = λ n. refl; no_else = refl; no_type = refl }
