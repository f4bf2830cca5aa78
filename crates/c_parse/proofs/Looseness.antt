-- Behind which tokens an operand does not go on.
use Rattle.std.proofs.Common.{◌≡◌, ℕ, zero, suc, ◌≤◌, ◌<◌, List, [], ◌∷◌, ◌==◌, false, if◌then◌else◌, Option, Some, None, arith, refl, ◌∙◌, ap}
use Rattle.std.proofs.lemmas.Bool.{eq-eqb, ne_eqb}
use Rattle.std.specs.Option.{unwrap_or}
use Rattle.el_base.specs.declared.span.Span.{Span}
use Rattle.c_ast.specs.declared.token.Token.{Token}
use Rattle.c_ast.specs.declared.token.Word.TheVariants as word
use Rattle.c_ast.specs.declared.mark.Mark.{Mark}
use Rattle.c_ast.specs.declared.mark.Mark.TheVariants as mark
use Rattle.c_ast.specs.declared.tree.Binary.{Binary}
use Rattle.c_ast.specs.declared.tree.Binary.TheVariants as binary
use Rattle.c_ast.specs.Derives.{marked, IsBinary}
use Rattle.c_parse.specs.Tables.{operator_of}
use Rattle.c_parse.specs.Symbols.{Symbol, Reduction, Move, move, operator_move, choice_move, operators_move, indices_move, postfix_move}
use Rattle.c_parse.specs.Values.{Value, binary_in}
use Rattle.c_parse.specs.Traces.{trace}
use Rattle.c_parse.proofs.Closing.{Closed}
use Rattle.c_parse.proofs.Tracing.{trace_passes}

-- no index stands there
abbrev pub NoIndex : List Token → Type 0
NoIndex rest = (n : ℕ) (symbols : List Symbol) (vs : List Value) → trace (Symbol.indices n ∷ symbols) vs rest ≡ trace symbols vs rest

-- neither an index nor an argument stands there
abbrev pub NoPostfix : List Token → Type 0
NoPostfix rest = (n : ℕ) (symbols : List Symbol) (vs : List Value) → trace (Symbol.postfix n ∷ symbols) vs rest ≡ trace symbols vs rest

-- neither an index nor an argument stands there, and no operator of that level or of a tighter one
pub record Loose (l : ℕ) (rest : List Token) : Type 0 where
  pub no_index : NoIndex rest
  pub no_postfix : NoPostfix rest
  pub no_operator : (n k : ℕ) (symbols : List Symbol) (vs : List Value) → l ≤ k → trace (Symbol.operators n k ∷ symbols) vs rest ≡ trace symbols vs rest

pub loose_more : (l k : ℕ) (rest : List Token) → l ≤ k → Loose l rest → Loose k rest
loose_more l k rest below p = record { no_index = p.no_index; no_postfix = p.no_postfix; no_operator = λ n j symbols vs h. p.no_operator n j symbols vs (omega arith) }

-- ---- marks at which nothing goes on

abbrev pub PassesIndex : Mark → Type 0
PassesIndex m = (n : ℕ) → postfix_move n (word.Mark m) ≡ Move.pass

index_passed : (n : ℕ) (m : Mark) → postfix_move n (word.Mark m) ≡ Move.pass → indices_move n (word.Mark m) ≡ Move.pass
index_passed n mark.Open h = refl
index_passed n m h = h

pub no_index_at : (m : Mark) (s : Span) (ts : List Token) → PassesIndex m → NoIndex (marked m s ∷ ts)
no_index_at m s ts h n symbols vs = trace_passes (Symbol.indices n) symbols vs (marked m s) ts (index_passed n m (h n))

pub no_postfix_at : (m : Mark) (s : Span) (ts : List Token) → PassesIndex m → NoPostfix (marked m s ∷ ts)
no_postfix_at m s ts h n symbols vs = trace_passes (Symbol.postfix n) symbols vs (marked m s) ts (h n)

no_operator_at : (m : Mark) (n k : ℕ) → operator_of m ≡ None → choice_move n (word.Mark m) ≡ Move.pass → operators_move n k (word.Mark m) ≡ Move.pass
no_operator_at m n zero h choice = choice
no_operator_at m n (suc l) h choice = ap (λ o. operator_move n (suc l) o) h

loose_at : (m : Mark) (s : Span) (ts : List Token) → operator_of m ≡ None → ((n : ℕ) → choice_move n (word.Mark m) ≡ Move.pass) → PassesIndex m → Loose 0 (marked m s ∷ ts)
loose_at m s ts h choice index = record {
  no_index = no_index_at m s ts index;
  no_postfix = no_postfix_at m s ts index;
  no_operator = λ n k symbols vs below. trace_passes (Symbol.operators n k) symbols vs (marked m s) ts (no_operator_at m n k h (choice n));
}

pub closed_loose : (rest : List Token) → Closed rest → Loose 0 rest
closed_loose rest (Closed.closing s ts) = loose_at mark.Close s ts refl (λ n. refl) (λ n. refl)
closed_loose rest (Closed.bracket s ts) = loose_at mark.CloseBracket s ts refl (λ n. refl) (λ n. refl)
closed_loose rest (Closed.colon s ts) = loose_at mark.Colon s ts refl (λ n. refl) (λ n. refl)
closed_loose rest (Closed.semicolon s ts) = loose_at mark.Semicolon s ts refl (λ n. refl) (λ n. refl)
closed_loose rest (Closed.comma s ts) = loose_at mark.Comma s ts refl (λ n. refl) (λ n. refl)

-- a ? goes on with no operand of a level but 0
question_passes : (n k : ℕ) → 1 ≤ k → operators_move n k (word.Mark mark.Question) ≡ Move.pass
question_passes n zero h = absurd (omega arith)
question_passes n (suc l) h = refl

pub question_loose : (s : Span) (ts : List Token) → Loose 1 (marked mark.Question s ∷ ts)
question_loose s ts = record {
  no_index = no_index_at mark.Question s ts (λ n. refl);
  no_postfix = no_postfix_at mark.Question s ts (λ n. refl);
  no_operator = λ n k symbols vs below. trace_passes (Symbol.operators n k) symbols vs (marked mark.Question s) ts (question_passes n k below);
}

-- ---- binary operators

-- what the tables say of the mark of a binary operator
pub record Binds (m : Mark) (op : Binary) (l : ℕ) : Type 0 where
  pub known : operator_of m ≡ Some (op, l)
  pub least : 1 ≤ l
  pub most : l ≤ 10
  pub index : PassesIndex m

pub binds : (m : Mark) (op : Binary) (l : ℕ) → IsBinary m op l → Binds m op l
binds m op l IsBinary.or_else = record { known = refl; least = omega arith; most = omega arith; index = λ n. refl }
binds m op l i = record { known = refl; least = omega arith; most = omega arith; index = λ n. refl }

other_level : (l k : ℕ) → l < k → (l == k) ≡ false
other_level l k h = ne_eqb l k (λ same. absurd (omega arith))

-- the operators of its level take it
pub operator_taken : (m : Mark) (op : Binary) (l n : ℕ) → Binds m op l
    → move (Symbol.operators n l) (word.Mark m) ≡ Move.take n (Symbol.expression n (suc l) ∷ Symbol.reduce Reduction.joined ∷ Symbol.operators n l ∷ [])
operator_taken m op zero n b = absurd (let least : 1 ≤ 0 = b.least in omega arith)
operator_taken m op (suc k) n b =
    ap (λ o. operator_move n (suc k) o) b.known
    ∙ ap (λ c. if c then Move.take n (Symbol.expression n (suc (suc k)) ∷ Symbol.reduce Reduction.joined ∷ Symbol.operators n (suc k) ∷ []) else Move.pass) (eq-eqb (suc k) (suc k) refl)

operator_passed : (m : Mark) (op : Binary) (l n k : ℕ) → Binds m op l → suc l ≤ k → operators_move n k (word.Mark m) ≡ Move.pass
operator_passed m op l n zero b h = absurd (omega arith)
operator_passed m op l n (suc k) b h =
    ap (λ o. operator_move n (suc k) o) b.known
    ∙ ap (λ c. if c then Move.take n (Symbol.expression n (suc (suc k)) ∷ Symbol.reduce Reduction.joined ∷ Symbol.operators n (suc k) ∷ []) else Move.pass) (other_level l (suc k) h)

-- at it no operators of tighter levels go on
pub operator_loose : (m : Mark) (op : Binary) (l : ℕ) (s : Span) (ts : List Token) → Binds m op l → Loose (suc l) (marked m s ∷ ts)
operator_loose m op l s ts b = record {
  no_index = no_index_at m s ts b.index;
  no_postfix = no_postfix_at m s ts b.index;
  no_operator = λ n k symbols vs below. trace_passes (Symbol.operators n k) symbols vs (marked m s) ts (operator_passed m op l n k b below);
}

pub operator_means : (m : Mark) (op : Binary) (l : ℕ) → Binds m op l → binary_in (word.Mark m) ≡ op
operator_means m op l b = ap (λ (o : Option (Binary × ℕ)). (unwrap_or o (binary.Add, 0)).0) b.known
