-- The levels of expressions in the table: an expression of one level is one of the next with operators of the level behind it.
use Rattle.std.proofs.Common.{◌≡◌, ℕ, suc, ◌-◌, ◌≤◌, List, [], ◌∷◌, ◌++◌, false, Option, Some, None, arith, refl, sym, ◌∙◌, ap}
use Rattle.c_ast.specs.declared.token.Token.{Token}
use Rattle.c_ast.specs.declared.token.Word.{Word}
use Rattle.c_ast.specs.declared.token.Word.TheVariants as word
use Rattle.c_ast.specs.declared.mark.Mark.TheVariants as mark
use Rattle.c_ast.specs.declared.tree.Unary.{Unary}
use Rattle.c_parse.specs.Tables.{sign_of}
use Rattle.c_parse.specs.Symbols.{Symbol, Reduction, Move, followed, looser, tails, sign_move, expression_move}
use Rattle.c_parse.specs.Values.{Value}
use Rattle.c_parse.specs.Traces.{trace}
use Rattle.c_parse.proofs.Tracing.{is_pass, trace_unfolds}

pub tails_unroll : (n l : ℕ) → l ≤ 10 → tails n l ≡ tails n (suc l) ++ Symbol.operators n l ∷ []
tails_unroll n l h =
    let more : 11 - l ≡ suc (10 - l) = omega arith in
    let same : 11 - suc l ≡ 10 - l = omega arith in
    let back : 10 - (10 - l) ≡ l = omega arith in
    ap (λ k. looser n k) more ∙ ap (λ k. looser n (10 - l) ++ Symbol.operators n k ∷ []) back ∙ ap (λ k. looser n k ++ Symbol.operators n l ∷ []) (sym same)

sign_unrolls : (n l : ℕ) (op : Option Unary) → l ≤ 10 → sign_move n l op ≡ followed (sign_move n (suc l) op) (Symbol.operators n l ∷ [])
sign_unrolls n l (Some op) h = ap (λ us. Move.take (suc n) (Symbol.expression (suc n) 11 ∷ Symbol.reduce Reduction.signed ∷ us)) (tails_unroll n l h)
sign_unrolls n l None h = refl

move_unrolls : (n l : ℕ) (w : Word) → l ≤ 10 → expression_move n l w ≡ followed (expression_move n (suc l) w) (Symbol.operators n l ∷ [])
move_unrolls n l (word.Name x) h = ap (λ us. Move.take n (Symbol.reduce Reduction.no_indices ∷ Symbol.postfix n ∷ Symbol.reduce Reduction.named ∷ us)) (tails_unroll n l h)
move_unrolls n l (word.Number v t) h = ap (λ us. Move.take n (Symbol.reduce Reduction.constant ∷ us)) (tails_unroll n l h)
move_unrolls n l (word.Mark mark.Open) h = ap (λ us. Move.take (suc n) (Symbol.inside (suc n) ∷ us)) (tails_unroll n l h)
move_unrolls n l (word.Mark m) h = sign_unrolls n l (sign_of m) h
move_unrolls n l (word.Key k) h = refl

sign_stays : (n l : ℕ) (op : Option Unary) → is_pass (sign_move n l op) ≡ false
sign_stays n l (Some op) = refl
sign_stays n l None = refl

-- an expression is never passed over
pub expression_stays : (n l : ℕ) (w : Word) → is_pass (expression_move n l w) ≡ false
expression_stays n l (word.Name x) = refl
expression_stays n l (word.Number v t) = refl
expression_stays n l (word.Mark mark.Open) = refl
expression_stays n l (word.Mark m) = sign_stays n l (sign_of m)
expression_stays n l (word.Key k) = refl

-- an expression of a level is one of the next level and operators of the level, at any tokens
pub trace_unrolls : (n l : ℕ) (symbols : List Symbol) (vs : List Value) (ts : List Token) → l ≤ 10
    → trace (Symbol.expression n l ∷ symbols) vs ts ≡ trace (Symbol.expression n (suc l) ∷ Symbol.operators n l ∷ symbols) vs ts
trace_unrolls n l symbols vs [] h = refl
trace_unrolls n l symbols vs (t ∷ ts) h =
    trace_unfolds (Symbol.expression n l) (Symbol.expression n (suc l)) (Symbol.operators n l ∷ []) symbols vs t ts (move_unrolls n l t.word h) (expression_stays n (suc l) t.word)
