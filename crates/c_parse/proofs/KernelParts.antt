-- The symbols of kernel texts leave symbols of kernel texts.
use Rattle.std.proofs.Common.{◌≡◌, ℕ, zero, suc, ◌-◌, List, [], ◌∷◌, ◌++◌, Bool, true, false, ◌==◌, if◌then◌else◌, Option, Some, None, map, is_some, refl, ◌∙◌, ap, sym}
use Rattle.std.specs.List.{list_all}
use Rattle.std.proofs.lemmas.Bool.{and_from, and_parts}
use Rattle.std.proofs.lemmas.List.Folds.{list_all-append, list_all-map}
use Rattle.c_ast.specs.declared.token.Word.{Word}
use Rattle.c_ast.specs.declared.token.Word.TheVariants as word
use Rattle.c_ast.specs.declared.key.Key.{Key}
use Rattle.c_ast.specs.declared.key.Key.TheVariants as key
use Rattle.c_ast.specs.declared.mark.Mark.{Mark}
use Rattle.c_ast.specs.declared.mark.Mark.TheVariants as mark
use Rattle.c_ast.specs.declared.tree.Unary.{Unary}
use Rattle.c_ast.specs.declared.tree.Binary.{Binary}
use Rattle.c_parse.specs.Tables.{operator_of, sign_of, assigning_of, step_of, plain_type}
use Rattle.c_parse.specs.declared.bar.Bar.{Bar}
use Rattle.c_parse.specs.declared.bar.Bar.TheVariants as bar
use Rattle.c_parse.specs.Symbols.{Symbol, Reduction, Fixed, Move, move, followed, bars, limited, may_be_absent, kernel_rest, plain_item_move, helper_body_move, program_move, takes, fixed_move, is_type_word, type_move, looser, sign_move, expression_move, inside_move, operator_move, step_move, simple_move, assign_move, declarators, declaration_move, first_move, key_move, statement_move, body_move, result_move, param_move}

-- a symbol of kernel texts
abbrev pub is_part : Symbol → Bool
is_part Symbol.program = false
is_part (Symbol.helper_body n) = false
is_part (Symbol.without b s) = false
is_part s = true

-- each symbol that a move leaves passes a test
abbrev pub leaves : (Symbol → Bool) → Move → Bool
leaves test (Move.take n new) = list_all test new
leaves test m = true

joins : (test : Symbol → Bool) (xs ys : List Symbol) → list_all test xs ≡ true → list_all test ys ≡ true → list_all test (xs ++ ys) ≡ true
joins test xs ys p q = list_all-append test xs ys ∙ and_from (list_all test xs) (list_all test ys) p q

follows : (test : Symbol → Bool) (m : Move) (more : List Symbol) → leaves test m ≡ true → list_all test more ≡ true → leaves test (followed m more) ≡ true
follows test (Move.take n new) more p q = joins test new more p q
follows test m more p q = refl

-- ---- words and types

fixed_parts : (n : ℕ) (b : Bool) → leaves is_part (fixed_move n b) ≡ true
fixed_parts n true = refl
fixed_parts n false = refl

type_or_none : (n : ℕ) (b : Bool) → leaves is_part (if b then Move.take n (Symbol.reduce Reduction.plain ∷ []) else Move.stuck) ≡ true
type_or_none n true = refl
type_or_none n false = refl

type_parts : (n : ℕ) (w : Word) → leaves is_part (type_move n w) ≡ true
type_parts n (word.Key key.Signed) = refl
type_parts n (word.Key key.Unsigned) = refl
type_parts n (word.Key k) = type_or_none n (is_some (plain_type k))
type_parts n w = refl

-- ---- expressions

looser_parts : (n k : ℕ) → list_all is_part (looser n k) ≡ true
looser_parts n zero = refl
looser_parts n (suc k) = joins is_part (looser n k) (Symbol.operators n (10 - k) ∷ []) (looser_parts n k) refl

sign_parts : (n l : ℕ) (o : Option Unary) → leaves is_part (sign_move n l o) ≡ true
sign_parts n l (Some op) = looser_parts n (11 - l)
sign_parts n l None = refl

expression_parts : (n l : ℕ) (w : Word) → leaves is_part (expression_move n l w) ≡ true
expression_parts n l (word.Mark mark.Open) = looser_parts n (11 - l)
expression_parts n l (word.Mark m) = sign_parts n l (sign_of m)
expression_parts n l (word.Key k) = refl
expression_parts n l w = looser_parts n (11 - l)

inside_parts : (n : ℕ) (b : Bool) (w : Word) → leaves is_part (inside_move n b w) ≡ true
inside_parts n true w = follows is_part (type_move n w) (Symbol.fixed n Fixed.closing ∷ Symbol.expression n 11 ∷ Symbol.reduce Reduction.cast ∷ []) (type_parts n w) refl
inside_parts n false w = follows is_part (expression_move n 0 w) (Symbol.fixed n Fixed.closing ∷ Symbol.reduce Reduction.group ∷ []) (expression_parts n 0 w) refl

operator_or_none : (n l : ℕ) (b : Bool) → leaves is_part (if b then Move.take n (Symbol.expression n (suc l) ∷ Symbol.reduce Reduction.joined ∷ Symbol.operators n l ∷ []) else Move.pass) ≡ true
operator_or_none n l true = refl
operator_or_none n l false = refl

operator_parts : (n l : ℕ) (o : Option (Binary × ℕ)) → leaves is_part (operator_move n l o) ≡ true
operator_parts n l (Some (op, k)) = operator_or_none n l (k == l)
operator_parts n l None = refl

-- ---- assignments, steps, declarations and statements

step_parts : (n : ℕ) (more : List Symbol) (o : Option Bool) → list_all is_part more ≡ true → leaves is_part (step_move n more o) ≡ true
step_parts n more (Some up) p = p
step_parts n more None p = refl

simple_parts : (n : ℕ) (w : Word) → leaves is_part (simple_move n w) ≡ true
simple_parts n (word.Name x) = refl
simple_parts n (word.Mark m) = step_parts n (Symbol.a_name n ∷ Symbol.reduce Reduction.no_indices ∷ Symbol.indices n ∷ Symbol.reduce Reduction.target ∷ Symbol.reduce Reduction.step_before ∷ []) (step_of m) refl
simple_parts n w = refl

assign_parts : (n : ℕ) (m : Mark) (o : Option (Option Binary)) → leaves is_part (assign_move n m o) ≡ true
assign_parts n m (Some op) = refl
assign_parts n m None = step_parts n (Symbol.reduce Reduction.step_after ∷ []) (step_of m) refl

declaration_parts : (n : ℕ) (w : Word) → leaves is_part (declaration_move n w) ≡ true
declaration_parts n w = follows is_part (type_move n w) (declarators n) (type_parts n w) refl

first_parts : (n : ℕ) (b : Bool) (w : Word) → leaves is_part (first_move n b w) ≡ true
first_parts n true w = declaration_parts n w
first_parts n false (word.Mark mark.Semicolon) = refl
first_parts n false w = follows is_part (simple_move n w) (Symbol.fixed n Fixed.semicolon ∷ Symbol.reduce Reduction.simple_first ∷ []) (simple_parts n w) refl

key_parts : (n : ℕ) (k : Key) → leaves is_part (key_move n k) ≡ true
key_parts n key.If = refl
key_parts n k = refl

statement_parts : (n : ℕ) (w : Word) → leaves is_part (statement_move n w) ≡ true
statement_parts n (word.Key k) = key_parts n k
statement_parts n (word.Mark mark.OpenBrace) = refl
statement_parts n (word.Mark mark.Semicolon) = refl
statement_parts n w = follows is_part (simple_move n w) (Symbol.fixed n Fixed.semicolon ∷ Symbol.reduce Reduction.simple ∷ []) (simple_parts n w) refl

body_parts : (n : ℕ) (b : Bool) (w : Word) → leaves is_part (body_move n b w) ≡ true
body_parts n true w = follows is_part (declaration_move n w) (Symbol.reduce Reduction.declared_items ∷ Symbol.body n ∷ []) (declaration_parts n w) refl
body_parts n false (word.Mark mark.CloseBrace) = refl
body_parts n false w = follows is_part (statement_move n w) (Symbol.reduce Reduction.statement_item ∷ Symbol.body n ∷ []) (statement_parts n w) refl

-- ---- kernels

result_parts : (n : ℕ) (w : Word) → leaves is_part (result_move n w) ≡ true
result_parts n (word.Key key.Void) = refl
result_parts n w = follows is_part (type_move n w) (Symbol.reduce Reduction.result ∷ []) (type_parts n w) refl

param_parts : (n : ℕ) (w : Word) → leaves is_part (param_move n w) ≡ true
param_parts n w = follows is_part (type_move n w) (Symbol.a_name n ∷ Symbol.reduce Reduction.no_dims ∷ Symbol.dims n ∷ Symbol.reduce Reduction.param ∷ []) (type_parts n w) refl

-- ---- the table

pub parts_move : (s : Symbol) (w : Word) → is_part s ≡ true → leaves is_part (move s w) ≡ true
parts_move (Symbol.fixed n f) w h = fixed_parts n (takes f w)
parts_move (Symbol.a_name n) (word.Name x) h = refl
parts_move (Symbol.a_number n) (word.Number v t) h = refl
parts_move (Symbol.a_type n) w h = type_parts n w
parts_move (Symbol.maybe_int n) (word.Key key.Int) h = refl
parts_move (Symbol.expression n l) w h = expression_parts n l w
parts_move (Symbol.inside n) w h = inside_parts n (is_type_word w) w
parts_move (Symbol.operators n zero) (word.Mark mark.Question) h = refl
parts_move (Symbol.operators n (suc l)) (word.Mark m) h = operator_parts n (suc l) (operator_of m)
parts_move (Symbol.indices n) (word.Mark mark.OpenBracket) h = refl
parts_move (Symbol.postfix n) (word.Mark mark.Open) h = refl
parts_move (Symbol.postfix n) (word.Mark mark.OpenBracket) h = refl
parts_move (Symbol.arguments n) (word.Mark mark.Close) h = refl
parts_move (Symbol.arguments n) w h = follows is_part (expression_move n 0 w) (Symbol.reduce Reduction.first_argument ∷ Symbol.more_arguments n ∷ Symbol.fixed n Fixed.closing ∷ []) (expression_parts n 0 w) refl
parts_move (Symbol.more_arguments n) (word.Mark mark.Comma) h = refl
parts_move (Symbol.simple n) w h = simple_parts n w
parts_move (Symbol.assigning n) (word.Mark m) h = assign_parts n m (assigning_of m)
parts_move (Symbol.declared n) (word.Name x) h = refl
parts_move (Symbol.value n) (word.Mark mark.Assign) h = refl
parts_move (Symbol.more_declared n) (word.Mark mark.Comma) h = refl
parts_move (Symbol.first n) w h = first_parts n (is_type_word w) w
parts_move (Symbol.condition n) (word.Mark mark.Semicolon) h = refl
parts_move (Symbol.condition n) w h = follows is_part (expression_move n 0 w) (Symbol.reduce Reduction.some_condition ∷ Symbol.fixed n Fixed.semicolon ∷ []) (expression_parts n 0 w) refl
parts_move (Symbol.last n) (word.Mark mark.Close) h = refl
parts_move (Symbol.last n) w h = follows is_part (simple_move n w) (Symbol.reduce Reduction.some_step ∷ Symbol.fixed n Fixed.closing ∷ []) (simple_parts n w) refl
parts_move (Symbol.statement n) w h = statement_parts n w
parts_move (Symbol.other n) (word.Key key.Else) h = refl
parts_move (Symbol.body n) w h = body_parts n (is_type_word w) w
parts_move (Symbol.result n) w h = result_parts n w
parts_move (Symbol.params n) (word.Mark mark.Close) h = refl
parts_move (Symbol.params n) (word.Key key.Void) h = refl
parts_move (Symbol.params n) w h = follows is_part (param_move n w) (Symbol.reduce Reduction.first_param ∷ Symbol.more_params n ∷ Symbol.fixed n Fixed.closing ∷ []) (param_parts n w) refl
parts_move (Symbol.a_param n) w h = param_parts n w
parts_move (Symbol.more_params n) (word.Mark mark.Comma) h = refl
parts_move (Symbol.dims n) (word.Mark mark.OpenBracket) h = refl
parts_move s w h = cc

-- ---- parts without a word hold symbols of kernel texts

-- a symbol that is expected of a text
abbrev pub is_sound : Symbol → Bool
is_sound (Symbol.without b s) = is_part s
is_sound s = true

abbrev pub AreSound : List Symbol → Type 0
AreSound symbols = list_all is_sound symbols ≡ true

pub sound_append : (xs ys : List Symbol) → AreSound xs → AreSound ys → AreSound (xs ++ ys)
sound_append = joins is_sound

pub first_sound : (s : Symbol) (symbols : List Symbol) → AreSound (s ∷ symbols) → (is_sound s ≡ true) × AreSound symbols
first_sound s symbols h = and_parts (is_sound s) (list_all is_sound symbols) h

pub part_sound : (s : Symbol) → is_part s ≡ true → is_sound s ≡ true
part_sound (Symbol.without b s) h = absurd (cc)
part_sound s h = refl

parts_sound : (symbols : List Symbol) → list_all is_part symbols ≡ true → AreSound symbols
parts_sound [] h = refl
parts_sound (s ∷ symbols) h =
    let p = and_parts (is_part s) (list_all is_part symbols) h in
    and_from (is_sound s) (list_all is_sound symbols) (part_sound s p.0) (parts_sound symbols p.1)

leaves_sound : (m : Move) → leaves is_part m ≡ true → leaves is_sound m ≡ true
leaves_sound (Move.take n new) h = parts_sound new h
leaves_sound m h = refl

limited_sound : (b : Bar) (a : Bool) (m : Move) (x : Bool) → leaves is_part m ≡ true → leaves is_sound (limited b a m x) ≡ true
limited_sound b a (Move.take n new) false h = list_all-map is_sound (Symbol.without b) new ∙ h
limited_sound b true (Move.take n new) true h = refl
limited_sound b a m x h = refl

plain_item_sound : (n : ℕ) (w : Word) → leaves is_sound (plain_item_move n w) ≡ true
plain_item_sound n (word.Key key.Return) = refl
plain_item_sound n w = follows is_sound (limited bar.Returns false (statement_move n w) (bars bar.Returns w)) (Symbol.reduce Reduction.statement_item ∷ Symbol.helper_body n ∷ [])
    (limited_sound bar.Returns false (statement_move n w) (bars bar.Returns w) (statement_parts n w)) refl

helper_body_sound : (n : ℕ) (b : Bool) (w : Word) → leaves is_sound (helper_body_move n b w) ≡ true
helper_body_sound n true w =
    follows is_sound (limited bar.Returns false (type_move n w) (bars bar.Returns w)) (map (Symbol.without bar.Returns) (declarators n) ++ Symbol.reduce Reduction.declared_items ∷ Symbol.helper_body n ∷ [])
    (limited_sound bar.Returns false (type_move n w) (bars bar.Returns w) (type_parts n w)) refl
helper_body_sound n false w = plain_item_sound n w

program_sound : (w : Word) → leaves is_sound (program_move w) ≡ true
program_sound (word.Key key.Static) = refl
program_sound w = follows is_sound (result_move 0 w) (kernel_rest ++ Symbol.reduce Reduction.program ∷ []) (leaves_sound (result_move 0 w) (result_parts 0 w)) refl

sound_leaves : (s : Symbol) (w : Word) → is_sound s ≡ true → leaves is_sound (move s w) ≡ true
sound_leaves Symbol.program w h = program_sound w
sound_leaves (Symbol.helper_body n) w h = helper_body_sound n (is_type_word w) w
sound_leaves (Symbol.without b s) w h = limited_sound b (may_be_absent s) (move s w) (bars b w) (parts_move s w h)
sound_leaves s w h = leaves_sound (move s w) (parts_move s w refl)

-- what a symbol leaves where it takes a word
pub sound_taken : (s : Symbol) (w : Word) (n : ℕ) (new : List Symbol) → move s w ≡ Move.take n new → is_sound s ≡ true → AreSound new
sound_taken s w n new h sound = ap (leaves is_sound) (sym h) ∙ sound_leaves s w sound
