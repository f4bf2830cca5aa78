-- A predictive table for kernel texts: what each grammar symbol becomes at a token.
-- A symbol is what a parser still expects. With one token of lookahead it either takes the token and is replaced by other symbols, or is passed over, or is stuck. The first argument of a symbol is the number of constructs that hold it.
use Rattle.std.specs.Prelude.{ℕ, zero, suc, ◌-◌, ◌==◌, if◌then◌else◌, List, [], ◌∷◌, ◌++◌, map, Bool, true, false, Option, Some, None, is_some}
use Rattle.c_ast.specs.declared.token.Word.{Word}
use Rattle.c_ast.specs.declared.token.Word.TheVariants as word
use Rattle.c_ast.specs.declared.key.Key.{Key}
use Rattle.c_ast.specs.declared.key.Key.TheVariants as key
use Rattle.c_ast.specs.declared.mark.Mark.{Mark}
use Rattle.c_ast.specs.declared.mark.Mark.TheVariants as mark
use Rattle.c_ast.specs.declared.tree.Unary.{Unary}
use Rattle.c_ast.specs.declared.tree.Binary.{Binary}
use Rattle.c_parse.specs.declared.bar.Bar.{Bar}
use Rattle.c_parse.specs.declared.bar.Bar.TheVariants as bar
use Rattle.c_parse.specs.Tables.{operator_of, sign_of, assigning_of, step_of, plain_type}

-- a word that a rule has at a place by itself
pub data Fixed : Type 0 where
  opening closing closing_bracket colon semicolon opening_brace closing_brace while_word : Fixed

abbrev pub spelled : Fixed → Word
spelled Fixed.opening = word.Mark mark.Open
spelled Fixed.closing = word.Mark mark.Close
spelled Fixed.closing_bracket = word.Mark mark.CloseBracket
spelled Fixed.colon = word.Mark mark.Colon
spelled Fixed.semicolon = word.Mark mark.Semicolon
spelled Fixed.opening_brace = word.Mark mark.OpenBrace
spelled Fixed.closing_brace = word.Mark mark.CloseBrace
spelled Fixed.while_word = word.Key key.While

-- the words that a part bars: none of its tokens has them
abbrev pub bars : Bar → Word → Bool
bars bar.Returns (word.Key key.Return) = true
bars bar.Brackets (word.Mark mark.OpenBracket) = true
bars b w = false

-- how a part is made of what was read for it
pub data Reduction : Type 0 where
  -- types
  plain with_int : Reduction
  -- expressions
  no_indices index named constant group cast signed joined chosen : Reduction
  -- calls
  no_arguments first_argument next_argument : Reduction
  -- assignments, steps and declarations
  target assigned step_after step_before no_value value first_declared next_declared declared : Reduction
  -- the parts of a for
  no_first simple_first no_condition some_condition no_step some_step : Reduction
  -- statements
  no_items statement_item declared_items block empty simple no_other other if_done while_done do_done for_done leaving continuing returning : Reduction
  -- parameters and kernels
  no_dims dim param first_param next_param no_params void_params void_result result kernel : Reduction
  -- helpers and programs
  no_helpers helper program : Reduction

pub data Symbol : Type 0 where
  fixed : ℕ → Fixed → Symbol
  a_name a_number a_type : ℕ → Symbol
  -- the word int, which may be absent
  maybe_int : ℕ → Symbol
  -- an expression of that level
  expression : ℕ → ℕ → Symbol
  -- what stands between an opening parenthesis and the end of a group or cast
  inside : ℕ → Symbol
  -- operators of that level with their right operands, of which there may be none; of level 0 a ?
  operators : ℕ → ℕ → Symbol
  -- indices in brackets, of which there may be none
  indices : ℕ → Symbol
  -- what may follow a name in an expression: indices, or arguments in parentheses
  postfix : ℕ → Symbol
  -- arguments up to the closing parenthesis, with it; and further arguments, of which there may be none
  arguments more_arguments : ℕ → Symbol
  -- an assignment or step, and what follows its target
  simple assigning : ℕ → Symbol
  -- a declared name, its value, which may be absent, and further declared names, of which there may be none
  declared value more_declared : ℕ → Symbol
  -- the parts of a for with the mark behind each; the second is what a return has too
  first condition last : ℕ → Symbol
  statement : ℕ → Symbol
  -- an else with its statement, which may be absent
  other : ℕ → Symbol
  -- declarations and statements up to the closing brace, with it
  body : ℕ → Symbol
  result : ℕ → Symbol
  -- parameters up to the closing parenthesis, with it
  params : ℕ → Symbol
  a_param : ℕ → Symbol
  -- further parameters and dimensions, of which there may be none
  more_params dims : ℕ → Symbol
  -- helpers and a kernel
  program : Symbol
  -- declarations and statements of a helper up to its closing brace, with its return and the brace
  helper_body : ℕ → Symbol
  -- the same as another symbol, of tokens without a word
  without : Bar → Symbol → Symbol
  -- nothing is read
  reduce : Reduction → Symbol

-- what a symbol does at a token: it is passed over, or takes the token, which belongs to so many constructs, and leaves these symbols, or is stuck
pub data Move : Type 0 where
  pass : Move
  take : ℕ → List Symbol → Move
  stuck : Move

-- the same, with symbols behind
abbrev pub followed : Move → List Symbol → Move
followed Move.pass more = Move.pass
followed (Move.take n symbols) more = Move.take n (symbols ++ more)
followed Move.stuck more = Move.stuck

-- the same where a word is barred: a symbol that may be absent is passed over at it, and another is stuck
abbrev pub limited : Bar → Bool → Move → Bool → Move
limited b absent Move.pass barred = Move.pass
limited b absent Move.stuck barred = Move.stuck
limited b absent (Move.take n symbols) false = Move.take n (map (Symbol.without b) symbols)
limited b true (Move.take n symbols) true = Move.pass
limited b false (Move.take n symbols) true = Move.stuck

-- ---- words and types

abbrev pub takes : Fixed → Word → Bool
takes Fixed.opening (word.Mark mark.Open) = true
takes Fixed.closing (word.Mark mark.Close) = true
takes Fixed.closing_bracket (word.Mark mark.CloseBracket) = true
takes Fixed.colon (word.Mark mark.Colon) = true
takes Fixed.semicolon (word.Mark mark.Semicolon) = true
takes Fixed.opening_brace (word.Mark mark.OpenBrace) = true
takes Fixed.closing_brace (word.Mark mark.CloseBrace) = true
takes Fixed.while_word (word.Key key.While) = true
takes f w = false

abbrev pub fixed_move : ℕ → Bool → Move
fixed_move n true = Move.take n []
fixed_move n false = Move.stuck

abbrev pub name_move : ℕ → List Symbol → Word → Move
name_move n more (word.Name x) = Move.take n more
name_move n more w = Move.stuck

abbrev pub number_move : ℕ → Word → Move
number_move n (word.Number v t) = Move.take n []
number_move n w = Move.stuck

abbrev pub is_type_word : Word → Bool
is_type_word (word.Key k) = is_some (plain_type k)
is_type_word w = false

abbrev pub type_move : ℕ → Word → Move
type_move n (word.Key key.Signed) = Move.take n (Symbol.reduce Reduction.plain ∷ Symbol.maybe_int n ∷ [])
type_move n (word.Key key.Unsigned) = Move.take n (Symbol.reduce Reduction.plain ∷ Symbol.maybe_int n ∷ [])
type_move n (word.Key k) = if is_some (plain_type k) then Move.take n (Symbol.reduce Reduction.plain ∷ []) else Move.stuck
type_move n w = Move.stuck

abbrev pub maybe_int_move : ℕ → Word → Move
maybe_int_move n (word.Key key.Int) = Move.take n (Symbol.reduce Reduction.with_int ∷ [])
maybe_int_move n w = Move.pass

-- ---- expressions

-- the operators of k levels, from 10 down
abbrev pub looser : ℕ → ℕ → List Symbol
looser n zero = []
looser n (suc k) = looser n k ++ Symbol.operators n (10 - k) ∷ []

-- what may follow an operand in an expression of level l: operators of the levels from 10 down to l
abbrev pub tails : ℕ → ℕ → List Symbol
tails n l = looser n (11 - l)

abbrev pub sign_move : ℕ → ℕ → Option Unary → Move
sign_move n l (Some op) = Move.take (suc n) (Symbol.expression (suc n) 11 ∷ Symbol.reduce Reduction.signed ∷ tails n l)
sign_move n l None = Move.stuck

abbrev pub expression_move : ℕ → ℕ → Word → Move
expression_move n l (word.Name x) = Move.take n (Symbol.reduce Reduction.no_indices ∷ Symbol.postfix n ∷ Symbol.reduce Reduction.named ∷ tails n l)
expression_move n l (word.Number v t) = Move.take n (Symbol.reduce Reduction.constant ∷ tails n l)
expression_move n l (word.Mark mark.Open) = Move.take (suc n) (Symbol.inside (suc n) ∷ tails n l)
expression_move n l (word.Mark m) = sign_move n l (sign_of m)
expression_move n l w = Move.stuck

abbrev pub inside_move : ℕ → Bool → Word → Move
inside_move n true w = followed (type_move n w) (Symbol.fixed n Fixed.closing ∷ Symbol.expression n 11 ∷ Symbol.reduce Reduction.cast ∷ [])
inside_move n false w = followed (expression_move n 0 w) (Symbol.fixed n Fixed.closing ∷ Symbol.reduce Reduction.group ∷ [])

abbrev pub operator_move : ℕ → ℕ → Option (Binary × ℕ) → Move
operator_move n l (Some (op, k)) = if k == l then Move.take n (Symbol.expression n (suc l) ∷ Symbol.reduce Reduction.joined ∷ Symbol.operators n l ∷ []) else Move.pass
operator_move n l None = Move.pass

abbrev pub choice_move : ℕ → Word → Move
choice_move n (word.Mark mark.Question) =
    Move.take (suc n) (Symbol.expression (suc n) 0 ∷ Symbol.fixed (suc n) Fixed.colon ∷ Symbol.expression (suc n) 0 ∷ Symbol.reduce Reduction.chosen ∷ [])
choice_move n w = Move.pass

abbrev pub operators_move : ℕ → ℕ → Word → Move
operators_move n zero w = choice_move n w
operators_move n (suc l) (word.Mark m) = operator_move n (suc l) (operator_of m)
operators_move n (suc l) w = Move.pass

abbrev pub indices_move : ℕ → Word → Move
indices_move n (word.Mark mark.OpenBracket) = Move.take (suc n) (Symbol.expression (suc n) 0 ∷ Symbol.fixed (suc n) Fixed.closing_bracket ∷ Symbol.reduce Reduction.index ∷ Symbol.indices n ∷ [])
indices_move n w = Move.pass

abbrev pub postfix_move : ℕ → Word → Move
postfix_move n (word.Mark mark.Open) = Move.take (suc n) (Symbol.arguments (suc n) ∷ [])
postfix_move n w = indices_move n w

abbrev pub arguments_move : ℕ → Word → Move
arguments_move n (word.Mark mark.Close) = Move.take n (Symbol.reduce Reduction.no_arguments ∷ [])
arguments_move n w =
    followed (expression_move n 0 w) (Symbol.reduce Reduction.first_argument ∷ Symbol.more_arguments n ∷ Symbol.fixed n Fixed.closing ∷ [])

abbrev pub more_arguments_move : ℕ → Word → Move
more_arguments_move n (word.Mark mark.Comma) = Move.take n (Symbol.expression n 0 ∷ Symbol.reduce Reduction.next_argument ∷ Symbol.more_arguments n ∷ [])
more_arguments_move n w = Move.pass

-- ---- assignments, steps and declarations

abbrev pub step_move : ℕ → List Symbol → Option Bool → Move
step_move n more (Some up) = Move.take n more
step_move n more None = Move.stuck

abbrev pub simple_move : ℕ → Word → Move
simple_move n (word.Name x) = Move.take n (Symbol.reduce Reduction.no_indices ∷ Symbol.indices n ∷ Symbol.reduce Reduction.target ∷ Symbol.assigning n ∷ [])
simple_move n (word.Mark m) = step_move n (Symbol.a_name n ∷ Symbol.reduce Reduction.no_indices ∷ Symbol.indices n ∷ Symbol.reduce Reduction.target ∷ Symbol.reduce Reduction.step_before ∷ []) (step_of m)
simple_move n w = Move.stuck

abbrev pub assign_move : ℕ → Mark → Option (Option Binary) → Move
assign_move n m (Some op) = Move.take n (Symbol.expression n 0 ∷ Symbol.reduce Reduction.assigned ∷ [])
assign_move n m None = step_move n (Symbol.reduce Reduction.step_after ∷ []) (step_of m)

abbrev pub assigning_move : ℕ → Word → Move
assigning_move n (word.Mark m) = assign_move n m (assigning_of m)
assigning_move n w = Move.stuck

abbrev pub value_move : ℕ → Word → Move
value_move n (word.Mark mark.Assign) = Move.take n (Symbol.expression n 0 ∷ Symbol.reduce Reduction.value ∷ [])
value_move n w = Move.pass

abbrev pub more_declared_move : ℕ → Word → Move
more_declared_move n (word.Mark mark.Comma) = Move.take n (Symbol.declared n ∷ Symbol.reduce Reduction.next_declared ∷ Symbol.more_declared n ∷ [])
more_declared_move n w = Move.pass

-- what follows the type of a declaration
abbrev pub declarators : ℕ → List Symbol
declarators n = Symbol.declared n ∷ Symbol.reduce Reduction.first_declared ∷ Symbol.more_declared n ∷ Symbol.fixed n Fixed.semicolon ∷ Symbol.reduce Reduction.declared ∷ []

abbrev pub declaration_move : ℕ → Word → Move
declaration_move n w = followed (type_move n w) (declarators n)

-- ---- statements

abbrev pub plain_first_move : ℕ → Word → Move
plain_first_move n (word.Mark mark.Semicolon) = Move.take n (Symbol.reduce Reduction.no_first ∷ [])
plain_first_move n w = followed (simple_move n w) (Symbol.fixed n Fixed.semicolon ∷ Symbol.reduce Reduction.simple_first ∷ [])

abbrev pub first_move : ℕ → Bool → Word → Move
first_move n true w = declaration_move n w
first_move n false w = plain_first_move n w

abbrev pub condition_move : ℕ → Word → Move
condition_move n (word.Mark mark.Semicolon) = Move.take n (Symbol.reduce Reduction.no_condition ∷ [])
condition_move n w = followed (expression_move n 0 w) (Symbol.reduce Reduction.some_condition ∷ Symbol.fixed n Fixed.semicolon ∷ [])

abbrev pub last_move : ℕ → Word → Move
last_move n (word.Mark mark.Close) = Move.take n (Symbol.reduce Reduction.no_step ∷ [])
last_move n w = followed (simple_move n w) (Symbol.reduce Reduction.some_step ∷ Symbol.fixed n Fixed.closing ∷ [])

-- an expression in the parentheses of a control statement
abbrev pub in_group : ℕ → List Symbol → List Symbol
in_group n more = Symbol.fixed n Fixed.opening ∷ Symbol.expression n 0 ∷ Symbol.fixed n Fixed.closing ∷ more

abbrev pub key_move : ℕ → Key → Move
key_move n key.If = Move.take (suc n) (in_group (suc (suc n)) (Symbol.statement (suc n) ∷ Symbol.reduce Reduction.no_other ∷ Symbol.other (suc n) ∷ Symbol.reduce Reduction.if_done ∷ []))
key_move n key.While = Move.take (suc n) (in_group (suc (suc n)) (Symbol.statement (suc n) ∷ Symbol.reduce Reduction.while_done ∷ []))
key_move n key.Do = Move.take (suc n) (Symbol.statement (suc n) ∷ Symbol.fixed (suc n) Fixed.while_word ∷ in_group (suc (suc n)) (Symbol.fixed (suc n) Fixed.semicolon ∷ Symbol.reduce Reduction.do_done ∷ []))
key_move n key.For = Move.take (suc n) (Symbol.fixed (suc (suc n)) Fixed.opening ∷ Symbol.first (suc (suc n)) ∷ Symbol.condition (suc (suc n)) ∷ Symbol.last (suc (suc n)) ∷ Symbol.statement (suc n) ∷ Symbol.reduce Reduction.for_done ∷ [])
key_move n key.Break = Move.take n (Symbol.fixed n Fixed.semicolon ∷ Symbol.reduce Reduction.leaving ∷ [])
key_move n key.Continue = Move.take n (Symbol.fixed n Fixed.semicolon ∷ Symbol.reduce Reduction.continuing ∷ [])
key_move n key.Return = Move.take n (Symbol.condition n ∷ Symbol.reduce Reduction.returning ∷ [])
key_move n k = Move.stuck

abbrev pub statement_move : ℕ → Word → Move
statement_move n (word.Key k) = key_move n k
statement_move n (word.Mark mark.OpenBrace) = Move.take (suc n) (Symbol.reduce Reduction.no_items ∷ Symbol.body (suc n) ∷ Symbol.reduce Reduction.block ∷ [])
statement_move n (word.Mark mark.Semicolon) = Move.take n (Symbol.reduce Reduction.empty ∷ [])
statement_move n w = followed (simple_move n w) (Symbol.fixed n Fixed.semicolon ∷ Symbol.reduce Reduction.simple ∷ [])

abbrev pub other_move : ℕ → Word → Move
other_move n (word.Key key.Else) = Move.take n (Symbol.statement n ∷ Symbol.reduce Reduction.other ∷ [])
other_move n w = Move.pass

abbrev pub statement_item_move : ℕ → Word → Move
statement_item_move n (word.Mark mark.CloseBrace) = Move.take n []
statement_item_move n w = followed (statement_move n w) (Symbol.reduce Reduction.statement_item ∷ Symbol.body n ∷ [])

abbrev pub body_move : ℕ → Bool → Word → Move
body_move n true w = followed (declaration_move n w) (Symbol.reduce Reduction.declared_items ∷ Symbol.body n ∷ [])
body_move n false w = statement_item_move n w

-- ---- kernels

abbrev pub result_move : ℕ → Word → Move
result_move n (word.Key key.Void) = Move.take n (Symbol.reduce Reduction.void_result ∷ [])
result_move n w = followed (type_move n w) (Symbol.reduce Reduction.result ∷ [])

abbrev pub param_move : ℕ → Word → Move
param_move n w = followed (type_move n w) (Symbol.a_name n ∷ Symbol.reduce Reduction.no_dims ∷ Symbol.dims n ∷ Symbol.reduce Reduction.param ∷ [])

abbrev pub params_move : ℕ → Word → Move
params_move n (word.Mark mark.Close) = Move.take n (Symbol.reduce Reduction.no_params ∷ [])
params_move n (word.Key key.Void) = Move.take n (Symbol.reduce Reduction.void_params ∷ Symbol.fixed n Fixed.closing ∷ [])
params_move n w = followed (param_move n w) (Symbol.reduce Reduction.first_param ∷ Symbol.more_params n ∷ Symbol.fixed n Fixed.closing ∷ [])

abbrev pub more_params_move : ℕ → Word → Move
more_params_move n (word.Mark mark.Comma) = Move.take n (Symbol.a_param n ∷ Symbol.reduce Reduction.next_param ∷ Symbol.more_params n ∷ [])
more_params_move n w = Move.pass

abbrev pub dims_move : ℕ → Word → Move
dims_move n (word.Mark mark.OpenBracket) = Move.take (suc n) (Symbol.a_number (suc n) ∷ Symbol.fixed (suc n) Fixed.closing_bracket ∷ Symbol.reduce Reduction.dim ∷ Symbol.dims n ∷ [])
dims_move n w = Move.pass

-- ---- programs

abbrev pub plain_item_move : ℕ → Word → Move
plain_item_move n (word.Key key.Return) = Move.take n (Symbol.expression n 0 ∷ Symbol.fixed n Fixed.semicolon ∷ Symbol.fixed n Fixed.closing_brace ∷ [])
plain_item_move n w = followed (limited bar.Returns false (statement_move n w) (bars bar.Returns w)) (Symbol.reduce Reduction.statement_item ∷ Symbol.helper_body n ∷ [])

abbrev pub helper_body_move : ℕ → Bool → Word → Move
helper_body_move n true w =
    followed (limited bar.Returns false (type_move n w) (bars bar.Returns w)) (map (Symbol.without bar.Returns) (declarators n) ++ Symbol.reduce Reduction.declared_items ∷ Symbol.helper_body n ∷ [])
helper_body_move n false w = plain_item_move n w

-- what follows the word static
abbrev pub helper_symbols : List Symbol
helper_symbols = Symbol.a_type 0 ∷ Symbol.a_name 0 ∷ Symbol.fixed 1 Fixed.opening ∷ Symbol.without bar.Brackets (Symbol.params 1) ∷ Symbol.fixed 1 Fixed.opening_brace
    ∷ Symbol.reduce Reduction.no_items ∷ Symbol.helper_body 1 ∷ Symbol.reduce Reduction.helper ∷ []

-- what follows the result of a kernel
abbrev pub kernel_rest : List Symbol
kernel_rest = Symbol.a_name 0 ∷ Symbol.fixed 1 Fixed.opening ∷ Symbol.params 1 ∷ Symbol.fixed 1 Fixed.opening_brace ∷ Symbol.reduce Reduction.no_items ∷ Symbol.body 1 ∷ Symbol.reduce Reduction.kernel ∷ []

abbrev pub program_move : Word → Move
program_move (word.Key key.Static) = Move.take 0 (helper_symbols ++ Symbol.program ∷ [])
program_move w = followed (result_move 0 w) (kernel_rest ++ Symbol.reduce Reduction.program ∷ [])

-- ---- the table

-- whether a symbol may be absent where no token is left
abbrev pub may_be_absent : Symbol → Bool
may_be_absent (Symbol.maybe_int n) = true
may_be_absent (Symbol.operators n l) = true
may_be_absent (Symbol.indices n) = true
may_be_absent (Symbol.postfix n) = true
may_be_absent (Symbol.more_arguments n) = true
may_be_absent (Symbol.value n) = true
may_be_absent (Symbol.more_declared n) = true
may_be_absent (Symbol.other n) = true
may_be_absent (Symbol.more_params n) = true
may_be_absent (Symbol.dims n) = true
may_be_absent (Symbol.without b s) = may_be_absent s
may_be_absent (Symbol.reduce r) = true
may_be_absent s = false

abbrev pub move : Symbol → Word → Move
move (Symbol.fixed n f) w = fixed_move n (takes f w)
move (Symbol.a_name n) w = name_move n [] w
move (Symbol.a_number n) w = number_move n w
move (Symbol.a_type n) w = type_move n w
move (Symbol.maybe_int n) w = maybe_int_move n w
move (Symbol.expression n l) w = expression_move n l w
move (Symbol.inside n) w = inside_move n (is_type_word w) w
move (Symbol.operators n l) w = operators_move n l w
move (Symbol.indices n) w = indices_move n w
move (Symbol.postfix n) w = postfix_move n w
move (Symbol.arguments n) w = arguments_move n w
move (Symbol.more_arguments n) w = more_arguments_move n w
move (Symbol.simple n) w = simple_move n w
move (Symbol.assigning n) w = assigning_move n w
move (Symbol.declared n) w = name_move n (Symbol.reduce Reduction.no_value ∷ Symbol.value n ∷ []) w
move (Symbol.value n) w = value_move n w
move (Symbol.more_declared n) w = more_declared_move n w
move (Symbol.first n) w = first_move n (is_type_word w) w
move (Symbol.condition n) w = condition_move n w
move (Symbol.last n) w = last_move n w
move (Symbol.statement n) w = statement_move n w
move (Symbol.other n) w = other_move n w
move (Symbol.body n) w = body_move n (is_type_word w) w
move (Symbol.result n) w = result_move n w
move (Symbol.params n) w = params_move n w
move (Symbol.a_param n) w = param_move n w
move (Symbol.more_params n) w = more_params_move n w
move (Symbol.dims n) w = dims_move n w
move Symbol.program w = program_move w
move (Symbol.helper_body n) w = helper_body_move n (is_type_word w) w
move (Symbol.without b s) w = limited b (may_be_absent s) (move s w) (bars b w)
move (Symbol.reduce r) w = Move.pass

-- the symbols of a kernel text
abbrev pub kernel_symbols : List Symbol
kernel_symbols = Symbol.result 0 ∷ kernel_rest

-- the symbols of a program's text
abbrev pub program_symbols : List Symbol
program_symbols = Symbol.reduce Reduction.no_helpers ∷ Symbol.program ∷ []
