-- What is expected of parts that have no symbol of their own.
use Rattle.std.specs.Prelude.{ℕ, List, [], ◌∷◌}
use Rattle.c_parse.specs.Symbols.{Symbol, Fixed, Reduction}

-- what is assigned to
abbrev pub target_symbols : ℕ → List Symbol
target_symbols n = Symbol.a_name n ∷ Symbol.reduce Reduction.no_indices ∷ Symbol.indices n ∷ Symbol.reduce Reduction.target ∷ []

-- one or more arguments of a call
abbrev pub argument_list_symbols : ℕ → List Symbol
argument_list_symbols n = Symbol.expression n 0 ∷ Symbol.reduce Reduction.first_argument ∷ Symbol.more_arguments n ∷ []

-- one or more parameters
abbrev pub param_list_symbols : ℕ → List Symbol
param_list_symbols n = Symbol.a_param n ∷ Symbol.reduce Reduction.first_param ∷ Symbol.more_params n ∷ []

-- declarations and statements in braces
abbrev pub braced_symbols : ℕ → List Symbol
braced_symbols n = Symbol.fixed n Fixed.opening_brace ∷ Symbol.reduce Reduction.no_items ∷ Symbol.body n ∷ []

-- what stands between the parentheses of a for, with them
abbrev pub head_symbols : ℕ → List Symbol
head_symbols n = Symbol.fixed n Fixed.opening ∷ Symbol.first n ∷ Symbol.condition n ∷ Symbol.last n ∷ []
