-- What a kernel comes to on inputs.
use Rattle.std.specs.Prelude.{◌≡◌, ◌≤◌, ℕ, ℤ, List, [], ◌∷◌, ◌++◌, Bool, true, false, Option, Some, map, codes, decimal}
use Rattle.el_base.specs.declared.span.Span.{Span}
use Rattle.net_types.specs.declared.firing.Inputs.{Inputs}
use Rattle.c_ast.specs.declared.typed.Typed.{Typed}
use Rattle.c_meaning.specs.Headers.{flat}
use Rattle.c_meaning.specs.Runs.{out_of_turns}
use Rattle.c_meaning.specs.Statements.{Ends, first, kernel_run}
use Rattle.inputs_text.specs.Results.{ResultText}
use Rattle.ref_interp.specs.Outcomes.{EndsSo, input_numbers}
use Rattle.kernel_ref.specs.declared.options.InterpretOptions.{InterpretOptions}
use Rattle.kernel_ref.specs.Texts.{Bytes}

-- the line of the number of turns, where it is asked for
abbrev pub turns_line : Bool → ℕ → Bytes
turns_line true n = codes "# turns " ++ decimal n ++ 10 ∷ []
turns_line false n = []

-- the kernel ends within the turns, and the text is that of its arrays and of its result, and then of the turns that it took
pub record EndsWith (o : InterpretOptions) (text : Bytes) (k : Typed) (inputs : Inputs) : Type 0 where
  pub arrays : List (List ℕ)
  pub value : Option ℕ
  pub turns : ℕ
  pub ends : EndsSo k o.profile (input_numbers k inputs) o.turns arrays value turns
  pub results : Bytes
  pub shown : ResultText (map flat k.arrays) k.result arrays value results
  pub whole : text ≡ results ++ turns_line o.count turns

-- within the turns an operation is undefined, and that is the place of the first
abbrev pub IsUndefinedAt : InterpretOptions → Span → Typed → Inputs → Type 0
IsUndefinedAt o at k inputs = first k o.profile (input_numbers k inputs) o.turns ≡ Some at

-- the kernel is not over within the turns, which are n
abbrev pub IsOutOfTurns : InterpretOptions → ℕ → Typed → Inputs → Type 0
IsOutOfTurns o n k inputs = (n ≡ o.turns) × ((kernel_run k o.profile (input_numbers k inputs) n).how ≡ out_of_turns)

-- the kernel ends within the turns
pub record EndsWithin (o : InterpretOptions) (k : Typed) (inputs : Inputs) : Type 0 where
  pub out : List (List ℤ)
  pub r : Option ℤ
  pub turns : ℕ
  pub ends : Ends k o.profile (input_numbers k inputs) out r turns
  pub within : turns ≤ o.turns
