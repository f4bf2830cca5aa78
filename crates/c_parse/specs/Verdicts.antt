-- What the outcome of reading a part says of the verdict on the tokens.
use Rattle.std.specs.Prelude.{◌≡◌, List, ◌++◌, Result, Ok, Err}
use Rattle.c_ast.specs.declared.token.Token.{Token}
use Rattle.c_parse.specs.declared.refusal.Stop.{Stop}
use Rattle.c_parse.specs.declared.refusal.Stop.TheVariants as stop
use Rattle.c_parse.specs.Symbols.{Symbol}
use Rattle.c_parse.specs.Traces.{Verdict, judge}

-- a stop tells the verdict; want of memory tells none
abbrev pub Tells : Stop → Verdict → Type 0
Tells (stop.Unexpected s) v = v ≡ Verdict.unexpected s
Tells stop.EndOfText v = v ≡ Verdict.cut
Tells (stop.TooDeep s) v = v ≡ Verdict.deep s
Tells stop.Memory v = Unit {0}

-- Where a part was read, the verdict on the tokens before it is that on the tokens after it, where only `left` of it is still expected, whatever else is; where reading stopped, the stop tells the verdict.
abbrev pub Judges : {A : Type 0} → List Symbol → List Symbol → List Token → List Token → Result A Stop → Type 0
Judges part left before after (Ok x) = (symbols : List Symbol) → judge (part ++ symbols) before ≡ judge (left ++ symbols) after
Judges part left before after (Err e) = (symbols : List Symbol) → Tells e (judge (part ++ symbols) before)
