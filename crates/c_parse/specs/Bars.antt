-- Tokens before the first that has a barred word, and what reading them says of all tokens; contracts of private functions alone cite this.
use Rattle.std.specs.Prelude.{◌≡◌, List, [], ◌∷◌, ◌++◌, All, Bool, true, false, not, Result, Ok, Err}
use Rattle.c_ast.specs.declared.token.Token.{Token}
use Rattle.c_parse.specs.declared.bar.Bar.{Bar}
use Rattle.c_parse.specs.declared.refusal.Stop.{Stop}
use Rattle.c_parse.specs.Symbols.{Symbol, bars}
use Rattle.c_parse.specs.Stops.{stop_before}
use Rattle.c_parse.specs.Traces.{judge}
use Rattle.c_parse.specs.Verdicts.{Tells}

-- the token has no barred word
abbrev pub IsFreeOf : Bar → Token → Type 0
IsFreeOf b t = bars b t.word ≡ false

-- a token comes first that has no barred word
abbrev pub is_free_at : Bar → List Token → Bool
is_free_at b [] = false
is_free_at b (t ∷ ts) = not (bars b t.word)

-- no token, or one with a barred word comes first
pub data BeginsBarred (b : Bar) : List Token → Type 0 where
  none : BeginsBarred b []
  some : (t : Token) (ts : List Token) → bars b t.word ≡ true → BeginsBarred b (t ∷ ts)

pub record IsParted (b : Bar) (all front back : List Token) : Type 0 where
  pub split : all ≡ front ++ back
  pub free : All (IsFreeOf b) front
  pub begins : BeginsBarred b back

-- The outcome of reading a part, where these tokens come behind those that were at hand: as `Judges` says it of all tokens.
abbrev pub JudgesBefore : {A : Type 0} → List Token → List Symbol → List Symbol → List Token → List Token → Result A Stop → Type 0
JudgesBefore behind part left before after (Ok x) = (symbols : List Symbol) → judge (part ++ symbols) (before ++ behind) ≡ judge (left ++ symbols) (after ++ behind)
JudgesBefore behind part left before after (Err e) = (symbols : List Symbol) → Tells (stop_before behind e) (judge (part ++ symbols) (before ++ behind))

-- the same, where a stop is that of all tokens already
abbrev pub JudgesWith : {A : Type 0} → List Token → List Symbol → List Symbol → List Token → List Token → Result A Stop → Type 0
JudgesWith behind part left before after (Ok x) = (symbols : List Symbol) → judge (part ++ symbols) (before ++ behind) ≡ judge (left ++ symbols) (after ++ behind)
JudgesWith behind part left before after (Err e) = (symbols : List Symbol) → Tells e (judge (part ++ symbols) (before ++ behind))
