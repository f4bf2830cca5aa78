-- Why reading one token stops.
use Rattle.std.specs.Prelude.{◌≡◌, ℕ, ◌<◌, List, [], ◌∷◌, Bool, true, false, Option, Some, None}
use Rattle.c_ast.specs.declared.token.Token.{Token}
use Rattle.c_ast.specs.declared.token.Word.{Word}
use Rattle.c_ast.specs.declared.token.Word.TheVariants as word
use Rattle.c_ast.specs.declared.mark.Mark.{Mark}
use Rattle.c_ast.specs.declared.mark.Mark.TheVariants as mark
use Rattle.c_ast.specs.declared.tree.Binary.{Binary}
use Rattle.c_parse.specs.declared.refusal.Stop.{Stop}
use Rattle.c_parse.specs.declared.refusal.Stop.TheVariants as stop
use Rattle.c_parse.specs.Symbols.{is_type_word}
use Rattle.c_parse.specs.Tables.{operator_of}

abbrev pub is_name : Word → Bool
is_name (word.Name x) = true
is_name w = false

abbrev pub is_number : Word → Bool
is_number (word.Number n t) = true
is_number w = false

-- a name, a number or an opening parenthesis, by which an operand begins
abbrev pub opens_operand : Word → Bool
opens_operand (word.Name x) = true
opens_operand (word.Number n t) = true
opens_operand (word.Mark mark.Open) = true
opens_operand w = false

-- ---- the next token

abbrev pub is_name_at : List Token → Bool
is_name_at [] = false
is_name_at (t ∷ ts) = is_name t.word

abbrev pub is_number_at : List Token → Bool
is_number_at [] = false
is_number_at (t ∷ ts) = is_number t.word

abbrev pub is_operand_at : List Token → Bool
is_operand_at [] = false
is_operand_at (t ∷ ts) = opens_operand t.word

-- a type comes next
abbrev pub is_type_at : List Token → Bool
is_type_at [] = false
is_type_at (t ∷ ts) = is_type_word t.word

-- a type comes after the next token
abbrev pub is_type_behind : List Token → Bool
is_type_behind [] = false
is_type_behind (t ∷ ts) = is_type_at ts

-- what a word is in a table of marks
abbrev pub meaning : {A : Type 0} → (Mark → Option A) → Word → Option A
meaning table (word.Mark m) = table m
meaning table w = None

-- the same of the next token
abbrev pub meaning_at : {A : Type 0} → (Mark → Option A) → List Token → Option A
meaning_at table [] = None
meaning_at table (t ∷ ts) = meaning table t.word

-- a binary operator that comes next is of a looser level than this; or none comes next
abbrev pub IsLooserAt : ℕ → List Token → Type 0
IsLooserAt level ts = (op : Binary) (l : ℕ) → meaning_at operator_of ts ≡ Some (op, l) → l < level

-- ---- stops

-- no token is left, or the next has a word that does not fit; or memory is wanting
pub data Refuses (Misfits : Word → Type 0) (before : List Token) (e : Stop) : Type 0 where
  ended : before ≡ [] → e ≡ stop.EndOfText → Refuses Misfits before e
  unfit : (t : Token) (after : List Token) → before ≡ t ∷ after → Misfits t.word → e ≡ stop.Unexpected t.span → Refuses Misfits before e
  memory : e ≡ stop.Memory → Refuses Misfits before e

-- the refusal at the next token
abbrev pub stop_at : List Token → Stop
stop_at [] = stop.EndOfText
stop_at (t ∷ ts) = stop.Unexpected t.span

-- the refusal of tokens by that of those before a barred one, where these tokens come behind
abbrev pub stop_before : List Token → Stop → Stop
stop_before behind stop.EndOfText = stop_at behind
stop_before behind (stop.Unexpected s) = stop.Unexpected s
stop_before behind (stop.TooDeep s) = stop.TooDeep s
stop_before behind stop.Memory = stop.Memory
