-- How the values of options are spelled.
use Rattle.std.specs.Prelude.{◌≡◌, ◌≤◌, ℕ, List, [], ◌∷◌, ◌++◌, length, map, Contains}
use Rattle.std.specs.List.{All}
use Rattle.std.specs.Str.Parse.{digits_value, IsNumeral as AreDigits}
use Rattle.el_base.specs.Limits.{max_delay}
use Rattle.command_words.specs.declared.choice.ValueKind.{ValueKind}
use Rattle.command_words.specs.declared.choice.ValueKind.TheVariants.{Flag, Number, Delays}
use Rattle.command_words.specs.declared.choice.ClassDelay.{ClassDelay}
use Rattle.command_words.specs.Tables.{Text, class_word, least_delay}

-- 1 to 20 decimal digits that spell the number; zeros may lead
pub record IsNumeral (text : Text) (n : ℕ) : Type 0 where
  pub digits : AreDigits 10 text
  pub short : length text ≤ 20
  pub value : n ≡ digits_value 10 text

-- the number that an option of this kind takes, within its range
abbrev pub IsNumber : ValueKind → Text → ℕ → Type 0
IsNumber Flag text n = ⊥
IsNumber (Number low high) text n = IsNumeral text n × (low ≤ n) × (n ≤ high)
IsNumber Delays text n = ⊥

-- delays, each of them `class=n`, joined by commas
pub data AreSpelled : Text → List ClassDelay → Type 0 where
  last : {d : ClassDelay} {digits text : Text} → IsNumeral digits d.cycles → text ≡ class_word d.class ++ (61 ∷ digits) → AreSpelled text (d ∷ [])
  more : {d : ClassDelay} {ds : List ClassDelay} {digits rest text : Text} → IsNumeral digits d.cycles
      → text ≡ class_word d.class ++ (61 ∷ (digits ++ (44 ∷ rest))) → AreSpelled rest ds → AreSpelled text (d ∷ ds)

-- no two of a list are equal
abbrev pub AreApart : {X : Type 0} → List X → Type 0
AreApart [] = Unit {0}
AreApart (x ∷ xs) = (Contains xs x → ⊥) × AreApart xs

-- the delays of a LIST: each class at most once, each number in its range
pub record AreDelays (text : Text) (ds : List ClassDelay) : Type 0 where
  pub spelled : AreSpelled text ds
  pub apart : AreApart (map (λ d. d.class) ds)
  pub bounds : All (λ d. (least_delay d.class ≤ d.cycles) × (d.cycles ≤ max_delay)) ds
