use Rattle.std.proofs.Common.{Option, Some, None, lit<}
use Rattle.std.specs.Prelude.{MatchOption, IsNone}
use Rattle.std.proofs.lemmas.Str.Pattern.{strip_prefix_char}
use Rattle.command_words.proofs.items.after_equals.Goals as goal

at_none : {A : Type 0} (r : Option A) (P : Type 0) (Q : A → Type 0) → MatchOption r P Q → IsNone r → P
at_none None P Q m n = m
at_none (Some x) P Q m n = cc

pub returns-clause-none : goal.returns-clause-none
returns-clause-none c = λ none.
    at_none c.strip_prefix.result _ _ (strip_prefix_char 61 c.args.word.now c.strip_prefix.result c.strip_prefix.ensures.cases (lit< tt)) none
