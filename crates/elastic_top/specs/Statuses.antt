-- The statuses of each command, besides that of words that are no command.
use Rattle.std.specs.Prelude.{ℕ, List, [], ◌∷◌}
use Rattle.command_words.specs.declared.verb.Verb.{Verb}
use Rattle.command_words.specs.declared.verb.Verb.TheVariants.{Compile, Go, Run, Replay, Bench, Upgrade, Ref, Save, Resume}

abbrev pub statuses_of : Verb → List ℕ
statuses_of Compile = 0 ∷ 2 ∷ 3 ∷ 4 ∷ 11 ∷ 12 ∷ []
statuses_of Go = 0 ∷ 2 ∷ 3 ∷ 4 ∷ 6 ∷ 8 ∷ 10 ∷ 11 ∷ 12 ∷ []
statuses_of Run = 0 ∷ 2 ∷ 3 ∷ 5 ∷ 6 ∷ 8 ∷ 9 ∷ 10 ∷ 11 ∷ 12 ∷ []
statuses_of Replay = 0 ∷ 2 ∷ 3 ∷ 5 ∷ 6 ∷ 7 ∷ 9 ∷ 10 ∷ 11 ∷ 12 ∷ []
statuses_of Bench = 0 ∷ 3 ∷ 11 ∷ []
statuses_of Upgrade = 0 ∷ 2 ∷ 3 ∷ 5 ∷ 11 ∷ 12 ∷ []
statuses_of Ref = 0 ∷ 2 ∷ 3 ∷ 4 ∷ 6 ∷ 11 ∷ 12 ∷ 13 ∷ 14 ∷ []
statuses_of Save = 0 ∷ 2 ∷ 3 ∷ 5 ∷ 6 ∷ 11 ∷ 12 ∷ []
statuses_of Resume = 0 ∷ 2 ∷ 3 ∷ 5 ∷ 8 ∷ 9 ∷ 10 ∷ 11 ∷ 12 ∷ 15 ∷ []

-- those of all commands that are built, and of words that are none
abbrev pub statuses : List ℕ
statuses = 0 ∷ 1 ∷ 2 ∷ 3 ∷ 4 ∷ 5 ∷ 6 ∷ 7 ∷ 8 ∷ 9 ∷ 10 ∷ 11 ∷ 12 ∷ 13 ∷ 14 ∷ 15 ∷ []
