use Rattle.std.proofs.Common.{◌≢◌, ◌++◌, ℕ, ◌<◌, List, get_or}
use Rattle.net_replay.specs.declared.schedule_words.TheConstants.{ACT_WORDS}
use Rattle.net_replay.specs.declared.schedule_words.ActWord.{ActWord}
use Rattle.net_replay.specs.Words.{word_text}
use Rattle.net_replay.proofs.schedule_reader.read_word.Given as goal

abbrev pub invariant-loop-word : goal.invariant-loop-word
invariant-loop-word l = (k : ℕ) (d : ActWord) (more : List ℕ) → k < l.word-index → l.text ≢ word_text (get_or ACT_WORDS k d) ++ more
