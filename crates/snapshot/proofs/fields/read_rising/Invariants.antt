use Rattle.std.proofs.Common.{◌≡◌, ◌-◌, ◌<◌, ◌≤◌, map, take, decimal, get_or, []}
use Rattle.std.specs.List.{All}
use Rattle.net_core.specs.Parts.{Rising}
use Rattle.snapshot.specs.private.Words.{IsBelow}
use Rattle.snapshot.proofs.fields.read_rising.Given as goal

abbrev pub invariant-loop-word : goal.invariant-loop-word
invariant-loop-word l = record {
  fits : All (IsBelow l.bound) l.numbers;
  same : map decimal l.numbers ≡ map (λ w. w.now) (take l.word-index l.words);
  rising : Rising l.numbers;
  low : All (λ j. j < l.least) l.numbers;
  top : l.least ≤ l.bound;
  some : 0 < l.least → 0 < l.word-index;
  last : 0 < l.least → decimal (l.least - 1) ≡ (get_or l.words (l.word-index - 1) (record { ref_ptr = (0, 0); now = [] })).now;
}
