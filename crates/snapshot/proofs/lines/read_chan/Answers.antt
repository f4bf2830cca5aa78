use Rattle.std.proofs.Common.{◌-◌, take, drop, length, map, codes, decimal, arith}
use Rattle.std.specs.List.{All}
use Rattle.net_text.proofs.ReadLemmas.{none_read}
use Rattle.snapshot.specs.private.Words.{ChanFits, PatternFits}
use Rattle.snapshot.proofs.NumberedLemmas.{list_other, same_length, empty_of, too_many}
use Rattle.snapshot.proofs.lines.read_chan.Goals as goal
use Rattle.snapshot.proofs.lines.read_chan.Goals.{then-number-from-via-then-number-from, then-number-from-via-else-number-from+then-is_empty, then-number-from-via-else-number-from+else-is_empty+then-tokens-chan}

pub returns-then-number-from : goal.returns-then-number-from
returns-then-number-from c =
    let ts = take (length c.in-Some-len1-up.field-0.now - 1) (drop 1 c.in-Some-len1-up.field-0.now) in
    list_other (λ w. w.now) (ChanFits c.args.chans.now c.args.from) (codes "chan") (length c.args.chans.now) c.in-Some.number (map (λ w. w.now) c.args.words.now) c.in-Some-len1-up.field-0.now _ c.requires.few (λ v f. f.within) c.in-Some-len1-up.ensures c.in-Some-len1-up.len_at_least c.in-Some.ensures.0 c.in-Some.ensures.1 (λ js f e.
    (elim c.then-number-from.branch [
      | then-number-from-via-then-number-from w ↦ omega (arith, f.from, w.if-number-from.true)
      | then-number-from-via-else-number-from+then-is_empty w ↦ f.some (empty_of (λ w. w.now) js ts e w.if-is_empty.ensures)
      | then-number-from-via-else-number-from+else-is_empty+then-tokens-chan w ↦ too_many _ _ _ (same_length (λ w. w.now) js ts e) f.slots w.if-tokens-chan.true
    ]))

pub returns-in-None : goal.returns-in-None
returns-in-None c =
    list_other (λ w. w.now) (ChanFits c.args.chans.now c.args.from) (codes "chan") (length c.args.chans.now) c.in-Some.number (map (λ w. w.now) c.args.words.now) c.in-Some-len1-up.field-0.now _ c.requires.few (λ v f. f.within) c.in-Some-len1-up.ensures c.in-Some-len1-up.len_at_least c.in-Some.ensures.0 c.in-Some.ensures.1 (λ js f e.
    none_read (All (PatternFits _)) (map decimal) _ _ c.in-None.is c.in_ok-list.ensures js f.patterns e)
