use Rattle.std.proofs.Common.{◌≡◌, ◌-◌, take, drop, length, get_or, map, codes, decimal, ap, ◌∙◌, arith}
use Rattle.std.proofs.lemmas.List.{get_or_read}
use Rattle.net_types.specs.declared.net.Unit.TheVariants.{Sink}
use Rattle.net_core.specs.Parts.{noted_outs}
use Rattle.net_text.proofs.ReadLemmas.{none_read}
use Rattle.snapshot.specs.private.Words.{ForkFits, RisingFits}
use Rattle.snapshot.proofs.NumberedLemmas.{list_other, same_length, empty_of, rising_of, too_few}
use Rattle.snapshot.proofs.lines.read_fork.Goals as goal
use Rattle.snapshot.proofs.lines.read_fork.Goals.{then-number-from-via-then-number-from, then-number-from-via-else-number-from+then-is_empty, then-number-from-via-else-number-from+else-is_empty+then-outs-noted_outs}

pub returns-then-number-from : goal.returns-then-number-from
returns-then-number-from c =
    let ts = take (length c.in-Some-len1-up.field-0.now - 1) (drop 1 c.in-Some-len1-up.field-0.now) in
    list_other (λ w. w.now) (ForkFits c.args.units.now c.args.from) (codes "fork") (length c.args.units.now) c.in-Some.number (map (λ w. w.now) c.args.words.now) c.in-Some-len1-up.field-0.now _ c.requires (λ v f. f.within) c.in-Some-len1-up.ensures c.in-Some-len1-up.len_at_least c.in-Some.ensures.0 c.in-Some.ensures.1 (λ js f e.
    (elim c.then-number-from.branch [
      | then-number-from-via-then-number-from w ↦ omega (arith, f.from, w.if-number-from.true)
      | then-number-from-via-else-number-from+then-is_empty w ↦ f.some (empty_of (λ w. w.now) js ts e w.if-is_empty.ensures)
      | then-number-from-via-else-number-from+else-is_empty+then-outs-noted_outs w ↦
          too_few _ _ _ _ (same_length (λ w. w.now) js ts e) f.sent.some w.if-outs-noted_outs.true
          (w.noted_outs.ensures ∙ ap noted_outs (get_or_read c.args.units.now c.in-Some.number w.index-units-number.result c.in-Some.ensures.0 w.index-units-number.is (Sink 0)))
    ]))

pub returns-in-None : goal.returns-in-None
returns-in-None c =
    let q : c.noted_outs-2.result ≡ noted_outs (get_or c.args.units.now c.in-Some.number (Sink 0)) =
    c.noted_outs-2.ensures ∙ ap noted_outs (get_or_read c.args.units.now c.in-Some.number c.index-units-number-2.result c.in-Some.ensures.0 c.index-units-number-2.is (Sink 0)) in
    list_other (λ w. w.now) (ForkFits c.args.units.now c.args.from) (codes "fork") (length c.args.units.now) c.in-Some.number (map (λ w. w.now) c.args.words.now) c.in-Some-len1-up.field-0.now _ c.requires (λ v f. f.within) c.in-Some-len1-up.ensures c.in-Some-len1-up.len_at_least c.in-Some.ensures.0 c.in-Some.ensures.1 (λ js f e.
    none_read (RisingFits c.noted_outs-2.result) (map decimal) _ _ c.in-None.is c.in_ok-list.ensures js (rising_of _ _ js f.sent q) e)
