use Rattle.std.proofs.Common.{◌≡◌, arith, length, ap, map, subst, ◌∷◌, ◌∙◌}
use Rattle.std.proofs.lemmas.List.{length-append}
use Rattle.net_text.proofs.Texts.{none_left, some_left}
use Rattle.snapshot.specs.private.Drafts.{Shares, blank_parts, left_at}
use Rattle.net_types.specs.declared.net.Net.{Net}
use Rattle.snapshot.proofs.Progress.{read_first, read_more, says_wrong, says_after, says_saved, says_short}
use Rattle.snapshot.proofs.TextLemmas.{are_words, blank_stands, line_refused, line_taken}
use Rattle.snapshot.proofs.reader.read_text.Goals as goal

pub returns-then-not-branch-clause-says : goal.returns-then-not-branch-clause-says
returns-then-not-branch-clause-says c =
    let net = c.args.net.now in
    let d = c.lines.draft in
    says_wrong net c.args.bytes.now c.lines.rest.now c.in-Some.line.now c.in-Some.after.now d c.lines.number c.lines.invariant.read c.in-Some.ensures.0 c.in-Some.ensures.1
    (line_refused net (Shares net d.stage d.saved) (left_at net d.stage) c.in-Some.line.now _ c.in_ok-take_line.field-0 c.take_line.new.draft
    (ap (map (λ w. w.now)) c.as_slice.ensures.value ∙ c.in_ok-words.ensures) c.if-not-branch.true c.in_ok-take_line.ensures)

pub lines-preserved : goal.lines-preserved
lines-preserved c =
    let net = c.args.net.now in
    let d = c.lines.draft in
    record {
      read = read_more net c.args.bytes.now c.lines.rest.now c.in-Some.line.now c.in-Some.after.now d c.take_line.new.draft c.lines.number c.lines.invariant.read c.in-Some.ensures.0 c.in-Some.ensures.1
          (line_taken net (Shares net d.stage d.saved) (left_at net d.stage) c.in-Some.line.now _ c.in_ok-take_line.field-0 c.take_line.new.draft
          (ap (map (λ w. w.now)) c.as_slice.ensures.value ∙ c.in_ok-words.ensures) c.if-not-branch.false c.in_ok-take_line.ensures);
      room = omega (arith, c.lines.invariant.room, ap length c.in-Some.ensures.0, length-append c.in-Some.line.now (10 ∷ c.in-Some.after.now));
    }

pub lines-init : goal.lines-init
lines-init c = record { read = read_first c.args.net.now c.args.bytes.now c.in_ok-draft.draft c.in_ok-draft.ensures.stage (blank_stands c.args.net.now c.net-plain.ensures.checked c.in_ok-draft.draft c.in_ok-draft.ensures.stage (subst (λ (n : Net). c.in_ok-draft.draft.saved ≡ record { made = 0; parts = blank_parts n }) c.net-plain.ensures.net c.in_ok-draft.ensures.saved)); room = omega arith }

pub lines-smaller : goal.lines-smaller
lines-smaller c = omega (arith, ap length c.in-Some.ensures.0, length-append c.in-Some.line.now (10 ∷ c.in-Some.after.now))

pub take_line-requires-clause-words : goal.take_line-requires-clause-words
take_line-requires-clause-words c = are_words c.in-Some.line.now _ (ap (map (λ w. w.now)) c.as_slice.ensures.value ∙ c.in_ok-words.ensures)

pub take_line-requires-clause-stands : goal.take_line-requires-clause-stands
take_line-requires-clause-stands c = c.lines.invariant.read.reached.stands

pub returns-then-is_empty-clause-says : goal.returns-then-is_empty-clause-says
returns-then-is_empty-clause-says c = says_saved c.args.net.now c.args.bytes.now c.lines.rest.now c.lines.draft c.lines.number c.lines.invariant.read c.in-Ended.is (none_left c.lines.rest.now c.if-is_empty.ensures)

pub returns-else-is_empty-clause-says : goal.returns-else-is_empty-clause-says
returns-else-is_empty-clause-says c = says_after c.args.net.now c.args.bytes.now c.lines.rest.now c.lines.draft c.lines.number c.lines.invariant.read c.in-Ended.is (some_left c.lines.rest.now c.if-is_empty.ensures)

pub returns-in_default-stage : goal.returns-in_default-stage
returns-in_default-stage c = record {
  says = says_short c.args.net.now c.args.bytes.now c.lines.rest.now c.lines.draft c.lines.number c.lines.invariant.read c.in_default.ensures c.in_default-stage.not-Ended;
  one = tt;
}

pub overflow_cast-result : goal.overflow_cast-result
overflow_cast-result c = omega (arith, c.lines.invariant.room, c.requires, ap length c.in-Some.ensures.0, length-append c.in-Some.line.now (10 ∷ c.in-Some.after.now))
