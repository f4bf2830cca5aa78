use Rattle.std.proofs.Common.{sym, ap, arith, length, refl, ◌∷◌}
use Rattle.std.proofs.lemmas.List.{length-append}
use Rattle.net_text.specs.declared.body.Stage.TheVariants.{Ended}
use Rattle.net_text.specs.Bodies.{LineFits, line_text}
use Rattle.net_text.proofs.ReadLemmas.{none_read, some_read}
use Rattle.net_text.proofs.Texts.{draft_start, draft_more, none_allowed, not_allowed, says_wrong, says_after, says_net, says_short, none_left, some_left, not_ended, draft_at}
use Rattle.net_text.proofs.reader.read_body.Goals as goal

pub lines-init : goal.lines-init
lines-init c = record { draft = draft_start c.args.version c.args.name c.args.body.now _ c.requires.fits refl c.new.ensures c.new-2.ensures c.new-3.ensures c.new-4.ensures; room = omega arith }

pub returns-in_default-2 : goal.returns-in_default-2
returns-in_default-2 c = says_wrong c.args.version c.args.name c.args.body.now c.lines.stage c.lines.net c.lines.rest.now c.in-Some.text.now c.in-Some.after.now c.lines.number c.requires.fits c.lines.invariant.draft
    c.in-Some.ensures.0 c.in-Some.ensures.1
    (none_allowed c.args.version c.lines.stage c.in-Some.text.now (none_read (LineFits c.args.version) (line_text c.args.version) c.in-Some.text.now c.in_ok-line.field-0 c.in_default-2.is c.in_ok-line.ensures))

pub returns-then-not-may_stand : goal.returns-then-not-may_stand
returns-then-not-may_stand c = says_wrong c.args.version c.args.name c.args.body.now c.lines.stage c.lines.net c.lines.rest.now c.in-Some.text.now c.in-Some.after.now c.lines.number c.requires.fits c.lines.invariant.draft
    c.in-Some.ensures.0 c.in-Some.ensures.1
    (not_allowed c.args.version c.lines.stage c.in-Some.text.now c.in-Some-2.line (some_read (LineFits c.args.version) (line_text c.args.version) c.in-Some.text.now c.in_ok-line.field-0 c.in-Some-2.line c.in-Some-2.is c.in_ok-line.ensures).1 (sym c.if-not-may_stand.ensures))

pub lines-preserved : goal.lines-preserved
lines-preserved c =
    let read = some_read (LineFits c.args.version) (line_text c.args.version) c.in-Some.text.now c.in_ok-line.field-0 c.in-Some-2.line c.in-Some-2.is c.in_ok-line.ensures in
    record {
      draft = draft_more c.args.version c.args.name c.args.body.now c.lines.stage c.stage_after-stage.result c.lines.net c.add.new.net c.lines.rest.now c.in-Some.text.now c.in-Some.after.now c.lines.number c.in-Some-2.line
          c.lines.invariant.draft c.in-Some.ensures.0 c.in-Some.ensures.1 read.0 read.1 (sym c.if-not-may_stand.ensures) c.stage_after-stage.ensures c.in_ok-add.ensures.ok;
      room = omega (arith, c.lines.invariant.room, ap length c.in-Some.ensures.0, length-append c.in-Some.text.now (10 ∷ c.in-Some.after.now));
    }

pub lines-smaller : goal.lines-smaller
lines-smaller c = omega (arith, ap length c.in-Some.ensures.0, length-append c.in-Some.text.now (10 ∷ c.in-Some.after.now))

pub overflow_add-number : goal.overflow_add-number
overflow_add-number c = omega (arith, c.lines.invariant.room, c.requires.short, ap length c.in-Some.ensures.0, length-append c.in-Some.text.now (10 ∷ c.in-Some.after.now))

pub returns-then-is_empty : goal.returns-then-is_empty
returns-then-is_empty c = says_net c.args.version c.args.name c.args.body.now c.lines.net c.lines.rest.now c.lines.number
    (draft_at c.args.version c.args.name c.args.body.now c.lines.stage Ended c.lines.net c.lines.rest.now c.lines.number c.in-Ended.is c.lines.invariant.draft) (none_left c.lines.rest.now c.if-is_empty.ensures)

pub returns-else-is_empty : goal.returns-else-is_empty
returns-else-is_empty c = says_after c.args.version c.args.name c.args.body.now c.lines.net c.lines.rest.now c.lines.number c.requires.fits
    (draft_at c.args.version c.args.name c.args.body.now c.lines.stage Ended c.lines.net c.lines.rest.now c.lines.number c.in-Ended.is c.lines.invariant.draft) (some_left c.lines.rest.now c.if-is_empty.ensures)

pub returns-in-Scalars : goal.returns-in-Scalars
returns-in-Scalars c = says_short c.args.version c.args.name c.args.body.now c.lines.stage c.lines.net c.lines.rest.now c.lines.number c.requires.fits c.lines.invariant.draft (not_ended c.lines.stage c.in-Scalars.is) c.in_default.ensures
