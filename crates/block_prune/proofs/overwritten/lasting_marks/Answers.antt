use Rattle.std.proofs.Common.{rules, ◌≡◌, ◌-◌, length, get_or, refl, ◌∙◌, ap}
use Rattle.std.specs.Prelude.{true, replicate}
use Rattle.std.proofs.lemmas.List.{length-replicate}
use Rattle.ir.specs.declared.instr.Instr.TheVariants.{Const}
use Rattle.block_prune.proofs.Noted.{last_start, last_before, last_end}
use Rattle.block_prune.proofs.overwritten.lasting_marks.Goals as goal

pub loop-place-init : goal.loop-place-init
loop-place-init c =
    let n = length c.args.steps.now in
    let all : c.in_ok-marks.marks.items ≡ replicate (length c.args.steps.now) true = search rules in
    last_start c.args.steps.now n c.in_ok-marks.marks.items c.new-pending.result.items refl (ap length all ∙ length-replicate n true) c.new-pending.ensures.items

pub loop-place-preserved : goal.loop-place-preserved
loop-place-preserved c =
    let is = c.args.steps.now in
    let l = c.loop-place in
    let new = c.in_ok-marks-2 in
    last_before is l.place l.marks.items _ l.pending.items c.note.new.pending.items new.field-0 (get_or is (l.place - 1) (Const 0 0)) (Const 0 0) l.invariant c.loop-place-test.true l.auto.place refl
    new.ensures.lasts new.ensures.noted refl

pub returns : goal.returns
returns c = last_end c.args.steps.now c.loop-place.place c.loop-place.marks.items c.loop-place.pending.items c.loop-place.invariant c.loop-place-test.false
