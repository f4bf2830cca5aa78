use Rattle.std.proofs.Common.{rules, ◌≡◌, ◌+◌, ◌-◌, length, get_or, refl, ◌∙◌, ap, arith}
use Rattle.std.specs.Prelude.{false, replicate}
use Rattle.std.proofs.lemmas.List.{length-replicate}
use Rattle.ir.specs.declared.instr.Instr.TheVariants.{Const}
use Rattle.block_prune.specs.Dead.{jump_operands, live_marks}
use Rattle.block_prune.specs.Code.{marked}
use Rattle.block_prune.proofs.Noted.{live_start, live_before, live_end}
use Rattle.block_prune.proofs.live.live_marks.Goals as goal

pub loop-place-init : goal.loop-place-init
loop-place-init c =
    let is = c.as_slice-steps.result.now in
    let last = jump_operands c.args.block.now.jump in
    let n = length is in
    let all : c.in_ok-marks.marks.items ≡ replicate (length c.as_slice-steps.result.now) false = search rules in
    let none : c.in_ok-needed.needed.items ≡ replicate (c.len-args.result + length c.as_slice-steps.result.now) false = search rules in
    live_start last c.len-args.result is n c.in_ok-marks.marks.items c.need_jump.new.needed.items refl (ap length all ∙ length-replicate n false)
    (c.need_jump.ensures ∙ ap (λ l. marked l last) none)

pub note-requires : goal.note-requires
note-requires c =
    let w = c.loop-place.invariant.wide in
    let t = c.loop-place-test.true in
    let a = c.loop-place.auto.place in
    omega (arith, w, t, a)

pub loop-place-preserved : goal.loop-place-preserved
loop-place-preserved c =
    let is = c.as_slice-steps.result.now in
    let l = c.loop-place in
    live_before (jump_operands c.args.block.now.jump) c.len-args.result is l.place l.marks.items _ l.needed.items c.note.new.needed.items c.note.result (get_or is (l.place - 1) (Const 0 0)) (Const 0 0)
    l.invariant c.loop-place-test.true l.auto.place refl c.note.ensures.live c.note.ensures.needed refl

pub returns : goal.returns
returns c =
    let b = c.args.block.now in
    let last = jump_operands b.jump in
    let l = c.loop-place in
    live_end last c.len-args.result c.as_slice-steps.result.now l.place l.marks.items l.needed.items l.invariant c.loop-place-test.false
    ∙ ap (λ n. live_marks last n c.as_slice-steps.result.now) c.len-args.ensures ∙ ap (live_marks last (length b.args)) c.as_slice-steps.ensures
