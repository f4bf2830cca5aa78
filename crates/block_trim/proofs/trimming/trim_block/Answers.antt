use Rattle.std.proofs.Common.{◌≡◌, length, ◌∙◌, ap, map}
use Rattle.std.specs.Prelude.{false, replicate}
use Rattle.ir.specs.Renaming.{renamed}
use Rattle.block_trim.specs.Trimming.{uses, kept_writes, renamed_write}
use Rattle.block_trim.specs.Code.{marked, reads_by, number_by, numbering}
use Rattle.block_trim.proofs.Blocks.{made_trimmed}
use Rattle.block_trim.proofs.trimming.trim_block.Goals as goal

pub kept_reads-requires : goal.kept_reads-requires
kept_reads-requires c = ap length c.deref-2.ensures.value ∙ c.in_ok-marks.ensures.many

pub returns : goal.returns
returns c =
    let b = c.args.block.now in
    let ws = c.in_ok-writes.writes in
    let ms = c.in_ok-marks.marks.items in
    let n = c.in_ok-numbers.numbers in
    let reads : c.as_slice-reads.result.now ≡ b.reads = c.as_slice-reads.ensures in
    let steps : c.as_slice-steps.result.now ≡ b.steps = c.as_slice-steps.ensures in
    made_trimmed b ws ms n _ (record {
      kept = c.in_ok-writes.ensures ∙ ap (λ l. kept_writes l c.as_slice.result.now) reads ∙ ap (kept_writes b.reads) c.as_slice.ensures;
      marks = c.in_ok-marks.ensures.marks ∙ ap (λ k. marked (replicate k false) (uses c.as_slice-steps.result.now c.as_slice-2.result.now b.jump)) (ap length reads)
          ∙ ap (λ l. marked (replicate (length b.reads) false) (uses l c.as_slice-2.result.now b.jump)) steps
          ∙ ap (λ l. marked (replicate (length b.reads) false) (uses b.steps l b.jump)) c.as_slice-2.ensures;
      numbers = c.in_ok-numbers.ensures ∙ ap numbering c.deref.ensures.value;
      reads = c.in_ok-kept_reads.ensures ∙ ap (λ l. reads_by c.deref-2.result.now l) reads ∙ ap (λ l. reads_by l b.reads) c.deref-2.ensures.value;
      steps = c.in_ok-steps.ensures ∙ ap (map (renamed (number_by n))) steps;
      writes = c.in_ok-writes-2.ensures ∙ ap (map (renamed_write (number_by n))) c.as_slice-3.ensures;
      jump = c.jump.ensures;
    })
