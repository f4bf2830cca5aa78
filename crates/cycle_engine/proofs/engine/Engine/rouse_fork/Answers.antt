use Rattle.std.proofs.Common.{subst, sym}
use Rattle.cycle_engine.specs.declared.engine.Engine.{Engine}
use Rattle.cycle_engine.specs.private.Marking.{KeepsMarks}
use Rattle.cycle_engine.proofs.MarkLemmas.{keeps_same, keeps_then}
use Rattle.cycle_engine.proofs.engine.Engine.rouse_fork.Goals.{then-is_some+in_ok-mark, else-is_some}
use Rattle.cycle_engine.proofs.engine.Engine.rouse_fork.Goals as goal

pub returns-in_ok-mark_merge-clause-kept : goal.returns-in_ok-mark_merge-clause-kept
returns-in_ok-mark_merge-clause-kept c = elim c.if-is_some.branch [
  | then-is_some+in_ok-mark w ↦ let z = w.self-is in let P : Engine → Type 0 = λ e. KeepsMarks e.marks c.mark_merge.new.self in keeps_then c.args.self.now.marks w.mark.new.self c.mark_merge.new.self w.in_ok-mark.ensures.kept (subst P z c.in_ok-mark_merge.ensures.kept)
  | else-is_some w ↦ let z = w.self-is in let P : Engine → Type 0 = λ e. KeepsMarks e.marks c.mark_merge.new.self in subst P z c.in_ok-mark_merge.ensures.kept
]

pub returns-else-full-clause-kept : goal.returns-else-full-clause-kept
returns-else-full-clause-kept c = elim c.if-is_some.branch [
  | then-is_some+in_ok-mark w ↦ let z = w.self-is in let P : Engine → Type 0 = λ e. KeepsMarks c.args.self.now.marks e.marks in subst P (sym z) w.in_ok-mark.ensures.kept
  | else-is_some w ↦ let z = w.self-is in let P : Engine → Type 0 = λ e. KeepsMarks c.args.self.now.marks e.marks in subst P (sym z) (keeps_same c.args.self.now.marks)
]
