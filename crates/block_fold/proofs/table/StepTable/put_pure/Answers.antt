use Rattle.std.proofs.Common.{IfOk, sym, subst}
use Rattle.block_fold.specs.Puts.{put}
use Rattle.block_fold.specs.Code.{IsPutThere}
use Rattle.block_fold.proofs.TableLemmas.{depth_is}
use Rattle.block_fold.proofs.table.StepTable.put_pure.Goals as goal

pub returns : goal.returns
returns c =
    let s = c.args.self.now in
    subst (λ d. IfOk c.put.result (λ v. IsPutThere s c.put.new.self v (put d s.args s.steps c.args.step))) (sym depth_is) c.put.ensures
