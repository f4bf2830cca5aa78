use Rattle.std.proofs.Common.{◌≡◌, ◌∙◌, ◌++◌, ◌∷◌, [], ◌+◌, suc, ap, arith, ℕ}
use Rattle.block_args.specs.Tables.{count_from}
use Rattle.block_args.proofs.Numbering.{count_more}
use Rattle.block_args.proofs.block.all_variables.Goals as goal

pub loop-variable-preserved : goal.loop-variable-preserved
loop-variable-preserved c =
    let v = c.loop-variable.variable in
    c.in_ok-push.ensures.ok
    ∙ ap (λ xs. xs ++ v ∷ []) c.loop-variable.invariant
    ∙ ap (λ (k : ℕ). count_from 0 v ++ k ∷ []) (let e : v ≡ 0 + v = omega arith in e)
    ∙ count_more 0 v
    ∙ ap (count_from 0) (let e : suc v ≡ v + 1 = omega arith in e)
