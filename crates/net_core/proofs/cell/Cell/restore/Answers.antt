use Rattle.std.proofs.Common.{arith, rules, ◌≡◌, ◌∙◌, ℕ, List, [], ap, get_or}
use Rattle.std.proofs.lemmas.List.{get_or_default}
use Rattle.net_core.proofs.RestoreLemmas.{fork_restored}
use Rattle.net_core.proofs.cell.Cell.restore.Goals as goal

pub returns-then-at-len : goal.returns-then-at-len
returns-then-at-len c =
    let outs : c.as_slice-then-at-len-2.result.now ≡ get_or c.args.parts.now.sent c.args.number [] =
    c.as_slice-then-at-len-2.ensures ∙ c.index-as_slice-at.is ∙ ap (λ (xss : List (List ℕ)). get_or xss c.args.number c.index-as_slice-at.result) c.as_slice-then-at-len.ensures
    ∙ get_or_default c.args.parts.now.sent c.args.number c.index-as_slice-at.result [] (let n = c.len.ensures in let l = c.if-at-len.true in omega arith) in
    fork_restored c.args.parts.now c.args.number c.args.unit.now c.args.self.now _ c.send_all.new.sent c.as_slice-then-at-len-2.result.now c.send_all.ensures outs (search rules) c.requires.kept c.requires.own
