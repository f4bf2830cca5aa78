use Rattle.std.proofs.Common.{◌≡◌, ◌∙◌, ap, List, ℕ, set, ◌++◌, ◌∷◌, [], get_or}
use Rattle.std.proofs.lemmas.List.{map-set, get_or_read}
use Rattle.cycle_engine.specs.private.Stacks.{Stacked}
use Rattle.cycle_engine.specs.private.Lists.{lists_of}
use Rattle.cycle_engine.proofs.CellLemmas.{list_at, others_kept}
use Rattle.cycle_engine.proofs.cells.add_at.Goals as goal

pub returns-clause-added : goal.returns-clause-added
returns-clause-added c =
    let at : c.index_mut.result.now ≡ get_or c.args.lists.now.items c.args.at c.index_mut.result.now = get_or_read c.args.lists.now.items _ _ c.requires c.index_mut.ensures.value c.index_mut.result.now in
    map-set (λ (v : Stacked ℕ). v.items) c.args.lists.now.items c.args.at c.push.new.self ∙ ap (set (lists_of c.args.lists.now.items) c.args.at)
    (c.in_ok-push.ensures ∙ ap (λ (xs : List ℕ). xs ++ c.args.chan ∷ []) (list_at c.args.lists.now.items c.args.at c.index_mut.result.now c.requires at))

pub returns-clause-others : goal.returns-clause-others
returns-clause-others c k n = others_kept c.args.lists.now.items c.args.at c.push.new.self k n

pub returns-in_err-push-clause-others : goal.returns-in_err-push-clause-others
returns-in_err-push-clause-others c k n = others_kept c.args.lists.now.items c.args.at c.push.new.self k n
