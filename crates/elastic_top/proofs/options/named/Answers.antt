use Rattle.std.proofs.Common.{rules, tests, ◌∙◌}
use Rattle.std.proofs.lemmas.Iterator.{YieldsList-from_slice}
use Rattle.std.proofs.lemmas.Iterator.Search.{find_from_yields_List}
use Rattle.elastic_top.specs.Options.{is_of}
use Rattle.elastic_top.proofs.options.named.Goals as goal

pub returns : goal.returns
returns c =
    c.copied.ensures
    ∙ find_from_yields_List (is_of c.args.class) _ _ _ c.find.ensures.ran (YieldsList-from_slice c.args.delays.now cc) (λ x b q k. search (rules, tests))
