use Rattle.std.proofs.Common.{[], ap, ◌∙◌, rules}
use Rattle.c_parse.proofs.Rules.{no_items}
use Rattle.c_parse.proofs.KernelRules.{read_all}
use Rattle.c_parse.specs.Traces.{judge}
use Rattle.c_parse.proofs.cursor.Cursor.whole.Goals as goal

pub returns : goal.returns
returns c = record {
  derived = read_all _ _ _ c.in_ok-tree.ensures.derived (no_items _ (search rules));
  whole = c.in_ok-tree.ensures.judged [] ∙ ap (λ ts. judge [] ts) (no_items c.kernel.new.self.rest.now (search rules));
  told = tt;
}
