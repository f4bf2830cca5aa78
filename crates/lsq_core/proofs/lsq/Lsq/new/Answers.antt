use Rattle.std.proofs.Common.{rules, length, sym, ap, ◌∙◌}
use Rattle.lsq_core.proofs.ViewLemmas.{groups_within}
use Rattle.lsq_core.proofs.lsq.Lsq.new.Goals as goal

pub invariant_of-result : goal.invariant_of-result
invariant_of-result c = record {
  depth = ap (λ e. e.depth) c.in_ok-new.ensures;
  ports = ap (λ e. e.ports) c.in_ok-new.ensures ∙ sym (ap length c.in_ok-list_of-2.ensures);
  groups = rw (c.in_ok-list_of-2.ensures, c.in_ok-lists_of.ensures) (groups_within (length c.args.ports.now) c.args.depth c.args.groups.now c.requires.each_group);
  most = search rules;
}
