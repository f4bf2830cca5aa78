use Rattle.std.proofs.Common.{ℕ, List, ◌≡◌, ◌∙◌, reverse, ap, sym, subst, refl}
use Rattle.std.proofs.lemmas.List.{reverse-reverse}
use Rattle.std.proofs.lemmas.List.Sorted.{IsPermutation-trans, IsNonDecreasingBy-from_sort}
use Rattle.std.specs.List.Sorted.{IsNonDecreasing}
use Rattle.cycle_engine.proofs.marks.Marks.sort_queues.Goals as goal

pub returns-then-len-gt1 : goal.returns-then-len-gt1
returns-then-len-gt1 c = record {
  marked = refl;
  list = refl;
  queues = IsPermutation-trans _ _ _ c.sort_unstable.ensures.permutation c.reverse.ensures.permutation;
  order = (
      let back : c.sort_unstable.new.self.items ≡ reverse c.reverse.new.self.items = sym (ap (λ (xs : List ℕ). reverse xs) c.reverse.ensures.items ∙ reverse-reverse c.sort_unstable.new.self.items) in
      subst IsNonDecreasing back (IsNonDecreasingBy-from_sort (λ n. n) c.sort_unstable.new.self.items c.sort_unstable.ensures.sorted));
}
