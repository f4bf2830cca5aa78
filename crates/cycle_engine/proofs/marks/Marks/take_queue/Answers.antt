use Rattle.std.proofs.Common.{◌≡◌, ◌++◌, ◌∷◌, [], List, ℕ, true, false, length, get_or, ap, arith, length-append, rules}
use Rattle.cycle_engine.proofs.MarkLemmas.{turned_listed}
use Rattle.cycle_engine.proofs.marks.Marks.take_queue.Goals as goal

pub returns : goal.returns
returns c =
    let l : c.args.self.now.queues.items ≡ c.unmark.new.self.queues.items ++ c.in-Some.unit ∷ [] = search rules in
    let was : get_or c.args.self.now.marked.items c.in-Some.unit false ≡ true = search rules in
    record {
      was = was;
      marked = c.unmark.ensures.marked;
      list = c.unmark.ensures.list;
      listed = λ net. turned_listed net c.args.self.now c.unmark.new.self c.in-Some.unit l c.unmark.ensures.list c.unmark.ensures.marked;
      fewer = (let a = ap (λ (xs : List ℕ). length xs) l in let n = length-append c.unmark.new.self.queues.items (c.in-Some.unit ∷ []) in omega arith);
    }
