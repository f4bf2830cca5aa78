use Rattle.std.proofs.Common.{◌≡◌, ◌⊎◌, ◌∙◌, inl, inr, ℕ, ◌+◌, ◌<◌, ◌≤◌, [], List, length, get_or, ap, sym, subst, arith}
use Rattle.std.proofs.lemmas.Bool.{cases_lt}
use Rattle.std.proofs.lemmas.List.{length-map, nil_from_length}
use Rattle.cycle_engine.specs.private.Stacks.{Stacked}
use Rattle.cycle_engine.proofs.CellLemmas.{list_at}
use Rattle.cycle_engine.proofs.cells.Cells.next_of_few.Goals as goal

pub loop-place-init : goal.loop-place-init
loop-place-init c = record { on = omega arith; before = λ k a l. absurd (omega arith) }

pub returns-then-len-gt0 : goal.returns-then-len-gt0
returns-then-len-gt0 c = record {
  from_on = c.loop-place.invariant.on;
  at_most = (let w = c.loop-place-test.true in omega arith);
  before = c.loop-place.invariant.before;
}

pub returns : goal.returns
returns c = record {
  from_on = c.requires.order;
  at_most = omega arith;
  before = λ k a l. c.loop-place.invariant.before k a (let w = c.loop-place-test.false in omega arith);
}

pub loop-place-preserved : goal.loop-place-preserved
loop-place-preserved c = record { on = (let z = c.loop-place.invariant.on in omega arith); before = λ k a l. at k a l (cases_lt k c.loop-place.place) }
  where
    here : get_or c.args.self.now c.loop-place.place [] ≡ []
    here =
        let items = c.self.inside.lists.items in
        let long = length-map items (λ (v : Stacked ℕ). v.items) in
        let same = ap (λ (xs : List (List ℕ)). length xs) c.self.view_is in
        ap (λ xs. get_or xs c.loop-place.place []) (sym c.self.view_is)
        ∙ (sym (list_at items c.loop-place.place c.index.result.now (let w = c.loop-place-test.true in let m = c.requires.within in omega (arith, long, same, w, m)) c.index.ensures)
        ∙ nil_from_length c.index.result.now.items (let e = c.len.ensures in let f = c.if-len-gt0.false in omega arith))

    at : (k : ℕ) → c.args.from ≤ k → k < c.loop-place.place + 1 → (k < c.loop-place.place) ⊎ (c.loop-place.place ≤ k) → get_or c.args.self.now k [] ≡ []
    at k a l (inl z) = c.loop-place.invariant.before k a z
    at k a l (inr z) =
        let w : c.loop-place.place ≤ k = z in
        let e : c.loop-place.place ≡ k = omega arith in
        let P : ℕ → Type 0 = λ n. get_or c.args.self.now n [] ≡ [] in
        subst P e here
