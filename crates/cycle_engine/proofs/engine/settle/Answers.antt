use Rattle.std.proofs.Common.{◌≡◌, ◌≢◌, ◌⊎◌, inl, inr, ℕ, ◌+◌, ◌<◌, ◌≤◌, ◌∙◌, true, get_or, length, sym, subst, arith}
use Rattle.std.proofs.lemmas.Bool.{cases_lt, cases_eq}
use Rattle.net_types.specs.Nets.{kind_of}
use Rattle.net_check.specs.Ends.{is_lsq}
use Rattle.net_core.specs.States.{state_of}
use Rattle.cycle_engine.specs.private.Marking.{IsMarked, IsStarved, entries_at}
use Rattle.cycle_engine.proofs.MarkLemmas.{keeps_then}
use Rattle.cycle_engine.proofs.engine.settle.Goals as goal

pub loop-unit-preserved : goal.loop-unit-preserved
loop-unit-preserved c = record {
  kept = keeps_then _ _ _ c.loop-unit.invariant.kept c.in_ok-settle_unit.ensures.kept;
  marked = λ k l f w. marked k (cases_lt k c.loop-unit.unit-index) l f w;
  long = c.in_ok-settle_unit.ensures.long;
  same = λ u q e. entries u q (c.loop-unit.invariant.same u q e);
  noted = λ k l q. noted k (cases_lt k c.loop-unit.unit-index) l q;
}
  where
    unit_at : ℕ → ℕ
    unit_at k = get_or c.args.units.now k 0

    Marked : ℕ → Type 0
    Marked k = (IsStarved c.args.net.now (state_of c.args.state.now) (unit_at k) → ⊥) → unit_at k < length c.args.marks.now.marked.items → IsMarked c.settle_unit.new.marks (unit_at k)

    here : Marked c.loop-unit.unit-index
    here f l = c.in_ok-settle_unit.ensures.marked f (let n = c.loop-unit.invariant.kept.long in omega arith)

    marked : (k : ℕ) → (k < c.loop-unit.unit-index) ⊎ (c.loop-unit.unit-index ≤ k) → k < c.loop-unit.unit-index + 1 → Marked k
    marked k (inl m) l f w = c.in_ok-settle_unit.ensures.kept.kept (unit_at k) (c.loop-unit.invariant.marked k m f w)
    marked k (inr m) l f w = let e : c.loop-unit.unit-index ≡ k = omega arith in subst Marked e here f w

    -- the entries of a unit that is a queue are noted
    Noted : ℕ → Type 0
    Noted u = is_lsq (kind_of c.args.net.now u) ≡ true → get_or c.settle_unit.new.begun.items u 0 ≡ entries_at (state_of c.args.state.now) u

    noted_here : Noted (unit_at c.loop-unit.unit-index)
    noted_here q = c.in_ok-settle_unit.ensures.noted q

    entries : (u : ℕ) → is_lsq (kind_of c.args.net.now u) ≡ true → get_or c.loop-unit.begun.items u 0 ≡ entries_at (state_of c.args.state.now) u → get_or c.settle_unit.new.begun.items u 0 ≡ entries_at (state_of c.args.state.now) u
    entries u q h = by (cases_eq u (unit_at c.loop-unit.unit-index))
      where
        by : (u ≡ unit_at c.loop-unit.unit-index) ⊎ (u ≢ unit_at c.loop-unit.unit-index) → get_or c.settle_unit.new.begun.items u 0 ≡ entries_at (state_of c.args.state.now) u
        by (inl e) = subst Noted (sym e) noted_here q
        by (inr n) = c.in_ok-settle_unit.ensures.others u n ∙ h

    noted : (k : ℕ) → (k < c.loop-unit.unit-index) ⊎ (c.loop-unit.unit-index ≤ k) → k < c.loop-unit.unit-index + 1 → Noted (unit_at k)
    noted k (inl m) l q = entries (unit_at k) q (c.loop-unit.invariant.noted k m q)
    noted k (inr m) l q = let e : c.loop-unit.unit-index ≡ k = omega arith in subst (λ x. Noted (unit_at x)) e noted_here q
