use Rattle.std.proofs.Common.{◌≡◌, ℕ, ◌+◌, ◌-◌, ◌<◌, ◌≤◌, [], length, subst, arith}
use Rattle.cycle_engine.specs.private.Marking.{around, cell, cells_of}
use Rattle.cycle_engine.proofs.NoteLemmas.{none_ahead, none_before, none_noted, round_empty}
use Rattle.cycle_engine.proofs.notes.Notes.next.Goals as goal

pub returns-then-after-count : goal.returns-then-after-count
returns-then-after-count c =
    let n = c.args.self.now in
    let P : ℕ → Type 0 = λ f. (k : ℕ) → f ≤ k → k < c.next-after.result → cell n k ≡ [] in (
      omega (arith, c.saturating_add.ensures),
      λ k l m. none_ahead n c.args.now c.next-after.result (let w = c.if-after-count.true in omega (arith, w, c.len-count.ensures.count))
          (subst P c.place-first.ensures.place c.next-after.ensures.before) k l (let s = c.saturating_add.ensures in let p = c.place-first.ensures.place in omega (arith, m, s, p)),
    )

pub returns-then-before-first : goal.returns-then-before-first
returns-then-before-first c =
    let n = c.args.self.now in
    let first = c.place-first.result in
    let P : ℕ → Type 0 = λ t. (k : ℕ) → first ≤ k → k < t → cell n k ≡ [] in
    let Q : ℕ → Type 0 = λ f. (a : ℕ) → a < length (cells_of n) - first + c.next-before.result → cell n (around f a (length (cells_of n))) ≡ [] in
    let w = c.place-first.ensures.within in
    let e : c.next-after.result ≡ length (cells_of n) = (let m = c.next-after.ensures.at_most in let f = c.if-after-count.false in omega (arith, m, f, c.len-count.ensures.count)) in
    let empty = subst Q c.place-first.ensures.place (λ a l. round_empty n first c.next-before.result a w (subst P e c.next-after.ensures.before) c.next-before.ensures.before l) in
    let b = c.next-before.ensures.at_most in (
      omega (arith, c.saturating_add-then-before-first.ensures),
      λ k l m. none_before n c.args.now (length (cells_of n) - first + c.next-before.result) (omega (arith, b, w)) empty k l (let s = c.saturating_add-then-before-first.ensures in omega (arith, m, s, c.len-count.ensures.count)),
    )

pub returns : goal.returns
returns c =
    let n = c.args.self.now in
    let first = c.place-first.result in
    let P : ℕ → Type 0 = λ t. (k : ℕ) → first ≤ k → k < t → cell n k ≡ [] in
    let w = c.place-first.ensures.within in
    let e : c.next-after.result ≡ length (cells_of n) = (let m = c.next-after.ensures.at_most in let f = c.if-after-count.false in omega (arith, m, f, c.len-count.ensures.count)) in
    let g = c.if-before-first.false in
    none_noted n first w (λ a l. round_empty n first c.next-before.result a w (subst P e c.next-after.ensures.before) c.next-before.ensures.before (omega (arith, l, g)))
