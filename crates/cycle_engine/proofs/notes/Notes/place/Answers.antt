use Rattle.std.proofs.Common.{◌≡◌, ◌∙◌, ◌-◌, ◌%◌, length, bit_and, ap, arith}
use Rattle.std.proofs.lemmas.Nat.{mod_below}
use Rattle.cycle_engine.specs.private.Marking.{cells_of}
use Rattle.cycle_engine.proofs.NoteLemmas.{masked, power_some}
use Rattle.cycle_engine.proofs.notes.Notes.place.Goals as goal

pub overflow_sub-result : goal.overflow_sub-result
overflow_sub-result c = let some = power_some (length (cells_of c.args.self.now)) c.requires in omega (arith, c.len.ensures.count, some)

pub returns-clause-place : goal.returns-clause-place
returns-clause-place c = ap (λ n. bit_and c.args.cycle (n - 1)) c.len.ensures.count ∙ masked c.args.cycle (length (cells_of c.args.self.now)) c.requires

pub returns-clause-within : goal.returns-clause-within
returns-clause-within c =
    let some = power_some (length (cells_of c.args.self.now)) c.requires in
    let k : bit_and c.args.cycle (c.len.result - 1) ≡ c.args.cycle % length (cells_of c.args.self.now) = ap (λ n. bit_and c.args.cycle (n - 1)) c.len.ensures.count ∙ masked c.args.cycle (length (cells_of c.args.self.now)) c.requires in
    let m = mod_below c.args.cycle (length (cells_of c.args.self.now)) some in
    omega (arith, k, m)

pub returns-clause-small : goal.returns-clause-small
returns-clause-small c =
    let some = power_some (length (cells_of c.args.self.now)) c.requires in
    let k : bit_and c.args.cycle (c.len.result - 1) ≡ c.args.cycle % length (cells_of c.args.self.now) = ap (λ n. bit_and c.args.cycle (n - 1)) c.len.ensures.count ∙ masked c.args.cycle (length (cells_of c.args.self.now)) c.requires in
    let m = mod_below c.args.cycle (length (cells_of c.args.self.now)) some in
    omega (arith, k, m, c.len.ensures.count, c.len.ensures.small)
