use Rattle.std.proofs.Common.{◌≡◌, ◌<◌, ◌≤◌, ◌⊎◌, ◌^◌, ℕ, inl, inr, pow_mono, arith}
use Rattle.std.proofs.lemmas.Bool.{cases_lt}
use Rattle.cycle_engine.proofs.notes.Notes.new.Goals as goal

pub new-requires : goal.new-requires
new-requires c = by (cases_lt 32 k)
  where
    k : ℕ
    k = c.next_power_of_two-count.ensures.power.0

    is : c.next_power_of_two-count.result ≡ 2 ^ k
    is = c.next_power_of_two-count.ensures.power.1

    by : (32 < k) ⊎ (k ≤ 32) → c.next_power_of_two-count.result ≤ 4294967296
    by (inl l) =
        let more : 2 ^ 33 ≤ 2 ^ k = pow_mono l in
        absurd (omega (arith, is, more, c.next_power_of_two-count.ensures.upper_bound, c.greatest_delay.ensures.small))
    by (inr l) = let less : 2 ^ k ≤ 2 ^ 32 = pow_mono l in omega (arith, is, less)
