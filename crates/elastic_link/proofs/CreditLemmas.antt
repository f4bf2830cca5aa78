-- How the words on credit messages change when a message joins at the end.
use Rattle.std.proofs.Common.{◌≡◌, ℕ, ◌+◌, ◌≤◌, true, nat_le, List, [], ◌∷◌, ◌++◌, max, arith}
use Rattle.std.proofs.lemmas.Grind.{common_steps}
use Rattle.elastic_link.specs.declared.message.Credit.{Credit}
use Rattle.elastic_link.specs.Credits.{credits_in, newest_stamp, never_falls}

pub credits_in-snoc : (ms : List Credit) (m : Credit) → credits_in (ms ++ m ∷ []) ≡ credits_in ms + m.count
credits_in-snoc [] m = omega arith
credits_in-snoc (x ∷ ms) m = omega (arith, credits_in-snoc ms m)

pub newest_stamp-snoc : (ms : List Credit) (m : Credit) → newest_stamp (ms ++ m ∷ []) ≡ max (newest_stamp ms) m.stamp
newest_stamp-snoc [] m = omega arith
newest_stamp-snoc (x ∷ ms) m = omega (arith, newest_stamp-snoc ms m)

pub never_falls-snoc : (low : ℕ) (ms : List Credit) (m : Credit) (last : ℕ) → never_falls low ms m.stamp ≡ true → nat_le m.stamp last ≡ true → never_falls low (ms ++ m ∷ []) last ≡ true
never_falls-snoc low [] m last h k = grind (arith, common_steps)
never_falls-snoc low (x ∷ ms) m last h k = grind (arith, common_steps, never_falls-snoc x.stamp ms m last)

-- the last stamp may rise
pub never_falls-later : (low : ℕ) (ms : List Credit) (a b : ℕ) → never_falls low ms a ≡ true → a ≤ b → never_falls low ms b ≡ true
never_falls-later low [] a b h k = grind (arith, common_steps)
never_falls-later low (x ∷ ms) a b h k = grind (arith, common_steps, never_falls-later x.stamp ms a b)

pub ruleset credit_steps = (credits_in-snoc, newest_stamp-snoc, never_falls-snoc, never_falls-later)
