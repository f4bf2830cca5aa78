-- Turns of units that are no queues: what was marked, and what a turn of each kind begins and ends with.
use Rattle.std.proofs.Common.{◌≡◌, ℕ, ◌<◌, true, false, refl, sym, ap, ◌∙◌, arith}
use Rattle.net_types.specs.declared.net.Net.{Net}
use Rattle.net_types.specs.declared.net.Unit.{Unit as Kind}
use Rattle.net_types.specs.declared.net.Unit.TheVariants.{Fork, Cmerge, Lsq, Exit}
use Rattle.net_types.specs.declared.firing.Act.{Act}
use Rattle.net_types.specs.declared.firing.Act.TheVariants.{Go}
use Rattle.net_types.specs.Nets.{kind_of, firing}
use Rattle.net_types.specs.Order.{act_rank, act_number}
use Rattle.net_core.specs.Fire.{State}
use Rattle.net_core.specs.declared.plan.Moves.{Moves}
use Rattle.net_core.specs.Uses.{is_fork}
use Rattle.lsq_core.specs.Laws.{act_place}
use Rattle.cycle_engine.specs.declared.marks.Marks.{Marks}
use Rattle.cycle_engine.specs.private.Marking.{IsPutMarked, IsRoused, is_merge}
use Rattle.cycle_engine.specs.private.Places.{IsNextAct, first_of}
use Rattle.cycle_engine.specs.private.Used.{goes}
use Rattle.net_check.specs.Ends.{is_lsq}
use Rattle.cycle_engine.specs.private.Trials.{HadDepth}
use Rattle.cycle_engine.proofs.PlaceLemmas.{go_is}

-- ---- what was marked

-- after a firing of a unit that is no fork
pub roused_by : (net : Net) (s t : State) (u : ℕ) (m : Moves) (n : ℕ) (marks : Marks) → is_fork (kind_of net u) ≡ false → IsPutMarked net t m.laid n marks → IsRoused net s t u m n marks
roused_by net s t u m n marks k target = record { own = λ z. (let q : true ≡ false = sym z ∙ k in cc); merges = λ z. (let q : true ≡ false = sym z ∙ k in cc); target = target }

-- ---- the act of a unit that has one

pub go_depth : (k : Kind) (n : ℕ) → HadDepth k n Go
go_depth Exit n = tt
go_depth _ n = tt

pub go_next : (net : Net) (s : State) (u : ℕ) → IsNextAct net s (firing u Go) 0 0
go_next net s u = record { rank = refl; number = refl; exec = λ z. cc; oldest = tt }

-- acts of its rank have its number
pub go_below : (a : Act) → act_rank a ≡ 0 → act_number (act_place a) < 1
go_below a r = let z : act_number (act_place a) ≡ 0 = ap act_number (go_is a r) in omega arith

-- a unit that has it is no queue and no fork, and has no other
pub goes_plain : (k : Kind) → goes k ≡ true → (is_lsq k ≡ false) × (is_fork k ≡ false) × (first_of k ≡ Go)
goes_plain (Fork w outs) e = cc
goes_plain (Cmerge ins) e = cc
goes_plain (Lsq a d ps gs f) e = cc
goes_plain _ e = (refl, refl, refl)

-- a control merge is no fork
pub merge_plain : (k : Kind) → is_merge k ≡ true → is_fork k ≡ false
merge_plain (Fork w outs) e = cc
merge_plain _ e = refl
