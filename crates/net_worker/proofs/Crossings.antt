-- A planned firing of a unit with channels from or to other workers.
use Rattle.std.proofs.Common.{◌≡◌, ℕ, ◌<◌, max, true, Option, Some, List, ap, ◌∙◌, sym, subst, refl, get_or}
use Rattle.elastic_link.specs.declared.take_end.TakeEnd.{TakeEnd}
use Rattle.net_types.specs.declared.firing.Firing.{Firing}
use Rattle.net_types.specs.Nets.{kind_of, uses}
use Rattle.net_check.specs.Pins.{pins_of}
use Rattle.net_core.specs.declared.plan.Plan.{Plan}
use Rattle.net_core.specs.declared.plan.Moves.{Moves}
use Rattle.net_core.specs.declared.plan.Taken.{Taken}
use Rattle.net_core.specs.Fire.{Effect, effect, head_at, row, idle, at_array, setting}
use Rattle.net_core.specs.Held.{AllWithin}
use Rattle.net_core.specs.Plans.{apart, chans_of, effect_by, moves_of, places_of, laid_of}
use Rattle.net_core.specs.States.{IsPlanOf, state_of, own_at, array_at}
use Rattle.net_core.specs.Uses.{used, is_fork, places_used}
use Rattle.net_core.specs.private.Moves.{taken_chans}
use Rattle.net_core.proofs.GoesLemmas.{heads}
use Rattle.net_core.proofs.MoveLemmas.{distinct_of}
use Rattle.net_core.proofs.PlanUses.{plans_use}
use Rattle.net_core.proofs.StateLemmas.{plan_within}
use Rattle.net_worker.specs.Asking.{TakesAsked}
use Rattle.net_worker.specs.Firings.{AllDistinct, AreTaken, chans_into}
use Rattle.net_worker.specs.Going.{base_of}
use Rattle.net_worker.specs.Moved.{AllHoldOn, AllPayableOn, AreTakenOn, greatest_on, taken_or_seen}
use Rattle.net_worker.specs.Workers.{owner_in, IsMadeOf}
use Rattle.net_worker.specs.declared.tables.Tables.{Tables}
use Rattle.net_worker.specs.declared.worker.Worker.{Worker}
use Rattle.net_worker.proofs.Mays.{used_there}
use Rattle.net_worker.proofs.Moved.{moved_chans, used_moved, greatest_moved, hold_moved, payable_moved, taken_moved}
use Rattle.net_worker.proofs.Paying.{all_hold, all_payable, all_distinct}

module _ (t : Tables) (a : Worker) (m : IsMadeOf t a) (f : Firing) (mine : owner_in t f.unit ≡ a.number) (p : Plan) (v : Moves) (plan_is : IsPlanOf t.net.now a.portion.state f (Some p)) (moves : v ≡ moves_of t.net.now f.unit p) where
  abbrev pub effect_is : Effect
  effect_is = effect_by (kind_of t.net.now f.unit) (own_at a.portion.state f.unit) (array_at t.net.now a.portion.state f.unit) p

  pub does : effect t.net.now (state_of a.portion.state) f ≡ Some effect_is
  does = sym plan_is

  pub laid_is : v.laid ≡ laid_of t.net.now f.unit p.put
  laid_is = ap (λ (x : Moves). x.laid) moves

  taken_is : chans_of v.taken ≡ chans_into t.net.now f.unit (places_of p.takes)
  taken_is = ap (λ (x : Moves). chans_of x.taken) moves ∙ moved_chans t.net.now f.unit p.takes

  pub payable_taken : (n : ℕ) (es : List (Option TakeEnd)) → a.clock < n → TakesAsked a.takes.items es → AllPayableOn n es (chans_of v.taken)
  payable_taken n es later asked =
      subst (AllPayableOn n es) (sym taken_is)
      (payable_moved t.net.now es f.unit n (places_of p.takes)
      (all_payable t a m f.unit mine n es later asked (places_of p.takes) (heads t.net.now (state_of a.portion.state) f effect_is does)))

  pub distinct_taken : apart p.takes ≡ true → AllDistinct (chans_of v.taken)
  distinct_taken is_apart =
      subst AllDistinct (sym taken_is)
      (subst AllDistinct (by p.takes)
      (all_distinct (taken_chans t.net.now f.unit p.takes) (distinct_of t.net.now f.unit p.takes is_apart (subst (λ n. AllWithin n (taken_chans t.net.now f.unit p.takes)) m.of.long (plan_within t.net.now a.portion.state f p does)))))
    where
      by : (x : Rattle.net_core.specs.declared.plan.Takes.Takes) → taken_chans t.net.now f.unit x ≡ chans_into t.net.now f.unit (places_of x)
      by Rattle.net_core.specs.declared.plan.Takes.TheVariants.None = refl
      by (Rattle.net_core.specs.declared.plan.Takes.TheVariants.One x) = refl
      by (Rattle.net_core.specs.declared.plan.Takes.TheVariants.Two x y) = refl
      by (Rattle.net_core.specs.declared.plan.Takes.TheVariants.Three x y z) = refl

  pub taken_by : (n : ℕ) (es es' : List (Option TakeEnd)) → AreTakenOn n (chans_of v.taken) es es' → AreTaken t.net.now f.unit n (places_of p.takes) es es'
  taken_by n es es' h = taken_moved t.net.now es es' f.unit n p.takes (subst (λ (x : Moves). AreTakenOn n (chans_of x.taken) es es') moves h)

  module _ (r : Taken) (used_is : r ≡ taken_or_seen (is_fork (kind_of t.net.now f.unit)) (pins_of f.unit t.net.now.chans) v.taken) where
    uses_are : used t.net.now (state_of a.portion.state) f ≡ places_used (is_fork (kind_of t.net.now f.unit)) p.takes
    uses_are = plans_use t.net.now (state_of a.portion.state) f.unit f.act effect_is p.takes does refl

    chans_used : chans_of r ≡ chans_into t.net.now f.unit (used t.net.now (state_of a.portion.state) f)
    chans_used =
        ap chans_of (used_is ∙ ap (λ (x : Moves). taken_or_seen (is_fork (kind_of t.net.now f.unit)) (pins_of f.unit t.net.now.chans) x.taken) moves)
        ∙ (used_moved t.net.now f.unit (is_fork (kind_of t.net.now f.unit)) p.takes ∙ ap (chans_into t.net.now f.unit) (sym uses_are))

    pub held_used : AllHoldOn a.takes.items (chans_of r)
    held_used =
        subst (AllHoldOn a.takes.items) (sym chans_used)
        (hold_moved t.net.now a.takes.items f.unit (used t.net.now (state_of a.portion.state) f)
        (all_hold t a m f.unit mine (used t.net.now (state_of a.portion.state) f)
        (used_there (row (kind_of t.net.now f.unit) f.act (get_or (state_of a.portion.state).own f.unit idle) (at_array (state_of a.portion.state).arrays (uses (kind_of t.net.now f.unit))) (setting t.net.now (state_of a.portion.state))) (head_at t.net.now (state_of a.portion.state) f.unit) effect_is does)))

    pub base_used : max a.clock (greatest_on a.takes.items (chans_of r)) ≡ base_of t a f
    base_used = ap (λ cs. max a.clock (greatest_on a.takes.items cs)) chans_used ∙ ap (max a.clock) (greatest_moved t.net.now a.takes.items f.unit (used t.net.now (state_of a.portion.state) f))
