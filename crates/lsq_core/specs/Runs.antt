-- Lists of acts, each with the token that it takes.
use Rattle.std.specs.Prelude.{◌≡◌, ℕ, ◌+◌, ◌<◌, ◌≤◌, ◌&&◌, length, get_or, take, Bool, true, false, Option, Some, None, List, [], ◌∷◌}
use Rattle.net_types.specs.declared.firing.Act.{Act}
use Rattle.net_types.specs.declared.firing.Act.TheVariants.{Go}
use Rattle.lsq_core.specs.Views.{QueueView, allows, given, acted}

-- each act is allowed after those before it
abbrev pub all_allowed : QueueView → List (Act × ℕ) → Bool
all_allowed q [] = true
all_allowed q (a ∷ acts) = allows q a.0 && all_allowed (acted q a.0 a.1) acts

-- the queue after the acts
abbrev pub after_acts : QueueView → List (Act × ℕ) → QueueView
after_acts q [] = q
after_acts q (a ∷ acts) = after_acts (acted q a.0 a.1) acts

abbrev pub put_before : Option ℕ → List ℕ → List ℕ
put_before None puts = puts
put_before (Some v) puts = v ∷ puts

-- the act of a number in a list
abbrev pub act_at : List (Act × ℕ) → ℕ → Act × ℕ
act_at acts i = get_or acts i (Go, 0)

abbrev pub put_list : Option ℕ → List ℕ
put_list None = []
put_list (Some v) = v ∷ []

-- the values that the acts put, in order
abbrev pub puts_of : QueueView → List (Act × ℕ) → List ℕ
puts_of q [] = []
puts_of q (a ∷ acts) = put_before (given q a.0 a.1).put (puts_of (acted q a.0 a.1) acts)

-- the first n of the acts are allowed, one after another, and no more
pub record IsLongest (q : QueueView) (acts : List (Act × ℕ)) (n : ℕ) : Type 0 where
  pub within : n ≤ length acts
  pub allowed : all_allowed q (take n acts) ≡ true
  pub refused : n < length acts → allows (after_acts q (take n acts)) (act_at acts n).0 ≡ false

-- how many of their addresses lay past the array
abbrev pub strays_of : QueueView → List (Act × ℕ) → ℕ
strays_of q [] = 0
strays_of q (a ∷ acts) = (given q a.0 a.1).strays + strays_of (acted q a.0 a.1) acts

-- the queue with the mark
abbrev pub marked : QueueView → QueueView
marked q = record q { queue = record q.queue { forward = true } }
