-- The kind of an act and its number.
use Rattle.std.specs.Prelude.{ℕ, Bool, true, false, List, [], ◌∷◌}
use Rattle.net_types.specs.declared.firing.Act.{Act}
use Rattle.net_types.specs.declared.firing.Act.TheVariants as acts
use Rattle.firing_log.specs.declared.family.Family.{Family}
use Rattle.firing_log.specs.declared.family.Family.TheVariants as families

-- the kind of an act
abbrev pub family_of : Act → Family
family_of acts.Go = families.Go
family_of (acts.From n) = families.From
family_of (acts.Send n) = families.Send
family_of (acts.Alloc n) = families.Alloc
family_of (acts.Addr n) = families.Addr
family_of (acts.Data n) = families.Data
family_of (acts.Exec n) = families.Exec
family_of (acts.Reply n) = families.Reply
family_of acts.Retire = families.Retire
family_of acts.End = families.End

-- the number below 2^32 that an act has
abbrev pub numbers_of : Act → List ℕ
numbers_of acts.Go = []
numbers_of (acts.From n) = n ∷ []
numbers_of (acts.Send n) = n ∷ []
numbers_of (acts.Alloc n) = n ∷ []
numbers_of (acts.Addr n) = n ∷ []
numbers_of (acts.Data n) = n ∷ []
numbers_of (acts.Exec n) = []
numbers_of (acts.Reply n) = n ∷ []
numbers_of acts.Retire = []
numbers_of acts.End = []

-- the serial number that an act has
abbrev pub serials_of : Act → List ℕ
serials_of acts.Go = []
serials_of (acts.From n) = []
serials_of (acts.Send n) = []
serials_of (acts.Alloc n) = []
serials_of (acts.Addr n) = []
serials_of (acts.Data n) = []
serials_of (acts.Exec n) = n ∷ []
serials_of (acts.Reply n) = []
serials_of acts.Retire = []
serials_of acts.End = []

-- acts of the kind have a number below 2^32
abbrev pub has_number : Family → Bool
has_number families.Go = false
has_number families.From = true
has_number families.Send = true
has_number families.Alloc = true
has_number families.Addr = true
has_number families.Data = true
has_number families.Exec = false
has_number families.Reply = true
has_number families.Retire = false
has_number families.End = false

-- acts of the kind have a serial number
abbrev pub has_serial : Family → Bool
has_serial families.Go = false
has_serial families.From = false
has_serial families.Send = false
has_serial families.Alloc = false
has_serial families.Addr = false
has_serial families.Data = false
has_serial families.Exec = true
has_serial families.Reply = false
has_serial families.Retire = false
has_serial families.End = false

-- the act of the kind with the one of the two numbers that such acts have
abbrev pub act_of : Family → ℕ → ℕ → Act
act_of families.Go n s = acts.Go
act_of families.From n s = acts.From n
act_of families.Send n s = acts.Send n
act_of families.Alloc n s = acts.Alloc n
act_of families.Addr n s = acts.Addr n
act_of families.Data n s = acts.Data n
act_of families.Exec n s = acts.Exec s
act_of families.Reply n s = acts.Reply n
act_of families.Retire n s = acts.Retire
act_of families.End n s = acts.End
