-- A net under construction, and what is laid for the uses of a value and of the control token. Each channel has one slot and delay 1.
use Rattle.std.specs.Prelude.{ℕ, zero, suc, ◌+◌, ◌-◌, ◌^◌, min, List, [], ◌∷◌, ◌++◌, length, set, get_or, slice_get, Bool, true, false, Option, Some, None}
use Rattle.net_types.specs.declared.net.Place.{Place}
use Rattle.net_types.specs.declared.net.Unit.{Unit as Kind}
use Rattle.net_types.specs.declared.net.Unit.TheVariants.{Fork, Sink}
use Rattle.net_types.specs.Nets.{at}
use Rattle.circuit_build.specs.declared.draft.Draft.{Draft}
use Rattle.circuit_build.specs.declared.draft.End.{End}

-- a number of 32 bits; past them the greatest
abbrev pub number : ℕ → ℕ
number n = min n (2 ^ 32 - 1)

-- a sum of 32 bits; past them the greatest number
abbrev pub plus : ℕ → ℕ → ℕ
plus a b = number (a + b)

-- the number of the next unit
abbrev pub next : Draft → ℕ
next d = number (length d.units)

-- what stands for a value that no end carries
abbrev pub no_end : End
no_end = record { place = at 0 0; width = 0 }

abbrev pub end_or : Option (Option End) → End
end_or None = no_end
end_or (Some None) = no_end
end_or (Some (Some e)) = e

abbrev pub end_of : List (Option End) → ℕ → End
end_of es v = end_or (slice_get es v)

-- ---- one part more

abbrev pub with_unit : Kind → Draft → Draft
with_unit k d = record d { units = d.units ++ k ∷ [] }

abbrev pub with_chan : Place → Place → ℕ → Bool → Draft → Draft
with_chan from to width ctl d = record d { chans = d.chans ++ record { from = from; to = to; width = width; slots = 1; delay = 1; ctl = ctl } ∷ [] }

abbrev pub with_control : Place → Draft → Draft
with_control p d = record d { control = p }

-- the channel of an end to an input of a unit
abbrev pub fed : End → ℕ → ℕ → Draft → Draft
fed e u p d = with_chan e.place (at u p) e.width false d

abbrev pub sunk : End → Draft → Draft
sunk e d = fed e (next d) 0 (with_unit (Sink e.width) d)

-- ---- values: the end of one with n uses is its place, where n is 1, a fork with n outputs, where n is more, and nothing, where it is 0

abbrev pub spread : End → ℕ → Draft → Draft
spread e zero d = sunk e d
spread e (suc zero) d = d
spread e (suc (suc n)) d = fed e (next d) 0 (with_unit (Fork e.width (suc (suc n))) d)

abbrev pub spread_end : End → ℕ → Draft → Option End
spread_end e zero d = None
spread_end e (suc zero) d = Some e
spread_end e (suc (suc n)) d = Some (record { place = at (next d) 0; width = e.width })

-- how many uses the next value has
abbrev pub uses_of_next : Draft → ℕ
uses_of_next d = get_or d.uses (length d.ends) 0

-- the next value stands at a place
abbrev pub defined : Place → ℕ → Draft → Draft
defined p w d =
    let e : End = record { place = p; width = w } in
    let n = uses_of_next d in
    let f = spread e n d in
    record f { ends = f.ends ++ spread_end e n d ∷ [] }

-- the next step has no value, or none that is used
abbrev pub undefined : Draft → Draft
undefined d = record d { ends = d.ends ++ None ∷ [] }

-- a use of a value takes its end, which is the next output of its fork from then on
abbrev pub after_place : Place → Place
after_place p = at p.unit (plus p.place 1)

abbrev pub used : ℕ → List (Option End) → List (Option End)
used v es = let e = end_of es v in set es v (Some (record { place = after_place e.place; width = e.width }))

abbrev pub copied : ℕ → Draft → Draft
copied v d = record d { ends = used v d.ends }

abbrev pub copy_of : ℕ → Draft → End
copy_of v d = end_of d.ends v

-- ---- the control token

-- it passes a fork with so many outputs, and goes on at its output 0
abbrev pub forked : ℕ → Draft → Draft
forked n d = with_control (at (next d) 0) (with_chan d.control (at (next d) 0) 32 true (with_unit (Fork 32 n) d))

-- a fork with one output passes the control token on
abbrev pub buffered : Draft → Draft
buffered d = forked 1 d

-- with n copies that are no control, where n is not 0
abbrev pub control_forked : ℕ → Draft → Draft
control_forked zero d = d
control_forked (suc n) d = record (forked (plus (suc n) 1) d) { trigger = at (next d) 1 }

abbrev pub triggered : Draft → Draft
triggered d = record d { trigger = after_place d.trigger }

abbrev pub trigger_of : Draft → End
trigger_of d = record { place = d.trigger; width = 32 }
