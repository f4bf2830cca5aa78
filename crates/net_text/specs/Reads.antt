-- What a reader answers for a text: the one value that has it, or none where no value has it.
use Rattle.std.specs.Prelude.{◌≡◌, ℕ, ◌==◌, ◌&&◌, not, nat_lt, Bool, List, [], ◌∷◌, ◌++◌, length, drop, slice_index, codes, decimal, Option, Some, IfSome, MatchOption}
use Rattle.std.specs.List.{join_with_byte, list_all}
use Rattle.el_base.specs.declared.ty.Ty.{Ty}
use Rattle.el_base.specs.declared.ty.Array.{Array}
use Rattle.el_base.specs.declared.ty.Scalar.{Scalar}
use Rattle.net_types.specs.declared.net.Chan.{Chan}
use Rattle.net_types.specs.declared.net.Unit.{Unit as Kind}
use Rattle.net_types.specs.declared.net.Unit.TheVariants.{Entry, Param, Const, Op1, Op2, Select, Fork, Mux, Cmerge, Branch, Sink, Read, Lsq, Exit}
use Rattle.net_text.specs.declared.version.Version.{Version}
use Rattle.el_base.specs.Limits.{IsNumbered}
use Rattle.net_text.specs.Fits.{FitsU64, GroupsFit, MarkFits, UnitFits}
use Rattle.net_text.specs.Pieces.{groups_text, mark_parts, control_parts}
use Rattle.net_text.specs.Texts.{kernel_parts, scalar_parts, array_parts, result_parts, unit_parts, chan_parts}

-- the answer has the text
abbrev pub Named : {V T : Type 0} → (V → Type 0) → (V → T) → T → Option V → Type 0
Named Fits text t o = IfSome o (λ v. Fits v × (text v ≡ t))

-- each value that has the text is the answer
abbrev pub Every : {V T : Type 0} → (V → Type 0) → (V → T) → T → Option V → Type 0
Every {V} Fits text t o = (v : V) → Fits v → text v ≡ t → o ≡ Some v

-- bytes begin with no plus, and with no zero that others follow
abbrev pub starts_plain : List ℕ → Bool
starts_plain bs = not (slice_index bs 0 == 43) && not (slice_index bs 0 == 48 && nat_lt 1 (length bs))

-- the answer is a value that has the text, or no value has it
abbrev pub Reads : {V T : Type 0} → (V → Type 0) → (V → T) → T → Option V → Type 0
Reads {V} Fits text t o = MatchOption o ((v : V) → Fits v → text v ≡ t → ⊥) (λ v. Fits v × (text v ≡ t))

-- no byte of a list is c
abbrev pub lacks : ℕ → List ℕ → Bool
lacks c bs = list_all (λ b. not (b == c)) bs

-- two numbers with a separator between them
abbrev pub PairFits : ℕ × ℕ → Type 0
PairFits p = IsNumbered p.0 × IsNumbered p.1

abbrev pub pair_text : ℕ → ℕ × ℕ → List ℕ
pair_text c p = decimal p.0 ++ c ∷ decimal p.1

-- a unit's line without its line feed, and that without the word `unit`
abbrev pub unit_text : Version → Kind → List ℕ
unit_text v u = join_with_byte 32 (unit_parts v u)

abbrev pub kind_text : Version → Kind → List ℕ
kind_text v u = drop 5 (unit_text v u)

-- the groups and the mark at the end of a queue's line
abbrev pub QueueEndFits : Version → List (List ℕ) × Bool → Type 0
QueueEndFits v p = GroupsFit p.0 × MarkFits v p.1

abbrev pub queue_end : Version → List (List ℕ) × Bool → List ℕ
queue_end v p = join_with_byte 32 (groups_text p.0 ∷ mark_parts v p.1)

-- a unit that is no queue
abbrev pub PlainFits : Kind → Type 0
PlainFits Entry = UnitFits Entry
PlainFits (Param j) = UnitFits (Param j)
PlainFits (Const w n) = UnitFits (Const w n)
PlainFits (Op1 op) = UnitFits (Op1 op)
PlainFits (Op2 op) = UnitFits (Op2 op)
PlainFits (Select w) = UnitFits (Select w)
PlainFits (Fork w n) = UnitFits (Fork w n)
PlainFits (Mux w n) = UnitFits (Mux w n)
PlainFits (Cmerge n) = UnitFits (Cmerge n)
PlainFits (Branch w) = UnitFits (Branch w)
PlainFits (Sink w) = UnitFits (Sink w)
PlainFits (Read a) = UnitFits (Read a)
PlainFits (Lsq a d ps gs f) = ⊥
PlainFits Exit = UnitFits Exit

-- a width and a value with a space between them
abbrev pub ConstFits : ℕ × ℕ → Type 0
ConstFits p = IsNumbered p.0 × FitsU64 p.1

-- each kind of line without its line feed
abbrev pub version_text : ℕ → List ℕ
version_text n = join_with_byte 32 (codes "elastic" ∷ decimal n ∷ [])

abbrev pub kernel_text : List ℕ → List ℕ
kernel_text name = join_with_byte 32 (kernel_parts name)

abbrev pub scalar_text : Scalar → List ℕ
scalar_text s = join_with_byte 32 (scalar_parts s)

abbrev pub array_text : Array → List ℕ
array_text a = join_with_byte 32 (array_parts a)

abbrev pub result_text : Option Ty → List ℕ
result_text t = join_with_byte 32 (result_parts t)

abbrev pub chan_text : Chan → List ℕ
chan_text c = join_with_byte 32 (chan_parts c)

-- the delay of a channel, and whether it is control
abbrev pub DelayFits : ℕ × Bool → Type 0
DelayFits p = IsNumbered p.0

abbrev pub delay_text : ℕ × Bool → List ℕ
delay_text p = join_with_byte 32 (decimal p.0 ∷ control_parts p.1)
