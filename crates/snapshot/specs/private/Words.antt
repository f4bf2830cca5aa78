-- Private: only contracts of this crate cite it. The words of each kind of line, and what may stand in it.
use Rattle.std.specs.Prelude.{◌≡◌, ◌≢◌, ℕ, zero, suc, ◌+◌, ◌<◌, ◌≤◌, ◌^◌, ◌==◌, Bool, true, false, cond, ◌&&◌, is_some, Option, Some, None, IfSome, List, [], ◌∷◌, map, length, get_or, codes, decimal}
use Rattle.std.specs.List.{All, slice_split}
use Rattle.el_base.specs.declared.ty.Array.{Array}
use Rattle.el_base.specs.declared.ty.Scalar.{Scalar}
use Rattle.el_base.specs.declared.ty.Ty.{Ty}
use Rattle.el_base.specs.Limits.{max_firings}
use Rattle.net_types.specs.declared.net.Chan.{Chan}
use Rattle.net_types.specs.declared.net.Port.{Port}
use Rattle.net_types.specs.declared.net.Unit.{Unit as Kind}
use Rattle.net_types.specs.declared.net.Net.{Net}
use Rattle.net_types.specs.declared.net.Port.TheVariants.{Load}
use Rattle.net_types.specs.declared.net.Unit.TheVariants.{Entry as Start, Param, Const, Op1, Op2, Select, Fork, Mux, Cmerge, Branch, Sink, Read, Lsq, Exit}
use Rattle.net_types.specs.Inputs.{IsPatternOf, AreElementsOf}
use Rattle.net_types.specs.Nets.{nowhere}
use Rattle.net_types.specs.Tables.{array_width}
use Rattle.net_check.specs.Ends.{is_lsq}
use Rattle.net_check.specs.Headers.{is_exit}
use Rattle.lsq_core.specs.Acts.{fresh_entry, is_store}
use Rattle.lsq_core.specs.Laws.{sound}
use Rattle.net_core.specs.Parts.{Rising, SentFits, fires_once, noted_outs}
use Rattle.lsq_core.specs.declared.entry.Entry.{Entry}
use Rattle.inputs_text.specs.Results.{written}
use Rattle.snapshot.specs.Fits.{EntryFits, max_count}
use Rattle.snapshot.specs.Texts.{words, maybe, digit}

-- the words of a line are those between its spaces (32)
abbrev pub AreWords : List (List ℕ) → Type 0
AreWords ws = ws ≡ slice_split (λ b. b == 32) (words ws)

abbrev pub first_words : List (List ℕ)
first_words = codes "elastic" ∷ codes "state" ∷ codes "1" ∷ []

abbrev pub end_words : List (List ℕ)
end_words = codes "end" ∷ []

-- a word and one number
abbrev pub number_words : List ℕ → ℕ → List (List ℕ)
number_words word n = word ∷ decimal n ∷ []

-- a word, a number and a list of numbers
abbrev pub list_words : List ℕ → ℕ × List ℕ → List (List ℕ)
list_words word p = word ∷ decimal p.0 ∷ map decimal p.1

abbrev pub scalar_words : Scalar → ℕ → List (List ℕ)
scalar_words s v = codes "scalar" ∷ s.name ∷ codes "=" ∷ written s.ty v ∷ []

abbrev pub queue_words : ℕ → ℕ → List (List ℕ)
queue_words u next = codes "queue" ∷ decimal u ∷ decimal next ∷ []

abbrev pub entry_fields : Entry → List (List ℕ)
entry_fields x = decimal x.serial ∷ decimal x.port ∷ maybe x.addr ∷ maybe x.datum ∷ digit x.done ∷ decimal x.value ∷ digit x.replied ∷ []

abbrev pub array_words : Array → List ℕ → List (List ℕ)
array_words a vs = codes "array" ∷ a.name ∷ codes "=" ∷ map (written a.ty) vs

abbrev pub stray_words : Array → ℕ → List (List ℕ)
stray_words a n = codes "stray" ∷ a.name ∷ decimal n ∷ []

abbrev pub IsBelow : ℕ → ℕ → Type 0
IsBelow bound n = n < bound

abbrev pub MadeFits : ℕ → Type 0
MadeFits n = n ≤ max_firings

abbrev pub CountFits : ℕ → Type 0
CountFits n = n ≤ max_count

-- a pattern of so many bits
abbrev pub PatternFits : ℕ → ℕ → Type 0
PatternFits width v = v < 2 ^ width

abbrev pub ValueIsOf : Option Ty → ℕ → Type 0
ValueIsOf None v = ⊥
ValueIsOf (Some ty) v = IsPatternOf ty v

-- a unit, from a number on, that fires once
pub record FiredFits (units : List Kind) (start u : ℕ) : Type 0 where
  pub from : start ≤ u
  pub within : u < length units
  pub once : fires_once (get_or units u (Sink 0)) ≡ true

-- tokens of a channel, from a number on: some, no more than its slots, and of its width
pub record ChanFits (chans : List Chan) (start : ℕ) (p : ℕ × List ℕ) : Type 0 where
  pub from : start ≤ p.0
  pub within : p.0 < length chans
  pub some : p.1 ≢ []
  pub slots : length p.1 ≤ (get_or chans p.0 nowhere).slots
  pub patterns : All (PatternFits (get_or chans p.0 nowhere).width) p.1

-- outputs of a fork, from a number on: some, not all, rising
pub record ForkFits (units : List Kind) (start : ℕ) (p : ℕ × List ℕ) : Type 0 where
  pub from : start ≤ p.0
  pub within : p.0 < length units
  pub some : p.1 ≢ []
  pub sent : SentFits (noted_outs (get_or units p.0 (Sink 0))) p.1

-- numbers below a bound that rise
pub record RisingFits (bound : ℕ) (js : List ℕ) : Type 0 where
  pub rising : Rising js
  pub within : All (IsBelow bound) js

-- the fields of an entry go together: data at stores alone, and so on
pub record GoesTogether (x : Entry) : Type 0 where
  pub at_store : x.store ≡ false → x.datum ≡ None
  pub executed : sound x ≡ true
  pub of_store : x.store ≡ true → x.value ≡ 0
  pub of_waiting : x.done ≡ false → x.value ≡ 0
  pub replied : x.replied ≡ true → (x.store ≡ false) × (x.done ≡ true)

-- an entry of a queue of these ports, whose elements have this width
pub record EntryIsOf (width : ℕ) (ports : List Port) (x : Entry) : Type 0 where
  pub fits : EntryFits width ports x
  pub serial : x.serial < 2 ^ 64
  pub port : x.port < length ports

abbrev pub entry_words : Entry → List (List ℕ)
entry_words x = codes "entry" ∷ entry_fields x

-- an entry of a unit that is a queue, its depth, and whether its first port stores
abbrev pub EntryOf : Net → Kind → Entry → Type 0
EntryOf net Start x = ⊥
EntryOf net (Param j) x = ⊥
EntryOf net (Const w n) x = ⊥
EntryOf net (Op1 op) x = ⊥
EntryOf net (Op2 op) x = ⊥
EntryOf net (Select w) x = ⊥
EntryOf net (Fork w outs) x = ⊥
EntryOf net (Mux w ins) x = ⊥
EntryOf net (Cmerge ins) x = ⊥
EntryOf net (Branch w) x = ⊥
EntryOf net (Sink w) x = ⊥
EntryOf net (Read a) x = ⊥
EntryOf net (Lsq a d ps gs f) x = EntryIsOf (array_width net.arrays a) ps x
EntryOf net Exit x = ⊥

abbrev pub depth_of : Kind → ℕ
depth_of Start = 0
depth_of (Param j) = 0
depth_of (Const w n) = 0
depth_of (Op1 op) = 0
depth_of (Op2 op) = 0
depth_of (Select w) = 0
depth_of (Fork w outs) = 0
depth_of (Mux w ins) = 0
depth_of (Cmerge ins) = 0
depth_of (Branch w) = 0
depth_of (Sink w) = 0
depth_of (Read a) = 0
depth_of (Lsq a d ps gs f) = d
depth_of Exit = 0

abbrev pub first_stores : Kind → Bool
first_stores Start = false
first_stores (Param j) = false
first_stores (Const w n) = false
first_stores (Op1 op) = false
first_stores (Op2 op) = false
first_stores (Select w) = false
first_stores (Fork w outs) = false
first_stores (Mux w ins) = false
first_stores (Cmerge ins) = false
first_stores (Branch w) = false
first_stores (Sink w) = false
first_stores (Read a) = false
first_stores (Lsq a d ps gs f) = is_store (get_or ps 0 Load)
first_stores Exit = false

-- so many new entries of the first port, from a serial number on
abbrev pub fresh_run : ℕ → ℕ → Bool → List Entry
fresh_run n zero store = []
fresh_run n (suc m) store = fresh_entry n 0 store ∷ fresh_run (suc n) m store

-- the first queue of units, from one on; their number where there is none
pub record IsFirstQueue (units : List Kind) (start u : ℕ) : Type 0 where
  pub from : start ≤ u
  pub within : u ≤ length units
  pub here : u < length units → is_lsq (get_or units u (Sink 0)) ≡ true
  pub none : (j : ℕ) → start ≤ j → j < u → is_lsq (get_or units j (Sink 0)) ≡ false

-- the result after a unit has fired: 0 where it is the exit and there is a result
abbrev pub value_after : Option Ty → Kind → Option ℕ → Option ℕ
value_after ty k v = cond (is_exit k && is_some ty) (Some 0) v
