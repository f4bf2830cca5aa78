-- The lines of a net's text, and which of those after the kernel's name may stand where.
use Rattle.std.specs.Prelude.{◌≡◌, ℕ, Bool, true, false, List, [], ◌∷◌, ◌++◌, map, codes}
use Rattle.std.specs.List.{flat_map}
use Rattle.net_types.specs.declared.net.Net.{Net}
use Rattle.net_text.specs.declared.body.BodyLine.{BodyLine}
use Rattle.net_text.specs.declared.body.BodyLine.TheVariants.{Scalar, Array, Result, Unit, Chan, End}
use Rattle.net_text.specs.declared.body.Stage.{Stage}
use Rattle.net_text.specs.declared.body.Stage.TheVariants.{Scalars, Arrays, Units, Chans, Ended}
use Rattle.net_text.specs.declared.version.Version.{Version}
use Rattle.net_text.specs.Fits.{ScalarFits, ArrayFits, WritesUnit, ChanFits, Always}
use Rattle.net_text.specs.Texts.{version_number}
use Rattle.net_text.specs.Reads.{lacks, version_text, kernel_text, scalar_text, array_text, result_text, unit_text, chan_text}

-- no line feed (10) stands in a line
abbrev pub Complete : List ℕ → Type 0
Complete l = lacks 10 l ≡ true

-- the text of lines: each with a line feed at its end
abbrev pub text_of : List (List ℕ) → List ℕ
text_of ls = flat_map (λ l. l ++ 10 ∷ []) ls

-- the first line of a version
abbrev pub first_text : Version → List ℕ
first_text v = version_text (version_number v)

-- the lines of a net after the kernel's name, and all its lines
abbrev pub body_texts : Version → Net → List (List ℕ)
body_texts v net = map scalar_text net.scalars ++ (map array_text net.arrays ++ (result_text net.result ∷ (map (unit_text v) net.units ++ (map chan_text net.chans ++ codes "end" ∷ []))))

abbrev pub texts : Version → Net → List (List ℕ)
texts v net = first_text v ∷ kernel_text net.name ∷ body_texts v net

-- one line after the kernel's name
abbrev pub LineFits : Version → BodyLine → Type 0
LineFits v (Scalar s) = ScalarFits s
LineFits v (Array a) = ArrayFits a
LineFits v (Result t) = Always t
LineFits v (Unit u) = WritesUnit v u
LineFits v (Chan c) = ChanFits c
LineFits v End = Always End

abbrev pub line_text : Version → BodyLine → List ℕ
line_text v (Scalar s) = scalar_text s
line_text v (Array a) = array_text a
line_text v (Result t) = result_text t
line_text v (Unit u) = unit_text v u
line_text v (Chan c) = chan_text c
line_text v End = codes "end"

-- before the first array, before the result, before the first channel, and after the result
abbrev pub before_arrays : Stage → Bool
before_arrays Scalars = true
before_arrays Arrays = false
before_arrays Units = false
before_arrays Chans = false
before_arrays Ended = false

abbrev pub before_result : Stage → Bool
before_result Scalars = true
before_result Arrays = true
before_result Units = false
before_result Chans = false
before_result Ended = false

abbrev pub before_chans : Stage → Bool
before_chans Scalars = false
before_chans Arrays = false
before_chans Units = true
before_chans Chans = false
before_chans Ended = false

abbrev pub after_result : Stage → Bool
after_result Scalars = false
after_result Arrays = false
after_result Units = true
after_result Chans = true
after_result Ended = false

-- which line may stand at a stage, and the stage after it
abbrev pub may_stand : BodyLine → Stage → Bool
may_stand (Scalar s) stage = before_arrays stage
may_stand (Array a) stage = before_result stage
may_stand (Result t) stage = before_result stage
may_stand (Unit u) stage = before_chans stage
may_stand (Chan c) stage = after_result stage
may_stand End stage = after_result stage

abbrev pub stage_after : BodyLine → Stage
stage_after (Scalar s) = Scalars
stage_after (Array a) = Arrays
stage_after (Result t) = Units
stage_after (Unit u) = Units
stage_after (Chan c) = Chans
stage_after End = Ended

-- a net with one line more
abbrev pub net_with : Net → BodyLine → Net
net_with net (Scalar s) = record net { scalars = net.scalars ++ s ∷ [] }
net_with net (Array a) = record net { arrays = net.arrays ++ a ∷ [] }
net_with net (Result t) = record net { result = t }
net_with net (Unit u) = record net { units = net.units ++ u ∷ [] }
net_with net (Chan c) = record net { chans = net.chans ++ c ∷ [] }
net_with net End = net
