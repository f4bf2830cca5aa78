-- Spans of units.
use Rattle.std.specs.Prelude.{ℕ, ◌<◌, ◌≤◌, List, length, get_or}
use Rattle.net_worker.specs.declared.spans.Span.{Span}

abbrev pub nowhere : Span
nowhere = record { first = 0; end = 0 }

abbrev pub IsWithin : ℕ → Span → Type 0
IsWithin u s = (s.first ≤ u) × (u < s.end)

-- each unit lies in the span of its owner
abbrev pub AreWithin : List ℕ → List Span → Type 0
AreWithin owners spans = (u : ℕ) → u < length owners → IsWithin u (get_or spans (get_or owners u 0) nowhere)
