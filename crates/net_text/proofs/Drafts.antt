-- The net of the lines that were read so far.
use Rattle.std.proofs.Common.{◌≡◌, ℕ, true, List, [], ◌∷◌, ◌++◌, map, codes, refl, sym, ap, ◌∙◌, append_assoc}
use Rattle.std.specs.List.{All}
use Rattle.std.proofs.lemmas.Bool.{false≢true}
use Rattle.std.proofs.lemmas.List.{append-nil, map-append}
use Rattle.std.proofs.lemmas.List.Elements.{All-append}
use Rattle.net_types.specs.declared.net.Net.{Net}
use Rattle.net_text.specs.declared.body.BodyLine.{BodyLine}
use Rattle.net_text.specs.declared.body.BodyLine.TheVariants.{Scalar, Array, Result, Unit as UnitLine, Chan, End}
use Rattle.net_text.specs.declared.body.Stage.{Stage}
use Rattle.net_text.specs.declared.body.Stage.TheVariants.{Scalars, Arrays, Units, Chans, Ended}
use Rattle.net_text.specs.Fits.{NetFits, ScalarFits, ArrayFits, UnitFits, ChanFits, IsWritten, Writes}
use Rattle.net_text.specs.Reads.{scalar_text, array_text, result_text, unit_text, chan_text}
use Rattle.net_text.specs.Bodies.{LineFits, line_text, may_stand, stage_after, net_with, body_texts}
use Rattle.net_text.proofs.Lists.{All_single}
use Rattle.net_text.specs.declared.version.Version.{Version}

-- the lines of a net up to its arrays, up to its units, and up to its channels
abbrev pub to_arrays : Net → List (List ℕ)
to_arrays net = map scalar_text net.scalars ++ map array_text net.arrays

abbrev pub to_units : (ver : Version) → Net → List (List ℕ)
to_units ver net = to_arrays net ++ result_text net.result ∷ map (unit_text ver) net.units

abbrev pub to_chans : (ver : Version) → Net → List (List ℕ)
to_chans ver net = to_units ver net ++ map chan_text net.chans

-- at a stage the net so far has the lines so far and no others of its own
abbrev pub Holds : (ver : Version) → Stage → Net → List (List ℕ) → Type 0
Holds ver Scalars net ls = (ls ≡ map scalar_text net.scalars) × (net.arrays ≡ []) × (net.units ≡ []) × (net.chans ≡ [])
Holds ver Arrays net ls = (ls ≡ to_arrays net) × (net.units ≡ []) × (net.chans ≡ [])
Holds ver Units net ls = (ls ≡ to_units ver net) × (net.chans ≡ [])
Holds ver Chans net ls = ls ≡ to_chans ver net
Holds ver Ended net ls = ls ≡ to_chans ver net ++ codes "end" ∷ []

pub body_whole : (ver : Version) (net : Net) → to_chans ver net ++ codes "end" ∷ [] ≡ body_texts ver net
body_whole ver net = simp append_assoc refl

-- the net so far is one that the lines so far begin
pub holds_more : (ver : Version) (s : Stage) (net : Net) (ls : List (List ℕ)) → Holds ver s net ls → (more : List (List ℕ)) × (body_texts ver net ≡ ls ++ more)
holds_more ver Scalars net ls h = (map array_text net.arrays ++ (result_text net.result ∷ (map (unit_text ver) net.units ++ (map chan_text net.chans ++ codes "end" ∷ []))), ap (λ l. l ++ (map array_text net.arrays ++ (result_text net.result ∷ (map (unit_text ver) net.units ++ (map chan_text net.chans ++ codes "end" ∷ []))))) (sym h.0))
holds_more ver Arrays net ls h = (result_text net.result ∷ (map (unit_text ver) net.units ++ (map chan_text net.chans ++ codes "end" ∷ [])), sym (append_assoc (map scalar_text net.scalars) (map array_text net.arrays) (result_text net.result ∷ (map (unit_text ver) net.units ++ (map chan_text net.chans ++ codes "end" ∷ [])))) ∙ ap (λ l. l ++ (result_text net.result ∷ (map (unit_text ver) net.units ++ (map chan_text net.chans ++ codes "end" ∷ [])))) (sym h.0))
holds_more ver Units net ls h = (map chan_text net.chans ++ codes "end" ∷ [], sym (body_whole ver net) ∙ append_assoc (to_units ver net) (map chan_text net.chans) (codes "end" ∷ []) ∙ ap (λ l. l ++ (map chan_text net.chans ++ codes "end" ∷ [])) (sym h.0))
holds_more ver Chans net ls h = (codes "end" ∷ [], sym (body_whole ver net) ∙ ap (λ l. l ++ codes "end" ∷ []) (sym h))
holds_more ver Ended net ls h = ([], sym (body_whole ver net) ∙ sym h ∙ sym (append-nil ls))

map_snoc : {X : Type 0} (f : X → List ℕ) (xs : List X) (x : X) → map f (xs ++ x ∷ []) ≡ map f xs ++ f x ∷ []
map_snoc f xs x = map-append f xs (x ∷ [])

nil_map : {X : Type 0} (f : X → List ℕ) (xs : List X) (ls : List (List ℕ)) → xs ≡ [] → ls ≡ ls ++ map f xs
nil_map f xs ls e = sym (append-nil ls) ∙ ap (λ l. ls ++ map f l) (sym e)

snoc_map : {X : Type 0} (f : X → List ℕ) (start : List (List ℕ)) (xs : List X) (x : X) → (start ++ map f xs) ++ f x ∷ [] ≡ start ++ map f (xs ++ x ∷ [])
snoc_map f start xs x = append_assoc start (map f xs) (f x ∷ []) ∙ ap (λ l. start ++ l) (sym (map_snoc f xs x))

-- the parts that are empty
scalars_holds_arrays : (ver : Version) (net : Net) (ls : List (List ℕ)) → Holds ver Scalars net ls → Holds ver Arrays net ls
scalars_holds_arrays ver net ls h = (h.0 ∙ nil_map array_text net.arrays (map scalar_text net.scalars) h.1, h.2, h.3)

units_holds_chans : (ver : Version) (net : Net) (ls : List (List ℕ)) → Holds ver Units net ls → Holds ver Chans net ls
units_holds_chans ver net ls h = h.0 ∙ nil_map chan_text net.chans (to_units ver net) h.1

array_holds : (ver : Version) (net : Net) (ls : List (List ℕ)) (x : _) → Holds ver Arrays net ls → Holds ver Arrays (net_with net (Array x)) (ls ++ array_text x ∷ [])
array_holds ver net ls x h = (ap (λ l. l ++ array_text x ∷ []) h.0 ∙ snoc_map array_text (map scalar_text net.scalars) net.arrays x, h.1, h.2)

result_holds : (ver : Version) (net : Net) (ls : List (List ℕ)) (t : _) → Holds ver Arrays net ls → Holds ver Units (net_with net (Result t)) (ls ++ result_text t ∷ [])
result_holds ver net ls t h = (ap (λ l. l ++ result_text t ∷ []) h.0 ∙ ap (λ us. to_arrays net ++ result_text t ∷ map (unit_text ver) us) (sym h.1), h.2)

unit_holds : (ver : Version) (net : Net) (ls : List (List ℕ)) (u : _) → Holds ver Units net ls → Holds ver Units (net_with net (UnitLine u)) (ls ++ unit_text ver u ∷ [])
unit_holds ver net ls u h = (
  ap (λ l. l ++ unit_text ver u ∷ []) h.0 ∙ append_assoc (to_arrays net) (result_text net.result ∷ map (unit_text ver) net.units) (unit_text ver u ∷ [])
      ∙ ap (λ l. to_arrays net ++ result_text net.result ∷ l) (sym (map_snoc (unit_text ver) net.units u)),
  h.1,
)

chan_holds : (ver : Version) (net : Net) (ls : List (List ℕ)) (c : _) → Holds ver Chans net ls → Holds ver Chans (net_with net (Chan c)) (ls ++ chan_text c ∷ [])
chan_holds ver net ls c h = ap (λ l. l ++ chan_text c ∷ []) h ∙ snoc_map chan_text (to_units ver net) net.chans c

-- one line more
pub holds_with : (ver : Version) (s : Stage) (net : Net) (ls : List (List ℕ)) (x : BodyLine) → may_stand x s ≡ true → Holds ver s net ls → Holds ver (stage_after x) (net_with net x) (ls ++ line_text ver x ∷ [])
holds_with ver Scalars net ls (Scalar x) m h = (ap (λ l. l ++ scalar_text x ∷ []) h.0 ∙ sym (map_snoc scalar_text net.scalars x), h.1, h.2, h.3)
holds_with ver Scalars net ls (Array x) m h = array_holds ver net ls x (scalars_holds_arrays ver net ls h)
holds_with ver Scalars net ls (Result x) m h = result_holds ver net ls x (scalars_holds_arrays ver net ls h)
holds_with ver Arrays net ls (Array x) m h = array_holds ver net ls x h
holds_with ver Arrays net ls (Result x) m h = result_holds ver net ls x h
holds_with ver Units net ls (UnitLine x) m h = unit_holds ver net ls x h
holds_with ver Units net ls (Chan x) m h = chan_holds ver net ls x (units_holds_chans ver net ls h)
holds_with ver Units net ls End m h = ap (λ l. l ++ codes "end" ∷ []) (units_holds_chans ver net ls h)
holds_with ver Chans net ls (Chan x) m h = chan_holds ver net ls x h
holds_with ver Chans net ls End m h = ap (λ l. l ++ codes "end" ∷ []) h
holds_with ver Ended net ls (Scalar x) m h = absurd (false≢true m)
holds_with ver Ended net ls (Array x) m h = absurd (false≢true m)
holds_with ver Ended net ls (Result x) m h = absurd (false≢true m)
holds_with ver Ended net ls (UnitLine x) m h = absurd (false≢true m)
holds_with ver Ended net ls (Chan x) m h = absurd (false≢true m)
holds_with ver Ended net ls End m h = absurd (false≢true m)
holds_with ver s net ls x m h = absurd (false≢true m)

-- a net that a version can write, with one line more that it can write
fits_with : (ver : Version) (net : Net) (x : BodyLine) → NetFits net → LineFits ver x → NetFits (net_with net x)
fits_with ver net (Scalar x) f g = record { name = f.name; scalars = All-append ScalarFits net.scalars (x ∷ []) f.scalars (All_single ScalarFits x g); arrays = f.arrays; units = f.units; chans = f.chans }
fits_with ver net (Array x) f g = record { name = f.name; scalars = f.scalars; arrays = All-append ArrayFits net.arrays (x ∷ []) f.arrays (All_single ArrayFits x g); units = f.units; chans = f.chans }
fits_with ver net (Result x) f g = record { name = f.name; scalars = f.scalars; arrays = f.arrays; units = f.units; chans = f.chans }
fits_with ver net (UnitLine x) f g = record { name = f.name; scalars = f.scalars; arrays = f.arrays; units = All-append UnitFits net.units (x ∷ []) f.units (All_single UnitFits x g.0); chans = f.chans }
fits_with ver net (Chan x) f g = record { name = f.name; scalars = f.scalars; arrays = f.arrays; units = f.units; chans = All-append ChanFits net.chans (x ∷ []) f.chans (All_single ChanFits x g) }
fits_with ver net End f g = f

written_with : (ver : Version) (net : Net) (x : BodyLine) → All (IsWritten ver) net.units → LineFits ver x → All (IsWritten ver) (net_with net x).units
written_with ver net (UnitLine x) w g = All-append (IsWritten ver) net.units (x ∷ []) w (All_single (IsWritten ver) x g.1)
written_with ver net (Scalar x) w g = w
written_with ver net (Array x) w g = w
written_with ver net (Result x) w g = w
written_with ver net (Chan x) w g = w
written_with ver net End w g = w

pub writes_with : (ver : Version) (net : Net) (x : BodyLine) → Writes ver net → LineFits ver x → Writes ver (net_with net x)
writes_with ver net x w g = record { fits = fits_with ver net x w.fits g; written = written_with ver net x w.written g }

pub name_with : (net : Net) (x : BodyLine) → (net_with net x).name ≡ net.name
name_with net (Scalar x) = refl
name_with net (Array x) = refl
name_with net (Result x) = refl
name_with net (UnitLine x) = refl
name_with net (Chan x) = refl
name_with net End = refl
