-- A text has more bytes than its net has units and channels.
use Rattle.std.proofs.Common.{◌≡◌, ℕ, ◌+◌, ◌≤◌, List, [], ◌∷◌, ◌++◌, length, map, sym, subst, arith, inl, inr, length-append}
use Rattle.std.specs.List.{flat_map, join_with_byte}
use Rattle.std.specs.Prelude.{Result, Ok, Err, IfOk}
use Rattle.std.proofs.lemmas.List.{length-map}
use Rattle.el_base.specs.Limits.{IsNumbered}
use Rattle.net_types.specs.declared.net.Net.{Net}
use Rattle.net_types.specs.Numbered.{AreNumbered}
use Rattle.net_text.specs.declared.refusal.TextRefusal.{TextRefusal}
use Rattle.net_text.specs.declared.version.Version.{Version}
use Rattle.net_text.specs.declared.version.Version.TheVariants.{One, Two}
use Rattle.net_text.specs.Pieces.{line}
use Rattle.net_text.specs.Texts.{net_lines, net_text, header_lines, unit_parts, chan_parts, end_parts}
use Rattle.net_text.specs.Refusals.{Says}

lines_length : (ls : List (List (List ℕ))) → length ls ≤ length (flat_map line ls)
lines_length [] = omega arith
lines_length (l ∷ ls) =
    omega (arith, lines_length ls, length-append (line l) (flat_map line ls), length-append (join_with_byte 32 l) (10 ∷ []))

text_length : (v : Version) (net : Net) → length net.units + length net.chans ≤ length (net_text v net)
text_length v net =
    omega (
      arith,
      lines_length (net_lines v net),
      length-append (header_lines v net ++ map (unit_parts v) net.units ++ map chan_parts net.chans) (end_parts ∷ []),
      length-append (header_lines v net ++ map (unit_parts v) net.units) (map chan_parts net.chans),
      length-append (header_lines v net) (map (unit_parts v) net.units),
      length-map net.units (unit_parts v),
      length-map net.chans chan_parts,
    )

numbered_by : (v : Version) (net : Net) (bytes : List ℕ) → bytes ≡ net_text v net → IsNumbered (length bytes) → AreNumbered net
numbered_by v net bytes e few =
    let some : length net.units + length net.chans ≤ length bytes = subst (λ x. length net.units + length net.chans ≤ length x) (sym e) (text_length v net) in
    record { units = omega arith; chans = omega arith }

pub numbered : (bytes : List ℕ) (r : Result Net TextRefusal) → Says bytes r → IsNumbered (length bytes) → IfOk r AreNumbered
numbered bytes (Ok net) says few = elim says.1 [ inl new ↦ numbered_by Two net bytes new few | inr old ↦ numbered_by One net bytes old.text few ]
numbered bytes (Err e) says few = tt
