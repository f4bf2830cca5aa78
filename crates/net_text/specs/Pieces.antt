-- The pieces of a net text: lines of parts, places, ports and groups of ports.
use Rattle.std.specs.Prelude.{ℕ, List, [], ◌∷◌, ◌++◌, map, codes, decimal, Bool, true, false}
use Rattle.std.specs.List.{join_with_byte}
use Rattle.net_types.specs.declared.net.Place.{Place}
use Rattle.net_types.specs.declared.net.Port.{Port}
use Rattle.net_types.specs.declared.net.Port.TheVariants.{Load, Store}
use Rattle.net_text.specs.declared.version.Version.{Version}
use Rattle.net_text.specs.declared.version.Version.TheVariants.{One, Two}

-- a line: its parts with one space (32) between two, and a line feed (10)
abbrev pub line : List (List ℕ) → List ℕ
line parts = join_with_byte 32 parts ++ 10 ∷ []

-- a place: the unit's number, a full stop (46) and the place's number
abbrev pub place_text : Place → List ℕ
place_text p = decimal p.unit ++ 46 ∷ decimal p.place

-- ports: a letter each, `l` (108) or `s` (115), and `-` for none
abbrev pub port_letter : Port → ℕ
port_letter Load = 108
port_letter Store = 115

abbrev pub ports_text : List Port → List ℕ
ports_text [] = codes "-"
ports_text (p ∷ ps) = map port_letter (p ∷ ps)

-- a group of ports: their numbers with a comma (44) between two, and `-` for none
abbrev pub group_text : List ℕ → List ℕ
group_text [] = codes "-"
group_text (n ∷ ns) = join_with_byte 44 (map decimal (n ∷ ns))

-- groups: with a semicolon (59) between two, and `none` for none
abbrev pub groups_text : List (List ℕ) → List ℕ
groups_text [] = codes "none"
groups_text (g ∷ gs) = join_with_byte 59 (map group_text (g ∷ gs))

-- the mark of a queue, and the part of its line that it is: version 1 writes none
abbrev pub mark_text : Bool → List ℕ
mark_text false = codes "plain"
mark_text true = codes "forward"

abbrev pub mark_parts : Version → Bool → List (List ℕ)
mark_parts One f = []
mark_parts Two f = mark_text f ∷ []

-- the part at the end of a control channel's line
abbrev pub control_parts : Bool → List (List ℕ)
control_parts true = codes "control" ∷ []
control_parts false = []
