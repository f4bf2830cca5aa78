-- What is laid for a jump: branches for what its sides hand on, and an edge for each side.
use Rattle.std.specs.Prelude.{ℕ, zero, suc, Bool, true, false, cond, ◌&&◌, nat_lt, nat_le, List, [], ◌∷◌, ◌++◌, length, get_or, set, Option, Some, None}
use Rattle.ir.specs.declared.graph.To.{To}
use Rattle.ir.specs.declared.graph.Jump.{Jump}
use Rattle.ir.specs.declared.graph.Jump.TheVariants.{Go, Two, Return}
use Rattle.net_types.specs.declared.net.Place.{Place}
use Rattle.net_types.specs.declared.net.Unit.TheVariants.{Branch, Fork}
use Rattle.net_types.specs.Nets.{at}
use Rattle.circuit_build.specs.declared.draft.Draft.{Draft}
use Rattle.circuit_build.specs.declared.draft.End.{End}
use Rattle.circuit_build.specs.Drafts.{number, plus, next, end_of, with_unit, with_chan, fed, buffered, used, copied, copy_of, spread, spread_end}
use Rattle.circuit_build.specs.Uses.{handed_often}

abbrev pub with_edge : ℕ → Place → List End → Draft → Draft
with_edge to p es d = let all = d.edges ++ record { to = to; control = p; with = es } ∷ [] in record d { edges = all; tails = set d.tails to (number (length all)) }

-- ---- to one target

-- past the units of a head with so many arguments: the merge, and where there are arguments the fork of its token and the muxes
abbrev pub head_end : ℕ → ℕ → ℕ
head_end h zero = plus h 1
head_end h (suc a) = plus (plus h 2) (suc a)

-- a place of a unit of a head with so many arguments; head 0 is none
abbrev pub is_of_head : Place → ℕ → ℕ → Bool
is_of_head p zero args = false
is_of_head p (suc h) args = nat_le (suc h) p.unit && nat_lt p.unit (head_end (suc h) args)

-- what would lead from a unit of the target's head to one passes a buffer: no unit fires while its output is full
abbrev pub passed : Bool → End → Draft → Draft
passed true e d = fed e (next d) 0 (with_unit (Fork e.width 1) d)
passed false e d = d

abbrev pub passed_end : Bool → End → Draft → End
passed_end true e d = record { place = at (next d) 0; width = e.width }
passed_end false e d = e

abbrev pub all_passed : ℕ → ℕ → List ℕ → Draft → Draft
all_passed h args [] d = d
all_passed h args (v ∷ vs) d = let e = copy_of v d in all_passed h args vs (passed (is_of_head e.place h args) e (copied v d))

abbrev pub passed_ends : ℕ → ℕ → List ℕ → Draft → List End
passed_ends h args [] d = []
passed_ends h args (v ∷ vs) d =
    let e = copy_of v d in
    let b = is_of_head e.place h args in
    passed_end b e (copied v d) ∷ passed_ends h args vs (passed b e (copied v d))

-- before the edge is there
abbrev pub all_gone : ℕ → List ℕ → Draft → Draft
all_gone to vs d =
    let h = get_or d.heads to 0 in
    let n = number (length vs) in
    let e = all_passed h n vs d in
    cond (is_of_head e.control h n) (buffered e) e

abbrev pub gone : ℕ → List ℕ → Draft → Draft
gone to vs d = let e = all_gone to vs d in with_edge to e.control (passed_ends (get_or d.heads to 0) (number (length vs)) vs d) e

-- ---- to one of two targets

-- a value that is handed on y times to the one side and n times to the other: a branch, whose outputs are spread
abbrev pub branched : ℕ → ℕ → ℕ → ℕ → Draft → Draft
branched c v y n d =
    let e = copied c d in
    let f = copied v e in
    let w = (copy_of v e).width in
    let u = next f in
    let b = fed (copy_of v e) u 1 (fed (copy_of c d) u 0 (with_unit (Branch w) f)) in
    spread (record { place = at u 1; width = w }) n (spread (record { place = at u 0; width = w }) y b)

-- the ends of a value for both sides; none where a side does not hand it on
pub record Sides : Type 0 where
  pub yes_end : Option End
  pub no_end : Option End

abbrev pub branch_ends : ℕ → ℕ → ℕ → ℕ → Draft → Sides
branch_ends c v y n d =
    let e = copied c d in
    let f = copied v e in
    let w = (copy_of v e).width in
    let u = next f in
    let b = fed (copy_of v e) u 1 (fed (copy_of c d) u 0 (with_unit (Branch w) f)) in
    let one : End = record { place = at u 0; width = w } in
    record { yes_end = spread_end one y b; no_end = spread_end (record { place = at u 1; width = w }) n (spread one y b) }

abbrev pub branched_if : ℕ → ℕ → ℕ → ℕ → Draft → Draft
branched_if c v zero zero d = d
branched_if c v (suc y) n d = branched c v (suc y) n d
branched_if c v zero (suc n) d = branched c v zero (suc n) d

abbrev pub sides_if : ℕ → ℕ → ℕ → ℕ → Draft → Sides
sides_if c v zero zero d = record { yes_end = None; no_end = None }
sides_if c v (suc y) n d = branch_ends c v (suc y) n d
sides_if c v zero (suc n) d = branch_ends c v zero (suc n) d

-- of the values from v on
abbrev pub all_branched : ℕ → ℕ → List ℕ → List ℕ → Draft → Draft
all_branched c v [] ns d = d
all_branched c v (y ∷ ys) ns d = all_branched c (plus v 1) ys ns (branched_if c v y (get_or ns v 0) d)

abbrev pub all_sides : ℕ → ℕ → List ℕ → List ℕ → Draft → List Sides
all_sides c v [] ns d = []
all_sides c v (y ∷ ys) ns d = sides_if c v y (get_or ns v 0) d ∷ all_sides c (plus v 1) ys ns (branched_if c v y (get_or ns v 0) d)

abbrev pub yes_ends : List Sides → List (Option End)
yes_ends [] = []
yes_ends (s ∷ ss) = s.yes_end ∷ yes_ends ss

abbrev pub no_ends : List Sides → List (Option End)
no_ends [] = []
no_ends (s ∷ ss) = s.no_end ∷ no_ends ss

-- the ends that a side hands on, a use of each value in order
abbrev pub taken : List ℕ → List (Option End) → List End
taken [] es = []
taken (v ∷ vs) es = end_of es v ∷ taken vs (used v es)

abbrev pub control_branched : ℕ → Draft → Draft
control_branched c d =
    let e = copied c d in
    with_chan e.control (at (next e) 1) 32 true (fed (copy_of c d) (next e) 0 (with_unit (Branch 32) e))

abbrev pub parted : ℕ → To → To → Draft → Draft
parted c yes_part no_part d =
    let ys = handed_often (length d.ends) yes_part in
    let ns = handed_often (length d.ends) no_part in
    let e = all_branched c 0 ys ns d in
    let ss = all_sides c 0 ys ns d in
    let u = next (copied c e) in
    let f = control_branched c e in
    with_edge no_part.block (at u 1) (taken no_part.with (no_ends ss)) (with_edge yes_part.block (at u 0) (taken yes_part.with (yes_ends ss)) f)

-- ---- jumps; a return leads to the return join

abbrev pub result_list : Option ℕ → List ℕ
result_list None = []
result_list (Some v) = v ∷ []

abbrev pub jump_laid : ℕ → Jump → Draft → Draft
jump_laid join (Go to) d = gone to.block to.with d
jump_laid join (Two c yes_part no_part) d = parted c yes_part no_part d
jump_laid join (Return v) d = gone join (result_list v) d
