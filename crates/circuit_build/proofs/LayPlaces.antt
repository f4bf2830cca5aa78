-- Where the ends of a jump's edges lie: at none of the units of the head of their target.
use Rattle.std.proofs.Common.{◌≡◌, ◌⊎◌, ℕ, zero, suc, ◌+◌, ◌^◌, ◌<◌, ◌≤◌, List, [], ◌∷◌, ◌++◌, length, length-append, get_or, set, map, Bool, true, false, Option, Some, None, refl, sym, ap, ◌∙◌, subst, inl, inr, arith}
use Rattle.std.specs.Prelude.{cond, ◌&&◌, nat_le, nat_lt}
use Rattle.std.proofs.lemmas.Bool.{cases_lt, le-leb, lt-ltb}
use Rattle.ir.specs.declared.graph.To.{To}
use Rattle.net_types.specs.declared.net.Place.{Place}
use Rattle.net_types.specs.declared.net.Unit.{Unit as Kind}
use Rattle.net_types.specs.declared.net.Unit.TheVariants.{Fork, Branch, Sink, Mux, Cmerge}
use Rattle.net_types.specs.Nets.{at}
use Rattle.circuit_build.specs.declared.draft.Draft.{Draft}
use Rattle.circuit_build.specs.declared.draft.Edge.{Edge}
use Rattle.circuit_build.specs.declared.draft.End.{End}
use Rattle.circuit_build.specs.Blocks.{muxes_laid, args_defined, merged, opened}
use Rattle.circuit_build.specs.Drafts.{number, plus, next, with_unit, fed, spread, spread_end, used, end_of, control_forked, buffered, copied, copy_of}
use Rattle.circuit_build.specs.Jumps.{Sides, head_end, is_of_head, passed, passed_end, all_passed, passed_ends, all_gone, branched, branch_ends, branched_if, sides_if, all_branched, all_sides, yes_ends, no_ends, taken, control_branched}
use Rattle.circuit_build.specs.Uses.{handed_often}
use Rattle.circuit_build.proofs.LayBelow.{muxes_units, all_passed_long, all_branched_more, branched_if_more, spread_more}
use Rattle.circuit_build.proofs.LayBlocks.{edge_places, gone_edge, parted_all, yes_edge, no_edge}
use Rattle.circuit_build.proofs.LayExtends.{extends_long, args_extend, control_extends}
use Rattle.circuit_build.proofs.Stages.{Outside}

-- ---- how many units a merge's head has at least

pub opened_units : (ins : ℕ) (ws : List ℕ) (t : ℕ) (d : Draft) → length d.units + 1 + length ws ≤ length (opened ins ws t d).units
opened_units ins ws t d =
    let n = plus t (number (length ws)) in
    let m = merged ins d in
    let e = control_forked n m in
    let x = muxes_laid ins ws e in
    let a = length-append d.units (Cmerge ins ∷ []) in
    let b = extends_long m e (control_extends m n) in
    let c = muxes_units ins ws e in
    let f = extends_long x (args_defined (next e) ws x) (args_extend x (next e) ws) in
    omega (arith, a, b, c, f)

forked_units : (n : ℕ) (d : Draft) → 1 ≤ n → length d.units + 1 ≤ length (control_forked n d).units
forked_units zero d l = absurd (omega (arith, l))
forked_units (suc n) d l = let a = length-append d.units (Fork 32 (plus (suc n) 1) ∷ []) in omega (arith, a)

-- the units of the head, to its end
pub opened_end : (ins : ℕ) (ws : List ℕ) (t : ℕ) (d : Draft) → length (opened ins ws t d).units < 2 ^ 32 → head_end (next d) (length ws) ≤ length (opened ins ws t d).units
opened_end ins [] t d few = let a = opened_units ins [] t d in omega (arith, a, few)
opened_end ins (w ∷ ws) t d few =
    let vs = w ∷ ws in
    let n = plus t (number (length vs)) in
    let m = merged ins d in
    let e = control_forked n m in
    let x = muxes_laid ins vs e in
    let a = length-append d.units (Cmerge ins ∷ []) in
    let b = forked_units n m (omega arith) in
    let c = muxes_units ins vs e in
    let f = extends_long x (args_defined (next e) vs x) (args_extend x (next e) vs) in
    omega (arith, a, b, c, f, few)

-- ---- places that are of units from one on and below another, or of unit 0

abbrev pub In : ℕ → ℕ → ℕ → Type 0
In low high u = (u ≡ 0) ⊎ ((low ≤ u) × (u < high))

abbrev pub InRange : ℕ → ℕ → List (Option Place) → Type 0
InRange low high [] = Unit {0}
InRange low high (None ∷ ps) = InRange low high ps
InRange low high (Some p ∷ ps) = In low high p.unit × InRange low high ps

one_outside : (low high n m u : ℕ) → 0 < n → (m ≤ low) ⊎ (high ≤ n) → In low high u → (u < n) ⊎ (m ≤ u)
one_outside low high n m u some s (inl z) = inl (omega (arith, z, some))
one_outside low high n m u some (inl e) (inr h) = let a = h.0 in inr (omega (arith, a, e))
one_outside low high n m u some (inr e) (inr h) = let a = h.1 in inl (omega (arith, a, e))

pub out_of_range : (low high n m : ℕ) (ps : List (Option Place)) → 0 < n → (m ≤ low) ⊎ (high ≤ n) → InRange low high ps → Outside 0 n m ps
out_of_range low high n m [] some s h = tt
out_of_range low high n m (None ∷ ps) some s h = out_of_range low high n m ps some s h
out_of_range low high n m (Some p ∷ ps) some s h = (omega arith, one_outside low high n m p.unit some s h.0, out_of_range low high n m ps some s h.1)

abbrev pub places_of : List End → List (Option Place)
places_of es = map (λ (x : End). Some x.place) es

-- ---- jumps to one target: the test says it

leb-false : (a b : ℕ) → nat_le a b ≡ false → b < a
leb-false a b h = elim (cases_lt b a) [
  | inl l ↦ l
  | inr l ↦ (let e : true ≡ false = sym (le-leb a b l) ∙ h in absurd (cc))
]

ltb-false : (a b : ℕ) → nat_lt a b ≡ false → b ≤ a
ltb-false a b h = elim (cases_lt a b) [
  | inl l ↦ (let e : true ≡ false = sym (lt-ltb a b l) ∙ h in absurd (cc))
  | inr l ↦ l
]

and-false : (a b : Bool) → (a && b) ≡ false → (a ≡ false) ⊎ (b ≡ false)
and-false true b e = inr e
and-false false b e = inl refl

-- a place that is of no unit of the head
not_of_head : (p : Place) (h n : ℕ) → 0 < h → is_of_head p h n ≡ false → (p.unit < h) ⊎ (head_end h n ≤ p.unit)
not_of_head p zero n some e = absurd (omega (arith, some))
not_of_head p (suc h) n some e = elim (and-false (nat_le (suc h) p.unit) (nat_lt p.unit (head_end (suc h) n)) e) [
  | inl x ↦ inl (leb-false (suc h) p.unit x)
  | inr y ↦ inr (ltb-false p.unit (head_end (suc h) n) y)
]

-- a new unit is behind a head that is laid
passed_outside : (t : Bool) (x : End) (d : Draft) (h n : ℕ) → is_of_head x.place h n ≡ t → 0 < h → head_end h n ≤ length d.units → length (passed t x d).units < 2 ^ 32 → ((passed_end t x d).place.unit < h) ⊎ (head_end h n ≤ (passed_end t x d).place.unit)
passed_outside true x d h n e some l few = let a = length-append d.units (Fork x.width 1 ∷ []) in inr (omega (arith, l, few, a))
passed_outside false x d h n e some l few = not_of_head x.place h n some e

passed_more : (t : Bool) (x : End) (d : Draft) → length d.units ≤ length (passed t x d).units
passed_more true x d = let a = length-append d.units (Fork x.width 1 ∷ []) in omega (arith, a)
passed_more false x d = omega arith

all_passed_outside : (h n : ℕ) (vs : List ℕ) (d : Draft) → 0 < h → head_end h n ≤ length d.units → length (all_passed h n vs d).units < 2 ^ 32 → Outside 0 h (head_end h n) (places_of (passed_ends h n vs d))
all_passed_outside h n [] d some l few = tt
all_passed_outside h n (v ∷ vs) d some l few =
    let x = copy_of v d in
    let t = is_of_head x.place h n in
    let e = copied v d in
    let f = passed t x e in
    let a = passed_more t x e in
    let b = all_passed_long h n vs f in
    (omega arith, passed_outside t x e h n refl some l (omega (arith, b, few)), all_passed_outside h n vs f some (omega (arith, l, a)) few)

gone_outside_if : (t : Bool) (e : Draft) (h n : ℕ) → is_of_head e.control h n ≡ t → 0 < h → head_end h n ≤ length e.units → length (cond t (buffered e) e).units < 2 ^ 32 → ((cond t (buffered e) e).control.unit < h) ⊎ (head_end h n ≤ (cond t (buffered e) e).control.unit)
gone_outside_if true e h n q some l few = let a = length-append e.units (Fork 32 1 ∷ []) in inr (omega (arith, l, few, a))
gone_outside_if false e h n q some l few = not_of_head e.control h n some q

gone_more : (t : Bool) (e : Draft) → length e.units ≤ length (cond t (buffered e) e).units
gone_more true e = let a = length-append e.units (Fork 32 1 ∷ []) in omega (arith, a)
gone_more false e = omega arith

-- to a head that is laid
pub gone_outside : (to : ℕ) (vs : List ℕ) (d : Draft) → 0 < get_or d.heads to 0 → head_end (get_or d.heads to 0) (number (length vs)) ≤ length d.units → length (all_gone to vs d).units < 2 ^ 32
    → Outside 0 (get_or d.heads to 0) (head_end (get_or d.heads to 0) (number (length vs))) (edge_places (gone_edge to vs d))
gone_outside to vs d some l few =
    let h = get_or d.heads to 0 in
    let n = number (length vs) in
    let e = all_passed h n vs d in
    let t = is_of_head e.control h n in
    let a = gone_more t e in
    let b = all_passed_long h n vs d in
    (omega arith, gone_outside_if t e h n refl some (omega (arith, l, b)) few, all_passed_outside h n vs d some l (omega (arith, a, few)))

-- ---- jumps to one of two targets: at units that are laid with the jump

abbrev EndsRange : ℕ → ℕ → List (Option End) → Type 0
EndsRange low high [] = Unit {0}
EndsRange low high (None ∷ es) = EndsRange low high es
EndsRange low high (Some e ∷ es) = In low high e.place.unit × EndsRange low high es

end_range : (low high : ℕ) (es : List (Option End)) (v : ℕ) → EndsRange low high es → In low high (end_of es v).place.unit
end_range low high [] v h = inl refl
end_range low high (None ∷ es) zero h = inl refl
end_range low high (Some e ∷ es) zero h = h.0
end_range low high (None ∷ es) (suc v) h = end_range low high es v h
end_range low high (Some e ∷ es) (suc v) h = end_range low high es v h.1

range_set : (low high : ℕ) (es : List (Option End)) (v : ℕ) (x : End) → EndsRange low high es → In low high x.place.unit → EndsRange low high (set es v (Some x))
range_set low high [] v x h i = tt
range_set low high (None ∷ es) zero x h i = (i, h)
range_set low high (Some e ∷ es) zero x h i = (i, h.1)
range_set low high (None ∷ es) (suc v) x h i = range_set low high es v x h i
range_set low high (Some e ∷ es) (suc v) x h i = (h.0, range_set low high es v x h.1 i)

taken_range : (low high : ℕ) (vs : List ℕ) (es : List (Option End)) → EndsRange low high es → InRange low high (places_of (taken vs es))
taken_range low high [] es h = tt
taken_range low high (v ∷ vs) es h = (end_range low high es v h, taken_range low high vs (used v es) (range_set low high es v _ h (end_range low high es v h)))

spread_range : (low high : ℕ) (x : End) (n : ℕ) (d : Draft) → In low high x.place.unit → low ≤ length d.units → length (spread x n d).units ≤ high → high < 2 ^ 32 → EndsRange low high (spread_end x n d ∷ [])
spread_range low high x zero d i lo hi few = tt
spread_range low high x (suc zero) d i lo hi few = (i, tt)
spread_range low high x (suc (suc n)) d i lo hi few = let a = length-append d.units (Fork x.width (suc (suc n)) ∷ []) in (inr (omega (arith, lo, a, hi, few), omega (arith, a, hi)), tt)

record SidesRange (low high : ℕ) (s : Sides) : Type 0 where
  yes : EndsRange low high (s.yes_end ∷ [])
  no : EndsRange low high (s.no_end ∷ [])

branched_range : (low high c v y n : ℕ) (d : Draft) → low ≤ length d.units → length (branched c v y n d).units ≤ high → high < 2 ^ 32 → SidesRange low high (branch_ends c v y n d)
branched_range low high c v y n d lo hi few =
    let e = copied c d in
    let f = copied v e in
    let w = (copy_of v e).width in
    let u = next f in
    let b = fed (copy_of v e) u 1 (fed (copy_of c d) u 0 (with_unit (Branch w) f)) in
    let one : End = record { place = at u 0; width = w } in
    let two : End = record { place = at u 1; width = w } in
    let g = spread one y b in
    let l = length-append f.units (Branch w ∷ []) in
    let lg = spread_more one y b in
    let lk = spread_more two n g in
    let own : In low high u = inr (omega (arith, lo, l, lg, lk, hi, few), omega (arith, l, lg, lk, hi)) in
    record {
      yes = spread_range low high one y b own (omega (arith, lo, l)) (omega (arith, lk, hi)) few;
      no = spread_range low high two n g own (omega (arith, lo, l, lg)) hi few;
    }

branched_if_range : (low high c v y n : ℕ) (d : Draft) → low ≤ length d.units → length (branched_if c v y n d).units ≤ high → high < 2 ^ 32 → SidesRange low high (sides_if c v y n d)
branched_if_range low high c v zero zero d lo hi few = record { yes = tt; no = tt }
branched_if_range low high c v (suc y) n d lo hi few = branched_range low high c v (suc y) n d lo hi few
branched_if_range low high c v zero (suc n) d lo hi few = branched_range low high c v zero (suc n) d lo hi few

range_cons : (low high : ℕ) (o : Option End) (es : List (Option End)) → EndsRange low high (o ∷ []) → EndsRange low high es → EndsRange low high (o ∷ es)
range_cons low high None es h i = i
range_cons low high (Some e) es h i = (h.0, i)

record AllSides (low high : ℕ) (ss : List Sides) : Type 0 where
  yes : EndsRange low high (yes_ends ss)
  no : EndsRange low high (no_ends ss)

all_range : (low high c v : ℕ) (ys ns : List ℕ) (d : Draft) → low ≤ length d.units → length (all_branched c v ys ns d).units ≤ high → high < 2 ^ 32 → AllSides low high (all_sides c v ys ns d)
all_range low high c v [] ns d lo hi few = record { yes = tt; no = tt }
all_range low high c v (y ∷ ys) ns d lo hi few =
    let n = get_or ns v 0 in
    let e = branched_if c v y n d in
    let s = sides_if c v y n d in
    let ss = all_sides c (plus v 1) ys ns e in
    let a = branched_if_more c v y n d in
    let b = all_branched_more c (plus v 1) ys ns e in
    let one = branched_if_range low high c v y n d lo (omega (arith, b, hi)) few in
    let i = all_range low high c (plus v 1) ys ns e (omega (arith, lo, a)) hi few in
    record { yes = range_cons low high s.yes_end (yes_ends ss) one.yes i.yes; no = range_cons low high s.no_end (no_ends ss) one.no i.no }

pub record PartedRange (low high : ℕ) (c : ℕ) (a b : To) (d : Draft) : Type 0 where
  pub yes : InRange low high (edge_places (yes_edge c a b d))
  pub no : InRange low high (edge_places (no_edge c a b d))

pub parted_range : (low high c : ℕ) (a b : To) (d : Draft) → low ≤ length d.units → length (control_branched c (parted_all c a b d)).units ≤ high → high < 2 ^ 32 → PartedRange low high c a b d
parted_range low high c a b d lo hi few =
    let ys = handed_often (length d.ends) a in
    let ns = handed_often (length d.ends) b in
    let e = parted_all c a b d in
    let ss = all_sides c 0 ys ns d in
    let u = next (copied c e) in
    let l = length-append e.units (Branch 32 ∷ []) in
    let m = all_branched_more c 0 ys ns d in
    let own : In low high u = inr (omega (arith, lo, m, l, hi, few), omega (arith, l, hi)) in
    let all = all_range low high c 0 ys ns d lo (omega (arith, l, hi)) few in
    record {
      yes = (own, taken_range low high a.with (yes_ends ss) all.yes);
      no = (own, taken_range low high b.with (no_ends ss) all.no);
    }
