-- The jump of a block: its values and the control token are handed on.
use Rattle.std.proofs.Common.{◌≡◌, ℕ, zero, suc, ◌+◌, ◌*◌, ◌^◌, ◌<◌, ◌≤◌, ◌==◌, Bool, true, false, cond, Option, Some, None, List, [], ◌∷◌, ◌++◌, length, map, get_or, set, refl, sym, ap, ◌∙◌, subst, inl, inr, ⊎_elim, arith, slice_get, length-append, length-set, append_assoc}
use Rattle.std.proofs.lemmas.List.{append-nil}
use Rattle.ir.specs.Steps.{value_at}
use Rattle.ir.specs.declared.graph.To.{To}
use Rattle.net_types.specs.declared.net.Place.{Place}
use Rattle.net_types.specs.declared.net.Net.{Net}
use Rattle.net_types.specs.declared.net.Unit.TheVariants.{Branch, Fork}
use Rattle.net_types.specs.Nets.{at}
use Rattle.net_core.specs.Fire.{State}
use Rattle.circuit_build.specs.declared.draft.Draft.{Draft}
use Rattle.circuit_build.specs.declared.draft.End.{End}
use Rattle.circuit_build.specs.Drafts.{number, plus, next, with_unit, fed, buffered, end_of, after_place, spread, spread_end, used, copied, copy_of}
use Rattle.circuit_build.specs.Jumps.{is_of_head, passed, passed_end, all_passed, passed_ends, all_gone, Sides, branched, branch_ends, branched_if, sides_if, all_branched, all_sides, yes_ends, no_ends, taken, control_branched}
use Rattle.circuit_build.specs.Uses.{zeros, added, all_added, handed_often}
use Rattle.circuit_build.proofs.Marks.{Aside}
use Rattle.circuit_build.proofs.Stages.{Stage, Reaches}
use Rattle.circuit_build.proofs.SpreadLemmas.{fresh}
use Rattle.circuit_build.proofs.CountBooks.{chan}
use Rattle.circuit_build.proofs.LaySections.{Extends, Within, Leaves, AllUsed}
use Rattle.circuit_build.proofs.LayExtends.{extends_own, extends_then, passed_extends, all_passed_extends, branched_extends, branched_if_extends, all_branched_extends, control_branched_extends}
use Rattle.circuit_build.proofs.LayBlocks.{gone_edge}
use Rattle.circuit_build.proofs.Remains.{AreBelow, branch_uses, branches_uses, all_added_length, zeros_length}
use Rattle.circuit_build.proofs.StageKinds.{Calm, buffer_front, branch_front}
use Rattle.circuit_build.proofs.StageTokens.{Token, token, places, values, Swaps, same, keep, swap, follow, swaps_as, swaps_of, swaps_back, swaps_behind, swaps_before, to_first, block_first, row, end_place, kept, more, more_all, kept_as, none_kept, take_kept}
use Rattle.circuit_build.proofs.StageUses.{Stands, new_unit, stands_between, stands_as, last_wire, second_wire, open_tokens, tokens_as, other_first, insert_swaps, gains, At, Comes, at_swapped, at_as, at_later, comes_here, comes_then, comes_from, comes_within, comes_swapped, comes_as, comes_of, spread_quiet, spread_more, spread_comes, spread_later, used_many, copied_swaps, copied_at, buffered_comes}
use Rattle.circuit_build.proofs.StageCounts.{table, more_is, below_in}
use Rattle.circuit_build.proofs.StageSteps.{tokens_same}
use Rattle.circuit_build.proofs.StageHead.{data_tokens, edge_tokens}

abbrev nothing : ℕ → ℕ
nothing w = 0

-- one of the others goes behind them
other_last : (c : Token) (R K rest : List Token) (x : Token) → Swaps (x ∷ (c ∷ (R ++ (K ++ rest)))) (c ∷ (R ++ (K ++ x ∷ rest)))
other_last c R K rest x = swaps_back (other_first c R K rest x)

-- ---- to one target

module _ {net : Net} {scalars : List ℕ} {low m : ℕ} (leaves : Leaves net) where
  passed_comes : (b : Bool) (x : End) (v : ℕ) {s : State} {a : Aside} (d : Draft) (ts : List Token) → At net scalars low m s a d (token x.place v ∷ ts) → Stands net low m (passed b x d)
      → Comes net scalars low m s (length d.chans) (suc (length ts)) 1 a (passed b x d) (token (passed_end b x d).place v ∷ ts)
  passed_comes false x v d ts o sr = comes_within (omega arith) (comes_here o)
  passed_comes true x v d ts o sr =
      let r = passed true x d in
      let n = new_unit {d = d} {e = r} (Fork x.width 1) o.stands sr refl in
      let w = last_wire {d = r} d.chans (chan x.place (at (next d) 0) x.width false) sr.within refl in
      let le : 0 ≤ next d = omega arith in
      let go = buffer_front leaves le n.below o.stage x.width o.calm n.is w in
      comes_of (length d.chans) (suc (length ts)) 1 (suc (next d)) r (token (at (next d) 0) v ∷ ts) sr o.calm (inl n.above, o.used.1) n.after go (omega arith)
      (gains (token x.place v ∷ ts) o.stage (fresh 0 (next d) m 0 (places (token x.place v ∷ ts)) n.below o.stage.outside) go)

passed_open : (b : Bool) (x : End) (d : Draft) (z : ℕ) (T : ℕ → ℕ) (vs : List ℕ) (rest : List Token) → open_tokens d z 0 T vs rest ≡ open_tokens (passed b x d) z 0 T vs rest
passed_open false x d z T vs rest = refl
passed_open true x d z T vs rest = refl

-- no token of a value is left
no_values : (d : Draft) (z : ℕ) (vs : List ℕ) (D : List Token) → open_tokens d z 0 nothing vs (D ++ []) ≡ token d.control z ∷ D
no_values d z vs D = ap (λ l. token d.control z ∷ (l ++ (D ++ []))) (none_kept nothing d.ends vs (λ w. refl)) ∙ ap (λ l. token d.control z ∷ l) (append-nil D)

passed_many : (b : Bool) (x : End) (d : Draft) → length (passed b x d).ends ≡ length d.ends
passed_many false x d = refl
passed_many true x d = refl

module _ {net : Net} {scalars : List ℕ} {low m : ℕ} (leaves : Leaves net) where
  all_passed_comes : (h n : ℕ) (ws : List ℕ) (z : ℕ) (T : ℕ → ℕ) (vs : List ℕ) (rest : List Token) {s : State} {a : Aside} (d : Draft) → At net scalars low m s a d (open_tokens d z 0 (more_all ws T) vs rest) → AreBelow (length vs) ws → length d.ends ≡ length vs
      → Stands net low m (all_passed h n ws d)
      → Comes net scalars low m s (length d.chans) (length (open_tokens d z 0 (more_all ws T) vs rest)) (length ws) a (all_passed h n ws d)
      (open_tokens (all_passed h n ws d) z 0 T vs (data_tokens (passed_ends h n ws d) (map (value_at vs) ws) ++ rest))
  all_passed_comes h n [] z T vs rest d o below many sr = comes_here o
  all_passed_comes h n (v ∷ ws) z T vs rest {s = s} {a = a} d o below many sr =
      let x = copy_of v d in
      let b = is_of_head x.place h n in
      let e = copied v d in
      let f = passed b x e in
      let r = all_passed h n ws f in
      let val = value_at vs v in
      let y = token (passed_end b x e).place val in
      let T' = more_all ws T in
      let lt : v < length d.ends = (let l = below.0 in omega (arith, l, many)) in
      let o1 = copied_at v z 0 T' vs rest [] o lt many in
      let xe = passed_extends e b x in
      let xd : Extends d f = record { more_units = xe.more_units; more_chans = xe.more_chans; units = xe.units; chans = xe.chans } in
      let sf = stands_between {d = d} {e = f} {f = r} xd (all_passed_extends f h n ws) o.stands sr in
      let one = passed_comes leaves b x val e (open_tokens e z 0 T' vs rest) o1 sf in
      let K = kept T' e.ends vs in
      let back = swaps_as (passed_open b x e z T' vs (y ∷ rest)) (other_last (token e.control z) [] K rest y) in
      let two = comes_from (open_tokens d z 0 (more_all (v ∷ ws) T) vs rest) (token x.place val ∷ open_tokens e z 0 T' vs rest) (copied_swaps v z 0 T' vs rest [] d lt many) (comes_swapped back one) in
      let l = passed_many b x e ∙ used_many v d in
      let rest_comes = all_passed_comes h n ws z T vs (y ∷ rest) f two.there below.1 (l ∙ many) sr in
      let D = data_tokens (passed_ends h n ws f) (map (value_at vs) ws) in
      let turned : Swaps (open_tokens r z 0 T vs (D ++ y ∷ rest)) (open_tokens r z 0 T vs (y ∷ D ++ rest)) = keep (swaps_behind (kept T r.ends vs) (to_first D y rest)) in
      comes_within (omega arith) (comes_swapped turned (comes_then two rest_comes))

  pub gone_comes : (to : ℕ) (ws : List ℕ) (z : ℕ) (T : ℕ → ℕ) (vs : List ℕ) {s : State} {a : Aside} (d : Draft) → At net scalars low m s a d (open_tokens d z 0 T vs []) → ((w : ℕ) → T w ≡ more_all ws nothing w) → AreBelow (length vs) ws → length d.ends ≡ length vs
      → Stands net low m (all_gone to ws d) → Extends (all_passed (get_or d.heads to 0) (number (length ws)) ws d) (all_gone to ws d)
      → Comes net scalars low m s (length d.chans) (length (open_tokens d z 0 T vs [])) (length ws + 1) a (all_gone to ws d) (edge_tokens (gone_edge to ws d) z (map (value_at vs) ws))
  gone_comes to ws z T vs {s = s} {a = a} d o left below many sr xr =
      let h = get_or d.heads to 0 in
      let n = number (length ws) in
      let e = all_passed h n ws d in
      let D = data_tokens (passed_ends h n ws d) (map (value_at vs) ws) in
      let e1 = tokens_same d z 0 0 T (more_all ws nothing) vs [] refl left in
      let se = stands_between {d = d} {e = e} {f = all_gone to ws d} (all_passed_extends d h n ws) xr o.stands sr in
      let one = comes_swapped (swaps_of (no_values e z vs D)) (all_passed_comes h n ws z nothing vs [] d (at_swapped (swaps_of e1) o) below many se) in
      comes_from (open_tokens d z 0 T vs []) (open_tokens d z 0 (more_all ws nothing) vs []) (swaps_of e1) (by (is_of_head e.control h n) one sr)
    where
      by : (b : Bool) → Comes net scalars low m s (length d.chans) (length (open_tokens d z 0 (more_all ws nothing) vs [])) (length ws) a (all_passed (get_or d.heads to 0) (number (length ws)) ws d)
          (token (all_passed (get_or d.heads to 0) (number (length ws)) ws d).control z ∷ data_tokens (passed_ends (get_or d.heads to 0) (number (length ws)) ws d) (map (value_at vs) ws))
          → Stands net low m (cond b (buffered (all_passed (get_or d.heads to 0) (number (length ws)) ws d)) (all_passed (get_or d.heads to 0) (number (length ws)) ws d))
          → Comes net scalars low m s (length d.chans) (length (open_tokens d z 0 (more_all ws nothing) vs [])) (length ws + 1) a (cond b (buffered (all_passed (get_or d.heads to 0) (number (length ws)) ws d)) (all_passed (get_or d.heads to 0) (number (length ws)) ws d))
          (token (cond b (buffered (all_passed (get_or d.heads to 0) (number (length ws)) ws d)) (all_passed (get_or d.heads to 0) (number (length ws)) ws d)).control z ∷ data_tokens (passed_ends (get_or d.heads to 0) (number (length ws)) ws d) (map (value_at vs) ws))
      by true one s1 = comes_then one (buffered_comes leaves one.there s1)
      by false one s1 = comes_within (omega arith) one

-- ---- to one of two targets

-- the output of a branch
abbrev pub side_of : ℕ → ℕ
side_of c = cond (c == 0) 1 0

-- the side of output 0, or the other
abbrev pub side_no : Bool → ℕ
side_no true = 0
side_no false = 1

abbrev pick : Bool → ℕ → ℕ → ℕ
pick true y n = y
pick false y n = n

abbrev end_on : Bool → Sides → Option End
end_on true s = s.yes_end
end_on false s = s.no_end

abbrev pub ends_on : Bool → List Sides → List (Option End)
ends_on b [] = []
ends_on b (s ∷ ss) = end_on b s ∷ ends_on b ss

-- what a branch needs
abbrev branch_more : ℕ → ℕ → ℕ → ℕ → (ℕ → ℕ) → ℕ → ℕ
branch_more c v zero zero T = T
branch_more c v (suc y) n T = more c (more v T)
branch_more c v zero (suc n) T = more c (more v T)

abbrev pub branches_more : ℕ → ℕ → List ℕ → List ℕ → (ℕ → ℕ) → ℕ → ℕ
branches_more c v [] ns T = T
branches_more c v (y ∷ ys) ns T = branch_more c v y (get_or ns v 0) (branches_more c (plus v 1) ys ns T)

branch_more_is : (c v y n w : ℕ) (T : ℕ → ℕ) → branch_more c v y n T w ≡ T w + branch_uses c v y n w
branch_more_is c v zero zero w T = omega arith
branch_more_is c v (suc y) n w T = let a = more_is c w (more v T) in let b = more_is v w T in omega (arith, a, b)
branch_more_is c v zero (suc n) w T = let a = more_is c w (more v T) in let b = more_is v w T in omega (arith, a, b)

pub branches_more_is : (c v : ℕ) (ys ns : List ℕ) (w : ℕ) (T : ℕ → ℕ) → branches_more c v ys ns T w ≡ T w + branches_uses c v ys ns w
branches_more_is c v [] ns w T = omega arith
branches_more_is c v (y ∷ ys) ns w T = let i = branches_more_is c (plus v 1) ys ns w T in let j = branch_more_is c v y (get_or ns v 0) w (branches_more c (plus v 1) ys ns T) in omega (arith, i, j)

-- how many branches there are
abbrev branch_one : ℕ → ℕ → ℕ
branch_one zero zero = 0
branch_one (suc y) n = 1
branch_one zero (suc n) = 1

abbrev pub branches_many : ℕ → List ℕ → List ℕ → ℕ
branches_many v [] ns = 0
branches_many v (y ∷ ys) ns = branch_one y (get_or ns v 0) + branches_many (plus v 1) ys ns

chans_long : (d e : Draft) → Extends d e → length d.chans ≤ length e.chans
chans_long d e x = let q = length-append d.chans x.more_chans in let u = ap length x.chans in omega (arith, q, u)

-- behind some firings units are laid that have no tokens
later_comes : {net : Net} {scalars : List ℕ} {low m : ℕ} (leaves : Leaves net) (x : End) (k : ℕ) (e : Draft) {s : State} {c b h : ℕ} {a : Aside} {ts : List Token} → c < length e.chans → Comes net scalars low m s c b h a e ts → Stands net low m (spread x k e)
    → Comes net scalars low m s c b h a (spread x k e) ts
later_comes leaves x k e lt r se = record {
  firings = r.firings;
  to = r.to;
  run = r.run;
  few = r.few;
  some = ⊎_elim (λ i. inl i) (λ i. absurd (omega (arith, i, lt))) r.some;
  there = spread_later leaves x k r.there se;
}

module _ {net : Net} {scalars : List ℕ} {low m : ℕ} (leaves : Leaves net) where
  module _ (b : Bool) (c v y n : ℕ) (z : ℕ) (T : ℕ → ℕ) (vs : List ℕ) (rest : List Token) {s : State} {a : Aside} (d : Draft) (few : (y < 2 ^ 32) × (n < 2 ^ 32)) (lc : c < length vs) (lv : v < length vs) (many : length d.ends ≡ length vs) where
    branched_comes : At net scalars low m s a d (open_tokens d z 0 (more c (more v T)) vs rest) → side_of (value_at vs c) ≡ side_no b → Stands net low m (branched c v y n d)
        → Comes net scalars low m s (length d.chans) (length (open_tokens d z 0 (more c (more v T)) vs rest)) 4 a (branched c v y n d)
        (open_tokens (branched c v y n d) z 0 T vs (row (end_place (end_on b (branch_ends c v y n d))) (pick b y n) (value_at vs v) ++ rest))
    branched_comes o is sr =
        let e = copied c d in
        let f = copied v e in
        let w = (copy_of v e).width in
        let u = next f in
        let p = token (copy_of c d).place (value_at vs c) in
        let q = token (copy_of v e).place (value_at vs v) in
        let val = value_at vs v in
        let b0 = fed (copy_of v e) u 1 (fed (copy_of c d) u 0 (with_unit (Branch w) f)) in
        let x : End = record { place = at u 0; width = w } in
        let x' : End = record { place = at u 1; width = w } in
        let f1 = spread x y b0 in
        let f2 = spread x' n f1 in
        let k0 = chan p.place (at u 0) (copy_of c d).width false in
        let k1 = chan q.place (at u 1) w false in
        let xb : Extends d b0 = record { more_units = Branch w ∷ []; more_chans = k0 ∷ k1 ∷ []; units = refl; chans = append_assoc d.chans (k0 ∷ []) (k1 ∷ []) } in
        let s1 = stands_between {d = d} {e = f1} {f = f2} (extends_then d b0 f1 xb (spread_more x y b0)) (spread_more x' n f1) o.stands sr in
        let s0 = stands_between {d = d} {e = b0} {f = f1} xb (spread_more x y b0) o.stands s1 in
        let lc' : c < length d.ends = omega (arith, lc, many) in
        let le = used_many c d in
        let lv' : v < length e.ends = omega (arith, lv, many, le) in
        let o1 = copied_at c z 0 (more v T) vs rest [] o lc' many in
        let o2 = copied_at v z 0 T vs rest (p ∷ []) o1 lv' (le ∙ many) in
        let o3 = at_swapped swap o2 in
        let kn = new_unit {d = f} {e = b0} (Branch w) o3.stands s0 refl in
        let w1 = last_wire {d = b0} (d.chans ++ k0 ∷ []) k1 s0.within refl in
        let w0 = second_wire {d = b0} d.chans k0 k1 s0.within refl in
        let z0 : 0 ≤ u = omega arith in
        let opened = open_tokens f z 0 T vs rest in
        let go = branch_front leaves z0 kn.below o3.stage w kn.is w0 w1 in
        let go' = subst (λ i. Reaches net scalars s 1 a 0 (suc u) m (places (token (at u i) val ∷ opened)) (values (token (at u i) val ∷ opened))) is go in
        let fired = comes_of (length d.chans) (suc (suc (length opened))) 2 (suc u) b0 (token (at u (side_no b)) val ∷ opened) s0 o.calm (inl kn.above, o3.used.1.1) kn.after go' (omega arith)
        (gains (p ∷ q ∷ opened) o3.stage (fresh 0 u m (side_no b) (places (p ∷ q ∷ opened)) kn.below o3.stage.outside) go') in
        let start = comes_from (open_tokens d z 0 (more c (more v T)) vs rest) (p ∷ q ∷ opened) (follow (copied_swaps c z 0 (more v T) vs rest [] d lc' many) (follow (copied_swaps v z 0 T vs rest (p ∷ []) e lv' (le ∙ many)) swap)) fired in
        let Q = spread_quiet x y b0 in
        let Q' = spread_quiet x' n f1 in
        let W = row (end_place (end_on b (branch_ends c v y n d))) (pick b y n) val in
        let listed : token d.control z ∷ ([] ++ ((kept T f.ends vs ++ W) ++ rest)) ≡ open_tokens f2 z 0 T vs (W ++ rest) =
        ap (λ l. token d.control z ∷ l) (append_assoc (kept T f.ends vs) W rest) ∙ tokens_as z 0 T vs (W ++ rest) (sym (Q'.control ∙ Q.control)) (sym (Q'.trigger ∙ Q.trigger)) (sym (Q'.ends ∙ Q.ends)) in
        comes_swapped (swaps_as listed (insert_swaps (token d.control z) [] (kept T f.ends vs) W rest)) (by b start s1 sr)
      where
        by : (b : Bool) → Comes net scalars low m s (length d.chans) (length (open_tokens d z 0 (more c (more v T)) vs rest)) 2 a (fed (copy_of v (copied c d)) (next d) 1 (fed (copy_of c d) (next d) 0 (with_unit (Branch (copy_of v (copied c d)).width) (copied v (copied c d)))))
            (token (at (next d) (side_no b)) (value_at vs v) ∷ open_tokens (copied v (copied c d)) z 0 T vs rest)
            → Stands net low m (spread (record { place = at (next d) 0; width = (copy_of v (copied c d)).width }) y (fed (copy_of v (copied c d)) (next d) 1 (fed (copy_of c d) (next d) 0 (with_unit (Branch (copy_of v (copied c d)).width) (copied v (copied c d))))))
            → Stands net low m (branched c v y n d)
            → Comes net scalars low m s (length d.chans) (length (open_tokens d z 0 (more c (more v T)) vs rest)) 4 a (branched c v y n d) (row (end_place (end_on b (branch_ends c v y n d))) (pick b y n) (value_at vs v) ++ open_tokens (copied v (copied c d)) z 0 T vs rest)
        by true start s1 sr =
            let w = (copy_of v (copied c d)).width in
            let b0 = fed (copy_of v (copied c d)) (next d) 1 (fed (copy_of c d) (next d) 0 (with_unit (Branch w) (copied v (copied c d)))) in
            let x : End = record { place = at (next d) 0; width = w } in
            let x' : End = record { place = at (next d) 1; width = w } in
            let f1 = spread x y b0 in
            let l = length-append (d.chans ++ chan (copy_of c d).place (at (next d) 0) (copy_of c d).width false ∷ []) (chan (copy_of v (copied c d)).place (at (next d) 1) w false ∷ []) in
            let l' = length-append d.chans (chan (copy_of c d).place (at (next d) 0) (copy_of c d).width false ∷ []) in
            let g = chans_long b0 f1 (spread_more x y b0) in
            later_comes leaves x' n f1 (omega (arith, l, l', g)) (comes_then start (spread_comes leaves x y (value_at vs v) start.there s1 few.0)) sr
        by false start s1 sr =
            let w = (copy_of v (copied c d)).width in
            let b0 = fed (copy_of v (copied c d)) (next d) 1 (fed (copy_of c d) (next d) 0 (with_unit (Branch w) (copied v (copied c d)))) in
            let x : End = record { place = at (next d) 0; width = w } in
            let x' : End = record { place = at (next d) 1; width = w } in
            let l = length-append (d.chans ++ chan (copy_of c d).place (at (next d) 0) (copy_of c d).width false ∷ []) (chan (copy_of v (copied c d)).place (at (next d) 1) w false ∷ []) in
            let l' = length-append d.chans (chan (copy_of c d).place (at (next d) 0) (copy_of c d).width false ∷ []) in
            let later = later_comes leaves x y b0 (omega (arith, l, l')) start s1 in
            comes_then later (spread_comes leaves x' n (value_at vs v) later.there sr few.1)

  branched_if_comes : (b : Bool) (c v : ℕ) (z : ℕ) (T : ℕ → ℕ) (vs : List ℕ) (rest : List Token) (y n : ℕ) {s : State} {a : Aside} (d : Draft) → (y < 2 ^ 32) × (n < 2 ^ 32) → c < length vs → v < length vs → length d.ends ≡ length vs
      → At net scalars low m s a d (open_tokens d z 0 (branch_more c v y n T) vs rest) → side_of (value_at vs c) ≡ side_no b → Stands net low m (branched_if c v y n d)
      → Comes net scalars low m s (length d.chans) (length (open_tokens d z 0 (branch_more c v y n T) vs rest)) (4 * branch_one y n) a (branched_if c v y n d)
      (open_tokens (branched_if c v y n d) z 0 T vs (row (end_place (end_on b (sides_if c v y n d))) (pick b y n) (value_at vs v) ++ rest))
  branched_if_comes true c v z T vs rest zero zero d few lc lv many o is sr = comes_within (omega arith) (comes_here o)
  branched_if_comes false c v z T vs rest zero zero d few lc lv many o is sr = comes_within (omega arith) (comes_here o)
  branched_if_comes b c v z T vs rest (suc y) n d few lc lv many o is sr = comes_within (omega arith) (branched_comes b c v (suc y) n z T vs rest d few lc lv many o is sr)
  branched_if_comes b c v z T vs rest zero (suc n) d few lc lv many o is sr = comes_within (omega arith) (branched_comes b c v zero (suc n) z T vs rest d few lc lv many o is sr)

branched_many : (c v y n : ℕ) (d : Draft) → length (branched c v y n d).ends ≡ length d.ends
branched_many c v y n d =
    let e = copied c d in
    let f = copied v e in
    let w = (copy_of v e).width in
    let b0 = fed (copy_of v e) (next f) 1 (fed (copy_of c d) (next f) 0 (with_unit (Branch w) f)) in
    let x : End = record { place = at (next f) 0; width = w } in
    let x' : End = record { place = at (next f) 1; width = w } in
    ap length ((spread_quiet x' n (spread x y b0)).ends ∙ (spread_quiet x y b0).ends) ∙ (used_many v e ∙ used_many c d)

branched_if_many : (c v y n : ℕ) (d : Draft) → length (branched_if c v y n d).ends ≡ length d.ends
branched_if_many c v zero zero d = refl
branched_if_many c v (suc y) n d = branched_many c v (suc y) n d
branched_if_many c v zero (suc n) d = branched_many c v zero (suc n) d

pub all_branched_many : (c v : ℕ) (ys ns : List ℕ) (d : Draft) → length (all_branched c v ys ns d).ends ≡ length d.ends
all_branched_many c v [] ns d = refl
all_branched_many c v (y ∷ ys) ns d = all_branched_many c (plus v 1) ys ns (branched_if c v y (get_or ns v 0) d) ∙ branched_if_many c v y (get_or ns v 0) d

all_sides_many : (c v : ℕ) (ys ns : List ℕ) (d : Draft) → length (all_sides c v ys ns d) ≡ length ys
all_sides_many c v [] ns d = refl
all_sides_many c v (y ∷ ys) ns d = ap suc (all_sides_many c (plus v 1) ys ns (branched_if c v y (get_or ns v 0) d))

-- what the branches put on a side
abbrev outs_of : Bool → List ℕ → List ℕ → ℕ → List Sides → List ℕ → List Token
outs_of b [] ns v ss xs = []
outs_of b (y ∷ ys) ns v [] xs = []
outs_of b (y ∷ ys) ns v (s ∷ ss) [] = []
outs_of b (y ∷ ys) ns v (s ∷ ss) (x ∷ xs) = row (end_place (end_on b s)) (pick b y (get_or ns v 0)) x ++ outs_of b ys ns (plus v 1) ss xs

outs_yes : (ys ns : List ℕ) (v : ℕ) (ss : List Sides) (xs : List ℕ) → length ss ≡ length ys → length xs ≡ length ys → outs_of true ys ns v ss xs ≡ kept (table ys) (ends_on true ss) xs
outs_yes [] ns v [] xs l k = refl
outs_yes [] ns v (s ∷ ss) xs l k = absurd (omega arith)
outs_yes (y ∷ ys) ns v [] xs l k = absurd (omega arith)
outs_yes (y ∷ ys) ns v (s ∷ ss) [] l k = absurd (omega arith)
outs_yes (y ∷ ys) ns v (s ∷ ss) (x ∷ xs) l k = ap (λ t. row (end_place s.yes_end) y x ++ t) (outs_yes ys ns (plus v 1) ss xs (omega arith) (omega arith))

outs_no : (ys ns : List ℕ) (v : ℕ) (ss : List Sides) (xs : List ℕ) → length ss ≡ length ys → length xs ≡ length ys → v + length ys < 2 ^ 32 → outs_of false ys ns v ss xs ≡ kept (λ w. get_or ns (v + w) 0) (ends_on false ss) xs
outs_no [] ns v [] xs l k few = refl
outs_no [] ns v (s ∷ ss) xs l k few = absurd (omega arith)
outs_no (y ∷ ys) ns v [] xs l k few = absurd (omega arith)
outs_no (y ∷ ys) ns v (s ∷ ss) [] l k few = absurd (omega arith)
outs_no (y ∷ ys) ns v (s ∷ ss) (x ∷ xs) l k few =
    let i = outs_no ys ns (plus v 1) ss xs (omega arith) (omega arith) (omega (arith, few)) in
    let j = kept_as (λ w. get_or ns (plus v 1 + w) 0) (λ w. get_or ns (v + suc w) 0) (ends_on false ss) xs (λ w. ap (λ q. get_or ns q 0) (let z : plus v 1 + w ≡ v + suc w = omega (arith, few) in z)) in
    ap (λ q. row (end_place s.no_end) q x ++ outs_of false ys ns (plus v 1) ss xs) (ap (λ q. get_or ns q 0) (let z : v ≡ v + 0 = omega arith in z))
    ∙ ap (λ t. row (end_place s.no_end) (get_or ns (v + 0) 0) x ++ t) (i ∙ j)

-- the table of a side
abbrev pub table_on : Bool → List ℕ → List ℕ → List ℕ
table_on true ys ns = ys
table_on false ys ns = ns

outs_kept : (b : Bool) (ys ns : List ℕ) (ss : List Sides) (xs : List ℕ) → length ss ≡ length ys → length xs ≡ length ys → length ys < 2 ^ 32 → outs_of b ys ns 0 ss xs ≡ kept (table (table_on b ys ns)) (ends_on b ss) xs
outs_kept true ys ns ss xs l k few = outs_yes ys ns 0 ss xs l k
outs_kept false ys ns ss xs l k few = outs_no ys ns 0 ss xs l k (omega (arith, few)) ∙ kept_as (λ w. get_or ns (0 + w) 0) (table ns) (ends_on false ss) xs (λ w. ap (λ q. get_or ns q 0) (let z : 0 + w ≡ w = omega arith in z))

pub on_yes : (ss : List Sides) → ends_on true ss ≡ yes_ends ss
on_yes [] = refl
on_yes (s ∷ ss) = ap (λ es. s.yes_end ∷ es) (on_yes ss)

pub on_no : (ss : List Sides) → ends_on false ss ≡ no_ends ss
on_no [] = refl
on_no (s ∷ ss) = ap (λ es. s.no_end ∷ es) (on_no ss)

ends_on_many : (b : Bool) (ss : List Sides) → length (ends_on b ss) ≡ length ss
ends_on_many b [] = refl
ends_on_many b (s ∷ ss) = ap suc (ends_on_many b ss)

-- the uses of a side
taken_swaps : (ws : List ℕ) (es : List (Option End)) (vs : List ℕ) → AreBelow (length es) ws → length es ≡ length vs → Swaps (kept (more_all ws nothing) es vs) (data_tokens (taken ws es) (map (value_at vs) ws))
taken_swaps [] es vs below many = swaps_of (none_kept nothing es vs (λ w. refl))
taken_swaps (v ∷ ws) es vs below many =
    let l = length-set es v (Some (record { place = after_place (end_of es v).place; width = (end_of es v).width })) in
    follow (take_kept v (more_all ws nothing) es vs below.0 many) (keep (taken_swaps ws (used v es) vs (below_in ws (length es) (length (used v es)) (sym l) below.1) (l ∙ many)))

module _ {net : Net} {scalars : List ℕ} {low m : ℕ} (leaves : Leaves net) where
  all_branched_comes : (b : Bool) (c : ℕ) (ys ns : List ℕ) (v : ℕ) (xs : List ℕ) (z : ℕ) (T : ℕ → ℕ) (vs : List ℕ) (rest : List Token) {s : State} {a : Aside} (d : Draft) → ((w : ℕ) → get_or ys w 0 < 2 ^ 32) → ((w : ℕ) → get_or ns w 0 < 2 ^ 32)
      → v + length ys ≤ length vs → length vs + 1 < 2 ^ 32 → length xs ≡ length ys → ((i : ℕ) → i < length ys → get_or xs i 0 ≡ value_at vs (v + i)) → c < length vs → length d.ends ≡ length vs
      → At net scalars low m s a d (open_tokens d z 0 (branches_more c v ys ns T) vs rest) → side_of (value_at vs c) ≡ side_no b → Stands net low m (all_branched c v ys ns d)
      → Comes net scalars low m s (length d.chans) (length (open_tokens d z 0 (branches_more c v ys ns T) vs rest)) (4 * branches_many v ys ns) a (all_branched c v ys ns d)
      (open_tokens (all_branched c v ys ns d) z 0 T vs (outs_of b ys ns v (all_sides c v ys ns d) xs ++ rest))
  all_branched_comes b c [] ns v xs z T vs rest d fy fn within small l is_x lc many o is sr = comes_within (omega arith) (comes_here o)
  all_branched_comes b c (y ∷ ys) ns v [] z T vs rest d fy fn within small l is_x lc many o is sr = absurd (omega arith)
  all_branched_comes b c (y ∷ ys) ns v (x ∷ xs) z T vs rest {s = s} {a = a} d fy fn within small l is_x lc many o is sr =
      let n = get_or ns v 0 in
      let e = branched_if c v y n d in
      let r = all_branched c (plus v 1) ys ns e in
      let se = stands_between {d = d} {e = e} {f = r} (branched_if_extends d c v y n) (all_branched_extends e c (plus v 1) ys ns) o.stands sr in
      let T' = branches_more c (plus v 1) ys ns T in
      let one = branched_if_comes leaves b c v z T' vs rest y n d (fy 0, fn v) lc (omega (arith, within)) many o is se in
      let W = row (end_place (end_on b (sides_if c v y n d))) (pick b y n) (value_at vs v) in
      let W' = row (end_place (end_on b (sides_if c v y n d))) (pick b y n) x in
      let next_v : plus v 1 ≡ suc v = omega (arith, within, small) in
      let later : (i : ℕ) → i < length ys → get_or xs i 0 ≡ value_at vs (plus v 1 + i) = (λ i lt. is_x (suc i) (omega (arith, lt)) ∙ ap (value_at vs) (let q : v + suc i ≡ plus v 1 + i = omega (arith, next_v) in q)) in
      let two = all_branched_comes b c ys ns (plus v 1) xs z T vs (W ++ rest) e (λ w. fy (suc w)) fn (omega (arith, within, next_v)) small (omega arith) later lc (branched_if_many c v y n d ∙ many) one.there is sr in
      let D = outs_of b ys ns (plus v 1) (all_sides c (plus v 1) ys ns e) xs in
      let here : W ≡ W' = ap (λ q. row (end_place (end_on b (sides_if c v y n d))) (pick b y n) q) (ap (value_at vs) (let q : v ≡ v + 0 = omega arith in q) ∙ sym (is_x 0 (omega arith))) in
      let turned : Swaps (D ++ (W ++ rest)) ((W' ++ D) ++ rest) = swaps_as (ap (λ q. q ++ (D ++ rest)) here ∙ sym (append_assoc W' D rest)) (block_first D W rest) in
      comes_within (omega arith) (comes_swapped (keep (swaps_behind (kept T r.ends vs) turned)) (comes_then one two))

  -- the branches, and the one of the control token
  pub parted_comes : (b : Bool) (c : ℕ) (ys ns ws : List ℕ) (z : ℕ) (T : ℕ → ℕ) (vs : List ℕ) {s : State} {a : Aside} (d : Draft) → ((w : ℕ) → get_or ys w 0 < 2 ^ 32) → ((w : ℕ) → get_or ns w 0 < 2 ^ 32) → length ys ≡ length vs → length vs + 1 < 2 ^ 32
      → c < length vs → length d.ends ≡ length vs → AreBelow (length vs) ws → ((w : ℕ) → table (table_on b ys ns) w ≡ more_all ws nothing w) → ((w : ℕ) → T w ≡ branches_more c 0 ys ns (more c nothing) w)
      → At net scalars low m s a d (open_tokens d z 0 T vs []) → side_of (value_at vs c) ≡ side_no b → Stands net low m (control_branched c (all_branched c 0 ys ns d))
      → Comes net scalars low m s (length d.chans) (length (open_tokens d z 0 T vs [])) (4 * branches_many 0 ys ns + 2) a (control_branched c (all_branched c 0 ys ns d))
      (token (at (next (copied c (all_branched c 0 ys ns d))) (side_no b)) z ∷ data_tokens (taken ws (ends_on b (all_sides c 0 ys ns d))) (map (value_at vs) ws))
  parted_comes b c ys ns ws z T vs {s = s} {a = a} d fy fn l small lc many below chosen left o is sr =
      let e = all_branched c 0 ys ns d in
      let f = copied c e in
      let r = control_branched c e in
      let ss = all_sides c 0 ys ns d in
      let se = stands_between {d = d} {e = e} {f = r} (all_branched_extends d c 0 ys ns) (control_branched_extends e c) o.stands sr in
      let e1 = tokens_same d z 0 0 T (branches_more c 0 ys ns (more c nothing)) vs [] refl left in
      let one = all_branched_comes b c ys ns 0 vs z (more c nothing) vs [] d fy fn (omega (arith, l)) small (sym l) (λ i lt. ap (value_at vs) (let q : i ≡ 0 + i = omega arith in q)) lc many (at_swapped (swaps_of e1) o) is se in
      let D = outs_of b ys ns 0 ss vs in
      let em = all_branched_many c 0 ys ns d in
      let lc' : c < length e.ends = omega (arith, lc, em, many) in
      let o1 = copied_at c z 0 nothing vs (D ++ []) [] one.there lc' (em ∙ many) in
      let p = token (copy_of c e).place (value_at vs c) in
      let q = token e.control z in
      let none = no_values f z vs D in
      let o2 = at_swapped (keep (swaps_of none)) o1 in
      let k0 = chan p.place (at (next f) 0) (copy_of c e).width false in
      let k1 = chan e.control (at (next f) 1) 32 true in
      let n = new_unit {d = f} {e = r} (Branch 32) o2.stands sr refl in
      let w1 = last_wire {d = r} (e.chans ++ k0 ∷ []) k1 sr.within refl in
      let w0 = second_wire {d = r} e.chans k0 k1 sr.within refl in
      let z0 : 0 ≤ next f = omega arith in
      let go = branch_front leaves z0 n.below o2.stage 32 n.is w0 w1 in
      let go' = subst (λ i. Reaches net scalars one.to 1 a 0 (suc (next f)) m (places (token (at (next f) i) z ∷ D)) (values (token (at (next f) i) z ∷ D))) is go in
      let fired = comes_of (length e.chans) (suc (suc (length D))) 2 (suc (next f)) r (token (at (next f) (side_no b)) z ∷ D) sr one.there.calm (inl n.above, o2.used.1.1) n.after go' (omega arith)
      (gains (p ∷ q ∷ D) o2.stage (fresh 0 (next f) m (side_no b) (places (p ∷ q ∷ D)) n.below o2.stage.outside) go') in
      let two = comes_from (open_tokens e z 0 (more c nothing) vs (D ++ [])) (p ∷ q ∷ D) (follow (copied_swaps c z 0 nothing vs (D ++ []) [] e lc' (em ∙ many)) (keep (swaps_of none))) fired in
      let sm = all_sides_many c 0 ys ns d in
      let om = ends_on_many b ss in
      let es_many : length (ends_on b ss) ≡ length vs = om ∙ (sm ∙ l) in
      let data1 : D ≡ kept (more_all ws nothing) (ends_on b ss) vs = outs_kept b ys ns ss vs sm (sym l) (omega (arith, l, small)) ∙ kept_as (table (table_on b ys ns)) (more_all ws nothing) (ends_on b ss) vs chosen in
      let turned = follow (swaps_of data1) (taken_swaps ws (ends_on b ss) vs (below_in ws (length vs) (length (ends_on b ss)) (sym es_many) below) es_many) in
      comes_from (open_tokens d z 0 T vs []) (open_tokens d z 0 (branches_more c 0 ys ns (more c nothing)) vs []) (swaps_of e1) (comes_swapped (keep turned) (comes_then one two))

-- ---- how many branches there are

abbrev total : List ℕ → ℕ
total [] = 0
total (x ∷ xs) = x + total xs

total_added : (v : ℕ) (t : List ℕ) → total (added v 1 t) ≤ total t + 1
total_added v t = one v t (plus (get_or t v 0) 1) (omega arith)
  where
    one : (v : ℕ) (t : List ℕ) (x : ℕ) → x ≤ get_or t v 0 + 1 → total (set t v x) ≤ total t + 1
    one v [] x l = omega arith
    one zero (y ∷ t) x l = omega (arith, l)
    one (suc v) (y ∷ t) x l = let i = one v t x l in omega (arith, i)

total_all : (vs t : List ℕ) → total (all_added vs t) ≤ total t + length vs
total_all [] t = omega arith
total_all (v ∷ vs) t = let i = total_all vs (added v 1 t) in let j = total_added v t in omega (arith, i, j)

total_end : (xs : List ℕ) → total (xs ++ 0 ∷ []) ≡ total xs
total_end [] = refl
total_end (x ∷ xs) = ap (λ k. x + k) (total_end xs)

total_zeros : (n : ℕ) → total (zeros n) ≡ 0
total_zeros zero = refl
total_zeros (suc n) = total_end (zeros n) ∙ total_zeros n

abbrev part : List ℕ → ℕ → List ℕ → ℕ
part ns v [] = 0
part ns v (y ∷ ys) = get_or ns v 0 + part ns (plus v 1) ys

part_empty : (v : ℕ) (ys : List ℕ) → part [] v ys ≡ 0
part_empty v [] = refl
part_empty v (y ∷ ys) = let i = part_empty (plus v 1) ys in omega (arith, i)

part_later : (n : ℕ) (ns : List ℕ) (v : ℕ) (ys : List ℕ) → v + length ys + 1 < 2 ^ 32 → part (n ∷ ns) (suc v) ys ≡ part ns v ys
part_later n ns v [] few = refl
part_later n ns v (y ∷ ys) few =
    let e : plus (suc v) 1 ≡ suc (plus v 1) = omega (arith, few) in
    ap (λ k. get_or ns v 0 + k) (ap (λ q. part (n ∷ ns) q ys) e ∙ part_later n ns (plus v 1) ys (omega (arith, few)))

part_most : (ns ys : List ℕ) → length ys + 1 < 2 ^ 32 → part ns 0 ys ≤ total ns
part_most ns [] few = omega arith
part_most [] (y ∷ ys) few = let e = part_empty 0 (y ∷ ys) in omega (arith, e)
part_most (n ∷ ns) (y ∷ ys) few =
    let i = part_most ns ys (omega (arith, few)) in
    let j = part_later n ns 0 ys (omega (arith, few)) in
    let q : part (n ∷ ns) (plus 0 1) ys ≡ part (n ∷ ns) 1 ys = refl in
    omega (arith, i, j, q)

branches_most : (v : ℕ) (ys ns : List ℕ) → branches_many v ys ns ≤ total ys + part ns v ys
branches_most v [] ns = omega arith
branches_most v (y ∷ ys) ns = let i = branches_most (plus v 1) ys ns in let j = one y (get_or ns v 0) in omega (arith, i, j)
  where
    one : (y n : ℕ) → branch_one y n ≤ y + n
    one zero zero = omega arith
    one (suc y) n = omega arith
    one zero (suc n) = omega arith

pub branches_few : (n : ℕ) (x y : To) → n + 1 < 2 ^ 32 → branches_many 0 (handed_often n x) (handed_often n y) ≤ length x.with + length y.with
branches_few n x y few =
    let a = branches_most 0 (handed_often n x) (handed_often n y) in
    let lx = all_added_length x.with (zeros n) in
    let zl = zeros_length n in
    let b = part_most (handed_often n y) (handed_often n x) (omega (arith, few, lx, zl)) in
    let c = total_all x.with (zeros n) in
    let d = total_all y.with (zeros n) in
    let z = total_zeros n in
    omega (arith, a, b, c, d, z)
