-- The jump of a block keeps the balance: what is handed on is an edge, and nothing is left of the block's values.
use Rattle.std.proofs.Common.{◌≡◌, ℕ, zero, suc, ◌+◌, ◌<◌, ◌^◌, List, [], ◌∷◌, ◌++◌, length, get_or, set, Bool, true, false, Option, None, refl, sym, ap, ◌∙◌, subst, inl, inr, arith}
use Rattle.std.specs.Prelude.{IsTrue, slice_get, cond}
use Rattle.std.proofs.lemmas.Bool.{cases_eq}
use Rattle.ir.specs.declared.graph.To.{To}
use Rattle.ir.specs.Shapes.{Shape, IsOfWidth}
use Rattle.ir.specs.Graphs.{AreHanded}
use Rattle.net_types.specs.declared.net.Net.{Net}
use Rattle.net_types.specs.declared.net.Port.{Port}
use Rattle.net_types.specs.declared.net.Unit.TheVariants.{Branch, Fork}
use Rattle.net_types.specs.Nets.{at}
use Rattle.net_types.specs.Rules.{is_width}
use Rattle.net_types.specs.Tables.{array_width}
use Rattle.circuit_build.specs.declared.draft.Draft.{Draft}
use Rattle.circuit_build.specs.declared.draft.Edge.{Edge}
use Rattle.circuit_build.specs.declared.draft.End.{End}
use Rattle.circuit_build.specs.Drafts.{number, plus, next, with_unit, fed, buffered, used, copied, copy_of, spread, spread_end}
use Rattle.circuit_build.specs.Steps.{queue_of, queue_or}
use Rattle.circuit_build.specs.Uses.{handed_often}
use Rattle.circuit_build.specs.Jumps.{with_edge, is_of_head, passed, passed_end, all_passed, passed_ends, gone, branched, branch_ends, branched_if, sides_if, all_branched, all_sides, yes_ends, no_ends, taken, control_branched, parted}
use Rattle.circuit_build.proofs.CountBooks.{Weight, Sum, Books, moved, lay_unit, lay_chan}
use Rattle.circuit_build.proofs.CountItems.{run, end_run, ends, ends_same, ends_none, ends_used, wide_at, Found, Fitting, fitting_used, Open, shifted, leaves, buffered_open, copy_width, copied_open, fed_books, spread_books, SameEnds, spread_ends, spread_found}
use Rattle.circuit_build.proofs.CountQueues.{queues_in, queues_out}
use Rattle.circuit_build.proofs.CountSteps.{carried, is_zero, edges, hsum, owe_of, rest_of, EdgesFact, Within}
use Rattle.circuit_build.proofs.Fields as fields
use Rattle.circuit_build.proofs.Remains.{one_if, one_own, one_other, often, branch_uses, branches_uses, of_width_below}

abbrev pub widths : List End → List ℕ
widths [] = []
widths (e ∷ es) = e.width ∷ widths es

abbrev pub edge_weight : Weight → List ℕ → Edge → ℕ
edge_weight f hs e = cond (is_zero (slice_get hs e.to)) 0 (f e.control 32 true + carried f e.with)

pub edges_more : (f : Weight) (hs : List ℕ) (es : List Edge) (e : Edge) → edges f hs (es ++ e ∷ []) ≡ edges f hs es + edge_weight f hs e
edges_more f hs [] e = omega arith
edges_more f hs (x ∷ es) e = let i = edges_more f hs es e in omega (arith, i)

-- what is laid in a block leaves the edges, the heads and the queues
pub record Same (d e : Draft) : Type 0 where
  pub edges : e.edges ≡ d.edges
  pub heads : e.heads ≡ d.heads
  pub queues : e.queues ≡ d.queues

-- between two blocks: nothing of a block is open
pub record Between (net : Net) (S : ℕ → Type 0) (K : Weight → ℕ → ℕ → ℕ) (J : EdgesFact) (P : ℕ → List Port) (G : ℕ → ℕ) (d : Draft) : Type 0 where
  pub books : Books net d.units d.chans (owe_of net K P G d) (rest_of net P G d)
  pub kept : J d.edges d.heads d.tails
  pub stored : (a : ℕ) → queue_of d a ≡ None → S a → ⊥

-- an edge to a target whose arguments have these widths may be added to the edges: its head has not taken one
pub record Adds (J : EdgesFact) (to : ℕ) (args : List ℕ) (M : EdgesFact) : Type 0 where
  pub free : (es : List Edge) (hs ts : List ℕ) → J es hs ts → is_zero (slice_get hs to) ≡ false
  pub more : (e : Edge) (es : List Edge) (hs ts : List ℕ) → e.to ≡ to → widths e.with ≡ args → J es hs ts → M (es ++ e ∷ []) hs (set ts e.to (number (length (es ++ e ∷ []))))

-- ---- what keeps the ends

-- the ends of d, in e
open_from : {net : Net} {o r s : Sum} {ws : Shape} {L : ℕ → ℕ} {k : ℕ} (d e : Draft) → SameEnds d e → Open net d o s ws L k → Books net e.units e.chans o (λ f. f d.control 32 true + run f d.trigger 32 k + ends f L d.ends + r f) → Open net e o r ws L k
open_from {net} {o} {r} {s} {ws} {L} {k} d e h w b = record {
  books = moved o (λ f. f e.control 32 true + run f e.trigger 32 k + ends f L e.ends + r f) b (λ f. refl)
      (λ f. let x = ap (λ p. f p 32 true) h.control in let y = ap (λ p. run f p 32 k) h.trigger in let z = ap (λ l. ends f L l) h.ends in omega (arith, x, y, z));
  fits = subst (λ l. Fitting l ws L) (sym h.ends) w.fits;
  wide = w.wide;
  ahead = λ v l. w.ahead v l ∙ ap (λ t. get_or t v 0) (sym h.uses);
  few = λ v. let x = ap (λ t. get_or t v 0) h.uses in let y = w.few v in omega (arith, x, y);
}

-- nothing is left of the values
spent : {net : Net} {d : Draft} {o r : Sum} {ws : Shape} {L : ℕ → ℕ} → Open net d o r ws L 0 → ((u : ℕ) → L u ≡ 0) → Books net d.units d.chans o (λ f. f d.control 32 true + r f)
spent {net} {d} {o} {r} {ws} {L} h z = moved o (λ f. f d.control 32 true + r f) h.books (λ f. refl) (λ f. let x = ends_none f d.ends L (λ v l. z v) in omega (arith, x))

-- ---- one side: a use of each value, past a buffer where it would lead from a head to itself

passed_open : {net : Net} {d : Draft} {o : Sum} {ws : Shape} {L : ℕ → ℕ} {k : ℕ} (t : Bool) (x : End) (w : ℕ) (r : Sum) → x.width ≡ w → IsTrue (is_width w) → Open net d o (λ f. f x.place w false + r f) ws L k → Open net (passed t x d) o (λ f. f (passed_end t x d).place w false + r f) ws L k
passed_open {net} {d} {o} {ws} {L} {k} true x w r e wide h =
    let n = next d in
    let fits : IsTrue (is_width x.width) = subst (λ y. IsTrue (is_width y)) (sym e) wide in
    let b = lay_unit (Fork x.width 1) false (λ f. f (at n 0) x.width false + o f) (λ f. f d.control 32 true + run f d.trigger 32 k + ends f L d.ends + (f x.place w false + r f) + f (at n 0) w false) h.books fits (λ f. omega arith)
    (λ f. let y = ap (λ v. f (at n 0) v false) e in omega (arith, y)) in
    record {
      books = fed_books x n 0 x.width o (λ f. f d.control 32 true + run f d.trigger 32 k + ends f L d.ends + (f (at n 0) w false + r f)) b refl (λ f. refl) (λ f. let y = ap (λ v. f x.place v false) e in omega (arith, y));
      fits = h.fits;
      wide = h.wide;
      ahead = h.ahead;
      few = h.few;
    }
passed_open false x w r e wide h = h

passed_width : (t : Bool) (x : End) (d : Draft) → (passed_end t x d).width ≡ x.width
passed_width true x d = refl
passed_width false x d = refl

record Passed (net : Net) (h n : ℕ) (d : Draft) (owe rest : Sum) (ws : Shape) (vs args : List ℕ) : Type 0 where
  open_ends : Open net (all_passed h n vs d) owe (λ f. carried f (passed_ends h n vs d) + rest f) ws (λ u. 0) 0
  handed : widths (passed_ends h n vs d) ≡ args

all_passed_open : {net : Net} {o : Sum} {ws : Shape} (h n : ℕ) (vs args : List ℕ) (d : Draft) (r : Sum) (L : ℕ → ℕ) → AreHanded ws vs args → ((u : ℕ) → L u ≡ often u vs) → Open net d o r ws L 0 → Passed net h n d o r ws vs args
all_passed_open {net} {o} {ws} h n [] [] d r L a m x = record { open_ends = leaves (λ u. 0) (shifted o (λ f. 0 + r f) x (λ f. refl) (λ f. omega arith)) m; handed = refl }
all_passed_open {net} {o} {ws} h n [] (w ∷ args) d r L a m x = absurd a
all_passed_open {net} {o} {ws} h n (v ∷ vs) [] d r L a m x = absurd a
all_passed_open {net} {o} {ws} h n (v ∷ vs) (w ∷ args) d r L (i, y) m x =
    let M : ℕ → ℕ = λ u. often u vs in
    let t : (u : ℕ) → L u ≡ M u + one_if v u = λ u. let z = m u in omega (arith, z) in
    let c = copied_open v w M x i t in
    let z = copy_width v w M x i t in
    let e = copy_of v d in
    let b = is_of_head e.place h n in
    let p = passed_open b e w r z (wide_at ws v w x.wide i) c in
    let q = passed_width b e (copied v d) in
    let j = all_passed_open h n vs args (passed b e (copied v d)) (λ f. f (passed_end b e (copied v d)).place w false + r f) M y (λ u. refl) p in
    record {
      open_ends = shifted o (λ f. carried f (passed_ends h n (v ∷ vs) d) + r f) j.open_ends (λ f. refl) (λ f. let g = ap (λ k. f (passed_end b e (copied v d)).place k false) (q ∙ z) in omega (arith, g));
      handed = ap (λ k. k ∷ widths (passed_ends h n vs (passed b e (copied v d)))) (q ∙ z) ∙ ap (λ l. w ∷ l) j.handed;
    }

-- ---- a branch for each value that either side hands on

branched_open : {net : Net} {d : Draft} {o r : Sum} {ws : Shape} {L : ℕ → ℕ} (c v w y n : ℕ) (M : ℕ → ℕ) → Open net d o r ws L 0 → IsOfWidth ws c 32 → IsOfWidth ws v w → ((u : ℕ) → L u ≡ M u + (one_if c u + one_if v u)) → y < 2 ^ 32 → n < 2 ^ 32
    → Open net (branched c v y n d) o (λ f. end_run f (branch_ends c v y n d).yes_end y + (end_run f (branch_ends c v y n d).no_end n + r f)) ws M 0
branched_open {net} {d} {o} {r} {ws} {L} c v w y n M h i j t few more =
    let N : ℕ → ℕ = λ u. M u + one_if v u in
    let tc : (u : ℕ) → L u ≡ N u + one_if c u = λ u. let z = t u in omega (arith, z) in
    let e = copied c d in
    let g = copied v e in
    let u = next g in
    let x = (copy_of v e).width in
    let a = copied_open c 32 N h i tc in
    let b = copied_open v w M a j (λ u. refl) in
    let z : x ≡ w = copy_width v w M a j (λ u. refl) in
    let fits : IsTrue (is_width x) = subst (λ y. IsTrue (is_width y)) (sym z) (wide_at ws v w h.wide j) in
    let C : Sum = λ f. f g.control 32 true + run f g.trigger 32 0 + ends f M g.ends in
    let l = lay_unit (Branch x) false (λ f. f (at u 0) 32 false + (f (at u 1) x false + o f))
    (λ f. C f + (f (copy_of v e).place x false + (f (copy_of c d).place 32 false + r f)) + f (at u 0) x false + f (at u 1) x false) b.books fits (λ f. omega arith)
    (λ f. let t = ap (λ y. f (copy_of v e).place y false) z in omega (arith, t)) in
    let m = fed_books (copy_of c d) u 0 32 (λ f. f (at u 1) x false + o f) (λ f. C f + (f (copy_of v e).place x false + r f) + f (at u 0) x false + f (at u 1) x false) l (copy_width c 32 N h i tc) (λ f. refl) (λ f. omega arith) in
    let k = fed_books (copy_of v e) u 1 x o (λ f. C f + r f + f (at u 0) x false + f (at u 1) x false) m refl (λ f. refl) (λ f. omega arith) in
    let q = fed (copy_of v e) u 1 (fed (copy_of c d) u 0 (with_unit (Branch x) g)) in
    let one : End = record { place = at u 0; width = x } in
    let two : End = record { place = at u 1; width = x } in
    let s1 = spread_books q one y (λ f. C f + r f + f (at u 1) x false) k fits few (λ f. omega arith) in
    let p = spread one y q in
    let s2 = spread_books p two n (λ f. C f + r f + end_run f (spread_end one y q) y) s1 fits more (λ f. omega arith) in
    let k1 = spread_ends one y q in
    let k2 = spread_ends two n p in
    let all = spread two n p in
    let same : SameEnds g all = record { control = k2.control ∙ k1.control; trigger = k2.trigger ∙ k1.trigger; ends = k2.ends ∙ k1.ends; uses = k2.uses ∙ k1.uses } in
    open_from g all same b (moved o (λ f. C f + (end_run f (branch_ends c v y n d).yes_end y + (end_run f (branch_ends c v y n d).no_end n + r f))) s2 (λ f. refl) (λ f. omega arith))

branch_fit : {net : Net} {d : Draft} {o r : Sum} {ws : Shape} {L : ℕ → ℕ} (c v w y n : ℕ) (M : ℕ → ℕ) → Open net d o r ws L 0 → IsOfWidth ws c 32 → IsOfWidth ws v w → ((u : ℕ) → L u ≡ M u + (one_if c u + one_if v u)) → (0 < y → Found ((branch_ends c v y n d).yes_end ∷ []) 0 w) × (0 < n → Found ((branch_ends c v y n d).no_end ∷ []) 0 w)
branch_fit {net} {d} {o} {r} {ws} {L} c v w y n M h i j t =
    let N : ℕ → ℕ = λ u. M u + one_if v u in
    let a = copied_open c 32 N h i (λ u. let z = t u in omega (arith, z)) in
    let e = copied c d in
    let z = copy_width v w M a j (λ u. refl) in
    let x = (copy_of v e).width in
    let g = copied v e in
    let u = next g in
    let q = fed (copy_of v e) u 1 (fed (copy_of c d) u 0 (with_unit (Branch x) g)) in
    let one : End = record { place = at u 0; width = x } in
    (λ s. spread_found q one y w z s, λ s. spread_found (spread one y q) (record { place = at u 1; width = x }) n w z s)

record SidesFit (c v y n : ℕ) (w : ℕ) (d : Draft) : Type 0 where
  yes : 0 < y → Found ((sides_if c v y n d).yes_end ∷ []) 0 w
  no : 0 < n → Found ((sides_if c v y n d).no_end ∷ []) 0 w

sides_fit : {net : Net} {d : Draft} {o r : Sum} {ws : Shape} {L : ℕ → ℕ} (c v w y n : ℕ) (M : ℕ → ℕ) → Open net d o r ws L 0 → IsOfWidth ws c 32 → IsOfWidth ws v w → ((u : ℕ) → L u ≡ M u + branch_uses c v y n u) → SidesFit c v y n w d
sides_fit {net} {d} {o} {r} {ws} {L} c v w zero zero M h i j t = record { yes = λ s. absurd (omega (arith, s)); no = λ s. absurd (omega (arith, s)) }
sides_fit c v w (suc y) n M h i j t = let f = branch_fit c v w (suc y) n M h i j t in record { yes = f.0; no = f.1 }
sides_fit c v w zero (suc n) M h i j t = let f = branch_fit c v w zero (suc n) M h i j t in record { yes = f.0; no = f.1 }

branched_if_open : {net : Net} {d : Draft} {o r : Sum} {ws : Shape} {L : ℕ → ℕ} (c v w y n : ℕ) (M : ℕ → ℕ) → Open net d o r ws L 0 → IsOfWidth ws c 32 → (0 < y + n → IsOfWidth ws v w) → ((u : ℕ) → L u ≡ M u + branch_uses c v y n u) → y < 2 ^ 32 → n < 2 ^ 32
    → Open net (branched_if c v y n d) o (λ f. end_run f (sides_if c v y n d).yes_end y + (end_run f (sides_if c v y n d).no_end n + r f)) ws M 0
branched_if_open {net} {d} {o} {r} {ws} {L} c v w zero zero M h i j t few more = leaves M (shifted o (λ f. 0 + (0 + r f)) h (λ f. refl) (λ f. omega arith)) (λ u. let z = t u in omega (arith, z))
branched_if_open c v w (suc y) n M h i j t few more = branched_open c v w (suc y) n M h i (j (omega arith)) t few more
branched_if_open c v w zero (suc n) M h i j t few more = branched_open c v w zero (suc n) M h i (j (omega arith)) t few more

-- each value that is handed on has a width
abbrev pub Named : Shape → ℕ → List ℕ → Type 0
Named ws v ys = (i : ℕ) → 0 < get_or ys i 0 → (w : ℕ) × IsOfWidth ws (v + i) w

abbrev pub FewEach : List ℕ → Type 0
FewEach ys = (i : ℕ) → get_or ys i 0 < 2 ^ 32

record Branched (net : Net) (d : Draft) (owe rest : Sum) (ws : Shape) (c v : ℕ) (ys ns : List ℕ) : Type 0 where
  open_ends : Open net (all_branched c v ys ns d) owe (λ f. ends f (λ i. get_or ys i 0) (yes_ends (all_sides c v ys ns d)) + (ends f (λ i. get_or ns (v + i) 0) (no_ends (all_sides c v ys ns d)) + rest f)) ws (one_if c) 0
  yes_long : length (yes_ends (all_sides c v ys ns d)) ≡ length ys
  no_long : length (no_ends (all_sides c v ys ns d)) ≡ length ys
  yes_found : (i w : ℕ) → IsOfWidth ws (v + i) w → 0 < get_or ys i 0 → Found (yes_ends (all_sides c v ys ns d)) i w
  no_found : (i w : ℕ) → i < length ys → IsOfWidth ws (v + i) w → 0 < get_or ns (v + i) 0 → Found (no_ends (all_sides c v ys ns d)) i w

side_width : (ws : Shape) (v y n : ℕ) → (0 < y → (w : ℕ) × IsOfWidth ws v w) → (0 < n → (w : ℕ) × IsOfWidth ws v w) → (w : ℕ) × (0 < y + n → IsOfWidth ws v w)
side_width ws v zero zero a b = (0, λ s. absurd (omega (arith, s)))
side_width ws v (suc y) n a b = let x = a (omega arith) in (x.0, λ s. x.1)
side_width ws v zero (suc n) a b = let x = b (omega arith) in (x.0, λ s. x.1)

found_cons : (z : Option End) (zs : List (Option End)) (k w : ℕ) → (k ≡ 0 → Found (z ∷ []) 0 w) → ((j : ℕ) → k ≡ suc j → Found zs j w) → Found (z ∷ zs) k w
found_cons z zs zero w a b = let f = a refl in record { here = f.here; width = f.width }
found_cons z zs (suc j) w a b = let f = b j refl in record { here = f.here; width = f.width }

all_branched_open : {net : Net} {o : Sum} {ws : Shape} (c v : ℕ) (ys ns : List ℕ) (d : Draft) (r : Sum) (L : ℕ → ℕ) → IsOfWidth ws c 32 → v + length ys < 2 ^ 32 → Named ws v ys → Named ws 0 ns → FewEach ys → FewEach ns → ((u : ℕ) → L u ≡ one_if c u + branches_uses c v ys ns u) → Open net d o r ws L 0
    → Branched net d o r ws c v ys ns
all_branched_open {net} {o} {ws} c v [] ns d r L i few a b fa fb t h = record {
  open_ends = leaves (one_if c) (shifted o (λ f. 0 + (0 + r f)) h (λ f. refl) (λ f. omega arith)) (λ u. let z = t u in omega (arith, z));
  yes_long = refl;
  no_long = refl;
  yes_found = λ i w j s. absurd (omega (arith, s));
  no_found = λ i w l j s. absurd (omega (arith, l));
}
all_branched_open {net} {o} {ws} c v (y ∷ ys) ns d r L i few a b fa fb t h =
    let n = get_or ns v 0 in
    let e = branched_if c v y n d in
    let M : ℕ → ℕ = λ u. one_if c u + branches_uses c (plus v 1) ys ns u in
    let split : (u : ℕ) → L u ≡ M u + branch_uses c v y n u = λ u. let z = t u in omega (arith, z) in
    let v0 : v + 0 ≡ v = omega arith in
    let wj = side_width ws v y n (λ s. let x = a 0 s in (x.0, subst (λ k. IsOfWidth ws k x.0) v0 x.1)) (λ s. let x = b v s in (x.0, subst (λ k. IsOfWidth ws k x.0) (let q : 0 + v ≡ v = omega arith in q) x.1)) in
    let x = branched_if_open c v wj.0 y n M h i wj.1 split (fa 0) (fb v) in
    let one = (sides_if c v y n d).yes_end in
    let two = (sides_if c v y n d).no_end in
    let p : plus v 1 ≡ suc v = omega (arith, few) in
    let rest = all_branched_open c (plus v 1) ys ns e (λ f. end_run f one y + (end_run f two n + r f)) M i (omega (arith, few))
    (λ k s. let z = a (suc k) s in (z.0, subst (λ m. IsOfWidth ws m z.0) (let q : v + suc k ≡ plus v 1 + k = omega (arith, p) in q) z.1)) b (λ k. fa (suc k)) fb (λ u. refl) x in
    let ss = all_sides c (plus v 1) ys ns e in
    let shift : (k : ℕ) → plus v 1 + k ≡ v + suc k = λ k. omega (arith, p) in
    let here : (k w : ℕ) → k ≡ 0 → IsOfWidth ws (v + k) w → SidesFit c v y n w d = λ k w z q. sides_fit c v w y n M h i (subst (λ m. IsOfWidth ws m w) (let g : v + k ≡ v = omega (arith, z) in g) q) split in
    record {
      open_ends = shifted o (λ f. ends f (λ k. get_or (y ∷ ys) k 0) (one ∷ yes_ends ss) + (ends f (λ k. get_or ns (v + k) 0) (two ∷ no_ends ss) + r f)) rest.open_ends (λ f. refl)
          (λ f. let z = ends_same f (no_ends ss) (λ k. get_or ns (plus v 1 + k) 0) (λ k. get_or ns (v + suc k) 0) (λ k. ap (λ m. get_or ns m 0) (shift k)) in
          let q = ap (λ m. end_run f two (get_or ns m 0)) v0 in omega (arith, z, q));
      yes_long = ap suc rest.yes_long;
      no_long = ap suc rest.no_long;
      yes_found = λ k w q s. found_cons one (yes_ends ss) k w (λ z. (here k w z q).yes (let g = ap (λ m. get_or (y ∷ ys) m 0) z in omega (arith, g, s)))
          (λ j z. rest.yes_found j w (subst (λ m. IsOfWidth ws m w) (let g : v + k ≡ plus v 1 + j = omega (arith, z, p) in g) q) (let g = ap (λ m. get_or (y ∷ ys) m 0) z in omega (arith, g, s)));
      no_found = λ k w l q s. found_cons two (no_ends ss) k w (λ z. (here k w z q).no (let g = ap (λ m. get_or ns m 0) (let g : v + k ≡ v = omega (arith, z) in g) in omega (arith, g, s)))
          (λ j z. let g : v + k ≡ plus v 1 + j = omega (arith, z, p) in rest.no_found j w (omega (arith, l, z)) (subst (λ m. IsOfWidth ws m w) g q) (let y = ap (λ m. get_or ns m 0) g in omega (arith, y, s)));
    }

-- ---- what a side takes of the branches' ends

taken_sum : (f : Weight) (ws : Shape) (vs args : List ℕ) (es : List (Option End)) (L : ℕ → ℕ) → AreHanded ws vs args → Fitting es ws L → ((u : ℕ) → L u ≡ often u vs) → ends f L es ≡ carried f (taken vs es)
taken_sum f ws [] args es L a h t = ends_none f es L (λ u l. t u)
taken_sum f ws (v ∷ vs) [] es L a h t = absurd a
taken_sum f ws (v ∷ vs) (w ∷ args) es L (i, x) h t =
    let M : ℕ → ℕ = λ u. often u vs in
    let m : (u : ℕ) → L u ≡ M u + one_if v u = λ u. let z = t u in omega (arith, z) in
    let o = one_own v in
    let z = m v in
    let e = h.found v w i (omega (arith, o, z)) in
    let y = ends_used f es v L M e.here m in
    let j = taken_sum f ws vs args (used v es) M x (fitting_used es ws v L M h e.here m) (λ u. refl) in
    omega (arith, y, j)

taken_widths : (ws : Shape) (vs args : List ℕ) (es : List (Option End)) (L : ℕ → ℕ) → AreHanded ws vs args → Fitting es ws L → ((u : ℕ) → L u ≡ often u vs) → widths (taken vs es) ≡ args
taken_widths ws [] [] es L a h t = refl
taken_widths ws [] (w ∷ args) es L a h t = absurd a
taken_widths ws (v ∷ vs) [] es L a h t = absurd a
taken_widths ws (v ∷ vs) (w ∷ args) es L (i, x) h t =
    let M : ℕ → ℕ = λ u. often u vs in
    let m : (u : ℕ) → L u ≡ M u + one_if v u = λ u. let z = t u in omega (arith, z) in
    let o = one_own v in
    let z = m v in
    let e = h.found v w i (omega (arith, o, z)) in
    ap (λ k. k ∷ widths (taken vs (used v es))) e.width ∙ ap (λ l. w ∷ l) (taken_widths ws vs args (used v es) M x (fitting_used es ws v L M h e.here m) (λ u. refl))

pub handed_named : (ws : Shape) (vs args : List ℕ) (u : ℕ) → AreHanded ws vs args → 0 < often u vs → (w : ℕ) × IsOfWidth ws u w
handed_named ws [] args u a s = absurd (omega (arith, s))
handed_named ws (v ∷ vs) [] u a s = absurd a
handed_named ws (v ∷ vs) (w ∷ args) u (i, x) s = elim (cases_eq u v) [
  | inl e ↦ (w, subst (λ k. IsOfWidth ws k w) (sym e) i)
  | inr n ↦ handed_named ws vs args u x (let o = one_other v u n in omega (arith, o, s))
]

-- ---- jumps

module _ {net : Net} {S : ℕ → Type 0} {K : Weight → ℕ → ℕ → ℕ} where
  -- an edge stands where all is spent
  edge_between : {J M : EdgesFact} {P : ℕ → List Port} {G : ℕ → ℕ} {ws : Shape} (d e : Draft) (to : ℕ) (args : List ℕ) (es : List End) → fields.Still d e → Open net e (owe_of net K P G d) (λ f. carried f es + rest_of net P G d f) ws (λ u. 0) 0 → widths es ≡ args → Adds J to args M
      → J d.edges d.heads d.tails → ((a : ℕ) → queue_of d a ≡ None → S a → ⊥) → Between net S K M P G (with_edge to e.control es e)
  edge_between {J} {M} {P} {G} {ws} d e to args es s h w add j st =
      let x : Edge = record { to = to; control = e.control; with = es } in
      let W : ℕ → ℕ = array_width net.arrays in
      let g = with_edge to e.control es e in
      let b = spent h (λ u. refl) in
      let free = add.free d.edges d.heads d.tails j in
      let k = s.kept in
      record {
        books = moved (owe_of net K P G g) (rest_of net P G g) b
            (λ f. ap (λ hs. hsum (K f) hs + queues_in f W P G d.queues) (sym k.heads) ∙ ap (λ qs. hsum (K f) e.heads + queues_in f W P G qs) (sym s.queues))
            (λ f. let p = edges_more f e.heads e.edges x in
            let q = ap (λ t. cond t 0 (f e.control 32 true + carried f es)) (ap (λ hs. is_zero (slice_get hs to)) k.heads ∙ free) in
            let v = ap (λ hs. edges f hs e.edges) k.heads in
            let y = ap (λ l. edges f d.heads l) k.edges in
            let z = ap (λ qs. queues_out f W P G qs) s.queues in
            omega (arith, p, q, v, y, z));
        kept = subst (λ ts. M (e.edges ++ x ∷ []) e.heads (set ts to (number (length (e.edges ++ x ∷ []))))) (sym k.tails)
            (subst (λ hs. M (e.edges ++ x ∷ []) hs (set d.tails to (number (length (e.edges ++ x ∷ []))))) (sym k.heads)
            (subst (λ l. M (l ++ x ∷ []) d.heads (set d.tails to (number (length (l ++ x ∷ []))))) (sym k.edges) (add.more x d.edges d.heads d.tails refl w j)));
        stored = λ a n. st a (ap (λ qs. queue_or (slice_get qs a)) (sym s.queues) ∙ n);
      }

  pub gone_between : {J M : EdgesFact} {P : ℕ → List Port} {G : ℕ → ℕ} {d : Draft} {ws : Shape} {L : ℕ → ℕ} (to : ℕ) (vs args : List ℕ) → AreHanded ws vs args → ((u : ℕ) → L u ≡ often u vs) → Adds J to args M → Within net S K J P G d ws L 0 → Between net S K M P G (gone to vs d)
  gone_between {J} {M} {P} {G} {d} {ws} {L} to vs args a t add h =
      let m = get_or d.heads to 0 in
      let n = number (length vs) in
      let c = all_passed_open m n vs args d (rest_of net P G d) L a t h.open_ends in
      let e = all_passed m n vs d in
      let s = fields.all_passed_still m n vs d in
      by (is_of_head e.control m n) e (passed_ends m n vs d) s c.open_ends c.handed
    where
      by : (t : Bool) (e : Draft) (es : List End) → fields.Still d e → Open net e (owe_of net K P G d) (λ f. carried f es + rest_of net P G d f) ws (λ u. 0) 0 → widths es ≡ args → Between net S K M P G (let g = cond t (buffered e) e in with_edge to g.control es g)
      by true e es s o w = edge_between d (buffered e) to args es (record { kept = record { uses = s.kept.uses; edges = s.kept.edges; heads = s.kept.heads; tails = s.kept.tails }; queues = s.queues }) (buffered_open o) w add h.kept h.stored
      by false e es s o w = edge_between d e to args es s o w add h.kept h.stored

  pub parted_between : {J L M : EdgesFact} {P : ℕ → List Port} {G : ℕ → ℕ} {d : Draft} {ws : Shape} {U : ℕ → ℕ} (c : ℕ) (a b : To) (args brgs : List ℕ) → IsOfWidth ws c 32 → AreHanded ws a.with args → AreHanded ws b.with brgs → (let n = length d.ends in n < 2 ^ 32
      → ((u : ℕ) → get_or (handed_often n a) u 0 ≡ often u a.with) → ((u : ℕ) → get_or (handed_often n b) u 0 ≡ often u b.with) → FewEach (handed_often n a) → FewEach (handed_often n b) → length (handed_often n a) ≡ n → length (handed_often n b) ≡ n
      → ((u : ℕ) → U u ≡ one_if c u + branches_uses c 0 (handed_often n a) (handed_often n b) u) → Adds J a.block args L → Adds L b.block brgs M → Within net S K J P G d ws U 0 → Between net S K M P G (parted c a b d))
  parted_between {J} {L} {M} {P} {G} {d} {ws} {U} c a b args brgs i x y few ya nb fa fb la lb t add too h =
      let W : ℕ → ℕ = array_width net.arrays in
      let n = length d.ends in
      let ys = handed_often n a in
      let ns = handed_often n b in
      let long = h.open_ends.fits.long in
      let o = owe_of net K P G d in
      let R : Sum = rest_of net P G d in
      let br = all_branched_open c 0 ys ns d R U i (omega (arith, la, few))
      (λ k s. let z = ya k in let w = handed_named ws a.with args k x (omega (arith, z, s)) in (w.0, subst (λ m. IsOfWidth ws m w.0) (let q : k ≡ 0 + k = omega arith in q) w.1))
      (λ k s. let z = nb k in let w = handed_named ws b.with brgs k y (omega (arith, z, s)) in (w.0, subst (λ m. IsOfWidth ws m w.0) (let q : k ≡ 0 + k = omega arith in q) w.1)) fa fb t h.open_ends in
      let e = all_branched c 0 ys ns d in
      let ss = all_sides c 0 ys ns d in
      let es = yes_ends ss in
      let fs = no_ends ss in
      let Y : ℕ → ℕ = λ k. get_or ys k 0 in
      let N : ℕ → ℕ = λ k. get_or ns k 0 in
      let yl = br.yes_long in
      let nl = br.no_long in
      let z0 : (k : ℕ) → k ≡ 0 + k = λ k. omega arith in
      let fit_yes : Fitting es ws Y = record { long = omega (arith, yl, la, long); found = λ k w j s. br.yes_found k w (subst (λ m. IsOfWidth ws m w) (z0 k) j) s } in
      let fit_no : Fitting fs ws N = record {
        long = omega (arith, nl, la, long);
        found = λ k w j s. br.no_found k w (let q = below ws k w j in omega (arith, q, la, long)) (subst (λ m. IsOfWidth ws m w) (z0 k) j) (let q = ap (λ m. get_or ns m 0) (z0 k) in omega (arith, q, s));
      } in
      let A : Sum = λ f. carried f (taken a.with es) in
      let B : Sum = λ f. carried f (taken b.with fs) in
      let o1 = shifted o (λ f. B f + (A f + R f)) br.open_ends (λ f. refl)
      (λ f. let p = taken_sum f ws a.with args es Y x fit_yes ya in
      let q = taken_sum f ws b.with brgs fs N y fit_no nb in
      let v = ends_same f fs (λ k. get_or ns (0 + k) 0) N (λ k. ap (λ m. get_or ns m 0) (sym (z0 k))) in
      omega (arith, p, q, v)) in
      let tc : (u : ℕ) → one_if c u ≡ 0 + one_if c u = λ u. omega arith in
      let k3 = copied_open c 32 (λ u. 0) o1 i tc in
      let g = copied c e in
      let u = next g in
      let k4 = spent k3 (λ u. refl) in
      let l = lay_unit (Branch 32) true (λ f. f (at u 0) 32 false + (f (at u 1) 32 true + o f)) (λ f. f e.control 32 true + (f (copy_of c e).place 32 false + (B f + (A f + R f))) + f (at u 0) 32 true + f (at u 1) 32 true) k4 refl (λ f. omega arith) (λ f. omega arith) in
      let m = fed_books (copy_of c e) u 0 32 (λ f. f (at u 1) 32 true + o f) (λ f. f e.control 32 true + (B f + (A f + R f)) + f (at u 0) 32 true + f (at u 1) 32 true) l (copy_width c 32 (λ u. 0) o1 i tc) (λ f. refl) (λ f. omega arith) in
      let b3 = lay_chan e.control (at u 1) 32 true o (λ f. (B f + (A f + R f)) + f (at u 0) 32 true + f (at u 1) 32 true) m (λ f. refl) (λ f. omega arith) in
      let q = control_branched c e in
      let st = fields.all_branched_still c 0 ys ns d in
      let p1 : Edge = record { to = a.block; control = at u 0; with = taken a.with es } in
      let p2 : Edge = record { to = b.block; control = at u 1; with = taken b.with fs } in
      let z = parted c a b d in
      let se = st.kept.edges in
      let sh = st.kept.heads in
      let ts = st.kept.tails in
      let sq = st.queues in
      let t1 = set d.tails a.block (number (length (d.edges ++ p1 ∷ []))) in
      let j1 = add.more p1 d.edges d.heads d.tails refl (taken_widths ws a.with args es Y x fit_yes ya) h.kept in
      let j2 = too.more p2 (d.edges ++ p1 ∷ []) d.heads t1 refl (taken_widths ws b.with brgs fs N y fit_no nb) j1 in
      let free1 = add.free d.edges d.heads d.tails h.kept in
      let free2 = too.free (d.edges ++ p1 ∷ []) d.heads t1 j1 in
      record {
        books = moved (owe_of net K P G z) (rest_of net P G z) b3
            (λ f. let v = ap (λ hs. hsum (K f) hs) sh in let w = ap (λ qs. queues_in f W P G qs) sq in omega (arith, v, w))
            (λ f. let v = ap (λ hs. edges f hs e.edges) sh in
            let v2 = ap (λ es. edges f d.heads es) se in
            let w = ap (λ qs. queues_out f W P G qs) sq in
            let r = edges_more f e.heads e.edges p1 in
            let s = edges_more f e.heads (e.edges ++ p1 ∷ []) p2 in
            let x1 = ap (λ k. cond k 0 (f (at u 0) 32 true + A f)) (ap (λ hs. is_zero (slice_get hs a.block)) sh ∙ free1) in
            let x2 = ap (λ k. cond k 0 (f (at u 1) 32 true + B f)) (ap (λ hs. is_zero (slice_get hs b.block)) sh ∙ free2) in
            omega (arith, v, v2, w, r, s, x1, x2));
        kept = subst (λ k. M ((e.edges ++ p1 ∷ []) ++ p2 ∷ []) e.heads (set (set k a.block (number (length (e.edges ++ p1 ∷ [])))) b.block (number (length ((e.edges ++ p1 ∷ []) ++ p2 ∷ []))))) (sym ts)
            (subst (λ hs. M ((e.edges ++ p1 ∷ []) ++ p2 ∷ []) hs (set (set d.tails a.block (number (length (e.edges ++ p1 ∷ [])))) b.block (number (length ((e.edges ++ p1 ∷ []) ++ p2 ∷ []))))) (sym sh)
            (subst (λ l. M ((l ++ p1 ∷ []) ++ p2 ∷ []) d.heads (set (set d.tails a.block (number (length (l ++ p1 ∷ [])))) b.block (number (length ((l ++ p1 ∷ []) ++ p2 ∷ []))))) (sym se) j2));
        stored = λ a n. h.stored a (ap (λ qs. queue_or (slice_get qs a)) (sym sq) ∙ n);
      }
    where
      below : (ws : Shape) (k w : ℕ) → IsOfWidth ws k w → k < length ws
      below ws k w j = of_width_below ws k w j
