-- How the loop of a bench's kernel runs on small inputs: each round adds one element of w to an element of h.
use Rattle.std.proofs.Common.{◌≡◌, ℕ, zero, suc, ◌+◌, ◌*◌, ◌<◌, ◌≤◌, List, [], ◌∷◌, map, length, get_or, true, if◌then◌else◌, Some, None, refl, sym, ◌∙◌, ap, subst, arith}
use Rattle.std.specs.Prelude.{pos, ◌+ℤ◌, ◌-ℤ◌, set, slice_get, option_map, option_and_then}
use Rattle.std.proofs.Math.Nat.{mod-eq_of_lt}
use Rattle.std.proofs.lemmas.Bool.{lt-ltb, le-leb}
use Rattle.std.proofs.lemmas.List.{map-set, map-id, length-set}
use Rattle.std.proofs.lemmas.Option.{slice_get-map, slice_get-get_or}
use Rattle.std.proofs.lemmas.List.Sums.{sum-map, sum_by-set, get_or-le-sum_by}
use Rattle.std.specs.List.{sum, sum_by}
use denote.Hole.Carrier.{hidden}
use Rattle.el_base.specs.declared.span.Span.{Span}
use Rattle.el_base.specs.declared.ty.Ty.TheVariants.{I32}
use Rattle.el_base.specs.Numbers.{pattern, number}
use Rattle.c_ast.specs.declared.tree.Binary.TheVariants as op
use Rattle.c_ast.specs.declared.typed.Object.TheVariants as object
use Rattle.c_ast.specs.declared.typed.TypedExprKind.TheBlock.{shape-the_row-TypedExpr-0, hidden-the_row-TypedExpr-0, shape-the_row-TypedExpr-1, hidden-the_row-TypedExpr-1}
use Rattle.c_ast.specs.declared.typed.TypedExprKind.TheOpen.{Number, Var, Element, Binary}
use Rattle.c_ast.specs.declared.typed.TypedStmtKind.TheBlock.{shape-the_row-TypedStmt-0, hidden-the_row-TypedStmt-0, shape-the_row-TypedStmt-1, hidden-the_row-TypedStmt-1}
use Rattle.c_meaning.specs.declared.profile.Profile.TheVariants.{Plain}
use Rattle.c_meaning.specs.Types.{conv, exact, fit}
use Rattle.c_meaning.specs.Stores.{Inputs as Numbers, Store, Objects, opening, place_from, read_element, set_var, set_element}
use Rattle.c_meaning.specs.Expressions.{Meaning, value, values, with_first, after_turns, element_at, val_step, always}
use Rattle.c_meaning.specs.Runs.{Ended, Run, normally, ends, sequence, go_on, with_val, run_of, turn, after_body, both_runs, looped, rounds}
use Rattle.c_meaning.specs.Operators.{is_zero, truth}
use Rattle.c_meaning.specs.Statements.{MeantTarget, of_var, of_element, placed, placed_after, element_place, place_by, target_place, joined_with, stored, updated, updated_at, joined_in, Act, part, run_if_any, an_assignment, a_step, a_declaration, a_for, stmt_step, act, objects, block, with_kernel_end, kernel_run, IsResult, Ends}
use Rattle.kernel_bench.specs.Histogram.{line_span, hist_arrays, hist}

-- ---- small numbers

pub pattern_small : (n : ℕ) → n < 2147483648 → pattern I32 (pos n) ≡ n
pattern_small n h = mod-eq_of_lt (let k : n < 4294967296 = omega arith in k)

pub number_small : (n : ℕ) → n < 2147483648 → number I32 n ≡ pos n
number_small n h = ap (λ b. if b then pos n else (pos n -ℤ pos 4294967296)) (lt-ltb n 2147483648 h)

conv_small : (n : ℕ) → n < 2147483648 → conv I32 (pos n) ≡ pos n
conv_small n h = ap (number I32) (pattern_small n h) ∙ number_small n h

exact_small : (n : ℕ) → n < 2147483648 → exact I32 (pos n) ≡ Some (pos n)
exact_small n h = ap (λ b. if b then Some (pos n) else None) (le-leb n 2147483647 (omega arith))

-- 0 + 1 + .. + i
abbrev pub sum_to : ℕ → ℕ
sum_to zero = 0
sum_to (suc i) = sum_to i + suc i

pub sum_to_few : (i : ℕ) → i ≤ 1024 → sum_to i ≤ i * 1024
sum_to_few zero h = omega arith
sum_to_few (suc i) h = omega (arith, sum_to_few i (omega (arith, h)), h)

sum_is_by : (ns : List ℕ) → sum ns ≡ sum_by (λ n. n) ns
sum_is_by ns = sym (ap sum (map-id ns)) ∙ sum-map (λ n. n) ns

-- an element is at most the sum, and one that grows by w makes the sum grow by w
pub element_few : (ns : List ℕ) (i : ℕ) → i < length ns → get_or ns i 0 ≤ sum ns
element_few ns i h = omega (arith, get_or-le-sum_by (λ n. n) ns i 0 h, sum_is_by ns)

sum_grows : (ns : List ℕ) (i w : ℕ) → i < length ns → sum (set ns i (get_or ns i 0 + w)) ≡ sum ns + w
sum_grows ns i w h = omega (arith, sum_by-set (λ n. n) ns i (get_or ns i 0 + w) 0 h, sum_is_by ns, sum_is_by (set ns i (get_or ns i 0 + w)))

-- ---- elements

element_is : (ns : List ℕ) (i : ℕ) → i < length ns → slice_get (map pos ns) i ≡ Some (pos (get_or ns i 0))
element_is ns i h = slice_get-map pos ns i ∙ ap (option_map pos) (slice_get-get_or ns i 0 h)

in_dimension : (d i : ℕ) → i < d → place_from 0 (d ∷ []) (pos i ∷ []) ≡ Some i
in_dimension d i h = ap (λ b. option_and_then (λ j. place_from (0 * d + j) [] []) (if b then Some i else None)) (lt-ltb i d h) ∙ ap Some (let e : 0 * d + i ≡ i = omega arith in e)

-- ---- the parts of the loop, by what they mean

abbrev pub o : Objects
o = objects Plain hist

abbrev read_i : Span → Meaning
read_i s = val_step o (Var 1) I32 s

abbrev less : Meaning
less = val_step o (Binary op.Lt (read_i (line_span 92 93)) (val_step o (Var 0) I32 (line_span 96 97))) I32 (line_span 92 97)

abbrev place_of : Meaning
place_of = val_step o (Element 0 (read_i (line_span 108 109) ∷ [])) I32 (line_span 106 110)

abbrev weight_of : Meaning
weight_of = val_step o (Element 1 (read_i (line_span 117 118) ∷ [])) I32 (line_span 115 119)

abbrev add_to : MeantTarget
add_to = record { to = object.Array 2; at = line_span 104 111; indices = place_of ∷ [] }

abbrev add_act : Act
add_act = stmt_step o (an_assignment add_to (Some op.Add) I32 weight_of)

abbrev step_to : MeantTarget
step_to = record { to = object.Var 1; at = line_span 99 100; indices = [] }

abbrev step_act : Act
step_act = stmt_step o (a_step step_to true)

abbrev declare_act : Act
declare_act = stmt_step o (a_declaration 1 (Some (val_step o (Number 0) I32 (line_span 89 90))))

abbrev pub for_act : Act
for_act = stmt_step o (a_for (declare_act ∷ []) [] (Some less) (Some step_act) add_act)

pub acts_are : map (act o) hist.body ≡ for_act ∷ []
unfolding shape-the_row-TypedExpr-0 hidden-the_row-TypedExpr-0 shape-the_row-TypedExpr-1 hidden-the_row-TypedExpr-1 shape-the_row-TypedStmt-0 hidden-the_row-TypedStmt-0 shape-the_row-TypedStmt-1 hidden-the_row-TypedStmt-1 hidden
acts_are = refl

abbrev pub rounds_of : ℕ → Run
rounds_of r = rounds r (sequence []) less (part add_act) (run_if_any (Some step_act))

-- ---- one round

module _ (xs ws : List ℕ) where
  -- the store in round i
  abbrev pub store_in : ℕ → List ℕ → Store
  store_in i hs = record { vars = Some (pos 1024) ∷ Some (pos i) ∷ []; arrays = map pos xs ∷ map pos ws ∷ map pos hs ∷ [] }

  -- the element of h that round i adds to, and what it is then
  abbrev pub added : ℕ → List ℕ → List ℕ
  added i hs = set hs (get_or xs i 0) (get_or hs (get_or xs i 0) 0 + get_or ws i 0)

  module _ (i : ℕ) (hs : List ℕ) (within : i < 1024) (xs_long : i < length xs) (ws_long : i < length ws) (near : get_or xs i 0 < 64) (hs_long : get_or xs i 0 < length hs)
      (small : get_or hs (get_or xs i 0) 0 + get_or ws i 0 < 2147483648) where
    abbrev s : Store
    s = store_in i hs

    abbrev x : ℕ
    x = get_or xs i 0

    abbrev w : ℕ
    w = get_or ws i 0

    abbrev c : ℕ
    c = get_or hs x 0

    place_is : place_of s ≡ value (pos x) 0
    place_is = ap (λ p. after_turns (line_span 106 110) 0 (element_at s 0 p)) (in_dimension 1024 i within) ∙ ap (after_turns (line_span 106 110) 0) (element_is xs i xs_long)

    weight_is : weight_of s ≡ value (pos w) 0
    weight_is = ap (λ p. after_turns (line_span 115 119) 0 (element_at s 1 p)) (in_dimension 1024 i within) ∙ ap (after_turns (line_span 115 119) 0) (element_is ws i ws_long)

    target_is : target_place o add_to s ≡ placed (of_element 2 x) 0
    target_is = ap (λ v. place_by hist_arrays (object.Array 2) (line_span 104 111) (with_first v (values [] 0))) place_is
        ∙ ap (λ p. placed_after (line_span 104 111) 0 (element_place 2 p)) (in_dimension 64 x near)

    sum_is : joined_in Plain op.Add I32 (pos c) (pos w) ≡ Some (pos (c + w))
    sum_is = ap (λ z. fit Plain I32 (z +ℤ pos w)) (conv_small c (omega (arith, small))) ∙ exact_small (c + w) small

    adds : (n : ℕ) → updated o add_to op.Add I32 weight_of s n ≡ ends normally (store_in i (added i hs)) n
    adds n =
        let f = joined_in Plain op.Add I32 in
        ap (λ p. updated_at I32 (line_span 104 111) f p weight_of s n) target_is
        ∙ ap (λ v. stored I32 (of_element 2 x) 0 (joined_with (line_span 104 111) f (read_element s 2 x) v) s n) weight_is
        ∙ ap (λ v. stored I32 (of_element 2 x) 0 (joined_with (line_span 104 111) f v (value (pos w) 0)) s n) (element_is hs x hs_long)
        ∙ ap (λ v. stored I32 (of_element 2 x) 0 (after_turns (line_span 104 111) 0 v) s n) sum_is
        ∙ ap (λ z. ends normally (set_element 2 x z s) n) (conv_small (c + w) small)
        ∙ ap (λ zs. ends normally (record { vars = s.vars; arrays = map pos xs ∷ map pos ws ∷ zs ∷ [] }) n) (sym (map-set pos hs x (c + w)))

    steps : (n : ℕ) (gs : List ℕ) → updated o step_to op.Add I32 (always (pos 1)) (store_in i gs) n ≡ ends normally (store_in (suc i) gs) n
    steps n gs =
        let f = joined_in Plain op.Add I32 in
        let next : joined_in Plain op.Add I32 (pos i) (pos 1) ≡ Some (pos (suc i)) =
        ap (λ z. fit Plain I32 (z +ℤ pos 1)) (conv_small i (omega (arith, within))) ∙ ap (λ k. exact I32 (pos k)) (let e : i + 1 ≡ suc i = omega arith in e) ∙ exact_small (suc i) (omega (arith, within)) in
        ap (λ v. stored I32 (of_var 1) 0 (after_turns (line_span 99 100) 0 v) (store_in i gs) n) next
        ∙ ap (λ z. ends normally (set_var 1 z (store_in i gs)) n) (conv_small (suc i) (omega (arith, within)))

    -- a round takes three turns
    pub round : (r n : ℕ) → rounds_of (suc r) s (suc (suc (suc n))) ≡ rounds_of r (store_in (suc i) (added i hs)) n
    round r n =
        let body = looped (part add_act) (both_runs (run_if_any (Some step_act)) (rounds_of r)) in
        ap (λ b. with_val (value (truth b) 0) (λ z. run_of (is_zero z) (ends normally) body) s (suc (suc n))) (lt-ltb i 1024 within)
        ∙ ap (λ (e : Ended). after_body e.how (both_runs (run_if_any (Some step_act)) (rounds_of r)) e.store e.left) (adds (suc n))
        ∙ ap (λ (e : Ended). go_on e.how (rounds_of r) e.store e.left) (steps n (added i hs))

  -- the last condition takes one
  last_round : (r n : ℕ) (hs : List ℕ) → rounds_of (suc r) (store_in 1024 hs) (suc n) ≡ ends normally (store_in 1024 hs) n
  last_round r n hs = refl

  -- ---- all rounds

  -- the elements of h after k rounds more, of which the first is round i
  abbrev pub added_from : ℕ → ℕ → List ℕ → List ℕ
  added_from zero i hs = hs
  added_from (suc k) i hs = added_from k (suc i) (added i hs)

  -- the turns of k rounds more and of the last condition, and m besides
  abbrev pub turns_of : ℕ → ℕ → ℕ
  turns_of zero m = suc m
  turns_of (suc k) m = suc (suc (suc (turns_of k m)))

  -- x and w are as they are given: places below 64, and weights from 1 on
  pub record AreGiven : Type 0 where
    pub xs_long : length xs ≡ 1024
    pub ws_long : length ws ≡ 1024
    pub near : (i : ℕ) → i < 1024 → get_or xs i 0 < 64
    pub weights : (i : ℕ) → i < 1024 → get_or ws i 0 ≡ suc i

  -- before round i: h has 64 elements, and their sum is 0 + 1 + .. + i
  pub record AreCounted (i : ℕ) (hs : List ℕ) : Type 0 where
    pub long : length hs ≡ 64
    pub total : sum hs ≡ sum_to i

  module _ (given : AreGiven) where
    small_at : (i : ℕ) (hs : List ℕ) → i < 1024 → AreCounted i hs → get_or hs (get_or xs i 0) 0 + get_or ws i 0 < 2147483648
    small_at i hs h counted =
        let one = element_few hs (get_or xs i 0) (omega (arith, given.near i h, counted.long)) in
        let few = sum_to_few i (omega (arith, h)) in
        omega (arith, h, one, few, counted.total, given.weights i h)

    counted_next : (i : ℕ) (hs : List ℕ) → i < 1024 → AreCounted i hs → AreCounted (suc i) (added i hs)
    counted_next i hs h counted =
        let x = get_or xs i 0 in
        record {
          long = length-set hs x (get_or hs x 0 + get_or ws i 0) ∙ counted.long;
          total = sum_grows hs x (get_or ws i 0) (omega (arith, given.near i h, counted.long)) ∙ ap (λ n. n + get_or ws i 0) counted.total ∙ ap (λ n. sum_to i + n) (given.weights i h);
        }

    pub counted_after : (k i : ℕ) (hs : List ℕ) → i + k ≡ 1024 → AreCounted i hs → AreCounted 1024 (added_from k i hs)
    counted_after zero i hs is counted = subst (λ j. AreCounted j hs) (let e : i ≡ 1024 = omega (arith, is) in e) counted
    counted_after (suc k) i hs is counted = counted_after k (suc i) (added i hs) (omega (arith, is)) (counted_next i hs (omega (arith, is)) counted)

    pub all_rounds : (k r i m : ℕ) (hs : List ℕ) → k ≤ r → i + k ≡ 1024 → AreCounted i hs → rounds_of (suc r) (store_in i hs) (turns_of k m) ≡ ends normally (store_in 1024 (added_from k i hs)) m
    all_rounds zero r i m hs few is counted = subst (λ j. rounds_of (suc r) (store_in j hs) (suc m) ≡ ends normally (store_in 1024 hs) m) (let e : 1024 ≡ i = omega (arith, is) in e) (last_round r m hs)
    all_rounds (suc k) zero i m hs few is counted = absurd (omega (arith, few))
    all_rounds (suc k) (suc r) i m hs few is counted =
        let h : i < 1024 = omega (arith, is) in
        round i hs h (omega (arith, given.xs_long, h)) (omega (arith, given.ws_long, h)) (given.near i h) (omega (arith, given.near i h, counted.long)) (small_at i hs h counted) (suc r) (turns_of k m)
        ∙ all_rounds k r (suc i) m (added i hs) (omega (arith, few)) (omega (arith, is)) (counted_next i hs h counted)

    turns_are : (k m : ℕ) → turns_of k m ≡ 3 * k + suc m
    turns_are zero m = omega arith
    turns_are (suc k) m = omega (arith, turns_are k m)

    -- ---- the whole kernel

    module _ (hs : List ℕ) (counted : AreCounted 0 hs) where
      abbrev numbers : Numbers
      numbers = record { scalars = pos 1024 ∷ []; arrays = map pos xs ∷ map pos ws ∷ map pos hs ∷ [] }

      loop_ends : (k n : ℕ) → k ≡ 1024 → n ≡ 3 * k + 1 → rounds_of (suc n) (store_in 0 hs) n ≡ ends normally (store_in 1024 (added_from k 0 hs)) 0
      loop_ends k n is turns =
          subst (λ m. rounds_of (suc n) (store_in 0 hs) m ≡ ends normally (store_in 1024 (added_from k 0 hs)) 0) (turns_are k 0 ∙ sym turns)
          (all_rounds k n 0 0 hs (omega (arith, turns)) (omega (arith, is)) counted)

      kernel_runs : (k n : ℕ) → k ≡ 1024 → n ≡ 3 * k + 1 → kernel_run hist Plain numbers (suc (suc (suc n))) ≡ ends normally (store_in 1024 (added_from k 0 hs)) 0
      kernel_runs k n is turns =
          ap (λ acts. with_kernel_end None (line_span 5 9) (turn (block acts) (opening o numbers) (suc (suc (suc n))))) acts_are
          ∙ ap (λ (e : Ended). with_kernel_end None (line_span 5 9) (go_on e.how (sequence []) e.store e.left)) (loop_ends k n is turns)

      pub counts_end : (k n : ℕ) → k ≡ 1024 → n ≡ 3 * k + 1 → Ends hist Plain numbers (map pos xs ∷ map pos ws ∷ map pos (added_from k 0 hs) ∷ []) None (suc (suc (suc n)))
      counts_end k n is turns =
          let run = kernel_runs k n is turns in
          record {
            bound = suc (suc (suc n));
            all_turns = ap (λ (e : Ended). e.left + suc (suc (suc n))) run ∙ (let e : 0 + suc (suc (suc n)) ≡ suc (suc (suc n)) = omega arith in e);
            arrays = sym (ap (λ (e : Ended). e.store.arrays) run);
            result = subst (λ (e : Ended). IsResult None e.how None) (sym run) refl;
          }
