-- The steps of a block: each makes its value from the values before it, and leaves the tokens at the ends.
use Rattle.std.proofs.Common.{◌≡◌, ◌≢◌, ℕ, zero, suc, ◌+◌, ◌^◌, ◌<◌, ◌≤◌, ◌==◌, ◌⊎◌, true, false, Bool, cond, Option, Some, None, List, [], ◌∷◌, ◌++◌, length, get_or, set, refl, sym, ap, ◌∙◌, subst, inl, inr, ⊎_elim, arith, slice_get, length-append, append_assoc, eq-eqb, ne_eqb}
use Rattle.std.proofs.lemmas.List.{append-nil}
use Rattle.std.proofs.lemmas.Bool.{cases_eq}
use Rattle.el_base.specs.declared.operation.Op1.{Op1 as Unary}
use Rattle.el_base.specs.declared.operation.Op2.{Op2 as Binary}
use Rattle.el_base.specs.Widths.{op1_out, op2_out}
use Rattle.word_ops.specs.Operations.{op1_result, op2_result}
use Rattle.ir.specs.declared.instr.Instr.{Instr}
use Rattle.ir.specs.declared.instr.Instr.TheVariants as step
use Rattle.ir.specs.declared.groups.Groups.{Groups}
use Rattle.ir.specs.Accesses.{is_on}
use Rattle.ir.specs.Graphs.{Graph}
use Rattle.ir.specs.Renaming.{operands}
use Rattle.ir.specs.Shapes.{step_width}
use Rattle.ir.specs.Steps.{value_at, chosen_of, cells, strays_past, step_value, step_arrays, step_strays}
use Rattle.net_types.specs.declared.net.Place.{Place}
use Rattle.net_types.specs.declared.net.Net.{Net}
use Rattle.net_types.specs.declared.net.Unit.{Unit as Kind}
use Rattle.net_types.specs.declared.net.Unit.TheVariants.{Const, Op1, Op2, Select, Read}
use Rattle.net_types.specs.Nets.{at}
use Rattle.net_core.specs.Fire.{State}
use Rattle.circuit_build.specs.declared.draft.Draft.{Draft}
use Rattle.circuit_build.specs.declared.draft.End.{End}
use Rattle.circuit_build.specs.declared.draft.Queue.{Queue}
use Rattle.circuit_build.specs.Built.{front_of}
use Rattle.circuit_build.specs.Drafts.{plus, next, with_unit, fed, uses_of_next, spread, spread_end, defined, undefined, triggered, trigger_of, copied, copy_of}
use Rattle.circuit_build.specs.Fronts.{ports_of, groups_from, depth_from}
use Rattle.circuit_build.specs.Steps.{queue_or, queue_of, with_queue, next_port, value_place, addr_place, data_place, width_at, const_laid, one_laid, two_laid, select_laid, read_laid, load_taken, load_by, load_laid, store_taken, store_by, store_laid, step_made, step_laid}
use Rattle.circuit_build.specs.Uses.{is_used, is_laid, constant_of}
use Rattle.circuit_build.proofs.Marks.{Aside, Wired, own_set, awaits}
use Rattle.circuit_build.proofs.Stages.{NotIn, Stage, Reaches}
use Rattle.circuit_build.proofs.CountBooks.{chan}
use Rattle.circuit_build.proofs.LaySections.{Extends, Leaves, UsedOf, Used, AllUsed}
use Rattle.circuit_build.proofs.LayBlocks.{left_of, QueueAt, BooksAt}
use Rattle.circuit_build.proofs.CountSteps.{steps_ports}
use Rattle.circuit_build.proofs.LayBooks.{moved_if, touched, step_queue, load_port, store_port, value_is, addr_is, data_is}
use Rattle.circuit_build.proofs.Remains.{AreBelow}
use Rattle.circuit_build.proofs.StageKinds.{Calm, strayed, const_front, op1_front, op2_front, select_front, read_front}
use Rattle.circuit_build.proofs.StageTokens.{Token, token, places, values, Swaps, same, keep, swap, follow, swaps_of, row, end_place, kept, more, more_all, kept_as, kept_next}
use Rattle.circuit_build.proofs.SpreadLemmas.{fresh}
use Rattle.circuit_build.proofs.StageUses.{gains, loses, Stands, NewUnit, new_unit, stands_between, stands_as, last_wire, second_wire, third_wire, open_tokens, tokens_at, tokens_as, At, Comes, at_swapped, at_as, comes_here, comes_then, comes_swapped, comes_from, comes_within, comes_as, comes_of, Quiet, spread_quiet, defined_more, defined_ends, defined_comes, used_many, copied_swaps, copied_at, triggered_at}
use Rattle.circuit_build.proofs.StageQueues.{own_other, calm_set, unused, used_moves, load_front, store_front, Waits, waits_access, waits_plain, units_differ}

-- ---- one unit

module _ {net : Net} {scalars : List ℕ} {low m : ℕ} where
  -- the tokens in front are taken, and the unit's output has one
  pub fired : {s : State} {a c : Aside} {e : Draft} {k : Kind} (fs ts : List Token) (y : ℕ) (r : Draft) → NewUnit net low m e r k → Stands net low m r → Calm net c → AllUsed low r.queues (places ts) → At net scalars low m s a e (fs ++ ts)
      → Reaches net scalars s 1 c 0 (suc (next e)) m (places (token (at (next e) 0) y ∷ ts)) (values (token (at (next e) 0) y ∷ ts)) → Comes net scalars low m s (length e.chans) (length (fs ++ ts)) (length fs) c r (token (at (next e) 0) y ∷ ts)
  fired {e = e} fs ts y r n sr calm us o go =
      let l = length-append fs ts in
      comes_of (length e.chans) (length (fs ++ ts)) (length fs) (suc (next e)) r (token (at (next e) 0) y ∷ ts) sr calm (inl n.above, us) n.after go (omega (arith, l)) (gains (fs ++ ts) o.stage (fresh 0 (next e) m 0 (places (fs ++ ts)) n.below o.stage.outside) go)

-- ---- steps without a queue

pub left_as : (T : ℕ → ℕ) (us : List ℕ) (k l : ℕ) → k ≡ l → T l ≡ get_or us l 0 → T k ≡ get_or us k 0
left_as T us k l e h = subst (λ n. T n ≡ get_or us n 0) (sym e) h

pub few_as : (us : List ℕ) (k l : ℕ) → k ≡ l → get_or us l 0 < 2 ^ 32 → get_or us k 0 < 2 ^ 32
few_as us k l e h = subst (λ n. get_or us n 0 < 2 ^ 32) (sym e) h

module _ {net : Net} {scalars : List ℕ} {low m : ℕ} (leaves : Leaves net) where
  -- the value of a unit that has taken its tokens
  pub defined_after : {s : State} {h k b : ℕ} {c : Aside} (z t : ℕ) (T : ℕ → ℕ) (vs us : List ℕ) (n : ℕ) → T n ≡ get_or us n 0 → get_or us n 0 < 2 ^ 32 → n ≡ length vs → (e r0 : Draft) (p : Place) (w y : ℕ)
      → length e.ends ≡ n → r0.control ≡ e.control → r0.trigger ≡ e.trigger → r0.ends ≡ e.ends → r0.uses ≡ us
      → (one : Comes net scalars low m s h b k c r0 (token p y ∷ open_tokens e z t T vs [])) → Stands net low m (defined p w r0)
      → Comes net scalars low m s h b (k + 2) c (defined p w r0) (open_tokens (defined p w r0) z t T (vs ++ y ∷ []) [])
  defined_after z t T vs us n left few many e r0 p w y l rc rt re ru one sr =
      let same_tokens : open_tokens e z t T vs [] ≡ open_tokens r0 z t T vs [] = tokens_as z t T vs [] (sym rc) (sym rt) (sym re) in
      let two = comes_swapped (keep (swaps_of same_tokens)) one in
      let l0 : length r0.ends ≡ n = ap length re ∙ l in
      let left0 : T (length r0.ends) ≡ uses_of_next r0 = left_as T us (length r0.ends) n l0 left ∙ ap (λ u. get_or u (length r0.ends) 0) (sym ru) in
      let few0 : uses_of_next r0 < 2 ^ 32 = subst (λ u. get_or u (length r0.ends) 0 < 2 ^ 32) (sym ru) (few_as us (length r0.ends) n l0 few) in
      comes_then two (defined_comes leaves p w y z t T vs [] two.there left0 few0 (l0 ∙ many) sr)

module _ {net : Net} {scalars : List ℕ} {low m : ℕ} (leaves : Leaves net) {s : State} {a : Aside} {d : Draft} (z t : ℕ) (T : ℕ → ℕ) (vs : List ℕ) (left : T (length d.ends) ≡ get_or d.uses (length d.ends) 0) (few : get_or d.uses (length d.ends) 0 < 2 ^ 32)
    (many : length d.ends ≡ length vs) where
  pub const_comes : (w n : ℕ) → At net scalars low m s a d (open_tokens d z (suc t) T vs []) → Stands net low m (const_laid w n d)
      → Comes net scalars low m s (length d.chans) (length (open_tokens d z (suc t) T vs [])) 3 a (const_laid w n d) (open_tokens (const_laid w n d) z t T (vs ++ n ∷ []) [])
  const_comes w n o sr =
      let e = triggered d in
      let r0 = fed (trigger_of d) (next e) 0 (with_unit (Const w n) e) in
      let c = chan d.trigger (at (next e) 0) 32 false in
      let x : Extends d r0 = record { more_units = Const w n ∷ []; more_chans = c ∷ []; units = refl; chans = refl } in
      let s0 = stands_between {d = d} {e = r0} {f = const_laid w n d} x (defined_more (at (next e) 0) w r0) o.stands sr in
      let o1 = triggered_at z t T vs [] o in
      let k = new_unit {d = e} {e = r0} (Const w n) o1.stands s0 refl in
      let wire = last_wire {d = r0} e.chans c s0.within refl in
      let le : 0 ≤ next e = omega arith in
      let one = fired (token d.trigger z ∷ []) (open_tokens e z t T vs []) n r0 k s0 o.calm o1.used.1 o1 (const_front leaves le k.below o1.stage w n k.is wire) in
      comes_then one (defined_comes leaves (at (next e) 0) w n z t T vs [] one.there left few many sr)

  pub one_comes : (op : Unary) (v : ℕ) → v < length vs → At net scalars low m s a d (open_tokens d z t (more v T) vs []) → Stands net low m (one_laid op v d)
      → Comes net scalars low m s (length d.chans) (length (open_tokens d z t (more v T) vs [])) 3 a (one_laid op v d) (open_tokens (one_laid op v d) z t T (vs ++ op1_result op (value_at vs v) ∷ []) [])
  one_comes op v lt o sr =
      let e = copied v d in
      let p = (copy_of v d).place in
      let r0 = fed (copy_of v d) (next e) 0 (with_unit (Op1 op) e) in
      let c = chan p (at (next e) 0) (copy_of v d).width false in
      let x : Extends d r0 = record { more_units = Op1 op ∷ []; more_chans = c ∷ []; units = refl; chans = refl } in
      let s0 = stands_between {d = d} {e = r0} {f = one_laid op v d} x (defined_more (at (next e) 0) (op1_out op) r0) o.stands sr in
      let lt' : v < length d.ends = omega (arith, lt, many) in
      let o1 = copied_at v z t T vs [] [] o lt' many in
      let k = new_unit {d = e} {e = r0} (Op1 op) o1.stands s0 refl in
      let wire = last_wire {d = r0} e.chans c s0.within refl in
      let le : 0 ≤ next e = omega arith in
      let y = op1_result op (value_at vs v) in
      let one = fired (token p (value_at vs v) ∷ []) (open_tokens e z t T vs []) y r0 k s0 o.calm o1.used.1 o1 (op1_front leaves le k.below o1.stage op k.is wire) in
      comes_from (open_tokens d z t (more v T) vs []) (token p (value_at vs v) ∷ open_tokens e z t T vs []) (copied_swaps v z t T vs [] [] d lt' many)
      (defined_after leaves z t T vs d.uses (length d.ends) left few many e r0 (at (next e) 0) (op1_out op) y (used_many v d) refl refl refl refl one sr)

  pub read_comes : (b w v : ℕ) → v < length vs → At net scalars low m s a d (open_tokens d z t (more v T) vs []) → Stands net low m (read_laid b w v d)
      → Comes net scalars low m s (length d.chans) (length (open_tokens d z t (more v T) vs [])) 3 (strayed b (value_at vs v) a) (read_laid b w v d) (open_tokens (read_laid b w v d) z t T (vs ++ get_or (cells a.arrays b) (value_at vs v) 0 ∷ []) [])
  read_comes b w v lt o sr =
      let e = copied v d in
      let p = (copy_of v d).place in
      let r0 = fed (copy_of v d) (next e) 0 (with_unit (Read b) e) in
      let c = chan p (at (next e) 0) (copy_of v d).width false in
      let x : Extends d r0 = record { more_units = Read b ∷ []; more_chans = c ∷ []; units = refl; chans = refl } in
      let s0 = stands_between {d = d} {e = r0} {f = read_laid b w v d} x (defined_more (at (next e) 0) w r0) o.stands sr in
      let lt' : v < length d.ends = omega (arith, lt, many) in
      let o1 = copied_at v z t T vs [] [] o lt' many in
      let k = new_unit {d = e} {e = r0} (Read b) o1.stands s0 refl in
      let wire = last_wire {d = r0} e.chans c s0.within refl in
      let le : 0 ≤ next e = omega arith in
      let y = get_or (cells a.arrays b) (value_at vs v) 0 in
      let one = fired {c = strayed b (value_at vs v) a} (token p (value_at vs v) ∷ []) (open_tokens e z t T vs []) y r0 k s0 o.calm o1.used.1 o1 (read_front leaves le k.below o1.stage b k.is wire) in
      comes_from (open_tokens d z t (more v T) vs []) (token p (value_at vs v) ∷ open_tokens e z t T vs []) (copied_swaps v z t T vs [] [] d lt' many)
      (defined_after leaves z t T vs d.uses (length d.ends) left few many e r0 (at (next e) 0) w y (used_many v d) refl refl refl refl one sr)

  pub two_comes : (op : Binary) (v w : ℕ) → v < length vs → w < length vs → At net scalars low m s a d (open_tokens d z t (more v (more w T)) vs []) → Stands net low m (two_laid op v w d)
      → Comes net scalars low m s (length d.chans) (length (open_tokens d z t (more v (more w T)) vs [])) 4 a (two_laid op v w d) (open_tokens (two_laid op v w d) z t T (vs ++ op2_result op (value_at vs v) (value_at vs w) ∷ []) [])
  two_comes op v w lt lu o sr =
      let e = copied v d in
      let f = copied w e in
      let p = token (copy_of v d).place (value_at vs v) in
      let q = token (copy_of w e).place (value_at vs w) in
      let r0 = fed (copy_of w e) (next f) 1 (fed (copy_of v d) (next f) 0 (with_unit (Op2 op) f)) in
      let c = chan p.place (at (next f) 0) (copy_of v d).width false in
      let c' = chan q.place (at (next f) 1) (copy_of w e).width false in
      let x : Extends d r0 = record { more_units = Op2 op ∷ []; more_chans = c ∷ c' ∷ []; units = refl; chans = append_assoc d.chans (c ∷ []) (c' ∷ []) } in
      let s0 = stands_between {d = d} {e = r0} {f = two_laid op v w d} x (defined_more (at (next f) 0) (op2_out op) r0) o.stands sr in
      let lt' : v < length d.ends = omega (arith, lt, many) in
      let le = used_many v d in
      let lu' : w < length e.ends = omega (arith, lu, many, le) in
      let o1 = copied_at v z t (more w T) vs [] [] o lt' many in
      let o2 = copied_at w z t T vs [] (p ∷ []) o1 lu' (le ∙ many) in
      let o3 = at_swapped swap o2 in
      let k = new_unit {d = f} {e = r0} (Op2 op) o3.stands s0 refl in
      let w1 = last_wire {d = r0} (f.chans ++ c ∷ []) c' s0.within refl in
      let w0 = second_wire {d = r0} f.chans c c' s0.within refl in
      let z0 : 0 ≤ next f = omega arith in
      let y = op2_result op (value_at vs v) (value_at vs w) in
      let one = fired (p ∷ q ∷ []) (open_tokens f z t T vs []) y r0 k s0 o.calm o3.used.1.1 o3 (op2_front leaves z0 k.below o3.stage op k.is w0 w1) in
      comes_from (open_tokens d z t (more v (more w T)) vs []) (p ∷ q ∷ open_tokens f z t T vs []) (follow (copied_swaps v z t (more w T) vs [] [] d lt' many) (follow (copied_swaps w z t T vs [] (p ∷ []) e lu' (le ∙ many)) swap))
      (defined_after leaves z t T vs d.uses (length d.ends) left few many f r0 (at (next f) 0) (op2_out op) y (used_many w e ∙ le) refl refl refl refl one sr)

  pub select_comes : (w c v u : ℕ) → c < length vs → v < length vs → u < length vs → At net scalars low m s a d (open_tokens d z t (more c (more v (more u T))) vs []) → Stands net low m (select_laid w c v u d)
      → Comes net scalars low m s (length d.chans) (length (open_tokens d z t (more c (more v (more u T))) vs [])) 5 a (select_laid w c v u d)
      (open_tokens (select_laid w c v u d) z t T (vs ++ chosen_of (value_at vs c) (value_at vs v) (value_at vs u) ∷ []) [])
  select_comes w c v u lc lv lu o sr =
      let e = copied c d in
      let f = copied v e in
      let h = copied u f in
      let p = token (copy_of c d).place (value_at vs c) in
      let q = token (copy_of v e).place (value_at vs v) in
      let b = token (copy_of u f).place (value_at vs u) in
      let r0 = fed (copy_of u f) (next h) 2 (fed (copy_of v e) (next h) 1 (fed (copy_of c d) (next h) 0 (with_unit (Select w) h))) in
      let k0 = chan p.place (at (next h) 0) (copy_of c d).width false in
      let k1 = chan q.place (at (next h) 1) (copy_of v e).width false in
      let k2 = chan b.place (at (next h) 2) (copy_of u f).width false in
      let x : Extends d r0 = record {
        more_units = Select w ∷ [];
        more_chans = k0 ∷ k1 ∷ k2 ∷ [];
        units = refl;
        chans = append_assoc (d.chans ++ k0 ∷ []) (k1 ∷ []) (k2 ∷ []) ∙ append_assoc d.chans (k0 ∷ []) (k1 ∷ k2 ∷ []);
      } in
      let s0 = stands_between {d = d} {e = r0} {f = select_laid w c v u d} x (defined_more (at (next h) 0) w r0) o.stands sr in
      let le = used_many c d in
      let lf = used_many v e in
      let lc' : c < length d.ends = omega (arith, lc, many) in
      let lv' : v < length e.ends = omega (arith, lv, many, le) in
      let lu' : u < length f.ends = omega (arith, lu, many, le, lf) in
      let o1 = copied_at c z t (more v (more u T)) vs [] [] o lc' many in
      let o2 = copied_at v z t (more u T) vs [] (p ∷ []) o1 lv' (le ∙ many) in
      let o3 = copied_at u z t T vs [] (q ∷ p ∷ []) o2 lu' (lf ∙ (le ∙ many)) in
      let turned : Swaps (b ∷ q ∷ p ∷ open_tokens h z t T vs []) (p ∷ q ∷ b ∷ open_tokens h z t T vs []) = follow swap (follow (keep swap) swap) in
      let o4 = at_swapped (follow turned same) o3 in
      let k = new_unit {d = h} {e = r0} (Select w) o4.stands s0 refl in
      let w2 = last_wire {d = r0} ((h.chans ++ k0 ∷ []) ++ k1 ∷ []) k2 s0.within refl in
      let w1 = second_wire {d = r0} (h.chans ++ k0 ∷ []) k1 k2 s0.within refl in
      let w0 = third_wire {d = r0} h.chans k0 k1 k2 s0.within refl in
      let z0 : 0 ≤ next h = omega arith in
      let y = chosen_of (value_at vs c) (value_at vs v) (value_at vs u) in
      let one = fired (p ∷ q ∷ b ∷ []) (open_tokens h z t T vs []) y r0 k s0 o.calm o4.used.1.1.1 o4 (select_front leaves z0 k.below o4.stage w k.is w0 w1 w2) in
      comes_from (open_tokens d z t (more c (more v (more u T))) vs []) (p ∷ q ∷ b ∷ open_tokens h z t T vs [])
      (follow (copied_swaps c z t (more v (more u T)) vs [] [] d lc' many) (follow (copied_swaps v z t (more u T) vs [] (p ∷ []) e lv' (le ∙ many)) (follow (copied_swaps u z t T vs [] (q ∷ p ∷ []) f lu' (lf ∙ (le ∙ many))) turned)))
      (defined_after leaves z t T vs d.uses (length d.ends) left few many h r0 (at (next h) 0) w y (used_many u f ∙ (lf ∙ le)) refl refl refl refl one sr)

-- ---- steps with a queue

-- no queue of the draft is this unit
abbrev pub Foreign : Draft → ℕ → Type 0
Foreign d v = (x : ℕ) (q : Queue) → queue_of d x ≡ Some q → q.unit ≢ v

defined_queue : (p : Place) (w x : ℕ) (q : Queue) (d : Draft) → defined p w (with_queue x q d) ≡ with_queue x q (defined p w d)
defined_queue p w x q d = by (uses_of_next d)
  where
    e : End
    e = record { place = p; width = w }

    by : (n : ℕ) → ◌≡◌ {A = Draft} (record (spread (record { place = p; width = w }) n (with_queue x q d)) { ends = (spread (record { place = p; width = w }) n (with_queue x q d)).ends ++ spread_end (record { place = p; width = w }) n (with_queue x q d) ∷ [] })
        (with_queue x q (record (spread (record { place = p; width = w }) n d) { ends = (spread (record { place = p; width = w }) n d).ends ++ spread_end (record { place = p; width = w }) n d ∷ [] }))
    by zero = refl
    by (suc zero) = refl
    by (suc (suc n)) = refl

-- a value without tokens
pub without_tokens : (T : ℕ → ℕ) (es : List (Option End)) (vs : List ℕ) (y : ℕ) → length es ≡ length vs → T (length es) ≡ 0 → kept T (es ++ None ∷ []) (vs ++ y ∷ []) ≡ kept T es vs
without_tokens T es vs y l e = kept_next T es None vs y l ∙ (ap (λ k. kept T es vs ++ row (at 0 0) k y) e ∙ append-nil (kept T es vs))

module _ (g : Graph) (gs : Groups) (net : Net) where
  pub port_small : (x : ℕ) (q : Queue) (is : List Instr) → QueueAt g gs net x q is → q.port + q.groups + 2 < 2 ^ 32
  port_small x q is h =
      let n = h.next in
      let e = ap length h.ports in
      let l = length-append h.used (steps_ports x is h.rest) in
      let f = h.few in
      let m = h.many in
      omega (arith, n, e, l, f, m)

  -- an output of a queue that has just been used
  pub new_used : (low x o : ℕ) (q : Queue) (f : Queue → Queue) (is : List Instr) (d e : Draft) → BooksAt g gs net is d → queue_of d x ≡ Some q → e.queues ≡ set d.queues x (Some (f q)) → UsedOf (f q) (at q.unit o) → Used low e.queues (at q.unit o)
  new_used low x o q f is d e books here moved new = inr (λ y r i u. by y r i u (cases_eq x y))
    where
      by : (y : ℕ) (r : Queue) → queue_of e y ≡ Some r → q.unit ≡ r.unit → (x ≡ y) ⊎ (x ≢ y) → UsedOf r (at q.unit o)
      by y r i u (inl z) =
          let t : (x == y) ≡ true = eq-eqb x y z in
          let k : moved_if f (x == y) (queue_of d y) ≡ Some r = sym (touched f d e x y (Some q) here moved) ∙ i in
          let h : queue_of d y ≡ Some q = ap (queue_of d) (sym z) ∙ here in
          let l : Some (f q) ≡ Some r = sym (ap (λ b. moved_if f b (Some q)) t) ∙ (sym (ap (moved_if f (x == y)) h) ∙ k) in
          let j : f q ≡ r = cc in
          subst (λ w. UsedOf w (at q.unit o)) j new
      by y r i u (inr n) =
          let t : (x == y) ≡ false = ne_eqb x y n in
          let k : moved_if f (x == y) (queue_of d y) ≡ Some r = sym (touched f d e x y (Some q) here moved) ∙ i in
          let h : queue_of d y ≡ Some r = unmoved (queue_of d y) (sym (ap (λ b. moved_if f b (queue_of d y)) t) ∙ k) in
          absurd (units_differ g gs net x y q.unit r.unit (books.queue x q here).unit (books.queue y r h).unit n (sym u))
        where
          unmoved : (c : Option Queue) → moved_if f false c ≡ Some r → c ≡ Some r
          unmoved None k = k
          unmoved (Some v) k = k

-- what a step leads to
pub record StepDone (g : Graph) (gs : Groups) (net : Net) (scalars : List ℕ) (low m : ℕ) (s : State) (h b : ℕ) (a : Aside) (z t : ℕ) (T : ℕ → ℕ) (vs : List ℕ) (i : Instr) (is : List Instr) (d : Draft) : Type 0 where
  pub after : Aside
  pub comes : Comes net scalars low m s h b 6 after (step_laid g.arrays i d) (open_tokens (step_laid g.arrays i d) z t T (vs ++ step_value i vs a.arrays ∷ []) [])
  pub waits : Waits g gs after.own (step_laid g.arrays i d) is
  pub kept : (v : ℕ) → Foreign d v → after.own v ≡ a.own v
  pub arrays : after.arrays ≡ step_arrays i vs a.arrays
  pub strays : after.strays ≡ a.strays + step_strays i vs a.arrays

module _ (g : Graph) (gs : Groups) {net : Net} {scalars : List ℕ} {low m : ℕ} (leaves : Leaves net) (early : length (front_of g gs).units ≤ low) where
  module _ {s : State} {a : Aside} (d : Draft) (z t : ℕ) (T : ℕ → ℕ) (vs : List ℕ) (left : T (length d.ends) ≡ get_or d.uses (length d.ends) 0) (few : get_or d.uses (length d.ends) 0 < 2 ^ 32) (many : length d.ends ≡ length vs) where
    load_comes : (q : Queue) (x w p : ℕ) (is : List Instr) → queue_of d x ≡ Some q → BooksAt g gs net (step.Load x p ∷ is) d → (k : ℕ) (left_ports : List ℕ) → a.own q.unit ≡ awaits (ports_of x g.blocks gs.of) k (q.port ∷ left_ports)
        → p < length vs → At net scalars low m s a d (open_tokens d z t (more p T) vs []) → Stands net low m (load_taken q x w p d)
        → Comes net scalars low m s (length d.chans) (length (open_tokens d z t (more p T) vs [])) 6 (record { own = own_set q.unit (awaits (ports_of x g.blocks gs.of) (suc k) left_ports) a.own; arrays = a.arrays; strays = a.strays + strays_past (cells a.arrays x) (value_at vs p) })
        (load_taken q x w p d) (open_tokens (load_taken q x w p d) z t T (vs ++ get_or (cells a.arrays x) (value_at vs p) 0 ∷ []) [])
    load_comes q x w p is here books k rest own lt o sr =
        let at_queue = books.queue x q here in
        let groups = groups_from x 0 gs.of in
        let ports = ports_of x g.blocks gs.of in
        let depth = depth_from x 16 gs.of in
        let e = copied p d in
        let f = token (copy_of p d).place (value_at vs p) in
        let c1 = chan f.place (at q.unit (addr_place q)) (copy_of p d).width false in
        let r0 = fed (copy_of p d) q.unit (addr_place q) e in
        let r1 = with_queue x (next_port q) r0 in
        let v = value_place q in
        let vp = value_at vs p in
        let y = get_or (cells a.arrays x) vp 0 in
        let same_draft : defined (at q.unit v) w r1 ≡ load_taken q x w p d = defined_queue (at q.unit v) w x (next_port q) r0 in
        let sr1 : Stands net low m (defined (at q.unit v) w r1) = subst (Stands net low m) (sym same_draft) sr in
        let x1 : Extends d r1 = record { more_units = []; more_chans = c1 ∷ []; units = sym (append-nil d.units); chans = refl } in
        let s1 = stands_between {d = d} {e = r1} {f = defined (at q.unit v) w r1} x1 (defined_more (at q.unit v) w r1) o.stands sr1 in
        let lt' : p < length d.ends = omega (arith, lt, many) in
        let o1 = copied_at p z t T vs [] [] o lt' many in
        let addr = last_wire {d = r1} d.chans c1 s1.within refl in
        let addr' = subst (λ n. Wired net f.place (at q.unit n)) (addr_is g gs net x q (step.Load x p ∷ is) at_queue) addr in
        let before : q.unit < low = (let b = at_queue.early in omega (arith, b, early)) in
        let under : q.unit < next e = (let b = o.stands.above in omega (arith, b, before)) in
        let is_many = at_queue.many in
        let small = port_small g gs net x q (step.Load x p ∷ is) at_queue in
        let free : NotIn (at q.unit (length groups + 1 + q.port)) (places (f ∷ open_tokens e z t T vs [])) =
        unused low e.queues x q (length groups + 1 + q.port) (places (f ∷ open_tokens e z t T vs [])) here before
        (λ r u i. ⊎_elim (λ h. let l = h.1 in absurd (omega (arith, i, l, is_many))) (λ h. let l = h.1 in absurd (omega (arith, i, l, is_many))) u) o1.used in
        let after : Aside = record { own = own_set q.unit (awaits ports (suc k) rest) a.own; arrays = a.arrays; strays = a.strays + strays_past (cells a.arrays x) vp } in
        let go = load_front leaves q.unit x depth ports groups at_queue.unit under o1.stage k q.port rest own (load_port g gs net x p q is at_queue) addr' free in
        let is_value = value_is g gs net x q (step.Load x p ∷ is) at_queue in
        let go' = subst (λ n. Reaches net scalars s 4 after 0 (next e) m (places (token (at q.unit n) y ∷ open_tokens e z t T vs [])) (values (token (at q.unit n) y ∷ open_tokens e z t T vs []))) (sym is_value) go in
        let calm = calm_set net a q.unit x depth ports groups (awaits ports (suc k) rest) a.arrays (a.strays + strays_past (cells a.arrays x) vp) at_queue.unit o.calm in
        let new : Used low r1.queues (at q.unit v) = new_used g gs net low x v q next_port (step.Load x p ∷ is) d r1 books here refl (inr ((omega (arith, is_value, is_many)), (omega (arith, is_value, is_many, small)))) in
        let old : AllUsed low r1.queues (places (open_tokens e z t T vs [])) = used_moves low d.queues r1.queues next_port (λ n. x == n) (λ n. touched next_port d r1 x n (Some q) here refl) (λ r. refl)
        (λ n r u i b. let l = port_small g gs net n r (step.Load x p ∷ is) (books.queue n r i) in ⊎_elim (λ h. inl h) (λ h. inr (h.0, (let j = h.1 in omega (arith, j, l))))) (places (open_tokens e z t T vs [])) o1.used.1 in
        let free' : NotIn (at q.unit v) (places (f ∷ open_tokens e z t T vs [])) = subst (λ n. NotIn (at q.unit n) (places (f ∷ open_tokens e z t T vs []))) (sym is_value) free in
        let one = comes_of (length d.chans) (suc (length (open_tokens e z t T vs []))) 4 (next e) r1 (token (at q.unit v) y ∷ open_tokens e z t T vs []) s1 calm (new, old) refl go' (omega arith) (gains (f ∷ open_tokens e z t T vs []) o1.stage free' go') in
        let l = used_many p d in
        let two = defined_comes leaves (at q.unit v) w y z t T vs [] one.there (left_as T d.uses (length e.ends) (length d.ends) l left) (few_as d.uses (length e.ends) (length d.ends) l few) (l ∙ many) sr1 in
        comes_from (open_tokens d z t (more p T) vs []) (f ∷ open_tokens e z t T vs []) (copied_swaps p z t T vs [] [] d lt' many)
        (subst (λ r. Comes net scalars low m s (length d.chans) (suc (length (open_tokens e z t T vs []))) 6 after r (open_tokens r z t T (vs ++ y ∷ []) [])) same_draft (comes_then one two))

    store_comes : (q : Queue) (x p v : ℕ) (is : List Instr) → queue_of d x ≡ Some q → BooksAt g gs net (step.Store x p v ∷ is) d → (k : ℕ) (left_ports : List ℕ) → a.own q.unit ≡ awaits (ports_of x g.blocks gs.of) k (q.port ∷ left_ports)
        → p < length vs → v < length vs → T (length d.ends) ≡ 0 → At net scalars low m s a d (open_tokens d z t (more p (more v T)) vs []) → Stands net low m (store_taken q x p v d)
        → Comes net scalars low m s (length d.chans) (length (open_tokens d z t (more p (more v T)) vs [])) 6 (record {
          own = own_set q.unit (awaits (ports_of x g.blocks gs.of) (suc k) left_ports) a.own;
          arrays = set a.arrays x (set (cells a.arrays x) (value_at vs p) (value_at vs v));
          strays = a.strays + strays_past (cells a.arrays x) (value_at vs p);
        }) (store_taken q x p v d) (open_tokens (store_taken q x p v d) z t T (vs ++ 0 ∷ []) [])
    store_comes q x p v is here books k rest own lt lu none o sr =
        let at_queue = books.queue x q here in
        let groups = groups_from x 0 gs.of in
        let ports = ports_of x g.blocks gs.of in
        let depth = depth_from x 16 gs.of in
        let e = copied p d in
        let f = copied v e in
        let i = token (copy_of p d).place (value_at vs p) in
        let j = token (copy_of v e).place (value_at vs v) in
        let c1 = chan i.place (at q.unit (addr_place q)) (copy_of p d).width false in
        let c2 = chan j.place (at q.unit (data_place q)) (copy_of v e).width false in
        let r = store_taken q x p v d in
        let vp = value_at vs p in
        let vv = value_at vs v in
        let lt' : p < length d.ends = omega (arith, lt, many) in
        let le = used_many p d in
        let lu' : v < length e.ends = omega (arith, lu, many, le) in
        let o1 = copied_at p z t (more v T) vs [] [] o lt' many in
        let o2 = copied_at v z t T vs [] (i ∷ []) o1 lu' (le ∙ many) in
        let o3 = at_swapped swap o2 in
        let datum = last_wire {d = r} (d.chans ++ c1 ∷ []) c2 sr.within refl in
        let addr = second_wire {d = r} d.chans c1 c2 sr.within refl in
        let datum' = subst (λ n. Wired net j.place (at q.unit n)) (data_is g gs net x q (step.Store x p v ∷ is) at_queue) datum in
        let addr' = subst (λ n. Wired net i.place (at q.unit n)) (addr_is g gs net x q (step.Store x p v ∷ is) at_queue) addr in
        let after : List (List ℕ) = set a.arrays x (set (cells a.arrays x) vp vv) in
        let late : ℕ = a.strays + strays_past (cells a.arrays x) vp in
        let go = store_front q.unit x depth ports groups at_queue.unit o3.stage k q.port rest own (store_port g gs net x p v q is at_queue) addr' datum' in
        let calm = calm_set net a q.unit x depth ports groups (awaits ports (suc k) rest) after late at_queue.unit o.calm in
        let old : AllUsed low r.queues (places (open_tokens f z t T vs [])) = used_moves low d.queues r.queues next_port (λ n. x == n) (λ n. touched next_port d r x n (Some q) here refl) (λ c. refl)
        (λ n c u y b. let l = port_small g gs net n c (step.Store x p v ∷ is) (books.queue n c y) in ⊎_elim (λ h. inl h) (λ h. inr (h.0, (let w = h.1 in omega (arith, w, l))))) (places (open_tokens f z t T vs [])) o3.used.1.1 in
        let one = comes_of (length d.chans) (suc (suc (length (open_tokens f z t T vs [])))) 6 (next f) r (open_tokens f z t T vs []) sr calm old refl go (omega arith) (loses (open_tokens f z t T vs []) o3.stage o3.stage.apart.0.1 go) in
        let lf = used_many v e ∙ le in
        let listed : open_tokens f z t T vs [] ≡ open_tokens r z t T (vs ++ 0 ∷ []) [] = ap (λ l. token d.control z ∷ (row d.trigger t z ++ (l ++ []))) (sym (without_tokens T f.ends vs 0 (lf ∙ many) (ap T lf ∙ none))) in
        comes_from (open_tokens d z t (more p (more v T)) vs []) (i ∷ j ∷ open_tokens f z t T vs []) (follow (copied_swaps p z t (more v T) vs [] [] d lt' many) (follow (copied_swaps v z t T vs [] (i ∷ []) e lu' (le ∙ many)) swap))
        (comes_swapped (swaps_of listed) one)

    still : (i : Instr) (is : List Instr) (b : ℕ) → Comes net scalars low m s (length d.chans) b 6 a (step_laid g.arrays i d) (open_tokens (step_laid g.arrays i d) z t T (vs ++ step_value i vs a.arrays ∷ []) []) → step_arrays i vs a.arrays ≡ a.arrays → step_strays i vs a.arrays ≡ 0
        → ((y : ℕ) → is_on y i ≡ false) → Waits g gs a.own d (i ∷ is) → StepDone g gs net scalars low m s (length d.chans) b a z t T vs i is d
    still i is b r e f off w = record { after = a; comes = r; waits = waits_plain g gs net i is d a.own (λ y q h. off y) w; kept = λ v h. refl; arrays = sym e; strays = omega (arith, f) }

    -- a step that is laid
    laid_comes : (i : Instr) (b k : ℕ) → k ≤ 6 → step_laid g.arrays i d ≡ step_made g.arrays i d → Comes net scalars low m s (length d.chans) b k a (step_made g.arrays i d) (open_tokens (step_made g.arrays i d) z t T (vs ++ step_value i vs a.arrays ∷ []) [])
        → Comes net scalars low m s (length d.chans) b 6 a (step_laid g.arrays i d) (open_tokens (step_laid g.arrays i d) z t T (vs ++ step_value i vs a.arrays ∷ []) [])
    laid_comes i b k le e r = subst (λ x. Comes net scalars low m s (length d.chans) b 6 a x (open_tokens x z t T (vs ++ step_value i vs a.arrays ∷ []) [])) (sym e) (comes_within (omega (arith, le)) r)

    -- a step that is not
    unlaid_comes : (i : Instr) → step_laid g.arrays i d ≡ undefined d → T (length d.ends) ≡ 0 → At net scalars low m s a d (open_tokens d z t T vs [])
        → Comes net scalars low m s (length d.chans) (length (open_tokens d z t T vs [])) 6 a (step_laid g.arrays i d) (open_tokens (step_laid g.arrays i d) z t T (vs ++ step_value i vs a.arrays ∷ []) [])
    unlaid_comes i e none o =
        let y = step_value i vs a.arrays in
        let listed : open_tokens d z t T vs [] ≡ open_tokens (undefined d) z t T (vs ++ y ∷ []) [] = ap (λ l. token d.control z ∷ (row d.trigger t z ++ (l ++ []))) (sym (without_tokens T d.ends vs y many none)) in
        let r = comes_as (undefined d) refl refl refl (comes_swapped (swaps_of listed) (comes_here o)) in
        subst (λ x. Comes net scalars low m s (length d.chans) (length (open_tokens d z t T vs [])) 6 a x (open_tokens x z t T (vs ++ y ∷ []) [])) (sym e) (comes_within (omega arith) r)

-- the tokens by other words
pub tokens_same : (d : Draft) (z t u : ℕ) (S U : ℕ → ℕ) (vs : List ℕ) (rest : List Token) → t ≡ u → ((w : ℕ) → S w ≡ U w) → open_tokens d z t S vs rest ≡ open_tokens d z u U vs rest
tokens_same d z t u S U vs rest e h = ap (λ k. open_tokens d z k S vs rest) e ∙ ap (λ l. token d.control z ∷ (row d.trigger u z ++ (l ++ rest))) (kept_as S U d.ends vs h)

-- what is left in front of a step, where T is left behind it
abbrev pub needed : Instr → (ℕ → ℕ) → ℕ → ℕ → ℕ
needed i T n w = cond (is_laid i n) (more_all (operands i) T w) (T w)

module _ (g : Graph) (gs : Groups) {net : Net} {scalars : List ℕ} {low m : ℕ} (leaves : Leaves net) (early : length (front_of g gs).units ≤ low) where
  module _ {s : State} {a : Aside} (d : Draft) (z t t0 : ℕ) (T T0 : ℕ → ℕ) (vs : List ℕ) (left : T (length d.ends) ≡ get_or d.uses (length d.ends) 0) (few : get_or d.uses (length d.ends) 0 < 2 ^ 32) (many : length d.ends ≡ length vs)
      (o : At net scalars low m s a d (open_tokens d z t0 T0 vs [])) where
    abbrev start : List Token
    start = open_tokens d z t0 T0 vs []

    module _ (i : Instr) (is : List Instr) (before : (w : ℕ) → T0 w ≡ needed i T (T (length d.ends)) w) (triggers : t0 ≡ constant_of i (T (length d.ends)) + t) (sr : Stands net low m (step_laid g.arrays i d)) where
      -- a step without effect and use
      unlaid : step_laid g.arrays i d ≡ undefined d → is_laid i 0 ≡ false → constant_of i 0 ≡ 0 → T (length d.ends) ≡ 0
          → Comes net scalars low m s (length d.chans) (length start) 6 a (step_laid g.arrays i d) (open_tokens (step_laid g.arrays i d) z t T (vs ++ step_value i vs a.arrays ∷ []) [])
      unlaid e off none zero_left =
          let c : constant_of i (T (length d.ends)) ≡ 0 = ap (constant_of i) zero_left ∙ none in
          let same_left : (w : ℕ) → T0 w ≡ T w = (λ w. before w ∙ (ap (λ n. needed i T n w) zero_left ∙ ap (λ b. cond b (more_all (operands i) T w) (T w)) off)) in
          let e1 = tokens_same d z t0 t T0 T vs [] (omega (arith, c, triggers)) same_left in
          comes_from start (open_tokens d z t T vs []) (swaps_of e1) (unlaid_comes g gs leaves early d z t T vs left few many i e zero_left (at_swapped (swaps_of e1) o))

      -- the tokens in front of a step that is laid
      laid_tokens : (n : ℕ) → T (length d.ends) ≡ n → is_laid i n ≡ true → open_tokens d z t0 T0 vs [] ≡ open_tokens d z (constant_of i n + t) (more_all (operands i) T) vs []
      laid_tokens n e on = tokens_same d z t0 (constant_of i n + t) T0 (more_all (operands i) T) vs [] (triggers ∙ ap (λ k. constant_of i k + t) e)
          (λ w. before w ∙ (ap (λ k. needed i T k w) e ∙ ap (λ b. cond b (more_all (operands i) T w) (T w)) on))

    pub step_done : (i : Instr) (is : List Instr) → ((w : ℕ) → T0 w ≡ needed i T (T (length d.ends)) w) → t0 ≡ constant_of i (T (length d.ends)) + t → AreBelow (length vs) (operands i) → (step_width g.arrays i ≡ None → T (length d.ends) ≡ 0)
        → BooksAt g gs net (i ∷ is) d → Waits g gs a.own d (i ∷ is) → Stands net low m (step_laid g.arrays i d) → StepDone g gs net scalars low m s (length d.chans) (length start) a z t T vs i is d
    step_done (step.Const w n) is before triggers below silent books waits sr = by (T (length d.ends)) refl
      where
        i : Instr
        i = step.Const w n

        by : (u : ℕ) → T (length d.ends) ≡ u → StepDone g gs net scalars low m s (length d.chans) (length start) a z t T vs (step.Const w n) is d
        by zero e = still g gs leaves early d z t T vs left few many (step.Const w n) is (length start)
            (unlaid (step.Const w n) is before triggers sr (ap (λ q. cond (is_used q) (const_laid w n d) (undefined d)) (sym left ∙ e)) refl refl e) refl refl (λ y. refl) waits
        by (suc u) e =
            let laid : step_laid g.arrays (step.Const w n) d ≡ const_laid w n d = ap (λ q. cond (is_used q) (const_laid w n d) (undefined d)) (sym left ∙ e) in
            let e1 = laid_tokens (step.Const w n) is before triggers sr (suc u) e refl in
            let e2 : open_tokens d z (1 + t) T vs [] ≡ open_tokens d z (suc t) T vs [] = ap (λ k. open_tokens d z k T vs []) (let q : 1 + t ≡ suc t = omega arith in q) in
            let r = const_comes leaves z t T vs left few many w n (at_swapped (swaps_of (e1 ∙ e2)) o) (subst (Stands net low m) laid sr) in
            still g gs leaves early d z t T vs left few many (step.Const w n) is (length start)
            (laid_comes g gs leaves early d z t T vs left few many (step.Const w n) (length start) 3 (omega arith) laid (comes_from start (open_tokens d z (suc t) T vs []) (swaps_of (e1 ∙ e2)) r)) refl refl (λ y. refl) waits
    step_done (step.One op v) is before triggers below silent books waits sr = by (T (length d.ends)) refl
      where
        by : (u : ℕ) → T (length d.ends) ≡ u → StepDone g gs net scalars low m s (length d.chans) (length start) a z t T vs (step.One op v) is d
        by zero e = still g gs leaves early d z t T vs left few many (step.One op v) is (length start)
            (unlaid (step.One op v) is before triggers sr (ap (λ q. cond (is_used q) (one_laid op v d) (undefined d)) (sym left ∙ e)) refl refl e) refl refl (λ y. refl) waits
        by (suc u) e =
            let laid : step_laid g.arrays (step.One op v) d ≡ one_laid op v d = ap (λ q. cond (is_used q) (one_laid op v d) (undefined d)) (sym left ∙ e) in
            let e1 = laid_tokens (step.One op v) is before triggers sr (suc u) e refl ∙ ap (λ k. open_tokens d z k (more v T) vs []) (let q : 0 + t ≡ t = omega arith in q) in
            let r = one_comes leaves z t T vs left few many op v below.0 (at_swapped (swaps_of e1) o) (subst (Stands net low m) laid sr) in
            still g gs leaves early d z t T vs left few many (step.One op v) is (length start)
            (laid_comes g gs leaves early d z t T vs left few many (step.One op v) (length start) 3 (omega arith) laid (comes_from start (open_tokens d z t (more v T) vs []) (swaps_of e1) r)) refl refl (λ y. refl) waits
    step_done (step.Two op v w) is before triggers below silent books waits sr = by (T (length d.ends)) refl
      where
        by : (u : ℕ) → T (length d.ends) ≡ u → StepDone g gs net scalars low m s (length d.chans) (length start) a z t T vs (step.Two op v w) is d
        by zero e = still g gs leaves early d z t T vs left few many (step.Two op v w) is (length start)
            (unlaid (step.Two op v w) is before triggers sr (ap (λ q. cond (is_used q) (two_laid op v w d) (undefined d)) (sym left ∙ e)) refl refl e) refl refl (λ y. refl) waits
        by (suc u) e =
            let laid : step_laid g.arrays (step.Two op v w) d ≡ two_laid op v w d = ap (λ q. cond (is_used q) (two_laid op v w d) (undefined d)) (sym left ∙ e) in
            let e1 = laid_tokens (step.Two op v w) is before triggers sr (suc u) e refl ∙ ap (λ k. open_tokens d z k (more v (more w T)) vs []) (let q : 0 + t ≡ t = omega arith in q) in
            let r = two_comes leaves z t T vs left few many op v w below.0 below.1.0 (at_swapped (swaps_of e1) o) (subst (Stands net low m) laid sr) in
            still g gs leaves early d z t T vs left few many (step.Two op v w) is (length start)
            (laid_comes g gs leaves early d z t T vs left few many (step.Two op v w) (length start) 4 (omega arith) laid (comes_from start (open_tokens d z t (more v (more w T)) vs []) (swaps_of e1) r)) refl refl (λ y. refl) waits
    step_done (step.Select w c v y) is before triggers below silent books waits sr = by (T (length d.ends)) refl
      where
        by : (u : ℕ) → T (length d.ends) ≡ u → StepDone g gs net scalars low m s (length d.chans) (length start) a z t T vs (step.Select w c v y) is d
        by zero e = still g gs leaves early d z t T vs left few many (step.Select w c v y) is (length start)
            (unlaid (step.Select w c v y) is before triggers sr (ap (λ q. cond (is_used q) (select_laid w c v y d) (undefined d)) (sym left ∙ e)) refl refl e) refl refl (λ n. refl) waits
        by (suc u) e =
            let laid : step_laid g.arrays (step.Select w c v y) d ≡ select_laid w c v y d = ap (λ q. cond (is_used q) (select_laid w c v y d) (undefined d)) (sym left ∙ e) in
            let e1 = laid_tokens (step.Select w c v y) is before triggers sr (suc u) e refl ∙ ap (λ k. open_tokens d z k (more c (more v (more y T))) vs []) (let q : 0 + t ≡ t = omega arith in q) in
            let r = select_comes leaves z t T vs left few many w c v y below.0 below.1.0 below.1.1.0 (at_swapped (swaps_of e1) o) (subst (Stands net low m) laid sr) in
            still g gs leaves early d z t T vs left few many (step.Select w c v y) is (length start)
            (laid_comes g gs leaves early d z t T vs left few many (step.Select w c v y) (length start) 5 (omega arith) laid (comes_from start (open_tokens d z t (more c (more v (more y T))) vs []) (swaps_of e1) r)) refl refl (λ n. refl) waits
    step_done (step.Load x p) is before triggers below silent books waits sr = by (queue_of d x) refl
      where
        e1 : open_tokens d z t0 T0 vs [] ≡ open_tokens d z t (more p T) vs []
        e1 = laid_tokens (step.Load x p) is before triggers sr (T (length d.ends)) refl refl ∙ ap (λ k. open_tokens d z k (more p T) vs []) (let q : 0 + t ≡ t = omega arith in q)

        by : (q : Option Queue) → queue_of d x ≡ q → StepDone g gs net scalars low m s (length d.chans) (length start) a z t T vs (step.Load x p) is d
        by None h =
            let w = width_at g.arrays x in
            let laid : load_laid g.arrays x p d ≡ read_laid x w p d = ap (λ q. load_by q x w p d) h in
            let r = read_comes leaves z t T vs left few many x w p below.0 (at_swapped (swaps_of e1) o) (subst (Stands net low m) laid sr) in
            record {
              after = strayed x (value_at vs p) a;
              comes = subst (λ l. Comes net scalars low m s (length d.chans) (length start) 6 (strayed x (value_at vs p) a) l (open_tokens l z t T (vs ++ get_or (cells a.arrays x) (value_at vs p) 0 ∷ []) [])) (sym laid)
                  (comes_within (omega arith) (comes_from start (open_tokens d z t (more p T) vs []) (swaps_of e1) r));
              kept = λ v f. refl;
              waits = waits_plain g gs net (step.Load x p) is d a.own (λ y q e. ne_eqb x y (λ n. (let k : None ≡ Some q = sym h ∙ (ap (queue_of d) n ∙ e) in absurd (cc)))) waits;
              arrays = refl;
              strays = refl;
            }
        by (Some q) h =
            let w = width_at g.arrays x in
            let laid : load_laid g.arrays x p d ≡ load_taken q x w p d = ap (λ q. load_by q x w p d) h in
            let b = waits x q h in
            let rest = left_of x (plus q.port 1) is in
            let on : (x == x) ≡ true = eq-eqb x x refl in
            let own : a.own q.unit ≡ awaits (ports_of x g.blocks gs.of) b.serial (q.port ∷ rest) = b.keeps ∙ ap (λ c. awaits (ports_of x g.blocks gs.of) b.serial (cond c (q.port ∷ rest) (left_of x q.port is))) on in
            let r = load_comes g gs leaves early d z t T vs left few many q x w p is h books b.serial rest own below.0 (at_swapped (swaps_of e1) o) (subst (Stands net low m) laid sr) in
            let after : Aside = record { own = own_set q.unit (awaits (ports_of x g.blocks gs.of) (suc b.serial) rest) a.own; arrays = a.arrays; strays = a.strays + strays_past (cells a.arrays x) (value_at vs p) } in
            record {
              after = after;
              comes = subst (λ l. Comes net scalars low m s (length d.chans) (length start) 6 after l (open_tokens l z t T (vs ++ get_or (cells a.arrays x) (value_at vs p) 0 ∷ []) [])) (sym laid) (comes_from start (open_tokens d z t (more p T) vs []) (swaps_of e1) r);
              kept = λ v f. own_other a.own q.unit v (awaits (ports_of x g.blocks gs.of) (suc b.serial) rest) (λ e. f x q h (sym e));
              waits = waits_access g gs net x q (step.Load x p) is d a.own (suc b.serial) books h (λ y. refl) waits;
              arrays = refl;
              strays = refl;
            }
    step_done (step.Store x p v) is before triggers below silent books waits sr = by (queue_of d x) refl
      where
        e1 : open_tokens d z t0 T0 vs [] ≡ open_tokens d z t (more p (more v T)) vs []
        e1 = laid_tokens (step.Store x p v) is before triggers sr (T (length d.ends)) refl refl ∙ ap (λ k. open_tokens d z k (more p (more v T)) vs []) (let q : 0 + t ≡ t = omega arith in q)

        by : (q : Option Queue) → queue_of d x ≡ q → StepDone g gs net scalars low m s (length d.chans) (length start) a z t T vs (step.Store x p v) is d
        by None h = absurd ((books.unstored x h).0 refl)
        by (Some q) h =
            let laid : store_laid x p v d ≡ store_taken q x p v d = ap (λ q. store_by q x p v d) h in
            let b = waits x q h in
            let rest = left_of x (plus q.port 1) is in
            let on : (x == x) ≡ true = eq-eqb x x refl in
            let own : a.own q.unit ≡ awaits (ports_of x g.blocks gs.of) b.serial (q.port ∷ rest) = b.keeps ∙ ap (λ c. awaits (ports_of x g.blocks gs.of) b.serial (cond c (q.port ∷ rest) (left_of x q.port is))) on in
            let r = store_comes g gs leaves early d z t T vs left few many q x p v is h books b.serial rest own below.0 below.1.0 (silent refl) (at_swapped (swaps_of e1) o) (subst (Stands net low m) laid sr) in
            let after : Aside = record {
              own = own_set q.unit (awaits (ports_of x g.blocks gs.of) (suc b.serial) rest) a.own;
              arrays = set a.arrays x (set (cells a.arrays x) (value_at vs p) (value_at vs v));
              strays = a.strays + strays_past (cells a.arrays x) (value_at vs p);
            } in
            record {
              after = after;
              comes = subst (λ l. Comes net scalars low m s (length d.chans) (length start) 6 after l (open_tokens l z t T (vs ++ 0 ∷ []) [])) (sym laid) (comes_from start (open_tokens d z t (more p (more v T)) vs []) (swaps_of e1) r);
              kept = λ v f. own_other a.own q.unit v (awaits (ports_of x g.blocks gs.of) (suc b.serial) rest) (λ e. f x q h (sym e));
              waits = waits_access g gs net x q (step.Store x p v) is d a.own (suc b.serial) books h (λ y. refl) waits;
              arrays = refl;
              strays = refl;
            }
