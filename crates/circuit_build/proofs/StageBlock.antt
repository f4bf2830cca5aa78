-- The groups of a block are allocated in order, and its steps follow in order.
use Rattle.std.proofs.Common.{◌≡◌, ◌≢◌, ℕ, zero, suc, ◌+◌, ◌*◌, ◌^◌, ◌<◌, ◌≤◌, ◌==◌, Bool, true, false, cond, Option, Some, None, List, [], ◌∷◌, ◌++◌, length, get_or, refl, sym, ap, ◌∙◌, subst, inl, inr, ⊎_elim, arith, slice_get, length-append, eq-eqb, ne_eqb}
use Rattle.std.proofs.lemmas.List.{append-nil}
use Rattle.std.proofs.lemmas.Bool.{cases_eq, eqb-true}
use Rattle.el_base.specs.declared.ty.Array.{Array}
use Rattle.ir.specs.declared.instr.Instr.{Instr}
use Rattle.ir.specs.declared.instr.Instr.TheVariants as step
use Rattle.ir.specs.declared.groups.Access.{Access}
use Rattle.ir.specs.declared.groups.Groups.{Groups}
use Rattle.ir.specs.Accesses.{is_on}
use Rattle.ir.specs.Graphs.{Graph}
use Rattle.ir.specs.Renaming.{operands}
use Rattle.ir.specs.Shapes.{Shape, StepsFit, step_width, shape_after}
use Rattle.ir.specs.Steps.{Work, step_value, step_arrays, step_strays, after_step, through}
use Rattle.net_types.specs.declared.net.Place.{Place}
use Rattle.net_types.specs.declared.net.Net.{Net}
use Rattle.net_types.specs.Nets.{at}
use Rattle.net_core.specs.Fire.{State, Own}
use Rattle.circuit_build.specs.declared.draft.Draft.{Draft}
use Rattle.circuit_build.specs.declared.draft.End.{End}
use Rattle.circuit_build.specs.declared.draft.Queue.{Queue}
use Rattle.circuit_build.specs.Built.{front_of}
use Rattle.circuit_build.specs.Drafts.{plus, next, spread_end, uses_of_next, defined, undefined, copied}
use Rattle.circuit_build.specs.Fronts.{ports_of, groups_from, depth_from}
use Rattle.circuit_build.specs.Steps.{queue_of, next_port, next_group, group_taken, allocated_by, allocated, width_at, load_by, store_by, step_made, step_laid, steps_laid}
use Rattle.circuit_build.specs.Uses.{is_laid, constant_of, constants, steps_added}
use Rattle.circuit_build.proofs.Marks.{Aside, own_set, awaits}
use Rattle.circuit_build.proofs.MarkLemmas.{own_here}
use Rattle.circuit_build.proofs.Stages.{NotIn, Reaches}
use Rattle.circuit_build.proofs.CountBooks.{chan}
use Rattle.circuit_build.proofs.Fields.{step_kept}
use Rattle.circuit_build.proofs.LaySections.{Extends, Leaves, UsedOf, Used, AllUsed}
use Rattle.circuit_build.proofs.LayExtends.{extends_own, extends_then, step_extends, steps_extend, allocated_by_extends}
use Rattle.circuit_build.proofs.LayBlocks.{left_of, BooksAt, GroupsAt, IsLast, pending, all_allocated}
use Rattle.circuit_build.proofs.LayBooks.{moved_if, touched, step_queue, allocated_queue, books_step, books_allocated}
use Rattle.circuit_build.proofs.Remains.{steps_added_length, steps_added_most, step_added_past, operands_below}
use Rattle.circuit_build.proofs.StageTokens.{Token, token, places, values, swaps_of}
use Rattle.circuit_build.proofs.StageUses.{gains, Stands, stands_between, last_wire, open_tokens, At, Comes, at_swapped, comes_here, comes_then, comes_from, comes_within, comes_swapped, comes_of, defined_ends, used_many}
use Rattle.circuit_build.proofs.StageQueues.{own_other, calm_set, alloc_front, unused, used_moves, Waiting, Waits, units_differ}
use Rattle.circuit_build.proofs.StageSteps.{Foreign, StepDone, new_used, tokens_same, needed, step_done}
use Rattle.circuit_build.proofs.StageCounts.{table, below_in, step_needs, silent_steps, shape_keeps, get_last}

-- ---- a step makes one value

pub defined_many : (p : Place) (w : ℕ) (d : Draft) → length (defined p w d).ends ≡ suc (length d.ends)
defined_many p w d = let e = ap (λ (es : List (Option End)). length es) (defined_ends p w d) in let l = length-append d.ends (spread_end (record { place = p; width = w }) (uses_of_next d) d ∷ []) in omega (arith, e, l)

undefined_many : (d : Draft) → length (undefined d).ends ≡ suc (length d.ends)
undefined_many d = let l = length-append d.ends (None ∷ []) in omega (arith, l)

load_many : (q : Option Queue) (x w p : ℕ) (d : Draft) → length (load_by q x w p d).ends ≡ suc (length d.ends)
load_many None x w p d = defined_many _ w _ ∙ ap suc (used_many p d)
load_many (Some q) x w p d = defined_many _ w _ ∙ ap suc (used_many p d)

store_many : (q : Option Queue) (x p v : ℕ) (d : Draft) → length (store_by q x p v d).ends ≡ suc (length d.ends)
store_many None x p v d = undefined_many d
store_many (Some q) x p v d = undefined_many (copied v (copied p d)) ∙ ap suc (used_many v (copied p d) ∙ used_many p d)

made_many : (arrays : List Array) (i : Instr) (d : Draft) → length (step_made arrays i d).ends ≡ suc (length d.ends)
made_many arrays (step.Const w n) d = defined_many _ w _
made_many arrays (step.One op v) d = defined_many _ _ _ ∙ ap suc (used_many v d)
made_many arrays (step.Two op v w) d = defined_many _ _ _ ∙ ap suc (used_many w (copied v d) ∙ used_many v d)
made_many arrays (step.Select w c v u) d = defined_many _ w _ ∙ ap suc (used_many u (copied v (copied c d)) ∙ (used_many v (copied c d) ∙ used_many c d))
made_many arrays (step.Load x p) d = load_many (queue_of d x) x (width_at arrays x) p d
made_many arrays (step.Store x p v) d = store_many (queue_of d x) x p v d

pub step_many : (arrays : List Array) (i : Instr) (d : Draft) → length (step_laid arrays i d).ends ≡ suc (length d.ends)
step_many arrays i d = by (is_laid i (uses_of_next d))
  where
    by : (b : Bool) → length (cond b (step_made arrays i d) (undefined d)).ends ≡ suc (length d.ends)
    by true = made_many arrays i d
    by false = undefined_many d

-- ---- units that are no queue of a draft

pub foreign_moved : (d e : Draft) (v : ℕ) (f : Queue → Queue) (t : ℕ → Bool) → ((q : Queue) → (f q).unit ≡ q.unit) → ((x : ℕ) → queue_of e x ≡ moved_if f (t x) (queue_of d x)) → Foreign d v → Foreign e v
foreign_moved d e v f t same moves h x q is = by (queue_of d x) (t x) refl (sym (moves x) ∙ is)
  where
    by : (o : Option Queue) (b : Bool) → queue_of d x ≡ o → moved_if f b o ≡ Some q → q.unit ≢ v
    by None b e k = absurd (cc)
    by (Some r) true e k = let z : f r ≡ q = cc in λ u. h x r e (sym (same r) ∙ (ap (λ (c : Queue). c.unit) z ∙ u))
    by (Some r) false e k = let z : r ≡ q = cc in λ u. h x r e (ap (λ (c : Queue). c.unit) z ∙ u)

-- ---- the steps in order

-- in front of these steps
abbrev pub steps_tokens : Draft → ℕ → List Instr → List ℕ → List ℕ → List Token
steps_tokens d z is t vs = open_tokens d z (constants (length d.ends) is d.uses) (table (steps_added (length d.ends) is t)) vs []

-- what steps lead to, from what has been worked out before
pub record StepsDone (g : Graph) (gs : Groups) (net : Net) (scalars : List ℕ) (low m : ℕ) (s : State) (h b : ℕ) (a : Aside) (z : ℕ) (t : List ℕ) (w : Work) (is : List Instr) (d : Draft) : Type 0 where
  pub after : Aside
  pub comes : Comes net scalars low m s h b (6 * length is) after (steps_laid g.arrays is d) (open_tokens (steps_laid g.arrays is d) z 0 (table t) (through is w).values [])
  pub many : length (steps_laid g.arrays is d).ends ≡ length (through is w).values
  pub waits : Waits g gs after.own (steps_laid g.arrays is d) []
  pub kept : (v : ℕ) → Foreign d v → after.own v ≡ a.own v
  pub arrays : after.arrays ≡ (through is w).arrays
  pub strays : after.strays + w.strays ≡ a.strays + (through is w).strays

-- the table of what the jump uses: it has room for what the steps use, and nothing for values without a width
pub record TableFits (arrays : List Array) (ws : Shape) (is : List Instr) (t : List ℕ) (d : Draft) : Type 0 where
  pub long : length ws + length is ≤ length t
  pub room : (v : ℕ) → get_or t v 0 + 3 * length is + 5 < 2 ^ 32
  pub silent : (v : ℕ) → slice_get (shape_after arrays ws is) v ≡ Some None → get_or t v 0 ≡ 0
  pub ahead : (v : ℕ) → length d.ends ≤ v → get_or d.uses v 0 ≡ get_or (steps_added (length d.ends) is t) v 0
  pub tall : length ws ≡ length d.ends

table_next : (arrays : List Array) (ws : Shape) (i : Instr) (is : List Instr) (t : List ℕ) (d : Draft) → StepsFit arrays ws (i ∷ is) → TableFits arrays ws (i ∷ is) t d → TableFits arrays (ws ++ step_width arrays i ∷ []) is t (step_laid arrays i d)
table_next arrays ws i is t d fit h =
    let l = length-append ws (step_width arrays i ∷ []) in
    let k = h.long in
    let n = step_many arrays i d in
    let y = h.tall in
    record {
      long = omega (arith, l, k);
      room = λ v. let r = h.room v in omega (arith, r);
      silent = h.silent;
      ahead = λ v le. (let le' : length d.ends ≤ v = omega (arith, le, n) in
          ap (λ us. get_or us v 0) (step_kept arrays i d).uses ∙ (h.ahead v le' ∙ (step_added_past arrays ws (length d.ends) i v (steps_added (suc (length d.ends)) is t) fit.0 (omega (arith, y, le'))
          ∙ ap (λ k. get_or (steps_added k is t) v 0) (sym n))));
      tall = omega (arith, l, n, y);
    }

module _ (g : Graph) (gs : Groups) {net : Net} {scalars : List ℕ} {low m : ℕ} (leaves : Leaves net) (early : length (front_of g gs).units ≤ low) where
  pub steps_done : (is : List Instr) (w : Work) {s : State} {a : Aside} (d : Draft) (z : ℕ) (t : List ℕ) (ws : Shape) → At net scalars low m s a d (steps_tokens d z is t w.values) → length d.ends ≡ length w.values → StepsFit g.arrays ws is
      → TableFits g.arrays ws is t d → BooksAt g gs net is d → Waits g gs a.own d is → a.arrays ≡ w.arrays → Stands net low m (steps_laid g.arrays is d) → StepsDone g gs net scalars low m s (length d.chans) (length (steps_tokens d z is t w.values)) a z t w is d
  steps_done [] w {a = a} d z t ws o many fit fits books waits same_arrays sr = record { after = a; comes = comes_here o; many = many; waits = waits; kept = λ v f. refl; arrays = same_arrays; strays = refl }
  steps_done (i ∷ is) w {s = s} {a = a} d z t ws o many fit fits books waits same_arrays sr =
      let n = length d.ends in
      let e = step_laid g.arrays i d in
      let vs = w.values in
      let u = steps_added (suc n) is t in
      let T = table u in
      let k = constants (suc n) is d.uses in
      let se = stands_between {d = d} {e = e} {f = steps_laid g.arrays is e} (step_extends d g.arrays i) (steps_extend e g.arrays is) o.stands sr in
      let y = fits.tall in
      let own_left : T n ≡ get_or d.uses n 0 = sym (step_added_past g.arrays ws n i n u fit.0 (omega (arith, y))) ∙ sym (fits.ahead n (omega arith)) in
      let most = steps_added_most (suc n) is n t in
      let r = fits.room n in
      let few : get_or d.uses n 0 < 2 ^ 32 = omega (arith, own_left, most, r) in
      let ulong = steps_added_length (suc n) is t in
      let tlong = fits.long in
      let before : (v : ℕ) → get_or (steps_added n (i ∷ is) t) v 0 ≡ needed i T (T n) v =
      (λ v. let q = fits.room v in let p = steps_added_most (suc n) is v t in step_needs g.arrays ws n i u v fit.0 (omega (arith, ulong, tlong)) (omega (arith, q, p))) in
      let triggers : constants n (i ∷ is) d.uses ≡ constant_of i (T n) + k = ap (λ q. constant_of i q + k) (sym own_left) in
      let silent : step_width g.arrays i ≡ None → T n ≡ 0 =
      (λ none. (let last : slice_get (ws ++ step_width g.arrays i ∷ []) n ≡ Some None = ap (slice_get (ws ++ step_width g.arrays i ∷ [])) (sym y) ∙ (get_last ws (step_width g.arrays i) ∙ ap Some none) in
      silent_steps g.arrays is (ws ++ step_width g.arrays i ∷ []) (suc n) n t last fit.1 ∙ fits.silent n (shape_keeps g.arrays is (ws ++ step_width g.arrays i ∷ []) n None last))) in
      let one = step_done g gs leaves early d z k (constants n (i ∷ is) d.uses) T (table (steps_added n (i ∷ is) t)) vs own_left few many o i is before triggers (below_in (operands i) (length ws) (length vs) (y ∙ many) (operands_below g.arrays ws i fit.0)) silent books waits se in
      let next_work = after_step i w in
      let more_ends = step_many g.arrays i d in
      let k' : k ≡ constants (length e.ends) is e.uses = ap (λ q. constants q is d.uses) (sym more_ends) ∙ ap (λ us. constants (length e.ends) is us) (sym (step_kept g.arrays i d).uses) in
      let listed : open_tokens e z k T (vs ++ step_value i vs a.arrays ∷ []) [] ≡ steps_tokens e z is t next_work.values =
      tokens_same e z k (constants (length e.ends) is e.uses) T (table (steps_added (length e.ends) is t)) (vs ++ step_value i vs a.arrays ∷ []) [] k' (λ v. ap (λ q. get_or (steps_added q is t) v 0) (sym more_ends))
      ∙ ap (λ xs. steps_tokens e z is t (vs ++ step_value i vs xs ∷ [])) same_arrays in
      let first = comes_swapped (swaps_of listed) one.comes in
      let lv = length-append vs (step_value i vs w.arrays ∷ []) in
      let many' : length e.ends ≡ length next_work.values = omega (arith, more_ends, many, lv) in
      let rest = steps_done is next_work e z t (ws ++ step_width g.arrays i ∷ []) first.there many' fit.1 (table_next g.arrays ws i is t d fit fits) (books_step g gs net i is d books) one.waits (one.arrays ∙ ap (step_arrays i vs) same_arrays) sr in
      let late : one.after.strays ≡ a.strays + step_strays i vs w.arrays = one.strays ∙ ap (λ xs. a.strays + step_strays i vs xs) same_arrays in
      record {
        after = rest.after;
        comes = comes_within (omega arith) (comes_then first rest.comes);
        many = rest.many;
        waits = rest.waits;
        kept = λ v f. rest.kept v (foreign_moved d e v next_port (λ x. is_on x i) (λ q. refl) (step_queue g.arrays i d) f) ∙ one.kept v f;
        arrays = rest.arrays;
        strays = (let l = rest.strays in omega (arith, l, late));
      }

-- ---- groups

pub all_extend : (xs : List Access) (d : Draft) → Extends d (all_allocated xs d)
all_extend [] d = extends_own d
all_extend (y ∷ ys) d = extends_then d (allocated y.array d) (all_allocated ys (allocated y.array d)) (allocated_by_extends d y.array (queue_of d y.array)) (all_extend ys (allocated y.array d))

-- each queue waits for the ports of the steps, or for nothing where its group is still to come
abbrev pub WaitsBut : Graph → Groups → (ℕ → Own) → Draft → List Access → List Instr → Type 0
WaitsBut g gs own d xs is = (x : ℕ) (q : Queue) → queue_of d x ≡ Some q → Waiting g gs own x q (pending x xs (left_of x q.port is))

pub record GroupsDone (g : Graph) (gs : Groups) (net : Net) (scalars : List ℕ) (low m : ℕ) (s : State) (a : Aside) (z : ℕ) (ts : List Token) (xs ys : List Access) (is : List Instr) (d : Draft) : Type 0 where
  pub after : Aside
  pub comes : Comes net scalars low m s (length d.chans) (suc (length ts)) (length xs) after (all_allocated xs d) (token (all_allocated xs d).control z ∷ ts)
  pub waits : WaitsBut g gs after.own (all_allocated xs d) ys is
  pub kept : (v : ℕ) → Foreign d v → after.own v ≡ a.own v
  pub arrays : after.arrays ≡ a.arrays
  pub strays : after.strays ≡ a.strays

module _ (g : Graph) (gs : Groups) {net : Net} where
  group_waits : (x : Access) (xs : List Access) (q : Queue) (is : List Instr) (d : Draft) (own : ℕ → Own) (serial : ℕ) → BooksAt g gs net is d → queue_of d x.array ≡ Some q → IsLast x.array xs → WaitsBut g gs own d (x ∷ xs) is
      → WaitsBut g gs (own_set q.unit (awaits (ports_of x.array g.blocks gs.of) serial (left_of x.array q.port is)) own) (allocated x.array d) xs is
  group_waits x xs q is d own serial books here last waits y p e =
      let c = x.array in
      let o : Own = awaits (ports_of c g.blocks gs.of) serial (left_of c q.port is) in
      let f : moved_if next_group (c == y) (queue_of d y) ≡ Some p = sym (allocated_queue c d y) ∙ e in
      elim (cases_eq c y) [
        | inl z ↦
            (let t : (c == y) ≡ true = eq-eqb c y z in
            let h : queue_of d y ≡ Some q = ap (queue_of d) (sym z) ∙ here in
            let k : Some (next_group q) ≡ Some p = sym (ap (λ b. moved_if next_group b (Some q)) t) ∙ (sym (ap (moved_if next_group (c == y)) h) ∙ f) in
            let r : next_group q ≡ p = cc in
            let l : pending y xs (left_of y p.port is) ≡ left_of y p.port is = subst (λ b. pending b xs (left_of y p.port is) ≡ left_of y p.port is) z (last (left_of y p.port is)) in
            record {
              serial = serial;
              keeps = ap (own_set q.unit o own) (sym (ap (λ (b : Queue). b.unit) r)) ∙ (own_here own q.unit o
                  ∙ (ap (λ b. awaits (ports_of b g.blocks gs.of) serial (left_of b q.port is)) z ∙ (ap (λ (b : Queue). awaits (ports_of y g.blocks gs.of) serial (left_of y b.port is)) r
                  ∙ ap (awaits (ports_of y g.blocks gs.of) serial) (sym l))));
            })
        | inr z ↦
            (let t : (c == y) ≡ false = ne_eqb c y z in
            let h : queue_of d y ≡ Some p = same_queue (queue_of d y) (sym (ap (λ b. moved_if next_group b (queue_of d y)) t) ∙ f) in
            let w = waits y p h in
            let u : p.unit ≢ q.unit = units_differ g gs net c y q.unit p.unit (books.queue c q here).unit (books.queue y p h).unit z in
            record { serial = w.serial; keeps = own_other own q.unit p.unit o u ∙ (w.keeps ∙ ap (λ b. awaits (ports_of y g.blocks gs.of) w.serial (cond b [] (pending y xs (left_of y p.port is)))) t) })
      ]
    where
      same_queue : (c : Option Queue) → moved_if next_group false c ≡ Some p → c ≡ Some p
      same_queue None k = k
      same_queue (Some r) k = k

module _ (g : Graph) (gs : Groups) {net : Net} {scalars : List ℕ} {low m : ℕ} (leaves : Leaves net) (early : length (front_of g gs).units ≤ low) where
  pub groups_done : (xs : List Access) (is : List Instr) {s : State} {a : Aside} (d : Draft) (z : ℕ) (ts : List Token) → At net scalars low m s a d (token d.control z ∷ ts) → BooksAt g gs net is d → GroupsAt g gs net is xs d → WaitsBut g gs a.own d xs is
      → Stands net low m (all_allocated xs d) → GroupsDone g gs net scalars low m s a z ts xs [] is d
  groups_done [] is {a = a} d z ts o books here waits sr = record { after = a; comes = comes_here o; waits = waits; kept = λ v f. refl; arrays = refl; strays = refl }
  groups_done (x ∷ xs) is {s = s} {a = a} d z ts o books here waits sr =
      let c = x.array in
      let q = here.0.queue in
      let is_queue = here.0.is_queue in
      let at_queue = books.queue c q is_queue in
      let ports = ports_of c g.blocks gs.of in
      let groups = groups_from c 0 gs.of in
      let depth = depth_from c 16 gs.of in
      let group = get_or groups q.group [] in
      let e = group_taken c q d in
      let same_draft : allocated c d ≡ e = ap (λ b. allocated_by c b d) is_queue in
      let se' = stands_between {d = d} {e = allocated c d} {f = all_allocated (x ∷ xs) d} (allocated_by_extends d c (queue_of d c)) (all_extend xs (allocated c d)) o.stands sr in
      let se = subst (Stands net low m) same_draft se' in
      let c1 = chan d.control (at q.unit q.group) 32 true in
      let into = last_wire {d = e} d.chans c1 se.within refl in
      let w = waits c q is_queue in
      let on : (c == c) ≡ true = eq-eqb c c refl in
      let own : a.own q.unit ≡ awaits ports w.serial [] = w.keeps ∙ ap (λ b. awaits ports w.serial (cond b [] (pending c xs (left_of c q.port is)))) on in
      let before : q.unit < low = (let b = at_queue.early in omega (arith, b, early)) in
      let under : q.unit < next d = (let b = o.stands.above in omega (arith, b, before)) in
      let room : length group ≤ depth = subst (λ l. length l ≤ depth) (sym here.0.group) here.0.deep in
      let is_many = at_queue.many in
      let less = here.0.less in
      let small = at_queue.few in
      let free : NotIn (at q.unit q.group) (places (token d.control z ∷ ts)) = unused low d.queues c q q.group (places (token d.control z ∷ ts)) is_queue before
      (λ r u i. ⊎_elim (λ h. let l = h.0 in absurd (omega (arith, i, l))) (λ h. let l = h.0 in absurd (omega (arith, i, l, is_many, less))) u) o.used in
      let go = alloc_front leaves q.unit c depth ports groups at_queue.unit under o.stage w.serial q.group own less room into free in
      let b : Aside = record a { own = own_set q.unit (awaits ports w.serial group) a.own } in
      let calm = calm_set net a q.unit c depth ports groups (awaits ports w.serial group) a.arrays a.strays at_queue.unit o.calm in
      let new : Used low e.queues (at q.unit q.group) = new_used g gs net low c q.group q next_group is d e books is_queue refl (inl ((omega (arith, is_many, less, small)), (omega (arith, is_many, less)))) in
      let old : AllUsed low e.queues (places ts) = used_moves low d.queues e.queues next_group (λ n. c == n) (λ n. touched next_group d e c n (Some q) is_queue refl) (λ r. refl)
      (λ n r u i y. (let f : c ≡ n = eqb-true c n y in let k : Some q ≡ Some r = sym is_queue ∙ (ap (queue_of d) f ∙ i) in let j : q ≡ r = cc in let l = ap (λ (v : Queue). v.group) j in
      ⊎_elim (λ h. inl ((let p = h.0 in omega (arith, p, l, is_many, less, small)), h.1)) (λ h. inr h))) (places ts) o.used.1 in
      let one' = comes_of (length d.chans) (suc (length ts)) 1 (next d) e (token (at q.unit q.group) z ∷ ts) se calm (new, old) refl go (omega arith) (gains (token d.control z ∷ ts) o.stage free go) in
      let one : Comes net scalars low m s (length d.chans) (suc (length ts)) 1 b (allocated c d) (token (allocated c d).control z ∷ ts) =
      subst (λ r. Comes net scalars low m s (length d.chans) (suc (length ts)) 1 b r (token r.control z ∷ ts)) (sym same_draft) one' in
      let waits' : WaitsBut g gs b.own (allocated c d) xs is = subst (λ l. WaitsBut g gs (own_set q.unit (awaits ports w.serial l) a.own) (allocated c d) xs is) (sym here.0.group) (group_waits g gs x xs q is d a.own w.serial books is_queue here.1 waits) in
      let rest = groups_done xs is (allocated c d) z ts one.there (books_allocated g gs net c is d books) here.2 waits' sr in
      record {
        after = rest.after;
        comes = comes_within (omega arith) (comes_then one rest.comes);
        waits = rest.waits;
        kept = λ v f. rest.kept v (foreign_moved d (allocated c d) v next_group (λ y. c == y) (λ r. refl) (allocated_queue c d) f) ∙ own_other a.own q.unit v (awaits ports w.serial group) (λ u. f c q is_queue (sym u));
        arrays = rest.arrays;
        strays = rest.strays;
      }
