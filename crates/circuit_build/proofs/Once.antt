-- One entry, one exit, and one unit for each scalar.
use Rattle.std.proofs.Common.{◌≡◌, ◌≢◌, ℕ, ◌+◌, ◌^◌, ◌<◌, ◌≤◌, List, [], ◌∷◌, ◌++◌, length, Option, Some, None, refl, sym, subst, ap, ◌∙◌, inl, inr, Bool, true, false, arith}
use Rattle.std.specs.Prelude.{cond, count_by}
use Rattle.std.proofs.lemmas.Bool.{cases_eq, eq-eqb, ne_eqb}
use Rattle.std.proofs.lemmas.List.Sums.{sum_by_push}
use Rattle.el_base.specs.declared.ty.Ty.{Ty}
use Rattle.el_base.specs.declared.ty.Scalar.{Scalar}
use Rattle.el_base.specs.declared.ty.Array.{Array}
use Rattle.ir.specs.declared.graph.Block.{Block}
use Rattle.ir.specs.declared.groups.Access.{Access}
use Rattle.net_types.specs.declared.net.Port.{Port}
use Rattle.ir.specs.declared.groups.Groups.{Groups}
use Rattle.ir.specs.Graphs.{Graph}
use Rattle.net_types.specs.declared.net.Unit.{Unit as Kind}
use Rattle.net_types.specs.declared.net.Unit.TheVariants.{Param, Lsq, Exit}
use Rattle.net_check.specs.Headers.{is_entry, is_exit, is_param, is_queue}
use Rattle.circuit_build.specs.declared.draft.Draft.{Draft}
use Rattle.circuit_build.specs.Drafts.{with_unit, plus}
use Rattle.circuit_build.specs.Blocks.{ins_of, head_laid}
use Rattle.circuit_build.specs.Edges.{edge_counts}
use Rattle.circuit_build.specs.Endings.{result_widths, ones, all_ended, exited}
use Rattle.circuit_build.specs.Fronts.{started, params_laid, entered, queue_if, queues_laid, ports_of, groups_from, depth_from}
use Rattle.circuit_build.specs.Built.{join_of, with_feeders, whole_draft}
use Rattle.circuit_build.specs.Laws.{UnitsStandOnce}
use Rattle.circuit_build.proofs.Keeps as keeps
use Rattle.circuit_build.proofs.Keeps.{Laid, Free, free, free_few}

-- ---- how many units of a kind a draft has

abbrev pub how_many : (Kind → Bool) → Draft → ℕ
how_many q d = count_by q d.units

pub one_more : (q : Kind → Bool) (xs : List Kind) (k : Kind) → count_by q (xs ++ k ∷ []) ≡ count_by q xs + cond (q k) 1 0
one_more q xs k = sum_by_push (λ x. cond (q x) 1 0) xs k

pub other_unit : (q : Kind → Bool) (n : ℕ) (k : Kind) (d : Draft) → q k ≡ false → how_many q d ≡ n → how_many q (with_unit k d) ≡ n
other_unit q n k d f h = let e : count_by q (d.units ++ k ∷ []) ≡ count_by q d.units + 0 = one_more q d.units k ∙ ap (λ b. count_by q d.units + cond b 1 0) f in omega (arith, e, h)

pub this_unit : (q : Kind → Bool) (n : ℕ) (k : Kind) (d : Draft) → q k ≡ true → how_many q d ≡ n → how_many q (with_unit k d) ≡ n + 1
this_unit q n k d f h = let e : count_by q (d.units ++ k ∷ []) ≡ count_by q d.units + 1 = one_more q d.units k ∙ ap (λ b. count_by q d.units + cond b 1 0) f in omega (arith, e, h)

pub same_units : (q : Kind → Bool) (n : ℕ) (d e : Draft) → e.units ≡ d.units → e.chans ≡ d.chans → how_many q d ≡ n → how_many q e ≡ n
same_units q n d e u c h = ap (count_by q) u ∙ h

-- no other unit is of the kind
abbrev Others : (Kind → Bool) → Type 0
Others q = Laid (λ k. q k ≡ false) (λ n. Unit {0}) Free

entries : Others is_entry
entries = record { const = λ w n. refl; op1 = λ op. refl; op2 = λ op. refl; select = λ w. refl; fork1 = λ w. refl; forks = λ w n l o. refl; mux = λ w n i. refl; merge = λ n i. refl; branch = λ w. refl; sink = λ w. refl }

exits : Others is_exit
exits = record { const = λ w n. refl; op1 = λ op. refl; op2 = λ op. refl; select = λ w. refl; fork1 = λ w. refl; forks = λ w n l o. refl; mux = λ w n i. refl; merge = λ n i. refl; branch = λ w. refl; sink = λ w. refl }

params : (j : ℕ) → Others (is_param j)
params j = record { const = λ w n. refl; op1 = λ op. refl; op2 = λ op. refl; select = λ w. refl; fork1 = λ w. refl; forks = λ w n l o. refl; mux = λ w n i. refl; merge = λ n i. refl; branch = λ w. refl; sink = λ w. refl }

-- ---- the entry and the exit

pub one_entry : (g : Graph) (gs : Groups) → how_many is_entry (whole_draft g gs) ≡ 1
one_entry g gs =
    keeps.whole_keeps (λ d. how_many is_entry d ≡ 1) (λ k. is_entry k ≡ false) (λ n. Unit {0}) Free entries (other_unit is_entry 1) (λ p q w c d h. h) (same_units is_entry 1) (λ a. refl) (λ j. refl) (λ a m ps gs. refl) refl g gs (λ t. tt) (free g.blocks) free_few refl

exited_once : (r : Option Ty) (d : Draft) → how_many is_exit d ≡ 0 → how_many is_exit (exited r d) ≡ 1
exited_once None d h = this_unit is_exit 0 Exit d refl h
exited_once (Some t) d h = this_unit is_exit 0 Exit d refl h

pub one_exit : (g : Graph) (gs : Groups) → how_many is_exit (whole_draft g gs) ≡ 1
one_exit g gs =
    let Fits : Kind → Type 0 = λ k. is_exit k ≡ false in
    let Ins : ℕ → Type 0 = λ n. Unit {0} in
    let none : Draft → Type 0 = λ d. how_many is_exit d ≡ 0 in
    let e = keeps.entered_keeps none Fits Ins Free exits (other_unit is_exit 0) (λ p q w c d h. h) (same_units is_exit 0) (λ j. refl) g.scalars (started (length g.blocks + 1)) refl in
    let f = keeps.front_keeps none Fits Ins Free exits (other_unit is_exit 0) (λ p q w c d h. h) (same_units is_exit 0) (λ a m ps gs. refl) g gs e in
    let b = keeps.blocks_of_keep none Fits Ins Free exits (other_unit is_exit 0) (λ p q w c d h. h) (same_units is_exit 0) (λ a. refl) g gs (λ t. tt) (free g.blocks) f in
    let w = keeps.feeders_of_keep none Fits Ins Free exits (other_unit is_exit 0) (λ p q w c d h. h) (same_units is_exit 0) g gs (free g.blocks) free_few b in
    let ins = ins_of (edge_counts g.blocks) (join_of g) in
    let j = keeps.before_exit none Fits Ins Free exits (other_unit is_exit 0) (λ p q w c d h. h) (same_units is_exit 0) free_few ins (join_of g) tt g.result (with_feeders g gs) w in
    let h = head_laid ins (join_of g) (result_widths g.result) (ones (result_widths g.result)) 0 (with_feeders g gs) in
    keeps.rest_keeps (λ d. how_many is_exit d ≡ 1) Fits Ins Free exits (other_unit is_exit 1) (λ p q w c d h. h) (same_units is_exit 1) g gs (exited_once g.result (all_ended h.queues h) j)

-- ---- scalars

params_none : (j i : ℕ) (ss : List Scalar) (d : Draft) (n : ℕ) → j < i → i + length ss < 2 ^ 32 → how_many (is_param j) d ≡ n → how_many (is_param j) (params_laid i ss d) ≡ n
params_none j i [] d n lt few h = h
params_none j i (s ∷ ss) d n lt few h =
    params_none j (plus i 1) ss (with_unit (Param i) d) n (omega arith) (omega arith) (other_unit (is_param j) n (Param i) d (ne_eqb i j (λ e. absurd (omega (arith, e, lt)))) h)

params_once : (j i : ℕ) (ss : List Scalar) (d : Draft) → i ≤ j → j < i + length ss → i + length ss < 2 ^ 32 → how_many (is_param j) d ≡ 0 → how_many (is_param j) (params_laid i ss d) ≡ 1
params_once j i [] d le lt few h = absurd (omega arith)
params_once j i (s ∷ ss) d le lt few h =
    elim (cases_eq i j) [
      | inl e ↦ params_none j (plus i 1) ss (with_unit (Param i) d) 1 (omega (arith, e, few)) (omega arith) (this_unit (is_param j) 0 (Param i) d (eq-eqb i j e) h)
      | inr ne ↦ params_once j (plus i 1) ss (with_unit (Param i) d) (let q : i < j = not_last i j le ne in omega arith) (omega arith) (omega arith) (other_unit (is_param j) 0 (Param i) d (ne_eqb i j ne) h)
    ]
  where
    not_last : (i j : ℕ) → i ≤ j → i ≢ j → i < j
    not_last i j le ne = grind (arith, le, ne)

pub one_param : (g : Graph) (gs : Groups) → length g.scalars < 2 ^ 32 → (j : ℕ) → j < length g.scalars → how_many (is_param j) (whole_draft g gs) ≡ 1
one_param g gs few j lt =
    let Fits : Kind → Type 0 = λ k. is_param j k ≡ false in
    let Ins : ℕ → Type 0 = λ n. Unit {0} in
    let I : Draft → Type 0 = λ d. how_many (is_param j) d ≡ 1 in
    let e : I (entered g.scalars (started (length g.blocks + 1))) = params_once j 0 g.scalars (started (length g.blocks + 1)) (omega arith) (omega arith) (omega arith) refl in
    let f = keeps.front_keeps I Fits Ins Free (params j) (other_unit (is_param j) 1) (λ p q w c d h. h) (same_units (is_param j) 1) (λ a m ps gs. refl) g gs e in
    keeps.after_front I Fits Ins Free (params j) (other_unit (is_param j) 1) (λ p q w c d h. h) (same_units (is_param j) 1) (λ a. refl) refl g gs (λ t. tt) (free g.blocks) free_few f

-- ---- queues

queues : (a : ℕ) → Others (is_queue a)
queues a = record { const = λ w n. refl; op1 = λ op. refl; op2 = λ op. refl; select = λ w. refl; fork1 = λ w. refl; forks = λ w n l o. refl; mux = λ w n i. refl; merge = λ n i. refl; branch = λ w. refl; sink = λ w. refl }

abbrev At_most_one : ℕ → Draft → Type 0
At_most_one a d = how_many (is_queue a) d ≤ 1

-- a queue of another array
other_queue : (a b : ℕ) (ps : List Port) (gs : List (List ℕ)) (m n : ℕ) (d : Draft) → b ≢ a → how_many (is_queue a) d ≡ n → how_many (is_queue a) (queue_if b ps gs m d) ≡ n
other_queue a b ps [] m n d ne h = h
other_queue a b ps (g ∷ gs) m n d ne h = other_unit (is_queue a) n (Lsq b m ps (g ∷ gs) false) d (ne_eqb b a ne) h

own_queue : (a : ℕ) (ps : List Port) (gs : List (List ℕ)) (m : ℕ) (d : Draft) → how_many (is_queue a) d ≡ 0 → At_most_one a (queue_if a ps gs m d)
own_queue a ps [] m d h = omega (arith, h)
own_queue a ps (g ∷ gs) m d h = let e = this_unit (is_queue a) 0 (Lsq a m ps (g ∷ gs) false) d (eq-eqb a a refl) h in omega (arith, e)

queues_after : (a i : ℕ) (ks : List Block) (of : List Access) (xs : List Array) (d : Draft) (n : ℕ) → a < i → i + length xs < 2 ^ 32 → how_many (is_queue a) d ≡ n → how_many (is_queue a) (queues_laid ks of i xs d) ≡ n
queues_after a i ks of [] d n lt few h = h
queues_after a i ks of (x ∷ xs) d n lt few h =
    let ps = ports_of i ks of in let gs = groups_from i 0 of in let m = depth_from i 16 of in
    queues_after a (plus i 1) ks of xs (queue_if i ps gs m d) n (omega arith) (omega arith) (other_queue a i ps gs m n d (λ e. absurd (omega (arith, e, lt))) h)

queues_most : (a i : ℕ) (ks : List Block) (of : List Access) (xs : List Array) (d : Draft) → i ≤ a → i + length xs < 2 ^ 32 → how_many (is_queue a) d ≡ 0 → At_most_one a (queues_laid ks of i xs d)
queues_most a i ks of [] d le few h = omega (arith, h)
queues_most a i ks of (x ∷ xs) d le few h =
    let ps = ports_of i ks of in let gs = groups_from i 0 of in let m = depth_from i 16 of in
    let e = queue_if i ps gs m d in
    elim (cases_eq i a) [
      | inl same ↦ (let own : At_most_one a e = subst (λ b. At_most_one a (queue_if b ps gs m d)) (sym same) (own_queue a ps gs m d h) in
          let rest = queues_after a (plus i 1) ks of xs e (how_many (is_queue a) e) (omega (arith, same, few)) (omega arith) refl in
          subst (λ n. n ≤ 1) (sym rest) own)
      | inr ne ↦ queues_most a (plus i 1) ks of xs e (let q : i < a = grind (arith, le, ne) in omega arith) (omega arith) (other_queue a i ps gs m 0 d ne h)
    ]

most_other : (a : ℕ) (k : Kind) (d : Draft) → is_queue a k ≡ false → At_most_one a d → At_most_one a (with_unit k d)
most_other a k d f h = let e = other_unit (is_queue a) (how_many (is_queue a) d) k d f refl in omega (arith, e, h)

most_same : (a : ℕ) (d e : Draft) → e.units ≡ d.units → e.chans ≡ d.chans → At_most_one a d → At_most_one a e
most_same a d e u c h = subst (λ us. count_by (is_queue a) us ≤ 1) (sym u) h

pub one_queue : (g : Graph) (gs : Groups) → length g.arrays < 2 ^ 32 → (a : ℕ) → how_many (is_queue a) (whole_draft g gs) ≤ 1
one_queue g gs few a =
    let Fits : Kind → Type 0 = λ k. is_queue a k ≡ false in
    let Ins : ℕ → Type 0 = λ n. Unit {0} in
    let none : Draft → Type 0 = λ d. how_many (is_queue a) d ≡ 0 in
    let e = keeps.entered_keeps none Fits Ins Free (queues a) (other_unit (is_queue a) 0) (λ p q w c d h. h) (same_units (is_queue a) 0) (λ j. refl) g.scalars (started (length g.blocks + 1)) refl in
    let f = queues_most a 0 g.blocks gs.of g.arrays (entered g.scalars (started (length g.blocks + 1))) (omega arith) (omega arith) e in
    keeps.after_front (At_most_one a) Fits Ins Free (queues a) (most_other a) (λ p q w c d h. h) (most_same a) (λ b. refl) refl g gs (λ t. tt) (free g.blocks) free_few f

pub stand_once : UnitsStandOnce
stand_once g gs few many = record { one_entry = one_entry g gs; one_exit = one_exit g gs; one_param = one_param g gs few; one_queue = one_queue g gs many }
